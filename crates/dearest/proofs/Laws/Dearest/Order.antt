-- What the dearest scalar costs: no order of its size has more additions in a sheet of plan I with windows 1 and 1, from rows of either kind and
-- with any signs, than the order of this scalar twice. From the cost of a written sheet.
use Rattle.std.specs.Prelude.{◌≡◌, refl, ℕ, ◌+◌, ◌*◌, ◌-◌, ◌^◌, ◌≤◌, ◌<◌, ℤ, pos, nat_abs}
use Rattle.std.proofs.Common.{ap, arith}
use Rattle.digits.specs.Row.{weight}
use Rattle.forms.proofs.Laws.Promise.{row_size}
use Rattle.forms.specs.Row.{row}
use Rattle.sheet.specs.declared.Plan.TheVariants.{I}
use Rattle.written.proofs.Laws.Promise.{sheet_cost}
use Rattle.written.specs.Written.{additions_of}
use Rattle.written.specs.Written.Columns.{paired_weight}
use Rattle.writer.specs.Rows.{Rows, Up, columns_by}
use Rattle.writer.proofs.Laws.Rows.Made.{columns_make, columns_cost}
use Rattle.dearest.specs.Dearest.{naf_weight, dearest, Heaviest}
use Rattle.dearest.proofs.Laws.Dearest.Tried.{dearest_meets}

-- a number with a sign has as many digits that are not 0 as its size
pub weight_of : (c : ℤ) → weight (row 1 c) ≡ naf_weight (nat_abs c)
weight_of c = (row_size 1 c (omega arith)).1

-- the additions of the sheet: one for each digit that is not 0 but the first; its table has none
sheet_additions_lem : (rows : Rows) (k l : ℤ) → additions_of (I 1 1) (columns_by rows 1 1 k l) k l ≡ naf_weight (nat_abs k) + naf_weight (nat_abs l) - 1
sheet_additions_lem rows k l =
    omega (
      arith,
      columns_cost 1 1 k l refl rows,
      sheet_cost (I 1 1) (columns_by Up 1 1 k l) k l (columns_make 1 1 k l refl Up),
      paired_weight (row 1 k) (row 1 l),
      weight_of k,
      weight_of l,
    )

module _ {bits c w : ℕ} (h : Heaviest bits c w) where
  -- its order with itself, with any signs
  pub additions_twice : (rows : Rows) (k l : ℤ) → nat_abs k ≡ c → nat_abs l ≡ c → additions_of (I 1 1) (columns_by rows 1 1 k l) k l ≡ 2 * w - 1
  additions_twice rows k l e f = omega (arith, sheet_additions_lem rows k l, ap naf_weight e, ap naf_weight f, h.has)

  -- any order of the size
  pub additions_most : (rows : Rows) (k l : ℤ) → nat_abs k < 2 ^ bits → nat_abs l < 2 ^ bits → additions_of (I 1 1) (columns_by rows 1 1 k l) k l ≤ 2 * w - 1
  additions_most rows k l g f = omega (arith, sheet_additions_lem rows k l, h.none_more (nat_abs k) g, h.none_more (nat_abs l) f)

pub order_most : (rows : Rows) (bits : ℕ) (k l : ℤ) → nat_abs k < 2 ^ bits → nat_abs l < 2 ^ bits
    → additions_of (I 1 1) (columns_by rows 1 1 k l) k l ≤ additions_of (I 1 1) (columns_by rows 1 1 (pos (dearest bits)) (pos (dearest bits))) (pos (dearest bits)) (pos (dearest bits))
order_most rows bits k l g f =
    omega (arith, additions_most (dearest_meets bits) rows k l g f, additions_twice (dearest_meets bits) rows (pos (dearest bits)) (pos (dearest bits)) refl refl)
