-- What the calls for a sheet of plan I answer with windows 1 and 1: with the bytes that the call for the dearest scalar leaves, and with any scalars of
-- the size. From what such sheets cost.
use Rattle.std.specs.Prelude.{◌≡◌, Bool, true, false, ◌&&◌, cond, List, ℕ, ◌*◌, ◌-◌, ◌^◌, ◌≤◌, ◌<◌, Err}
use Rattle.std.proofs.Common.{arith}
use borrow.Author.Tests.{le-leb}
use Rattle.std.proofs.Math.IntN.{ℤ}
use Rattle.digits.specs.Limits.{card}
use Rattle.digits.specs.Scalar.{scalar, signed_scalar, sized}
use Rattle.digits.proofs.Laws.Scalar.Signed.{scalar_size}
use Rattle.digits.specs.Scalar.Sized.{bytes_sized}
use Rattle.digits.specs.declared.limits.Limits.{Limits}
use Rattle.sheet.specs.declared.Plan.TheVariants.{I}
use Rattle.written.specs.Written.{digits}
use Rattle.writer.specs.Call.{additions, roomy, wrote_columns, i_answer}
use Rattle.writer.specs.Rows.{Up, columns_by}
use Rattle.digits.specs.declared.missed.Missed.TheVariants.{BadScalar, NoRoom}
use Rattle.dearest.specs.Call.{Fills}
use Rattle.dearest.proofs.Laws.Dearest.Order.{additions_twice, additions_most}

-- with any scalars of the size, whatever is asked
module _ {size w : ℕ} {s : List ℕ} (h : Fills size w s) where
  pub ordered_most : (limits : Limits) (k : List ℕ) (k_sign : ℕ) (l : List ℕ) (l_sign room : ℕ) → scalar k < 2 ^ size → scalar l < 2 ^ size
      → additions (i_answer limits k k_sign l l_sign 1 1 room) ≤ 2 * w - 1
  unfolding i_answer digits
  ordered_most limits k k_sign l l_sign room f g = go (sized limits k && sized limits l) (roomy limits room)
    where
      x : ℤ
      x = signed_scalar k k_sign

      y : ℤ
      y = signed_scalar l l_sign

      go : (a b : Bool) → additions (cond a (cond b (wrote_columns (I 1 1) (columns_by Up 1 1 x y) x y) (Err NoRoom)) (Err BadScalar)) ≤ 2 * w - 1
      go true true = additions_most h.heaviest Up x y (rw (scalar_size k k_sign) f) (rw (scalar_size l l_sign) g)
      go true false = omega arith
      go false b = omega arith

  -- with this one twice, where there is room
  pub ordered_twice : (k_sign l_sign room : ℕ) → card.sheet ≤ room → additions (i_answer card s k_sign s l_sign 1 1 room) ≡ 2 * w - 1
  unfolding i_answer digits
  ordered_twice k_sign l_sign room g =
      rw (bytes_sized card s (omega (arith, h.long), omega (arith, h.long)), le-leb card.sheet room g)
      (additions_twice h.heaviest Up (signed_scalar s k_sign) (signed_scalar s l_sign) (scalar_size s k_sign) (scalar_size s l_sign))
