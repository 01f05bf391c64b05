-- What may stand next: for a line out of its place, and for E. From the definitions of Questions.
use mathlib.Core.Path.{◌≡◌, refl, sym, ap, ◌∙◌}
use mathlib.Core.Bool.{true, false}
use mathlib.Core.Logic.{◌≢◌}
use mathlib.Core.List.{List, ◌∷◌}
use mathlib.Core.Option.{none, some}
use Prim.Native.Nat.{ℕ, ◌+◌, ◌≤◌}
use native.Mathlib.Numerals.{add-one}
use native.Mathlib.Omega.{arith}
use lib.ListN.{drop}
use Rattle.sheet.specs.declared.Plan.{Plan}
use Rattle.sheet.specs.Plan.{tables}
use Rattle.sheet.specs.Line.{Line, header, table, load, double, add, end, misspelled}
use Rattle.sheet.specs.Questions.{table_lines, after_header, after_load, after_end}
use Rattle.lines.specs.Coded.{coded}
use Rattle.survey.specs.Survey.State.{found, earlier, is_placed, TablesClosed, placed_in, differs_in}
use Rattle.survey.specs.declared.table.Tables as tables_of
use Rattle.survey.specs.declared.phase.Phase.{Phase}
use Rattle.survey.specs.declared.phase.Phase.TheVariants.{Tables, Steps, Ended}
use Rattle.survey.proofs.Taken.{earlier_none}

never : {A : Type 0} → false ≡ true → A
never e = let z : ◌≡◌ {A = ℕ} 0 1 = cc in absurd (omega arith)

-- ── out of its place ─────────────────────────────────────────────────────────────────────────

pub out_of_place : (p : Phase) (x : Line) (n : ℕ) (ls : List Line) → is_placed p (coded x) ≡ false → placed_in p n (x ∷ ls) ≡ some n
unfolding after_header after_load
out_of_place Tables (header h) n ls e = refl
out_of_place Tables (table t) n ls e = never (sym e)
out_of_place Tables (load t) n ls e = never (sym e)
out_of_place Tables double n ls e = refl
out_of_place Tables (add t) n ls e = refl
out_of_place Tables end n ls e = never (sym e)
out_of_place Tables misspelled n ls e = refl
out_of_place Steps (header h) n ls e = refl
out_of_place Steps (table t) n ls e = refl
out_of_place Steps (load t) n ls e = refl
out_of_place Steps double n ls e = never (sym e)
out_of_place Steps (add t) n ls e = never (sym e)
out_of_place Steps end n ls e = never (sym e)
out_of_place Steps misspelled n ls e = refl
out_of_place Ended x n ls e = refl

-- ── E ───────────────────────────────────────────────────────────────────────────────────────

pub end_placed : (p : Phase) (n : ℕ) (ls : List Line) → p ≢ Ended → after_end (n + 1) ls ≡ placed_in p n (end ∷ ls)
unfolding after_header after_load
end_placed Tables n ls h = rw add-one
end_placed Steps n ls h = rw add-one
end_placed Ended n ls h = absurd (h refl)

module _ (plan : Plan) (ts : tables_of.Tables) (n : ℕ) (r : tables_of.Tables) where
  pub end_few : (p : Phase) → p ≢ Ended → (p ≡ Tables → TablesClosed plan ts n r) → (p ≡ Steps → r ≡ ts) → r.count ≤ ts.count + 1
  end_few Tables h c e = omega (arith, (c refl).count)
  end_few Steps h c e = omega (arith, ap (λ (t : tables_of.Tables). t.count) (e refl))
  end_few Ended h c e = absurd (h refl)

  pub end_tables : (p : Phase) → p ≢ Ended → (p ≡ Tables → TablesClosed plan ts n r) → (p ≡ Steps → r ≡ ts) → (ls : List Line)
      → earlier (found r.fault) none ≡ earlier (found ts.fault) (differs_in p n (drop ts.count (tables plan)) (end ∷ ls))
  unfolding table_lines
  end_tables Tables h c e ls = earlier_none (found r.fault) ∙ (c refl).rest
  end_tables Steps h c e ls = ap (λ (t : tables_of.Tables). earlier (found t.fault) none) (e refl)
  end_tables Ended h c e ls = absurd (h refl)
