-- One order more is looked at: what is put behind the lines so far, and what stands at the end.
use mathlib.Core.Path.{◌≡◌, refl, sym, ap, ap₂, subst, ◌∙◌}
use mathlib.Core.Bool.{true, false, cond}
use mathlib.Core.List.{List, [], ◌∷◌, ◌++◌}
use Prim.Native.Nat.{ℕ, ◌+◌, ◌*◌, ◌/◌, ◌%◌, ◌≤◌, ◌<◌}
use native.Mathlib.Omega.{arith}
use borrow.Author.Tests.{le-leb, lt-leb}
use lib.IntN.{pos}
use lib.ListN.{length, take, drop, length-append, length-drop}
use lib.Seq.{paste, paste-zero, take_at, drop-append-add, take_all, drop-drop}
use Rattle.digits.specs.Scalar.{little, scalar, signed_scalar}
use Rattle.sheet.specs.contracts.PlanPartialEq.TheImpl as PlanEq
use Rattle.sheet.specs.declared.Plan.{Plan}
use Rattle.sheet.specs.declared.Plan.TheVariants.{J, I}
use Rattle.chooser.specs.Cheapest.{cheapest_plan}
use Rattle.order.specs.Order.{Prints}
use Rattle.changes.specs.Changed.{old_plan, orders, old_of, new_of, same_plan, line_with, line_of, lines_of, changed_orders, changes_length, changes_buffer}
use Rattle.changes.specs.Body.{order_at, line_if}
use Rattle.changes.proofs.Orders.{lines_next, lines_none, lines_all}

-- ── one order ───────────────────────────────────────────────────────────────────────────────

-- a scalar of one byte
scalar_one : (x : ℕ) → scalar (x ∷ []) ≡ x
unfolding scalar little
scalar_one x = omega arith

-- plans are compared by their derived equality
pub eq_same : (p q : Plan) → PlanEq.eq-value.it p q ≡ same_plan p q
eq_same J J = refl
eq_same J (I n1 n2) = refl
eq_same (I m1 m2) J = refl
eq_same (I m1 m2) (I n1 n2) = refl

-- the plans of the n-th order, from its bytes
module _ (n : ℕ) where
  pub old_is : {p : Plan} → p ≡ old_plan (signed_scalar (n / 64 ∷ []) 0) (signed_scalar (n / 4 % 16 ∷ []) 0) (n % 4) → p ≡ old_of (order_at n)
  unfolding signed_scalar
  old_is e = e ∙ ap₂ (λ (k l : ℕ). old_plan (pos k) (pos l) (n % 4)) (scalar_one (n / 64)) (scalar_one (n / 4 % 16))

  pub new_is : {p : Plan} → p ≡ cheapest_plan (pos (scalar (n / 64 ∷ []))) (pos (scalar (n / 4 % 16 ∷ []))) (n % 4) → p ≡ new_of (order_at n)
  new_is e = e ∙ ap₂ (λ (k l : ℕ). cheapest_plan (pos k) (pos l) (n % 4)) (scalar_one (n / 64)) (scalar_one (n / 4 % 16))

  module _ (at : ℕ) (out : List ℕ) {p q : Plan} (old : p ≡ old_of (order_at n)) (new : q ≡ new_of (order_at n)) where
    -- a line is put at a place
    abbrev pub Laid : ℕ → List ℕ → List ℕ → Type 0
    Laid r after line = (r ≡ at + length line) × ((r ≤ at + 18) × (after ≡ paste out at line (length line)))

    pub nothing_put : same_plan p q ≡ true → Laid at out (line_if (order_at n))
    nothing_put s =
        let e : line_if (order_at n) ≡ [] = ap (λ t. cond t [] (line_of (order_at n))) (sym (ap₂ same_plan old new) ∙ s) in
        subst (Laid at out) (sym e) (omega arith, (omega arith, paste-zero out at []))

    pub line_put : same_plan p q ≡ false → (line after : List ℕ) → line ≡ line_with (order_at n) p q → length line ≡ 18 → after ≡ paste out at line 18
        → Laid (at + 18) after (line_if (order_at n))
    line_put s line after w h f =
        let e : line_if (order_at n) ≡ line =
        ap (λ t. cond t [] (line_of (order_at n))) (sym (ap₂ same_plan old new) ∙ s) ∙ sym (w ∙ ap₂ (line_with (order_at n)) old new) in
        subst (Laid (at + 18) after) (sym e) (omega arith, (omega arith, f ∙ ap (paste out at line) (sym h)))

-- ── all orders ──────────────────────────────────────────────────────────────────────────────

-- what is put right behind a text is printed with it
print_more : (text line buffer out : List ℕ) (at : ℕ) → Prints text buffer at out
    → Prints (text ++ line) buffer (at + length line) (paste out at line (length line))
print_more text line buffer out at p =
    record {
      long = ap (λ (n : ℕ). n + length line) p.long ∙ sym (length-append text line);
      out_is =
          ap₂ (λ (n : ℕ) (s : List ℕ). take n s ++ take (length line) line ++ drop (n + length line) s) p.long p.out_is
          ∙ ap₂ (λ (s t : List ℕ). s ++ t)
          (ap₂ (λ (s t : List ℕ). s ++ t) (take_at text (drop (length text) buffer) (length text) refl) (take_all (length line) line (omega arith)))
          (drop-append-add text (drop (length text) buffer) (length line) ∙ drop-drop (length line) (length text) buffer ∙ ap (λ (n : ℕ). drop n buffer) (sym (length-append text line)));
    }

module _ (buffer : List ℕ) where
  -- the lines of the first n orders stand at the front
  pub record Standing (n at : ℕ) (out : List ℕ) : Type 0 where
    pub counted : n ≤ 1024
    pub short : at ≤ 18 * n
    pub printed : Prints (lines_of (take n orders)) buffer at out

  pub standing_none : Standing 0 0 buffer
  standing_none =
      record {
        counted = omega arith;
        short = omega arith;
        printed = subst (λ (s : List ℕ). Prints s buffer 0 buffer) (sym lines_none) (record { long = refl; out_is = refl });
      }

  pub standing_next : {n at r : ℕ} {out after : List ℕ} → Standing n at out → n < 1024
      → (r ≡ at + length (line_if (order_at n))) × ((r ≤ at + 18) × (after ≡ paste out at (line_if (order_at n)) (length (line_if (order_at n)))))
      → Standing (n + 1) r after
  standing_next {n} {at} {r} {out} {after} s h (e, (f, g)) =
      record {
        counted = omega arith;
        short = omega (arith, s.short);
        printed =
            subst (λ (t : List ℕ). Prints t buffer r after) (sym (lines_next n h))
            (subst (λ (t : List ℕ). Prints (lines_of (take n orders) ++ line_if (order_at n)) buffer r t) (sym g)
            (subst (λ (i : ℕ). Prints (lines_of (take n orders) ++ line_if (order_at n)) buffer i (paste out at (line_if (order_at n)) (length (line_if (order_at n))))) (sym e)
            (print_more (lines_of (take n orders)) (line_if (order_at n)) buffer out at s.printed)));
      }

  -- the buffer keeps its length
  pub standing_length : {n at : ℕ} {out : List ℕ} → Standing n at out → 18432 ≤ length buffer → length out ≡ length buffer
  standing_length {n} {at} {out} s h =
      let t = lines_of (take n orders) in
      ap length s.printed.out_is
      ∙ omega (arith, length-append t (drop (length t) buffer), length-drop (length t) buffer, s.printed.long, s.short, s.counted)

  -- what the call answers and leaves
  abbrev pub Told : ℕ → List ℕ → Type 0
  Told r out = (r ≡ changes_length (length buffer)) × (out ≡ changes_buffer buffer)

  pub too_short : length buffer < 18432 → Told 0 buffer
  unfolding changes_length changes_buffer
  too_short h = let e = lt-leb 18432 (length buffer) h in (sym (rw e), sym (rw e))

  pub all_told : {n at : ℕ} {out : List ℕ} → Standing n at out → n ≡ 1024 → 18432 ≤ length buffer → Told at out
  unfolding changes_length changes_buffer
  all_told {n} {at} {out} s e h =
      let p : Prints changed_orders buffer at out = subst (λ (t : List ℕ). Prints t buffer at out) (lines_all n e) s.printed in
      let t = le-leb 18432 (length buffer) h in
      (p.long ∙ sym (rw t), p.out_is ∙ sym (rw t))
