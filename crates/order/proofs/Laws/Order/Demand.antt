-- What is printed keeps its promise: a refusal is told from a sheet, and the sheet of an order is the one that demand 3 asks for. From the
-- promise of the cheapest sheet.
use Rattle.std.specs.Prelude.{◌≡◌, Bool, true, false, cond, List, [], ℕ, ◌^◌, ◌<◌, eqb, ℤ, nat_abs, length, get_or, drop}
use Rattle.std.proofs.Math.Path.{refl}
use Rattle.std.proofs.Common.{sym, ap, subst, ◌∙◌, arith}
use Rattle.std.proofs.Math.Option.{Option, none, some}
use Rattle.std.proofs.Math.Seq.{take-append_seam}
use Rattle.digits.specs.Limits.{card}
use Rattle.sheet.specs.Answer.{accepted, refused, answer, Accepted}
use Rattle.sheet.specs.Numeral.{numeral_in, numeral}
use Rattle.sheet.specs.Plan.{is_limit}
use Rattle.sheet.specs.Samples.{computed}
use Rattle.sheet.proofs.Laws.Spelling.Whole.{whole_below}
use Rattle.sheet.specs.Spelling.{comma, cut, read_scalar, read_decimal, ◌>>=◌}
use Rattle.chooser.specs.Call.{Cheapest}
use Rattle.chooser.proofs.Laws.Call.Demand.{cheapest_sheet}
use Rattle.chooser.specs.Cheapest.{cheapest_plan, cheapest}
use Rattle.written.specs.Enough.{card_enough}
use Rattle.written.specs.Written.{written_additions}
use Rattle.order.specs.Order.{Order, line_of, read_fields, read_order, refusal, answered, printed, Printed, OrderPromised, order_length, order_buffer}

-- ── an order's scalars are the card's ───────────────────────────────────────────────────────

abbrev Below : Option ℤ → Type 0
Below a = (z : ℤ) → a ≡ some z → nat_abs z < 2 ^ 528

ordered_below : (a b : Option ℤ) (c : Option ℕ) (three : Bool) (o : Order) → Below a → Below b
    → (a >>= λ k. b >>= λ l. c >>= λ slots. cond three (some (record { k = k; l = l; slots = slots })) none) ≡ some o
    → (nat_abs o.k < 2 ^ 528) × (nat_abs o.l < 2 ^ 528)
ordered_below (some k) (some l) (some slots) true o p q e =
    let same : record { k = k; l = l; slots = slots } ≡ o = cc in
    (subst (λ (x : Order). nat_abs x.k < 2 ^ 528) same (p k refl), subst (λ (x : Order). nat_abs x.l < 2 ^ 528) same (q l refl))
ordered_below (some k) (some l) (some slots) false o p q e = let z : ◌≡◌ {A = ℕ} 0 1 = cc in absurd (omega arith)
ordered_below (some k) (some l) none three o p q e = let z : ◌≡◌ {A = ℕ} 0 1 = cc in absurd (omega arith)
ordered_below (some k) none c three o p q e = let z : ◌≡◌ {A = ℕ} 0 1 = cc in absurd (omega arith)
ordered_below none b c three o p q e = let z : ◌≡◌ {A = ℕ} 0 1 = cc in absurd (omega arith)

order_below : (s : List ℕ) (o : Order) → read_order card s ≡ some o → (nat_abs o.k < 2 ^ 528) × (nat_abs o.l < 2 ^ 528)
unfolding read_order read_fields
order_below s o e =
    let fs = cut comma (line_of s) in
    ordered_below (read_scalar card (get_or fs 0 [])) (read_scalar card (get_or fs 1 [])) (read_decimal (get_or fs 2 [])) (eqb (length fs) 3) o
    (whole_below 16 132 (omega arith) (omega arith) (get_or fs 0 [])) (whole_below 16 132 (omega arith) (omega arith) (get_or fs 1 [])) e

-- ── a refusal is no sheet, and no other refusal ─────────────────────────────────────────────

refusal_read : (answer card (refusal 4) ≡ refused 6 1) × (answer card (refusal 6) ≡ refused 6 1)
unfolding computed numeral_in numeral
refusal_read = (refl, refl)

other_refusal : refusal 6 ≡ refusal 4 → ⊥
unfolding numeral_in numeral
other_refusal e = omega (arith, ap (λ (t : List ℕ). get_or t 2 0) e)

no_sheet : (text : List ℕ) (k l : ℤ) → answer card text ≡ refused 6 1 → Accepted card text k l → ⊥
no_sheet text k l e a = let f : refused 6 1 ≡ accepted = sym e ∙ a.met in let z : ◌≡◌ {A = ℕ} 0 1 = cc in omega arith

-- ── what is printed ─────────────────────────────────────────────────────────────────────────

module _ (s : List ℕ) where
  none_printed : read_order card s ≡ none → Printed s (refusal 6)
  none_printed e =
      record {
        misspelled = (λ f. e, λ f. refl);
        beyond = (λ f. absurd (other_refusal f), λ (o, f, g). let z : ◌≡◌ {A = ℕ} 0 1 = cc in absurd (omega arith));
        sheet = λ o f g. let z : ◌≡◌ {A = ℕ} 0 1 = cc in absurd (omega arith);
      }

  module _ (o : Order) (e : read_order card s ≡ some o) where
    same : (p : Order) → read_order card s ≡ some p → o ≡ p
    same p f = cc

    limit_printed : is_limit o.slots ≡ false → Printed s (refusal 4)
    limit_printed h =
        record {
          misspelled = (λ f. absurd (other_refusal (sym f)), λ f. let z : ◌≡◌ {A = ℕ} 0 1 = cc in absurd (omega arith));
          beyond = (λ f. (o, e, h), λ f. refl);
          sheet = λ p f g. let z : true ≡ false = sym g ∙ ap (λ (x : Order). is_limit x.slots) (sym (same p f)) ∙ h in let y : ◌≡◌ {A = ℕ} 0 1 = cc in absurd (omega arith);
        }

    sheet_printed : is_limit o.slots ≡ true → Printed s (cheapest o.k o.l o.slots)
    sheet_printed h =
        record {
          misspelled = (
            λ f. absurd (no_sheet (refusal 6) o.k o.l refusal_read.1 (subst (λ (t : List ℕ). Accepted card t o.k o.l) f made.accepted)),
            λ f. let z : ◌≡◌ {A = ℕ} 0 1 = cc in absurd (omega arith),
          );
          beyond = (
            λ f. absurd (no_sheet (refusal 4) o.k o.l refusal_read.0 (subst (λ (t : List ℕ). Accepted card t o.k o.l) f made.accepted)),
            λ (p, f, g). let z : true ≡ false = sym h ∙ ap (λ (x : Order). is_limit x.slots) (same p f) ∙ g in let y : ◌≡◌ {A = ℕ} 0 1 = cc in absurd (omega arith),
          );
          sheet = λ p f g. subst (λ (x : Order). (a : ℕ) × Cheapest card (cheapest o.k o.l o.slots) x.k x.l x.slots a) (same p f) (_, made);
        }
      where
        made : Cheapest card (cheapest o.k o.l o.slots) o.k o.l o.slots (written_additions (cheapest_plan o.k o.l o.slots) o.k o.l)
        made = let (k, l) = order_below s o e in cheapest_sheet card card_enough o.k o.l o.slots k l

    order_printed : (b : Bool) → is_limit o.slots ≡ b → Printed s (cond b (cheapest o.k o.l o.slots) (refusal 4))
    order_printed true h = sheet_printed h
    order_printed false h = limit_printed h

  pub printed_kept : Printed s (printed card s)
  unfolding printed
  printed_kept = go (read_order card s) refl
    where
      go : (o : Option Order) → read_order card s ≡ o → Printed s (answered o)
      go none e = none_printed e
      go (some o) e = order_printed o e (is_limit o.slots) refl

  pub order_kept : (buffer : List ℕ) → OrderPromised s (length buffer) (order_length card s (length buffer)) (order_buffer card s buffer)
  unfolding order_length order_buffer
  order_kept buffer h =
      rw (h, take-append_seam (printed card s) (drop (length (printed card s)) buffer)) printed_kept
