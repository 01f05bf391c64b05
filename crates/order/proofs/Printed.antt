-- What the order call leaves in its buffer: a refusal's line, the sheet or the refusal of the limit, and the whole by its parts.
use mathlib.Core.Path.{◌≡◌, refl, sym, ap, ap₂, subst, ◌∙◌}
use mathlib.Core.Bool.{Bool, true, false, cond}
use mathlib.Core.List.{List, [], ◌∷◌, ◌++◌}
use mathlib.Core.Option.{Option, none}
use Prim.Native.Nat.{ℕ, ◌+◌, ◌≤◌, ◌<◌}
use native.Mathlib.Omega.{arith}
use borrow.Author.Tests.{le-leb, lt-leb, lt-ltb}
use lib.IntN.{ℤ}
use lib.ListN.{length, get_or, drop, set, length-set}
use Rattle.digits.specs.Limits.{card}
use Rattle.digits.specs.Scalar.{signed_scalar, sized}
use Rattle.sheet.specs.Numeral.{numeral}
use Rattle.sheet.specs.Spelling.Field.{whole_of}
use Rattle.sheet.specs.Plan.{is_limit}
use Rattle.sheet.specs.Spelling.{comma, cut, line_feed}
use Rattle.written.specs.Written.{written}
use Rattle.writer.specs.Call as Call
use Rattle.writer.specs.Call.{wrote, left, number}
use Rattle.writer.specs.declared.answer.Sheet.{Sheet}
use Rattle.std.specs.Prelude.{Result, Ok, Err}
use Rattle.digits.specs.declared.missed.Missed.{Missed}
use Rattle.digits.specs.declared.missed.Missed.TheVariants.{BadLimit}
use Rattle.sheet.specs.Numeral.Figures.{numeral_low}
use Rattle.chooser.specs.Call.{cheapest_answer, cheapest_buffer}
use Rattle.chooser.specs.Cheapest.{cheapest_plan, cheapest}
use Rattle.order.proofs.Orders.{Ordered}
use Rattle.order.proofs.Laws.Order.Demand.{order_kept}
use Rattle.order.specs.Order.{Order, line_of, read_fields, read_order, refusal, served, answered, printed, Prints, order_length, order_buffer, OrderPromised}

numeral_one : (n : ℕ) → n < 10 → numeral 10 n ≡ (48 + n) ∷ []
numeral_one n h = numeral_low 10 (omega arith) n h ∙ rw (lt-ltb n 10 h)

pub below_sets : (s : List ℕ) (i j x y n : ℕ) → n < length s → n < length (set (set s i x) j y)
below_sets s i j x y n h = rw length-set (rw length-set h)

-- the four bytes of a refusal's line, in front of what was there
pub refused : (n : ℕ) (buffer : List ℕ) → n < 10 → Prints (refusal n) buffer 4 ((78 ∷ 44 ∷ (48 + n) ∷ 10 ∷ []) ++ drop 4 buffer)
refused n buffer h =
    subst (λ (t : List ℕ). Prints (78 ∷ 44 ∷ t ++ line_feed ∷ []) buffer 4 ((78 ∷ 44 ∷ (48 + n) ∷ 10 ∷ []) ++ drop 4 buffer)) (sym (numeral_one n h))
    (record { long = refl; out_is = refl })

-- the cheapest call, asked for scalars x and y with a whole buffer, answers a and leaves out
pub record Answers (k : List ℕ) (k_sign : ℕ) (l : List ℕ) (l_sign : ℕ) (buffer : List ℕ) (slots : ℕ) (x y : ℤ) (a : Result Sheet Missed) (out : List ℕ) : Type 0 where
  pub k_size : sized card k ≡ true
  pub l_size : sized card l ≡ true
  pub room : 16384 ≤ length buffer
  pub k_is : signed_scalar k k_sign ≡ x
  pub l_is : signed_scalar l l_sign ≡ y
  pub answer : a ≡ cheapest_answer card k k_sign l l_sign slots (length buffer)
  pub leaves : out ≡ cheapest_buffer card k k_sign l l_sign slots buffer

module _ {k l buffer out : List ℕ} {k_sign l_sign slots : ℕ} {x y : ℤ} {a : Result Sheet Missed} (c : Answers k k_sign l l_sign buffer slots x y a out) where
  asked : (b : Bool) → is_limit slots ≡ b → a ≡ cond b (wrote (cheapest_plan (signed_scalar k k_sign) (signed_scalar l l_sign) slots) (signed_scalar k k_sign) (signed_scalar l l_sign)) (Err BadLimit)
  unfolding cheapest_answer
  asked b d = c.answer ∙ rw (c.k_size, c.l_size, le-leb 16384 (length buffer) c.room, d)

  left_as : {b : Result Sheet Missed} → a ≡ b → out ≡ left b (cheapest (signed_scalar k k_sign) (signed_scalar l l_sign) slots) buffer
  unfolding cheapest_buffer
  left_as h = c.leaves ∙ ap (λ (b : Result Sheet Missed). left b (cheapest (signed_scalar k k_sign) (signed_scalar l l_sign) slots) buffer) (sym c.answer ∙ h)

  named : {r : ℕ} {t : List ℕ} → Prints (served (signed_scalar k k_sign) (signed_scalar l l_sign) slots) buffer r t → Prints (served x y slots) buffer r t
  named {r} {t} p =
      subst (λ (i : ℤ). Prints (served i y slots) buffer r t) c.k_is (subst (λ (j : ℤ). Prints (served (signed_scalar k k_sign) j slots) buffer r t) c.l_is p)

  pub sheet_printed : {s : Sheet} → a ≡ Ok s → Prints (served x y slots) buffer s.length out
  unfolding cheapest
  sheet_printed {s} h = named (go (is_limit slots) refl)
    where
      go : (b : Bool) → is_limit slots ≡ b → Prints (cond b (written (cheapest_plan (signed_scalar k k_sign) (signed_scalar l l_sign) slots) (signed_scalar k k_sign) (signed_scalar l l_sign)) (refusal 4)) buffer s.length out
      go true d = record { long = ap Call.bytes_written (sym h ∙ asked true d); out_is = left_as h }
      go false d = absurd (omega (arith, ap number (sym h ∙ asked false d)))

  pub limit_printed : {r : ℕ} {t : List ℕ} → a ≡ Err BadLimit → Prints (refusal 4) out r t → Prints (served x y slots) buffer r t
  limit_printed {r} {t} h p = named (go (is_limit slots) refl)
    where
      go : (b : Bool) → is_limit slots ≡ b → Prints (cond b (cheapest (signed_scalar k k_sign) (signed_scalar l l_sign) slots) (refusal 4)) buffer r t
      go true d = absurd (omega (arith, ap number (sym h ∙ asked true d)))
      go false d = subst (λ (s : List ℕ). Prints (refusal 4) s r t) (left_as h) p

  -- no other question can be missed
  pub no_other : (n : ℕ) → number a ≡ n → (n ≡ 0 → ⊥) → (n ≡ 4 → ⊥) → ⊥
  no_other n h i j = go (is_limit slots) refl
    where
      go : (b : Bool) → is_limit slots ≡ b → ⊥
      go true d = i (sym h ∙ ap number (asked true d))
      go false d = j (sym h ∙ ap number (asked false d))

-- the contract of the order call, where it answers r and leaves t
abbrev pub Returned : List ℕ → List ℕ → ℕ → List ℕ → Type 0
Returned s buffer r t =
    (r ≡ order_length card s (length buffer)) × ((t ≡ order_buffer card s buffer) × OrderPromised s (length buffer) r t)

module _ (s buffer : List ℕ) where
  -- the promise goes with the answer and the buffer
  kept : {r : ℕ} {t : List ℕ} → r ≡ order_length card s (length buffer) → t ≡ order_buffer card s buffer → Returned s buffer r t
  kept e f = rw (e, f) (refl, (refl, order_kept s buffer))

  pub short_buffer : length buffer < 16384 → Returned s buffer 0 buffer
  unfolding order_length order_buffer
  short_buffer h = kept (rw (lt-leb 16384 (length buffer) h)) (rw (lt-leb 16384 (length buffer) h))

  -- the text of the line is that of its order
  read : (line : List ℕ) → line ≡ line_of s → (o : Option Order) → read_fields card (cut comma line) ≡ o → printed card s ≡ answered o
  unfolding printed read_order
  read line is o e = ap (λ (x : List ℕ). answered (read_fields card (cut comma x))) (sym is) ∙ ap answered e

  module _ (room : 16384 ≤ length buffer) {r : ℕ} {t : List ℕ} where
    whole : (o : List ℕ) → printed card s ≡ o → Prints o buffer r t → Returned s buffer r t
    unfolding order_length order_buffer
    whole o e p = kept (rw (le-leb 16384 (length buffer) room, e) p.long) (rw (le-leb 16384 (length buffer) room, e) p.out_is)

    module _ (line : List ℕ) (is : line ≡ line_of s) where
      pub order_printed : (f g : List ℕ) (n : ℕ) → f ≡ get_or (cut comma line) 0 [] → g ≡ get_or (cut comma line) 1 [] → Ordered (cut comma line) n
          → Prints (served (whole_of 16 f) (whole_of 16 g) n) buffer r t → Returned s buffer r t
      order_printed f g n i j o p =
          whole (served (whole_of 16 f) (whole_of 16 g) n)
          (read line is _ o.read ∙ ap₂ (λ (x y : List ℕ). served (whole_of 16 x) (whole_of 16 y) n) (sym i) (sym j)) p

      pub misspelled_printed : read_fields card (cut comma line) ≡ none → Prints (refusal 6) buffer r t → Returned s buffer r t
      misspelled_printed e p = whole (refusal 6) (read line is none e) p
