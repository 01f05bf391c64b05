-- An order has at most 273 bytes: the program may stop reading behind them.
use Rattle.std.specs.Prelude.{◌≡◌, refl, ◌⊎◌, Bool, true, false, cond, List, [], ◌∷◌, ℕ, suc, ◌+◌, ◌≤◌, ◌<◌, eqb, ℤ, length, get_or}
use Rattle.std.proofs.Common.{sym, ap, ◌∙◌, inl, inr, arith, ne_eqb}
use Rattle.std.proofs.Math.Option.{Option, none, some}
use Rattle.std.proofs.Math.Decide.{dec_lt}
use Rattle.digits.specs.Limits.{card}
use Rattle.sheet.specs.Spelling.Cut.{cut_some}
use Rattle.sheet.specs.Numeral.{number}
use Rattle.sheet.proofs.Laws.Spelling.Whole.{number_long, whole_long}
use Rattle.sheet.specs.Spelling.{line_feed, comma, push, cut, read_scalar, read_decimal, ◌>>=◌}
use Rattle.order.specs.Order.{Order, only_line, line_in, line_of, read_fields, read_order, refusal, answered, printed}

-- the lengths of parts, with one byte between two of them and one more
total : List (List ℕ) → ℕ
total [] = 0
total (f ∷ fs) = suc (length f + total fs)

parts_total : (b : ℕ) (s : List ℕ) → total (cut b s) ≡ suc (length s)
unfolding total cut
parts_total b [] = refl
parts_total b (c ∷ s) = go (eqb c b) (cut b s) (cut_some b s) (parts_total b s)
  where
    pushed : (f : List ℕ) (fs : List (List ℕ)) → total (push c (f ∷ fs)) ≡ suc (total (f ∷ fs))
    pushed f fs = omega arith

    go : (t : Bool) (ps : List (List ℕ)) → (f : List ℕ) × (fs : List (List ℕ)) × (ps ≡ f ∷ fs) → total ps ≡ suc (length s)
        → total (cond t ([] ∷ ps) (push c ps)) ≡ suc (suc (length s))
    go true ps e h = omega (arith, h)
    go false ps (f, fs, e) h = ap (λ (x : List (List ℕ)). total (push c x)) e ∙ pushed f fs ∙ ap suc (sym (ap total e) ∙ h)

-- the line of an order is one byte shorter than the order
line_long : (ps : List (List ℕ)) (n : ℕ) → total ps ≡ suc n → (suc (length (line_in (only_line ps))) ≡ n) ⊎ (line_in (only_line ps) ≡ [])
unfolding total
line_long [] n e = inr refl
line_long (s ∷ []) n e = inr refl
line_long (s ∷ [] ∷ []) n e = inl (omega arith)
line_long (s ∷ [] ∷ t ∷ ts) n e = inr refl
line_long (s ∷ (c ∷ t) ∷ ts) n e = inr refl

three_total : (fs : List (List ℕ)) → length fs ≡ 3 → total fs ≡ 3 + length (get_or fs 0 []) + length (get_or fs 1 []) + length (get_or fs 2 [])
unfolding total
three_total [] e = absurd (omega arith)
three_total (a ∷ []) e = absurd (omega arith)
three_total (a ∷ b ∷ []) e = absurd (omega arith)
three_total (a ∷ b ∷ c ∷ []) e = omega arith
three_total (a ∷ b ∷ c ∷ d ∷ fs) e = absurd (omega arith)

none_after : {A B : Type 0} (o : Option A) (f : A → Option B) → ((a : A) → f a ≡ none) → (o >>= f) ≡ none
none_after none f h = refl
none_after (some a) f h = h a

-- fields of 274 bytes and more are no order
fields_long : (fs : List (List ℕ)) → 274 ≤ total fs → read_fields card fs ≡ none
unfolding read_fields
fields_long fs h = go (dec_lt 133 (length (get_or fs 0 []))) (dec_lt 133 (length (get_or fs 1 []))) (dec_lt 4 (length (get_or fs 2 [])))
  where
    rest : Option ℤ → Option ℕ → Bool → ℤ → Option Order
    rest b c three k = b >>= λ l. c >>= λ slots. cond three (some (record { k = k; l = l; slots = slots })) none

    go : Dec (133 < length (get_or fs 0 [])) → Dec (133 < length (get_or fs 1 [])) → Dec (4 < length (get_or fs 2 []))
        → (read_scalar card (get_or fs 0 []) >>= rest (read_scalar card (get_or fs 1 [])) (read_decimal (get_or fs 2 [])) (eqb (length fs) 3)) ≡ none
    go (yes a) b c = rw (whole_long 16 132 (get_or fs 0 []) a)
    go (no a) (yes b) c = none_after (read_scalar card (get_or fs 0 [])) _ (λ k. rw (whole_long 16 132 (get_or fs 1 []) b))
    go (no a) (no b) (yes c) =
        none_after (read_scalar card (get_or fs 0 [])) _ (λ k. none_after (read_scalar card (get_or fs 1 [])) _ (λ l. rw (number_long 10 4 (get_or fs 2 []) c)))
    go (no a) (no b) (no c) =
        let few : eqb (length fs) 3 ≡ false = ne_eqb (length fs) 3 (λ e. omega (arith, three_total fs e)) in
        none_after (read_scalar card (get_or fs 0 [])) _
        (λ k. none_after (read_scalar card (get_or fs 1 [])) _ (λ l. none_after (read_decimal (get_or fs 2 [])) _ (λ slots. rw few)))

no_fields : read_fields card (cut comma []) ≡ none
unfolding read_fields cut number
no_fields = refl

-- 274 bytes and more are no order: so are the first 274 of them, and both are answered alike
pub long_order : (s : List ℕ) → 274 ≤ length s → printed card s ≡ refusal 6
unfolding printed read_order line_of
long_order s h = ap answered (go (line_long (cut line_feed s) (length s) (parts_total line_feed s)))
  where
    line : List ℕ
    line = line_in (only_line (cut line_feed s))

    go : (suc (length line) ≡ length s) ⊎ (line ≡ []) → read_fields card (cut comma line) ≡ none
    go (inl e) = fields_long (cut comma line) (omega (arith, parts_total comma line))
    go (inr e) = ap (λ (x : List ℕ). read_fields card (cut comma x)) e ∙ no_fields
