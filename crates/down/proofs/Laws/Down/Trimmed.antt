-- A row without the zeros on its top: it has the same value, weight and digits, and its top digit is not 0. By induction on the list.
use Rattle.std.specs.Prelude.{◌≡◌, refl, ◌≢◌, List, [], ◌∷◌, ◌++◌, ℕ, zero, suc, ◌+◌, ◌-◌, ◌≤◌, ℤ, pos, negsuc, ◌+ℤ◌, length, get_or, replicate}
use Rattle.std.proofs.Common.{ap, ◌∙◌, arith}
use Rattle.std.proofs.Math.Numerals.{unary_clauses}
use Rattle.digits.specs.Integer.Parts.{integers}
use Rattle.digits.specs.Row.{value, count, weight, Digit, Over, empty, more}
use Rattle.digits.specs.Integer.{up}
use Rattle.down.specs.Down.{onto, trimmed}

-- a digit on top of a trimmed row counts for what it is worth
onto_value : (d : ℤ) (ts : List ℤ) → value (onto d ts) ≡ d +ℤ (value ts +ℤ value ts)
unfolding value
onto_value (pos zero) [] = refl
onto_value (pos (suc n)) [] = refl
onto_value (negsuc n) [] = refl
onto_value d (e ∷ es) = refl

onto_weight : (d : ℤ) (ts : List ℤ) → weight (onto d ts) ≡ count d + weight ts
unfolding weight
onto_weight (pos zero) [] = refl
onto_weight (pos (suc n)) [] = refl
onto_weight (negsuc n) [] = refl
onto_weight d (e ∷ es) = refl

onto_over : {m : ℕ} {d : ℤ} {ts : List ℤ} → Digit m d → Over m ts → Over m (onto d ts)
onto_over {d = pos zero} g empty = empty
onto_over {d = pos (suc n)} g empty = more g empty
onto_over {d = negsuc n} g empty = more g empty
onto_over g (more h o) = more g (more h o)

onto_length : (d : ℤ) (ts : List ℤ) → length (onto d ts) ≤ suc (length ts)
onto_length (pos zero) [] = omega arith
onto_length (pos (suc n)) [] = omega arith
onto_length (negsuc n) [] = omega arith
onto_length d (e ∷ es) = omega arith

onto_top : (d : ℤ) (ts : List ℤ) → ((i : ℕ) → length ts ≡ suc i → get_or ts i (pos 0) ≢ pos 0) → (i : ℕ) → length (onto d ts) ≡ suc i → get_or (onto d ts) i (pos 0) ≢ pos 0
onto_top (pos zero) [] h i l = absurd (omega arith)
onto_top (pos (suc n)) [] h zero l = λ e. omega (arith, ap up e)
onto_top (pos (suc n)) [] h (suc i) l = absurd (omega arith)
onto_top (negsuc n) [] h zero l = λ e. omega (integers, e)
onto_top (negsuc n) [] h (suc i) l = absurd (omega arith)
onto_top d (e ∷ es) h zero l = absurd (omega arith)
onto_top d (e ∷ es) h (suc i) l = h i (omega arith)

-- the value stays
pub trimmed_value : (ds : List ℤ) → value (trimmed ds) ≡ value ds
unfolding trimmed value
trimmed_value [] = refl
trimmed_value (d ∷ ds) = onto_value d (trimmed ds) ∙ ap (λ (v : ℤ). d +ℤ (v +ℤ v)) (trimmed_value ds)

-- the weight
pub trimmed_weight : (ds : List ℤ) → weight (trimmed ds) ≡ weight ds
unfolding trimmed weight
trimmed_weight [] = refl
trimmed_weight (d ∷ ds) = onto_weight d (trimmed ds) ∙ ap (λ (n : ℕ). count d + n) (trimmed_weight ds)

-- the digits are some of the row's
pub trimmed_over : {m : ℕ} {ds : List ℤ} → Over m ds → Over m (trimmed ds)
unfolding trimmed
trimmed_over empty = empty
trimmed_over (more g o) = onto_over g (trimmed_over o)

-- there are no more of them
pub trimmed_length : (ds : List ℤ) → length (trimmed ds) ≤ length ds
unfolding trimmed
trimmed_length [] = omega arith
trimmed_length (d ∷ ds) = omega (arith, onto_length d (trimmed ds), trimmed_length ds)

-- the top one is not 0
pub trimmed_top : (ds : List ℤ) (i : ℕ) → length (trimmed ds) ≡ suc i → get_or (trimmed ds) i (pos 0) ≢ pos 0
unfolding trimmed
trimmed_top [] i l = absurd (omega arith)
trimmed_top (d ∷ ds) i l = onto_top d (trimmed ds) (trimmed_top ds) i l

-- a 0 on top is taken off
pub trimmed_zero : (ds : List ℤ) → trimmed (ds ++ (pos 0 ∷ [])) ≡ trimmed ds
unfolding trimmed
trimmed_zero [] = refl
trimmed_zero (d ∷ ds) = ap (onto d) (trimmed_zero ds)

onto_rest : (d : ℤ) (ts : List ℤ) (n : ℕ) → length ts ≤ n → d ∷ (ts ++ replicate (n - length ts) (pos 0)) ≡ onto d ts ++ replicate (suc n - length (onto d ts)) (pos 0)
onto_rest (pos zero) [] n h = simp unary_clauses refl
onto_rest (pos (suc k)) [] n h = simp unary_clauses refl
onto_rest (negsuc k) [] n h = simp unary_clauses refl
onto_rest d (e ∷ es) n h = simp unary_clauses refl

-- what is taken off is zeros
pub trimmed_rest : (ds : List ℤ) → ds ≡ trimmed ds ++ replicate (length ds - length (trimmed ds)) (pos 0)
unfolding trimmed
trimmed_rest [] = refl
trimmed_rest (d ∷ ds) =
    ap (λ (xs : List ℤ). d ∷ xs) (trimmed_rest ds) ∙ onto_rest d (trimmed ds) (length ds) (trimmed_length ds)
