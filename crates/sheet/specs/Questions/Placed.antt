-- The lines of a sheet are well placed exactly when they are laid out: S, the T lines, the steps, E. Assumes nothing.
use Rattle.std.specs.Prelude.{◌≡◌, refl, Bool, true, false, cond, List, [], ◌∷◌, ◌++◌, map, ℕ, suc}
use Rattle.std.proofs.Common.{ap, arith}
use Rattle.std.proofs.Math.Option.{Option, none, some}
use Rattle.sheet.specs.Plan.{Point}
use Rattle.sheet.specs.Line.{Header, Line, header, table, load, double, add, end, misspelled}
use Rattle.sheet.specs.Questions.{after_end, after_load, after_header, misplaced}
use Rattle.sheet.specs.Sound.{Moves, stop, doubled, added, Steps, nothing, loaded, move_lines, step_lines, sheet_lines}

-- a line at fault is not none
pub fault : {n : ℕ} → some n ≡ none → ⊥
fault e = let z : ◌≡◌ {A = ℕ} 0 1 = cc in omega arith

-- a fault that a test rules out
pub held_none : (b : Bool) (x : Option ℕ) (n : ℕ) → cond b x (some n) ≡ none → (b ≡ true) × (x ≡ none)
held_none true x n e = (refl, e)
held_none false x n e = absurd (fault e)

end_last : (n : ℕ) (ls : List Line) → after_end n ls ≡ none → ls ≡ []
end_last n [] e = refl
end_last n (l ∷ ls) e = absurd (fault e)

moves_of : (n : ℕ) (ls : List Line) → after_load n ls ≡ none → (ms : Moves) × (ls ≡ move_lines ms ++ (end ∷ []))
unfolding after_load move_lines
moves_of n (double ∷ ls) e = let (ms, r) = moves_of (suc n) ls e in (doubled ms, ap (λ (x : List Line). double ∷ x) r)
moves_of n (add t ∷ ls) e = let (ms, r) = moves_of (suc n) ls e in (added t ms, ap (λ (x : List Line). add t ∷ x) r)
moves_of n (end ∷ ls) e = (stop, ap (λ (x : List Line). end ∷ x) (end_last (suc n) ls e))
moves_of n (header h ∷ ls) e = absurd (fault e)
moves_of n (table t ∷ ls) e = absurd (fault e)
moves_of n (load t ∷ ls) e = absurd (fault e)
moves_of n (misspelled ∷ ls) e = absurd (fault e)
moves_of n [] e = absurd (fault e)

record Behind (ls : List Line) : Type 0 where
  points : List Point
  steps : Steps
  laid : ls ≡ map table points ++ (step_lines steps ++ (end ∷ []))

behind_header : (n : ℕ) (ls : List Line) → after_header n ls ≡ none → Behind ls
unfolding after_header
behind_header n (table t ∷ ls) e =
    let b : Behind ls = behind_header (suc n) ls e in
    record { points = t ∷ b.points; steps = b.steps; laid = ap (λ (x : List Line). table t ∷ x) b.laid }
behind_header n (load t ∷ ls) e =
    let (ms, r) = moves_of (suc n) ls e in
    record { points = []; steps = loaded t ms; laid = ap (λ (x : List Line). load t ∷ x) r }
behind_header n (end ∷ ls) e =
    record { points = []; steps = nothing; laid = ap (λ (x : List Line). end ∷ x) (end_last (suc n) ls e) }
behind_header n (header h ∷ ls) e = absurd (fault e)
behind_header n (double ∷ ls) e = absurd (fault e)
behind_header n (add t ∷ ls) e = absurd (fault e)
behind_header n (misspelled ∷ ls) e = absurd (fault e)
behind_header n [] e = absurd (fault e)

-- lines laid out
pub record LaidOut (ls : List Line) : Type 0 where
  pub head : Header
  pub points : List Point
  pub steps : Steps
  pub laid : ls ≡ sheet_lines head points steps

pub laid_out : (ls : List Line) → misplaced ls ≡ none → LaidOut ls
unfolding misplaced sheet_lines
laid_out (header h ∷ ls) e =
    let b : Behind ls = behind_header 2 ls e in
    record { head = h; points = b.points; steps = b.steps; laid = ap (λ (x : List Line). header h ∷ x) b.laid }
laid_out (table t ∷ ls) e = absurd (fault e)
laid_out (load t ∷ ls) e = absurd (fault e)
laid_out (double ∷ ls) e = absurd (fault e)
laid_out (add t ∷ ls) e = absurd (fault e)
laid_out (end ∷ ls) e = absurd (fault e)
laid_out (misspelled ∷ ls) e = absurd (fault e)
laid_out [] e = absurd (fault e)

moves_placed : (n : ℕ) (ms : Moves) → after_load n (move_lines ms ++ (end ∷ [])) ≡ none
unfolding after_load move_lines
moves_placed n stop = refl
moves_placed n (doubled ms) = moves_placed (suc n) ms
moves_placed n (added t ms) = moves_placed (suc n) ms

steps_placed : (n : ℕ) (ts : List Point) (st : Steps) → after_header n (map table ts ++ (step_lines st ++ (end ∷ []))) ≡ none
unfolding after_header
steps_placed n [] nothing = refl
steps_placed n [] (loaded t ms) = moves_placed (suc n) ms
steps_placed n (t ∷ ts) st = steps_placed (suc n) ts st

pub placed : (h : Header) (ts : List Point) (st : Steps) → misplaced (sheet_lines h ts st) ≡ none
unfolding misplaced sheet_lines
placed h ts st = steps_placed 2 ts st
