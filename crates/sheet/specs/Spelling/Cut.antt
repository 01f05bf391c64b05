-- A list is cut where it was joined; the lines of a sheet, one after another. Assumes nothing.
use Rattle.std.specs.Prelude.{◌≡◌, ◌≢◌, Bool, true, false, cond, List, [], ◌∷◌, ◌++◌, ℕ, eqb}
use Rattle.std.proofs.Math.Path.{refl}
use Rattle.std.proofs.Common.{ap, ◌∙◌, eq-eqb, ne_eqb}
use Rattle.digits.specs.declared.limits.Limits.{Limits}
use Rattle.sheet.specs.Every.{Every, empty, more}
use Rattle.sheet.specs.Line.{misspelled}
use Rattle.sheet.specs.Spelling.{line_feed, join, push, cut, read_line, read_lines, lines}

-- the byte b is not in a list
abbrev pub Lacks : ℕ → List ℕ → Type 0
Lacks b s = Every (λ c. c ≢ b) s

-- without b there is one part
pub cut_last : {b : ℕ} {s : List ℕ} → Lacks b s → cut b s ≡ s ∷ []
unfolding cut
cut_last empty = refl
cut_last {b} (more {a = c} {s} n r) = rw (ne_eqb c b n, cut_last r)

-- up to the first b there is a part
pub cut_more : {b : ℕ} {s : List ℕ} → Lacks b s → (t : List ℕ) → cut b (s ++ b ∷ t) ≡ s ∷ cut b t
unfolding cut
cut_more {b} empty t = rw (eq-eqb b b refl)
cut_more {b} (more {a = c} {s} n r) t = rw (ne_eqb c b n, cut_more r t)

pub cut_join : {b : ℕ} {f : List ℕ} {fs : List (List ℕ)} → Every (Lacks b) (f ∷ fs) → cut b (join b (f ∷ fs)) ≡ f ∷ fs
unfolding join
cut_join (more l empty) = cut_last l
cut_join {b} {f} (more l (more {a = g} {s = gs} m r)) = cut_more l (join b (g ∷ gs)) ∙ ap (λ (x : List (List ℕ)). f ∷ x) (cut_join (more m r))

-- there is always a first part
pub cut_some : (b : ℕ) (s : List ℕ) → (f : List ℕ) × (fs : List (List ℕ)) × (cut b s ≡ f ∷ fs)
unfolding cut
cut_some b [] = ([], [], refl)
cut_some b (c ∷ s) = go (eqb c b) (cut_some b s)
  where
    go : (t : Bool) → ((f : List ℕ) × (fs : List (List ℕ)) × (cut b s ≡ f ∷ fs))
        → (f : List ℕ) × (fs : List (List ℕ)) × (cond t ([] ∷ cut b s) (push c (cut b s)) ≡ f ∷ fs)
    go true r = ([], cut b s, refl)
    go false (f, fs, e) = (c ∷ f, fs, ap (push c) e)

module _ (limits : Limits) where
  -- an empty sheet has no line
  pub lines_none : lines limits [] ≡ []
  unfolding lines cut read_lines
  lines_none = refl

  -- what stands up to the first line feed is the first line
  pub lines_more : {s : List ℕ} → Lacks line_feed s → (t : List ℕ) → lines limits (s ++ line_feed ∷ t) ≡ read_line limits s ∷ lines limits t
  unfolding lines read_lines
  lines_more {s} l t =
      let (f, fs, e) = cut_some line_feed t in
      rw (cut_more l t, e)

  -- without a line feed there is one line, misspelled
  pub lines_last : {c : ℕ} {s : List ℕ} → Lacks line_feed (c ∷ s) → lines limits (c ∷ s) ≡ misspelled ∷ []
  unfolding lines read_lines
  lines_last l = rw (cut_last l)
