-- Under wider limits a line that is not misspelled is read as the same line, so a sheet that is accepted stays accepted, with the same
-- lines. From the laws of reading and of accepted sheets.
use Rattle.std.specs.Prelude.{◌≡◌, Bool, not, ◌&&◌, ℕ, ◌≤◌, eqb, leb, ℤ, length, get_or}
use Rattle.std.proofs.Math.Path.{refl, ap₂}
use Rattle.std.proofs.Common.{sym, ap, subst, ◌∙◌, le_trans, le-leb, leb-true}
use Rattle.std.proofs.Math.Bool.{true, false, cond}
use mathlib.Core.List.{List, [], ◌∷◌}
use Rattle.std.proofs.Math.Option.{Option, none, some}
use Prim.Native.Char.{code}
use Rattle.digits.specs.declared.limits.Limits.{Limits}
use Rattle.digits.specs.Limits.{Wider}
use Rattle.sheet.specs.Answer.{Accepted}
use Rattle.sheet.proofs.Laws.Answer.Exactly.{accepted_exactly}
use Rattle.sheet.specs.Every.{Every, more}
use Rattle.sheet.specs.Line.{Header, plan, Line, header, misspelled}
use Rattle.sheet.specs.Numeral.{padded, figures, followed, number}
use Rattle.sheet.specs.Plan.{tables}
use Rattle.sheet.specs.Questions.{additions, doublings, result}
use Rattle.sheet.specs.Sound.{Sound}
use Rattle.sheet.specs.Spelling.{comma, line_feed, minus, cut, letter, plain, negative, read_kind, read_whole, read_scalar, read_header, made, sized, read_behind, read_line, read_lines, lines}
use Rattle.sheet.specs.Spelling.Read.{HeaderMade, Spelled}
use Rattle.sheet.proofs.Laws.Spelling.Read.{header_made, sheet_spelled}
use Rattle.sheet.proofs.Laws.Spelling.Whole.{unread}

-- ── numbers ─────────────────────────────────────────────────────────────────────────────────

-- what is read in so many figures is read so where more are allowed
number_more : (base most further : ℕ) → most ≤ further → (s : List ℕ) (n : ℕ) → number base most s ≡ some n → number base further s ≡ some n
unfolding number
number_more base most further h s n e =
    go (leb 1 (length s)) (leb (length s) most) (leb (length s) further) (not (padded s)) (figures base s)
    (λ t. le-leb (length s) further (le_trans (leb-true (length s) most t) h)) e
  where
    go : (a b b' c d : Bool) → (b ≡ true → b' ≡ true) → cond (a && b && c && d) (some (followed base 0 s)) none ≡ some n
        → cond (a && b' && c && d) (some (followed base 0 s)) none ≡ some n
    go true true b' true true f g = rw (f refl) g
    go true true b' true false f g = absurd (unread g)
    go true true b' false d f g = absurd (unread g)
    go true false b' c d f g = absurd (unread g)
    go false b b' c d f g = absurd (unread g)

-- and so with a sign
kept : (f : Option ℕ → Option ℤ) → f none ≡ none → (o p : Option ℕ) → ((n : ℕ) → o ≡ some n → p ≡ some n) → (z : ℤ) → f o ≡ some z → f p ≡ some z
kept f none_none none p h z e = absurd (unread (sym none_none ∙ e))
kept f none_none (some n) p h z e = ap f (h n refl) ∙ e

whole_more : (base most further : ℕ) → most ≤ further → (s : List ℕ) (z : ℤ) → read_whole base most s ≡ some z → read_whole base further s ≡ some z
whole_more base most further h [] z e = absurd (unread e)
whole_more base most further h (c ∷ s) z e = go (eqb c minus) e
  where
    go : (b : Bool) → cond b (negative (number base most s)) (plain (number base most (c ∷ s))) ≡ some z
        → cond b (negative (number base further s)) (plain (number base further (c ∷ s))) ≡ some z
    go true f = kept negative refl (number base most s) (number base further s) (number_more base most further h s) z f
    go false f = kept plain refl (number base most (c ∷ s)) (number base further (c ∷ s)) (number_more base most further h (c ∷ s)) z f

-- ── lines and sheets ────────────────────────────────────────────────────────────────────────

module _ (narrow wide : Limits) (wider : Wider narrow wide) where
  scalar_wider : (s : List ℕ) (z : ℤ) → read_scalar narrow s ≡ some z → read_scalar wide s ≡ some z
  scalar_wider s z e = whole_more 16 narrow.figures wide.figures wider.figures s z e

  header_wider : (fs : List (List ℕ)) (h : Header) → read_header narrow fs ≡ some h → read_header wide fs ≡ some h
  unfolding read_header
  header_wider fs h e =
      let m : HeaderMade
      (read_kind (get_or fs 1 []))
      (number 10 4 (get_or fs 2 []))
      (number 10 4 (get_or fs 3 []))
      (number 10 4 (get_or fs 4 []))
      (number 10 4 (get_or fs 5 []))
      (number 10 4 (get_or fs 6 []))
      (read_scalar narrow (get_or fs 7 []))
      (read_scalar narrow (get_or fs 8 []))
      h =
      header_made _ _ _ _ _ _ _ _ h e in
      rw (
        m.made_kind,
        m.made_m1,
        m.made_m2,
        m.made_slots,
        m.made_additions,
        m.made_doublings,
        scalar_wider (get_or fs 7 []) h.k m.made_k,
        scalar_wider (get_or fs 8 []) h.l m.made_l,
      )

  made_wider : (n : Bool) (o p : Option Header) → ((h : Header) → o ≡ some h → p ≡ some h) → Spelled (cond n (made header o) misspelled)
      → cond n (made header p) misspelled ≡ cond n (made header o) misspelled
  made_wider false o p f s = refl
  made_wider true none p f s = absurd (s refl)
  made_wider true (some h) p f s = ap (made header) (f h refl)

  behind_wider : (c : ℕ) (fs : List (List ℕ)) → Spelled (read_behind narrow c fs) → read_behind wide c fs ≡ read_behind narrow c fs
  unfolding read_behind
  behind_wider c fs s = go (eqb c (code "S")) _ s
    where
      go : (b : Bool) (x : Line) → Spelled (cond b (sized 9 fs (made header (read_header narrow fs))) x)
          → cond b (sized 9 fs (made header (read_header wide fs))) x ≡ cond b (sized 9 fs (made header (read_header narrow fs))) x
      go true x t = made_wider (eqb (length fs) 9) (read_header narrow fs) (read_header wide fs) (header_wider fs) t
      go false x t = refl

  line_wider : (s : List ℕ) → Spelled (read_line narrow s) → read_line wide s ≡ read_line narrow s
  unfolding read_line
  line_wider s h = behind_wider (letter (get_or (cut comma s) 0 [])) (cut comma s) h

  parts_wider : (ps : List (List ℕ)) → Every Spelled (read_lines narrow ps) → read_lines wide ps ≡ read_lines narrow ps
  unfolding read_lines
  parts_wider [] e = refl
  parts_wider ([] ∷ []) e = refl
  parts_wider ((c ∷ s) ∷ []) e = refl
  parts_wider (s ∷ t ∷ ss) (more h e) = ap₂ (λ (l : Line) (ls : List Line). l ∷ ls) (line_wider s h) (parts_wider (t ∷ ss) e)

  module _ (s : List ℕ) (k l : ℤ) where
    same_lines : Sound narrow s k l → lines wide s ≡ lines narrow s
    unfolding lines
    same_lines a =
        parts_wider (cut line_feed s)
        (subst (Every Spelled) (sym a.laid) (sheet_spelled a.head (tables (plan a.head)) a.steps))

    sound_wider : Sound narrow s k l → Sound wide s k l
    sound_wider a =
        let e = same_lines a in
        record {
          head = a.head;
          steps = a.steps;
          short = le_trans a.short wider.sheet;
          laid = e ∙ a.laid;
          windows = a.windows;
          stored = a.stored;
          allowed = a.allowed;
          low = le_trans a.low wider.doublings;
          adds = a.adds ∙ ap additions (sym e);
          doubles = a.doubles ∙ ap doublings (sym e);
          carries_k = a.carries_k;
          carries_l = a.carries_l;
          reads = ap result e ∙ a.reads;
        }

    -- accepted under limits, a sheet is accepted under wider ones for the same k and l, and has the same lines
    pub accepted_wider : Accepted narrow s k l → Accepted wide s k l × (lines wide s ≡ lines narrow s)
    accepted_wider a =
        let b = (accepted_exactly narrow s k l).0 a in
        ((accepted_exactly wide s k l).1 (sound_wider b), same_lines b)
