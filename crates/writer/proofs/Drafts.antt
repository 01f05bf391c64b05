-- Drafts: bytes put one after another, of which each that is not kept is overwritten by the next one. Assumes nothing.
use mathlib.Core.Path.{◌≡◌, sym, ap, subst, ◌∙◌}
use mathlib.Core.Bool.{Bool, true, false}
use mathlib.Core.List.{List, [], ◌∷◌}
use Prim.Native.Nat.{ℕ, suc, ◌<◌}
use native.Mathlib.Omega.{arith}
use lib.ListN.{length, length-set}
use lib.Seq.{sets, set-set}
use Rattle.writer.specs.Body.Parts.{Put, PutIf, Room}
use Rattle.writer.proofs.Puts.{put_same}

-- a byte before others, if it is kept
abbrev cons_if : Bool → ℕ → List ℕ → List ℕ
cons_if true x xs = x ∷ xs
cons_if false x xs = xs

room_if : {a b : List ℕ} {i j x : ℕ} (kept : Bool) (xs : List ℕ) → PutIf a b i j kept x → Room a i (cons_if kept x xs) → Room b j xs
room_if {a} {i = i} {x = x} true xs d r = record { fits = omega (arith, r.fits, d.behind, ap length d.buffer, length-set a i x) }
room_if {a} {i = i} {x = x} false xs d r = record { fits = omega (arith, r.fits, d.behind, ap length d.buffer, length-set a i x) }

put_if : {a b c : List ℕ} {i j k x : ℕ} (kept : Bool) (xs : List ℕ) → 0 < length xs → PutIf a b i j kept x → Put b c j k xs → Put a c i k (cons_if kept x xs)
put_if true xs h d p = record { behind = omega (arith, p.behind, d.behind); buffer = p.buffer ∙ rw (d.behind, d.buffer) }
put_if false [] h d p = absurd (omega arith)
put_if {a} {i = i} {x = x} false (y ∷ ys) h d p =
    record {
      behind = omega (arith, p.behind, d.behind);
      buffer = p.buffer ∙ rw (d.behind, d.buffer) (ap (λ (l : List ℕ). sets l (suc i) ys) (set-set a i x y));
    }

some_if : (kept : Bool) (x : ℕ) (xs : List ℕ) → 0 < length xs → 0 < length (cons_if kept x xs)
some_if true x xs h = omega arith
some_if false x xs h = h

-- the drafts that are kept, and the last byte
abbrev pub kept_of : List (Bool × ℕ) → ℕ → List ℕ
kept_of [] last = last ∷ []
kept_of ((kept, x) ∷ drafts) last = cons_if kept x (kept_of drafts last)

some_kept : (drafts : List (Bool × ℕ)) (last : ℕ) → 0 < length (kept_of drafts last)
some_kept [] last = omega arith
some_kept ((kept, x) ∷ drafts) last = some_if kept x (kept_of drafts last) (some_kept drafts last)

-- the whole is put as soon as these drafts and the last byte are, and there is room for them
pub record Drafting (before now : List ℕ) (at next : ℕ) (whole : List ℕ) (drafts : List (Bool × ℕ)) (last : ℕ) : Type 0 where
  pub room : Room now next (kept_of drafts last)
  pub put : (after : List ℕ) (behind : ℕ) → Put now after next behind (kept_of drafts last) → Put before after at behind whole

pub drafted : {a : List ℕ} {i : ℕ} {whole : List ℕ} (drafts : List (Bool × ℕ)) (last : ℕ) → whole ≡ kept_of drafts last → Room a i whole → Drafting a a i i whole drafts last
drafted {a} {i} drafts last e r = record { room = subst (Room a i) e r; put = λ c k p. put_same (sym e) p }

module _ {a b : List ℕ} {i j : ℕ} {whole : List ℕ} {last : ℕ} where
  -- room for a byte
  pub draft_room : {x : ℕ} {drafts : List (Bool × ℕ)} → Drafting a b i j whole drafts last → Room b j (x ∷ [])
  draft_room {drafts = drafts} s = record { fits = omega (arith, s.room.fits, some_kept drafts last) }

  -- a draft is put, and the last byte
  pub draft : {c : List ℕ} {k x : ℕ} {kept : Bool} {drafts : List (Bool × ℕ)} → PutIf b c j k kept x → Drafting a b i j whole ((kept, x) ∷ drafts) last → Drafting a c i k whole drafts last
  draft {kept = kept} {drafts = drafts} d s =
      record {
        room = room_if kept (kept_of drafts last) d s.room;
        put = λ e m p. s.put e m (put_if kept (kept_of drafts last) (some_kept drafts last) d p);
      }

  pub put_last : {c : List ℕ} {k : ℕ} → Put b c j k (last ∷ []) → Drafting a b i j whole [] last → Put a c i k whole
  put_last {c} {k} p s = s.put c k p
