-- Bytes put one behind another: two puts make one, each has room where both together do. Assumes nothing.
use mathlib.Core.Path.{◌≡◌, refl, sym, ap, ap₂, subst, ◌∙◌}
use mathlib.Core.List.{List, [], ◌∷◌, ◌++◌, append_assoc, append-nil}
use Prim.Native.Nat.{ℕ, suc, ◌+◌, ◌≤◌}
use native.Mathlib.Omega.{arith}
use lib.ListN.{length, set, drop, length-append}
use lib.Seq.{sets, length-sets, sets-eq}
use Rattle.writer.specs.Body.Parts.{Put, Room}

sets_append : (xs ys l : List ℕ) (i : ℕ) → sets (sets l i xs) (i + length xs) ys ≡ sets l i (xs ++ ys)
sets_append [] ys l i = let e : i + 0 ≡ i = omega arith in ap (λ (n : ℕ). sets l n ys) e
sets_append (a ∷ xs) ys l i =
    let e : i + suc (length xs) ≡ suc i + length xs = omega arith in
    ap (λ (n : ℕ). sets (sets (set l i a) (suc i) xs) n ys) e ∙ sets_append xs ys (set l i a) (suc i)

-- nothing is put
pub put_none : (l : List ℕ) (at : ℕ) → Put l l at at []
put_none l at = record { behind = omega arith; buffer = refl }

-- one put behind another
pub put_append : {a b c : List ℕ} {i j k : ℕ} {xs ys : List ℕ} → Put a b i j xs → Put b c j k ys → Put a c i k (xs ++ ys)
put_append {a} {b} {c} {i} {j} {k} {xs} {ys} p q =
    record {
      behind = omega (arith, p.behind, q.behind, length-append xs ys);
      buffer =
          q.buffer ∙ ap₂ (λ (l : List ℕ) (n : ℕ). sets l n ys) p.buffer p.behind ∙ sets_append xs ys a i;
    }

-- the same bytes
pub put_same : {a b : List ℕ} {i j : ℕ} {xs ys : List ℕ} → xs ≡ ys → Put a b i j xs → Put a b i j ys
put_same {a} {b} {i} {j} e p = subst (Put a b i j) e p

-- the buffer keeps its length
pub put_length : {a b : List ℕ} {i j : ℕ} {xs : List ℕ} → Put a b i j xs → length b ≡ length a
put_length {a} {i = i} {xs = xs} p = ap length p.buffer ∙ length-sets a i xs

-- room for the same bytes, for the first of two puts, for the second one after it, and for the middle one of three
pub room_same : {a : List ℕ} {i : ℕ} {xs ys : List ℕ} → xs ≡ ys → Room a i xs → Room a i ys
room_same {a} {i} e r = subst (Room a i) e r

pub room_first : {a : List ℕ} {i : ℕ} {xs : List ℕ} → (ys : List ℕ) → Room a i (xs ++ ys) → Room a i xs
room_first {xs = xs} ys r = record { fits = omega (arith, r.fits, length-append xs ys) }

pub room_second : {a b : List ℕ} {i j : ℕ} {xs : List ℕ} → Put a b i j xs → (ys : List ℕ) → Room a i (xs ++ ys) → Room b j ys
room_second {xs = xs} p ys r = record { fits = omega (arith, r.fits, p.behind, put_length p, length-append xs ys) }

pub room_next : {a b : List ℕ} {i j : ℕ} {xs ys : List ℕ} → Put a b i j xs → (zs : List ℕ) → Room a i (xs ++ (ys ++ zs)) → Room b j ys
room_next p zs r = room_first zs (room_second p _ r)

-- what is put at the front, with the rest as it was
pub put_front : {a b : List ℕ} {j : ℕ} {xs : List ℕ} → Put a b 0 j xs → length xs ≤ length a → b ≡ xs ++ drop (length xs) a
put_front {a} {xs = xs} p h =
    let e : 0 + length xs ≡ length xs = omega arith in
    p.buffer ∙ sets-eq xs a 0 (omega arith) ∙ ap (λ (n : ℕ). xs ++ drop n a) e

-- ── a run of puts ───────────────────────────────────────────────────────────────────────────

-- of the whole, the bytes put so far, and the rest
pub record Progress (before after : List ℕ) (at next : ℕ) (whole rest : List ℕ) : Type 0 where
  pub done : List ℕ
  pub put : Put before after at next done
  pub total : done ++ rest ≡ whole

pub begun : (out : List ℕ) (at : ℕ) (whole : List ℕ) → Progress out out at at whole whole
begun out at whole = record { done = []; put = put_none out at; total = refl }

module _ {a b : List ℕ} {i j : ℕ} {whole : List ℕ} where
  pub progress_room : {rest : List ℕ} → Room a i whole → Progress a b i j whole rest → Room b j rest
  progress_room {rest} r p = room_second p.put rest (subst (Room a i) (sym p.total) r)

  pub advance : {c : List ℕ} {k : ℕ} {xs : List ℕ} (ys : List ℕ) → Put b c j k xs → Progress a b i j whole (xs ++ ys) → Progress a c i k whole ys
  advance {xs = xs} ys q p =
      record { done = p.done ++ xs; put = put_append p.put q; total = append_assoc p.done xs ys ∙ p.total }

  pub finished : Progress a b i j whole [] → Put a b i j whole
  finished p = put_same (sym (append-nil p.done) ∙ p.total) p.put

  pub progress_same : {xs ys : List ℕ} → xs ≡ ys → Progress a b i j whole xs → Progress a b i j whole ys
  progress_same e p = subst (Progress a b i j whole) e p
