-- Copying a list in reverse into a list of zeros, one element a turn: after i turns the last i elements stand reversed at
-- the front.
use mathlib.Core.Path.{◌≡◌, ◌∙◌}
use mathlib.Core.List.{List, ◌++◌, reverse, reverse-cons, append_assoc}
use Prim.Native.Nat.{ℕ, suc, ◌+◌, ◌-◌, ◌≤◌, ◌<◌}
use native.Mathlib.Omega.{arith}
use lib.ListN.{length, get_or, set, drop, replicate, length-drop, length-reverse, drop_of_length-le}
use lib.Seq.{drop-cons, set_at}

abbrev pub turned : List ℕ → ℕ → ℕ → List ℕ
turned s N i = reverse (drop (length s - i) s) ++ replicate (N - i) 0

pub turned_none : (s : List ℕ) (N : ℕ) → turned s N 0 ≡ replicate N 0
turned_none s N =
    let all : length s ≤ length s - 0 = omega arith in
    let e : N - 0 ≡ N = omega arith in
    rw (drop_of_length-le s all, e)

pub turned_all : (s : List ℕ) (N : ℕ) → turned s N (length s) ≡ reverse s ++ replicate (N - length s) 0
turned_all s N = let e : length s - length s ≡ 0 = omega arith in rw e

-- the element at j is stored at i, where the j + 1 that follow it stand reversed below
step : (s : List ℕ) (N i j : ℕ) → i + suc j ≡ length s → length s ≤ N → set (reverse (drop (suc j) s) ++ replicate (N - i) 0) i (get_or s j 0) ≡ reverse (drop j s) ++ replicate (N - (i + 1)) 0
step s N i j e l =
    let more : N - i ≡ suc (N - (i + 1)) = omega arith in
    let long : length (reverse (drop (suc j) s)) ≡ i = length-reverse (drop (suc j) s) ∙ length-drop (suc j) s ∙ omega arith in
    let here : j < length s = omega arith in
    rw (drop-cons s j 0 here, reverse-cons, append_assoc, more)
    (set_at (reverse (drop (suc j) s)) 0 (replicate (N - (i + 1)) 0) (get_or s j 0) i long)

-- the next element, counted from the last, is stored at i
pub turned_more : (s : List ℕ) (N i : ℕ) → i < length s → length s ≤ N → set (turned s N i) i (get_or s (length s - 1 - i) 0) ≡ turned s N (i + 1)
turned_more s N i h l =
    let below : length s - i ≡ suc (length s - 1 - i) = omega arith in
    let next : length s - (i + 1) ≡ length s - 1 - i = omega arith in
    rw (below, next) (step s N i (length s - 1 - i) (omega arith) l)
