-- When packing and unpacking are done, what they leave alone, and that each undoes the other: from what both promise (Call/Standing.antt).
use Rattle.std.specs.Prelude.{◌≡◌, refl, Bool, true, ◌&&◌, ℕ, ◌≤◌, ◌<◌, length, get_or, take, replicate, Ok, Err, OnOk}
use Rattle.std.specs.List.{list_all}
use Rattle.std.proofs.Common.{sym, subst, ◌∙◌, arith, drop_at, leb-true, le-leb, get_or-take, length-take-le}
use Rattle.std.proofs.lemmas.List.{get_or_default, take_all}
use Rattle.std.proofs.lemmas.List.Elements.{All-take}
use Rattle.std.proofs.lemmas.List.Sums.{AllPass-from_list_all, list_all-from_AllPass}
use Rattle.std.proofs.Math.Path.{ap, ap₂}
use Rattle.std.proofs.Math.Bool.{and-eq-true_iff}
use mathlib.Core.List.{List, ◌++◌, map}
use Rattle.std.proofs.Math.ListN.{drop}
use Rattle.digits.specs.Buffer.{columns_below}
use Rattle.digits.specs.Byte.{byte_of}
use Rattle.digits.specs.Column.{row, Small}
use Rattle.digits.specs.Scalar.{Bytes}
use Rattle.digits.specs.Two.{Column, Two, P, Q, of, two}
use Rattle.digits.specs.declared.missed.Missed.{Missed}
use Rattle.packing.specs.Packing.{column_of_byte, stores_digit, stores_column, packed_columns, unpacked_row}
use Rattle.packing.proofs.Laws.Packing.Back.{digits_small, small_digits, row_stored, digits_back}
use Rattle.packing.specs.Packing.Places.{columns_rows, packed_length, unpacked_length}
use Rattle.packing.specs.Call.{Answer, roomy, answered, left, packable, pack_answer, pack_buffer, unpackable, unpack_answer, unpack_buffer, Packs}
use Rattle.packing.specs.Call.Standing.{Rooms}
use Rattle.packing.proofs.Laws.Call.Standing.{rooms, room_of, met, changed, pack_promised, unpack_promised}

-- ── a buffer after a call ───────────────────────────────────────────────────────────────────

-- past n places, where n bytes were written
past : (a : Answer) (bytes buffer : List ℕ) (n : ℕ) → (a ≡ Ok tt → length bytes ≡ n) → drop n (left a bytes buffer) ≡ drop n buffer
past (Err e) bytes buffer n h = refl
past (Ok u) bytes buffer n h =
    drop_at bytes (drop (length bytes) buffer) n (h refl) ∙ ap (λ (m : ℕ). drop m buffer) (h refl)

-- where it is not done
unchanged : (a : Answer) (bytes buffer : List ℕ) → ¬ (a ≡ Ok tt) → left a bytes buffer ≡ buffer
unchanged (Err e) bytes buffer h = refl
unchanged (Ok u) bytes buffer h = absurd (h refl)

-- ── what each of the first n bytes stores ───────────────────────────────────────────────────

module _ (p : ℕ → Bool) (bs : List ℕ) (n : ℕ) (long : n ≤ length bs) where
  pub first_at : list_all p (take n bs) ≡ true → (i : ℕ) → i < n → p (get_or bs i 0) ≡ true
  first_at e i h =
      subst (λ b. p b ≡ true) (get_or-take n bs i 0 h) (AllPass-from_list_all p (take n bs) e i 0 (omega (arith, length-take-le n bs long)))

  pub first_from : ((i : ℕ) → i < n → p (get_or bs i 0) ≡ true) → list_all p (take n bs) ≡ true
  first_from h =
      list_all-from_AllPass p (take n bs)
      (λ i d j.
      let below : i < n = omega (arith, length-take-le n bs long) in
      subst (λ b. p b ≡ true) (get_or_default bs i 0 d (omega (arith, below, long)) ∙ sym (get_or-take n bs i d below)) (h i below))

-- the first n of bytes of which all are so
pub all_take : (p : ℕ → Bool) (n : ℕ) (bs : List ℕ) → list_all p bs ≡ true → list_all p (take n bs) ≡ true
all_take p n bs e = list_all-from_AllPass p (take n bs) (All-take (λ b. p b ≡ true) n bs (AllPass-from_list_all p bs e))

-- ── packing ─────────────────────────────────────────────────────────────────────────────────

module _ (n : ℕ) (k l packed : List ℕ) where
  pub pack_met : pack_answer n k l (length packed) ≡ Ok tt → Rooms n (length k) (length l) (length packed) × (packable n k l ≡ true)
  unfolding pack_answer
  pack_met e =
      let (room, good) = met (roomy n (length k) (length l) (length packed)) (packable n k l) e in
      (rooms n (length k) (length l) (length packed) room, good)

  pack_is : Rooms n (length k) (length l) (length packed) → packable n k l ≡ true → pack_answer n k l (length packed) ≡ Ok tt
  unfolding pack_answer
  pack_is h g = ap₂ answered (room_of h) g

  pub pack_columns : pack_answer n k l (length packed) ≡ Ok tt → (n ≤ length k) × ((n ≤ length l) × ((n ≤ length packed) × Small two (columns_below n k l)))
  pack_columns e =
      let (h, g) = pack_met e in
      let (u, v) = (and-eq-true_iff (list_all stores_digit (take n k)) (list_all stores_digit (take n l))).0 g in
      (h.first, (h.second, (h.third, digits_small n k l h.first h.second u v)))

  pub columns_pack : (n ≤ length k) × ((n ≤ length l) × ((n ≤ length packed) × Small two (columns_below n k l))) → pack_answer n k l (length packed) ≡ Ok tt
  columns_pack (a, (b, (c, s))) =
      let (u, v) = small_digits n k l a b s in pack_is (record { first = a; second = b; third = c }) (ap₂ ◌&&◌ u v)

  pub pack_past : drop n (pack_buffer n k l packed) ≡ drop n packed
  unfolding pack_buffer
  pack_past =
      past (pack_answer n k l (length packed)) (packed_columns n k l) packed n (λ e. let h = (pack_met e).0 in packed_length n k l h.first h.second)

  pub pack_refused : ¬ (pack_answer n k l (length packed) ≡ Ok tt) → pack_buffer n k l packed ≡ packed
  unfolding pack_buffer
  pack_refused = unchanged (pack_answer n k l (length packed)) (packed_columns n k l) packed

  -- the buffer, by the answer
  pub pack_whole : pack_answer n k l (length packed) ≡ Ok tt → pack_buffer n k l packed ≡ packed_columns n k l ++ drop n packed
  unfolding pack_buffer
  pack_whole e =
      let h = (pack_met e).0 in
      changed (pack_answer n k l (length packed)) (packed_columns n k l) packed n e (packed_length n k l h.first h.second)

  pub pack_filled : (bytes : List ℕ) → pack_answer n k l (length packed) ≡ Ok tt → bytes ≡ packed_columns (length (take n packed)) k l
      → bytes ++ drop n packed ≡ pack_buffer n k l packed
  pack_filled bytes e f =
      ap (λ s. s ++ drop n packed) (f ∙ ap (λ m. packed_columns m k l) (length-take-le n packed (pack_met e).0.third)) ∙ sym (pack_whole e)

  pub pack_left : {missed : Missed} → pack_answer n k l (length packed) ≡ Err missed → pack_buffer n k l packed ≡ packed
  unfolding pack_buffer
  pack_left e = ap (λ (a : Answer). left a (packed_columns n k l) packed) e

  pub pack_packs : pack_answer n k l (length packed) ≡ Ok tt → Packs n k l (pack_buffer n k l packed)
  pack_packs e = subst (λ (a : Answer). OnOk a (Packs n k l (pack_buffer n k l packed))) e (pack_promised n k l packed)

-- the rows of columns of −1, 0, 1, with zeros above them
pub rows_pack : {cs : List Column} (a b n : ℕ) (packed : List ℕ) → Small two cs
    → n ≤ length (map byte_of (row two P cs) ++ replicate a 0) → n ≤ length (map byte_of (row two Q cs) ++ replicate b 0) → n ≤ length packed
    → pack_answer n (map byte_of (row two P cs) ++ replicate a 0) (map byte_of (row two Q cs) ++ replicate b 0) (length packed) ≡ Ok tt
rows_pack {cs} a b n packed s h g f =
    let k : List ℕ = map byte_of (row two P cs) ++ replicate a 0 in
    let l : List ℕ = map byte_of (row two Q cs) ++ replicate b 0 in
    pack_is n k l packed (record { first = h; second = g; third = f })
    (ap₂ ◌&&◌ (all_take stores_digit n k (row_stored P a s)) (all_take stores_digit n l (row_stored Q b s)))

-- ── unpacking ───────────────────────────────────────────────────────────────────────────────

module _ (n : ℕ) (packed k l : List ℕ) where
  pub unpack_met : unpack_answer n packed (length k) (length l) ≡ Ok tt → Rooms n (length k) (length l) (length packed) × (unpackable n packed ≡ true)
  unfolding unpack_answer
  unpack_met e =
      let (room, good) = met (roomy n (length k) (length l) (length packed)) (unpackable n packed) e in
      (rooms n (length k) (length l) (length packed) room, good)

  unpack_is : Rooms n (length k) (length l) (length packed) → unpackable n packed ≡ true → unpack_answer n packed (length k) (length l) ≡ Ok tt
  unfolding unpack_answer
  unpack_is h g = ap₂ answered (room_of h) g

  pub unpack_bytes : unpack_answer n packed (length k) (length l) ≡ Ok tt → (n ≤ length packed) × ((n ≤ length k) × ((n ≤ length l) × ((i : ℕ) → i < n → get_or packed i 0 ≤ 8)))
  unpack_bytes e =
      let (h, g) = unpack_met e in
      (h.third, (h.first, (h.second, λ i j. leb-true (get_or packed i 0) 8 (first_at stores_column packed n h.third g i j))))

  pub bytes_unpack : (n ≤ length packed) × ((n ≤ length k) × ((n ≤ length l) × ((i : ℕ) → i < n → get_or packed i 0 ≤ 8))) → unpack_answer n packed (length k) (length l) ≡ Ok tt
  bytes_unpack (c, (a, (b, low))) =
      unpack_is (record { first = a; second = b; third = c }) (first_from stores_column packed n c (λ i j. le-leb (get_or packed i 0) 8 (low i j)))

  pub unpack_past : (r : Two) → drop n (unpack_buffer r n packed k l) ≡ drop n (of k l r)
  unfolding unpack_buffer
  unpack_past r =
      past (unpack_answer n packed (length k) (length l)) (unpacked_row r n packed) (of k l r) n (λ e. unpacked_length r n packed (unpack_met e).0.third)

  pub unpack_refused : ¬ (unpack_answer n packed (length k) (length l) ≡ Ok tt) → (r : Two) → unpack_buffer r n packed k l ≡ of k l r
  unfolding unpack_buffer
  unpack_refused h r = unchanged (unpack_answer n packed (length k) (length l)) (unpacked_row r n packed) (of k l r) h

  -- a row, by the answer
  pub unpack_whole : unpack_answer n packed (length k) (length l) ≡ Ok tt → (r : Two) → unpack_buffer r n packed k l ≡ unpacked_row r n packed ++ drop n (of k l r)
  unfolding unpack_buffer
  unpack_whole e r =
      changed (unpack_answer n packed (length k) (length l)) (unpacked_row r n packed) (of k l r) n e (unpacked_length r n packed (unpack_met e).0.third)

  pub unpack_filled : (digits : List ℕ) (r : Two) → unpack_answer n packed (length k) (length l) ≡ Ok tt
      → digits ≡ unpacked_row r (length (take n packed)) (take n packed) → digits ++ drop n (of k l r) ≡ unpack_buffer r n packed k l
  unpack_filled digits r e f =
      let all : take (length (take n packed)) (take n packed) ≡ take n packed = take_all (length (take n packed)) (take n packed) (omega arith) in
      ap (λ s. s ++ drop n (of k l r)) (f ∙ ap (λ s. map byte_of (row two r (map column_of_byte s))) all) ∙ sym (unpack_whole e r)

  pub unpack_left : {missed : Missed} → unpack_answer n packed (length k) (length l) ≡ Err missed → (r : Two) → unpack_buffer r n packed k l ≡ of k l r
  unfolding unpack_buffer
  unpack_left e r = ap (λ (a : Answer). left a (unpacked_row r n packed) (of k l r)) e

  pub unpack_packs : {k' l' : List ℕ} → unpack_answer n packed (length k) (length l) ≡ Ok tt → k' ≡ unpack_buffer P n packed k l → l' ≡ unpack_buffer Q n packed k l
      → Packs n k' l' packed
  unpack_packs e f g = rw (f, g) (subst (λ (a : Answer). OnOk a (Packs n (unpack_buffer P n packed k l) (unpack_buffer Q n packed k l) packed)) e (unpack_promised n packed k l))

-- ── there and back ──────────────────────────────────────────────────────────────────────────

module _ {n : ℕ} {k l packed : List ℕ} (packs : Packs n k l packed) where
  -- the rows again
  rows_again : (r : Two) → Bytes (of k l r) → unpacked_row r n packed ≡ take n (of k l r)
  rows_again r h =
      ap (λ (cs : List Column). map byte_of (row two r cs)) (sym packs.columns)
      ∙ ap (map byte_of) (columns_rows n k l packs.k_long packs.l_long r)
      ∙ digits_back n (of k l r) h

  bytes_of : Bytes k → Bytes l → (r : Two) → Bytes (of k l r)
  bytes_of h g P = h
  bytes_of h g Q = g

  pub unpack_again : Bytes k → Bytes l → (k' l' : List ℕ) → n ≤ length k' → n ≤ length l'
      → (unpack_answer n packed (length k') (length l') ≡ Ok tt) × ((r : Two) → unpack_buffer r n packed k' l' ≡ take n (of k l r) ++ drop n (of k' l' r))
  unfolding unpack_buffer
  unpack_again k_bytes l_bytes k' l' h g =
      let done = unpack_is n packed k' l' (record { first = h; second = g; third = packs.packed_long }) packs.low in (
        done,
        λ r.
            unpack_whole n packed k' l' done r
            ∙ ap (λ (s : List ℕ). s ++ drop n (of k' l' r)) (rows_again r (bytes_of k_bytes l_bytes r)),
      )

  -- the bytes again
  pub pack_again : (packed' : List ℕ) → n ≤ length packed'
      → (pack_answer n k l (length packed') ≡ Ok tt) × (pack_buffer n k l packed' ≡ take n packed ++ drop n packed')
  unfolding pack_buffer
  pack_again packed' h =
      let done = columns_pack n k l packed' (packs.k_long, (packs.l_long, (h, packs.small))) in (
        done,
        pack_whole n k l packed' done ∙ ap (λ (s : List ℕ). s ++ drop n packed') (sym packs.bytes),
      )
