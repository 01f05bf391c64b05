-- What packing and unpacking promise of every list of columns, of every row and of every buffer: when they are done, that each undoes the
-- other, and what they leave as it was.
use Rattle.std.specs.Prelude.{◌≡◌, refl, ◌↔◌, List, ◌++◌, map, ℕ, ◌≤◌, ◌<◌, length, get_or, take, drop, replicate, Ok}
use Rattle.std.proofs.Common.{◌∙◌, take-append-drop}
use Rattle.digits.specs.Buffer.{columns_below}
use Rattle.digits.specs.Byte.{byte_of}
use Rattle.digits.specs.Column.{row, Small}
use Rattle.digits.specs.Scalar.{Bytes}
use Rattle.digits.specs.Two.{Column, Two, P, Q, of, two}
use Rattle.packing.specs.Packing.{byte_of_column, column_of_byte}
use Rattle.packing.proofs.Laws.Packing.Back as Back
use Rattle.packing.specs.Call.{pack_answer, pack_buffer, unpack_answer, unpack_buffer}
use Rattle.packing.proofs.Laws.Call.Undone as Undone

-- columns of −1, 0, 1 are those of their bytes, and bytes are those of their columns
pub columns_back : (cs : List Column) → Small two cs → map column_of_byte (map byte_of_column cs) ≡ cs
columns_back cs h = Back.columns_back h

pub bytes_back : (bs : List ℕ) → map byte_of_column (map column_of_byte bs) ≡ bs
bytes_back bs = Back.bytes_back bs

-- ── packing n columns of two rows ───────────────────────────────────────────────────────────

module _ (n : ℕ) (k l packed : List ℕ) where
  -- it is done exactly where there is room and the columns are of −1, 0, 1
  pub pack_exactly : (pack_answer n k l (length packed) ≡ Ok tt) ↔ ((n ≤ length k) × ((n ≤ length l) × ((n ≤ length packed) × Small two (columns_below n k l))))
  pack_exactly = (Undone.pack_columns n k l packed, Undone.columns_pack n k l packed)

  -- past the last column the buffer is unchanged, and where a question is missed all of it
  pub pack_past : drop n (pack_buffer n k l packed) ≡ drop n packed
  pack_past = Undone.pack_past n k l packed

  pub pack_refused : ¬ (pack_answer n k l (length packed) ≡ Ok tt) → pack_buffer n k l packed ≡ packed
  pack_refused = Undone.pack_refused n k l packed

  module _ (done : pack_answer n k l (length packed) ≡ Ok tt) (k_bytes : Bytes k) (l_bytes : Bytes l) where
    -- what was packed is unpacked, into any rows with room for it: the same digits, byte for byte
    pub pack_unpack : (k' l' : List ℕ) → n ≤ length k' → n ≤ length l'
        → (unpack_answer n (pack_buffer n k l packed) (length k') (length l') ≡ Ok tt)
        × ((r : Two) → unpack_buffer r n (pack_buffer n k l packed) k' l' ≡ take n (of k l r) ++ drop n (of k' l' r))
    pack_unpack = Undone.unpack_again (Undone.pack_packs n k l packed done) k_bytes l_bytes

    -- and into the rows themselves: they do not change
    pub rows_same : (r : Two) → unpack_buffer r n (pack_buffer n k l packed) k l ≡ of k l r
    rows_same r =
        let (a, (b, _)) = Undone.pack_columns n k l packed done in
        (pack_unpack k l a b).1 r ∙ take-append-drop n (of k l r)

-- columns of −1, 0, 1 can always be packed from rows that hold them, and zeros above them: as many as there is room for
pub rows_pack : (cs : List Column) (a b n : ℕ) (packed : List ℕ) → Small two cs
    → n ≤ length (map byte_of (row two P cs) ++ replicate a 0) → n ≤ length (map byte_of (row two Q cs) ++ replicate b 0) → n ≤ length packed
    → pack_answer n (map byte_of (row two P cs) ++ replicate a 0) (map byte_of (row two Q cs) ++ replicate b 0) (length packed) ≡ Ok tt
rows_pack cs = Undone.rows_pack {cs = cs}

-- ── unpacking n bytes ───────────────────────────────────────────────────────────────────────

module _ (n : ℕ) (packed k l : List ℕ) where
  -- it is done exactly where there is room and no byte is above 8
  pub unpack_exactly : (unpack_answer n packed (length k) (length l) ≡ Ok tt)
      ↔ ((n ≤ length packed) × ((n ≤ length k) × ((n ≤ length l) × ((i : ℕ) → i < n → get_or packed i 0 ≤ 8))))
  unpack_exactly = (Undone.unpack_bytes n packed k l, Undone.bytes_unpack n packed k l)

  -- past the last column the rows are unchanged, and where a question is missed all of them
  pub unpack_past : (r : Two) → drop n (unpack_buffer r n packed k l) ≡ drop n (of k l r)
  unpack_past = Undone.unpack_past n packed k l

  pub unpack_refused : ¬ (unpack_answer n packed (length k) (length l) ≡ Ok tt) → (r : Two) → unpack_buffer r n packed k l ≡ of k l r
  unpack_refused = Undone.unpack_refused n packed k l

  module _ (done : unpack_answer n packed (length k) (length l) ≡ Ok tt) where
    -- what was unpacked is packed, into any buffer with room for it: the same bytes
    pub unpack_pack : (packed' : List ℕ) → n ≤ length packed'
        → (pack_answer n (unpack_buffer P n packed k l) (unpack_buffer Q n packed k l) (length packed') ≡ Ok tt)
        × (pack_buffer n (unpack_buffer P n packed k l) (unpack_buffer Q n packed k l) packed' ≡ take n packed ++ drop n packed')
    unpack_pack = Undone.pack_again (Undone.unpack_packs n packed k l done refl refl)

    -- and into the buffer itself: it does not change
    pub buffer_same : pack_buffer n (unpack_buffer P n packed k l) (unpack_buffer Q n packed k l) packed ≡ packed
    buffer_same =
        (unpack_pack packed (Undone.unpack_bytes n packed k l done).0).1 ∙ take-append-drop n packed
