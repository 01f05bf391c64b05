-- Where no question is missed, what was packed and what was unpacked are of each other; and the number of the answer is that of the first
-- question missed. From the laws of one byte (Packing/Back.antt) and of one place (Packing/Places.antt).
use Rattle.std.specs.Prelude.{◌≡◌, refl, Bool, true, false, ◌&&◌, List, [], ◌∷◌, ◌++◌, map, ℕ, ◌≤◌, leb, length, take, drop, Ok, OnOk}
use Rattle.std.specs.List.{list_all}
use Rattle.std.proofs.Common.{sym, ap, ap₂, subst, ◌∙◌, arith, length-append, length-take-le, take_at, leb-true, le-leb}
use Rattle.std.proofs.Math.Bool.{and-eq-true_iff}
use Rattle.std.proofs.lemmas.List.{length-map}
use Rattle.digits.specs.Buffer.{columns_below}
use Rattle.digits.proofs.Laws.Buffer.Read.{columns_read}
use Rattle.digits.specs.Column.{Small}
use Rattle.digits.specs.Missed.{missed, number_of}
use Rattle.digits.specs.Two.{Column, P, Q, two}
use Rattle.packing.specs.Packing.{byte_of_column, column_of_byte, stores_digit, stores_column, packed_columns, unpacked_row}
use Rattle.packing.proofs.Laws.Packing.Back.{columns_back, columns_low, bytes_back, bytes_small, digits_small}
use Rattle.packing.specs.Packing.Places.{packed_length, unpacked_length}
use Rattle.packing.specs.Call.{
  Answer,
  roomy,
  answered,
  left,
  packable,
  pack_question,
  pack_answer,
  pack_buffer,
  unpackable,
  unpack_question,
  unpack_answer,
  unpack_buffer,
  Packs,
}
use Rattle.packing.specs.Call.Standing.{Rooms}

-- the questions of room first, then the others
three : (a b c d : Bool) → number_of (answered (a && b && c) d) ≡ missed ((3, a) ∷ (3, b) ∷ (3, c) ∷ (12, d) ∷ [])
three true true true true = refl
three true true true false = refl
three true true false d = refl
three true false c d = refl
three false b c d = refl

four : (a b c d e : Bool) → number_of (answered (a && b && c) (d && e)) ≡ missed ((3, a) ∷ (3, b) ∷ (3, c) ∷ (12, d) ∷ (12, e) ∷ [])
four a b c true e = three a b c e
four true true true false e = refl
four true true false false e = refl
four true false c false e = refl
four false b c false e = refl

pub pack_question_lem : (n : ℕ) (k l : List ℕ) (room : ℕ) → number_of (pack_answer n k l room) ≡ pack_question n k l room
unfolding pack_answer
pack_question_lem n k l room =
    four (leb n (length k)) (leb n (length l)) (leb n room) (list_all stores_digit (take n k)) (list_all stores_digit (take n l))

pub unpack_question_lem : (n : ℕ) (packed : List ℕ) (places places' : ℕ) → number_of (unpack_answer n packed places places') ≡ unpack_question n packed places places'
unfolding unpack_answer
unpack_question_lem n packed places places' = three (leb n places) (leb n places') (leb n (length packed)) (list_all stores_column (take n packed))

-- ── what stands where no question is missed ─────────────────────────────────────────────────

pub rooms : (n places places' room : ℕ) → roomy n places places' room ≡ true → Rooms n places places' room
rooms n places places' room e =
    let (rows, third) = (and-eq-true_iff (leb n places && leb n places') (leb n room)).0 e in
    let (first, second) = (and-eq-true_iff (leb n places) (leb n places')).0 rows in
    record { first = leb-true n places first; second = leb-true n places' second; third = leb-true n room third }

pub room_of : {n places places' room : ℕ} → Rooms n places places' room → roomy n places places' room ≡ true
room_of {n} {places} {places'} {room} h = ap₂ ◌&&◌ (ap₂ ◌&&◌ (le-leb n places h.first) (le-leb n places' h.second)) (le-leb n room h.third)

-- both questions are met, where it is done
pub met : (room good : Bool) → answered room good ≡ Ok tt → (room ≡ true) × (good ≡ true)
met true true e = (refl, refl)
met true false e = absurd (omega (arith, ap number_of e))
met false good e = absurd (omega (arith, ap number_of e))

-- a buffer, where it is done
pub changed : (a : Answer) (bytes buffer : List ℕ) (n : ℕ) → a ≡ Ok tt → length bytes ≡ n → left a bytes buffer ≡ bytes ++ drop n buffer
changed a bytes buffer n e l = ap (λ (b : Answer). left b bytes buffer) e ∙ ap (λ (m : ℕ). bytes ++ drop m buffer) l

-- bytes and more
longer : (bytes more : List ℕ) (n : ℕ) → length bytes ≡ n → n ≤ length (bytes ++ more)
longer bytes more n e = omega (arith, length-append bytes more)

-- the columns of two rows and their bytes, in a buffer
packs : (n : ℕ) (k l packed : List ℕ) → Rooms n (length k) (length l) (length packed) → packable n k l ≡ true
    → Packs n k l (packed_columns n k l ++ drop (length (packed_columns n k l)) packed)
packs n k l packed h e =
    let (k_good, l_good) = (and-eq-true_iff (list_all stores_digit (take n k)) (list_all stores_digit (take n l))).0 e in
    let small = digits_small n k l h.first h.second k_good l_good in
    let taken : take n (packed_columns n k l ++ drop (length (packed_columns n k l)) packed) ≡ packed_columns n k l =
    take_at (packed_columns n k l) (drop (length (packed_columns n k l)) packed) n (packed_length n k l h.first h.second)
    in
    record {
      k_long = h.first;
      l_long = h.second;
      packed_long = longer (packed_columns n k l) (drop (length (packed_columns n k l)) packed) n (packed_length n k l h.first h.second);
      small = small;
      low = ap (list_all stores_column) taken ∙ columns_low small;
      bytes = taken;
      columns = sym (ap (map column_of_byte) taken ∙ columns_back small);
    }

-- the bytes of a buffer and their columns, in two rows
unpacks : (n : ℕ) (packed k l : List ℕ) → Rooms n (length k) (length l) (length packed) → unpackable n packed ≡ true
    → Packs n (unpacked_row P n packed ++ drop (length (unpacked_row P n packed)) k) (unpacked_row Q n packed ++ drop (length (unpacked_row Q n packed)) l) packed
unpacks n packed k l h e =
    let cs : List Column = map column_of_byte (take n packed) in
    let small = bytes_small (take n packed) e in
    let many : length cs ≡ n = length-map (take n packed) column_of_byte ∙ length-take-le n packed h.third in
    let k_after : List ℕ = drop (length (unpacked_row P n packed)) k in
    let l_after : List ℕ = drop (length (unpacked_row Q n packed)) l in
    let read : columns_below n (unpacked_row P n packed ++ k_after) (unpacked_row Q n packed ++ l_after) ≡ cs =
    ap (λ (m : ℕ). columns_below m (unpacked_row P n packed ++ k_after) (unpacked_row Q n packed ++ l_after)) (sym many) ∙ columns_read k_after l_after small
    in
    record {
      k_long = longer (unpacked_row P n packed) k_after n (unpacked_length P n packed h.third);
      l_long = longer (unpacked_row Q n packed) l_after n (unpacked_length Q n packed h.third);
      packed_long = h.third;
      small = subst (Small two) (sym read) small;
      low = e;
      bytes = sym (ap (map byte_of_column) read ∙ bytes_back (take n packed));
      columns = read;
    }

-- the promise, from what holds where both questions are met
kept : (room good : Bool) (n : ℕ) (k l packed : Answer → List ℕ) → (room ≡ true → good ≡ true → Packs n (k (Ok tt)) (l (Ok tt)) (packed (Ok tt)))
    → OnOk (answered room good) (Packs n (k (answered room good)) (l (answered room good)) (packed (answered room good)))
kept true true n k l packed h = h refl refl
kept true false n k l packed h = tt
kept false good n k l packed h = tt

pub pack_promised : (n : ℕ) (k l packed : List ℕ) → OnOk (pack_answer n k l (length packed)) (Packs n k l (pack_buffer n k l packed))
unfolding pack_answer pack_buffer
pack_promised n k l packed =
    kept (roomy n (length k) (length l) (length packed)) (packable n k l) n (λ _. k) (λ _. l) (λ a. left a (packed_columns n k l) packed)
    (λ r g. packs n k l packed (rooms n (length k) (length l) (length packed) r) g)

pub unpack_promised : (n : ℕ) (packed k l : List ℕ)
    → OnOk (unpack_answer n packed (length k) (length l)) (Packs n (unpack_buffer P n packed k l) (unpack_buffer Q n packed k l) packed)
unfolding unpack_answer unpack_buffer
unpack_promised n packed k l =
    kept (roomy n (length k) (length l) (length packed)) (unpackable n packed) n
    (λ a. left a (unpacked_row P n packed) k) (λ a. left a (unpacked_row Q n packed) l) (λ _. packed)
    (λ r g. unpacks n packed k l (rooms n (length k) (length l) (length packed) r) g)
