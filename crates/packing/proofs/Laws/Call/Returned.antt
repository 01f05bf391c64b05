-- What packing and unpacking return and leave is what their contracts ask for, in each of the three cases: done, 12 missed, 3 missed.
use Rattle.std.specs.Prelude.{◌≡◌, Bool, true, false, List, ◌++◌, ℕ, length, drop, Ok, Err}
use Rattle.std.proofs.Math.Path.{refl, sym, ap, ap₂}
use Rattle.std.proofs.Common.{subst, ◌∙◌}
use Rattle.digits.specs.Missed.{number_of}
use Rattle.digits.specs.Two.{P, Q}
use Rattle.digits.specs.declared.missed.Missed.TheVariants.{NoRoom, BadColumn}
use Rattle.packing.specs.Packing.{packed_columns, unpacked_row}
use Rattle.packing.specs.Packing.Places.{packed_length, unpacked_length}
use Rattle.packing.specs.Call.{
  Answer,
  roomy,
  answered,
  left,
  packable,
  pack_question,
  pack_answer,
  pack_buffer,
  unpackable,
  unpack_question,
  unpack_answer,
  unpack_buffer,
  Promised,
}
use Rattle.packing.proofs.Laws.Call.Standing.{rooms, changed, pack_question_lem, pack_promised, unpack_question_lem, unpack_promised}

-- packing
module _ (n : ℕ) (k l packed : List ℕ) where
  -- the answer and the buffer, what is promised, and the question
  abbrev pub PackReturns : Answer → List ℕ → Type 0
  PackReturns a after =
      (a ≡ pack_answer n k l (length packed)) × ((after ≡ pack_buffer n k l packed) × (Promised n a k l after × (number_of a ≡ pack_question n k l (length packed))))

  pack_returns : {a : Answer} {after : List ℕ} → a ≡ pack_answer n k l (length packed) → after ≡ pack_buffer n k l packed → PackReturns a after
  pack_returns {a} {after} e f = (
    e,
    (
      f,
      (
        subst (λ (b : Answer). Promised n b k l after) (sym e) (subst (Promised n (pack_answer n k l (length packed)) k l) (sym f) (pack_promised n k l packed)),
        ap number_of e ∙ pack_question_lem n k l (length packed),
      ),
    ),
  )

  -- a refusal leaves the buffer
  refuses : (a : Answer) → a ≡ pack_answer n k l (length packed) → left a (packed_columns n k l) packed ≡ packed → PackReturns a packed
  unfolding pack_buffer
  refuses a e f = pack_returns e (sym f ∙ ap (λ (b : Answer). left b (packed_columns n k l) packed) e)

  module _ (roomy_is : roomy n (length k) (length l) (length packed) ≡ true) where
    pub pack_done : {after : List ℕ} → packable n k l ≡ true → after ≡ packed_columns n k l ++ drop n packed → PackReturns (Ok tt) after
    unfolding pack_answer pack_buffer
    pack_done g f =
        let h = rooms n (length k) (length l) (length packed) roomy_is in
        let done : pack_answer n k l (length packed) ≡ Ok tt = ap₂ answered roomy_is g in
        pack_returns (sym done)
        (f ∙ sym (changed (pack_answer n k l (length packed)) (packed_columns n k l) packed n done (packed_length n k l h.first h.second)))

    pub pack_bad : packable n k l ≡ false → PackReturns (Err BadColumn) packed
    unfolding pack_answer
    pack_bad g = refuses (Err BadColumn) (sym (ap₂ answered roomy_is g)) refl

  pub pack_short : roomy n (length k) (length l) (length packed) ≡ false → PackReturns (Err NoRoom) packed
  unfolding pack_answer
  pack_short e = refuses (Err NoRoom) (sym (ap (λ (room : Bool). answered room (packable n k l)) e)) refl

-- unpacking
module _ (n : ℕ) (packed k l : List ℕ) where
  abbrev pub UnpackReturns : Answer → List ℕ → List ℕ → Type 0
  UnpackReturns a k_after l_after =
      (a ≡ unpack_answer n packed (length k) (length l))
      × ((k_after ≡ unpack_buffer P n packed k l)
      × ((l_after ≡ unpack_buffer Q n packed k l)
      × (Promised n a k_after l_after packed × (number_of a ≡ unpack_question n packed (length k) (length l)))))

  unpack_returns : {a : Answer} {k_after l_after : List ℕ} → a ≡ unpack_answer n packed (length k) (length l)
      → k_after ≡ unpack_buffer P n packed k l → l_after ≡ unpack_buffer Q n packed k l → UnpackReturns a k_after l_after
  unpack_returns {a} {k_after} {l_after} e f g =
      let answer = unpack_answer n packed (length k) (length l) in
      let promised = unpack_promised n packed k l in (
        e,
        (
          f,
          (
            g,
            (
              subst (λ (b : Answer). Promised n b k_after l_after packed) (sym e)
                  (subst (λ (s : List ℕ). Promised n answer s l_after packed) (sym f)
                  (subst (λ (s : List ℕ). Promised n answer (unpack_buffer P n packed k l) s packed) (sym g) promised)),
              ap number_of e ∙ unpack_question_lem n packed (length k) (length l),
            ),
          ),
        ),
      )

  -- a refusal leaves both rows
  leaves : (a : Answer) → a ≡ unpack_answer n packed (length k) (length l) → ((bytes buffer : List ℕ) → left a bytes buffer ≡ buffer) → UnpackReturns a k l
  unfolding unpack_buffer
  leaves a e f =
      unpack_returns e
      (sym (f (unpacked_row P n packed) k) ∙ ap (λ (b : Answer). left b (unpacked_row P n packed) k) e)
      (sym (f (unpacked_row Q n packed) l) ∙ ap (λ (b : Answer). left b (unpacked_row Q n packed) l) e)

  module _ (roomy_is : roomy n (length k) (length l) (length packed) ≡ true) where
    pub unpack_done : {k_after l_after : List ℕ} → unpackable n packed ≡ true
        → (k_after ≡ unpacked_row P n packed ++ drop n k) × (l_after ≡ unpacked_row Q n packed ++ drop n l) → UnpackReturns (Ok tt) k_after l_after
    unfolding unpack_answer unpack_buffer
    unpack_done g (e, f) =
        let h = rooms n (length k) (length l) (length packed) roomy_is in
        let done : unpack_answer n packed (length k) (length l) ≡ Ok tt = ap₂ answered roomy_is g in
        unpack_returns (sym done)
        (e ∙ sym (changed (unpack_answer n packed (length k) (length l)) (unpacked_row P n packed) k n done (unpacked_length P n packed h.third)))
        (f ∙ sym (changed (unpack_answer n packed (length k) (length l)) (unpacked_row Q n packed) l n done (unpacked_length Q n packed h.third)))

    pub unpack_bad : unpackable n packed ≡ false → UnpackReturns (Err BadColumn) k l
    unfolding unpack_answer
    unpack_bad g = leaves (Err BadColumn) (sym (ap₂ answered roomy_is g)) (λ bytes buffer. refl)

  pub unpack_short : roomy n (length k) (length l) (length packed) ≡ false → UnpackReturns (Err NoRoom) k l
  unfolding unpack_answer
  unpack_short e = leaves (Err NoRoom) (sym (ap (λ (room : Bool). answered room (unpackable n packed)) e)) (λ bytes buffer. refl)
