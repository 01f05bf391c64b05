-- What each return of the call gives: its clause for the answer, for the buffer, for the promise and for the question.
use Rattle.std.specs.Prelude.{◌≡◌, ◌≢◌, Bool, cond, List, ℕ, ◌*◌, ◌^◌, ◌≤◌, ◌<◌, ltb, leb, length, Ok, Err}
use Rattle.std.proofs.Math.Path.{refl}
use Rattle.std.proofs.Common.{sym, subst, lt_of_lt_of_le, pow_mono}
use Rattle.std.proofs.Math.Bool.{true, false}
use borrow.Author.Tests.{lt-ltb, le-leb, eq-eqb, ltb-true, leb-true}
use Rattle.digits.specs.Limits.{card, bits}
use Rattle.digits.specs.Scalar.{scalar}
use Rattle.digits.specs.Scalar.Sized.{both}
use Rattle.digits.specs.Scalar.Value.{bytes_power}
use Rattle.dearest.specs.Bytes.{in_bytes}
use Rattle.dearest.specs.Bytes.Scalar.{bytes_length, bytes_scalar}
use Rattle.dearest.specs.Call.{number, is_size, is_room, dearest_answer, left, dearest_buffer, Fills}
use Rattle.dearest.specs.Dearest.{most, dearest, Heaviest}
use Rattle.dearest.proofs.Laws.Dearest.Tried.{dearest_meets}
use Rattle.digits.specs.declared.missed.Missed.TheVariants.{NoRoom, BadSize}
use Rattle.dearest.specs.Call.Returned.{Clauses}

-- a size within the bits of a card's scalar
pub size_is : (size : ℕ) → is_size size ≡ true → (1 ≤ size) × (size ≤ bits card)
size_is size e =
    let (a, b) = both (ltb 0 size) (leb size (bits card)) e in (ltb-true 0 size a, leb-true size (bits card) b)

is_size_lem : (size : ℕ) → 1 ≤ size → size ≤ bits card → is_size size ≡ true
is_size_lem size h g = rw (lt-ltb 0 size h, le-leb size (bits card) g)

-- a number of so many bits is again the scalar of its bytes
in_bytes_lem : (n size c : ℕ) → size ≤ 8 * n → c < 2 ^ size → scalar (in_bytes n c) ≡ c
in_bytes_lem n size c h l =
    bytes_scalar n c (subst (λ (p : ℕ). c < p) (sym (bytes_power n)) (lt_of_lt_of_le l (pow_mono h)))

fills : (size : ℕ) → is_size size ≡ true → Fills size (most size) (in_bytes card.bytes (dearest size))
fills size e =
    let d = dearest_meets size in
    record {
      long = bytes_length card.bytes (dearest size);
      heaviest = subst (λ (c : ℕ). Heaviest size c (most size)) (sym (in_bytes_lem card.bytes size (dearest size) (size_is size e).1 d.within)) d;
    }

module _ (size : ℕ) (buffer : List ℕ) where
  -- question 15 is missed
  pub bad_size : is_size size ≡ false → Clauses size buffer (Err BadSize) buffer
  unfolding dearest_answer dearest_buffer
  bad_size e = rw e (refl, (refl, (tt, refl)))

  -- question 3 is
  pub bad_room : is_size size ≡ true → is_room (length buffer) ≡ false → Clauses size buffer (Err NoRoom) buffer
  unfolding dearest_answer dearest_buffer
  bad_room e f = rw (e, f) (refl, (refl, (tt, refl)))

  -- none is
  pub found : (w : ℕ) (out : List ℕ) → is_size size ≡ true → is_room (length buffer) ≡ true → w ≡ most size → out ≡ in_bytes card.bytes (dearest size)
      → Clauses size buffer (Ok w) out
  unfolding dearest_answer dearest_buffer
  found w out e f g h = rw (e, f, g, h) (refl, (refl, (fills size e, refl)))

  -- so where both are met
  pub answered : 1 ≤ size → size ≤ bits card → length buffer ≡ card.bytes
      → (dearest_answer size (length buffer) ≡ Ok (most size)) × ((scalar (dearest_buffer size buffer) ≡ dearest size) × Fills size (most size) (dearest_buffer size buffer))
  unfolding dearest_answer dearest_buffer
  answered h g e =
      let f = is_size_lem size h g in
      rw (f, eq-eqb (length buffer) card.bytes e) (refl, (in_bytes_lem card.bytes size (dearest size) g (dearest_meets size).within, fills size f))

  -- and where one is missed
  pub refused : number (dearest_answer size (length buffer)) ≢ 0 → dearest_buffer size buffer ≡ buffer
  unfolding dearest_answer dearest_buffer
  refused = go (is_size size) (is_room (length buffer))
    where
      go : (a b : Bool) → number (cond a (cond b (Ok (most size)) (Err NoRoom)) (Err BadSize)) ≢ 0
          → left (cond a (cond b (Ok (most size)) (Err NoRoom)) (Err BadSize)) (in_bytes card.bytes (dearest size)) buffer ≡ buffer
      go true true ne = absurd (ne refl)
      go true false ne = refl
      go false b ne = refl
