-- What the call for a joint form with its codes answers and leaves in the four buffers it is lent, for all input; and what it promises
-- of the codes that stand there.
pub mod Returned
use Rattle.std.specs.Prelude.{◌≡◌, Bool, ◌&&◌, cond, List, [], ◌∷◌, ◌++◌, ℕ, ◌-◌, max, ℤ, pos, length, get_or, replicate, Ok, Err}
use Rattle.digits.specs.Buffer.{row_below, columns_below}
use Rattle.digits.specs.declared.limits.Limits.{Limits}
use Rattle.digits.specs.Missed.{missed}
use Rattle.digits.specs.Scalar.{signed_scalar, sized}
use Rattle.digits.specs.Two.{Two, other, of}
use Rattle.forms.specs.Codes.{Leaves, remainder, Held, digit_by, codes}
use Rattle.digits.specs.declared.missed.Missed.TheVariants.{NoRoom}
use Rattle.recode.specs.Call.{Recoded, roomy, left, joint_answer, JointOf}
use Rattle.recode.specs.Call.Joint.{digits_of}

-- the questions: 1 of both scalars; 3 of both rows; then 3 of both code buffers, by the longer scalar
abbrev pub codes_question : Limits → List ℕ → List ℕ → ℕ → ℕ → ℕ → ℕ → ℕ
codes_question limits s t places places' room room' =
    let longer : ℕ = max (length s) (length t) in
    missed ((1, sized limits s) ∷ (1, sized limits t)
    ∷ (3, roomy longer places) ∷ (3, roomy longer places')
    ∷ (3, roomy longer room) ∷ (3, roomy longer room') ∷ [])

-- an answer that stands only where there is room for the codes too
abbrev pub if_roomy : Bool → Recoded → Recoded
if_roomy met (Ok w) = cond met (Ok w) (Err NoRoom)
if_roomy met (Err e) = Err e

-- the answer: that of a joint form, where the code buffers are roomy
unfoldable pub codes_answer : Limits → List ℕ → ℕ → List ℕ → ℕ → ℕ → ℕ → ℕ → ℕ → Recoded
codes_answer limits s s_sign t t_sign places places' room room' =
    if_roomy (roomy (max (length s) (length t)) room && roomy (max (length s) (length t)) room') (joint_answer limits s s_sign t t_sign places places')

-- the codes of one row of the joint form of two scalars
abbrev pub codes_of : Two → List ℕ → ℕ → List ℕ → ℕ → List ℕ
codes_of r s s_sign t t_sign = codes (signed_scalar s s_sign) (signed_scalar t t_sign) r

-- a buffer with the codes from place 0 on, and 0 at the unused places
abbrev pub coded : List ℕ → List ℕ → List ℕ
coded ns buffer = ns ++ replicate (length buffer - length ns) 0

-- a code buffer after a call: with the codes, or as lent where a question was missed
abbrev pub left_codes : Recoded → List ℕ → List ℕ → List ℕ
left_codes (Ok w) ns buffer = coded ns buffer
left_codes (Err e) ns buffer = buffer

module _ (limits : Limits) (r : Two) (s : List ℕ) (s_sign : ℕ) (t : List ℕ) (t_sign : ℕ) (k l k_codes l_codes : List ℕ) where
  -- one of the two digit buffers
  unfoldable pub codes_digits : List ℕ
  codes_digits = left (codes_answer limits s s_sign t t_sign (length k) (length l) (length k_codes) (length l_codes)) (digits_of r s s_sign t t_sign) (of k l r)

  -- one of the two code buffers
  unfoldable pub codes_buffer : List ℕ
  codes_buffer =
      left_codes (codes_answer limits s s_sign t t_sign (length k) (length l) (length k_codes) (length l_codes)) (codes_of r s s_sign t t_sign) (of k_codes l_codes r)

-- what is promised of the codes ns of two rows ds for k and l, at every place i, also above the top
pub record CodesOf (k l : ℤ) (ds : Two → List ℤ) (ns : Two → List ℕ) : Type 0 where
  -- the number is the digits below and 2^i times the remainder
  pub leaves : (r : Two) (i : ℕ) → Leaves (of k l r) (ds r) i (remainder (of k l r) (ds r) i)
  -- the code is the one whose condition holds of the remainders
  pub held : (r : Two) (i : ℕ) → Held (remainder (of k l r) (ds r) i) (remainder (of k l (other r)) (ds (other r)) i) (get_or (ns r) i 0)
  -- the digit follows from its code and the remainder
  pub follows : (r : Two) (i : ℕ) → get_or (ds r) i (pos 0) ≡ digit_by (get_or (ns r) i 0) (remainder (of k l r) (ds r) i)

-- where n places were written, the columns below n are those of a joint form, and the code buffers hold their codes
abbrev pub CodesPromised : ℤ → ℤ → Recoded → List ℕ → List ℕ → List ℕ → List ℕ → Type 0
CodesPromised k l (Ok w) buffer buffer' ns ns' =
    JointOf k l w.weight (columns_below w.length buffer buffer') × CodesOf k l (λ r. row_below w.length (of buffer buffer' r)) (of ns ns')
CodesPromised k l (Err e) buffer buffer' ns ns' = Unit {0}
