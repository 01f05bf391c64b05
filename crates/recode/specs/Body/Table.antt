-- A table of the joint digits, with an entry for each pair of remainders by 8. One computed test goes over all of its entries,
-- and `table_digit` turns the test into the rule.
use Rattle.std.specs.Prelude.{◌≡◌, List, ℕ, ◌+◌, ◌*◌, ◌<◌, T, ℤ, pos, get_or}
use Rattle.std.proofs.Common.{sym, ◌∙◌, arith}
use Rattle.digits.specs.Integer.{rem}
use Rattle.digits.specs.Integer.Parts.{rem_lt}
use Rattle.forms.specs.Joint.{digit}
use Rattle.forms.proofs.Laws.Joint.Digit.{digit_rem}
use Rattle.forms.specs.Test.{Test, same, every_below}

-- the entry for the remainders x and y: eight entries for each x, one for each y
abbrev pub entry : List ℤ → ℕ → ℕ → ℤ
entry table x y = get_or table (8 * x + y) (pos 0)

-- each entry is the digit that every number with the first remainder takes beside every number with the second
pub record DigitTable (table : List ℤ) : Type 0 where
  pub is : (c o : ℤ) → entry table (rem c 8) (rem o 8) ≡ digit c o

-- the test: each entry is the digit of the one remainder beside the other
abbrev pub right : (table : List ℤ) → Test ((x : ℕ) → x < 8 → (y : ℕ) → y < 8 → entry table x y ≡ digit (pos x) (pos y))
right table = every_below 8 (λ x. every_below 8 (λ y. same (entry table x y) (digit (pos x) (pos y))))

-- a table that passes has the digits of all numbers
pub table_digit : (table : List ℤ) → T (right table).test → DigitTable table
table_digit table t =
    record {
      is = λ c o.
          (right table).tells t (rem c 8) (rem_lt c 8 (omega arith)) (rem o 8) (rem_lt o 8 (omega arith)) ∙ sym (digit_rem c o);
    }
