-- How many more slots would pay: the smallest larger limit at which the cheapest sheet has fewer additions. What the call for it answers, for
-- all input, and what it promises of accepted sheets.
use Rattle.std.specs.Prelude.{◌≡◌, ◌&&◌, cond, List, ℕ, zero, suc, ◌-◌, ◌≤◌, ◌<◌, ltb, ℤ, Result, Ok, Err}
use Rattle.std.specs.declared.option.Option.{Option}
use Rattle.std.specs.declared.option.Option.TheVariants.{Some, None}
use Rattle.digits.specs.declared.limits.Limits.{Limits}
use Rattle.digits.specs.Missed.{number_of}
use Rattle.digits.specs.declared.missed.Missed.{Missed}
use Rattle.digits.specs.declared.missed.Missed.TheVariants.{BadScalar, BadLimit}
use Rattle.digits.specs.Scalar.{signed_scalar, sized}
use Rattle.sheet.specs.Answer.{Accepted, sheet_slots, sheet_additions}
use Rattle.sheet.specs.Plan.{most_slots, is_limit}
use Rattle.written.specs.Written.{written_additions}
use Rattle.chooser.specs.declared.next.Pays.{Pays}
use Rattle.chooser.specs.Call.{Cheapest}
use Rattle.chooser.specs.Cheapest.{cheapest_plan, cheapest}

-- ── the limit ───────────────────────────────────────────────────────────────────────────────

-- the additions of the cheapest sheet at a limit
abbrev pub fewest : ℤ → ℤ → ℕ → ℕ
fewest k l limit = written_additions (cheapest_plan k l limit) k l

-- a limit that pays, and the additions there
abbrev pub paying : ℕ → ℕ → Option Pays
paying n a = Some (record { limit = n; additions = a })

-- f: the additions at each limit
module _ (f : ℕ → ℕ) where
  -- of so many limits from n on, the first with fewer than a additions, and these
  unfoldable pub first_below : ℕ → ℕ → ℕ → Option Pays
  first_below a n zero = None
  first_below a n (suc more) = cond (ltb (f n) a) (paying n (f n)) (first_below a (suc n) more)

  -- the same of all limits above one, up to 31, in words:
  pub data Next (limit : ℕ) : Option Pays → Type 0 where
    -- n is larger and at most 31, has fewer additions, and none between has
    pays : {n a : ℕ} → limit < n → n ≤ most_slots → f n ≡ a → a < f limit → ((i : ℕ) → limit < i → i < n → f limit ≤ f i) → Next limit (paying n a)
    -- or no larger one up to 31 has
    none : ((i : ℕ) → limit < i → i ≤ most_slots → f limit ≤ f i) → Next limit None

-- the smallest larger limit, up to 31, at which the cheapest sheet has fewer additions, and that number of additions
unfoldable pub next_limit : ℤ → ℤ → ℕ → Option Pays
next_limit k l limit = first_below (fewest k l) (fewest k l limit) (suc limit) (most_slots - limit)

-- ── the call ────────────────────────────────────────────────────────────────────────────────

-- what the call answers: the next limit that pays, if there is one, or the question missed
abbrev pub NextLimit : Type 0
NextLimit = Result (Option Pays) Missed

-- the number of the question missed, 0 where none is; the questions are `choice_question`
abbrev pub next_number : NextLimit → ℕ
next_number = number_of

-- the limit that pays, and its additions; 0 where none does
abbrev pub limit_told : NextLimit → ℕ
limit_told (Ok (Some p)) = p.limit
limit_told (Ok None) = 0
limit_told (Err e) = 0

abbrev pub additions_told : NextLimit → ℕ
additions_told (Ok (Some p)) = p.additions
additions_told (Ok None) = 0
additions_told (Err e) = 0

-- the answer: the first question missed, or the limit
unfoldable pub next_answer : Limits → List ℕ → ℕ → List ℕ → ℕ → ℕ → NextLimit
next_answer limits k k_sign l l_sign limit =
    cond (sized limits k && sized limits l)
    (cond (is_limit limit) (Ok (next_limit (signed_scalar k k_sign) (signed_scalar l l_sign) limit)) (Err BadLimit))
    (Err BadScalar)

-- at every limit from the asked one to the one before n, no accepted sheet within it has fewer additions than the cheapest at the asked one
abbrev pub NoneFewer : Limits → ℤ → ℤ → ℕ → ℕ → Type 0
NoneFewer limits k l limit n =
    (i : ℕ) → limit ≤ i → i < n → (t : List ℕ) → Accepted limits t k l → sheet_slots limits t ≤ i
    → sheet_additions limits (cheapest k l limit) ≤ sheet_additions limits t

-- what is promised of a limit n that pays with a additions
pub record Paying (limits : Limits) (k l : ℤ) (limit n a : ℕ) : Type 0 where
  pub larger : limit < n
  pub allowed : n ≤ most_slots
  pub none_sooner : NoneFewer limits k l limit n
  -- at n there is an accepted sheet with exactly a additions, and none within it has fewer (demand 3)
  pub there : Cheapest limits (cheapest k l n) k l n a
  pub fewer : a < sheet_additions limits (cheapest k l limit)

-- what the call promises: such a limit; or that at no limit from the asked one to 31 an accepted sheet has fewer additions
abbrev pub NextPromised : Limits → NextLimit → ℤ → ℤ → ℕ → Type 0
NextPromised limits (Ok (Some p)) k l limit = Paying limits k l limit p.limit p.additions
NextPromised limits (Ok None) k l limit = NoneFewer limits k l limit (suc most_slots)
NextPromised limits (Err e) k l limit = Unit {0}
