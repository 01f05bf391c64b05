-- Samples, by computation: the sheet of 01 for 7, 2 is accepted, with its additions untrue it is not, and tables of sheets with
-- their answers, on the card and at the gateway.
use Rattle.std.specs.Prelude.{◌≡◌, refl, List, [], ◌∷◌, map, ℕ, zero, suc, pos, negsuc}
use Prim.Native.String.{String, ◌++◌}
use Rattle.digits.specs.declared.limits.Limits.{Limits}
use Rattle.digits.specs.Limits.{card, gateway}
use Rattle.sheet.specs.Ascii.{ascii}
use Rattle.sheet.specs.Plan.{odds}
use Rattle.sheet.specs.Numeral.{figures, followed, number}
use Rattle.sheet.specs.Spelling.{cut, read_point, read_header, read_behind, read_line, read_lines, lines}
use Rattle.sheet.specs.Questions.{
  too_long,
  after_load,
  after_header,
  misplaced,
  table_lines,
  differs,
  off_plan,
  disallowed_from,
  disallowed,
  excess_from,
  excess,
  additions,
  doublings,
  miscounted,
  held,
  result,
  wrong,
}
use Rattle.sheet.specs.Answer.{Answer, accepted, refused, judged, answer, Accepted}

-- the answer, with every definition that it computes by
unfoldable pub computed : Limits → List ℕ → Answer
unfolding figures followed number odds cut read_point read_header read_behind read_line read_lines lines too_long after_load after_header misplaced table_lines differs off_plan disallowed_from disallowed excess_from excess additions doublings miscounted held result wrong judged answer
computed limits s = answer limits s

-- what order `7,2,0` to the order program prints, whole
abbrev pub sheet : List ℕ
sheet = ascii "S,I,1,1,0,2,3,7,2\nL,1,0\nD\nD\nA,0,1\nD\nA,-1,0\nE\n"

pub sample : Accepted card sheet (pos 7) (pos 2)
unfolding computed
sample = record { met = refl; carries_k = refl; carries_l = refl }

-- the same with one addition too many in its header
abbrev pub untrue : List ℕ
untrue = ascii "S,I,1,1,0,3,3,7,2\nL,1,0\nD\nD\nA,0,1\nD\nA,-1,0\nE\n"

pub sample_untrue : answer card untrue ≡ refused 10 1
unfolding computed
sample_untrue = refl

-- for −7, 2 each digit of P has the other sign
abbrev pub negative : List ℕ
negative = ascii "S,I,1,1,0,2,3,-7,2\nL,-1,0\nD\nD\nA,0,1\nD\nA,1,0\nE\n"

pub sample_negative : Accepted card negative (negsuc 6) (pos 2)
unfolding computed
sample_negative = record { met = refl; carries_k = refl; carries_l = refl }

-- a text n times
unfoldable pub times : ℕ → String → String
times zero s = ""
times (suc n) s = s ++ times n s

-- sheets with the card's answers
abbrev pub cases : List (String × Answer)
cases =
    -- nothing at all; a line behind E; a last line without its line feed
    ("", refused 6 1)
    ∷ ("S,I,1,1,0,0,0,0,0\nE\nE\n", refused 6 3)
    ∷ ("S,I,1,1,0,0,0,0,0\nE", refused 6 2)
    -- no E behind S, behind T lines, behind L, behind the steps: one past the last line
    ∷ ("S,I,1,1,0,0,0,0,0\n", refused 6 2)
    ∷ ("S,I,3,1,2,1,1,0,0\nT,2,0\nT,3,0\n", refused 6 4)
    ∷ ("S,I,1,1,0,0,0,1,0\nL,1,0\n", refused 6 3)
    ∷ ("S,I,1,1,0,1,1,3,0\nL,1,0\nD\nA,1,0\n", refused 6 5)
    -- no step, with k = l = 0 and with k = 1
    ∷ ("S,I,1,1,0,0,0,0,0\nE\n", accepted)
    ∷ ("S,I,1,1,0,0,0,1,0\nE\n", refused 11 1)
    -- a carriage return, leading zeros, a plus, three figures, -0, upper case
    ∷ ("S,I,1,1,0,0,0,0,0\nE\r\n", refused 6 2)
    ∷ ("S,I,01,1,0,0,0,0,0\nE\n", refused 6 1)
    ∷ ("S,I,1,1,0,0,0,00,0\nE\n", refused 6 1)
    ∷ ("S,I,1,1,0,0,0,1,0\nL,+1,0\nE\n", refused 6 2)
    ∷ ("S,I,1,1,0,0,0,1,0\nL,100,0\nE\n", refused 6 2)
    ∷ ("S,I,1,1,0,0,0,1,0\nL,1,-0\nE\n", refused 6 2)
    ∷ ("S,I,1,1,0,0,0,A,0\nL,1,0\nE\n", refused 6 1)
    -- in the header: a decimal of four figures, of five; a scalar of 132 figures, of 133
    ∷ ("S,I,1,1,0,0,9999,0,0\nE\n", refused 10 1)
    ∷ ("S,I,1,1,0,0,10000,0,0\nE\n", refused 6 1)
    ∷ ("S,I,1,1,0,0,0," ++ times 132 "f" ++ ",0\nE\n", refused 11 1)
    ∷ ("S,I,1,1,0,0,0," ++ times 133 "f" ++ ",0\nE\n", refused 6 1)
    -- a minus before a scalar: its figures are 132 without it; -0, two minuses, none but a minus, one behind a zero
    ∷ ("S,I,1,1,0,0,0,-1,0\nL,-1,0\nE\n", accepted)
    ∷ ("S,I,1,1,0,0,0,0,-1\nL,0,-1\nE\n", accepted)
    ∷ ("S,I,1,1,0,0,0,-" ++ times 132 "f" ++ ",0\nE\n", refused 11 1)
    ∷ ("S,I,1,1,0,0,0,-" ++ times 133 "f" ++ ",0\nE\n", refused 6 1)
    ∷ ("S,I,1,1,0,0,0,-0,0\nE\n", refused 6 1)
    ∷ ("S,I,1,1,0,0,0,0,-0\nE\n", refused 6 1)
    ∷ ("S,I,1,1,0,0,0,--1,0\nL,-1,0\nE\n", refused 6 1)
    ∷ ("S,I,1,1,0,0,0,-,0\nE\n", refused 6 1)
    ∷ ("S,I,1,1,0,0,0,-01,0\nL,-1,0\nE\n", refused 6 1)
    ∷ ("S,I,1,-1,0,0,0,0,0\nE\n", refused 6 1)
    -- no S, two S, an A before L, two L, a T behind L
    ∷ ("E\n", refused 6 1)
    ∷ ("S,I,1,1,0,0,0,0,0\nS,I,1,1,0,0,0,0,0\nE\n", refused 6 2)
    ∷ ("S,I,1,1,0,1,0,1,0\nA,1,0\nE\n", refused 6 2)
    ∷ ("S,I,1,1,0,0,0,1,0\nL,1,0\nL,1,0\nE\n", refused 6 3)
    ∷ ("S,I,3,1,2,1,1,1,0\nT,2,0\nL,1,0\nT,3,0\nE\n", refused 6 4)
    -- an even window, one beyond 31, a window of J other than 1
    ∷ ("S,I,2,1,0,0,0,1,0\nL,1,0\nE\n", refused 7 1)
    ∷ ("S,I,33,1,17,0,0,1,0\nL,1,0\nE\n", refused 7 1)
    ∷ ("S,J,1,3,2,2,0,0,0\nT,1,1\nT,1,-1\nE\n", refused 7 1)
    -- slots without the working double's place, and with one for each window; one for windows 1, 1
    ∷ ("S,I,3,1,1,1,1,1,0\nT,2,0\nT,3,0\nL,1,0\nE\n", refused 7 1)
    ∷ ("S,I,5,3,3,3,2,5,0\nT,2,0\nT,3,0\nT,5,0\nT,0,2\nT,0,3\nL,5,0\nE\n", refused 7 1)
    ∷ ("S,I,5,3,5,3,2,5,0\nT,2,0\nT,3,0\nT,5,0\nT,0,2\nT,0,3\nL,5,0\nE\n", refused 7 1)
    ∷ ("S,I,1,1,1,0,0,1,0\nL,1,0\nE\n", refused 7 1)
    -- T lines whole, out of order, one missing, one extra; of Q alone
    ∷ ("S,I,3,1,2,1,1,3,0\nT,2,0\nT,3,0\nL,3,0\nE\n", accepted)
    ∷ ("S,I,3,1,2,1,1,3,0\nT,3,0\nT,2,0\nL,3,0\nE\n", refused 7 2)
    ∷ ("S,I,3,1,2,0,1,3,0\nT,2,0\nL,3,0\nE\n", refused 7 3)
    ∷ ("S,I,3,1,2,1,2,3,0\nT,2,0\nT,3,0\nT,0,2\nL,3,0\nE\n", refused 7 4)
    ∷ ("S,I,1,3,2,1,1,0,3\nT,0,2\nT,0,3\nL,0,3\nE\n", accepted)
    -- T lines of two windows: P's and then Q's, Q's first, one of each exchanged
    ∷ ("S,I,5,3,4,3,2,5,0\nT,2,0\nT,3,0\nT,5,0\nT,0,2\nT,0,3\nL,5,0\nE\n", accepted)
    ∷ ("S,I,5,3,4,3,2,5,0\nT,0,2\nT,0,3\nT,2,0\nT,3,0\nT,5,0\nL,5,0\nE\n", refused 7 2)
    ∷ ("S,I,5,3,4,3,2,5,0\nT,2,0\nT,3,0\nT,0,2\nT,5,0\nT,0,3\nL,5,0\nE\n", refused 7 4)
    -- T lines of J: whole, out of order, none at all
    ∷ ("S,J,1,1,2,2,0,1,1\nT,1,1\nT,1,-1\nL,1,1\nE\n", accepted)
    ∷ ("S,J,1,1,2,2,0,1,1\nT,1,-1\nT,1,1\nL,1,1\nE\n", refused 7 2)
    ∷ ("S,J,1,1,2,0,0,0,0\nE\n", refused 7 2)
    -- digits both 0, even, beyond the window, for both P and Q
    ∷ ("S,J,1,1,2,2,0,0,0\nT,1,1\nT,1,-1\nL,0,0\nE\n", refused 8 4)
    ∷ ("S,I,1,1,0,0,0,2,0\nL,2,0\nE\n", refused 8 2)
    ∷ ("S,I,1,1,0,0,0,3,0\nL,3,0\nE\n", refused 8 2)
    ∷ ("S,I,1,1,0,0,0,1,1\nL,1,1\nE\n", refused 8 2)
    -- at one place: P then Q, Q then P, two joint steps
    ∷ ("S,I,1,1,0,1,0,1,1\nL,1,0\nA,0,1\nE\n", accepted)
    ∷ ("S,I,1,1,0,1,0,1,1\nL,0,1\nA,1,0\nE\n", refused 8 3)
    ∷ ("S,J,1,1,2,3,0,1,1\nT,1,1\nT,1,-1\nL,1,0\nA,0,1\nE\n", refused 8 5)
    -- 528 D lines; 529, of which the last is at fault; 530, of which the last but one is
    ∷ ("S,I,1,1,0,1,528," ++ times 132 "f" ++ ",0\nL,1,0\n" ++ times 528 "D\n" ++ "A,-1,0\nE\n", accepted)
    ∷ ("S,I,1,1,0,1,529," ++ times 132 "f" ++ ",0\nL,1,0\n" ++ times 529 "D\n" ++ "A,-1,0\nE\n", refused 9 531)
    ∷ ("S,I,1,1,0,1,530," ++ times 132 "f" ++ ",0\nL,1,0\n" ++ times 530 "D\n" ++ "A,-1,0\nE\n", refused 9 531)
    -- table additions left out, the load counted as an addition
    ∷ ("S,J,1,1,2,0,0,1,0\nT,1,1\nT,1,-1\nL,1,0\nE\n", refused 10 1)
    ∷ ("S,I,1,1,0,1,0,1,0\nL,1,0\nE\n", refused 10 1)
    -- the result off in l, and in sign
    ∷ ("S,I,1,1,0,0,0,1,1\nL,1,0\nE\n", refused 11 1)
    ∷ ("S,I,1,1,0,0,0,1,0\nL,-1,0\nE\n", refused 11 1)
    ∷ ("S,I,1,1,0,0,0,-1,0\nL,1,0\nE\n", refused 11 1)
    ∷ ("S,I,1,1,0,2,3,-7,2\nL,1,0\nD\nD\nA,0,1\nD\nA,-1,0\nE\n", refused 11 1)
    -- digits that are not ours: 1, −1, −1 for 1
    ∷ ("S,I,1,1,0,2,2,1,0\nL,1,0\nD\nA,-1,0\nD\nA,-1,0\nE\n", accepted)
    -- several faults: the first question decides, not the first line
    ∷ ("S,I,1,1,9,9,9,9,9\nL,2,0\nD\nX\n", refused 6 4)
    ∷ ("S,I,1,1,0,9,9,9,9\nL,1,0\nD\nA,2,0\nE\n", refused 8 4)
    -- 16,384 bytes and 16,385, misspelled from the first line on
    ∷ (times 16384 "\n", refused 6 1)
    ∷ (times 16385 "\n", refused 5 0)
    -- 6 and 7 missed, 7 and 8, 8 and 9, 9 and 10, 10 and 11: the lower number answers, though its line comes no sooner
    ∷ ("S,I,1,1,1,0,0,1,0\nL,1,0\nE\nE\n", refused 6 4)
    ∷ ("S,I,3,1,2,0,1,2,0\nT,2,0\nL,2,0\nE\n", refused 7 3)
    ∷ ("S,I,1,1,0,2,529," ++ times 131 "f" ++ "e,0\nL,1,0\nD\nA,-1,0\n" ++ times 528 "D\n" ++ "A,-2,0\nE\n", refused 8 533)
    ∷ ("S,I,1,1,0,2,528," ++ times 132 "f" ++ ",0\nL,1,0\nD\nA,-1,0\n" ++ times 528 "D\n" ++ "A,-1,0\nE\n", refused 9 532)
    ∷ ("S,I,1,1,0,1,0,1,1\nL,1,0\nE\n", refused 10 1)
    -- two faults under one question: the first line
    ∷ ("S,I,1,1,0,0,0,0,0\nD\nX\nE\n", refused 6 2)
    ∷ ("S,I,5,1,2,2,1,1,0\nT,2,0\nT,5,0\nT,3,0\nL,1,0\nE\n", refused 7 1)
    ∷ ("S,I,5,1,3,2,1,1,0\nT,2,0\nT,5,0\nT,3,0\nL,1,0\nE\n", refused 7 3)
    ∷ ("S,I,1,1,0,1,1,6,0\nL,2,0\nD\nA,2,0\nE\n", refused 8 2)
    ∷ []

pub samples : map (λ c. answer card (ascii c.0)) cases ≡ map (λ c. c.1) cases
unfolding times computed
samples = refl

-- sheets with the gateway's answers
abbrev pub gateway_cases : List (String × Answer)
gateway_cases =
    -- what the card accepts; scalars of 133 figures, of 256, of 257, of 256 and a minus
    ("S,I,1,1,0,2,3,7,2\nL,1,0\nD\nD\nA,0,1\nD\nA,-1,0\nE\n", accepted)
    ∷ ("S,I,1,1,0,1,532," ++ times 133 "f" ++ ",0\nL,1,0\n" ++ times 532 "D\n" ++ "A,-1,0\nE\n", accepted)
    ∷ ("S,I,1,1,0,0,0," ++ times 256 "f" ++ ",0\nE\n", refused 11 1)
    ∷ ("S,I,1,1,0,0,0," ++ times 257 "f" ++ ",0\nE\n", refused 6 1)
    ∷ ("S,I,1,1,0,0,0,-" ++ times 256 "f" ++ ",0\nE\n", refused 11 1)
    -- 1,024 D lines; 1,025, of which the last is at fault
    ∷ ("S,I,1,1,0,1,1024," ++ times 256 "f" ++ ",0\nL,1,0\n" ++ times 1024 "D\n" ++ "A,-1,0\nE\n", accepted)
    ∷ ("S,I,1,1,0,1,1025," ++ times 256 "f" ++ ",0\nL,1,0\n" ++ times 1025 "D\n" ++ "A,-1,0\nE\n", refused 9 1027)
    -- 32,768 bytes and 32,769, misspelled from the first line on
    ∷ (times 32768 "\n", refused 6 1)
    ∷ (times 32769 "\n", refused 5 0)
    ∷ []

pub gateway_samples : map (λ c. answer gateway (ascii c.0)) gateway_cases ≡ map (λ c. c.1) gateway_cases
unfolding times computed
gateway_samples = refl
