-- The line that the reader program prints.
pub mod Held
use Rattle.std.specs.Prelude.{◌≡◌, List, ◌∷◌, ◌++◌, ℕ, ◌+◌, ◌≤◌, length, take, drop, replicate}
use Rattle.sheet.specs.Ascii.{ascii}
use Rattle.sheet.specs.Spelling.{decimal, comma}
use Rattle.sheet.specs.Answer.{Answer, accepted, refused}
use Rattle.reader.specs.declared.text.Text.{Text}

-- the line for an answer: `Y`, or `N,number,line`, each ended by a line feed
abbrev pub answer_line : Answer → List ℕ
answer_line accepted = ascii "Y\n"
answer_line (refused number line) = ascii "N," ++ decimal number ++ comma ∷ decimal line ++ ascii "\n"

-- the text is s, at the end of 64 bytes that are 0 before it
pub record Holds (t : Text) (s : List ℕ) : Type 0 where
  pub bytes_are : t.bytes ≡ replicate t.at 0 ++ s
  pub ends : t.at + length s ≡ 64

-- the text r is the text t with s in front; before it the bytes are as they were
pub record Before (t : Text) (s : List ℕ) (r : Text) : Type 0 where
  pub at : r.at + length s ≡ t.at
  pub is : drop r.at r.bytes ≡ s ++ drop t.at t.bytes
  pub front : take r.at r.bytes ≡ take r.at t.bytes
