-- The text of the answer is written from its first byte on; and a sheet that is longer than the buffer is too long, as what the buffer holds of it is.
use Rattle.std.proofs.Common.{◌≡◌, ◌-◌, ◌≤◌, List, Option, Result, Ok, Err, OnOk, IfSome, ℕ, arith, length, take, drop, replicate, sym, ap, subst, ◌∙◌, length-take-le, drop_at}
use Rattle.std.proofs.Math.Decide.{dec_le}
use Rattle.std.proofs.lemmas.Bool.{lt-leb}
use Rattle.std.proofs.lemmas.List.{take_all, length-replicate}
use Rattle.std.proofs.lemmas.Option.{IfSome_then}
use Rattle.std.specs.Io.KnownBytes.{Appends}
use Rattle.digits.specs.Limits.{card}
use Rattle.sheet.specs.Questions.{too_long}
use Rattle.sheet.specs.Answer.{answer, refused}
use Rattle.reader.specs.declared.text.Text.{Text}
use Rattle.reader.specs.Text.{Holds, answer_line}
use Rattle.reader_main.proofs.print_verdict.Goals as goal

long_sheet : (s : List ℕ) → 16385 ≤ length s → answer card s ≡ refused 5 0
unfolding answer too_long
long_sheet s long = rw (lt-leb (length s) 16384 (omega arith))

answer_from_first : (s : List ℕ) → answer card (take 16385 s) ≡ answer card s
answer_from_first s = go (dec_le (length s) 16385)
  where
    go : Dec (length s ≤ 16385) → answer card (take 16385 s) ≡ answer card s
    go (yes short) = ap (answer card) (take_all 16385 s short)
    go (no long) = long_sheet (take 16385 s) (omega (arith, length-take-le 16385 s (omega arith))) ∙ sym (long_sheet s (omega arith))

text_held : {t : Text} {s : List ℕ} → Holds t s → take (64 - t.at) (drop t.at t.bytes) ≡ s
text_held {t} {s} h =
    ap (take (64 - t.at)) (ap (drop t.at) h.bytes_are ∙ drop_at (replicate t.at 0) s t.at (length-replicate t.at 0))
    ∙ take_all (64 - t.at) s (omega (arith, h.ends))

written : {E : Type 0} (r : Result (Unit {0}) E) (known old new : Option (List ℕ)) (sheet text : List ℕ)
    → IfSome known (λ bytes. sheet ≡ take 16385 bytes) → text ≡ answer_line (answer card sheet) → OnOk r (Appends old new text)
    → OnOk r (IfSome known (λ bytes. Appends old new (answer_line (answer card bytes))))
written (Ok u) known old new sheet text read is h =
    IfSome_then known read (λ bytes first. subst (Appends old new) (is ∙ ap (λ s. answer_line (answer card s)) first ∙ ap answer_line (answer_from_first bytes)) h)
written (Err e) known old new sheet text read is h = tt

pub returns : goal.returns
returns g c = written c.write_all.result _ _ _ _ _ c.in_ok-n.ensures.front (text_held c.verdict-text.ensures) c.write_all.ensures.bytes
