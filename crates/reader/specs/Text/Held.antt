-- What a text holds when more is put in front of it. Assumes nothing.
use Rattle.std.specs.Prelude.{◌≡◌, List, ◌++◌, ℕ, ◌+◌, ◌≤◌, length, take, drop, replicate}
use Rattle.std.proofs.Common.{sym, ap, ap₂, ◌∙◌, arith, length-append, take-append-drop, drop_at}
use Rattle.std.proofs.lemmas.List.{length-replicate, take-append-le}
use Rattle.digits.specs.Buffer.Zeros.{take_zeros}
use Rattle.reader.specs.declared.text.Text.{Text}
use Rattle.reader.specs.Text.{Holds, Before}

-- where the text ends, the array does
pub held_long : {t : Text} {s : List ℕ} → Holds t s → length t.bytes ≡ 64
held_long {t} {s} h =
    ap length h.bytes_are ∙ length-append (replicate t.at 0) s ∙ ap (λ (n : ℕ). n + length s) (length-replicate t.at 0) ∙ h.ends

-- u in front of a text that is s
pub held_before : {t r : Text} {s u : List ℕ} → Holds t s → Before t u r → Holds r (u ++ s)
held_before {t} {r} {s} {u} h b =
    let low : r.at ≤ t.at = omega (arith, b.at) in
    let zeros : take r.at t.bytes ≡ replicate r.at 0 =
    ap (take r.at) h.bytes_are
    ∙ take-append-le r.at (replicate t.at 0) s (omega (arith, length-replicate {A = ℕ} t.at 0))
    ∙ take_zeros r.at t.at low
    in
    let rest : drop t.at t.bytes ≡ s = ap (drop t.at) h.bytes_are ∙ drop_at (replicate t.at 0) s t.at (length-replicate t.at 0) in
    record {
      bytes_are =
          sym (take-append-drop r.at r.bytes)
          ∙ ap₂ (λ (x y : List ℕ). x ++ y) (b.front ∙ zeros) (b.is ∙ ap (λ (x : List ℕ). u ++ x) rest);
      ends = omega (arith, b.at, h.ends, length-append u s);
    }
