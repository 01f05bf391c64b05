-- What the order call leaves in its buffer, as far as it counts, is what is printed for the bytes that were read; and for more bytes than those the same is.
use Rattle.std.proofs.Common.{◌≡◌, ◌≤◌, List, Option, Result, Ok, Err, OnOk, IfSome, ℕ, arith, length, take, replicate, sym, ap, subst, ◌∙◌, length-take-le}
use Rattle.std.proofs.Math.Decide.{dec_le}
use Rattle.std.proofs.Math.Seq.{take-append_seam}
use Rattle.std.proofs.lemmas.List.{take_all}
use Rattle.std.proofs.lemmas.Option.{IfSome_then}
use Rattle.std.specs.Io.KnownBytes.{Appends}
use Rattle.digits.specs.Limits.{card}
use Rattle.order.specs.Order.{printed, order_length, order_buffer}
use Rattle.order.specs.Order.Longest.{long_order}
use Rattle.order.proofs.Laws.Promise.{order_fits}
use Rattle.order_main.proofs.print_answer.Goals as goal

printed_from_first : (s : List ℕ) → printed card (take 274 s) ≡ printed card s
printed_from_first s = go (dec_le (length s) 274)
  where
    go : Dec (length s ≤ 274) → printed card (take 274 s) ≡ printed card s
    go (yes short) = ap (printed card) (take_all 274 s short)
    go (no long) = long_order (take 274 s) (omega (arith, length-take-le 274 s (omega arith))) ∙ sym (long_order s (omega arith))

take_order : (s : List ℕ) → take (order_length card s 16384) (order_buffer card s (replicate 16384 0)) ≡ printed card s
unfolding order_length order_buffer
take_order s = take-append_seam (printed card s) _

written : {E : Type 0} (r : Result (Unit {0}) E) (known old new : Option (List ℕ)) (line text : List ℕ)
    → IfSome known (λ bytes. line ≡ take 274 bytes) → text ≡ printed card line → OnOk r (Appends old new text)
    → OnOk r (IfSome known (λ bytes. Appends old new (printed card bytes)))
written (Ok u) known old new line text read whole h =
    IfSome_then known read (λ bytes first. subst (Appends old new) (whole ∙ ap (printed card) first ∙ printed_from_first bytes) h)
written (Err e) known old new line text read whole h = tt

pub slice_bounds-text-end : goal.slice_bounds-text-end
slice_bounds-text-end g c = rw (c.order-length.ensures.answer, c.order-length.ensures.buffer) (order_fits _ _)

pub slice_bounds-write_all-end : goal.slice_bounds-write_all-end
slice_bounds-write_all-end g c = sym (length-take-le _ _ (rw (c.order-length.ensures.answer, c.order-length.ensures.buffer) (order_fits _ _)))

pub returns : goal.returns
returns g c =
    written c.write_all.result _ _ _ _ _ c.in_ok-n.ensures.front
    (rw (c.order-length.ensures.answer, c.order-length.ensures.buffer) (take_order _)) c.write_all.ensures.bytes
