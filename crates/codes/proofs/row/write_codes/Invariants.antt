-- `write_codes` meets its contract. The loop's invariant: the codes of the digits below the last one stand in the buffer, and zeros above them.
use Rattle.std.specs.Prelude.{◌≡◌, ◌-◌, ◌≤◌}
use Rattle.codes.specs.Body.{byte_codes}
use Rattle.codes.specs.Call.{coded}
use Rattle.codes.proofs.row.write_codes.Given as goal

abbrev pub invariant-loop-next : goal.invariant-loop-next
invariant-loop-next l = (l.next - 1 ≤ l.places) × (l.codes ≡ coded (byte_codes l.digits (l.next - 1)) l.initial.codes)
