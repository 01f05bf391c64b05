-- `write_codes` meets its contract. The loop's invariant: the codes of the digits below the last one stand in the buffer, and zeros above them.
use Rattle.std.specs.Prelude.{◌≡◌, ℕ, ◌+◌, ◌-◌, ◌<◌, length, get_or}
use Rattle.std.proofs.Common.{ap, ◌∙◌, arith}
use Rattle.codes.specs.Body.{byte_code, byte_codes}
use Rattle.codes.specs.Call.{coded}
use Rattle.codes.proofs.Coded.{coded_none, coded_same, coded_more}
use Rattle.codes.proofs.row.write_codes.Goals as goal

pub loop-next-init : goal.loop-next-init
loop-next-init c = (omega arith, coded_none c.args.digits.now c.clear.new.buffer (length c.args.codes.now) c.clear.ensures)

pub loop-next-preserved : goal.loop-next-preserved
loop-next-preserved c =
    let i : ℕ = c.loop-next.next - 1 in
    let next : i + 1 ≡ c.loop-next.next = omega (arith, c.loop-next.auto) in
    let here : i < length c.clear.new.buffer = omega (arith, c.loop-next-test.true, c.requires, c.clear.auto) in
    let told : c.code_of.result ≡ byte_code (get_or c.args.digits.now i 0) (get_or c.args.digits.now (i + 1) 0) = rw next c.code_of.ensures in
    let same : c.loop-next.next + 1 - 1 ≡ i + 1 = omega (arith, next) in
    (omega (arith, c.loop-next-test.true), rw same (coded_more c.args.digits.now c.clear.new.buffer i c.loop-next.codes c.code_of.result here c.loop-next.invariant.1 told))

pub returns-then-places-gt0 : goal.returns-then-places-gt0
returns-then-places-gt0 c =
    let digits = c.args.digits.now in
    let places = c.args.places in
    let last : c.loop-next.next - 1 ≡ places - 1 = omega (arith, c.loop-next-test.false, c.if-places-gt0.true, c.loop-next.auto) in
    let all : places - 1 + 1 ≡ places = omega (arith, c.if-places-gt0.true) in
    let here : places - 1 < length c.clear.new.buffer = omega (arith, c.if-places-gt0.true, c.requires, c.clear.auto) in
    let none : get_or digits (places - 1 + 1) 0 ≡ 0 = rw all c.requires.1.1 in
    let told : c.code_of-then-places-gt0.result ≡ byte_code (get_or digits (places - 1) 0) (get_or digits (places - 1 + 1) 0) = rw none c.code_of-then-places-gt0.ensures in
    let so_far : c.loop-next.codes ≡ coded (byte_codes digits (places - 1)) c.clear.new.buffer = rw (← last) c.loop-next.invariant.1 in
    coded_more digits c.clear.new.buffer (places - 1) c.loop-next.codes c.code_of-then-places-gt0.result here so_far told
    ∙ ap (λ (n : ℕ). coded (byte_codes digits n) c.clear.new.buffer) all
    ∙ coded_same (byte_codes digits places) c.clear.new.buffer c.args.codes.now c.clear.auto.buffer

pub returns-else-places-gt0 : goal.returns-else-places-gt0
returns-else-places-gt0 c =
    let none : c.loop-next.next - 1 ≡ c.args.places = omega (arith, c.loop-next.invariant.0, c.if-places-gt0.false) in
    c.loop-next.invariant.1
    ∙ ap (λ (n : ℕ). coded (byte_codes c.args.digits.now n) c.clear.new.buffer) none
    ∙ coded_same (byte_codes c.args.digits.now c.args.places) c.clear.new.buffer c.args.codes.now c.clear.auto.buffer
