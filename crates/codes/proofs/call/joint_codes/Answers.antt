-- `joint_codes` meets its contract: where its questions are met, the rows of the joint call are as `write_codes` asks and give the codes.
use Rattle.std.specs.Prelude.{refl, ℕ}
use Rattle.std.proofs.Common.{◌∙◌, arith, leb-true}
use Rattle.digits.specs.Two.{P, Q}
use Rattle.codes.proofs.Coded.{asks, leaves}
use Rattle.codes.proofs.Laws.Call.Returned.{rows_roomy, rows_filled, answered_ok}
use Rattle.codes.proofs.call.joint_codes.Goals as goal

pub write_codes-requires : goal.write_codes-requires
write_codes-requires g c =
    let k = c.args.k in
    let l = c.args.l in
    let places : ℕ = c.places_for-places.result in
    let roomy = rows_roomy g.M.Machine.LIMITS k.bytes.now k.sign l.bytes.now l.sign c.args.k_digits.now c.args.l_digits.now _ c.in_ok-written.ensures.answer in
    let filled = rows_filled g.M.Machine.LIMITS k.bytes.now k.sign l.bytes.now l.sign c.args.k_digits.now c.args.l_digits.now _ c.in_ok-written.ensures.answer P in
    asks k.bytes.now k.sign l.bytes.now l.sign P places c.args.k_digits.now c.joint.new.k_digits c.args.k_codes.now (c.places_for-places.ensures.enough k.sign l.sign)
    (c.in_ok-written.ensures.first ∙ filled) (leb-true places _ c.in_ok-check_room.ensures) (omega (arith, leb-true _ _ roomy.0, c.places_for-places.ensures.room, c.joint.auto))

pub write_codes-requires-2 : goal.write_codes-requires-2
write_codes-requires-2 g c =
    let k = c.args.k in
    let l = c.args.l in
    let places : ℕ = c.places_for-places.result in
    let roomy = rows_roomy g.M.Machine.LIMITS k.bytes.now k.sign l.bytes.now l.sign c.args.k_digits.now c.args.l_digits.now _ c.in_ok-written.ensures.answer in
    let filled = rows_filled g.M.Machine.LIMITS k.bytes.now k.sign l.bytes.now l.sign c.args.k_digits.now c.args.l_digits.now _ c.in_ok-written.ensures.answer Q in
    asks k.bytes.now k.sign l.bytes.now l.sign Q places c.args.l_digits.now c.joint.new.l_digits c.args.l_codes.now (c.places_for-places.ensures.enough k.sign l.sign)
    (c.in_ok-written.ensures.second ∙ filled) (leb-true places _ c.in_ok-check_room-2.ensures) (omega (arith, leb-true _ _ roomy.1, c.places_for-places.ensures.room, c.joint.auto))

pub returns : goal.returns
returns g c =
    let k = c.args.k in
    let l = c.args.l in
    let places : ℕ = c.places_for-places.result in
    let few = c.places_for-places.ensures.enough k.sign l.sign in
    let room = c.places_for-places.ensures.room in
    let filled = rows_filled g.M.Machine.LIMITS k.bytes.now k.sign l.bytes.now l.sign c.args.k_digits.now c.args.l_digits.now _ c.in_ok-written.ensures.answer in
    let k_codes = leaves k.bytes.now k.sign l.bytes.now l.sign P places c.args.k_digits.now c.joint.new.k_digits c.args.k_codes.now few (c.in_ok-written.ensures.first ∙ filled P) (leb-true places _ c.in_ok-check_room.ensures) _ c.write_codes.ensures in
    let l_codes = leaves k.bytes.now k.sign l.bytes.now l.sign Q places c.args.l_digits.now c.joint.new.l_digits c.args.l_codes.now few (c.in_ok-written.ensures.second ∙ filled Q) (leb-true places _ c.in_ok-check_room-2.ensures) _ c.write_codes-2.ensures in
    let old = answered_ok g.M.Machine.LIMITS k.bytes.now k.sign l.bytes.now l.sign c.args.k_digits.now c.args.l_digits.now c.args.k_codes.now c.args.l_codes.now
    (rw (← room, c.in_ok-check_room.ensures, c.in_ok-check_room-2.ensures) refl) c.in_ok-written.written c.in_ok-written.ensures.answer _ _ _ _ c.in_ok-written.ensures.first c.in_ok-written.ensures.second k_codes l_codes
    in
    record { answer = old.0; first = old.1.0; second = old.1.1.0; first_codes = old.1.1.1.0; second_codes = old.1.1.1.1.0; promised = old.1.1.1.1.1.0; question = old.1.1.1.1.1.1 }
