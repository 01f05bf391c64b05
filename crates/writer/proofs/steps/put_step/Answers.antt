-- No step for a zero column, else one.
use mathlib.Core.Path.{sym, ◌∙◌}
use Rattle.writer.proofs.StepBytes.{no_step, one_step}
use Rattle.writer.proofs.Puts.{put_none, put_same, room_same}
use Rattle.writer.proofs.steps.put_step.Goals as goal

pub put_point-requires : goal.put_point-requires
put_point-requires c = room_same (one_step c.args.letter _ (sym c.blank.ensures ∙ c.if-blank.false)) c.requires

pub returns : goal.returns
returns c = put_same (sym (one_step c.args.letter _ (sym c.blank.ensures ∙ c.if-blank.false))) c.put_point.ensures

pub returns-then-blank : goal.returns-then-blank
returns-then-blank c = put_same (sym (no_step c.args.letter _ (sym c.blank.ensures ∙ c.if-blank.true))) (put_none c.args.out.now c.args.at)
