-- The T lines by the plan (TableBytes).
use mathlib.Core.Path.{sym, subst}
use Rattle.written.specs.Valid.{Valid, valid_rows}
use Rattle.writer.proofs.TableBytes.{tables_joint, tables_rows}
use Rattle.writer.proofs.Puts.{put_append, put_same, room_first, room_same, room_second}
use Rattle.writer.proofs.tables.put_tables.Goals as goal

pub put_point-next-requires : goal.put_point-next-requires
put_point-next-requires c = room_first _ (room_same (tables_joint c.args.plan c.in-J.is) c.requires.1)

pub put_point-requires : goal.put_point-requires
put_point-requires c = room_second c.put_point-next.ensures _ (room_same (tables_joint c.args.plan c.in-J.is) c.requires.1)

pub put_multiples-next-requires : goal.put_multiples-next-requires
put_multiples-next-requires c =
    ((valid_rows (subst Valid c.in-I.is c.requires.0)).0, room_first _ (room_same (tables_rows c.args.plan c.in-I.m1 c.in-I.m2 c.in-I.is) c.requires.1))

pub put_multiples-requires : goal.put_multiples-requires
put_multiples-requires c =
    ((valid_rows (subst Valid c.in-I.is c.requires.0)).1, room_second c.put_multiples-next.ensures _ (room_same (tables_rows c.args.plan c.in-I.m1 c.in-I.m2 c.in-I.is) c.requires.1))

pub returns-in-J : goal.returns-in-J
returns-in-J c = put_same (sym (tables_joint c.args.plan c.in-J.is)) (put_append c.put_point-next.ensures c.put_point.ensures)

pub returns-in-I : goal.returns-in-I
returns-in-I c = put_same (sym (tables_rows c.args.plan c.in-I.m1 c.in-I.m2 c.in-I.is)) (put_append c.put_multiples-next.ensures c.put_multiples.ensures)
