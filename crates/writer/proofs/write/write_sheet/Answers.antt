-- The header, the T lines, the steps and E, one behind another, are the sheet of the columns (SheetBytes).
use mathlib.Core.Path.{◌≡◌, sym, ap, ap₂, ◌∙◌}
use mathlib.Core.List.{List}
use lib.IntN.{ℤ}
use Prim.Native.Nat.{ℕ, ◌+◌, ◌≤◌}
use native.Mathlib.Nat.{zero-add}
use native.Mathlib.Omega.{arith}
use lib.ListN.{length}
use Rattle.digits.specs.Buffer.{columns_below}
use Rattle.digits.specs.Scalar.{signed_scalar}
use Rattle.digits.specs.Two.{Column}
use Rattle.written.proofs.Laws.Written.Accepted.{few_doublings}
use Rattle.written.specs.Written.{additions_of, sheet_of}
use Rattle.writer.specs.Call.{of_size}
use Rattle.writer.specs.Body.Parts.{Room}
use Rattle.writer.proofs.SheetBytes.{parts_of, few_places, few_counted, top_full, additions_are, doublings_are, sheet_parts}
use Rattle.writer.proofs.Puts.{put_append, put_same, put_front, room_first, room_second, room_next}
use Rattle.writer.proofs.write.write_sheet.Goals.{After-saturating_sub-2}
use Rattle.writer.proofs.write.write_sheet.Goals as goal

-- the sheet, its parts, and their room
module _ (c : After-saturating_sub-2) where
  abbrev k : ℤ
  k = signed_scalar c.args.k.bytes.now c.args.k.sign

  abbrev l : ℤ
  l = signed_scalar c.args.l.bytes.now c.args.l.sign

  abbrev cs : List Column
  cs = columns_below c.args.columns.places c.args.columns.p.now c.args.columns.q.now

  bytes : List ℕ
  bytes = sheet_of c.args.plan cs k l

  parts : List ℕ
  parts =
      parts_of c.args.plan (c.table_additions.result + c.saturating_sub.result) (c.table_doublings.result + c.saturating_sub-2.result)
      k l c.args.columns.p.now c.args.columns.q.now c.args.columns.places

  additions : c.table_additions.result + c.saturating_sub.result ≡ additions_of c.args.plan cs k l
  additions = additions_are c.requires c.table_additions.result c.saturating_sub.result c.table_additions.ensures c.saturating_sub.ensures

  same : bytes ≡ parts
  unfolding bytes parts
  same =
      sheet_parts c.requires _ _ additions
      (doublings_are c.requires c.table_doublings.result c.saturating_sub-2.result c.table_doublings.ensures c.saturating_sub-2.ensures)

  fits : length bytes ≤ length c.args.out.now
  unfolding bytes
  fits = c.requires.room

  room : Room c.args.out.now 0 parts
  room = record { fits = omega (arith, fits, ap length same) }

pub overflow_cast-weight : goal.overflow_cast-weight
overflow_cast-weight c = record { fits = omega (arith, few_counted c.requires) }

pub overflow_add-additions : goal.overflow_add-additions
overflow_add-additions c = record { fits = omega (arith, few_counted c.requires, c.table_additions.ensures, c.saturating_sub.ensures) }

pub overflow_cast-places : goal.overflow_cast-places
overflow_cast-places c = record { fits = omega (arith, few_places c.requires) }

pub overflow_add-doublings : goal.overflow_add-doublings
overflow_add-doublings c =
    record { fits = omega (arith, few_doublings c.args.plan, c.table_doublings.ensures, c.saturating_sub-2.ensures, few_places c.requires) }

pub put_header-a-requires : goal.put_header-a-requires
unfolding parts
put_header-a-requires c = room_first _ (room (goal.at.put_header-a-requires c).After-saturating_sub-2)

pub put_tables-b-requires : goal.put_tables-b-requires
unfolding parts
put_tables-b-requires c =
    (c.requires.valid, room_next c.put_header-a.ensures _ (room (goal.at.put_tables-b-requires c).After-saturating_sub-2))

pub put_places-c-requires : goal.put_places-c-requires
unfolding parts
put_places-c-requires c =
    record {
      places = ((c.requires.p_long, c.requires.q_long), top_full c.requires);
      room = room_next c.put_tables-b.ensures _ (room_second c.put_header-a.ensures _ (room (goal.at.put_places-c-requires c).After-saturating_sub-2));
    }

pub put_letter-length-requires : goal.put_letter-length-requires
unfolding parts
put_letter-length-requires c =
    room_second c.put_places-c.ensures _ (room_second c.put_tables-b.ensures _ (room_second c.put_header-a.ensures _ (room (goal.at.put_letter-length-requires c).After-saturating_sub-2)))

pub returns : goal.returns
unfolding bytes parts
returns c =
    let s = (goal.at.returns c).After-saturating_sub-2 in
    let sheet = put_same (sym (same s)) (put_append c.put_header-a.ensures (put_append c.put_tables-b.ensures (put_append c.put_places-c.ensures c.put_letter-length.ensures))) in
    record { answer = ap₂ of_size (sheet.behind ∙ zero-add _) (additions s); buffer = put_front sheet (fits s) }
