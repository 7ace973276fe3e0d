use Rattle.std.proofs.Common.{arith, rules}
use Rattle.records.specs.Tables.{Bytes}
use Rattle.carry.proofs.ChangeTable.{change_few, change_room, header_kept, changed}
use Rattle.carry.proofs.change.change.Goals as goal

pub write_report-ended-requires : goal.write_report-ended-requires
write_report-ended-requires c = change_few c.requires

pub note_if-requires : goal.note_if-requires
note_if-requires c = change_few c.requires

pub close_up-stay-requires : goal.close_up-stay-requires
close_up-stay-requires c = change_few c.requires

pub join-m-requires : goal.join-m-requires
join-m-requires c =
    let bytes : Bytes c.args.t.now = λ i. search rules in
    change_room c.requires bytes c.note_if.new.t c.note_if.ensures c.close_up-stay.result c.close_up-stay.ensures.0

pub restate-requires : goal.restate-requires
restate-requires c =
    let bytes : Bytes c.args.t.now = λ i. search rules in
    omega (
      arith,
      c.join-m.ensures.0,
      change_room c.requires bytes c.note_if.new.t c.note_if.ensures c.close_up-stay.result c.close_up-stay.ensures.0,
    )

pub overflow_cast-m : goal.overflow_cast-m
overflow_cast-m c =
    let bytes : Bytes c.args.t.now = λ i. search rules in
    omega (
      arith,
      c.join-m.ensures.0,
      change_room c.requires bytes c.note_if.new.t c.note_if.ensures c.close_up-stay.result c.close_up-stay.ensures.0,
    )

pub put_header-requires : goal.put_header-requires
put_header-requires c =
    let bytes : Bytes c.args.t.now = λ i. search rules in
    let close = c.close_up-stay in
    rw c.with_count.ensures
    (header_kept c.requires bytes c.note_if.new.t c.note_if.ensures close.result close.ensures.0 close.new.t c.join-m.new.t c.restate.new.t
    c.join-m.result
    close.ensures.1
    c.join-m.ensures.0
    c.join-m.ensures.1
    c.restate.ensures
    (search rules))

pub returns : goal.returns
returns c =
    let bytes : Bytes c.args.t.now = λ i. search rules in
    let close = c.close_up-stay in
    let report = c.write_report-ended in
    changed c.requires bytes c.note_if.new.t c.note_if.ensures close.result close.ensures.0 close.new.t c.join-m.new.t c.restate.new.t
    c.join-m.result
    close.ensures.1
    c.join-m.ensures.0
    c.join-m.ensures.1
    c.restate.ensures
    c.put_header.new.t report.new.report report.result
    (rw c.with_count.ensures at c.put_header.ensures)
    report.ensures.0
    report.ensures.1
    report.ensures.2
