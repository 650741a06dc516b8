use Rattle.std.proofs.Common.{◌≡◌, arith}
use Rattle.agent_proto.proofs.Listing.{row_on, row_no_name, row_no_entry, rows_end, rows_begin}
use Rattle.agent_proto.proofs.read_fields.Fields.rows_by.Goals as goal

pub loop-row-init : goal.loop-row-init
loop-row-init c = rw c.new-rows.ensures (rows_begin c.args.self.now c.args.count)

pub returns-in_default : goal.returns-in_default
returns-in_default c =
    row_no_name c.args.self.now c.loop-row.self c.name.new.self c.loop-row.rows c.args.count c.loop-row._row (omega arith) c.loop-row.invariant (rw c.in_default.is at c.in_ok-name.ensures)

pub returns-in_default-2 : goal.returns-in_default-2
returns-in_default-2 c =
    row_no_entry c.args.self.now c.loop-row.self c.name.new.self c.entry.new.self c.loop-row.rows c.args.count c.loop-row._row c.in-Some.name (omega arith) c.loop-row.invariant
    (rw c.in-Some.is at c.in_ok-name.ensures) (rw c.in_default-2.is at c.in_ok-entry.ensures)

pub returns : goal.returns
returns c =
    let ends : c.loop-row._row ≡ c.args.count = omega arith in
    rows_end c.args.self.now c.loop-row.self c.loop-row.rows c.args.count c.loop-row._row ends c.loop-row.invariant

pub loop-row-preserved : goal.loop-row-preserved
loop-row-preserved c =
    rw c.in_ok-push.ensures.ok (row_on c.args.self.now c.loop-row.self c.name.new.self c.entry.new.self c.loop-row.rows c.args.count c.loop-row._row c.in-Some.name c.in-Some-2.entry (omega arith) c.loop-row.invariant
    (rw c.in-Some.is at c.in_ok-name.ensures) (rw c.in-Some-2.is at c.in_ok-entry.ensures))
