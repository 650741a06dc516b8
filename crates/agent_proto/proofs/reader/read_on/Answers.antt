use Rattle.std.proofs.Common.{refl, ◌∙◌, arith, length-append}
use Rattle.agent_proto.specs.Held.{held_bytes}
use Rattle.agent_proto.proofs.Batches.{spelled_short, first_fault, reads_on}
use Rattle.agent_proto.proofs.reader.read_on.Goals as goal

pub overflow_add-size : goal.overflow_add-size
overflow_add-size c =
    let short = spelled_short _ c.requires.spelled in
    omega (arith, short, length-append (held_bytes c.args.held.now) c.args.last.now, c.count.ensures)

pub overflow_add-result : goal.overflow_add-result
overflow_add-result c =
    let short = spelled_short _ c.requires.spelled in
    let fault = rw c.in-Bad.is at c.in_ok-at.ensures in
    omega (arith, short, length-append (held_bytes c.args.held.now) c.args.last.now, c.count.ensures, fault.within)

pub overflow_add-result-in-Whole : goal.overflow_add-result-in-Whole
overflow_add-result-in-Whole c =
    let short = spelled_short _ c.requires.spelled in
    let found = rw c.in-Whole.is at c.in_ok-at.ensures in
    omega (arith, short, length-append (held_bytes c.args.held.now) c.args.last.now, c.count.ensures, found.0.found.within)

pub returns-in-Bad-clause-ok : goal.returns-in-Bad-clause-ok
returns-in-Bad-clause-ok c =
    let fault = rw c.in-Bad.is at c.in_ok-at.ensures in
    rw c.count.ensures (first_fault (held_bytes c.args.held.now) c.args.last.now c.args.behind.now c.in-Bad.at c.requires.spelled fault, refl)

pub returns-in_ok-first-in-Whole-clause-ok : goal.returns-in_ok-first-in-Whole-clause-ok
returns-in_ok-first-in-Whole-clause-ok c =
    let found = rw c.in-Whole.is at c.in_ok-at.ensures in
    rw c.count.ensures
    (reads_on (held_bytes c.args.held.now) c.args.last.now c.args.behind.now (held_bytes c.in_ok-rest-in-Whole.rest) c.in_ok-first-in-Whole.first _ c.in-Whole.messages.items c.put_first.new.messages.items c.in-Whole.used c.in-Whole.place
    c.in_ok-one.ensures found.0 found.1 c.in_ok-first-in-Whole.ensures.ok c.put_first.ensures (c.in_ok-rest-in-Whole.ensures.1 ∙ c.split_at.ensures.back))

pub count-requires : goal.count-requires
count-requires c =
    let short = spelled_short _ c.requires.spelled in
    omega (arith, short, length-append (held_bytes c.args.held.now) c.args.last.now)
