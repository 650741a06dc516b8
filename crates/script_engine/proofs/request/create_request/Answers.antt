use Rattle.std.proofs.Common.{true, false, sym}
use Rattle.script_engine.proofs.Forms.{create_of_is}
use Rattle.script_engine.proofs.request.create_request.Goals as goal

pub returns-then-not-may_create : goal.returns-then-not-may_create
returns-then-not-may_create c =
    let behind = c.in-Some.ensures in
    sym (create_of_is c.args.sync.now c.args.create.now c.args.option.now c.args.alpha.now c.args.beta.now c.in-Some.name.now false c.if-ne.ensures c.if-ne-2.ensures behind.0 behind.1 c.if-not-may_create.ensures)

pub returns : goal.returns
returns c =
    let behind = c.in-Some.ensures in
    let is = create_of_is c.args.sync.now c.args.create.now c.args.option.now c.args.alpha.now c.args.beta.now c.in-Some.name.now true c.if-ne.ensures c.if-ne-2.ensures behind.0 behind.1 c.if-not-may_create.ensures in
    let name = c.in_ok-name.ensures in
    let alpha = c.in_ok-alpha.ensures in
    let beta = c.in_ok-beta.ensures in
    cc (is, name, alpha, beta)
