use Rattle.std.proofs.Common.{[], sym, subst, arith, length-drop}
use Rattle.agent_proto.specs.Follows.{Follows}
use Rattle.agent_proto.proofs.Follows.{follows_start}
use Rattle.agent_proto.proofs.Batches.{start_bad, added_next, found_fault}
use Rattle.agent_proto.proofs.batch.messages_of.Goals as goal

pub overflow_add-result : goal.overflow_add-result
overflow_add-result c =
    let from : Follows [] c.start.result = subst (Follows []) (sym c.start.ensures) follows_start in
    let ends = rw (c.in-Bad.is, c.split_at.ensures.back) at c.walk.ensures [] from in
    omega (arith, (start_bad _ _ ends).0, length-drop c.loop-at.used c.args.bytes.now)

pub returns-in-Bad : goal.returns-in-Bad
returns-in-Bad c =
    let from : Follows [] c.start.result = subst (Follows []) (sym c.start.ensures) follows_start in
    let ends = rw (c.in-Bad.is, c.split_at.ensures.back) at c.walk.ensures [] from in
    found_fault c.args.bytes.now c.loop-at.invariant.more c.loop-at.used c.in-Bad.at c.loop-at.invariant.found (start_bad _ _ ends).1

pub returns-in-On : goal.returns-in-On
returns-in-On c =
    let from : Follows [] c.start.result = subst (Follows []) (sym c.start.ensures) follows_start in
    let ends = rw (c.in-On.is, c.split_at.ensures.back) at c.walk.ensures [] from in
    (c.loop-at.invariant, ends)

pub split_at-requires-in-Whole : goal.split_at-requires-in-Whole
split_at-requires-in-Whole c =
    let from : Follows [] c.start.result = subst (Follows []) (sym c.start.ensures) follows_start in
    let ends = rw c.in-Whole.is at c.walk.ensures [] from in
    ends.1

pub message_of-requires : goal.message_of-requires
message_of-requires c =
    let from : Follows [] c.start.result = subst (Follows []) (sym c.start.ensures) follows_start in
    let ends = rw c.in-Whole.is at c.walk.ensures [] from in
    rw c.split_at-in-Whole.ensures.front ends.2

pub loop-at-preserved : goal.loop-at-preserved
loop-at-preserved c =
    let from : Follows [] c.start.result = subst (Follows []) (sym c.start.ensures) follows_start in
    let ends = rw (c.in-Whole.is, c.split_at.ensures.back) at c.walk.ensures [] from in
    let spelt = rw (c.split_at-in-Whole.ensures.front, c.split_at.ensures.back) at c.in_ok-message_of-in-Whole.ensures in
    let next = added_next c.args.messages.items c.args.bytes.now c.loop-at.messages.items c.loop-at.used c.in_ok-message_of-in-Whole.field-0 c.in-Whole.size c.loop-at.invariant ends.1 spelt in
    rw c.in_ok-push-in-Whole.ensures.items next.0
