use Rattle.std.proofs.Common.{◌≡◌, true, false, ◌||◌, refl, sym, ap, ◌∙◌, map, rules}
use Rattle.std.specs.FinMap.{contains_key}
use Rattle.std.specs.Cmp.Lexicographic.{nat_list_cmp_total}
use Rattle.std.specs.Map.Iter.{deref_pair}
use Rattle.std.specs.Option.{is_some}
use Rattle.std.proofs.Math.Bool.{or-false}
use Rattle.finite_maps.proofs.MapLoops.{contains_key-from_get, get-none, is_among, is_among-push, entries_turn, entries_end}
use Rattle.script_engine.proofs.Flushing.{name_cmp, gone_already, gone_more, settled_none, settled_same, settled_more, settled_all, settles_at}
use Rattle.script_engine.proofs.flush.flush.Goals as goal

pub alphas-init : goal.alphas-init
alphas-init c = settled_none _ _ (λ q. refl) c.new.ensures c.new-2.ensures c.new-3.ensures c.new-4.ensures

pub alphas-preserved : goal.alphas-preserved
alphas-preserved c =
    let turn = entries_turn nat_list_cmp_total deref_pair c.args.alpha.now c.alphas.yielded _ _ _ _ (c.into_iter-name-iterator.ensures.into_iter_gives ∙ c.iter-name-items.ensures.rest) c.alphas.yielded_by (c.in-Some.name, c.in-Some.contents) c.in-Some.is c.next.ensures.steps in
    settled_more _ _ _ _ _ turn.1 (is_among-push name_cmp deref_pair c.alphas.yielded (c.in-Some.name, c.in-Some.contents)) c.alphas.invariant
    (settles_at (c.copied-agreed.ensures ∙ c.get.ensures) (sym turn.0) c.get-in-alphas.ensures c.in_ok-settle_into.ensures)

pub betas-init : goal.betas-init
betas-init c =
    settled_same _ _ _
    (λ q. or-false (contains_key c.args.alpha.now q)
    ∙ entries_end nat_list_cmp_total deref_pair c.args.alpha.now c.alphas.yielded _ _ _ _ (c.into_iter-name-iterator.ensures.into_iter_gives ∙ c.iter-name-items.ensures.rest) c.alphas.yielded_by c.in-None.is c.next.ensures.steps q)
    c.alphas.invariant

pub betas-preserved-then-is_some : goal.betas-preserved-then-is_some
betas-preserved-then-is_some c =
    let has : is_some c.get-in-betas.result ≡ true = search rules in
    settled_same _ _ _
    (gone_already (contains_key c.args.alpha.now) (is_among name_cmp (map deref_pair c.betas.yielded)) _ c.in-Some-2.name.now
    (contains_key-from_get c.args.alpha.now c.in-Some-2.name.now c.get-in-betas.result c.get-in-betas.ensures ∙ has)
    (is_among-push name_cmp deref_pair c.betas.yielded (c.in-Some-2.name, c.in-Some-2.contents)))
    c.betas.invariant

pub betas-preserved : goal.betas-preserved
betas-preserved c =
    let turn = entries_turn nat_list_cmp_total deref_pair c.args.beta.now c.betas.yielded _ _ _ _ (c.into_iter-name-iterator-2.ensures.into_iter_gives ∙ c.iter-name-items-2.ensures.rest) c.betas.yielded_by (c.in-Some-2.name, c.in-Some-2.contents) c.in-Some-2.is c.next-in-betas.ensures.steps in
    let lacks : is_some c.get-in-betas.result ≡ false = search rules in
    let new = contains_key-from_get c.args.alpha.now c.in-Some-2.name.now c.get-in-betas.result c.get-in-betas.ensures ∙ lacks in
    settled_more _ _ _ _ _ (ap (λ b. b || is_among name_cmp (map deref_pair c.betas.yielded) c.in-Some-2.name.now) new ∙ turn.1)
    (gone_more (contains_key c.args.alpha.now) (is_among name_cmp (map deref_pair c.betas.yielded)) _ c.in-Some-2.name.now
    (is_among-push name_cmp deref_pair c.betas.yielded (c.in-Some-2.name, c.in-Some-2.contents)))
    c.betas.invariant
    (settles_at (c.copied-agreed-in-betas.ensures ∙ c.get-in-betas-2.ensures) (sym (get-none c.args.alpha.now c.in-Some-2.name.now new)) (sym turn.0) c.in_ok-settle_into-2.ensures)

pub returns : goal.returns
returns c =
    settled_all _ _
    (λ q. ap (λ b. contains_key c.args.alpha.now q || b)
    (sym (entries_end nat_list_cmp_total deref_pair c.args.beta.now c.betas.yielded _ _ _ _ (c.into_iter-name-iterator-2.ensures.into_iter_gives ∙ c.iter-name-items-2.ensures.rest) c.betas.yielded_by c.in-None-2.is c.next-in-betas.ensures.steps q)))
    c.betas.invariant
