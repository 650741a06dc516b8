use Rattle.std.proofs.Common.{◌||◌, map}
use Rattle.std.specs.FinMap.{contains_key}
use Rattle.std.specs.Map.Iter.{deref_pair}
use Rattle.finite_maps.proofs.MapLoops.{is_among}
use Rattle.script_engine.proofs.Flushing.{HasSettled, name_cmp}
use Rattle.script_engine.proofs.flush.flush.Given as goal

abbrev pub invariant-alphas : goal.invariant-alphas
invariant-alphas l = HasSettled (is_among name_cmp (map deref_pair l.yielded)) l.ancestor l.alpha l.beta l.flushed

abbrev pub invariant-betas : goal.invariant-betas
invariant-betas l =
    HasSettled (λ q. contains_key l.alpha q || is_among name_cmp (map deref_pair l.yielded) q) l.ancestor l.alpha l.beta l.flushed
