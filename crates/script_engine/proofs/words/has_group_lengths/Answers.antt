use Rattle.std.proofs.Common.{◌≡◌, rules, tests, length}
use Rattle.std.proofs.lemmas.Iterator.{YieldsList-from_map, YieldsList-from_slice}
use Rattle.std.proofs.lemmas.Iterator.Consumers.{YieldsList-at, YieldsList-from_copied}
use Rattle.std.proofs.lemmas.Iterator.Splits.{YieldsList-from_slice_split}
use Rattle.script_engine.proofs.Comparisons.{eq_from_yields_List}
use Rattle.script_engine.proofs.words.has_group_lengths.Goals as goal

pub returns : goal.returns
returns c =
    eq_from_yields_List (λ x y. y ≡ x) _ _ c.eq.ensures.ran
    (YieldsList-from_map _ length
    (YieldsList-at c.map.ensures.source
    (YieldsList-from_slice_split _ _ c.args.text.now c.split.ensures.rest c.split.ensures.done c.split.ensures.closure (λ x r q k. search (rules, tests))))
    c.map.ensures.closure (λ x r q k. search rules))
    (λ it e. YieldsList-at e (YieldsList-from_copied (YieldsList-at c.copied.ensures.source (YieldsList-from_slice _ c.iter.ensures.rest))))
