use Rattle.std.proofs.Common.{rules, tests}
use Rattle.std.specs.List.{list_all}
use Rattle.std.proofs.lemmas.Iterator.Search.{all_from_yields_List}
use Rattle.std.proofs.lemmas.Iterator.Splits.{YieldsList-from_slice_split}
use Rattle.script_engine.specs.Words.{is_hex}
use Rattle.script_engine.proofs.words.has_hex_groups.Goals as goal

pub returns : goal.returns
returns c =
    all_from_yields_List (list_all is_hex) _ _ _ c.all.ensures.ran
    (YieldsList-from_slice_split _ _ c.args.text.now c.split.ensures.rest c.split.ensures.done c.split.ensures.closure (λ x r q k. search (rules, tests)))
    (λ x b q k. search (rules, tests))
