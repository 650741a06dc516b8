use Rattle.std.proofs.Common.{List, ℕ, Bor, sym, ◌∙◌, rules, tests}
use Rattle.std.proofs.lemmas.Iterator.{YieldsList-from_slice}
use Rattle.std.proofs.lemmas.Iterator.Search.{all_from_yields_List}
use Rattle.std.proofs.lemmas.List.Folds.{list_all-map}
use Rattle.script_engine.specs.Words.{is_word}
use Rattle.script_engine.proofs.request.are_words.Goals as goal

pub returns : goal.returns
returns c =
    all_from_yields_List (λ (word : Bor (List ℕ)). is_word word.now) _ _ _ c.all.ensures.ran (YieldsList-from_slice c.args.words.now cc) (λ x b q k. search (rules, tests))
    ∙ sym (list_all-map is_word (λ (word : Bor (List ℕ)). word.now) c.args.words.now)
