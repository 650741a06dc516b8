-- What a scan was told.
use Rattle.std.specs.Prelude.{ℕ, List, refl}
use Rattle.std.specs.Coded.{Coded, code_by, coded×, coded_list, coded_ℕ}
use Rattle.std.specs.FinMap as map
use Rattle.entry_tree.specs.Tree.{ByPath}
use Rattle.ignore_glob.specs.Grammar.{Meaning}
use Rattle.ignore_glob.specs.contracts.pattern.Pattern as pattern
use Rattle.roots_api.specs.contracts.answer.Answer as answer
use Rattle.roots_api.specs.contracts.content.Content as content
use Rattle.roots_api.specs.declared.answer.Answer.{Answer}
use Rattle.scan_cache.specs.contracts.line.Line as line
use Rattle.scan_cache.specs.declared.line.Line.{Line}

-- One answer that a scan took, and the rules and the cache that it was given.
pub record Told : Type 0 where
  pub answer : Answer (List ℕ)
  pub rules : List Meaning
  pub cache : ByPath Line

abbrev pub told_code : Coded Told
told_code =
    code_by (Answer (List ℕ) × (List Meaning × ByPath Line))
    (coded× (answer.the_row content.the_row).coded (coded× (coded_list pattern.the_row.coded) (map.code (coded_list (coded_list coded_ℕ)) line.the_row.coded)))
    (λ t. (t.answer, (t.rules, t.cache))) (λ p. record { answer = p.0; rules = p.1.0; cache = p.1.1 }) (λ _. refl)
