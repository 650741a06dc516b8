-- A file's executable bit is set where the file is there.
use Rattle.std.proofs.Common.{◌≡◌, ℕ, true, false, cond, List, refl, ap, ◌∙◌, Option, Some, None}
use Rattle.std.specs.FinMap as map
use Rattle.entry_tree.specs.Tree.{Names, ByPath}
use Rattle.entry_tree.specs.declared.entry.Entry.{Entry}
use Rattle.roots_api.specs.Answers.{is_done}
use Rattle.roots_api.specs.Expected.{is_file, holds_file}
use Rattle.roots_api.specs.States.{is_expected}
use Rattle.roots_api.specs.Steps.{where_expected}
use Rattle.roots_api.specs.declared.answer.Answer.TheVariants.{Done, Differs}
use Rattle.roots_api.proofs.Expecting.{expected_is}

pub file_there : (tree : ByPath Entry) (path : Names) (expected : Entry) → is_file expected ≡ true → is_done (where_expected tree path (Some expected) (Done None)) ≡ true → holds_file (map.get tree path) ≡ true
file_there tree path expected file done =
    elim (is_expected (map.get tree path) (Some expected)) as (λ b. is_expected (map.get tree path) (Some expected) ≡ b
    → is_done {B = List ℕ} (cond b (Done None) (Differs (map.get tree path))) ≡ true → holds_file (map.get tree path) ≡ true) [
      | true ↦ λ e _. ap (λ (o : Option Entry). holds_file o) (expected_is (map.get tree path) (Some expected) e) ∙ file
      | false ↦ λ e h. absurd (cc)
    ] refl done
