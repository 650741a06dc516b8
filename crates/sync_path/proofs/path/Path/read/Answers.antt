use Rattle.std.proofs.Common.{◌∙◌, ℕ, ◌≤◌, Result, Ok, Err, length, ap, subst}
use Rattle.sync_path.specs.Path.{path_text}
use Rattle.sync_path.specs.PathText.{IsBadPlace}
use Rattle.sync_path.specs.declared.path_error.PathError.{PathError}
use Rattle.sync_path.specs.declared.path_error.PathError.TheVariants.{Bad, Memory}
use Rattle.sync_path.proofs.BufferParts.{kept_from_path}
use Rattle.sync_path.proofs.Texts.{path_text-parts_of, text_from_path, one_bad_place, path_has_no_bad}
use Rattle.sync_path.proofs.path.Path.read.Goals as goal

-- the place that a refusal tells
place_told : {T : Type 0} → Result T PathError → ℕ
place_told (Ok _) = 0
place_told (Err Memory) = 0
place_told (Err (Bad bad)) = bad.place

pub returns-in-Some-clause-refused : goal.returns-in-Some-clause-refused
unfolding place_told
returns-in-Some-clause-refused c = λ place. (
  λ e. subst (IsBadPlace c.args.text.now) (ap place_told e) c.in-Some.ensures,
  λ b. ap (λ p. Err (Bad (record { place = p }))) (one_bad_place c.args.text.now c.in-Some.place place c.in-Some.ensures b),
)

pub buffer_of_text-requires : goal.buffer_of_text-requires
buffer_of_text-requires c = subst (λ bs. length bs ≤ 4096) (path_text-parts_of c.args.text.now) c.in-None.ensures.len

pub invariant_of-result : goal.invariant_of-result
invariant_of-result c = (kept_from_path _ _ c.in-Ok.ensures c.in-None.ensures).0

pub returns-in-Ok-clause-value : goal.returns-in-Ok-clause-value
returns-in-Ok-clause-value c = ap path_text (kept_from_path _ _ c.in-Ok.ensures c.in-None.ensures).1 ∙ path_text-parts_of c.args.text.now

pub returns-in-Ok-clause-path : goal.returns-in-Ok-clause-path
returns-in-Ok-clause-path c = (kept_from_path _ _ c.in-Ok.ensures c.in-None.ensures).0.path

pub returns-in-Ok-clause-refused : goal.returns-in-Ok-clause-refused
returns-in-Ok-clause-refused c = λ place. (λ e. absurd (cc), λ b. absurd (path_has_no_bad c.args.text.now place c.in-None.ensures b))

pub returns-in-Err-clause-refused : goal.returns-in-Err-clause-refused
returns-in-Err-clause-refused c = λ place. (λ e. absurd (cc), λ b. absurd (path_has_no_bad c.args.text.now place c.in-None.ensures b))

pub returns-in-Err-clause-memory : goal.returns-in-Err-clause-memory
returns-in-Err-clause-memory c = λ _. text_from_path c.args.text.now c.in-None.ensures
