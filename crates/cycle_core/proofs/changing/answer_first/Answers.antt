use Rattle.std.proofs.Common.{rules, length, refl, ap, ◌∙◌, slice_set}
use Rattle.std.proofs.lemmas.Option.{slice_get_past, slice_get_read}
use Rattle.std.specs.Option.{option_copied}
use Rattle.cycle_core.proofs.Front.{answered_is, answered_none_is, over_still, still_over}
use Rattle.cycle_core.proofs.changing.answer_first.Goals as goal

pub returns-then-at-len-clause-value : goal.returns-then-at-len-clause-value
returns-then-at-len-clause-value c =
    answered_none_is (option_copied c.args.answer) c.args.courses.now.items c.args.at c.requires
    (slice_get_past c.args.courses.now.items c.args.at (search rules))

pub returns-then-at-len-clause-over : goal.returns-then-at-len-clause-over
returns-then-at-len-clause-over c = over_still c.args.courses.now.items c.args.at c.requires

pub returns-clause-value : goal.returns-clause-value
returns-clause-value c =
    ap (λ d. slice_set c.args.courses.now.items c.args.at d) c.take.ensures
    ∙ answered_is (option_copied c.args.answer) c.args.courses.now.items c.args.at c.index_mut.result.now c.requires
    (slice_get_read c.args.courses.now.items (length c.args.courses.now.items) c.args.at c.index_mut.result.now refl
    (search rules) c.index_mut.ensures.value)

pub returns-clause-over : goal.returns-clause-over
returns-clause-over c = still_over c.args.courses.now.items c.args.at c.take.new.self c.requires
