use Rattle.std.proofs.Common.{◌≡◌, refl, sym, ap, ◌∙◌, Some, None}
use Rattle.std.proofs.Math.Dec.{lit≤}
use Rattle.request_text.specs.Given.{or_default}
use Rattle.request_text.specs.declared.limits.TheConstants.{MAX_ENTRY_LIMIT}
use Rattle.request_text.proofs.options.entries_of.Goals as goal

pub unreachable-requires : goal.unreachable-requires
unreachable-requires c =
    let some = (c.of.ensures MAX_ENTRY_LIMIT).1 (refl, lit≤ tt, lit≤ tt) in
    let none : None ≡ Some MAX_ENTRY_LIMIT = sym c.in-None-of.is ∙ some in absurd (cc)

pub returns-in-Some-of : goal.returns-in-Some-of
returns-in-Some-of c = ((c.of.ensures c.in-Some-of.most).0 c.in-Some-of.is).0 ∙ sym (ap (or_default MAX_ENTRY_LIMIT) c.in-None.is)
