use Rattle.scan_core.proofs.Firsts.{first_some, first_none, rest_some, rest_none, none_there}
use Rattle.scan_core.proofs.later.Later.pop_first.Goals as goal

pub returns-in_default-clause-first : goal.returns-in_default-clause-first
returns-in_default-clause-first c =
    first_none c.self.inside.map c.args.self.now c.self.view_is c.len.ensures.ordered (none_there c.self.inside.map.entries (λ some. c.in_default.ensures.variant.1 some))

pub returns-in_default-clause-rest : goal.returns-in_default-clause-rest
returns-in_default-clause-rest c =
    rest_none c.self.inside.map c.args.self.now c.self.view_is c.len.ensures.ordered c.pop_first.new.self (none_there c.self.inside.map.entries (λ some. c.in_default.ensures.variant.1 some)) c.in_default.ensures.unchanged

pub returns-clause-first : goal.returns-clause-first
returns-clause-first c =
    first_some c.self.inside.map c.args.self.now c.self.view_is c.len.ensures.ordered (c.in-Some.path, c.in-Some.wanted) c.pop_first.new.self.entries c.in-Some.ensures.removal

pub returns-clause-rest : goal.returns-clause-rest
returns-clause-rest c =
    rest_some c.self.inside.map c.args.self.now c.self.view_is c.len.ensures.ordered c.pop_first.new.self (c.in-Some.path, c.in-Some.wanted) c.pop_first.new.self.entries c.in-Some.ensures.removal c.in-Some.ensures.updates
