use Rattle.std.proofs.Common.{◌∙◌, refl, sym}
use Rattle.session_table.proofs.Indexed.{kept_as, less_forward, less_sync}
use Rattle.session_table.proofs.sessions.Sessions.remove.Goals as goal

pub invariant_of-self : goal.invariant_of-self
invariant_of-self c =
    let inside = c.self.inside in
    let found = sym c.shift_remove.ensures.value ∙ c.in-Some.is in
    kept_as _ _ _ _ _ _ _ _ refl c.shift_remove.ensures.entries refl refl
    (less_sync inside.given.entries inside.live.entries inside.sync_names.names inside.forward_names.names c.self.invariant c.args.id c.in-Some.session found c.take_name.new.names.names (sym c.in-Sync.is ∙ c.kind.ensures) c.take_name.ensures)

pub invariant_of-self-in-Forward : goal.invariant_of-self-in-Forward
invariant_of-self-in-Forward c =
    let inside = c.self.inside in
    let found = sym c.shift_remove.ensures.value ∙ c.in-Some.is in
    kept_as _ _ _ _ _ _ _ _ refl c.shift_remove.ensures.entries refl refl
    (less_forward inside.given.entries inside.live.entries inside.sync_names.names inside.forward_names.names c.self.invariant c.args.id c.in-Some.session found c.take_name-in-Forward.new.names.names (sym c.in-Forward.is ∙ c.kind.ensures) c.take_name-in-Forward.ensures)
