use Rattle.std.proofs.Common.{◌∙◌, ◌++◌, ◌∷◌, [], refl, sym, ap, subst}
use Rattle.session_table.specs.Answers.{IsNew}
use Rattle.session_table.specs.Distinct.{with_name}
use Rattle.session_table.specs.States.{SessionsState}
use Rattle.session_table.specs.declared.session.Session.{Session}
use Rattle.session_table.proofs.Indexed.{kept_as, kept_forward, kept_sync}
use Rattle.session_table.proofs.sessions.Sessions.insert.Goals as goal

pub invariant_of-self : goal.invariant_of-self
invariant_of-self c =
    let inside = c.self.inside in
    let i = c.args.identifier in
    let new = subst (λ (v : SessionsState). IsNew c.args.create i v.given v.live) (sym c.self.view_is) c.requires.new in
    kept_as _ _ _ _ _ _ _ _
    c.push_given.ensures
    (c.push_live.ensures ∙ ap (λ (s : Session). inside.live.entries ++ (i.id, s) ∷ []) c.new.ensures)
    (c.add_name.ensures ∙ ap (λ o. with_name inside.sync_names.names o i.id) c.requires.name)
    refl
    (kept_sync inside.given.entries inside.live.entries inside.sync_names.names inside.forward_names.names c.self.invariant c.args.create i new (sym c.in-Sync.is ∙ c.requires.new.2))

pub invariant_of-self-in-Forward : goal.invariant_of-self-in-Forward
invariant_of-self-in-Forward c =
    let inside = c.self.inside in
    let i = c.args.identifier in
    let new = subst (λ (v : SessionsState). IsNew c.args.create i v.given v.live) (sym c.self.view_is) c.requires.new in
    kept_as _ _ _ _ _ _ _ _
    c.push_given.ensures
    (c.push_live.ensures ∙ ap (λ (s : Session). inside.live.entries ++ (i.id, s) ∷ []) c.new.ensures)
    refl
    (c.add_name-in-Forward.ensures ∙ ap (λ o. with_name inside.forward_names.names o i.id) c.requires.name)
    (kept_forward inside.given.entries inside.live.entries inside.sync_names.names inside.forward_names.names c.self.invariant c.args.create i new (sym c.in-Forward.is ∙ c.requires.new.2))
