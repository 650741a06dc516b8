use Rattle.std.proofs.Common.{◌≡◌, ◌∙◌, ℕ, List, refl, sym, ap, subst, nat_eq}
use Rattle.session_table.specs.Distinct.{AreKept}
use Rattle.session_table.proofs.Indexed.{kept_changed}
use Rattle.std.specs.Map.{set_value}
use Rattle.std.specs.Option.{option_copied_mut}
use Rattle.session_table.specs.declared.session.Session.{Session}
use Rattle.session_table.specs.declared.sessions.Sessions.TheInside.{Inside}
use Rattle.session_control.specs.declared.standing.Standing.{Standing}
use Rattle.session_table.specs.Machine.{changed}
use Rattle.session_table.specs.Standings.{change_by, with_standing}
use Rattle.session_table.specs.States.{SessionsState}
use Rattle.session_table.proofs.Changing.{changed_here, changed_nowhere}
use Rattle.session_table.proofs.sessions.Sessions.alter.Goals as goal
use Rattle.session_table.proofs.sessions.Sessions.alter.Goals.{in-Some, in-None}

pub returns-clause-live : goal.returns-clause-live
returns-clause-live c =
    let id = c.args.id in
    let change = with_standing (change_by c.args.change) in
    let es = c.self.inside.live.entries in
    let seen = ap (λ (v : SessionsState). changed id change v.live) c.self.view_is in
    elim c.match-get_mut.branch [
      | in-Some w ↦
          let s = w.in-Some.session.now in
          let here = sym c.get_mut.ensures.value ∙ ap option_copied_mut w.in-Some.is in
          let new : Session = record { row = s.row; standing = w.change_standing-session.result; report = s.report } in
          ap (λ (x : Inside). x.live.entries) w.self-inside-is
          ∙ (c.get_mut.follows.holds new).0
          ∙ ap (λ (t : Standing). set_value (nat_eq id) es (record { row = s.row; standing = t; report = s.report })) w.change_standing-session.ensures
          ∙ changed_here id change es s here
          ∙ seen
      | in-None w ↦
          let here = sym c.get_mut.ensures.value ∙ ap option_copied_mut w.in-None.is in
          ap (λ (x : Inside). x.live.entries) w.self-inside-is
          ∙ ap (λ m. m.entries) c.get_mut.follows.holds-at-none
          ∙ changed_nowhere id change es here
          ∙ seen
    ]

pub invariant_of-self : goal.invariant_of-self
invariant_of-self c =
    let id = c.args.id in
    let change = with_standing (change_by c.args.change) in
    let inside = c.self.inside in
    let es = inside.live.entries in
    let kept = kept_changed inside.given.entries es inside.sync_names.names inside.forward_names.names c.self.invariant id change (λ s. refl) in
    let back : (now : List (ℕ × Session)) → now ≡ changed id change es → AreKept inside.given.entries now inside.sync_names.names inside.forward_names.names =
    λ now same. subst (λ n. AreKept inside.given.entries n inside.sync_names.names inside.forward_names.names) (sym same) kept in
    elim c.match-get_mut.branch [
      | in-Some w ↦
          let s = w.in-Some.session.now in
          let here = sym c.get_mut.ensures.value ∙ ap option_copied_mut w.in-Some.is in
          let new : Session = record { row = s.row; standing = w.change_standing-session.result; report = s.report } in
          subst (λ (x : Inside). AreKept x.given.entries x.live.entries x.sync_names.names x.forward_names.names) (sym w.self-inside-is) (back _
          ((c.get_mut.follows.holds new).0
          ∙ ap (λ (t : Standing). set_value (nat_eq id) es (record { row = s.row; standing = t; report = s.report })) w.change_standing-session.ensures
          ∙ changed_here id change es s here
          ))
      | in-None w ↦
          let here = sym c.get_mut.ensures.value ∙ ap option_copied_mut w.in-None.is in
          subst (λ (x : Inside). AreKept x.given.entries x.live.entries x.sync_names.names x.forward_names.names) (sym w.self-inside-is)
          (back _ (ap (λ m. m.entries) c.get_mut.follows.holds-at-none ∙ changed_nowhere id change es here))
    ]
