-- What was taken away where a mode wants a licence.
use Rattle.std.proofs.Common.{◌≡◌, ◌⊎◌, inl, inr, Bool, true, false, ◌&&◌, not, List, [], ◌∷◌, refl, sym, ap, subst, ◌∙◌, Some, None, ◌||◌}
use Rattle.std.specs.Prelude.{if◌then◌else◌}
use Rattle.std.specs.FinMap as map
use Rattle.std.specs.List.{AllByRecursion, list_all}
use Rattle.std.proofs.lemmas.Bool.{and_parts}
use Rattle.finite_maps.proofs.Constructors.{none_is_not_some}
use Rattle.entry_tree.specs.Side.{other_side}
use Rattle.entry_tree.specs.Tree.{Names}
use Rattle.entry_tree.specs.declared.entry.Entry.{Entry}
use Rattle.entry_tree.specs.declared.side.Side.{Side}
use Rattle.entry_tree.specs.declared.side.Side.TheVariants.{Alpha, Beta}
use Rattle.frame_text.specs.declared.payload.Payload.{Payload}
use Rattle.mode_rules.proofs.Cases.{same_itself}
use Rattle.roots_api.specs.Answers.{is_done}
use Rattle.roots_api.specs.Steps.{is_changing}
use Rattle.roots_api.specs.declared.event.Span.{Span}
use Rattle.roots_api.specs.declared.op.Op.{Op}
use Rattle.roots_api.specs.declared.op.Op.TheVariants.{Place, MakeDir, MakeLink, Remove, SetExec}
use Rattle.scan_laws.specs.Seen.{Heard}
use Rattle.plan_laws.proofs.Sets.{maps_all}
use Rattle.cycle_law.specs.Conserving.{cycle_conserves, side_conserves, is_idle, is_nil, is_lawful, is_spoken_of, is_of_one, are_in_turn, has_allowed_base, has_allowed_scans}
use Rattle.cycle_law.specs.Cycles.{Session, Cycle, Ground, Traces, log_of, heard_on}
use Rattle.cycle_law.specs.Frames.{frames_of, frames_are_sound}
use Rattle.cycle_law.specs.Laws.{EachCycle, IsTheAncestors, TakesTheAncestors}
use Rattle.cycle_law.specs.Licences.{is_there, is_licensed, are_licensed, is_left, wants_licence, taken_by, taken_in, taken_on, atom_of}
use Rattle.cycle_law.specs.Ordering.{changing_on, changes_in_order, changes_at_rest, places_as_seen}
use Rattle.cycle_law.specs.Plans.{ground_of, may_act}
use Rattle.cycle_law.specs.Saw.{saw_at}
use Rattle.cycle_law.proofs.Lists.{all_tested, all_unfiltered}
use Rattle.cycle_law.proofs.Tests.{there_is}

-- ---- what a cycle that is spoken of keeps to

-- What a side of a cycle keeps to: it changed nothing, or all that it changed was in order and as seen, and licensed where the mode says so.
pub record KeepsOrder (session : Session) (g : Ground) (c : Cycle) (side : Side) : Type 0 where
  pub order : changes_in_order session g c side ≡ true
  pub seen : places_as_seen session g c side ≡ true
  pub licensed : wants_licence session.mode side ≡ true → are_licensed session g c side ≡ true

abbrev pub SideKeeps : Session → Ground → Cycle → Side → Type 0
SideKeeps session g c side = (changing_on g c side ≡ []) ⊎ KeepsOrder session g c side

-- What a cycle keeps to: both sides do, and its frames are sound.
pub record CycleKeeps (session : Session) (g : Ground) (c : Cycle) (frames : List Payload) : Type 0 where
  pub sides : (side : Side) → SideKeeps session g c side
  pub sound : (frames_of frames c ≡ []) ⊎ (frames_are_sound session g c frames ≡ true)

nil_is : {A : Type 0} (xs : List A) → is_nil xs ≡ true → xs ≡ []
nil_is [] e = refl
nil_is (x ∷ xs) e = absurd (cc)

turned : (b c : Bool) → (not b || c) ≡ true → b ≡ true → c ≡ true
turned true c h e = h
turned false c h e = absurd (cc)

module _ (session : Session) (g : Ground) (c : Cycle) where
  side_keeps : (side : Side) → side_conserves session g c side ≡ true → SideKeeps session g c side
  side_keeps side = by (is_left session.mode side)
    where
      by : (b : Bool) → (if b then is_nil (changing_on g c side)
          else (changes_in_order session g c side && (changes_at_rest session g c side && (places_as_seen session g c side
          && (not (wants_licence session.mode side) || are_licensed session g c side))))) ≡ true → SideKeeps session g c side
      by true h = inl (nil_is (changing_on g c side) h)
      by false h =
          let one = and_parts (changes_in_order session g c side) _ h in
          let two = and_parts (changes_at_rest session g c side) _ one.1 in
          let three = and_parts (places_as_seen session g c side) _ two.1 in
          inr (record { order = one.0; seen = three.0; licensed = turned (wants_licence session.mode side) (are_licensed session g c side) three.1 })

  both_sides : side_conserves session g c Alpha ≡ true → side_conserves session g c Beta ≡ true → (side : Side) → SideKeeps session g c side
  both_sides a b Alpha = side_keeps Alpha a
  both_sides a b Beta = side_keeps Beta b

  idle_sides : changing_on g c Alpha ≡ [] → changing_on g c Beta ≡ [] → (side : Side) → SideKeeps session g c side
  idle_sides a b Alpha = inl a
  idle_sides a b Beta = inl b

  cycle_keeps : (frames : List Payload) → cycle_conserves session g c frames ≡ true → CycleKeeps session g c frames
  cycle_keeps frames = by (may_act session g c)
    where
      by : (b : Bool) → (if b then side_conserves session g c Alpha && (side_conserves session g c Beta && frames_are_sound session g c frames) else is_idle session g c frames) ≡ true
          → CycleKeeps session g c frames
      by true h =
          let one = and_parts (side_conserves session g c Alpha) _ h in
          let two = and_parts (side_conserves session g c Beta) (frames_are_sound session g c frames) one.1 in
          record { sides = both_sides one.0 two.0; sound = inr two.1 }
      by false h =
          let one = and_parts (is_nil (changing_on g c Alpha)) _ h in
          let two = and_parts (is_nil (changing_on g c Beta)) (is_nil (frames_of frames c)) one.1 in
          record { sides = idle_sides (nil_is _ one.0) (nil_is _ two.0); sound = inl (nil_is _ two.1) }

module _ (session : Session) (t : Traces) (c : Cycle) where
  lawful_keeps : is_lawful session t c ≡ true → is_spoken_of t.frames c ≡ true → CycleKeeps session (ground_of t c) c t.frames
  lawful_keeps h spoken =
      let all = turned (is_spoken_of t.frames c) _ h spoken in
      let one = and_parts (has_allowed_base t.frames c) _ all in
      let two = and_parts (has_allowed_scans t.alpha c c.alpha_scans) _ one.1 in
      let three = and_parts (has_allowed_scans t.beta c c.beta_scans) (cycle_conserves session (ground_of t c) c t.frames) two.1 in
      cycle_keeps session (ground_of t c) c t.frames three.1

-- what a cycle keeps to gives a law of each cycle
pub each_cycle : (P : Session → Traces → Cycle → Type 0) → ((session : Session) (t : Traces) (c : Cycle) → CycleKeeps session (ground_of t c) c t.frames → P session t c) → EachCycle P
each_cycle P law session cycles t h =
    let one = and_parts (are_in_turn cycles) _ h in
    let two = and_parts (list_all (is_of_one cycles) t.frames) (list_all (is_lawful session t) cycles) one.1 in
    all_tested (λ c. is_spoken_of t.frames c ≡ true → P session t c) (is_lawful session t) (λ c lawful spoken. law session t c (lawful_keeps session t c lawful spoken)) cycles two.1

-- ---- what was taken away

-- only an operation that changes a tree takes something away
changes_if_taken : (op : Op) (taken : Names × Entry) → taken_by op ≡ Some taken → is_changing op ≡ true
changes_if_taken (Place path digest exec expected) taken is = refl
changes_if_taken (MakeDir path) taken is = refl
changes_if_taken (MakeLink path text expected) taken is = refl
changes_if_taken (Remove path expected) taken is = refl
changes_if_taken (SetExec path expected on) taken is = refl
changes_if_taken op taken is = absurd (none_is_not_some taken is)

module _ (session : Session) (g : Ground) (c : Cycle) (side : Side) where
  abbrev Taken : Names × Entry → Type 0
  Taken = IsTheAncestors session g c side

  not_there : (b : Bool) → not b ≡ true → b ≡ false
  not_there true e = absurd (cc)
  not_there false e = refl

  licensed_is : (taken : Names × Entry) → is_licensed session g c side taken ≡ true → Taken taken
  licensed_is taken h =
      let a = atom_of (log_of g side).digest taken.1 in
      let both = and_parts (is_there (map.get g.ancestor taken.0) a) _ h in (
        there_is (map.get g.ancestor taken.0) a both.0,
        λ same.
            let gone : is_there (saw_at session g c (other_side side) taken.0) a ≡ false = not_there _ both.1 in
            let here : is_there (saw_at session g c (other_side side) taken.0) a ≡ true = ap (λ o. is_there o a) same ∙ same_itself (Some a) in
            let wrong : false ≡ true = sym gone ∙ here in absurd (cc),
      )

  taken_from : (h : Heard Span) → (is_changing h.op ≡ true → ⊥) → (taken : Names × Entry) → taken_in h ≡ Some taken → Taken taken
  taken_from h still taken is = by (is_done h.answer) is
    where
      by : (b : Bool) → (if b then taken_by h.op else None) ≡ Some taken → Taken taken
      by true is = absurd (still (changes_if_taken h.op taken is))
      by false is = absurd (none_is_not_some taken is)

  nothing_taken : changing_on g c side ≡ [] → AllByRecursion Taken (taken_on g c side)
  nothing_taken none =
      maps_all (λ h. is_changing h.op ≡ true → ⊥) Taken taken_in taken_from (heard_on c (log_of g side))
      (all_unfiltered (λ h. ⊥) (λ (h : Heard Span). is_changing h.op) (heard_on c (log_of g side)) (subst (AllByRecursion (λ h. ⊥)) (sym none) tt))

  side_takes : SideKeeps session g c side → wants_licence session.mode side ≡ true → AllByRecursion Taken (taken_on g c side)
  side_takes (inl none) wants = nothing_taken none
  side_takes (inr keeps) wants = all_tested Taken (is_licensed session g c side) licensed_is (taken_on g c side) (keeps.licensed wants)

pub takes_the_ancestors : EachCycle TakesTheAncestors
takes_the_ancestors = each_cycle TakesTheAncestors (λ session t c keeps side wants. side_takes session (ground_of t c) c side (keeps.sides side) wants)
