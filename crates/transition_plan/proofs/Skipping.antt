-- Skipping the steps at the front, one at a time.
use Rattle.std.proofs.Common.{◌≡◌, ℕ, suc, ◌+◌, ◌≤◌, Bool, true, false, List, [], ◌∷◌, ◌++◌, length, length-append, arith, None, refl, sym, ap, subst₂, ◌∙◌}
use Rattle.std.specs.Prelude.{if◌then◌else◌}
use Rattle.entry_tree.specs.Tree.{Names}
use Rattle.entry_tree.specs.declared.side.Side.{Side}
use Rattle.mode_rules.specs.declared.ancestor_line.AncestorLine.{AncestorLine}
use Rattle.transition_plan.proofs.InOrder.{skipped_in_order}
use Rattle.transition_plan.specs.Order.{AreInOrder}
use Rattle.transition_plan.specs.Courses.{Course, is_first_blocked, settled, not_done}
use Rattle.transition_plan.specs.declared.step.Step.{Step}
use Rattle.transition_plan.specs.declared.undone.Undone.{Undone}

module _ (side : Side) (at : Names) (landed : List AncestorLine) (undone : List Undone) where
  -- one step skipped
  pub skipped : (rest others : List Step) (more : List Undone) → is_first_blocked undone rest ≡ true
      → ((step : Step) (behind : List Step) → rest ≡ step ∷ behind → (others ≡ behind) × (more ≡ undone ++ not_done None step ∷ []))
      → settled side at landed undone rest ≡ settled side at landed more others
  skipped [] others more h gone = absurd (cc)
  skipped (step ∷ behind) others more h gone =
      let went = gone step behind refl in
      let whole : Course = record { side = side; at = at; rest = step ∷ behind; landed = landed; undone = undone } in
      ap (λ (b : Bool). if b then settled side at landed (undone ++ not_done None step ∷ []) behind else whole) h
      ∙ (λ i. settled side at landed (sym went.1 i) (sym went.0 i))

  -- nothing is skipped
  pub stays : (rest : List Step) → is_first_blocked undone rest ≡ false
      → settled side at landed undone rest ≡ record { side = side; at = at; rest = rest; landed = landed; undone = undone }
  stays [] h = refl
  stays (step ∷ behind) h =
      let whole : Course = record { side = side; at = at; rest = step ∷ behind; landed = landed; undone = undone } in
      ap (λ (b : Bool). if b then settled side at landed (undone ++ not_done None step ∷ []) behind else whole) h

-- The same steps are skipped from here on as from the start, there is room for them, and each turn takes one off.
pub record Skips (rest0 rest : List Step) (undone0 undone : List Undone) (folder capacity turn end : ℕ) : Type 0 where
  pub settles : (side : Side) (at : Names) (landed : List AncestorLine) → settled side at landed undone0 rest0 ≡ settled side at landed undone rest
  pub room : length rest + length undone ≤ capacity
  pub counted : length rest + turn ≡ end
  pub fewer : length rest ≤ length rest0
  pub in_order : AreInOrder undone folder rest

-- one turn
pub turned : (rest0 rest others : List Step) (undone0 undone more : List Undone) (folder capacity capacity' turn end : ℕ)
    → Skips rest0 rest undone0 undone folder capacity turn end → is_first_blocked undone rest ≡ true
    → ((step : Step) (behind : List Step) → rest ≡ step ∷ behind → (others ≡ behind) × (more ≡ undone ++ not_done None step ∷ []))
    → capacity' ≡ capacity → Skips rest0 others undone0 more folder capacity' (turn + 1) end
turned rest0 [] others undone0 undone more folder capacity capacity' turn end so h gone same = absurd (cc)
turned rest0 (step ∷ behind) others undone0 undone more folder capacity capacity' turn end so h gone same =
    let went = gone step behind refl in
    let fewer : length others ≡ length behind = ap length went.0 in
    let longer : length more ≡ length undone + 1 = ap length went.1 ∙ length-append undone (not_done None step ∷ []) in
    let room : suc (length behind) + length undone ≤ capacity = so.room in
    let counted : suc (length behind) + turn ≡ end = so.counted in
    let before : suc (length behind) ≤ length rest0 = so.fewer in
    record {
      settles = λ side at landed. so.settles side at landed ∙ skipped side at landed undone (step ∷ behind) others more h gone;
      room = omega (arith, fewer, longer, room, same);
      counted = omega (arith, fewer, counted);
      fewer = omega (arith, fewer, before);
      in_order = subst₂ (λ (r : List Step) (u : List Undone). AreInOrder u folder r) (sym went.0) (sym went.1) (skipped_in_order undone folder step behind h so.in_order);
    }
