-- Which memory a step had.
use Rattle.std.proofs.Common.{◌≡◌, ℕ, true, false, List, Some, None, is_some, refl, ap, sym, ◌∙◌}
use Rattle.std.specs.Prelude.{if◌then◌else◌}
use Rattle.mode_rules.specs.declared.problem.Problem.{Problem}
use Rattle.mode_rules.specs.declared.report.Outcome.{Outcome}
use Rattle.mode_rules.specs.declared.report.Outcome.TheVariants.{NoMemory}
use Rattle.entry_tree.specs.declared.side.Side.{Side}
use Rattle.entry_tree.specs.declared.side.Side.TheVariants.{Alpha, Beta}
use Rattle.roots_api.specs.declared.op.Op.{Op}
use Rattle.cycle_core.specs.Ending.{Memory, GoesBy, broken, committed, ended_early, report, to_changes, to_commit, to_stages}
use Rattle.cycle_core.specs.Going.{after_scan, scans_beta}
use Rattle.cycle_core.specs.Looks.{looks_next}
use Rattle.cycle_core.specs.Planning.{made, planned}
use Rattle.cycle_core.specs.UnderWay.{UnderWay, lines_of, problems_of, stages_next, with_staged}
use Rattle.cycle_core.specs.declared.looks.Looks.{Looks}
use Rattle.cycle_core.specs.declared.planning.Made.{Made}
use Rattle.cycle_core.specs.declared.planning.Made.TheVariants.{Halts, Works}
use Rattle.cycle_core.specs.declared.spec.Setup.{Setup}
use Rattle.cycle_core.specs.declared.stand.Next.{Next}
use Rattle.cycle_core.specs.declared.stand.Next.TheVariants.{Goes}
use Rattle.cycle_core.specs.declared.stand.Stand.TheVariants.{Scans, Stages}

-- there was enough
abbrev pub full : Memory
full = record { take = true; scan = true; step = true; plan = true; report = true }

-- enough but for the report's problems
abbrev pub reportless : Memory
reportless = record { take = true; scan = true; step = true; plan = true; report = false }

-- enough for all up to the report
abbrev pub ample : Memory → Memory
ample m = record { take = true; scan = true; step = true; plan = true; report = m.report }

-- none for the next request of a staging
abbrev pub stepless : Memory → Memory
stepless m = record { take = true; scan = true; step = false; plan = true; report = m.report }

-- none for the plan
abbrev pub planless : Memory
planless = record { take = true; scan = true; step = true; plan = false; report = true }

-- enough for the plan
abbrev pub planful : Memory → Memory
planful m = record { take = true; scan = true; step = m.step; plan = true; report = m.report }

-- none for the next request of a scan
abbrev pub scanless : Memory
scanless = record { take = true; scan = false; step = true; plan = true; report = true }

-- enough for it
abbrev pub scanful : Memory → Memory
scanful m = record { take = true; scan = true; step = m.step; plan = m.plan; report = m.report }

pub planned_works : (run cycle : ℕ) (w : UnderWay) (m : Made) (next : Next) → Works w ≡ m → GoesBy (λ memory. to_stages run cycle memory w) next
    → GoesBy (λ memory. planned run cycle memory m) next
planned_works run cycle w m next e (memory, is) = (planful memory, is ∙ ap (λ x. planned run cycle (planful memory) x) e)

module _ (run cycle : ℕ) where
  planned_scanful : (memory : Memory) (m : Made) → planned run cycle memory m ≡ planned run cycle (scanful memory) m
  planned_scanful memory (Halts halt seen) = refl
  planned_scanful memory (Works w) = refl

module _ (setup : Setup) (l : Looks) where
  pub scan_broken : (side : Side) (next : Next) → next ≡ ended_early setup.tag.run setup.tag.cycle NoMemory → GoesBy (λ memory. after_scan setup memory side l) next
  scan_broken side next is = (scanless, is)

  pub beta_asks : (op : Op) → looks_next Beta l ≡ Some op → GoesBy (λ memory. after_scan setup memory Beta l) (Goes (Scans (record { side = Beta; looks = l })))
  beta_asks op e = (full, sym (ap (λ o. if is_some o then Goes (Scans (record { side = Beta; looks = l })) else planned setup.tag.run setup.tag.cycle full (made setup.mode l)) e))

  pub alpha_asks : (op : Op) → looks_next Alpha l ≡ Some op → GoesBy (λ memory. after_scan setup memory Alpha l) (Goes (Scans (record { side = Alpha; looks = l })))
  alpha_asks op e = (full, sym (ap (λ o. if is_some o then Goes (Scans (record { side = Alpha; looks = l })) else scans_beta setup full l) e))

  pub beta_rests : (next : Next) → looks_next Beta l ≡ None → GoesBy (λ memory. planned setup.tag.run setup.tag.cycle memory (made setup.mode l)) next
      → GoesBy (λ memory. after_scan setup memory Beta l) next
  beta_rests next e (m, is) =
      (scanful m, is ∙ planned_scanful setup.tag.run setup.tag.cycle m (made setup.mode l) ∙ sym (ap (λ o. if is_some o then Goes (Scans (record { side = Beta; looks = l })) else planned setup.tag.run setup.tag.cycle (scanful m) (made setup.mode l)) e))

  pub alpha_rests : (next : Next) → looks_next Alpha l ≡ None → GoesBy (λ memory. after_scan setup memory Beta l) next → GoesBy (λ memory. after_scan setup memory Alpha l) next
  alpha_rests next e (m, is) = (
    m,
    is ∙ sym (ap (λ o. if m.scan then (if is_some o then Goes (Scans (record { side = Alpha; looks = l })) else scans_beta setup m l)
        else ended_early setup.tag.run setup.tag.cycle NoMemory) e),
  )

module _ (run cycle : ℕ) (w : UnderWay) where
  pub commit_full : (problems : List Problem) (outcome : Outcome) (next : Next) → problems ≡ problems_of w → outcome ≡ w.outcome
      → next ≡ committed run cycle (lines_of w) (report run cycle outcome w.conflicts problems) → GoesBy (λ memory. to_commit run cycle memory w) next
  commit_full problems outcome next e o is = (
    full,
    is ∙ ap (λ v. committed run cycle (lines_of w) (report run cycle v w.conflicts problems)) o
        ∙ ap (λ ps. committed run cycle (lines_of w) (report run cycle w.outcome w.conflicts ps)) e,
  )

  pub stages_asked : (asked : UnderWay) → asked ≡ w → is_some (stages_next w) ≡ true → GoesBy (λ memory. to_stages run cycle memory w) (Goes (Stages asked))
  stages_asked asked is e =
      (full, ap (λ a. Goes (Stages a)) is ∙ sym (ap (λ b. if b then Goes (Stages w) else to_changes run cycle full (with_staged w)) e))

  pub stages_rested : (next : Next) (rest staged : UnderWay) → rest ≡ w → staged ≡ with_staged rest → stages_next w ≡ None
      → GoesBy (λ memory. to_changes run cycle memory staged) next → GoesBy (λ memory. to_stages run cycle memory w) next
  stages_rested next rest staged same e none (m, is) = (
    ample m,
    is ∙ ap (λ s. to_changes run cycle m s) (e ∙ ap with_staged same)
        ∙ sym (ap (λ o. if is_some o then Goes (Stages w) else to_changes run cycle (ample m) (with_staged w)) none),
  )

  pub stages_broken : (next : Next) (rest : UnderWay) → rest ≡ w → GoesBy (λ memory. broken run cycle memory rest NoMemory) next
      → GoesBy (λ memory. to_stages run cycle memory w) next
  stages_broken next rest same (m, is) = (stepless m, is ∙ ap (λ s. broken run cycle m s NoMemory) same)
