-- What a right report comes to.
use lib.Pointwise.{pointwise}
use Rattle.std.proofs.Common.{◌≡◌, ◌⊎◌, inl, inr, ℕ, ◌+◌, ◌==◌, Bool, true, false, not, cond, ◌&&◌, ◌||◌, List, [], ◌∷◌, ◌++◌, nat_lt, refl, sym, ap, subst, ◌∙◌, Option, Some, None, arith}
use Rattle.std.specs.Prelude.{if◌then◌else◌}
use Rattle.std.specs.Option.{is_some, option_map_or}
use Rattle.std.proofs.lemmas.Bool.{and_parts, or_right, or_left}
use Rattle.std.proofs.lemmas.List.{append_assoc, append-nil}
use Rattle.entry_tree.specs.declared.side.Side.{Side}
use Rattle.entry_tree.specs.declared.side.Side.TheVariants.{Alpha, Beta}
use Rattle.mode_rules.specs.declared.halt.Halt.{Halt}
use Rattle.mode_rules.specs.declared.problem.Problem.{Problem}
use Rattle.mode_rules.specs.declared.report.CycleReport.{CycleReport}
use Rattle.mode_rules.specs.declared.report.Outcome.{Outcome}
use Rattle.mode_rules.specs.declared.report.Outcome.TheVariants as outcome
use Rattle.roots_api.specs.Logs.{rows_in}
use Rattle.roots_api.specs.declared.event.Span.{Span}
use Rattle.scan_laws.specs.ScanLists.{is_next, is_end, goes_on, rows_heard, is_unfetched}
use Rattle.scan_laws.specs.Seen.{Heard, asked_next}
use Rattle.cycle_law.specs.Cycles.{Session, Cycle, Ground, scanned_on}
use Rattle.cycle_law.specs.Outcomes.{has_cause, has_plan, has_too_many, is_decided, is_halted, may_go_on}
use Rattle.cycle_law.specs.Plans.{plan}
use Rattle.cycle_law.specs.ReportLaws.{DoneTellsAll, HaltIsExact}
use Rattle.cycle_law.specs.ReportSameness.{is_part, same_conflict, same_halt, same_outcome, same_problem}
use Rattle.cycle_law.specs.Reports.{all_met, all_seen, are_right, behind, conflicts_due, is_right, tells_all}
use Rattle.cycle_law.specs.Problems.{are_all_accounted}
use Rattle.cycle_law.specs.Saw.{is_whole_on, span_length}
use Rattle.cycle_law.specs.Unlogged.{Unlogged}
use Rattle.cycle_law.proofs.ReportTests.{behind_is, conflicts_are, halt_is, part_short, part_whole}

-- ---- a right report's parts

module _ (session : Session) (g : Ground) (c : Cycle) (u : Unlogged) (report : CycleReport) where
  record Parts : Type 0 where
    pub caused : has_cause session g c u report.outcome ≡ true
    pub conflicts : report.conflicts ≡ conflicts_due session g c u
    pub problems : (if has_plan session g c u then option_map_or (are_right session g c u report) (behind (all_seen session g c) report.problems) false else pointwise same_problem report.problems []) ≡ true

  parts : is_right session g c u report ≡ true → Parts
  parts h =
      let one = and_parts (report.cycle == c.number) _ h in
      let two = and_parts (has_cause session g c u report.outcome) _ one.1 in
      let three = and_parts (pointwise same_conflict report.conflicts (conflicts_due session g c u)) _ two.1 in
      record { caused = two.0; conflicts = conflicts_are report.conflicts (conflicts_due session g c u) three.0; problems = three.1 }

  -- ---- done

  module _ (done : report.outcome ≡ outcome.Done) where
    all_told : (problems : List Problem) → are_right session g c u report problems ≡ true → problems ≡ all_met session g c u
    all_told problems h =
        let one = and_parts (is_part problems (all_met session g c u)) _ h in
        let all = subst (λ (o : Outcome). (if same_outcome o outcome.NoMemory then true else (tells_all session g c problems Alpha && (tells_all session g c problems Beta
        && (not (same_outcome o outcome.Done) || (is_part (all_met session g c u) problems && (are_all_accounted session g c u Alpha && are_all_accounted session g c u Beta)))))) ≡ true) done one.1 in
        let two = and_parts (tells_all session g c problems Alpha) _ all in
        let three = and_parts (tells_all session g c problems Beta) _ two.1 in
        let four = and_parts (is_part (all_met session g c u) problems) _ three.1 in
        part_whole problems (all_met session g c u) one.0 (part_short (all_met session g c u) problems four.0)

    told_by : (o : Option (List Problem)) → behind (all_seen session g c) report.problems ≡ o → option_map_or (are_right session g c u report) o false ≡ true → report.problems ≡ all_seen session g c ++ all_met session g c u
    told_by None is h = absurd (cc)
    told_by (Some rest) is h = behind_is (all_seen session g c) report.problems rest is ∙ ap (λ ps. all_seen session g c ++ ps) (all_told rest h)

    goes : Parts → may_go_on session g c u ≡ true
    goes p = (and_parts (may_go_on session g c u) _ (subst (λ (o : Outcome). has_cause session g c u o ≡ true) done p.caused)).0

    tells : Parts → (report.conflicts ≡ (plan session g c).conflicts) × (report.problems ≡ all_seen session g c ++ all_met session g c u)
    tells p =
        let go = goes p in
        let stands = (and_parts (has_plan session g c u) _ go).0 in (
          p.conflicts ∙ ap (λ b. if b then (plan session g c).conflicts else []) go,
          told_by (behind (all_seen session g c) report.problems) refl
              (sym (ap (λ b. if b then option_map_or (are_right session g c u report) (behind (all_seen session g c) report.problems) false else pointwise same_problem report.problems []) stands) ∙ p.problems),
        )

pub done_tells_all : DoneTellsAll
done_tells_all session g c u report h done = tells session g c u report done (parts session g c u report h)

-- ---- halted

not_both : (b : Bool) → b ≡ true → not b ≡ true → ⊥
not_both true h g = absurd (cc)
not_both false h g = absurd (cc)

rows_behind : (before hs : List (Heard Span)) → rows_heard (before ++ hs) ≡ rows_heard before + rows_heard hs
rows_behind [] hs = omega arith
rows_behind (h ∷ before) hs = let more : rows_heard (before ++ hs) ≡ rows_heard before + rows_heard hs = rows_behind before hs in omega arith

-- a scan's list lists no more rows than a side may have
module _ (session : Session) (spares : List (Heard Span)) where
  few_rows : (before hs : List (Heard Span)) → goes_on span_length session.entries session.rules session.size (is_unfetched span_length session.entries session.rules session.size spares) before hs ≡ true
      → nat_lt session.entries (rows_heard before) ≡ false → nat_lt session.entries (rows_heard (before ++ hs)) ≡ false
  few_rows before [] h few = ap (λ (l : List (Heard Span)). nat_lt session.entries (rows_heard l)) (append-nil before) ∙ few
  few_rows before (x ∷ hs) h few =
      let one = and_parts (is_next (asked_next span_length session.rules session.size before (is_unfetched span_length session.entries session.rules session.size spares)) x.op) _ h in
      let two = and_parts (not (is_end span_length session.entries session.rules session.size before x)) _ one.1 in
      let here : nat_lt session.entries (rows_heard (before ++ x ∷ [])) ≡ false = ap (λ n. nat_lt session.entries n) (rows_behind before (x ∷ []) ∙ last_rows (rows_heard before) (rows_in x.answer)) ∙ not_end _ _ _ two.0 in
      ap (λ (l : List (Heard Span)). nat_lt session.entries (rows_heard l)) (sym (append_assoc before (x ∷ []) hs)) ∙ few_rows (before ++ x ∷ []) hs two.1 here
    where
      last_rows : (n m : ℕ) → n + (m + 0) ≡ n + m
      last_rows n m = omega arith

      not_end : (a b d : Bool) → not (cond a true (cond b true d)) ≡ true → d ≡ false
      not_end true b d e = absurd (cc)
      not_end false true d e = absurd (cc)
      not_end false false true e = absurd (cc)
      not_end false false false e = refl

module _ (session : Session) (g : Ground) (c : Cycle) (u : Unlogged) where
  not_many : (side : Side) → is_whole_on session g c side ≡ true → has_too_many session g c u side ≡ false
  not_many side whole = few_rows session (scanned_on g c side) [] (scanned_on g c side) (and_parts (goes_on span_length session.entries session.rules session.size (is_unfetched span_length session.entries session.rules session.size (scanned_on g c side)) [] (scanned_on g c side)) _ whole).0 none
    where
      none : nat_lt session.entries 0 ≡ false
      none = grind arith

  module _ (stands : has_plan session g c u ≡ true) (why : Halt) (halt : (plan session g c).halt ≡ Some why) where
    halted : is_halted session g c u ≡ true
    halted = λ i. stands i && is_some (halt i)

    decided : is_decided session g c u ≡ true
    decided = or_right (has_too_many session g c u Alpha) _ (or_right (has_too_many session g c u Beta) (is_halted session g c u) halted)

    undecided : (b : Bool) → (b && not (is_decided session g c u)) ≡ true → ⊥
    undecided b h = not_both (is_decided session g c u) decided (and_parts b (not (is_decided session g c u)) h).1

    whole_on : (side : Side) → is_whole_on session g c side ≡ true
    whole_on Alpha = (and_parts (is_whole_on session g c Alpha) _ stands).0
    whole_on Beta = (and_parts (is_whole_on session g c Beta) u.planned (and_parts (is_whole_on session g c Alpha) _ stands).1).0

    by_outcome : (o : Outcome) → has_cause session g c u o ≡ true → (o ≡ outcome.Halted why) ⊎ (o ≡ outcome.NoMemory)
    by_outcome outcome.Done h =
        absurd (not_both (is_decided session g c u || u.append_failed) (or_left (is_decided session g c u) u.append_failed decided) (and_parts (may_go_on session g c u) _ h).1)
    by_outcome (outcome.Halted other) h =
        inl (ap outcome.Halted (halt_is other why (ap (λ (x : Option Halt). option_map_or (same_halt other) x false) (sym halt) ∙ (and_parts (has_plan session g c u) _ h).1)))
    by_outcome outcome.Stopped h = absurd (undecided _ h)
    by_outcome (outcome.TooMany side) h = absurd (let clash : false ≡ true = sym (not_many side (whole_on side)) ∙ h in cc)
    by_outcome (outcome.Fault side) h = absurd (undecided _ h)
    by_outcome (outcome.RootFull side) h = absurd (undecided _ h)
    by_outcome outcome.KeeperFault h = absurd (undecided u.keeper_rose (and_parts u.append_failed _ h).1)
    by_outcome outcome.NoMemory h = inr refl

pub halt_is_exact : HaltIsExact
halt_is_exact session g c u report h stands why halt = by_outcome session g c u stands why halt report.outcome (parts session g c u report h).caused
