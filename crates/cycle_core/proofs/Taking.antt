-- Which memory a turn had, and what may be told in it.
use Rattle.std.proofs.Common.{◌≡◌, ◌⊎◌, inl, inr, ℕ, true, false, List, Option, Some, None, is_some, refl, ap, sym, subst, ◌∙◌}
use Rattle.std.specs.Prelude.{if◌then◌else◌, Ok, Err}
use Rattle.std.specs.Option.{option_map}
use Rattle.entry_tree.specs.Tree.{ByPath}
use Rattle.entry_tree.specs.declared.side.Side.{Side}
use Rattle.entry_tree.specs.declared.side.Side.TheVariants.{Alpha, Beta}
use Rattle.mode_rules.specs.declared.report.Outcome.{Outcome}
use Rattle.mode_rules.specs.declared.report.Outcome.TheVariants.{NoMemory}
use Rattle.roots_api.specs.declared.answer.Answer.{Answer}
use Rattle.roots_api.specs.declared.op.Op.{Op}
use Rattle.scan_cache.specs.declared.line.Line.{Line}
use Rattle.scan_core.specs.Scan.{IsAnswered as IsScanned}
use Rattle.scan_core.specs.declared.scan_end.ScanEnd.{ScanEnd}
use Rattle.scan_core.specs.declared.scan_end.ScanEnd.TheVariants.{Memory as EndsByMemory}
use Rattle.stage_core.specs.Staging.{asked_side, op_of}
use Rattle.stage_core.specs.Told.{IsAnswered as IsStaged, state_of as staging_state}
use Rattle.cycle_core.specs.Ending.{GoesBy, Memory, broken, ended_early}
use Rattle.cycle_core.specs.Going.{MayBeTold, MayBeToldOf, ScansTo, TurnsTo, after, after_scan, ask, ask_on, cache_on, caches_after, learnt, learnt_by, outcome_asked, outcome_of, scan_end, scanned, scanned_by, staged, staged_by, told_of, with_cache}
use Rattle.cycle_core.specs.Looks.{Looking, TakesOn, looks_next, with_scan}
use Rattle.cycle_core.specs.Planning.{made, planned}
use Rattle.cycle_core.specs.UnderWay.{UnderWay, first_of, stages_next, staging_op, with_asked, with_staging}
use Rattle.cycle_core.specs.declared.looks.Looks.{Looks}
use Rattle.cycle_core.specs.declared.planning.Made.{Made}
use Rattle.cycle_core.specs.declared.planning.Made.TheVariants.{Halts, Works}
use Rattle.cycle_core.specs.declared.request.Taken.{Taken}
use Rattle.cycle_core.specs.declared.request.Taken.TheVariants as taken
use Rattle.cycle_core.specs.declared.spec.Caches.{Caches}
use Rattle.cycle_core.specs.declared.spec.Setup.{Setup}
use Rattle.cycle_core.specs.declared.stand.Next.{Next}
use Rattle.cycle_core.specs.declared.stand.Next.TheVariants.{Goes}
use Rattle.cycle_core.specs.declared.stand.Stand.{Stand}
use Rattle.cycle_core.specs.declared.stand.Stand.TheVariants.{Scans, Stages}
use Rattle.cycle_core.proofs.Memories.{full}

-- none to write an answer down
abbrev pub takeless : Memory
takeless = record { take = false; scan = true; step = true; plan = true; report = true }

-- none to write it down, and else as much
abbrev pub untaking : Memory → Memory
untaking m = record { take = false; scan = m.scan; step = m.step; plan = m.plan; report = m.report }

-- enough to write it down
abbrev pub taking : Memory → Memory
taking m = record { take = true; scan = m.scan; step = m.step; plan = m.plan; report = m.report }

-- ---- what may be told

pub scan_told : (side : Side) (op : Option Op) (answer : Answer (List ℕ)) → MayBeToldOf (ask_on side op) (taken.Answered answer) → IsScanned op answer
scan_told side (Some op) answer h = h
scan_told side None answer h = absurd h

module _ (f g : Op → Side) (answer : Answer (List ℕ)) where
  first_told : (x y : Option Op)
      → MayBeToldOf (ask (first_of (option_map (λ op. (f op, op)) x) (option_map (λ op. (g op, op)) y))) (taken.Answered answer)
      → IsStaged (if is_some {T = Side × Op} (option_map (λ op. (f op, op)) x) then x else y) answer
  first_told (Some op) y h = h
  first_told None (Some op) h = h
  first_told None None h = absurd h

stage_told : (w : UnderWay) (answer : Answer (List ℕ)) → MayBeTold (Stages w) (taken.Answered answer) → IsStaged (staging_op w) answer
stage_told w answer h =
    first_told (λ op. asked_side w.alpha.side (staging_state w.alpha).doing) (λ op. asked_side w.beta.side (staging_state w.beta).doing) answer
    (op_of (staging_state w.alpha)) (op_of (staging_state w.beta)) h

-- the answer to a staging is one to what it asks
pub stand_told : (stand : Stand) (w : UnderWay) (answer : Answer (List ℕ)) → stand ≡ Stages w → MayBeTold stand (taken.Answered answer) → IsStaged (staging_op w) answer
stand_told stand w answer e h = stage_told w answer (subst (λ s. MayBeTold s (taken.Answered answer)) e h)

-- ---- which memory there was

module _ (run cycle : ℕ) where
  planned_taking : (memory : Memory) (m : Made) → planned run cycle memory m ≡ planned run cycle (taking memory) m
  planned_taking memory (Halts halt seen) = refl
  planned_taking memory (Works w) = refl

module _ (setup : Setup) where
  scan_taking : (memory : Memory) (side : Side) (l : Looks) → after_scan setup memory side l ≡ after_scan setup (taking memory) side l
  scan_taking memory Alpha l =
      ap (λ p. if memory.scan then (if is_some (looks_next Alpha l) then Goes (Scans (record { side = Alpha; looks = l }))
      else (if is_some (looks_next Beta l) then Goes (Scans (record { side = Beta; looks = l })) else p)) else ended_early setup.tag.run setup.tag.cycle NoMemory)
      (planned_taking setup.tag.run setup.tag.cycle memory (made setup.mode l))
  scan_taking memory Beta l =
      ap (λ p. if memory.scan then (if is_some (looks_next Beta l) then Goes (Scans (record { side = Beta; looks = l })) else p)
      else ended_early setup.tag.run setup.tag.cycle NoMemory)
      (planned_taking setup.tag.run setup.tag.cycle memory (made setup.mode l))

  staged_taking : (memory : Memory) (w : UnderWay) (outcome : Option Outcome) → staged_by setup memory w outcome ≡ staged_by setup (taking memory) w outcome
  staged_taking memory w None = refl
  staged_taking memory w (Some outcome) = refl

  -- an answer to a scan is written down
  scan_taken : (cache new : ByPath Line) (looking : Looking) (answer : Answer (List ℕ)) (l : Looks) (came : Next) (done : Unit)
      → TakesOn looking.side looking.looks (told_of setup cache answer) (Ok done) l new → GoesBy (λ memory. after_scan setup memory looking.side l) came
      → ScansTo setup cache looking answer came new
  scan_taken cache new looking answer l came done t (memory, is) = (
    taking memory,
    is ∙ scan_taking memory looking.side l
        ∙ ap (λ x. after_scan setup (taking memory) looking.side x) (t.other ∙ ap (with_scan looking.looks looking.side) t.takes.1)
        ∙ sym (ap (λ e. scanned_by setup (taking memory) cache looking answer e) t.takes.0),
    t.takes.2 ∙ sym (ap (λ e. learnt_by setup cache looking answer e) t.takes.0),
  )

  -- it isn't, or it ends the scan
  scan_ended : (cache new : ByPath Line) (looking : Looking) (answer : Answer (List ℕ)) (l : Looks) (end : ScanEnd) (came : Next)
      → TakesOn looking.side looking.looks (told_of setup cache answer) (Err end) l new
      → came ≡ ended_early setup.tag.run setup.tag.cycle (outcome_of looking.side end)
      → ScansTo setup cache looking answer came new
  scan_ended cache new looking answer l end came t is = go t.takes.0
    where
      go : (end ≡ EndsByMemory) ⊎ (scan_end looking answer ≡ Some end) → ScansTo setup cache looking answer came new
      go (inl e) = (takeless, is ∙ ap (λ x. ended_early setup.tag.run setup.tag.cycle (outcome_of looking.side x)) e, t.takes.2)
      go (inr e) =
          (full, is ∙ sym (ap (λ x. scanned_by setup full cache looking answer x) e), t.takes.2 ∙ sym (ap (λ x. learnt_by setup cache looking answer x) e))

  -- the same of the parts of what contracts see of a scan
  pub scan_taken_on : (cache new : ByPath Line) (side : Side) (old : Looks) (looking : Looking) (answer : Answer (List ℕ)) (l : Looks) (came : Next) (done : Unit)
      → record { side = side; looks = old } ≡ looking
      → TakesOn side old (told_of setup cache answer) (Ok done) l new → GoesBy (λ memory. after_scan setup memory side l) came
      → ScansTo setup cache looking answer came new
  scan_taken_on cache new side old looking answer l came done e t next =
      subst (λ x. ScansTo setup cache x answer came new) e (scan_taken cache new (record { side = side; looks = old }) answer l came done t next)

  pub scan_ended_on : (cache new : ByPath Line) (side : Side) (old : Looks) (looking : Looking) (answer : Answer (List ℕ)) (l : Looks) (end : ScanEnd) (came : Next)
      → record { side = side; looks = old } ≡ looking
      → TakesOn side old (told_of setup cache answer) (Err end) l new
      → came ≡ ended_early setup.tag.run setup.tag.cycle (outcome_of side end)
      → ScansTo setup cache looking answer came new
  scan_ended_on cache new side old looking answer l end came e t is =
      subst (λ x. ScansTo setup cache x answer came new) e (scan_ended cache new (record { side = side; looks = old }) answer l end came t is)

  -- an answer to a staging is written down, or isn't
  pub staging_taken : (w work : UnderWay) (answer : Answer (List ℕ)) (outcome : Option Outcome) (came : Next)
      → work ≡ with_staging (with_asked w) answer → outcome ≡ outcome_asked (stages_next w) answer
      → GoesBy (λ memory. staged_by setup memory work outcome) came → GoesBy (λ memory. staged setup memory w answer) came
  staging_taken w work answer outcome came e o (memory, is) = (
    taking memory,
    is ∙ staged_taking memory work outcome ∙ ap (λ x. staged_by setup (taking memory) x outcome) e
        ∙ ap (λ x. staged_by setup (taking memory) (with_staging (with_asked w) answer) x) o,
  )

  pub staging_untaken : (w work : UnderWay) (answer : Answer (List ℕ)) (came : Next) → work ≡ with_asked w
      → GoesBy (λ memory. broken setup.tag.run setup.tag.cycle memory work NoMemory) came → GoesBy (λ memory. staged setup memory w answer) came
  staging_untaken w work answer came e (memory, is) =
      (untaking memory, is ∙ ap (λ x. broken setup.tag.run setup.tag.cycle memory x NoMemory) e)

  -- nothing is learnt
  pub learns_nothing : (caches : Caches) (stand : Stand) (told : Taken) (came : Next) (new : Caches)
      → GoesBy (λ memory. after setup memory caches stand told) came → ((memory : Memory) → caches_after setup memory caches stand told ≡ caches) → new ≡ caches
      → TurnsTo setup caches stand told came new
  learns_nothing caches stand told came new (memory, is) none e = (memory, is, e ∙ sym (none memory))

  -- a scan learns into its side's cache
  pub scan_alpha : (caches : Caches) (looking : Looking) (answer : Answer (List ℕ)) (came : Next) (new : ByPath Line) → looking.side ≡ Alpha
      → ScansTo setup caches.alpha looking answer came new
      → TurnsTo setup caches (Scans looking) (taken.Answered answer) came (record { alpha = new; beta = caches.beta })
  scan_alpha caches looking answer came new e (memory, is, learns_so) = (
    memory,
    is ∙ sym (ap (λ s. scanned setup memory (cache_on caches s) looking answer) e),
    ap (with_cache caches Alpha) learns_so ∙ sym (ap (λ s. with_cache caches s (learnt setup memory (cache_on caches s) looking answer)) e),
  )

  pub scan_beta : (caches : Caches) (looking : Looking) (answer : Answer (List ℕ)) (came : Next) (new : ByPath Line) → looking.side ≡ Beta
      → ScansTo setup caches.beta looking answer came new
      → TurnsTo setup caches (Scans looking) (taken.Answered answer) came (record { alpha = caches.alpha; beta = new })
  scan_beta caches looking answer came new e (memory, is, learns_so) = (
    memory,
    is ∙ sym (ap (λ s. scanned setup memory (cache_on caches s) looking answer) e),
    ap (with_cache caches Beta) learns_so ∙ sym (ap (λ s. with_cache caches s (learnt setup memory (cache_on caches s) looking answer)) e),
  )
