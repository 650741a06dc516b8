-- The walk over rows is the walk over their paths.
use Rattle.std.proofs.Common.{◌≡◌, ℕ, Bool, true, false, cond, ◌&&◌, ◌+◌, not, if◌then◌else◌, List, [], ◌∷◌, ◌++◌, map, take, drop, refl, sym, ap, ap₂, ◌∙◌, Some}
use Rattle.std.specs.List.{filter, prefix_len}
use Rattle.std.proofs.lemmas.List.{take-map, drop-map}
use Rattle.std.proofs.lemmas.List.Folds.{list_all-map}
use Rattle.std.specs.FinMap as trees
use Rattle.sync_path.specs.Path.{is_under}
use Rattle.entry_tree.specs.Tree.{Names}
use Rattle.entry_tree.specs.declared.side.Side.TheVariants.{Alpha, Beta}
use Rattle.mode_rules.specs.declared.mode.Mode.{Mode}
use Rattle.mode_rules.specs.declared.conflict.Reason.TheVariants as reasons
use Rattle.mode_rules.specs.declared.verdict.Verdict.{Verdict}
use Rattle.mode_rules.specs.declared.verdict.Verdict.TheVariants as verdicts
use Rattle.mode_rules.specs.Trees.{Trees, holds_folder, is_same_at, paths_of}
use Rattle.mode_rules.specs.Verdicts.{first_case}
use Rattle.mode_rules.specs.Plans.{change_by, line_of}
use Rattle.reconcile.specs.declared.decided.Decided.{Decided}
use Rattle.reconcile.specs.Rows.{PathThree, row_of, rows_of}
use Rattle.reconcile.specs.Runs.{listed, is_same_row, is_less_row, row_run_len, row_comparison, row_verdict, row_differing, row_conflict_by, decided_of}
use Rattle.reconcile.proofs.PathRuns.{run_len, comparison_in, verdict_in, conflict_by_in}
use Rattle.reconcile.proofs.Steps.{IsWalked, walk_start, walk_turn, walk_end}

-- The walk so far over rows: the rows that are left are those of the paths that are.
pub record IsWalkedRows (mode : Mode) (t : Trees) (rest : List PathThree) (decided : Decided) : Type 0 where
  pub paths : List Names
  pub rows_are : rest ≡ map (row_of t) paths
  pub walked : IsWalked mode t paths decided

pub rows_start : (mode : Mode) (t : Trees) (rest : List PathThree) (decided : Decided) → rest ≡ rows_of t → decided ≡ record { changes = []; agreed = []; conflicts = [] } → IsWalkedRows mode t rest decided
rows_start mode t rest decided whole e = record { paths = paths_of t; rows_are = whole; walked = walk_start mode t (paths_of t) decided refl e }

none_left : (t : Trees) (paths : List Names) → [] ≡ map (row_of t) paths → paths ≡ []
none_left t [] e = refl
none_left t (p ∷ paths) e = absurd (cc)

pub rows_end : (mode : Mode) (t : Trees) (rest : List PathThree) (decided : Decided) → IsWalkedRows mode t rest decided → rest ≡ [] → decided ≡ decided_of mode t
rows_end mode t rest decided w e = walk_end mode t w.paths decided w.walked (none_left t w.paths (sym e ∙ w.rows_are))

prefix_len-map : (t : Trees) (path : Names) (ps : List Names) → prefix_len (λ row. is_under row.0 path) (map (row_of t) ps) ≡ prefix_len (λ p. is_under p path) ps
prefix_len-map t path [] = refl
prefix_len-map t path (p ∷ ps) = ap (λ n. cond (is_under p path) (1 + n) 0) (prefix_len-map t path ps)

run_len_is : (t : Trees) (path : Names) (ps : List Names) → row_run_len (row_of t path) (map (row_of t) ps) ≡ run_len t path ps
run_len_is t path ps = ap (λ n. if holds_folder (trees.get t.alpha path) && holds_folder (trees.get t.beta path) then 0 else n) (prefix_len-map t path ps)

comparison_alpha : (t : Trees) (ps : List Names) → row_comparison Alpha (map (row_of t) ps) ≡ comparison_in t.ancestor t.alpha ps
comparison_alpha t ps = λ i. record { same = list_all-map (is_same_row Alpha) (row_of t) ps i; less = list_all-map (is_less_row Alpha) (row_of t) ps i }

comparison_beta : (t : Trees) (ps : List Names) → row_comparison Beta (map (row_of t) ps) ≡ comparison_in t.ancestor t.beta ps
comparison_beta t ps = λ i. record { same = list_all-map (is_same_row Beta) (row_of t) ps i; less = list_all-map (is_less_row Beta) (row_of t) ps i }

verdict_is : (mode : Mode) (t : Trees) (ps : List Names) (path : Names) → row_verdict mode (map (row_of t) ps) (row_of t path) ≡ verdict_in mode t ps path
verdict_is mode t ps path = λ i. first_case mode (trees.get t.alpha path) (trees.get t.beta path) (comparison_alpha t ps i) (comparison_beta t ps i)

differing_alpha : (t : Trees) (ps : List Names) → row_differing Alpha (map (row_of t) ps) ≡ filter (λ p. not (is_same_at t.ancestor t.alpha p)) ps
differing_alpha t [] = refl
differing_alpha t (p ∷ ps) = by (not (is_same_at t.ancestor t.alpha p)) (differing_alpha t ps)
  where
    by : (c : Bool) → row_differing Alpha (map (row_of t) ps) ≡ filter (λ p. not (is_same_at t.ancestor t.alpha p)) ps
        → map (λ (row : PathThree). row.0) (cond c (row_of t p ∷ filter (λ row. not (is_same_row Alpha row)) (map (row_of t) ps)) (filter (λ row. not (is_same_row Alpha row)) (map (row_of t) ps)))
        ≡ cond c (p ∷ filter (λ p. not (is_same_at t.ancestor t.alpha p)) ps) (filter (λ p. not (is_same_at t.ancestor t.alpha p)) ps)
    by true e = ap (λ l. p ∷ l) e
    by false e = e

differing_beta : (t : Trees) (ps : List Names) → row_differing Beta (map (row_of t) ps) ≡ filter (λ p. not (is_same_at t.ancestor t.beta p)) ps
differing_beta t [] = refl
differing_beta t (p ∷ ps) = by (not (is_same_at t.ancestor t.beta p)) (differing_beta t ps)
  where
    by : (c : Bool) → row_differing Beta (map (row_of t) ps) ≡ filter (λ p. not (is_same_at t.ancestor t.beta p)) ps
        → map (λ (row : PathThree). row.0) (cond c (row_of t p ∷ filter (λ row. not (is_same_row Beta row)) (map (row_of t) ps)) (filter (λ row. not (is_same_row Beta row)) (map (row_of t) ps)))
        ≡ cond c (p ∷ filter (λ p. not (is_same_at t.ancestor t.beta p)) ps) (filter (λ p. not (is_same_at t.ancestor t.beta p)) ps)
    by true e = ap (λ l. p ∷ l) e
    by false e = e

conflict_is : (t : Trees) (ps : List Names) (path : Names) (v : Verdict) → row_conflict_by (map (row_of t) ps) (row_of t path) v ≡ conflict_by_in t ps path v
conflict_is t ps path verdicts.Blocked = λ i. Some (record { at = path; reason = reasons.Blocked; alpha = differing_alpha t ps i; beta = differing_beta t ps i })
conflict_is t ps path verdicts.Both = λ i. Some (record { at = path; reason = reasons.Both; alpha = differing_alpha t ps i; beta = differing_beta t ps i })
conflict_is t ps path verdicts.Left = refl
conflict_is t ps path verdicts.Gone = refl
conflict_is t ps path verdicts.Agreed = refl
conflict_is t ps path verdicts.AlphaTakes = refl
conflict_is t ps path verdicts.BetaTakes = refl
conflict_is t ps path verdicts.AlphaEmptied = refl
conflict_is t ps path verdicts.BetaEmptied = refl
conflict_is t ps path verdicts.BetaKeeps = refl

-- a turn of the walk over rows
pub rows_turn : (mode : Mode) (t : Trees) (row : PathThree) (below rest run behind : List PathThree) (old new : Decided) (n : ℕ) → IsWalkedRows mode t rest old
    → rest ≡ row ∷ below → n ≡ row_run_len row below → run ≡ take (1 + n) rest → behind ≡ drop (1 + n) rest
    → new.changes ≡ old.changes ++ listed (change_by t row.0 (row_verdict mode run row))
    → new.agreed ≡ old.agreed ++ listed (line_of row.0 row.1.ancestor row.1.alpha (row_verdict mode run row))
    → new.conflicts ≡ old.conflicts ++ listed (row_conflict_by run row (row_verdict mode run row))
    → IsWalkedRows mode t behind new
rows_turn mode t row below rest run behind old new n w shape len front back changes agreed conflicts =
    by w.paths w.rows_are w.walked
  where
    heads : (p : Names) (ps : List Names) → row ∷ below ≡ row_of t p ∷ map (row_of t) ps → row ≡ row_of t p
    heads p ps e = cc

    tails : (p : Names) (ps : List Names) → row ∷ below ≡ row_of t p ∷ map (row_of t) ps → below ≡ map (row_of t) ps
    tails p ps e = cc

    by : (paths : List Names) → rest ≡ map (row_of t) paths → IsWalked mode t paths old → IsWalkedRows mode t behind new
    by [] are walked = let no : row ∷ below ≡ [] = sym shape ∙ are in absurd (cc)
    by (p ∷ ps) are walked =
        let whole : row ∷ below ≡ row_of t p ∷ map (row_of t) ps = sym shape ∙ are in
        let first : row ≡ row_of t p = heads p ps whole in
        let others : below ≡ map (row_of t) ps = tails p ps whole in
        let taken : run ≡ map (row_of t) (take (1 + n) (p ∷ ps)) = front ∙ ap (take (1 + n)) are ∙ take-map (row_of t) (1 + n) (p ∷ ps) in
        let v : row_verdict mode run row ≡ verdict_in mode t (take (1 + n) (p ∷ ps)) p = ap₂ (row_verdict mode) taken first ∙ verdict_is mode t (take (1 + n) (p ∷ ps)) p in
        record {
          paths = drop (1 + n) (p ∷ ps);
          rows_are = back ∙ ap (drop (1 + n)) are ∙ drop-map (row_of t) (1 + n) (p ∷ ps);
          walked = walk_turn mode t p ps (p ∷ ps) (take (1 + n) (p ∷ ps)) (drop (1 + n) (p ∷ ps)) old new n walked refl
              (len ∙ ap₂ row_run_len first others ∙ run_len_is t p ps) refl refl
              (changes ∙ ap (λ c. old.changes ++ listed c) (ap₂ (change_by t) (ap (λ (r : PathThree). r.0) first) v))
              (agreed ∙ ap (λ l. old.agreed ++ listed l) (ap₂ (λ (r : PathThree) w. line_of r.0 r.1.ancestor r.1.alpha w) first v))
              (conflicts ∙ ap (λ f. old.conflicts ++ listed f)
              ((λ i. row_conflict_by (taken i) (first i) (v i)) ∙ conflict_is t (take (1 + n) (p ∷ ps)) p (verdict_in mode t (take (1 + n) (p ∷ ps)) p)));
        }
