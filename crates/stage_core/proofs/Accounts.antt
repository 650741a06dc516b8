-- Each file is kept, or stands among the problems, or is left.
use Rattle.std.proofs.Common.{◌≡◌, ℕ, Bool, true, false, cond, ◌&&◌, ◌||◌, List, [], ◌∷◌, ◌++◌, Some, append-nil, append_assoc, refl, sym, subst, ap, ◌∙◌}
use Rattle.std.proofs.lemmas.List.Folds.{list_any-append, list_all-append}
use Rattle.std.proofs.lemmas.Map.Text.{is_eq-slice_cmp}
use Rattle.std.specs.FinMap as map
use Rattle.std.specs.List.{list_any, list_all}
use Rattle.std.specs.Prelude.{bytes_eq, is_some}
use Rattle.std.specs.Cmp.Lexicographic.{slice_cmp, nat_list_cmp_total}
use Rattle.std.specs.Ordering.{nat_cmp, eq_by_cmp}
use Rattle.entry_tree.proofs.Paths.{both_true, name_itself}
use Rattle.entry_tree.specs.Tree.{Names}
use Rattle.mode_rules.specs.declared.problem.Problem.{Problem}
use Rattle.roots_api.specs.declared.answer.Answer.TheVariants.{Kept}
use Rattle.roots_api.specs.declared.op.Op.{Op}
use Rattle.roots_api.specs.declared.op.Op.TheVariants.{StageKeep}
use Rattle.stage_core.proofs.Pending.{passes_over}
use Rattle.stage_core.specs.Staging.{Digests, Stand, first_begun, passed, pending}
use Rattle.stage_core.specs.Turns.{Turn, is_kept_or_missing, is_missing, is_same_path, keeps, keeps_by}
use Rattle.stage_core.specs.declared.doing.Doing.TheVariants.{Resting}
use Rattle.stage_core.specs.declared.need.Need.{Need}

pub joins : (a b : Bool) → a ≡ true → b ≡ true → (a && b) ≡ true
joins true b p q = q
joins false b p q = p

or_left : (a b : Bool) → a ≡ true → (a || b) ≡ true
or_left true b p = refl
or_left false b p = absurd (cc)

or_right : (a b : Bool) → b ≡ true → (a || b) ≡ true
or_right true b p = refl
or_right false b p = p

or_more : (a b a' b' : Bool) → (a || b) ≡ true → ((a || a') || (b || b')) ≡ true
or_more true b a' b' h = refl
or_more false true a' b' h = or_right (false || a') (true || b') refl
or_more false false a' b' h = absurd (cc)

pub all_weaker : {X : Type 0} (p q : X → Bool) → ((x : X) → p x ≡ true → q x ≡ true) → (xs : List X) → list_all p xs ≡ true → list_all q xs ≡ true
all_weaker p q f [] h = refl
all_weaker p q f (x ∷ xs) h = let parts = both_true (p x) (list_all p xs) h in joins (q x) (list_all q xs) (f x parts.0) (all_weaker p q f xs parts.1)

same_itself : (p : Names) → is_same_path p p ≡ true
same_itself [] = refl
same_itself (n ∷ p) = joins (bytes_eq n n) (is_same_path p p) (name_itself n) (same_itself p)

-- what is kept or missing stays so
more : (turns ts : List Turn) (missing ms : List Problem) (need : Need) → is_kept_or_missing turns missing need ≡ true → is_kept_or_missing (turns ++ ts) (missing ++ ms) need ≡ true
more turns ts missing ms need h =
    rw (list_any-append (keeps need.digest) turns ts, list_any-append (λ (problem : Problem). is_same_path problem.path need.path) missing ms)
    (or_more (list_any (keeps need.digest) turns) (is_missing missing need.path) (list_any (keeps need.digest) ts) (is_missing ms need.path) h)

-- These files were done with: they are kept or missing. The others are left, and each digest that is held for kept was kept in a turn.
pub record AreDone (needs : List Need) (turns : List Turn) (kept : Digests) (missing : List Problem) (left : List Need) : Type 0 where
  pub done : List Need
  pub joined : needs ≡ done ++ left
  pub fine : list_all (is_kept_or_missing turns missing) done ≡ true
  pub said : (q : List ℕ) → map.contains_key kept q ≡ true → list_any (keeps q) turns ≡ true

-- all files, where nothing further is asked
pub record Accounts (needs : List Need) (turns : List Turn) (s : Stand) : Type 0 where
  pub done : AreDone needs turns s.kept s.missing s.left
  pub whole : s.doing ≡ Resting → s.left ≡ []

module _ (needs : List Need) where
  -- one turn more
  pub one_turn : (turns : List Turn) (t : Turn) (kept : Digests) (missing : List Problem) (left : List Need)
      → AreDone needs turns kept missing left → AreDone needs (turns ++ t ∷ []) kept missing left
  one_turn turns t kept missing left d = record {
    done = d.done;
    joined = d.joined;
    fine = all_weaker (is_kept_or_missing turns missing) (is_kept_or_missing (turns ++ t ∷ []) missing)
        (λ need h. subst (λ (ms : List Problem). is_kept_or_missing (turns ++ t ∷ []) ms need ≡ true) (append-nil missing) (more turns (t ∷ []) missing [] need h)) d.done d.fine;
    said = λ q h. rw (list_any-append (keeps q) turns (t ∷ [])) (or_left (list_any (keeps q) turns) (list_any (keeps q) (t ∷ [])) (d.said q h));
  }

  -- one file that is kept or missing by now
  pub one_done : (turns : List Turn) (kept : Digests) (missing : List Problem) (need : Need) (behind : List Need)
      → is_kept_or_missing turns missing need ≡ true → AreDone needs turns kept missing (need ∷ behind) → AreDone needs turns kept missing behind
  one_done turns kept missing need behind h d = record {
    done = d.done ++ need ∷ [];
    joined = d.joined ∙ sym (append_assoc d.done (need ∷ []) behind);
    fine = rw (list_all-append (is_kept_or_missing turns missing) d.done (need ∷ []))
        (joins (list_all (is_kept_or_missing turns missing) d.done) (list_all (is_kept_or_missing turns missing) (need ∷ [])) d.fine (joins (is_kept_or_missing turns missing need) true h refl));
    said = d.said;
  }

  -- one problem more
  pub one_problem : (turns : List Turn) (kept : Digests) (missing : List Problem) (problem : Problem) (left : List Need)
      → AreDone needs turns kept missing left → AreDone needs turns kept (missing ++ problem ∷ []) left
  one_problem turns kept missing problem left d = record {
    done = d.done;
    joined = d.joined;
    fine = all_weaker (is_kept_or_missing turns missing) (is_kept_or_missing turns (missing ++ problem ∷ []))
        (λ need h. subst (λ (ts : List Turn). is_kept_or_missing ts (missing ++ problem ∷ []) need ≡ true) (append-nil turns) (more turns [] missing (problem ∷ []) need h)) d.done d.fine;
    said = d.said;
  }

  problem_there : (turns : List Turn) (missing : List Problem) (problem : Problem) (need : Need) → problem.path ≡ need.path
      → is_kept_or_missing turns (missing ++ problem ∷ []) need ≡ true
  problem_there turns missing problem need e =
      or_right (list_any (keeps need.digest) turns) (is_missing (missing ++ problem ∷ []) need.path)
      (rw (list_any-append (λ (p : Problem). is_same_path p.path need.path) missing (problem ∷ []))
      (or_right (is_missing missing need.path) (is_same_path problem.path need.path || false)
      (or_left (is_same_path problem.path need.path) false (subst (λ (p : Names). is_same_path p need.path ≡ true) (sym e) (same_itself need.path)))))

  -- a digest that is kept in a turn
  keeps_said : (turns : List Turn) (t : Turn) (kept : Digests) (digest : List ℕ) → t.op ≡ StageKeep digest → t.answer ≡ Kept
      → ((q : List ℕ) → map.contains_key kept q ≡ true → list_any (keeps q) turns ≡ true)
      → (q : List ℕ) → map.contains_key (map.insert kept digest tt) q ≡ true → list_any (keeps q) (turns ++ t ∷ []) ≡ true
  keeps_said turns t kept digest op answer said q h =
      let got : is_some (cond (eq_by_cmp (slice_cmp nat_cmp) q digest) (Some tt) (map.get kept q)) ≡ true = subst (λ o. is_some o ≡ true) (map.get-insert nat_list_cmp_total kept digest tt q) h in
      rw (list_any-append (keeps q) turns (t ∷ []))
      (elim (eq_by_cmp (slice_cmp nat_cmp) q digest) as (λ b. eq_by_cmp (slice_cmp nat_cmp) q digest ≡ b → is_some (cond b (Some tt) (map.get kept q)) ≡ true → (list_any (keeps q) turns || (keeps q t || false)) ≡ true) [
        | true ↦ λ e g. or_right (list_any (keeps q) turns) (keeps q t || false) (or_left (keeps q t) false (ap (λ (o : Op). keeps_by q o t.answer) op ∙ ap (λ a. keeps_by q (StageKeep digest) a) answer ∙ (sym (is_eq-slice_cmp q digest) ∙ e)))
        | false ↦ λ e g. or_left (list_any (keeps q) turns) (keeps q t || false) (said q g)
      ] refl got)

  -- the file in hand is kept
  pub one_kept : (turns : List Turn) (t : Turn) (kept : Digests) (missing : List Problem) (need : Need) (behind : List Need)
      → t.op ≡ StageKeep need.digest → t.answer ≡ Kept
      → AreDone needs turns kept missing (need ∷ behind) → AreDone needs (turns ++ t ∷ []) (map.insert kept need.digest tt) missing behind
  one_kept turns t kept missing need behind op answer d =
      let said = keeps_said turns t kept need.digest op answer d.said in
      let here : keeps need.digest t ≡ true = ap (λ (o : Op). keeps_by need.digest o t.answer) op ∙ ap (λ a. keeps_by need.digest (StageKeep need.digest) a) answer ∙ name_itself need.digest in
      let there : list_any (keeps need.digest) (turns ++ t ∷ []) ≡ true =
      rw (list_any-append (keeps need.digest) turns (t ∷ [])) (or_right (list_any (keeps need.digest) turns) (keeps need.digest t || false) (or_left (keeps need.digest t) false here)) in
      let before = one_turn turns t kept missing (need ∷ behind) d in
      one_done (turns ++ t ∷ []) (map.insert kept need.digest tt) missing need behind
      (or_left (list_any (keeps need.digest) (turns ++ t ∷ [])) (is_missing missing need.path) there)
      (record { done = before.done; joined = before.joined; fine = before.fine; said = said })

  -- the file in hand has a problem
  pub one_missing : (turns : List Turn) (t : Turn) (kept : Digests) (missing : List Problem) (need : Need) (behind : List Need) (problem : Problem)
      → problem.path ≡ need.path → AreDone needs turns kept missing (need ∷ behind) → AreDone needs (turns ++ t ∷ []) kept (missing ++ problem ∷ []) behind
  one_missing turns t kept missing need behind problem e d =
      one_done (turns ++ t ∷ []) kept (missing ++ problem ∷ []) need behind (problem_there (turns ++ t ∷ []) missing problem need e)
      (one_problem (turns ++ t ∷ []) kept missing problem (need ∷ behind) (one_turn turns t kept missing (need ∷ behind) d))

  -- those that are passed over are kept
  pub all_passed : (turns : List Turn) (kept : Digests) (missing : List Problem) (left : List Need)
      → AreDone needs turns kept missing left → AreDone needs turns kept missing (pending kept left)
  all_passed turns kept missing left d =
      let over = passes_over kept left in
      record {
        done = d.done ++ over.over;
        joined = d.joined ∙ (ap (λ (l : List Need). d.done ++ l) over.joined ∙ sym (append_assoc d.done over.over (pending kept left)));
        fine = rw (list_all-append (is_kept_or_missing turns missing) d.done over.over)
            (joins (list_all (is_kept_or_missing turns missing) d.done) (list_all (is_kept_or_missing turns missing) over.over) d.fine
            (all_weaker (λ (need : Need). map.contains_key kept need.digest) (is_kept_or_missing turns missing)
            (λ need h. or_left (list_any (keeps need.digest) turns) (is_missing missing need.path) (d.said need.digest h)) over.over over.are_kept));
        said = d.said;
      }

  begun_rests : (left : List Need) → first_begun left ≡ Resting → left ≡ []
  begun_rests [] e = refl
  begun_rests (need ∷ left) e = absurd (cc)

  pub passed_accounts : (turns : List Turn) (kept : Digests) (missing : List Problem) (left : List Need)
      → AreDone needs turns kept missing left → Accounts needs turns (passed kept missing left)
  passed_accounts turns kept missing left d = record { done = all_passed turns kept missing left d; whole = begun_rests (pending kept left) }
