-- What the frames of a cycle name, each side held.
use Rattle.std.proofs.Common.{◌≡◌, ◌⊎◌, inl, inr, ℕ, Bool, true, false, List, [], ◌∷◌, ◌++◌, refl, sym, subst, Option, Some, None}
use Rattle.std.specs.Prelude.{if◌then◌else◌}
use Rattle.std.specs.FinMap as map
use Rattle.std.specs.List.{AllByRecursion, list_all}
use Rattle.std.proofs.lemmas.Bool.{and_parts}
use Rattle.finite_maps.proofs.Constructors.{none_is_not_some, some_same}
use Rattle.entry_tree.specs.Side.{other_side}
use Rattle.entry_tree.specs.Tree.{Names}
use Rattle.entry_tree.specs.declared.atom.Atom.{Atom}
use Rattle.entry_tree.specs.declared.atom.Atom.TheVariants as atom
use Rattle.entry_tree.specs.declared.entry.Entry.{Entry}
use Rattle.entry_tree.specs.declared.entry.Entry.TheVariants as entry
use Rattle.entry_tree.specs.declared.entry.Stamp.{Stamp}
use Rattle.entry_tree.specs.declared.side.Side.{Side}
use Rattle.entry_tree.specs.declared.side.Side.TheVariants.{Alpha, Beta}
use Rattle.frame_text.specs.declared.payload.Payload.{Payload}
use Rattle.mode_rules.specs.declared.ancestor_line.AncestorLine.{AncestorLine}
use Rattle.mode_rules.specs.declared.ancestor_line.AncestorLine.TheVariants.{Set, Drop}
use Rattle.plan_laws.proofs.Sets.{maps_all}
use Rattle.roots_api.specs.Answers.{is_done}
use Rattle.roots_api.specs.Steps.{is_changing}
use Rattle.roots_api.specs.declared.event.Span.{Span}
use Rattle.roots_api.specs.declared.op.Op.{Op}
use Rattle.roots_api.specs.declared.op.Op.TheVariants.{Place, MakeDir, MakeLink, Remove, SetExec}
use Rattle.scan_laws.specs.Seen.{Heard, paths_in}
use Rattle.cycle_law.specs.Cycles.{Session, Cycle, Ground, log_of, heard_on, scanned_on}
use Rattle.cycle_law.specs.Frames.{frames_of, has_lines, is_sound, landed_on, landed_line, line_of, offered}
use Rattle.cycle_law.specs.Laws.{EachCycle, IsOneOf, NamesWhatWasHeld, WasHeld}
use Rattle.cycle_law.specs.Ordering.{asks_as_seen, changing_on}
use Rattle.cycle_law.specs.Plans.{ground_of, plan, sight}
use Rattle.cycle_law.specs.Sameness.{same_lines}
use Rattle.cycle_law.specs.Saw.{saw_at}
use Rattle.cycle_law.proofs.Agreements.{AreSet, all_agreed}
use Rattle.cycle_law.proofs.Licensed.{CycleKeeps, SideKeeps, each_cycle}
use Rattle.cycle_law.proofs.Lists.{all_joined, all_tested, all_unfiltered, all_weaker}
use Rattle.cycle_law.proofs.Makings.{Makes, changing_make}
use Rattle.cycle_law.proofs.Points.{get-by_points}
use Rattle.cycle_law.proofs.Tests.{lines_are, there_is}

-- what an operation's line sets was found
abbrev Sets : (Names → Option Atom) → AncestorLine → Type 0
Sets found (Set p a) = found p ≡ Some a
Sets found (Drop p) = Unit {0}

abbrev SetsSeen : (Names → Option Atom) → (Stamp → List ℕ) → Op → Type 0
SetsSeen found digest op = (line : AncestorLine) → line_of digest op ≡ Some line → Sets found line

module _ (found : Names → Option Atom) (digest : Stamp → List ℕ) where
  abbrev Line : (line : AncestorLine) → AncestorLine → Type 0
  Line line other = Some line ≡ Some other

  seen_bit : (p : Names) (expected : Entry) (on : Bool) → asks_as_seen found digest (SetExec p expected on) ≡ true → SetsSeen found digest (SetExec p expected on)
  seen_bit p (entry.File stamp exec) on seen line is = subst (Sets found) (some_same _ line is) (there_is (found p) (atom.File (digest stamp) on) seen)
  seen_bit p entry.Dir on seen line is = absurd (none_is_not_some line is)
  seen_bit p (entry.Link text) on seen line is = absurd (none_is_not_some line is)
  seen_bit p entry.Other on seen line is = absurd (none_is_not_some line is)

  -- an operation that asks for what was seen, and makes what was seen
  sets_seen : (op : Op) → asks_as_seen found digest op ≡ true → Makes found op → SetsSeen found digest op
  sets_seen (Place p content exec expected) seen makes line is = subst (Sets found) (some_same _ line is) (there_is (found p) (atom.File content exec) seen)
  sets_seen (MakeDir p) seen makes line is = subst (Sets found) (some_same _ line is) makes
  sets_seen (MakeLink p text expected) seen makes line is = subst (Sets found) (some_same _ line is) makes
  sets_seen (Remove p expected) seen makes line is = subst (Sets found) (some_same _ line is) tt
  sets_seen (SetExec p expected on) seen makes line is = seen_bit p expected on seen line is
  sets_seen op seen makes line is = absurd (none_is_not_some line is)

  both_seen : (hs : List (Heard Span)) → AllByRecursion (λ (h : Heard Span). asks_as_seen found digest h.op ≡ true) hs → AllByRecursion (λ (h : Heard Span). Makes found h.op) hs
      → AllByRecursion (λ (h : Heard Span). SetsSeen found digest h.op) hs
  both_seen [] seen make = tt
  both_seen (h ∷ hs) seen make = (sets_seen h.op seen.0 make.0, both_seen hs seen.1 make.1)

  -- only an operation that changes a tree has a line
  changes_if_line : (op : Op) (line : AncestorLine) → line_of digest op ≡ Some line → is_changing op ≡ true
  changes_if_line (Place p content exec expected) line is = refl
  changes_if_line (MakeDir p) line is = refl
  changes_if_line (MakeLink p text expected) line is = refl
  changes_if_line (Remove p expected) line is = refl
  changes_if_line (SetExec p expected on) line is = refl
  changes_if_line op line is = absurd (none_is_not_some line is)

  landed_seen : (h : Heard Span) → (is_changing h.op ≡ true → SetsSeen found digest h.op) → (line : AncestorLine) → landed_line digest h ≡ Some line → Sets found line
  landed_seen h sets line is = by (is_done h.answer) is
    where
      by : (b : Bool) → (if b then line_of digest h.op else None) ≡ Some line → Sets found line
      by true is = sets (changes_if_line h.op line is) line is
      by false is = absurd (none_is_not_some line is)

one_of_each : (ls : List AncestorLine) → AllByRecursion (λ l. IsOneOf l ls) ls
one_of_each [] = tt
one_of_each (l ∷ ls) = (inl refl, all_weaker (λ m. IsOneOf m ls) (λ m. IsOneOf m (l ∷ ls)) (λ m is. inr is) ls (one_of_each ls))

both_all : {X : Type 0} (P Q : X → Type 0) (xs : List X) → AllByRecursion P xs → AllByRecursion Q xs → AllByRecursion (λ x. P x × Q x) xs
both_all P Q [] p q = tt
both_all P Q (x ∷ xs) p q = ((p.0, q.0), both_all P Q xs p.1 q.1)

module _ (session : Session) (g : Ground) (c : Cycle) where
  side_seen : (side : Side) → SideKeeps session g c side → AllByRecursion (λ (h : Heard Span). SetsSeen (saw_at session g c (other_side side)) (log_of g side).digest h.op) (changing_on g c side)
  side_seen side (inl none) = subst (AllByRecursion (λ (h : Heard Span). SetsSeen (saw_at session g c (other_side side)) (log_of g side).digest h.op)) (sym none) tt
  side_seen side (inr keeps) =
      let found = saw_at session g c (other_side side) in
      let digest = (log_of g side).digest in
      both_seen found digest (changing_on g c side)
      (all_tested (λ (h : Heard Span). asks_as_seen found digest h.op ≡ true) (λ (h : Heard Span). asks_as_seen found digest h.op) (λ h is. is) (changing_on g c side) keeps.seen)
      (changing_make session g c side keeps.order)

  -- what landed on a side was seen on the other
  landed_sets : (side : Side) → SideKeeps session g c side → AllByRecursion (Sets (saw_at session g c (other_side side))) (landed_on g c side)
  landed_sets side keeps =
      let found = saw_at session g c (other_side side) in
      let digest = (log_of g side).digest in
      maps_all (λ (h : Heard Span). is_changing h.op ≡ true → SetsSeen found digest h.op) (Sets found) (landed_line digest) (landed_seen found digest) (heard_on c (log_of g side))
      (all_unfiltered (λ (h : Heard Span). SetsSeen found digest h.op) (λ (h : Heard Span). is_changing h.op) (heard_on c (log_of g side)) (side_seen side keeps))

  abbrev Was : AncestorLine → Type 0
  Was = WasHeld session g c

  set_alpha : (p : Names) (a : Atom) → saw_at session g c Beta p ≡ Some a → IsOneOf (Set p a) (landed_on g c Alpha) → (side : Side) → (saw_at session g c side p ≡ Some a) ⊎ IsOneOf (Set p a) (landed_on g c side)
  set_alpha p a seen put Alpha = inr put
  set_alpha p a seen put Beta = inl seen

  set_beta : (p : Names) (a : Atom) → saw_at session g c Alpha p ≡ Some a → IsOneOf (Set p a) (landed_on g c Beta) → (side : Side) → (saw_at session g c side p ≡ Some a) ⊎ IsOneOf (Set p a) (landed_on g c side)
  set_beta p a seen put Alpha = inl seen
  set_beta p a seen put Beta = inr put

  of_alpha : (line : AncestorLine) → Sets (saw_at session g c Beta) line × IsOneOf line (landed_on g c Alpha) → Was line
  of_alpha (Set p a) both = set_alpha p a both.0 both.1
  of_alpha (Drop p) both = tt

  of_beta : (line : AncestorLine) → Sets (saw_at session g c Alpha) line × IsOneOf line (landed_on g c Beta) → Was line
  of_beta (Set p a) both = set_beta p a both.0 both.1
  of_beta (Drop p) both = tt

  set_both : (p : Names) (a : Atom) → saw_at session g c Alpha p ≡ Some a → saw_at session g c Beta p ≡ Some a → (side : Side) → (saw_at session g c side p ≡ Some a) ⊎ IsOneOf (Set p a) (landed_on g c side)
  set_both p a one other Alpha = inl one
  set_both p a one other Beta = inl other

  of_both : (line : AncestorLine) → AreSet (map.get (sight session g c).alpha) (map.get (sight session g c).beta) line → Was line
  of_both (Set p a) both =
      set_both p a (get-by_points (saw_at session g c Alpha) (paths_in (scanned_on g c Alpha)) p a both.0) (get-by_points (saw_at session g c Beta) (paths_in (scanned_on g c Beta)) p a both.1)
  of_both (Drop p) both = tt

  offered_was : (frames : List Payload) → CycleKeeps session g c frames → AllByRecursion Was (offered session g c)
  offered_was frames keeps =
      let alphas = landed_on g c Alpha in
      let betas = landed_on g c Beta in
      all_joined Was (plan session g c).agreed (alphas ++ betas)
      (all_weaker (AreSet (map.get (sight session g c).alpha) (map.get (sight session g c).beta)) Was of_both (plan session g c).agreed (all_agreed session.mode (sight session g c)))
      (all_joined Was alphas betas
      (all_weaker (λ line. Sets (saw_at session g c Beta) line × IsOneOf line alphas) Was of_alpha alphas (both_all (Sets (saw_at session g c Beta)) (λ line. IsOneOf line alphas) alphas (landed_sets Alpha (keeps.sides Alpha)) (one_of_each alphas)))
      (all_weaker (λ line. Sets (saw_at session g c Alpha) line × IsOneOf line betas) Was of_beta betas (both_all (Sets (saw_at session g c Alpha)) (λ line. IsOneOf line betas) betas (landed_sets Beta (keeps.sides Beta)) (one_of_each betas))))

  sound_was : (frames : List Payload) → CycleKeeps session g c frames → (lines : List AncestorLine) → is_sound session g c lines ≡ true → AllByRecursion Was lines
  sound_was frames keeps lines sound =
      subst (AllByRecursion Was) (sym (lines_are lines (offered session g c) (and_parts (has_lines lines) (same_lines lines (offered session g c)) sound).1)) (offered_was frames keeps)

  frames_were : (frames : List Payload) → CycleKeeps session g c frames → AllByRecursion (AllByRecursion Was) (frames_of frames c)
  frames_were frames keeps = by keeps.sound
    where
      by : (frames_of frames c ≡ []) ⊎ (list_all (is_sound session g c) (frames_of frames c) ≡ true) → AllByRecursion (AllByRecursion Was) (frames_of frames c)
      by (inl none) = subst (AllByRecursion (AllByRecursion Was)) (sym none) tt
      by (inr sound) = all_tested (AllByRecursion Was) (is_sound session g c) (sound_was frames keeps) (frames_of frames c) sound

pub names_what_was_held : EachCycle NamesWhatWasHeld
names_what_was_held = each_cycle NamesWhatWasHeld (λ session t c keeps. frames_were session (ground_of t c) c t.frames keeps)
