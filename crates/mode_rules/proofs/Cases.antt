-- What the cases of the table say of the atoms that they look at.
use Rattle.std.proofs.Common.{◌≡◌, Bool, true, false, not, ◌||◌, inl, inr, bytes_eq, refl, sym, ap, ap₂, ◌∙◌, Option, Some, None}
use Rattle.std.specs.Prelude.{◌&&◌, ◌⊎◌}
use Rattle.std.specs.Option.{is_some}
use Rattle.std.proofs.lemmas.Bool.{cond_both, or_cases, or_parts, and_parts, and_from, true≢false}
use Rattle.std.proofs.lemmas.Slice.Eq.{bytes_eq-Decides}
use Rattle.entry_tree.specs.Atom.{same_atom, same_bit, same_kind}
use Rattle.entry_tree.specs.declared.atom.Atom.{Atom}
use Rattle.entry_tree.specs.declared.atom.Atom.TheVariants.{Dir, File, Link, Untracked, Problem}
use Rattle.entry_tree.specs.declared.problem_kind.ProblemKind.{ProblemKind}
use Rattle.entry_tree.specs.declared.problem_kind.ProblemKind.TheVariants.{Changed, TooLarge, Failed}
use Rattle.mode_rules.specs.declared.mode.Mode.{Mode}
use Rattle.mode_rules.specs.declared.mode.Mode.TheVariants.{TwoWaySafe, TwoWayResolved, OneWaySafe, OneWayReplica}
use Rattle.mode_rules.specs.declared.comparing.Comparison.{Comparison}
use Rattle.mode_rules.specs.declared.verdict.Verdict.{Verdict}
use Rattle.mode_rules.specs.declared.verdict.Verdict.TheVariants as verdicts
use Rattle.mode_rules.specs.Trees.{is_blocked, holds_tracked, same_there, compared, holds_folder}
use Rattle.mode_rules.specs.Verdicts.{by_mode, first_case}

same_kind_is : (a b : ProblemKind) → same_kind a b ≡ true → a ≡ b
same_kind_is Changed Changed e = refl
same_kind_is Changed TooLarge e = absurd (cc)
same_kind_is Changed Failed e = absurd (cc)
same_kind_is TooLarge Changed e = absurd (cc)
same_kind_is TooLarge TooLarge e = refl
same_kind_is TooLarge Failed e = absurd (cc)
same_kind_is Failed Changed e = absurd (cc)
same_kind_is Failed TooLarge e = absurd (cc)
same_kind_is Failed Failed e = refl

same_bit_is : (x y : Bool) → same_bit x y ≡ true → x ≡ y
same_bit_is true true e = refl
same_bit_is true false e = absurd (cc)
same_bit_is false true e = absurd (cc)
same_bit_is false false e = refl

bit_itself : (x : Bool) → same_bit x x ≡ true
bit_itself true = refl
bit_itself false = refl

same_atom_is : (a b : Atom) → same_atom a b ≡ true → a ≡ b
same_atom_is Dir Dir e = refl
same_atom_is (File a x) (File b y) e = let both = and_parts (bytes_eq a b) (same_bit x y) e in ap₂ File ((bytes_eq-Decides a b).0 both.0) (same_bit_is x y both.1)
same_atom_is (Link a) (Link b) e = ap Link ((bytes_eq-Decides a b).0 e)
same_atom_is Untracked Untracked e = refl
same_atom_is (Problem a) (Problem b) e = ap Problem (same_kind_is a b e)
same_atom_is a b e = absurd (cc)

-- what counts as the same is equal
pub same_is : (x y : Option Atom) → same_there x y ≡ true → x ≡ y
same_is None None e = refl
same_is None (Some y) e = absurd (cc)
same_is (Some x) None e = absurd (cc)
same_is (Some x) (Some y) e = ap Some (same_atom_is x y e)

kind_itself : (a : ProblemKind) → same_kind a a ≡ true
kind_itself Changed = refl
kind_itself TooLarge = refl
kind_itself Failed = refl

pub same_itself : (x : Option Atom) → same_there x x ≡ true
same_itself None = refl
same_itself (Some Dir) = refl
same_itself (Some (File a x)) = and_from (bytes_eq a a) (same_bit x x) ((bytes_eq-Decides a a).1 refl) (bit_itself x)
same_itself (Some (Link a)) = (bytes_eq-Decides a a).1 refl
same_itself (Some Untracked) = refl
same_itself (Some (Problem k)) = kind_itself k

-- wherever it isn't blocked, a side is compared as it is
pub compared_is : (x : Option Atom) → is_blocked x ≡ false → compared x ≡ x
compared_is None e = refl
compared_is (Some Dir) e = refl
compared_is (Some (File a x)) e = refl
compared_is (Some (Link a)) e = refl
compared_is (Some Untracked) e = absurd (cc)
compared_is (Some (Problem k)) e = absurd (cc)

-- what is less is nothing, or the same
pub less_is : (x a : Option Atom) → (same_there x None || same_there x a) ≡ true → (x ≡ None) ⊎ (x ≡ a)
less_is x a e = elim (or_cases (same_there x None) (same_there x a) e) [ inl none ↦ inl (same_is x None none) | inr same ↦ inr (same_is x a same) ]

pub not_both : (a b : Bool) → (not a && not b) ≡ false → (a || b) ≡ true
not_both true b e = refl
not_both false true e = refl
not_both false false e = absurd (cc)

-- the first case that holds, and what is known where it is met
pub by_case : (P : Verdict → Type 0) (mode : Mode) (a b : Option Atom) (sa sb : Comparison)
    → ((holds_tracked a || holds_tracked b) ≡ true → (is_blocked a || is_blocked b) ≡ true → P verdicts.Blocked) → ((is_blocked a || is_blocked b) ≡ true → P verdicts.Left)
    → (is_some a ≡ false → is_some b ≡ false → P verdicts.Gone) → (a ≡ b → P verdicts.Agreed)
    → (is_blocked a ≡ false → is_blocked b ≡ false → (is_some a || is_some b) ≡ true → same_there a b ≡ false → P (by_mode mode (is_some a) sa sb))
    → P (first_case mode a b sa sb)
by_case P mode a b sa sb blocked left gone agreed decided =
    cond_both (is_blocked a || is_blocked b) _ _ P
    (λ stops. cond_both (holds_tracked a || holds_tracked b) verdicts.Blocked verdicts.Left P (λ tracked. blocked tracked stops) (λ _. left stops))
    (λ free. let apart = or_parts (is_blocked a) (is_blocked b) free in
    cond_both (not (is_some a) && not (is_some b)) verdicts.Gone _ P
    (λ none. let both = neither (is_some a) (is_some b) none in gone both.0 both.1)
    (λ some. cond_both (same_there a b) verdicts.Agreed _ P
    (λ same. agreed (same_is a b same))
    (λ differ. decided apart.0 apart.1 (not_both (is_some a) (is_some b) some) differ)))
  where
    neither : (x y : Bool) → (not x && not y) ≡ true → (x ≡ false) × (y ≡ false)
    neither true y e = absurd (cc)
    neither false true e = absurd (cc)
    neither false false e = (refl, refl)

pub folder_there : (x : Option Atom) → holds_folder x ≡ true → x ≡ Some Dir
folder_there None e = absurd (true≢false (sym e))
folder_there (Some Dir) e = refl
folder_there (Some (File digest executable)) e = absurd (true≢false (sym e))
folder_there (Some (Link text)) e = absurd (true≢false (sym e))
folder_there (Some Untracked) e = absurd (true≢false (sym e))
folder_there (Some (Problem kind)) e = absurd (true≢false (sym e))

-- where both sides hold a folder, they agree
pub folders_agree : (mode : Mode) (a b : Option Atom) (x y : Comparison) → (holds_folder a && holds_folder b) ≡ true → first_case mode a b x y ≡ verdicts.Agreed
folders_agree mode a b x y e =
    let both = and_parts (holds_folder a) (holds_folder b) e in
    λ i. first_case mode (folder_there a both.0 i) (folder_there b both.1 i) x y

-- What is known of two sides where the mode decides: at the path something stands, untracked and problems apart, and not the same on both sides.
pub record Differ (a b : Option Atom) : Type 0 where
  pub alpha_free : is_blocked a ≡ false
  pub beta_free : is_blocked b ≡ false
  pub some : (is_some a || is_some b) ≡ true
  pub apart : same_there a b ≡ false

-- not both are as a third
pub both_the_same : (a b o : Option Atom) → Differ a b → compared a ≡ o → compared b ≡ o → ⊥
both_the_same a b o d e f =
    let same : a ≡ b = sym (compared_is a d.alpha_free) ∙ e ∙ sym f ∙ compared_is b d.beta_free in
    let no : true ≡ false = sym (same_itself a) ∙ ap (same_there a) same ∙ d.apart in
    absurd (cc)

-- where each is as a third or nothing, one alone holds something
pub one_holds : (a b o : Option Atom) → Differ a b → (compared a ≡ None) ⊎ (compared a ≡ o) → (compared b ≡ None) ⊎ (compared b ≡ o) → is_some b ≡ not (is_some a)
one_holds None None o d e f = let no : false ≡ true = d.some in absurd (cc)
one_holds None (Some y) o d e f = refl
one_holds (Some x) None o d e f = refl
one_holds (Some x) (Some y) o d e f =
    let a : compared (Some x) ≡ Some x = compared_is (Some x) d.alpha_free in
    let b : compared (Some y) ≡ Some y = compared_is (Some y) d.beta_free in
    absurd (both_the_same (Some x) (Some y) o d (is_held x (sym a) e) (is_held y (sym b) f))
  where
    is_held : (z : Atom) → Some z ≡ compared (Some z) → (compared (Some z) ≡ None) ⊎ (compared (Some z) ≡ o) → compared (Some z) ≡ o
    is_held z is (inl none) = let no : Some z ≡ None = is ∙ none in absurd (cc)
    is_held z is (inr same) = same

-- what the mode decides is one of six
pub mode_case : (P : Verdict → Type 0) (mode : Mode) (h : Bool) (sa sb : Comparison)
    → P verdicts.AlphaTakes → P verdicts.BetaTakes → P verdicts.AlphaEmptied → P verdicts.BetaEmptied → P verdicts.BetaKeeps → P verdicts.Both → P (by_mode mode h sa sb)
mode_case P mode h sa sb at bt ae be keeps both = by mode sa.same sa.less sb.same sb.less h
  where
    by : (mode : Mode) (a al b bl h : Bool) → P (by_mode mode h (record { same = a; less = al }) (record { same = b; less = bl }))
    by TwoWaySafe true al b bl h = at
    by TwoWaySafe false al true bl h = bt
    by TwoWaySafe false true false true true = ae
    by TwoWaySafe false true false true false = be
    by TwoWaySafe false true false false h = at
    by TwoWaySafe false false false true h = bt
    by TwoWaySafe false false false false h = both
    by TwoWayResolved true al b bl h = at
    by TwoWayResolved false al b bl h = bt
    by OneWaySafe a al b true h = bt
    by OneWaySafe a al b false true = both
    by OneWaySafe a al b false false = keeps
    by OneWayReplica a al b bl h = bt

-- what both sides agree on is the same, and tracked
pub agreed_is : (mode : Mode) (a b : Option Atom) (sa sb : Comparison) → first_case mode a b sa sb ≡ verdicts.Agreed → (a ≡ b) × (is_blocked a ≡ false)
agreed_is mode a b sa sb =
    cond_both (is_blocked a || is_blocked b) _ _ P
    (λ stops. cond_both (holds_tracked a || holds_tracked b) verdicts.Blocked verdicts.Left P (λ _ e. absurd (cc)) (λ _ e. absurd (cc)))
    (λ free. cond_both (not (is_some a) && not (is_some b)) verdicts.Gone _ P (λ _ e. absurd (cc))
    (λ some. cond_both (same_there a b) verdicts.Agreed _ P
    (λ same e. (same_is a b same, (or_parts (is_blocked a) (is_blocked b) free).0))
    (λ differ. mode_case P mode (is_some a) sa sb (λ e. absurd (cc)) (λ e. absurd (cc)) (λ e. absurd (cc)) (λ e. absurd (cc)) (λ e. absurd (cc)) (λ e. absurd (cc)))))
  where
    P : Verdict → Type 0
    P v = v ≡ verdicts.Agreed → (a ≡ b) × (is_blocked a ≡ false)
