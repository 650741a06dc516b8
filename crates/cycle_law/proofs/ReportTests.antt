-- The tests of what a report holds are true of what is the same alone.
use lib.Pointwise.{pointwise}
use Rattle.std.proofs.Common.{◌≡◌, suc, ◌≤◌, Bool, true, false, List, [], ◌∷◌, ◌++◌, length, bytes_eq, refl, sym, ap, Some, None, arith}
use Rattle.std.specs.Prelude.{if◌then◌else◌}
use Rattle.std.proofs.lemmas.Bool.{and_parts}
use Rattle.entry_tree.specs.declared.side.Side.{Side}
use Rattle.entry_tree.specs.declared.side.Side.TheVariants.{Alpha, Beta}
use Rattle.entry_tree.proofs.Paths.{name_is}
use Rattle.finite_maps.proofs.Constructors.{none_is_not_some, some_same}
use Rattle.mode_rules.specs.Laws.{is_of}
use Rattle.mode_rules.specs.declared.conflict.Conflict.{Conflict}
use Rattle.mode_rules.specs.declared.conflict.Reason.{Reason}
use Rattle.mode_rules.specs.declared.conflict.Reason.TheVariants as reasons
use Rattle.mode_rules.specs.declared.halt.Halt.{Halt}
use Rattle.mode_rules.specs.declared.halt.Halt.TheVariants.{RootDeleted, RootTypeChanged, RootEmptied}
use Rattle.mode_rules.specs.declared.problem.Cause.{Cause}
use Rattle.mode_rules.specs.declared.problem.Cause.TheVariants.{Changed, TooLarge, Failed, Differs, NotEmpty, NoParent, NoLink, NoExec, DigestDiffers, NotStaged, NoMemory, Skipped}
use Rattle.mode_rules.specs.declared.problem.Problem.{Problem}
use Rattle.scan_laws.specs.Seen.{same_path}
use Rattle.cycle_law.specs.ReportSameness.{is_part, same_cause, same_conflict, same_halt, same_problem, same_reason}
use Rattle.cycle_law.specs.Reports.{behind}
use Rattle.cycle_law.proofs.Tests.{same_path_is}

side_is : (x y : Side) → is_of x y ≡ true → x ≡ y
side_is Alpha Alpha h = refl
side_is Beta Beta h = refl
side_is Alpha Beta h = absurd (cc)
side_is Beta Alpha h = absurd (cc)

pub halt_is : (x y : Halt) → same_halt x y ≡ true → x ≡ y
halt_is RootDeleted RootDeleted h = refl
halt_is RootTypeChanged RootTypeChanged h = refl
halt_is RootEmptied RootEmptied h = refl
halt_is RootDeleted y h = absurd (cc)
halt_is RootTypeChanged y h = absurd (cc)
halt_is RootEmptied y h = absurd (cc)

reason_is : (x y : Reason) → same_reason x y ≡ true → x ≡ y
reason_is reasons.Both reasons.Both h = refl
reason_is reasons.Blocked reasons.Blocked h = refl
reason_is reasons.Both y h = absurd (cc)
reason_is reasons.Blocked y h = absurd (cc)

cause_is : (x y : Cause) → same_cause x y ≡ true → x ≡ y
cause_is Changed Changed h = refl
cause_is TooLarge TooLarge h = refl
cause_is Failed Failed h = refl
cause_is Differs Differs h = refl
cause_is NotEmpty NotEmpty h = refl
cause_is NoParent NoParent h = refl
cause_is NoLink NoLink h = refl
cause_is NoExec NoExec h = refl
cause_is (DigestDiffers w g) (DigestDiffers v f) h = let both = and_parts (bytes_eq w v) (bytes_eq g f) h in λ i. DigestDiffers (name_is w v both.0 i) (name_is g f both.1 i)
cause_is NotStaged NotStaged h = refl
cause_is NoMemory NoMemory h = refl
cause_is (Skipped p) (Skipped q) h = ap Skipped (same_path_is p q h)
cause_is Changed y h = absurd (cc)
cause_is TooLarge y h = absurd (cc)
cause_is Failed y h = absurd (cc)
cause_is Differs y h = absurd (cc)
cause_is NotEmpty y h = absurd (cc)
cause_is NoParent y h = absurd (cc)
cause_is NoLink y h = absurd (cc)
cause_is NoExec y h = absurd (cc)
cause_is (DigestDiffers w g) y h = absurd (cc)
cause_is NotStaged y h = absurd (cc)
cause_is NoMemory y h = absurd (cc)
cause_is (Skipped p) y h = absurd (cc)

pub problem_is : (x y : Problem) → same_problem x y ≡ true → x ≡ y
problem_is x y h =
    let one = and_parts (is_of x.side y.side) _ h in
    let two = and_parts (same_path x.path y.path) (same_cause x.cause y.cause) one.1 in
    λ i. record { side = side_is x.side y.side one.0 i; path = same_path_is x.path y.path two.0 i; cause = cause_is x.cause y.cause two.1 i }

each_is : {X : Type 0} (test : X → X → Bool) → ((x y : X) → test x y ≡ true → x ≡ y) → (xs ys : List X) → pointwise test xs ys ≡ true → xs ≡ ys
each_is test exact [] [] h = refl
each_is test exact [] (y ∷ ys) h = absurd (cc)
each_is test exact (x ∷ xs) [] h = absurd (cc)
each_is test exact (x ∷ xs) (y ∷ ys) h = let both = and_parts (test x y) (pointwise test xs ys) h in λ i. exact x y both.0 i ∷ each_is test exact xs ys both.1 i

conflict_is : (x y : Conflict) → same_conflict x y ≡ true → x ≡ y
conflict_is x y h =
    let one = and_parts (same_path x.at y.at) _ h in
    let two = and_parts (same_reason x.reason y.reason) _ one.1 in
    let three = and_parts (pointwise same_path x.alpha y.alpha) (pointwise same_path x.beta y.beta) two.1 in
    λ i. record { at = same_path_is x.at y.at one.0 i; reason = reason_is x.reason y.reason two.0 i; alpha = each_is same_path same_path_is x.alpha y.alpha three.0 i; beta = each_is same_path same_path_is x.beta y.beta three.1 i }

pub conflicts_are : (xs ys : List Conflict) → pointwise same_conflict xs ys ≡ true → xs ≡ ys
conflicts_are xs ys h = each_is same_conflict conflict_is xs ys h

-- ---- parts of a list

pub part_short : (ps qs : List Problem) → is_part ps qs ≡ true → length ps ≤ length qs
part_short [] qs h = omega arith
part_short (p ∷ ps) [] h = absurd (cc)
part_short (p ∷ ps) (q ∷ qs) h = by (same_problem p q) h (λ g. part_short ps qs g) (λ g. part_short (p ∷ ps) qs g)
  where
    by : (b : Bool) → (if b then is_part ps qs else is_part (p ∷ ps) qs) ≡ true → (is_part ps qs ≡ true → length ps ≤ length qs) → (is_part (p ∷ ps) qs ≡ true → suc (length ps) ≤ length qs) → suc (length ps) ≤ suc (length qs)
    by true g here there = let k : length ps ≤ length qs = here g in omega arith
    by false g here there = let k : suc (length ps) ≤ length qs = there g in omega arith

-- a part that is as long is the whole
pub part_whole : (ps qs : List Problem) → is_part ps qs ≡ true → length qs ≤ length ps → ps ≡ qs
part_whole [] [] h long = refl
part_whole [] (q ∷ qs) h long = absurd (omega arith)
part_whole (p ∷ ps) [] h long = absurd (cc)
part_whole (p ∷ ps) (q ∷ qs) h long = by (same_problem p q) refl h (λ g k. part_whole ps qs g k)
  where
    by : (b : Bool) → same_problem p q ≡ b → (if b then is_part ps qs else is_part (p ∷ ps) qs) ≡ true → (is_part ps qs ≡ true → length qs ≤ length ps → ps ≡ qs) → (p ∷ ps) ≡ (q ∷ qs)
    by true e g here = let k : length qs ≤ length ps = omega arith in λ i. problem_is p q e i ∷ here g k i
    by false e g here = let k : suc (length ps) ≤ length qs = part_short (p ∷ ps) qs g in absurd (omega arith)

-- what stands behind others, with these, is the whole
pub behind_is : (xs ys zs : List Problem) → behind xs ys ≡ Some zs → ys ≡ xs ++ zs
behind_is [] ys zs h = some_same ys zs h
behind_is (x ∷ xs) [] zs h = absurd (none_is_not_some zs h)
behind_is (x ∷ xs) (y ∷ ys) zs h = by (same_problem x y) refl h (λ g. behind_is xs ys zs g)
  where
    by : (b : Bool) → same_problem x y ≡ b → (if b then behind xs ys else None) ≡ Some zs → (behind xs ys ≡ Some zs → ys ≡ xs ++ zs) → (y ∷ ys) ≡ (x ∷ xs) ++ zs
    by true e g more = λ i. sym (problem_is x y e) i ∷ more g i
    by false e g more = absurd (none_is_not_some zs g)
