use Rattle.std.proofs.Common.{◌≡◌, ◌≢◌, ◌<◌, ◌++◌, [], List, ℕ, length, take, get_or, ap, sym, subst, ◌∙◌, arith}
use Rattle.std.proofs.lemmas.List.{length-append, nil_from_length}
use Rattle.std.proofs.lemmas.List.Elements.{All-append, All-nil}
use Rattle.outside_io.specs.declared.line.Line.{Line}
use Rattle.outside_io.specs.Lines.{HasNoNewline, IsLine, TakesFirst}
use Rattle.outside_io.specs.Taking.{rest_of_taking}
use Rattle.finite_maps.specs.Told.{WhereTold}
use Rattle.outside_io.proofs.SkipLemmas.{TakesNoLine-none, TakesNoLine-kept}
use Rattle.outside_io.proofs.TakingLemmas.{TakesFirst-newline, TakesFirst-skipped, TakesFirst-last, TakesNoLine-held, IfSome-from_match}
use Rattle.outside_io.proofs.intake.Intake.next.Goals as goal
use Rattle.outside_io.specs.declared.limits.TheConstants.{MOST_KEPT, MOST_TAKEN}

pub returns-in-Some-clause-line : goal.returns-in-Some-clause-line
returns-in-Some-clause-line g c =
    let now = c.loop-place.self in
    let n = c.in-Some.place in
    let begun : HasNoNewline now.line = subst HasNoNewline (ap (λ t. t.line) c.self.view_is) c.self.invariant.0 in
    let place = subst (λ (h : List ℕ). (n < length h) × HasNoNewline (take n h) × (get_or h n 0 ≡ 10)) (ap (λ t. t.held) c.self.view_is) c.in-Some.ensures in
    let off = c.in_ok-line.ensures.taken_off in
    TakesFirst-newline _ _ _ now.line now.held _ n c.in_ok-line.line begun place.0 place.1 place.2 c.in_ok-line.ensures.ok
    (ap (λ (l : List ℕ). l ++ c.end_line.new.self.held) off.0 ∙ off.1) c.loop-place.invariant.kept

pub returns-in_err-skip_line-clause-no_line : goal.returns-in_err-skip_line-clause-no_line
returns-in_err-skip_line-clause-no_line g c =
    let now = c.loop-place.self in
    let begun : HasNoNewline now.line = subst HasNoNewline (ap (λ t. t.line) c.self.view_is) c.self.invariant.0 in
    let behind : HasNoNewline now.held = subst HasNoNewline (ap (λ t. t.held) c.self.view_is) c.in_default.ensures in
    let none = All-append (λ (b : ℕ). b ≢ 10) now.line now.held begun behind in
    let skip = c.in_err-skip_line.ensures.err in
    λ _. (TakesNoLine-held _ _ _ (now.line ++ now.held) c.loop-place.invariant.kept none skip.0, skip.1, subst HasNoNewline (sym c.skip_line.ensures.line) (All-nil (λ (b : ℕ). b ≢ 10)))

pub returns-then-bytes-len-clause-line : goal.returns-then-bytes-len-clause-line
returns-then-bytes-len-clause-line g c =
    let now = c.loop-place.self in
    let begun : HasNoNewline now.line = subst HasNoNewline (ap (λ t. t.line) c.self.view_is) c.self.invariant.0 in
    let behind : HasNoNewline now.held = subst HasNoNewline (ap (λ t. t.held) c.self.view_is) c.in_default.ensures in
    let none = All-append (λ (b : ℕ). b ≢ 10) now.line now.held begun behind in
    let long : MOST_KEPT < length (now.line ++ now.held) = omega (arith, length-append now.line now.held, ap (λ t. length t.line) c.self.view_is, ap (λ t. length t.held) c.self.view_is, ap length c.bytes.ensures, c.self.inside.line.ok.0) in
    TakesFirst-skipped _ _ _ _ (now.line ++ now.held) c.skip_line.new.self.held _ none long c.loop-place.invariant.kept c.in_ok-skip_line.ensures.ok
    (ap (λ (l : List ℕ). l ++ c.skip_line.new.self.held) c.skip_line.ensures.line)

pub returns-in_err-refill-clause-no_line : goal.returns-in_err-refill-clause-no_line
returns-in_err-refill-clause-no_line g c =
    let now = c.loop-place.self in
    let begun : HasNoNewline now.line = subst HasNoNewline (ap (λ t. t.line) c.self.view_is) c.self.invariant.0 in
    let behind : HasNoNewline now.held = subst HasNoNewline (ap (λ t. t.held) c.self.view_is) c.in_default.ensures in
    let none = All-append (λ (b : ℕ). b ≢ 10) now.line now.held begun behind in
    λ _. (TakesNoLine-held _ _ _ (now.line ++ now.held) c.loop-place.invariant.kept none (TakesNoLine-kept _ _ _ (TakesNoLine-none _) c.in_err-refill.ensures.bytes), c.in_err-refill.ensures.err.0, subst HasNoNewline (sym (c.refill.ensures.line ∙ c.in_ok-hold.ensures.ok.0)) none)

pub returns-then-branch-eq0-clause-line : goal.returns-then-branch-eq0-clause-line
returns-then-branch-eq0-clause-line g c =
    let now = c.loop-place.self in
    let left = g.S.Source.left in
    let begun : HasNoNewline now.line = subst HasNoNewline (ap (λ t. t.line) c.self.view_is) c.self.invariant.0 in
    let behind : HasNoNewline now.held = subst HasNoNewline (ap (λ t. t.held) c.self.view_is) c.in_default.ensures in
    let none = All-append (λ (b : ℕ). b ≢ 10) now.line now.held begun behind in
    let line : c.refill.new.self.line ≡ now.line ++ now.held = c.refill.ensures.line ∙ c.in_ok-hold.ensures.ok.0 in
    let nothing : c.refill.new.self.held ≡ [] = nil_from_length _ (sym c.in_ok-refill.ensures.count.0 ∙ c.if-branch-eq0.true) in
    let end = c.in_ok-refill.ensures.bytes in
    let met : c.last_line.new.self.taken < MOST_TAKEN = omega (arith, c.in_ok-refill.ensures.asked, c.in_ok-refill.ensures.count.1, c.in_ok-refill.ensures.count.0, c.if-branch-eq0.true, c.last_line.ensures.taken.0, c.in_ok-hold.ensures) in
    IfSome-from_match (c.refill.new.self.line ≡ []) (λ (answer : Line). (0 < length c.refill.new.self.line) × IsLine c.refill.new.self.line answer)
    (λ (answer : Line). WhereTold (rest_of_taking c.args.self.now (left c.args.source.now)) (rest_of_taking c.last_line.new.self (left c.refill.new.source)) (λ old new. TakesFirst (c.last_line.new.self.taken < MOST_TAKEN) old new answer))
    c.last_line.result c.last_line.ensures.line
    (λ answer is. TakesFirst-last _ _ _ _ (now.line ++ now.held) c.refill.new.self.held _ answer none (omega (arith, ap length line, is.0)) (subst (λ (l : List ℕ). IsLine l answer) line is.1) c.loop-place.invariant.kept end.0 nothing (end.1 c.if-branch-eq0.true)
    (ap (λ (l : List ℕ). l ++ c.last_line.new.self.held) c.last_line.ensures.begun ∙ c.last_line.ensures.held ∙ nothing) met)
