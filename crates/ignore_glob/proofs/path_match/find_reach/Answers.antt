use Rattle.std.proofs.Common.{◌≡◌, ◌+◌, ◌<◌, ℕ, List, [], ◌∷◌, length, drop, get_or, sym, subst, refl, arith}
use denote.Ref.{Bor}
use Rattle.ignore_glob.specs.declared.piece.Part.TheVariants as parts
use Rattle.ignore_glob.specs.Matching.{is_span, FitsName, Matches, MatchesSuffix}
use Rattle.ignore_glob.specs.Stretch.{names_of}
use Rattle.ignore_glob.proofs.Matching.{run_on, run_back, suffix_on, suffix_back, suffix_none, suffix_whole}
use Rattle.ignore_glob.proofs.Names.{names_at, names_end}
use Rattle.ignore_glob.proofs.path_match.find_reach.Goals as goal

pub returns-in-Whole : goal.returns-in-Whole
returns-in-Whole c =
    c.loop-name.invariant.same.1 (suffix_whole is_span FitsName (drop c.loop-name.at (names_of c.args.names.now)) (drop c.args.from c.args.parts.now) c.in-Whole.ensures)

pub returns-in-Span : goal.returns-in-Span
returns-in-Span c =
    let names = names_of c.args.names.now in
    let inv = c.loop-name.invariant in
    let found = c.in-Span.ensures in (
      (
        λ m. run_on is_span FitsName (drop c.loop-name.at names) (drop c.args.from c.args.parts.now) (drop c.in-Span.name names) parts.Span (drop c.in-Span.part c.args.parts.now) found.0 refl (inv.same.0 m),
        λ m. inv.same.1 (run_back is_span FitsName (drop c.loop-name.at names) (drop c.args.from c.args.parts.now) (drop c.in-Span.name names) parts.Span (drop c.in-Span.part c.args.parts.now) found.0 refl m),
      ),
      found.2,
      found.3,
      found.4,
    )

pub returns-then-at-names : goal.returns-then-at-names
returns-then-at-names c =
    let names = names_of c.args.names.now in
    let left = drop c.args.from c.args.parts.now in
    let none : drop c.loop-name.at names ≡ [] = names_end c.args.names.now c.loop-name.at (omega (arith, c.if-at-names.true)) in
    λ m. suffix_none is_span FitsName left
    (λ w. c.in-Fails.ensures (subst (λ (l : List (List ℕ)). Matches is_span FitsName l left) (sym none) w))
    (subst (λ (l : List (List ℕ)). MatchesSuffix is_span FitsName l left) none (c.loop-name.invariant.same.0 m))

pub loop-name-preserved : goal.loop-name-preserved
loop-name-preserved c =
    let names = names_of c.args.names.now in
    let left = drop c.args.from c.args.parts.now in
    let inv = c.loop-name.invariant in
    let text : Bor (List ℕ) = record { ref_ptr = (0, 0); now = [] } in
    let less : c.loop-name.at < length c.args.names.now = omega (arith, inv.names_in, c.if-at-names.false) in
    let first = (get_or c.args.names.now c.loop-name.at text).now in
    let rest = drop (c.loop-name.at + 1) names in
    let cut : drop c.loop-name.at names ≡ first ∷ rest = names_at c.args.names.now c.loop-name.at text less in
    let at = λ (l : List (List ℕ)). MatchesSuffix is_span FitsName l left in
    record {
      same = (
        λ m. suffix_on is_span FitsName first rest left
            (λ w. c.in-Fails.ensures (subst (λ (l : List (List ℕ)). Matches is_span FitsName l left) (sym cut) w))
            (subst at cut (inv.same.0 m)),
        λ m. inv.same.1 (subst at (sym cut) (suffix_back is_span FitsName first rest left m)),
      );
      names_in = omega (arith, less);
    }
