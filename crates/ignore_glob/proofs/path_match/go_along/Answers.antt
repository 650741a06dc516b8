use Rattle.std.proofs.Common.{◌≡◌, ◌+◌, suc, ◌<◌, ℕ, List, [], ◌∷◌, length, get_or, drop, sym, ap, subst, ◌∙◌, arith, add-one}
use Rattle.std.proofs.Math.Seq.{drop-cons}
use Rattle.std.proofs.lemmas.Bool.{false≢true}
use Rattle.std.proofs.lemmas.List.{nil_from_length, length-drop}
use denote.Ref.{Bor}
use Rattle.ignore_glob.specs.declared.piece.Part.{Part}
use Rattle.ignore_glob.specs.Matching.{is_span, FitsName}
use Rattle.ignore_glob.specs.Stretch.{Along, names_of}
use Rattle.ignore_glob.proofs.Matching.{along_unfit, along_one, along_long}
use Rattle.ignore_glob.proofs.Names.{names_at}
use Rattle.ignore_glob.proofs.path_match.go_along.Goals as goal

-- the stretch at what is left of the names and of the parts
at : (names rest : List (List ℕ)) (ps left : List Part) (xs : List (List ℕ)) (qs : List Part) → rest ≡ xs → left ≡ qs → Along is_span FitsName names ps rest left → Along is_span FitsName names ps xs qs
at names rest ps left xs qs e f a = subst (λ (l : List Part). Along is_span FitsName names ps xs l) f (subst (λ (l : List (List ℕ)). Along is_span FitsName names ps l left) e a)

-- an element that the code read
part_at : (ps : List Part) (i : ℕ) (p : Part) → i < length ps → p ≡ get_or ps i p → drop i ps ≡ p ∷ drop (i + 1) ps
part_at ps i p less is = rw add-one (drop-cons ps i p less ∙ ap (λ (x : Part). x ∷ drop (suc i) ps) (sym is))

pub returns-then-not-fits : goal.returns-then-not-fits
returns-then-not-fits c =
    let names = c.args.names.now in
    let next = c.loop-place.next in
    let none : Bor (List ℕ) = record { ref_ptr = (0, 0); now = [] } in
    let less : next < length names = omega (arith, c.loop-place.invariant.within, c.if-next-names.false) in
    let a = at (drop c.args.at (names_of names)) (drop next (names_of names)) (drop c.args.from c.args.parts.now) (drop c.loop-place.place c.args.parts.now) _ _
    (names_at names next none less) (part_at c.args.parts.now c.loop-place.place c.index-parts-place.result (omega arith) c.index-parts-place.is) c.loop-place.invariant.along in
    along_unfit is_span FitsName _ _ _ _ _ _ a (sym c.is_span.ensures ∙ c.if-is_span.false) (λ f. false≢true (sym c.if-not-fits.true ∙ c.fits.ensures.1 f))

pub loop-place-preserved : goal.loop-place-preserved
loop-place-preserved c =
    let names = c.args.names.now in
    let next = c.loop-place.next in
    let none : Bor (List ℕ) = record { ref_ptr = (0, 0); now = [] } in
    let less : next < length names = omega (arith, c.loop-place.invariant.within, c.if-next-names.false) in
    let a = at (drop c.args.at (names_of names)) (drop next (names_of names)) (drop c.args.from c.args.parts.now) (drop c.loop-place.place c.args.parts.now) _ _
    (names_at names next none less) (part_at c.args.parts.now c.loop-place.place c.index-parts-place.result (omega arith) c.index-parts-place.is) c.loop-place.invariant.along in
    let one = along_one is_span FitsName _ _ _ _ _ _ a (sym c.is_span.ensures ∙ c.if-is_span.false) (c.fits.ensures.0 c.if-not-fits.false) in
    record { along = one; forward = omega (arith, c.loop-place.invariant.forward); within = omega arith }

pub returns-else-next-names-2 : goal.returns-else-next-names-2
returns-else-next-names-2 c =
    let names = c.args.names.now in
    let next = c.loop-place.next in
    let none : Bor (List ℕ) = record { ref_ptr = (0, 0); now = [] } in
    let less : next < length names = omega (arith, c.loop-place.invariant.within, c.if-next-names-2.false) in
    let end : drop c.loop-place.place c.args.parts.now ≡ [] = nil_from_length (drop c.loop-place.place c.args.parts.now) (omega (arith, length-drop c.loop-place.place c.args.parts.now)) in
    let a = at (drop c.args.at (names_of names)) (drop next (names_of names)) (drop c.args.from c.args.parts.now) (drop c.loop-place.place c.args.parts.now) _ []
    (names_at names next none less) end c.loop-place.invariant.along in
    along_long is_span FitsName _ _ _ _ a
