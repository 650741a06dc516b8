use Rattle.std.proofs.Common.{◌≡◌, ◌++◌, ℕ, List, ◌∷◌, arith, rules, sym, ap, subst, ◌∙◌, append_assoc}
use Rattle.std.proofs.lemmas.List.{append-nil}
use Rattle.std.proofs.lemmas.Str.{chars-nil}
use Rattle.std.specs.Str.{chars}
use Rattle.ignore_glob.specs.Grammar.{ArePieces}
use Rattle.ignore_glob.proofs.Pieces.{bytes_before, pieces-more}
use Rattle.ignore_glob.proofs.read_part.read_pieces.Goals as goal

pub overflow_sub-result : goal.overflow_sub-result
overflow_sub-result c =
    let so_far = c.loop-c.invariant.1 in
    omega (arith, bytes_before c.args.text.now c.loop-c.rest.now so_far.before c.utf8.text c.loop-c.invariant.0 so_far.text_is)

pub returns-in-None : goal.returns-in-None
returns-in-None c =
    let so_far = c.loop-c.invariant.1 in
    let count = bytes_before c.args.text.now c.loop-c.rest.now so_far.before c.utf8.text c.loop-c.invariant.0 so_far.text_is in
    record {
      front = so_far.before;
      back = c.in-Some.c ∷ chars c.in-Some.behind.now;
      text_is = so_far.text_is ∙ ap (λ (l : List ℕ). so_far.before ++ l) c.in-Some.ensures.cut;
      pieces = c.loop-c.pieces.items;
      whole = so_far.whole;
      offence = c.in-None.ensures;
      place_is = omega (arith, count);
    }

pub loop-c-preserved : goal.loop-c-preserved
loop-c-preserved c =
    let so_far = c.loop-c.invariant.1 in
    let taken = c.in-Some-take_piece.ensures in (
      search rules,
      rw c.in_ok-push-in-Some-take_piece.ensures.items (record {
        before = so_far.before ++ taken.0;
        text_is = so_far.text_is ∙ ap (λ (l : List ℕ). so_far.before ++ l) (c.in-Some.ensures.cut ∙ taken.1) ∙ sym (append_assoc so_far.before taken.0 (chars c.in-Some-take_piece.left.now));
        whole = pieces-more so_far.before c.loop-c.pieces.items taken.0 c.in-Some-take_piece.piece so_far.whole taken.2;
      }),
    )

pub returns : goal.returns
returns c =
    let so_far = c.loop-c.invariant.1 in
    let all : chars c.args.text.now ≡ so_far.before = so_far.text_is ∙ ap (λ (l : List ℕ). so_far.before ++ l) (ap chars c.in_default.ensures.cut ∙ chars-nil) ∙ append-nil so_far.before in
    subst (λ (l : List ℕ). ArePieces l c.loop-c.pieces.items) (sym all) so_far.whole
