use Rattle.std.proofs.Common.{ap, ap₂, sym, ◌∙◌, ◌∷◌, ◌++◌, ◌≡◌, ◌+◌, suc, drop, arith}
use Rattle.command_words.specs.Cuts.{has_no}
use Rattle.command_words.proofs.Cutting.{cut_found}
use Rattle.command_words.proofs.cut.cut_at.Goals as goal

pub returns : goal.returns
returns c =
    let found = cut_found c.args.b c.args.word.now c.args.at c.requires in
    let one : suc c.args.at ≡ c.args.at + 1 = omega arith in
    record {
      all =
          found.all
          ∙ ap₂ (λ x y. x ++ c.args.b ∷ y) (sym c.split_at.ensures.front) (ap (λ n. drop n c.args.word.now) one ∙ sym c.split_at-2.ensures.back);
      first = ap (has_no c.args.b) c.split_at.ensures.front ∙ found.first;
    }
