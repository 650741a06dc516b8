use Rattle.std.proofs.Common.{◌≤◌, ◌∙◌, ◌++◌, drop, length, ap, subst, sym}
use Rattle.request_text.specs.SettingWords.{kind_prefix}
use Rattle.request_text.proofs.WordKinds.{cut_behind, fits_in}
use Rattle.request_text.proofs.setting_words.behind.Goals as goal

pub split_at-requires : goal.split_at-requires
split_at-requires c =
    let prefix = kind_prefix c.args.kind in
    subst (λ p. length p ≤ length c.args.word.now) (sym c.kind_prefix.ensures) (fits_in c.args.word.now prefix (drop (length prefix) c.args.word.now) (cut_behind c.args.word.now c.args.kind c.requires))

pub returns : goal.returns
returns c =
    cut_behind c.args.word.now c.args.kind c.requires
    ∙ ap (λ p. kind_prefix c.args.kind ++ drop (length p) c.args.word.now) (sym c.kind_prefix.ensures)
    ∙ ap (λ back. kind_prefix c.args.kind ++ back) (sym c.split_at.ensures.back)
