use Rattle.std.proofs.Common.{rules, ◌≡◌, refl, codes, false}
use Rattle.std.specs.Prelude.{string_bytes, ◌==◌, decimal}
use Rattle.std.proofs.lemmas.Result.{on_ok_weaker}
use Rattle.request_text.proofs.Writing.{limit_written}
use Rattle.request_text.specs.declared.limits.TheConstants.{MAX_SIZE_LIMIT}
use Rattle.request_text.specs.declared.setting.Setting.TheVariants as settings
use Rattle.request_text.proofs.write_options.write_size.Goals as goal

pub returns : goal.returns
returns c =
    let is : (c.args.most == MAX_SIZE_LIMIT) ≡ false = search rules in
    let digits : c.format.result.now ≡ decimal c.args.most = search rules in
    on_ok_weaker c.write_pieces.result (λ h. limit_written c.args.most MAX_SIZE_LIMIT (codes "--max-staging-file-size=") c.format.result.now (string_bytes c.args.text.now) (string_bytes c.write_pieces.new.text) (settings.Size c.args.most) refl is digits h) c.write_pieces.ensures
