use Rattle.std.proofs.Common.{◌≡◌, ◌++◌, map, take}
use Rattle.std.specs.Prelude.{string_bytes}
use Rattle.command_words.specs.Piece.{next_words}
use Rattle.request_text.specs.Settings.{setting_words}
use Rattle.request_text.specs.declared.setting.Setting.TheVariants as settings
use Rattle.request_text.proofs.write_options.write_ignores.Given as goal

abbrev pub invariant-loop-ignore : goal.invariant-loop-ignore
invariant-loop-ignore l = string_bytes l.text ≡ string_bytes l.fn.text ++ next_words (setting_words (map settings.Ignore (take l.ignore-index l.ignores)))
