use Rattle.std.proofs.Common.{◌≡◌}
use Rattle.ignore_glob.specs.declared.pattern_error.PatternError.TheVariants.{Memory}
use Rattle.ignore_rules.proofs.vcs.folder_pattern.Goals as goal

-- a text that is a pattern isn't refused
pub unreachable-requires : goal.unreachable-requires
unreachable-requires c = let want : c.in-Err-Bad.field-0 ≡ Memory = c.in-Err-Bad.ensures.accepted c.requires.0 c.requires.1 in cc
