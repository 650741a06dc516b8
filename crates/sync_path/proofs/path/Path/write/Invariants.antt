use Rattle.std.proofs.Common.{◌≡◌, ◌++◌, string_bytes}
use Rattle.sync_path.specs.Path.{path_text}
use Rattle.sync_path.proofs.TextParts.{slashed}
use Rattle.sync_path.proofs.path.Path.write.Given as goal

-- the text so far, and the names that are left, each behind a `/`
abbrev pub invariant-loop-name : goal.invariant-loop-name
invariant-loop-name l = string_bytes l.text ++ slashed l.name-iterator ≡ path_text l.self
