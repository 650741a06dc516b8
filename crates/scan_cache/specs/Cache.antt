-- What a cache finds, and what learning makes of it.
use Rattle.std.specs.Prelude.{ℕ, ◌==◌, cond, List, Option, Some, None}
use Rattle.std.specs.FinMap as map
use Rattle.std.specs.Option.{option_and_then}
use Rattle.entry_tree.specs.Tree.{Names, ByPath}
use Rattle.entry_tree.specs.declared.entry.Stamp.{Stamp}
use Rattle.scan_cache.specs.declared.line.Line.{Line}

-- a line's digest, where it is of this stamp
abbrev pub line_of : Stamp → Line → Option (List ℕ)
line_of stamp line = cond (line.stamp.0 == stamp.0) (Some line.digest) None

-- the digest of the file with this stamp at a path; none where the path has no line, or one of another stamp
abbrev pub digest_for : ByPath Line → Names → Stamp → Option (List ℕ)
digest_for cache path stamp = option_and_then (line_of stamp) (map.get cache path)

-- the cache in which the path's line is of this stamp and digest
abbrev pub with_line : ByPath Line → Names → Stamp → List ℕ → ByPath Line
with_line cache path stamp digest = map.insert cache path (record { stamp = stamp; digest = digest })
