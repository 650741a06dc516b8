use Rattle.std.proofs.Common.{◌≡◌, ◌++◌}
use Rattle.std.specs.Vec.Iter.{into_iter_items}
use Rattle.ancestor_store.specs.Keeping.{bytes_of}
use Rattle.ancestor_store.specs.MemCompacting.{kept_as}
use Rattle.ancestor_store.proofs.mem_compacting.keep_all.Given as goal

-- what is kept so far, and the frames to come
abbrev pub invariant-loop-bytes : goal.invariant-loop-bytes
invariant-loop-bytes l = l.kept.items ++ kept_as l.key (bytes_of (into_iter_items l.bytes-iterator)) ≡ l.initial.kept.items ++ kept_as l.key (bytes_of (into_iter_items l.initial.bytes-iterator))
