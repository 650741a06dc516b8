use Rattle.std.proofs.Common.{◌≡◌, ◌++◌, map, string_bytes}
use Rattle.std.specs.List.{flat_map}
use Rattle.script_engine.specs.Replies as reply
use Rattle.script_engine.proofs.replies.flush_reply.Given as goal

-- the text so far, and the lines of the conflicts that are left, are the reply
abbrev pub invariant-loop-name : goal.invariant-loop-name
invariant-loop-name l =
    string_bytes l.text ++ flat_map reply.conflict_line (map (λ e. e.0) l.name-iterator) ≡ reply.flush_reply l.cycle l.conflicts
