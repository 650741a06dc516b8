use Rattle.std.proofs.Common.{◌≡◌, ◌++◌, string_bytes}
use Rattle.std.specs.List.{flat_map}
use Rattle.script_engine.specs.Replies as reply
use Rattle.script_engine.proofs.replies.show_reply.Given as goal

-- the text so far, and the lines of the files that are left, are the reply
abbrev pub invariant-loop-name : goal.invariant-loop-name
invariant-loop-name l =
    string_bytes l.text ++ flat_map reply.file_line l.name-iterator ≡ reply.show_reply l.root l.files
