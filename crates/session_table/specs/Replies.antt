-- Tests of commands and their replies.
use Rattle.std.specs.Prelude.{Bool, true, false}
use Rattle.session_table.specs.declared.reply.CommandReply.{CommandReply}
use Rattle.session_table.specs.declared.reply.CommandReply.TheVariants.{Refused}
use Rattle.session_table.specs.declared.request.TableRequest.{TableRequest}
use Rattle.session_table.specs.declared.request.TableRequest.TheVariants.{Flush}

abbrev pub is_refused : CommandReply → Bool
is_refused (Refused refusal) = true
is_refused _ = false

-- commands that are kept also where no client's number stands before them
abbrev pub is_lasting : TableRequest → Bool
is_lasting (Flush word) = false
is_lasting _ = true
