-- The lines of refusals, a row for each row of the table in docs/FORMATS.md.
use Rattle.std.specs.Prelude.{ℕ, List, [], ◌∷◌, codes, Option, Some, None}
use Rattle.std.specs.Fmt.{decimal}
use Rattle.entry_tree.specs.AtomText.{words_of}
use Rattle.entry_tree.specs.PathWord.{path_word}
use Rattle.entry_tree.specs.declared.atom.Atom.{Atom}
use Rattle.command_words.specs.Identifier.{identifier_word}
use Rattle.command_words.specs.Keywords.{halt_word}
use Rattle.reply_text.specs.Lines.{refused_line}
use Rattle.reply_text.specs.declared.refusal.TheConstants.{MAX_CLIENTS, MAX_SESSIONS}
use Rattle.reply_text.specs.declared.refusal.Refusal.{Refusal}
use Rattle.reply_text.specs.declared.refusal.Refusal.TheVariants.{LineTooLong, BadPattern, NoRoot, EditRefused, LogFull, BytesFull, KeeperFault, NoSession, SameRoot, TableFull, NameTaken, IdTaken, OldNumber, ClientsFull, Halted, Paused, DiceFault, BadLine, StreamsFull, NoStream, ScriptOnly, OldRun, Cut, WriteClosed}

-- what stands at a path: the words of an atom, or `none`
abbrev pub found_words : Option Atom → List (List ℕ)
found_words None = codes "none" ∷ []
found_words (Some atom) = words_of atom

-- the words behind `refused`: the number, the word of the refusal, and what it names
abbrev pub refusal_words : Refusal → List (List ℕ)
refusal_words LineTooLong = decimal 5 ∷ codes "line-too-long" ∷ []
refusal_words (BadPattern index place) = decimal 12 ∷ codes "bad-pattern" ∷ decimal index ∷ decimal place ∷ []
refusal_words (NoRoot root) = decimal 13 ∷ codes "no-root" ∷ root ∷ []
refusal_words (EditRefused path found) = decimal 14 ∷ codes "edit-refused" ∷ path_word path ∷ found_words found
refusal_words (LogFull size) = decimal 15 ∷ codes "log-full" ∷ decimal size ∷ []
refusal_words (BytesFull bytes) = decimal 16 ∷ codes "bytes-full" ∷ decimal bytes ∷ []
refusal_words KeeperFault = decimal 19 ∷ codes "keeper-fault" ∷ []
refusal_words NoSession = decimal 20 ∷ codes "no-session" ∷ []
refusal_words SameRoot = decimal 21 ∷ codes "same-root" ∷ []
refusal_words TableFull = decimal 22 ∷ codes "table-full" ∷ decimal MAX_SESSIONS ∷ []
refusal_words (NameTaken identifier) = decimal 23 ∷ codes "name-taken" ∷ identifier_word identifier ∷ []
refusal_words (IdTaken identifier) = decimal 24 ∷ codes "id-taken" ∷ identifier_word identifier ∷ []
refusal_words (OldNumber last) = decimal 25 ∷ codes "old-number" ∷ decimal last ∷ []
refusal_words ClientsFull = decimal 26 ∷ codes "clients-full" ∷ decimal MAX_CLIENTS ∷ []
refusal_words (Halted halt) = decimal 27 ∷ codes "halted" ∷ halt_word halt ∷ []
refusal_words Paused = decimal 28 ∷ codes "paused" ∷ []
refusal_words DiceFault = decimal 29 ∷ codes "dice-fault" ∷ []
refusal_words (BadLine place) = decimal 30 ∷ codes "bad-line" ∷ decimal place ∷ []
refusal_words (StreamsFull live) = decimal 32 ∷ codes "streams-full" ∷ decimal live ∷ []
refusal_words NoStream = decimal 34 ∷ codes "no-stream" ∷ []
refusal_words ScriptOnly = decimal 35 ∷ codes "script-only" ∷ []
refusal_words (OldRun run) = decimal 36 ∷ codes "old-run" ∷ decimal run ∷ []
refusal_words Cut = decimal 37 ∷ codes "cut" ∷ []
refusal_words WriteClosed = decimal 38 ∷ codes "write-closed" ∷ []

-- the line of a refusal
abbrev pub refusal_line : Refusal → List ℕ
refusal_line refusal = refused_line (refusal_words refusal)
