-- The numbers of the ways in which a run ends.
use Rattle.std.specs.Prelude.{ℕ}
use Rattle.script_engine.specs.declared.status.Status.{Status}
use Rattle.script_engine.specs.declared.status.Status.TheVariants as status

-- the exit status of the program
abbrev pub number_of : Status → ℕ
number_of status.Ok = 0
number_of status.Usage = 2
number_of status.ReadFault = 3
number_of status.WriteFault = 4
number_of status.NoMemory = 5
number_of status.SourceSpent = 6
