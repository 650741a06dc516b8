-- What a reader of lines is seen as.
use Rattle.std.specs.Prelude.{◌≡◌, ℕ, ◌≤◌, List, Option, Some, None, Result, Ok, Err}
use Rattle.std.specs.Io.KnownBytes.{prepend_known}
use Rattle.outside_io.specs.declared.line.Line.{Line}
use Rattle.outside_io.specs.declared.line.LineFault.{LineFault}
use Rattle.outside_io.specs.declared.line.LineFault.TheVariants.{ReadFault, SourceSpent, Memory}
use Rattle.outside_io.specs.Lines.{HasNoNewline}
use Rattle.outside_io.specs.declared.limits.TheConstants.{MOST_TAKEN}

pub record ReaderState : Type 0 where
  -- the bytes that were taken from the source, and that no answer has given yet
  pub held : List ℕ
  -- how many bytes were taken from the source in all
  pub taken : ℕ
  -- the fault that is answered from now on, if there is one
  pub stuck : Option LineFault

-- what is still to be read: the bytes that are held, and then those that the source has left, where it tells them
abbrev pub rest_of : ReaderState → Option (List ℕ) → Option (List ℕ)
rest_of reader left = prepend_known reader.held left

-- the fault that is answered from then on: a read fault and a spent source stay, and want of memory does not
abbrev pub lasting : LineFault → Option LineFault
lasting ReadFault = Some ReadFault
lasting SourceSpent = Some SourceSpent
lasting Memory = None

-- the fault that is answered after this answer
abbrev pub stuck_after : Result (Option Line) LineFault → Option LineFault
stuck_after (Ok answer) = None
stuck_after (Err fault) = lasting fault

-- what holds of every reader
pub record IsReader (held : List ℕ) (taken : ℕ) (stuck : Option LineFault) : Type 0 where
  pub within : taken ≤ MOST_TAKEN
  -- only a lasting fault is kept, and then no whole line is held
  pub lasts : (fault : LineFault) → stuck ≡ Some fault → lasting fault ≡ Some fault
  pub unbroken : (fault : LineFault) → stuck ≡ Some fault → HasNoNewline held
  pub spent : stuck ≡ Some SourceSpent → taken ≡ MOST_TAKEN
