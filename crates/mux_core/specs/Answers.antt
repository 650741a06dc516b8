-- What a call that may run out of memory answers and leaves.
use Rattle.std.specs.Prelude.{◌≡◌, Result, Ok, Err}
use Rattle.mux_core.specs.declared.error.MuxError.{MuxError}
use Rattle.mux_core.specs.declared.error.MuxError.TheVariants.{NoStream, WriteClosed, Protocol, Memory}
use Rattle.mux_core.specs.declared.error.OpenError.{OpenError}
use Rattle.mux_core.specs.declared.error.OpenError.TheVariants as opening
use Rattle.mux_core.specs.Ends.{End}

-- The call's answer and the end that it leaves are those of the step. Want of memory changes nothing.
abbrev pub Answers : {A : Type 0} → Result A MuxError → End → End → Result A MuxError × End → Type 0
Answers (Ok x) old new step = step ≡ (Ok x, new)
Answers (Err NoStream) old new step = step ≡ (Err NoStream, new)
Answers (Err WriteClosed) old new step = step ≡ (Err WriteClosed, new)
Answers (Err (Protocol frame)) old new step = step ≡ (Err (Protocol frame), new)
Answers (Err Memory) old new step = new ≡ old

-- the same of the opening of a stream
abbrev pub AnswersOpen : {A : Type 0} → Result A OpenError → End → End → Result A OpenError × End → Type 0
AnswersOpen (Ok x) old new step = step ≡ (Ok x, new)
AnswersOpen (Err (opening.StreamsFull live)) old new step = step ≡ (Err (opening.StreamsFull live), new)
AnswersOpen (Err opening.Memory) old new step = new ≡ old
