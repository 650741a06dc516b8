-- What a run of a script reads, writes and leaves, by the status with which it ends.
use Rattle.std.specs.Prelude.{◌≡◌, ◌⊎◌, ℕ, ◌^◌, ◌<◌, Bool, false, List, [], ◌∷◌, ◌++◌, length, take, codes, Option}
use Rattle.std.specs.Str.{bytes_eq}
use Rattle.std.specs.Str.Lines.{lines}
use Rattle.std.specs.Io.KnownBytes.{Appends}
use Rattle.outside_io.specs.Lines.{HasNoNewline, IsWholeLines}
use Rattle.finite_maps.specs.Told.{WhereTold}
use Rattle.script_engine.specs.declared.flat_roots.FlatRoots.{FlatRoots}
use Rattle.script_engine.specs.declared.status.Status.{Status}
use Rattle.script_engine.specs.declared.status.Status.TheVariants as status
use Rattle.script_engine.specs.World.{World, start}
use Rattle.script_engine.specs.Script.{Answers, Runs}

-- the words of the command line are exactly `script`
abbrev pub is_script : List (List ℕ) → Bool
is_script (word ∷ []) = bytes_eq word (codes "script")
is_script [] = false
is_script (word ∷ next ∷ more) = false

-- Of the bytes that were read, these are the lines that have ended: by a newline, or by the end of the input, which is
-- met only where fewer than 2^30 bytes were read.
pub record HasEnded (read left : List ℕ) (done : List (List ℕ)) : Type 0 where
  pub front : List ℕ
  pub unfinished : List ℕ
  pub cut : read ≡ front ++ unfinished
  pub no_end : HasNoNewline unfinished
  pub ended : IsWholeLines front ⊎ ((left ≡ []) × (unfinished ≡ []) × (length read < 2 ^ 30))
  pub lines_are : lines front ≡ done

-- the lines that have ended are done, and the text is their replies
pub record DoesEnded (all left : List ℕ) (roots : FlatRoots) (text : List ℕ) (last : World) (read : List ℕ) : Type 0 where
  pub taken : all ≡ read ++ left
  pub done : List (List ℕ)
  pub ended : HasEnded read left done
  pub ran : Runs (start roots) done text last

-- the lines up to some line are done, and the text is their replies
pub record DoesSome (all : List ℕ) (roots : FlatRoots) (text : List ℕ) (last : World) : Type 0 where
  pub done : List (List ℕ)
  pub more : List (List ℕ)
  pub cut : lines all ≡ done ++ more
  pub ran : Runs (start roots) done text last

-- the lines up to some line are done, and the text is their replies but for an end of the last one
pub record DoesUnwritten (all : List ℕ) (roots : FlatRoots) (text : List ℕ) (last : World) : Type 0 where
  pub before : List ℕ
  pub mid : World
  pub some : DoesSome all roots before mid
  pub line : List ℕ
  pub more : List (List ℕ)
  pub next : some.more ≡ line ∷ more
  pub reply : List ℕ
  pub answered : Answers mid line reply last
  pub written : ℕ
  pub part : written < length reply
  pub text_is : text ≡ before ++ take written reply

-- How far a run comes that ends with the status: all is what the source held, left what it has left, the text what was
-- added to the sink, and last the last world.
abbrev pub Comes : Status → List ℕ → List ℕ → FlatRoots → List ℕ → World → Type 0
Comes status.Ok all left roots text last = (left ≡ []) × (length all < 2 ^ 30) × Runs (start roots) (lines all) text last
Comes status.Usage all left roots text last = (left ≡ all) × (text ≡ []) × (last ≡ start roots)
Comes status.ReadFault all left roots text last =
    (read : List ℕ) × (length read < 2 ^ 30) × DoesEnded all left roots text last read
Comes status.SourceSpent all left roots text last =
    (read : List ℕ) × (length read ≡ 2 ^ 30) × DoesEnded all left roots text last read
Comes status.WriteFault all left roots text last = DoesUnwritten all roots text last
Comes status.NoMemory all left roots text last = DoesSome all roots text last

-- Where the source tells what it holds: the run came so far, what it wrote was added to the sink, and the roots are those
-- of the last world.
abbrev pub IsRun : Status → Option (List ℕ) → Option (List ℕ) → Option (List ℕ) → Option (List ℕ) → FlatRoots → FlatRoots → Type 0
IsRun status left left' written written' roots roots' = WhereTold left left' (λ all rest.
    (text : List ℕ) × (last : World) × Appends written written' text × Comes status all rest roots text last × (roots' ≡ last.roots))
