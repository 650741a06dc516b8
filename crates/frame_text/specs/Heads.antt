-- The first line of a session's payload: a version, a verb and numbers.
use Rattle.std.specs.Prelude.{ℕ, ◌<◌, ◌≤◌, ◌^◌, cond, nat_le, List, [], ◌∷◌, map, codes, bytes_eq, Option, Some, None}
use Rattle.std.specs.Fmt.{decimal}
use Rattle.frame_text.specs.declared.head.TheConstants.{MAX_RUN}
use Rattle.frame_text.specs.declared.head.Head.{Head}
use Rattle.frame_text.specs.declared.head.Head.TheVariants.{Agree, Reset, Whole}
use Rattle.frame_text.specs.declared.head.Verb.{Verb}
use Rattle.frame_text.specs.declared.head.Verb.TheVariants as verbs
use Rattle.frame_text.specs.declared.version.Version.{Version}
use Rattle.frame_text.specs.declared.version.Version.TheVariants.{V1, V2}

-- the first word of a payload
abbrev pub version_word : Version → List ℕ
version_word V1 = codes "v1"
version_word V2 = codes "v2"

-- the second word of a payload
abbrev pub verb_word : Verb → List ℕ
verb_word verbs.Agree = codes "agree"
verb_word verbs.Reset = codes "reset"
verb_word verbs.Whole = codes "whole"

-- a reset is written in version 1, and a whole tree in version 2
abbrev pub version_of : Head → Version
version_of (Agree version run cycle) = version
version_of (Reset number) = V1
version_of (Whole run cycle served) = V2

abbrev pub verb_of : Head → Verb
verb_of (Agree version run cycle) = verbs.Agree
verb_of (Reset number) = verbs.Reset
verb_of (Whole run cycle served) = verbs.Whole

-- the numbers behind the verb
abbrev pub numbers_of : Head → List ℕ
numbers_of (Agree version run cycle) = run ∷ cycle ∷ []
numbers_of (Reset number) = number ∷ []
numbers_of (Whole run cycle served) = run ∷ cycle ∷ served ∷ []

-- the words of a payload's first line; its numbers stand in decimal
abbrev pub words_of_head : Head → List (List ℕ)
words_of_head head = version_word (version_of head) ∷ verb_word (verb_of head) ∷ map decimal (numbers_of head)

-- the ranges of the numbers: a run is a number of 32 bits, and all others are of 64 bits; a reset's is at least 1
abbrev pub IsHead : Head → Type 0
IsHead (Agree version run cycle) = (run ≤ MAX_RUN) × (cycle < 2 ^ 64)
IsHead (Reset number) = (0 < number) × (number < 2 ^ 64)
IsHead (Whole run cycle served) = (run ≤ MAX_RUN) × (cycle < 2 ^ 64) × (served < 2 ^ 64)

-- the version that a word writes
abbrev pub version_by : List ℕ → Option Version
version_by word = cond (bytes_eq word (codes "v1")) (Some V1) (cond (bytes_eq word (codes "v2")) (Some V2) None)

-- the verb that a word writes
abbrev pub verb_by : List ℕ → Option Verb
verb_by word =
    cond (bytes_eq word (codes "agree")) (Some verbs.Agree)
    (cond (bytes_eq word (codes "reset")) (Some verbs.Reset)
    (cond (bytes_eq word (codes "whole")) (Some verbs.Whole) None))

-- the head with these numbers
abbrev pub agree_by : Version → List ℕ → Option Head
agree_by version (run ∷ cycle ∷ []) = cond (nat_le run MAX_RUN) (Some (Agree version run cycle)) None
agree_by version numbers = None

abbrev pub reset_by : List ℕ → Option Head
reset_by (number ∷ []) = cond (nat_le 1 number) (Some (Reset number)) None
reset_by numbers = None

abbrev pub whole_by : List ℕ → Option Head
whole_by (run ∷ cycle ∷ served ∷ []) = cond (nat_le run MAX_RUN) (Some (Whole run cycle served)) None
whole_by numbers = None

-- the head of a version, a verb and numbers, if there is one
abbrev pub head_by : Version → Verb → List ℕ → Option Head
head_by version verbs.Agree numbers = agree_by version numbers
head_by V1 verbs.Reset numbers = reset_by numbers
head_by V2 verbs.Reset numbers = None
head_by V1 verbs.Whole numbers = None
head_by V2 verbs.Whole numbers = whole_by numbers
