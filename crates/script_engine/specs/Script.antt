-- The meaning of a script: a fold over its lines.
use Rattle.std.specs.Prelude.{◌≡◌, ℕ, ◌+◌, ◌-◌, ◌^◌, min, Bool, ◌||◌, nat_le, List, [], ◌∷◌, ◌++◌, length, if◌then◌else◌, Option, None, Some, MatchOption, MatchBool}
use Rattle.std.specs.FinMap as map
use Rattle.std.specs.Str.{bytes_eq}
use Rattle.script_engine.specs.declared.flat_roots.RootName.{RootName}
use Rattle.script_engine.specs.declared.session.Session.{Session}
use Rattle.script_engine.specs.declared.request.Request.{Request}
use Rattle.script_engine.specs.declared.request.Request.TheVariants.{Put, Create, Flush, Show}
use Rattle.script_engine.specs.Request.{request_of}
use Rattle.script_engine.specs.World.{World, root_named, other_root, files_of, with_files}
use Rattle.script_engine.specs.Names.{NameSet}
use Rattle.script_engine.specs.Flush.{Flushes}
use Rattle.script_engine.specs.Replies.{edit_reply, create_reply, flush_reply, show_reply, no_root_reply, no_session_reply, not_yet_reply, identifier}

-- the line is answered by this reply, and nothing changes
abbrev pub Refuses : World → List ℕ → List ℕ → World → Type 0
Refuses old refusal reply new = (reply ≡ refusal) × (new ≡ old)

-- `edit ROOT put FILE =BYTES`: the root holds these bytes at the name
abbrev pub Puts : World → List ℕ → List ℕ → List ℕ → List ℕ → World → Type 0
Puts old root name contents reply new = MatchOption (root_named root)
    (Refuses old (no_root_reply root) reply new)
    (λ at. (reply ≡ edit_reply)
    × (new ≡ record old { roots = with_files old.roots at (map.insert (files_of old.roots at) name contents) }))

-- a session that has run no cycle: its ancestor holds nothing
abbrev pub new_session : List ℕ → RootName → Session
new_session name alpha = record { name = name; alpha = alpha; ancestor = map.empty; cycles = 0 }

-- `sync create --name=NAME ALPHA BETA`, with alpha's name looked up before beta's
abbrev pub Creates : World → List ℕ → List ℕ → List ℕ → List ℕ → World → Type 0
Creates old name alpha beta reply new = MatchOption (root_named alpha)
    (Refuses old (no_root_reply alpha) reply new)
    (λ first. MatchOption (root_named beta)
    (Refuses old (no_root_reply beta) reply new)
    (λ _. MatchOption old.session
    ((reply ≡ create_reply) × (new ≡ record old { session = Some (new_session name first) }))
    (λ _. Refuses old not_yet_reply reply new)))

-- the word names the session
abbrev pub is_called : Session → List ℕ → Bool
is_called session word = bytes_eq word session.name || bytes_eq word identifier

-- the number of cycles after one more, which stays at the type's end
abbrev pub next_cycle : ℕ → ℕ
next_cycle cycles = min (cycles + 1) (2 ^ 64 - 1)

-- a cycle of the session: every name is settled, and the reply tells the conflicts
pub record Cycles (old : World) (session : Session) (reply : List ℕ) (new : World) : Type 0 where
  pub after : Session
  pub conflicts : NameSet
  pub reply_is : reply ≡ flush_reply after.cycles conflicts
  pub session_is : new.session ≡ Some after
  pub name_stays : after.name ≡ session.name
  pub alpha_stays : after.alpha ≡ session.alpha
  pub counted : after.cycles ≡ next_cycle session.cycles
  pub settled : Flushes session.ancestor (files_of old.roots session.alpha) (files_of old.roots (other_root session.alpha))
      after.ancestor (files_of new.roots session.alpha) (files_of new.roots (other_root session.alpha)) conflicts

-- `sync flush SESSION`
abbrev pub AnswersFlush : World → List ℕ → List ℕ → World → Type 0
AnswersFlush old word reply new = MatchOption old.session
    (Refuses old no_session_reply reply new)
    (λ session. MatchBool (is_called session word)
    (Cycles old session reply new)
    (Refuses old no_session_reply reply new))

-- `show ROOT`
abbrev pub Shows : World → List ℕ → List ℕ → World → Type 0
Shows old root reply new = MatchOption (root_named root)
    (Refuses old (no_root_reply root) reply new)
    (λ at. (reply ≡ show_reply root (files_of old.roots at)) × (new ≡ old))

-- From old, the request is answered by this reply, and new is the world after it.
abbrev pub AnswersRequest : World → Request → List ℕ → World → Type 0
AnswersRequest old (Put root name contents) reply new = Puts old root name contents reply new
AnswersRequest old (Create name alpha beta) reply new = Creates old name alpha beta reply new
AnswersRequest old (Flush session) reply new = AnswersFlush old session reply new
AnswersRequest old (Show root) reply new = Shows old root reply new

-- the request of a line: one of more than 65,536 bytes is none
abbrev pub line_request : List ℕ → Option Request
line_request line = if nat_le (length line) 65536 then request_of line else None

-- From old, the line is answered by this reply, and new is the world after it. An empty line has no reply.
abbrev pub Answers : World → List ℕ → List ℕ → World → Type 0
Answers old [] reply new = (reply ≡ []) × (new ≡ old)
Answers old (byte ∷ bytes) reply new = MatchOption (line_request (byte ∷ bytes))
    (Refuses old not_yet_reply reply new)
    (λ request. AnswersRequest old request reply new)

-- From old, the lines are answered one after another by this text, and new is the last world.
abbrev pub Runs : World → List (List ℕ) → List ℕ → World → Type 0
Runs old [] text new = (text ≡ []) × (new ≡ old)
Runs old (line ∷ lines) text new = (reply : List ℕ) × (mid : World) × (rest : List ℕ)
    × Answers old line reply mid × (text ≡ reply ++ rest) × Runs mid lines rest new
