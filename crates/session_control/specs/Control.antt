-- What a session is to do next.
use Rattle.std.specs.Prelude.{ℕ, Bool, true, false, ◌||◌, ◌&&◌, nat_lt, is_none, Option, Some, None, if◌then◌else◌}
use Rattle.session_control.specs.declared.control.Next.{Next}
use Rattle.session_control.specs.declared.control.Next.TheVariants.{Rest, Begin, Go, Stop, Retire}
use Rattle.session_control.specs.declared.standing.Standing.{Standing}
use Rattle.session_control.specs.declared.standing.Wish.{Wish}
use Rattle.session_control.specs.declared.standing.Wish.TheVariants.{Run, Paused}

-- whether a session is to run
abbrev pub is_run : Wish → Bool
is_run Run = true
is_run Paused = false

-- whether it is to pause
abbrev pub is_paused : Wish → Bool
is_paused Run = false
is_paused Paused = true

-- In a course a session stops that is paused, or that was reset since; else it goes on.
abbrev pub in_course : Standing → ℕ → Next
in_course s served = if is_paused s.wish || nat_lt served s.resets then Stop else Go

-- Outside a course a session begins a cycle that is to run, isn't halted, and has a cycle wanted of it that it hasn't finished; else it rests.
abbrev pub at_rest : Standing → Next
at_rest s = if is_run s.wish && (is_none s.halted && nat_lt s.finished s.wanted) then Begin else Rest

abbrev pub standing_next : Standing → ℕ → Bool → Next
standing_next s served true = in_course s served
standing_next s served false = at_rest s

-- a session that is gone stops its course, and then retires
abbrev pub gone_next : Bool → Next
gone_next true = Stop
gone_next false = Retire

-- What a session is to do next, by how it stands, if it still does; by the reset that was served last; and by whether a cycle is in course.
abbrev pub next_of : Option Standing → ℕ → Bool → Next
next_of None served course = gone_next course
next_of (Some s) served course = standing_next s served course
