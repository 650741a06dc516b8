-- The ignore patterns of a session.
use Rattle.std.specs.Prelude.{ℕ, nat_le, List, length, IsTrue}
use Rattle.request_text.specs.declared.patterns.TheConstants.{MAX_PATTERNS}

-- at most 256 texts
abbrev pub ArePatterns : List (List ℕ) → Type 0
ArePatterns patterns = IsTrue (nat_le (length patterns) MAX_PATTERNS)
