-- The endpoints of forwarding sessions, and how they are spelt.
use Rattle.std.specs.Prelude.{◌≡◌, ◌⊎◌, ℕ, zero, suc, ◌≤◌, List, ◌∷◌, ◌++◌, codes, decimal}

-- a number up to 255, in decimal
abbrev pub IsOctet : List ℕ → Type 0
IsOctet word = (n : ℕ) × (n ≤ 255) × (word ≡ decimal n)

-- one such number, and so many more of them, each behind a `.` (46)
abbrev pub AreOctets : ℕ → List ℕ → Type 0
AreOctets zero word = IsOctet word
AreOctets (suc more) word = (first : List ℕ) × (rest : List ℕ) × (word ≡ first ++ 46 ∷ rest) × IsOctet first × AreOctets more rest

-- `localhost`, or four such numbers
abbrev pub IsHost : List ℕ → Type 0
IsHost word = (word ≡ codes "localhost") ⊎ AreOctets 3 word

-- a number from 1 to 65,535, in decimal
abbrev pub IsPort : List ℕ → Type 0
IsPort word = (n : ℕ) × (1 ≤ n) × (n ≤ 65535) × (word ≡ decimal n)

-- a host, `:` (58) and a port
abbrev pub IsHostAndPort : List ℕ → Type 0
IsHostAndPort word = (host : List ℕ) × (port : List ℕ) × (word ≡ host ++ 58 ∷ port) × IsHost host × IsPort port

-- `tcp:`, a host, `:` and a port
abbrev pub IsEndpoint : List ℕ → Type 0
IsEndpoint word = (scheme : List ℕ) × (rest : List ℕ) × (word ≡ scheme ++ 58 ∷ rest) × (scheme ≡ codes "tcp") × IsHostAndPort rest
