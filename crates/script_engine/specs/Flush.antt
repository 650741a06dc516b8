-- What a flush does: each name is decided by what the ancestor and the two sides hold there.
use Rattle.std.specs.Prelude.{◌≡◌, ℕ, Bool, true, false, List, if◌then◌else◌, Option, None, Some}
use Rattle.std.specs.Option.{option_map}
use Rattle.std.specs.FinMap as map
use Rattle.std.specs.Str.{bytes_eq}
use Rattle.sha2.specs.Sha256.{sha256}
use Rattle.script_engine.specs.declared.flush.Settlement.{Settlement}
use Rattle.script_engine.specs.declared.flush.Settlement.TheVariants.{Agreed, ToAlpha, ToBeta, Conflict}
use Rattle.script_engine.specs.Names.{ByName, NameSet}
use Rattle.script_engine.specs.World.{Files}

-- two digests are the same, or there is none on either side
abbrev pub is_same : Option (List ℕ) → Option (List ℕ) → Bool
is_same None None = true
is_same None (Some y) = false
is_same (Some x) None = false
is_same (Some x) (Some y) = bytes_eq x y

-- the rule: with what the ancestor, alpha and beta hold at a name, the first line that holds
abbrev pub settle : Option (List ℕ) → Option (List ℕ) → Option (List ℕ) → Settlement
settle ancestor alpha beta =
    if is_same alpha beta then Agreed
    else (if is_same alpha ancestor then ToAlpha
    else (if is_same beta ancestor then ToBeta
    else Conflict))

-- the digest of a file, where there is one
abbrev pub digest_of : Option (List ℕ) → Option (List ℕ)
digest_of file = option_map sha256 file

-- the digest of the file that a root holds at a name
abbrev pub digest_at : Files → List ℕ → Option (List ℕ)
digest_at files name = digest_of (map.get files name)

-- how a name is decided at which the sides hold these files
abbrev pub settlement_of : Option (List ℕ) → Option (List ℕ) → Option (List ℕ) → Settlement
settlement_of ancestor alpha beta = settle ancestor (digest_of alpha) (digest_of beta)

-- how a name is decided
abbrev pub settlement_at : ByName (List ℕ) → Files → Files → List ℕ → Settlement
settlement_at ancestor alpha beta name =
    settlement_of (map.get ancestor name) (map.get alpha name) (map.get beta name)

-- alpha takes beta's file where it alone is as the ancestor has it
abbrev pub alpha_after : {X : Type 0} → Settlement → X → X → X
alpha_after ToAlpha alpha beta = beta
alpha_after Agreed alpha beta = alpha
alpha_after ToBeta alpha beta = alpha
alpha_after Conflict alpha beta = alpha

-- beta takes alpha's file where it alone is as the ancestor has it
abbrev pub beta_after : {X : Type 0} → Settlement → X → X → X
beta_after ToBeta alpha beta = alpha
beta_after Agreed alpha beta = beta
beta_after ToAlpha alpha beta = beta
beta_after Conflict alpha beta = beta

-- the ancestor takes what both sides hold then
abbrev pub ancestor_after : {X : Type 0} → Settlement → X → X → X → X
ancestor_after Agreed ancestor alpha beta = alpha
ancestor_after ToAlpha ancestor alpha beta = beta
ancestor_after ToBeta ancestor alpha beta = alpha
ancestor_after Conflict ancestor alpha beta = ancestor

-- whether a name that is decided so is a conflict
abbrev pub is_conflict : Settlement → Bool
is_conflict Conflict = true
is_conflict Agreed = false
is_conflict ToAlpha = false
is_conflict ToBeta = false

-- at every name the sides and the ancestor hold what the rule leaves there, and the conflicts are the names that it calls so
pub record Flushes (ancestor : ByName (List ℕ)) (alpha beta : Files) (ancestor' : ByName (List ℕ)) (alpha' beta' : Files) (conflicts : NameSet) : Type 0 where
  pub at_alpha : (name : List ℕ) → map.get alpha' name
      ≡ alpha_after (settlement_at ancestor alpha beta name) (map.get alpha name) (map.get beta name)
  pub at_beta : (name : List ℕ) → map.get beta' name
      ≡ beta_after (settlement_at ancestor alpha beta name) (map.get alpha name) (map.get beta name)
  pub at_ancestor : (name : List ℕ) → map.get ancestor' name
      ≡ ancestor_after (settlement_at ancestor alpha beta name) (map.get ancestor name) (digest_at alpha name) (digest_at beta name)
  pub at_conflicts : (name : List ℕ) → map.contains_key conflicts name ≡ is_conflict (settlement_at ancestor alpha beta name)
