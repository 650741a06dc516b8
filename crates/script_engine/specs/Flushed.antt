-- What a flush in progress has come to.
use Rattle.std.specs.Prelude.{◌≡◌, ℕ, List, Option, None, Some}
use Rattle.std.specs.FinMap as map
use Rattle.script_engine.specs.declared.flush.Flushed.{Flushed}
use Rattle.script_engine.specs.declared.flush.Settlement.{Settlement}
use Rattle.script_engine.specs.declared.flush.Settlement.TheVariants.{Agreed, ToAlpha, ToBeta, Conflict}
use Rattle.script_engine.specs.Names.{ByName}
use Rattle.script_engine.specs.Flush.{digest_of, settlement_of, alpha_after, beta_after, ancestor_after}

-- the map with the value at the name, where there is one
abbrev pub noted : {X : Type 0} → ByName X → List ℕ → Option X → ByName X
noted names name None = names
noted names name (Some value) = map.insert names name value

-- what the set of conflicts gets at a name that is decided so
abbrev pub conflict_mark : Settlement → Option (Unit {0})
conflict_mark Conflict = Some tt
conflict_mark Agreed = None
conflict_mark ToAlpha = None
conflict_mark ToBeta = None

-- what the rule leaves at the name is noted, and whether the name is a conflict
pub record SettlesName (name : List ℕ) (ancestor alpha beta : Option (List ℕ)) (old new : Flushed) : Type 0 where
  pub alpha_noted : new.alpha ≡ noted old.alpha name (alpha_after (settlement_of ancestor alpha beta) alpha beta)
  pub beta_noted : new.beta ≡ noted old.beta name (beta_after (settlement_of ancestor alpha beta) alpha beta)
  pub ancestor_noted : new.ancestor
      ≡ noted old.ancestor name (ancestor_after (settlement_of ancestor alpha beta) ancestor (digest_of alpha) (digest_of beta))
  pub conflicts_noted : new.conflicts ≡ noted old.conflicts name (conflict_mark (settlement_of ancestor alpha beta))
