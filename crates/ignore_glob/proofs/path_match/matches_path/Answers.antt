use Rattle.std.proofs.Common.{ℕ, List, [], ◌∷◌, ◌++◌, length, take, sym, ap, ◌∙◌, append_assoc, arith}
use Rattle.std.proofs.lemmas.List.{length-set}
use Rattle.ignore_glob.specs.Stretch.{names_of}
use Rattle.ignore_glob.proofs.Names.{names_kept}
use Rattle.ignore_glob.proofs.path_match.matches_path.Goals as goal

pub loop-name-preserved : goal.loop-name-preserved
loop-name-preserved c =
    let inv = c.loop-name.invariant in
    let step = c.in-Some.ensures.steps in
    record {
      names_are =
          ap (λ (l : List (List ℕ)). l ++ c.next.new.self) (names_kept c.loop-name.names c.loop-name.count c.in-Some.name (omega (arith, inv.room, inv.slots, ap length step)))
          ∙ append_assoc (names_of (take c.loop-name.count c.loop-name.names)) (c.in-Some.name.now ∷ []) c.next.new.self
          ∙ ap (λ (l : List (List ℕ)). names_of (take c.loop-name.count c.loop-name.names) ++ l) (sym step)
          ∙ inv.names_are;
      room = omega (arith, inv.room, ap length step);
      slots = length-set c.loop-name.names c.loop-name.count c.in-Some.name ∙ inv.slots;
    }
