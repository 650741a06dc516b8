-- A plan from its parts.
use Rattle.std.proofs.Common.{◌≡◌, List, Option, ap, ◌∙◌}
use Rattle.std.specs.List.{filter, filter_map}
use Rattle.entry_tree.specs.Tree.{Names}
use Rattle.mode_rules.specs.declared.mode.Mode.{Mode}
use Rattle.mode_rules.specs.declared.halt.Halt.{Halt}
use Rattle.mode_rules.specs.declared.conflict.Conflict.{Conflict}
use Rattle.mode_rules.specs.declared.change.Change.{Change}
use Rattle.mode_rules.specs.declared.ancestor_line.AncestorLine.{AncestorLine}
use Rattle.mode_rules.specs.declared.plan.Plan.{Plan}
use Rattle.mode_rules.specs.Trees.{Trees, paths_of, is_in_folders}
use Rattle.mode_rules.specs.Plans.{plan_of, points_of, change_at, line_at, conflict_at}
use Rattle.mode_rules.specs.Halts.{halt_of}

pub plan_from_parts : (mode : Mode) (t : Trees) (paths points changed lined met : List Names) (halt : Option Halt) (changes halting : List Change) (agreed : List AncestorLine) (conflicts : List Conflict)
    → paths ≡ paths_of t → points ≡ filter (is_in_folders t.alpha t.beta paths) paths
    → changed ≡ points → changes ≡ filter_map (change_at mode t) changed
    → lined ≡ points → agreed ≡ filter_map (line_at mode t) lined
    → met ≡ points → conflicts ≡ filter_map (conflict_at mode t) met
    → halting ≡ changes → halt ≡ halt_of mode t halting
    → ◌≡◌ {A = Plan} (record { halt = halt; changes = changes; agreed = agreed; conflicts = conflicts }) (plan_of mode t)
plan_from_parts mode t paths points changed lined met halt changes halting agreed conflicts whole decided c1 c2 l1 l2 m1 m2 h1 h2 =
    let at : points ≡ points_of t = decided ∙ ap (λ (ps : List Names). filter (is_in_folders t.alpha t.beta ps) ps) whole in
    let c : changes ≡ filter_map (change_at mode t) (points_of t) = c2 ∙ ap (filter_map (change_at mode t)) (c1 ∙ at) in
    let l : agreed ≡ filter_map (line_at mode t) (points_of t) = l2 ∙ ap (filter_map (line_at mode t)) (l1 ∙ at) in
    let m : conflicts ≡ filter_map (conflict_at mode t) (points_of t) = m2 ∙ ap (filter_map (conflict_at mode t)) (m1 ∙ at) in
    let h : halt ≡ halt_of mode t (filter_map (change_at mode t) (points_of t)) = h2 ∙ ap (halt_of mode t) (h1 ∙ c) in
    λ i. record { halt = h i; changes = c i; agreed = l i; conflicts = m i }
