-- What a root shows, path by path.
use Rattle.std.proofs.Common.{◌≡◌, ℕ, true, false, cond, List, [], ◌∷◌, ◌++◌, refl, sym, ap, ◌∙◌, Option, Some, None}
use Rattle.std.proofs.Common.{map as list_map}
use Rattle.std.specs.FinMap as map
use Rattle.std.specs.Prelude.{is_some}
use Rattle.std.specs.Option.{option_map}
use Rattle.std.specs.Ordering.{is_eq}
use Rattle.sync_path.specs.Path.{path_cmp}
use Rattle.sync_path.specs.PathOrder.{path_cmp_total}
use Rattle.entry_tree.specs.Atom as atom
use Rattle.entry_tree.specs.Entry.{is_dir}
use Rattle.entry_tree.specs.Tree.{Names, IsClosed, holds_folder}
use Rattle.entry_tree.specs.declared.atom.Atom.{Atom}
use Rattle.entry_tree.specs.declared.entry.Entry.{Entry}
use Rattle.entry_tree.specs.declared.entry.Entry.TheVariants.{Dir, File, Link, Other}
use Rattle.roots_api.specs.Logs.{IsLegal, state_of}
use Rattle.roots_api.specs.States.{RootState, new_root}
use Rattle.roots_api.specs.Views.{atom_of, view_of}
use Rattle.roots_api.specs.declared.event.Event.{Event}
use Rattle.roots_api.proofs.Folds.{while_legal}
use Rattle.roots_api.proofs.TreesKept.{IsShut, event_shut, new_shut}

pub same_kind : (ledger : List (List ℕ)) (e : Entry) → atom.is_dir (atom_of ledger e) ≡ is_dir e
same_kind ledger Dir = refl
same_kind ledger (File stamp exec) = refl
same_kind ledger (Link text) = refl
same_kind ledger Other = refl

-- what a list of entries has at a path, once each was shown
find_shown : {X Y : Type 0} (f : X → Y) (q : Names) (es : List (Names × X)) → map.find path_cmp q (list_map (λ e. (e.0, f e.1)) es) ≡ option_map f (map.find path_cmp q es)
find_shown f q [] = refl
find_shown f q (e ∷ es) =
    elim (is_eq (path_cmp q e.0)) as (λ b. cond b (Some (f e.1)) (map.find path_cmp q (list_map (λ d. (d.0, f d.1)) es)) ≡ option_map f (cond b (Some e.1) (map.find path_cmp q es))) [
      | true ↦ refl
      | false ↦ find_shown f q es
    ]

pub get-view : (s : RootState) (q : Names) → map.get (view_of s) q ≡ option_map (atom_of s.ledger) (map.get s.tree q)
get-view s q =
    map.get-from_entries path_cmp_total (list_map (λ e. (e.0, atom_of s.ledger e.1)) (map.entries s.tree)) q
    ∙ find_shown (atom_of s.ledger) q (map.entries s.tree)
    ∙ ap (option_map (atom_of s.ledger)) (sym (map.get-entries s.tree q))

some_shown : (ledger : List (List ℕ)) (o : Option Entry) → is_some (option_map (atom_of ledger) o) ≡ is_some o
some_shown ledger None = refl
some_shown ledger (Some e) = refl

folder_shown : (ledger : List (List ℕ)) (o : Option Entry) → holds_folder atom.is_dir (option_map (atom_of ledger) o) ≡ holds_folder is_dir o
folder_shown ledger None = refl
folder_shown ledger (Some e) = same_kind ledger e

view_closed : (s : RootState) → IsShut s.tree → IsClosed atom.is_dir (view_of s)
view_closed s closed path name h =
    let child : Names = path ++ name ∷ [] in
    let there : is_some (map.get s.tree child) ≡ true = sym (some_shown s.ledger (map.get s.tree child)) ∙ ap (λ (o : Option Atom). is_some o) (sym (get-view s child)) ∙ h in
    ap (λ (o : Option Atom). holds_folder atom.is_dir o) (get-view s path) ∙ folder_shown s.ledger (map.get s.tree path) ∙ closed path name there

pub views_closed : (log : List Event) → IsLegal log → IsClosed atom.is_dir (view_of (state_of log))
views_closed log legal = view_closed (state_of log) (while_legal (λ s. IsShut s.tree) event_shut new_root log legal new_shut)
