-- What one answer more leaves as it was held.
use Rattle.std.proofs.Common.{◌≡◌, inl, inr, ℕ, Bool, true, false, List, refl, sym, ap, ◌∙◌, Option, Some, None}
use Rattle.std.specs.Prelude.{unwrap_or}
use Rattle.std.specs.Ordering.{eq_by_cmp}
use Rattle.sync_path.specs.Path.{path_cmp, parent_of}
use Rattle.entry_tree.specs.Tree.{Names, ByPath}
use Rattle.entry_tree.specs.declared.entry.Entry.{Entry}
use Rattle.entry_tree.specs.declared.entry.Entry.TheVariants as entry
use Rattle.entry_tree.specs.declared.entry.Stamp.{Stamp}
use Rattle.entry_tree.proofs.Trees.{tie_is, root_or_child, parent-child}
use Rattle.ignore_glob.specs.Grammar.{Meaning}
use Rattle.roots_api.specs.declared.answer.Answer.{Answer}
use Rattle.roots_api.specs.declared.op.Op.TheVariants.{List as OpList, Fetch}
use Rattle.scan_cache.specs.declared.line.Line.{Line}
use Rattle.scan_laws.specs.Meeting.{spared_by}
use Rattle.scan_laws.specs.Seen.{Heard, rows_of}
use Rattle.scan_laws.proofs.Heard.{Quiet, held_same, folder_listed}
use Rattle.scan_laws.proofs.Needs.{NeedsNames}
use Rattle.scan_laws.proofs.Points.{Bytes, with_heard, listed_in, held_in, listed-other, listed-here, listed-fetch}
use Rattle.scan_laws.proofs.Seeing.{itself}

module _ (rules : List Meaning) (size : ℕ) where
  -- a path at which something is held wasn't the child of a folder that wasn't listed
  pub held_elsewhere : (hs : List (Heard Bytes)) (quiet : Quiet rules size hs) (q f : Names) (e : Entry) → held_in rules size hs q ≡ Some e → parent_of q ≡ Some f → listed_in rules size hs f ≡ None → ⊥
  held_elsewhere hs quiet q f e held up none =
      elim (root_or_child q) [
        | inl is_root ↦ (let clash : None ≡ Some f = ap parent_of (sym is_root) ∙ up in absurd (cc))
        | inr child ↦
            (let folder : child.0 ≡ f = ap (λ (o : Option Names). unwrap_or o child.0) (sym (parent-child child.0 child.1) ∙ ap parent_of (sym child.2) ∙ up) in
            folder_listed rules size hs quiet child.0 child.1 e (ap (held_in rules size hs) (sym child.2) ∙ held) (ap (listed_in rules size hs) folder ∙ none))
      ]

  pub unlisted_child : (hs : List (Heard Bytes)) (quiet : Quiet rules size hs) (q f : Names) → parent_of q ≡ Some f → listed_in rules size hs f ≡ None → listed_in rules size hs q ≡ None
  unlisted_child hs quiet q f up none =
      elim (root_or_child q) [
        | inl is_root ↦ (let clash : None ≡ Some f = ap parent_of (sym is_root) ∙ up in absurd (cc))
        | inr child ↦
            (let folder : child.0 ≡ f = ap (λ (o : Option Names). unwrap_or o child.0) (sym (parent-child child.0 child.1) ∙ ap parent_of (sym child.2) ∙ up) in
            ap (listed_in rules size hs) child.2 ∙ quiet.unlisted child.0 child.1 (ap (listed_in rules size hs) folder ∙ none))
      ]

  -- the answer to a Fetch leaves what is held
  pub held_as_before : (hs : List (Heard Bytes)) (p : Names) (answer : Answer Bytes) (stamp : Stamp) (offset : ℕ) (q : Names)
      → held_in rules size (with_heard hs (Fetch p stamp offset) answer) q ≡ held_in rules size hs q
  held_as_before hs p answer stamp offset q =
      held_same rules size hs (with_heard hs (Fetch p stamp offset) answer) q (λ f up. ap rows_of (listed-fetch rules size hs p answer stamp offset f)) (listed-fetch rules size hs p answer stamp offset q)

-- ---- the answer to a List

module _ (rules : List Meaning) (size : ℕ) (before : ByPath Line) (hs : List (Heard Bytes)) (quiet : Quiet rules size hs) (p : Names) (answer : Answer Bytes)
    (needs : NeedsNames rules size (spared_by before) p (listed_in rules size hs p) (held_in rules size hs p)) where
  abbrev listed_too : List (Heard Bytes)
  listed_too = with_heard hs (OpList p) answer

  elsewhere : (q : Names) → eq_by_cmp path_cmp q p ≡ false → listed_in rules size listed_too q ≡ listed_in rules size hs q
  elsewhere q apart = listed-other rules size hs p answer q apart

  pub listed_here : listed_in rules size listed_too p ≡ Some answer
  listed_here = listed-here rules size hs p answer needs.unlisted (itself p)

  -- the rows of a path's folder are as before, unless the path is one of these children
  pub rows_before : (q : Names) → (parent_of q ≡ Some p → ⊥) → (f : Names) → parent_of q ≡ Some f → rows_of (listed_in rules size listed_too f) ≡ rows_of (listed_in rules size hs f)
  rows_before q no_child f up =
      elim (eq_by_cmp path_cmp f p) as (λ c. eq_by_cmp path_cmp f p ≡ c → rows_of (listed_in rules size listed_too f) ≡ rows_of (listed_in rules size hs f)) [
        | true ↦ λ e. absurd (no_child (up ∙ ap (λ (x : Names). Some x) (tie_is f p e)))
        | false ↦ λ e. ap rows_of (elsewhere f e)
      ] refl

  not_file : (q : Names) (stamp : Stamp) (exec : Bool) → held_in rules size hs q ≡ Some (entry.File stamp exec) → eq_by_cmp path_cmp q p ≡ false
  not_file q stamp exec held =
      elim (eq_by_cmp path_cmp q p) as (λ c. eq_by_cmp path_cmp q p ≡ c → c ≡ false) [
        | true ↦ λ e. absurd (let clash : Some (entry.File stamp exec) ≡ Some entry.Dir = sym held ∙ ap (held_in rules size hs) (tie_is q p e) ∙ needs.held_is in cc)
        | false ↦ λ e. refl
      ] refl

  pub file_stays_held : (q : Names) (stamp : Stamp) (exec : Bool) → held_in rules size hs q ≡ Some (entry.File stamp exec) → held_in rules size listed_too q ≡ held_in rules size hs q
  file_stays_held q stamp exec held =
      held_same rules size hs listed_too q (rows_before q (λ up. held_elsewhere rules size hs quiet q p (entry.File stamp exec) held up needs.unlisted)) (elsewhere q (not_file q stamp exec held))
