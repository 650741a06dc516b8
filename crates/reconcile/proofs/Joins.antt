-- A turn of a merge, and its end.
use Rattle.std.proofs.Common.{◌≡◌, ℕ, ◌+◌, List, [], ◌∷◌, ◌++◌, take, drop, sym, ap, ◌∙◌}
use Rattle.std.proofs.lemmas.List.{append_assoc, drop-drop}
use Rattle.entry_tree.specs.Tree.{Names}
use Rattle.entry_tree.specs.declared.atom.Atom.{Atom}
use Rattle.reconcile.specs.declared.part.Part.{Part}
use Rattle.reconcile.specs.Rows.{PathThree, with_part, front_len, held_at, met_len, joined}

-- an entry is added with the rows before it, and what is left gives the rest
pub joined_step : (part : Part) (rows all new : List PathThree) (at next : ℕ) (path : Names) (atom : Atom) (left rest : List (Names × Atom)) (whole : List PathThree)
    → all ++ joined part (drop at rows) left ≡ whole → left ≡ (path, atom) ∷ rest
    → new ≡ all ++ take (front_len path (drop at rows)) (drop at rows) ++ (path, with_part part (held_at path (drop (front_len path (drop at rows)) (drop at rows))) atom) ∷ []
    → next ≡ at + front_len path (drop at rows) + met_len path (drop (front_len path (drop at rows)) (drop at rows))
    → new ++ joined part (drop next rows) rest ≡ whole
unfolding joined
joined_step part rows all new at next path atom left rest whole e is pushed place =
    let back = drop at rows in
    let n = front_len path back in
    let behind = drop n back in
    let row : PathThree = (path, with_part part (held_at path behind) atom) in
    let m = met_len path behind in
    let there : drop next rows ≡ drop m behind =
    ap (λ k. drop k rows) place ∙ sym (drop-drop m (at + n) rows) ∙ ap (drop m) (sym (drop-drop n at rows)) in
    (λ i. pushed i ++ joined part (there i) rest)
    ∙ append_assoc (all ++ take n back) (row ∷ []) (joined part (drop m behind) rest)
    ∙ append_assoc all (take n back) (row ∷ joined part (drop m behind) rest)
    ∙ sym (ap (λ (l : List (Names × Atom)). all ++ joined part back l) is)
    ∙ e

-- where no entries are left, the rows that are left are the rest
pub joined_end : (part : Part) (rows all new rest : List PathThree) (at : ℕ) (left : List (Names × Atom)) (whole : List PathThree)
    → all ++ joined part (drop at rows) left ≡ whole → left ≡ [] → rest ≡ drop at rows → new ≡ all ++ rest → new ≡ whole
unfolding joined
joined_end part rows all new rest at left whole e none are pushed =
    pushed ∙ ap (λ l. all ++ l) are ∙ sym (ap (λ (l : List (Names × Atom)). all ++ joined part (drop at rows) l) none) ∙ e
