-- What becomes of a fold by a frame.
use Rattle.std.proofs.Common.{◌≡◌, ℕ, List, [], ◌∷◌, ◌++◌, refl, sym, ap, subst, ◌∙◌, Option, Some, None}
use Rattle.std.specs.Prelude.{Result, Ok, Err, OnOk, OnErr, IsSome}
use Rattle.std.specs.Option.{option_and_then}
use Rattle.finite_maps.specs.Told.{WhereTold}
use Rattle.finite_maps.proofs.Constructors.{none_is_not_some}
use Rattle.entry_tree.specs.Tree.{ByPath}
use Rattle.entry_tree.specs.declared.atom.Atom.{Atom}
use Rattle.frame_text.specs.Folds.{Folded, FoldsTo, with_payload, with_tree}
use Rattle.frame_text.specs.Frames.{frame_bytes, payload_of}
use Rattle.frame_text.specs.Payloads.{Spells}
use Rattle.frame_text.specs.declared.frame.Frame.{Frame}
use Rattle.frame_text.specs.declared.frame.Frame.TheVariants.{Agree}
use Rattle.frame_text.specs.declared.payload.Payload.{Payload}
use Rattle.frame_text.proofs.Folding.{folds_more}
use Rattle.mode_rules.specs.AncestorFold.{with_lines}
use Rattle.mode_rules.specs.declared.ancestor_line.AncestorLine.{AncestorLine}
use Rattle.ancestor_store.specs.Committing.{with_frame}
use Rattle.ancestor_store.specs.Keeping.{Appends}
use Rattle.ancestor_store.specs.declared.keeper.KeepError.{KeepError}

-- lines that the tree takes up make a fold with that tree
pub lines_taken : (old : Folded) (lines : List AncestorLine) (new : ByPath Atom) (r : Result Unit KeepError) → IsSome (with_tree old (with_lines old.tree lines))
    → ((to : ByPath Atom) → with_lines old.tree lines ≡ Some to → OnOk r (new ≡ to)) → OnOk r (with_tree old (with_lines old.tree lines) ≡ Some (record { tree = new; served = old.served }))
lines_taken old lines new (Err error) some taken = tt
lines_taken old lines new (Ok done) some taken = by (with_lines old.tree lines) refl some
  where
    by : (o : Option (ByPath Atom)) → with_lines old.tree lines ≡ o → IsSome (with_tree old o) → with_tree old o ≡ Some (record { tree = new; served = old.served })
    by None e h = absurd (cc)
    by (Some to) e h = ap (λ (t : ByPath Atom). Some (record { tree = t; served = old.served })) (sym (taken to e))

-- the fold goes on being that of the frames
pub folds_on : (told next : Option (List (List ℕ))) (frame : Frame) (r : Result Unit KeepError) (old new : Folded) → WhereTold told next (Appends frame r) → OnOk r (with_frame old frame ≡ Some new)
    → OnErr r (new ≡ old) → ((payload : Payload) → payload_of frame ≡ Some payload → Spells (frame_bytes frame) payload) → WhereTold told next (λ before after. FoldsTo before old → FoldsTo after new)
folds_on None next frame r old new kept taken refused spelt = tt
folds_on (Some before) None frame r old new kept taken refused spelt = absurd kept
folds_on (Some before) (Some after) frame (Err error) old new kept taken refused spelt = λ h. subst (FoldsTo after) (sym refused) (subst (λ fs. FoldsTo fs old) (sym kept) h)
folds_on (Some before) (Some after) frame (Ok done) old new kept taken refused spelt = λ h.
    subst (λ fs. FoldsTo fs new) (sym kept) (by (payload_of frame) refl taken h)
  where
    by : (o : Option Payload) → payload_of frame ≡ o → option_and_then (with_payload old) o ≡ Some new → FoldsTo before old → FoldsTo (before ++ frame_bytes frame ∷ []) new
    by None e is h = absurd (none_is_not_some new is)
    by (Some payload) e is h = folds_more before old new (frame_bytes frame) payload h (spelt payload e) is

-- the same of a frame with these lines
pub agree_taken : (self old : Folded) (frame : Frame) (run cycle : ℕ) (items lines : List AncestorLine) (new : ByPath Atom) (r : Result Unit KeepError) → self ≡ old → frame ≡ Agree run cycle items → lines ≡ items
    → IsSome (with_frame self frame) → ((to : ByPath Atom) → with_lines old.tree lines ≡ Some to → OnOk r (new ≡ to)) → OnOk r (with_frame self frame ≡ Some (record { tree = new; served = old.served }))
agree_taken self old frame run cycle items lines new r same is all some taken =
    subst (λ (f : Folded). OnOk r (with_frame f frame ≡ Some (record { tree = new; served = old.served }))) (sym same)
    (subst (λ (x : Frame). OnOk r (with_frame old x ≡ Some (record { tree = new; served = old.served }))) (sym is)
    (lines_taken old items new r (subst (λ (x : Frame). IsSome (with_frame old x)) is (subst (λ (f : Folded). IsSome (with_frame f frame)) same some))
    (λ to e. taken to (ap (with_lines old.tree) all ∙ e))))
