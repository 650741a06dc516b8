use Rattle.std.proofs.Common.{rules, ◌≡◌, ◌∷◌, ◌++◌, [], length, vec_len, Err, sym, ap, subst, ◌∙◌}
use Rattle.std.specs.Prelude.{◌==◌}
use Rattle.frame_text.specs.Folds.{FoldsTo, IsBadFrame}
use Rattle.ancestor_store.specs.Keeping.{bytes_of}
use Rattle.ancestor_store.proofs.Wholes.{compacts_one, compacts_same}
use Rattle.ancestor_store.proofs.compacting.compacted.Goals as goal

pub returns-in_ok-push-in-Ok : goal.returns-in_ok-push-in-Ok
returns-in_ok-push-in-Ok c =
    let size : length c.args.frames.items ≡ vec_len c.args.frames = search rules in
    compacts_one c.args.run c.args.frames.items (bytes_of c.push.new.self.items) c.in_ok-whole-in-Ok.field-0.items c.in-Ok.fold (ap (λ n. n == 0) size ∙ sym c.is_empty.ensures ∙ c.if-is_empty.false)
    (subst (λ fs. FoldsTo (bytes_of fs) c.in-Ok.fold) c.as_slice.ensures.value c.in-Ok.ensures.value) c.in_ok-whole-in-Ok.ensures
    (ap bytes_of (c.in_ok-push-in-Ok.ensures.items ∙ ap (λ fs. fs ++ c.in_ok-whole-in-Ok.field-0 ∷ []) c.new-new.ensures.items))

pub returns-in-Err-BadFrame : goal.returns-in-Err-BadFrame
returns-in-Err-BadFrame c =
    let size : length c.args.frames.items ≡ vec_len c.args.frames = search rules in
    compacts_same c.args.run c.args.frames.items c.in-Err-BadFrame.field-0-0 (ap (λ n. n == 0) size ∙ sym c.is_empty.ensures ∙ c.if-is_empty.false)
    (subst (λ fs. IsBadFrame (bytes_of fs) c.in-Err-BadFrame.field-0-0) c.as_slice.ensures.value
    (c.folded.ensures.bad c.in-Err-BadFrame.field-0-0 (c.in-Err-BadFrame.is ∙ ap Err c.in-Err-BadFrame.field-0-is)))
