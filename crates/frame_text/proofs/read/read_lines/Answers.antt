use Rattle.std.proofs.Common.{◌≡◌, ◌∷◌, List, ap, sym, subst, ◌∙◌}
use Rattle.mode_rules.specs.declared.ancestor_line.AncestorLine.{AncestorLine}
use Rattle.frame_text.specs.Payloads.{parts_from}
use Rattle.frame_text.proofs.Bodies.{Progress, progress_bad, progress_step}
use Rattle.frame_text.proofs.read.read_lines.Goals as goal

pub returns-in-Ok-None : goal.returns-in-Ok-None
returns-in-Ok-None c =
    let left = parts_from c.args.text.now c.cut-behind.result.1 in
    let e : parts_from c.args.text.now c.loop-next.next ≡ c.cut-behind.result.0.now ∷ left = ap (parts_from c.args.text.now) c.in-Some.is ∙ c.cut-behind.ensures.parts in
    let told = rw c.in-Ok-None.field-0-is at c.in-Ok-None.ensures in
    progress_bad c.args.version (parts_from c.args.text.now c.args.from) c.loop-next.lines c.cut-behind.result.0.now left
    (subst (Progress c.args.version (parts_from c.args.text.now c.args.from) c.loop-next.lines) e c.loop-next.invariant.1) told

pub loop-next-preserved : goal.loop-next-preserved
loop-next-preserved c =
    let left = parts_from c.args.text.now c.cut-behind.result.1 in
    let e : parts_from c.args.text.now c.loop-next.next ≡ c.cut-behind.result.0.now ∷ left = ap (parts_from c.args.text.now) c.in-Some.is ∙ c.cut-behind.ensures.parts in
    let told = rw c.in-Ok-Some.field-0-is at c.in-Ok-Some.ensures in (
      c.cut-behind.ensures.within,
      subst (λ (ls : List AncestorLine). Progress c.args.version (parts_from c.args.text.now c.args.from) ls left) (sym c.in_ok-push-in-Ok-Some.ensures.ok)
          (progress_step c.args.version (parts_from c.args.text.now c.args.from) c.loop-next.lines c.cut-behind.result.0.now left c.in-Ok-Some.line
          (subst (Progress c.args.version (parts_from c.args.text.now c.args.from) c.loop-next.lines) e c.loop-next.invariant.1) told),
    )
