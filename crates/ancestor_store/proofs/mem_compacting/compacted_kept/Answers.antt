use Rattle.std.proofs.Common.{rules, ◌≡◌, ◌∷◌, ◌++◌, ap, subst, ◌∙◌}
use Rattle.frame_text.specs.declared.frame.KeepKey.TheVariants.{Table}
use Rattle.ancestor_store.specs.Keeping.{bytes_of}
use Rattle.ancestor_store.specs.MemCompacting.{InCourse, kept_as}
use Rattle.ancestor_store.proofs.MemCompacted.{course_start, course_step}
use Rattle.ancestor_store.proofs.mem_compacting.compacted_kept.Goals as goal

pub loop-one-init : goal.loop-one-init
loop-one-init c =
    course_start c.run_of-opened.result c.args.kept.now c.keep_all.new.kept.items (bytes_of c.in_ok-table.table.items) c.in_ok-table.ensures
    (c.in_ok-keep_all.ensures ∙ ap (λ ks. ks ++ kept_as Table (bytes_of c.in_ok-table.table.items)) c.new-new.ensures.items)

pub loop-one-preserved : goal.loop-one-preserved
loop-one-preserved c =
    let parts : c.loop-one.rest.now ≡ c.in-Some.one.now ∷ c.in-Some.behind.now = search rules in
    course_step c.run_of-opened.result c.args.kept.now c.loop-one.new.items c.compact_key.new.new.items c.in-Some.behind.now c.in-Some.one.now
    (subst (InCourse c.run_of-opened.result c.args.kept.now c.loop-one.new.items) parts c.loop-one.invariant) c.in_ok-compact_key.ensures
