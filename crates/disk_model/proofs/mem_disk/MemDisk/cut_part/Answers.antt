use Rattle.std.proofs.Common.{ℕ, List, take, ap, sym, ◌∙◌}
use Rattle.disk_model.proofs.Replaying.{content_after-more, history_of-more}
use Rattle.disk_model.specs.Content.{Content}
use Rattle.disk_model.proofs.mem_disk.MemDisk.cut_part.Goals as goal

pub invariant_of-self-2 : goal.invariant_of-self-2
invariant_of-self-2 c = record {
  current = c.cut_to.ensures ∙ ap (λ (l : List ℕ). take c.args.length l) c.args.self.now.current
      ∙ ap (λ (now : Content). now.bytes) (sym (content_after-more _ _ _ _ c.in_ok-push.ensures.items));
}

pub returns-clause-ok : goal.returns-clause-ok
returns-clause-ok c = history_of-more _ _ _ _ c.in_ok-push.ensures.items
