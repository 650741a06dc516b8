use Rattle.std.proofs.Common.{ap, Some}
use Rattle.ancestor_store.proofs.KeptFrames.{kept_frames, kept_others}
use Rattle.ancestor_store.proofs.mem_keeper.MemKeeperKeeper.append.Goals as goal

pub returns-in-Ok-clause-frames : goal.returns-in-Ok-clause-frames
returns-in-Ok-clause-frames c =
    kept_frames c.keep.result c.args.self.now c.is_to_fail.new.self c.keep.new.self c.args.key c.args.frame.now c.in-Ok.bytes.items c.is_to_fail.ensures.counted c.in-Ok.ensures c.keep.ensures.ok c.keep.ensures.err

pub returns-in-Ok-clause-others : goal.returns-in-Ok-clause-others
returns-in-Ok-clause-others c = λ other apart.
    ap Some (kept_others c.keep.result c.args.self.now c.is_to_fail.new.self c.keep.new.self c.args.key c.in-Ok.bytes.items c.is_to_fail.ensures.counted c.keep.ensures.ok c.keep.ensures.err other apart)
