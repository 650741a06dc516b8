use Rattle.std.proofs.Common.{rules, ◌≡◌, subst}
use Rattle.ancestor_store.specs.Counting.{IsCount}
use Rattle.ancestor_store.specs.MemCompacting.{sessions_of}
use Rattle.ancestor_store.proofs.Counted.{counted, told_by}
use Rattle.ancestor_store.proofs.mem_keeper.MemKeeperArchive.kept.Goals as goal

pub returns : goal.returns
returns c = λ told.
    let same : sessions_of c.args.self.now.kept ≡ c.sessions_of.result = search rules in
    subst (IsCount (told_by c.args.self.now.kept)) same (counted c.args.self.now.kept)
