use Rattle.frame_text.specs.declared.frame.KeepKey.TheVariants.{Session}
use Rattle.ancestor_store.proofs.Committed.{folds_on}
use Rattle.ancestor_store.proofs.ancestor.Ancestor.commit.Goals as goal

pub returns-clause-fold : goal.returns-clause-fold
returns-clause-fold g c =
    folds_on (g.K.Keeper.told c.args.keeper.now (Session c.args.self.now.id)) (g.K.Keeper.told c.commit.new.keeper (Session c.args.self.now.id)) c.args.frame.now c.commit.result c.args.self.now.fold
    c.commit.new.self c.commit.ensures.frames c.commit.ensures.taken c.commit.ensures.refused c.can_be_spelt.ensures
