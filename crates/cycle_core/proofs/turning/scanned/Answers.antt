use Rattle.std.proofs.Common.{sym, ap, ◌∙◌}
use Rattle.cycle_core.specs.Looks.{Looking}
use Rattle.cycle_core.proofs.Taking.{scan_alpha, scan_beta}
use Rattle.cycle_core.proofs.turning.scanned.Goals as goal

pub returns-in-Alpha : goal.returns-in-Alpha
returns-in-Alpha c =
    scan_alpha c.args.setup.now c.args.caches.now c.args.scanning c.args.answer _ _ (sym (ap (λ (l : Looking). l.side) c.scanning.view_is) ∙ c.in-Alpha.is) c.scanned_on.ensures

pub returns-in-Beta : goal.returns-in-Beta
returns-in-Beta c =
    scan_beta c.args.setup.now c.args.caches.now c.args.scanning c.args.answer _ _ (sym (ap (λ (l : Looking). l.side) c.scanning.view_is) ∙ c.in-Beta.is) c.scanned_on-in-Beta.ensures
