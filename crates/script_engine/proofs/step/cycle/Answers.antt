use Rattle.std.proofs.Common.{◌≡◌, ◌∙◌, ap, refl}
use Rattle.script_engine.specs.World.{files_of, other_root}
use Rattle.script_engine.proofs.RootFiles.{files_of_first, files_of_second}
use Rattle.script_engine.proofs.step.cycle.Goals as goal

pub returns-clause-answered : goal.returns-clause-answered
returns-clause-answered c =
    let flushed = rw (c.files-alpha.ensures, c.files-beta.ensures, c.other.ensures) at c.in_ok-flushed.ensures in
    let alpha_is : files_of c.replace.new.self c.args.session.now.alpha ≡ c.in_ok-flushed.flushed.alpha =
    ap (λ roots. files_of roots c.args.session.now.alpha) c.replace.ensures ∙
    files_of_first c.args.roots.now c.args.session.now.alpha c.in_ok-flushed.flushed.alpha c.in_ok-flushed.flushed.beta in
    let beta_is : files_of c.replace.new.self (other_root c.args.session.now.alpha) ≡ c.in_ok-flushed.flushed.beta =
    ap (λ roots. files_of roots (other_root c.args.session.now.alpha)) c.replace.ensures ∙
    files_of_second c.args.roots.now c.args.session.now.alpha c.in_ok-flushed.flushed.alpha c.in_ok-flushed.flushed.beta in
    record {
      after = record {
        name = c.args.session.now.name;
        alpha = c.args.session.now.alpha;
        ancestor = c.in_ok-flushed.flushed.ancestor;
        cycles = c.saturating_add-cycles.result;
      };
      reply_is = c.in_ok-reply.ensures;
      session_is = refl;
      name_stays = refl;
      alpha_stays = refl;
      counted = c.saturating_add-cycles.ensures;
      settled = rw (alpha_is, beta_is) flushed;
      conflicts = c.in_ok-flushed.flushed.conflicts;
    }
