-- What is decided at a path: the first case that holds.
use Rattle.std.specs.Prelude.{Bool, ◌&&◌, ◌||◌, not, Option, Some, None, if◌then◌else◌, is_some}
use Rattle.std.specs.FinMap as trees
use Rattle.entry_tree.specs.Tree.{Names, ByPath}
use Rattle.entry_tree.specs.declared.atom.Atom.{Atom}
use Rattle.mode_rules.specs.declared.mode.Mode.{Mode}
use Rattle.mode_rules.specs.declared.mode.Mode.TheVariants.{TwoWaySafe, TwoWayResolved, OneWaySafe, OneWayReplica}
use Rattle.mode_rules.specs.declared.comparing.Comparison.{Comparison}
use Rattle.mode_rules.specs.declared.conflict.Reason.{Reason}
use Rattle.mode_rules.specs.declared.conflict.Reason.TheVariants as reasons
use Rattle.mode_rules.specs.declared.verdict.Verdict.{Verdict}
use Rattle.mode_rules.specs.declared.verdict.Verdict.TheVariants as verdicts
use Rattle.mode_rules.specs.Trees.{Trees, holds_tracked, is_blocked, same_there, same, less}

-- where the sides differ at the path, the mode decides, by whether alpha holds anything there and by how both sides stand to the ancestor
abbrev pub by_mode : Mode → Bool → Comparison → Comparison → Verdict
by_mode TwoWaySafe alpha_holds alpha beta =
    if alpha.same then verdicts.AlphaTakes
    else (if beta.same then verdicts.BetaTakes
    else (if alpha.less && beta.less then (if alpha_holds then verdicts.AlphaEmptied else verdicts.BetaEmptied)
    else (if alpha.less then verdicts.AlphaTakes
    else (if beta.less then verdicts.BetaTakes
    else verdicts.Both))))
by_mode TwoWayResolved alpha_holds alpha beta =
    if alpha.same then verdicts.AlphaTakes
    else verdicts.BetaTakes
by_mode OneWaySafe alpha_holds alpha beta =
    if beta.less then verdicts.BetaTakes
    else (if alpha_holds then verdicts.Both
    else verdicts.BetaKeeps)
by_mode OneWayReplica alpha_holds alpha beta = verdicts.BetaTakes

-- the first case that holds, by what alpha and beta hold at the path and how they stand to the ancestor
abbrev pub first_case : Mode → Option Atom → Option Atom → Comparison → Comparison → Verdict
first_case mode at_alpha at_beta alpha beta =
    if is_blocked at_alpha || is_blocked at_beta
    then (if holds_tracked at_alpha || holds_tracked at_beta then verdicts.Blocked else verdicts.Left)
    else (if not (is_some at_alpha) && not (is_some at_beta) then verdicts.Gone
    else (if same_there at_alpha at_beta then verdicts.Agreed
    else by_mode mode (is_some at_alpha) alpha beta))

-- how a side of three trees stands to their ancestor, at and below a path
abbrev pub comparison : Trees → ByPath Atom → Names → Comparison
comparison t side path = record { same = same t side path; less = less t side path }

-- what is decided at a path
abbrev pub verdict : Mode → Trees → Names → Verdict
verdict mode t path =
    first_case mode (trees.get t.alpha path) (trees.get t.beta path) (comparison t t.alpha path) (comparison t t.beta path)

-- why a decision is a conflict, if it is one
abbrev pub reason_of : Verdict → Option Reason
reason_of verdicts.Blocked = Some reasons.Blocked
reason_of verdicts.Both = Some reasons.Both
reason_of verdicts.Left = None
reason_of verdicts.Gone = None
reason_of verdicts.Agreed = None
reason_of verdicts.AlphaTakes = None
reason_of verdicts.BetaTakes = None
reason_of verdicts.AlphaEmptied = None
reason_of verdicts.BetaEmptied = None
reason_of verdicts.BetaKeeps = None
