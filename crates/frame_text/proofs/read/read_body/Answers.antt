use Rattle.std.proofs.Common.{rules, ◌≡◌, false, subst, None}
use Rattle.frame_text.specs.Payloads.{ReadsLines, is_shaped, parts_from}
use Rattle.frame_text.proofs.Bodies.{body_bad, body_misshaped}
use Rattle.frame_text.proofs.read.read_body.Goals as goal

pub returns-in-None : goal.returns-in-None
returns-in-None c =
    let told = rw c.in-Ok-Some.field-0-is at c.in-Ok-Some.ensures in
    let no : is_shaped c.args.head c.in-Ok-Some.lines ≡ false = search rules in
    body_misshaped c.args.head (parts_from c.args.text.now c.args.next) c.in-Ok-Some.lines (rw (← c.version.ensures) told) no

pub returns-in-Ok-None : goal.returns-in-Ok-None
returns-in-Ok-None c =
    let told = rw c.in-Ok-None.field-0-is at c.in-Ok-None.ensures in
    body_bad c.args.head (parts_from c.args.text.now c.args.next) (subst (λ v. ReadsLines v (parts_from c.args.text.now c.args.next) None) c.version.ensures told)
