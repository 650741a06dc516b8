use Rattle.std.proofs.Common.{Some, ◌≡◌, ◌↔◌, subst, Option}
use Rattle.request_text.specs.Places.{IsSettingOf}
use Rattle.request_text.specs.declared.setting.Setting.{Setting}
use Rattle.request_text.proofs.WordKinds.{label_none, label_read}
use Rattle.request_text.proofs.kinds.next_label.Goals as goal

pub returns-in-Some : goal.returns-in-Some
returns-in-Some c =
    let h : (s : Setting) → (Some c.in-Some.setting ≡ Some s) ↔ IsSettingOf c.args.word.now s =
    subst (λ (f : Option Setting). (s : Setting) → (f ≡ Some s) ↔ IsSettingOf c.args.word.now s) c.in-Some.is c.in_ok-setting.ensures in
    rw c.label_in.ensures (label_read c.args.word.now c.in-Some.setting h)

pub returns-in-None : goal.returns-in-None
returns-in-None c =
    label_none c.args.word.now (subst (λ (f : Option Setting). (s : Setting) → (f ≡ Some s) ↔ IsSettingOf c.args.word.now s) c.in-None.is c.in_ok-setting.ensures)
