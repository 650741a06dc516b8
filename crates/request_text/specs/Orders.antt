-- The words of the commands that take nothing but a session.
use Rattle.std.specs.Prelude.{ℕ, List, codes}
use Rattle.request_text.specs.declared.order.ForwardOrder.{ForwardOrder}
use Rattle.request_text.specs.declared.order.ForwardOrder.TheVariants as forward
use Rattle.request_text.specs.declared.order.SyncOrder.{SyncOrder}
use Rattle.request_text.specs.declared.order.SyncOrder.TheVariants.{Pause, Resume, Reset, Terminate}

abbrev pub sync_order_word : SyncOrder → List ℕ
sync_order_word Pause = codes "pause"
sync_order_word Resume = codes "resume"
sync_order_word Reset = codes "reset"
sync_order_word Terminate = codes "terminate"

abbrev pub forward_order_word : ForwardOrder → List ℕ
forward_order_word forward.Pause = codes "pause"
forward_order_word forward.Resume = codes "resume"
forward_order_word forward.Terminate = codes "terminate"
