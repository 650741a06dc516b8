use Rattle.std.proofs.Common.{◌≡◌, take}
use Rattle.reply_text.proofs.copies.copied_items.Given as goal

-- the copies so far are those of the items so far
abbrev pub invariant-loop-item : goal.invariant-loop-item
invariant-loop-item g l = l.copies ≡ take l.item-index l.items
