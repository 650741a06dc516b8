use Rattle.std.proofs.Common.{◌≡◌, ◌++◌, ◌∷◌, take, string_bytes}
use Rattle.std.specs.List.{flat_map}
use Rattle.line_words.specs.Spelling.{written}
use Rattle.frame_text.specs.LineText.{words_of_line}
use Rattle.frame_text.specs.Payloads.{newline}
use Rattle.frame_text.proofs.write.write_lines.Given as goal

abbrev pub invariant-loop-line : goal.invariant-loop-line
invariant-loop-line l = string_bytes l.text ≡ string_bytes l.initial.text ++ flat_map (λ line. newline ∷ written (words_of_line line)) (take l.line-index l.lines)
