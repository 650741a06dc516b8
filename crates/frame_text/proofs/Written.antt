-- A payload as it is written piece by piece.
use Rattle.std.proofs.Common.{◌≡◌, ℕ, ◌<◌, ◌^◌, List, [], ◌∷◌, ◌++◌, map, codes, sym, ap, ap₂, ◌∙◌}
use Rattle.std.specs.Fmt.{decimal}
use Rattle.std.specs.List.{flat_map, join_with_byte}
use Rattle.std.proofs.lemmas.List.{append-nil}
use Rattle.line_words.specs.Spelling.{escaped, written}
use Rattle.line_words.proofs.ReadBack.{decimal_stands}
use Rattle.frame_text.specs.Heads.{version_word, words_of_head}
use Rattle.frame_text.specs.declared.head.Head.TheVariants.{Agree, Reset, Whole}
use Rattle.frame_text.specs.declared.version.Version.{Version}
use Rattle.frame_text.specs.declared.version.Version.TheVariants.{V1, V2}
use Rattle.frame_text.specs.LineText.{words_of_line}
use Rattle.frame_text.specs.Payloads.{newline}
use Rattle.mode_rules.specs.declared.ancestor_line.AncestorLine.{AncestorLine}

agree_text : (version : Version) (run cycle : ℕ) → run < 2 ^ 64 → cycle < 2 ^ 64
    → written (words_of_head (Agree version run cycle)) ≡ version_word version ++ 32 ∷ 97 ∷ 103 ∷ 114 ∷ 101 ∷ 101 ∷ 32 ∷ (decimal run ++ 32 ∷ decimal cycle)
agree_text V1 run cycle h k = ap₂ (λ r c. version_word V1 ++ 32 ∷ 97 ∷ 103 ∷ 114 ∷ 101 ∷ 101 ∷ 32 ∷ (r ++ 32 ∷ c)) (decimal_stands run h) (decimal_stands cycle k)
agree_text V2 run cycle h k = ap₂ (λ r c. version_word V2 ++ 32 ∷ 97 ∷ 103 ∷ 114 ∷ 101 ∷ 101 ∷ 32 ∷ (r ++ 32 ∷ c)) (decimal_stands run h) (decimal_stands cycle k)

pub agree_written : (version : Version) (run cycle : ℕ) → run < 2 ^ 64 → cycle < 2 ^ 64 → (word text : List ℕ) → word ≡ version_word version
    → text ≡ word ++ 32 ∷ 97 ∷ 103 ∷ 114 ∷ 101 ∷ 101 ∷ 32 ∷ (decimal run ++ 32 ∷ decimal cycle) → text ≡ written (words_of_head (Agree version run cycle))
agree_written version run cycle h k word text w t =
    t ∙ ap (λ v. v ++ 32 ∷ 97 ∷ 103 ∷ 114 ∷ 101 ∷ 101 ∷ 32 ∷ (decimal run ++ 32 ∷ decimal cycle)) w ∙ sym (agree_text version run cycle h k)

pub reset_written : (number : ℕ) → number < 2 ^ 64 → (text : List ℕ) → text ≡ codes "v1 reset " ++ decimal number → text ≡ written (words_of_head (Reset number))
reset_written number h text t = t ∙ ap (λ n. codes "v1 reset " ++ n) (sym (decimal_stands number h))

pub whole_written : (run cycle served : ℕ) → run < 2 ^ 64 → cycle < 2 ^ 64 → served < 2 ^ 64 → (text : List ℕ)
    → text ≡ codes "v2 whole " ++ (decimal run ++ 32 ∷ (decimal cycle ++ 32 ∷ decimal served)) → text ≡ written (words_of_head (Whole run cycle served))
whole_written run cycle served h k l text t =
    t ∙ ap (λ r. codes "v2 whole " ++ (r ++ 32 ∷ (decimal cycle ++ 32 ∷ decimal served))) (sym (decimal_stands run h))
    ∙ ap₂ (λ c s. codes "v2 whole " ++ (escaped (decimal run) ++ 32 ∷ (c ++ 32 ∷ s))) (sym (decimal_stands cycle k)) (sym (decimal_stands served l))

-- lines behind the first one, each behind an LF
pub joined : (words : List (List ℕ)) (lines : List AncestorLine) → join_with_byte newline (map written (words ∷ map words_of_line lines)) ≡ written words ++ flat_map (λ line. newline ∷ written (words_of_line line)) lines
joined words [] = sym (append-nil (written words))
joined words (line ∷ lines) = ap (λ bs. written words ++ newline ∷ bs) (joined (words_of_line line) lines)

pub all_written : (words : List (List ℕ)) (lines : List AncestorLine) (head text : List ℕ) → head ≡ written words → text ≡ head ++ flat_map (λ line. newline ∷ written (words_of_line line)) lines
    → text ≡ join_with_byte newline (map written (words ∷ map words_of_line lines))
all_written words lines head text h t = t ∙ ap (λ bs. bs ++ flat_map (λ line. newline ∷ written (words_of_line line)) lines) h ∙ sym (joined words lines)
