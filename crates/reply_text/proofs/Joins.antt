-- Texts that are written one behind the other.
use Rattle.std.proofs.Common.{◌≡◌, ℕ, List, [], ◌∷◌, ◌++◌, ap, sym, ◌∙◌, append_assoc}
use Rattle.line_words.specs.Spelling.{space}
use Rattle.command_words.specs.Piece.{next_words}
use Rattle.reply_text.proofs.Words.{next_append}

-- what was written behind a text, and then something behind that
pub and_then : (a b c x y : List ℕ) → b ≡ a ++ x → c ≡ b ++ y → c ≡ a ++ (x ++ y)
and_then a b c x y p q = q ∙ ap (λ l. l ++ y) p ∙ append_assoc a x y

-- words, and then more of them
pub more_words : (a b c : List ℕ) (words more : List (List ℕ)) → b ≡ a ++ next_words words → c ≡ b ++ next_words more → c ≡ a ++ next_words (words ++ more)
more_words a b c words more p q = and_then a b c (next_words words) (next_words more) p q ∙ ap (λ l. a ++ l) (sym (next_append words more))

-- words, and then more of them with something behind
pub last_words : (a b c end : List ℕ) (words more : List (List ℕ)) → b ≡ a ++ next_words words → c ≡ b ++ (next_words more ++ end)
    → c ≡ a ++ (next_words (words ++ more) ++ end)
last_words a b c end words more p q =
    and_then a b c (next_words words) (next_words more ++ end) p q
    ∙ ap (λ l. a ++ l) (sym (append_assoc (next_words words) (next_words more) end))
    ∙ ap (λ l. a ++ (l ++ end)) (sym (next_append words more))

-- three lists of words, with something behind
pub three_lists : (a b c d end : List ℕ) (one two three : List (List ℕ)) → b ≡ a ++ next_words one → c ≡ b ++ next_words two
    → d ≡ c ++ (next_words three ++ end) → d ≡ a ++ (next_words (one ++ (two ++ three)) ++ end)
three_lists a b c d end one two three p q r = last_words a b d end one (two ++ three) p (last_words b c d end two three q r)

-- a line of detail of four lists of words
pub detail_of_four : (a b c d e f g end : List ℕ) (one two three four : List (List ℕ)) → b ≡ a ++ space ∷ [] → c ≡ b ++ next_words one
    → d ≡ c ++ next_words two → e ≡ d ++ next_words three → f ≡ e ++ next_words four → g ≡ f ++ end
    → g ≡ a ++ space ∷ (next_words (one ++ (two ++ (three ++ four))) ++ end)
detail_of_four a b c d e f g end one two three four p q r s t u =
    and_then a b g (space ∷ []) (next_words (one ++ (two ++ (three ++ four))) ++ end) p
    (last_words b c g end one (two ++ (three ++ four)) q
    (last_words c d g end two (three ++ four) r
    (last_words d e g end three four s (and_then e f g (next_words four) end t u))))
