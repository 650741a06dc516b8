-- Where the words of a line go wrong.
use Rattle.std.proofs.Common.{◌≡◌, ℕ, true, false, List, [], ◌∷◌, codes, length, map, refl, sym, ap, ap₂, subst, ◌∙◌, Some, None}
use Rattle.line_words.specs.Lines.{Item, HasWords}
use Rattle.entry_tree.specs.AtomText.{IsAtom, IsBadAtom, words_of}
use Rattle.entry_tree.specs.PathWord.{path_word}
use Rattle.entry_tree.specs.declared.atom.Atom.{Atom}
use Rattle.entry_tree.proofs.AtomLaws.{not_both}
use Rattle.mode_rules.specs.declared.ancestor_line.AncestorLine.TheVariants.{Set, Drop}
use Rattle.frame_text.specs.LineText.{IsLine, fits, words_of_line}
use Rattle.frame_text.specs.Reading.{Reads, TakesPath}
use Rattle.frame_text.specs.declared.version.Version.{Version}
use Rattle.frame_text.proofs.LineWords.{atoms_same}

-- `set` and `drop` are two words
apart : codes "set" ≡ codes "drop" → ⊥
apart e = let no : length (codes "set") ≡ length (codes "drop") = ap length e in absurd (cc)

pub no_atom : (version : Version) (items : List Item) (end place : ℕ) (path : List (List ℕ)) → IsBadAtom items end place
    → Reads (IsLine version) words_of_line (codes "set" ∷ path_word path ∷ []) items None
no_atom version items end place path bad (Set other atom) h words has whole =
    let same : words_of atom ≡ words = cc in
    not_both items end place atom h.1 (subst (HasWords items) (sym same) has) bad
no_atom version items end place path bad (Drop other) h words has whole =
    let first : codes "drop" ≡ codes "set" = cc in apart (sym first)

pub no_path_to_drop : (version : Version) (items : List Item) → TakesPath items None items → Reads (IsLine version) words_of_line (codes "drop" ∷ []) items None
no_path_to_drop version items none (Set other atom) h words has whole =
    let first : codes "set" ≡ codes "drop" = cc in apart first
no_path_to_drop version items none (Drop other) h words has whole =
    let same : path_word other ∷ [] ≡ words = cc in
    none other h [] (subst (HasWords items) (sym same) has)

words_same : (words others : List (List ℕ)) → map Some words ≡ map Some others → words ≡ others
words_same [] [] e = refl
words_same [] (o ∷ others) e = absurd (cc)
words_same (w ∷ words) [] e = absurd (cc)
words_same (w ∷ words) (o ∷ others) e =
    let first : w ≡ o = cc in
    let rest : map Some words ≡ map Some others = cc in
    ap₂ (λ x xs. x ∷ xs) first (words_same words others rest)

pub unfit_atom : (version : Version) (items : List Item) (path : List (List ℕ)) (atom : Atom) → IsAtom atom → HasWords items (words_of atom) → fits version atom ≡ false
    → Reads (IsLine version) words_of_line (codes "set" ∷ path_word path ∷ []) items None
unfit_atom version items path atom is mine misfit (Set other another) h words has whole =
    let same : words_of another ≡ words = cc in
    let both : words_of atom ≡ words_of another = words_same (words_of atom) (words_of another) (sym mine ∙ subst (HasWords items) (sym same) has) in
    let one = atoms_same atom another is h.1 both in
    let e : false ≡ true = sym misfit ∙ ap (fits version) one ∙ h.2 in absurd (cc)
unfit_atom version items path atom is mine misfit (Drop other) h words has whole =
    let first : codes "drop" ≡ codes "set" = cc in absurd (apart (sym first))
