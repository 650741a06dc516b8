-- The rows that a reply lists, by their words.
use Rattle.std.proofs.Common.{◌≡◌, ℕ, List, [], ◌∷◌, ◌++◌, codes, length, map, refl, sym, ap, ap₂}
use Rattle.std.specs.Fmt.{decimal}
use Rattle.std.specs.List.{AllByRecursion}
use Rattle.frame_text.proofs.LineWords.{atoms_same, paths_same}
use Rattle.entry_tree.specs.AtomText.{words_of}
use Rattle.entry_tree.specs.PathWord.{path_word}
use Rattle.command_words.specs.Identifier.{identifier_word}
use Rattle.command_words.specs.Keywords.{mode_word, side_word}
use Rattle.mode_rules.specs.declared.problem.Problem.{Problem}
use Rattle.reply_text.specs.Listed.{listed_words}
use Rattle.reply_text.specs.Reports.{cause_words, conflict_words, problem_words, reason_word}
use Rattle.reply_text.specs.Rows.{forward_state_word, forward_words, labels_words, name_word, state_words, sync_words}
use Rattle.reply_text.specs.declared.conflict_row.ConflictRow.{ConflictRow}
use Rattle.reply_text.specs.declared.forward_row.ForwardRow.{ForwardRow}
use Rattle.reply_text.specs.declared.listed.Listed.{Listed}
use Rattle.reply_text.specs.declared.sync_row.SyncRow.{SyncRow}
use Rattle.reply_laws.specs.Kept.{IsConflictRow, IsForwardRow, IsListed, IsProblem, IsSyncRow}
use Rattle.reply_laws.proofs.Sums.{causes_told, states_told}
use Rattle.reply_laws.proofs.Values.{forwards_told, identifiers_told, labels_told, modes_told, names_told, numbers_told, reasons_told, sides_told}

-- rows of one kind
pub rows_told : {X : Type 0} (Is : X → Type 0) (words : X → List (List ℕ)) → ((x y : X) → Is x → Is y → words x ≡ words y → x ≡ y)
    → (xs ys : List X) → AllByRecursion Is xs → AllByRecursion Is ys → map words xs ≡ map words ys → xs ≡ ys
rows_told Is words told [] [] h k e = refl
rows_told Is words told [] (y ∷ ys) h k e = absurd (cc)
rows_told Is words told (x ∷ xs) [] h k e = absurd (cc)
rows_told Is words told (x ∷ xs) (y ∷ ys) h k e =
    let first : words x ≡ words y = cc in
    let rest : map words xs ≡ map words ys = cc in
    ap₂ (λ z zs. z ∷ zs) (told x y h.0 k.0 first) (rows_told Is words told xs ys h.1 k.1 rest)

pub listed_told : (row other : Listed) → IsListed row → IsListed other → listed_words row ≡ listed_words other → row ≡ other
listed_told row other h k e =
    let path : path_word row.path ≡ path_word other.path = cc in
    let atom : words_of row.atom ≡ words_of other.atom = cc in
    ap₂ (λ p a. let l : Listed = record { path = p; atom = a } in l) (paths_same row.path other.path h.0 k.0 path) (atoms_same row.atom other.atom h.1 k.1 atom)

sync_made : (row other : SyncRow) → row.identifier ≡ other.identifier → row.name ≡ other.name → row.mode ≡ other.mode → row.alpha ≡ other.alpha → row.beta ≡ other.beta
    → row.state ≡ other.state → row.cycles ≡ other.cycles → row.conflicts ≡ other.conflicts → row.problems ≡ other.problems → row.labels ≡ other.labels → row ≡ other
sync_made row other a b c d e f g h i j =
    λ t. record { identifier = a t; name = b t; mode = c t; alpha = d t; beta = e t; state = f t; cycles = g t; conflicts = h t; problems = i t; labels = j t }

pub sync_told : (row other : SyncRow) → IsSyncRow row → IsSyncRow other → sync_words row ≡ sync_words other → row ≡ other
sync_told row other h k e =
    let identifier : identifier_word row.identifier ≡ identifier_word other.identifier = cc in
    let name : name_word row.name ≡ name_word other.name = cc in
    let mode : mode_word row.mode ≡ mode_word other.mode = cc in
    let alpha : row.alpha ≡ other.alpha = cc in
    let beta : row.beta ≡ other.beta = cc in
    let behind : state_words row.state ++ codes "cycles" ∷ (decimal row.cycles ∷ codes "conflicts" ∷ decimal row.conflicts ∷ codes "problems" ∷ decimal row.problems ∷ labels_words row.labels)
    ≡ state_words other.state ++ codes "cycles" ∷ (decimal other.cycles ∷ codes "conflicts" ∷ decimal other.conflicts ∷ codes "problems" ∷ decimal other.problems ∷ labels_words other.labels) = cc in
    let parts = states_told row.state other.state (codes "cycles") (codes "cycles")
    (decimal row.cycles ∷ codes "conflicts" ∷ decimal row.conflicts ∷ codes "problems" ∷ decimal row.problems ∷ labels_words row.labels)
    (decimal other.cycles ∷ codes "conflicts" ∷ decimal other.conflicts ∷ codes "problems" ∷ decimal other.problems ∷ labels_words other.labels) behind in
    let rest = parts.1 in
    let cycles : decimal row.cycles ≡ decimal other.cycles = cc in
    let conflicts : decimal row.conflicts ≡ decimal other.conflicts = cc in
    let problems : decimal row.problems ≡ decimal other.problems = cc in
    let labels : labels_words row.labels ≡ labels_words other.labels = cc in
    sync_made row other (identifiers_told row.identifier other.identifier h.0 k.0 identifier) (names_told row.name other.name h.1 k.1 name) (modes_told row.mode other.mode mode) alpha beta parts.0
    (numbers_told row.cycles other.cycles h.2 k.2 cycles) (numbers_told row.conflicts other.conflicts h.3 k.3 conflicts) (numbers_told row.problems other.problems h.4 k.4 problems)
    (labels_told row.labels other.labels h.5 k.5 labels)

forward_made : (row other : ForwardRow) → row.identifier ≡ other.identifier → row.name ≡ other.name → row.source ≡ other.source → row.dest ≡ other.dest → row.state ≡ other.state → row ≡ other
forward_made row other a b c d e = λ t. record { identifier = a t; name = b t; source = c t; dest = d t; state = e t }

pub forward_told : (row other : ForwardRow) → IsForwardRow row → IsForwardRow other → forward_words row ≡ forward_words other → row ≡ other
forward_told row other h k e =
    let identifier : identifier_word row.identifier ≡ identifier_word other.identifier = cc in
    let name : name_word row.name ≡ name_word other.name = cc in
    let source : row.source ≡ other.source = cc in
    let dest : row.dest ≡ other.dest = cc in
    let state : forward_state_word row.state ≡ forward_state_word other.state = cc in
    forward_made row other (identifiers_told row.identifier other.identifier h.0 k.0 identifier) (names_told row.name other.name h.1 k.1 name) source dest (forwards_told row.state other.state state)

conflict_made : (row other : ConflictRow) → row.at ≡ other.at → row.reason ≡ other.reason → row.alpha ≡ other.alpha → row.beta ≡ other.beta → row ≡ other
conflict_made row other a b c d = λ t. record { at = a t; reason = b t; alpha = c t; beta = d t }

pub conflict_told : (row other : ConflictRow) → IsConflictRow row → IsConflictRow other → conflict_words row ≡ conflict_words other → row ≡ other
conflict_told row other h k e =
    let path : path_word row.at ≡ path_word other.at = cc in
    let reason : reason_word row.reason ≡ reason_word other.reason = cc in
    let alpha : decimal row.alpha ≡ decimal other.alpha = cc in
    let beta : decimal row.beta ≡ decimal other.beta = cc in
    conflict_made row other (paths_same row.at other.at h.0 k.0 path) (reasons_told row.reason other.reason reason) (numbers_told row.alpha other.alpha h.1 k.1 alpha) (numbers_told row.beta other.beta h.2 k.2 beta)

problem_made : (row other : Problem) → row.side ≡ other.side → row.path ≡ other.path → row.cause ≡ other.cause → row ≡ other
problem_made row other a b c = λ t. record { side = a t; path = b t; cause = c t }

pub problem_told : (row other : Problem) → IsProblem row → IsProblem other → problem_words row ≡ problem_words other → row ≡ other
problem_told row other h k e =
    let side : side_word row.side ≡ side_word other.side = cc in
    let path : path_word row.path ≡ path_word other.path = cc in
    let cause : cause_words row.cause ≡ cause_words other.cause = cc in
    problem_made row other (sides_told row.side other.side side) (paths_same row.path other.path h.0 k.0 path) (causes_told row.cause other.cause h.1 k.1 cause)

-- conflicts, and then problems
conflict_is_no_problem : (rest rest' : List (List ℕ)) → codes "conflict" ∷ rest ≡ codes "problem" ∷ rest' → ⊥
conflict_is_no_problem rest rest' e =
    let first : codes "conflict" ≡ codes "problem" = cc in
    let no : length (codes "conflict") ≡ length (codes "problem") = ap length first in absurd (cc)

pub report_told : (conflicts others : List ConflictRow) (problems problems' : List Problem) → AllByRecursion IsConflictRow conflicts → AllByRecursion IsConflictRow others
    → AllByRecursion IsProblem problems → AllByRecursion IsProblem problems' → map conflict_words conflicts ++ map problem_words problems ≡ map conflict_words others ++ map problem_words problems'
    → (conflicts ≡ others) × (problems ≡ problems')
report_told [] [] problems problems' h k l m e = (refl, rows_told IsProblem problem_words problem_told problems problems' l m e)
report_told [] (other ∷ others) [] problems' h k l m e = absurd (cc)
report_told [] (other ∷ others) (problem ∷ problems) problems' h k l m e =
    let first : problem_words problem ≡ conflict_words other = cc in absurd (conflict_is_no_problem _ _ (sym first))
report_told (conflict ∷ conflicts) [] problems [] h k l m e = absurd (cc)
report_told (conflict ∷ conflicts) [] problems (problem ∷ problems') h k l m e =
    let first : conflict_words conflict ≡ problem_words problem = cc in absurd (conflict_is_no_problem _ _ first)
report_told (conflict ∷ conflicts) (other ∷ others) problems problems' h k l m e =
    let first : conflict_words conflict ≡ conflict_words other = cc in
    let rest : map conflict_words conflicts ++ map problem_words problems ≡ map conflict_words others ++ map problem_words problems' = cc in
    let parts = report_told conflicts others problems problems' h.1 k.1 l m rest in
    (ap₂ (λ c cs. c ∷ cs) (conflict_told conflict other h.0 k.0 first) parts.0, parts.1)
