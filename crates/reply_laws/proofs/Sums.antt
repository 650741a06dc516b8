-- Words that stand for one value of several forms.
use Rattle.std.proofs.Common.{◌≡◌, ℕ, Bool, true, false, cond, List, [], ◌∷◌, ◌++◌, codes, bytes_eq, length, refl, sym, ap, ap₂, subst, ◌∙◌, Option, Some, None}
use Rattle.std.specs.Option.{option_map}
use Rattle.std.proofs.lemmas.List.{append_cancel_left}
use Rattle.finite_maps.proofs.Constructors.{some_same}
use Rattle.hex.specs.Hex.{encode_lower}
use Rattle.sync_path.specs.Path.{IsPath}
use Rattle.entry_tree.specs.AtomText.{words_of}
use Rattle.entry_tree.specs.PathWord.{path_word}
use Rattle.entry_tree.specs.declared.atom.Atom.{Atom}
use Rattle.entry_tree.specs.declared.atom.Atom.TheVariants as atoms
use Rattle.frame_text.proofs.LineWords.{atoms_same, paths_same}
use Rattle.mode_rules.specs.declared.problem.Cause.{Cause}
use Rattle.mode_rules.specs.declared.problem.Cause.TheVariants as causes
use Rattle.mode_rules.specs.declared.report.Outcome.{Outcome}
use Rattle.mode_rules.specs.declared.report.Outcome.TheVariants.{Done, Halted, Stopped, TooMany, Fault, RootFull, KeeperFault, NoMemory}
use Rattle.reply_text.specs.Refusals.{found_words}
use Rattle.reply_text.specs.Replies.{read_words}
use Rattle.reply_text.specs.Reports.{cause_words, outcome_words}
use Rattle.reply_text.specs.Rows.{state_words}
use Rattle.reply_text.specs.declared.stream_read.StreamRead.{StreamRead}
use Rattle.reply_text.specs.declared.stream_read.StreamRead.TheVariants.{Got, Empty, End, Broken}
use Rattle.reply_text.specs.declared.sync_row.SyncState.{SyncState}
use Rattle.reply_text.specs.declared.sync_row.SyncState.TheVariants as states
use Rattle.reply_laws.specs.Kept.{IsCause, IsFound}
use Rattle.reply_laws.proofs.Values.{digests_told, halt_back, halt_by, side_back, side_by}

-- ---- how a cycle ended, with more words behind it

outcome_by : List (List ℕ) → Option Outcome
outcome_by [] = None
outcome_by (word ∷ []) = None
outcome_by (word ∷ next ∷ words) =
    cond (bytes_eq word (codes "done")) (Some Done)
    (cond (bytes_eq word (codes "halted")) (option_map Halted (halt_by next))
    (cond (bytes_eq word (codes "stopped")) (Some Stopped)
    (cond (bytes_eq word (codes "too-many")) (option_map TooMany (side_by next))
    (cond (bytes_eq word (codes "fault")) (option_map Fault (side_by next))
    (cond (bytes_eq word (codes "root-full")) (option_map RootFull (side_by next))
    (cond (bytes_eq word (codes "keeper-fault")) (Some KeeperFault) (Some NoMemory)))))))

outcome_back : (outcome : Outcome) (next : List ℕ) (words : List (List ℕ)) → outcome_by (outcome_words outcome ++ next ∷ words) ≡ Some outcome
unfolding outcome_by
outcome_back Done next words = refl
outcome_back (Halted halt) next words = ap (option_map Halted) (halt_back halt)
outcome_back Stopped next words = refl
outcome_back (TooMany side) next words = ap (option_map TooMany) (side_back side)
outcome_back (Fault side) next words = ap (option_map Fault) (side_back side)
outcome_back (RootFull side) next words = ap (option_map RootFull) (side_back side)
outcome_back KeeperFault next words = refl
outcome_back NoMemory next words = refl

pub outcomes_told : (outcome other : Outcome) (next next' : List ℕ) (words words' : List (List ℕ)) → outcome_words outcome ++ next ∷ words ≡ outcome_words other ++ next' ∷ words' → outcome ≡ other
outcomes_told outcome other next next' words words' e =
    some_same outcome other (sym (outcome_back outcome next words) ∙ ap outcome_by e ∙ outcome_back other next' words')

-- ---- the state of a session, with more words behind it

state_by : List (List ℕ) → Option SyncState
state_by [] = None
state_by (word ∷ []) = None
state_by (word ∷ next ∷ words) =
    cond (bytes_eq word (codes "halted")) (option_map states.Halted (halt_by next))
    (cond (bytes_eq word (codes "paused")) (Some states.Paused)
    (cond (bytes_eq word (codes "cycling")) (Some states.Cycling)
    (cond (bytes_eq word (codes "due")) (Some states.Due) (Some states.Resting))))

state_back : (state : SyncState) (next : List ℕ) (words : List (List ℕ)) → state_by (state_words state ++ next ∷ words) ≡ Some state
unfolding state_by
state_back (states.Halted halt) next words = ap (option_map states.Halted) (halt_back halt)
state_back states.Paused next words = refl
state_back states.Cycling next words = refl
state_back states.Due next words = refl
state_back states.Resting next words = refl

pub states_told : (state other : SyncState) (next next' : List ℕ) (words words' : List (List ℕ)) → state_words state ++ next ∷ words ≡ state_words other ++ next' ∷ words'
    → (state ≡ other) × (next ∷ words ≡ next' ∷ words')
states_told state other next next' words words' e =
    let same = some_same state other (sym (state_back state next words) ∙ ap state_by e ∙ state_back other next' words') in
    (same, append_cancel_left (state_words other) (next ∷ words) (next' ∷ words') (subst (λ s. state_words s ++ next ∷ words ≡ state_words other ++ next' ∷ words') same e))

-- ---- what a test of bytes picks

abbrev pub pick : Bool → Type 0 → Type 0 → Type 0
pick true A B = A
pick false A B = B

-- ---- the cause of a problem

cause_is : List (List ℕ) → Cause → Type 0
cause_is [] cause = ⊥
cause_is (word ∷ words) cause =
    pick (bytes_eq word (codes "changed")) (cause ≡ causes.Changed)
    (pick (bytes_eq word (codes "too-large")) (cause ≡ causes.TooLarge)
    (pick (bytes_eq word (codes "failed")) (cause ≡ causes.Failed)
    (pick (bytes_eq word (codes "differs")) (cause ≡ causes.Differs)
    (pick (bytes_eq word (codes "not-empty")) (cause ≡ causes.NotEmpty)
    (pick (bytes_eq word (codes "no-parent")) (cause ≡ causes.NoParent)
    (pick (bytes_eq word (codes "no-link")) (cause ≡ causes.NoLink)
    (pick (bytes_eq word (codes "no-exec")) (cause ≡ causes.NoExec)
    (pick (bytes_eq word (codes "digest-differs")) ((wanted : List ℕ) × (got : List ℕ) × (cause ≡ causes.DigestDiffers wanted got))
    (pick (bytes_eq word (codes "not-staged")) (cause ≡ causes.NotStaged)
    (pick (bytes_eq word (codes "no-memory")) (cause ≡ causes.NoMemory)
    ((path : List (List ℕ)) × (cause ≡ causes.Skipped path))))))))))))

cause_found : (cause : Cause) → cause_is (cause_words cause) cause
unfolding cause_is
cause_found causes.Changed = refl
cause_found causes.TooLarge = refl
cause_found causes.Failed = refl
cause_found causes.Differs = refl
cause_found causes.NotEmpty = refl
cause_found causes.NoParent = refl
cause_found causes.NoLink = refl
cause_found causes.NoExec = refl
cause_found (causes.DigestDiffers wanted got) = (wanted, got, refl)
cause_found causes.NotStaged = refl
cause_found causes.NoMemory = refl
cause_found (causes.Skipped path) = (path, refl)

pub causes_told : (cause other : Cause) → IsCause cause → IsCause other → cause_words cause ≡ cause_words other → cause ≡ other
unfolding cause_is
causes_told cause other h k e = by other k e (subst (λ words. cause_is words cause) e (cause_found cause))
  where
    by : (other : Cause) → IsCause other → cause_words cause ≡ cause_words other → cause_is (cause_words other) cause → cause ≡ other
    by causes.Changed k e v = v
    by causes.TooLarge k e v = v
    by causes.Failed k e v = v
    by causes.Differs k e v = v
    by causes.NotEmpty k e v = v
    by causes.NoParent k e v = v
    by causes.NoLink k e v = v
    by causes.NoExec k e v = v
    by (causes.DigestDiffers wanted got) k e v =
        let own : IsCause (causes.DigestDiffers v.0 v.1) = subst IsCause v.2 h in
        let words : cause_words (causes.DigestDiffers v.0 v.1) ≡ cause_words (causes.DigestDiffers wanted got) = sym (ap cause_words v.2) ∙ e in
        let first : encode_lower v.0 ≡ encode_lower wanted = cc in
        let second : encode_lower v.1 ≡ encode_lower got = cc in
        v.2 ∙ ap₂ (λ x y. causes.DigestDiffers x y) (digests_told v.0 wanted own.0 own.1 k.0 k.1 first) (digests_told v.1 got own.2 own.3 k.2 k.3 second)
    by causes.NotStaged k e v = v
    by causes.NoMemory k e v = v
    by (causes.Skipped path) k e v =
        let own : IsPath v.0 = subst IsCause v.1 h in
        let words : cause_words (causes.Skipped v.0) ≡ cause_words (causes.Skipped path) = sym (ap cause_words v.1) ∙ e in
        let word : path_word v.0 ≡ path_word path = cc in
        v.1 ∙ ap (λ p. causes.Skipped p) (paths_same v.0 path own k word)

-- ---- what was found at a path

none_is_no_atom : (atom : Atom) → codes "none" ∷ [] ≡ words_of atom → ⊥
none_is_no_atom atoms.Dir e = let first : codes "none" ≡ codes "dir" = cc in let no : length (codes "none") ≡ length (codes "dir") = ap length first in absurd (cc)
none_is_no_atom (atoms.File digest executable) e = absurd (cc)
none_is_no_atom (atoms.Link text) e = absurd (cc)
none_is_no_atom atoms.Untracked e = let first : codes "none" ≡ codes "untracked" = cc in let no : length (codes "none") ≡ length (codes "untracked") = ap length first in absurd (cc)
none_is_no_atom (atoms.Problem kind) e = absurd (cc)

pub founds_told : (found other : Option Atom) → IsFound found → IsFound other → found_words found ≡ found_words other → found ≡ other
founds_told None None h k e = refl
founds_told None (Some other) h k e = absurd (none_is_no_atom other e)
founds_told (Some atom) None h k e = absurd (none_is_no_atom atom (sym e))
founds_told (Some atom) (Some other) h k e = ap Some (atoms_same atom other h k e)

-- ---- what a read gives

read_is : List (List ℕ) → StreamRead → Type 0
read_is [] read = ⊥
read_is (word ∷ []) read = pick (bytes_eq word (codes "empty")) (read ≡ Empty) (pick (bytes_eq word (codes "end")) (read ≡ End) (read ≡ Broken))
read_is (word ∷ next ∷ words) read = (bytes : List ℕ) × (read ≡ Got bytes)

read_found : (read : StreamRead) → read_is (read_words read) read
unfolding read_is
read_found (Got bytes) = (bytes, refl)
read_found Empty = refl
read_found End = refl
read_found Broken = refl

pub reads_told : (read other : StreamRead) → read_words read ≡ read_words other → read ≡ other
unfolding read_is
reads_told read other e = by other e (subst (λ words. read_is words read) e (read_found read))
  where
    by : (other : StreamRead) → read_words read ≡ read_words other → read_is (read_words other) read → read ≡ other
    by (Got bytes) e v =
        let words : read_words (Got v.0) ≡ read_words (Got bytes) = sym (ap read_words v.1) ∙ e in
        let same : v.0 ≡ bytes = cc in
        v.1 ∙ ap (λ b. Got b) same
    by Empty e v = v
    by End e v = v
    by Broken e v = v
