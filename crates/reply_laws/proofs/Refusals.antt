-- Refusals, by their words.
use Rattle.std.proofs.Common.{◌≡◌, ℕ, List, [], ◌∷◌, codes, bytes_eq, refl, sym, ap, ap₂, subst, ◌∙◌, Option}
use Rattle.std.specs.Fmt.{decimal}
use Rattle.frame_text.proofs.LineWords.{paths_same}
use Rattle.entry_tree.specs.PathWord.{path_word}
use Rattle.entry_tree.specs.declared.atom.Atom.{Atom}
use Rattle.command_words.specs.Identifier.{identifier_word, IsIdentifier}
use Rattle.command_words.specs.Keywords.{halt_word}
use Rattle.command_words.specs.declared.identifier.Identifier.{Identifier}
use Rattle.mode_rules.specs.declared.halt.Halt.{Halt}
use Rattle.reply_text.specs.Refusals.{found_words, refusal_words}
use Rattle.reply_text.specs.declared.refusal.Refusal.{Refusal}
use Rattle.reply_text.specs.declared.refusal.Refusal.TheVariants.{LineTooLong, BadPattern, NoRoot, EditRefused, LogFull, BytesFull, KeeperFault, NoSession, SameRoot, TableFull, NameTaken, IdTaken, OldNumber, ClientsFull, Halted, Paused, DiceFault, BadLine, StreamsFull, NoStream, ScriptOnly, OldRun, Cut, WriteClosed}
use Rattle.reply_laws.specs.Kept.{IsNumber, IsRefusal}
use Rattle.reply_laws.proofs.Sums.{founds_told, pick}
use Rattle.reply_laws.proofs.Values.{halts_told, identifiers_told, numbers_told}

-- the refusal of a word
refusal_by : List ℕ → Refusal → Type 0
refusal_by word refusal =
    pick (bytes_eq word (codes "line-too-long")) (refusal ≡ LineTooLong)
    (pick (bytes_eq word (codes "bad-pattern")) ((index : ℕ) × (place : ℕ) × (refusal ≡ BadPattern index place))
    (pick (bytes_eq word (codes "no-root")) ((root : List ℕ) × (refusal ≡ NoRoot root))
    (pick (bytes_eq word (codes "edit-refused")) ((path : List (List ℕ)) × (found : Option Atom) × (refusal ≡ EditRefused path found))
    (pick (bytes_eq word (codes "log-full")) ((size : ℕ) × (refusal ≡ LogFull size))
    (pick (bytes_eq word (codes "bytes-full")) ((bytes : ℕ) × (refusal ≡ BytesFull bytes))
    (pick (bytes_eq word (codes "keeper-fault")) (refusal ≡ KeeperFault)
    (pick (bytes_eq word (codes "no-session")) (refusal ≡ NoSession)
    (pick (bytes_eq word (codes "same-root")) (refusal ≡ SameRoot)
    (pick (bytes_eq word (codes "table-full")) (refusal ≡ TableFull)
    (pick (bytes_eq word (codes "name-taken")) ((identifier : Identifier) × (refusal ≡ NameTaken identifier))
    (pick (bytes_eq word (codes "id-taken")) ((identifier : Identifier) × (refusal ≡ IdTaken identifier))
    (pick (bytes_eq word (codes "old-number")) ((last : ℕ) × (refusal ≡ OldNumber last))
    (pick (bytes_eq word (codes "clients-full")) (refusal ≡ ClientsFull)
    (pick (bytes_eq word (codes "halted")) ((halt : Halt) × (refusal ≡ Halted halt))
    (pick (bytes_eq word (codes "paused")) (refusal ≡ Paused)
    (pick (bytes_eq word (codes "dice-fault")) (refusal ≡ DiceFault)
    (pick (bytes_eq word (codes "bad-line")) ((place : ℕ) × (refusal ≡ BadLine place))
    (pick (bytes_eq word (codes "streams-full")) ((live : ℕ) × (refusal ≡ StreamsFull live))
    (pick (bytes_eq word (codes "no-stream")) (refusal ≡ NoStream)
    (pick (bytes_eq word (codes "script-only")) (refusal ≡ ScriptOnly)
    (pick (bytes_eq word (codes "old-run")) ((run : ℕ) × (refusal ≡ OldRun run))
    (pick (bytes_eq word (codes "cut")) (refusal ≡ Cut) (refusal ≡ WriteClosed)))))))))))))))))))))))

refusal_is : List (List ℕ) → Refusal → Type 0
refusal_is [] refusal = ⊥
refusal_is (number ∷ []) refusal = ⊥
refusal_is (number ∷ word ∷ words) refusal = refusal_by word refusal

refusal_found : (refusal : Refusal) → refusal_is (refusal_words refusal) refusal
unfolding refusal_is refusal_by
refusal_found LineTooLong = refl
refusal_found (BadPattern index place) = (index, place, refl)
refusal_found (NoRoot root) = (root, refl)
refusal_found (EditRefused path found) = (path, found, refl)
refusal_found (LogFull size) = (size, refl)
refusal_found (BytesFull bytes) = (bytes, refl)
refusal_found KeeperFault = refl
refusal_found NoSession = refl
refusal_found SameRoot = refl
refusal_found TableFull = refl
refusal_found (NameTaken identifier) = (identifier, refl)
refusal_found (IdTaken identifier) = (identifier, refl)
refusal_found (OldNumber last) = (last, refl)
refusal_found ClientsFull = refl
refusal_found (Halted halt) = (halt, refl)
refusal_found Paused = refl
refusal_found DiceFault = refl
refusal_found (BadLine place) = (place, refl)
refusal_found (StreamsFull live) = (live, refl)
refusal_found NoStream = refl
refusal_found ScriptOnly = refl
refusal_found (OldRun run) = (run, refl)
refusal_found Cut = refl
refusal_found WriteClosed = refl

-- a refusal that names one thing, behind its number and its word
one_word : {A : Type 0} (make : A → Refusal) (number key : List ℕ) (spell : A → List ℕ) (Is : A → Type 0) → ((x y : A) → Is x → Is y → spell x ≡ spell y → x ≡ y)
    → ((x : A) → refusal_words (make x) ≡ number ∷ key ∷ spell x ∷ []) → ((x : A) → IsRefusal (make x) → Is x)
    → (refusal : Refusal) (x y : A) → refusal ≡ make x → IsRefusal refusal → Is y → refusal_words refusal ≡ refusal_words (make y) → refusal ≡ make y
one_word make number key spell Is told words kept refusal x y v h k e =
    let lists : number ∷ key ∷ spell x ∷ [] ≡ number ∷ key ∷ spell y ∷ [] = sym (words x) ∙ sym (ap refusal_words v) ∙ e ∙ words y in
    let word : spell x ≡ spell y = cc in
    v ∙ ap make (told x y (kept x (subst IsRefusal v h)) k word)

pub refusals_told : (refusal other : Refusal) → IsRefusal refusal → IsRefusal other → refusal_words refusal ≡ refusal_words other → refusal ≡ other
unfolding refusal_is refusal_by
refusals_told refusal other h k e = by other k e (subst (λ words. refusal_is words refusal) e (refusal_found refusal))
  where
    by : (other : Refusal) → IsRefusal other → refusal_words refusal ≡ refusal_words other → refusal_is (refusal_words other) refusal → refusal ≡ other
    by LineTooLong k e v = v
    by (BadPattern index place) k e v =
        let own : IsRefusal (BadPattern v.0 v.1) = subst IsRefusal v.2 h in
        let words : refusal_words (BadPattern v.0 v.1) ≡ refusal_words (BadPattern index place) = sym (ap refusal_words v.2) ∙ e in
        let first : decimal v.0 ≡ decimal index = cc in
        let second : decimal v.1 ≡ decimal place = cc in
        v.2 ∙ ap₂ (λ x y. BadPattern x y) (numbers_told v.0 index own.0 k.0 first) (numbers_told v.1 place own.1 k.1 second)
    by (NoRoot root) k e v = one_word (λ x. NoRoot x) (decimal 13) (codes "no-root") (λ x. x) (λ x. Unit {0}) (λ x y i j p. p) (λ x. refl) (λ x i. i) refusal v.0 root v.1 h tt e
    by (EditRefused path found) k e v =
        let own : IsRefusal (EditRefused v.0 v.1) = subst IsRefusal v.2 h in
        let words : refusal_words (EditRefused v.0 v.1) ≡ refusal_words (EditRefused path found) = sym (ap refusal_words v.2) ∙ e in
        let first : path_word v.0 ≡ path_word path = cc in
        let second : found_words v.1 ≡ found_words found = cc in
        v.2 ∙ ap₂ (λ x y. EditRefused x y) (paths_same v.0 path own.0 k.0 first) (founds_told v.1 found own.1 k.1 second)
    by (LogFull size) k e v = one_word (λ x. LogFull x) (decimal 15) (codes "log-full") decimal IsNumber numbers_told (λ x. refl) (λ x i. i) refusal v.0 size v.1 h k e
    by (BytesFull bytes) k e v = one_word (λ x. BytesFull x) (decimal 16) (codes "bytes-full") decimal IsNumber numbers_told (λ x. refl) (λ x i. i) refusal v.0 bytes v.1 h k e
    by KeeperFault k e v = v
    by NoSession k e v = v
    by SameRoot k e v = v
    by TableFull k e v = v
    by (NameTaken identifier) k e v = one_word (λ x. NameTaken x) (decimal 23) (codes "name-taken") identifier_word IsIdentifier identifiers_told (λ x. refl) (λ x i. i) refusal v.0 identifier v.1 h k e
    by (IdTaken identifier) k e v = one_word (λ x. IdTaken x) (decimal 24) (codes "id-taken") identifier_word IsIdentifier identifiers_told (λ x. refl) (λ x i. i) refusal v.0 identifier v.1 h k e
    by (OldNumber last) k e v = one_word (λ x. OldNumber x) (decimal 25) (codes "old-number") decimal IsNumber numbers_told (λ x. refl) (λ x i. i) refusal v.0 last v.1 h k e
    by ClientsFull k e v = v
    by (Halted halt) k e v = one_word (λ x. Halted x) (decimal 27) (codes "halted") halt_word (λ x. Unit {0}) (λ x y i j p. halts_told x y p) (λ x. refl) (λ x i. i) refusal v.0 halt v.1 h tt e
    by Paused k e v = v
    by DiceFault k e v = v
    by (BadLine place) k e v = one_word (λ x. BadLine x) (decimal 30) (codes "bad-line") decimal IsNumber numbers_told (λ x. refl) (λ x i. i) refusal v.0 place v.1 h k e
    by (StreamsFull live) k e v = one_word (λ x. StreamsFull x) (decimal 32) (codes "streams-full") decimal IsNumber numbers_told (λ x. refl) (λ x i. i) refusal v.0 live v.1 h k e
    by NoStream k e v = v
    by ScriptOnly k e v = v
    by (OldRun run) k e v = one_word (λ x. OldRun x) (decimal 36) (codes "old-run") decimal IsNumber numbers_told (λ x. refl) (λ x i. i) refusal v.0 run v.1 h k e
    by Cut k e v = v
    by WriteClosed k e v = v
