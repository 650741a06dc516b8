-- The law of each kind of field.
use Rattle.std.proofs.Common.{◌≡◌, ℕ, zero, suc, ◌<◌, ◌≤◌, ◌^◌, List, [], ◌∷◌, ◌++◌, length, Bool, true, false, ◌&&◌, not, eqb, refl, sym, ap, subst, ◌∙◌, arith, append_assoc, Some, None, leb}
use Rattle.std.specs.Prelude.{Option, cond, nat_le, IsTrue, ⊤}
use Rattle.std.specs.List.{list_all, flat_map, AllByRecursion}
use Rattle.std.specs.Option.{option_map, option_and_then}
use Rattle.std.specs.Str.{is_utf8}
use Rattle.std.proofs.lemmas.Bool.{and_parts, leb-true, le-leb, ne_eqb}
use Rattle.mux_frames.specs.Numbers.{AreBytes}
use Rattle.sync_path.specs.Name.{is_name, IsName, has_name_form, has_name_len, is_dots, is_name_byte}
use Rattle.sync_path.specs.Path.{IsPath, path_text}
use Rattle.sync_path.specs.PathText.{parts_of}
use Rattle.sync_path.specs.declared.limits.TheConstants.{MAX_DEPTH, MAX_PATH_LEN, MAX_NAME_LEN}
use Rattle.sync_path.proofs.Texts.{path_text-parts_of, parts_of-path_text}
use Rattle.entry_tree.specs.Text.{is_text, has_text_len, IsText}
use Rattle.entry_tree.specs.declared.text.TheConstants.{MAX_TEXT_LEN}
use Rattle.entry_tree.specs.declared.entry.Entry.{Entry}
use Rattle.entry_tree.specs.declared.entry.Entry.TheVariants.{Dir, File, Link, Other}
use Rattle.entry_tree.specs.declared.entry.Stamp.{Stamp}
use Rattle.roots_api.specs.declared.limits.TheConstants.{MAX_PIECE}
use Rattle.roots_api.specs.declared.who.Who.{Who}
use Rattle.roots_api.specs.declared.who.Who.TheVariants.{Editor, Session}
use Rattle.agent_proto.specs.Fields.{number_field, bit_field, text_field, path_field, bytes_field, stamp_field, found_field, done_field, row_field, rows_field}
use Rattle.agent_proto.specs.Messages.{who_field, IsStamp, IsStampIfAny, IsEntry, IsFound, IsRow, IsAsking, may_be_replaced}
use Rattle.agent_proto.specs.Reading.{mapped, made, both, number_in, sized_in, bit_of, bit_in, stamp_of, stamp_in, is_path, path_by, path_in, name_in, text_in, found_by, found_in, entry_by, replaced_by, entry_in, replaced_in, done_by, done_in, rows_by, rows_in, piece_by, piece_in, who_in}
use Rattle.agent_proto.proofs.Codecs.{Codec, some_is, and_then_some, cond_some, bytes_back, mapped_back, both_law, made_law, both_is, both_parts, along, number_law, sized_law, FitsIn, FewFor}

abbrev pub IsAny : {V : Type 0} → V → Type 0
IsAny v = ⊤

-- ---- bits and stamps

above : (n k : ℕ) → k < n → eqb n k ≡ false
above n k less = ne_eqb n k (λ e. absurd (omega (arith, less, e)))

no_bit : (b : ℕ) → 1 < b → bit_of b ≡ None
no_bit b high =
    let zeroth : eqb b 0 ≡ false = above b 0 (omega arith) in
    let first : eqb b 1 ≡ false = above b 1 (omega arith) in
    rw (zeroth, first) refl

no_found : (b : ℕ) (bytes : List ℕ) → 4 < b → found_by b bytes ≡ None
no_found b bytes high =
    let e0 : eqb b 0 ≡ false = above b 0 (omega arith) in
    let e1 : eqb b 1 ≡ false = above b 1 (omega arith) in
    let e2 : eqb b 2 ≡ false = above b 2 (omega arith) in
    let e3 : eqb b 3 ≡ false = above b 3 (omega arith) in
    let e4 : eqb b 4 ≡ false = above b 4 (omega arith) in
    rw (e0, e1, e2, e3, e4) refl

no_done : (b : ℕ) (bytes : List ℕ) → 1 < b → done_by b bytes ≡ None
no_done b bytes high =
    let e0 : eqb b 0 ≡ false = above b 0 (omega arith) in
    let e1 : eqb b 1 ≡ false = above b 1 (omega arith) in
    rw (e0, e1) refl

bit_there : (bit : Bool) (rest : List ℕ) → bit_in (bit_field bit ++ rest) ≡ Some (bit, rest)
bit_there true rest = refl
bit_there false rest = refl

bit_back : (bytes : List ℕ) (bit : Bool) (rest : List ℕ) → bit_in bytes ≡ Some (bit, rest) → bytes ≡ bit_field bit ++ rest
bit_back [] bit rest e = absurd cc
bit_back (zero ∷ bytes) bit rest e = subst (λ p. zero ∷ bytes ≡ bit_field p.0 ++ p.1) (some_is (false, bytes) (bit, rest) e) refl
bit_back (suc zero ∷ bytes) bit rest e = subst (λ p. 1 ∷ bytes ≡ bit_field p.0 ++ p.1) (some_is (true, bytes) (bit, rest) e) refl
bit_back (suc (suc n) ∷ bytes) bit rest e =
    let none : bit_in (suc (suc n) ∷ bytes) ≡ None = ap (λ o. option_map (λ w. (w, bytes)) o) (no_bit (suc (suc n)) (omega arith)) in
    absurd cc

pub bit_law : Codec {V = Bool} IsAny bit_field bit_in
bit_law = record { there = λ bit rest ok. bit_there bit rest; back = λ bytes bit rest each e. (tt, bit_back bytes bit rest e) }

pub stamp_law : Codec IsStamp stamp_field stamp_in
stamp_law = record {
  there = λ stamp rest ok. ap (mapped stamp_of) ((number_law 16).there stamp.0 rest ok);
  back = λ bytes stamp rest each e. mapped_back stamp_of (number_in 16 bytes) (λ s behind. IsStamp s × (bytes ≡ stamp_field s ++ behind)) (λ n behind r. (number_law 16).back bytes n behind each r) stamp rest e;
}

-- ---- paths, names and texts

both_true : (a b : Bool) → a ≡ true → b ≡ true → a && b ≡ true
both_true a b p q = rw (p, q) refl

path_true : (names : List (List ℕ)) → IsPath names → is_path names ≡ true
path_true names path =
    let deep = le-leb (length names) MAX_DEPTH path.depth in
    let long = le-leb (length (path_text names)) MAX_PATH_LEN path.len in
    both_true (list_all is_name names) (nat_le (length names) MAX_DEPTH && nat_le (length (path_text names)) MAX_PATH_LEN) path.each_name
    (both_true (nat_le (length names) MAX_DEPTH) (nat_le (length (path_text names)) MAX_PATH_LEN) deep long)

pub true_path : (names : List (List ℕ)) → is_path names ≡ true → IsPath names
true_path names test =
    let outer = and_parts (list_all is_name names) (nat_le (length names) MAX_DEPTH && nat_le (length (path_text names)) MAX_PATH_LEN) test in
    let inner = and_parts (nat_le (length names) MAX_DEPTH) (nat_le (length (path_text names)) MAX_PATH_LEN) outer.1 in
    record { each_name = outer.0; depth = leb-true (length names) MAX_DEPTH inner.0; len = leb-true (length (path_text names)) MAX_PATH_LEN inner.1 }

pub path_by-text : (path : List (List ℕ)) → IsPath path → path_by (path_text path) ≡ Some path
path_by-text path ok =
    ap (λ names. cond (is_path names) (Some names) None) (parts_of-path_text path ok.each_name) ∙ ap (λ b. cond b (Some path) None) (path_true path ok)

pub path_law : Codec IsPath path_field path_in
path_law = made_law (FewFor 2) IsPath text_field (sized_in 2) path_by path_text (sized_law 2)
    (λ path ok. (omega (arith, ok.len), path_by-text path ok))
    (λ text path few is.
    let found = cond_some (is_path (parts_of text)) (parts_of text) path is in
    (subst IsPath found.1 (true_path (parts_of text) found.0), sym (path_text-parts_of text) ∙ ap path_text found.1))

name_short : (name : List ℕ) → is_name name ≡ true → length name < 256 ^ 2
name_short name h =
    let form = (and_parts (is_utf8 name) (has_name_form name) h).1 in
    let first = (and_parts (has_name_len name && not (is_dots name)) (list_all is_name_byte name) form).0 in
    let len = (and_parts (has_name_len name) (not (is_dots name)) first).0 in
    let parts = and_parts (leb 1 (length name)) (leb (length name) MAX_NAME_LEN) len in
    let most : length name ≤ MAX_NAME_LEN = leb-true (length name) MAX_NAME_LEN parts.1 in
    omega (arith, most)

text_short : (text : List ℕ) → is_text text ≡ true → length text < 256 ^ 2
text_short text h =
    let len = (and_parts (is_utf8 text) (has_text_len text) h).1 in
    let parts = and_parts (leb 1 (length text)) (leb (length text) MAX_TEXT_LEN) len in
    let most : length text ≤ MAX_TEXT_LEN = leb-true (length text) MAX_TEXT_LEN parts.1 in
    omega (arith, most)

-- bytes of a length in two bytes that pass a test
tested_law : (test : List ℕ → Bool) → ((text : List ℕ) → test text ≡ true → length text < 256 ^ 2)
    → Codec (λ text. test text ≡ true) text_field (λ bytes. made (λ text. cond (test text) (Some text) None) (sized_in 2 bytes))
tested_law test short = made_law (FewFor 2) (λ text. test text ≡ true) text_field (sized_in 2) (λ text. cond (test text) (Some text) None) (λ text. text) (sized_law 2)
    (λ text ok. (short text ok, ap (λ b. cond b (Some text) None) ok))
    (λ text found few is. let e = cond_some (test text) text found is in (subst (λ t. test t ≡ true) e.1 e.0, e.1))

pub name_law : Codec IsName text_field name_in
name_law = tested_law is_name name_short

pub text_law : Codec IsText text_field text_in
text_law = tested_law is_text text_short

-- ---- entries

file_law : Codec (λ file. IsStamp file.0 × ⊤) (λ file. stamp_field file.0 ++ bit_field file.1) (both stamp_in bit_in)
file_law = both_law IsStamp IsAny stamp_field bit_field stamp_in bit_in stamp_law bit_law

found_there : (found : Option Entry) (rest : List ℕ) → IsFound found → found_in (found_field found ++ rest) ≡ Some (found, rest)
found_there None rest ok = refl
found_there (Some Dir) rest ok = refl
found_there (Some (File stamp exec)) rest ok = ap (mapped (λ file. Some (File file.0 file.1))) (file_law.there (stamp, exec) rest (ok, tt))
found_there (Some (Link text)) rest ok = ap (mapped (λ t. Some (Link t))) (text_law.there text rest ok)
found_there (Some Other) rest ok = refl

abbrev FoundIs : List ℕ → Option Entry → List ℕ → Type 0
FoundIs bytes found rest = IsFound found × (bytes ≡ found_field found ++ rest)

found_back : (bytes : List ℕ) (found : Option Entry) (rest : List ℕ) → AreBytes bytes → found_in bytes ≡ Some (found, rest) → FoundIs bytes found rest
found_back [] found rest each e = absurd cc
found_back (zero ∷ bytes) found rest each e = subst (λ p. FoundIs (0 ∷ bytes) p.0 p.1) (some_is (None, bytes) (found, rest) e) (tt, refl)
found_back (suc zero ∷ bytes) found rest each e = subst (λ p. FoundIs (1 ∷ bytes) p.0 p.1) (some_is (Some Dir, bytes) (found, rest) e) (tt, refl)
found_back (suc (suc zero) ∷ bytes) found rest each e =
    mapped_back (λ file. Some (File file.0 file.1)) (both stamp_in bit_in bytes) (FoundIs (2 ∷ bytes))
    (λ file behind r. let h = file_law.back bytes file behind each.1 r in (h.0.0, ap (λ xs. 2 ∷ xs) h.1)) found rest e
found_back (suc (suc (suc zero)) ∷ bytes) found rest each e =
    mapped_back (λ t. Some (Link t)) (text_in bytes) (FoundIs (3 ∷ bytes))
    (λ text behind r. let h = text_law.back bytes text behind each.1 r in (h.0, ap (λ xs. 3 ∷ xs) h.1)) found rest e
found_back (suc (suc (suc (suc zero))) ∷ bytes) found rest each e = subst (λ p. FoundIs (4 ∷ bytes) p.0 p.1) (some_is (Some Other, bytes) (found, rest) e) (tt, refl)
found_back (suc (suc (suc (suc (suc n)))) ∷ bytes) found rest each e =
    let none : found_in (suc (suc (suc (suc (suc n)))) ∷ bytes) ≡ None = no_found (suc (suc (suc (suc (suc n))))) bytes (omega arith) in
    absurd cc

pub found_law : Codec IsFound found_field found_in
found_law = record { there = found_there; back = found_back }

-- an entry that is there and passes a test
abbrev pub Passes : (Entry → Bool) → Entry → Type 0
Passes test entry = IsEntry entry × (test entry ≡ true)

passes_from : (test : Entry → Bool) (found : Option Entry) (entry : Entry) → IsFound found → entry_by test found ≡ Some entry → Passes test entry × (found ≡ Some entry)
passes_from test None entry ok is = absurd cc
passes_from test (Some x) entry ok is = let e = cond_some (test x) x entry is in (subst (Passes test) e.1 (ok, e.0), ap Some e.1)

pub entry_law : (test : Entry → Bool) → Codec (Passes test) (λ entry. found_field (Some entry)) (λ bytes. made (entry_by test) (found_in bytes))
entry_law test = made_law IsFound (Passes test) found_field found_in (entry_by test) Some found_law
    (λ entry ok. (ok.0, ap (λ b. cond b (Some entry) None) ok.1)) (passes_from test)

-- what may be expected where something is put
abbrev pub IsExpected : Option Entry → Type 0
IsExpected expected = IsFound expected × IsTrue (may_be_replaced expected)

expected_to : (expected : Option Entry) → IsExpected expected → IsFound expected × (replaced_by expected ≡ Some expected)
expected_to None ok = (tt, refl)
expected_to (Some entry) ok = (ok.0, ap (λ b. cond b (Some (Some entry)) None) ok.1)

expected_from : (found expected : Option Entry) → IsFound found → replaced_by found ≡ Some expected → IsExpected expected × (found ≡ expected)
expected_from None expected ok is = let e = some_is None expected is in (subst IsExpected e (tt, refl), e)
expected_from (Some entry) expected ok is =
    let e = cond_some (may_be_replaced (Some entry)) (Some entry) expected is in
    (subst IsExpected e.1 (ok, e.0), e.1)

pub replaced_law : Codec IsExpected found_field replaced_in
replaced_law = made_law IsFound IsExpected found_field found_in replaced_by (λ expected. expected) found_law expected_to expected_from

-- a stamp that there may be
done_there : (stamp : Option Stamp) (rest : List ℕ) → IsStampIfAny stamp → done_in (done_field stamp ++ rest) ≡ Some (stamp, rest)
done_there None rest ok = refl
done_there (Some stamp) rest ok = ap (mapped Some) (stamp_law.there stamp rest ok)

abbrev DoneIs : List ℕ → Option Stamp → List ℕ → Type 0
DoneIs bytes stamp rest = IsStampIfAny stamp × (bytes ≡ done_field stamp ++ rest)

done_back : (bytes : List ℕ) (stamp : Option Stamp) (rest : List ℕ) → AreBytes bytes → done_in bytes ≡ Some (stamp, rest) → DoneIs bytes stamp rest
done_back [] stamp rest each e = absurd cc
done_back (zero ∷ bytes) stamp rest each e = subst (λ p. DoneIs (0 ∷ bytes) p.0 p.1) (some_is (None, bytes) (stamp, rest) e) (tt, refl)
done_back (suc zero ∷ bytes) stamp rest each e =
    mapped_back Some (stamp_in bytes) (DoneIs (1 ∷ bytes)) (λ s behind r. let h = stamp_law.back bytes s behind each.1 r in (h.0, ap (λ xs. 1 ∷ xs) h.1)) stamp rest e
done_back (suc (suc n) ∷ bytes) stamp rest each e =
    let none : done_in (suc (suc n) ∷ bytes) ≡ None = no_done (suc (suc n)) bytes (omega arith) in
    absurd cc

pub done_law : Codec IsStampIfAny done_field done_in
done_law = record { there = done_there; back = done_back }

-- ---- listings

pub row_law : Codec IsRow row_field (both name_in entry_in)
row_law = along (λ row. IsName row.0 × Passes (λ entry. true) row.1) IsRow row_field (both name_in entry_in) (both_law IsName (Passes (λ entry. true)) text_field (λ entry. found_field (Some entry)) name_in entry_in name_law (entry_law (λ entry. true)))
    (λ row ok. (ok.0, (ok.1, refl))) (λ row ok. (ok.0, ok.1.0))

rows_there : (rows : List (List ℕ × Entry)) (rest : List ℕ) → AllByRecursion IsRow rows → rows_by (length rows) (flat_map row_field rows ++ rest) ≡ Some (rows, rest)
rows_there [] rest each = refl
rows_there (row ∷ rows) rest each =
    let first : both name_in entry_in ((row_field row ++ flat_map row_field rows) ++ rest) ≡ Some (row, flat_map row_field rows ++ rest) =
    ap (both name_in entry_in) (append_assoc (row_field row) (flat_map row_field rows) rest) ∙ row_law.there row (flat_map row_field rows ++ rest) each.0 in
    ap (mapped (λ r. r.0 ∷ r.1)) (both_is (both name_in entry_in) (rows_by (length rows)) ((row_field row ++ flat_map row_field rows) ++ rest) (flat_map row_field rows ++ rest) rest row rows first (rows_there rows rest each.1))

abbrev RowsAre : ℕ → List ℕ → List (List ℕ × Entry) → List ℕ → Type 0
RowsAre count bytes rows rest = (AllByRecursion IsRow rows × (length rows ≡ count)) × (bytes ≡ flat_map row_field rows ++ rest)

rows_back : (count : ℕ) (bytes : List ℕ) (rows : List (List ℕ × Entry)) (rest : List ℕ) → AreBytes bytes → rows_by count bytes ≡ Some (rows, rest) → RowsAre count bytes rows rest
rows_back zero bytes rows rest each e = subst (λ p. RowsAre 0 bytes p.0 p.1) (some_is ([], bytes) (rows, rest) e) ((tt, refl), refl)
rows_back (suc count) bytes rows rest each e =
    mapped_back (λ r. r.0 ∷ r.1) (both (both name_in entry_in) (rows_by count) bytes) (RowsAre (suc count) bytes)
    (λ r behind is.
    let parts = both_parts (both name_in entry_in) (rows_by count) bytes r behind is in
    let one = row_law.back bytes r.0 parts.0 each parts.1 in
    let two = rows_back count parts.0 r.1 behind (bytes_back (row_field r.0) parts.0 (subst AreBytes one.1 each)).1 parts.2 in
    (((one.0, two.0.0), ap suc two.0.1), one.1 ∙ ap (λ xs. row_field r.0 ++ xs) two.1 ∙ sym (append_assoc (row_field r.0) (flat_map row_field r.1) behind)))
    rows rest e

abbrev pub AreListed : List (List ℕ × Entry) → Type 0
AreListed rows = AllByRecursion IsRow rows × (length rows < 2 ^ 32)

pub rows_law : Codec AreListed rows_field rows_in
rows_law = record {
  there = λ rows rest ok.
      let n = number_field 4 (length rows) in
      let one : number_in 4 ((n ++ flat_map row_field rows) ++ rest) ≡ Some (length rows, flat_map row_field rows ++ rest) =
      ap (number_in 4) (append_assoc n (flat_map row_field rows) rest) ∙ (number_law 4).there (length rows) (flat_map row_field rows ++ rest) ok.1 in
      ap (option_and_then (λ p. rows_by p.0 p.1)) one ∙ rows_there rows rest ok.0;
  back = λ bytes rows rest each e.
      let outer = and_then_some (λ p. rows_by p.0 p.1) (number_in 4 bytes) (rows, rest) e in
      let one = (number_law 4).back bytes outer.0.0 outer.0.1 each outer.1 in
      let behind : AreBytes outer.0.1 = (bytes_back (number_field 4 outer.0.0) outer.0.1 (subst AreBytes one.1 each)).1 in
      let two = rows_back outer.0.0 outer.0.1 rows rest behind outer.2 in
      let few : length rows < 2 ^ 32 = subst (λ n. n < 2 ^ 32) (sym two.0.1) one.0 in
      let size_is : number_field 4 outer.0.0 ≡ number_field 4 (length rows) = ap (number_field 4) (sym two.0.1) in
      ((two.0.0, few), one.1 ∙ ap (λ xs. number_field 4 outer.0.0 ++ xs) two.1 ∙ ap (λ xs. xs ++ (flat_map row_field rows ++ rest)) size_is ∙ sym (append_assoc (number_field 4 (length rows)) (flat_map row_field rows) rest));
}

-- ---- bytes

abbrev pub IsFew : List ℕ → Type 0
IsFew bytes = length bytes < 2 ^ 32

pub bytes_law : Codec IsFew bytes_field (sized_in 4)
bytes_law = sized_law 4

abbrev pub IsShort : List ℕ → Type 0
IsShort bytes = length bytes ≤ MAX_PIECE

pub piece_law : Codec IsShort bytes_field piece_in
piece_law = made_law (FewFor 4) IsShort bytes_field (sized_in 4) piece_by (λ bytes. bytes) (sized_law 4)
    (λ bytes ok. (omega (arith, ok), ap (λ b. cond b (Some bytes) None) (le-leb (length bytes) MAX_PIECE ok)))
    (λ bytes found few is. let e = cond_some (nat_le (length bytes) MAX_PIECE) bytes found is in (subst IsShort e.1 (leb-true (length bytes) MAX_PIECE e.0), e.1))

-- ---- who asks

who_law : Codec (λ who. (who.0 < 2 ^ 128) × ((who.1.0 < 2 ^ 32) × (who.1.1 < 2 ^ 64))) (λ who. number_field 16 who.0 ++ (number_field 4 who.1.0 ++ number_field 8 who.1.1)) (both (number_in 16) (both (number_in 4) (number_in 8)))
who_law = both_law (FitsIn 16) (λ p. FitsIn 4 p.0 × FitsIn 8 p.1) (number_field 16) (λ p. number_field 4 p.0 ++ number_field 8 p.1) (number_in 16) (both (number_in 4) (number_in 8)) (number_law 16)
    (both_law (FitsIn 4) (FitsIn 8) (number_field 4) (number_field 8) (number_in 4) (number_in 8) (number_law 4) (number_law 8))

session_there : (who : Who) (rest : List ℕ) → IsAsking who → who_in (who_field who ++ rest) ≡ Some (who, rest)
session_there Editor rest ok = absurd ok
session_there (Session id run cycle) rest ok = ap (mapped (λ who. Session who.0 who.1.0 who.1.1)) (who_law.there (id, (run, cycle)) rest ok)

pub session_law : Codec IsAsking who_field who_in
session_law = record {
  there = session_there;
  back = λ bytes who rest each e.
      mapped_back (λ w. Session w.0 w.1.0 w.1.1) (both (number_in 16) (both (number_in 4) (number_in 8)) bytes) (λ w behind. IsAsking w × (bytes ≡ who_field w ++ behind))
      (λ w behind r. who_law.back bytes w behind each r) who rest e;
}
