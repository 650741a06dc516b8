-- Words that stand for one value.
use Rattle.std.proofs.Common.{◌≡◌, ℕ, true, not, cond, ◌&&◌, List, [], ◌∷◌, ◌++◌, codes, bytes_eq, take, drop, refl, sym, ap, ap₂, subst, ◌∙◌, arith, Option, Some, None}
use Rattle.std.specs.Prelude.{◌==◌}
use Rattle.std.specs.Fmt.{decimal}
use Rattle.std.specs.List.{AllByRecursion, list_all}
use Rattle.std.proofs.lemmas.Bool.Decides.{nat_tests}
use Rattle.std.proofs.lemmas.Fmt.{decimal_injective}
use Rattle.finite_maps.proofs.Constructors.{some_same}
use Rattle.hex.specs.Hex.{decode_sized, encode_lower}
use Rattle.hex.proofs.HexLemmas.{decode_sized-encode_lower}
use Rattle.line_words.specs.Lines.{AreBytes}
use Rattle.entry_tree.specs.Digest.{IsDigest}
use Rattle.entry_tree.proofs.Atoms.{is_bytes}
use Rattle.entry_tree.specs.declared.side.Side.{Side}
use Rattle.entry_tree.specs.declared.side.Side.TheVariants.{Alpha, Beta}
use Rattle.command_words.specs.Ascii.{is_label_byte}
use Rattle.command_words.specs.Cuts.{has_no}
use Rattle.command_words.specs.GivenName.{IsGivenName}
use Rattle.command_words.specs.Identifier.{identifier_word, IsIdentifier, kind_by, kind_prefix, uuid_text}
use Rattle.command_words.specs.Keywords.{halt_word, mode_word, phase_word, side_word}
use Rattle.command_words.specs.Label.{IsLabel, label_word}
use Rattle.command_words.specs.declared.identifier.Identifier.{Identifier}
use Rattle.command_words.specs.declared.label.Label.{Label}
use Rattle.command_words.specs.declared.session_kind.SessionKind.{SessionKind}
use Rattle.command_words.specs.declared.session_kind.SessionKind.TheVariants.{Sync, Forward}
use Rattle.command_words.proofs.Classes.{both}
use Rattle.command_words.proofs.Cutting.{one_cut}
use Rattle.command_words.proofs.Identifiers.{uuid_one}
use Rattle.command_words.proofs.KeywordWords.{one_mode, one_phase}
use Rattle.command_words.proofs.LabelWords.{label_bytes}
use Rattle.mode_rules.specs.declared.conflict.Reason.{Reason}
use Rattle.mode_rules.specs.declared.conflict.Reason.TheVariants.{Both, Blocked}
use Rattle.mode_rules.specs.declared.halt.Halt.{Halt}
use Rattle.mode_rules.specs.declared.halt.Halt.TheVariants.{RootDeleted, RootTypeChanged, RootEmptied}
use Rattle.mode_rules.specs.declared.mode.Mode.{Mode}
use Rattle.mode_rules.specs.declared.phase.Phase.{Phase}
use Rattle.reply_text.specs.Reports.{reason_word}
use Rattle.reply_text.specs.Rows.{forward_state_word, labels_words, name_word}
use Rattle.reply_text.specs.declared.forward_row.ForwardState.{ForwardState}
use Rattle.reply_text.specs.declared.forward_row.ForwardState.TheVariants.{Running, Paused}
use Rattle.reply_laws.specs.Kept.{IsName, IsNumber}

pub numbers_told : (m n : ℕ) → IsNumber m → IsNumber n → decimal m ≡ decimal n → m ≡ n
numbers_told m n h k e = decimal_injective m n h k e

-- ---- keywords

pub halt_by : List ℕ → Option Halt
halt_by word = cond (bytes_eq word (codes "root-deleted")) (Some RootDeleted) (cond (bytes_eq word (codes "root-type-changed")) (Some RootTypeChanged) (Some RootEmptied))

pub halt_back : (halt : Halt) → halt_by (halt_word halt) ≡ Some halt
unfolding halt_by
halt_back RootDeleted = refl
halt_back RootTypeChanged = refl
halt_back RootEmptied = refl

pub halts_told : (halt other : Halt) → halt_word halt ≡ halt_word other → halt ≡ other
halts_told halt other e = some_same halt other (sym (halt_back halt) ∙ ap halt_by e ∙ halt_back other)

pub side_by : List ℕ → Option Side
side_by word = cond (bytes_eq word (codes "alpha")) (Some Alpha) (Some Beta)

pub side_back : (side : Side) → side_by (side_word side) ≡ Some side
unfolding side_by
side_back Alpha = refl
side_back Beta = refl

pub sides_told : (side other : Side) → side_word side ≡ side_word other → side ≡ other
sides_told side other e = some_same side other (sym (side_back side) ∙ ap side_by e ∙ side_back other)

reason_by : List ℕ → Option Reason
reason_by word = cond (bytes_eq word (codes "both")) (Some Both) (Some Blocked)

reason_back : (reason : Reason) → reason_by (reason_word reason) ≡ Some reason
unfolding reason_by
reason_back Both = refl
reason_back Blocked = refl

pub reasons_told : (reason other : Reason) → reason_word reason ≡ reason_word other → reason ≡ other
reasons_told reason other e = some_same reason other (sym (reason_back reason) ∙ ap reason_by e ∙ reason_back other)

forward_by : List ℕ → Option ForwardState
forward_by word = cond (bytes_eq word (codes "running")) (Some Running) (Some Paused)

forward_back : (state : ForwardState) → forward_by (forward_state_word state) ≡ Some state
unfolding forward_by
forward_back Running = refl
forward_back Paused = refl

pub forwards_told : (state other : ForwardState) → forward_state_word state ≡ forward_state_word other → state ≡ other
forwards_told state other e = some_same state other (sym (forward_back state) ∙ ap forward_by e ∙ forward_back other)

pub modes_told : (mode other : Mode) → mode_word mode ≡ mode_word other → mode ≡ other
modes_told mode other e = some_same mode other (sym ((one_mode mode (mode_word mode)).1 refl) ∙ (one_mode other (mode_word mode)).1 e)

pub phases_told : (phase other : Phase) → phase_word phase ≡ phase_word other → phase ≡ other
phases_told phase other e = some_same phase other (sym ((one_phase phase (phase_word phase)).1 refl) ∙ (one_phase other (phase_word phase)).1 e)

-- ---- identifiers, names, digests, labels

front_of : (kind : SessionKind) (text : List ℕ) → kind_by (take 5 (kind_prefix kind ++ text)) ≡ Some kind
front_of Sync text = refl
front_of Forward text = refl

back_of : (kind : SessionKind) (text : List ℕ) → drop 5 (kind_prefix kind ++ text) ≡ text
back_of Sync text = refl
back_of Forward text = refl

pub identifiers_told : (i other : Identifier) → IsIdentifier i → IsIdentifier other → identifier_word i ≡ identifier_word other → i ≡ other
identifiers_told i other h k e =
    let kinds : i.kind ≡ other.kind =
    some_same i.kind other.kind (sym (front_of i.kind (uuid_text i.id)) ∙ ap (λ w. kind_by (take 5 w)) e ∙ front_of other.kind (uuid_text other.id)) in
    let texts : uuid_text i.id ≡ uuid_text other.id = sym (back_of i.kind (uuid_text i.id)) ∙ ap (drop 5) e ∙ back_of other.kind (uuid_text other.id) in
    ap₂ (λ x y. let j : Identifier = record { kind = x; id = y } in j) kinds (uuid_one i.id other.id h k texts)

dash_is_no_name : IsGivenName (codes "-") → ⊥
dash_is_no_name h = absurd (cc)

pub names_told : (name other : Option (List ℕ)) → IsName name → IsName other → name_word name ≡ name_word other → name ≡ other
names_told None None h k e = refl
names_told None (Some other) h k e = absurd (dash_is_no_name (subst IsGivenName (sym e) k))
names_told (Some name) None h k e = absurd (dash_is_no_name (subst IsGivenName e h))
names_told (Some name) (Some other) h k e = ap Some e

pub digests_told : (digest other : List ℕ) → IsDigest digest → AreBytes digest → IsDigest other → AreBytes other → encode_lower digest ≡ encode_lower other → digest ≡ other
digests_told digest other h hb k kb e =
    let same : decode_sized (encode_lower digest) 32 ≡ decode_sized (encode_lower other) 32 = ap (λ w. decode_sized w 32) e in
    let whole = sym (decode_sized-encode_lower digest 32 h (is_bytes digest hb)) ∙ same ∙ decode_sized-encode_lower other 32 k (is_bytes other kb) in cc

no_equals : (c : ℕ) → is_label_byte c ≡ true → not (c == 61) ≡ true
no_equals c h = grind (arith, nat_tests)

have_no_equals : (bs : List ℕ) → list_all is_label_byte bs ≡ true → has_no 61 bs ≡ true
have_no_equals [] h = refl
have_no_equals (b ∷ bs) h =
    let parts = both (is_label_byte b) (list_all is_label_byte bs) h in
    ap₂ (λ x y. x && y) (no_equals b parts.0) (have_no_equals bs parts.1)

label_told : (label other : Label) → IsLabel label → IsLabel other → label_word label ≡ label_word other → label ≡ other
label_told label other h k e =
    let parts = one_cut 61 label.key label.value other.key other.value e (have_no_equals label.key (label_bytes label.key h.0)) (have_no_equals other.key (label_bytes other.key k.0)) in
    ap₂ (λ x y. let l : Label = record { key = x; value = y } in l) parts.0 parts.1

pub labels_told : (labels others : List Label) → AllByRecursion IsLabel labels → AllByRecursion IsLabel others → labels_words labels ≡ labels_words others → labels ≡ others
labels_told [] [] h k e = refl
labels_told [] (other ∷ others) h k e = absurd (cc)
labels_told (label ∷ labels) [] h k e = absurd (cc)
labels_told (label ∷ labels) (other ∷ others) h k e =
    let word : label_word label ≡ label_word other = cc in
    let rest : labels_words labels ≡ labels_words others = cc in
    ap₂ (λ l ls. l ∷ ls) (label_told label other h.0 k.0 word) (labels_told labels others h.1 k.1 rest)
