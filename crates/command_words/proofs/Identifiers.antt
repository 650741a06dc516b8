-- The identifiers of sessions.
use Rattle.std.proofs.Common.{◌≡◌, ℕ, ◌<◌, ◌^◌, ◌↔◌, Bool, true, false, cond, List, [], ◌++◌, length, take, drop, refl, sym, ap, ap₂, subst, ◌∙◌, Some, None, Option, arith, inl, codes, suc, zero}
use Rattle.std.specs.Prelude.{IsTrue, bytes_eq}
use Rattle.std.specs.Int.{to_be_bytes, from_be_bytes}
use Rattle.std.specs.Int.{bytes_high_first, byte_at}
use Rattle.std.specs.List.{All}
use Rattle.std.specs.Option.{unwrap_or}
use Rattle.std.proofs.lemmas.List.{take-append-drop}
use Rattle.std.proofs.lemmas.List.Elements.{All-nil, All-cons}
use Rattle.std.proofs.lemmas.Slice.Eq.{bytes_eq-Decides}
use Rattle.uuid.specs.Text.{lower, parsed}
use Rattle.uuid.proofs.RoundTrips.{parses_hyphenated}
use Rattle.uuid.proofs.OrderLemmas.{from_be_bytes-to_be_bytes_16}
use Rattle.command_words.specs.Identifier.{identifier_word, kind_by, kind_prefix, uuid_text, IsIdentifier}
use Rattle.command_words.specs.declared.identifier.Identifier.{Identifier}
use Rattle.command_words.specs.declared.session_kind.SessionKind.{SessionKind}
use Rattle.command_words.specs.declared.session_kind.SessionKind.TheVariants.{Sync, Forward}
use mir.Syntax.{w128}

byte_small : (k n : ℕ) → byte_at k n < 256
byte_small zero n = omega arith
byte_small (suc k) n = omega arith

bytes_small : (k n : ℕ) → All (λ b. b < 256) (bytes_high_first k n)
bytes_small zero n = All-nil (λ b. b < 256)
bytes_small (suc k) n = All-cons (λ b. b < 256) (byte_at k n) (bytes_high_first k n) (byte_small k n) (bytes_small k n)

pub uuid_parsed : (id : ℕ) → Some (to_be_bytes w128 id) ≡ parsed (uuid_text id)
uuid_parsed id = parses_hyphenated lower (to_be_bytes w128 id) (inl refl) refl (bytes_small 16 id)

-- a UUID tells its number
pub uuid_one : (m n : ℕ) → m < 2 ^ 128 → n < 2 ^ 128 → uuid_text m ≡ uuid_text n → m ≡ n
uuid_one m n h k e =
    let same : Some (to_be_bytes w128 m) ≡ Some (to_be_bytes w128 n) = uuid_parsed m ∙ ap parsed e ∙ sym (uuid_parsed n) in
    let bytes : to_be_bytes w128 m ≡ to_be_bytes w128 n = ap (λ (o : Option (List ℕ)). unwrap_or o []) same in
    sym (from_be_bytes-to_be_bytes_16 m h) ∙ ap (from_be_bytes w128) bytes ∙ from_be_bytes-to_be_bytes_16 n k

pub uuid_same : (text written : List ℕ) (id : ℕ) (b : Bool) → written ≡ uuid_text id → b ≡ bytes_eq written text → IsTrue b ↔ (text ≡ uuid_text id)
uuid_same text written id b w e = (
  λ t. sym ((bytes_eq-Decides written text).0 (sym e ∙ t)) ∙ w,
  λ h. e ∙ (bytes_eq-Decides written text).1 (w ∙ sym h),
)

pub uuid_none : (text : List ℕ) → ((u : List ℕ) × (parsed text ≡ Some u) → ⊥)
    → (id : ℕ) → (◌≡◌ {A = Option ℕ} None (Some id)) ↔ ((id < 2 ^ 128) × (text ≡ uuid_text id))
uuid_none text none id = (λ e. absurd (cc), λ h. absurd (none (to_be_bytes w128 id, ap parsed h.1 ∙ sym (uuid_parsed id))))

pub uuid_found : (text : List ℕ) (found : ℕ) → found < 2 ^ 128 → text ≡ uuid_text found
    → (id : ℕ) → (Some found ≡ Some id) ↔ ((id < 2 ^ 128) × (text ≡ uuid_text id))
uuid_found text found small is id = (
  λ e. let same : found ≡ id = cc in (subst (λ x. x < 2 ^ 128) same small, is ∙ ap uuid_text same),
  λ h. ap Some (uuid_one found id small h.0 (sym is ∙ h.1)),
)

pub uuid_other : (text uuid : List ℕ) (found : ℕ) → Some uuid ≡ parsed text → found ≡ from_be_bytes w128 uuid → (text ≡ uuid_text found → ⊥)
    → (id : ℕ) → (◌≡◌ {A = Option ℕ} None (Some id)) ↔ ((id < 2 ^ 128) × (text ≡ uuid_text id))
uuid_other text uuid found told is other id = (
  λ e. absurd (cc),
  λ h.
      let same : Some uuid ≡ Some (to_be_bytes w128 id) = told ∙ ap parsed h.1 ∙ sym (uuid_parsed id) in
      let bytes : uuid ≡ to_be_bytes w128 id = ap (λ (o : Option (List ℕ)). unwrap_or o []) same in
      let number : found ≡ id = is ∙ ap (from_be_bytes w128) bytes ∙ from_be_bytes-to_be_bytes_16 id h.0 in
      absurd (other (h.1 ∙ ap uuid_text (sym number))),
)

-- ---- the prefix of a kind

kind_read : (kind : SessionKind) → kind_by (kind_prefix kind) ≡ Some kind
kind_read Sync = refl
kind_read Forward = refl

kind_is : (prefix : List ℕ) (kind : SessionKind) → kind_by prefix ≡ Some kind → kind_prefix kind ≡ prefix
kind_is prefix kind h = by (bytes_eq prefix (codes "sync_")) (bytes_eq prefix (codes "fwrd_")) refl refl h
  where
    by : (a b : Bool) → bytes_eq prefix (codes "sync_") ≡ a → bytes_eq prefix (codes "fwrd_") ≡ b → cond a (Some Sync) (cond b (Some Forward) None) ≡ Some kind → kind_prefix kind ≡ prefix
    by true b p q h = subst (λ k. kind_prefix k ≡ prefix) (let k : Sync ≡ kind = cc in k) (sym ((bytes_eq-Decides prefix (codes "sync_")).0 p))
    by false true p q h = subst (λ k. kind_prefix k ≡ prefix) (let k : Forward ≡ kind = cc in k) (sym ((bytes_eq-Decides prefix (codes "fwrd_")).0 q))
    by false false p q h = absurd (cc)

front_of : (kind : SessionKind) (text : List ℕ) → take 5 (kind_prefix kind ++ text) ≡ kind_prefix kind
front_of Sync text = refl
front_of Forward text = refl

back_of : (kind : SessionKind) (text : List ℕ) → drop 5 (kind_prefix kind ++ text) ≡ text
back_of Sync text = refl
back_of Forward text = refl

long : (kind : SessionKind) (text : List ℕ) → length (kind_prefix kind ++ text) < 5 → ⊥
long Sync text h = absurd (omega arith)
long Forward text h = absurd (omega arith)

pub too_short : (word : List ℕ) → length word < 5 → (i : Identifier) → (◌≡◌ {A = Option Identifier} None (Some i)) ↔ (IsIdentifier i × (word ≡ identifier_word i))
too_short word short i = (λ e. absurd (cc), λ h. absurd (long i.kind (uuid_text i.id) (subst (λ w. length w < 5) h.1 short)))

pub no_kind : (word front : List ℕ) → front ≡ take 5 word → kind_by front ≡ None → (i : Identifier) → (◌≡◌ {A = Option Identifier} None (Some i)) ↔ (IsIdentifier i × (word ≡ identifier_word i))
no_kind word front f none i = (
  λ e. absurd (cc),
  λ h.
      let same : front ≡ kind_prefix i.kind = f ∙ ap (take 5) h.1 ∙ front_of i.kind (uuid_text i.id) in
      let k : None ≡ Some i.kind = sym none ∙ ap kind_by same ∙ kind_read i.kind in absurd (cc),
)

pub no_uuid : (word back : List ℕ) (found : Option Identifier) → found ≡ None → back ≡ drop 5 word
    → ((id : ℕ) → (◌≡◌ {A = Option ℕ} None (Some id)) ↔ ((id < 2 ^ 128) × (back ≡ uuid_text id)))
    → (i : Identifier) → (found ≡ Some i) ↔ (IsIdentifier i × (word ≡ identifier_word i))
no_uuid word back found none b read i = (
  λ e. absurd (cc),
  λ h. let k = (read i.id).1 (h.0, b ∙ ap (drop 5) h.1 ∙ back_of i.kind (uuid_text i.id)) in absurd (cc),
)

pub identified : (word front back : List ℕ) (kind : SessionKind) (id : ℕ) → front ≡ take 5 word → back ≡ drop 5 word → kind_by front ≡ Some kind
    → ((j : ℕ) → (Some id ≡ Some j) ↔ ((j < 2 ^ 128) × (back ≡ uuid_text j)))
    → (i : Identifier) → (Some (let i : Identifier = record { kind = kind; id = id } in i) ≡ Some i) ↔ (IsIdentifier i × (word ≡ identifier_word i))
identified word front back kind id f b k read i = (
  λ e.
      let own = (read id).0 refl in
      let same : record { kind = kind; id = id } ≡ i = cc in
      let whole : word ≡ kind_prefix kind ++ uuid_text id =
      sym (take-append-drop 5 word) ∙ ap₂ (λ x y. x ++ y) (sym f ∙ sym (kind_is front kind k)) (sym b ∙ own.1) in
      subst (λ (j : Identifier). IsIdentifier j × (word ≡ identifier_word j)) same (own.0, whole),
  λ h.
      let prefix : front ≡ kind_prefix i.kind = f ∙ ap (take 5) h.1 ∙ front_of i.kind (uuid_text i.id) in
      let kinds : Some kind ≡ Some i.kind = sym k ∙ ap kind_by prefix ∙ kind_read i.kind in
      let ids : Some id ≡ Some i.id = (read i.id).1 (h.0, b ∙ ap (drop 5) h.1 ∙ back_of i.kind (uuid_text i.id)) in
      let kind_same : kind ≡ i.kind = cc in
      let id_same : id ≡ i.id = cc in
      ap₂ (λ x y. Some (let j : Identifier = record { kind = x; id = y } in j)) kind_same id_same,
)
