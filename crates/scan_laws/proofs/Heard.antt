-- What one answer more says of the paths.
use Rattle.std.proofs.Common.{◌≡◌, ℕ, Bool, true, false, cond, ◌||◌, List, [], ◌∷◌, ◌++◌, length, bytes_eq, flat_map, refl, sym, ap, ◌∙◌, Option, Some, None}
use Rattle.std.proofs.Common.{map as list_map}
use Rattle.std.specs.List.{list_any}
use Rattle.std.specs.Option.{is_some}
use Rattle.std.specs.Ordering.{eq_by_cmp}
use Rattle.std.proofs.lemmas.Grind.{flat_map-append}
use Rattle.std.proofs.lemmas.List.Folds.{list_any-append}
use Rattle.sync_path.specs.Path.{path_cmp, parent_of, last_name}
use Rattle.sync_path.proofs.Ends.{last_name-push}
use Rattle.entry_tree.specs.Tree.{Names}
use Rattle.entry_tree.specs.declared.entry.Entry.{Entry}
use Rattle.entry_tree.proofs.Paths.{name_is, name_itself}
use Rattle.entry_tree.proofs.Trees.{parent-child, tie_is}
use Rattle.ignore_glob.specs.Grammar.{Meaning}
use Rattle.roots_api.specs.declared.answer.Answer.{Answer}
use Rattle.roots_api.specs.declared.op.Op.{Op}
use Rattle.scan_laws.specs.Seen.{Heard, same_path, row_named, rows_of, row_by, held_by, named_by, paths_in}
use Rattle.scan_laws.proofs.Boards.{row_at}
use Rattle.scan_laws.proofs.Points.{Bytes, with_heard, listed_in, fetched_in, held_in}
use Rattle.scan_laws.proofs.Seeing.{last_of, last_child, itself}

pub some_true : {X : Type 0} (o : Option X) (x : X) → o ≡ Some x → is_some o ≡ true
some_true o x e = ap is_some e

-- ---- paths

pub same_child : (f : Names) (n k : List ℕ) → eq_by_cmp path_cmp (f ++ n ∷ []) (f ++ k ∷ []) ≡ bytes_eq n k
same_child f n k =
    elim (eq_by_cmp path_cmp (f ++ n ∷ []) (f ++ k ∷ [])) as (λ b. eq_by_cmp path_cmp (f ++ n ∷ []) (f ++ k ∷ []) ≡ b → b ≡ bytes_eq n k) [
      | true ↦ λ e.
          let same : n ≡ k = sym (last_child [] f n) ∙ ap (last_of []) (tie_is (f ++ n ∷ []) (f ++ k ∷ []) e) ∙ last_child [] f k in
          sym (ap (bytes_eq n) (sym same) ∙ name_itself n)
      | false ↦ λ e. elim (bytes_eq n k) as (λ c. bytes_eq n k ≡ c → false ≡ c) [
        | true ↦ λ h. sym e ∙ ap (λ m. eq_by_cmp path_cmp (f ++ n ∷ []) (f ++ m ∷ [])) (sym (name_is n k h)) ∙ itself (f ++ n ∷ [])
        | false ↦ λ h. refl
      ] refl
    ] refl

pub row_at-named : (f : Names) (n : List ℕ) (rows : List (List ℕ × Entry)) → row_named n rows ≡ row_at f (f ++ n ∷ []) rows
row_at-named f n [] = refl
row_at-named f n (row ∷ rows) = (λ i. cond (sym (same_child f n row.0) i) (Some row.1) (row_at-named f n rows i))

pub row_elsewhere : (f q : Names) (rows : List (List ℕ × Entry)) → (parent_of q ≡ Some f → ⊥) → row_at f q rows ≡ None
row_elsewhere f q [] apart = refl
row_elsewhere f q (row ∷ rows) apart =
    elim (eq_by_cmp path_cmp q (f ++ row.0 ∷ [])) as (λ b. eq_by_cmp path_cmp q (f ++ row.0 ∷ []) ≡ b → cond b (Some row.1) (row_at f q rows) ≡ None) [
      | true ↦ λ e. absurd (apart (ap parent_of (tie_is q (f ++ row.0 ∷ []) e) ∙ parent-child f row.0))
      | false ↦ λ e. row_elsewhere f q rows apart
    ] refl

-- ---- named paths

-- whether a path is the root, or a row names it
abbrev pub is_named : List (Heard Bytes) → Names → Bool
is_named hs q = list_any (same_path q) (paths_in hs)

pub or_left : (a b : Bool) → a ≡ true → (a || b) ≡ true
or_left true b h = refl
or_left false b h = absurd (cc)

or_right : (a b : Bool) → b ≡ true → (a || b) ≡ true
or_right true b h = refl
or_right false b h = h

or_more : (a b c : Bool) → (a || b) ≡ true → (a || (b || c)) ≡ true
or_more true b c h = refl
or_more false b c h = or_left b c h

module _ (hs : List (Heard Bytes)) (op : Op) (answer : Answer Bytes) (q : Names) where
  named_with : is_named (with_heard hs op answer) q
      ≡ (same_path q [] || (list_any (same_path q) (flat_map (λ (h : Heard Bytes). named_by h.op h.answer) hs) || list_any (same_path q) (flat_map (λ (h : Heard Bytes). named_by h.op h.answer) ((record { op = op; answer = answer }) ∷ []))))
  named_with =
      ap (λ l. same_path q [] || list_any (same_path q) l) (flat_map-append (λ (h : Heard Bytes). named_by h.op h.answer) hs ((record { op = op; answer = answer }) ∷ []))
      ∙ ap (λ b. same_path q [] || b) (list_any-append (same_path q) (flat_map (λ (h : Heard Bytes). named_by h.op h.answer) hs) (flat_map (λ (h : Heard Bytes). named_by h.op h.answer) ((record { op = op; answer = answer }) ∷ [])))

  -- a named path stays named
  pub still_named : is_named hs q ≡ true → is_named (with_heard hs op answer) q ≡ true
  still_named h = named_with ∙ or_more (same_path q []) (list_any (same_path q) (flat_map (λ (h : Heard Bytes). named_by h.op h.answer) hs)) _ h

  pub named_now : list_any (same_path q) (named_by op answer) ≡ true → is_named (with_heard hs op answer) q ≡ true
  named_now h =
      named_with
      ∙ or_right (same_path q []) _ (or_right (list_any (same_path q) (flat_map (λ (h : Heard Bytes). named_by h.op h.answer) hs)) _
      (list_any-append (same_path q) (named_by op answer) [] ∙ or_left (list_any (same_path q) (named_by op answer)) false h))

pub row_names : (f q : Names) (rows : List (List ℕ × Entry)) → is_some (row_at f q rows) ≡ true → list_any (same_path q) (list_map (λ row. f ++ row.0 ∷ []) rows) ≡ true
row_names f q [] h = absurd (cc)
row_names f q (row ∷ rows) h =
    elim (eq_by_cmp path_cmp q (f ++ row.0 ∷ [])) as (λ b. is_some (cond b (Some row.1) (row_at f q rows)) ≡ true → (b || list_any (same_path q) (list_map (λ r. f ++ r.0 ∷ []) rows)) ≡ true) [
      | true ↦ λ g. refl
      | false ↦ λ g. row_names f q rows g
    ] h

-- ---- what was held

module _ (rules : List Meaning) (size : ℕ) where
  -- what the row of a path's folder says, by what was heard
  abbrev pub row_in : List (Heard Bytes) → Names → Option Entry
  row_in hs q = row_by length rules size hs (parent_of q) (last_name q)

  -- it is the same where the same rows were listed of the folder
  row_by_same : (hs more : List (Heard Bytes)) (up : Option Names) (name : Option (List ℕ))
      → ((f : Names) → up ≡ Some f → rows_of (listed_in rules size more f) ≡ rows_of (listed_in rules size hs f)) → row_by length rules size more up name ≡ row_by length rules size hs up name
  row_by_same hs more None name same = refl
  row_by_same hs more (Some f) None same = refl
  row_by_same hs more (Some f) (Some n) same = ap (row_named n) (same f refl)

  pub row_same : (hs more : List (Heard Bytes)) (q : Names) → ((f : Names) → parent_of q ≡ Some f → rows_of (listed_in rules size more f) ≡ rows_of (listed_in rules size hs f)) → row_in more q ≡ row_in hs q
  row_same hs more q same = row_by_same hs more (parent_of q) (last_name q) same

  pub held_same : (hs more : List (Heard Bytes)) (q : Names)
      → ((f : Names) → parent_of q ≡ Some f → rows_of (listed_in rules size more f) ≡ rows_of (listed_in rules size hs f))
      → listed_in rules size more q ≡ listed_in rules size hs q → held_in rules size more q ≡ held_in rules size hs q
  held_same hs more q rows same = (λ i. held_by (same i) (row_by_same hs more (parent_of q) (last_name q) rows i))

  -- what is held at a child that wasn't listed
  pub held_child : (hs : List (Heard Bytes)) (f : Names) (n : List ℕ) → listed_in rules size hs (f ++ n ∷ []) ≡ None
      → held_in rules size hs (f ++ n ∷ []) ≡ row_named n (rows_of (listed_in rules size hs f))
  held_child hs f n none =
      (λ i. held_by (none i) (row_by length rules size hs (parent-child f n i) (last_name-push f n i)))

  -- nothing was heard below what wasn't listed
  pub record Quiet (hs : List (Heard Bytes)) : Type 0 where
    pub unlisted : (f : Names) (n : List ℕ) → listed_in rules size hs f ≡ None → listed_in rules size hs (f ++ n ∷ []) ≡ None
    pub unfetched : (f : Names) (n : List ℕ) → listed_in rules size hs f ≡ None → fetched_in rules size hs (f ++ n ∷ []) ≡ []

  -- so where something is held below it, a folder was listed
  pub folder_listed : (hs : List (Heard Bytes)) → Quiet hs → (f : Names) (n : List ℕ) (e : Entry) → held_in rules size hs (f ++ n ∷ []) ≡ Some e → listed_in rules size hs f ≡ None → ⊥
  folder_listed hs quiet f n e held none =
      let nothing : None ≡ Some e = sym (held_child hs f n (quiet.unlisted f n none) ∙ ap (λ (l : Option (Answer Bytes)). row_named n (rows_of l)) none) ∙ held in
      absurd (cc)
