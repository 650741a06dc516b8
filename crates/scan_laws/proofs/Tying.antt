-- A scan's state is what the points say of what was heard.
use Rattle.std.proofs.Common.{◌≡◌, inl, inr, ℕ, Bool, true, false, cond, ◌&&◌, T, List, [], ◌∷◌, ◌++◌, length, sum_by, refl, sym, ap, subst, ◌∙◌, Option, Some, None}
use Rattle.std.proofs.Common.{map as list_map}
use Rattle.std.proofs.Common.{IsFalse, option_map}
use Rattle.std.specs.Prelude.{unwrap_or}
use Rattle.std.specs.FinMap as map
use Rattle.std.specs.FinMap.Entries.{below_all}
use Rattle.std.specs.Cmp.Lexicographic.{slice_cmp}
use Rattle.std.specs.List.{AllByRecursion}
use Rattle.std.specs.List.Sorted.{IsStrictlySortedBy}
use Rattle.std.specs.Option.{is_some}
use Rattle.std.specs.Ordering.{nat_cmp, eq_by_cmp, is_lt}
use Rattle.std.specs.declared.cmp.Ordering.{Ordering}
use Rattle.std.specs.declared.cmp.Ordering.TheVariants.{Less, Equal, Greater}
use Rattle.std.proofs.lemmas.Map.Keys.{sorted_head, sorted_tail}
use Rattle.sync_path.specs.Path.{path_cmp, may_follow, parent_of}
use Rattle.sync_path.specs.PathOrder.{path_cmp_total}
use Rattle.entry_tree.specs.Entry.{is_dir as is_folder}
use Rattle.entry_tree.specs.Tree.{Names, ByPath, holds_folder}
use Rattle.entry_tree.specs.declared.atom.Atom.{Atom}
use Rattle.entry_tree.specs.declared.atom.Atom.TheVariants as atom
use Rattle.entry_tree.specs.declared.entry.Entry.{Entry}
use Rattle.entry_tree.specs.declared.entry.Entry.TheVariants as entry
use Rattle.entry_tree.specs.declared.entry.Stamp.{Stamp}
use Rattle.entry_tree.proofs.Trees.{parent-child, tie_is, root_or_child}
use Rattle.ignore_glob.specs.Grammar.{Meaning}
use Rattle.roots_api.specs.Answers.{AreRows}
use Rattle.roots_api.specs.declared.answer.Answer.{Answer}
use Rattle.roots_api.specs.declared.answer.Answer.TheVariants.{Listed, Held}
use Rattle.roots_api.specs.declared.op.Op.TheVariants.{List as OpList}
use Rattle.scan_cache.specs.declared.line.Line.{Line}
use Rattle.scan_core.specs.Board.{placed, with_row, with_rows, first_in, without_in, advanced}
use Rattle.scan_core.specs.Scan.{ScanState}
use Rattle.scan_core.specs.declared.board.Board.{Board}
use Rattle.scan_core.specs.declared.wanted.Next.{Next}
use Rattle.scan_core.specs.declared.wanted.Wanted.{Wanted}
use Rattle.scan_core.specs.declared.wanted.Wanted.TheVariants.{Names as WantedNames, Content}
use Rattle.scan_laws.specs.Meeting.{spared_by}
use Rattle.scan_laws.specs.Standing.{is_file}
use Rattle.scan_laws.specs.Seen.{Heard, row_named, rows_of, held_by, piece_len}
use Rattle.scan_laws.proofs.Boards.{put_at, put_nothing, is_none, asked_at_once, shown_at_once, stamped_at_once, nothing_stamped, placed_later, placed_seen, placed_stamps, row_at, over, rows_hold}
use Rattle.scan_laws.proofs.Firsts.{rest_entries}
use Rattle.scan_laws.proofs.Heard.{is_named, still_named, named_now, row_names, row_at-named, row_elsewhere, row_in, held_same, held_child, Quiet, folder_listed}
use Rattle.scan_laws.proofs.Needs.{Spells, NeedsNames, needs_names, need_fresh, settled_fresh}
use Rattle.scan_laws.proofs.Points.{Bytes, with_heard, listed_in, fetched_in, held_in, listed-other, listed-here, fetched-list, atom_of, need, settled, need_in, settled_in}
use Rattle.scan_laws.proofs.Seeing.{listed as with_folder, listed_stands, child_open, children_open, row_goes, still_open, child_apart, itself}
use Rattle.scan_laws.proofs.Standing.{Stands, IsOpen, shown_at}

-- ---- files that were seen stay seen

pub record Keeps (b after : Board) : Type 0 where
  pub seen : (q : Names) (x : Atom) → map.get b.seen q ≡ Some x → map.get after.seen q ≡ Some x
  pub stamps : (q : Names) (s : Stamp) → map.get b.stamps q ≡ Some s → map.get after.stamps q ≡ Some s

pub spelt_before : (digest : Names → Stamp → List ℕ) (b after : Board) → Keeps b after → Spells digest after → Spells digest b
spelt_before digest b after keeps s = record { spells = λ q d exec stamp seen stamped. s.spells q d exec stamp (keeps.seen q (atom.File d exec) seen) (keeps.stamps q stamp stamped) }

-- what is put where nothing was leaves the rest
pub put_keeps : {X : Type 0} (g h : Names → Option X) (p : Names) (here : Option X) → g p ≡ None → ((q : Names) → h q ≡ put_at q p here (g q)) → (q : Names) (x : X) → g q ≡ Some x → h q ≡ Some x
put_keeps g h p here none is q x there =
    is q
    ∙ elim (eq_by_cmp path_cmp q p) as (λ c. eq_by_cmp path_cmp q p ≡ c → cond c here (g q) ≡ Some x) [
      | true ↦ λ e. absurd (let clash : None ≡ Some x = sym none ∙ ap g (sym (tie_is q p e)) ∙ there in cc)
      | false ↦ λ e. there
    ] refl

keeps_all : (b : Board) → Keeps b b
keeps_all b = record { seen = λ q x h. h; stamps = λ q s h. h }

keeps_on : (a b c : Board) → Keeps a b → Keeps b c → Keeps a c
keeps_on a b c h k = record { seen = λ q x there. k.seen q x (h.seen q x there); stamps = λ q s there. k.stamps q s (h.stamps q s there) }

module _ (rules : List Meaning) (cache : ByPath Line) where
  pub placed_keeps : (b : Board) (stands : Stands b) (p : Names) (free : IsOpen b p) (e : Entry) → Keeps b (placed rules cache b p e)
  placed_keeps b stands p free e = record {
    seen = put_keeps (map.get b.seen) (map.get (placed rules cache b p e).seen) p _ free.wantable.fresh (placed_seen rules cache b stands p free e);
    stamps = put_keeps (map.get b.stamps) (map.get (placed rules cache b p e).stamps) p _ (nothing_stamped rules cache b stands p free) (placed_stamps rules cache b stands p free e);
  }

  row_keeps : (f : Names) (b : Board) (stands : Stands b) (row : List ℕ × Entry) (free : IsOpen b (f ++ row.0 ∷ [])) → Keeps b (with_row rules cache f b row)
  row_keeps f b stands row free =
      elim (may_follow f row.0) as (λ c. Keeps b (cond c (placed rules cache b (f ++ row.0 ∷ []) row.1) b)) [
        | true ↦ placed_keeps b stands (f ++ row.0 ∷ []) free row.1
        | false ↦ keeps_all b
      ]

  rows_keep : (f : Names) (b : Board) (rows : List (List ℕ × Entry)) → Stands b → IsStrictlySortedBy (slice_cmp nat_cmp) (list_map (λ row. row.0) rows)
      → AllByRecursion (λ row. IsOpen b (f ++ row.0 ∷ [])) rows → Keeps b (with_rows rules cache f b rows)
  rows_keep f b [] stands sorted open_rows = keeps_all b
  rows_keep f b (row ∷ rows) stands sorted open_rows =
      let goes = row_goes rules cache f b stands row open_rows.0 in
      keeps_on b (with_row rules cache f b row) (with_rows rules cache f (with_row rules cache f b row) rows) (row_keeps f b stands row open_rows.0)
      (rows_keep f (with_row rules cache f b row) rows goes.stands_after (sorted_tail (slice_cmp nat_cmp) row.0 (list_map (λ r. r.0) rows) sorted)
      (still_open rules cache f b (with_row rules cache f b row) stands row.0 open_rows.0 goes rows (sorted_head (slice_cmp nat_cmp) row.0 (list_map (λ r. r.0) rows) sorted) open_rows.1))

-- ---- what ties a state to what was heard

module _ (rules : List Meaning) (size : ℕ) (before : ByPath Line) where
  -- at a path of which nothing is asked just now
  pub record PointTied (hs : List (Heard Bytes)) (b : Board) (q : Names) : Type 0 where
    pub needed : map.get b.later q ≡ need_in rules size (spared_by before) hs q
    pub seen : (digest : Names → Stamp → List ℕ) → Spells digest b → map.get b.seen q ≡ settled_in rules size (spared_by before) digest hs q
    pub fresh : is_some (map.get b.later q) ≡ true → fetched_in rules size hs q ≡ []
    pub named : is_some (map.get b.later q) ≡ true → is_named hs q ≡ true

  -- the cache has its first lines where nothing was fetched
  pub record Lines (cache : ByPath Line) (hs : List (Heard Bytes)) : Type 0 where
    pub same : (q : Names) → fetched_in rules size hs q ≡ [] → map.get cache q ≡ map.get before q

  -- where nothing is asked just now
  pub record Settles (cache : ByPath Line) (hs : List (Heard Bytes)) (b : Board) : Type 0 where
    pub quiet : Quiet rules size hs
    pub lines : Lines cache hs
    pub points : (q : Names) → PointTied hs b q

  abbrev pub Bare : Wanted → List (Answer Bytes) → Type 0
  Bare WantedNames f = f ≡ []
  Bare (Content stamp exec) f = Unit

  -- what is asked just now
  pub record InCourse (hs : List (Heard Bytes)) (later : ByPath Wanted) (begun : Bytes) (p : Names) (w : Wanted) : Type 0 where
    pub needed : need_in rules size (spared_by before) hs p ≡ Some w
    pub named : is_named hs p ≡ true
    pub least : (q : Names) → is_some (map.get later q) ≡ true → path_cmp p q ≡ Less
    pub counted : sum_by (piece_len length) (fetched_in rules size hs p) ≡ length begun
    pub bare : Bare w (fetched_in rules size hs p)

  abbrev pub NextTied : List (Heard Bytes) → ByPath Wanted → Bytes → Option Next → Type 0
  NextTied hs later begun None = (q : Names) → map.get later q ≡ None
  NextTied hs later begun (Some next) = InCourse hs later begun next.path next.wanted

  -- whether this is the path of which something is asked just now
  abbrev pub is_at : Option Next → Names → Bool
  is_at None q = false
  is_at (Some next) q = eq_by_cmp path_cmp q next.path

  pub record Tied (cache : ByPath Line) (hs : List (Heard Bytes)) (s : ScanState) : Type 0 where
    pub quiet : Quiet rules size hs
    pub lines : Lines cache hs
    pub points : (q : Names) → is_at s.board.next q ≡ false → PointTied hs s.board q
    pub next : NextTied hs s.board.later s.begun s.board.next

  -- ---- the first of what is needed is asked

  below_least : (k : Names) (es : List (Names × Wanted)) → T (below_all path_cmp k es) → (q : Names) → is_some (map.find path_cmp q es) ≡ true → path_cmp k q ≡ Less
  below_least k [] h q there = absurd (cc)
  below_least k (e ∷ es) h q there =
      elim (eq_by_cmp path_cmp q e.0) as (λ c. eq_by_cmp path_cmp q e.0 ≡ c → is_some (cond c (Some e.1) (map.find path_cmp q es)) ≡ true → path_cmp k q ≡ Less) [
        | true ↦ λ is g. ap (path_cmp k) (tie_is q e.0 is) ∙ less_is (path_cmp k e.0) (left_t (is_lt (path_cmp k e.0)) _ h)
        | false ↦ λ is g. below_least k es (right_t (is_lt (path_cmp k e.0)) _ h) q g
      ] refl there
    where
      left_t : (a b : Bool) → T (a && b) → T a
      left_t true b p = tt
      left_t false b p = p

      right_t : (a b : Bool) → T (a && b) → T b
      right_t true b p = p
      right_t false b p = absurd p

      less_is : (r : Ordering) → T (is_lt r) → r ≡ Less
      less_is Less p = refl
      less_is Equal p = absurd p
      less_is Greater p = absurd p

  abbrev advanced_with : Board → List (Names × Wanted) → Board
  advanced_with b es = record { next = first_in es; later = without_in b.later es; rows = b.rows; seen = b.seen; stamps = b.stamps }

  none_found : (b : Board) → map.entries b.later ≡ [] → (q : Names) → map.get b.later q ≡ None
  none_found b is q = map.get-entries b.later q ∙ ap (map.find path_cmp q) is

  advanced_ties : (cache : ByPath Line) (hs : List (Heard Bytes)) (b : Board) (es : List (Names × Wanted)) → map.entries b.later ≡ es → Settles cache hs b
      → Tied cache hs (record { board = advanced_with b es; begun = [] })
  advanced_ties cache hs b [] is s = record {
    quiet = s.quiet;
    lines = s.lines;
    points = λ q h. let at = s.points q in record { needed = at.needed; seen = λ digest spells. at.seen digest (record { spells = spells.spells }); fresh = at.fresh; named = at.named };
    next = none_found b is;
  }
  advanced_ties cache hs b (e ∷ es) is s =
      let there : map.get b.later e.0 ≡ Some e.1 = map.get-entries b.later e.0 ∙ ap (map.find path_cmp e.0) is ∙ ap (λ c. cond c (Some e.1) (map.find path_cmp e.0 es)) (itself e.0) in
      let first = s.points e.0 in
      let bare : fetched_in rules size hs e.0 ≡ [] = first.fresh (ap is_some there) in
      let rest : map.entries (map.remove b.later e.0) ≡ es = rest_entries b.later e es is in
      let sorted : T (map.is_sorted path_cmp (e ∷ es)) = subst (λ l. T (map.is_sorted path_cmp l)) is (map.entries_sorted b.later) in
      record {
        quiet = s.quiet;
        lines = s.lines;
        points = λ q apart.
            let at = s.points q in
            let same : map.get (map.remove b.later e.0) q ≡ map.get b.later q = map.get-remove path_cmp_total b.later e.0 q ∙ ap (λ c. cond c None (map.get b.later q)) apart in
            record {
              needed = same ∙ at.needed;
              seen = λ digest spells. at.seen digest (record { spells = spells.spells });
              fresh = λ h. at.fresh (ap is_some (sym same) ∙ h);
              named = λ h. at.named (ap is_some (sym same) ∙ h);
            };
        next = record {
          needed = sym first.needed ∙ there;
          named = first.named (ap is_some there);
          least = λ q h. below_least e.0 es (front (below_all path_cmp e.0 es) _ sorted) q (ap is_some (sym (map.get-entries (map.remove b.later e.0) q ∙ ap (map.find path_cmp q) rest)) ∙ h);
          counted = ap (sum_by (piece_len length)) bare;
          bare = bare_for e.1 (fetched_in rules size hs e.0) bare;
        };
      }
    where
      front : (a b : Bool) → T (a && b) → T a
      front true b p = tt
      front false b p = p

      bare_for : (w : Wanted) (f : List (Answer Bytes)) → f ≡ [] → Bare w f
      bare_for WantedNames f h = h
      bare_for (Content stamp exec) f h = tt

  pub next_ties : (cache : ByPath Line) (hs : List (Heard Bytes)) (b : Board) → Settles cache hs b → Tied cache hs (record { board = advanced b; begun = [] })
  next_ties cache hs b s = advanced_ties cache hs b (map.entries b.later) refl s

  -- ---- a point that stays as it is

  pub same_point : (hs more : List (Heard Bytes)) (b after : Board) (q : Names) → PointTied hs b q → Keeps b after
      → listed_in rules size more q ≡ listed_in rules size hs q → fetched_in rules size more q ≡ fetched_in rules size hs q → held_in rules size more q ≡ held_in rules size hs q
      → map.get after.later q ≡ map.get b.later q → map.get after.seen q ≡ map.get b.seen q → (is_named hs q ≡ true → is_named more q ≡ true) → PointTied more after q
  same_point hs more b after q at keeps l f o later seen named = record {
    needed = later ∙ at.needed ∙ (λ i. need rules size (spared_by before) q (sym l i) (sym f i) (sym o i));
    seen = λ digest spells. seen ∙ at.seen digest (spelt_before digest b after keeps spells) ∙ (λ i. settled rules size (spared_by before) digest q (sym l i) (sym f i) (sym o i));
    fresh = λ h. f ∙ at.fresh (ap is_some (sym later) ∙ h);
    named = λ h. named (at.named (ap is_some (sym later) ∙ h));
  }

  -- a point of which nothing was fetched, and where an entry was gone through
  pub fresh_point : (more : List (Heard Bytes)) (cache : ByPath Line) (after : Board) (q : Names) (o : Option Entry) → map.get cache q ≡ map.get before q → fetched_in rules size more q ≡ [] → held_in rules size more q ≡ o
      → (o ≡ Some entry.Dir → listed_in rules size more q ≡ None) → map.get after.later q ≡ over o (asked_at_once rules cache q) None → map.get after.seen q ≡ over o (shown_at_once rules cache q) None
      → map.get after.stamps q ≡ over o (stamped_at_once rules cache q) None → (is_some o ≡ true → is_named more q ≡ true) → PointTied more after q
  fresh_point more cache after q o line f held unlisted later seen stamped named = record {
    needed = later ∙ need_fresh rules size before cache q line (listed_in rules size more q) o unlisted ∙ (λ i. need rules size (spared_by before) q (listed_in rules size more q) (sym f i) (sym held i));
    seen = λ digest spells.
        settled_fresh rules size before cache q line (listed_in rules size more q) digest after spells o unlisted seen stamped
        ∙ (λ i. settled rules size (spared_by before) digest q (listed_in rules size more q) (sym f i) (sym held i));
    fresh = λ h. f;
    named = λ h. named (elim o as (λ x. map.get after.later q ≡ over x (asked_at_once rules cache q) None → is_some x ≡ true) [
      | Some e ↦ λ l. refl
      | None ↦ λ l. absurd (let clash : false ≡ true = sym (ap is_some l) ∙ h in cc)
    ] later);
  }

  -- ---- the answer to a List

  module _ (cache : ByPath Line) (hs : List (Heard Bytes)) (b : Board) (begun : Bytes) (stands : Stands b) (p : Names) (free : IsOpen b p)
      (quiet : Quiet rules size hs) (lines : Lines cache hs) (points : (q : Names) → eq_by_cmp path_cmp q p ≡ false → PointTied hs b q) (course : InCourse hs b.later begun p WantedNames) where
    needs : NeedsNames rules size (spared_by before) p (listed_in rules size hs p) (held_in rules size hs p)
    needs = needs_names rules size (spared_by before) p (listed_in rules size hs p) (fetched_in rules size hs p) (held_in rules size hs p) course.needed

    bare : fetched_in rules size hs p ≡ []
    bare = course.bare

    -- the folder of the path was listed
    not_its_folder : (f : Names) → parent_of p ≡ Some f → listed_in rules size hs f ≡ None → ⊥
    not_its_folder f up none =
        elim (root_or_child p) [
          | inl is_root ↦ (let clash : None ≡ Some f = ap parent_of (sym is_root) ∙ up in absurd (cc))
          | inr child ↦
              (let folder : child.0 ≡ f = some_is child.0 f (sym (parent-child child.0 child.1) ∙ ap parent_of (sym child.2) ∙ up) in
              folder_listed rules size hs quiet child.0 child.1 entry.Dir (ap (held_in rules size hs) (sym child.2) ∙ needs.held_is) (ap (listed_in rules size hs) folder ∙ none))
        ]
      where
        some_is : (x y : Names) → Some x ≡ Some y → x ≡ y
        some_is x y h = ap (λ (o : Option Names). unwrap_or o x) h

    module _ (answer : Answer Bytes) where
      abbrev more : List (Heard Bytes)
      more = with_heard hs (OpList p) answer

      list_elsewhere : (q : Names) → eq_by_cmp path_cmp q p ≡ false → listed_in rules size more q ≡ listed_in rules size hs q
      list_elsewhere q apart = listed-other rules size hs p answer q apart

      list_here : listed_in rules size more p ≡ Some answer
      list_here = listed-here rules size hs p answer needs.unlisted (itself p)

      fetched_as_before : (q : Names) → fetched_in rules size more q ≡ fetched_in rules size hs q
      fetched_as_before q = fetched-list rules size hs p answer q

      list_quiet : Quiet rules size more
      list_quiet =
          let before_it : (f : Names) → listed_in rules size more f ≡ None → listed_in rules size hs f ≡ None =
          λ f none. elim (eq_by_cmp path_cmp f p) as (λ c. eq_by_cmp path_cmp f p ≡ c → listed_in rules size hs f ≡ None) [
            | true ↦ λ e. absurd (let clash : Some answer ≡ None = sym list_here ∙ ap (listed_in rules size more) (sym (tie_is f p e)) ∙ none in cc)
            | false ↦ λ e. sym (list_elsewhere f e) ∙ none
          ] refl in
          record {
            unlisted = λ f n none. elim (eq_by_cmp path_cmp (f ++ n ∷ []) p) as (λ c. eq_by_cmp path_cmp (f ++ n ∷ []) p ≡ c → listed_in rules size more (f ++ n ∷ []) ≡ None) [
              | true ↦ λ e. absurd (not_its_folder f (ap parent_of (sym (tie_is (f ++ n ∷ []) p e)) ∙ parent-child f n) (before_it f none))
              | false ↦ λ e. list_elsewhere (f ++ n ∷ []) e ∙ quiet.unlisted f n (before_it f none)
            ] refl;
            unfetched = λ f n none. fetched_as_before (f ++ n ∷ []) ∙ quiet.unfetched f n (before_it f none);
          }

      list_lines : Lines cache more
      list_lines = record { same = λ q none. lines.same q (sym (fetched_as_before q) ∙ none) }

    -- what was held there instead
    module _ (found : Option Entry) (no_folder : IsFalse (holds_folder is_folder found)) where
      not_dir : found ≡ Some entry.Dir → ⊥
      not_dir is = absurd (let clash : true ≡ false = sym (ap (holds_folder is_folder) is) ∙ no_folder in cc)

      rows_as_before : (f : Names) → rows_of (listed_in rules size (more (Held found)) f) ≡ rows_of (listed_in rules size hs f)
      rows_as_before f = elim (eq_by_cmp path_cmp f p) as (λ c. eq_by_cmp path_cmp f p ≡ c → rows_of (listed_in rules size (more (Held found)) f) ≡ rows_of (listed_in rules size hs f)) [
        | true ↦ λ e.
            let is : f ≡ p = tie_is f p e in
            ap (λ q. rows_of (listed_in rules size (more (Held found)) q)) is ∙ ap rows_of (list_here (Held found)) ∙ sym (ap rows_of (ap (listed_in rules size hs) is ∙ needs.unlisted))
        | false ↦ λ e. ap rows_of (list_elsewhere (Held found) f e)
      ] refl

      held_here : held_in rules size (more (Held found)) p ≡ found
      held_here = ap (λ (l : Option (Answer Bytes)). held_by l (row_in rules size (more (Held found)) p)) (list_here (Held found))

      held_settles : (after : Board) → Keeps b after → ((q : Names) → map.get after.later q ≡ put_at q p (over found (asked_at_once rules cache p) None) (map.get b.later q))
          → ((q : Names) → map.get after.seen q ≡ put_at q p (over found (shown_at_once rules cache p) None) (map.get b.seen q))
          → ((q : Names) → map.get after.stamps q ≡ put_at q p (over found (stamped_at_once rules cache p) None) (map.get b.stamps q)) → Settles cache (more (Held found)) after
      held_settles after keeps later seen stamps = record {
        quiet = list_quiet (Held found);
        lines = list_lines (Held found);
        points = λ q. elim (eq_by_cmp path_cmp q p) as (λ c. eq_by_cmp path_cmp q p ≡ c → PointTied (more (Held found)) after q) [
          | true ↦ λ e. subst (PointTied (more (Held found)) after) (sym (tie_is q p e))
              (fresh_point (more (Held found)) cache after p found (lines.same p bare) (fetched_as_before (Held found) p ∙ bare) held_here (λ is. absurd (not_dir is))
              (later p ∙ ap (λ c. cond c (over found (asked_at_once rules cache p) None) (map.get b.later p)) (itself p))
              (seen p ∙ ap (λ c. cond c (over found (shown_at_once rules cache p) None) (map.get b.seen p)) (itself p))
              (stamps p ∙ ap (λ c. cond c (over found (stamped_at_once rules cache p) None) (map.get b.stamps p)) (itself p))
              (λ h. still_named hs (OpList p) (Held found) p course.named))
          | false ↦ λ e. same_point hs (more (Held found)) b after q (points q e) keeps (list_elsewhere (Held found) q e) (fetched_as_before (Held found) q)
              (held_same rules size hs (more (Held found)) q (λ f up. rows_as_before f) (list_elsewhere (Held found) q e))
              (later q ∙ ap (λ c. cond c (over found (asked_at_once rules cache p) None) (map.get b.later q)) e)
              (seen q ∙ ap (λ c. cond c (over found (shown_at_once rules cache p) None) (map.get b.seen q)) e)
              (still_named hs (OpList p) (Held found) q)
        ] refl;
      }

    pub nothing_held : Settles cache (more (Held None)) b
    nothing_held = held_settles None refl b (keeps_all b) (put_nothing (map.get b.later) p (is_none (map.get b.later p) free.unasked))
        (put_nothing (map.get b.seen) p free.wantable.fresh) (put_nothing (map.get b.stamps) p (nothing_stamped rules cache b stands p free))

    pub entry_held : (e : Entry) → IsFalse (holds_folder is_folder (Some e)) → Settles cache (more (Held (Some e))) (placed rules cache b p e)
    entry_held e no_folder = held_settles (Some e) no_folder (placed rules cache b p e) (placed_keeps rules cache b stands p free e)
        (placed_later rules cache b stands p free e) (placed_seen rules cache b stands p free e) (placed_stamps rules cache b stands p free e)

    -- the rows of a folder
    module _ (rows : List (List ℕ × Entry)) (are : AreRows p rows) where
      abbrev folder : Board
      folder = with_folder b stands p free (length rows)

      abbrev all : Board
      all = with_rows rules cache p folder rows

      abbrev told : List (Heard Bytes)
      told = more (Listed rows)

      folder_is : Stands folder
      folder_is = listed_stands b stands p free (length rows)

      open_rows : AllByRecursion (λ row. IsOpen folder (p ++ row.0 ∷ [])) rows
      open_rows = children_open b stands p free (length rows) rows

      folder_seen : (q : Names) → map.get folder.seen q ≡ put_at q p (Some atom.Dir) (map.get b.seen q)
      folder_seen q = shown_at b.seen stands.closed p free.wantable atom.Dir q

      all_later : (q : Names) → map.get all.later q ≡ over (row_at p q rows) (asked_at_once rules cache q) (map.get b.later q)
      all_later q = rows_hold rules cache p (λ c r. map.get c.later r) (asked_at_once rules cache) (placed_later rules cache) folder rows folder_is are.rise are.follow open_rows q

      all_seen : (q : Names) → map.get all.seen q ≡ over (row_at p q rows) (shown_at_once rules cache q) (map.get folder.seen q)
      all_seen q = rows_hold rules cache p (λ c r. map.get c.seen r) (shown_at_once rules cache) (placed_seen rules cache) folder rows folder_is are.rise are.follow open_rows q

      all_stamps : (q : Names) → map.get all.stamps q ≡ over (row_at p q rows) (stamped_at_once rules cache q) (map.get b.stamps q)
      all_stamps q = rows_hold rules cache p (λ c r. map.get c.stamps r) (stamped_at_once rules cache) (placed_stamps rules cache) folder rows folder_is are.rise are.follow open_rows q

      all_keep : Keeps b all
      all_keep = keeps_on b folder all
          (record { seen = put_keeps (map.get b.seen) (map.get folder.seen) p (Some atom.Dir) free.wantable.fresh folder_seen; stamps = λ q s h. h })
          (rows_keep rules cache p folder rows folder_is are.rise open_rows)

      no_row_here : row_at p p rows ≡ None
      no_row_here = row_elsewhere p p rows (λ up. not_own_parent p up)
        where
          not_own_parent : (q : Names) → parent_of q ≡ Some q → ⊥
          not_own_parent q up = elim (root_or_child q) [
            | inl is_root ↦ (let clash : None ≡ Some q = ap parent_of (sym is_root) ∙ up in absurd (cc))
            | inr child ↦
                (let own : child.0 ≡ q = ap (λ (o : Option Names). unwrap_or o q) (sym (parent-child child.0 child.1) ∙ ap parent_of (sym child.2) ∙ up) in
                let apart : eq_by_cmp path_cmp q q ≡ false = ap (λ z. eq_by_cmp path_cmp z q) child.2 ∙ ap (eq_by_cmp path_cmp (child.0 ++ child.1 ∷ [])) (sym own) ∙ child_apart child.0 child.1 in
                let clash : true ≡ false = sym (itself q) ∙ apart in
                absurd (cc))
          ]

      held_now : held_in rules size told p ≡ Some entry.Dir
      held_now = ap (λ (l : Option (Answer Bytes)). held_by l (row_in rules size told p)) (list_here (Listed rows))

      need_now : need_in rules size (spared_by before) told p ≡ None
      need_now =
          (λ i. need rules size (spared_by before) p (list_here (Listed rows) i) (fetched_in rules size told p) (held_now i))
          ∙ ap (λ c. cond c None None) needs.followed

      later_now : map.get all.later p ≡ None
      later_now = all_later p ∙ ap (λ o. over o (asked_at_once rules cache p) (map.get b.later p)) no_row_here ∙ is_none (map.get b.later p) free.unasked

      folder_point : PointTied told all p
      folder_point = record {
        needed = later_now ∙ sym need_now;
        seen = λ digest spells.
            all_seen p ∙ ap (λ o. over o (shown_at_once rules cache p) (map.get folder.seen p)) no_row_here
            ∙ folder_seen p ∙ ap (λ c. cond c (Some atom.Dir) (map.get b.seen p)) (itself p)
            ∙ (λ i. cond (is_some (sym need_now i)) None (Some (cond (sym needs.followed i) atom.Untracked atom.Dir)))
            ∙ (λ i. cond (is_some (need_in rules size (spared_by before) told p)) None (option_map (atom_of rules size (spared_by before) digest p (fetched_in rules size told p)) (sym held_now i)));
        fresh = λ h. absurd (let clash : false ≡ true = sym (ap is_some later_now) ∙ h in cc);
        named = λ h. absurd (let clash : false ≡ true = sym (ap is_some later_now) ∙ h in cc);
      }

      child_point : (n : List ℕ) → PointTied told all (p ++ n ∷ [])
      child_point n =
          let q = p ++ n ∷ [] in
          let open_child = child_open b stands p free (length rows) n in
          let unlisted : listed_in rules size told q ≡ None = list_elsewhere (Listed rows) q (child_apart p n) ∙ quiet.unlisted p n needs.unlisted in
          let unfetched : fetched_in rules size told q ≡ [] = fetched_as_before (Listed rows) q ∙ quiet.unfetched p n needs.unlisted in
          let held_is : held_in rules size told q ≡ row_at p q rows =
          held_child rules size told p n unlisted ∙ ap (λ (l : Option (Answer Bytes)). row_named n (rows_of l)) (list_here (Listed rows)) ∙ row_at-named p n rows in
          fresh_point told cache all q (row_at p q rows) (lines.same q (quiet.unfetched p n needs.unlisted)) unfetched held_is (λ is. unlisted)
          (all_later q ∙ ap (over (row_at p q rows) (asked_at_once rules cache q)) (is_none (map.get b.later q) open_child.unasked))
          (all_seen q ∙ ap (over (row_at p q rows) (shown_at_once rules cache q)) open_child.wantable.fresh)
          (all_stamps q ∙ ap (over (row_at p q rows) (stamped_at_once rules cache q)) (is_none (map.get b.stamps q) (folder_is.stamped q ∙ ap is_file open_child.wantable.fresh)))
          (λ h. named_now hs (OpList p) (Listed rows) q (row_names p q rows h))

      other_point : (q : Names) → eq_by_cmp path_cmp q p ≡ false → (parent_of q ≡ Some p → ⊥) → PointTied told all q
      other_point q apart no_child =
          same_point hs told b all q (points q apart) all_keep (list_elsewhere (Listed rows) q apart) (fetched_as_before (Listed rows) q)
          (held_same rules size hs told q
          (λ f up. elim (eq_by_cmp path_cmp f p) as (λ c. eq_by_cmp path_cmp f p ≡ c → rows_of (listed_in rules size told f) ≡ rows_of (listed_in rules size hs f)) [
            | true ↦ λ e. absurd (no_child (up ∙ ap (λ (x : Names). Some x) (tie_is f p e)))
            | false ↦ λ e. ap rows_of (list_elsewhere (Listed rows) f e)
          ] refl)
          (list_elsewhere (Listed rows) q apart))
          (all_later q ∙ ap (λ o. over o (asked_at_once rules cache q) (map.get b.later q)) (row_elsewhere p q rows no_child))
          (all_seen q ∙ ap (λ o. over o (shown_at_once rules cache q) (map.get folder.seen q)) (row_elsewhere p q rows no_child) ∙ folder_seen q ∙ ap (λ c. cond c (Some atom.Dir) (map.get b.seen q)) apart)
          (still_named hs (OpList p) (Listed rows) q)

      below_point : (q : Names) → eq_by_cmp path_cmp q p ≡ false → PointTied told all q
      below_point q apart =
          elim (root_or_child q) [
            | inl is_root ↦ other_point q apart (λ up. absurd (let clash : None ≡ Some p = ap parent_of (sym is_root) ∙ up in cc))
            | inr child ↦ (elim (eq_by_cmp path_cmp child.0 p) as (λ c. eq_by_cmp path_cmp child.0 p ≡ c → PointTied told all q) [
              | true ↦ λ e. subst (PointTied told all) (sym (child.2 ∙ ap (λ f. f ++ child.1 ∷ []) (tie_is child.0 p e))) (child_point child.1)
              | false ↦ λ e. other_point q apart (λ up.
                  let same : child.0 ≡ p = ap (λ (o : Option Names). unwrap_or o p) (sym (parent-child child.0 child.1) ∙ ap parent_of (sym child.2) ∙ up) in
                  let clash : true ≡ false = sym (itself p) ∙ ap (λ f. eq_by_cmp path_cmp f p) (sym same) ∙ e in
                  absurd (cc))
            ] refl)
          ]

      pub rows_settle : Settles cache told all
      rows_settle = record {
        quiet = list_quiet (Listed rows);
        lines = list_lines (Listed rows);
        points = λ q. elim (eq_by_cmp path_cmp q p) as (λ c. eq_by_cmp path_cmp q p ≡ c → PointTied told all q) [
          | true ↦ λ e. subst (PointTied told all) (sym (tie_is q p e)) folder_point
          | false ↦ λ e. below_point q e
        ] refl;
      }
