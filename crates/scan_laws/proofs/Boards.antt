-- What a board holds at each path once an entry, or the rows of a folder, were gone through.
use Rattle.std.proofs.Common.{◌≡◌, ℕ, Bool, true, false, not, cond, List, [], ◌∷◌, ◌++◌, IsTrue, refl, sym, ap, ◌∙◌, Option, Some, None, option_map}
use Rattle.std.proofs.Common.{map as list_map}
use Rattle.std.specs.FinMap as map
use Rattle.std.specs.Cmp.{tied_itself}
use Rattle.std.specs.Cmp.Lexicographic.{slice_cmp, nat_list_cmp_total}
use Rattle.std.specs.List.{AllByRecursion}
use Rattle.std.specs.List.Sorted.{IsStrictlySortedBy}
use Rattle.std.specs.Option.{is_some}
use Rattle.std.specs.Ordering.{nat_cmp, eq_by_cmp}
use Rattle.std.specs.declared.cmp.Ordering.TheVariants.{Less, Equal}
use Rattle.std.proofs.lemmas.Map.Keys.{sorted_head, sorted_tail}
use Rattle.sync_path.specs.Path.{path_cmp, may_follow}
use Rattle.sync_path.specs.PathOrder.{path_cmp_total}
use Rattle.entry_tree.specs.Tree.{Names, ByPath}
use Rattle.entry_tree.specs.declared.atom.Atom.{Atom}
use Rattle.entry_tree.specs.declared.atom.Atom.TheVariants as atom
use Rattle.entry_tree.specs.declared.entry.Entry.{Entry}
use Rattle.entry_tree.specs.declared.entry.Entry.TheVariants as entry
use Rattle.entry_tree.specs.declared.entry.Stamp.{Stamp}
use Rattle.entry_tree.specs.declared.tree_error.TreeError.{TreeError}
use Rattle.entry_tree.proofs.Trees.{tie_is}
use Rattle.ignore_glob.specs.Grammar.{Meaning}
use Rattle.scan_cache.specs.Cache.{digest_for}
use Rattle.scan_cache.specs.declared.line.Line.{Line}
use Rattle.scan_core.specs.Board.{may_stand, shows, left_alone, placed_file, placed_as, placed, with_row, with_rows}
use Rattle.scan_core.specs.declared.board.Board.{Board}
use Rattle.scan_core.specs.declared.wanted.Wanted.{Wanted}
use Rattle.scan_core.specs.declared.wanted.Wanted.TheVariants.{Names as WantedNames, Content}
use Rattle.scan_laws.specs.Standing.{is_file}
use Rattle.scan_laws.proofs.Seeing.{last_of, last_child, row_goes, still_open}
use Rattle.scan_laws.proofs.Standing.{Stands, IsOpen, shown_at}

-- a value at one path, and what is there at the others
abbrev pub put_at : {X : Type 0} → Names → Names → Option X → Option X → Option X
put_at q p here there = cond (eq_by_cmp path_cmp q p) here there

-- where nothing is at a path, putting nothing there changes nothing
pub put_nothing : {X : Type 0} (g : Names → Option X) (p : Names) → g p ≡ None → (q : Names) → g q ≡ put_at q p None (g q)
put_nothing g p none q =
    elim (eq_by_cmp path_cmp q p) as (λ c. eq_by_cmp path_cmp q p ≡ c → g q ≡ cond c None (g q)) [
      | true ↦ λ e. ap g (tie_is q p e) ∙ none
      | false ↦ λ e. refl
    ] refl

pub is_none : {X : Type 0} (o : Option X) → is_some o ≡ false → o ≡ None
is_none None h = refl
is_none (Some x) h = absurd (cc)

module _ (rules : List Meaning) (cache : ByPath Line) where
  -- what is asked of an entry at a path, if anything is
  abbrev pub asked_as : Names → Entry → Option Wanted
  asked_as q entry.Dir = Some WantedNames
  asked_as q (entry.File stamp exec) = cond (is_some (digest_for cache q stamp)) None (Some (Content stamp exec))
  asked_as q (entry.Link text) = None
  asked_as q entry.Other = None

  abbrev pub asked_at_once : Names → Entry → Option Wanted
  asked_at_once q e = cond (left_alone rules q e) None (asked_as q e)

  -- what is seen of it at once
  abbrev pub shown_as : Names → Entry → Option Atom
  shown_as q entry.Dir = None
  shown_as q (entry.File stamp exec) = option_map (λ digest. atom.File digest exec) (digest_for cache q stamp)
  shown_as q (entry.Link text) = Some (atom.Link text)
  shown_as q entry.Other = Some atom.Untracked

  abbrev pub shown_at_once : Names → Entry → Option Atom
  shown_at_once q e = cond (left_alone rules q e) (Some atom.Untracked) (shown_as q e)

  -- and its stamp, if a file is seen
  abbrev pub stamped_as : Names → Entry → Option Stamp
  stamped_as q entry.Dir = None
  stamped_as q (entry.File stamp exec) = option_map (λ digest. stamp) (digest_for cache q stamp)
  stamped_as q (entry.Link text) = None
  stamped_as q entry.Other = None

  abbrev pub stamped_at_once : Names → Entry → Option Stamp
  stamped_at_once q e = cond (left_alone rules q e) None (stamped_as q e)

  module _ (b : Board) (stands : Stands b) (p : Names) (free : IsOpen b p) where
    nothing_later : map.get b.later p ≡ None
    nothing_later = is_none (map.get b.later p) free.unasked

    pub nothing_stamped : map.get b.stamps p ≡ None
    nothing_stamped = is_none (map.get b.stamps p) (stands.stamped p ∙ ap is_file free.wantable.fresh)

    pub file_stamps : (stamp : Stamp) (q : Names) → map.get (cond (may_stand b.seen p) (map.insert b.stamps p stamp) b.stamps) q ≡ put_at q p (Some stamp) (map.get b.stamps q)
    file_stamps stamp q =
        ap (λ (r : Option TreeError). map.get (cond (not (is_some r)) (map.insert b.stamps p stamp) b.stamps) q) free.wantable.allowed
        ∙ map.get-insert path_cmp_total b.stamps p stamp q

    known_later : (stamp : Stamp) (exec : Bool) (known : Option (List ℕ)) (q : Names) → map.get (placed_file b p stamp exec known).later q ≡ put_at q p (cond (is_some known) None (Some (Content stamp exec))) (map.get b.later q)
    known_later stamp exec (Some digest) q = put_nothing (map.get b.later) p nothing_later q
    known_later stamp exec None q = map.get-insert path_cmp_total b.later p (Content stamp exec) q

    as_later : (e : Entry) (q : Names) → map.get (placed_as cache b p e).later q ≡ put_at q p (asked_as p e) (map.get b.later q)
    as_later entry.Dir q = map.get-insert path_cmp_total b.later p WantedNames q
    as_later (entry.File stamp exec) q = known_later stamp exec (digest_for cache p stamp) q
    as_later (entry.Link text) q = put_nothing (map.get b.later) p nothing_later q
    as_later entry.Other q = put_nothing (map.get b.later) p nothing_later q

    pub placed_later : (e : Entry) (q : Names) → map.get (placed rules cache b p e).later q ≡ put_at q p (asked_at_once p e) (map.get b.later q)
    placed_later e q =
        elim (left_alone rules p e) as (λ c. map.get (cond c (shows b p atom.Untracked) (placed_as cache b p e)).later q ≡ put_at q p (cond c None (asked_as p e)) (map.get b.later q)) [
          | true ↦ put_nothing (map.get b.later) p nothing_later q
          | false ↦ as_later e q
        ]

    known_seen : (stamp : Stamp) (exec : Bool) (known : Option (List ℕ)) (q : Names) → map.get (placed_file b p stamp exec known).seen q ≡ put_at q p (option_map (λ digest. atom.File digest exec) known) (map.get b.seen q)
    known_seen stamp exec (Some digest) q = shown_at b.seen stands.closed p free.wantable (atom.File digest exec) q
    known_seen stamp exec None q = put_nothing (map.get b.seen) p free.wantable.fresh q

    as_seen : (e : Entry) (q : Names) → map.get (placed_as cache b p e).seen q ≡ put_at q p (shown_as p e) (map.get b.seen q)
    as_seen entry.Dir q = put_nothing (map.get b.seen) p free.wantable.fresh q
    as_seen (entry.File stamp exec) q = known_seen stamp exec (digest_for cache p stamp) q
    as_seen (entry.Link text) q = shown_at b.seen stands.closed p free.wantable (atom.Link text) q
    as_seen entry.Other q = shown_at b.seen stands.closed p free.wantable atom.Untracked q

    pub placed_seen : (e : Entry) (q : Names) → map.get (placed rules cache b p e).seen q ≡ put_at q p (shown_at_once p e) (map.get b.seen q)
    placed_seen e q =
        elim (left_alone rules p e) as (λ c. map.get (cond c (shows b p atom.Untracked) (placed_as cache b p e)).seen q ≡ put_at q p (cond c (Some atom.Untracked) (shown_as p e)) (map.get b.seen q)) [
          | true ↦ shown_at b.seen stands.closed p free.wantable atom.Untracked q
          | false ↦ as_seen e q
        ]

    known_stamps : (stamp : Stamp) (exec : Bool) (known : Option (List ℕ)) (q : Names) → map.get (placed_file b p stamp exec known).stamps q ≡ put_at q p (option_map (λ digest. stamp) known) (map.get b.stamps q)
    known_stamps stamp exec (Some digest) q = file_stamps stamp q
    known_stamps stamp exec None q = put_nothing (map.get b.stamps) p nothing_stamped q

    as_stamps : (e : Entry) (q : Names) → map.get (placed_as cache b p e).stamps q ≡ put_at q p (stamped_as p e) (map.get b.stamps q)
    as_stamps entry.Dir q = put_nothing (map.get b.stamps) p nothing_stamped q
    as_stamps (entry.File stamp exec) q = known_stamps stamp exec (digest_for cache p stamp) q
    as_stamps (entry.Link text) q = put_nothing (map.get b.stamps) p nothing_stamped q
    as_stamps entry.Other q = put_nothing (map.get b.stamps) p nothing_stamped q

    pub placed_stamps : (e : Entry) (q : Names) → map.get (placed rules cache b p e).stamps q ≡ put_at q p (stamped_at_once p e) (map.get b.stamps q)
    placed_stamps e q =
        elim (left_alone rules p e) as (λ c. map.get (cond c (shows b p atom.Untracked) (placed_as cache b p e)).stamps q ≡ put_at q p (cond c None (stamped_as p e)) (map.get b.stamps q)) [
          | true ↦ put_nothing (map.get b.stamps) p nothing_stamped q
          | false ↦ as_stamps e q
        ]

-- ---- the rows of a folder

-- the entry that rows of a folder say to stand at a path
abbrev pub row_at : Names → Names → List (List ℕ × Entry) → Option Entry
row_at f q [] = None
row_at f q (row ∷ rows) = cond (eq_by_cmp path_cmp q (f ++ row.0 ∷ [])) (Some row.1) (row_at f q rows)

-- what an entry gives, if there is one, and else what is there
abbrev pub over : {X : Type 0} → Option Entry → (Entry → Option X) → Option X → Option X
over None g there = there
over (Some e) g there = g e

apart_names : (f : Names) (n k : List ℕ) → slice_cmp nat_cmp n k ≡ Less → eq_by_cmp path_cmp (f ++ n ∷ []) (f ++ k ∷ []) ≡ false
apart_names f n k less =
    elim (eq_by_cmp path_cmp (f ++ n ∷ []) (f ++ k ∷ [])) as (λ b. eq_by_cmp path_cmp (f ++ n ∷ []) (f ++ k ∷ []) ≡ b → b ≡ false) [
      | true ↦ λ e.
          let same : n ≡ k = sym (last_child [] f n) ∙ ap (last_of []) (tie_is (f ++ n ∷ []) (f ++ k ∷ []) e) ∙ last_child [] f k in
          let clash : Equal ≡ Less = sym (tied_itself nat_list_cmp_total n) ∙ ap (slice_cmp nat_cmp n) same ∙ less in
          absurd (cc)
      | false ↦ λ e. refl
    ] refl

-- no later row has the name of an earlier one
no_row : (f : Names) (n : List ℕ) (rows : List (List ℕ × Entry)) → AllByRecursion (λ k. slice_cmp nat_cmp n k ≡ Less) (list_map (λ row. row.0) rows) → row_at f (f ++ n ∷ []) rows ≡ None
no_row f n [] less = refl
no_row f n (row ∷ rows) less =
    ap (λ c. cond c (Some row.1) (row_at f (f ++ n ∷ []) rows)) (apart_names f n row.0 less.0) ∙ no_row f n rows less.1

module _ (rules : List Meaning) (cache : ByPath Line) (f : Names) where
  -- this is what a board holds at a path, and this is what an entry that is gone through gives there
  module _ {X : Type 0} (get : Board → Names → Option X) (gives : Names → Entry → Option X)
      (one : (b : Board) (stands : Stands b) (p : Names) (free : IsOpen b p) (e : Entry) (q : Names) → get (placed rules cache b p e) q ≡ put_at q p (gives p e) (get b q)) where
    row_holds : (b : Board) (stands : Stands b) (row : List ℕ × Entry) (free : IsOpen b (f ++ row.0 ∷ [])) → IsTrue (may_follow f row.0) → (q : Names)
        → get (with_row rules cache f b row) q ≡ put_at q (f ++ row.0 ∷ []) (gives (f ++ row.0 ∷ []) row.1) (get b q)
    row_holds b stands row free follows q =
        ap (λ c. get (cond c (placed rules cache b (f ++ row.0 ∷ []) row.1) b) q) follows ∙ one b stands (f ++ row.0 ∷ []) free row.1 q

    join : (q p : Names) (e : Entry) (rows : List (List ℕ × Entry)) (there : Option X) → row_at f p rows ≡ None
        → over (row_at f q rows) (gives q) (put_at q p (gives p e) there) ≡ over (cond (eq_by_cmp path_cmp q p) (Some e) (row_at f q rows)) (gives q) there
    join q p e rows there none =
        elim (eq_by_cmp path_cmp q p) as (λ c. eq_by_cmp path_cmp q p ≡ c → over (row_at f q rows) (gives q) (cond c (gives p e) there) ≡ over (cond c (Some e) (row_at f q rows)) (gives q) there) [
          | true ↦ λ is.
              let same : q ≡ p = tie_is q p is in
              ap (λ o. over o (gives q) (gives p e)) (ap (λ r. row_at f r rows) same ∙ none) ∙ ap (λ r. gives r e) (sym same)
          | false ↦ λ is. refl
        ] refl

    pub rows_hold : (b : Board) (rows : List (List ℕ × Entry)) → Stands b → IsStrictlySortedBy (slice_cmp nat_cmp) (list_map (λ row. row.0) rows)
        → AllByRecursion (λ row. IsTrue (may_follow f row.0)) rows → AllByRecursion (λ row. IsOpen b (f ++ row.0 ∷ [])) rows → (q : Names)
        → get (with_rows rules cache f b rows) q ≡ over (row_at f q rows) (gives q) (get b q)
    rows_hold b [] stands sorted follow open_rows q = refl
    rows_hold b (row ∷ rows) stands sorted follow open_rows q =
        let head = sorted_head (slice_cmp nat_cmp) row.0 (list_map (λ r. r.0) rows) sorted in
        let goes = row_goes rules cache f b stands row open_rows.0 in
        rows_hold (with_row rules cache f b row) rows goes.stands_after (sorted_tail (slice_cmp nat_cmp) row.0 (list_map (λ r. r.0) rows) sorted) follow.1
        (still_open rules cache f b (with_row rules cache f b row) stands row.0 open_rows.0 goes rows head open_rows.1) q
        ∙ ap (over (row_at f q rows) (gives q)) (row_holds b stands row open_rows.0 follow.0 q)
        ∙ join q (f ++ row.0 ∷ []) row.1 rows (get b q) (no_row f row.0 rows head)
