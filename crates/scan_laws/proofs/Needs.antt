-- What is needed and what is settled at a path, by what was heard of it.
use Rattle.std.proofs.Common.{◌≡◌, ℕ, Bool, true, false, cond, ◌||◌, List, [], ◌∷◌, length, nat_lt, sum_by, refl, sym, ap, ◌∙◌, Option, Some, None, option_map, option_and_then, arith}
use Rattle.std.specs.FinMap as map
use Rattle.std.specs.List.{list_any}
use Rattle.std.specs.Option.{is_some}
use Rattle.entry_tree.specs.Tree.{Names, ByPath}
use Rattle.entry_tree.specs.declared.atom.Atom.{Atom}
use Rattle.entry_tree.specs.declared.atom.Atom.TheVariants as atom
use Rattle.entry_tree.specs.declared.entry.Entry.{Entry}
use Rattle.entry_tree.specs.declared.entry.Entry.TheVariants as entry
use Rattle.entry_tree.specs.declared.entry.Stamp.{Stamp}
use Rattle.entry_tree.specs.declared.problem_kind.ProblemKind.{ProblemKind}
use Rattle.entry_tree.specs.declared.problem_kind.ProblemKind.TheVariants as problem
use Rattle.ignore_glob.specs.Grammar.{Meaning}
use Rattle.roots_api.specs.declared.answer.Answer.{Answer}
use Rattle.roots_api.specs.declared.op.Op.TheVariants.{List as OpList, Fetch}
use Rattle.scan_cache.specs.Cache.{digest_for, line_of}
use Rattle.scan_cache.specs.declared.line.Line.{Line}
use Rattle.scan_core.specs.Board.{left_alone}
use Rattle.scan_core.specs.Scan.{asked_at}
use Rattle.scan_core.specs.declared.board.Board.{Board}
use Rattle.scan_core.specs.declared.wanted.Wanted.{Wanted}
use Rattle.scan_core.specs.declared.wanted.Wanted.TheVariants.{Names as WantedNames, Content}
use Rattle.scan_laws.specs.Meeting.{spared_by}
use Rattle.scan_laws.specs.Seen.{Heard, first_one, is_last, piece_len, file_atom, wanted_of, wanted_as, wanted_at, atom_as, atom_at, seen_so_far}
use Rattle.scan_laws.proofs.Boards.{asked_as, asked_at_once, shown_as, shown_at_once, stamped_as, stamped_at_once, over, is_none}
use Rattle.scan_laws.proofs.Points.{Bytes, listed_in, fetched_in, held_in, problem_of, need_as, need_of, need, atom_by, atom_of, settled, need_in, settled_in}

-- digests that a board's files and stamps spell
pub record Spells (digest : Names → Stamp → List ℕ) (b : Board) : Type 0 where
  pub spells : (q : Names) (d : List ℕ) (exec : Bool) (stamp : Stamp) → map.get b.seen q ≡ Some (atom.File d exec) → map.get b.stamps q ≡ Some stamp → digest q stamp ≡ d

nothing_less : (n : ℕ) → nat_lt n 0 ≡ false
nothing_less n = grind arith

or_false : (b : Bool) → (b || false) ≡ b
or_false true = refl
or_false false = refl

or_true : (b : Bool) → (b || true) ≡ true
or_true true = refl
or_true false = refl

cond_same : {X : Type 0} (c : Bool) (x : X) → cond c x x ≡ x
cond_same true x = refl
cond_same false x = refl

module _ (rules : List Meaning) (size : ℕ) where
  pub no_problem_yet : problem_of rules size [] ≡ None
  no_problem_yet = ap (λ c. first_one (cond c (problem.TooLarge ∷ []) [])) (nothing_less size)

  module _ (spares : Names → Stamp → Bool) where
    -- ---- the definitions of what is asked and seen, by needs

    wanted_entry : (hs : List (Heard Bytes)) (q : Names) (e : Entry) (bytes : ℕ) → sum_by (piece_len length) (fetched_in rules size hs q) ≡ bytes
        → wanted_of length rules size hs spares q e ≡ option_map (asked_at bytes q) (need_of rules size spares q (listed_in rules size hs q) (fetched_in rules size hs q) e)
    wanted_entry hs q entry.Dir bytes is =
        elim (left_alone rules q entry.Dir) as (λ c. cond c None (wanted_as length rules size hs spares q entry.Dir) ≡ option_map (asked_at bytes q) (cond c None (need_as rules size spares q (listed_in rules size hs q) (fetched_in rules size hs q) entry.Dir))) [
          | true ↦ refl
          | false ↦ elim (is_some (listed_in rules size hs q)) as (λ l. cond l None (Some (OpList q)) ≡ option_map (asked_at bytes q) (cond l None (Some WantedNames))) [ true ↦ refl | false ↦ refl ]
        ]
    wanted_entry hs q (entry.File stamp exec) bytes is =
        elim (left_alone rules q (entry.File stamp exec)) as (λ c. cond c None (wanted_as length rules size hs spares q (entry.File stamp exec)) ≡ option_map (asked_at bytes q) (cond c None (need_as rules size spares q (listed_in rules size hs q) (fetched_in rules size hs q) (entry.File stamp exec)))) [
          | true ↦ refl
          | false ↦ elim (spares q stamp || (is_some (problem_of rules size (fetched_in rules size hs q)) || list_any is_last (fetched_in rules size hs q)))
              as (λ l. cond l None (Some (Fetch q stamp (sum_by (piece_len length) (fetched_in rules size hs q)))) ≡ option_map (asked_at bytes q) (cond l None (Some (Content stamp exec)))) [
                | true ↦ refl
                | false ↦ ap (λ n. Some (Fetch q stamp n)) is
              ]
        ]
    wanted_entry hs q (entry.Link text) bytes is =
        elim (left_alone rules q (entry.Link text)) as (λ c. cond c None None ≡ option_map (asked_at bytes q) (cond c None None)) [ true ↦ refl | false ↦ refl ]
    wanted_entry hs q entry.Other bytes is =
        elim (left_alone rules q entry.Other) as (λ c. cond c None None ≡ option_map (asked_at bytes q) (cond c None None)) [ true ↦ refl | false ↦ refl ]

    wanted_held : (hs : List (Heard Bytes)) (q : Names) (bytes : ℕ) (o : Option Entry) → sum_by (piece_len length) (fetched_in rules size hs q) ≡ bytes
        → option_and_then (wanted_of length rules size hs spares q) o ≡ option_map (asked_at bytes q) (need rules size spares q (listed_in rules size hs q) (fetched_in rules size hs q) o)
    wanted_held hs q bytes None is = refl
    wanted_held hs q bytes (Some e) is = wanted_entry hs q e bytes is

    pub wanted_is : (hs : List (Heard Bytes)) (q : Names) (bytes : ℕ) → sum_by (piece_len length) (fetched_in rules size hs q) ≡ bytes
        → wanted_at length rules size hs spares q ≡ option_map (asked_at bytes q) (need_in rules size spares hs q)
    wanted_is hs q bytes is = wanted_held hs q bytes (held_in rules size hs q) is

    some_mapped : {X Y : Type 0} (f : X → Y) (o : Option X) → is_some (option_map f o) ≡ is_some o
    some_mapped f None = refl
    some_mapped f (Some x) = refl

    pub wanted_some : (hs : List (Heard Bytes)) (q : Names) → is_some (wanted_at length rules size hs spares q) ≡ is_some (need_in rules size spares hs q)
    wanted_some hs q = ap is_some (wanted_is hs q (sum_by (piece_len length) (fetched_in rules size hs q)) refl) ∙ some_mapped (asked_at (sum_by (piece_len length) (fetched_in rules size hs q)) q) (need_in rules size spares hs q)

    atom_as_same : (digest : Names → Stamp → List ℕ) (hs : List (Heard Bytes)) (q : Names) (e : Entry) → atom_as length rules size hs digest q e ≡ atom_by rules size spares digest q (fetched_in rules size hs q) e
    atom_as_same digest hs q entry.Dir = refl
    atom_as_same digest hs q (entry.File stamp exec) = refl
    atom_as_same digest hs q (entry.Link text) = refl
    atom_as_same digest hs q entry.Other = refl

    pub seen_held : (digest : Names → Stamp → List ℕ) (hs : List (Heard Bytes)) (q : Names) (o : Option Entry) → option_map (atom_at length rules size hs digest q) o ≡ option_map (atom_of rules size spares digest q (fetched_in rules size hs q)) o
    seen_held digest hs q None = refl
    seen_held digest hs q (Some e) = ap (λ (x : Atom). Some (cond (left_alone rules q e) atom.Untracked x)) (atom_as_same digest hs q e)

    pub seen_is : (digest : Names → Stamp → List ℕ) (hs : List (Heard Bytes)) (q : Names) → seen_so_far length rules size hs spares digest q ≡ settled_in rules size spares digest hs q
    seen_is digest hs q = (λ i. cond (wanted_some hs q i) None (seen_held digest hs q (held_in rules size hs q) i))

    -- ---- a file's point

    module _ (q : Names) (l : Option (Answer Bytes)) (f : List (Answer Bytes)) (stamp : Stamp) (exec : Bool)
        (followed : left_alone rules q (entry.File stamp exec) ≡ false) (unspared : spares q stamp ≡ false) (found : Option ProblemKind) (is_found : problem_of rules size f ≡ found) (last : Bool) (is_end : list_any is_last f ≡ last) where
      pub need_file : need rules size spares q l f (Some (entry.File stamp exec)) ≡ cond (is_some found || last) None (Some (Content stamp exec))
      need_file = (λ i. cond (followed i) None (cond (unspared i || (is_some (is_found i) || is_end i)) None (Some (Content stamp exec))))

      pub settled_file : (digest : Names → Stamp → List ℕ) → settled rules size spares digest q l f (Some (entry.File stamp exec))
          ≡ cond (is_some (cond (is_some found || last) None (Some (Content stamp exec)))) None (Some (file_atom (digest q stamp) exec found))
      settled_file digest = (λ i. cond (is_some (need_file i)) None (Some (cond (followed i) atom.Untracked (file_atom (digest q stamp) exec (is_found i)))))

    -- ---- what a need says

    pub record NeedsNames (q : Names) (l : Option (Answer Bytes)) (o : Option Entry) : Type 0 where
      pub held_is : o ≡ Some entry.Dir
      pub followed : left_alone rules q entry.Dir ≡ false
      pub unlisted : l ≡ None

    pub record NeedsContent (q : Names) (f : List (Answer Bytes)) (o : Option Entry) (stamp : Stamp) (exec : Bool) : Type 0 where
      pub held_is : o ≡ Some (entry.File stamp exec)
      pub followed : left_alone rules q (entry.File stamp exec) ≡ false
      pub unspared : spares q stamp ≡ false
      pub unmet : problem_of rules size f ≡ None
      pub unended : list_any is_last f ≡ false

    none_of_three : (a b c : Bool) → (a || (b || c)) ≡ false → (a ≡ false) × (b ≡ false) × (c ≡ false)
    none_of_three true b c h = absurd (cc)
    none_of_three false true c h = absurd (cc)
    none_of_three false false true h = absurd (cc)
    none_of_three false false false h = (refl, refl, refl)

    file_needs_no_names : (c d : Bool) (stamp : Stamp) (exec : Bool) → cond c None (cond d None (Some (Content stamp exec))) ≡ Some WantedNames → ⊥
    file_needs_no_names true d stamp exec h = cc
    file_needs_no_names false true stamp exec h = cc
    file_needs_no_names false false stamp exec h = cc

    nothing_needed : (c : Bool) (w : Wanted) → cond c None None ≡ Some w → ⊥
    nothing_needed true w h = cc
    nothing_needed false w h = cc

    folder_names : (q : Names) (l : Option (Answer Bytes)) (c d : Bool) → left_alone rules q entry.Dir ≡ c → is_some l ≡ d → cond c None (cond d None (Some WantedNames)) ≡ Some WantedNames → NeedsNames q l (Some entry.Dir)
    folder_names q l true d is_c is_d h = absurd (cc)
    folder_names q l false true is_c is_d h = absurd (cc)
    folder_names q l false false is_c is_d h = record { held_is = refl; followed = is_c; unlisted = is_none l is_d }

    pub needs_names : (q : Names) (l : Option (Answer Bytes)) (f : List (Answer Bytes)) (o : Option Entry) → need rules size spares q l f o ≡ Some WantedNames → NeedsNames q l o
    needs_names q l f None h = absurd (cc)
    needs_names q l f (Some entry.Dir) h = folder_names q l (left_alone rules q entry.Dir) (is_some l) refl refl h
    needs_names q l f (Some (entry.File stamp exec)) h = absurd (file_needs_no_names (left_alone rules q (entry.File stamp exec)) _ stamp exec h)
    needs_names q l f (Some (entry.Link text)) h = absurd (nothing_needed (left_alone rules q (entry.Link text)) WantedNames h)
    needs_names q l f (Some entry.Other) h = absurd (nothing_needed true WantedNames h)

    folder_needs_no_content : (c d : Bool) (stamp : Stamp) (exec : Bool) → cond c None (cond d None (Some WantedNames)) ≡ Some (Content stamp exec) → ⊥
    folder_needs_no_content true d stamp exec h = cc
    folder_needs_no_content false true stamp exec h = cc
    folder_needs_no_content false false stamp exec h = cc

    stamp_in : Stamp → Option Wanted → Stamp
    stamp_in d None = d
    stamp_in d (Some WantedNames) = d
    stamp_in d (Some (Content stamp exec)) = stamp

    exec_in : Option Wanted → Bool
    exec_in None = false
    exec_in (Some WantedNames) = false
    exec_in (Some (Content stamp exec)) = exec

    same_stamp : (s t : Stamp) (x y : Bool) → Some (Content s x) ≡ Some (Content t y) → s ≡ t
    unfolding stamp_in
    same_stamp s t x y h = ap (stamp_in s) h

    same_exec : (s t : Stamp) (x y : Bool) → Some (Content s x) ≡ Some (Content t y) → x ≡ y
    unfolding exec_in
    same_exec s t x y h = ap exec_in h

    file_content : (q : Names) (f : List (Answer Bytes)) (s stamp : Stamp) (x exec : Bool) (c d : Bool) → left_alone rules q (entry.File s x) ≡ c
        → (spares q s || (is_some (problem_of rules size f) || list_any is_last f)) ≡ d → cond c None (cond d None (Some (Content s x))) ≡ Some (Content stamp exec) → NeedsContent q f (Some (entry.File s x)) stamp exec
    file_content q f s stamp x exec true d is_c is_d h = absurd (cc)
    file_content q f s stamp x exec false true is_c is_d h = absurd (cc)
    file_content q f s stamp x exec false false is_c is_d h =
        let parts = none_of_three (spares q s) (is_some (problem_of rules size f)) (list_any is_last f) is_d in
        let same : s ≡ stamp = same_stamp s stamp x exec h in
        let bit : x ≡ exec = same_exec s stamp x exec h in
        record {
          held_is = (λ i. Some (entry.File (same i) (bit i)));
          followed = (λ i. left_alone rules q (entry.File (sym same i) (sym bit i))) ∙ is_c;
          unspared = ap (spares q) (sym same) ∙ parts.0;
          unmet = is_none (problem_of rules size f) parts.1;
          unended = parts.2;
        }

    pub needs_content : (q : Names) (l : Option (Answer Bytes)) (f : List (Answer Bytes)) (o : Option Entry) (stamp : Stamp) (exec : Bool) → need rules size spares q l f o ≡ Some (Content stamp exec) → NeedsContent q f o stamp exec
    needs_content q l f None stamp exec h = absurd (cc)
    needs_content q l f (Some entry.Dir) stamp exec h = absurd (folder_needs_no_content (left_alone rules q entry.Dir) (is_some l) stamp exec h)
    needs_content q l f (Some (entry.File s x)) stamp exec h = file_content q f s stamp x exec (left_alone rules q (entry.File s x)) _ refl refl h
    needs_content q l f (Some (entry.Link text)) stamp exec h = absurd (nothing_needed (left_alone rules q (entry.Link text)) (Content stamp exec) h)
    needs_content q l f (Some entry.Other) stamp exec h = absurd (nothing_needed true (Content stamp exec) h)

    -- what is needed is needed of something
    pub needs_held : (q : Names) (l : Option (Answer Bytes)) (f : List (Answer Bytes)) (o : Option Entry) (w : Wanted) → need rules size spares q l f o ≡ Some w → (e : Entry) × (o ≡ Some e)
    needs_held q l f None w h = absurd (cc)
    needs_held q l f (Some e) w h = (e, refl)

  -- ---- a point of which nothing was fetched, by what a cache knows there

  module _ (before cache : ByPath Line) (q : Names) (same_line : map.get cache q ≡ map.get before q) (l : Option (Answer Bytes)) where
    spares_known : (stamp : Stamp) → spared_by before q stamp ≡ is_some (digest_for cache q stamp)
    spares_known stamp = ap (λ (o : Option Line). is_some (option_and_then (line_of stamp) o)) (sym same_line)

    unfetched_spares : (stamp : Stamp) → (spared_by before q stamp || (is_some (problem_of rules size []) || false)) ≡ is_some (digest_for cache q stamp)
    unfetched_spares stamp = (λ i. spares_known stamp i || (is_some (no_problem_yet i) || false)) ∙ or_false (is_some (digest_for cache q stamp))

    need_entry : (e : Entry) → (e ≡ entry.Dir → l ≡ None) → asked_as rules cache q e ≡ need_as rules size (spared_by before) q l [] e
    need_entry entry.Dir unlisted = sym (ap (λ (o : Option (Answer Bytes)). cond (is_some o) None (Some WantedNames)) (unlisted refl))
    need_entry (entry.File stamp exec) unlisted = ap (λ b. cond b None (Some (Content stamp exec))) (sym (unfetched_spares stamp))
    need_entry (entry.Link text) unlisted = refl
    need_entry entry.Other unlisted = refl

    pub need_fresh : (o : Option Entry) → (o ≡ Some entry.Dir → l ≡ None) → over o (asked_at_once rules cache q) None ≡ need rules size (spared_by before) q l [] o
    need_fresh None unlisted = refl
    need_fresh (Some e) unlisted = ap (λ w. cond (left_alone rules q e) None w) (need_entry e (λ is. unlisted (ap (λ x. Some x) is)))

    module _ (digest : Names → Stamp → List ℕ) (b : Board) (spells : Spells digest b) where
      file_settles : (stamp : Stamp) (exec : Bool) (known : Option (List ℕ)) → map.get b.seen q ≡ option_map (λ d. atom.File d exec) known → map.get b.stamps q ≡ option_map (λ d. stamp) known
          → option_map (λ d. atom.File d exec) known ≡ cond (is_some (cond (is_some known) None (Some (Content stamp exec)))) None (Some (atom.File (digest q stamp) exec))
      file_settles stamp exec None seen stamped = refl
      file_settles stamp exec (Some d) seen stamped = ap (λ (x : List ℕ). Some (atom.File x exec)) (sym (spells.spells q d exec stamp seen stamped))

      entry_settles : (e : Entry) → (e ≡ entry.Dir → l ≡ None) → map.get b.seen q ≡ shown_as rules cache q e → map.get b.stamps q ≡ stamped_as rules cache q e
          → shown_as rules cache q e ≡ cond (is_some (need_as rules size (spared_by before) q l [] e)) None (Some (atom_by rules size (spared_by before) digest q [] e))
      entry_settles entry.Dir unlisted seen stamped = sym (ap (λ (o : Option (Answer Bytes)). cond (is_some (cond (is_some o) None (Some WantedNames))) None (Some atom.Dir)) (unlisted refl))
      entry_settles (entry.File stamp exec) unlisted seen stamped =
          file_settles stamp exec (digest_for cache q stamp) seen stamped
          ∙ (λ i. cond (is_some (cond (sym (unfetched_spares stamp) i) None (Some (Content stamp exec)))) None (Some (file_atom (digest q stamp) exec (sym no_problem_yet i))))
      entry_settles (entry.Link text) unlisted seen stamped = refl
      entry_settles entry.Other unlisted seen stamped = refl

      pub settled_fresh : (o : Option Entry) → (o ≡ Some entry.Dir → l ≡ None) → map.get b.seen q ≡ over o (shown_at_once rules cache q) None → map.get b.stamps q ≡ over o (stamped_at_once rules cache q) None
          → map.get b.seen q ≡ settled rules size (spared_by before) digest q l [] o
      settled_fresh None unlisted seen stamped = seen
      settled_fresh (Some e) unlisted seen stamped =
          elim (left_alone rules q e) as (λ c. map.get b.seen q ≡ cond c (Some atom.Untracked) (shown_as rules cache q e) → map.get b.stamps q ≡ cond c None (stamped_as rules cache q e)
          → map.get b.seen q ≡ cond (is_some (cond c None (need_as rules size (spared_by before) q l [] e))) None (Some (cond c atom.Untracked (atom_by rules size (spared_by before) digest q [] e)))) [
            | true ↦ λ s t. s
            | false ↦ λ s t. s ∙ entry_settles e (λ is. unlisted (ap (λ x. Some x) is)) s t
          ] seen stamped
