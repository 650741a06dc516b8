-- What holds of each tree that a scan has seen.
use Rattle.std.proofs.Common.{◌≡◌, ℕ, Bool, true, false, not, cond, List, refl, sym, ap, subst, ◌∙◌, Option, Some, None}
use Rattle.std.specs.FinMap as map
use Rattle.std.specs.Option.{is_some, option_map}
use Rattle.std.specs.Ordering.{eq_by_cmp}
use Rattle.sync_path.specs.Path.{path_cmp, parent_of}
use Rattle.sync_path.specs.PathOrder.{path_cmp_total}
use Rattle.entry_tree.specs.Atom.{is_dir}
use Rattle.entry_tree.specs.Tree.{Names, ByPath, IsClosed, set_at, at_parent, refusal}
use Rattle.entry_tree.specs.declared.atom.Atom.{Atom}
use Rattle.entry_tree.specs.declared.atom.Atom.TheVariants as atom
use Rattle.entry_tree.specs.declared.entry.Entry.{Entry}
use Rattle.entry_tree.specs.declared.entry.Entry.TheVariants as entry
use Rattle.entry_tree.specs.declared.entry.Stamp.{Stamp}
use Rattle.entry_tree.specs.declared.tree_error.TreeError.TheVariants.{NoParent}
use Rattle.entry_tree.specs.declared.tree_error.TreeError.{TreeError}
use Rattle.entry_tree.proofs.Trees.{tie_is, set_anew, closed_set}
use Rattle.ignore_glob.specs.Grammar.{Meaning}
use Rattle.scan_cache.specs.Cache.{digest_for}
use Rattle.scan_cache.specs.declared.line.Line.{Line}
use Rattle.scan_core.specs.Board.{may_stand, seen_with, shows, shows_file, asks, left_alone, placed_file, placed_as, placed}
use Rattle.scan_core.specs.declared.board.Board.{Board}
use Rattle.scan_core.specs.declared.wanted.Wanted.{Wanted}
use Rattle.scan_core.specs.declared.wanted.Wanted.TheVariants.{Names as WantedNames, Content}
use Rattle.scan_laws.specs.Standing.{is_file}

-- something can be seen at a path, and isn't yet
pub record Wantable (seen : ByPath Atom) (q : Names) : Type 0 where
  pub fresh : map.get seen q ≡ None
  pub allowed : refusal is_dir (at_parent seen q) ≡ None

-- what a board keeps: what was seen is closed, just the files have stamps, and what comes later can be seen and isn't yet
pub record Stands (b : Board) : Type 0 where
  pub closed : IsClosed is_dir b.seen
  pub stamped : (q : Names) → is_some (map.get b.stamps q) ≡ is_file (map.get b.seen q)
  pub later : (q : Names) → is_some (map.get b.later q) ≡ true → Wantable b.seen q

-- a path of which nothing is known: it can be seen, isn't yet, and nothing is asked there later
pub record IsOpen (b : Board) (q : Names) : Type 0 where
  pub wantable : Wantable b.seen q
  pub unasked : is_some (map.get b.later q) ≡ false

module _ (seen : ByPath Atom) (closed : IsClosed is_dir seen) (p : Names) (can : Wantable seen p) (x : Atom) where
  pub shown_is : seen_with seen p x ≡ map.insert seen p x
  shown_is =
      ap (λ (r : Option TreeError). cond (not (is_some r)) (set_at is_dir seen p x) seen) can.allowed
      ∙ sym (set_anew is_dir seen closed p x can.fresh)

  pub shown_at : (q : Names) → map.get (seen_with seen p x) q ≡ cond (eq_by_cmp path_cmp q p) (Some x) (map.get seen q)
  shown_at q = ap (λ (t : ByPath Atom). map.get t q) shown_is ∙ map.get-insert path_cmp_total seen p x q

  pub shown_closed : IsClosed is_dir (seen_with seen p x)
  shown_closed =
      subst (IsClosed is_dir) (sym (ap (λ (r : Option TreeError). cond (not (is_some r)) (set_at is_dir seen p x) seen) can.allowed))
      (closed_set is_dir seen p x closed can.allowed)

  -- what can be seen elsewhere still can
  parent_stays : (q : Names) (up : Option Names) → refusal is_dir (option_map (map.get seen) up) ≡ None → refusal is_dir (option_map (map.get (seen_with seen p x)) up) ≡ None
  parent_stays q None h = refl
  parent_stays q (Some r) h =
      ap (λ (o : Option Atom). refusal is_dir (Some o)) (shown_at r)
      ∙ elim (eq_by_cmp path_cmp r p) as (λ b. eq_by_cmp path_cmp r p ≡ b → refusal is_dir (Some (cond b (Some x) (map.get seen r))) ≡ None) [
        | true ↦ λ e. absurd (let none : map.get seen r ≡ None = ap (map.get seen) (tie_is r p e) ∙ can.fresh in let f : Some NoParent ≡ None = sym (ap (λ (o : Option Atom). refusal is_dir (Some o)) none) ∙ h in cc)
        | false ↦ λ e. h
      ] refl

  pub stays_wantable : (q : Names) → eq_by_cmp path_cmp q p ≡ false → Wantable seen q → Wantable (seen_with seen p x) q
  stays_wantable q apart w =
      record { fresh = shown_at q ∙ ap (λ b. cond b (Some x) (map.get seen q)) apart ∙ w.fresh; allowed = parent_stays q (parent_of q) w.allowed }

not_both : (b c : Bool) → b ≡ true → c ≡ true → b ≡ false → ⊥
not_both b c h g k = absurd (let e : true ≡ false = sym h ∙ k in cc)

module _ (b : Board) (stands : Stands b) (p : Names) (free : IsOpen b p) where
  apart : (q : Names) → is_some (map.get b.later q) ≡ true → eq_by_cmp path_cmp q p ≡ false
  apart q h =
      elim (eq_by_cmp path_cmp q p) as (λ c. eq_by_cmp path_cmp q p ≡ c → c ≡ false) [
        | true ↦ λ e. absurd (let f : true ≡ false = sym h ∙ ap (λ r. is_some (map.get b.later r)) (tie_is q p e) ∙ free.unasked in cc)
        | false ↦ λ e. refl
      ] refl

  -- an atom other than a file is seen there
  pub shows_stands : (x : Atom) → is_file (Some x) ≡ false → Stands (shows b p x)
  shows_stands x other = record {
    closed = shown_closed b.seen stands.closed p free.wantable x;
    stamped = λ q. stands.stamped q ∙ elim (eq_by_cmp path_cmp q p) as (λ c. eq_by_cmp path_cmp q p ≡ c → is_file (map.get b.seen q) ≡ is_file (cond c (Some x) (map.get b.seen q))) [
      | true ↦ λ e. ap is_file (ap (map.get b.seen) (tie_is q p e) ∙ free.wantable.fresh) ∙ sym other
      | false ↦ λ e. refl
    ] refl ∙ ap is_file (sym (shown_at b.seen stands.closed p free.wantable x q));
    later = λ q h. stays_wantable b.seen stands.closed p free.wantable x q (apart q h) (stands.later q h);
  }

  -- a file is
  pub file_stands : (stamp : Stamp) (exec : Bool) (digest : List ℕ) → Stands (shows_file b p stamp exec digest)
  file_stands stamp exec digest =
      let x = atom.File digest exec in
      let may : may_stand b.seen p ≡ true = ap (λ (r : Option TreeError). not (is_some r)) free.wantable.allowed in
      let stamps : (q : Names) → map.get (cond (may_stand b.seen p) (map.insert b.stamps p stamp) b.stamps) q ≡ cond (eq_by_cmp path_cmp q p) (Some stamp) (map.get b.stamps q) =
      λ q. ap (λ c. map.get (cond c (map.insert b.stamps p stamp) b.stamps) q) may ∙ map.get-insert path_cmp_total b.stamps p stamp q in
      record {
        closed = shown_closed b.seen stands.closed p free.wantable x;
        stamped = λ q. ap is_some (stamps q) ∙ elim (eq_by_cmp path_cmp q p) as (λ c. is_some (cond c (Some stamp) (map.get b.stamps q)) ≡ is_file (cond c (Some x) (map.get b.seen q))) [
          | true ↦ refl
          | false ↦ stands.stamped q
        ] ∙ ap is_file (sym (shown_at b.seen stands.closed p free.wantable x q));
        later = λ q h. stays_wantable b.seen stands.closed p free.wantable x q (apart q h) (stands.later q h);
      }

  -- it is asked for later
  pub asks_stands : (wanted : Wanted) → Stands (asks b p wanted)
  asks_stands wanted = record {
    closed = stands.closed;
    stamped = stands.stamped;
    later = λ q h. elim (eq_by_cmp path_cmp q p) as (λ c. eq_by_cmp path_cmp q p ≡ c → is_some (cond c (Some wanted) (map.get b.later q)) ≡ true → Wantable b.seen q) [
      | true ↦ λ e g. subst (Wantable b.seen) (sym (tie_is q p e)) free.wantable
      | false ↦ λ e g. stands.later q g
    ] refl (ap is_some (sym (map.get-insert path_cmp_total b.later p wanted q)) ∙ h);
  }

  -- a step at this path keeps what a board keeps, and leaves other open paths open
  pub record Goes (after : Board) : Type 0 where
    pub stands_after : Stands after
    pub others : (q : Names) → eq_by_cmp path_cmp q p ≡ false → IsOpen b q → IsOpen after q

  pub shows_goes : (x : Atom) → is_file (Some x) ≡ false → Goes (shows b p x)
  shows_goes x other = record {
    stands_after = shows_stands x other;
    others = λ q apart o. record { wantable = stays_wantable b.seen stands.closed p free.wantable x q apart o.wantable; unasked = o.unasked };
  }

  pub file_goes : (stamp : Stamp) (exec : Bool) (digest : List ℕ) → Goes (shows_file b p stamp exec digest)
  file_goes stamp exec digest = record {
    stands_after = file_stands stamp exec digest;
    others = λ q apart o. record { wantable = stays_wantable b.seen stands.closed p free.wantable (atom.File digest exec) q apart o.wantable; unasked = o.unasked };
  }

  pub asks_goes : (wanted : Wanted) → Goes (asks b p wanted)
  asks_goes wanted = record {
    stands_after = asks_stands wanted;
    others = λ q apart o. record {
      wantable = o.wantable;
      unasked = ap is_some (map.get-insert path_cmp_total b.later p wanted q ∙ ap (λ c. cond c (Some wanted) (map.get b.later q)) apart) ∙ o.unasked;
    };
  }

  module _ (cache : ByPath Line) where
    known_goes : (stamp : Stamp) (exec : Bool) (known : Option (List ℕ)) → Goes (placed_file b p stamp exec known)
    known_goes stamp exec (Some digest) = file_goes stamp exec digest
    known_goes stamp exec None = asks_goes (Content stamp exec)

    as_goes : (found : Entry) → Goes (placed_as cache b p found)
    as_goes entry.Dir = asks_goes WantedNames
    as_goes (entry.File stamp exec) = known_goes stamp exec (digest_for cache p stamp)
    as_goes (entry.Link text) = shows_goes (atom.Link text) refl
    as_goes entry.Other = shows_goes atom.Untracked refl

    pub placed_goes : (rules : List Meaning) (found : Entry) → Goes (placed rules cache b p found)
    placed_goes rules found =
        elim (left_alone rules p found) as (λ c. Goes (cond c (shows b p atom.Untracked) (placed_as cache b p found))) [
          | true ↦ shows_goes atom.Untracked refl
          | false ↦ as_goes found
        ]
