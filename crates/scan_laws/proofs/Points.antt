-- What stands at a path, from what was heard of it.
use Rattle.std.proofs.Common.{◌≡◌, ℕ, Bool, true, false, cond, ◌||◌, List, [], ◌∷◌, ◌++◌, length, nat_lt, filter_map, sum_by, refl, ap, ◌∙◌, Option, Some, None, option_map, option_and_then}
use Rattle.std.specs.List.{list_any}
use Rattle.std.specs.Option.{is_some}
use Rattle.std.specs.Ordering.{eq_by_cmp}
use Rattle.std.proofs.lemmas.List.{append-nil}
use Rattle.std.proofs.lemmas.List.Elements.{filter_map-append}
use Rattle.sync_path.specs.Path.{path_cmp}
use Rattle.entry_tree.specs.Tree.{Names}
use Rattle.entry_tree.specs.declared.atom.Atom.{Atom}
use Rattle.entry_tree.specs.declared.atom.Atom.TheVariants as atom
use Rattle.entry_tree.specs.declared.entry.Entry.{Entry}
use Rattle.entry_tree.specs.declared.entry.Entry.TheVariants as entry
use Rattle.entry_tree.specs.declared.entry.Stamp.{Stamp}
use Rattle.entry_tree.specs.declared.problem_kind.ProblemKind.{ProblemKind}
use Rattle.entry_tree.specs.declared.problem_kind.ProblemKind.TheVariants as problem
use Rattle.ignore_glob.specs.Grammar.{Meaning}
use Rattle.roots_api.specs.declared.answer.Answer.{Answer}
use Rattle.roots_api.specs.declared.op.Op.{Op}
use Rattle.roots_api.specs.declared.op.Op.TheVariants.{List as OpList, Fetch}
use Rattle.scan_core.specs.Board.{left_alone}
use Rattle.scan_core.specs.declared.wanted.Wanted.{Wanted}
use Rattle.scan_core.specs.declared.wanted.Wanted.TheVariants.{Names as WantedNames, Content}
use Rattle.scan_laws.specs.Seen.{Heard, first_one, answered_list, answered_fetch, problem_by, is_last, piece_len, file_atom, listed, held, fetched}

abbrev pub Bytes : Type 0
Bytes = List ℕ

-- ---- one answer more

-- with one answer more
abbrev pub with_heard : List (Heard Bytes) → Op → Answer Bytes → List (Heard Bytes)
with_heard hs op answer = hs ++ (record { op = op; answer = answer }) ∷ []

first_of_none : {A : Type 0} (xs ys : List A) → first_one xs ≡ None → first_one (xs ++ ys) ≡ first_one ys
first_of_none [] ys h = refl
first_of_none (x ∷ xs) ys h = absurd (cc)

module _ (rules : List Meaning) (size : ℕ) where
  abbrev pub listed_in : List (Heard Bytes) → Names → Option (Answer Bytes)
  listed_in hs q = listed length rules size hs q

  abbrev pub fetched_in : List (Heard Bytes) → Names → List (Answer Bytes)
  fetched_in hs q = fetched length rules size hs q

  abbrev pub held_in : List (Heard Bytes) → Names → Option Entry
  held_in hs q = held length rules size hs q

  module _ (hs : List (Heard Bytes)) (p : Names) (answer : Answer Bytes) where
    pub fetched-list : (q : Names) → fetched_in (with_heard hs (OpList p) answer) q ≡ fetched_in hs q
    fetched-list q = filter_map-append (λ (h : Heard Bytes). answered_fetch q h.op h.answer) hs ((record { op = OpList p; answer = answer }) ∷ []) ∙ append-nil (fetched_in hs q)

    listed_with : (q : Names) → listed_in (with_heard hs (OpList p) answer) q
        ≡ first_one (filter_map (λ (h : Heard Bytes). answered_list q h.op h.answer) hs ++ filter_map (λ (h : Heard Bytes). answered_list q h.op h.answer) ((record { op = OpList p; answer = answer }) ∷ []))
    listed_with q = ap first_one (filter_map-append (λ (h : Heard Bytes). answered_list q h.op h.answer) hs ((record { op = OpList p; answer = answer }) ∷ []))

    pub listed-other : (q : Names) → eq_by_cmp path_cmp q p ≡ false → listed_in (with_heard hs (OpList p) answer) q ≡ listed_in hs q
    listed-other q apart =
        listed_with q
        ∙ ap (λ (c : Bool). first_one (filter_map (λ (h : Heard Bytes). answered_list q h.op h.answer) hs ++ filter_map (λ (h : Option (Answer Bytes)). h) (cond c (Some answer) None ∷ []))) apart
        ∙ ap first_one (append-nil (filter_map (λ (h : Heard Bytes). answered_list q h.op h.answer) hs))

    pub listed-here : listed_in hs p ≡ None → eq_by_cmp path_cmp p p ≡ true → listed_in (with_heard hs (OpList p) answer) p ≡ Some answer
    listed-here none same =
        listed_with p
        ∙ first_of_none (filter_map (λ (h : Heard Bytes). answered_list p h.op h.answer) hs) _ none
        ∙ ap (λ (c : Bool). first_one (filter_map (λ (h : Option (Answer Bytes)). h) (cond c (Some answer) None ∷ []))) same

    module _ (stamp : Stamp) (offset : ℕ) where
      pub listed-fetch : (q : Names) → listed_in (with_heard hs (Fetch p stamp offset) answer) q ≡ listed_in hs q
      listed-fetch q =
          ap first_one (filter_map-append (λ (h : Heard Bytes). answered_list q h.op h.answer) hs ((record { op = Fetch p stamp offset; answer = answer }) ∷ []) ∙ append-nil (filter_map (λ (h : Heard Bytes). answered_list q h.op h.answer) hs))

      pub fetched-other : (q : Names) → eq_by_cmp path_cmp q p ≡ false → fetched_in (with_heard hs (Fetch p stamp offset) answer) q ≡ fetched_in hs q
      fetched-other q apart =
          filter_map-append (λ (h : Heard Bytes). answered_fetch q h.op h.answer) hs ((record { op = Fetch p stamp offset; answer = answer }) ∷ [])
          ∙ ap (λ (c : Bool). fetched_in hs q ++ filter_map (λ (h : Option (Answer Bytes)). h) (cond c (Some answer) None ∷ [])) apart
          ∙ append-nil (fetched_in hs q)

      pub fetched-here : eq_by_cmp path_cmp p p ≡ true → fetched_in (with_heard hs (Fetch p stamp offset) answer) p ≡ fetched_in hs p ++ answer ∷ []
      fetched-here same =
          filter_map-append (λ (h : Heard Bytes). answered_fetch p h.op h.answer) hs ((record { op = Fetch p stamp offset; answer = answer }) ∷ [])
          ∙ ap (λ (c : Bool). fetched_in hs p ++ filter_map (λ (h : Option (Answer Bytes)). h) (cond c (Some answer) None ∷ [])) same

  -- ---- what is needed and what is settled at a path

  -- why a file that was answered so isn't seen
  abbrev pub problem_of : List (Answer Bytes) → Option ProblemKind
  problem_of answers = first_one (filter_map problem_by answers ++ cond (nat_lt size (sum_by (piece_len length) answers)) (problem.TooLarge ∷ []) [])

  module _ (spares : Names → Stamp → Bool) where
    -- what is still needed of an entry at a path whose List and whose Fetches were answered so
    abbrev pub need_as : Names → Option (Answer Bytes) → List (Answer Bytes) → Entry → Option Wanted
    need_as q l f entry.Dir = cond (is_some l) None (Some WantedNames)
    need_as q l f (entry.File stamp exec) = cond (spares q stamp || (is_some (problem_of f) || list_any is_last f)) None (Some (Content stamp exec))
    need_as q l f (entry.Link text) = None
    need_as q l f entry.Other = None

    abbrev pub need_of : Names → Option (Answer Bytes) → List (Answer Bytes) → Entry → Option Wanted
    need_of q l f e = cond (left_alone rules q e) None (need_as q l f e)

    abbrev pub need : Names → Option (Answer Bytes) → List (Answer Bytes) → Option Entry → Option Wanted
    need q l f o = option_and_then (need_of q l f) o

    abbrev pub atom_by : (Names → Stamp → List ℕ) → Names → List (Answer Bytes) → Entry → Atom
    atom_by digest q f entry.Dir = atom.Dir
    atom_by digest q f (entry.File stamp exec) = file_atom (digest q stamp) exec (problem_of f)
    atom_by digest q f (entry.Link text) = atom.Link text
    atom_by digest q f entry.Other = atom.Untracked

    abbrev pub atom_of : (Names → Stamp → List ℕ) → Names → List (Answer Bytes) → Entry → Atom
    atom_of digest q f e = cond (left_alone rules q e) atom.Untracked (atom_by digest q f e)

    abbrev pub settled : (Names → Stamp → List ℕ) → Names → Option (Answer Bytes) → List (Answer Bytes) → Option Entry → Option Atom
    settled digest q l f o = cond (is_some (need q l f o)) None (option_map (atom_of digest q f) o)

    abbrev pub need_in : List (Heard Bytes) → Names → Option Wanted
    need_in hs q = need q (listed_in hs q) (fetched_in hs q) (held_in hs q)

    abbrev pub settled_in : (Names → Stamp → List ℕ) → List (Heard Bytes) → Names → Option Atom
    settled_in digest hs q = settled digest q (listed_in hs q) (fetched_in hs q) (held_in hs q)
