-- What a keeper in memory keeps anew in a compaction.
use Rattle.std.proofs.Common.{◌≡◌, ℕ, Bool, true, false, cond, ◌||◌, List, [], ◌∷◌, ◌++◌, refl, sym, ap, subst, ◌∙◌, inl, inr}
use Rattle.std.specs.Prelude.{◌⊎◌}
use Rattle.std.proofs.lemmas.List.{append-nil}
use Rattle.frame_text.specs.declared.frame.KeepKey.{KeepKey}
use Rattle.frame_text.specs.declared.frame.KeepKey.TheVariants.{Table, Session}
use Rattle.ancestor_store.specs.Compacting.{Compacts}
use Rattle.ancestor_store.specs.MemCompacting.{AfterKey, InCourse, has_key, kept_as}
use Rattle.ancestor_store.specs.MemKept.{frames_of, same_key}
use Rattle.ancestor_store.specs.declared.mem_keeper.Kept.{Kept}
use Rattle.ancestor_store.proofs.KeptFrames.{same_itself, same_is}

frames-append : (key : KeepKey) (xs ys : List Kept) → frames_of key (xs ++ ys) ≡ frames_of key xs ++ frames_of key ys
frames-append key [] ys = refl
frames-append key (x ∷ xs) ys = by (same_key x.key key) (frames-append key xs ys)
  where
    by : (b : Bool) → frames_of key (xs ++ ys) ≡ frames_of key xs ++ frames_of key ys
        → cond b (x.bytes ∷ frames_of key (xs ++ ys)) (frames_of key (xs ++ ys)) ≡ cond b (x.bytes ∷ frames_of key xs) (frames_of key xs) ++ frames_of key ys
    by true e = ap (λ fs. x.bytes ∷ fs) e
    by false e = e

as_themselves : (key : KeepKey) (frames : List (List ℕ)) → frames_of key (kept_as key frames) ≡ frames
as_themselves key [] = refl
as_themselves key (f ∷ frames) = ap (λ b. cond b (f ∷ frames_of key (kept_as key frames)) (frames_of key (kept_as key frames))) (same_itself key) ∙ ap (λ fs. f ∷ fs) (as_themselves key frames)

as_no_others : (key other : KeepKey) (frames : List (List ℕ)) → same_key key other ≡ false → frames_of other (kept_as key frames) ≡ []
as_no_others key other [] h = refl
as_no_others key other (f ∷ frames) h = ap (λ b. cond b (f ∷ frames_of other (kept_as key frames)) (frames_of other (kept_as key frames))) h ∙ as_no_others key other frames h

none_there : (key : KeepKey) (kept : List Kept) → has_key key kept ≡ false → frames_of key kept ≡ []
none_there key [] h = refl
none_there key (k ∷ kept) h = by (same_key k.key key) h (none_there key kept)
  where
    by : (b : Bool) → (b || has_key key kept) ≡ false → (has_key key kept ≡ false → frames_of key kept ≡ []) → cond b (k.bytes ∷ frames_of key kept) (frames_of key kept) ≡ []
    by true e more = absurd (cc)
    by false e more = more e

some_there : (key : KeepKey) (kept : List Kept) → has_key key kept ≡ true → frames_of key kept ≡ [] → ⊥
some_there key [] h e = let bad : false ≡ true = h in cc
some_there key (k ∷ kept) h e = by (same_key k.key key) h e (some_there key kept)
  where
    by : (b : Bool) → (b || has_key key kept) ≡ true → cond b (k.bytes ∷ frames_of key kept) (frames_of key kept) ≡ [] → (has_key key kept ≡ true → frames_of key kept ≡ [] → ⊥) → ⊥
    by true t none more = cc
    by false t none more = more t none

pub course_start : (run : ℕ) (kept new : List Kept) (table : List (List ℕ)) → table ≡ frames_of Table kept → new ≡ [] ++ kept_as Table table → InCourse run kept new kept
course_start run kept new table is made = record {
  table = ap (frames_of Table) made ∙ as_themselves Table table ∙ is;
  sessions = λ id. inr (ap (frames_of (Session id)) made ∙ as_no_others Table (Session id) table refl, refl);
}

module _ (run : ℕ) (kept old new behind : List Kept) (one : Kept) (course : InCourse run kept old (one ∷ behind)) where
  passed : (id : ℕ) → same_key one.key (Session id) ≡ false → frames_of (Session id) new ≡ frames_of (Session id) old
      → Compacts run (frames_of (Session id) kept) (frames_of (Session id) new) ⊎ ((frames_of (Session id) new ≡ []) × (frames_of (Session id) kept ≡ frames_of (Session id) behind))
  passed id apart same =
      elim (course.sessions id) [
        | inl c ↦ inl (subst (Compacts run (frames_of (Session id) kept)) (sym same) c)
        | inr h ↦ inr (same ∙ h.0, h.1 ∙ ap (λ b. cond b (one.bytes ∷ frames_of (Session id) behind) (frames_of (Session id) behind)) apart)
      ]

  at_table : one.key ≡ Table → new ≡ old → InCourse run kept new behind
  at_table k same = record {
    table = ap (frames_of Table) same ∙ course.table;
    sessions = λ id. passed id (ap (λ key. same_key key (Session id)) k) (ap (frames_of (Session id)) same);
  }

  module _ (here : ℕ) (k : one.key ≡ Session here) where
    at_session : AfterKey run (Session here) kept old new → InCourse run kept new behind
    at_session (inl h) = record {
      table = ap (frames_of Table) h.1 ∙ course.table;
      sessions = λ id. by id (same_key one.key (Session id)) refl;
    }
      where
        by : (id : ℕ) (b : Bool) → same_key one.key (Session id) ≡ b
            → Compacts run (frames_of (Session id) kept) (frames_of (Session id) new) ⊎ ((frames_of (Session id) new ≡ []) × (frames_of (Session id) kept ≡ frames_of (Session id) behind))
        by id false apart = passed id apart (ap (frames_of (Session id)) h.1)
        by id true e =
            let at : Session id ≡ Session here = same_is one.key (Session id) e ∙ k in
            elim (course.sessions id) [
              | inl c ↦ inl (subst (Compacts run (frames_of (Session id) kept)) (sym (ap (frames_of (Session id)) h.1)) c)
              | inr none ↦ absurd (some_there (Session here) old h.0 (ap (λ key. frames_of key old) (sym at) ∙ none.0))
            ]
    at_session (inr h) = record {
      table =
          ap (frames_of Table) h.1.2 ∙ frames-append Table old (kept_as (Session here) h.1.0) ∙ ap (λ fs. frames_of Table old ++ fs) (as_no_others (Session here) Table h.1.0 refl)
          ∙ append-nil (frames_of Table old) ∙ course.table;
      sessions = λ id. by id (same_key one.key (Session id)) refl;
    }
      where
        all : (key : KeepKey) → frames_of key new ≡ frames_of key old ++ frames_of key (kept_as (Session here) h.1.0)
        all key = ap (frames_of key) h.1.2 ∙ frames-append key old (kept_as (Session here) h.1.0)

        by : (id : ℕ) (b : Bool) → same_key one.key (Session id) ≡ b
            → Compacts run (frames_of (Session id) kept) (frames_of (Session id) new) ⊎ ((frames_of (Session id) new ≡ []) × (frames_of (Session id) kept ≡ frames_of (Session id) behind))
        by id false apart =
            passed id apart
            (all (Session id) ∙ ap (λ fs. frames_of (Session id) old ++ fs) (as_no_others (Session here) (Session id) h.1.0 (ap (λ key. same_key key (Session id)) (sym k) ∙ apart)) ∙ append-nil (frames_of (Session id) old))
        by id true e = inl (subst (λ key. Compacts run (frames_of key kept) (frames_of key new)) (sym (same_is one.key (Session id) e ∙ k)) whole)
          where
            whole : Compacts run (frames_of (Session here) kept) (frames_of (Session here) new)
            whole =
                subst (Compacts run (frames_of (Session here) kept))
                (sym (all (Session here) ∙ ap (λ fs. fs ++ frames_of (Session here) (kept_as (Session here) h.1.0)) (none_there (Session here) old h.0) ∙ as_themselves (Session here) h.1.0)) h.1.1

pub course_step : (run : ℕ) (kept old new behind : List Kept) (one : Kept) → InCourse run kept old (one ∷ behind) → AfterKey run one.key kept old new → InCourse run kept new behind
course_step run kept old new behind one course after = by one.key refl after
  where
    by : (key : KeepKey) → one.key ≡ key → AfterKey run key kept old new → InCourse run kept new behind
    by Table k a = at_table run kept old new behind one course k a
    by (Session here) k a = at_session run kept old new behind one course here k a

pub course_end : (run : ℕ) (kept new : List Kept) → InCourse run kept new [] → (id : ℕ) → Compacts run (frames_of (Session id) kept) (frames_of (Session id) new)
course_end run kept new course id =
    elim (course.sessions id) [
      | inl c ↦ c
      | inr h ↦ subst (λ fs. Compacts run fs (frames_of (Session id) new)) (sym h.1) h.0
    ]
