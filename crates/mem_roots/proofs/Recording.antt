-- What a log comes to with one event more.
use Rattle.std.proofs.Common.{◌≡◌, ◌⊎◌, inl, inr, ℕ, ◌+◌, ◌<◌, ◌≤◌, Bool, true, false, cond, ◌||◌, List, [], ◌∷◌, ◌++◌, length, sum_by, count_by, take, length-append, ◌-◌, refl, sym, ap, subst, ◌∙◌, Option, Some, None, arith, nat_lt, nat_le}
use Rattle.std.specs.Prelude.{unwrap_or}
use Rattle.std.proofs.lemmas.Bool.{ltb-false, leb-false}
use Rattle.std.proofs.lemmas.List.{take_at}
use Rattle.std.proofs.lemmas.List.Sums.{sum_by-append, sum_by_push, sum_by-le-sum_by}
use Rattle.std.specs.Option.{option_map}
use Rattle.roots_api.specs.Answers.{is_done, is_dropped, is_full, is_failed}
use Rattle.roots_api.specs.Asked.{IsAsked, IsMade}
use Rattle.roots_api.specs.Logs.{state_of, log_size, bytes_held, asked_in, rows_in, event_size, appended_by, staged_bytes, is_asked, logged, spanned, offset_of}
use Rattle.roots_api.specs.States.{RootState, new_root, kept_by, staged_by, with_staged}
use Rattle.roots_api.specs.Steps.{answer_of, after, done, drop_file}
use Rattle.roots_api.specs.Edits.{edited, refused_at, first_of}
use Rattle.roots_api.specs.Told.{IsSession, call_event, edit_event, edit_error, refused_by, put_by}
use Rattle.roots_api.specs.declared.edit.Edit.{Edit}
use Rattle.roots_api.specs.declared.edit.Edit.TheVariants.{Put, Link, Dir, Other, SetExec as SetBit, Del}
use Rattle.roots_api.specs.declared.edit_error.EditError.TheVariants.{LogFull, BytesFull}
use Rattle.entry_tree.specs.declared.entry.Entry.{Entry}
use Rattle.roots_api.specs.declared.answer.Answer.{Answer}
use Rattle.roots_api.specs.declared.answer.Answer.TheVariants.{Listed, Held, Piece, Changed, TooLarge, Cleared, Opened, Kept, NotStaged, DigestDiffers, Done, NoParent, Differs, NoLink, NoExec, NotEmpty, Full, Failed}
use Rattle.roots_api.specs.declared.event.Event.{Event}
use Rattle.roots_api.specs.declared.limits.TheConstants.{MAX_LOG_SIZE, MAX_BYTES_HELD}
use Rattle.roots_api.specs.declared.op.Op.{Op}
use Rattle.roots_api.specs.declared.op.Op.TheVariants.{List as OpList, Fetch, StageClear, StageOpen, StageAppend, StageKeep, Place, MakeDir, MakeLink, Remove, SetExec}
use Rattle.roots_api.specs.declared.who.Who.{Who}
use Rattle.roots_api.specs.declared.who.Who.TheVariants.{Editor, Session}
use Rattle.roots_api.proofs.Folds.{after_events-append, legal_push}
use Rattle.roots_api.proofs.TreesKept.{done_spanned}
use Rattle.mem_roots.specs.MemRoot.{MemState, id_of, has_no_room, is_to_fail, placed_by, places_too_much, decided, mem_answer, room_of}
use Rattle.mem_roots.specs.Sizes.{IsOfLog, sizes_of, sizes_with, sizes_edited}
use Rattle.mem_roots.specs.declared.sizes.Sizes.{Sizes}

-- what a log keeps of an answer tells as much: beside whether it is done (`done_spanned`), what else is asked of it
module _ (offset : ℕ) where
  pub record Alike (answer : Answer (List ℕ)) : Type 0 where
    pub dropped : is_dropped (spanned offset answer) ≡ is_dropped answer
    pub failed : is_failed (spanned offset answer) ≡ is_failed answer
    pub rows : rows_in (spanned offset answer) ≡ rows_in answer

  pub alike : (answer : Answer (List ℕ)) → Alike answer
  alike (Listed rows) = record { dropped = refl; failed = refl; rows = refl }
  alike (Held found) = record { dropped = refl; failed = refl; rows = refl }
  alike (Piece bytes last) = record { dropped = refl; failed = refl; rows = refl }
  alike (Changed found) = record { dropped = refl; failed = refl; rows = refl }
  alike (TooLarge bytes) = record { dropped = refl; failed = refl; rows = refl }
  alike Cleared = record { dropped = refl; failed = refl; rows = refl }
  alike Opened = record { dropped = refl; failed = refl; rows = refl }
  alike Kept = record { dropped = refl; failed = refl; rows = refl }
  alike NotStaged = record { dropped = refl; failed = refl; rows = refl }
  alike (DigestDiffers wanted got) = record { dropped = refl; failed = refl; rows = refl }
  alike (Done stamp) = record { dropped = refl; failed = refl; rows = refl }
  alike (NoParent found) = record { dropped = refl; failed = refl; rows = refl }
  alike (Differs found) = record { dropped = refl; failed = refl; rows = refl }
  alike NoLink = record { dropped = refl; failed = refl; rows = refl }
  alike NoExec = record { dropped = refl; failed = refl; rows = refl }
  alike NotEmpty = record { dropped = refl; failed = refl; rows = refl }
  alike (Full room) = record { dropped = refl; failed = refl; rows = refl }
  alike Failed = record { dropped = refl; failed = refl; rows = refl }

after_spanned : (s : RootState) (id : ℕ) (op : Op) (answer : Answer (List ℕ)) → after s id op (logged op answer) ≡ after s id op answer
after_spanned s id op answer =
    let dropped = with_staged s id (drop_file (staged_by s id)) in
    (λ i. cond (done_spanned (offset_of op) answer i) (done s id op) (cond ((alike (offset_of op) answer).dropped i) dropped s))

module _ (s : RootState) (id : ℕ) {B : Type 0} (answer : Answer B) where
  ledger_stays : (op : Op) → (done s id op).ledger ≡ s.ledger → (after s id op answer).ledger ≡ s.ledger
  ledger_stays op h =
      let dropped = with_staged s id (drop_file (staged_by s id)) in
      elim (is_done answer) as (λ b. (cond b (done s id op) (cond (is_dropped answer) dropped s)).ledger ≡ s.ledger) [
        | true ↦ h
        | false ↦ elim (is_dropped answer) as (λ b. (cond b dropped s).ledger ≡ s.ledger) [ true ↦ refl | false ↦ refl ]
      ]

  sum_stays : (op : Op) → (done s id op).ledger ≡ s.ledger → sum_by length (after s id op answer).ledger ≡ sum_by length s.ledger + 0
  sum_stays op h = ap (sum_by length) (ledger_stays op h) ∙ omega arith

  placed : (path : List (List ℕ)) (digest : List ℕ) (exec : Bool) (expected : Option Entry) (bytes : List ℕ) → unwrap_or (kept_by s id digest) [] ≡ bytes
      → sum_by length (after s id (Place path digest exec expected) answer).ledger ≡ sum_by length s.ledger + length (cond (is_done answer) bytes [])
  placed path digest exec expected bytes is =
      let dropped = with_staged s id (drop_file (staged_by s id)) in
      let op = Place path digest exec expected in
      elim (is_done answer) as (λ b. sum_by length (cond b (done s id op) (cond (is_dropped answer) dropped s)).ledger ≡ sum_by length s.ledger + length (cond b bytes [])) [
        | true ↦ ap (λ (bs : List ℕ). sum_by length (s.ledger ++ bs ∷ [])) is ∙ sum_by-append length s.ledger (bytes ∷ []) ∙ omega arith
        | false ↦ elim (is_dropped answer) as (λ b. sum_by length (cond b dropped s).ledger ≡ sum_by length s.ledger + 0) [ true ↦ omega arith | false ↦ omega arith ]
      ]

-- the bytes of the ledger once an operation was answered
ledger_after : (s : RootState) (id : ℕ) (op : Op) (answer : Answer (List ℕ))
    → sum_by length (after s id op answer).ledger ≡ sum_by length s.ledger + length (placed_by s id op answer)
ledger_after s id (OpList path) answer = sum_stays s id answer (OpList path) refl
ledger_after s id (Fetch path stamp offset) answer = sum_stays s id answer (Fetch path stamp offset) refl
ledger_after s id StageClear answer = sum_stays s id answer StageClear refl
ledger_after s id StageOpen answer = sum_stays s id answer StageOpen refl
ledger_after s id (StageAppend bytes) answer = sum_stays s id answer (StageAppend bytes) refl
ledger_after s id (StageKeep digest) answer = sum_stays s id answer (StageKeep digest) refl
ledger_after s id (Place path digest exec expected) answer = placed s id answer path digest exec expected (unwrap_or (kept_by s id digest) []) refl
ledger_after s id (MakeDir path) answer = sum_stays s id answer (MakeDir path) refl
ledger_after s id (MakeLink path text expected) answer = sum_stays s id answer (MakeLink path text expected) refl
ledger_after s id (Remove path expected) answer = sum_stays s id answer (Remove path expected) refl
ledger_after s id (SetExec path expected on) answer = sum_stays s id answer (SetExec path expected on) refl

pub count-push : {X : Type 0} (p : X → Bool) (xs : List X) (x : X) → count_by p (xs ++ x ∷ []) ≡ count_by p xs + cond (p x) 1 0
count-push p xs x = sum_by_push (λ y. cond (p y) 1 0) xs x

-- an operation stages bytes or places some, and not both
one_of : (s : RootState) (id : ℕ) (op : Op) (answer : Answer (List ℕ)) → (length (appended_by op) ≡ 0) ⊎ (length (placed_by s id op answer) ≡ 0)
one_of s id (OpList path) answer = inl refl
one_of s id (Fetch path stamp offset) answer = inl refl
one_of s id StageClear answer = inl refl
one_of s id StageOpen answer = inl refl
one_of s id (StageAppend bytes) answer = inr refl
one_of s id (StageKeep digest) answer = inl refl
one_of s id (Place path digest exec expected) answer = inl refl
one_of s id (MakeDir path) answer = inl refl
one_of s id (MakeLink path text expected) answer = inl refl
one_of s id (Remove path expected) answer = inl refl
one_of s id (SetExec path expected on) answer = inl refl

no_bytes : (s : RootState) (id : ℕ) (op : Op) (answer : Answer (List ℕ)) → is_done answer ≡ false → length (placed_by s id op answer) ≡ 0
no_bytes s id (OpList path) answer h = refl
no_bytes s id (Fetch path stamp offset) answer h = refl
no_bytes s id StageClear answer h = refl
no_bytes s id StageOpen answer h = refl
no_bytes s id (StageAppend bytes) answer h = refl
no_bytes s id (StageKeep digest) answer h = refl
no_bytes s id (Place path digest exec expected) answer h = ap (λ b. length (cond b (unwrap_or (kept_by s id digest) []) [])) h
no_bytes s id (MakeDir path) answer h = refl
no_bytes s id (MakeLink path text expected) answer h = refl
no_bytes s id (Remove path expected) answer h = refl
no_bytes s id (SetExec path expected on) answer h = refl

-- what is so where a root's answer is logged
pub record Fits (log : List Event) (id : ℕ) (op : Op) (answer : Answer (List ℕ)) : Type 0 where
  pub row : (answer ≡ Failed) ⊎ (answer ≡ answer_of (state_of log) id op)
  pub size : log_size log + (1 + rows_in answer) ≤ MAX_LOG_SIZE
  pub bytes : bytes_held log + (length (appended_by op) + length (placed_by (state_of log) id op answer)) ≤ MAX_BYTES_HELD

or_no : (a b : Bool) → (a || b) ≡ false → (a ≡ false) × (b ≡ false)
or_no true b h = absurd (cc)
or_no false b h = (refl, h)

pub fits : (m : MemState) (id : ℕ) (op : Op) (row answer : Answer (List ℕ)) → row ≡ answer_of (state_of m.log) id op → bytes_held m.log ≤ MAX_BYTES_HELD → decided m id op row ≡ answer → is_full answer ≡ false → Fits m.log id op answer
fits m id op row answer is held d full =
    let s = state_of m.log in
    let rest = cond (is_to_fail m) Failed (cond (places_too_much m.log id op row) (Full (room_of m.log)) row) in
    elim (has_no_room m.log op row) as (λ b. has_no_room m.log op row ≡ b → cond b (Full (room_of m.log)) rest ≡ answer → Fits m.log id op answer) [
      | true ↦ λ _ e. absurd (let f : true ≡ false = ap is_full e ∙ full in cc)
      | false ↦ λ room e.
          let small = or_no (nat_lt MAX_LOG_SIZE (log_size m.log + (1 + rows_in row))) (nat_lt MAX_BYTES_HELD (bytes_held m.log + length (appended_by op))) room in
          let size : log_size m.log + (1 + rows_in row) ≤ MAX_LOG_SIZE = ltb-false MAX_LOG_SIZE _ small.0 in
          let staged : bytes_held m.log + length (appended_by op) ≤ MAX_BYTES_HELD = ltb-false MAX_BYTES_HELD _ small.1 in
          elim (is_to_fail m) as (λ b. cond b Failed (cond (places_too_much m.log id op row) (Full (room_of m.log)) row) ≡ answer → Fits m.log id op answer) [
            | true ↦ λ g.
                let none : length (placed_by s id op Failed) ≡ 0 = no_bytes s id op Failed refl in
                subst (Fits m.log id op) g (record { row = inl refl; size = omega arith; bytes = omega arith })
            | false ↦ elim (places_too_much m.log id op row) as (λ b. places_too_much m.log id op row ≡ b → cond b (Full (room_of m.log)) row ≡ answer → Fits m.log id op answer) [
              | true ↦ λ _ g. absurd (let f : true ≡ false = ap is_full g ∙ full in cc)
              | false ↦ λ much g.
                  let placed_fit : bytes_held m.log + length (placed_by s id op row) ≤ MAX_BYTES_HELD = ltb-false MAX_BYTES_HELD _ much in
                  let both : bytes_held m.log + (length (appended_by op) + length (placed_by s id op row)) ≤ MAX_BYTES_HELD =
                  elim (one_of s id op row) [ inl z ↦ omega arith | inr z ↦ omega arith ] in
                  subst (Fits m.log id op) g (record { row = inr is; size = size; bytes = both })
            ] refl
          ] e
    ] refl d

module _ (log : List Event) (id run cycle : ℕ) (op : Op) (answer : Answer (List ℕ)) where
  state_longer : state_of (log ++ call_event (Session id run cycle) op answer ∷ []) ≡ after (state_of log) id op answer
  state_longer = after_events-append new_root log (call_event (Session id run cycle) op answer ∷ []) ∙ after_spanned (state_of log) id op answer

  size_longer : log_size (log ++ call_event (Session id run cycle) op answer ∷ []) ≡ log_size log + (1 + rows_in answer)
  size_longer =
      let e = sum_by-append event_size log (call_event (Session id run cycle) op answer ∷ []) in
      let rows = (alike (offset_of op) answer).rows in
      omega arith

  bytes_longer : bytes_held (log ++ call_event (Session id run cycle) op answer ∷ []) ≡ bytes_held log + (length (appended_by op) + length (placed_by (state_of log) id op answer))
  bytes_longer =
      let ledger = ap (λ (s : RootState). sum_by length s.ledger) state_longer ∙ ledger_after (state_of log) id op answer in
      let staged = sum_by-append (λ (e : Event). staged_bytes e.deed) log (call_event (Session id run cycle) op answer ∷ []) in
      omega arith

  asked_longer : asked_in (log ++ call_event (Session id run cycle) op answer ∷ []) ≡ asked_in log + 1
  asked_longer = count-push is_asked log (call_event (Session id run cycle) op answer)

-- a log with one operation more, its state and its sizes
pub recorded : (log : List Event) (state : RootState) (sizes : Sizes) (who : Who) (op : Op) (answer : Answer (List ℕ)) → IsSession who → IsAsked op → IsOfLog log state sizes → Fits log (id_of who) op answer
    → IsOfLog (log ++ call_event who op answer ∷ []) (after state (id_of who) op answer)
    (sizes_with sizes (rows_in answer) (length (appended_by op)) (length (placed_by state (id_of who) op answer)))
recorded log state sizes Editor op answer session can old fit = absurd session
recorded log state sizes (Session id run cycle) op answer session can old fit =
    let s = state_of log in
    let state_is = old.state_is in
    let before = old.sizes_are in
    let size = size_longer log id run cycle op answer in
    let bytes = bytes_longer log id run cycle op answer in
    let asked = asked_longer log id run cycle op answer in
    let at_size : sizes.log ≡ log_size log = ap (λ (z : Sizes). z.log) before in
    let at_bytes : sizes.bytes ≡ bytes_held log = ap (λ (z : Sizes). z.bytes) before in
    let at_asked : sizes.asked ≡ asked_in log = ap (λ (z : Sizes). z.asked) before in
    let same_placed : length (placed_by state id op answer) ≡ length (placed_by s id op answer) = ap (λ (t : RootState). length (placed_by t id op answer)) state_is in
    let log_is : sizes.log + (1 + rows_in answer) ≡ log_size (log ++ call_event (Session id run cycle) op answer ∷ []) = omega arith in
    let bytes_is : sizes.bytes + (length (appended_by op) + length (placed_by state id op answer)) ≡ bytes_held (log ++ call_event (Session id run cycle) op answer ∷ []) = omega arith in
    let asked_is : sizes.asked + 1 ≡ asked_in (log ++ call_event (Session id run cycle) op answer ∷ []) = omega arith in
    record {
      state_is = ap (λ (t : RootState). after t id op answer) state_is ∙ sym (state_longer log id run cycle op answer);
      sizes_are = λ i. record { log = log_is i; bytes = bytes_is i; asked = asked_is i };
      legal = legal_push new_root log (call_event (Session id run cycle) op answer) old.legal
          (record { asked = can; row = elim fit.row [ inl e ↦ inl (ap (logged op) e) | inr e ↦ inr (ap (logged op) e) ] });
      log_fits = let f = fit.size in omega arith;
      bytes_fit = let f = fit.bytes in omega arith;
    }

-- the bytes of the ledger once an edit was done
ledger_edited : (s : RootState) (edit : Edit) → sum_by length (edited s edit).ledger ≡ sum_by length s.ledger + length (put_by edit)
ledger_edited s (Put path bytes) = sum_by-append length s.ledger (bytes ∷ []) ∙ omega arith
ledger_edited s (Link path text) = omega arith
ledger_edited s (Dir path) = omega arith
ledger_edited s (Other path) = omega arith
ledger_edited s (SetBit path on) = omega arith
ledger_edited s (Del path) = omega arith

first_none : {X : Type 0} (a b : Option X) → first_of a b ≡ None → (a ≡ None) × (b ≡ None)
first_none None b h = (refl, h)
first_none (Some x) b h = absurd (cc)

cond_none : {X : Type 0} (b : Bool) (x : X) → cond b (Some x) None ≡ None → b ≡ false
cond_none true x h = absurd (cc)
cond_none false x h = refl

map_none : {X Y : Type 0} (f : X → Y) (o : Option X) → option_map f o ≡ None → o ≡ None
map_none f None h = refl
map_none f (Some x) h = absurd (cc)

-- what is so where an edit is done
pub record MayEdit (log : List Event) (edit : Edit) : Type 0 where
  pub allowed : refused_at (state_of log).tree edit ≡ None
  pub size : log_size log < MAX_LOG_SIZE
  pub bytes : bytes_held log + length (put_by edit) ≤ MAX_BYTES_HELD

pub may_edit : (log : List Event) (edit : Edit) → edit_error log edit ≡ None → MayEdit log edit
may_edit log edit h =
    let full = cond (nat_le MAX_LOG_SIZE (log_size log)) (Some (LogFull (log_size log))) None in
    let refused = option_map (refused_by (state_of log)) (refused_at (state_of log).tree edit) in
    let much = cond (nat_lt MAX_BYTES_HELD (bytes_held log + length (put_by edit))) (Some (BytesFull (bytes_held log))) None in
    let first = first_none full (first_of refused much) h in
    let second = first_none refused much first.1 in
    record {
      allowed = map_none (refused_by (state_of log)) (refused_at (state_of log).tree edit) second.0;
      size = leb-false MAX_LOG_SIZE (log_size log) (cond_none (nat_le MAX_LOG_SIZE (log_size log)) (LogFull (log_size log)) first.0);
      bytes = ltb-false MAX_BYTES_HELD _ (cond_none (nat_lt MAX_BYTES_HELD (bytes_held log + length (put_by edit))) (BytesFull (bytes_held log)) second.1);
    }

-- a log with one edit more, its state and its sizes
pub recorded_edit : (log : List Event) (state : RootState) (sizes : Sizes) (edit : Edit) → IsMade edit → IsOfLog log state sizes → MayEdit log edit
    → IsOfLog (log ++ edit_event edit ∷ []) (edited state edit) (sizes_edited sizes (length (put_by edit)))
recorded_edit log state sizes edit made old fit =
    let before = old.sizes_are in
    let longer : state_of (log ++ edit_event edit ∷ []) ≡ edited (state_of log) edit = after_events-append new_root log (edit_event edit ∷ []) in
    let size = sum_by-append event_size log (edit_event edit ∷ []) in
    let ledger = ap (λ (s : RootState). sum_by length s.ledger) longer ∙ ledger_edited (state_of log) edit in
    let staged = sum_by-append (λ (e : Event). staged_bytes e.deed) log (edit_event edit ∷ []) in
    let asked = count-push is_asked log (edit_event edit) in
    let at_size : sizes.log ≡ log_size log = ap (λ (z : Sizes). z.log) before in
    let at_bytes : sizes.bytes ≡ bytes_held log = ap (λ (z : Sizes). z.bytes) before in
    let at_asked : sizes.asked ≡ asked_in log = ap (λ (z : Sizes). z.asked) before in
    let log_is : sizes.log + 1 ≡ log_size (log ++ edit_event edit ∷ []) = omega arith in
    let bytes_is : sizes.bytes + length (put_by edit) ≡ bytes_held (log ++ edit_event edit ∷ []) = omega arith in
    let asked_is : sizes.asked ≡ asked_in (log ++ edit_event edit ∷ []) = omega arith in
    record {
      state_is = ap (λ (t : RootState). edited t edit) old.state_is ∙ sym longer;
      sizes_are = λ i. record { log = log_is i; bytes = bytes_is i; asked = asked_is i };
      legal = legal_push new_root log (edit_event edit) old.legal (record { made = made; allowed = fit.allowed; done = refl });
      log_fits = let f = fit.size in omega arith;
      bytes_fit = let f = fit.bytes in omega arith;
    }

-- an empty log
pub none_recorded : IsOfLog [] new_root (sizes_of [])
none_recorded = record { state_is = refl; sizes_are = refl; legal = tt; log_fits = omega arith; bytes_fit = omega arith }

one_le : (b : Bool) (n : ℕ) → 1 ≤ n → cond b 1 0 ≤ n
one_le true n h = h
one_le false n h = omega arith

count_le : {X : Type 0} (p : X → Bool) (f : X → ℕ) → ((x : X) → 1 ≤ f x) → (xs : List X) → count_by p xs ≤ sum_by f xs
count_le p f big xs = sum_by-le-sum_by (λ x. cond (p x) 1 0) f xs (λ x. one_le (p x) (f x) (big x))

event_counts : (e : Event) → 1 ≤ event_size e
event_counts e = omega arith

-- a log has at most so many operations as its size
pub asked_fits : (log : List Event) → asked_in log ≤ log_size log
asked_fits log = count_le is_asked event_size event_counts log

-- the answer of a root that isn't Full has room
pub mem_fits : (m : MemState) (who : Who) (op : Op) (answer : Answer (List ℕ)) → bytes_held m.log ≤ MAX_BYTES_HELD → answer ≡ mem_answer m who op → is_full answer ≡ false → Fits m.log (id_of who) op answer
mem_fits m who op answer held is full = fits m (id_of who) op (answer_of (state_of m.log) (id_of who) op) answer refl held (sym is) full

-- what stands of a log, by what it is made of
pub same_of_log : (log longer : List Event) (state after : RootState) (sizes more : Sizes) → longer ≡ log → after ≡ state → more ≡ sizes → IsOfLog log state sizes → IsOfLog longer after more
same_of_log log longer state after sizes more a b c h =
    subst (λ (l : List Event). IsOfLog l after more) (sym a) (subst (λ (s : RootState). IsOfLog log s more) (sym b) (subst (λ (z : Sizes). IsOfLog log state z) (sym c) h))

-- what the next event of an operation needs of the sizes
pub record HasRoom (sizes : Sizes) (rows appended placed : ℕ) : Type 0 where
  pub log : sizes.log + (1 + rows) ≤ MAX_LOG_SIZE
  pub bytes : sizes.bytes + (appended + placed) ≤ MAX_BYTES_HELD
  pub asked : sizes.asked ≤ MAX_LOG_SIZE

-- a root, its model and the answer that is to be logged
module _ (m : MemState) (log : List Event) (state : RootState) (sizes : Sizes) (who : Who) (op : Op) (answer : Answer (List ℕ)) (id placed : ℕ)
    (same : log ≡ m.log) (old : IsOfLog log state sizes) (is : answer ≡ mem_answer m who op) (logged : is_full answer ≡ false) (id_is : id ≡ id_of who) (placed_is : placed ≡ length (placed_by state id op answer)) where
  fits_here : Fits log (id_of who) op answer
  fits_here = subst (λ (l : List Event). Fits l (id_of who) op answer) (sym same) (mem_fits m who op answer (subst (λ (l : List Event). bytes_held l ≤ MAX_BYTES_HELD) same old.bytes_fit) is logged)

  placed_here : placed ≡ length (placed_by state (id_of who) op answer)
  placed_here = placed_is ∙ ap (λ (i : ℕ). length (placed_by state i op answer)) id_is

  pub has_room : HasRoom sizes (rows_in answer) (length (appended_by op)) placed
  has_room =
      let fit = fits_here in
      let size = fit.size in
      let bytes = fit.bytes in
      let at_size : sizes.log ≡ log_size log = ap (λ (z : Sizes). z.log) old.sizes_are in
      let at_bytes : sizes.bytes ≡ bytes_held log = ap (λ (z : Sizes). z.bytes) old.sizes_are in
      let at_asked : sizes.asked ≡ asked_in log = ap (λ (z : Sizes). z.asked) old.sizes_are in
      let same_placed : placed ≡ length (placed_by (state_of log) (id_of who) op answer) = placed_here ∙ ap (λ (t : RootState). length (placed_by t (id_of who) op answer)) old.state_is in
      let held = old.log_fits in
      let asked = asked_fits log in
      record { log = omega arith; bytes = omega arith; asked = omega arith }

  -- it is the row's on the root's state, or Failed
  pub row_here : (answer ≡ Failed) ⊎ (answer ≡ answer_of state id op)
  row_here = elim fits_here.row [
    | inl e ↦ inl e
    | inr e ↦ inr (e ∙ (λ i. answer_of (sym old.state_is i) (sym id_is i) op))
  ]

  pub logged_of : IsSession who → IsAsked op → (event : Event) (longer : List Event) (next : RootState) (more : Sizes) → event ≡ call_event who op answer → longer ≡ log ++ event ∷ [] → next ≡ after state id op answer
      → more ≡ sizes_with sizes (rows_in answer) (length (appended_by op)) placed → IsOfLog longer next more
  logged_of session can event longer next more event_is longer_is next_is more_is =
      same_of_log (log ++ call_event who op answer ∷ []) longer (after state (id_of who) op answer) next
      (sizes_with sizes (rows_in answer) (length (appended_by op)) (length (placed_by state (id_of who) op answer))) more
      (longer_is ∙ ap (λ (e : Event). log ++ e ∷ []) event_is)
      (next_is ∙ ap (λ (i : ℕ). after state i op answer) id_is)
      (more_is ∙ ap (λ (n : ℕ). sizes_with sizes (rows_in answer) (length (appended_by op)) n) placed_here)
      (recorded log state sizes who op answer session can old fits_here)

-- a log from which the event that was pushed was taken again
pub popped_of : (log longer popped : List Event) (e : Event) (state back : RootState) (sizes : Sizes) → longer ≡ log ++ e ∷ [] → popped ≡ take (length longer - 1) longer → back ≡ state → IsOfLog log state sizes → IsOfLog popped back sizes
popped_of log longer popped e state back sizes longer_is popped_is back_is old =
    let long = length-append log (e ∷ []) in
    let at : length log ≡ length (log ++ e ∷ []) - 1 = omega arith in
    same_of_log log popped state back sizes sizes
    (popped_is ∙ ap (λ (l : List Event). take (length l - 1) l) longer_is ∙ take_at log (e ∷ []) (length (log ++ e ∷ []) - 1) at)
    back_is refl old

-- a root, its model and the edit that is to be logged
module _ (m : MemState) (log : List Event) (state : RootState) (sizes : Sizes) (edit : Edit) (put : ℕ)
    (same : log ≡ m.log) (old : IsOfLog log state sizes) (none : edit_error m.log edit ≡ None) (put_is : put ≡ length (put_by edit)) where
  may_here : MayEdit log edit
  may_here = may_edit log edit (ap (λ (l : List Event). edit_error l edit) same ∙ none)

  -- nothing in the tree speaks against it
  pub edit_allowed : refused_at state.tree edit ≡ None
  edit_allowed = ap (λ (s : RootState). refused_at s.tree edit) old.state_is ∙ may_here.allowed

  pub edit_log_room : sizes.log + 1 ≤ MAX_LOG_SIZE
  edit_log_room =
      let size = may_here.size in
      let at_size : sizes.log ≡ log_size log = ap (λ (z : Sizes). z.log) old.sizes_are in
      omega arith

  pub edit_bytes_room : sizes.bytes + put ≤ MAX_BYTES_HELD
  edit_bytes_room =
      let bytes = may_here.bytes in
      let at_bytes : sizes.bytes ≡ bytes_held log = ap (λ (z : Sizes). z.bytes) old.sizes_are in
      omega arith

  pub edited_of : IsMade edit → (event : Event) (longer : List Event) (next : RootState) (more : Sizes) → event ≡ edit_event edit → longer ≡ log ++ event ∷ [] → next ≡ edited state edit → more ≡ sizes_edited sizes put → IsOfLog longer next more
  edited_of made event longer next more event_is longer_is next_is more_is =
      same_of_log (log ++ edit_event edit ∷ []) longer (edited state edit) next (sizes_edited sizes (length (put_by edit))) more
      (longer_is ∙ ap (λ (e : Event). log ++ e ∷ []) event_is) next_is (more_is ∙ ap (sizes_edited sizes) put_is)
      (recorded_edit log state sizes edit made old may_here)
