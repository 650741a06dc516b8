-- Replies, by the words of their lines.
use Rattle.std.proofs.Common.{◌≡◌, ℕ, List, [], ◌∷◌, ◌++◌, codes, bytes_eq, length, map, inl, inr, refl, sym, ap, ap₂, subst, ◌∙◌}
use Rattle.std.specs.Prelude.{◌⊎◌}
use Rattle.std.specs.Fmt.{decimal}
use Rattle.std.specs.List.{AllByRecursion}
use Rattle.command_words.specs.Identifier.{identifier_word, IsIdentifier}
use Rattle.command_words.specs.Keywords.{phase_word}
use Rattle.command_words.specs.declared.identifier.Identifier.{Identifier}
use Rattle.mode_rules.specs.declared.phase.Phase.{Phase}
use Rattle.reply_text.specs.Listed.{listed_words}
use Rattle.reply_text.specs.Refusals.{refusal_words}
use Rattle.reply_text.specs.Replies.{read_words, reply_bytes}
use Rattle.reply_text.specs.Reports.{outcome_words, report_words}
use Rattle.reply_text.specs.Rows.{count_words, forward_words, labels_words, state_words, sync_words}
use Rattle.reply_text.specs.declared.forward_row.ForwardRow.{ForwardRow}
use Rattle.reply_text.specs.declared.listed.Listed.{Listed}
use Rattle.reply_text.specs.declared.refusal.Refusal.{Refusal}
use Rattle.reply_text.specs.declared.reply.Reply.{Reply}
use Rattle.reply_text.specs.declared.reply.Reply.TheVariants.{Edited, Shown, Ancestor, Stepped, Reached, Created, SyncList, ForwardList, Awaits, Flushed, Reported, Unreported, Paused, Resumed, Reset, Terminated, Opened, Wrote, Read, WriteClosed, Closed, Moved, Cut, Refused}
use Rattle.reply_text.specs.declared.report_rows.ReportRows.{ReportRows}
use Rattle.reply_text.specs.declared.stream_read.StreamRead.{StreamRead}
use Rattle.reply_text.specs.declared.sync_row.SyncRow.{SyncRow}
use Rattle.reply_text.specs.declared.sync_row.SyncState.{SyncState}
use Rattle.reply_text.specs.declared.sync_row.SyncState.TheVariants as states
use Rattle.reply_laws.specs.Kept.{IsEmptyList, IsForwardRow, IsListed, IsNumber, IsReply, IsReport, IsSameReply, IsSyncRow}
use Rattle.reply_laws.specs.Words.{detail_words, first_words, words_of_rows}
use Rattle.reply_laws.proofs.Refusals.{refusals_told}
use Rattle.reply_laws.proofs.Rows.{forward_told, listed_told, report_told, rows_told, sync_told}
use Rattle.reply_laws.proofs.Sums.{outcomes_told, pick, reads_told}
use Rattle.reply_laws.proofs.Told.{same_words}
use Rattle.reply_laws.proofs.Values.{identifiers_told, numbers_told, phases_told}

-- the reply of a word behind `ok`
ok_by : List ℕ → Reply → Type 0
ok_by word reply =
    pick (bytes_eq word (codes "edit")) (reply ≡ Edited)
    (pick (bytes_eq word (codes "show")) ((root : List ℕ) × (entries : List Listed) × (reply ≡ Shown root entries))
    (pick (bytes_eq word (codes "ancestor")) ((identifier : Identifier) × (entries : List Listed) × (reply ≡ Ancestor identifier entries))
    (pick (bytes_eq word (codes "step")) ((phase : Phase) × (reply ≡ Stepped phase))
    (pick (bytes_eq word (codes "until")) ((phase : Phase) × (reply ≡ Reached phase))
    (pick (bytes_eq word (codes "create")) ((identifier : Identifier) × (reply ≡ Created identifier))
    (pick (bytes_eq word (codes "list")) (((rows : List SyncRow) × (reply ≡ SyncList rows)) ⊎ ((rows : List ForwardRow) × (reply ≡ ForwardList rows)))
    (pick (bytes_eq word (codes "awaits")) ((identifier : Identifier) × (cycle : ℕ) × (reply ≡ Awaits identifier cycle))
    (pick (bytes_eq word (codes "flush")) ((identifier : Identifier) × (report : ReportRows) × (reply ≡ Flushed identifier report))
    (pick (bytes_eq word (codes "report"))
    (((identifier : Identifier) × (report : ReportRows) × (reply ≡ Reported identifier report)) ⊎ ((identifier : Identifier) × (reply ≡ Unreported identifier)))
    (pick (bytes_eq word (codes "pause")) ((identifier : Identifier) × (reply ≡ Paused identifier))
    (pick (bytes_eq word (codes "resume")) ((identifier : Identifier) × (reply ≡ Resumed identifier))
    (pick (bytes_eq word (codes "reset")) ((identifier : Identifier) × (reply ≡ Reset identifier))
    (pick (bytes_eq word (codes "terminate")) ((identifier : Identifier) × (reply ≡ Terminated identifier))
    (pick (bytes_eq word (codes "opened")) ((stream : ℕ) × (reply ≡ Opened stream))
    (pick (bytes_eq word (codes "wrote")) ((count : ℕ) × (reply ≡ Wrote count))
    (pick (bytes_eq word (codes "read")) ((read : StreamRead) × (reply ≡ Read read))
    (pick (bytes_eq word (codes "close-write")) (reply ≡ WriteClosed)
    (pick (bytes_eq word (codes "close")) (reply ≡ Closed)
    (pick (bytes_eq word (codes "moved")) ((count : ℕ) × (reply ≡ Moved count)) (reply ≡ Cut))))))))))))))))))))

ok_is : List (List ℕ) → Reply → Type 0
ok_is [] reply = ⊥
ok_is (word ∷ words) reply = ok_by word reply

reply_is : List (List ℕ) → Reply → Type 0
reply_is [] reply = ⊥
reply_is (word ∷ words) reply = pick (bytes_eq word (codes "refused")) ((refusal : Refusal) × (reply ≡ Refused refusal)) (ok_is words reply)

reply_found : (reply : Reply) → reply_is (first_words reply) reply
unfolding reply_is ok_is ok_by
reply_found Edited = refl
reply_found (Shown root entries) = (root, entries, refl)
reply_found (Ancestor identifier entries) = (identifier, entries, refl)
reply_found (Stepped phase) = (phase, refl)
reply_found (Reached phase) = (phase, refl)
reply_found (Created identifier) = (identifier, refl)
reply_found (SyncList rows) = inl (rows, refl)
reply_found (ForwardList rows) = inr (rows, refl)
reply_found (Awaits identifier cycle) = (identifier, cycle, refl)
reply_found (Flushed identifier report) = (identifier, report, refl)
reply_found (Reported identifier report) = inl (identifier, report, refl)
reply_found (Unreported identifier) = inr (identifier, refl)
reply_found (Paused identifier) = (identifier, refl)
reply_found (Resumed identifier) = (identifier, refl)
reply_found (Reset identifier) = (identifier, refl)
reply_found (Terminated identifier) = (identifier, refl)
reply_found (Opened stream) = (stream, refl)
reply_found (Wrote count) = (count, refl)
reply_found (Read read) = (read, refl)
reply_found WriteClosed = refl
reply_found Closed = refl
reply_found (Moved count) = (count, refl)
reply_found Cut = refl
reply_found (Refused refusal) = (refusal, refl)

-- a reply of `ok`, a word, and one word more
one_word : {A : Type 0} (make : A → Reply) (key : List ℕ) (spell : A → List ℕ) (Is : A → Type 0) → ((x y : A) → Is x → Is y → spell x ≡ spell y → x ≡ y)
    → ((x : A) → first_words (make x) ≡ codes "ok" ∷ key ∷ spell x ∷ []) → ((x : A) → IsReply (make x) → Is x)
    → (reply : Reply) (x y : A) → reply ≡ make x → IsReply reply → Is y → first_words reply ≡ first_words (make y) → reply ≡ make y
one_word make key spell Is told words kept reply x y v h k e =
    let lists : codes "ok" ∷ key ∷ spell x ∷ [] ≡ codes "ok" ∷ key ∷ spell y ∷ [] = sym (words x) ∙ sym (ap first_words v) ∙ e ∙ words y in
    let word : spell x ≡ spell y = cc in
    v ∙ ap make (told x y (kept x (subst IsReply v h)) k word)

named : (make : Identifier → Reply) (key : List ℕ) → ((i : Identifier) → first_words (make i) ≡ codes "ok" ∷ key ∷ identifier_word i ∷ []) → ((i : Identifier) → IsReply (make i) → IsIdentifier i)
    → (reply : Reply) (i j : Identifier) → reply ≡ make i → IsReply reply → IsIdentifier j → first_words reply ≡ first_words (make j) → reply ≡ make j
named make key = one_word make key identifier_word IsIdentifier identifiers_told

counted : (make : ℕ → Reply) (key : List ℕ) → ((n : ℕ) → first_words (make n) ≡ codes "ok" ∷ key ∷ decimal n ∷ []) → ((n : ℕ) → IsReply (make n) → IsNumber n)
    → (reply : Reply) (m n : ℕ) → reply ≡ make m → IsReply reply → IsNumber n → first_words reply ≡ first_words (make n) → reply ≡ make n
counted make key = one_word make key decimal IsNumber numbers_told

at_phase : (make : Phase → Reply) (key : List ℕ) → ((p : Phase) → first_words (make p) ≡ codes "ok" ∷ key ∷ phase_word p ∷ [])
    → (reply : Reply) (p q : Phase) → reply ≡ make p → IsReply reply → first_words reply ≡ first_words (make q) → reply ≡ make q
at_phase make key words reply p q v h e = one_word make key phase_word (λ x. Unit {0}) (λ x y i j s. phases_told x y s) words (λ x i. tt) reply p q v h tt e

-- the rows of two kinds of sessions
state_has_words : (state : SyncState) (more : List (List ℕ)) → state_words state ++ more ≡ [] → ⊥
state_has_words (states.Halted halt) more e = absurd (cc)
state_has_words states.Paused more e = absurd (cc)
state_has_words states.Cycling more e = absurd (cc)
state_has_words states.Due more e = absurd (cc)
state_has_words states.Resting more e = absurd (cc)

kinds_differ : (row : SyncRow) (other : ForwardRow) → sync_words row ≡ forward_words other → ⊥
kinds_differ row other e =
    let behind : state_words row.state ++ (count_words row ++ labels_words row.labels) ≡ [] = cc in
    state_has_words row.state (count_words row ++ labels_words row.labels) behind

report_made : (report other : ReportRows) → report.cycle ≡ other.cycle → report.outcome ≡ other.outcome → report.conflicts ≡ other.conflicts → report.problems ≡ other.problems → report ≡ other
report_made report other a b c d = λ t. record { cycle = a t; outcome = b t; conflicts = c t; problems = d t }

-- reports, by the words of their lines
reports_told : (i j : Identifier) (report other : ReportRows) → IsIdentifier i → IsIdentifier j → IsReport report → IsReport other
    → report_words i report ≡ report_words j other → words_of_rows report ≡ words_of_rows other → (i ≡ j) × (report ≡ other)
reports_told i j report other h k l m e d =
    let identifier : identifier_word i ≡ identifier_word j = cc in
    let cycle : decimal report.cycle ≡ decimal other.cycle = cc in
    let behind : outcome_words report.outcome ++ codes "conflicts" ∷ (decimal (length report.conflicts) ∷ codes "problems" ∷ decimal (length report.problems) ∷ [])
    ≡ outcome_words other.outcome ++ codes "conflicts" ∷ (decimal (length other.conflicts) ∷ codes "problems" ∷ decimal (length other.problems) ∷ []) = cc in
    let outcome = outcomes_told report.outcome other.outcome (codes "conflicts") (codes "conflicts")
    (decimal (length report.conflicts) ∷ codes "problems" ∷ decimal (length report.problems) ∷ [])
    (decimal (length other.conflicts) ∷ codes "problems" ∷ decimal (length other.problems) ∷ []) behind in
    let rows = report_told report.conflicts other.conflicts report.problems other.problems l.1 m.1 l.2 m.2 d in
    (identifiers_told i j h k identifier, report_made report other (numbers_told report.cycle other.cycle l.0 m.0 cycle) outcome rows.0 rows.1)

-- two replies of one kind, by what is known of the first
module _ (reply : Reply) (h : IsReply reply) where
  shown_told : (root : List ℕ) (entries : List Listed) (root' : List ℕ) (entries' : List Listed) → reply ≡ Shown root' entries' → AllByRecursion IsListed entries
      → first_words reply ≡ first_words (Shown root entries) → detail_words reply ≡ detail_words (Shown root entries) → reply ≡ Shown root entries
  shown_told root entries root' entries' v k e d =
      let own : AllByRecursion IsListed entries' = subst IsReply v h in
      let words : first_words (Shown root' entries') ≡ first_words (Shown root entries) = sym (ap first_words v) ∙ e in
      let rows : map listed_words entries' ≡ map listed_words entries = sym (ap detail_words v) ∙ d in
      let name : root' ≡ root = cc in
      v ∙ ap₂ (λ x y. Shown x y) name (rows_told IsListed listed_words listed_told entries' entries own k rows)

  ancestor_told : (identifier : Identifier) (entries : List Listed) (identifier' : Identifier) (entries' : List Listed) → reply ≡ Ancestor identifier' entries'
      → IsReply (Ancestor identifier entries) → first_words reply ≡ first_words (Ancestor identifier entries) → detail_words reply ≡ detail_words (Ancestor identifier entries)
      → reply ≡ Ancestor identifier entries
  ancestor_told identifier entries identifier' entries' v k e d =
      let own : IsReply (Ancestor identifier' entries') = subst IsReply v h in
      let words : first_words (Ancestor identifier' entries') ≡ first_words (Ancestor identifier entries) = sym (ap first_words v) ∙ e in
      let rows : map listed_words entries' ≡ map listed_words entries = sym (ap detail_words v) ∙ d in
      let word : identifier_word identifier' ≡ identifier_word identifier = cc in
      v ∙ ap₂ (λ x y. Ancestor x y) (identifiers_told identifier' identifier own.0 k.0 word) (rows_told IsListed listed_words listed_told entries' entries own.1 k.1 rows)

  awaits_told : (identifier : Identifier) (cycle : ℕ) (identifier' : Identifier) (cycle' : ℕ) → reply ≡ Awaits identifier' cycle' → IsReply (Awaits identifier cycle)
      → first_words reply ≡ first_words (Awaits identifier cycle) → reply ≡ Awaits identifier cycle
  awaits_told identifier cycle identifier' cycle' v k e =
      let own : IsReply (Awaits identifier' cycle') = subst IsReply v h in
      let words : first_words (Awaits identifier' cycle') ≡ first_words (Awaits identifier cycle) = sym (ap first_words v) ∙ e in
      let word : identifier_word identifier' ≡ identifier_word identifier = cc in
      let number : decimal cycle' ≡ decimal cycle = cc in
      v ∙ ap₂ (λ x y. Awaits x y) (identifiers_told identifier' identifier own.0 k.0 word) (numbers_told cycle' cycle own.1 k.1 number)

  flushed_told : (identifier : Identifier) (report : ReportRows) (identifier' : Identifier) (report' : ReportRows) → reply ≡ Flushed identifier' report' → IsReply (Flushed identifier report)
      → first_words reply ≡ first_words (Flushed identifier report) → detail_words reply ≡ detail_words (Flushed identifier report) → reply ≡ Flushed identifier report
  flushed_told identifier report identifier' report' v k e d =
      let own : IsReply (Flushed identifier' report') = subst IsReply v h in
      let words : first_words (Flushed identifier' report') ≡ first_words (Flushed identifier report) = sym (ap first_words v) ∙ e in
      let rows : words_of_rows report' ≡ words_of_rows report = sym (ap detail_words v) ∙ d in
      let behind : report_words identifier' report' ≡ report_words identifier report = cc in
      let parts = reports_told identifier' identifier report' report own.0 k.0 own.1 k.1 behind rows in
      v ∙ ap₂ (λ x y. Flushed x y) parts.0 parts.1

  reported_told : (identifier : Identifier) (report : ReportRows) (identifier' : Identifier) (report' : ReportRows) → reply ≡ Reported identifier' report' → IsReply (Reported identifier report)
      → first_words reply ≡ first_words (Reported identifier report) → detail_words reply ≡ detail_words (Reported identifier report) → reply ≡ Reported identifier report
  reported_told identifier report identifier' report' v k e d =
      let own : IsReply (Reported identifier' report') = subst IsReply v h in
      let words : first_words (Reported identifier' report') ≡ first_words (Reported identifier report) = sym (ap first_words v) ∙ e in
      let rows : words_of_rows report' ≡ words_of_rows report = sym (ap detail_words v) ∙ d in
      let behind : report_words identifier' report' ≡ report_words identifier report = cc in
      let parts = reports_told identifier' identifier report' report own.0 k.0 own.1 k.1 behind rows in
      v ∙ ap₂ (λ x y. Reported x y) parts.0 parts.1

  sync_list_told : (rows rows' : List SyncRow) → reply ≡ SyncList rows' → AllByRecursion IsSyncRow rows → detail_words reply ≡ detail_words (SyncList rows) → reply ≡ SyncList rows
  sync_list_told rows rows' v k d =
      let own : AllByRecursion IsSyncRow rows' = subst IsReply v h in
      let words : map sync_words rows' ≡ map sync_words rows = sym (ap detail_words v) ∙ d in
      v ∙ ap (λ x. SyncList x) (rows_told IsSyncRow sync_words sync_told rows' rows own k words)

  forward_list_told : (rows rows' : List ForwardRow) → reply ≡ ForwardList rows' → AllByRecursion IsForwardRow rows → detail_words reply ≡ detail_words (ForwardList rows) → reply ≡ ForwardList rows
  forward_list_told rows rows' v k d =
      let own : AllByRecursion IsForwardRow rows' = subst IsReply v h in
      let words : map forward_words rows' ≡ map forward_words rows = sym (ap detail_words v) ∙ d in
      v ∙ ap (λ x. ForwardList x) (rows_told IsForwardRow forward_words forward_told rows' rows own k words)

-- a list of one kind of sessions with the lines of a list of the other kind
both_empty : (rows : List SyncRow) (others : List ForwardRow) → map sync_words rows ≡ map forward_words others → IsEmptyList (SyncList rows) × IsEmptyList (ForwardList others)
both_empty [] [] e = (tt, tt)
both_empty [] (other ∷ others) e = absurd (cc)
both_empty (row ∷ rows) [] e = absurd (cc)
both_empty (row ∷ rows) (other ∷ others) e = let first : sync_words row ≡ forward_words other = cc in absurd (kinds_differ row other first)

report_is_none : (i j : Identifier) (report : ReportRows) → first_words (Reported i report) ≡ first_words (Unreported j) → ⊥
report_is_none i j report e = absurd (cc)

told : (reply other : Reply) → IsReply reply → IsReply other → first_words reply ≡ first_words other → detail_words reply ≡ detail_words other → IsSameReply reply other
unfolding reply_is ok_is ok_by
told reply other h k e d = by other k e d (subst (λ words. reply_is words reply) e (reply_found reply))
  where
    by : (other : Reply) → IsReply other → first_words reply ≡ first_words other → detail_words reply ≡ detail_words other → reply_is (first_words other) reply → IsSameReply reply other
    by Edited k e d v = inl v
    by (Shown root entries) k e d v = inl (shown_told reply h root entries v.0 v.1 v.2 k e d)
    by (Ancestor identifier entries) k e d v = inl (ancestor_told reply h identifier entries v.0 v.1 v.2 k e d)
    by (Stepped phase) k e d v = inl (at_phase (λ x. Stepped x) (codes "step") (λ x. refl) reply v.0 phase v.1 h e)
    by (Reached phase) k e d v = inl (at_phase (λ x. Reached x) (codes "until") (λ x. refl) reply v.0 phase v.1 h e)
    by (Created identifier) k e d v = inl (named (λ x. Created x) (codes "create") (λ x. refl) (λ x i. i) reply v.0 identifier v.1 h k e)
    by (SyncList rows) k e d (inl v) = inl (sync_list_told reply h rows v.0 v.1 k d)
    by (SyncList rows) k e d (inr v) =
        let none = both_empty rows v.0 (sym d ∙ ap detail_words v.1) in
        inr (subst IsEmptyList (sym v.1) none.1, none.0)
    by (ForwardList rows) k e d (inl v) =
        let none = both_empty v.0 rows (sym (ap detail_words v.1) ∙ d) in
        inr (subst IsEmptyList (sym v.1) none.0, none.1)
    by (ForwardList rows) k e d (inr v) = inl (forward_list_told reply h rows v.0 v.1 k d)
    by (Awaits identifier cycle) k e d v = inl (awaits_told reply h identifier cycle v.0 v.1 v.2 k e)
    by (Flushed identifier report) k e d v = inl (flushed_told reply h identifier report v.0 v.1 v.2 k e d)
    by (Reported identifier report) k e d (inl v) = inl (reported_told reply h identifier report v.0 v.1 v.2 k e d)
    by (Reported identifier report) k e d (inr v) = absurd (report_is_none identifier v.0 report (sym e ∙ ap first_words v.1))
    by (Unreported identifier) k e d (inl v) = absurd (report_is_none v.0 identifier v.1 (sym (ap first_words v.2) ∙ e))
    by (Unreported identifier) k e d (inr v) =
        let own : IsIdentifier v.0 = subst IsReply v.1 h in
        let words : first_words (Unreported v.0) ≡ first_words (Unreported identifier) = sym (ap first_words v.1) ∙ e in
        let word : identifier_word v.0 ≡ identifier_word identifier = cc in
        inl (v.1 ∙ ap (λ x. Unreported x) (identifiers_told v.0 identifier own k word))
    by (Paused identifier) k e d v = inl (named (λ x. Paused x) (codes "pause") (λ x. refl) (λ x i. i) reply v.0 identifier v.1 h k e)
    by (Resumed identifier) k e d v = inl (named (λ x. Resumed x) (codes "resume") (λ x. refl) (λ x i. i) reply v.0 identifier v.1 h k e)
    by (Reset identifier) k e d v = inl (named (λ x. Reset x) (codes "reset") (λ x. refl) (λ x i. i) reply v.0 identifier v.1 h k e)
    by (Terminated identifier) k e d v = inl (named (λ x. Terminated x) (codes "terminate") (λ x. refl) (λ x i. i) reply v.0 identifier v.1 h k e)
    by (Opened stream) k e d v = inl (counted (λ x. Opened x) (codes "opened") (λ x. refl) (λ x i. i) reply v.0 stream v.1 h k e)
    by (Wrote count) k e d v = inl (counted (λ x. Wrote x) (codes "wrote") (λ x. refl) (λ x i. i) reply v.0 count v.1 h k e)
    by (Read read) k e d v =
        let words : first_words (Read v.0) ≡ first_words (Read read) = sym (ap first_words v.1) ∙ e in
        let behind : read_words v.0 ≡ read_words read = cc in
        inl (v.1 ∙ ap (λ x. Read x) (reads_told v.0 read behind))
    by WriteClosed k e d v = inl v
    by Closed k e d v = inl v
    by (Moved count) k e d v = inl (counted (λ x. Moved x) (codes "moved") (λ x. refl) (λ x i. i) reply v.0 count v.1 h k e)
    by Cut k e d v = inl v
    by (Refused refusal) k e d v =
        let words : first_words (Refused v.0) ≡ first_words (Refused refusal) = sym (ap first_words v.1) ∙ e in
        let behind : refusal_words v.0 ≡ refusal_words refusal = cc in
        inl (v.1 ∙ ap (λ x. Refused x) (refusals_told v.0 refusal (subst IsReply v.1 h) k behind))

pub same_bytes : (reply other : Reply) → IsReply reply → IsReply other → reply_bytes reply ≡ reply_bytes other → IsSameReply reply other
same_bytes reply other h k e = let words = same_words reply other e in told reply other h k words.0 words.1
