-- Each spelling of a request is read: its words lead to the request, step by step.
use Rattle.std.proofs.Common.{◌≡◌, ℕ, Bool, true, false, not, ◌&&◌, List, [], ◌∷◌, ◌++◌, refl, sym, ap, subst, ◌∙◌, Some, None, Option, codes, inl, inr}
use Rattle.std.specs.Prelude.{decimal}
use Rattle.std.specs.Option.{option_and_then}
use Rattle.command_words.specs.Contents.{contents_word}
use Rattle.command_words.specs.Keywords.{phase_word, stream_side_word, switch_word}
use Rattle.command_words.specs.Session.{IsSession, session_word}
use Rattle.command_words.specs.declared.session.SessionWord.{SessionWord}
use Rattle.command_words.proofs.KeywordWords.{one_phase, one_stream_side, one_switch}
use Rattle.request_text.specs.Orders.{forward_order_word, sync_order_word}
use Rattle.request_text.specs.Requests.{IsEnd, IsRequest, IsTarget}
use Rattle.request_text.specs.Settings.{setting_word, setting_words}
use Rattle.request_text.specs.Words.{edit_words, label_words, stream_words, words_of}
use Rattle.request_text.specs.declared.options.ForwardOptions.{ForwardOptions}
use Rattle.request_text.specs.declared.options.SyncOptions.{SyncOptions}
use Rattle.request_text.specs.declared.order.ForwardOrder.{ForwardOrder}
use Rattle.request_text.specs.declared.order.ForwardOrder.TheVariants as forward_orders
use Rattle.request_text.specs.declared.order.SyncOrder.{SyncOrder}
use Rattle.request_text.specs.declared.order.SyncOrder.TheVariants as sync_orders
use Rattle.request_text.specs.declared.stream_end.StreamEnd.{StreamEnd}
use Rattle.request_text.specs.declared.target.Target.{Target}
use Rattle.request_text.specs.declared.place.ConnVerb.{ConnVerb}
use Rattle.request_text.specs.declared.place.ConnVerb.TheVariants as conn
use Rattle.request_text.specs.declared.place.EditVerb.{EditVerb}
use Rattle.request_text.specs.declared.place.EditVerb.TheVariants as edit
use Rattle.request_text.specs.declared.place.First.{First}
use Rattle.request_text.specs.declared.place.First.TheVariants as first
use Rattle.request_text.specs.declared.place.ForwardVerb.{ForwardVerb}
use Rattle.request_text.specs.declared.place.ForwardVerb.TheVariants as forward
use Rattle.request_text.specs.declared.place.Place.{Place}
use Rattle.request_text.specs.declared.place.Place.TheVariants as at
use Rattle.request_text.specs.declared.place.StreamVerb.{StreamVerb}
use Rattle.request_text.specs.declared.place.StreamVerb.TheVariants as stream
use Rattle.request_text.specs.declared.place.SyncVerb.{SyncVerb}
use Rattle.request_text.specs.declared.place.SyncVerb.TheVariants as sync
use Rattle.request_text.specs.declared.request.Request.{Request}
use Rattle.request_text.specs.declared.request.Request.TheVariants as requests
use Rattle.request_text.specs.declared.setting.Setting.{Setting}
use Rattle.request_text.specs.Given.{AreSettings, forward_create, no_forward_options, no_sync_options, sync_create, with_forward_setting, with_forward_settings, with_setting, with_settings}
use Rattle.request_text.specs.Grammar.{may_name_client, Spells}
use Rattle.request_text.specs.Places.{by, conn_place, conn_verbs, edit_place, edit_verbs, Ends, first_may, first_words, fits, forward_may, forward_place, forward_verbs, Goes, stream_place, sync_may, sync_place, sync_verbs}
use Rattle.request_text.proofs.Tables.{conn_word, edit_word, first_word, fit, forward_word, stream_word, sync_word}

-- the words lead from a place to a whole request
abbrev pub Reaches : Bool → Place → List (List ℕ) → Request → Type 0
Reaches n place [] request = Ends place request
Reaches n place (word ∷ words) request = (next : Place) × Goes n place word next × Reaches n next words request

pub and_false : (n : Bool) → (n && false) ≡ false
and_false true = refl
and_false false = refl

-- ---- the words that say what a line does are found by their tables

first_found : (v : First) → by first_words (first_word v) ≡ Some v
first_found first.Edit = refl
first_found first.Show = refl
first_found first.Ancestor = refl
first_found first.Step = refl
first_found first.Until = refl
first_found first.Sync = refl
first_found first.Forward = refl
first_found first.Conn = refl

edit_found : (v : EditVerb) → by edit_verbs (edit_word v) ≡ Some v
edit_found edit.Put = refl
edit_found edit.Fill = refl
edit_found edit.Link = refl
edit_found edit.Dir = refl
edit_found edit.Other = refl
edit_found edit.Exec = refl
edit_found edit.Del = refl

sync_order_found : (v : SyncOrder) → by sync_verbs (sync_order_word v) ≡ Some (sync.Order v)
sync_order_found sync_orders.Pause = refl
sync_order_found sync_orders.Resume = refl
sync_order_found sync_orders.Reset = refl
sync_order_found sync_orders.Terminate = refl

sync_found : (v : SyncVerb) → by sync_verbs (sync_word v) ≡ Some v
sync_found sync.Create = refl
sync_found sync.List = refl
sync_found sync.Flush = refl
sync_found (sync.Order order) = sync_order_found order
sync_found sync.Report = refl

forward_order_found : (v : ForwardOrder) → by forward_verbs (forward_order_word v) ≡ Some (forward.Order v)
forward_order_found forward_orders.Pause = refl
forward_order_found forward_orders.Resume = refl
forward_order_found forward_orders.Terminate = refl

forward_found : (v : ForwardVerb) → by forward_verbs (forward_word v) ≡ Some v
forward_found forward.Create = refl
forward_found forward.List = refl
forward_found (forward.Order order) = forward_order_found order

stream_found : (v : StreamVerb) → by conn_verbs (stream_word v) ≡ Some (conn.Stream v)
stream_found stream.Write = refl
stream_found stream.Fill = refl
stream_found stream.Read = refl
stream_found stream.CloseWrite = refl
stream_found stream.Close = refl

conn_found : (v : ConnVerb) → by conn_verbs (conn_word v) ≡ Some v
conn_found conn.Open = refl
conn_found (conn.Stream verb) = stream_found verb
conn_found conn.Move = refl
conn_found conn.Cut = refl

-- ---- beginnings of lines

pub start : (n : Bool) (v : First) → (n && not (first_may v)) ≡ false → Goes n at.Begin (first_word v) (at.First v)
start n v m = record { value = v; is = ap (fits n first_may) (first_found v) ∙ fit n first_may v m; leads = refl }

edit_path : (n : Bool) (t : Target) (verb : EditVerb) (rest : List (List ℕ)) (r : Request) → (n && not false) ≡ false → IsTarget t → Reaches n (edit_place t.root verb t.path) rest r
    → Reaches n at.Begin (edit_words t (edit_word verb) rest) r
edit_path n t verb rest r m h more = (
  at.First first.Edit,
  start n first.Edit m,
  (
    at.EditRoot t.root,
    record { value = t.root; is = (h.0, refl); leads = refl },
    (
      at.EditVerb t.root verb,
      record { value = verb; is = edit_found verb; leads = refl },
      (edit_place t.root verb t.path, record { value = t.path; is = (h.1, refl); leads = refl }, more),
    ),
  ),
)

sync_path : (n : Bool) (verb : SyncVerb) (rest : List (List ℕ)) (r : Request) → (n && not (sync_may verb)) ≡ false → Reaches n (sync_place verb) rest r
    → Reaches n at.Begin (codes "sync" ∷ sync_word verb ∷ rest) r
sync_path n verb rest r m more = (
  at.First first.Sync,
  start n first.Sync (and_false n),
  (sync_place verb, record { value = verb; is = ap (fits n sync_may) (sync_found verb) ∙ fit n sync_may verb m; leads = refl }, more),
)

forward_path : (n : Bool) (verb : ForwardVerb) (rest : List (List ℕ)) (r : Request) → (n && not (forward_may verb)) ≡ false → Reaches n (forward_place verb) rest r
    → Reaches n at.Begin (codes "forward" ∷ forward_word verb ∷ rest) r
forward_path n verb rest r m more = (
  at.First first.Forward,
  start n first.Forward (and_false n),
  (forward_place verb, record { value = verb; is = ap (fits n forward_may) (forward_found verb) ∙ fit n forward_may verb m; leads = refl }, more),
)

conn_path : (n : Bool) (session : SessionWord) (verb : ConnVerb) (rest : List (List ℕ)) (r : Request) → (n && not false) ≡ false → IsSession session → Reaches n (conn_place session verb) rest r
    → Reaches n at.Begin (codes "conn" ∷ session_word session ∷ conn_word verb ∷ rest) r
conn_path n session verb rest r m h more = (
  at.First first.Conn,
  start n first.Conn m,
  (
    at.Conn session,
    record { value = session; is = (h, refl); leads = refl },
    (conn_place session verb, record { value = verb; is = conn_found verb; leads = refl }, more),
  ),
)

stream_path : (n : Bool) (end : StreamEnd) (verb : StreamVerb) (rest : List (List ℕ)) (r : Request) → (n && not false) ≡ false → IsEnd end
    → Reaches n (stream_place end.session verb end.stream end.side) rest r → Reaches n at.Begin (stream_words end (stream_word verb) rest) r
stream_path n end verb rest r m h more =
    conn_path n end.session (conn.Stream verb) (decimal end.stream ∷ stream_side_word end.side ∷ rest) r m h.0 (
      at.StreamNumber end.session verb end.stream,
      record { value = end.stream; is = (h.1, refl); leads = refl },
      (stream_place end.session verb end.stream end.side, record { value = end.side; is = (one_stream_side end.side (stream_side_word end.side)).1 refl; leads = refl }, more),
    )

-- ---- options

sync_options_path : (n : Bool) (given more : SyncOptions) (settings : List Setting) (rest : List (List ℕ)) (r : Request) → AreSettings settings → with_settings given settings ≡ Some more
    → Reaches n (at.SyncCreate more) rest r → Reaches n (at.SyncCreate given) (setting_words settings ++ rest) r
sync_options_path n given more [] rest r h e k = let same : given ≡ more = cc in subst (λ g. Reaches n (at.SyncCreate g) rest r) (sym same) k
sync_options_path n given more (s ∷ settings) rest r h e k = by_one (with_setting given s) refl (λ m f. sync_options_path n m more settings rest r h.1 f k) e
  where
    by_one : (o : Option SyncOptions) → with_setting given s ≡ o → ((m : SyncOptions) → with_settings m settings ≡ Some more → Reaches n (at.SyncCreate m) (setting_words settings ++ rest) r)
        → option_and_then (λ m. with_settings m settings) o ≡ Some more → Reaches n (at.SyncCreate given) (setting_word s ∷ (setting_words settings ++ rest)) r
    by_one None t next f = absurd (cc)
    by_one (Some m) t next f = (at.SyncCreate m, inl (record { value = m; is = record { setting = s; is = (h.0, refl); taken = t }; leads = refl }), next m f)

forward_options_path : (n : Bool) (given more : ForwardOptions) (settings : List Setting) (rest : List (List ℕ)) (r : Request) → AreSettings settings → with_forward_settings given settings ≡ Some more
    → Reaches n (at.ForwardCreate more) rest r → Reaches n (at.ForwardCreate given) (setting_words settings ++ rest) r
forward_options_path n given more [] rest r h e k = let same : given ≡ more = cc in subst (λ g. Reaches n (at.ForwardCreate g) rest r) (sym same) k
forward_options_path n given more (s ∷ settings) rest r h e k = by_one (with_forward_setting given s) refl (λ m f. forward_options_path n m more settings rest r h.1 f k) e
  where
    by_one : (o : Option ForwardOptions) → with_forward_setting given s ≡ o → ((m : ForwardOptions) → with_forward_settings m settings ≡ Some more → Reaches n (at.ForwardCreate m) (setting_words settings ++ rest) r)
        → option_and_then (λ m. with_forward_settings m settings) o ≡ Some more → Reaches n (at.ForwardCreate given) (setting_word s ∷ (setting_words settings ++ rest)) r
    by_one None t next f = absurd (cc)
    by_one (Some m) t next f = (at.ForwardCreate m, inl (record { value = m; is = record { setting = s; is = (h.0, refl); taken = t }; leads = refl }), next m f)

-- ---- every request

to : (n : Bool) (words : List (List ℕ)) (all : List (List ℕ)) (r : Request) → words ≡ all → Reaches n at.Begin all r → Reaches n at.Begin words r
to n words all r e k = subst (λ ws. Reaches n at.Begin ws r) (sym e) k

pub whole : (n : Bool) (r : Request) (words : List (List ℕ)) → IsRequest r → Spells r words → (n && not (may_name_client r)) ≡ false → Reaches n at.Begin words r
whole n (requests.Put t bytes) words h s m = to n words (words_of (requests.Put t bytes)) (requests.Put t bytes) s (edit_path n t edit.Put (contents_word bytes ∷ []) (requests.Put t bytes) m h (at.Done (requests.Put t bytes), record { value = bytes; is = refl; leads = refl }, refl))
whole n (requests.Fill t len byte) words h s m = to n words (edit_words t (codes "fill") (decimal len ∷ s.0 ∷ [])) (requests.Fill t len byte) s.2
    (edit_path n t edit.Fill (decimal len ∷ s.0 ∷ []) (requests.Fill t len byte) m h.0
    (at.FillLen t len, record { value = len; is = (h.1.0, h.1.1, refl); leads = refl }, (at.Done (requests.Fill t len byte), record { value = byte; is = s.1; leads = refl }, refl)))
whole n (requests.Link t text) words h s m = to n words (words_of (requests.Link t text)) (requests.Link t text) s (edit_path n t edit.Link (contents_word text ∷ []) (requests.Link t text) m h.0 (at.Done (requests.Link t text), record { value = text; is = (h.1, refl); leads = refl }, refl))
whole n (requests.Dir t) words h s m = to n words (words_of (requests.Dir t)) (requests.Dir t) s (edit_path n t edit.Dir [] (requests.Dir t) m h refl)
whole n (requests.Other t) words h s m = to n words (words_of (requests.Other t)) (requests.Other t) s (edit_path n t edit.Other [] (requests.Other t) m h refl)
whole n (requests.Del t) words h s m = to n words (words_of (requests.Del t)) (requests.Del t) s (edit_path n t edit.Del [] (requests.Del t) m h refl)
whole n (requests.Exec t on) words h s m = to n words (words_of (requests.Exec t on)) (requests.Exec t on) s (edit_path n t edit.Exec (switch_word on ∷ []) (requests.Exec t on) m h (at.Done (requests.Exec t on), record { value = on; is = (one_switch on (switch_word on)).1 refl; leads = refl }, refl))
whole n (requests.Show root) words h s m = to n words (words_of (requests.Show root)) (requests.Show root) s ((at.First first.Show, start n first.Show m, (at.Done (requests.Show root), record { value = root; is = (h, refl); leads = refl }, refl)))
whole n (requests.Ancestor session) words h s m = to n words (words_of (requests.Ancestor session)) (requests.Ancestor session) s ((at.First first.Ancestor, start n first.Ancestor m, (at.Done (requests.Ancestor session), record { value = session; is = (h, refl); leads = refl }, refl)))
whole n (requests.Step session count) words h s m = to n words (words_of (requests.Step session count)) (requests.Step session count) s ((at.First first.Step, start n first.Step m, (at.Step session, record { value = session; is = (h.0, refl); leads = refl }, (at.Done (requests.Step session count), record { value = count; is = (h.1.0, h.1.1, refl); leads = refl }, refl))))
whole n (requests.Until session phase) words h s m = to n words (words_of (requests.Until session phase)) (requests.Until session phase) s ((at.First first.Until, start n first.Until m, (at.Until session, record { value = session; is = (h, refl); leads = refl }, (at.Done (requests.Until session phase), record { value = phase; is = (one_phase phase (phase_word phase)).1 refl; leads = refl }, refl))))
whole n (requests.SyncCreate create) words h s m = to n words (codes "sync" ∷ codes "create" ∷ (setting_words s.0 ++ (create.alpha ∷ create.beta ∷ []))) (requests.SyncCreate create) s.2
    (sync_path n sync.Create (setting_words s.0 ++ (create.alpha ∷ create.beta ∷ [])) (requests.SyncCreate create) m
    (sync_options_path n no_sync_options s.1.options s.0 (create.alpha ∷ create.beta ∷ []) (requests.SyncCreate create) s.1.are s.1.given (
      at.SyncAlpha s.1.options create.alpha,
      inr (record { value = create.alpha; is = (h.0, refl); leads = refl }),
      (at.Done (requests.SyncCreate (sync_create s.1.options create.alpha create.beta)), record { value = create.beta; is = (h.1, refl); leads = refl }, ap requests.SyncCreate s.1.made),
    )))
whole n (requests.SyncList None) words h s m = to n words (words_of (requests.SyncList None)) (requests.SyncList None) s (sync_path n sync.List [] (requests.SyncList None) m refl)
whole n (requests.SyncList (Some label)) words h s m = to n words (words_of (requests.SyncList (Some label))) (requests.SyncList (Some label)) s
    (sync_path n sync.List (label_words (Some label)) (requests.SyncList (Some label)) m (at.Done (requests.SyncList (Some label)), record { value = label; is = (h, refl); leads = refl }, refl))
whole n (requests.SyncFlush session) words h s m = to n words (words_of (requests.SyncFlush session)) (requests.SyncFlush session) s (sync_path n sync.Flush (session_word session ∷ []) (requests.SyncFlush session) m (at.Done (requests.SyncFlush session), inr (record { value = session; is = (h, refl); leads = refl }), refl))
whole n (requests.SyncFlushSkipWait session) words h s m = to n words (words_of (requests.SyncFlushSkipWait session)) (requests.SyncFlushSkipWait session) s (sync_path n sync.Flush (codes "--skip-wait" ∷ session_word session ∷ []) (requests.SyncFlushSkipWait session) m (at.SyncFlushSkipWait, inl (refl, refl), (at.Done (requests.SyncFlushSkipWait session), record { value = session; is = (h, refl); leads = refl }, refl)))
whole n (requests.SyncOrder order session) words h s m = to n words (words_of (requests.SyncOrder order session)) (requests.SyncOrder order session) s (sync_path n (sync.Order order) (session_word session ∷ []) (requests.SyncOrder order session) m (at.Done (requests.SyncOrder order session), record { value = session; is = (h, refl); leads = refl }, refl))
whole n (requests.SyncReport session) words h s m = to n words (words_of (requests.SyncReport session)) (requests.SyncReport session) s (sync_path n sync.Report (session_word session ∷ []) (requests.SyncReport session) m (at.Done (requests.SyncReport session), record { value = session; is = (h, refl); leads = refl }, refl))
whole n (requests.ForwardCreate create) words h s m = to n words (codes "forward" ∷ codes "create" ∷ (setting_words s.0 ++ (create.source ∷ create.dest ∷ []))) (requests.ForwardCreate create) s.2
    (forward_path n forward.Create (setting_words s.0 ++ (create.source ∷ create.dest ∷ [])) (requests.ForwardCreate create) m
    (forward_options_path n no_forward_options s.1.options s.0 (create.source ∷ create.dest ∷ []) (requests.ForwardCreate create) s.1.are s.1.given (
      at.ForwardSource s.1.options create.source,
      inr (record { value = create.source; is = (h.0, refl); leads = refl }),
      (at.Done (requests.ForwardCreate (forward_create s.1.options create.source create.dest)), record { value = create.dest; is = (h.1, refl); leads = refl }, ap requests.ForwardCreate s.1.made),
    )))
whole n requests.ForwardList words h s m = to n words (words_of requests.ForwardList) requests.ForwardList s (forward_path n forward.List [] requests.ForwardList m refl)
whole n (requests.ForwardOrder order session) words h s m = to n words (words_of (requests.ForwardOrder order session)) (requests.ForwardOrder order session) s (forward_path n (forward.Order order) (session_word session ∷ []) (requests.ForwardOrder order session) m (at.Done (requests.ForwardOrder order session), record { value = session; is = (h, refl); leads = refl }, refl))
whole n (requests.Open session) words h s m = to n words (words_of (requests.Open session)) (requests.Open session) s (conn_path n session conn.Open [] (requests.Open session) m h refl)
whole n (requests.Write end bytes) words h s m = to n words (words_of (requests.Write end bytes)) (requests.Write end bytes) s (stream_path n end stream.Write (contents_word bytes ∷ []) (requests.Write end bytes) m h.0 (at.Done (requests.Write end bytes), record { value = bytes; is = (h.1, refl); leads = refl }, refl))
whole n (requests.StreamFill end len byte) words h s m = to n words (stream_words end (codes "fill") (decimal len ∷ s.0 ∷ [])) (requests.StreamFill end len byte) s.2
    (stream_path n end stream.Fill (decimal len ∷ s.0 ∷ []) (requests.StreamFill end len byte) m h.0
    (at.StreamFillLen end len, record { value = len; is = (h.1.0, h.1.1, refl); leads = refl }, (at.Done (requests.StreamFill end len byte), record { value = byte; is = s.1; leads = refl }, refl)))
whole n (requests.Read end most) words h s m = to n words (words_of (requests.Read end most)) (requests.Read end most) s (stream_path n end stream.Read (decimal most ∷ []) (requests.Read end most) m h.0 (at.Done (requests.Read end most), record { value = most; is = (h.1.0, h.1.1, refl); leads = refl }, refl))
whole n (requests.CloseWrite end) words h s m = to n words (words_of (requests.CloseWrite end)) (requests.CloseWrite end) s (stream_path n end stream.CloseWrite [] (requests.CloseWrite end) m h refl)
whole n (requests.Close end) words h s m = to n words (words_of (requests.Close end)) (requests.Close end) s (stream_path n end stream.Close [] (requests.Close end) m h refl)
whole n (requests.Move session side count) words h s m = to n words (words_of (requests.Move session side count)) (requests.Move session side count) s (conn_path n session conn.Move (stream_side_word side ∷ decimal count ∷ []) (requests.Move session side count) m h.0 (at.MoveSide session side, record { value = side; is = (one_stream_side side (stream_side_word side)).1 refl; leads = refl }, (at.Done (requests.Move session side count), record { value = count; is = (h.1, refl); leads = refl }, refl)))
whole n (requests.Cut session) words h s m = to n words (words_of (requests.Cut session)) (requests.Cut session) s (conn_path n session conn.Cut [] (requests.Cut session) m h refl)
