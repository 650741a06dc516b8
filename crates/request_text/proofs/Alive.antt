-- From each place of the reader some words lead to a whole request.
use Rattle.std.proofs.Common.{ℕ, Bool, true, ◌&&◌, List, [], ◌∷◌, refl, sym, ap, None, codes, inl, inr, lit<}
use Rattle.std.specs.Prelude.{decimal}
use Rattle.std.proofs.Math.Dec.{lit≤}
use Rattle.std.proofs.lemmas.Fmt.{decimal_digit}
use Rattle.std.proofs.lemmas.Str.{is_utf8-from_IsUtf8}
use Rattle.sync_path.specs.Path.{IsPath}
use Rattle.command_words.specs.Contents.{contents_word}
use Rattle.command_words.specs.Endpoint.{IsEndpoint}
use Rattle.command_words.specs.RootName.{has_root_name_form, IsRootName}
use Rattle.command_words.specs.declared.session.SessionWord.{SessionWord}
use Rattle.command_words.specs.declared.session.SessionWord.TheVariants as sessions
use Rattle.command_words.specs.declared.stream_side.StreamSide.TheVariants.{Near}
use Rattle.command_words.proofs.Classes.{labels_are_text}
use Rattle.entry_tree.specs.PathWord.{path_word}
use Rattle.entry_tree.specs.Text.{has_text_len, IsText}
use Rattle.mode_rules.specs.declared.phase.Phase.TheVariants.{Idle}
use Rattle.request_text.specs.Given.{forward_create, no_forward_options, sync_create}
use Rattle.request_text.specs.Places.{edit_place, Goes, stream_place, sync_may}
use Rattle.request_text.specs.declared.options.ForwardOptions.{ForwardOptions}
use Rattle.request_text.specs.declared.options.SyncOptions.{SyncOptions}
use Rattle.request_text.specs.declared.place.ConnVerb.TheVariants as conn
use Rattle.request_text.specs.declared.place.EditVerb.{EditVerb}
use Rattle.request_text.specs.declared.place.EditVerb.TheVariants as edit
use Rattle.request_text.specs.declared.place.First.TheVariants as first
use Rattle.request_text.specs.declared.place.ForwardVerb.TheVariants as forward
use Rattle.request_text.specs.declared.place.Place.{Place}
use Rattle.request_text.specs.declared.place.Place.TheVariants as at
use Rattle.request_text.specs.declared.place.StreamVerb.{StreamVerb}
use Rattle.request_text.specs.declared.place.StreamVerb.TheVariants as stream
use Rattle.request_text.specs.declared.place.SyncVerb.TheVariants as sync
use Rattle.request_text.specs.declared.request.Request.{Request}
use Rattle.request_text.specs.declared.request.Request.TheVariants as requests
use Rattle.request_text.specs.declared.stream_end.StreamEnd.{StreamEnd}
use Rattle.request_text.specs.declared.target.Target.{Target}
use Rattle.request_text.specs.Places.{forward_may}
use Rattle.request_text.proofs.Tables.{fit}
use Rattle.request_text.proofs.Whole.{and_false, Reaches, start}

-- some words lead from here to a whole request
abbrev pub Alive : Bool → Place → Type 0
Alive n place = (rest : List (List ℕ)) × (r : Request) × Reaches n place rest r

grow : (n : Bool) (place : Place) (word : List ℕ) (next : Place) → Goes n place word next → Alive n next → Alive n place
grow n place word next g a = (word ∷ a.0, a.1, (next, g, a.2))

whole : (n : Bool) (r : Request) → Alive n (at.Done r)
whole n r = ([], r, refl)

-- ---- a word of each kind

a_session : SessionWord
a_session = sessions.Named (codes "a")

is_a_root : IsRootName (codes "a")
is_a_root = ap (λ b. b && has_root_name_form (codes "a")) (is_utf8-from_IsUtf8 (codes "a") (labels_are_text (codes "a") refl))

is_a_text : IsText (codes "a")
is_a_text = ap (λ b. b && has_text_len (codes "a")) (is_utf8-from_IsUtf8 (codes "a") (labels_are_text (codes "a") refl))

is_the_root : IsPath []
is_the_root = record { each_name = refl; depth = lit≤ tt; len = lit≤ tt }

is_an_endpoint : IsEndpoint (codes "tcp:localhost:1")
is_an_endpoint = (codes "tcp", codes "localhost:1", refl, refl, (codes "localhost", codes "1", refl, inl refl, (1, lit≤ tt, lit≤ tt, sym (decimal_digit 1 (lit< tt)))))

-- ---- edits

alive_put : (n : Bool) (t : Target) → Alive n (at.Put t)
alive_put n t = grow n (at.Put t) (contents_word []) (at.Done (requests.Put t [])) (record { value = []; is = refl; leads = refl }) (whole n (requests.Put t []))

alive_fill_len : (n : Bool) (t : Target) (len : ℕ) → Alive n (at.FillLen t len)
alive_fill_len n t len = grow n (at.FillLen t len) (codes "00") (at.Done (requests.Fill t len 0)) (record { value = 0; is = refl; leads = refl }) (whole n (requests.Fill t len 0))

alive_fill : (n : Bool) (t : Target) → Alive n (at.Fill t)
alive_fill n t = grow n (at.Fill t) (decimal 1) (at.FillLen t 1) (record { value = 1; is = (lit≤ tt, lit≤ tt, refl); leads = refl }) (alive_fill_len n t 1)

alive_link : (n : Bool) (t : Target) → Alive n (at.Link t)
alive_link n t = grow n (at.Link t) (contents_word (codes "a")) (at.Done (requests.Link t (codes "a"))) (record { value = codes "a"; is = (is_a_text, refl); leads = refl }) (whole n (requests.Link t (codes "a")))

alive_exec : (n : Bool) (t : Target) → Alive n (at.Exec t)
alive_exec n t = grow n (at.Exec t) (codes "on") (at.Done (requests.Exec t true)) (record { value = true; is = refl; leads = refl }) (whole n (requests.Exec t true))

alive_edit : (n : Bool) (root : List ℕ) (verb : EditVerb) → Alive n (edit_place root verb [])
alive_edit n root edit.Put = alive_put n (record { root = root; path = [] })
alive_edit n root edit.Fill = alive_fill n (record { root = root; path = [] })
alive_edit n root edit.Link = alive_link n (record { root = root; path = [] })
alive_edit n root edit.Dir = whole n (requests.Dir (record { root = root; path = [] }))
alive_edit n root edit.Other = whole n (requests.Other (record { root = root; path = [] }))
alive_edit n root edit.Exec = alive_exec n (record { root = root; path = [] })
alive_edit n root edit.Del = whole n (requests.Del (record { root = root; path = [] }))

alive_verb : (n : Bool) (root : List ℕ) (verb : EditVerb) → Alive n (at.EditVerb root verb)
alive_verb n root verb = grow n (at.EditVerb root verb) (path_word []) (edit_place root verb []) (record { value = []; is = (is_the_root, refl); leads = refl }) (alive_edit n root verb)

alive_root : (n : Bool) (root : List ℕ) → Alive n (at.EditRoot root)
alive_root n root = grow n (at.EditRoot root) (codes "del") (at.EditVerb root edit.Del) (record { value = edit.Del; is = refl; leads = refl }) (alive_verb n root edit.Del)

-- ---- turns

alive_step : (n : Bool) (session : SessionWord) → Alive n (at.Step session)
alive_step n session = grow n (at.Step session) (decimal 1) (at.Done (requests.Step session 1)) (record { value = 1; is = (lit≤ tt, lit≤ tt, refl); leads = refl }) (whole n (requests.Step session 1))

alive_until : (n : Bool) (session : SessionWord) → Alive n (at.Until session)
alive_until n session = grow n (at.Until session) (codes "idle") (at.Done (requests.Until session Idle)) (record { value = Idle; is = refl; leads = refl }) (whole n (requests.Until session Idle))

-- ---- synchronisation sessions

alive_alpha : (n : Bool) (given : SyncOptions) (alpha : List ℕ) → Alive n (at.SyncAlpha given alpha)
alive_alpha n given alpha = grow n (at.SyncAlpha given alpha) (codes "a") (at.Done (requests.SyncCreate (sync_create given alpha (codes "a")))) (record { value = codes "a"; is = (is_a_root, refl); leads = refl })
    (whole n (requests.SyncCreate (sync_create given alpha (codes "a"))))

alive_create : (n : Bool) (given : SyncOptions) → Alive n (at.SyncCreate given)
alive_create n given = grow n (at.SyncCreate given) (codes "a") (at.SyncAlpha given (codes "a")) (inr (record { value = codes "a"; is = (is_a_root, refl); leads = refl })) (alive_alpha n given (codes "a"))

alive_flush : (n : Bool) → Alive n at.SyncFlush
unfolding a_session
alive_flush n = grow n at.SyncFlush (codes "a") (at.Done (requests.SyncFlush a_session)) (inr (record { value = a_session; is = (refl, refl); leads = refl })) (whole n (requests.SyncFlush a_session))

alive_sync : (n : Bool) → Alive n (at.First first.Sync)
alive_sync n = grow n (at.First first.Sync) (codes "flush") at.SyncFlush (record { value = sync.Flush; is = fit n sync_may sync.Flush (and_false n); leads = refl }) (alive_flush n)

-- ---- forwarding sessions

alive_source : (n : Bool) (given : ForwardOptions) (source : List ℕ) → Alive n (at.ForwardSource given source)
alive_source n given source = grow n (at.ForwardSource given source) (codes "tcp:localhost:1") (at.Done (requests.ForwardCreate (forward_create given source (codes "tcp:localhost:1"))))
    (record { value = codes "tcp:localhost:1"; is = (is_an_endpoint, refl); leads = refl }) (whole n (requests.ForwardCreate (forward_create given source (codes "tcp:localhost:1"))))

alive_forward_create : (n : Bool) (given : ForwardOptions) → Alive n (at.ForwardCreate given)
alive_forward_create n given = grow n (at.ForwardCreate given) (codes "tcp:localhost:1") (at.ForwardSource given (codes "tcp:localhost:1")) (inr (record { value = codes "tcp:localhost:1"; is = (is_an_endpoint, refl); leads = refl }))
    (alive_source n given (codes "tcp:localhost:1"))

-- ---- streams

alive_write : (n : Bool) (end : StreamEnd) → Alive n (at.Write end)
alive_write n end = grow n (at.Write end) (contents_word (codes "a")) (at.Done (requests.Write end (codes "a"))) (record { value = codes "a"; is = (lit< tt, refl); leads = refl }) (whole n (requests.Write end (codes "a")))

alive_stream_len : (n : Bool) (end : StreamEnd) (len : ℕ) → Alive n (at.StreamFillLen end len)
alive_stream_len n end len = grow n (at.StreamFillLen end len) (codes "00") (at.Done (requests.StreamFill end len 0)) (record { value = 0; is = refl; leads = refl }) (whole n (requests.StreamFill end len 0))

alive_stream_fill : (n : Bool) (end : StreamEnd) → Alive n (at.StreamFill end)
alive_stream_fill n end = grow n (at.StreamFill end) (decimal 1) (at.StreamFillLen end 1) (record { value = 1; is = (lit≤ tt, lit≤ tt, refl); leads = refl }) (alive_stream_len n end 1)

alive_read : (n : Bool) (end : StreamEnd) → Alive n (at.Read end)
alive_read n end = grow n (at.Read end) (decimal 1) (at.Done (requests.Read end 1)) (record { value = 1; is = (lit≤ tt, lit≤ tt, refl); leads = refl }) (whole n (requests.Read end 1))

alive_stream : (n : Bool) (session : SessionWord) (verb : StreamVerb) (number : ℕ) → Alive n (stream_place session verb number Near)
alive_stream n session stream.Write number = alive_write n (record { session = session; stream = number; side = Near })
alive_stream n session stream.Fill number = alive_stream_fill n (record { session = session; stream = number; side = Near })
alive_stream n session stream.Read number = alive_read n (record { session = session; stream = number; side = Near })
alive_stream n session stream.CloseWrite number = whole n (requests.CloseWrite (record { session = session; stream = number; side = Near }))
alive_stream n session stream.Close number = whole n (requests.Close (record { session = session; stream = number; side = Near }))

alive_number : (n : Bool) (session : SessionWord) (verb : StreamVerb) (number : ℕ) → Alive n (at.StreamNumber session verb number)
alive_number n session verb number = grow n (at.StreamNumber session verb number) (codes "near") (stream_place session verb number Near) (record { value = Near; is = refl; leads = refl }) (alive_stream n session verb number)

alive_conn : (n : Bool) (session : SessionWord) → Alive n (at.Conn session)
alive_conn n session = grow n (at.Conn session) (codes "cut") (at.Done (requests.Cut session)) (record { value = conn.Cut; is = refl; leads = refl }) (whole n (requests.Cut session))

-- ---- every place

pub alive : (n : Bool) (place : Place) → Alive n place
unfolding a_session
alive n at.Begin = grow n at.Begin (codes "sync") (at.First first.Sync) (start n first.Sync (and_false n)) (alive_sync n)
alive n (at.First first.Edit) = grow n (at.First first.Edit) (codes "a") (at.EditRoot (codes "a")) (record { value = codes "a"; is = (is_a_root, refl); leads = refl }) (alive_root n (codes "a"))
alive n (at.First first.Show) = grow n (at.First first.Show) (codes "a") (at.Done (requests.Show (codes "a"))) (record { value = codes "a"; is = (is_a_root, refl); leads = refl }) (whole n (requests.Show (codes "a")))
alive n (at.First first.Ancestor) = grow n (at.First first.Ancestor) (codes "a") (at.Done (requests.Ancestor a_session)) (record { value = a_session; is = (refl, refl); leads = refl }) (whole n (requests.Ancestor a_session))
alive n (at.First first.Step) = grow n (at.First first.Step) (codes "a") (at.Step a_session) (record { value = a_session; is = (refl, refl); leads = refl }) (alive_step n a_session)
alive n (at.First first.Until) = grow n (at.First first.Until) (codes "a") (at.Until a_session) (record { value = a_session; is = (refl, refl); leads = refl }) (alive_until n a_session)
alive n (at.First first.Sync) = alive_sync n
alive n (at.First first.Forward) = grow n (at.First first.Forward) (codes "create") (at.ForwardCreate no_forward_options) (record { value = forward.Create; is = fit n forward_may forward.Create (and_false n); leads = refl }) (alive_forward_create n no_forward_options)
alive n (at.First first.Conn) = grow n (at.First first.Conn) (codes "a") (at.Conn a_session) (record { value = a_session; is = (refl, refl); leads = refl }) (alive_conn n a_session)
alive n (at.EditRoot root) = alive_root n root
alive n (at.EditVerb root verb) = alive_verb n root verb
alive n (at.Put t) = alive_put n t
alive n (at.Fill t) = alive_fill n t
alive n (at.FillLen t len) = alive_fill_len n t len
alive n (at.Link t) = alive_link n t
alive n (at.Exec t) = alive_exec n t
alive n (at.Step session) = alive_step n session
alive n (at.Until session) = alive_until n session
alive n (at.SyncCreate given) = alive_create n given
alive n (at.SyncAlpha given alpha) = alive_alpha n given alpha
alive n at.SyncList = ([], requests.SyncList None, refl)
alive n at.SyncFlush = alive_flush n
alive n at.SyncFlushSkipWait = grow n at.SyncFlushSkipWait (codes "a") (at.Done (requests.SyncFlushSkipWait a_session)) (record { value = a_session; is = (refl, refl); leads = refl }) (whole n (requests.SyncFlushSkipWait a_session))
alive n (at.SyncOrder order) = grow n (at.SyncOrder order) (codes "a") (at.Done (requests.SyncOrder order a_session)) (record { value = a_session; is = (refl, refl); leads = refl }) (whole n (requests.SyncOrder order a_session))
alive n at.SyncReport = grow n at.SyncReport (codes "a") (at.Done (requests.SyncReport a_session)) (record { value = a_session; is = (refl, refl); leads = refl }) (whole n (requests.SyncReport a_session))
alive n (at.ForwardCreate given) = alive_forward_create n given
alive n (at.ForwardSource given source) = alive_source n given source
alive n (at.ForwardOrder order) = grow n (at.ForwardOrder order) (codes "a") (at.Done (requests.ForwardOrder order a_session)) (record { value = a_session; is = (refl, refl); leads = refl }) (whole n (requests.ForwardOrder order a_session))
alive n (at.Conn session) = alive_conn n session
alive n (at.Stream session verb) = grow n (at.Stream session verb) (decimal 1) (at.StreamNumber session verb 1) (record { value = 1; is = (lit≤ tt, refl); leads = refl }) (alive_number n session verb 1)
alive n (at.StreamNumber session verb number) = alive_number n session verb number
alive n (at.Write end) = alive_write n end
alive n (at.StreamFill end) = alive_stream_fill n end
alive n (at.StreamFillLen end len) = alive_stream_len n end len
alive n (at.Read end) = alive_read n end
alive n (at.Move session) = grow n (at.Move session) (codes "near") (at.MoveSide session Near) (record { value = Near; is = refl; leads = refl })
    (grow n (at.MoveSide session Near) (decimal 1) (at.Done (requests.Move session Near 1)) (record { value = 1; is = (lit≤ tt, refl); leads = refl }) (whole n (requests.Move session Near 1)))
alive n (at.MoveSide session side) = grow n (at.MoveSide session side) (decimal 1) (at.Done (requests.Move session side 1)) (record { value = 1; is = (lit≤ tt, refl); leads = refl }) (whole n (requests.Move session side 1))
alive n (at.Done request) = whole n request
