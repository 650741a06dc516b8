-- What the reader has read is spelt so: each step adds a word of the grammar.
use Rattle.std.proofs.Common.{◌≡◌, ℕ, ◌≤◌, ◌-◌, ◌^◌, Bool, true, false, not, ◌&&◌, List, [], ◌∷◌, ◌++◌, refl, sym, ap, ap₂, subst, ◌∙◌, append_assoc, Some, None, Option, codes, inl, inr}
use Rattle.std.specs.Prelude.{decimal}
use Rattle.std.specs.Option.{option_and_then}
use Rattle.command_words.specs.Endpoint.{IsEndpoint}
use Rattle.command_words.specs.Keywords.{stream_side_word}
use Rattle.command_words.specs.RootName.{IsRootName}
use Rattle.command_words.specs.Session.{IsSession, session_word}
use Rattle.command_words.specs.declared.session.SessionWord.{SessionWord}
use Rattle.command_words.proofs.KeywordWords.{one_phase, one_stream_side, one_switch}
use Rattle.request_text.specs.Given.{AreSettings, forward_create, no_forward_options, no_sync_options, sync_create, with_forward_setting, with_forward_settings, with_setting, with_settings}
use Rattle.request_text.specs.Grammar.{may_name_client, Spells}
use Rattle.request_text.specs.Orders.{forward_order_word, sync_order_word}
use Rattle.request_text.specs.Places.{by, conn_place, first_may, first_words, forward_may, forward_place, forward_verbs, Goes, IsForwardOption, IsSyncOption, sync_may, sync_place, sync_verbs}
use Rattle.request_text.specs.Requests.{IsEnd, IsRequest, IsTarget, IsWithin}
use Rattle.request_text.specs.Settings.{IsSetting, setting_word, setting_words}
use Rattle.request_text.specs.Words.{edit_words, stream_words}
use Rattle.request_text.specs.declared.limits.TheConstants.{MAX_FILL_LEN, MAX_STREAM_FILL_LEN}
use Rattle.request_text.specs.declared.options.ForwardOptions.{ForwardOptions}
use Rattle.request_text.specs.declared.options.SyncOptions.{SyncOptions}
use Rattle.request_text.specs.declared.place.ConnVerb.{ConnVerb}
use Rattle.request_text.specs.declared.place.ConnVerb.TheVariants as conn
use Rattle.request_text.specs.declared.place.EditVerb.TheVariants as edit
use Rattle.request_text.specs.declared.place.First.TheVariants as first
use Rattle.request_text.specs.declared.place.ForwardVerb.{ForwardVerb}
use Rattle.request_text.specs.declared.place.ForwardVerb.TheVariants as forward
use Rattle.request_text.specs.declared.place.Place.{Place}
use Rattle.request_text.specs.declared.place.Place.TheVariants as at
use Rattle.request_text.specs.declared.place.StreamVerb.TheVariants as stream
use Rattle.request_text.specs.declared.place.SyncVerb.{SyncVerb}
use Rattle.request_text.specs.declared.place.SyncVerb.TheVariants as sync
use Rattle.request_text.specs.declared.request.Request.TheVariants as requests
use Rattle.request_text.specs.declared.setting.Setting.{Setting}
use Rattle.request_text.proofs.Tables.{conn_is, conn_word, edit_is, edit_word, first_is, first_word, fitting, forward_is, forward_word, stream_word, sync_is, sync_word}

-- whether what was read may stand behind a client
abbrev pub may_of : Place → Bool
may_of at.Begin = true
may_of (at.First v) = first_may v
may_of (at.SyncCreate given) = true
may_of (at.SyncAlpha given alpha) = true
may_of at.SyncFlush = true
may_of at.SyncFlushSkipWait = true
may_of (at.SyncOrder order) = true
may_of (at.ForwardCreate given) = true
may_of (at.ForwardSource given source) = true
may_of (at.ForwardOrder order) = true
may_of (at.Done request) = may_name_client request
may_of place = false

-- what the types of a place keep
abbrev pub IsPlace : Place → Type 0
IsPlace (at.EditRoot root) = IsRootName root
IsPlace (at.EditVerb root verb) = IsRootName root
IsPlace (at.Put target) = IsTarget target
IsPlace (at.Fill target) = IsTarget target
IsPlace (at.FillLen target len) = IsTarget target × IsWithin 0 MAX_FILL_LEN len
IsPlace (at.Link target) = IsTarget target
IsPlace (at.Exec target) = IsTarget target
IsPlace (at.Step session) = IsSession session
IsPlace (at.Until session) = IsSession session
IsPlace (at.SyncAlpha given alpha) = IsRootName alpha
IsPlace (at.ForwardSource given source) = IsEndpoint source
IsPlace (at.Conn session) = IsSession session
IsPlace (at.Stream session verb) = IsSession session
IsPlace (at.StreamNumber session verb number) = IsSession session × (number ≤ 2 ^ 32 - 1)
IsPlace (at.Write end) = IsEnd end
IsPlace (at.StreamFill end) = IsEnd end
IsPlace (at.StreamFillLen end len) = IsEnd end × IsWithin 1 MAX_STREAM_FILL_LEN len
IsPlace (at.Read end) = IsEnd end
IsPlace (at.Move session) = IsSession session
IsPlace (at.MoveSide session side) = IsSession session
IsPlace (at.Done request) = IsRequest request
IsPlace place = Unit {0}

-- these words lead there
abbrev pub WordsTo : Place → List (List ℕ) → Type 0
WordsTo at.Begin words = words ≡ []
WordsTo (at.First v) words = words ≡ first_word v ∷ []
WordsTo (at.EditRoot root) words = words ≡ codes "edit" ∷ root ∷ []
WordsTo (at.EditVerb root verb) words = words ≡ codes "edit" ∷ root ∷ edit_word verb ∷ []
WordsTo (at.Put target) words = words ≡ edit_words target (codes "put") []
WordsTo (at.Fill target) words = words ≡ edit_words target (codes "fill") []
WordsTo (at.FillLen target len) words = words ≡ edit_words target (codes "fill") (decimal len ∷ [])
WordsTo (at.Link target) words = words ≡ edit_words target (codes "link") []
WordsTo (at.Exec target) words = words ≡ edit_words target (codes "exec") []
WordsTo (at.Step session) words = words ≡ codes "step" ∷ session_word session ∷ []
WordsTo (at.Until session) words = words ≡ codes "until" ∷ session_word session ∷ []
WordsTo (at.SyncCreate given) words = (settings : List Setting) × AreSettings settings × (with_settings no_sync_options settings ≡ Some given)
    × (words ≡ codes "sync" ∷ codes "create" ∷ setting_words settings)
WordsTo (at.SyncAlpha given alpha) words = (settings : List Setting) × AreSettings settings × (with_settings no_sync_options settings ≡ Some given)
    × (words ≡ codes "sync" ∷ codes "create" ∷ (setting_words settings ++ alpha ∷ []))
WordsTo at.SyncList words = words ≡ codes "sync" ∷ codes "list" ∷ []
WordsTo at.SyncFlush words = words ≡ codes "sync" ∷ codes "flush" ∷ []
WordsTo at.SyncFlushSkipWait words = words ≡ codes "sync" ∷ codes "flush" ∷ codes "--skip-wait" ∷ []
WordsTo (at.SyncOrder order) words = words ≡ codes "sync" ∷ sync_order_word order ∷ []
WordsTo at.SyncReport words = words ≡ codes "sync" ∷ codes "report" ∷ []
WordsTo (at.ForwardCreate given) words = (settings : List Setting) × AreSettings settings × (with_forward_settings no_forward_options settings ≡ Some given)
    × (words ≡ codes "forward" ∷ codes "create" ∷ setting_words settings)
WordsTo (at.ForwardSource given source) words = (settings : List Setting) × AreSettings settings × (with_forward_settings no_forward_options settings ≡ Some given)
    × (words ≡ codes "forward" ∷ codes "create" ∷ (setting_words settings ++ source ∷ []))
WordsTo (at.ForwardOrder order) words = words ≡ codes "forward" ∷ forward_order_word order ∷ []
WordsTo (at.Conn session) words = words ≡ codes "conn" ∷ session_word session ∷ []
WordsTo (at.Stream session verb) words = words ≡ codes "conn" ∷ session_word session ∷ stream_word verb ∷ []
WordsTo (at.StreamNumber session verb number) words = words ≡ codes "conn" ∷ session_word session ∷ stream_word verb ∷ decimal number ∷ []
WordsTo (at.Write end) words = words ≡ stream_words end (codes "write") []
WordsTo (at.StreamFill end) words = words ≡ stream_words end (codes "fill") []
WordsTo (at.StreamFillLen end len) words = words ≡ stream_words end (codes "fill") (decimal len ∷ [])
WordsTo (at.Read end) words = words ≡ stream_words end (codes "read") []
WordsTo (at.Move session) words = words ≡ codes "conn" ∷ session_word session ∷ codes "move" ∷ []
WordsTo (at.MoveSide session side) words = words ≡ codes "conn" ∷ session_word session ∷ codes "move" ∷ stream_side_word side ∷ []
WordsTo (at.Done request) words = Spells request words

-- What was read so far was spelt by these words.
pub record Spelt (numbered : Bool) (place : Place) (line : List (List ℕ)) : Type 0 where
  pub may : (numbered && not (may_of place)) ≡ false
  pub is : IsPlace place
  pub words : WordsTo place line

lead : (n : Bool) (t place : Place) (words : List (List ℕ)) → t ≡ place → Spelt n place words → Spelt n t words
lead n t place words e h = subst (λ p. Spelt n p words) (sym e) h

joined : (before b : List (List ℕ)) (word w : List ℕ) → before ≡ b → word ≡ w → before ++ word ∷ [] ≡ b ++ w ∷ []
joined before b word w e k = ap₂ (λ ws x. ws ++ x ∷ []) e k

-- ---- options

are_snoc : (settings : List Setting) (setting : Setting) → AreSettings settings → IsSetting setting → AreSettings (settings ++ setting ∷ [])
are_snoc [] setting h k = (k, tt)
are_snoc (s ∷ settings) setting h k = (h.0, are_snoc settings setting h.1 k)

words_snoc : (settings : List Setting) (setting : Setting) → setting_words (settings ++ setting ∷ []) ≡ setting_words settings ++ setting_word setting ∷ []
words_snoc [] setting = refl
words_snoc (s ∷ settings) setting = ap (λ ws. setting_word s ∷ ws) (words_snoc settings setting)

sync_snoc : (from given more : SyncOptions) (settings : List Setting) (setting : Setting) → with_settings from settings ≡ Some given → with_setting given setting ≡ Some more
    → with_settings from (settings ++ setting ∷ []) ≡ Some more
sync_snoc from given more [] setting h k = let same : from ≡ given = cc in ap (λ g. option_and_then (λ m. Some m) (with_setting g setting)) same ∙ ap (option_and_then (λ m. Some m)) k
sync_snoc from given more (s ∷ settings) setting h k = at (with_setting from s) (λ m e. sync_snoc m given more settings setting e k) h
  where
    at : (o : Option SyncOptions) → ((m : SyncOptions) → with_settings m settings ≡ Some given → with_settings m (settings ++ setting ∷ []) ≡ Some more) → option_and_then (λ m. with_settings m settings) o ≡ Some given
        → option_and_then (λ m. with_settings m (settings ++ setting ∷ [])) o ≡ Some more
    at None next e = absurd (cc)
    at (Some m) next e = next m e

forward_snoc : (from given more : ForwardOptions) (settings : List Setting) (setting : Setting) → with_forward_settings from settings ≡ Some given → with_forward_setting given setting ≡ Some more
    → with_forward_settings from (settings ++ setting ∷ []) ≡ Some more
forward_snoc from given more [] setting h k = let same : from ≡ given = cc in ap (λ g. option_and_then (λ m. Some m) (with_forward_setting g setting)) same ∙ ap (option_and_then (λ m. Some m)) k
forward_snoc from given more (s ∷ settings) setting h k = at (with_forward_setting from s) (λ m e. forward_snoc m given more settings setting e k) h
  where
    at : (o : Option ForwardOptions) → ((m : ForwardOptions) → with_forward_settings m settings ≡ Some given → with_forward_settings m (settings ++ setting ∷ []) ≡ Some more) → option_and_then (λ m. with_forward_settings m settings) o ≡ Some given
        → option_and_then (λ m. with_forward_settings m (settings ++ setting ∷ [])) o ≡ Some more
    at None next e = absurd (cc)
    at (Some m) next e = next m e

sync_given : (before : List (List ℕ)) (word : List ℕ) (given more : SyncOptions) → WordsTo (at.SyncCreate given) before → IsSyncOption given word more → WordsTo (at.SyncCreate more) (before ++ word ∷ [])
sync_given before word given more h o = (
  h.0 ++ o.setting ∷ [],
  are_snoc h.0 o.setting h.1 o.is.0,
  sync_snoc no_sync_options given more h.0 o.setting h.2 o.taken,
  joined before _ word _ h.3 o.is.1 ∙ ap (λ ws. codes "sync" ∷ codes "create" ∷ ws) (sym (words_snoc h.0 o.setting)),
)

forward_given : (before : List (List ℕ)) (word : List ℕ) (given more : ForwardOptions) → WordsTo (at.ForwardCreate given) before → IsForwardOption given word more → WordsTo (at.ForwardCreate more) (before ++ word ∷ [])
forward_given before word given more h o = (
  h.0 ++ o.setting ∷ [],
  are_snoc h.0 o.setting h.1 o.is.0,
  forward_snoc no_forward_options given more h.0 o.setting h.2 o.taken,
  joined before _ word _ h.3 o.is.1 ∙ ap (λ ws. codes "forward" ∷ codes "create" ∷ ws) (sym (words_snoc h.0 o.setting)),
)

-- ---- the words that say what a line does

sync_step : (n : Bool) (verb : SyncVerb) (before : List (List ℕ)) (word : List ℕ) → before ≡ codes "sync" ∷ [] → (n && not (sync_may verb)) ≡ false → word ≡ sync_word verb
    → Spelt n (sync_place verb) (before ++ word ∷ [])
sync_step n sync.Create before word b m w = record { may = m; is = tt; words = ([], tt, refl, joined before _ word _ b w) }
sync_step n sync.List before word b m w = record { may = m; is = tt; words = joined before _ word _ b w }
sync_step n sync.Flush before word b m w = record { may = m; is = tt; words = joined before _ word _ b w }
sync_step n (sync.Order order) before word b m w = record { may = m; is = tt; words = joined before _ word _ b w }
sync_step n sync.Report before word b m w = record { may = m; is = tt; words = joined before _ word _ b w }

forward_step : (n : Bool) (verb : ForwardVerb) (before : List (List ℕ)) (word : List ℕ) → before ≡ codes "forward" ∷ [] → (n && not (forward_may verb)) ≡ false → word ≡ forward_word verb
    → Spelt n (forward_place verb) (before ++ word ∷ [])
forward_step n forward.Create before word b m w = record { may = m; is = tt; words = ([], tt, refl, joined before _ word _ b w) }
forward_step n forward.List before word b m w = record { may = m; is = tt; words = joined before _ word _ b w }
forward_step n (forward.Order order) before word b m w = record { may = m; is = tt; words = joined before _ word _ b w }

conn_step : (n : Bool) (session : SessionWord) (verb : ConnVerb) (before : List (List ℕ)) (word : List ℕ) → Spelt n (at.Conn session) before → word ≡ conn_word verb
    → Spelt n (conn_place session verb) (before ++ word ∷ [])
conn_step n session conn.Open before word h w = record { may = h.may; is = h.is; words = joined before _ word _ h.words w }
conn_step n session (conn.Stream verb) before word h w = record { may = h.may; is = h.is; words = joined before _ word _ h.words w }
conn_step n session conn.Move before word h w = record { may = h.may; is = h.is; words = joined before _ word _ h.words w }
conn_step n session conn.Cut before word h w = record { may = h.may; is = h.is; words = joined before _ word _ h.words w }

-- ---- every step

pub read_step : (n : Bool) (place : Place) (word : List ℕ) (t : Place) (before : List (List ℕ)) → Spelt n place before → Goes n place word t → Spelt n t (before ++ word ∷ [])
read_step n at.Begin word t before h g =
    let fit = fitting n first_may (by first_words word) g.value g.is in
    lead n t (at.First g.value) (before ++ word ∷ []) g.leads (record { may = fit.1; is = tt; words = joined before _ word _ h.words (first_is word g.value fit.0) })
read_step n (at.First first.Sync) word t before h g =
    let fit = fitting n sync_may (by sync_verbs word) g.value g.is in
    lead n t (sync_place g.value) (before ++ word ∷ []) g.leads (sync_step n g.value before word h.words fit.1 (sync_is word g.value fit.0))
read_step n (at.First first.Forward) word t before h g =
    let fit = fitting n forward_may (by forward_verbs word) g.value g.is in
    lead n t (forward_place g.value) (before ++ word ∷ []) g.leads (forward_step n g.value before word h.words fit.1 (forward_is word g.value fit.0))
read_step n (at.Conn session) word t before h g =
    lead n t (conn_place session g.value) (before ++ word ∷ []) g.leads (conn_step n session g.value before word h (conn_is word g.value g.is))
read_step n (at.FillLen target len) word t before h g =
    lead n t (at.Done (requests.Fill target len g.value)) (before ++ word ∷ []) g.leads (record { may = h.may; is = h.is; words = (word, g.is, joined before _ word _ h.words refl) })
read_step n (at.StreamFillLen end len) word t before h g =
    lead n t (at.Done (requests.StreamFill end len g.value)) (before ++ word ∷ []) g.leads (record { may = h.may; is = h.is; words = (word, g.is, joined before _ word _ h.words refl) })
read_step n (at.SyncCreate given) word t before h (inl g) =
    lead n t (at.SyncCreate g.value) (before ++ word ∷ []) g.leads (record { may = h.may; is = tt; words = sync_given before word given g.value h.words g.is })
read_step n (at.SyncCreate given) word t before h (inr g) =
    lead n t (at.SyncAlpha given g.value) (before ++ word ∷ []) g.leads (record {
      may = h.may;
      is = g.is.0;
      words =
          (h.words.0, h.words.1, h.words.2, joined before _ word _ h.words.3 g.is.1);
    })
read_step n (at.SyncAlpha given alpha) word t before h g =
    lead n t (at.Done (requests.SyncCreate (sync_create given alpha g.value))) (before ++ word ∷ []) g.leads (record {
      may = h.may;
      is = (h.is, g.is.0);
      words = (
        h.words.0,
        record { are = h.words.1; options = given; given = h.words.2; made = refl },
        joined before _ word _ h.words.3 g.is.1 ∙ ap (λ ws. codes "sync" ∷ codes "create" ∷ ws) (append_assoc (setting_words h.words.0) (alpha ∷ []) (g.value ∷ [])),
      );
    })
read_step n at.SyncFlush word t before h (inl g) =
    lead n t at.SyncFlushSkipWait (before ++ word ∷ []) g.1 (record { may = h.may; is = tt; words = joined before _ word _ h.words g.0 })
read_step n at.SyncFlush word t before h (inr g) =
    lead n t (at.Done (requests.SyncFlush g.value)) (before ++ word ∷ []) g.leads (record { may = h.may; is = g.is.0; words = joined before _ word _ h.words g.is.1 })
read_step n (at.ForwardCreate given) word t before h (inl g) =
    lead n t (at.ForwardCreate g.value) (before ++ word ∷ []) g.leads (record { may = h.may; is = tt; words = forward_given before word given g.value h.words g.is })
read_step n (at.ForwardCreate given) word t before h (inr g) =
    lead n t (at.ForwardSource given g.value) (before ++ word ∷ []) g.leads (record {
      may = h.may;
      is = g.is.0;
      words =
          (h.words.0, h.words.1, h.words.2, joined before _ word _ h.words.3 g.is.1);
    })
read_step n (at.ForwardSource given source) word t before h g =
    lead n t (at.Done (requests.ForwardCreate (forward_create given source g.value))) (before ++ word ∷ []) g.leads (record {
      may = h.may;
      is = (h.is, g.is.0);
      words = (
        h.words.0,
        record { are = h.words.1; options = given; given = h.words.2; made = refl },
        joined before _ word _ h.words.3 g.is.1 ∙ ap (λ ws. codes "forward" ∷ codes "create" ∷ ws) (append_assoc (setting_words h.words.0) (source ∷ []) (g.value ∷ [])),
      );
    })
read_step n (at.Done request) word t before h g = absurd g
read_step n (at.First first.Edit) word t before h g = lead n t (at.EditRoot g.value) (before ++ word ∷ []) g.leads (record { may = h.may; is = g.is.0; words = joined before _ word _ h.words (g.is.1) })
read_step n (at.First first.Show) word t before h g = lead n t (at.Done (requests.Show g.value)) (before ++ word ∷ []) g.leads (record { may = h.may; is = g.is.0; words = joined before _ word _ h.words (g.is.1) })
read_step n (at.First first.Ancestor) word t before h g = lead n t (at.Done (requests.Ancestor g.value)) (before ++ word ∷ []) g.leads (record { may = h.may; is = g.is.0; words = joined before _ word _ h.words (g.is.1) })
read_step n (at.First first.Step) word t before h g = lead n t (at.Step g.value) (before ++ word ∷ []) g.leads (record { may = h.may; is = g.is.0; words = joined before _ word _ h.words (g.is.1) })
read_step n (at.First first.Until) word t before h g = lead n t (at.Until g.value) (before ++ word ∷ []) g.leads (record { may = h.may; is = g.is.0; words = joined before _ word _ h.words (g.is.1) })
read_step n (at.First first.Conn) word t before h g = lead n t (at.Conn g.value) (before ++ word ∷ []) g.leads (record { may = h.may; is = g.is.0; words = joined before _ word _ h.words (g.is.1) })
read_step n (at.EditRoot root) word t before h g = lead n t (at.EditVerb root g.value) (before ++ word ∷ []) g.leads (record { may = h.may; is = h.is; words = joined before _ word _ h.words (edit_is word g.value g.is) })
read_step n (at.EditVerb root edit.Put) word t before h g = lead n t (at.Put (record { root = root; path = g.value })) (before ++ word ∷ []) g.leads (record { may = h.may; is = (h.is, g.is.0); words = joined before _ word _ h.words (g.is.1) })
read_step n (at.EditVerb root edit.Fill) word t before h g = lead n t (at.Fill (record { root = root; path = g.value })) (before ++ word ∷ []) g.leads (record { may = h.may; is = (h.is, g.is.0); words = joined before _ word _ h.words (g.is.1) })
read_step n (at.EditVerb root edit.Link) word t before h g = lead n t (at.Link (record { root = root; path = g.value })) (before ++ word ∷ []) g.leads (record { may = h.may; is = (h.is, g.is.0); words = joined before _ word _ h.words (g.is.1) })
read_step n (at.EditVerb root edit.Exec) word t before h g = lead n t (at.Exec (record { root = root; path = g.value })) (before ++ word ∷ []) g.leads (record { may = h.may; is = (h.is, g.is.0); words = joined before _ word _ h.words (g.is.1) })
read_step n (at.EditVerb root edit.Dir) word t before h g = lead n t (at.Done (requests.Dir (record { root = root; path = g.value }))) (before ++ word ∷ []) g.leads (record { may = h.may; is = (h.is, g.is.0); words = joined before _ word _ h.words (g.is.1) })
read_step n (at.EditVerb root edit.Other) word t before h g = lead n t (at.Done (requests.Other (record { root = root; path = g.value }))) (before ++ word ∷ []) g.leads (record { may = h.may; is = (h.is, g.is.0); words = joined before _ word _ h.words (g.is.1) })
read_step n (at.EditVerb root edit.Del) word t before h g = lead n t (at.Done (requests.Del (record { root = root; path = g.value }))) (before ++ word ∷ []) g.leads (record { may = h.may; is = (h.is, g.is.0); words = joined before _ word _ h.words (g.is.1) })
read_step n (at.Put target) word t before h g = lead n t (at.Done (requests.Put target g.value)) (before ++ word ∷ []) g.leads (record { may = h.may; is = h.is; words = joined before _ word _ h.words (g.is) })
read_step n (at.Fill target) word t before h g = lead n t (at.FillLen target g.value) (before ++ word ∷ []) g.leads (record { may = h.may; is = (h.is, (g.is.0, g.is.1)); words = joined before _ word _ h.words (g.is.2) })
read_step n (at.Link target) word t before h g = lead n t (at.Done (requests.Link target g.value)) (before ++ word ∷ []) g.leads (record { may = h.may; is = (h.is, g.is.0); words = joined before _ word _ h.words (g.is.1) })
read_step n (at.Exec target) word t before h g = lead n t (at.Done (requests.Exec target g.value)) (before ++ word ∷ []) g.leads (record { may = h.may; is = h.is; words = joined before _ word _ h.words ((one_switch g.value word).0 g.is) })
read_step n (at.Step session) word t before h g = lead n t (at.Done (requests.Step session g.value)) (before ++ word ∷ []) g.leads (record { may = h.may; is = (h.is, (g.is.0, g.is.1)); words = joined before _ word _ h.words (g.is.2) })
read_step n (at.Until session) word t before h g = lead n t (at.Done (requests.Until session g.value)) (before ++ word ∷ []) g.leads (record { may = h.may; is = h.is; words = joined before _ word _ h.words ((one_phase g.value word).0 g.is) })
read_step n at.SyncList word t before h g = lead n t (at.Done (requests.SyncList (Some g.value))) (before ++ word ∷ []) g.leads (record { may = h.may; is = g.is.0; words = joined before _ word _ h.words (g.is.1) })
read_step n at.SyncFlushSkipWait word t before h g = lead n t (at.Done (requests.SyncFlushSkipWait g.value)) (before ++ word ∷ []) g.leads (record { may = h.may; is = g.is.0; words = joined before _ word _ h.words (g.is.1) })
read_step n (at.SyncOrder order) word t before h g = lead n t (at.Done (requests.SyncOrder order g.value)) (before ++ word ∷ []) g.leads (record { may = h.may; is = g.is.0; words = joined before _ word _ h.words (g.is.1) })
read_step n at.SyncReport word t before h g = lead n t (at.Done (requests.SyncReport g.value)) (before ++ word ∷ []) g.leads (record { may = h.may; is = g.is.0; words = joined before _ word _ h.words (g.is.1) })
read_step n (at.ForwardOrder order) word t before h g = lead n t (at.Done (requests.ForwardOrder order g.value)) (before ++ word ∷ []) g.leads (record { may = h.may; is = g.is.0; words = joined before _ word _ h.words (g.is.1) })
read_step n (at.Stream session verb) word t before h g = lead n t (at.StreamNumber session verb g.value) (before ++ word ∷ []) g.leads (record { may = h.may; is = (h.is, g.is.0); words = joined before _ word _ h.words (g.is.1) })
read_step n (at.StreamNumber session stream.Write number) word t before h g = lead n t (at.Write (record { session = session; stream = number; side = g.value })) (before ++ word ∷ []) g.leads (record { may = h.may; is = (h.is.0, h.is.1); words = joined before _ word _ h.words ((one_stream_side g.value word).0 g.is) })
read_step n (at.StreamNumber session stream.Fill number) word t before h g = lead n t (at.StreamFill (record { session = session; stream = number; side = g.value })) (before ++ word ∷ []) g.leads (record { may = h.may; is = (h.is.0, h.is.1); words = joined before _ word _ h.words ((one_stream_side g.value word).0 g.is) })
read_step n (at.StreamNumber session stream.Read number) word t before h g = lead n t (at.Read (record { session = session; stream = number; side = g.value })) (before ++ word ∷ []) g.leads (record { may = h.may; is = (h.is.0, h.is.1); words = joined before _ word _ h.words ((one_stream_side g.value word).0 g.is) })
read_step n (at.StreamNumber session stream.CloseWrite number) word t before h g = lead n t (at.Done (requests.CloseWrite (record { session = session; stream = number; side = g.value }))) (before ++ word ∷ []) g.leads (record { may = h.may; is = (h.is.0, h.is.1); words = joined before _ word _ h.words ((one_stream_side g.value word).0 g.is) })
read_step n (at.StreamNumber session stream.Close number) word t before h g = lead n t (at.Done (requests.Close (record { session = session; stream = number; side = g.value }))) (before ++ word ∷ []) g.leads (record { may = h.may; is = (h.is.0, h.is.1); words = joined before _ word _ h.words ((one_stream_side g.value word).0 g.is) })
read_step n (at.Write end) word t before h g = lead n t (at.Done (requests.Write end g.value)) (before ++ word ∷ []) g.leads (record { may = h.may; is = (h.is, g.is.0); words = joined before _ word _ h.words (g.is.1) })
read_step n (at.StreamFill end) word t before h g = lead n t (at.StreamFillLen end g.value) (before ++ word ∷ []) g.leads (record { may = h.may; is = (h.is, (g.is.0, g.is.1)); words = joined before _ word _ h.words (g.is.2) })
read_step n (at.Read end) word t before h g = lead n t (at.Done (requests.Read end g.value)) (before ++ word ∷ []) g.leads (record { may = h.may; is = (h.is, (g.is.0, g.is.1)); words = joined before _ word _ h.words (g.is.2) })
read_step n (at.Move session) word t before h g = lead n t (at.MoveSide session g.value) (before ++ word ∷ []) g.leads (record { may = h.may; is = h.is; words = joined before _ word _ h.words ((one_stream_side g.value word).0 g.is) })
read_step n (at.MoveSide session side) word t before h g = lead n t (at.Done (requests.Move session side g.value)) (before ++ word ∷ []) g.leads (record { may = h.may; is = (h.is, g.is.0); words = joined before _ word _ h.words (g.is.1) })
