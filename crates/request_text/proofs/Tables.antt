-- The tables of words that say what a line does.
use Rattle.std.proofs.Common.{◌≡◌, ℕ, Bool, true, false, cond, not, ◌&&◌, List, [], ◌∷◌, refl, sym, ap, subst, ◌∙◌, Some, None, Option, codes}
use Rattle.std.specs.Prelude.{bytes_eq}
use Rattle.std.proofs.lemmas.Slice.Eq.{bytes_eq-Decides}
use Rattle.request_text.specs.Orders.{forward_order_word, sync_order_word}
use Rattle.request_text.specs.Places.{by, conn_verbs, edit_verbs, first_words, fits, forward_verbs, sync_verbs}
use Rattle.request_text.specs.declared.place.ConnVerb.{ConnVerb}
use Rattle.request_text.specs.declared.place.ConnVerb.TheVariants as conn
use Rattle.request_text.specs.declared.place.EditVerb.{EditVerb}
use Rattle.request_text.specs.declared.place.EditVerb.TheVariants as edit
use Rattle.request_text.specs.declared.place.First.{First}
use Rattle.request_text.specs.declared.place.First.TheVariants as first
use Rattle.request_text.specs.declared.place.ForwardVerb.{ForwardVerb}
use Rattle.request_text.specs.declared.place.ForwardVerb.TheVariants as forward
use Rattle.request_text.specs.declared.place.StreamVerb.{StreamVerb}
use Rattle.request_text.specs.declared.place.StreamVerb.TheVariants as stream
use Rattle.request_text.specs.declared.place.SyncVerb.{SyncVerb}
use Rattle.request_text.specs.declared.place.SyncVerb.TheVariants as sync

-- each row has the word of its value
abbrev pub IsTable : {V : Type 0} → (V → List ℕ) → List (List ℕ × V) → Type 0
IsTable word_of [] = Unit {0}
IsTable word_of (row ∷ rows) = (word_of row.1 ≡ row.0) × IsTable word_of rows

-- what is found by a table has the word by which it was found
pub by_word : {V : Type 0} (word_of : V → List ℕ) (rows : List (List ℕ × V)) (word : List ℕ) (v : V) → IsTable word_of rows → by rows word ≡ Some v → word ≡ word_of v
by_word word_of [] word v t h = absurd (cc)
by_word {V} word_of (row ∷ rows) word v t h = at (bytes_eq word row.0) refl (λ k. by_word word_of rows word v t.1 k) h
  where
    at : (b : Bool) → bytes_eq word row.0 ≡ b → (by rows word ≡ Some v → word ≡ word_of v) → cond b (Some row.1) (by rows word) ≡ Some v → word ≡ word_of v
    at true e more k = let same : row.1 ≡ v = cc in (bytes_eq-Decides word row.0).0 e ∙ sym t.0 ∙ ap word_of same
    at false e more k = more k

-- what fits was found, and may stand there
pub fitting : {V : Type 0} (numbered : Bool) (may : V → Bool) (found : Option V) (v : V) → fits numbered may found ≡ Some v → (found ≡ Some v) × ((numbered && not (may v)) ≡ false)
fitting numbered may None v h = absurd (cc)
fitting {V} numbered may (Some x) v h = at (numbered && not (may x)) refl h
  where
    at : (b : Bool) → (numbered && not (may x)) ≡ b → cond b None (Some x) ≡ Some v → (Some x ≡ Some v) × ((numbered && not (may v)) ≡ false)
    at true e k = absurd (cc)
    at false e k = let same : x ≡ v = cc in (k, subst (λ y. (numbered && not (may y)) ≡ false) same e)

-- what was found and may stand there fits
pub fit : {V : Type 0} (numbered : Bool) (may : V → Bool) (v : V) → (numbered && not (may v)) ≡ false → fits numbered may (Some v) ≡ Some v
fit numbered may v h = ap (λ b. cond b None (Some v)) h

-- ---- the words

abbrev pub first_word : First → List ℕ
first_word first.Edit = codes "edit"
first_word first.Show = codes "show"
first_word first.Ancestor = codes "ancestor"
first_word first.Step = codes "step"
first_word first.Until = codes "until"
first_word first.Sync = codes "sync"
first_word first.Forward = codes "forward"
first_word first.Conn = codes "conn"

abbrev pub edit_word : EditVerb → List ℕ
edit_word edit.Put = codes "put"
edit_word edit.Fill = codes "fill"
edit_word edit.Link = codes "link"
edit_word edit.Dir = codes "dir"
edit_word edit.Other = codes "other"
edit_word edit.Exec = codes "exec"
edit_word edit.Del = codes "del"

abbrev pub sync_word : SyncVerb → List ℕ
sync_word sync.Create = codes "create"
sync_word sync.List = codes "list"
sync_word sync.Flush = codes "flush"
sync_word (sync.Order order) = sync_order_word order
sync_word sync.Report = codes "report"

abbrev pub forward_word : ForwardVerb → List ℕ
forward_word forward.Create = codes "create"
forward_word forward.List = codes "list"
forward_word (forward.Order order) = forward_order_word order

abbrev pub stream_word : StreamVerb → List ℕ
stream_word stream.Write = codes "write"
stream_word stream.Fill = codes "fill"
stream_word stream.Read = codes "read"
stream_word stream.CloseWrite = codes "close-write"
stream_word stream.Close = codes "close"

abbrev pub conn_word : ConnVerb → List ℕ
conn_word conn.Open = codes "open"
conn_word (conn.Stream verb) = stream_word verb
conn_word conn.Move = codes "move"
conn_word conn.Cut = codes "cut"

pub first_is : (word : List ℕ) (v : First) → by first_words word ≡ Some v → word ≡ first_word v
first_is word v h = by_word first_word first_words word v (refl, (refl, (refl, (refl, (refl, (refl, (refl, (refl, tt)))))))) h

pub edit_is : (word : List ℕ) (v : EditVerb) → by edit_verbs word ≡ Some v → word ≡ edit_word v
edit_is word v h = by_word edit_word edit_verbs word v (refl, (refl, (refl, (refl, (refl, (refl, (refl, tt))))))) h

pub sync_is : (word : List ℕ) (v : SyncVerb) → by sync_verbs word ≡ Some v → word ≡ sync_word v
sync_is word v h = by_word sync_word sync_verbs word v (refl, (refl, (refl, (refl, (refl, (refl, (refl, (refl, tt)))))))) h

pub forward_is : (word : List ℕ) (v : ForwardVerb) → by forward_verbs word ≡ Some v → word ≡ forward_word v
forward_is word v h = by_word forward_word forward_verbs word v (refl, (refl, (refl, (refl, (refl, tt))))) h

pub conn_is : (word : List ℕ) (v : ConnVerb) → by conn_verbs word ≡ Some v → word ≡ conn_word v
conn_is word v h = by_word conn_word conn_verbs word v (refl, (refl, (refl, (refl, (refl, (refl, (refl, (refl, tt)))))))) h
