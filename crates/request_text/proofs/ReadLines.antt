-- Whole lines: what the reader of a line reads is its grammar, and where it stops none goes on.
use Rattle.std.proofs.Common.{◌≡◌, ℕ, Bool, true, false, not, ◌&&◌, List, [], ◌∷◌, ◌++◌, map, refl, sym, ap, ap₂, subst, ◌∙◌, append_assoc, Some, None, Option, Result, Ok, Err, codes, inl, inr}
use Rattle.std.specs.Prelude.{◌⊎◌, decimal, is_some, IfOk}
use Rattle.std.proofs.Math.Dec.{lit≤}
use Rattle.std.proofs.lemmas.List.{append-nil}
use Rattle.line_words.specs.Lines.{HasWords, Item}
use Rattle.command_words.specs.GivenName.{IsGivenName}
use Rattle.command_words.specs.declared.client.Client.{Client}
use Rattle.request_text.specs.Grammar.{Begins, IsBadLine, may_name_client, MayAsk, NoneGoesOn, Spells, SpellsLine, StopsAt}
use Rattle.request_text.specs.Places.{Ends}
use Rattle.request_text.specs.Requests.{IsClient, IsRequest}
use Rattle.request_text.specs.States.{Along, Answers, Finishes, IsRead, LineEnds, LineGoes, LineSteps}
use Rattle.request_text.specs.Words.{client_words}
use Rattle.request_text.specs.declared.asked.Asked.{Asked}
use Rattle.request_text.specs.declared.line_error.LineError.{LineError}
use Rattle.request_text.specs.declared.line_error.LineError.TheVariants.{Bad, Memory}
use Rattle.request_text.specs.declared.place.First.TheVariants as first
use Rattle.request_text.specs.declared.place.Place.{Place}
use Rattle.request_text.specs.declared.place.Place.TheVariants as at
use Rattle.request_text.specs.declared.request.Request.{Request}
use Rattle.request_text.specs.declared.state.State.{State}
use Rattle.request_text.specs.declared.state.State.TheVariants.{Start, Named, Behind}
use Rattle.request_text.proofs.Alive.{alive}
use Rattle.request_text.proofs.Sound.{read_step, Spelt}
use Rattle.request_text.proofs.Whole.{Reaches, start, whole}

-- ---- along some words

along_join : (from mid to : State) (xs ys : List (List ℕ)) → Along from xs mid → Along mid ys to → Along from (xs ++ ys) to
along_join from mid to [] ys h k = subst (λ s. Along s ys to) (sym h) k
along_join from mid to (x ∷ xs) ys h k = (h.0, h.1, along_join h.0 mid to xs ys h.2 k)

along_split : (from to : State) (xs ys : List (List ℕ)) → Along from (xs ++ ys) to → (mid : State) × Along from xs mid × Along mid ys to
along_split from to [] ys h = (from, refl, h)
along_split from to (x ∷ xs) ys h = let told = along_split h.0 to xs ys h.2 in (told.0, (h.0, h.1, told.1), told.2)

-- ---- what was read is spelt so

abbrev IsAsking : Option Client → Type 0
IsAsking None = Unit {0}
IsAsking (Some client) = IsClient client

abbrev SpeltTo : State → List (List ℕ) → Type 0
SpeltTo Start words = words ≡ []
SpeltTo (Named name) words = IsGivenName name × (words ≡ (64 ∷ name) ∷ [])
SpeltTo (Behind client place) words = (behind : List (List ℕ)) × (words ≡ client_words client ++ behind) × IsAsking client × Spelt (is_some client) place behind

snoc : (before b : List (List ℕ)) (word w : List ℕ) → before ≡ b → word ≡ w → before ++ word ∷ [] ≡ b ++ w ∷ []
snoc before b word w e k = ap₂ (λ ws x. ws ++ x ∷ []) e k

line_step : (state : State) (word : List ℕ) (t : State) (before : List (List ℕ)) → SpeltTo state before → LineGoes state word t → SpeltTo t (before ++ word ∷ [])
line_step Start word t before h (inl g) = subst (λ s. SpeltTo s (before ++ word ∷ [])) (sym g.leads) (g.is, snoc before [] word (64 ∷ g.name) h g.spelt)
line_step Start word t before h (inr g) =
    subst (λ s. SpeltTo s (before ++ word ∷ [])) (sym g.leads)
    (word ∷ [], snoc before [] word word h refl, tt, read_step false at.Begin word g.next [] (record { may = refl; is = tt; words = refl }) g.goes)
line_step (Named name) word t before h g =
    subst (λ s. SpeltTo s (before ++ word ∷ [])) (sym g.leads)
    ([], snoc before ((64 ∷ name) ∷ []) word (decimal g.number) h.1 g.spelt, (h.0, (g.least, g.most)), record { may = refl; is = tt; words = refl })
line_step (Behind client place) word t before h g =
    subst (λ s. SpeltTo s (before ++ word ∷ [])) (sym g.leads) (
      h.0 ++ word ∷ [],
      snoc before (client_words client ++ h.0) word word h.1 refl ∙ append_assoc (client_words client) h.0 (word ∷ []),
      h.2,
      read_step (is_some client) place word g.next h.0 h.3 g.goes,
    )

along_spelt : (from to : State) (words before : List (List ℕ)) → SpeltTo from before → Along from words to → SpeltTo to (before ++ words)
along_spelt from to [] before h k = subst (λ s. SpeltTo s (before ++ [])) k (subst (SpeltTo from) (sym (append-nil before)) h)
along_spelt from to (word ∷ words) before h k =
    subst (SpeltTo to) (append_assoc before (word ∷ []) words) (along_spelt k.0 to words (before ++ word ∷ []) (line_step from word k.0 before h k.1) k.2)

not_not : (b : Bool) → not b ≡ false → b ≡ true
not_not true e = refl
not_not false e = absurd (cc)

may_ask : (client : Option Client) (r : Request) → IsAsking client → (is_some client && not (may_name_client r)) ≡ false → MayAsk client r
may_ask None r h m = tt
may_ask (Some client) r h m = (h, not_not (may_name_client r) m)

-- a place at which a request ends
ended : (n : Bool) (place : Place) (r : Request) (words : List (List ℕ)) → Spelt n place words → Ends place r → IsRequest r × Spells r words × ((n && not (may_name_client r)) ≡ false)
ended n (at.Done request) r words h e = subst (λ q. IsRequest q × Spells q words × ((n && not (may_name_client q)) ≡ false)) (sym e) (h.is, h.words, h.may)
ended n at.SyncList r words h e = subst (λ q. IsRequest q × Spells q words × ((n && not (may_name_client q)) ≡ false)) (sym e) (tt, h.words, h.may)
ended n place r words h e = absurd e

line_ended : (state : State) (asked : Asked) (words : List (List ℕ)) → SpeltTo state words → LineEnds state asked → SpellsLine asked words
line_ended Start asked words h e = absurd e
line_ended (Named name) asked words h e = absurd e
line_ended (Behind client place) asked words h e =
    let told = ended (is_some client) place asked.request h.0 h.3 e.1 in
    record {
      request = told.0;
      client = subst (λ c. MayAsk c asked.request) (sym e.0) (may_ask client asked.request h.2 told.2);
      behind = h.0;
      is = h.1 ∙ ap (λ c. client_words c ++ h.0) (sym e.0);
      spells = told.1;
    }

-- ---- what is spelt so is read

lift : (client : Option Client) (place : Place) (words : List (List ℕ)) (r : Request) → Reaches (is_some client) place words r
    → (s : State) × Along (Behind client place) words s × LineEnds s (record { client = client; request = r })
lift client place [] r h = (Behind client place, refl, (refl, h))
lift client place (word ∷ words) r h =
    let told = lift client h.0 words r h.2 in
    (told.0, (Behind client h.0, record { next = h.0; goes = h.1; leads = refl }, told.1), told.2)

first_word_of : (words : List (List ℕ)) (r : Request) → Reaches false at.Begin words r → (s : State) × Along Start words s × LineEnds s (record { client = None; request = r })
first_word_of [] r h = absurd h
first_word_of (word ∷ words) r h =
    let told = lift None h.0 words r h.2 in
    (told.0, (Behind None h.0, inr (record { next = h.0; goes = h.1; leads = refl }), told.1), told.2)

may_of_client : (b : Bool) → b ≡ true → (true && not b) ≡ false
may_of_client true e = refl
may_of_client false e = absurd (cc)

pub line_whole : (asked : Asked) (words : List (List ℕ)) → SpellsLine asked words → (s : State) × Along Start words s × LineEnds s asked
line_whole asked words h = by asked.client h.client h.is refl
  where
    by : (client : Option Client) → MayAsk client asked.request → words ≡ client_words client ++ h.behind → asked.client ≡ client → (s : State) × Along Start words s × LineEnds s asked
    by None m e c =
        let told = first_word_of h.behind asked.request (whole false asked.request h.behind h.request h.spells refl) in
        (told.0, subst (λ ws. Along Start ws told.0) (sym e) told.1, subst (λ k. LineEnds told.0 (record { client = k; request = asked.request })) (sym c) told.2)
    by (Some client) m e c =
        let told = lift (Some client) at.Begin h.behind asked.request (whole true asked.request h.behind h.request h.spells (may_of_client (may_name_client asked.request) m.1)) in (
          told.0,
          subst (λ ws. Along Start ws told.0) (sym e) (
            Named client.name,
            inl (record { name = client.name; is = m.0.0; spelt = refl; leads = refl }),
            (Behind (Some client) at.Begin, record { number = client.number; least = m.0.1.0; most = m.0.1.1; spelt = refl; leads = refl }, told.1),
          ),
          subst (λ k. LineEnds told.0 (record { client = k; request = asked.request })) (sym c) told.2,
        )

-- ---- from each state some words lead to a whole line

pub record GoesOut (state : State) : Type 0 where
  pub rest : List (List ℕ)
  pub asked : Asked
  pub to : State
  pub along : Along state rest to
  pub ends : LineEnds to asked

goes_out : (state : State) → GoesOut state
goes_out Start =
    let a = alive false (at.First first.Sync) in
    let told = lift None (at.First first.Sync) a.0 a.1 a.2 in
    record {
      rest = codes "sync" ∷ a.0;
      asked = record { client = None; request = a.1 };
      to = told.0;
      along = (Behind None (at.First first.Sync), inr (record { next = at.First first.Sync; goes = start false first.Sync refl; leads = refl }), told.1);
      ends = told.2;
    }
goes_out (Named name) =
    let client : Client = record { name = name; number = 1 } in
    let a = alive true at.Begin in
    let told = lift (Some client) at.Begin a.0 a.1 a.2 in
    record {
      rest = decimal 1 ∷ a.0;
      asked = record { client = Some client; request = a.1 };
      to = told.0;
      along = (Behind (Some client) at.Begin, record { number = 1; least = lit≤ tt; most = lit≤ tt; spelt = refl; leads = refl }, told.1);
      ends = told.2;
    }
goes_out (Behind client place) =
    let a = alive (is_some client) place in
    let told = lift client place a.0 a.1 a.2 in
    record { rest = a.0; asked = record { client = client; request = a.1 }; to = told.0; along = told.1; ends = told.2 }

begins : (state : State) (words : List (List ℕ)) → Along Start words state → Begins words
begins state words h =
    let out = goes_out state in
    record {
      asked = out.asked;
      rest = out.rest;
      is = line_ended out.to out.asked (words ++ out.rest) (along_spelt Start out.to (words ++ out.rest) [] refl (along_join Start state out.to words out.rest h out.along)) out.ends;
    }

-- a line ends with one request
one_end : (place : Place) (r q : Request) → Ends place r → Ends place q → q ≡ r
one_end (at.Done request) r q h k = k ∙ sym h
one_end at.SyncList r q h k = k ∙ sym h
one_end place r q h k = absurd h

one_line : (state : State) (asked other : Asked) → LineEnds state asked → LineEnds state other → other ≡ asked
one_line Start asked other h k = absurd h
one_line (Named name) asked other h k = absurd h
one_line (Behind client place) asked other h k =
    let clients : other.client ≡ asked.client = k.0 ∙ sym h.0 in
    let requests : other.request ≡ asked.request = one_end place asked.request other.request h.1 k.1 in
    ap₂ (λ c r. record { client = c; request = r }) clients requests

-- ---- the loop

pub read_start : (items : List Item) → IsRead items Start items
read_start items = record { front = []; words = []; all = refl; read = refl; along = refl; alone = λ other e. sym e }

map_snoc : (front : List Item) (item : Item) → map (λ (i : Item). i.word) (front ++ item ∷ []) ≡ map (λ (i : Item). i.word) front ++ item.word ∷ []
map_snoc [] item = refl
map_snoc (i ∷ front) item = ap (λ ws. i.word ∷ ws) (map_snoc front item)

some_snoc : (words : List (List ℕ)) (word : List ℕ) → map Some (words ++ word ∷ []) ≡ map Some words ++ Some word ∷ []
some_snoc [] word = refl
some_snoc (w ∷ words) word = ap (λ ws. Some w ∷ ws) (some_snoc words word)

-- one word more
pub read_more : (items : List Item) (state next : State) (left more : List Item) (place : ℕ) (word : List ℕ) → IsRead items state left → left ≡ record { place = place; word = Some word } ∷ more
    → LineSteps (LineGoes state word) (Some next) → IsRead items next more
read_more items state next left more place word h e step =
    let item : Item = record { place = place; word = Some word } in
    record {
      front = h.front ++ item ∷ [];
      words = h.words ++ word ∷ [];
      all = h.all ∙ ap (λ l. h.front ++ l) e ∙ sym (append_assoc h.front (item ∷ []) more);
      read = map_snoc h.front item ∙ ap (λ ws. ws ++ Some word ∷ []) h.read ∙ sym (some_snoc h.words word);
      along = along_join Start state next h.words (word ∷ []) h.along (next, (step next).0 refl, refl);
      alone = λ other k.
          let told = along_split Start other h.words (word ∷ []) k in
          let same = h.alone told.0 told.1 in
          let goes = subst (λ s. LineGoes s word told.2.0) same told.2.1 in
          let found : Some next ≡ Some told.2.0 = (step told.2.0).1 goes in
          let one : next ≡ told.2.0 = cc in sym told.2.2 ∙ sym one;
    }

no_next : (items : List Item) (state : State) (left : List Item) (word : List ℕ) → IsRead items state left → (h : IsRead items state left) → LineSteps (LineGoes state word) None → Begins (h.words ++ word ∷ []) → ⊥
no_next items state left word h0 h step b =
    let read = line_whole b.asked ((h.words ++ word ∷ []) ++ b.rest) b.is in
    let front = along_split Start read.0 (h.words ++ word ∷ []) b.rest read.1 in
    let told = along_split Start front.0 h.words (word ∷ []) front.1 in
    let same = h.alone told.0 told.1 in
    let goes = subst (λ s. LineGoes s word told.2.0) same told.2.1 in
    let found = (step told.2.0).1 goes in absurd (cc)

-- a word with which no request line begins any more
pub stopped : (items : List Item) (state : State) (left more : List Item) (place end : ℕ) (word : List ℕ) → IsRead items state left → left ≡ record { place = place; word = Some word } ∷ more
    → LineSteps (LineGoes state word) None → IsBadLine items end place
stopped items state left more place end word h e step = record {
  words = h.words;
  front = h.front;
  rest = record { place = place; word = Some word } ∷ more;
  all = h.all ∙ ap (λ l. h.front ++ l) e;
  read = h.read;
  begun = begins state h.words h.along;
  stops = (refl, no_next items state left word h h step);
}

-- what stands here is spelt as no word
pub unspelt : (items : List Item) (state : State) (left more : List Item) (place end : ℕ) → IsRead items state left → left ≡ record { place = place; word = None } ∷ more → IsBadLine items end place
unspelt items state left more place end h e = record {
  words = h.words;
  front = h.front;
  rest = record { place = place; word = None } ∷ more;
  all = h.all ∙ ap (λ l. h.front ++ l) e;
  read = h.read;
  begun = begins state h.words h.along;
  stops = (refl, tt);
}

all_read : (items : List Item) (state : State) (left : List Item) → (h : IsRead items state left) → left ≡ [] → HasWords items h.words
all_read items state left h e = ap (map (λ (i : Item). i.word)) (h.all ∙ ap (λ l. h.front ++ l) e ∙ append-nil h.front) ∙ h.read

-- the line ends here
pub finished : (items : List Item) (state : State) (left : List Item) (end : ℕ) (result : Result Asked LineError) → IsRead items state left → left ≡ [] → Finishes state end result → Answers items end result
finished items state left end (Ok asked) h e k = (
  h.words,
  all_read items state left h e,
  line_ended state asked h.words (along_spelt Start state h.words [] refl h.along) k,
  λ other s.
      let told = line_whole other h.words s in
      let same = h.alone told.0 told.1 in
      one_line state asked other k (subst (λ t. LineEnds t other) same told.2),
)
finished items state left end (Err (Bad bad)) h e k = record {
  words = h.words;
  front = h.front;
  rest = [];
  all = h.all ∙ ap (λ l. h.front ++ l) e;
  read = h.read;
  begun = begins state h.words h.along;
  stops = (k.0, λ asked s. let told = line_whole asked h.words s in let same = h.alone told.0 told.1 in k.1 asked (subst (λ t. LineEnds t asked) same told.2));
}
finished items state left end (Err Memory) h e k = tt

-- ---- the clauses of the reader

-- the words of items are told by them
one_words : (words others : List (List ℕ)) → map Some words ≡ map Some others → words ≡ others
one_words [] [] e = refl
one_words [] (o ∷ others) e = absurd (cc)
one_words (w ∷ words) [] e = absurd (cc)
one_words (w ∷ words) (o ∷ others) e =
    let head : w ≡ o = cc in
    let tail : map Some words ≡ map Some others = cc in ap₂ (λ x xs. x ∷ xs) head (one_words words others tail)

map_join : (xs ys : List Item) → map (λ (i : Item). i.word) (xs ++ ys) ≡ map (λ (i : Item). i.word) xs ++ map (λ (i : Item). i.word) ys
map_join [] ys = refl
map_join (x ∷ xs) ys = ap (λ ws. x.word ∷ ws) (map_join xs ys)

-- words of which the first are read from the front of items
front_words : (words all : List (List ℕ)) (tail : List (Option (List ℕ))) → map Some words ++ tail ≡ map Some all → (rest : List (List ℕ)) × (all ≡ words ++ rest) × (tail ≡ map Some rest)
front_words [] all tail e = (all, refl, e)
front_words (w ∷ words) [] tail e = absurd (cc)
front_words (w ∷ words) (a ∷ all) tail e =
    let head : w ≡ a = cc in
    let more : map Some words ++ tail ≡ map Some all = cc in
    let told = front_words words all tail more in
    (told.0, ap₂ (λ x xs. x ∷ xs) (sym head) told.1, told.2)

-- no line that goes wrong spells a request
pub bad_is_none : (items : List Item) (end place : ℕ) (asked : Asked) (words : List (List ℕ)) → IsBadLine items end place → HasWords items words → SpellsLine asked words → ⊥
bad_is_none items end place asked words bad has spelt =
    let joined : map Some bad.words ++ map (λ (i : Item). i.word) bad.rest ≡ map Some words =
    ap (λ ws. ws ++ map (λ (i : Item). i.word) bad.rest) (sym bad.read) ∙ sym (map_join bad.front bad.rest) ∙ sym (ap (map (λ (i : Item). i.word)) bad.all) ∙ has in
    let told = front_words bad.words words (map (λ (i : Item). i.word) bad.rest) joined in
    by bad.rest told.0 told.2 (subst (SpellsLine asked) told.1 spelt) bad.stops
  where
    by : (rest : List Item) (behind : List (List ℕ)) → map (λ (i : Item). i.word) rest ≡ map Some behind → SpellsLine asked (bad.words ++ behind) → StopsAt bad.words rest end place → ⊥
    by [] [] e s k = k.1 asked (subst (SpellsLine asked) (append-nil bad.words) s)
    by [] (b ∷ behind) e s k = absurd (cc)
    by (item ∷ rest) [] e s k = absurd (cc)
    by (item ∷ rest) (b ∷ behind) e s k =
        let word : item.word ≡ Some b = cc in
        let none : NoneGoesOn bad.words (Some b) = subst (NoneGoesOn bad.words) word k.1 in
        none (record { asked = asked; rest = behind; is = subst (SpellsLine asked) (sym (append_assoc bad.words (b ∷ []) behind)) s })

pub value_of : (items : List Item) (end : ℕ) (result : Result Asked LineError) → Answers items end result → IfOk result (λ asked. (words : List (List ℕ)) × HasWords items words × SpellsLine asked words)
value_of items end (Ok asked) h = (h.0, h.1, h.2)
value_of items end (Err e) h = tt

pub complete_of : (items : List Item) (end : ℕ) (result : Result Asked LineError) → Answers items end result → (asked : Asked) (words : List (List ℕ)) → HasWords items words → SpellsLine asked words
    → (result ≡ Ok asked) ⊎ (result ≡ Err Memory)
complete_of items end (Ok found) h asked words has spelt =
    let same : words ≡ h.0 = one_words words h.0 (sym has ∙ h.1) in
    let one : asked ≡ found = h.3 asked (subst (SpellsLine asked) same spelt) in inl (ap Ok (sym one))
complete_of items end (Err (Bad bad)) h asked words has spelt = absurd (bad_is_none items end bad.place asked words h has spelt)
complete_of items end (Err Memory) h asked words has spelt = inr refl

pub refused_of : (items : List Item) (end : ℕ) (result : Result Asked LineError) → Answers items end result → (place : ℕ) → result ≡ Err (Bad (record { place = place })) → IsBadLine items end place
refused_of items end (Ok asked) h place e = absurd (cc)
refused_of items end (Err (Bad bad)) h place e = let same : bad.place ≡ place = cc in subst (IsBadLine items end) same h
refused_of items end (Err Memory) h place e = absurd (cc)
