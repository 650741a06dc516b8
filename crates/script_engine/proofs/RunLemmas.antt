-- How a run of a script goes on from line to line, and what it has come to at its end.
use Rattle.std.proofs.Common.{◌≡◌, ◌⊎◌, inl, inr, ℕ, ◌<◌, ◌^◌, List, [], ◌∷◌, ◌++◌, length, take, Option, Some, None, refl, sym, ◌∙◌, ap, subst, append_assoc, append-nil, arith}
use Rattle.std.proofs.lemmas.List.{length-append, nil_from_length}
use Rattle.std.proofs.KnownBytes.{Appends-nil, Appends-trans}
use Rattle.std.specs.Str.Lines.{lines}
use Rattle.std.specs.Io.KnownBytes.{Appends, IsAtEnd, prepend_known}
use Rattle.outside_io.specs.Lines.{HasNoNewline, IsWholeLines, IsLine, TakesFirst, TakesNoLine}
use Rattle.outside_io.specs.Taking.{CountsTaken}
use Rattle.finite_maps.specs.Told.{WhereTold}
use Rattle.outside_io.specs.declared.line.Line.{Line}
use Rattle.outside_io.proofs.LinesLemmas.{lines-append, lines-taken}
use Rattle.script_engine.specs.declared.flat_roots.FlatRoots.{FlatRoots}
use Rattle.script_engine.specs.declared.status.Status.TheVariants as status
use Rattle.script_engine.specs.World.{World, start}
use Rattle.script_engine.specs.Script.{Answers, Runs}
use Rattle.script_engine.specs.Run.{DoesEnded, DoesUnwritten, IsRun}

-- a run that is followed by one more line
pub Runs-more : (old : World) (done : List (List ℕ)) (text : List ℕ) (mid : World) (line reply : List ℕ) (new : World)
    → Runs old done text mid → Answers mid line reply new → Runs old (done ++ line ∷ []) (text ++ reply) new
Runs-more old [] text mid line reply new ran answers =
    let same : text ≡ [] = ran.0 in (
      reply,
      new,
      [],
      subst (λ (world : World). Answers world line reply new) ran.1 answers,
      ap (λ (before : List ℕ). before ++ reply) same ∙ sym (append-nil reply),
      (refl, refl),
    )
Runs-more old (first ∷ done) text mid line reply new ran answers = (
  ran.0,
  ran.1,
  ran.2 ++ reply,
  ran.3,
  ap (λ (before : List ℕ). before ++ reply) ran.4 ∙ append_assoc ran.0 ran.2 reply,
  Runs-more ran.1 done ran.2 mid line reply new ran.5 answers,
)

-- Of all the bytes of the source, front was taken as whole lines, which are done, and the rest is left. The text is the
-- replies to the lines that are done.
pub record Done (all rest : List ℕ) (written written' : Option (List ℕ)) (roots : FlatRoots) (now : World) : Type 0 where
  pub front : List ℕ
  pub text : List ℕ
  pub cut : all ≡ front ++ rest
  pub ended : IsWholeLines front ⊎ ((rest ≡ []) × (length all < 2 ^ 30))
  pub lines_cut : lines all ≡ lines front ++ lines rest
  pub ran : Runs (start roots) (lines front) text now
  pub appended : Appends written written' text

-- the same where the source tells what it holds
abbrev pub HasDone : Option (List ℕ) → Option (List ℕ) → Option (List ℕ) → Option (List ℕ) → FlatRoots → World → Type 0
HasDone left rest written written' roots now =
    WhereTold left rest (λ all rest. Done all rest written written' roots now)

-- nothing is done yet
pub HasDone-begins : (left written : Option (List ℕ)) (roots : FlatRoots)
    → HasDone left (prepend_known [] left) written written roots (start roots)
HasDone-begins None written roots = tt
HasDone-begins (Some all) written roots = record {
  front = [];
  text = [];
  cut = refl;
  ended = inl (inl refl);
  lines_cut = refl;
  ran = (refl, refl);
  appended = Appends-nil written;
}

-- nothing is counted yet
pub CountsTaken-begins : (left : Option (List ℕ)) → CountsTaken left 0 left 0
CountsTaken-begins None = tt
CountsTaken-begins (Some all) = refl

-- from no bytes no line is taken
none_taken : (rest line : List ℕ) (more : List (List ℕ)) → rest ≡ [] → lines rest ≡ line ∷ more → ⊥
none_taken rest line more none first =
    let no_lines : lines rest ≡ [] = ap lines none in cc

nil_behind : (held left : List ℕ) → held ++ left ≡ [] → left ≡ []
nil_behind held left none = nil_from_length left (omega (arith, length-append held left, ap length none))

nil_before : (held left : List ℕ) → held ++ left ≡ [] → held ≡ []
nil_before held left none = nil_from_length held (omega (arith, length-append held left, ap length none))

module _ (all rest held left : List ℕ) (taken : ℕ) (written written' written'' : Option (List ℕ)) (roots : FlatRoots) (now : World) (line : Line)
    (so_far : Done all rest written written' roots now) (takes : TakesFirst (taken < 2 ^ 30) rest (held ++ left) line) where
  whole_so_far : IsWholeLines so_far.front
  whole_so_far = elim so_far.ended [
    | inl whole ↦ whole
    | inr none ↦ absurd (none_taken rest takes.bytes (lines (held ++ left)) none.0 takes.first)
  ]

  front_lines : lines (so_far.front ++ takes.taken) ≡ lines so_far.front ++ takes.bytes ∷ []
  front_lines = lines-append so_far.front takes.taken whole_so_far
      ∙ ap (λ (more : List (List ℕ)). lines so_far.front ++ more)
      (lines-taken (taken < 2 ^ 30) rest takes.taken (held ++ left) takes.bytes takes.cut takes.first takes.ended)

  ended_more : CountsTaken (Some all) 0 (Some left) taken
      → IsWholeLines (so_far.front ++ takes.taken) ⊎ ((held ++ left ≡ []) × (length all < 2 ^ 30))
  ended_more counted = elim takes.ended [
    | inl ends ↦ inl (inr (
      so_far.front ++ ends.0,
      ap (λ (t : List ℕ). so_far.front ++ t) ends.1 ∙ sym (append_assoc so_far.front ends.0 (10 ∷ [])),
    ))
    | inr none ↦ inr (none.0, omega (arith, counted, ap length (nil_behind held left none.0), none.1))
  ]

  pub Done-more : (reply : List ℕ) (new : World) → CountsTaken (Some all) 0 (Some left) taken
      → Answers now takes.bytes reply new → Appends written' written'' reply → Done all (held ++ left) written written'' roots new
  Done-more reply new counted answers sent = record {
    front = so_far.front ++ takes.taken;
    text = so_far.text ++ reply;
    cut = so_far.cut ∙ ap (λ (r : List ℕ). so_far.front ++ r) takes.cut
        ∙ sym (append_assoc so_far.front takes.taken (held ++ left));
    ended = ended_more counted;
    lines_cut = so_far.lines_cut ∙ ap (λ (more : List (List ℕ)). lines so_far.front ++ more) takes.first
        ∙ sym (append_assoc (lines so_far.front) (takes.bytes ∷ []) (lines (held ++ left)))
        ∙ ap (λ (done : List (List ℕ)). done ++ lines (held ++ left)) (sym front_lines);
    ran = subst (λ (done : List (List ℕ)). Runs (start roots) done (so_far.text ++ reply) new) (sym front_lines)
        (Runs-more (start roots) (lines so_far.front) so_far.text now takes.bytes reply new so_far.ran answers);
    appended = Appends-trans written written' written'' so_far.text reply so_far.appended sent;
  }

  -- the line is done, and a part of its reply is written
  pub Done-unwritten : (reply : List ℕ) (new : World) (n : ℕ) → Answers now takes.bytes reply new → n < length reply
      → DoesUnwritten all roots (so_far.text ++ take n reply) new
  Done-unwritten reply new n answers part = record {
    before = so_far.text;
    mid = now;
    some = record { done = lines so_far.front; more = lines rest; cut = so_far.lines_cut; ran = so_far.ran };
    line = takes.bytes;
    more = lines (held ++ left);
    next = takes.first;
    reply = reply;
    answered = answers;
    written = n;
    part = part;
    text_is = refl;
  }

-- one more line is done
pub HasDone-more : (left rest left' : Option (List ℕ)) (held : List ℕ) (taken : ℕ) (written written' written'' : Option (List ℕ)) (roots : FlatRoots) (now new : World)
    (line : Line) (reply : List ℕ)
    → HasDone left rest written written' roots now
    → WhereTold rest (prepend_known held left') (λ old new. TakesFirst (taken < 2 ^ 30) old new line)
    → CountsTaken left 0 left' taken
    → ((bytes : List ℕ) → IsLine bytes line → Answers now bytes reply new)
    → Appends written' written'' reply
    → HasDone left (prepend_known held left') written written'' roots new
HasDone-more None rest left' held taken w w' w'' roots now new line reply so_far takes counted answers sent = tt
HasDone-more (Some all) None left' held taken w w' w'' roots now new line reply so_far takes counted answers sent = absurd so_far
HasDone-more (Some all) (Some rest) None held taken w w' w'' roots now new line reply so_far takes counted answers sent = absurd takes
HasDone-more (Some all) (Some rest) (Some left) held taken w w' w'' roots now new line reply so_far takes counted answers sent =
    Done-more all rest held left taken w w' w'' roots now line so_far takes reply new counted (answers takes.bytes takes.answered) sent

-- every line is done once nothing is left
pub Run-whole : (left rest left' : Option (List ℕ)) (taken : ℕ) (written written' : Option (List ℕ)) (roots : FlatRoots) (now : World)
    → HasDone left rest written written' roots now → IsAtEnd rest → IsAtEnd left' → CountsTaken left 0 left' taken → taken < 2 ^ 30
    → IsRun status.Ok left left' written written' roots now.roots
Run-whole None rest left' taken w w' roots now so_far ended end counted met = tt
Run-whole (Some all) None left' taken w w' roots now so_far ended end counted met = absurd so_far
Run-whole (Some all) (Some rest) None taken w w' roots now so_far ended end counted met = absurd counted
Run-whole (Some all) (Some rest) (Some left) taken w w' roots now so_far ended end counted met =
    let all_done : lines so_far.front ≡ lines all =
    sym (so_far.lines_cut ∙ ap (λ (bytes : List ℕ). lines so_far.front ++ lines bytes) ended ∙ append-nil (lines so_far.front)) in (
      so_far.text,
      now,
      so_far.appended,
      (
        end,
        omega (arith, counted, ap length end),
        subst (λ (done : List (List ℕ)). Runs (start roots) done so_far.text now) all_done so_far.ran,
      ),
      refl,
    )

module _ (all rest left' : List ℕ) (taken' : ℕ) (w w' : Option (List ℕ)) (roots : FlatRoots) (now : World)
    (so_far : Done all rest w w' roots now) (part : List ℕ) (no_end : HasNoNewline part) (passed : rest ≡ part ++ left')
    (counted : CountsTaken (Some all) 0 (Some left') taken') where
  all_is : all ≡ (so_far.front ++ part) ++ left'
  all_is = so_far.cut ∙ ap (λ (r : List ℕ). so_far.front ++ r) passed ∙ sym (append_assoc so_far.front part left')

  pub length-read : length (so_far.front ++ part) ≡ taken'
  length-read = omega (arith, ap length all_is, length-append (so_far.front ++ part) left', counted)

  pub does_ended : DoesEnded all left' roots so_far.text now (so_far.front ++ part)
  does_ended = record {
    taken = all_is;
    done = lines so_far.front;
    ended = record {
      front = so_far.front;
      unfinished = part;
      cut = refl;
      no_end = no_end;
      ended = elim so_far.ended [
        | inl whole ↦ inl whole
        | inr none ↦ inr (
          nil_behind part left' (sym passed ∙ none.0),
          nil_before part left' (sym passed ∙ none.0),
          omega (arith, ap length all_is, length-append (so_far.front ++ part) left', none.1),
        )
      ];
      lines_are = refl;
    };
    ran = so_far.ran;
  }

-- a read failed, before 2^30 bytes were taken
pub Run-faulted : (left rest left' : Option (List ℕ)) (taken : ℕ) (written written' : Option (List ℕ)) (roots : FlatRoots) (now : World)
    → HasDone left rest written written' roots now → TakesNoLine rest left' → CountsTaken left 0 left' taken → taken < 2 ^ 30
    → IsRun status.ReadFault left left' written written' roots now.roots
Run-faulted None rest left' taken w w' roots now so_far no_line counted before = tt
Run-faulted (Some all) None left' taken w w' roots now so_far no_line counted before = absurd so_far
Run-faulted (Some all) (Some rest) None taken w w' roots now so_far no_line counted before = absurd counted
Run-faulted (Some all) (Some rest) (Some left) taken w w' roots now so_far no_line counted before =
    let read = length-read all rest left taken w w' roots now so_far no_line.0 no_line.1 no_line.2 counted in
    let done = does_ended all rest left taken w w' roots now so_far no_line.0 no_line.1 no_line.2 counted in
    (so_far.text, now, so_far.appended, (so_far.front ++ no_line.0, omega (arith, read, before), done), refl)

-- 2^30 bytes were taken
pub Run-spent : (left rest left' : Option (List ℕ)) (taken : ℕ) (written written' : Option (List ℕ)) (roots : FlatRoots) (now : World)
    → HasDone left rest written written' roots now → TakesNoLine rest left' → CountsTaken left 0 left' taken → taken ≡ 2 ^ 30
    → IsRun status.SourceSpent left left' written written' roots now.roots
Run-spent None rest left' taken w w' roots now so_far no_line counted all_taken = tt
Run-spent (Some all) None left' taken w w' roots now so_far no_line counted all_taken = absurd so_far
Run-spent (Some all) (Some rest) None taken w w' roots now so_far no_line counted all_taken = absurd counted
Run-spent (Some all) (Some rest) (Some left) taken w w' roots now so_far no_line counted all_taken =
    let read = length-read all rest left taken w w' roots now so_far no_line.0 no_line.1 no_line.2 counted in
    let done = does_ended all rest left taken w w' roots now so_far no_line.0 no_line.1 no_line.2 counted in
    (so_far.text, now, so_far.appended, (so_far.front ++ no_line.0, read ∙ all_taken, done), refl)

-- memory ran out before the next line was done
pub Run-wanting : (left rest left' : Option (List ℕ)) (taken : ℕ) (written written' : Option (List ℕ)) (roots : FlatRoots) (now : World)
    → HasDone left rest written written' roots now → CountsTaken left 0 left' taken
    → IsRun status.NoMemory left left' written written' roots now.roots
Run-wanting None rest left' taken w w' roots now so_far counted = tt
Run-wanting (Some all) None left' taken w w' roots now so_far counted = absurd so_far
Run-wanting (Some all) (Some rest) None taken w w' roots now so_far counted = absurd counted
Run-wanting (Some all) (Some rest) (Some left) taken w w' roots now so_far counted = (
  so_far.text,
  now,
  so_far.appended,
  record { done = lines so_far.front; more = lines rest; cut = so_far.lines_cut; ran = so_far.ran },
  refl,
)

-- a reply was written in part
pub Run-unwritten : (left rest left' : Option (List ℕ)) (held : List ℕ) (taken : ℕ) (written written' written'' : Option (List ℕ)) (roots : FlatRoots)
    (now new : World) (line : Line) (reply : List ℕ)
    → HasDone left rest written written' roots now
    → WhereTold rest (prepend_known held left') (λ old new. TakesFirst (taken < 2 ^ 30) old new line)
    → CountsTaken left 0 left' taken
    → ((bytes : List ℕ) → IsLine bytes line → Answers now bytes reply new)
    → ((n : ℕ) × (n < length reply) × Appends written' written'' (take n reply))
    → IsRun status.WriteFault left left' written written'' roots new.roots
Run-unwritten None rest left' held taken w w' w'' roots now new line reply so_far takes counted answers part = tt
Run-unwritten (Some all) None left' held taken w w' w'' roots now new line reply so_far takes counted answers part = absurd so_far
Run-unwritten (Some all) (Some rest) None held taken w w' w'' roots now new line reply so_far takes counted answers part = absurd takes
Run-unwritten (Some all) (Some rest) (Some left) held taken w w' w'' roots now new line reply so_far takes counted answers part = (
  so_far.text ++ take part.0 reply,
  new,
  Appends-trans w w' w'' so_far.text (take part.0 reply) so_far.appended part.2,
  Done-unwritten all rest held left taken w w' w'' roots now line so_far takes reply new part.0 (answers takes.bytes takes.answered) part.1,
  refl,
)

-- with other words nothing is read or written
pub Run-refused : (left written : Option (List ℕ)) (roots : FlatRoots) → IsRun status.Usage left left written written roots roots
Run-refused None written roots = tt
Run-refused (Some all) written roots = ([], start roots, Appends-nil written, (refl, refl, refl), refl)
