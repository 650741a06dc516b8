-- The words that stand for modes, phases, ends of a stream and switches.
use Rattle.std.proofs.Common.{◌≡◌, ℕ, ◌↔◌, Bool, true, false, cond, List, codes, refl, sym, ap, subst, ◌∙◌, Some, None, Option}
use Rattle.std.specs.Prelude.{bytes_eq}
use Rattle.std.proofs.lemmas.Slice.Eq.{bytes_eq-Decides}
use Rattle.command_words.specs.Keywords.{mode_by, mode_word, phase_by, phase_word, stream_side_by, stream_side_word, switch_by, switch_word}
use Rattle.command_words.specs.declared.stream_side.StreamSide.{StreamSide}
use Rattle.command_words.specs.declared.stream_side.StreamSide.TheVariants.{Near, Far}
use Rattle.mode_rules.specs.declared.mode.Mode.{Mode}
use Rattle.mode_rules.specs.declared.mode.Mode.TheVariants.{TwoWaySafe, TwoWayResolved, OneWaySafe, OneWayReplica}
use Rattle.mode_rules.specs.declared.phase.Phase.{Phase}
use Rattle.mode_rules.specs.declared.phase.Phase.TheVariants.{Idle, Forget, ScanAlpha, ScanBeta, Stage, Change, Clear, Commit}

-- the first test of a chain, and the others
chain : {K : Type 0} (word first : List ℕ) (value wanted : K) (others : Option K) (word_of : K → List ℕ) → word_of value ≡ first
    → (others ≡ Some wanted → word_of wanted ≡ word) → cond (bytes_eq word first) (Some value) others ≡ Some wanted → word_of wanted ≡ word
chain {K} word first value wanted others word_of is more h = by (bytes_eq word first) refl h
  where
    by : (b : Bool) → bytes_eq word first ≡ b → cond b (Some value) others ≡ Some wanted → word_of wanted ≡ word
    by true e h = let same : value ≡ wanted = cc in subst (λ k. word_of k ≡ word) same (is ∙ sym ((bytes_eq-Decides word first).0 e))
    by false e h = more h

mode_read : (k : Mode) → mode_by (mode_word k) ≡ Some k
mode_read TwoWaySafe = refl
mode_read TwoWayResolved = refl
mode_read OneWaySafe = refl
mode_read OneWayReplica = refl

mode_is : (word : List ℕ) (k : Mode) → mode_by word ≡ Some k → mode_word k ≡ word
mode_is word k = chain word (codes "two-way-safe") TwoWaySafe k (cond (bytes_eq word (codes "two-way-resolved")) (Some TwoWayResolved) (cond (bytes_eq word (codes "one-way-safe")) (Some OneWaySafe) (cond (bytes_eq word (codes "one-way-replica")) (Some OneWayReplica) None))) mode_word refl
    (chain word (codes "two-way-resolved") TwoWayResolved k (cond (bytes_eq word (codes "one-way-safe")) (Some OneWaySafe) (cond (bytes_eq word (codes "one-way-replica")) (Some OneWayReplica) None)) mode_word refl
    (chain word (codes "one-way-safe") OneWaySafe k (cond (bytes_eq word (codes "one-way-replica")) (Some OneWayReplica) None) mode_word refl
    (chain word (codes "one-way-replica") OneWayReplica k None mode_word refl
    (λ h. absurd (cc)))))

pub one_mode : (k : Mode) (word : List ℕ) → (mode_by word ≡ Some k) ↔ (word ≡ mode_word k)
one_mode k word = (λ h. sym (mode_is word k h), λ e. ap mode_by e ∙ mode_read k)

phase_read : (k : Phase) → phase_by (phase_word k) ≡ Some k
phase_read Idle = refl
phase_read Forget = refl
phase_read ScanAlpha = refl
phase_read ScanBeta = refl
phase_read Stage = refl
phase_read Change = refl
phase_read Clear = refl
phase_read Commit = refl

phase_is : (word : List ℕ) (k : Phase) → phase_by word ≡ Some k → phase_word k ≡ word
phase_is word k = chain word (codes "idle") Idle k (cond (bytes_eq word (codes "forget")) (Some Forget) (cond (bytes_eq word (codes "scan-alpha")) (Some ScanAlpha) (cond (bytes_eq word (codes "scan-beta")) (Some ScanBeta) (cond (bytes_eq word (codes "stage")) (Some Stage) (cond (bytes_eq word (codes "change")) (Some Change) (cond (bytes_eq word (codes "clear")) (Some Clear) (cond (bytes_eq word (codes "commit")) (Some Commit) None))))))) phase_word refl
    (chain word (codes "forget") Forget k (cond (bytes_eq word (codes "scan-alpha")) (Some ScanAlpha) (cond (bytes_eq word (codes "scan-beta")) (Some ScanBeta) (cond (bytes_eq word (codes "stage")) (Some Stage) (cond (bytes_eq word (codes "change")) (Some Change) (cond (bytes_eq word (codes "clear")) (Some Clear) (cond (bytes_eq word (codes "commit")) (Some Commit) None)))))) phase_word refl
    (chain word (codes "scan-alpha") ScanAlpha k (cond (bytes_eq word (codes "scan-beta")) (Some ScanBeta) (cond (bytes_eq word (codes "stage")) (Some Stage) (cond (bytes_eq word (codes "change")) (Some Change) (cond (bytes_eq word (codes "clear")) (Some Clear) (cond (bytes_eq word (codes "commit")) (Some Commit) None))))) phase_word refl
    (chain word (codes "scan-beta") ScanBeta k (cond (bytes_eq word (codes "stage")) (Some Stage) (cond (bytes_eq word (codes "change")) (Some Change) (cond (bytes_eq word (codes "clear")) (Some Clear) (cond (bytes_eq word (codes "commit")) (Some Commit) None)))) phase_word refl
    (chain word (codes "stage") Stage k (cond (bytes_eq word (codes "change")) (Some Change) (cond (bytes_eq word (codes "clear")) (Some Clear) (cond (bytes_eq word (codes "commit")) (Some Commit) None))) phase_word refl
    (chain word (codes "change") Change k (cond (bytes_eq word (codes "clear")) (Some Clear) (cond (bytes_eq word (codes "commit")) (Some Commit) None)) phase_word refl
    (chain word (codes "clear") Clear k (cond (bytes_eq word (codes "commit")) (Some Commit) None) phase_word refl
    (chain word (codes "commit") Commit k None phase_word refl
    (λ h. absurd (cc)))))))))

pub one_phase : (k : Phase) (word : List ℕ) → (phase_by word ≡ Some k) ↔ (word ≡ phase_word k)
one_phase k word = (λ h. sym (phase_is word k h), λ e. ap phase_by e ∙ phase_read k)

stream_side_read : (k : StreamSide) → stream_side_by (stream_side_word k) ≡ Some k
stream_side_read Near = refl
stream_side_read Far = refl

stream_side_is : (word : List ℕ) (k : StreamSide) → stream_side_by word ≡ Some k → stream_side_word k ≡ word
stream_side_is word k = chain word (codes "near") Near k (cond (bytes_eq word (codes "far")) (Some Far) None) stream_side_word refl
    (chain word (codes "far") Far k None stream_side_word refl
    (λ h. absurd (cc)))

pub one_stream_side : (k : StreamSide) (word : List ℕ) → (stream_side_by word ≡ Some k) ↔ (word ≡ stream_side_word k)
one_stream_side k word = (λ h. sym (stream_side_is word k h), λ e. ap stream_side_by e ∙ stream_side_read k)

switch_read : (k : Bool) → switch_by (switch_word k) ≡ Some k
switch_read true = refl
switch_read false = refl

switch_is : (word : List ℕ) (k : Bool) → switch_by word ≡ Some k → switch_word k ≡ word
switch_is word k = chain word (codes "on") true k (cond (bytes_eq word (codes "off")) (Some false) None) switch_word refl
    (chain word (codes "off") false k None switch_word refl
    (λ h. absurd (cc)))

pub one_switch : (k : Bool) (word : List ℕ) → (switch_by word ≡ Some k) ↔ (word ≡ switch_word k)
one_switch k word = (λ h. sym (switch_is word k h), λ e. ap switch_by e ∙ switch_read k)
