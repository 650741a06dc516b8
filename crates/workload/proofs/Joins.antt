-- Texts that are written one behind the other.
use Rattle.std.proofs.Common.{◌≡◌, ℕ, ◌+◌, ◌/◌, ◌%◌, List, [], ◌∷◌, ◌++◌, ap, sym, ◌∙◌, append_assoc, add-one}
use Rattle.std.specs.Prelude.{Result, Ok, Err, OnOk, codes}
use Rattle.workload.specs.Names.{padded, folder_path, file_path}
use Rattle.workload.specs.declared.pieces.TheConstants.{FOLDER_SIZE}
use Rattle.workload.specs.Script.{below}

-- what was written behind a text, and then something behind that
pub and_then : (a b c x y : List ℕ) → b ≡ a ++ x → c ≡ b ++ y → c ≡ a ++ (x ++ y)
and_then a b c x y p q = q ∙ ap (λ l. l ++ y) p ∙ append_assoc a x y

-- one more
pub below_more : (start old new : List ℕ) (i : ℕ) (f : ℕ → List ℕ) → old ≡ start ++ below i f → new ≡ old ++ f i → new ≡ start ++ below (i + 1) f
below_more start old new i f p q = rw add-one (and_then start old new (below i f) (f i) p q)

pub on_ok : {A E : Type 0} {P Q : Type 0} (r : Result A E) → (P → Q) → OnOk r P → OnOk r Q
on_ok (Ok x) f h = f h
on_ok (Err e) f h = h

-- the digit that is written for a number
abbrev pub last_digit : ℕ → List ℕ
last_digit n = (48 + n % 10) ∷ []

-- a folder's path, digit by digit
pub folder_written : (n : ℕ) (a b c d e f : List ℕ) → b ≡ a ++ codes "d" → c ≡ b ++ last_digit (n / 10 / 10 / 10) → d ≡ c ++ last_digit (n / 10 / 10)
    → e ≡ d ++ last_digit (n / 10) → f ≡ e ++ last_digit n → f ≡ a ++ folder_path n
unfolding folder_path padded
folder_written n a b c d e f p q r s t =
    let one = and_then a b c (codes "d") (last_digit (n / 10 / 10 / 10)) p q in
    let two = and_then a c d (codes "d" ++ last_digit (n / 10 / 10 / 10)) (last_digit (n / 10 / 10)) one r in
    let three = and_then a d e ((codes "d" ++ last_digit (n / 10 / 10 / 10)) ++ last_digit (n / 10 / 10)) (last_digit (n / 10)) two s in
    and_then a e f (((codes "d" ++ last_digit (n / 10 / 10 / 10)) ++ last_digit (n / 10 / 10)) ++ last_digit (n / 10)) (last_digit n) three t

-- a file's name, digit by digit
pub name_written : (n : ℕ) (a b c d e f g : List ℕ) → b ≡ a ++ codes "/f" → c ≡ b ++ last_digit (n / 10 / 10 / 10 / 10) → d ≡ c ++ last_digit (n / 10 / 10 / 10)
    → e ≡ d ++ last_digit (n / 10 / 10) → f ≡ e ++ last_digit (n / 10) → g ≡ f ++ last_digit n → g ≡ a ++ (codes "/f" ++ padded 5 n)
unfolding padded
name_written n a b c d e f g p q r s t u =
    let one = and_then a b c (codes "/f") (last_digit (n / 10 / 10 / 10 / 10)) p q in
    let two = and_then a c d (codes "/f" ++ last_digit (n / 10 / 10 / 10 / 10)) (last_digit (n / 10 / 10 / 10)) one r in
    let three = and_then a d e ((codes "/f" ++ last_digit (n / 10 / 10 / 10 / 10)) ++ last_digit (n / 10 / 10 / 10)) (last_digit (n / 10 / 10)) two s in
    let four = and_then a e f (((codes "/f" ++ last_digit (n / 10 / 10 / 10 / 10)) ++ last_digit (n / 10 / 10 / 10)) ++ last_digit (n / 10 / 10)) (last_digit (n / 10)) three t in
    and_then a f g ((((codes "/f" ++ last_digit (n / 10 / 10 / 10 / 10)) ++ last_digit (n / 10 / 10 / 10)) ++ last_digit (n / 10 / 10)) ++ last_digit (n / 10)) (last_digit n) four u

-- a file's path: its folder's, and its name
pub path_written : (n : ℕ) (a b c : List ℕ) → b ≡ a ++ folder_path (n / FOLDER_SIZE) → c ≡ b ++ (codes "/f" ++ padded 5 n) → c ≡ a ++ file_path n
unfolding file_path
path_written n a b c p q =
    and_then a b c (folder_path (n / FOLDER_SIZE)) (codes "/f" ++ padded 5 n) p q
    ∙ ap (λ l. a ++ l) (sym (append_assoc (folder_path (n / FOLDER_SIZE)) (codes "/f") (padded 5 n)))
