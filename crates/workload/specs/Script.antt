-- The text of the workload's script, in its five steps.
use Rattle.std.specs.Prelude.{ℕ, suc, zero, ◌+◌, ◌*◌, ◌%◌, ◌==◌, cond, List, [], ◌∷◌, ◌++◌, codes}
use Rattle.workload.specs.declared.pieces.TheConstants.{FOLDER_SIZE}
use Rattle.workload.specs.Names.{folder_count, files_in, folder_path, file_path, content}

-- f of 0, of 1 and so on, below n, one behind the other
abbrev pub below : ℕ → (ℕ → List ℕ) → List ℕ
below zero f = []
below (suc n) f = below n f ++ f n

-- a line of this text
abbrev pub line : List ℕ → List ℕ
line text = text ++ 10 ∷ []

-- the line by which an editor writes a file's content, and something behind it, at a root
abbrev pub put_line : List ℕ → ℕ → ℕ → List ℕ → List ℕ
put_line root salt file more = line (codes "edit " ++ root ++ codes " put " ++ file_path file ++ codes " =" ++ content salt file ++ more)

-- ---- step 1: the folders on A, and behind each the files in it; then what the ignores of version control leave out

abbrev pub dir_line : ℕ → List ℕ
dir_line folder = line (codes "edit A dir " ++ folder_path folder)

abbrev pub file_lines : ℕ → ℕ → ℕ → List ℕ
file_lines salt n folder = below (files_in n folder) (λ file. put_line (codes "A") salt (FOLDER_SIZE * folder + file) [])

abbrev pub folder_lines : ℕ → ℕ → ℕ → List ℕ
folder_lines salt n folder = dir_line folder ++ file_lines salt n folder

abbrev pub tree_lines : ℕ → ℕ → List ℕ
tree_lines salt n = below (folder_count n) (folder_lines salt n) ++ codes "edit A dir .git\nedit A put .git/HEAD =ref\n"

-- ---- step 2: a session, and its first cycle

abbrev pub create_lines : List ℕ
create_lines = codes "sync create --name=w --ignore-vcs A B\nsync flush w\n"

-- ---- step 3: of ten files one is deleted on B, one written on A, and one written on both sides in two ways; a new file in each folder on B

abbrev pub edit_lines : ℕ → ℕ → List ℕ
edit_lines salt file =
    cond (file % 10 == 0) (line (codes "edit B del " ++ file_path file))
    (cond (file % 10 == 1) (put_line (codes "A") salt file (codes "a"))
    (cond (file % 10 == 2) (put_line (codes "A") salt file (codes "a") ++ put_line (codes "B") salt file (codes "b"))
    []))

abbrev pub new_line : ℕ → List ℕ
new_line folder = line (codes "edit B put " ++ folder_path folder ++ codes "/n =n")

abbrev pub both_lines : ℕ → ℕ → List ℕ
both_lines salt n = below n (edit_lines salt) ++ below (folder_count n) new_line

-- ---- step 4: a cycle

abbrev pub flush_line : List ℕ
flush_line = codes "sync flush w\n"

-- ---- step 5: an empty file in each folder on A, and a cycle that is paused among its changes and resumed

abbrev pub empty_line : ℕ → List ℕ
empty_line folder = line (codes "edit A put " ++ folder_path folder ++ codes "/m =")

abbrev pub pause_lines : ℕ → List ℕ
pause_lines n = below (folder_count n) empty_line
    ++ codes "sync flush --skip-wait w\nuntil w change\nstep w 5\nsync pause w\nstep w 20\nsync resume w\nsync flush w\n"

-- the whole script
abbrev pub script : ℕ → ℕ → List ℕ
script salt n = tree_lines salt n ++ create_lines ++ both_lines salt n ++ flush_line ++ pause_lines n
