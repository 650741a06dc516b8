-- The files of the workload: their paths, their contents and the folders that they lie in.
use Rattle.std.specs.Prelude.{ℕ, suc, zero, ◌+◌, ◌-◌, ◌*◌, ◌/◌, ◌%◌, ◌^◌, min, List, [], ◌∷◌, ◌++◌, codes, decimal}
use Rattle.workload.specs.declared.pieces.TheConstants.{FOLDER_SIZE}

-- how many folders n files lie in: each has seven files, the last one maybe fewer
abbrev pub folder_count : ℕ → ℕ
folder_count n = (n + (FOLDER_SIZE - 1)) / FOLDER_SIZE

-- how many of n files lie in this folder
abbrev pub files_in : ℕ → ℕ → ℕ
files_in n folder = min FOLDER_SIZE (n - FOLDER_SIZE * folder)

-- the last digits of a number, so many of them
unfoldable pub padded : ℕ → ℕ → List ℕ
padded zero n = []
padded (suc digits) n = padded digits (n / 10) ++ (48 + n % 10) ∷ []

-- a folder's path: `d` and four digits
unfoldable pub folder_path : ℕ → List ℕ
folder_path folder = codes "d" ++ padded 4 folder

-- a file's path: its folder's, and the name `f` and five digits
unfoldable pub file_path : ℕ → List ℕ
file_path file = folder_path (file / FOLDER_SIZE) ++ codes "/f" ++ padded 5 file

-- the content of a file: the salt and its number added, as a number of 64 bits
unfoldable pub content : ℕ → ℕ → List ℕ
content salt file = decimal ((salt + file) % 2 ^ 64)
