-- Which request a line is, by its words.
use Rattle.std.specs.Prelude.{ℕ, ◌&&◌, ◌||◌, not, List, [], ◌∷◌, drop, codes, nat_eq, if◌then◌else◌, Option, None, Some}
use Rattle.std.specs.List.{list_all, starts_with}
use Rattle.std.specs.Option.{option_or}
use Rattle.std.specs.Str.{bytes_eq}
use Rattle.sync_path.specs.Name.{is_name}
use Rattle.script_engine.specs.declared.request.Request.{Request}
use Rattle.script_engine.specs.declared.request.Request.TheVariants.{Put, Create, Flush, Show}
use Rattle.script_engine.specs.Words.{is_word, words_of, is_root, is_session_name, is_identifier}

-- `edit ROOT put FILE =BYTES`
abbrev pub put_of : List ℕ → List ℕ → List ℕ → List ℕ → List ℕ → Option Request
put_of edit root put file contents =
    if bytes_eq edit (codes "edit") && is_root root && bytes_eq put (codes "put") && is_name file && starts_with nat_eq contents (codes "=")
    then Some (Put root file (drop 1 contents))
    else None

-- `sync create --name=NAME ALPHA BETA`, with two different roots
abbrev pub create_of : List ℕ → List ℕ → List ℕ → List ℕ → List ℕ → Option Request
create_of sync create option alpha beta =
    if bytes_eq sync (codes "sync") && bytes_eq create (codes "create") && starts_with nat_eq option (codes "--name=")
    && is_session_name (drop 7 option) && is_root alpha && is_root beta && not (bytes_eq alpha beta)
    then Some (Create (drop 7 option) alpha beta)
    else None

-- `sync flush SESSION`, the session by its name or its identifier
abbrev pub flush_of : List ℕ → List ℕ → List ℕ → Option Request
flush_of sync flush session =
    if bytes_eq sync (codes "sync") && bytes_eq flush (codes "flush") && (is_session_name session || is_identifier session)
    then Some (Flush session)
    else None

-- `show ROOT`
abbrev pub show_of : List ℕ → List ℕ → Option Request
show_of show root =
    if bytes_eq show (codes "show") && is_root root
    then Some (Show root)
    else None

-- the request that these words make, if they are a form
abbrev pub form_of : List (List ℕ) → Option Request
form_of (verb ∷ root ∷ []) = show_of verb root
form_of (verb ∷ deed ∷ session ∷ []) = flush_of verb deed session
form_of (a ∷ b ∷ c ∷ d ∷ e ∷ []) = option_or (put_of a b c d e) (create_of a b c d e)
form_of words = None

-- the request that a line is: its words stand between single spaces, and they are a form
abbrev pub request_of : List ℕ → Option Request
request_of line = if list_all is_word (words_of line) then form_of (words_of line) else None
