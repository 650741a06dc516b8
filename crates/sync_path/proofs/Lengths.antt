-- How long the text and the buffer of a path are, and which names may stand behind others.
use Rattle.std.proofs.Common.{◌≡◌, ℕ, ◌+◌, ◌<◌, ◌≤◌, Bool, true, false, ◌&&◌, ltb, leb, List, [], ◌∷◌, ◌++◌, length, refl, sym, ap, ◌∙◌, arith, length-append}
use Rattle.std.proofs.lemmas.Bool.{and_parts, and_from, leb-true, le-leb, ltb-true, lt-ltb}
use Rattle.std.specs.List.{list_all}
use Rattle.sync_path.specs.Buffer.{buffer_of}
use Rattle.sync_path.specs.Name.{is_name}
use Rattle.sync_path.specs.Path.{IsPath, path_text, place_behind, has_room, may_follow}

pub place_behind-append : (xs ys : List (List ℕ)) → place_behind (xs ++ ys) ≡ place_behind xs + place_behind ys
place_behind-append [] ys = omega arith
place_behind-append (x ∷ xs) ys = omega (arith, place_behind-append xs ys)

pub length-buffer_of : (names : List (List ℕ)) → length (buffer_of names) ≡ place_behind names
length-buffer_of [] = refl
length-buffer_of (n ∷ ns) = omega (arith, length-append n (0 ∷ buffer_of ns), length-buffer_of ns)

pub length-path_text : (n : List ℕ) (ns : List (List ℕ)) → length (path_text (n ∷ ns)) + 1 ≡ place_behind (n ∷ ns)
length-path_text n [] = omega arith
length-path_text n (m ∷ ns) = omega (arith, length-append n (47 ∷ path_text (m ∷ ns)), length-path_text m ns)

-- what the limit of a text says of the place behind it
pub place_behind-le : (names : List (List ℕ)) → length (path_text names) ≤ 4096 → place_behind names ≤ 4097
place_behind-le [] h = omega arith
place_behind-le (n ∷ ns) h = omega (arith, length-path_text n ns)

pub path_text-le : (names : List (List ℕ)) → place_behind names ≤ 4097 → length (path_text names) ≤ 4096
path_text-le [] h = omega arith
path_text-le (n ∷ ns) h = omega (arith, length-path_text n ns)

pub list_all-append : (xs ys : List (List ℕ)) → list_all is_name (xs ++ ys) ≡ list_all is_name xs && list_all is_name ys
list_all-append [] ys = refl
list_all-append (x ∷ xs) ys = ap (λ b. is_name x && b) (list_all-append xs ys) ∙ and_assoc (is_name x) (list_all is_name xs) (list_all is_name ys)
  where
    and_assoc : (x y z : Bool) → x && (y && z) ≡ (x && y) && z
    and_assoc true y z = refl
    and_assoc false y z = refl

-- the first names of a path are a path
pub path_from_front : (xs ys : List (List ℕ)) → IsPath (xs ++ ys) → IsPath xs
path_from_front xs ys h =
    let names = and_parts (list_all is_name xs) (list_all is_name ys) (sym (list_all-append xs ys) ∙ h.each_name) in
    record {
      each_name = names.0;
      depth = omega (arith, length-append xs ys, h.depth);
      len = path_text-le xs (omega (arith, place_behind-append xs ys, place_behind-le (xs ++ ys) h.len));
    }

-- a name that may follow makes a path
pub path_with : (xs : List (List ℕ)) (n : List ℕ) → IsPath xs → may_follow xs n ≡ true → IsPath (xs ++ n ∷ [])
path_with xs n h f =
    let parts = and_parts (is_name n) (has_room (length xs) (place_behind xs) (length n)) f in
    let room = and_parts (ltb (length xs) 64) (leb (place_behind xs + length n) 4096) parts.1 in
    let less : length xs < 64 = ltb-true (length xs) 64 room.0 in
    let fits : place_behind xs + length n ≤ 4096 = leb-true (place_behind xs + length n) 4096 room.1 in
    record {
      each_name = list_all-append xs (n ∷ []) ∙ and_from (list_all is_name xs) (list_all is_name (n ∷ [])) h.each_name (and_from (is_name n) true parts.0 refl);
      depth = omega (arith, length-append xs (n ∷ []));
      len = path_text-le (xs ++ n ∷ []) (omega (arith, place_behind-append xs (n ∷ [])));
    }

-- each name of a path may follow those before it
pub follows_in_path : (xs : List (List ℕ)) (n : List ℕ) (ys : List (List ℕ)) → IsPath (xs ++ n ∷ ys) → may_follow xs n ≡ true
follows_in_path xs n ys h =
    let names = and_parts (list_all is_name xs) (list_all is_name (n ∷ ys)) (sym (list_all-append xs (n ∷ ys)) ∙ h.each_name) in
    let name = and_parts (is_name n) (list_all is_name ys) names.1 in
    let less : length xs < 64 = omega (arith, length-append xs (n ∷ ys), h.depth) in
    let fits : place_behind xs + length n ≤ 4096 = omega (arith, place_behind-append xs (n ∷ ys), place_behind-le (xs ++ n ∷ ys) h.len) in
    and_from (is_name n) (has_room (length xs) (place_behind xs) (length n)) name.0
    (and_from (ltb (length xs) 64) (leb (place_behind xs + length n) 4096) (lt-ltb (length xs) 64 less) (le-leb (place_behind xs + length n) 4096 fits))

-- the root is a path
pub path_of_root : IsPath []
path_of_root = record { each_name = refl; depth = omega arith; len = omega arith }
