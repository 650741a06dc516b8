-- The texts of the folders of version control are patterns.
use Rattle.std.proofs.Common.{◌≡◌, ℕ, true, false, List, [], ◌∷◌, codes, map, refl, inl, lit≤, ◌&&◌, Bool}
use Rattle.std.specs.List.{list_all}
use Rattle.std.specs.Str.{chars}
use Rattle.std.proofs.lemmas.Bool.{false≢true}
use Rattle.ignore_glob.specs.declared.piece.Piece.TheVariants as pieces
use Rattle.ignore_glob.specs.declared.piece.Part.TheVariants as parts
use Rattle.ignore_glob.specs.Grammar.{Meaning, ArePieces, is_plain}
use Rattle.ignore_rules.specs.Vcs.{HasMeaning}

both : (a b : Bool) → (a && b) ≡ true → (a ≡ true) × (b ≡ true)
both true b h = (refl, h)
both false b h = absurd (false≢true h)

plain_pieces : (cs : List ℕ) → list_all is_plain cs ≡ true → ArePieces cs (map pieces.Same cs)
plain_pieces [] h = refl
plain_pieces (c ∷ cs) h = let all = both (is_plain c) (list_all is_plain cs) h in (c ∷ [], cs, refl, inl (refl, all.0), plain_pieces cs all.1)

-- directories of this name
abbrev folder : List ℕ → Meaning
folder name = record { negated = false; anchored = false; directories = true; parts = parts.Glob (map pieces.Same name) ∷ [] }

pub git : HasMeaning (codes ".git/")
unfolding chars
git = (folder (codes ".git"), record { negated = refl; anchored = refl; directories = refl; some = λ e. cc; parts = ((λ e. cc, λ e. cc, plain_pieces (codes ".git") refl), tt); few = lit≤ tt })

pub subversion : HasMeaning (codes ".svn/")
unfolding chars
subversion = (folder (codes ".svn"), record { negated = refl; anchored = refl; directories = refl; some = λ e. cc; parts = ((λ e. cc, λ e. cc, plain_pieces (codes ".svn") refl), tt); few = lit≤ tt })

pub mercurial : HasMeaning (codes ".hg/")
unfolding chars
mercurial = (folder (codes ".hg"), record { negated = refl; anchored = refl; directories = refl; some = λ e. cc; parts = ((λ e. cc, λ e. cc, plain_pieces (codes ".hg") refl), tt); few = lit≤ tt })

pub bazaar : HasMeaning (codes ".bzr/")
unfolding chars
bazaar = (folder (codes ".bzr"), record { negated = refl; anchored = refl; directories = refl; some = λ e. cc; parts = ((λ e. cc, λ e. cc, plain_pieces (codes ".bzr") refl), tt); few = lit≤ tt })

pub darcs : HasMeaning (codes "_darcs/")
unfolding chars
darcs = (folder (codes "_darcs"), record { negated = refl; anchored = refl; directories = refl; some = λ e. cc; parts = ((λ e. cc, λ e. cc, plain_pieces (codes "_darcs") refl), tt); few = lit≤ tt })
