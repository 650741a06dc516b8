-- The patterns that stand before the texts where version control is ignored.
use Rattle.std.specs.Prelude.{ℕ, List, [], ◌∷◌, codes}
use Rattle.ignore_glob.specs.Grammar.{Meaning, IsPattern}

-- the folders of Git, Subversion, Mercurial, Bazaar and Darcs
abbrev pub vcs_texts : List (List ℕ)
vcs_texts = codes ".git/" ∷ codes ".svn/" ∷ codes ".hg/" ∷ codes ".bzr/" ∷ codes "_darcs/" ∷ []

-- the text is a pattern
abbrev pub HasMeaning : List ℕ → Type 0
HasMeaning text = (p : Meaning) × IsPattern text p
