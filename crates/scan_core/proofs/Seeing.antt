-- What becomes of rows, one after another.
use Rattle.std.proofs.Common.{◌≡◌, ℕ, ◌+◌, ◌<◌, List, [], ◌∷◌, ◌++◌, take, length, get_or, refl, sym, ap, ◌∙◌}
use Rattle.std.proofs.lemmas.List.{take_more}
use Rattle.entry_tree.specs.Tree.{Names, ByPath}
use Rattle.entry_tree.specs.declared.entry.Entry.{Entry}
use Rattle.ignore_glob.specs.Grammar.{Meaning}
use Rattle.scan_cache.specs.declared.line.Line.{Line}
use Rattle.scan_core.specs.Board.{with_row, with_rows}
use Rattle.scan_core.specs.declared.board.Board.{Board}

module _ (rules : List Meaning) (cache : ByPath Line) (folder : Names) where
  pub with_rows-push : (b : Board) (rows : List (List ℕ × Entry)) (row : List ℕ × Entry) → with_rows rules cache folder b (rows ++ row ∷ []) ≡ with_row rules cache folder (with_rows rules cache folder b rows) row
  with_rows-push b [] row = refl
  with_rows-push b (r ∷ rows) row = with_rows-push (with_row rules cache folder b r) rows row

  -- the rows up to a place, and the one there
  pub one_row_more : (b : Board) (rows : List (List ℕ × Entry)) (at : ℕ) (row : List ℕ × Entry) (before after : Board) → at < length rows
      → before ≡ with_rows rules cache folder b (take at rows) → after ≡ with_row rules cache folder before (get_or rows at row) → after ≡ with_rows rules cache folder b (take (at + 1) rows)
  one_row_more b rows at row before after short is new =
      new
      ∙ ap (λ (x : Board). with_row rules cache folder x (get_or rows at row)) is
      ∙ sym (with_rows-push b (take at rows) (get_or rows at row))
      ∙ ap (with_rows rules cache folder b) (sym (take_more rows at row short))
