-- A listing that isn't too long has few rows.
use Rattle.std.proofs.Common.{ℕ, ◌<◌, ◌≤◌, ◌^◌, List, [], ◌∷◌, length, arith, length-append, Some}
use Rattle.std.specs.List.{flat_map}
use Rattle.entry_tree.specs.declared.entry.Entry.{Entry}
use Rattle.agent_proto.specs.Fields.{number_field, text_field, found_field, row_field, rows_field}
use Rattle.agent_proto.specs.declared.limits.TheConstants.{MAX_MESSAGE}
use Rattle.agent_proto.proofs.Numbers.{length_of}

-- each row has bytes
rows_long : (rows : List (List ℕ × Entry)) → length rows ≤ length (flat_map row_field rows)
rows_long [] = omega arith
rows_long (row ∷ rows) =
    omega (arith, rows_long rows, length-append (row_field row) (flat_map row_field rows), length-append (text_field row.0) (found_field (Some row.1)), length-append (number_field 2 (length row.0)) row.0, length_of 2 (length row.0))

pub rows_few : (rows : List (List ℕ × Entry)) → length (rows_field rows) ≤ MAX_MESSAGE → length rows < 2 ^ 32
rows_few rows fits = omega (arith, fits, rows_long rows, length-append (number_field 4 (length rows)) (flat_map row_field rows))
