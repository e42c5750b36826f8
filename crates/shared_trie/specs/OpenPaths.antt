-- Rows that may still get children, for each front of the last form.
use Rattle.std.specs.Prelude.{ℕ, List, [], slice_index_or}

-- a row by the number of its list of deltas, and its children
pub record PathRow : Type 0 where
  pub list : ℕ
  pub children : List (ℕ × ℕ)

-- a row without deltas and children; 0 is the number of the empty list
abbrev pub no_row : PathRow
no_row = record { list = 0; children = [] }

-- the row of the front with so many letters
abbrev pub path_row : List PathRow → ℕ → PathRow
path_row path depth = slice_index_or path depth no_row
