-- One row of a path is read, or replaced by another.
use Rattle.std.proofs.Common.{◌≡◌, ◌<◌, ℕ, List, length, get_or, set, sym, ◌∙◌, ap, arith}
use Rattle.std.proofs.lemmas.List.{get_or-map, length-map, map-set}
use Rattle.shared_trie.specs.declared.open_path.OpenRow.{OpenRow}
use Rattle.shared_trie.specs.OpenPaths.{PathRow, no_row, path_row}
use Rattle.shared_trie.specs.OpenRows.{path_of}

-- what contracts see of one row
abbrev pub told_row : OpenRow → PathRow
told_row row = record { list = row.list; children = row.children.items }

-- a row that is read
pub row_read : (rows : List OpenRow) (shown : List PathRow) (depth : ℕ) (row : OpenRow) → path_of rows ≡ shown → row ≡ get_or rows depth row
    → depth < length shown → path_row shown depth ≡ told_row row
row_read rows shown depth row view read low =
    let long = length-map rows told_row in
    let same = ap length view in
    ap (λ (ps : List PathRow). path_row ps depth) (sym view) ∙ get_or-map told_row rows depth row no_row (omega (arith, low, long, same)) ∙ ap told_row (sym read)

-- a row that is replaced
pub row_set : (rows : List OpenRow) (shown : List PathRow) (depth : ℕ) (row : OpenRow) (new : PathRow) → path_of rows ≡ shown → told_row row ≡ new
    → path_of (set rows depth row) ≡ set shown depth new
row_set rows shown depth row new view same = map-set told_row rows depth row ∙ (λ i. set (view i) depth (same i))
