-- Lists of deltas that are known by the numbers of their deltas, which stand in one list.
use Rattle.std.specs.Prelude.{◌≡◌, ℕ, ◌≤◌, List, [], ◌∷◌, length, slice_range, slice_index_or, Option, None, Some, Contains}
use Rattle.shared_trie.specs.declared.known_lists.KnownList.{KnownList}

-- the numbers of the deltas, and the number of the list
abbrev pub known_in : List ℕ → KnownList → List ℕ × ℕ
known_in numbers known = (slice_range numbers known.first known.end, known.list)

-- the numbers of the deltas are there
pub record IsKnownIn (numbers : List ℕ) (known : KnownList) : Type 0 where
  pub order : known.first ≤ known.end
  pub within : known.end ≤ length numbers

-- the list that is told for a delta's number has this delta alone, and is known
abbrev pub AreAlone : List (List ℕ × ℕ) → List (Option ℕ) → Type 0
AreAlone known alone = (number list : ℕ) → slice_index_or alone number None ≡ Some list → Contains known (number ∷ [], list)
