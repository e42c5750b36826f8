-- Places in the order of bytes.
use Rattle.std.specs.Prelude.{ℕ, ◌+◌, List, [], ◌∷◌, cond}
use Rattle.std.specs.Ordering.{nat_cmp, is_lt}
use Rattle.std.specs.Cmp.Lexicographic.{slice_cmp}

-- how many of the words are below the text
abbrev pub rank_among : List (List ℕ) → List ℕ → ℕ
rank_among [] text = 0
rank_among (word ∷ words) text = cond (is_lt (slice_cmp nat_cmp word text)) 1 0 + rank_among words text
