-- Sets of letters by the bits of a number.
use Rattle.std.specs.Prelude.{ℕ, zero, suc, ◌+◌, ◌/◌, ◌%◌, List, [], ◌∷◌, cond, nat_eq}
use Rattle.shared_trie.specs.declared.letter_set.LetterSet.{LetterSet}

-- the places of the bits that are 1 among the lowest ones, so many of them, where the lowest has the place from
unfoldable pub set_places : ℕ → ℕ → ℕ → List ℕ
set_places zero from bits = []
set_places (suc count) from bits =
    cond (nat_eq (bits % 2) 1) (from ∷ set_places count (from + 1) (bits / 2)) (set_places count (from + 1) (bits / 2))

-- the codes of the letters of a set, rising
unfoldable pub letters_in : LetterSet → List ℕ
unfolding set_places
letters_in set = set_places 64 0 set.bits
