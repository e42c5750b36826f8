-- A delta puts back the first letter that it cuts off: then a smaller cut gives the same stem.
use Rattle.std.specs.Prelude.{ℕ, ◌+◌, ◌⊎◌, List, [], ◌∷◌, length}
use Rattle.lexicon_definitions.specs.Deltas.{Delta}
use Rattle.lexicon_definitions.specs.Tries.{Row, HasSuffix}
use Rattle.trie_checks.specs.LettersPut.{PutsLetter}

-- in the form, or the rest of a form, that is this word the delta puts a letter where the same letter stands
abbrev pub PutsBack : List ℕ → Delta → Type 0
PutsBack [] delta = ⊥
PutsBack (letter ∷ word) delta = PutsLetter (length word + 1) letter delta ⊎ PutsBack word delta

-- below the node a delta puts back a letter
pub record IsPutBack (rows : List Row) (node : ℕ) : Type 0 where
  pub word : List ℕ
  pub delta : Delta
  pub has : HasSuffix rows node word delta
  pub puts_back : PutsBack word delta
