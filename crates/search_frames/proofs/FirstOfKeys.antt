-- The first of some keys with which a path may begin, from those of parts of them: where the first part has none, it is that of the rest.
use Rattle.std.proofs.Common.{ℕ, ◌⊎◌, inl, inr, Bool, Option, List}
use Rattle.text_definitions.specs.Lines.{Line}
use Rattle.segmentation_definitions.specs.Items.{Choice}
use Rattle.segmentation_definitions.specs.Listings.{Key}
use Rattle.derivation.specs.declared.entrance.Entrance.{Entrance}
use Rattle.annotated_trie.specs.Searched.{SearchedLexicon}
use Rattle.search_frames.specs.declared.testing.Test.{Test}
use Rattle.search_frames.specs.Configurations.{NumberedConfiguration}
use Rattle.search_frames.specs.Turns.{BeginsPath}
use Rattle.search_frames.specs.FirstKeys.{IsFirstOf, HasNoneOf, IsFrom}

module _ (searched : SearchedLexicon) (line : Line) (choices : List Choice) (says : ℕ → Entrance → Option ℕ → Bool) (here : NumberedConfiguration)
    (IsMeant IsOther : Key → Type 0) where
  -- keys that are told in another way
  pub none_told : ((key : Key) → BeginsPath searched line choices here key → IsOther key → IsMeant key)
      → HasNoneOf searched line choices here IsMeant → HasNoneOf searched line choices here IsOther
  none_told told none key begins other = none key begins (told key begins other)

  pub first_told : (found : Key) (does : Test) → ((key : Key) → BeginsPath searched line choices here key → IsOther key → IsMeant key)
      → (IsMeant found → IsOther found)
      → IsFirstOf searched line choices says here IsMeant found does → IsFirstOf searched line choices says here IsOther found does
  first_told found does told back first = record {
    possible = first.possible;
    meant = back first.meant;
    judged = first.judged;
    goes = first.goes;
    first = λ key begins other. first.first key begins (told key begins other);
  }

  module _ (IsBoth : Key → Type 0) (split : (key : Key) → BeginsPath searched line choices here key → IsBoth key → IsMeant key ⊎ IsOther key) where
    -- neither part has one
    pub none_of_both : HasNoneOf searched line choices here IsMeant → HasNoneOf searched line choices here IsOther → HasNoneOf searched line choices here IsBoth
    none_of_both none others key begins both = elim (split key begins both) [ inl meant ↦ none key begins meant | inr other ↦ others key begins other ]

    -- the first part has one, and the keys of the rest come later
    pub first_of_first : (found : Key) (does : Test) → (IsMeant found → IsBoth found) → ((key : Key) → IsOther key → IsMeant found → IsFrom found key)
        → IsFirstOf searched line choices says here IsMeant found does → IsFirstOf searched line choices says here IsBoth found does
    first_of_first found does back later first = record {
      possible = first.possible;
      meant = back first.meant;
      judged = first.judged;
      goes = first.goes;
      first = λ key begins both.
          elim (split key begins both) [ inl meant ↦ first.first key begins meant | inr other ↦ later key other first.meant ];
    }

    -- the first part has none
    pub first_of_rest : (found : Key) (does : Test) → HasNoneOf searched line choices here IsMeant → (IsOther found → IsBoth found)
        → IsFirstOf searched line choices says here IsOther found does → IsFirstOf searched line choices says here IsBoth found does
    first_of_rest found does none back first = record {
      possible = first.possible;
      meant = back first.meant;
      judged = first.judged;
      goes = first.goes;
      first = λ key begins both.
          elim (split key begins both) [ inl meant ↦ absurd (none key begins meant) | inr other ↦ first.first key begins other ];
    }
