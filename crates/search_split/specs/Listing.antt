-- What a worker lists of a part, and pages that are put together of it (own).
use Rattle.std.specs.Prelude.{◌≡◌, ◌⊎◌, ℕ, ◌<◌, min, true, Option, Some, List, ◌++◌, length, take, map, string_bytes}
use Rattle.std.specs.List.{AllZip}
use Rattle.std.specs.declared.cmp.Ordering.TheVariants.{Less}
use Rattle.text_definitions.specs.Lines.{Line}
use Rattle.lexicon_definitions.specs.Lexicons.{Lexicon}
use Rattle.segmentation_definitions.specs.Derivations.{Step}
use Rattle.segmentation_definitions.specs.Items.{Choice}
use Rattle.segmentation_definitions.specs.Listings.{Key, compare_answers, AtAnswer, BeforeFirst, IsPage}
use Rattle.list_laws.specs.Firsts.{AreFirst}
use Rattle.front_definitions.specs.NextOnes.{AreNext}
use Rattle.front_definitions.specs.Fronts.{front_of, HasFront, IsAmongFronts}
use Rattle.annotated_trie.specs.Searched.{SearchedLexicon}
use Rattle.segmenter.specs.Searches.{SearchValue, MovedOn}
use Rattle.search_split.specs.declared.start.Start.{Start}
use Rattle.search_split.specs.declared.listing.Listed.{Listed}
use Rattle.search_split.specs.Starts.{front_from}
use Rattle.search_split.specs.PrintedPages.{text_after_number}

-- some first answers of the front were listed, and whether one is left
pub record IsListed (searched : SearchedLexicon) (line : Line) (choices : List Choice) (depth : ℕ) (front : List Key) (listed : Listed) : Type 0 where
  pub answers : List (List Step)
  pub first : AreFirst (compare_answers searched.lexicon.rules) (HasFront searched.lexicon line choices depth front) answers listed.more
  pub texts : map string_bytes listed.texts.items ≡ map (text_after_number searched.lexicon.rules) answers

-- what was listed for the part, if anything was, are first answers of its front
abbrev pub IsFoundFor : SearchedLexicon → Line → List Choice → ℕ → Start → Option Listed → Type 0
IsFoundFor searched line choices depth start found =
    (listed : Listed) → found ≡ Some listed → IsListed searched line choices depth (front_from depth start) listed

-- there is a place for each part, in the order of the parts, and what was listed there is right
abbrev pub AreFound : SearchedLexicon → Line → List Choice → ℕ → List Start → List (Option Listed) → Type 0
AreFound searched line choices depth = AllZip (IsFoundFor searched line choices depth)

-- the page has the first answers of these fronts, so many at most, and tells whether one is left
pub record IsPageOfFronts (searched : SearchedLexicon) (line : Line) (choices : List Choice) (depth limit : ℕ) (fronts : List (List Key)) (page : Listed) :
    Type 0 where
  pub answers : List (List Step)
  pub next : AreNext (compare_answers searched.lexicon.rules) (IsAmongFronts searched.lexicon line choices depth fronts) limit answers page.more
  pub texts : map string_bytes page.texts.items ≡ map (text_after_number searched.lexicon.rules) answers

-- the page of so many answers before the first answer was listed, and whether an answer is left
pub record IsListedPage (lexicon : Lexicon) (line : Line) (choices : List Choice) (limit : ℕ) (listed : Listed) : Type 0 where
  pub answers : List (List Step)
  pub page : IsPage lexicon line choices BeforeFirst limit answers listed.more
  pub texts : map string_bytes listed.texts.items ≡ map (text_after_number lexicon.rules) answers

-- as many of the listed answers as there is room for were put after those of the page, and whether one is left
pub record HasPut (room : ℕ) (listed old new : Listed) : Type 0 where
  pub fits : ℕ
  pub fit : fits ≡ min room (length listed.texts.items)
  pub texts : new.texts.items ≡ old.texts.items ++ take fits listed.texts.items
  pub told : (old.more ≡ true) ⊎ ((listed.more ≡ true) ⊎ (fits < length listed.texts.items)) → new.more ≡ true
  pub says : new.more ≡ true → (old.more ≡ true) ⊎ ((listed.more ≡ true) ⊎ (fits < length listed.texts.items))

-- the search has moved to the next answer, which has the front
pub record HasGoneOn (depth : ℕ) (front : List Key) (old new : SearchValue) : Type 0 where
  pub moved : MovedOn old new
  pub has : front_of old.searched.lexicon.rules depth moved.answer ≡ front

-- no answer of the front comes after the one at which the search stood, which has it
abbrev pub HasNoneLeft : ℕ → List Key → SearchValue → Type 0
HasNoneLeft depth front old = (answer other : List Step) → old.cursor ≡ AtAnswer answer → front_of old.searched.lexicon.rules depth answer ≡ front
    → HasFront old.searched.lexicon old.line old.choices depth front other → compare_answers old.searched.lexicon.rules answer other ≡ Less → ⊥
