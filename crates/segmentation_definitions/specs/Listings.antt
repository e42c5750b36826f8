-- The order of answers, the listing, its pages and its summary (order and pages are own; the summary is after Goyal and
-- Huet 2016).
use Rattle.std.specs.Prelude.{◌≡◌, ◌≢◌, ℕ, ◌≤◌, ◌↔◌, ◌⊎◌, Bool, IsTrue, List, [], ◌∷◌, length, map, All, Contains}
use Rattle.std.specs.declared.cmp.Ordering.{Ordering}
use Rattle.std.specs.declared.cmp.Ordering.TheVariants.{Less, Greater}
use Rattle.std.specs.Ordering.{nat_cmp, ordering_then}
use Rattle.std.specs.Cmp.Lexicographic.{slice_cmp}
use Rattle.std.specs.List.Sorted.{IsStrictlySortedBy}
use Rattle.text_definitions.specs.Words.{compare_words}
use Rattle.text_definitions.specs.Lines.{Line}
use Rattle.lexicon_definitions.specs.Lexicons.{Lexicon, RuleSet}
use Rattle.segmentation_definitions.specs.Derivations.{Step}
use Rattle.segmentation_definitions.specs.Items.{Placed, placed, Item, items_of, after_lead, Choice}
use Rattle.segmentation_definitions.specs.Answers.{IsAnswer}

-- the key of a step: its phase, how many letters it takes, and its rule
pub record Key : Type 0 where
  pub phase : ℕ
  pub taken : ℕ
  pub rule : ℕ

-- the key of a step in its place
abbrev pub key_of : Placed → Key
key_of p = record { phase = p.step.phase; taken = p.taken; rule = p.step.rule }

-- the keys of the steps
abbrev pub keys_of : RuleSet → List Step → List Key
keys_of rules steps = map key_of (placed rules steps)

-- the smaller phase comes first, then the larger number of letters taken, then the smaller rule
abbrev pub compare_keys : Key → Key → Ordering
compare_keys left right =
    ordering_then (nat_cmp left.phase right.phase)
    (ordering_then (nat_cmp right.taken left.taken) (nat_cmp left.rule right.rule))

-- lists of keys are compared at the first place where they differ, and a proper prefix is smaller
abbrev pub compare_key_lists : List Key → List Key → Ordering
compare_key_lists left right = slice_cmp compare_keys left right

-- lists of steps are compared by their keys
abbrev pub compare_answers : RuleSet → List Step → List Step → Ordering
compare_answers rules left right = compare_key_lists (keys_of rules left) (keys_of rules right)

-- a cursor in the listing: before the first answer, at an answer, or past the last
pub data Cursor : Type 0 where
  BeforeFirst : Cursor
  AtAnswer : (steps : List Step) → Cursor
  PastLast : Cursor

-- the answer comes after the cursor
abbrev pub IsAbove : RuleSet → Cursor → List Step → Type 0
IsAbove rules BeforeFirst answer = Unit {0}
IsAbove rules (AtAnswer steps) answer = compare_answers rules steps answer ≡ Less
IsAbove rules PastLast answer = ⊥

-- the strictly rising list that has every answer above the cursor and nothing else
pub record IsListingAbove (lexicon : Lexicon) (line : Line) (choices : List Choice) (cursor : Cursor) (answers : List (List Step)) : Type 0 where
  pub rising : IsStrictlySortedBy (compare_answers lexicon.rules) answers
  pub only_answers : (steps : List Step) → Contains answers steps → IsAnswer lexicon line choices steps
  pub only_above : (steps : List Step) → Contains answers steps → IsAbove lexicon.rules cursor steps
  pub complete : (steps : List Step) → IsAnswer lexicon line choices steps → IsAbove lexicon.rules cursor steps → Contains answers steps

-- the listing is the strictly rising list that has every answer and nothing else
abbrev pub IsListing : Lexicon → Line → List Choice → List (List Step) → Type 0
IsListing lexicon line choices answers = IsListingAbove lexicon line choices BeforeFirst answers

-- the next answer after a cursor is the least answer above it
pub record IsNext (lexicon : Lexicon) (line : Line) (choices : List Choice) (cursor : Cursor) (next : List Step) : Type 0 where
  pub answer : IsAnswer lexicon line choices next
  pub above : IsAbove lexicon.rules cursor next
  pub least : (other : List Step) → IsAnswer lexicon line choices other → IsAbove lexicon.rules cursor other → compare_answers lexicon.rules next other ≢ Greater

-- the answer comes after each of these
abbrev pub ComesAfter : RuleSet → List (List Step) → List Step → Type 0
ComesAfter rules earlier steps = All (λ before. compare_answers rules before steps ≡ Less) earlier

-- a page of count answers at a cursor has the first count answers above it, or all of them where they are fewer: what is
-- above and not on the page comes after a full page; more says whether there is such an answer
pub record IsPage (lexicon : Lexicon) (line : Line) (choices : List Choice) (cursor : Cursor) (count : ℕ) (page : List (List Step)) (more : Bool) : Type 0 where
  pub rising : IsStrictlySortedBy (compare_answers lexicon.rules) page
  pub only_answers : (steps : List Step) → Contains page steps → IsAnswer lexicon line choices steps
  pub only_above : (steps : List Step) → Contains page steps → IsAbove lexicon.rules cursor steps
  pub at_most : length page ≤ count
  pub first : (steps : List Step) → IsAnswer lexicon line choices steps → IsAbove lexicon.rules cursor steps
      → Contains page steps ⊎ ((length page ≡ count) × ComesAfter lexicon.rules page steps)
  pub left : IsTrue more ↔ ((steps : List Step) × IsAnswer lexicon line choices steps × IsAbove lexicon.rules cursor steps × ComesAfter lexicon.rules page steps)

-- the cursor at the last of these answers, or the given cursor where there is no answer
abbrev pub cursor_after : Cursor → List (List Step) → Cursor
cursor_after cursor [] = cursor
cursor_after cursor (steps ∷ page) = cursor_after (AtAnswer steps) page

-- a page that was asked for: how many answers, which they are, and whether one is left
pub record Page : Type 0 where
  pub count : ℕ
  pub answers : List (List Step)
  pub more : Bool

-- pages that follow one another: each is the page at the last answer of those before it
abbrev pub ArePages : Lexicon → Line → List Choice → Cursor → List Page → Type 0
ArePages lexicon line choices cursor [] = Unit {0}
ArePages lexicon line choices cursor (page ∷ pages) =
    IsPage lexicon line choices cursor page.count page.answers page.more
    × ArePages lexicon line choices (cursor_after cursor page.answers) pages

-- items are ordered by the letters before them, then those with a lead before those without, then by phase, form and
-- the length of the lead
abbrev pub compare_items : Item → Item → Ordering
compare_items left right =
    ordering_then (nat_cmp left.at right.at)
    (ordering_then (nat_cmp (after_lead left.lead) (after_lead right.lead))
    (ordering_then (nat_cmp left.phase right.phase)
    (ordering_then (compare_words left.form right.form) (nat_cmp left.lead right.lead))))

-- the item is the item of a step of some answer
abbrev pub IsItemOfAnswer : Lexicon → Line → List Choice → Item → Type 0
IsItemOfAnswer lexicon line choices item =
    (steps : List Step) × IsAnswer lexicon line choices steps × Contains (items_of lexicon.rules steps) item

-- the summary has each item of a step of some answer, once and in order, and nothing else
pub record IsSummary (lexicon : Lexicon) (line : Line) (choices : List Choice) (items : List Item) : Type 0 where
  pub rising : IsStrictlySortedBy compare_items items
  pub members : (item : Item) → Contains items item ↔ IsItemOfAnswer lexicon line choices item
