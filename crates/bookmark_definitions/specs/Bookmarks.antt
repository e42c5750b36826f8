-- A bookmark keeps a cursor in the listing of a line, so that a reader can go on from there another day (own).
use Rattle.std.specs.Prelude.{◌≡◌, ℕ, ◌*◌, ◌-◌, ◌<◌, ◌≤◌, ◌↔◌, List, [], length, All}
use Rattle.text_definitions.specs.declared.limits.TheConstants.{MOST_LINE_LETTERS}
use Rattle.text_definitions.specs.Words.{IsWord}
use Rattle.text_definitions.specs.Lines.{Line, IsLine}
use Rattle.lexicon_definitions.specs.declared.limits.TheConstants.{MOST_PHASES, MOST_RULES, MOST_RULE_LETTERS, MOST_FORM_LETTERS}
use Rattle.segmentation_definitions.specs.declared.limits.TheConstants.{LAST_ANSWER_NUMBER, MOST_CHOICES}
use Rattle.segmentation_definitions.specs.Items.{Item, Choice}
use Rattle.segmentation_definitions.specs.Listings.{Key}

-- a line, the reader's choices, oldest first, the number of answers printed, and the keys of the last of these
pub record Bookmark : Type 0 where
  pub line : Line
  pub choices : List Choice
  pub printed : ℕ
  pub keys : List Key

-- the greatest number that a phase may have
abbrev pub last_phase : ℕ
last_phase = MOST_PHASES - 1

-- the item could be one of some line over some lexicon: each of its numbers is within the limits, and its form is a word
-- that is neither empty nor too long
pub record IsItemWithinBounds (item : Item) : Type 0 where
  pub at : item.at ≤ MOST_LINE_LETTERS
  pub lead : item.lead ≤ MOST_RULE_LETTERS
  pub phase : item.phase ≤ last_phase
  pub word : IsWord item.form
  pub not_empty : 0 < length item.form
  pub short : length item.form ≤ MOST_FORM_LETTERS

-- the key could be one of some step over some lexicon: each of its numbers is within the limits
pub record IsKeyWithinBounds (key : Key) : Type 0 where
  pub phase : key.phase ≤ last_phase
  pub taken : key.taken ≤ MOST_FORM_LETTERS
  pub rule : key.rule ≤ MOST_RULES

-- a bookmark has a line, not too many choices, a number of answers printed that can be written down, and at most twice as
-- many keys as letters; it has no keys exactly where no answer was printed
pub record IsBookmark (mark : Bookmark) : Type 0 where
  pub line : IsLine mark.line
  pub few_choices : length mark.choices ≤ MOST_CHOICES
  pub items : All (λ choice. IsItemWithinBounds choice.item) mark.choices
  pub printed : mark.printed ≤ LAST_ANSWER_NUMBER
  pub few_keys : length mark.keys ≤ 2 * length mark.line.letters
  pub keys : All IsKeyWithinBounds mark.keys
  pub no_keys : (mark.keys ≡ []) ↔ (mark.printed ≡ 0)
