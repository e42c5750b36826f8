-- The first of the keys from one on with which a path may begin (own; after Huet 2005).
use Rattle.std.specs.Prelude.{◌≡◌, ℕ, ◌<◌, ◌≤◌, ◌⊎◌, true, Bool, Option, List}
use Rattle.text_definitions.specs.Lines.{Line}
use Rattle.segmentation_definitions.specs.Items.{Choice}
use Rattle.segmentation_definitions.specs.Listings.{Key}
use Rattle.derivation.specs.declared.entrance.Entrance.{Entrance}
use Rattle.annotated_trie.specs.Searched.{SearchedLexicon}
use Rattle.search_frames.specs.declared.testing.Test.{Test}
use Rattle.search_frames.specs.declared.testing.Test.TheVariants as test
use Rattle.search_frames.specs.Configurations.{NumberedConfiguration, IsPossible, Ends}
use Rattle.search_frames.specs.Tests.{LeadsTo}
use Rattle.search_frames.specs.Turns.{BeginsPath}

-- the key has this phase, and does not come before `from`
abbrev pub IsInPhaseFrom : Key → Key → Type 0
IsInPhaseFrom from key = (from.phase ≡ key.phase) × ((key.taken < from.taken) ⊎ ((key.taken ≡ from.taken) × (from.rule ≤ key.rule)))

-- the key does not come before `from`
abbrev pub IsFrom : Key → Key → Type 0
IsFrom from key = (from.phase < key.phase) ⊎ IsInPhaseFrom from key

-- the key has this phase and takes as many letters, and does not come before `from`
abbrev pub IsAtNodeFrom : Key → Key → Type 0
IsAtNodeFrom from key = (from.phase ≡ key.phase) × (key.taken ≡ from.taken) × (from.rule ≤ key.rule)

-- and has no change
abbrev pub IsUnchangedFrom : Key → Key → Type 0
IsUnchangedFrom from key = IsAtNodeFrom from key × (key.rule ≡ 0)

-- and has a rule
abbrev pub IsRuleFrom : Key → Key → Type 0
IsRuleFrom from key = IsAtNodeFrom from key × (0 < key.rule)

-- and has this rule
abbrev pub IsThisRuleFrom : Key → ℕ → Key → Type 0
IsThisRuleFrom from rule key = IsRuleFrom from key × (key.rule ≡ rule)

-- the key has this phase and takes fewer letters than this, and does not come before `from`
abbrev pub IsShorterFrom : Key → ℕ → Key → Type 0
IsShorterFrom from letters key = IsInPhaseFrom from key × (key.taken < letters)

-- the answer says what the key does here: no path begins with it, or it ends the line, or it leads on to a place of which the guide
-- says that an answer goes on from there
abbrev pub IsJudged : SearchedLexicon → Line → List Choice → (ℕ → Entrance → Option ℕ → Bool) → NumberedConfiguration → Key → Test → Type 0
IsJudged searched line choices says here key test.Refused = BeginsPath searched line choices here key → ⊥
IsJudged searched line choices says here key test.Ends = Ends searched line choices here key
IsJudged searched line choices says here key (test.LeadsOn next) =
    LeadsTo searched line choices here key next × (says next.at next.entrance next.state ≡ true)

-- of these keys the first with which a path may begin, and what it does
pub record IsFirstOf (searched : SearchedLexicon) (line : Line) (choices : List Choice) (says : ℕ → Entrance → Option ℕ → Bool) (here : NumberedConfiguration)
    (IsMeant : Key → Type 0) (found : Key) (does : Test) : Type 0 where
  pub possible : IsPossible searched line here found
  pub meant : IsMeant found
  pub judged : IsJudged searched line choices says here found does
  pub goes : does ≡ test.Refused → ⊥
  pub first : (key : Key) → BeginsPath searched line choices here key → IsMeant key → IsFrom found key

-- no path begins with one of these keys
abbrev pub HasNoneOf : SearchedLexicon → Line → List Choice → NumberedConfiguration → (Key → Type 0) → Type 0
HasNoneOf searched line choices here IsMeant = (key : Key) → BeginsPath searched line choices here key → IsMeant key → ⊥
