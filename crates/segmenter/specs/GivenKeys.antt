-- Keys that are given to a search, and the frame that stands at one (own).
use Rattle.std.specs.Prelude.{◌≡◌, ℕ}
use Rattle.text_definitions.specs.Lines.{Line}
use Rattle.segmentation_definitions.specs.Listings.{Key}
use Rattle.annotated_trie.specs.Searched.{SearchedLexicon}
use Rattle.search_frames.specs.declared.resumption.Resumption.{Resumption}
use Rattle.search_frames.specs.declared.testing.Test.{Test}
use Rattle.search_frames.specs.declared.testing.Test.TheVariants as test
use Rattle.search_frames.specs.Configurations.{NumberedConfiguration, IsPossible}
use Rattle.search_frames.specs.Frames.{IsPlaced, here_of, key_at}

-- the frame at the level stands here at the key, which is possible
pub record StandsAtKey (searched : SearchedLexicon) (line : Line) (stack : Resumption) (level : ℕ) (here : NumberedConfiguration) (key : Key) : Type 0 where
  pub placed : IsPlaced searched line stack level
  pub place : here_of searched stack level ≡ here
  pub possible : IsPossible searched line here key
  pub is_at : key_at stack level ≡ key

-- so it does where the test of the key does not refuse it
abbrev pub StandsUnlessRefused : SearchedLexicon → Line → Resumption → ℕ → NumberedConfiguration → Key → Test → Type 0
StandsUnlessRefused searched line stack level here key test.Refused = Unit {0}
StandsUnlessRefused searched line stack level here key test.Ends = StandsAtKey searched line stack level here key
StandsUnlessRefused searched line stack level here key (test.LeadsOn next) = StandsAtKey searched line stack level here key
