-- The keys that lead on from a configuration or end the line there, whatever the grammar says (own).
use Rattle.std.specs.Prelude.{◌≢◌, List, All, Contains, map}
use Rattle.std.specs.List.Sorted.{IsStrictlySortedBy}
use Rattle.text_definitions.specs.Lines.{Line}
use Rattle.segmentation_definitions.specs.Items.{Choice}
use Rattle.segmentation_definitions.specs.Listings.{Key, compare_keys}
use Rattle.derivation.specs.Steps.{key_meant}
use Rattle.annotated_trie.specs.Searched.{SearchedLexicon}
use Rattle.search_frames.specs.declared.letter_testing.LetterTest.TheVariants.{Refused}
use Rattle.search_frames.specs.declared.way.Way.{Way}
use Rattle.search_frames.specs.Configurations.{NumberedConfiguration, IsPossible}
use Rattle.search_frames.specs.Turns.{BeginsPath}
use Rattle.search_frames.specs.LetterTests.{IsLetterTestOf}

-- the key of a way
abbrev pub key_of_way : Way → Key
key_of_way way = key_meant way.key

-- the way is one from here: its key is possible, and does what the way tells
pub record IsWayFrom (searched : SearchedLexicon) (line : Line) (choices : List Choice) (here : NumberedConfiguration) (way : Way) : Type 0 where
  pub possible : IsPossible searched line here (key_of_way way)
  pub test : IsLetterTestOf searched line choices here (key_of_way way) way.test
  pub goes : way.test ≢ Refused

-- these are ways from here, in the order of their keys, and each path from here begins with the key of one
pub record AreAllWays (searched : SearchedLexicon) (line : Line) (choices : List Choice) (here : NumberedConfiguration) (ways : List Way) : Type 0 where
  pub each : All (IsWayFrom searched line choices here) ways
  pub all : (key : Key) → BeginsPath searched line choices here key → Contains (map key_of_way ways) key
  pub rising : IsStrictlySortedBy compare_keys (map key_of_way ways)
