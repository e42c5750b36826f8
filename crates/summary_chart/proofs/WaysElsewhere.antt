-- What letters tell of a key at a place is the same in each state: each part of it speaks of the letters before and of the entrance alone.
use Rattle.std.proofs.Common.{ℕ, Option, List}
use Rattle.std.specs.List.{All}
use Rattle.std.proofs.lemmas.List.Elements.{All-contains}
use Rattle.list_laws.proofs.Sorted.{All-from_Contains}
use Rattle.text_definitions.specs.Lines.{Line}
use Rattle.segmentation_definitions.specs.Items.{Choice}
use Rattle.segmentation_definitions.specs.Listings.{Key}
use Rattle.segmentation_definitions.specs.Configurations.{Entrance}
use Rattle.annotated_trie.specs.Searched.{SearchedLexicon}
use Rattle.search_frames.specs.declared.letter_testing.LetterTest.{LetterTest}
use Rattle.search_frames.specs.declared.letter_testing.LetterTest.TheVariants.{Refused, Ends, LeadsOn}
use Rattle.search_frames.specs.declared.way.Way.{Way}
use Rattle.search_frames.specs.Configurations.{NumberedConfiguration, IsPossible}
use Rattle.search_frames.specs.LetterTests.{MayLeadOn, MayEndLine, MayNeither, IsLetterTestOf}
use Rattle.search_frames.specs.WaysFrom.{IsWayFrom, key_of_way}

-- where a search stands after so many letters, entered so, in the state
abbrev pub standing_at : ℕ → Entrance → Option ℕ → NumberedConfiguration
standing_at at entrance state = record { at = at; entrance = entrance; state = state }

module _ (searched : SearchedLexicon) (line : Line) (choices : List Choice) (at : ℕ) (entrance : Entrance) where
  pub possible_elsewhere : (one other : Option ℕ) (key : Key) → IsPossible searched line (standing_at at entrance one) key
      → IsPossible searched line (standing_at at entrance other) key
  possible_elsewhere one other key is = record { number = is.number; within = is.within; form = is.form }

  leads_elsewhere : (one other : Option ℕ) (key : Key) → MayLeadOn searched line choices (standing_at at entrance one) key
      → MayLeadOn searched line choices (standing_at at entrance other) key
  leads_elsewhere one other key may = record { stands = may.stands; inner = may.inner; left = may.left }

  ends_elsewhere : (one other : Option ℕ) (key : Key) → MayEndLine searched line choices (standing_at at entrance one) key
      → MayEndLine searched line choices (standing_at at entrance other) key
  ends_elsewhere one other key may = record { stands = may.stands; final_rule = may.final_rule; all = may.all; blanks_before = may.blanks_before }

  pub neither_elsewhere : (one other : Option ℕ) (key : Key) → MayNeither searched line choices (standing_at at entrance one) key
      → MayNeither searched line choices (standing_at at entrance other) key
  neither_elsewhere one other key may = record {
    leads_on = λ leads. may.leads_on (leads_elsewhere other one key leads);
    ends = λ ends. may.ends (ends_elsewhere other one key ends);
  }

  test_elsewhere : (one other : Option ℕ) (key : Key) (test : LetterTest) → IsLetterTestOf searched line choices (standing_at at entrance one) key test
      → IsLetterTestOf searched line choices (standing_at at entrance other) key test
  test_elsewhere one other key Refused may = neither_elsewhere one other key may
  test_elsewhere one other key Ends may = ends_elsewhere one other key may
  test_elsewhere one other key (LeadsOn next entered) may =
      record { may = leads_elsewhere one other key may.may; at_is = may.at_is; entrance_is = may.entrance_is; within = may.within; over = may.over }

  way_elsewhere : (one other : Option ℕ) (way : Way) → IsWayFrom searched line choices (standing_at at entrance one) way
      → IsWayFrom searched line choices (standing_at at entrance other) way
  way_elsewhere one other way is = record {
    possible = possible_elsewhere one other (key_of_way way) is.possible;
    test = test_elsewhere one other (key_of_way way) way.test is.test;
    goes = is.goes;
  }

  pub ways_elsewhere : (one other : Option ℕ) (ways : List Way) → All (IsWayFrom searched line choices (standing_at at entrance one)) ways
      → All (IsWayFrom searched line choices (standing_at at entrance other)) ways
  ways_elsewhere one other ways each =
      All-from_Contains (IsWayFrom searched line choices (standing_at at entrance other)) ways (λ way there.
      way_elsewhere one other way (All-contains (IsWayFrom searched line choices (standing_at at entrance one)) ways way each there))
