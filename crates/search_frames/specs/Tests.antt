-- What the test of a key answers (own).
use Rattle.std.specs.Prelude.{◌≡◌, List}
use Rattle.text_definitions.specs.Lines.{Line}
use Rattle.segmentation_definitions.specs.Items.{Choice}
use Rattle.segmentation_definitions.specs.Listings.{Key}
use Rattle.search_frames.specs.declared.configuration.Configuration.{Configuration}
use Rattle.search_frames.specs.declared.testing.Test.{Test}
use Rattle.search_frames.specs.declared.testing.Test.TheVariants as test
use Rattle.search_frames.specs.Configurations.{NumberedConfiguration, LeadsOn, Ends, after}
use Rattle.annotated_trie.specs.Searched.{SearchedLexicon}
use Rattle.search_frames.specs.Frames.{numbered_of, IsConfigurationIn}

-- the key neither leads on nor ends here
pub record IsRefused (searched : SearchedLexicon) (line : Line) (choices : List Choice) (here : NumberedConfiguration) (key : Key) : Type 0 where
  pub leads_on : LeadsOn searched line choices here key → ⊥
  pub ends : Ends searched line choices here key → ⊥

-- it does neither, whatever the reader chooses
abbrev pub IsAlwaysRefused : SearchedLexicon → Line → NumberedConfiguration → Key → Type 0
IsAlwaysRefused searched line here key = (choices : List Choice) → IsRefused searched line choices here key

-- the key leads on to this configuration
pub record LeadsTo (searched : SearchedLexicon) (line : Line) (choices : List Choice) (here : NumberedConfiguration) (key : Key) (next : Configuration) : Type 0 where
  pub leads_on : LeadsOn searched line choices here key
  pub is : numbered_of searched next ≡ after searched line here key
  pub within : IsConfigurationIn searched line next

-- the answer says what the key does here
abbrev pub IsTestOf : SearchedLexicon → Line → List Choice → NumberedConfiguration → Key → Test → Type 0
IsTestOf searched line choices here key test.Refused = IsRefused searched line choices here key
IsTestOf searched line choices here key test.Ends = Ends searched line choices here key
IsTestOf searched line choices here key (test.LeadsOn next) = LeadsTo searched line choices here key next
