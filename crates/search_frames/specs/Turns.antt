-- How a guide brings a frame to its next key, and what that may cost (own).
use Rattle.std.specs.Prelude.{◌≡◌, ℕ, ◌+◌, ◌-◌, ◌*◌, ◌<◌, ◌⊎◌, true, Bool, Option, List, ◌∷◌, length}
use Rattle.std.specs.declared.cmp.Ordering.TheVariants.{Less}
use Rattle.text_definitions.specs.Lines.{Line}
use Rattle.lexicon_definitions.specs.declared.limits.TheConstants.{MOST_RULES, MOST_FORM_LETTERS}
use Rattle.segmentation_definitions.specs.Items.{Choice}
use Rattle.segmentation_definitions.specs.Listings.{Key, compare_keys}
use Rattle.listing_laws.specs.Ways.{IsPath}
use Rattle.derivation.specs.declared.entrance.Entrance.{Entrance}
use Rattle.annotated_trie.specs.Searched.{SearchedLexicon}
use Rattle.search_frames.specs.declared.frame.TheConstants.{NODES_OF_FRAME}
use Rattle.search_frames.specs.declared.resumption.Resumption.{Resumption}
use Rattle.search_frames.specs.declared.testing.Test.{Test}
use Rattle.search_frames.specs.declared.testing.Test.TheVariants as test
use Rattle.search_frames.specs.declared.guiding.ToTry.{ToTry}
use Rattle.search_frames.specs.declared.guiding.ToTry.TheVariants as to_try
use Rattle.search_frames.specs.Configurations.{NumberedConfiguration, IsPossible, Ends, ways_in, rules_in}
use Rattle.search_frames.specs.Frames.{IsPlaced, here_of, configuration_at, key_at}
use Rattle.search_frames.specs.Tests.{LeadsTo}

-- the key is still to try where a frame stands at its last key: every key is, or just those after the last one
abbrev pub IsToTry : Key → ToTry → Key → Type 0
IsToTry last to_try.All key = Unit {0}
IsToTry last to_try.Later key = compare_keys last key ≡ Less

-- the first of the keys that may be still to try
abbrev pub first_to_try : Key → ToTry → Key
first_to_try last to_try.All = record { phase = 0; taken = MOST_FORM_LETTERS; rule = 0 }
first_to_try last to_try.Later = record { phase = last.phase; taken = last.taken; rule = last.rule + 1 }

-- a frame that has just the later keys to try stands at a possible one
abbrev pub StandsToTry : SearchedLexicon → Line → Resumption → ℕ → ToTry → Type 0
StandsToTry searched line stack level to_try.All = Unit {0}
StandsToTry searched line stack level to_try.Later = IsPossible searched line (here_of searched stack level) (key_at stack level)

-- some path from here begins with the key
abbrev pub BeginsPath : SearchedLexicon → Line → List Choice → NumberedConfiguration → Key → Type 0
BeginsPath searched line choices here key = (keys : List Key) × IsPath (ways_in searched line choices) here (key ∷ keys)

-- the frame was brought to a key that it had still to try: each other such key with which a path begins comes after it
pub record HasTurned (searched : SearchedLexicon) (line : Line) (choices : List Choice) (level : ℕ) (what : ToTry) (old new : Resumption) : Type 0 where
  pub placed : IsPlaced searched line new level
  pub same_configuration : configuration_at new level ≡ configuration_at old level
  pub possible : IsPossible searched line (here_of searched old level) (key_at new level)
  pub to_try : IsToTry (key_at old level) what (key_at new level)
  pub first : (key : Key) → BeginsPath searched line choices (here_of searched old level) key → IsToTry (key_at old level) what key
      → (key_at new level ≡ key) ⊎ (compare_keys (key_at new level) key ≡ Less)

-- no path begins with a key that the frame has still to try
abbrev pub HasNoTurn : SearchedLexicon → Line → List Choice → ℕ → ToTry → Resumption → Type 0
HasNoTurn searched line choices level what stack =
    (key : Key) → BeginsPath searched line choices (here_of searched stack level) key → IsToTry (key_at stack level) what key → ⊥

-- the frame was brought to a key, and the answer says what this key does, where the guide says that an answer goes on from where it leads;
-- or there is no such key
abbrev pub IsTurn : SearchedLexicon → Line → List Choice → (ℕ → Entrance → Option ℕ → Bool) → ℕ → ToTry → Resumption → Resumption → Test → Type 0
IsTurn searched line choices says level what old new test.Refused = HasNoTurn searched line choices level what old
IsTurn searched line choices says level what old new test.Ends =
    HasTurned searched line choices level what old new × Ends searched line choices (here_of searched old level) (key_at new level)
IsTurn searched line choices says level what old new (test.LeadsOn next) =
    HasTurned searched line choices level what old new × LeadsTo searched line choices (here_of searched old level) (key_at new level) next
    × (says next.at next.entrance next.state ≡ true)

-- a number that falls from key to key, and is greater where every key is still to try
abbrev pub keys_left : SearchedLexicon → Key → ToTry → ℕ
keys_left searched last to_try.All = (length (rules_in searched).names + 1) * NODES_OF_FRAME * (MOST_RULES + 1)
keys_left searched last to_try.Later =
    ((length (rules_in searched).names - last.phase) * NODES_OF_FRAME + last.taken) * (MOST_RULES + 1) + (MOST_RULES - last.rule)

-- it falls, unless there was no such key
abbrev pub HasFallen : SearchedLexicon → ℕ → ToTry → Resumption → Resumption → Test → Type 0
HasFallen searched level what old new test.Refused = Unit {0}
HasFallen searched level what old new test.Ends =
    keys_left searched (key_at new level) to_try.Later < keys_left searched (key_at old level) what
HasFallen searched level what old new (test.LeadsOn next) =
    keys_left searched (key_at new level) to_try.Later < keys_left searched (key_at old level) what
