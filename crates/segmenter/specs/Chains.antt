-- Frames of a search one after another, and what a search finds with them (own; after Huet 2005).
use Rattle.std.specs.Prelude.{◌≡◌, ℕ, ◌+◌, ◌*◌, ◌<◌, ◌≤◌, ◌⊎◌, List, [], ◌∷◌, length}
use Rattle.std.specs.declared.cmp.Ordering.TheVariants.{Less}
use Rattle.text_definitions.specs.Lines.{Line}
use Rattle.segmentation_definitions.specs.Items.{Choice}
use Rattle.segmentation_definitions.specs.Listings.{Key, compare_keys}
use Rattle.listing_laws.specs.Ways.{IsPath}
use Rattle.listing_laws.specs.Cursors.{IsFirst}
use Rattle.annotated_trie.specs.Searched.{SearchedLexicon}
use Rattle.search_frames.specs.declared.resumption.Resumption.{Resumption}
use Rattle.search_frames.specs.declared.guiding.ToTry.{ToTry}
use Rattle.search_frames.specs.Configurations.{NumberedConfiguration, IsPossible, LeadsOn, after, ways_in}
use Rattle.search_frames.specs.Stacks.{depth_of, room_of}
use Rattle.search_frames.specs.Frames.{IsPlaced, here_of, key_at}
use Rattle.search_frames.specs.Turns.{IsToTry}
use Rattle.search_frames.specs.Reached.{rank}

-- the frames from the level on up to the last in use stand one after another along the keys, each at its key, which is possible there
abbrev pub AreFrames : SearchedLexicon → Line → Resumption → ℕ → NumberedConfiguration → List Key → Type 0
AreFrames searched line stack level here [] = level ≡ depth_of stack
AreFrames searched line stack level here (key ∷ keys) =
    IsPlaced searched line stack level × (here_of searched stack level ≡ here) × IsPossible searched line here key
    × (key_at stack level ≡ key) × AreFrames searched line stack (level + 1) (after searched line here key) keys

-- the frames from the level on stand along the first path from here that is wanted
pub record HasFound (searched : SearchedLexicon) (line : Line) (choices : List Choice) (IsWanted : List Key → Type 0) (stack : Resumption) (level : ℕ)
    (here : NumberedConfiguration) : Type 0 where
  pub keys : List Key
  pub frames : AreFrames searched line stack level here keys
  pub first : IsFirst (ways_in searched line choices) here IsWanted keys

-- no path from here is wanted
abbrev pub HasNone : SearchedLexicon → Line → List Choice → (List Key → Type 0) → NumberedConfiguration → Type 0
HasNone searched line choices IsWanted here =
    (keys : List Key) → IsPath (ways_in searched line choices) here keys → IsWanted keys → ⊥

-- every path is wanted
abbrev pub Every : List Key → Type 0
Every keys = Unit {0}

-- the path begins with a key that is still to try where a frame stands at its last key
abbrev pub BeginsToTry : Key → ToTry → List Key → Type 0
BeginsToTry last what [] = ⊥
BeginsToTry last what (key ∷ keys) = IsToTry last what key

-- each key but the last leads on from where those before it lead, so that each frame stands where a search may come to
abbrev pub LeadAlong : SearchedLexicon → Line → List Choice → NumberedConfiguration → List Key → Type 0
LeadAlong searched line choices here [] = ⊥
LeadAlong searched line choices here (key ∷ []) = Unit {0}
LeadAlong searched line choices here (key ∷ later ∷ keys) =
    LeadsOn searched line choices here key × LeadAlong searched line choices (after searched line here key) (later ∷ keys)

-- the keys come after the earlier ones, and do not begin with all of them: the first that differs is a later one
abbrev pub ComesAfter : List Key → List Key → Type 0
ComesAfter [] keys = ⊥
ComesAfter (first ∷ earlier) [] = ⊥
ComesAfter (first ∷ earlier) (key ∷ keys) = (compare_keys first key ≡ Less) ⊎ ((first ≡ key) × ComesAfter earlier keys)

-- there is room for each frame that may stand from the level on: each rises in rank, up to twice the number of letters
pub record HasRoom (line : Line) (stack : Resumption) (level : ℕ) (here : NumberedConfiguration) : Type 0 where
  pub below : level < rank here
  pub within : rank here ≤ 2 * length line.letters
  pub room : 2 * length line.letters ≤ room_of stack
