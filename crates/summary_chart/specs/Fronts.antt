-- The fronts of forms of a phase at a place: what the rule before supplies and so many letters of the line, each with the node to
-- which it leads (own).
use Rattle.std.specs.Prelude.{◌≡◌, ℕ, ◌+◌, ◌<◌, ◌≤◌, IsSome, Option, Some, None, List, ◌++◌, length, take, drop, slice_index_or}
use Rattle.text_definitions.specs.Lines.{Line}
use Rattle.lexicon_definitions.specs.Tries.{Row, walk}
use Rattle.segmentation_definitions.specs.Listings.{Key}
use Rattle.answer_paths.specs.Fronts.{supplied}
use Rattle.annotated_trie.specs.Searched.{SearchedLexicon}
use Rattle.search_frames.specs.declared.frame.TheConstants.{NODES_OF_FRAME}
use Rattle.search_frames.specs.Configurations.{NumberedConfiguration, IsPossible, rules_in}
use Rattle.summary_chart.specs.declared.site.Front.{Front}

-- each number of first letters below that of the nodes leads from the node to the one there, and no greater number leads anywhere
pub record AreWalkedFrom (rows : List Row) (node : ℕ) (letters nodes : List ℕ) : Type 0 where
  pub few : length nodes ≤ NODES_OF_FRAME
  pub within : length nodes ≤ length letters + 1
  pub walked : (taken : ℕ) → taken < length nodes → walk rows node (take taken letters) ≡ Some (slice_index_or nodes taken 0)
  pub all : (taken : ℕ) → taken ≤ length letters → IsSome (walk rows node (take taken letters)) → taken < length nodes

-- the letters by which a search that stands here comes to the u of a form that takes so many letters
abbrev pub front_after : Line → NumberedConfiguration → ℕ → List ℕ
front_after line here taken = supplied here.entrance ++ take taken (drop here.at line.letters)

-- the front of a form of the phase that takes so many letters leads to the node
pub record IsFrontAt (searched : SearchedLexicon) (line : Line) (here : NumberedConfiguration) (phase taken node : ℕ) : Type 0 where
  pub named : phase < length (rules_in searched).names
  pub within : here.at + taken ≤ length line.letters
  pub walked : walk searched.tries.trie.rows (slice_index_or searched.tries.trie.roots phase 0) (front_after line here taken) ≡ Some node

-- the front is that of a form of the phase that takes so many letters, and goes no further than the limit
pub record IsNearFront (searched : SearchedLexicon) (line : Line) (here : NumberedConfiguration) (phase limit taken : ℕ) (front : Front) : Type 0 where
  pub phase_is : front.phase ≡ phase
  pub taken_is : front.taken ≡ taken
  pub is : IsFrontAt searched line here phase taken front.node
  pub near : here.at + taken ≤ limit

-- it is such a front; or no possible key of the phase that goes no further takes as many letters
abbrev pub IsNextFront : SearchedLexicon → Line → NumberedConfiguration → ℕ → ℕ → ℕ → Option Front → Type 0
IsNextFront searched line here phase limit taken None =
    (key : Key) → IsPossible searched line here key → key.phase ≡ phase → here.at + key.taken ≤ limit → key.taken < taken
IsNextFront searched line here phase limit taken (Some front) = IsNearFront searched line here phase limit taken front

-- for each number of letters below that of the nodes the front leads to the one there and goes no further than the limit, and no possible
-- key that goes no further takes more
pub record AreFronts (searched : SearchedLexicon) (line : Line) (here : NumberedConfiguration) (phase limit : ℕ) (nodes : List ℕ) : Type 0 where
  pub few : length nodes ≤ NODES_OF_FRAME
  pub each : (taken : ℕ) → taken < length nodes → IsFrontAt searched line here phase taken (slice_index_or nodes taken 0)
  pub near : (taken : ℕ) → taken < length nodes → here.at + taken ≤ limit
  pub all : (key : Key) → IsPossible searched line here key → key.phase ≡ phase → here.at + key.taken ≤ limit → key.taken < length nodes
