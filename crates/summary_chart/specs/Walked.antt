-- Walks on along a trie and a line: what the forms do that are met on one, wherever they begin; and what is kept of this (own).
use Rattle.std.specs.Prelude.{◌≡◌, ◌≢◌, ℕ, ◌+◌, ◌-◌, ◌==◌, ◌<◌, ◌≤◌, ◌⊎◌, ◌↔◌, Bool, IsTrue, if◌then◌else◌, Some, List, [], length, take, drop, slice_index, slice_index_or, Contains}
use Rattle.text_definitions.specs.Lines.{Line}
use Rattle.lexicon_definitions.specs.Leads.{leads_of}
use Rattle.lexicon_definitions.specs.Lexicons.{RuleSet, rule_of}
use Rattle.lexicon_definitions.specs.Rules.{HasPhase, IsInner, IsFinal}
use Rattle.lexicon_definitions.specs.Tries.{row_of, walk}
use Rattle.segmentation_definitions.specs.Configurations.{Entrance, Plain, Lead}
use Rattle.segmentation_definitions.specs.Listings.{Key}
use Rattle.derivation.specs.declared.entrance.Entrance.{Entrance as ProgramEntrance}
use Rattle.derivation.specs.Guides.{IsEntranceOver, entrance_of}
use Rattle.phase_automaton.specs.Automata.{is_accepting}
use Rattle.annotated_trie.specs.AlikePhases.{IsAlike}
use Rattle.annotated_trie.specs.Choices.{choices_of}
use Rattle.annotated_trie.specs.Searched.{SearchedLexicon}
use Rattle.search_frames.specs.Ahead.{FitsPlace, MayBegin}
use Rattle.search_frames.specs.Configurations.{IsPossible, rules_in}
use Rattle.search_frames.specs.Frames.{numbered_of}
use Rattle.summary_chart.specs.declared.room.WalkRoom.{WalkRoom}
use Rattle.summary_chart.specs.declared.site.Front.{Front}
use Rattle.summary_chart.specs.declared.site.SiteAhead.{SiteAhead}
use Rattle.summary_chart.specs.declared.state_set.StateSet.{StateSet}
use Rattle.summary_chart.specs.declared.table.Table.{Table}
use Rattle.summary_chart.specs.declared.walk_memo.Walk.{Walk}
use Rattle.summary_chart.specs.declared.walk_memo.WalkMemo.{WalkMemo}
use Rattle.summary_chart.specs.declared.walk_memo.Walked.{Walked}
use Rattle.summary_chart.specs.Fronts.{IsFrontAt}
use Rattle.summary_chart.specs.Memos.{AreLiving, AreSpread, EndFrom}
use Rattle.summary_chart.specs.Spreading.{place_with}
use Rattle.summary_chart.specs.StateSets.{HasState}
use Rattle.summary_chart.specs.Tables.{IsIn}

-- ---- what no change or a rule does after a form that ends after so many letters of the line, some of which it takes

-- no change, where a form ends at the node, or a rule that is a choice there
abbrev pub IsChangeAt : SearchedLexicon → ℕ → ℕ → Type 0
IsChangeAt searched node rule = ((rule ≡ 0) × ((row_of searched.tries.trie.rows node).deltas ≢ [])) ⊎ Contains (choices_of searched.tries node) rule

-- it may follow a form of the phase, and its w comes next
pub record ChangeStands (rules : RuleSet) (line : Line) (end phase rule : ℕ) : Type 0 where
  pub follows : 0 < rule → HasPhase (rule_of rules rule).before phase
  pub written : take (length (rule_of rules rule).w) (drop end line.letters) ≡ (rule_of rules rule).w

-- how the form after it is entered
abbrev pub entrance_by : RuleSet → Line → ℕ → ℕ → Entrance
entrance_by rules line end rule =
    if rule == 0 then Plain (slice_index line.letters (end - 1)) else Lead (rule_of rules rule).v (rule_of rules rule).after

-- it stands there, and another form begins after so many letters, entered so
pub record ChangeLeadsTo (rules : RuleSet) (line : Line) (end phase rule at : ℕ) (entrance : ProgramEntrance) : Type 0 where
  pub stands : ChangeStands rules line end phase rule
  pub inner : 0 < rule → IsInner (rule_of rules rule)
  pub left : rule ≡ 0 → end < length line.letters
  pub at_is : at ≡ end + length (rule_of rules rule).w
  pub entrance_is : entrance_of (leads_of rules.rules) entrance ≡ entrance_by rules line end rule
  pub over : IsEntranceOver (leads_of rules.rules) entrance

-- it stands there, and the line ends after it, as it may
pub record ChangeEnds (rules : RuleSet) (line : Line) (end : ℕ) (may_end : Bool) (phase rule : ℕ) : Type 0 where
  pub stands : ChangeStands rules line end phase rule
  pub final_rule : 0 < rule → IsFinal (rule_of rules rule)
  pub all : end + length (rule_of rules rule).w ≡ length line.letters
  pub may : IsTrue may_end

-- after the phase with this state it ends the line or leads on to a place of the table
abbrev pub ChangeLives : SearchedLexicon → Line → Table → ℕ → Bool → ℕ → ℕ → ℕ → Type 0
ChangeLives searched line table end may_end phase rule number =
    ((at : ℕ) × (entrance : ProgramEntrance) × ChangeLeadsTo (rules_in searched) line end phase rule at entrance × IsIn table (place_with at entrance number))
    ⊎ (ChangeEnds (rules_in searched) line end may_end phase rule × IsTrue (is_accepting searched.machine (Some number)))

-- ---- keys at a place

-- keys of the phase that take so many letters and more
abbrev pub IsFromFront : ℕ → ℕ → Key → Type 0
IsFromFront phase taken key = (key.phase ≡ phase) × (taken ≤ key.taken)

-- every possible key that takes a letter, goes no further than the limit, and whose phase may begin fits the place
abbrev pub FitWithLetter : SiteAhead → Type 0
FitWithLetter here = (key : Key) → 0 < key.taken → here.site.place.now.at + key.taken ≤ here.ahead.limit
    → IsPossible here.site.lexicon.now here.site.line.now (numbered_of here.site.lexicon.now here.site.place.now) key
    → MayBegin (numbered_of here.site.lexicon.now here.site.place.now).entrance key.phase
    → FitsPlace here.site.lexicon.now here.site.line.now here.site.choices.now (numbered_of here.site.lexicon.now here.site.place.now) key

-- ---- walks

-- so many letters more lead on the walk to this node
pub record IsOnWalk (searched : SearchedLexicon) (line : Line) (from : Walk) (further node : ℕ) : Type 0 where
  pub near : from.end + further ≤ from.limit
  pub walked : walk searched.tries.trie.rows from.node (take further (drop from.end line.letters)) ≡ Some node

-- the walk is that on from the front
pub record IsWalkFrom (here : SiteAhead) (front : Front) (from : Walk) : Type 0 where
  pub node : from.node ≡ front.node
  pub end : from.end ≡ here.site.place.now.at + front.taken
  pub limit : from.limit ≡ here.ahead.limit
  pub may_end : from.may_end ≡ here.ahead.may_end
  pub alike : IsAlike here.site.lexicon.now.lexicon.rules from.phase front.phase

-- the memo keeps this
abbrev pub IsKept : WalkMemo → Walked → Type 0
IsKept walks walked = Contains walks.places.items (Some walked)

-- the memo keeps that the walk gave a state
abbrev pub IsKeptWith : WalkMemo → Walk → ℕ → Type 0
IsKeptWith walks from number = (states : StateSet) × IsKept walks (record { walk = from; states = states }) × HasState states number

-- the walk is that on from the front, which takes a letter, walks are shared, and these are the states that it gave
pub record IsWalkOf (here : SiteAhead) (front : Front) (shares : Bool) (states : StateSet) (walked : Walked) : Type 0 where
  pub shared : IsTrue shares
  pub some : 0 < front.taken
  pub from : IsWalkFrom here front walked.walk
  pub gave : walked.states ≡ states

-- what is kept was kept before, or is that the walk gave these states
abbrev pub KeepsWalked : Walk → StateSet → WalkMemo → WalkMemo → Type 0
KeepsWalked from states old new = (walked : Walked) → IsKept new walked → IsKept old walked ⊎ (walked ≡ record { walk = from; states = states })

-- each change that is met on the walk leads on only to places of the table, with each of the states
abbrev pub IsWalkSpread : SearchedLexicon → Line → Table → Walked → Type 0
IsWalkSpread searched line table walked = (further node rule at number : ℕ) (entrance : ProgramEntrance) → IsOnWalk searched line walked.walk further node
    → IsChangeAt searched node rule → ChangeLeadsTo (rules_in searched) line (walked.walk.end + further) walked.walk.phase rule at entrance
    → HasState walked.states number → IsIn table (place_with at entrance number)

-- all walks that are kept are so
abbrev pub AreWalksSpread : SearchedLexicon → Line → Table → WalkMemo → Type 0
AreWalksSpread searched line table walks = (walked : Walked) → IsKept walks walked → IsWalkSpread searched line table walked

-- all that a pass forward keeps is so
pub record IsSpreadRoom (searched : SearchedLexicon) (line : Line) (table : Table) (room : WalkRoom) : Type 0 where
  pub memo : AreSpread searched line table room.memo
  pub walks : AreWalksSpread searched line table room.walks

-- some change that is met on the walk lives after the phase with this state
abbrev pub LivesOnWalk : SearchedLexicon → Line → Table → Walk → ℕ → Type 0
LivesOnWalk searched line table from number = (further : ℕ) × (node : ℕ) × (rule : ℕ) × IsOnWalk searched line from further node × IsChangeAt searched node rule
    × ChangeLives searched line table (from.end + further) from.may_end from.phase rule number

-- the states are just those after the phase with which some change does
abbrev pub IsWalkLiving : SearchedLexicon → Line → Table → Walked → Type 0
IsWalkLiving searched line table walked = (number : ℕ) → HasState walked.states number ↔ LivesOnWalk searched line table walked.walk number

-- all walks that are kept are so
abbrev pub AreWalksLiving : SearchedLexicon → Line → Table → WalkMemo → Type 0
AreWalksLiving searched line table walks = (walked : Walked) → IsKept walks walked → IsWalkLiving searched line table walked

-- all that a pass back keeps is so
pub record IsLivingRoom (searched : SearchedLexicon) (line : Line) (table : Table) (room : WalkRoom) : Type 0 where
  pub memo : AreLiving searched line table room.memo
  pub walks : AreWalksLiving searched line table room.walks

-- each form whose work is kept ends after so many letters at least, and each walk that is kept begins after more
pub record IsLater (at : ℕ) (room : WalkRoom) : Type 0 where
  pub memo : EndFrom at room.memo
  pub walks : (walked : Walked) → IsKept room.walks walked → at < walked.walk.end

-- ---- fronts that are walked

-- the first so many fronts of the phase at the place, from that which takes no letter on, lead to these nodes
pub record AreWalkedFronts (here : SiteAhead) (phase : ℕ) (nodes : List ℕ) : Type 0 where
  pub each : (taken : ℕ) → taken < length nodes
      → IsFrontAt here.site.lexicon.now here.site.line.now (numbered_of here.site.lexicon.now here.site.place.now) phase taken (slice_index_or nodes taken 0)
  pub near : (taken : ℕ) → taken < length nodes → here.site.place.now.at + taken ≤ here.ahead.limit

-- the memo keeps that a walk on from the front, which takes a letter, gave all these states
abbrev pub IsKnownFrom : SiteAhead → Front → StateSet → WalkMemo → Type 0
IsKnownFrom here front states walks = (0 < front.taken)
    × ((from : Walk) × IsWalkFrom here front from × ((number : ℕ) → HasState states number → IsKeptWith walks from number))
