-- What a session knows of the line that is read, as the definitions tell it (own).
use Rattle.std.specs.Prelude.{◌≡◌, ℕ, ◌<◌, ◌≤◌, ◌↔◌, Option, Some, None, List, [], ◌∷◌, ◌++◌, length, All}
use Rattle.std.specs.Option.{option_map}
use Rattle.std.specs.Global.{Box}
use Rattle.text_definitions.specs.Lines.{IsLine}
use Rattle.lexicon_definitions.specs.Lexicons.{RuleSet}
use Rattle.segmentation_definitions.specs.declared.limits.TheConstants.{MOST_CHOICES, LAST_ANSWER_NUMBER}
use Rattle.segmentation_definitions.specs.Derivations.{Step}
use Rattle.segmentation_definitions.specs.Items.{Item}
use Rattle.segmentation_definitions.specs.Answers.{IsAnswer}
use Rattle.segmentation_definitions.specs.Listings.{Cursor, BeforeFirst, AtAnswer, IsAbove, IsSummary}
use Rattle.bookmark_definitions.specs.Bookmarks.{IsItemWithinBounds}
use Rattle.session_definitions.specs.States.{State, opening}
use Rattle.session_definitions.specs.Replies.{Reply, Open}
use Rattle.derivation.specs.Steps.{steps_of, StandIn}
use Rattle.derivation.specs.declared.step.Step.{Step as ProgramStep}
use Rattle.annotated_trie.specs.Searched.{SearchedLexicon}
use Rattle.search_frames.specs.Guided.{IsGuideOf, IsExactOf}
use Rattle.segmenter.specs.Searches.{IsStackOf, cursor_of}
use Rattle.summary_chart.specs.Charts.{CoversPlace, says_of}
use Rattle.summary_chart.specs.PlaceWays.{IsChartOf}
use Rattle.reader_session.specs.declared.reading.Reading.{Reading}

-- the cursor of the answer with these steps; the one before the first answer where there are no steps
abbrev pub cursor_at_last : RuleSet → List ℕ → List ProgramStep → Cursor
cursor_at_last rules letters [] = BeforeFirst
cursor_at_last rules letters (step ∷ steps) = AtAnswer (steps_of rules letters (step ∷ steps))

-- where the listing of the line was left, by the last answer printed
abbrev pub cursor_in : RuleSet → Reading → Cursor
cursor_in rules reading = cursor_at_last rules reading.line.letters reading.last.items

-- the state of a session that reads this line
abbrev pub state_with : RuleSet → Reading → State
state_with rules reading =
    record {
      line = Some reading.line;
      choices = reading.choices;
      printed = reading.printed;
      cursor = cursor_in rules reading;
      summary = option_map (λ items. items.items) reading.summary;
    }

-- the state of a session that reads this, or no line yet
abbrev pub state_of : RuleSet → Option (Box Reading) → State
state_of rules None = opening
state_of rules (Some reading) = state_with rules reading.value

-- the steps are those of an answer
pub record AreAnswerSteps (searched : SearchedLexicon) (reading : Reading) : Type 0 where
  pub stand_in : StandIn searched.lexicon.rules reading.line.letters reading.last.items
  pub answer : IsAnswer searched.lexicon reading.line reading.choices (steps_of searched.lexicon.rules reading.line.letters reading.last.items)

-- there are not too many choices; the chart is that of the line and its choices; the search stands where the answers still to come are those after the last one
-- printed; and what is kept is what the session may say of them
pub record IsReading (searched : SearchedLexicon) (reading : Reading) : Type 0 where
  pub line : IsLine reading.line
  pub few : length reading.choices ≤ MOST_CHOICES
  pub chart : IsChartOf searched reading.line reading.choices reading.chart
  pub guide : IsGuideOf searched reading.line reading.choices (CoversPlace reading.chart.table) (says_of reading.chart.table)
  pub exact : IsExactOf searched reading.line reading.choices (says_of reading.chart.table)
  pub stack : IsStackOf searched reading.line reading.choices reading.resumption
  pub above : (answer : List Step) → IsAnswer searched.lexicon reading.line reading.choices answer
      → IsAbove searched.lexicon.rules (cursor_of searched reading.line reading.resumption) answer
      ↔ IsAbove searched.lexicon.rules (cursor_in searched.lexicon.rules reading) answer
  pub last : 0 < length reading.last.items → AreAnswerSteps searched reading
  pub some_printed : (0 < length reading.last.items) ↔ (0 < reading.printed)
  pub printed : reading.printed ≤ LAST_ANSWER_NUMBER
  pub items : All (λ choice. IsItemWithinBounds choice.item) reading.choices
  pub summary : (items : List Item) → option_map (λ items. items.items) reading.summary ≡ Some items
      → IsSummary searched.lexicon reading.line reading.choices items

-- the same, where a line is read
abbrev pub IsReadingOver : SearchedLexicon → Option (Box Reading) → Type 0
IsReadingOver searched None = Unit {0}
IsReadingOver searched (Some reading) = IsReading searched reading.value

-- such a reply was appended, after which the session goes on in this state, and this holds of what is read
pub record GoesOnIn (IsIt : Reply → Type 0) (before now : List ℕ) (IsRead : Type 0) (state : State) : Type 0 where
  pub reply : Reply
  pub is_it : IsIt reply
  pub bytes : now ≡ before ++ reply.bytes
  pub is_reading : IsRead
  pub stands : reply.after ≡ Open state

-- such a reply was appended, after which the session goes on and reads this, or no line yet
abbrev pub GoesOn : SearchedLexicon → (Reply → Type 0) → List ℕ → List ℕ → Option (Box Reading) → Type 0
GoesOn searched IsIt before now reading =
    GoesOnIn IsIt before now (IsReadingOver searched reading) (state_of searched.lexicon.rules reading)

-- the same of a line that is read
abbrev pub GoesOnWith : SearchedLexicon → (Reply → Type 0) → List ℕ → List ℕ → Reading → Type 0
GoesOnWith searched IsIt before now reading =
    GoesOnIn IsIt before now (IsReading searched reading) (state_with searched.lexicon.rules reading)
