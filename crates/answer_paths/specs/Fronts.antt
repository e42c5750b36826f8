-- The ways by which a search comes to the answers of a line: its configurations are the first steps of an answer, and its
-- choices are the keys of the next step (own).
use Rattle.std.specs.Prelude.{◌≡◌, ℕ, ◌+◌, ◌*◌, ◌<◌, ◌⊎◌, List, [], ◌∷◌, ◌++◌, length}
use Rattle.text_definitions.specs.Lines.{Line}
use Rattle.lexicon_definitions.specs.Lexicons.{Lexicon, RuleSet, IsPhaseWord}
use Rattle.segmentation_definitions.specs.Derivations.{Step, phases_of}
use Rattle.segmentation_definitions.specs.Items.{Choice, covered_from, after_lead}
use Rattle.segmentation_definitions.specs.Answers.{IsAnswer}
use Rattle.segmentation_definitions.specs.Listings.{Key, keys_of, compare_keys}
use Rattle.segmentation_definitions.specs.Configurations.{Entrance, Start, Plain, Lead, entrance_after, IsFront, PassesTests}
use Rattle.listing_laws.specs.Ways.{Ways}

-- the letters that the rule before supplies to a form that is entered so
abbrev pub supplied : Entrance → List ℕ
supplied Start = []
supplied (Plain letter) = []
supplied (Lead v after) = v

-- a form can still follow the steps: a rule supplies letters to it, or letters of the line are left
abbrev pub HasRoom : RuleSet → ℕ → List Step → Type 0
HasRoom rules line_length front =
    (0 < length (supplied (entrance_after rules Start front))) ⊎ (covered_from rules 0 [] front < line_length)

-- as far as they tell, the steps may be the first ones of an answer that has more: they are lawful so far, each passes the
-- local tests, a form can still follow, and some list of phases goes on from theirs to a word of the grammar
pub record MayGoOn (lexicon : Lexicon) (line : Line) (choices : List Choice) (front : List Step) : Type 0 where
  pub lawful : IsFront lexicon front line.letters
  pub tests : PassesTests lexicon.rules line choices front
  pub room : HasRoom lexicon.rules (length line.letters) front
  pub accepted : (rest : List ℕ) × IsPhaseWord lexicon.rules (phases_of front ++ rest)

-- the longer list is the front with one step more, whose key in its place is this one
pub record AddsStep (rules : RuleSet) (front : List Step) (key : Key) (longer : List Step) : Type 0 where
  pub step : Step
  pub is : longer ≡ front ++ step ∷ []
  pub keys : keys_of rules longer ≡ keys_of rules front ++ key ∷ []

-- the ways to the answers: a key ends where the front with a step of this key is an answer, and leads to the front with
-- such a step where that may go on
abbrev pub ways_of : Lexicon → Line → List Choice → Ways (List Step) Key
ways_of lexicon line choices = record {
  compare = compare_keys;
  ends = λ front key. (steps : List Step) × AddsStep lexicon.rules front key steps × IsAnswer lexicon line choices steps;
  leads = λ front key next. AddsStep lexicon.rules front key next × MayGoOn lexicon line choices next;
}

-- a search from the empty front comes only to such a front: it is empty, or may go on
abbrev pub IsLedTo : Lexicon → Line → List Choice → List Step → Type 0
IsLedTo lexicon line choices front = (front ≡ []) ⊎ MayGoOn lexicon line choices front

-- the rank of a front: twice the letters that it covers, and one more where no rule supplies letters to the next form
abbrev pub rank : RuleSet → List Step → ℕ
rank rules front = 2 * covered_from rules 0 [] front + after_lead (length (supplied (entrance_after rules Start front)))
