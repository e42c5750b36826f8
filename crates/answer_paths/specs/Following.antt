-- Which keys lead on or end after a front, told by where the front ends alone (own).
use Rattle.std.specs.Prelude.{◌≡◌, ℕ, ◌+◌, ◌<◌, ◌≤◌, Bool, true, false, List, [], ◌∷◌, ◌++◌, length, take, drop, slice_index, All}
use Rattle.text_definitions.specs.Lines.{Line}
use Rattle.lexicon_definitions.specs.Rules.{IsInner, IsFinal, HasPhase}
use Rattle.lexicon_definitions.specs.Lexicons.{Lexicon, RuleSet, rule_of, IsForm, IsPlain, IsPhaseWord}
use Rattle.segmentation_definitions.specs.Derivations.{Step}
use Rattle.segmentation_definitions.specs.Items.{Placed, Choice}
use Rattle.segmentation_definitions.specs.Listings.{Key}
use Rattle.segmentation_definitions.specs.LocalTests.{HasNoBlankInside, Allows}
use Rattle.segmentation_definitions.specs.Configurations.{Entrance, Start, Plain, Lead}
use Rattle.answer_paths.specs.Fronts.{supplied}

-- the step with this key, at a place of the line and entered so: its form is what the rule before supplies, the letters
-- that it takes, and the u of its rule
abbrev pub step_at : RuleSet → Line → ℕ → Entrance → Key → Step
step_at rules line at entrance key = record {
  phase = key.phase;
  form = supplied entrance ++ take key.taken (drop at line.letters) ++ (rule_of rules key.rule).u;
  rule = key.rule;
}

-- this step in its place
abbrev pub placed_at : RuleSet → Line → ℕ → Entrance → Key → Placed
placed_at rules line at entrance key =
    record { step = step_at rules line at entrance key; at = at; lead = length (supplied entrance); taken = key.taken }

-- nothing stands before the form
abbrev pub is_start : Entrance → Bool
is_start Start = true
is_start (Plain letter) = false
is_start (Lead v after) = false

-- the form of the phase may be entered so: after a letter with which its first letter is a plain pair, or after a rule that
-- may precede its phase
abbrev pub MayEnter : RuleSet → Entrance → Step → Type 0
MayEnter rules Start step = Unit {0}
MayEnter rules (Plain letter) step = IsPlain rules letter (slice_index step.form 0)
MayEnter rules (Lead v after) step = HasPhase after step.phase

-- the step with this key may stand at the place, whether another follows it or not
pub record MayStand (lexicon : Lexicon) (line : Line) (choices : List Choice) (at : ℕ) (entrance : Entrance) (key : Key) : Type 0 where
  pub number : key.rule ≤ length lexicon.rules.rules
  pub within : at + key.taken ≤ length line.letters
  pub form : IsForm lexicon key.phase (step_at lexicon.rules line at entrance key).form
  pub follows : 0 < key.rule → HasPhase (rule_of lexicon.rules key.rule).before key.phase
  pub written : take (length (rule_of lexicon.rules key.rule).w) (drop (at + key.taken) line.letters) ≡ (rule_of lexicon.rules key.rule).w
  pub enters : MayEnter lexicon.rules entrance (step_at lexicon.rules line at entrance key)
  pub blanks : HasNoBlankInside line.blanks (placed_at lexicon.rules line at entrance key)
  pub allowed : Allows lexicon.rules (length line.letters) choices (is_start entrance) (placed_at lexicon.rules line at entrance key)

-- it may stand there, and another form can follow it: there is no change before the end of the line, or an inner rule, and
-- some list of phases goes on from those so far and its own
pub record MayFollow (lexicon : Lexicon) (line : Line) (choices : List Choice) (at : ℕ) (entrance : Entrance) (phases : List ℕ) (key : Key) : Type 0 where
  pub stands : MayStand lexicon line choices at entrance key
  pub inner : 0 < key.rule → IsInner (rule_of lexicon.rules key.rule)
  pub left : key.rule ≡ 0 → at + key.taken < length line.letters
  pub accepted : (rest : List ℕ) × IsPhaseWord lexicon.rules (phases ++ key.phase ∷ rest)

-- it may stand there, and the line ends after it: unchanged, or by a final rule, with no blank after the step begins, and
-- the phases so far with its own are a word of the grammar
pub record MayEnd (lexicon : Lexicon) (line : Line) (choices : List Choice) (at : ℕ) (entrance : Entrance) (phases : List ℕ) (key : Key) : Type 0 where
  pub stands : MayStand lexicon line choices at entrance key
  pub final_rule : 0 < key.rule → IsFinal (rule_of lexicon.rules key.rule)
  pub all : at + key.taken + length (rule_of lexicon.rules key.rule).w ≡ length line.letters
  pub blanks_before : All (λ blank. blank ≤ at) line.blanks
  pub accepted : IsPhaseWord lexicon.rules (phases ++ key.phase ∷ [])
