-- What a text is read as over a lexicon: a chain, or its first fault (own). Faults are looked for in three rounds: first the
-- shape of the whole text; then what each step names, step by step; then how each step meets the next, step by step.
use Rattle.std.specs.Prelude.{◌≡◌, ◌≢◌, ℕ, ◌+◌, ◌⊎◌, ◌&&◌, Bool, if◌then◌else◌, Option, Some, None, option_map, Result, Ok, Err, List, [], ◌∷◌, map, position}
use Rattle.std.specs.List.{list_any}
use Rattle.std.specs.Str.{bytes_eq}
use Rattle.lexicon_definitions.specs.Rules as rules
use Rattle.lexicon_definitions.specs.Rules.{HasPhase}
use Rattle.lexicon_definitions.specs.Lexicons.{Lexicon, RuleSet, forms_of}
use Rattle.segmentation_definitions.specs.Derivations.{Step, rule_after, IsPlainSeam}
use Rattle.chain_definitions.specs.Chains.{FitsBefore}
use Rattle.chain_definitions.specs.ChainFaults.{Why, Fault, Shape, Phase, Form, Rule, Barred, Meet}
use Rattle.chain_definitions.specs.ChainTexts.{Triple, WrittenForm, WrittenStep, steps_of_text}

-- ---- what a step names

-- the number of the phase with this name
abbrev pub phase_with_name : RuleSet → List ℕ → Option ℕ
phase_with_name rules name = position (bytes_eq name) rules.names

-- the phase has a form with these letters
abbrev pub has_form : Lexicon → ℕ → List ℕ → Bool
has_form lexicon phase letters = list_any (bytes_eq letters) (map (λ form. form.letters) (forms_of lexicon phase))

-- the rule has these words
abbrev pub has_words : Triple → rules.Rule → Bool
has_words triple rule = bytes_eq triple.u rule.u && bytes_eq triple.v rule.v && bytes_eq triple.w rule.w

-- the number of the rule with these words, counted from 1; 0 for no change
abbrev pub rule_with_words : RuleSet → Option Triple → Option ℕ
rule_with_words rules None = Some 0
rule_with_words rules (Some triple) = option_map (λ place. place + 1) (position (has_words triple) rules.rules)

-- the step of this phase and form with the rule that was found
abbrev pub step_with_rule : ℕ → List ℕ → Option ℕ → Result Step Why
step_with_rule phase letters None = Err Rule
step_with_rule phase letters (Some number) = Ok (record { phase = phase; form = letters; rule = number })

-- the step with the phase that was found
abbrev pub step_with_phase : Lexicon → WrittenStep → Option ℕ → Result Step Why
step_with_phase lexicon step None = Err Phase
step_with_phase lexicon step (Some phase) =
    if has_form lexicon phase step.form.letters
    then step_with_rule phase step.form.letters (rule_with_words lexicon.rules step.change) else Err Form

-- the step that a written one names, or the first reason why it names none: its phase, its form, its rule
unfoldable pub step_named : Lexicon → WrittenStep → Result Step Why
step_named lexicon step = step_with_phase lexicon step (phase_with_name lexicon.rules step.form.name)

-- the step and those after it, or the first fault; the step has this number
abbrev pub step_then : ℕ → Result Step Why → Result (List Step) Fault → Result (List Step) Fault
step_then number (Err why) steps = Err (record { step = number; why = why })
step_then number (Ok step) (Err fault) = Err fault
step_then number (Ok step) (Ok steps) = Ok (step ∷ steps)

-- the steps that written ones name, the first of which has this number, or the first fault
abbrev pub steps_named : Lexicon → ℕ → List WrittenStep → Result (List Step) Fault
steps_named lexicon number [] = Ok []
steps_named lexicon number (step ∷ steps) = step_then number (step_named lexicon step) (steps_named lexicon (number + 1) steps)

-- ---- how a step meets the next

-- the rule after a step may follow its phase, and may precede that of the next step, which is the first of these
abbrev pub AllowsPhases : RuleSet → Step → List Step → Type 0
AllowsPhases rules step [] = step.rule ≢ 0 → HasPhase (rule_after rules step).before step.phase
AllowsPhases rules step (next ∷ steps) =
    step.rule ≢ 0 → HasPhase (rule_after rules step).before step.phase × HasPhase (rule_after rules step).after next.phase

-- the step fits before the next, and where there is no change between them, their two letters are a plain pair
abbrev pub MeetsNext : RuleSet → Step → List Step → Type 0
MeetsNext rules step [] = FitsBefore rules step []
MeetsNext rules step (next ∷ steps) =
    FitsBefore rules step (next ∷ steps) × (step.rule ≡ 0 → IsPlainSeam rules step.form next.form)

-- nothing is wrong where a step meets the next, for each of the steps
abbrev pub AreMeeting : RuleSet → List Step → Type 0
AreMeeting rules [] = Unit {0}
AreMeeting rules (step ∷ steps) = AllowsPhases rules step steps × MeetsNext rules step steps × AreMeeting rules steps

-- the reason is the first that a step has, where it meets the next
abbrev pub IsWhyNotMeeting : RuleSet → Step → List Step → Why → Type 0
IsWhyNotMeeting rules step steps why =
    ((why ≡ Barred) × (AllowsPhases rules step steps → ⊥))
    ⊎ ((why ≡ Meet) × AllowsPhases rules step steps × (MeetsNext rules step steps → ⊥))

-- the fault is the first along the steps, where each meets the next; the first of them has this number
abbrev pub IsFirstNotMeeting : RuleSet → ℕ → List Step → Fault → Type 0
IsFirstNotMeeting rules number [] fault = ⊥
IsFirstNotMeeting rules number (step ∷ steps) fault =
    ((fault.step ≡ number) × IsWhyNotMeeting rules step steps fault.why)
    ⊎ (AllowsPhases rules step steps × MeetsNext rules step steps × IsFirstNotMeeting rules (number + 1) steps fault)

-- ---- the three rounds

-- after the first two rounds: the fault that they found, or the steps where all meet, or the first fault where one does not
abbrev pub IsReadAfterNames : RuleSet → Result (List Step) Fault → Result (List Step) Fault → Type 0
IsReadAfterNames rules (Err fault) result = result ≡ Err fault
IsReadAfterNames rules (Ok steps) (Ok read) = (read ≡ steps) × AreMeeting rules steps
IsReadAfterNames rules (Ok steps) (Err fault) = IsFirstNotMeeting rules 1 steps fault

-- after the first round: a text without the shape is at fault as a whole
abbrev pub IsReadAfterShape : Lexicon → Option (List WrittenStep) → Result (List Step) Fault → Type 0
IsReadAfterShape lexicon None result = result ≡ Err (record { step = 0; why = Shape })
IsReadAfterShape lexicon (Some steps) result = IsReadAfterNames lexicon.rules (steps_named lexicon 1 steps) result

-- the text is read as this chain, or has this first fault
abbrev pub IsChainRead : Lexicon → List ℕ → Result (List Step) Fault → Type 0
IsChainRead lexicon text result = IsReadAfterShape lexicon (steps_of_text text) result
