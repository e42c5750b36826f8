-- What the reader keeps of the lines so far, and what it answers to a line.
use Rattle.std.specs.Prelude.{◌≡◌, ◌≢◌, ℕ, ◌<◌, ◌≤◌, ◌⊎◌, Option, Result, Ok, Err, List, [], length, All, AllPairs, IfSome, IsSome}
use Rattle.lexicon_definitions.specs.declared.limits.TheConstants.{MOST_PHASES}
use Rattle.lexicon_definitions.specs.GrammarTexts.{grammar_of}
use Rattle.lexicon_definitions.specs.GrammarFaults.{Fault, IsFirstFault, IsGrammarTextWithinLimits}
use Rattle.lexicon_definitions.specs.Lexicons.{Form, IsPhaseName}
use Rattle.phase_automaton.specs.Automata.{StateMachine, Recognizes}
use Rattle.lexicon_text_definitions.specs.FileFaults as faults
use Rattle.lexicon_text_definitions.specs.FileLines as lines
use Rattle.lexicon_text_definitions.specs.FileContents.{Told}
use Rattle.lexicon_text_definitions.specs.FileSteps.{Taken}
use Rattle.form_file.specs.declared.take_error.TakeError.{TakeError}
use Rattle.form_file.specs.declared.take_error.TakeError.TheVariants.{Why, Memory}
use Rattle.form_file.specs.Faults.{why_of}

-- what is kept besides, once the grammar was told: its automaton, and a list for each phase
pub record IsBody (names : List (List ℕ)) (grammar : List ℕ) (automaton : Option StateMachine) (lists : List (List Form)) : Type 0 where
  pub some : 0 < length names
  pub as_many : length lists ≡ length names
  pub has_automaton : IsSome automaton
  pub recognizes : IfSome automaton (λ machine. Recognizes machine (grammar_of names grammar))
  pub phases : IfSome automaton (λ machine. machine.phases ≡ length names)

-- what is kept after a line of each kind
abbrev pub IsStage : lines.Kind → Told → Option StateMachine → List (List Form) → Type 0
IsStage lines.Opening told automaton lists = lists ≡ []
IsStage lines.Head told automaton lists = lists ≡ []
IsStage lines.Phase told automaton lists = (0 < length told.names) × (lists ≡ [])
IsStage kind told automaton lists = IsBody told.names told.grammar automaton lists

-- after a line of this kind the grammar was told
abbrev pub HasBody : lines.Kind → Type 0
HasBody lines.Opening = ⊥
HasBody lines.Head = ⊥
HasBody lines.Phase = ⊥
HasBody kind = Unit {0}

pub record IsKept (told : Told) (automaton : Option StateMachine) (lists : List (List Form)) : Type 0 where
  pub few : length told.names ≤ MOST_PHASES
  pub named : All IsPhaseName told.names
  pub apart : AllPairs (λ left right. left ≢ right) told.names
  pub stage : IsStage told.last told automaton lists

-- the answer to a line but a grammar's that is taken so: what is told after it, or why it is refused
abbrev pub IsAnswer : {A : Type 0} → Taken → Result A TakeError → Told → Type 0
IsAnswer taken (Ok done) after = taken ≡ Ok after
IsAnswer taken (Err (Why why)) after = taken ≡ Err (why_of why)
IsAnswer taken (Err Memory) after = Unit {0}

-- the text of a grammar line that is taken has a fault, which is the reason
pub record IsGrammarFault (taken : Taken) (why : faults.Why) : Type 0 where
  pub told : Told
  pub taken_so : taken ≡ Ok told
  pub grammar_line : told.last ≡ lines.Grammar
  pub fault : Fault
  pub first : IsFirstFault told.names told.grammar fault
  pub is : why ≡ faults.Grammar fault

-- the answer to any line: after a grammar line its text is one within the limits
abbrev pub IsLineAnswer : {A : Type 0} → Taken → Result A TakeError → Told → Type 0
IsLineAnswer taken (Ok done) after = (taken ≡ Ok after) × (after.last ≡ lines.Grammar → IsGrammarTextWithinLimits after.names after.grammar)
IsLineAnswer taken (Err (Why why)) after = (taken ≡ Err (why_of why)) ⊎ IsGrammarFault taken (why_of why)
IsLineAnswer taken (Err Memory) after = Unit {0}

-- the only reason is that a grammar's text over these names has this first fault; memory may be wanting
abbrev pub IsTextFault : TakeError → List (List ℕ) → List ℕ → Type 0
IsTextFault (Why why) names text = (fault : Fault) × IsFirstFault names text fault × (why_of why ≡ faults.Grammar fault)
IsTextFault Memory names text = Unit {0}
