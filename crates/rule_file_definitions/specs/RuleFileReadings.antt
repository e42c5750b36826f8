-- What a rule file tells: its rule set, or its first fault (own).
use Rattle.std.specs.Prelude.{◌≡◌, ℕ, ◌⊎◌, Result, Ok, Err, List}
use Rattle.lexicon_definitions.specs.GrammarFaults as grammars
use Rattle.lexicon_definitions.specs.GrammarFaults.{IsFirstFault, IsGrammarTextWithinLimits}
use Rattle.lexicon_definitions.specs.Lexicons.{RuleSet}
use Rattle.rule_file_definitions.specs.RuleFileFaults.{Fault, Grammar}
use Rattle.rule_file_definitions.specs.RuleTexts.{RuleTexts, read_texts}
use Rattle.rule_file_definitions.specs.SoundClasses.{read_phases, read_classes}
use Rattle.rule_file_definitions.specs.PlainEntries.{read_plain}
use Rattle.rule_file_definitions.specs.RuleEntries.{read_entries}

-- the rule set, or the first fault
abbrev pub FileResult : Type 0
FileResult = Result RuleSet Fault

-- what follows where there was no fault
abbrev pub and_then : {A B : Type 0} → Result A Fault → (A → Result B Fault) → Result B Fault
and_then (Ok value) following = following value
and_then (Err fault) following = Err fault

-- the rule set of the texts, or the first fault of their phases, classes, plain pairs and rules, in this order
unfoldable pub read_set : RuleTexts → FileResult
read_set texts =
    and_then (read_phases texts.phases) (λ names.
    and_then (read_classes texts.classes) (λ classes.
    and_then (read_plain classes texts.plain) (λ plain.
    and_then (read_entries names classes texts.rules) (λ rules.
    Ok (record { names = names; grammar = texts.grammar; plain = plain; rules = rules })))))

-- the rule set of a file, or its first fault but for the grammar's
unfoldable pub read_before_grammar : List ℕ → FileResult
read_before_grammar bytes = and_then (read_texts bytes) read_set

-- The result, with what the grammar's text decides. That is a relation since a text is at fault by a number of states, which
-- is not found by looking at its bytes.
abbrev pub IsDecided : FileResult → FileResult → Type 0
IsDecided (Err fault) result = result ≡ Err fault
IsDecided (Ok set) result =
    (IsGrammarTextWithinLimits set.names set.grammar × (result ≡ Ok set))
    ⊎ ((fault : grammars.Fault) × IsFirstFault set.names set.grammar fault × (result ≡ Err (Grammar fault)))

-- the bytes of a rule file are read as this rule set, or have this first fault
abbrev pub IsReadAs : List ℕ → FileResult → Type 0
IsReadAs bytes result = IsDecided (read_before_grammar bytes) result
