-- What is read is a rule set within the limits: its parts are sound, and its grammar's text has no fault.
use Rattle.std.proofs.Common.{◌≡◌, ℕ, Result, Ok, Err, inl, inr, List, refl, sym, subst}
use Rattle.toml.specs.Data.{Members}
use Rattle.lexicon_definitions.specs.Lexicons.{RuleSet, IsRuleSet}
use Rattle.lexicon_definitions.specs.Limits.{IsRuleSetWithinLimits}
use Rattle.lexicon_definitions.specs.GrammarFaults.{IsGrammarTextWithinLimits}
use Rattle.rule_file_definitions.specs.RuleFileFaults.{Fault}
use Rattle.rule_file_definitions.specs.RuleTexts.{RuleTexts, read_texts}
use Rattle.rule_file_definitions.specs.SoundClasses.{read_phases, read_classes}
use Rattle.rule_file_definitions.specs.PlainEntries.{read_plain}
use Rattle.rule_file_definitions.specs.RuleEntries.{read_entries}
use Rattle.rule_file_definitions.specs.RuleFileReadings.{FileResult, and_then, read_set, read_before_grammar, IsDecided, IsReadAs}
use Rattle.rule_file_definitions.proofs.SoundEntries.{named, paired}
use Rattle.rule_file_definitions.proofs.SoundRules.{ruled}
use Rattle.lexicon_definitions.proofs.GrammarFaultCases.{grammar_over}

-- all that holds of a rule set that is read
pub record IsFileSet (set : RuleSet) : Type 0 where
  pub set_itself : IsRuleSet set
  pub limits : IsRuleSetWithinLimits set

-- the parts of a rule set, each as it is read
file_set : (entries : List (List ℕ)) (classes : Members) (pairs rules : List (List ℕ)) (set : RuleSet) → read_phases entries ≡ Ok set.names
    → read_plain classes pairs ≡ Ok set.plain → read_entries set.names classes rules ≡ Ok set.rules
    → IsGrammarTextWithinLimits set.names set.grammar → IsFileSet set
file_set entries classes pairs rules set a b c g =
    let phases = named entries set.names a in
    let plain = paired classes pairs set.plain b in
    let inner = ruled set.names phases.1 classes rules set.rules c in
    record {
      set_itself = record {
        names_are_names = phases.0.each;
        distinct_names = phases.0.apart;
        grammar_is_text = grammar_over set.names set.grammar g;
        letters = plain.letters;
        rising = plain.rising;
        each = λ k d l. (inner.each k d l).rule_itself;
        distinct = inner.apart;
      };
      limits = record {
        some_phase = phases.1;
        phases = phases.0.few;
        grammar = g;
        rules = inner.few;
        short_rules = λ k d l. (inner.each k d l).short;
        leads = inner.leads;
      };
    }

-- ---- from the whole file

-- what was read where nothing was refused
went_on : {A B : Type 0} (read : Result A Fault) (following : A → Result B Fault) (out : B) → and_then read following ≡ Ok out
    → (value : A) × (read ≡ Ok value) × (following value ≡ Ok out)
went_on (Ok value) following out e = (value, refl, e)
went_on (Err fault) following out e = absurd (cc)

set_read : (texts : RuleTexts) (set : RuleSet) → read_set texts ≡ Ok set → IsGrammarTextWithinLimits set.names set.grammar → IsFileSet set
unfolding read_set
set_read texts set e g =
    let (names, a, e1) = went_on (read_phases texts.phases) _ set e in
    let (classes, b, e2) = went_on (read_classes texts.classes) _ set e1 in
    let (plain, c, e3) = went_on (read_plain classes texts.plain) _ set e2 in
    let (rules, d, e4) = went_on (read_entries names classes texts.rules) _ set e3 in
    let made : record { names = names; grammar = texts.grammar; plain = plain; rules = rules } ≡ set = cc in
    subst IsFileSet made
    (file_set texts.phases classes texts.plain texts.rules (record { names = names; grammar = texts.grammar; plain = plain; rules = rules }) a c d
    (subst (λ (s : RuleSet). IsGrammarTextWithinLimits s.names s.grammar) (sym made) g))

before_grammar : (bytes : List ℕ) (set : RuleSet) → read_before_grammar bytes ≡ Ok set → IsGrammarTextWithinLimits set.names set.grammar → IsFileSet set
unfolding read_before_grammar
before_grammar bytes set e g =
    let (texts, a, e1) = went_on (read_texts bytes) read_set set e in
    set_read texts set e1 g

decided : (before : FileResult) (set : RuleSet) → ((made : RuleSet) → before ≡ Ok made → IsGrammarTextWithinLimits made.names made.grammar → IsFileSet made)
    → IsDecided before (Ok set) → IsFileSet set
decided (Err fault) set h e = absurd (cc)
decided (Ok made) set h (inl (g, e)) = let same : made ≡ set = cc in subst IsFileSet same (h made refl g)
decided (Ok made) set h (inr (fault, first, e)) = absurd (cc)

-- what is read of the texts
pub texts_sound : (texts : RuleTexts) (set : RuleSet) → IsDecided (read_set texts) (Ok set) → IsFileSet set
texts_sound texts set h = decided (read_set texts) set (set_read texts) h

pub read_sound : (bytes : List ℕ) (set : RuleSet) → IsReadAs bytes (Ok set) → IsFileSet set
read_sound bytes set h = decided (read_before_grammar bytes) set (before_grammar bytes) h
