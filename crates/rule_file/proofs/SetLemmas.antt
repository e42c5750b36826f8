-- The rule set of the texts, part by part, and what its grammar's text decides.
use Rattle.std.proofs.Common.{◌≡◌, ℕ, inl, inr, Some, None, Result, Ok, Err, List, String, Global, refl, sym, ◌∙◌, ap, subst}
use Rattle.std.specs.String.{string_bytes}
use Rattle.toml.specs.Data.{Members}
use Rattle.lexicon_definitions.specs.Rules.{Rule}
use Rattle.lexicon_definitions.specs.Lexicons.{RuleSet}
use Rattle.lexicon_definitions.specs.GrammarFaults.{IsGrammarTextWithinLimits}
use Rattle.rule_file_definitions.specs.RuleFileFaults.{Fault, Toml, Shape}
use Rattle.rule_file_definitions.specs.RuleTexts.{RuleTexts, document_of, texts_of_document, texts_or_toml, texts_or_shape, read_texts}
use Rattle.rule_file_definitions.specs.SoundClasses.{read_phases, read_classes}
use Rattle.rule_file_definitions.specs.PlainEntries.{read_plain}
use Rattle.rule_file_definitions.specs.RuleEntries.{read_entries}
use Rattle.rule_file_definitions.specs.RuleFileReadings.{FileResult, and_then, read_set, read_before_grammar, IsDecided}
use Rattle.rule_file.specs.Faults.{IsGrammarFault}
use Rattle.rule_file.specs.Held.{texts_of, texts_with_classes, set_of}
use Rattle.rule_file.specs.declared.document.Texts.{Texts}

module _ (texts : RuleTexts) where
  abbrev set_read_of : List (List ℕ) → List (ℕ × ℕ) → List Rule → RuleSet
  set_read_of names plain rules = record { names = names; grammar = texts.grammar; plain = plain; rules = rules }

  abbrev after_plain : List (List ℕ) → Members → List (ℕ × ℕ) → FileResult
  after_plain names classes plain = and_then (read_entries names classes texts.rules) (λ rules. Ok (set_read_of names plain rules))

  abbrev after_classes : List (List ℕ) → Members → FileResult
  after_classes names classes = and_then (read_plain classes texts.plain) (λ plain. after_plain names classes plain)

  abbrev after_phases : List (List ℕ) → FileResult
  after_phases names = and_then (read_classes texts.classes) (λ classes. after_classes names classes)

  by_phases : (read : Result (List (List ℕ)) Fault) → read_phases texts.phases ≡ read → read_set texts ≡ and_then read after_phases
  unfolding read_set
  by_phases read e = ap (λ r. and_then r after_phases) e

  pub phases_refused : (fault : Fault) → read_phases texts.phases ≡ Err fault → read_set texts ≡ Err fault
  phases_refused fault e = by_phases (Err fault) e

  module _ (names : List (List ℕ)) (a : read_phases texts.phases ≡ Ok names) where
    by_classes : (read : Result Members Fault) → read_classes texts.classes ≡ read → read_set texts ≡ and_then read (after_classes names)
    by_classes read e = by_phases (Ok names) a ∙ ap (λ r. and_then r (after_classes names)) e

    pub classes_refused : (fault : Fault) → read_classes texts.classes ≡ Err fault → read_set texts ≡ Err fault
    classes_refused fault e = by_classes (Err fault) e

    module _ (classes : Members) (b : read_classes texts.classes ≡ Ok classes) where
      by_plain : (read : Result (List (ℕ × ℕ)) Fault) → read_plain classes texts.plain ≡ read → read_set texts ≡ and_then read (after_plain names classes)
      by_plain read e = by_classes (Ok classes) b ∙ ap (λ r. and_then r (after_plain names classes)) e

      pub plain_refused : (fault : Fault) → read_plain classes texts.plain ≡ Err fault → read_set texts ≡ Err fault
      plain_refused fault e = by_plain (Err fault) e

      module _ (plain : List (ℕ × ℕ)) (c : read_plain classes texts.plain ≡ Ok plain) where
        by_rules : (read : Result (List Rule) Fault) → read_entries names classes texts.rules ≡ read
            → read_set texts ≡ and_then read (λ rules. Ok (set_read_of names plain rules))
        by_rules read e = by_plain (Ok plain) c ∙ ap (λ r. and_then r (λ rules. Ok (set_read_of names plain rules))) e

        pub rules_refused : (fault : Fault) → read_entries names classes texts.rules ≡ Err fault → read_set texts ≡ Err fault
        rules_refused fault e = by_rules (Err fault) e

        pub set_read : (rules : List Rule) → read_entries names classes texts.rules ≡ Ok rules → read_set texts ≡ Ok (record { names = names; grammar = texts.grammar; plain = plain; rules = rules })
        set_read rules e = by_rules (Ok rules) e

-- ---- the texts and the set that slices hold

pub same_texts : (texts : Texts) (classes : Members) (phases plain rules : List (String Global)) (grammar : List ℕ) → phases ≡ texts.phases.items
    → plain ≡ texts.plain.items → rules ≡ texts.rules.items → grammar ≡ string_bytes texts.grammar
    → texts_of phases grammar plain rules classes ≡ texts_with_classes texts classes
same_texts texts classes phases plain rules grammar a b c d = λ i. texts_of (a i) (d i) (b i) (c i) classes

-- the set of the parts, with a copy of the grammar's text
pub set_made : (texts : Texts) (classes : Members) (phases plain rules : List (String Global)) (grammar copy : List ℕ) (pairs : List (ℕ × ℕ)) (made : List Rule)
    → phases ≡ texts.phases.items → plain ≡ texts.plain.items → rules ≡ texts.rules.items → grammar ≡ string_bytes texts.grammar → copy ≡ string_bytes texts.grammar
    → IsDecided (read_set (texts_of phases grammar plain rules classes)) (Ok (set_of phases grammar pairs made))
    → IsDecided (read_set (texts_with_classes texts classes)) (Ok (set_of texts.phases.items copy pairs made))
set_made texts classes phases plain rules grammar copy pairs made a b c d e h =
    let same = same_texts texts classes phases plain rules grammar a b c d in
    let sets : set_of phases grammar pairs made ≡ set_of texts.phases.items copy pairs made = λ i. set_of (a i) ((d ∙ sym e) i) pairs made in
    subst (λ (set : RuleSet). IsDecided (read_set (texts_with_classes texts classes)) (Ok set)) sets
    (subst (λ (all : RuleTexts). IsDecided (read_set all) (Ok (set_of phases grammar pairs made))) same h)

-- ---- what is decided

pub decided_fault : (before : FileResult) (fault : Fault) → before ≡ Err fault → IsDecided before (Err fault)
decided_fault before fault e = subst (λ b. IsDecided b (Err fault)) (sym e) refl

pub decided_set : (before : FileResult) (set made : RuleSet) → before ≡ Ok set → made ≡ set → IsGrammarTextWithinLimits set.names set.grammar → IsDecided before (Ok made)
decided_set before set made e is g = subst (λ b. IsDecided b (Ok made)) (sym e) (inl (g, ap Ok is))

pub decided_grammar : (before : FileResult) (set : RuleSet) (fault : Fault) → before ≡ Ok set → IsGrammarFault set.names set.grammar fault → IsDecided before (Err fault)
decided_grammar before set fault e (first, h, is) = subst (λ b. IsDecided b (Err fault)) (sym e) (inr (first, h, ap Err is))

-- ---- the whole file

module _ (bytes : List ℕ) where
  pub not_document : document_of bytes ≡ None → read_before_grammar bytes ≡ Err Toml
  unfolding read_before_grammar read_texts
  not_document e = ap (λ root. and_then (texts_or_toml root) read_set) e

  by_document : (root : Members) → document_of bytes ≡ Some root → read_before_grammar bytes ≡ and_then (texts_or_shape (texts_of_document root)) read_set
  unfolding read_before_grammar read_texts
  by_document root e = ap (λ root. and_then (texts_or_toml root) read_set) e

  pub not_texts : (root : Members) → document_of bytes ≡ Some root → texts_of_document root ≡ None → read_before_grammar bytes ≡ Err Shape
  not_texts root e f = by_document root e ∙ ap (λ texts. and_then (texts_or_shape texts) read_set) f

  pub texts_read : (root : Members) (texts : RuleTexts) → document_of bytes ≡ Some root → texts_of_document root ≡ Some texts → read_before_grammar bytes ≡ read_set texts
  texts_read root texts e f = by_document root e ∙ ap (λ texts. and_then (texts_or_shape texts) read_set) f
