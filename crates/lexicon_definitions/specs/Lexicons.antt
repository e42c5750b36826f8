-- Lexicons of inflected forms: phases with their forms, and the rules by which forms meet (after Huet 2005; exact clauses
-- are own).
use Rattle.std.specs.Prelude.{◌≡◌, ◌≢◌, ℕ, ◌≤◌, true, None, List, [], ◌∷◌, length, map, slice_index_or, All, AllPairs, Contains}
use Rattle.std.specs.List.{list_all}
use Rattle.std.specs.declared.cmp.Ordering.{Ordering}
use Rattle.std.specs.Ordering.{nat_cmp, ordering_then, on}
use Rattle.std.specs.List.Sorted.{IsStrictlySortedBy}
use Rattle.text_definitions.specs.Letters.{IsLetter}
use Rattle.text_definitions.specs.Words.{IsWord, compare_words}
use Rattle.lexicon_definitions.specs.declared.limits.TheConstants.{MOST_NAME_BYTES}
use Rattle.lexicon_definitions.specs.Analyses.{Analysis, compare_analyses}
use Rattle.lexicon_definitions.specs.Rules.{Rule, IsRule, IsSameTriple, rule_at}
use Rattle.lexicon_definitions.specs.Grammars.{Grammar, Accepts}
use Rattle.lexicon_definitions.specs.GrammarTexts.{is_name_byte, grammar_of}
use Rattle.lexicon_definitions.specs.GrammarFaults.{is_small_letter, syntax_fault, first_unknown, names_from}
use Rattle.lexicon_definitions.specs.Tags.{IsTagText}

-- the names of the phases by number, a grammar text over them, the plain pairs, and the rules by number
pub record RuleSet : Type 0 where
  pub names : List (List ℕ)
  pub grammar : List ℕ
  pub plain : List (ℕ × ℕ)
  pub rules : List Rule

-- a form of a phase, with its analyses
pub record Form : Type 0 where
  pub letters : List ℕ
  pub analyses : List Analysis

-- a rule set, and the forms of each phase by the phase's number, counted from 0
pub record Lexicon : Type 0 where
  pub rules : RuleSet
  pub phases : List (List Form)

-- the rule with this number; 0 is no change
abbrev pub rule_of : RuleSet → ℕ → Rule
rule_of rules number = rule_at rules.rules number

-- these two letters may meet unchanged
abbrev pub IsPlain : RuleSet → ℕ → ℕ → Type 0
IsPlain rules left right = Contains rules.plain (left, right)

-- pairs of letters are ordered by the first letter, then by the second
abbrev pub compare_pairs : ℕ × ℕ → ℕ × ℕ → Ordering
compare_pairs left right = ordering_then (nat_cmp left.0 right.0) (nat_cmp left.1 right.1)

-- the grammar's syntax tree
abbrev pub tree_of : RuleSet → Grammar
tree_of rules = grammar_of rules.names rules.grammar

-- the forms of a phase; no forms where there is no such phase
abbrev pub forms_of : Lexicon → ℕ → List Form
forms_of lexicon phase = slice_index_or lexicon.phases phase []

-- the word is a form of the phase
abbrev pub IsForm : Lexicon → ℕ → List ℕ → Type 0
IsForm lexicon phase word = Contains (map (λ form. form.letters) (forms_of lexicon phase)) word

-- the list of phases is a word of the lexicon's grammar
abbrev pub IsPhaseWord : RuleSet → List ℕ → Type 0
IsPhaseWord rules phases = Accepts (tree_of rules) phases

-- a phase's name has 1 to 16 bytes, the first a small letter, the others small letters, digits or `_`
abbrev pub IsPhaseName : List ℕ → Type 0
IsPhaseName [] = ⊥
IsPhaseName (byte ∷ bytes) =
    (is_small_letter byte ≡ true) × (length (byte ∷ bytes) ≤ MOST_NAME_BYTES) × (list_all is_name_byte bytes ≡ true)

-- the text is a grammar text over these names: no byte breaks the syntax, and each name in it is one of them; there is no
-- limit on its bytes, names and states
abbrev pub IsGrammarOver : List (List ℕ) → List ℕ → Type 0
IsGrammarOver names text = (syntax_fault text ≡ None) × (first_unknown names (names_from 0 text) ≡ None)

-- a rule set has different phase names, a grammar text over them, plain pairs of letters, rising, and rules over these
-- phases, no two with the same triple
pub record IsRuleSet (rules : RuleSet) : Type 0 where
  pub names_are_names : All IsPhaseName rules.names
  pub distinct_names : AllPairs (λ left right. left ≢ right) rules.names
  pub grammar_is_text : IsGrammarOver rules.names rules.grammar
  pub letters : All (λ pair. IsLetter pair.0 × IsLetter pair.1) rules.plain
  pub rising : IsStrictlySortedBy compare_pairs rules.plain
  pub each : All (IsRule (length rules.names)) rules.rules
  pub distinct : AllPairs (λ left right. IsSameTriple left right → ⊥) rules.rules

-- an analysis is a word as the stem, and a tag's text
pub record IsAnalysis (analysis : Analysis) : Type 0 where
  pub stem : IsWord analysis.stem
  pub tag : IsTagText analysis.tag

-- a form is a word that is not empty, with a rising list of analyses that is not empty
pub record IsFormEntry (form : Form) : Type 0 where
  pub word : IsWord form.letters
  pub not_empty : form.letters ≢ []
  pub analyzed : form.analyses ≢ []
  pub analyses : All IsAnalysis form.analyses
  pub rising : IsStrictlySortedBy compare_analyses form.analyses

-- a phase is a rising list of forms
pub record IsPhase (forms : List Form) : Type 0 where
  pub each : All IsFormEntry forms
  pub rising : IsStrictlySortedBy (on (λ (form : Form). form.letters) compare_words) forms

-- a lexicon is a rule set with as many phases as it names, each of them a phase
pub record IsLexicon (lexicon : Lexicon) : Type 0 where
  pub rules : IsRuleSet lexicon.rules
  pub count : length lexicon.phases ≡ length lexicon.rules.names
  pub phases : All IsPhase lexicon.phases
