-- Lexicons that are written out: what is asked of each element holds by recursion on its list, and computes.
use Rattle.std.proofs.Common.{◌≡◌, ◌≢◌, ℕ, List, [], ◌∷◌, length, true}
use Rattle.std.specs.List.{AllByRecursion}
use Rattle.std.specs.List.Sorted.{IsStrictlySortedBy}
use Rattle.std.specs.Ordering.{on}
use Rattle.std.proofs.lemmas.List.Elements.{All-from_recursion}
use Rattle.text_definitions.specs.Letters.{IsLetter}
use Rattle.text_definitions.specs.Words.{compare_words}
use Rattle.lexicon_definitions.specs.Rules.{Rule, IsRule, IsSameTriple}
use Rattle.lexicon_definitions.specs.Lexicons.{Lexicon, Form, IsAnalysis, IsFormEntry, IsPhase, IsPhaseName, IsGrammarOver, IsLexicon, compare_pairs}
use Rattle.lexicon_definitions.specs.Tags.{IsTagText}
use Rattle.worked_cases.specs.WorkedLexicons.{entry}
use Rattle.text_definitions.proofs.WrittenWords.{are_letters, letters_are_word}
use Rattle.list_laws.proofs.Elements.{Pairwise, pairs_from_recursion}

pub entry_is : (letters stem tag : List ℕ) → are_letters letters ≡ true → letters ≢ [] → are_letters stem ≡ true → IsTagText tag
    → IsFormEntry (entry letters stem tag)
unfolding IsStrictlySortedBy
entry_is letters stem tag e some f is_tag = record {
  word = letters_are_word letters e;
  not_empty = some;
  analyzed = λ e. cc;
  analyses = All-from_recursion IsAnalysis (record { stem = stem; tag = tag } ∷ []) (record { stem = letters_are_word stem f; tag = is_tag }, tt);
  rising = (tt, tt);
}

-- a lexicon, where what is asked of each element is shown by recursion
pub record IsWritten (lexicon : Lexicon) : Type 0 where
  pub names_are_names : AllByRecursion IsPhaseName lexicon.rules.names
  pub grammar_is_text : IsGrammarOver lexicon.rules.names lexicon.rules.grammar
  pub names : Pairwise (λ (left right : List ℕ). left ≢ right) lexicon.rules.names
  pub pairs : AllByRecursion (λ (pair : ℕ × ℕ). IsLetter pair.0 × IsLetter pair.1) lexicon.rules.plain
  pub pairs_rising : IsStrictlySortedBy compare_pairs lexicon.rules.plain
  pub each : AllByRecursion (IsRule (length lexicon.rules.names)) lexicon.rules.rules
  pub distinct : Pairwise (λ (left right : Rule). IsSameTriple left right → ⊥) lexicon.rules.rules
  pub count : length lexicon.phases ≡ length lexicon.rules.names
  pub forms : AllByRecursion (λ (forms : List Form). AllByRecursion IsFormEntry forms) lexicon.phases
  pub forms_rising : AllByRecursion (λ (forms : List Form). IsStrictlySortedBy (on (λ (form : Form). form.letters) compare_words) forms) lexicon.phases

pub written_is_lexicon : (lexicon : Lexicon) → IsWritten lexicon → IsLexicon lexicon
written_is_lexicon lexicon h = record {
  rules = record {
    names_are_names = All-from_recursion IsPhaseName lexicon.rules.names h.names_are_names;
    grammar_is_text = h.grammar_is_text;
    distinct_names = pairs_from_recursion (λ (left right : List ℕ). left ≢ right) lexicon.rules.names h.names;
    letters = All-from_recursion (λ (pair : ℕ × ℕ). IsLetter pair.0 × IsLetter pair.1) lexicon.rules.plain h.pairs;
    rising = h.pairs_rising;
    each = All-from_recursion (IsRule (length lexicon.rules.names)) lexicon.rules.rules h.each;
    distinct = pairs_from_recursion (λ (left right : Rule). IsSameTriple left right → ⊥) lexicon.rules.rules h.distinct;
  };
  count = h.count;
  phases = All-from_recursion IsPhase lexicon.phases (phases_are lexicon.phases h.forms h.forms_rising);
}
  where
    phases_are : (phases : List (List Form)) → AllByRecursion (λ (forms : List Form). AllByRecursion IsFormEntry forms) phases
        → AllByRecursion (λ (forms : List Form). IsStrictlySortedBy (on (λ (form : Form). form.letters) compare_words) forms) phases
        → AllByRecursion IsPhase phases
    phases_are [] h k = tt
    phases_are (forms ∷ phases) h k =
        (record { each = All-from_recursion IsFormEntry forms h.0; rising = k.0 }, phases_are phases h.1 k.1)
