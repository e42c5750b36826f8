-- A lexicon within the limits whose stems have a spelling has a newest text: that of version 3 where a rule is limited, else that of
-- version 2, with the ordered trie of its phases. What a file tells is such a lexicon; and so is one of sources with not too many lines,
-- since each of its analyses is that of an entry.
use Rattle.std.proofs.Common.{◌≡◌, ◌≢◌, ℕ, ◌<◌, ◌≤◌, inl, inr, List, [], length, get_or, Option, Some, None, Ok, refl, sym, subst, arith}
use Rattle.std.specs.List.{All, Contains}
use Rattle.std.proofs.lemmas.Bool.{cases_eq}
use Rattle.std.proofs.lemmas.List.{get_or_default}
use Rattle.std.proofs.lemmas.List.Elements.{All-contains}
use Rattle.list_laws.proofs.Sorted.{All-from_Contains}
use Rattle.list_laws.proofs.Elements.{some_element, some_by_length}
use Rattle.text_definitions.specs.Words.{IsWord}
use Rattle.lexicon_definitions.specs.declared.limits.TheConstants.{MOST_FORM_LETTERS, MOST_FORM_LINES}
use Rattle.lexicon_definitions.specs.Analyses.{Analysis}
use Rattle.lexicon_definitions.specs.Rules.{Rule, IsUnlimited, all_phases}
use Rattle.lexicon_definitions.specs.FormEntries.{Entry}
use Rattle.lexicon_definitions.specs.Lexicons.{RuleSet, Form, Lexicon, IsFormEntry, IsPhase, IsLexicon}
use Rattle.lexicon_definitions.specs.Limits.{IsShortForm, IsRuleSetWithinLimits, IsWithinLimits, count_lines}
use Rattle.lexicon_text_definitions.specs.TextsOf.{HasSpelledStems}
use Rattle.trie_text_definitions.specs.Versions.{Version, Second, Third, HasRulesOf}
use Rattle.trie_text_definitions.specs.TrieTexts.{text_in}
use Rattle.trie_text_definitions.specs.VersionTexts.{HasTextIn, IsNewestText}
use Rattle.morphology_definitions.specs.Inflection.{Class, Stem}
use Rattle.paradigm_file_definitions.specs.TableFiles.{tables_of}
use Rattle.paradigm_file_definitions.specs.StemFiles.{stems_of}
use Rattle.paradigm_file_definitions.proofs.StemsTaken.{all_inflectable_stems}
use Rattle.rule_file_definitions.specs.RuleFileReadings.{IsReadAs}
use Rattle.rule_file_definitions.proofs.SoundSets.{read_sound}
use Rattle.run_definitions.specs.SourceLexicons.{HaveJust, IsLexiconOf}
use Rattle.existence_laws.proofs.Decisions.{Decided, both, follows, refuted, if_not_refuted, is_same_word, holds_of_some}
use Rattle.existence_laws.proofs.OrderedTriesThere.{ordered_trie_there}
use Rattle.run_definitions.specs.SoundSources.{IsSoundEntry}
use Rattle.run_definitions.proofs.SourcesSound.{entries_sound, tables_sound, stems_are_words}

-- ---- the version

is_unlimited : (count : ℕ) (rule : Rule) → Decided (IsUnlimited count rule)
is_unlimited count rule =
    both (cases_eq rule.before (all_phases count)) (follows (refuted (is_same_word rule.v [])) (cases_eq rule.after (all_phases count)))

version_there : (count : ℕ) (rules : List Rule) → (version : Version) × HasRulesOf version count rules
version_there count rules =
    elim (holds_of_some (λ rule. IsUnlimited count rule → ⊥) (λ rule. refuted (is_unlimited count rule)) rules) [
      | inl limited ↦ (Third, limited)
      | inr none ↦ (
        Second,
        All-from_Contains (IsUnlimited count) rules (λ rule m. if_not_refuted (is_unlimited count rule) (λ not. none (rule, m, not))),
      )
    ]

-- ---- the text

newest_there : (lexicon : Lexicon) → IsLexicon lexicon → IsWithinLimits lexicon → All (λ forms. All HasSpelledStems forms) lexicon.phases
    → (bytes : List ℕ) × IsNewestText lexicon bytes
newest_there lexicon is limits stems =
    let version = version_there (length lexicon.rules.names) lexicon.rules.rules in
    let count = is.count in
    let few = limits.rule_set.phases in
    let trie = ordered_trie_there lexicon.phases is.phases limits.short_forms (omega (arith, count, few)) limits.lines in (
      text_in version.0 lexicon.rules trie.0,
      (
        version.0,
        record {
          has_text = record { lexicon_itself = is; limits = limits; rules = version.1; stems = stems };
          trie = trie.0;
          ordered = trie.1;
          text = refl;
        },
      ),
    )

-- a lexicon that has a text of some version has a newest text
pub newest_of_text : (version : Option Version) (lexicon : Lexicon) → HasTextIn version lexicon → (bytes : List ℕ) × IsNewestText lexicon bytes
newest_of_text None lexicon has = newest_there lexicon has.lexicon_itself has.limits has.stems
newest_of_text (Some version) lexicon has = newest_there lexicon has.lexicon_itself has.limits has.stems

-- and is a lexicon within the limits
pub lexicon_of_text : (version : Option Version) (lexicon : Lexicon) → HasTextIn version lexicon → IsLexicon lexicon × IsWithinLimits lexicon
lexicon_of_text None lexicon has = (has.lexicon_itself, has.limits)
lexicon_of_text (Some version) lexicon has = (has.lexicon_itself, has.limits)

-- ---- the lexicon of sources

-- phases that have just sound entries
module _ (count : ℕ) (phases : List (List Form)) (entries : List Entry) (each : All IsPhase phases) (sound : All (IsSoundEntry count) entries)
    (just : HaveJust phases entries) where
  -- an analysis of a form is that of an entry
  entry_at : (phase : ℕ) (form : Form) (analysis : Analysis) → Contains (get_or phases phase []) form → Contains form.analyses analysis
      → IsSoundEntry count (record { phase = phase; letters = form.letters; analysis = analysis })
  entry_at phase form analysis m a =
      let entry : Entry = record { phase = phase; letters = form.letters; analysis = analysis } in
      All-contains (IsSoundEntry count) entries entry sound
      ((just entry).0 (record { form = form; is_among = m; has_letters = refl; is_analyzed = a }))

  module _ (phase : ℕ) (below : phase < length phases) (form : Form) (m : Contains (get_or phases phase []) form) where
    short_form : IsShortForm form
    short_form =
        let here = All-contains IsFormEntry (get_or phases phase []) form (each phase [] below).each m in
        let some = some_element form.analyses here.analyzed in
        record {
          letters = (entry_at phase form some.0 m some.1).short;
          stems = All-from_Contains (λ (analysis : Analysis). length analysis.stem ≤ MOST_FORM_LETTERS) form.analyses
              (λ analysis a. (entry_at phase form analysis m a).stem.short);
        }

    spelled_stems : HasSpelledStems form
    spelled_stems =
        All-from_Contains (λ (analysis : Analysis). IsWord analysis.stem × (analysis.stem ≢ [])) form.analyses (λ analysis a.
        let entry = entry_at phase form analysis m a in (entry.analysis.stem, some_by_length analysis.stem entry.stem.not_empty))

  short_forms : All (λ forms. All IsShortForm forms) phases
  short_forms =
      λ phase d below.
      subst (All IsShortForm) (get_or_default phases phase [] d below)
      (All-from_Contains IsShortForm (get_or phases phase []) (short_form phase below))

  all_spelled : All (λ forms. All HasSpelledStems forms) phases
  all_spelled =
      λ phase d below.
      subst (All HasSpelledStems) (get_or_default phases phase [] d below)
      (All-from_Contains HasSpelledStems (get_or phases phase []) (spelled_stems phase below))

-- the lexicon of sources that are read has a newest text, where it has not too many lines of forms
pub newest_of_sources : (rule_bytes table_bytes stem_bytes : List ℕ) (rules : RuleSet) (classes : List Class) (stems : List Stem) (lexicon : Lexicon)
    → IsReadAs rule_bytes (Ok rules) → tables_of rules.names table_bytes ≡ Ok classes → stems_of classes stem_bytes ≡ Ok stems
    → IsLexiconOf rules classes stems lexicon → count_lines lexicon.phases ≤ MOST_FORM_LINES → (bytes : List ℕ) × IsNewestText lexicon bytes
newest_of_sources rule_bytes table_bytes stem_bytes rules classes stems lexicon r t s is few =
    let count = length rules.names in
    let sound = entries_sound count classes stems is.entries (tables_sound rules.names table_bytes classes t)
    (stems_are_words classes stem_bytes stems s) (all_inflectable_stems classes stem_bytes stems s) is.inflected in
    let each = is.lexicon_itself.phases in
    newest_there lexicon is.lexicon_itself
    (record {
      rule_set = subst IsRuleSetWithinLimits (sym is.same_rules) (read_sound rule_bytes rules r).limits;
      short_forms = short_forms count lexicon.phases is.entries each sound is.just_these;
      lines = few;
    })
    (all_spelled count lexicon.phases is.entries each sound is.just_these)
