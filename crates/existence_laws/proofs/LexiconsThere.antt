-- Entries that may stand in a lexicon have one: phase by phase the words of its entries, and word by word their analyses, are those
-- of a finite list that have a decided property. So sources that are read have a lexicon.
use Rattle.std.proofs.Common.{◌≡◌, ℕ, zero, suc, ◌+◌, ◌<◌, inl, inr, List, [], ◌∷◌, length, map, get_or, Ok, refl, sym, ◌∙◌, ap, subst, arith}
use Rattle.std.specs.List.{All, Contains}
use Rattle.std.specs.declared.cmp.Ordering.TheVariants.{Equal}
use Rattle.std.proofs.lemmas.Bool.{cases_lt, cases_eq}
use Rattle.std.proofs.lemmas.Cmp.{nat_list_cmp_total}
use Rattle.std.proofs.lemmas.List.{get_or_past, get_or_default}
use Rattle.std.proofs.lemmas.List.Elements.{All-contains}
use Rattle.std.proofs.lemmas.Map.Lookups.{exact_bytes}
use Rattle.list_laws.specs.Firsts.{AreAll}
use Rattle.list_laws.proofs.Sorted.{not_Contains-nil, All-from_Contains}
use Rattle.list_laws.proofs.Elements.{some_by_element}
use Rattle.list_laws.proofs.FirstOnes.{Contains-map, Contains-map_cases, sorted-map}
use Rattle.list_laws.proofs.Orderings.{equal_then_both}
use Rattle.text_definitions.specs.Words.{compare_words}
use Rattle.lexicon_definitions.specs.Analyses.{Analysis, compare_analyses}
use Rattle.lexicon_definitions.specs.FormEntries.{Entry, HasAnalysis}
use Rattle.lexicon_definitions.specs.Lexicons.{RuleSet, Form, Lexicon, IsAnalysis, IsFormEntry, IsPhase}
use Rattle.lexicon_definitions.proofs.FormsWithEntry.{analyses_total, by_letters}
use Rattle.morphology_definitions.specs.Inflection.{Class, Stem}
use Rattle.morphology_definitions.proofs.Inflections.{all_inflected-exists}
use Rattle.paradigm_file_definitions.specs.TableFiles.{tables_of}
use Rattle.paradigm_file_definitions.specs.StemFiles.{stems_of}
use Rattle.paradigm_file_definitions.proofs.StemsTaken.{all_inflectable_stems}
use Rattle.rule_file_definitions.specs.RuleFileReadings.{IsReadAs}
use Rattle.rule_file_definitions.proofs.SoundSets.{read_sound}
use Rattle.run_definitions.specs.SoundSources.{IsSoundEntry}
use Rattle.run_definitions.specs.SourceLexicons.{HaveJust, IsLexiconOf}
use Rattle.run_definitions.proofs.SourcesSound.{entries_sound, tables_sound, stems_are_words}
use Rattle.existence_laws.proofs.Decisions.{Decided, told_by, both, is_same_word, is_element, holds_of_some}
use Rattle.existence_laws.proofs.FiniteLists.{all_that_have}

is_same_analysis : (left right : Analysis) → Decided (left ≡ right)
is_same_analysis left right =
    told_by (λ h i. record { stem = h.0 i; tag = h.1 i }) (λ e. (ap (λ (a : Analysis). a.stem) e, ap (λ (a : Analysis). a.tag) e))
    (both (is_same_word left.stem right.stem) (is_same_word left.tag right.tag))

is_same_entry : (left right : Entry) → Decided (left ≡ right)
is_same_entry left right =
    told_by (λ h i. record { phase = h.0 i; letters = h.1.0 i; analysis = h.1.1 i })
    (λ e. (ap (λ (x : Entry). x.phase) e, (ap (λ (x : Entry). x.letters) e, ap (λ (x : Entry). x.analysis) e)))
    (both (cases_eq left.phase right.phase) (both (is_same_word left.letters right.letters) (is_same_analysis left.analysis right.analysis)))

analyses_exact : (left right : Analysis) → compare_analyses left right ≡ Equal → left ≡ right
analyses_exact left right e =
    let f = equal_then_both (compare_words left.stem right.stem) _ e in
    let stem = exact_bytes left.stem right.stem f.0 in
    let tag = exact_bytes left.tag right.tag f.1 in
    λ i. record { stem = stem i; tag = tag i }

module _ (entries : List Entry) where
  -- ---- a form

  abbrev entry_of : ℕ → List ℕ → Analysis → Entry
  entry_of phase letters analysis = record { phase = phase; letters = letters; analysis = analysis }

  -- its analyses
  abbrev IsAnalysisOf : ℕ → List ℕ → Analysis → Type 0
  IsAnalysisOf phase letters analysis = Contains entries (entry_of phase letters analysis)

  analyses_there : (phase : ℕ) (letters : List ℕ) → (analyses : List Analysis) × AreAll compare_analyses (IsAnalysisOf phase letters) analyses
  analyses_there phase letters =
      all_that_have analyses_total (IsAnalysisOf phase letters) (λ x y p q e. analyses_exact x y e) (map (λ (entry : Entry). entry.analysis) entries)
      (λ analysis m. is_element is_same_entry entries (entry_of phase letters analysis))
      (λ analysis h. Contains-map (λ (entry : Entry). entry.analysis) entries (entry_of phase letters analysis) h)

  form_of : ℕ → List ℕ → Form
  form_of phase letters = record { letters = letters; analyses = (analyses_there phase letters).0 }

  -- ---- a phase

  -- a word of some entry
  abbrev IsWordOf : ℕ → List ℕ → Type 0
  IsWordOf phase letters = (analysis : Analysis) × IsAnalysisOf phase letters analysis

  -- some entry has this phase and this word
  has_word : (phase : ℕ) (letters : List ℕ) → Decided (IsWordOf phase letters)
  has_word phase letters =
      told_by
      (λ h. (
        h.0.analysis,
        subst (Contains entries) (λ i. record { phase = h.2.0 i; letters = h.2.1 i; analysis = h.0.analysis }) h.1,
      ))
      (λ h. (entry_of phase letters h.0, h.1, (refl, refl)))
      (holds_of_some (λ (entry : Entry). (entry.phase ≡ phase) × (entry.letters ≡ letters))
      (λ entry. both (cases_eq entry.phase phase) (is_same_word entry.letters letters)) entries)

  words_there : (phase : ℕ) → (words : List (List ℕ)) × AreAll compare_words (IsWordOf phase) words
  words_there phase =
      all_that_have nat_list_cmp_total (IsWordOf phase) (λ x y p q e. exact_bytes x y e) (map (λ (entry : Entry). entry.letters) entries)
      (λ letters m. has_word phase letters)
      (λ letters h. Contains-map (λ (entry : Entry). entry.letters) entries (entry_of phase letters h.0) h.1)

  forms_at : ℕ → List Form
  forms_at phase = map (form_of phase) (words_there phase).0

  module _ (count : ℕ) (sound : All (IsSoundEntry count) entries) where
    entry_is : (phase : ℕ) (letters : List ℕ) (analysis : Analysis) → IsAnalysisOf phase letters analysis → IsSoundEntry count (entry_of phase letters analysis)
    entry_is phase letters analysis m = All-contains (IsSoundEntry count) entries (entry_of phase letters analysis) sound m

    form_is : (phase : ℕ) (letters : List ℕ) → IsWordOf phase letters → IsFormEntry (form_of phase letters)
    unfolding form_of
    form_is phase letters h =
        let here = entry_is phase letters h.0 h.1 in
        let analyses = analyses_there phase letters in
        record {
          word = here.word;
          not_empty = here.not_empty;
          analyzed = some_by_element analyses.0 h.0 (analyses.1.complete h.0 h.1);
          analyses = All-from_Contains IsAnalysis analyses.0 (λ analysis m. (entry_is phase letters analysis (analyses.1.only analysis m)).analysis);
          rising = analyses.1.rising;
        }

    phase_is : (phase : ℕ) → IsPhase (forms_at phase)
    unfolding forms_at form_of
    phase_is phase =
        let words = words_there phase in
        record {
          each = All-from_Contains IsFormEntry (map (form_of phase) words.0) (λ form m.
              let at = Contains-map_cases (form_of phase) words.0 form m in
              subst IsFormEntry at.2 (form_is phase at.0 (words.1.only at.0 at.1)));
          rising = sorted-map compare_words by_letters (form_of phase) (IsWordOf phase) (λ x z p q less. less) words.0 words.1.only words.1.rising;
        }

  -- it has just the entries of this phase
  analysis_from : (phase : ℕ) (letters : List ℕ) (analysis : Analysis) → HasAnalysis (forms_at phase) letters analysis → IsAnalysisOf phase letters analysis
  unfolding forms_at form_of
  analysis_from phase letters analysis h =
      let at = Contains-map_cases (form_of phase) (words_there phase).0 h.form h.is_among in
      let same : at.0 ≡ letters = ap (λ (form : Form). form.letters) at.2 ∙ h.has_letters in
      let has : Contains (analyses_there phase at.0).0 analysis = subst (λ (form : Form). Contains form.analyses analysis) (sym at.2) h.is_analyzed in
      subst (λ (word : List ℕ). IsAnalysisOf phase word analysis) same ((analyses_there phase at.0).1.only analysis has)

  analysis_there : (phase : ℕ) (letters : List ℕ) (analysis : Analysis) → IsAnalysisOf phase letters analysis → HasAnalysis (forms_at phase) letters analysis
  unfolding forms_at form_of
  analysis_there phase letters analysis m =
      record {
        form = form_of phase letters;
        is_among = Contains-map (form_of phase) (words_there phase).0 letters ((words_there phase).1.complete letters (analysis, m));
        has_letters = refl;
        is_analyzed = (analyses_there phase letters).1.complete analysis m;
      }

  -- ---- all phases

  -- so many phases from this one on
  phases_from : ℕ → ℕ → List (List Form)
  phases_from zero start = []
  phases_from (suc count) start = forms_at start ∷ phases_from count (start + 1)

  length-phases_from : (count start : ℕ) → length (phases_from count start) ≡ count
  unfolding phases_from
  length-phases_from zero start = refl
  length-phases_from (suc count) start = ap suc (length-phases_from count (start + 1))

  phase_at : (count start phase : ℕ) → phase < count → get_or (phases_from count start) phase [] ≡ forms_at (start + phase)
  unfolding phases_from
  phase_at zero start phase l = absurd (omega arith)
  phase_at (suc count) start zero l = let same : start ≡ start + 0 = omega arith in ap forms_at same
  phase_at (suc count) start (suc phase) l =
      let same : start + 1 + phase ≡ start + suc phase = omega arith in
      phase_at count (start + 1) phase (omega arith) ∙ ap forms_at same

  module _ (count : ℕ) (sound : All (IsSoundEntry count) entries) where
    abbrev phases : List (List Form)
    phases = phases_from count 0

    phase_at_start : (phase : ℕ) → phase < count → get_or phases phase [] ≡ forms_at phase
    phase_at_start phase l = let same : 0 + phase ≡ phase = omega arith in phase_at count 0 phase l ∙ ap forms_at same

    phases_are : All IsPhase phases
    phases_are =
        λ phase d below.
        let l : phase < count = omega (arith, below, length-phases_from count 0) in
        let is = subst IsPhase (sym (phase_at_start phase l)) (phase_is count sound phase) in
        subst IsPhase (get_or_default phases phase [] d below) is

    have_just : HaveJust phases entries
    have_just entry = (
      λ h. elim (cases_lt entry.phase count) [
        | inl l ↦ analysis_from entry.phase entry.letters entry.analysis
            (subst (λ (forms : List Form). HasAnalysis forms entry.letters entry.analysis) (phase_at_start entry.phase l) h)
        | inr past ↦
            let none = get_or_past phases entry.phase [] (omega (arith, length-phases_from count 0, past)) in
            let moved = subst (λ (forms : List Form). HasAnalysis forms entry.letters entry.analysis) none h in
            absurd (not_Contains-nil moved.form moved.is_among)
      ],
      λ m.
          let l = (All-contains (IsSoundEntry count) entries entry sound m).phase in
          subst (λ (forms : List Form). HasAnalysis forms entry.letters entry.analysis) (sym (phase_at_start entry.phase l))
          (analysis_there entry.phase entry.letters entry.analysis m),
    )

-- ---- the lexicon of sources

pub lexicon_there : (rule_bytes table_bytes stem_bytes : List ℕ) (rules : RuleSet) (classes : List Class) (stems : List Stem)
    → IsReadAs rule_bytes (Ok rules) → tables_of rules.names table_bytes ≡ Ok classes → stems_of classes stem_bytes ≡ Ok stems
    → (lexicon : Lexicon) × IsLexiconOf rules classes stems lexicon
lexicon_there rule_bytes table_bytes stem_bytes rules classes stems r t s =
    let count = length rules.names in
    let entries = all_inflected-exists classes stems in
    let sound = entries_sound count classes stems entries.0 (tables_sound rules.names table_bytes classes t)
    (stems_are_words classes stem_bytes stems s) (all_inflectable_stems classes stem_bytes stems s) entries.1 in (
      record { rules = rules; phases = phases_from entries.0 count 0 },
      record {
        same_rules = refl;
        lexicon_itself = record {
          rules = (read_sound rule_bytes rules r).set_itself;
          count = length-phases_from entries.0 count 0;
          phases = phases_are entries.0 count sound;
        };
        entries = entries.0;
        inflected = entries.1;
        just_these = have_just entries.0 count sound;
      },
    )
