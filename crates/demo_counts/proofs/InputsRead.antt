-- What the readers answer for the input of a number is what it holds, and no fault: each file and the text are read in one way, and
-- the lexicon of the stems has few lines.
use Rattle.std.proofs.Common.{◌≡◌, ℕ, ◌^◌, ◌<◌, ◌≤◌, Ok, Err, List, length, map, refl, sym, ap, ◌∙◌, subst, arith}
use Rattle.std.proofs.lemmas.List.{length-map}
use Rattle.text_definitions.specs.Lines.{Line}
use Rattle.text_definitions.specs.Schemes.{Slp1}
use Rattle.text_definitions.specs.LineTexts.{LineFault, line_of_text}
use Rattle.lexicon_definitions.specs.declared.limits.TheConstants.{MOST_PHASES}
use Rattle.lexicon_text_definitions.specs.declared.limits.TheConstants.{MOST_FILE_BYTES}
use Rattle.lexicon_definitions.specs.Lexicons.{RuleSet, Lexicon, tree_of}
use Rattle.lexicon_definitions.specs.Limits.{count_lines}
use Rattle.morphology_definitions.specs.Inflection.{Class, Stem}
use Rattle.phase_automaton.specs.Automata.{StateMachine, Recognizes}
use Rattle.rule_file_definitions.specs.RuleFileFaults.{Fault}
use Rattle.rule_file_definitions.specs.RuleFileReadings.{IsReadAs, read_before_grammar}
use Rattle.paradigm_file_definitions.specs.Records as records
use Rattle.paradigm_file_definitions.specs.TableFaults.{TableWhy}
use Rattle.paradigm_file_definitions.specs.TableFiles.{tables_of}
use Rattle.paradigm_file_definitions.specs.StemFaults.{StemWhy}
use Rattle.paradigm_file_definitions.specs.StemFiles.{stems_of}
use Rattle.demo_definitions.specs.DrawnTexts.{text_of_number}
use Rattle.demo_definitions.specs.SourceTexts.{demo_rules, demo_tables, demo_stems}
use Rattle.demo_definitions.specs.SourceContents.{demo_rule_set, demo_classes, stems_spelled, line_spelled}
use Rattle.demo_definitions.proofs.StemRecords.{short_file}
use Rattle.demo_definitions.proofs.DrawnWords.{text_is}
use Rattle.demo_definitions.proofs.SourcesRead.{rule_set_read, tables_read, few_lines}
use Rattle.demo_definitions.proofs.StemsRead.{stems_read}
use Rattle.demo_definitions.proofs.LinesRead.{line_read}
use Rattle.run_definitions.specs.SourceLexicons.{IsLexiconOf}
use Rattle.run_definitions.specs.DemoOutcomes.{IsDemoLexicon}
use Rattle.run_definitions.proofs.OneBuildOutcome.{one_decided}
use Rattle.form_file.specs.declared.contents.Contents.{Contents}
use Rattle.form_file.specs.Contents.{lexicon_of}
use Rattle.lexicon_definitions.specs.Tries.{IsTrieOf}
use Rattle.trie_text_definitions.specs.TrieForms.{phases_of}
use Rattle.lexicon_file.specs.Writing.{HasNewestText}
use Rattle.lexicon_builder.specs.Sources.{AreSources, HaveTooManyLines}
use Rattle.lexicon_builder.proofs.SourcesRead.{sources_read}
use Rattle.demo_counts.specs.Inputs.{IsStemFile, AreDemoContents}

-- ---- the rule file

pub rules_are : (rules : RuleSet) → IsReadAs demo_rules (Ok rules) → rules ≡ demo_rule_set
rules_are rules read =
    let same = one_decided (read_before_grammar demo_rules) (Ok rules) (Ok demo_rule_set) read rule_set_read in
    cc

pub rules_have_no_fault : (fault : Fault) → IsReadAs demo_rules (Err fault) → ⊥
rules_have_no_fault fault read =
    let same = one_decided (read_before_grammar demo_rules) (Err fault) (Ok demo_rule_set) read rule_set_read in
    cc

few_phases : (names : List (List ℕ)) → names ≡ demo_rule_set.names → length names ≤ MOST_PHASES
unfolding demo_rule_set
few_phases names are = let same = ap length are in omega arith

-- the phases of the rule file are few
pub phases_are_few : {X : Type 0} (bytes_of : X → List ℕ) (phases : List X) → map bytes_of phases ≡ demo_rule_set.names → length phases ≤ MOST_PHASES
phases_are_few bytes_of phases are =
    let same = length-map phases bytes_of in
    let few = few_phases (map bytes_of phases) are in
    omega arith

-- ---- the table file

module _ (names : List (List ℕ)) (are : names ≡ demo_rule_set.names) where
  tables_over : tables_of names demo_tables ≡ Ok demo_classes
  tables_over = ap (λ (phases : List (List ℕ)). tables_of phases demo_tables) are ∙ tables_read

  pub tables_are : (classes : List Class) → tables_of names demo_tables ≡ Ok classes → classes ≡ demo_classes
  tables_are classes read = let is = tables_over in cc

  pub tables_have_no_fault : (fault : records.Fault TableWhy) → tables_of names demo_tables ≡ Err fault → ⊥
  tables_have_no_fault fault read = let is = tables_over in cc

-- ---- the stem file

module _ (classes : List Class) (are : classes ≡ demo_classes) (bytes : List ℕ) where
  stems_over : (number : ℕ) → bytes ≡ demo_stems number → stems_of classes bytes ≡ Ok (stems_spelled number)
  stems_over number is = (λ i. stems_of (are i) (is i)) ∙ stems_read number

  pub stems_are : (stems : List Stem) → stems_of classes bytes ≡ Ok stems → (number : ℕ) → bytes ≡ demo_stems number → stems ≡ stems_spelled number
  stems_are stems read number is = let e = stems_over number is in cc

  pub stems_have_no_fault : (fault : records.Fault StemWhy) → stems_of classes bytes ≡ Err fault → IsStemFile bytes → ⊥
  stems_have_no_fault fault read file = let e = stems_over file.0 file.1 in cc

pub stem_file_is_short : (bytes : List ℕ) → IsStemFile bytes → length bytes ≤ MOST_FILE_BYTES
stem_file_is_short bytes file =
    let same = ap length file.1 in
    let short = short_file file.0 in
    omega arith

-- ---- the lexicon

few : (number : ℕ) (lexicon : Lexicon) → IsLexiconOf demo_rule_set demo_classes (stems_spelled number) lexicon → count_lines lexicon.phases ≤ 5000
few number lexicon is = few_lines number lexicon is.entries is.lexicon_itself is.inflected (λ entry h. (is.just_these entry).0 h)

-- what was read of the three files
module _ (rules : RuleSet) (classes : List Class) (stems : List Stem) (bytes : List ℕ) (rules_is : rules ≡ demo_rule_set)
    (classes_are : classes ≡ demo_classes) (read : stems_of demo_classes bytes ≡ Ok stems) where
  pub are_sources : AreSources rules classes stems
  are_sources =
      subst (λ (set : RuleSet). AreSources set classes stems) (sym rules_is)
      (subst (λ (held : List Class). AreSources demo_rule_set held stems) (sym classes_are)
      (sources_read demo_rules demo_tables bytes demo_rule_set demo_classes stems rule_set_read tables_read read))

  -- a lexicon of them is one of the number's stems
  of_number : (number : ℕ) (lexicon : Lexicon) → bytes ≡ demo_stems number → IsLexiconOf rules classes stems lexicon
      → IsLexiconOf demo_rule_set demo_classes (stems_spelled number) lexicon
  of_number number lexicon is of =
      subst (λ (set : RuleSet). IsLexiconOf set demo_classes (stems_spelled number) lexicon) rules_is
      (subst (λ (held : List Class). IsLexiconOf rules held (stems_spelled number) lexicon) classes_are
      (subst (λ (held : List Stem). IsLexiconOf rules classes held lexicon) (stems_are demo_classes refl bytes stems read number is) of))

  pub within_limits : IsStemFile bytes → HaveTooManyLines rules classes stems → ⊥
  within_limits file many =
      let bound = few file.0 many.lexicon (of_number file.0 many.lexicon file.1 many.is_of) in
      let lines = many.lines in
      omega arith

  demo_lexicon : (number : ℕ) (lexicon : Lexicon) → bytes ≡ demo_stems number → IsLexiconOf rules classes stems lexicon
      → IsDemoLexicon number (stems_spelled number) lexicon
  demo_lexicon number lexicon is of = record {
    rules = demo_rule_set;
    rules_read = rule_set_read;
    classes = demo_classes;
    tables_read = tables_read;
    stems_read = stems_read number;
    is_of = of_number number lexicon is of;
  }

  pub contents_made : (contents : Contents) (automaton : StateMachine) → Recognizes automaton (tree_of rules) → automaton.phases ≡ length rules.names
      → contents.automaton ≡ automaton → IsLexiconOf rules classes stems (lexicon_of contents) → IsTrieOf contents.store (phases_of contents.store)
      → HasNewestText (lexicon_of contents) → (number : ℕ) → bytes ≡ demo_stems number → AreDemoContents number contents
  contents_made contents automaton recognizes phases kept of trie has_text number is =
      let same = of.same_rules in
      let lexicon = demo_lexicon number (lexicon_of contents) is of in
      record {
        is_lexicon = lexicon;
        trie = trie;
        has_text = has_text;
        recognizes =
            subst (λ (machine : StateMachine). Recognizes machine (tree_of contents.rules)) (sym kept)
            (subst (λ (set : RuleSet). Recognizes automaton (tree_of set)) (sym same) recognizes);
        phases =
            ap (λ (machine : StateMachine). machine.phases) kept ∙ phases ∙ sym (ap (λ (set : RuleSet). length set.names) same);
      }

-- ---- the text

module _ (text : List ℕ) (number : ℕ) (is : text ≡ text_of_number number) where
  text_over : line_of_text Slp1 text ≡ Ok (line_spelled number)
  text_over = ap (line_of_text Slp1) is ∙ line_read number

  pub line_is : (line : Line) → line_of_text Slp1 text ≡ Ok line → line ≡ line_spelled number
  line_is line read = let e = text_over in cc

  pub text_has_no_fault : (fault : LineFault) → line_of_text Slp1 text ≡ Err fault → ⊥
  text_has_no_fault fault read = let e = text_over in cc

  pub text_is_short : length text < 2 ^ 32
  text_is_short =
      let same = ap length is in
      let short = (text_is number).few in
      omega arith
