-- The rule file and the table file compute to what they hold, and five entries for each stem are few lines.
use Rattle.std.proofs.Common.{◌≡◌, ℕ, ◌*◌, ◌≤◌, Ok, List, [], ◌∷◌, inl, length, map, refl, sym, subst, arith, length-append}
use Rattle.std.specs.Prelude.{Contains}
use Rattle.std.specs.List.{flat_map}
use Rattle.std.proofs.lemmas.Slice.Zip.{AllZip-long}
use Rattle.std.specs.Str.{is_utf8, chars}
use Rattle.toml.proofs.OnLiterals.{toml_on_literals}
use Rattle.csv.proofs.OnLiterals.{csv_on_literals}
use Rattle.text_definitions.specs.Slp1.{slp1_table, word_of_slp1}
use Rattle.lexicon_text_definitions.specs.FileContents.{is_tag_text}
use Rattle.rule_file_definitions.specs.RuleTexts.{texts_of_document, read_texts}
use Rattle.rule_file_definitions.specs.SoundClasses.{may_come_next, read_phases, class_letters, read_classes, letters_named}
use Rattle.rule_file_definitions.specs.PlainEntries.{side_letters, pairs_of, read_plain}
use Rattle.rule_file_definitions.specs.RuleNotations.{notation_of, pattern_of}
use Rattle.rule_file_definitions.specs.EntryPhases.{fields_of}
use Rattle.rule_file_definitions.specs.RuleEntries.{rules_of_entry, add_rules, add_entry, read_entries}
use Rattle.rule_file_definitions.specs.RuleFileReadings.{FileResult, IsDecided, IsReadAs, read_set, read_before_grammar}
use Rattle.paradigm_file_definitions.specs.TableFiles.{take_table, tables_of}
use Rattle.demo_definitions.specs.SourceTexts.{demo_rules, demo_tables}
use Rattle.lexicon_definitions.specs.FormEntries.{Entry, HasEntry}
use Rattle.lexicon_definitions.specs.Lexicons.{Lexicon, IsLexicon}
use Rattle.lexicon_definitions.specs.Limits.{count_lines}
use Rattle.morphology_definitions.specs.Inflection.{Row, rows_with, IsInflected, AreAllInflected}
use Rattle.demo_definitions.specs.DrawnStems.{stems_of_number}
use Rattle.demo_definitions.specs.SourceContents.{demo_rule_set, demo_classes, stem_spelled, stems_spelled}
use Rattle.demo_definitions.proofs.StemTexts.{stems_are_texts}
use Rattle.demo_definitions.proofs.LexiconLines.{no_more_lines}
use Rattle.demo_definitions.proofs.DemoGrammar.{grammar_within}

pub rules_read : read_before_grammar demo_rules ≡ Ok demo_rule_set
unfolding is_utf8 chars toml_on_literals demo_rules demo_rule_set slp1_table word_of_slp1 texts_of_document read_texts may_come_next read_phases class_letters read_classes letters_named side_letters pairs_of read_plain notation_of pattern_of fields_of rules_of_entry add_rules add_entry read_entries read_set read_before_grammar
rules_read = refl

pub tables_read : tables_of demo_rule_set.names demo_tables ≡ Ok demo_classes
unfolding csv_on_literals demo_tables demo_rule_set demo_classes slp1_table word_of_slp1 is_tag_text take_table tables_of
tables_read = refl

-- the rule file is read as the rule set
pub rule_set_read : IsReadAs demo_rules (Ok demo_rule_set)
rule_set_read = subst (λ (result : FileResult). IsDecided result (Ok demo_rule_set)) (sym rules_read) (inl (grammar_within, refl))

-- each stem has five entries
five_entries : (stems : List (List ℕ)) → length (flat_map (rows_with demo_classes) (map stem_spelled stems)) ≡ 5 * length stems
unfolding demo_classes
five_entries [] = refl
five_entries (stem ∷ stems) =
    let rest = five_entries stems in
    omega (arith, length-append (rows_with demo_classes (stem_spelled stem)) (flat_map (rows_with demo_classes) (map stem_spelled stems)))

-- a lexicon of the stems has few lines
pub few_lines : (number : ℕ) (lexicon : Lexicon) (entries : List Entry) → IsLexicon lexicon → AreAllInflected demo_classes (stems_spelled number) entries
    → ((entry : Entry) → HasEntry lexicon.phases entry → Contains entries entry) → count_lines lexicon.phases ≤ 5000
unfolding stems_spelled
few_lines number lexicon entries is inflected among =
    let few = (stems_are_texts number).few in
    let stems = stems_of_number number in
    let lines = no_more_lines lexicon entries is among in
    let long = AllZip-long (λ (pair : Row × List ℕ) (entry : Entry). IsInflected pair.0 pair.1 entry) (flat_map (rows_with demo_classes) (map stem_spelled stems)) entries inflected in
    let five = five_entries stems in
    omega arith
