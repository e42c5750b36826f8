-- The errors that the readers could give for the input of a number, want of memory apart, are faults that it does not have.
use Rattle.std.proofs.Common.{◌≡◌, ℕ, Err, List, refl, subst}
use Rattle.text_definitions.specs.Schemes.{Slp1}
use Rattle.text_definitions.specs.LineTexts.{line_of_text}
use Rattle.morphology_definitions.specs.Inflection.{Class}
use Rattle.rule_file_definitions.specs.RuleFileReadings.{IsReadAs}
use Rattle.paradigm_file_definitions.specs.TableFiles.{tables_of}
use Rattle.paradigm_file_definitions.specs.StemFiles.{stems_of}
use Rattle.rule_file.specs.Faults.{IfFault, fault_of}
use Rattle.rule_file.specs.declared.error.RuleError.{RuleError}
use Rattle.rule_file.specs.declared.error.RuleError.TheVariants as rule_error
use Rattle.rule_file.specs.declared.error.RuleFault.{RuleFault}
use Rattle.paradigms.specs.Answers.{IsTableFault, IsStemFault}
use Rattle.paradigms.specs.declared.errors.TableError.{TableError}
use Rattle.paradigms.specs.declared.errors.TableError.TheVariants as table_error
use Rattle.paradigms.specs.declared.errors.TableFault.{TableFault}
use Rattle.paradigms.specs.declared.errors.StemError.{StemError}
use Rattle.paradigms.specs.declared.errors.StemError.TheVariants as stem_error
use Rattle.paradigms.specs.declared.errors.StemFault.{StemFault}
use Rattle.lexicon_builder.specs.Sources.{IfLimit}
use Rattle.lexicon_builder.specs.declared.error.BuildError.{BuildError}
use Rattle.lexicon_builder.specs.declared.error.BuildError.TheVariants as build_error
use Rattle.text_line.specs.Values.{IsLineFaultOf}
use Rattle.text_line.specs.declared.line_error.LineError.{LineError}
use Rattle.text_line.specs.declared.line_error.LineError.TheVariants as line_error
use Rattle.demo_definitions.specs.DrawnTexts.{text_of_number}
use Rattle.demo_definitions.specs.SourceTexts.{demo_rules, demo_tables}
use Rattle.demo_definitions.specs.SourceContents.{demo_rule_set, demo_classes}
use Rattle.demo_counts.specs.Inputs.{IsStemFile}
use Rattle.demo_counts.proofs.InputsRead.{rules_have_no_fault, tables_have_no_fault, stems_have_no_fault, text_has_no_fault}

pub no_rule_error : (error : RuleError) (fault : RuleFault) → error ≡ rule_error.Fault fault
    → IfFault error (λ f. IsReadAs demo_rules (Err f)) → ⊥
no_rule_error error fault is h =
    rules_have_no_fault (fault_of fault) (subst (λ (e : RuleError). IfFault e (λ f. IsReadAs demo_rules (Err f))) is h)

pub no_table_error : (names : List (List ℕ)) → names ≡ demo_rule_set.names → (error : TableError) (fault : TableFault) → error ≡ table_error.Fault fault
    → IsTableFault (tables_of names demo_tables) error → ⊥
no_table_error names are error fault is h =
    tables_have_no_fault names are _ (subst (λ (e : TableError). IsTableFault (tables_of names demo_tables) e) is h)

pub no_stem_error : (classes : List Class) → classes ≡ demo_classes → (bytes : List ℕ) → IsStemFile bytes → (error : StemError) (fault : StemFault)
    → error ≡ stem_error.Fault fault → IsStemFault (stems_of classes bytes) error → ⊥
no_stem_error classes are bytes file error fault is h =
    stems_have_no_fault classes are bytes _ (subst (λ (e : StemError). IsStemFault (stems_of classes bytes) e) is h) file

-- what is said of a lexicon that is too large
pub said_of_limit : (P : Type 0) (error : BuildError) → error ≡ build_error.Limit → IfLimit error P → P
said_of_limit P error is h = subst (λ (e : BuildError). IfLimit e P) is h

-- each error of the text but want of memory is a fault
pub no_line_error : (text : List ℕ) (number : ℕ) → text ≡ text_of_number number → (error : LineError) → (error ≡ line_error.Memory → ⊥)
    → IsLineFaultOf error (line_of_text Slp1 text) → ⊥
no_line_error text number is (line_error.Spell fault) other h = text_has_no_fault text number is _ h
no_line_error text number is line_error.NoLetters other h = text_has_no_fault text number is _ h
no_line_error text number is line_error.TooLong other h = text_has_no_fault text number is _ h
no_line_error text number is line_error.Memory other h = other refl
