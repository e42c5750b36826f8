-- What an entry stands for, by its fields and its notation, and what is read of the entries from it on.
use Rattle.std.proofs.Common.{◌≡◌, ℕ, ◌+◌, Some, None, Result, Ok, Err, List, ◌∷◌, sym, ◌∙◌, ap}
use Rattle.toml.specs.Data.{Members}
use Rattle.lexicon_definitions.specs.Rules.{Rule}
use Rattle.rule_file_definitions.specs.EntryWhys.{Why, Shape}
use Rattle.rule_file_definitions.specs.RuleFileFaults.{Fault}
use Rattle.rule_file_definitions.specs.RuleNotations.{Notation, notation_of}
use Rattle.rule_file_definitions.specs.EntryPhases.{Fields, fields_of}
use Rattle.rule_file_definitions.specs.RuleEntries.{rules_of_notation, rules_of_fields, rules_of_entry, add_rules, add_read, add_entry, then_entries, add_entries}
use Rattle.rule_file.specs.declared.entry_error.EntryError.{EntryError}
use Rattle.rule_file.specs.declared.entry_error.EntryError.TheVariants.{Why as ErrorWhy, Memory as WantOfMemory}
use Rattle.rule_file.specs.Faults.{IfWhy, IsFaultOf}

module _ (names : List (List ℕ)) (classes : Members) (entry : List ℕ) where
  pub no_fields : fields_of entry ≡ None → rules_of_entry names classes entry ≡ Err Shape
  unfolding rules_of_entry
  no_fields e = ap (rules_of_fields names classes) e

  by_fields : (fields : Fields) → fields_of entry ≡ Some fields → rules_of_entry names classes entry ≡ rules_of_notation names classes fields.limits (notation_of fields.notation)
  unfolding rules_of_entry
  by_fields fields e = ap (rules_of_fields names classes) e

  pub no_notation : (fields : Fields) → fields_of entry ≡ Some fields → notation_of fields.notation ≡ None → rules_of_entry names classes entry ≡ Err Shape
  no_notation fields d e = by_fields fields d ∙ ap (rules_of_notation names classes fields.limits) e

  pub by_notation : (fields : Fields) (notation : Notation) → fields_of entry ≡ Some fields → notation_of fields.notation ≡ Some notation
      → rules_of_entry names classes entry ≡ rules_of_notation names classes fields.limits (Some notation)
  by_notation fields notation d e = by_fields fields d ∙ ap (rules_of_notation names classes fields.limits) e

  pub entry_refused : (earlier : List Rule) (why : Why) → rules_of_entry names classes entry ≡ Err why → add_entry names classes earlier entry ≡ Err why
  unfolding add_entry
  entry_refused earlier why e = ap (add_read earlier) e

  pub entry_read : (earlier rules : List Rule) → rules_of_entry names classes entry ≡ Ok rules → add_entry names classes earlier entry ≡ add_rules earlier rules
  unfolding add_entry
  entry_read earlier rules e = ap (add_read earlier) e

-- one entry more: its rules are added, or the file has the fault of this entry
module _ (names : List (List ℕ)) (classes : Members) (earlier : List Rule) (number : ℕ) (left rest : List (List ℕ)) (entry : List ℕ) (whole : Result (List Rule) Fault)
    (first : left ≡ entry ∷ rest) (reads : add_entries names classes earlier number left ≡ whole) where
  on_from : then_entries number (add_entry names classes earlier entry) (λ more. add_entries names classes more (number + 1) rest) ≡ whole
  on_from = sym (ap (add_entries names classes earlier number) first) ∙ reads

  pub entry_turn : (more : List Rule) → add_entry names classes earlier entry ≡ Ok more → add_entries names classes more (number + 1) rest ≡ whole
  entry_turn more e = sym (ap (λ read. then_entries number read (λ more. add_entries names classes more (number + 1) rest)) e) ∙ on_from

  pub entry_fault : (fault : Fault) (error : EntryError) → IsFaultOf fault number error → IfWhy error (λ why. add_entry names classes earlier entry ≡ Err why) → whole ≡ Err fault
  entry_fault fault (ErrorWhy why) is told =
      sym on_from ∙ ap (λ read. then_entries number read (λ more. add_entries names classes more (number + 1) rest)) told ∙ ap Err (sym is)
  entry_fault fault WantOfMemory is told = absurd is
