-- The tests of a row's fields one after another: each that fails is the reason, and where all pass the row is taken.
use Rattle.std.proofs.Common.{◌≡◌, ℕ, Option, Some, None, Ok, Err, List, refl, sym, ◌∙◌, ap}
use Rattle.std.specs.List.{position}
use Rattle.std.specs.Str.{bytes_eq}
use Rattle.std.proofs.lemmas.Bool.{false_from_ne_true}
use Rattle.text_definitions.specs.Spellings.{Reading, SpellingFault}
use Rattle.lexicon_definitions.specs.Tags.{IsTagText}
use Rattle.lexicon_text_definitions.specs.FileContents.{is_tag_text}
use Rattle.lexicon_text_definitions.proofs.TagTests.{tag_from_test, test_from_tag}
use Rattle.morphology_definitions.specs.Inflection.{Class, Row}
use Rattle.paradigm_file_definitions.specs.TableFaults as tables
use Rattle.paradigm_file_definitions.specs.TableFiles.{TakenTable, take_cut, take_phase, take_affixes, take_row}
use Rattle.paradigms.specs.declared.errors.TableWhy.{TableWhy}
use Rattle.paradigms.specs.declared.errors.TableWhy.TheVariants.{Spelling}
use Rattle.paradigms.specs.declared.record_error.RecordError.{RecordError}
use Rattle.paradigms.specs.declared.record_error.RecordError.TheVariants.{Why, Memory}
use Rattle.paradigms.specs.Answers.{IsRead, IsSpelled, table_why}
use Rattle.paradigms.specs.Rows.{text_row}
use Rattle.list_laws.proofs.Booleans.{when_true, when_false}

module _ (phases : List (List ℕ)) (number : ℕ) (classes : List Class) (name tag phase prefix ending : List ℕ) where
  pub no_cut : (cut : Option ℕ) → cut ≡ None → take_cut phases number classes name tag phase cut prefix ending ≡ Err tables.Fields
  no_cut None e = refl
  no_cut (Some cut) e = absurd (cc (e))

  pub no_tag : (cut : Option ℕ) (value : ℕ) → cut ≡ Some value → (IsTagText tag → ⊥) → take_cut phases number classes name tag phase cut prefix ending ≡ Err tables.Tag
  no_tag cut value e n =
      ap (λ (cut : Option ℕ). take_cut phases number classes name tag phase cut prefix ending) e
      ∙ when_false (is_tag_text tag) _ _ _ (false_from_ne_true (is_tag_text tag) (λ test. n (tag_from_test tag test))) refl

  -- the tag is one
  pub tagged : (cut : Option ℕ) (value : ℕ) (place : Option ℕ) → cut ≡ Some value → IsTagText tag → place ≡ position (bytes_eq phase) phases
      → take_cut phases number classes name tag phase cut prefix ending ≡ take_phase number classes name tag value place prefix ending
  tagged cut value place e text p =
      ap (λ (cut : Option ℕ). take_cut phases number classes name tag phase cut prefix ending) e
      ∙ when_true (is_tag_text tag) _ _ _ (test_from_tag tag text) refl ∙ ap (λ (place : Option ℕ). take_phase number classes name tag value place prefix ending) (sym p)

module _ (number : ℕ) (classes : List Class) (name tag : List ℕ) (cut phase : ℕ) where
  no_prefix : (prefix ending : Reading) (fault : SpellingFault) → prefix ≡ Err fault → take_affixes number classes name tag cut phase prefix ending ≡ Err tables.Spelling
  no_prefix (Ok prefix) ending fault e = absurd (cc (e))
  no_prefix (Err why) ending fault e = refl

  no_ending : (prefix ending : Reading) (fault : SpellingFault) → ending ≡ Err fault → take_affixes number classes name tag cut phase prefix ending ≡ Err tables.Spelling
  no_ending (Ok prefix) (Ok ending) fault e = absurd (cc (e))
  no_ending (Ok prefix) (Err why) fault e = refl
  no_ending (Err why) ending fault e = refl

  -- the prefix is not spelled
  pub prefix_refused : (prefix ending : Reading) (why : TableWhy) → IsSpelled prefix Spelling (Err (Why why)) → take_affixes number classes name tag cut phase prefix ending ≡ Err (table_why why)
  prefix_refused prefix ending why h = no_prefix prefix ending h.1.0 h.1.1 ∙ ap (λ (why : TableWhy). Err (table_why why)) (sym h.0)

  -- the ending is not spelled
  pub ending_refused : (prefix ending : Reading) (why : TableWhy) → IsSpelled ending Spelling (Err (Why why)) → take_affixes number classes name tag cut phase prefix ending ≡ Err (table_why why)
  ending_refused prefix ending why h = no_ending prefix ending h.1.0 h.1.1 ∙ ap (λ (why : TableWhy). Err (table_why why)) (sym h.0)

  -- both are spelled
  pub affixes : (prefix ending : Reading) (before after : List ℕ) → prefix ≡ Ok before → ending ≡ Ok after
      → take_affixes number classes name tag cut phase prefix ending ≡ take_row number classes name (record { tag = tag; phase = phase; prefix = before; cut = cut; ending = after })
  affixes prefix ending before after p e = λ i. take_affixes number classes name tag cut phase (p i) (e i)

-- a word that is not read refuses the row, where the reason does
pub word_refused : (following : Row → TakenTable) (taken : TakenTable) (reading : Reading) (error : RecordError TableWhy) → IsSpelled reading Spelling (Err error)
    → ((why : TableWhy) → IsSpelled reading Spelling (Err (Why why)) → taken ≡ Err (table_why why)) → IsRead table_why text_row following taken (Err error)
word_refused following taken reading (Why why) h refused = refused why h
word_refused following taken reading Memory h refused = tt
