-- One record more: what is read from the next record on is what is read from this one on, unless it is refused.
use Rattle.std.proofs.Common.{◌≡◌, ℕ, ◌+◌, Bool, true, false, Result, Ok, Err, List, [], ◌∷◌, sym, ◌∙◌, ap, subst}
use Rattle.morphology_definitions.specs.Inflection as inflection
use Rattle.paradigm_file_definitions.specs.Records.{FileResult, read_on, read_records}
use Rattle.paradigm_file_definitions.specs.TableFaults as tables
use Rattle.paradigm_file_definitions.specs.StemFaults as stems
use Rattle.paradigms.specs.declared.errors.TableWhy.{TableWhy}
use Rattle.paradigms.specs.declared.errors.TableError.{TableError}
use Rattle.paradigms.specs.declared.errors.StemWhy.{StemWhy}
use Rattle.paradigms.specs.declared.errors.StemError.{StemError}
use Rattle.paradigms.specs.declared.record_error.RecordError.{RecordError}
use Rattle.paradigms.specs.declared.record_error.RecordError.TheVariants.{Why, Memory}
use Rattle.paradigms.specs.Answers.{IsAnswer, IsTableFault, IsStemFault, table_error_of, stem_error_of, table_why, stem_why}
use Rattle.paradigms.specs.RecordsLeft.{IsNextOf}

-- the first of the records that are left; and the end, where no record is left
pub next_of : (old left : List (List (List ℕ))) (fields : List (List ℕ)) (found : Bool) → found ≡ true → IsNextOf old found fields left → old ≡ fields ∷ left
next_of old left fields found h next = subst (λ (found : Bool). IsNextOf old found fields left) h next

pub none_of : (old left : List (List (List ℕ))) (fields : List (List ℕ)) (found : Bool) → found ≡ false → IsNextOf old found fields left → old ≡ []
none_of old left fields found h next = subst (λ (found : Bool). IsNextOf old found fields left) h next

module _ {T V : Type 0} (take_record : ℕ → T → List (List ℕ) → Result T V) (number : ℕ) (told : T) (whole : FileResult T V) (old : List (List (List ℕ)))
    (reads : read_records take_record number told old ≡ whole) where
  -- what is read after a record that was taken
  pub reads_on : (fields : List (List ℕ)) (left : List (List (List ℕ))) (after : T) → old ≡ fields ∷ left → take_record number told fields ≡ Ok after
      → read_records take_record (number + 1) after left ≡ whole
  reads_on fields left after next taken =
      sym (ap (λ taken. read_on number taken (λ following. read_records take_record (number + 1) following left)) taken)
      ∙ sym (ap (read_records take_record number told) next) ∙ reads

  -- a record that is refused
  pub refused_at : (fields : List (List ℕ)) (left : List (List (List ℕ))) (why : V) → old ≡ fields ∷ left → take_record number told fields ≡ Err why
      → whole ≡ Err (record { number = number; why = why })
  refused_at fields left why next taken =
      sym reads ∙ ap (read_records take_record number told) next
      ∙ ap (λ taken. read_on number taken (λ following. read_records take_record (number + 1) following left)) taken

  -- after the last
  pub read_all : old ≡ [] → whole ≡ Ok told
  read_all none = sym reads ∙ ap (read_records take_record number told) none

pub table_fault : (A : Type 0) (take_record : ℕ → List inflection.Class → List (List ℕ) → Result (List inflection.Class) tables.TableWhy) (number : ℕ) (told after : List inflection.Class)
    (whole : FileResult (List inflection.Class) tables.TableWhy) (old left : List (List (List ℕ))) (fields : List (List ℕ)) (error : RecordError TableWhy) (answer : TableError)
    → read_records take_record number told old ≡ whole → old ≡ fields ∷ left → IsAnswer {A = A} table_why (take_record number told fields) (Err error) after → answer ≡ table_error_of number error
    → IsTableFault whole answer
table_fault A take_record number told after whole old left fields (Why why) answer reads next taken is =
    subst (IsTableFault whole) (sym is) (refused_at take_record number told whole old reads fields left (table_why why) next taken)
table_fault A take_record number told after whole old left fields Memory answer reads next taken is = subst (IsTableFault whole) (sym is) tt

pub stem_fault : (A : Type 0) (take_record : ℕ → List inflection.Stem → List (List ℕ) → Result (List inflection.Stem) stems.StemWhy) (number : ℕ) (told after : List inflection.Stem)
    (whole : FileResult (List inflection.Stem) stems.StemWhy) (old left : List (List (List ℕ))) (fields : List (List ℕ)) (error : RecordError StemWhy) (answer : StemError)
    → read_records take_record number told old ≡ whole → old ≡ fields ∷ left → IsAnswer {A = A} stem_why (take_record number told fields) (Err error) after → answer ≡ stem_error_of number error
    → IsStemFault whole answer
stem_fault A take_record number told after whole old left fields (Why why) answer reads next taken is =
    subst (IsStemFault whole) (sym is) (refused_at take_record number told whole old reads fields left (stem_why why) next taken)
stem_fault A take_record number told after whole old left fields Memory answer reads next taken is = subst (IsStemFault whole) (sym is) tt
