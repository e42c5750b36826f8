-- What is taken of a record is what follows from what was read in it.
use Rattle.std.proofs.Common.{◌≡◌, Result, Err, sym, ◌∙◌, subst}
use Rattle.paradigms.specs.declared.record_error.RecordError.{RecordError}
use Rattle.paradigms.specs.declared.record_error.RecordError.TheVariants.{Why, Memory}
use Rattle.paradigms.specs.Answers.{IsRead, IsAnswer}

module _ {W V T : Type 0} (named : W → V) where
  -- what was not read is the answer
  pub refused : (A B C : Type 0) (view : A → B) (following : B → Result T V) (taken whole : Result T V) (error : RecordError W) (after : T) → whole ≡ taken
      → IsRead {A = A} named view following taken (Err error) → IsAnswer {A = C} named whole (Err error) after
  refused A B C view following taken whole (Why why) after same h = same ∙ h
  refused A B C view following taken whole Memory after same h = tt

  -- an answer to the same
  pub moved : (A : Type 0) (taken whole : Result T V) (result : Result A (RecordError W)) (after : T) → whole ≡ taken → IsAnswer named taken result after → IsAnswer named whole result after
  moved A taken whole result after same h = subst (λ taken. IsAnswer named taken result after) (sym same) h
