-- Answers to a line: a refusal for one reason, and what is told after the end.
use Rattle.std.proofs.Common.{◌≡◌, ℕ, true, false, Option, Some, None, is_some, Ok, Err, List, refl, sym, ◌∙◌, ap, subst, Bor}
use Rattle.lexicon_text_definitions.specs.FileFaults as faults
use Rattle.lexicon_text_definitions.specs.FileContents.{Told}
use Rattle.lexicon_text_definitions.specs.FileSteps.{Taken, take_end}
use Rattle.lexicon_text_definitions.proofs.LineSteps.{with_end, takes_end}
use Rattle.form_file.specs.declared.error.FileWhy.{FileWhy}
use Rattle.form_file.specs.declared.take_error.TakeError.{TakeError}
use Rattle.form_file.specs.declared.take_error.TakeError.TheVariants.{Why}
use Rattle.form_file.specs.Fields.{text_of_rest}
use Rattle.form_file.specs.Faults.{why_of}
use Rattle.form_file.specs.Told.{IsAnswer}

-- refused for this reason
pub refused_for : (A : Type 0) (taken : Taken) (error : TakeError) (why : FileWhy) (after : Told) → error ≡ Why why → taken ≡ Err (why_of why) → IsAnswer {A = A} taken (Err error) after
refused_for A taken error why after e t = subst (λ (err : TakeError). IsAnswer {A = A} taken (Err err) after) (sym e) t

pub no_rest : (rest : Option (Bor (List ℕ))) → is_some rest ≡ false → text_of_rest rest ≡ None
no_rest None h = refl
no_rest (Some text) h = absurd (cc)

end_with : (told : Told) (text : List ℕ) → take_end told (Some text) ≡ Err faults.Field
unfolding take_end
end_with told text = refl

pub end_refused : (told : Told) (rest : Option (Bor (List ℕ))) → is_some rest ≡ true → take_end told (text_of_rest rest) ≡ Err faults.Field
end_refused told None h = absurd (cc)
end_refused told (Some text) h = end_with told text.now

pub end_taken : (told old : Told) (rest : Option (Bor (List ℕ))) → is_some rest ≡ false → old ≡ told → take_end told (text_of_rest rest) ≡ Ok (with_end old)
end_taken told old rest h e = ap (take_end told) (no_rest rest h) ∙ takes_end told ∙ ap (λ t. Ok (with_end t)) (sym e)
