-- A text is read word by word: what is read of the rest comes after the steps so far, by cutting at the blanks.
use Rattle.std.proofs.Common.{◌≡◌, ℕ, Option, Some, None, List, [], ◌∷◌, ◌++◌, eqb, refl, sym, ◌∙◌, ap, append_assoc}
use Rattle.std.specs.List.{slice_split}
use Rattle.std.proofs.lemmas.List.Splits.{slice_split_at, slice_split_none}
use Rattle.list_laws.specs.Cuts.{cut}
use Rattle.list_laws.proofs.Marks.{bytes_apart_from}
use Rattle.list_laws.proofs.CutLaws.{cut_as}
use Rattle.chain_definitions.specs.ChainTexts.{Triple, WrittenForm, WrittenStep, form_of_text, change_between, change_at_end, step_with, step_before, steps_of_words, steps_of_text}

-- the words of a text between its blanks
abbrev pub words_at_blanks : List ℕ → List (List ℕ)
words_at_blanks text = slice_split (λ byte. eqb byte 32) text

-- the steps so far, and those that are still read
abbrev pub with_more : List WrittenStep → Option (List WrittenStep) → Option (List WrittenStep)
with_more steps None = None
with_more steps (Some more) = Some (steps ++ more)

-- what is read of the whole text, where these are the steps so far and this is the rest
abbrev pub AreStepsSoFar : List ℕ → List WrittenStep → List ℕ → Type 0
AreStepsSoFar text steps rest = with_more steps (steps_of_words (words_at_blanks rest)) ≡ steps_of_text text

-- ---- words

word_cut : (text front rest : List ℕ) → cut 32 text ≡ Some (front, rest) → words_at_blanks text ≡ front ∷ words_at_blanks rest
word_cut text front rest h =
    let is = cut_as 32 text (Some (front, rest)) h in
    ap words_at_blanks is.0 ∙ slice_split_at (λ byte. eqb byte 32) front 32 rest (bytes_apart_from 32 front is.1) refl

word_alone : (text : List ℕ) → cut 32 text ≡ None → words_at_blanks text ≡ text ∷ []
word_alone text h = slice_split_none (λ byte. eqb byte 32) text (bytes_apart_from 32 text (cut_as 32 text None h))

-- a text has a first word
record HasFirstWord (words : List (List ℕ)) : Type 0 where
  first : List ℕ
  others : List (List ℕ)
  is : words ≡ first ∷ others

first_by : (text : List ℕ) (parts : Option (List ℕ × List ℕ)) → cut 32 text ≡ parts → HasFirstWord (words_at_blanks text)
first_by text None h = record { first = text; others = []; is = word_alone text h }
first_by text (Some parts) h = record { first = parts.0; others = words_at_blanks parts.1; is = word_cut text parts.0 parts.1 h }

first_word : (text : List ℕ) → HasFirstWord (words_at_blanks text)
first_word text = first_by text (cut 32 text) refl

-- ---- the steps that words write

before_words : (form change : List ℕ) (words : List (List ℕ)) → HasFirstWord words
    → steps_of_words (form ∷ change ∷ words) ≡ step_before (step_with (form_of_text form) (change_between change)) (steps_of_words words)
before_words form change words has =
    ap (λ ws. steps_of_words (form ∷ change ∷ ws)) has.is
    ∙ ap (λ ws. step_before (step_with (form_of_text form) (change_between change)) (steps_of_words ws)) (sym has.is)

no_form : (form : List ℕ) (words : List (List ℕ)) → form_of_text form ≡ None → steps_of_words (form ∷ words) ≡ None
no_form form [] h = ap (λ f. step_before (step_with f (Some None)) (Some [])) h
no_form form (change ∷ []) h = ap (λ f. step_before (step_with f (change_at_end change)) (Some [])) h
no_form form (change ∷ next ∷ words) h =
    ap (λ f. step_before (step_with f (change_between change)) (steps_of_words (next ∷ words))) h

one_more : (steps : List WrittenStep) (step : WrittenStep) (more : Option (List WrittenStep))
    → with_more (steps ++ step ∷ []) more ≡ with_more steps (step_before (Some step) more)
one_more steps step None = refl
one_more steps step (Some more) = ap Some (append_assoc steps (step ∷ []) more)

-- ---- one form and change more

module _ (text rest form after : List ℕ) (steps : List WrittenStep) (so_far : AreStepsSoFar text steps rest)
    (cut_form : cut 32 rest ≡ Some (form, after)) where
  -- the form is refused
  pub form_refused : form_of_text form ≡ None → steps_of_text text ≡ None
  form_refused h =
      sym so_far
      ∙ ap (λ ws. with_more steps (steps_of_words ws)) (word_cut rest form after cut_form)
      ∙ ap (with_more steps) (no_form form (words_at_blanks after) h)

  module _ (read_form : WrittenForm) (form_is : form_of_text form ≡ Some read_form) where
    module _ (change following : List ℕ) (cut_change : cut 32 after ≡ Some (change, following)) where
      words_are : words_at_blanks rest ≡ form ∷ change ∷ words_at_blanks following
      words_are = word_cut rest form after cut_form ∙ ap (λ ws. form ∷ ws) (word_cut after change following cut_change)

      read_on : with_more steps (step_before (step_with (form_of_text form) (change_between change)) (steps_of_words (words_at_blanks following)))
          ≡ steps_of_text text
      read_on =
          sym (ap (λ ws. with_more steps (steps_of_words ws)) words_are
          ∙ ap (with_more steps) (before_words form change (words_at_blanks following) (first_word following)))
          ∙ so_far

      -- the change is refused
      pub change_refused : change_between change ≡ None → steps_of_text text ≡ None
      change_refused h =
          sym read_on
          ∙ (λ i. with_more steps (step_before (step_with (form_is i) (h i)) (steps_of_words (words_at_blanks following))))

      -- both are read
      pub step_read : (read_change : Option Triple) (new : List WrittenStep) → change_between change ≡ Some read_change
          → new ≡ steps ++ record { form = read_form; change = read_change } ∷ [] → AreStepsSoFar text new following
      step_read read_change new h is =
          ap (λ s. with_more s (steps_of_words (words_at_blanks following))) is
          ∙ one_more steps (record { form = read_form; change = read_change }) (steps_of_words (words_at_blanks following))
          ∙ (λ i. with_more steps (step_before (step_with (sym form_is i) (sym h i)) (steps_of_words (words_at_blanks following))))
          ∙ read_on

    module _ (cut_change : cut 32 after ≡ None) where
      last_words : words_at_blanks rest ≡ form ∷ after ∷ []
      last_words = word_cut rest form after cut_form ∙ ap (λ ws. form ∷ ws) (word_alone after cut_change)

      read_last : with_more steps (step_before (step_with (form_of_text form) (change_at_end after)) (Some [])) ≡ steps_of_text text
      read_last = sym (ap (λ ws. with_more steps (steps_of_words ws)) last_words) ∙ so_far

      -- what stands after the last form is refused
      pub end_refused : change_at_end after ≡ None → steps_of_text text ≡ None
      end_refused h = sym read_last ∙ (λ i. with_more steps (step_before (step_with (form_is i) (h i)) (Some [])))

      -- it is read
      pub end_read : (read_change : Option Triple) (new : List WrittenStep) → change_at_end after ≡ Some read_change
          → new ≡ steps ++ record { form = read_form; change = read_change } ∷ [] → steps_of_text text ≡ Some new
      end_read read_change new h is =
          sym read_last ∙ (λ i. with_more steps (step_before (step_with (form_is i) (h i)) (Some []))) ∙ ap Some (sym is)

-- ---- the last form, with no change after it

module _ (text rest : List ℕ) (steps : List WrittenStep) (so_far : AreStepsSoFar text steps rest) (alone : cut 32 rest ≡ None) where
  read_alone : with_more steps (step_before (step_with (form_of_text rest) (Some None)) (Some [])) ≡ steps_of_text text
  read_alone = sym (ap (λ ws. with_more steps (steps_of_words ws)) (word_alone rest alone)) ∙ so_far

  pub last_refused : form_of_text rest ≡ None → steps_of_text text ≡ None
  last_refused h = sym read_alone ∙ ap (λ f. with_more steps (step_before (step_with f (Some None)) (Some []))) h

  pub last_read : (read_form : WrittenForm) (new : List WrittenStep) → form_of_text rest ≡ Some read_form
      → new ≡ steps ++ record { form = read_form; change = None } ∷ [] → steps_of_text text ≡ Some new
  last_read read_form new h is =
      sym read_alone ∙ ap (λ f. with_more steps (step_before (step_with f (Some None)) (Some []))) h ∙ ap Some (sym is)

-- ---- no step yet

started : (told : Option (List WrittenStep)) → with_more [] told ≡ told
started None = refl
started (Some steps) = refl

pub first_steps : (text : List ℕ) → AreStepsSoFar text [] text
unfolding steps_of_text
first_steps text = started (steps_of_words (words_at_blanks text))
