-- A form and a change are read part by part: where one part is refused, nothing is read of the whole.
use Rattle.std.proofs.Common.{◌≡◌, ◌≢◌, ℕ, ◌<◌, ◌≤◌, Bool, true, false, cond, Option, Some, None, List, [], ◌∷◌, length, get_or, drop, codes, refl, sym, ◌∙◌, ap, arith}
use Rattle.std.specs.Prelude.{option_and_then}
use Rattle.std.specs.Str.{bytes_eq}
use Rattle.std.proofs.lemmas.Bool.{eq-eqb, ne_eqb}
use Rattle.list_laws.specs.Cuts.{cut}
use Rattle.list_laws.specs.EmptyLists.{is_empty}
use Rattle.text_definitions.specs.Slp1.{word_of_slp1}
use Rattle.lexicon_definitions.specs.PhaseNames.{is_phase_name}
use Rattle.chain_definitions.specs.ChainTexts.{Triple, some_word, closed_by, form_with, form_of_parts, form_of_text, if_inner, if_final, triple_of_notation, triple_of_text, change_between, change_at_end}

-- ---- forms

nameless : (letters : Option (List ℕ)) → form_with letters None ≡ None
nameless None = refl
nameless (Some letters) = refl

misnamed : (letters : Option (List ℕ)) (name : List ℕ) → is_phase_name name ≡ false → form_with letters (Some name) ≡ None
misnamed None name h = refl
misnamed (Some letters) name h = ap (λ b. cond b (Some (record { letters = letters; name = name })) None) h

pub no_parts : (text : List ℕ) → cut 91 text ≡ None → form_of_text text ≡ None
unfolding form_of_text
no_parts text h = ap form_of_parts h

module _ (text letters rest : List ℕ) (parted : cut 91 text ≡ Some (letters, rest)) where
  with_parts : form_of_text text ≡ form_with (some_word (word_of_slp1 letters)) (closed_by 93 rest)
  unfolding form_of_text
  with_parts = ap form_of_parts parted

  pub no_end : closed_by 93 rest ≡ None → form_of_text text ≡ None
  no_end h = with_parts ∙ ap (form_with (some_word (word_of_slp1 letters))) h ∙ nameless (some_word (word_of_slp1 letters))

  module _ (name : List ℕ) (closed : closed_by 93 rest ≡ Some name) where
    with_name : form_of_text text ≡ form_with (some_word (word_of_slp1 letters)) (Some name)
    with_name = with_parts ∙ ap (form_with (some_word (word_of_slp1 letters))) closed

    pub no_name : is_phase_name name ≡ false → form_of_text text ≡ None
    no_name h = with_name ∙ misnamed (some_word (word_of_slp1 letters)) name h

    pub no_letters : some_word (word_of_slp1 letters) ≡ None → form_of_text text ≡ None
    no_letters h = with_name ∙ ap (λ word. form_with word (Some name)) h

    pub form_read : (word : List ℕ) → is_phase_name name ≡ true → some_word (word_of_slp1 letters) ≡ Some word
        → form_of_text text ≡ Some (record { letters = word; name = name })
    form_read word named h =
        with_name ∙ ap (λ w. form_with w (Some name)) h ∙ ap (λ b. cond b (Some (record { letters = word; name = name })) None) named

-- ---- rules between brackets

pub no_bracket : (text : List ℕ) → length text < 1 → triple_of_text text ≡ None
unfolding triple_of_text
no_bracket [] h = refl
no_bracket (byte ∷ text) h = absurd (omega (arith, h))

pub other_bracket : (text : List ℕ) → 1 ≤ length text → get_or text 0 0 ≢ 40 → triple_of_text text ≡ None
unfolding triple_of_text
other_bracket [] some n = refl
other_bracket (byte ∷ text) some n = ap (λ b. cond b (option_and_then triple_of_notation (closed_by 41 text)) None) (ne_eqb byte 40 n)

with_bracket : (text : List ℕ) → 1 ≤ length text → get_or text 0 0 ≡ 40
    → triple_of_text text ≡ option_and_then triple_of_notation (closed_by 41 (drop 1 text))
unfolding triple_of_text
with_bracket [] some e = absurd (omega (arith, some))
with_bracket (byte ∷ text) some e = ap (λ b. cond b (option_and_then triple_of_notation (closed_by 41 text)) None) (eq-eqb byte 40 e)

module _ (text : List ℕ) (some : 1 ≤ length text) (opened : get_or text 0 0 ≡ 40) where
  pub not_closed : closed_by 41 (drop 1 text) ≡ None → triple_of_text text ≡ None
  not_closed h = with_bracket text some opened ∙ ap (option_and_then triple_of_notation) h

  pub notation_is : (notation : List ℕ) → closed_by 41 (drop 1 text) ≡ Some notation → triple_of_text text ≡ triple_of_notation notation
  notation_is notation h = with_bracket text some opened ∙ ap (option_and_then triple_of_notation) h

-- ---- changes

inner_refused : (triple : Triple) → triple.v ≢ [] → if_final triple ≡ None
inner_refused triple n = by triple.v n
  where
    by : (v : List ℕ) → v ≢ [] → if_final (record { u = triple.u; v = v; w = triple.w }) ≡ None
    by [] n = absurd (n refl)
    by (letter ∷ v) n = refl

inner_taken : (triple : Triple) → triple.v ≢ [] → if_inner triple ≡ Some (Some triple)
inner_taken triple n = by triple.v n
  where
    by : (v : List ℕ) → v ≢ [] → if_inner (record { u = triple.u; v = v; w = triple.w }) ≡ Some (Some (record { u = triple.u; v = v; w = triple.w }))
    by [] n = absurd (n refl)
    by (letter ∷ v) n = refl

module _ (text : List ℕ) where
  pub end_refused : triple_of_text text ≡ None → change_at_end text ≡ None
  unfolding change_at_end
  end_refused h = ap (option_and_then if_final) h

  module _ (triple : Triple) (read : triple_of_text text ≡ Some triple) where
    pub end_read : triple.v ≡ [] → change_at_end text ≡ Some (Some triple)
    unfolding change_at_end
    end_read none = ap (option_and_then if_final) read ∙ ap (λ v. cond (is_empty v) (Some (Some triple)) None) none

    pub end_inner : triple.v ≢ [] → change_at_end text ≡ None
    unfolding change_at_end
    end_inner some = ap (option_and_then if_final) read ∙ inner_refused triple some

  -- the test for `+`
  module _ (wanted : List ℕ) (test : Bool) (tested : test ≡ bytes_eq text wanted) (wanted_is : wanted ≡ 43 ∷ []) where
    plus : (b : Bool) → test ≡ b → bytes_eq text (codes "+") ≡ b
    plus b e = ap (λ (w : List ℕ). bytes_eq text w) (sym wanted_is) ∙ sym tested ∙ e

    pub unchanged : test ≡ true → change_between text ≡ Some None
    unfolding change_between
    unchanged e = ap (λ b. cond b (Some None) (option_and_then if_inner (triple_of_text text))) (plus true e)

    module _ (differs : test ≡ false) where
      changed : change_between text ≡ option_and_then if_inner (triple_of_text text)
      unfolding change_between
      changed = ap (λ b. cond b (Some None) (option_and_then if_inner (triple_of_text text))) (plus false differs)

      pub between_refused : triple_of_text text ≡ None → change_between text ≡ None
      between_refused h = changed ∙ ap (option_and_then if_inner) h

      module _ (triple : Triple) (read : triple_of_text text ≡ Some triple) where
        pub between_final : triple.v ≡ [] → change_between text ≡ None
        between_final none = changed ∙ ap (option_and_then if_inner) read ∙ ap (λ v. cond (is_empty v) None (Some (Some triple))) none

        pub between_read : triple.v ≢ [] → change_between text ≡ Some (Some triple)
        between_read some = changed ∙ ap (option_and_then if_inner) read ∙ inner_taken triple some
