-- The answers to a rule's line of version 3, by its fields, the parts of the first, the sets of the others, and the words that the parts spell.
use Rattle.std.proofs.Common.{◌≡◌, ℕ, ◌≤◌, Bool, Option, Some, None, Ok, Err, List, [], ◌∷◌, ◌++◌, length, refl, sym, ◌∙◌, ap, arith}
use Rattle.std.specs.Prelude.{◌==◌}
use Rattle.std.proofs.lemmas.Bool.{ne_eqb}
use Rattle.std.proofs.lemmas.List.{length-append}
use Rattle.list_laws.specs.EmptyLists.{is_empty}
use Rattle.text_definitions.specs.Spellings.{Reading}
use Rattle.text_definitions.specs.Slp1.{word_of_slp1}
use Rattle.lexicon_text_definitions.specs.FileLines.{Shape, shape_of}
use Rattle.lexicon_text_definitions.proofs.LineCuts.{three_parts, field_from_shape}
use Rattle.trie_text_definitions.specs.LimitedRules.{set_told, set_after_told}
use Rattle.trie_text_definitions.specs.VersionFaults as faults
use Rattle.trie_text_definitions.specs.VersionSteps.{Told, Taken, take_limited, take_words, take_sets, take_shape, take_limited_rule}
use Rattle.form_file.specs.declared.take_error.TakeError as form_errors
use Rattle.form_file.specs.declared.take_error.TakeError.TheVariants as form_error_cases
use Rattle.form_file.specs.Words.{IsSpelled, word_of}
use Rattle.lexicon_file.specs.Faults.{why_of, why_from, take_error_from}
use Rattle.lexicon_file.specs.Parts.{parts_at, three_of}
use Rattle.lexicon_file.specs.Told.{IsAnswer}

-- a text is empty where its length is 0
empty_by_length : (v : List ℕ) (test : Bool) → test ≡ (length v == 0) → is_empty v ≡ test
empty_by_length [] test e = sym e
empty_by_length (x ∷ v) test e = sym (e ∙ ne_eqb (length (x ∷ v)) 0 (λ n. omega (arith, n)))

-- the set that is told of each word which is empty or not, as this one
pub told_of : (v : List ℕ) (test : Bool) (set : Option ℕ) (names : List (List ℕ)) (field : List ℕ) → test ≡ (length v == 0)
    → ((other : List ℕ) → is_empty other ≡ test → set ≡ set_after_told names other field) → set ≡ set_after_told names v field
told_of v test set names field e h = h v (empty_by_length v test e)

-- no part of the rule is longer than the text
pub parts_fit : (text field before after : List ℕ) (shape : Shape) → parts_at 32 text ≡ field ∷ before ∷ after ∷ [] → shape_of field ≡ Some shape
    → (length shape.u ≤ length text) × (length shape.v ≤ length text) × (length shape.w ≤ length text)
parts_fit text field before after shape e h =
    let whole = ap length (three_parts 32 text field before after e) in
    let first = length-append field (32 ∷ (before ++ 32 ∷ after)) in
    let long = ap length (field_from_shape field shape h) in
    let front = length-append shape.u (124 ∷ shape.v ++ 62 ∷ shape.w) in
    let back = length-append shape.v (62 ∷ shape.w) in
    (omega (arith, whole, first, long, front, back), omega (arith, whole, first, long, front, back), omega (arith, whole, first, long, front, back))

pub no_fields : (told : Told) (fields : List (List ℕ)) → three_of fields ≡ None → take_limited_rule told fields ≡ Err faults.Field
unfolding take_limited_rule
no_fields told [] h = refl
no_fields told (field ∷ []) h = refl
no_fields told (field ∷ before ∷ []) h = refl
no_fields told (field ∷ before ∷ after ∷ []) h = absurd (cc)
no_fields told (field ∷ before ∷ after ∷ more ∷ fields) h = refl

by_fields : (told : Told) (field before after : List ℕ) → take_limited_rule told (field ∷ before ∷ after ∷ []) ≡ take_shape told before after (shape_of field)
unfolding take_limited_rule
by_fields told field before after = refl

no_u : (told : Told) (k m : ℕ) (u v w : Reading) → word_of u ≡ None → take_words told k m u v w ≡ Err faults.Spelling
no_u told k m (Ok u) v w h = absurd (cc)
no_u told k m (Err fault) v w h = refl

no_v : (told : Told) (k m : ℕ) (u v w : Reading) → word_of v ≡ None → take_words told k m u v w ≡ Err faults.Spelling
no_v told k m (Err fault) v w h = refl
no_v told k m (Ok u) (Ok v) w h = absurd (cc)
no_v told k m (Ok u) (Err fault) w h = refl

no_w : (told : Told) (k m : ℕ) (u v w : Reading) → word_of w ≡ None → take_words told k m u v w ≡ Err faults.Spelling
no_w told k m (Err fault) v w h = refl
no_w told k m (Ok u) (Err fault) w h = refl
no_w told k m (Ok u) (Ok v) (Ok w) h = absurd (cc)
no_w told k m (Ok u) (Ok v) (Err fault) h = refl

by_words : (told : Told) (k m : ℕ) (u v w : Reading) (a b c : List ℕ) → word_of u ≡ Some a → word_of v ≡ Some b → word_of w ≡ Some c
    → take_words told k m u v w ≡ take_limited told (record { u = a; v = b; w = c; before = k; after = m })
by_words told k m (Err fault) v w a b c d e f = absurd (cc)
by_words told k m (Ok u) (Err fault) w a b c d e f = absurd (cc)
by_words told k m (Ok u) (Ok v) (Err fault) a b c d e f = absurd (cc)
by_words told k m (Ok u) (Ok v) (Ok w) a b c d e f =
    let first : u ≡ a = cc in
    let second : v ≡ b = cc in
    let third : w ≡ c = cc in
    λ i. take_limited told (record { u = first i; v = second i; w = third i; before = k; after = m })

-- where a reader refuses, the line is refused for the spelling, or memory is wanting
refused_by : (A : Type 0) (reading : Reading) (error : form_errors.TakeError) (taken : Taken) (after : Told) → IsSpelled reading (Err error) → (word_of reading ≡ None → taken ≡ Err faults.Spelling)
    → IsAnswer {A = A} taken (Err (take_error_from error)) after
refused_by A reading form_error_cases.Memory taken after r h = tt
refused_by A reading (form_error_cases.Why why) taken after r h = h r.1 ∙ ap (λ why. Err (why_of (why_from why))) (sym r.0)

module _ (told : Told) (fields : List (List ℕ)) (field before after : List ℕ) (cut : fields ≡ field ∷ before ∷ after ∷ []) where
  fields_taken : take_limited_rule told fields ≡ take_shape told before after (shape_of field)
  fields_taken = ap (take_limited_rule told) cut ∙ by_fields told field before after

  pub no_shape : shape_of field ≡ None → take_limited_rule told fields ≡ Err faults.Field
  no_shape h = fields_taken ∙ ap (take_shape told before after) h

  module _ (names : List (List ℕ)) (u v w : List ℕ) (named : names ≡ told.front.names) (shaped : shape_of field ≡ Some (record { u = u; v = v; w = w })) where
    shape_taken : take_limited_rule told fields ≡ take_sets told (record { u = u; v = v; w = w }) (set_told names before) (set_after_told names v after)
    shape_taken =
        fields_taken ∙ ap (take_shape told before after) shaped
        ∙ ap (λ (ns : List (List ℕ)). take_sets told (record { u = u; v = v; w = w }) (set_told ns before) (set_after_told ns v after)) (sym named)

    pub no_before : None ≡ set_told names before → take_limited_rule told fields ≡ Err faults.Field
    no_before h = shape_taken ∙ ap (λ (b : Option ℕ). take_sets told (record { u = u; v = v; w = w }) b (set_after_told names v after)) (sym h)

    pub no_after : (k : ℕ) → Some k ≡ set_told names before → None ≡ set_after_told names v after → take_limited_rule told fields ≡ Err faults.Field
    no_after k h n = shape_taken ∙ (λ i. take_sets told (record { u = u; v = v; w = w }) (sym h i) (sym n i))

    module _ (k m : ℕ) (is_before : Some k ≡ set_told names before) (is_after : Some m ≡ set_after_told names v after) where
      sets_taken : take_limited_rule told fields ≡ take_words told k m (word_of_slp1 u) (word_of_slp1 v) (word_of_slp1 w)
      sets_taken = shape_taken ∙ (λ i. take_sets told (record { u = u; v = v; w = w }) (sym is_before i) (sym is_after i))

      pub u_refused : (A : Type 0) (error : form_errors.TakeError) (after : Told) → IsSpelled (word_of_slp1 u) (Err error) → IsAnswer {A = A} (take_limited_rule told fields) (Err (take_error_from error)) after
      u_refused A error after r =
          refused_by A (word_of_slp1 u) error (take_limited_rule told fields) after r (λ n. sets_taken ∙ no_u told k m (word_of_slp1 u) (word_of_slp1 v) (word_of_slp1 w) n)

      pub v_refused : (A : Type 0) (error : form_errors.TakeError) (after : Told) → IsSpelled (word_of_slp1 v) (Err error) → IsAnswer {A = A} (take_limited_rule told fields) (Err (take_error_from error)) after
      v_refused A error after r =
          refused_by A (word_of_slp1 v) error (take_limited_rule told fields) after r (λ n. sets_taken ∙ no_v told k m (word_of_slp1 u) (word_of_slp1 v) (word_of_slp1 w) n)

      pub w_refused : (A : Type 0) (error : form_errors.TakeError) (after : Told) → IsSpelled (word_of_slp1 w) (Err error) → IsAnswer {A = A} (take_limited_rule told fields) (Err (take_error_from error)) after
      w_refused A error after r =
          refused_by A (word_of_slp1 w) error (take_limited_rule told fields) after r (λ n. sets_taken ∙ no_w told k m (word_of_slp1 u) (word_of_slp1 v) (word_of_slp1 w) n)

      -- where all three are read, the rule decides
      pub rule_decides : (a b c : List ℕ) → word_of (word_of_slp1 u) ≡ Some a → word_of (word_of_slp1 v) ≡ Some b → word_of (word_of_slp1 w) ≡ Some c
          → take_limited told (record { u = a; v = b; w = c; before = k; after = m }) ≡ take_limited_rule told fields
      rule_decides a b c d e f = sym (sets_taken ∙ by_words told k m (word_of_slp1 u) (word_of_slp1 v) (word_of_slp1 w) a b c d e f)
