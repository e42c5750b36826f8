-- The answers to a line of a rule, by the field and the three words that its parts spell.
use Rattle.std.proofs.Common.{◌≡◌, ℕ, ◌≤◌, Bool, false, ◌||◌, ◌↔◌, IsTrue, Some, None, Ok, Err, List, [], ◌∷◌, ◌++◌, length, refl, sym, ◌∙◌, ap, arith}
use Rattle.std.specs.List.{join_with_byte, list_any}
use Rattle.std.proofs.lemmas.List.{length-append}
use Rattle.std.proofs.lemmas.List.Splits.{join_with_byte-slice_split}
use Rattle.list_laws.specs.EmptyLists.{is_empty}
use Rattle.list_laws.proofs.Booleans.{when_false}
use Rattle.lexicon_definitions.specs.Rules.{Rule, unlimited_rule}
use Rattle.text_definitions.specs.Spellings.{Reading}
use Rattle.text_definitions.specs.Slp1.{word_of_slp1}
use Rattle.lexicon_text_definitions.specs.FileFaults as faults
use Rattle.lexicon_text_definitions.specs.FileLines as lines
use Rattle.lexicon_text_definitions.specs.FileLines.{fields_of, Shape, shape_of}
use Rattle.lexicon_text_definitions.specs.FileContents.{Told, has_triple}
use Rattle.lexicon_text_definitions.specs.FileSteps.{Taken, passes_rule_limits, take_triple, take_words, take_shape, take_rule}
use Rattle.lexicon_text_definitions.proofs.LineCuts.{field_from_shape}
use Rattle.form_file.specs.declared.take_error.TakeError.{TakeError}
use Rattle.form_file.specs.declared.take_error.TakeError.TheVariants.{Why, Memory}
use Rattle.form_file.specs.Added.{has_twin}
use Rattle.form_file.specs.Fields.{one_of}
use Rattle.form_file.specs.Faults.{why_of}
use Rattle.form_file.specs.Words.{IsSpelled, word_of}
use Rattle.form_file.specs.Told.{IsAnswer}

-- ---- no part is longer than the text

one_fits : (text field : List ℕ) → fields_of (Some text) ≡ field ∷ [] → length field ≡ length text
one_fits text field e = ap length (ap (join_with_byte 32) (sym e) ∙ join_with_byte-slice_split 32 text)

pub parts_fit : (text field : List ℕ) (shape : Shape) → fields_of (Some text) ≡ field ∷ [] → shape_of field ≡ Some shape
    → (length shape.u ≤ length text) × (length shape.v ≤ length text) × (length shape.w ≤ length text)
parts_fit text field shape e h =
    let whole = one_fits text field e in
    let long = ap length (field_from_shape field shape h) in
    let front = length-append shape.u (124 ∷ shape.v ++ 62 ∷ shape.w) in
    let back = length-append shape.v (62 ∷ shape.w) in
    (omega (arith, whole, long, front, back), omega (arith, whole, long, front, back), omega (arith, whole, long, front, back))

-- ---- answers

pub no_field : (told : Told) (fields : List (List ℕ)) → one_of fields ≡ None → take_rule told fields ≡ Err faults.Field
unfolding take_rule
no_field told [] h = refl
no_field told (field ∷ []) h = absurd (cc)
no_field told (field ∷ other ∷ fields) h = refl

field_taken : (told : Told) (field : List ℕ) → take_rule told (field ∷ []) ≡ take_shape told (shape_of field)
unfolding take_rule
field_taken told field = refl

pub no_shape : (told : Told) (fields : List (List ℕ)) (field : List ℕ) → fields ≡ field ∷ [] → shape_of field ≡ None → take_rule told fields ≡ Err faults.Field
no_shape told fields field e h = ap (take_rule told) e ∙ field_taken told field ∙ ap (take_shape told) h

pub shape_taken : (told : Told) (fields : List (List ℕ)) (field u v w : List ℕ) → fields ≡ field ∷ [] → shape_of field ≡ Some (record { u = u; v = v; w = w })
    → take_rule told fields ≡ take_words told (word_of_slp1 u) (word_of_slp1 v) (word_of_slp1 w)
shape_taken told fields field u v w e h = ap (take_rule told) e ∙ field_taken told field ∙ ap (take_shape told) h

no_u : (told : Told) (u v w : Reading) → word_of u ≡ None → take_words told u v w ≡ Err faults.Spelling
no_u told (Ok u) v w h = absurd (cc)
no_u told (Err fault) v w h = refl

no_v : (told : Told) (u v w : Reading) → word_of v ≡ None → take_words told u v w ≡ Err faults.Spelling
no_v told (Err fault) v w h = refl
no_v told (Ok u) (Ok v) w h = absurd (cc)
no_v told (Ok u) (Err fault) w h = refl

no_w : (told : Told) (u v w : Reading) → word_of w ≡ None → take_words told u v w ≡ Err faults.Spelling
no_w told (Err fault) v w h = refl
no_w told (Ok u) (Err fault) w h = refl
no_w told (Ok u) (Ok v) (Ok w) h = absurd (cc)
no_w told (Ok u) (Ok v) (Err fault) h = refl

words_by : (told : Told) (u v w : Reading) (a b c : List ℕ) → word_of u ≡ Some a → word_of v ≡ Some b → word_of w ≡ Some c → take_words told u v w ≡ take_triple told a b c
words_by told (Err fault) v w a b c d e f = absurd (cc)
words_by told (Ok u) (Err fault) w a b c d e f = absurd (cc)
words_by told (Ok u) (Ok v) (Err fault) a b c d e f = absurd (cc)
words_by told (Ok u) (Ok v) (Ok w) a b c d e f =
    let first : u ≡ a = cc in
    let second : v ≡ b = cc in
    let third : w ≡ c = cc in
    λ i. take_triple told (first i) (second i) (third i)

-- where a reader refuses, the line is refused for the spelling, or memory is wanting
refused_by : (A : Type 0) (reading : Reading) (error : TakeError) (taken : Taken) (after : Told) → IsSpelled reading (Err error) → (word_of reading ≡ None → taken ≡ Err faults.Spelling)
    → IsAnswer {A = A} taken (Err error) after
refused_by A reading Memory taken after r h = tt
refused_by A reading (Why why) taken after r h = h r.1 ∙ ap (λ why. Err (why_of why)) (sym r.0)

pub u_refused : (A : Type 0) (told after : Told) (fields : List (List ℕ)) (field u v w : List ℕ) (error : TakeError) → fields ≡ field ∷ []
    → shape_of field ≡ Some (record { u = u; v = v; w = w }) → IsSpelled (word_of_slp1 u) (Err error) → IsAnswer {A = A} (take_rule told fields) (Err error) after
u_refused A told after fields field u v w error e h r =
    refused_by A (word_of_slp1 u) error (take_rule told fields) after r
    (λ n. shape_taken told fields field u v w e h ∙ no_u told (word_of_slp1 u) (word_of_slp1 v) (word_of_slp1 w) n)

pub v_refused : (A : Type 0) (told after : Told) (fields : List (List ℕ)) (field u v w : List ℕ) (error : TakeError) → fields ≡ field ∷ []
    → shape_of field ≡ Some (record { u = u; v = v; w = w }) → IsSpelled (word_of_slp1 v) (Err error) → IsAnswer {A = A} (take_rule told fields) (Err error) after
v_refused A told after fields field u v w error e h r =
    refused_by A (word_of_slp1 v) error (take_rule told fields) after r
    (λ n. shape_taken told fields field u v w e h ∙ no_v told (word_of_slp1 u) (word_of_slp1 v) (word_of_slp1 w) n)

pub w_refused : (A : Type 0) (told after : Told) (fields : List (List ℕ)) (field u v w : List ℕ) (error : TakeError) → fields ≡ field ∷ []
    → shape_of field ≡ Some (record { u = u; v = v; w = w }) → IsSpelled (word_of_slp1 w) (Err error) → IsAnswer {A = A} (take_rule told fields) (Err error) after
w_refused A told after fields field u v w error e h r =
    refused_by A (word_of_slp1 w) error (take_rule told fields) after r
    (λ n. shape_taken told fields field u v w e h ∙ no_w told (word_of_slp1 u) (word_of_slp1 v) (word_of_slp1 w) n)

-- where all three are read, the triple decides
pub triple_decides : (told : Told) (fields : List (List ℕ)) (field u v w a b c : List ℕ) → fields ≡ field ∷ [] → shape_of field ≡ Some (record { u = u; v = v; w = w })
    → word_of (word_of_slp1 u) ≡ Some a → word_of (word_of_slp1 v) ≡ Some b → word_of (word_of_slp1 w) ≡ Some c → take_triple told a b c ≡ take_rule told fields
triple_decides told fields field u v w a b c e h d f g =
    sym (shape_taken told fields field u v w e h ∙ words_by told (word_of_slp1 u) (word_of_slp1 v) (word_of_slp1 w) a b c d f g)

-- ---- a triple

pub filled : (test : Bool) (letters : List ℕ) → (IsTrue test ↔ letters ≡ []) → test ≡ false → is_empty letters ≡ false
filled test [] h e = sym (h.1 refl) ∙ e
filled test (letter ∷ letters) h e = refl

-- one that is strict, within the limits and new goes last
pub triple_told : (kept told : Told) (u v w : List ℕ) (count : ℕ) (before after : List Rule) (rule : Rule) → kept ≡ told → before ≡ kept.rules → is_empty u ≡ false → is_empty w ≡ false
    → passes_rule_limits told u v w ≡ false → length told.names ≡ count → rule ≡ unlimited_rule count u v w → has_twin before rule ≡ false → after ≡ before ++ rule ∷ []
    → take_triple told u v w ≡ Ok (record kept { last = lines.Rule; rules = after })
triple_told kept told u v w count before after rule view same some_u some_w within many is new added =
    let unlimited : rule ≡ unlimited_rule (length told.names) u v w = is ∙ ap (λ n. unlimited_rule n u v w) (sym many) in
    let rules : before ≡ told.rules = same ∙ ap (λ (t : Told). t.rules) view in
    let other : list_any (has_triple u v w) told.rules ≡ false = ap (list_any (has_triple u v w)) (sym rules) ∙ sym (ap (has_twin before) unlimited) ∙ new in
    let more : told.rules ++ unlimited_rule (length told.names) u v w ∷ [] ≡ after = (λ i. sym rules i ++ sym unlimited i ∷ []) ∙ sym added in
    when_false (is_empty u || is_empty w) _ _ _ (λ i. some_u i || some_w i)
    (when_false (passes_rule_limits told u v w) _ _ _ within
    (when_false (list_any (has_triple u v w) told.rules) _ _ _ other (λ i. Ok (record (sym view i) { last = lines.Rule; rules = more i }))))
