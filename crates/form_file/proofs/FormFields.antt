-- The answers to a line of a form, by its four fields: the phase's number, the tag, and the two words that are spelled.
use Rattle.std.proofs.Common.{IsTrue, true, false, ◌≡◌, ℕ, ◌<◌, ◌≤◌, Option, Some, None, Result, Ok, Err, ◌≢◌, ◌+◌, ◌-◌, List, [], ◌∷◌, ◌++◌, All, take, drop, length, slice_index_or, refl, sym, ◌∙◌, ap, subst, arith}
use Rattle.std.specs.List.{AllByRecursion, join_with_byte, position}
use Rattle.std.specs.Str.{bytes_eq}
use Rattle.std.proofs.lemmas.Bool.{eqb-false, false≢true, false_from_ne_true}
use Rattle.std.proofs.lemmas.List.{length-append, take-append-drop, drop_more, take_rest}
use Rattle.std.proofs.lemmas.List.Elements.{All-from_recursion}
use Rattle.std.proofs.lemmas.List.Splits.{join_with_byte-slice_split}
use Rattle.text_definitions.specs.Spellings.{Reading}
use Rattle.text_definitions.specs.Words.{IsWord}
use Rattle.text_definitions.specs.Slp1.{word_of_slp1, slp1_of_word}
use Rattle.text_definitions.proofs.SpelledWords.{spelled_from_read, word_from_read, read_from_spelled, free_of_blank}
use Rattle.lexicon_definitions.specs.Lexicons.{IsPhaseName}
use Rattle.lexicon_definitions.specs.Tags.{IsTagText}
use Rattle.lexicon_text_definitions.specs.FileFaults as faults
use Rattle.lexicon_text_definitions.specs.FileLines.{fields_of}
use Rattle.lexicon_text_definitions.specs.FileContents.{Told, is_tag_text}
use Rattle.lexicon_text_definitions.specs.FileSteps.{Taken, some_word, take_form_line, take_analysis, take_entry, take_form}
use Rattle.lexicon_text_definitions.proofs.TagTests.{tag_from_test, test_from_tag, tag_free_of_blank}
use Rattle.lexicon_text_definitions.proofs.LineTests.{free_name}
use Rattle.lexicon_text_definitions.proofs.LineCuts.{split_at, split_none}
use Rattle.form_file.specs.declared.take_error.TakeError.{TakeError}
use Rattle.form_file.specs.Fields.{BeginsWithPhase, four_of}
use Rattle.form_file.specs.Told.{IsAnswer}
use Rattle.form_file.specs.Words.{BeginsWithWord}
use Rattle.list_laws.proofs.Booleans.{when_true, when_false}
use Rattle.list_laws.proofs.Marks.{free_from_All, free_parts, is_free}

-- ---- no field is longer than the text

pub four_fit : (text name letters stem tag : List ℕ) → fields_of (Some text) ≡ name ∷ letters ∷ stem ∷ tag ∷ [] → (length letters ≤ length text) × (length stem ≤ length text)
four_fit text name letters stem tag e =
    let joined : name ++ 32 ∷ (letters ++ 32 ∷ (stem ++ 32 ∷ tag)) ≡ text = ap (join_with_byte 32) (sym e) ∙ join_with_byte-slice_split 32 text in
    let long = ap length joined in
    let first = length-append name (32 ∷ (letters ++ 32 ∷ (stem ++ 32 ∷ tag))) in
    let second = length-append letters (32 ∷ (stem ++ 32 ∷ tag)) in
    let third = length-append stem (32 ∷ tag) in
    (omega (arith, long, first, second, third), omega (arith, long, first, second, third))

-- ---- answers

pub not_four : (told : Told) (fields : List (List ℕ)) → four_of fields ≡ None → take_form told fields ≡ Err faults.Field
unfolding take_form
not_four told [] h = refl
not_four told (name ∷ []) h = refl
not_four told (name ∷ letters ∷ []) h = refl
not_four told (name ∷ letters ∷ stem ∷ []) h = refl
not_four told (name ∷ letters ∷ stem ∷ tag ∷ []) h = absurd (cc)
not_four told (name ∷ letters ∷ stem ∷ tag ∷ more ∷ fields) h = refl

four_taken : (told : Told) (name letters stem tag : List ℕ) → take_form told (name ∷ letters ∷ stem ∷ tag ∷ []) ≡ take_entry told (position (bytes_eq name) told.names) letters stem tag
unfolding take_form
four_taken told name letters stem tag = refl

-- a tag is the last field, since it has no blank
pub four_with_tag : (text name letters stem tag : List ℕ) → fields_of (Some text) ≡ name ∷ letters ∷ stem ∷ fields_of (Some tag) → IsTagText tag
    → fields_of (Some text) ≡ name ∷ letters ∷ stem ∷ tag ∷ []
four_with_tag text name letters stem tag e t = e ∙ ap (λ fields. name ∷ letters ∷ stem ∷ fields) (split_none 32 tag (tag_free_of_blank tag t))

no_phase_by : (told : Told) (name letters stem : List ℕ) (fields : List (List ℕ)) → None ≡ position (bytes_eq name) told.names
    → take_form told (name ∷ letters ∷ stem ∷ fields) ≡ Err faults.Field
unfolding take_form
no_phase_by told name letters stem [] p = refl
no_phase_by told name letters stem (tag ∷ []) p = ap (λ (phase : Option ℕ). take_entry told phase letters stem tag) (sym p)
no_phase_by told name letters stem (tag ∷ more ∷ fields) p = refl

-- no phase has the name, however many fields there are
pub no_phase : (told : Told) (fields : List (List ℕ)) (name letters stem tag : List ℕ) → fields ≡ name ∷ letters ∷ stem ∷ fields_of (Some tag)
    → None ≡ position (bytes_eq name) told.names → take_form told fields ≡ Err faults.Field
no_phase told fields name letters stem tag e p = ap (take_form told) e ∙ no_phase_by told name letters stem (fields_of (Some tag)) p

-- the phase with the name, where the line has four fields
pub by_phase : (told : Told) (fields : List (List ℕ)) (name letters stem tag : List ℕ) (phase : Option ℕ) → fields ≡ name ∷ letters ∷ stem ∷ tag ∷ [] → phase ≡ position (bytes_eq name) told.names
    → take_form told fields ≡ take_entry told phase letters stem tag
by_phase told fields name letters stem tag phase e p =
    ap (take_form told) e ∙ four_taken told name letters stem tag ∙ ap (λ (phase : Option ℕ). take_entry told phase letters stem tag) (sym p)

no_tag : (told : Told) (phase : ℕ) (letters stem tag : List ℕ) → (IsTagText tag → ⊥) → take_entry told (Some phase) letters stem tag ≡ Err faults.Field
no_tag told phase letters stem tag n = when_false (is_tag_text tag) _ _ _ (false_from_ne_true (is_tag_text tag) (λ e. n (tag_from_test tag e))) refl

no_tag_by : (told : Told) (name letters stem tag : List ℕ) (phase : Option ℕ) (fields : List (List ℕ)) → fields ≡ fields_of (Some tag) → phase ≡ position (bytes_eq name) told.names
    → (IsTagText tag → ⊥) → take_form told (name ∷ letters ∷ stem ∷ fields) ≡ Err faults.Field
no_tag_by told name letters stem tag phase [] e p n = not_four told (name ∷ letters ∷ stem ∷ []) refl
no_tag_by told name letters stem tag None (last ∷ []) e p n = no_phase_by told name letters stem (last ∷ []) p
no_tag_by told name letters stem tag (Some phase) (last ∷ []) e p n =
    let same : last ≡ tag = ap (join_with_byte 32) e ∙ join_with_byte-slice_split 32 tag in
    by_phase told (name ∷ letters ∷ stem ∷ last ∷ []) name letters stem last (Some phase) refl p ∙ no_tag told phase letters stem last (λ t. n (subst IsTagText same t))
no_tag_by told name letters stem tag phase (last ∷ more ∷ fields) e p n = not_four told (name ∷ letters ∷ stem ∷ last ∷ more ∷ fields) refl

-- the rest is no tag, however many fields it has
pub no_tag_at : (told : Told) (fields : List (List ℕ)) (name letters stem tag : List ℕ) (phase : Option ℕ) → fields ≡ name ∷ letters ∷ stem ∷ fields_of (Some tag)
    → phase ≡ position (bytes_eq name) told.names → (IsTagText tag → ⊥) → take_form told fields ≡ Err faults.Field
no_tag_at told fields name letters stem tag phase e p n = ap (take_form told) e ∙ no_tag_by told name letters stem tag phase (fields_of (Some tag)) refl p n

pub by_words : (told : Told) (phase : ℕ) (letters stem tag : List ℕ) → IsTagText tag
    → take_entry told (Some phase) letters stem tag ≡ take_analysis told phase tag (some_word (word_of_slp1 letters)) (some_word (word_of_slp1 stem))
by_words told phase letters stem tag t = when_true (is_tag_text tag) _ _ _ (test_from_tag tag t) refl

pub no_letters : (told : Told) (phase : ℕ) (tag : List ℕ) (letters stem : Option (List ℕ)) → letters ≡ None → take_analysis told phase tag letters stem ≡ Err faults.Spelling
no_letters told phase tag None stem h = refl
no_letters told phase tag (Some letters) stem h = absurd (cc)

pub no_stem : (told : Told) (phase : ℕ) (tag : List ℕ) (letters stem : Option (List ℕ)) → stem ≡ None → take_analysis told phase tag letters stem ≡ Err faults.Spelling
no_stem told phase tag None stem h = refl
no_stem told phase tag (Some letters) None h = refl
no_stem told phase tag (Some letters) (Some stem) h = absurd (cc)

-- the entry, where both words are read
pub both_words : (told : Told) (phase : ℕ) (tag text letters stem : List ℕ) (form root : Option (List ℕ)) → form ≡ Some letters → root ≡ Some stem → text ≡ tag
    → take_analysis told phase tag form root ≡ take_form_line told (record { phase = phase; letters = letters; analysis = record { stem = stem; tag = text } })
both_words told phase tag text letters stem form root f r t =
    (λ i. take_analysis told phase tag (f i) (r i)) ∙ ap (λ text. take_form_line told (record { phase = phase; letters = letters; analysis = record { stem = stem; tag = text } })) (sym t)

pub some_letter : (reading : Reading) (word : List ℕ) → some_word reading ≡ Some word → 0 < length word
some_letter (Ok []) word h = absurd (cc)
some_letter (Ok (letter ∷ letters)) word h =
    let same : letter ∷ letters ≡ word = cc in subst (λ word. 0 < length word) same (omega arith)
some_letter (Err fault) word h = absurd (cc)

pub answer_moved : (A : Type 0) (taken other : Taken) (result : Result A TakeError) (after : Told) → other ≡ taken → IsAnswer taken result after → IsAnswer other result after
answer_moved A taken other result after e h = subst (λ (taken : Taken). IsAnswer taken result after) (sym e) h

-- ---- a line that is read in one pass

pub not_empty : (word : List ℕ) → (IsTrue false → word ≡ []) × (word ≡ [] → IsTrue false) → 0 < length word
not_empty [] h = absurd (false≢true (h.1 refl))
not_empty (letter ∷ word) h = omega arith

pub begins_with_word : (text word : List ℕ) (count : ℕ) → word_of_slp1 (take count text) ≡ Ok word → 0 < length word → count < length text → slice_index_or text count 0 ≡ 32
    → BeginsWithWord text word (take (length text - (count + 1)) (drop (count + 1) text))
begins_with_word text word count e some below blank =
    let is = spelled_from_read (take count text) word e in
    let rest = drop_more text count 0 below ∙ (λ i. blank i ∷ sym (take_rest text (count + 1)) i) in
    (word_from_read (take count text) word e, some, sym (take-append-drop count text) ∙ (λ i. sym is i ++ rest i))

some_word_read : (word : List ℕ) → IsWord word → 0 < length word → some_word (word_of_slp1 (slp1_of_word word)) ≡ Some word
some_word_read [] w some = absurd (omega arith)
some_word_read (letter ∷ word) w some = ap some_word (read_from_spelled (slp1_of_word (letter ∷ word)) (letter ∷ word) w refl)

fields_read : (text name rest form after stem tag : List ℕ) → (text ≡ name ++ 32 ∷ rest) × All (λ byte. byte ≢ 32) name → BeginsWithWord rest form after → BeginsWithWord after stem tag → IsTagText tag
    → fields_of (Some text) ≡ name ∷ slp1_of_word form ∷ slp1_of_word stem ∷ tag ∷ []
fields_read text name rest form after stem tag t f s g =
    let last = split_none 32 tag (tag_free_of_blank tag g) in
    let third = ap (λ (text : List ℕ). fields_of (Some text)) s.2 ∙ split_at 32 (slp1_of_word stem) tag (free_of_blank stem s.0) ∙ ap (◌∷◌ (slp1_of_word stem)) last in
    let second = ap (λ (text : List ℕ). fields_of (Some text)) f.2 ∙ split_at 32 (slp1_of_word form) after (free_of_blank form f.0) ∙ ap (◌∷◌ (slp1_of_word form)) third in
    ap (λ (text : List ℕ). fields_of (Some text)) t.0 ∙ split_at 32 name rest (free_from_All 32 name t.1) ∙ ap (◌∷◌ name) second

no_blank_by_recursion : (text : List ℕ) → is_free 32 text ≡ true → AllByRecursion (λ byte. byte ≢ 32) text
no_blank_by_recursion [] h = tt
no_blank_by_recursion (byte ∷ text) h = let parts = free_parts 32 byte text h in (eqb-false byte 32 parts.0, no_blank_by_recursion text parts.1)

-- the name of a phase before a blank
pub begins_with_name : (names : List (List ℕ)) (text name : List ℕ) (phase : ℕ) → IsPhaseName name → length name < length text → take (length name) text ≡ name
    → slice_index_or text (length name) 0 ≡ 32 → Some phase ≡ position (bytes_eq name) names
    → BeginsWithPhase names text phase (take (length text - (length name + 1)) (drop (length name + 1) text))
begins_with_name names text name phase h below is blank p =
    let rest = drop_more text (length name) 0 below ∙ (λ i. blank i ∷ sym (take_rest text (length name + 1)) i) in
    let free = All-from_recursion (λ byte. byte ≢ 32) name (no_blank_by_recursion name (free_name 32 name refl h)) in
    (name, sym (take-append-drop (length name) text) ∙ (λ i. is i ++ rest i), free, p)

pub form_read : (told : Told) (text rest form after stem tag is_tag : List ℕ) (phase : ℕ) → BeginsWithPhase told.names text phase rest → BeginsWithWord rest form after → BeginsWithWord after stem tag → IsTagText tag → is_tag ≡ tag
    → take_form told (fields_of (Some text)) ≡ take_form_line told (record { phase = phase; letters = form; analysis = record { stem = stem; tag = is_tag } })
form_read told text rest form after stem tag is_tag phase p f s g e =
    by_phase told (fields_of (Some text)) p.0 (slp1_of_word form) (slp1_of_word stem) tag (Some phase) (fields_read text p.0 rest form after stem tag (p.1, p.2) f s g) p.3
    ∙ by_words told phase (slp1_of_word form) (slp1_of_word stem) tag g
    ∙ both_words told phase tag is_tag form stem _ _ (some_word_read form f.0 f.1) (some_word_read stem s.0 s.1) e
