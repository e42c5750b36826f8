-- The tests of a note's shape, value by value: a list of values is tested as the list of what they are, by induction; and what is
-- found under a name is of its kind, by cases on the value.
use Rattle.std.proofs.Common.{◌≡◌, ℕ, Bool, true, false, cond, ◌&&◌, Option, Some, None, option_and_then, List, [], ◌∷◌, map, codes, string_bytes, refl, ◌∙◌, ap}
use Rattle.std.specs.Prelude.{String, is_some, unwrap_or}
use Rattle.std.specs.Global.{Global}
use Rattle.std.specs.List.{list_all, list_any}
use Rattle.std.specs.Str.{bytes_eq}
use Rattle.serde_json.specs.Data.{Data, null, boolean, number, string, array, object, Items, item, Members}
use Rattle.serde_json.specs.Find.{get, as_str, as_array, as_object}
use Rattle.serde_json.specs.View.{view, items_view, members_view}
use Rattle.serde_json.specs.declared.value.Value.{Value}
use Rattle.note_definitions.specs.NoteShapes.{has_only, is_one, is_some_texts, with_text, as_text, as_texts, texts_of, is_segment, are_segments, is_segments, note_names, parts_with, parts_of_value}
use Rattle.annotation.specs.Objects.{texts_in}

-- ---- lists of values

is_some_with : (text : List ℕ) (texts : Option (List (List ℕ))) → is_some_texts texts ≡ is_some_texts (with_text text texts)
is_some_with text None = refl
is_some_with text (Some texts) = refl

text_before : (d : Data) (rest : Items) → (is_some (as_str d) && is_some_texts (texts_of rest)) ≡ is_some_texts (texts_of (item d rest))
text_before null rest = refl
text_before (boolean b) rest = refl
text_before (number n) rest = refl
text_before (string text) rest = is_some_with text (texts_of rest)
text_before (array ds) rest = refl
text_before (object ms) rest = refl

-- each value is a text exactly where they are texts
pub texts_tested : (values : List Value) → list_all (λ value. is_some (as_str (view value))) values ≡ is_some_texts (texts_of (items_view values))
texts_tested [] = refl
texts_tested (value ∷ values) =
    ap (λ (b : Bool). is_some (as_str (view value)) && b) (texts_tested values) ∙ text_before (view value) (items_view values)

pub segments_tested : (values : List Value) → list_all (λ value. is_segment (view value)) values ≡ are_segments (items_view values)
segments_tested [] = refl
segments_tested (value ∷ values) = ap (λ (b : Bool). is_segment (view value) && b) (segments_tested values)

pub names_tested : (names : List (List ℕ)) (entries : List (String Global × Value))
    → list_all (λ name. list_any (bytes_eq (string_bytes name)) names) (map (λ entry. entry.0) entries) ≡ has_only names (members_view entries)
names_tested names [] = refl
names_tested names (entry ∷ entries) = ap (λ (b : Bool). list_any (bytes_eq (string_bytes entry.0)) names && b) (names_tested names entries)

-- ---- the texts themselves

one_told : (d : Data) (rest : Items) (texts : List (List ℕ)) → is_some_texts (texts_of (item d rest)) ≡ true
    → (is_some_texts (texts_of rest) ≡ true → texts_of rest ≡ Some texts) → texts_of (item d rest) ≡ Some (unwrap_or (as_str d) [] ∷ texts)
one_told null rest texts passed h = absurd (cc)
one_told (boolean b) rest texts passed h = absurd (cc)
one_told (number n) rest texts passed h = absurd (cc)
one_told (string text) rest texts passed h = ap (with_text text) (h (is_some_with text (texts_of rest) ∙ passed))
one_told (array ds) rest texts passed h = absurd (cc)
one_told (object ms) rest texts passed h = absurd (cc)

texts_told : (values : List Value) → is_some_texts (texts_of (items_view values)) ≡ true → texts_of (items_view values) ≡ Some (texts_in values)
texts_told [] passed = refl
texts_told (value ∷ values) passed = one_told (view value) (items_view values) (texts_in values) passed (texts_told values)

texts_refused : (texts : Option (List (List ℕ))) → is_some_texts texts ≡ false → texts ≡ None
texts_refused None h = refl
texts_refused (Some texts) h = absurd (cc)

-- ---- what is found under a name

text_found : (held : Option Data) → as_text held ≡ option_and_then as_str held
text_found None = refl
text_found (Some null) = refl
text_found (Some (boolean b)) = refl
text_found (Some (number n)) = refl
text_found (Some (string text)) = refl
text_found (Some (array ds)) = refl
text_found (Some (object ms)) = refl

list_found : (held : Option Data) → as_texts held ≡ option_and_then texts_of (option_and_then as_array held)
list_found None = refl
list_found (Some null) = refl
list_found (Some (boolean b)) = refl
list_found (Some (number n)) = refl
list_found (Some (string text)) = refl
list_found (Some (array ds)) = refl
list_found (Some (object ms)) = refl

-- ---- the parts of a note

pub no_object : (d : Data) → as_object d ≡ None → parts_of_value d ≡ None
unfolding parts_of_value
no_object null h = refl
no_object (boolean b) h = refl
no_object (number n) h = refl
no_object (string text) h = refl
no_object (array ds) h = refl
no_object (object ms) h = absurd (cc)

-- an object with these members has them
abbrev is_shaped : Data → Members → Bool
is_shaped d ms =
    has_only note_names ms && is_segments (get (codes "segments") d) && is_one (get (codes "version") d)

parts_are : (d : Data) (ms : Members) (shaped : Bool) (text : Option (List ℕ)) (texts : Option (List (List ℕ))) → as_object d ≡ Some ms
    → is_shaped d ms ≡ shaped → as_text (get (codes "text") d) ≡ text → as_texts (get (codes "choices") d) ≡ texts
    → parts_of_value d ≡ cond shaped (parts_with text texts) None
unfolding parts_of_value
parts_are null ms shaped text texts e h k l = absurd (cc)
parts_are (boolean b) ms shaped text texts e h k l = absurd (cc)
parts_are (number n) ms shaped text texts e h k l = absurd (cc)
parts_are (string s) ms shaped text texts e h k l = absurd (cc)
parts_are (array ds) ms shaped text texts e h k l = absurd (cc)
parts_are (object members) ms shaped text texts e h k l =
    let same : members ≡ ms = cc in
    let is : is_shaped (object members) members ≡ shaped = ap (is_shaped (object members)) same ∙ h in
    λ i. cond (is i) (parts_with (k i) (l i)) None

pub not_shaped : (d : Data) (ms : Members) → as_object d ≡ Some ms → is_shaped d ms ≡ false → parts_of_value d ≡ None
not_shaped d ms e h = parts_are d ms false _ _ e h refl refl

pub no_text : (d : Data) (ms : Members) → as_object d ≡ Some ms → is_shaped d ms ≡ true
    → option_and_then as_str (get (codes "text") d) ≡ None → parts_of_value d ≡ None
no_text d ms e h k = parts_are d ms true None _ e h (text_found (get (codes "text") d) ∙ k) refl

no_parts : (text : Option (List ℕ)) → parts_with text None ≡ None
no_parts None = refl
no_parts (Some text) = refl

without_texts : (d : Data) (ms : Members) → as_object d ≡ Some ms → is_shaped d ms ≡ true
    → as_texts (get (codes "choices") d) ≡ None → parts_of_value d ≡ None
without_texts d ms e h l = parts_are d ms true _ None e h refl l ∙ no_parts (as_text (get (codes "text") d))

pub no_list : (d : Data) (ms : Members) → as_object d ≡ Some ms → is_shaped d ms ≡ true
    → option_and_then as_array (get (codes "choices") d) ≡ None → parts_of_value d ≡ None
no_list d ms e h l = without_texts d ms e h (list_found (get (codes "choices") d) ∙ ap (option_and_then texts_of) l)

pub not_texts : (d : Data) (ms : Members) (values : List Value) → as_object d ≡ Some ms → is_shaped d ms ≡ true
    → option_and_then as_array (get (codes "choices") d) ≡ Some (items_view values) → is_some_texts (texts_of (items_view values)) ≡ false
    → parts_of_value d ≡ None
not_texts d ms values e h l refused =
    without_texts d ms e h (list_found (get (codes "choices") d) ∙ ap (option_and_then texts_of) l ∙ texts_refused (texts_of (items_view values)) refused)

pub all_parts : (d : Data) (ms : Members) (text : List ℕ) (values : List Value) → as_object d ≡ Some ms → is_shaped d ms ≡ true
    → option_and_then as_str (get (codes "text") d) ≡ Some text
    → option_and_then as_array (get (codes "choices") d) ≡ Some (items_view values) → is_some_texts (texts_of (items_view values)) ≡ true
    → parts_of_value d ≡ Some (record { text = text; choices = texts_in values })
all_parts d ms text values e h k l passed =
    parts_are d ms true (Some text) (Some (texts_in values)) e h (text_found (get (codes "text") d) ∙ k)
    (list_found (get (codes "choices") d) ∙ ap (option_and_then texts_of) l ∙ texts_told values passed)
