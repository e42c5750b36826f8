-- What is told of a phase's line: the tests of its name one after another.
use Rattle.std.proofs.Common.{◌≡◌, ◌≢◌, ℕ, ◌<◌, ◌≤◌, true, false, Option, Some, None, is_some, Ok, Err, List, [], ◌∷◌, ◌++◌, length, map, get_or, AllPairs, refl, sym, ◌∙◌, ap}
use Rattle.std.specs.List.{list_any, position}
use Rattle.std.specs.Str.{bytes_eq, IsUtf8}
use Rattle.std.proofs.lemmas.Bool.{le-leb, lt-leb}
use Rattle.std.proofs.lemmas.List.{length-map, map-append}
use Rattle.std.proofs.lemmas.Str.{IsUtf8-from_is_utf8}
use Rattle.lexicon_definitions.specs.declared.limits.TheConstants.{MOST_PHASES}
use Rattle.phase_automaton.proofs.PhaseNumbers.{any_from_position, none_from_position}
use Rattle.lexicon_text_definitions.specs.FileFaults as faults
use Rattle.lexicon_text_definitions.specs.FileLines.{Phase}
use Rattle.lexicon_definitions.specs.PhaseNames.{is_phase_name}
use Rattle.lexicon_text_definitions.specs.FileContents.{Told}
use Rattle.lexicon_text_definitions.specs.FileSteps.{take_phase, take_name}
use Rattle.lexicon_definitions.proofs.NameTests.{name_from_test}
use Rattle.lexicon_text_definitions.proofs.CleanBytes.{clean_name, clean_utf8}
use Rattle.lexicon_text_definitions.proofs.LineSteps.{place_of_name}
use Rattle.lexicon_text_definitions.proofs.LineTests.{pairs_push}
use Rattle.list_laws.proofs.Texts.{none_same}
use Rattle.form_file.specs.Fields.{one_of}
use Rattle.list_laws.proofs.Booleans.{when_true, when_false}

-- not one field
pub no_name : (told : Told) (fields : List (List ℕ)) → one_of fields ≡ None → take_phase told fields ≡ Err faults.Field
unfolding take_phase
no_name told [] h = refl
no_name told (name ∷ []) h = absurd (cc)
no_name told (name ∷ other ∷ fields) h = refl

name_refused : (told : Told) (name : List ℕ) → is_phase_name name ≡ false → take_phase told (name ∷ []) ≡ Err faults.Field
unfolding take_phase
name_refused told name t = when_false (is_phase_name name) _ _ _ t refl

name_tested : (told : Told) (name : List ℕ) → is_phase_name name ≡ true → take_phase told (name ∷ []) ≡ take_name told name
unfolding take_phase
name_tested told name t = when_true (is_phase_name name) _ _ _ t refl

-- no name of a phase
pub not_name : (told : Told) (fields : List (List ℕ)) (name : List ℕ) → fields ≡ name ∷ [] → is_phase_name name ≡ false → take_phase told fields ≡ Err faults.Field
not_name told fields name e t = ap (take_phase told) e ∙ name_refused told name t

-- a name of a phase
pub by_name : (told : Told) (fields : List (List ℕ)) (name : List ℕ) → fields ≡ name ∷ [] → is_phase_name name ≡ true → take_phase told fields ≡ take_name told name
by_name told fields name e t = ap (take_phase told) e ∙ name_tested told name t

-- one phase too many
pub over_limit : (told : Told) (name : List ℕ) → MOST_PHASES ≤ length told.names → take_name told name ≡ Err faults.Limit
over_limit told name many = when_true _ _ _ _ (le-leb MOST_PHASES (length told.names) many) refl

known_by : (place : Option ℕ) (name : List ℕ) (names : List (List ℕ)) → place ≡ position (bytes_eq name) names → is_some place ≡ true → list_any (bytes_eq name) names ≡ true
known_by None name names e h = absurd (cc)
known_by (Some i) name names e h = any_from_position (bytes_eq name) names i [] e

new_by : (place : Option ℕ) (name : List ℕ) (names : List (List ℕ)) → place ≡ position (bytes_eq name) names → is_some place ≡ false → list_any (bytes_eq name) names ≡ false
new_by None name names e h = none_from_position (bytes_eq name) names [] e
new_by (Some i) name names e h = absurd (cc)

-- a phase had the name
pub told_twice : (told : Told) (name : List ℕ) (place : Option ℕ) → length told.names < MOST_PHASES → place ≡ position (bytes_eq name) told.names → is_some place ≡ true
    → take_name told name ≡ Err faults.Twice
told_twice told name place few e h =
    when_false _ _ _ _ (lt-leb MOST_PHASES (length told.names) few) (when_true _ _ _ _ (known_by place name told.names e h) refl)

-- a name that no phase has is apart from all
pub apart_with : (names : List (List ℕ)) (name : List ℕ) (place : Option ℕ) → AllPairs (λ left right. left ≢ right) names → place ≡ position (bytes_eq name) names → is_some place ≡ false
    → AllPairs (λ left right. left ≢ right) (names ++ name ∷ [])
apart_with names name place apart e h = pairs_push (λ left right. left ≢ right) names name apart (none_same name names (new_by place name names e h))

-- the phase that has the name is the only one
pub place_of : (names : List (List ℕ)) (name : List ℕ) (phase : ℕ) → AllPairs (λ left right. left ≢ right) names → phase < length names → name ≡ get_or names phase []
    → Some phase ≡ position (bytes_eq name) names
place_of names name phase apart below e = sym (ap (λ name. position (bytes_eq name) names) e ∙ place_of_name names phase apart below)

-- the name is new
pub name_told : (told old : Told) (name : List ℕ) (place : Option ℕ) (names : List (List ℕ)) → length told.names < MOST_PHASES → place ≡ position (bytes_eq name) told.names
    → is_some place ≡ false → old ≡ told → names ≡ old.names ++ name ∷ [] → take_name told name ≡ Ok (record old { last = Phase; names = names })
name_told told old name place names few e h same n =
    when_false _ _ _ _ (lt-leb MOST_PHASES (length told.names) few) (when_false _ _ _ _ (new_by place name told.names e h) refl)
    ∙ (λ i. Ok (record { last = Phase; names = (ap (λ (t : Told). t.names ++ name ∷ []) (sym same) ∙ sym n) i; grammar = (sym same i).grammar; plain = (sym same i).plain; rules = (sym same i).rules; forms = (sym same i).forms }))

-- a name is text
pub name_utf8 : (name : List ℕ) → is_phase_name name ≡ true → IsUtf8 name
name_utf8 name t = IsUtf8-from_is_utf8 name (clean_utf8 name (clean_name name (name_from_test name t)))

-- by the names as they are held
pub names_pushed : {S : Type 0} (bytes : S → List ℕ) (items new : List S) (one : S) (name : List ℕ) → new ≡ items ++ one ∷ [] → bytes one ≡ name
    → map bytes new ≡ map bytes items ++ name ∷ []
names_pushed bytes items new one name e b = ap (map bytes) e ∙ map-append bytes items (one ∷ []) ∙ ap (λ text. map bytes items ++ text ∷ []) b

pub count_held : {S : Type 0} (bytes : S → List ℕ) (items : List S) (names : List (List ℕ)) (len count : ℕ) → map bytes items ≡ names → len ≡ length items → count ≡ len
    → length names ≡ count
count_held bytes items names len count m l n = sym (ap length m) ∙ length-map items bytes ∙ sym l ∙ sym n
