-- The test of a tag's text as a fact: it is cut at its dots, and no word of a tag has one.
use Rattle.std.proofs.Common.{◌≡◌, ℕ, inl, inr, true, ◌&&◌, List, [], ◌∷◌, ◌++◌, eqb, refl, sym, ◌∙◌, ap, subst}
use Rattle.std.specs.List.{list_any, list_all, slice_split}
use Rattle.std.specs.Str.{bytes_eq}
use Rattle.std.proofs.lemmas.Bool.{and_parts, and_from, or_cases, or_left, or_right}
use Rattle.std.proofs.lemmas.Slice.Eq.{bytes_eq-Decides}
use Rattle.lexicon_definitions.specs.Tags.{IsOneOf, IsTagText, IsNominalText, IsVerbalText, genders, numbers, cases, tenses, voices, persons, lone_words}
use Rattle.lexicon_text_definitions.specs.FileContents.{is_one_of, are_tag_words, is_tag_text}
use Rattle.list_laws.proofs.Marks.{is_free, free_append}
use Rattle.lexicon_text_definitions.proofs.LineCuts.{split_at, split_none, one_part, three_parts, four_parts}
use Rattle.list_laws.proofs.Texts.{bytes_same}

-- ---- one of some words

one_of : (words : List (List ℕ)) (text : List ℕ) → is_one_of words text ≡ true → IsOneOf words text
one_of [] text h = absurd (cc)
one_of (word ∷ words) text h =
    elim (or_cases (bytes_eq text word) (list_any (bytes_eq text) words) h) [
      | inl same ↦ inl (bytes_same text word same)
      | inr later ↦ inr (one_of words text later)
    ]

is_one : (words : List (List ℕ)) (text : List ℕ) → IsOneOf words text → is_one_of words text ≡ true
is_one [] text h = absurd h
is_one (word ∷ words) text (inl e) = or_left _ _ ((bytes_eq-Decides text word).1 e)
is_one (word ∷ words) text (inr h) = or_right _ _ (is_one words text h)

free_one : (mark : ℕ) (words : List (List ℕ)) (text : List ℕ) → list_all (is_free mark) words ≡ true → IsOneOf words text → is_free mark text ≡ true
free_one mark [] text f h = absurd h
free_one mark (word ∷ words) text f (inl e) = ap (is_free mark) e ∙ (and_parts (is_free mark word) (list_all (is_free mark) words) f).0
free_one mark (word ∷ words) text f (inr h) = free_one mark words text (and_parts (is_free mark word) (list_all (is_free mark) words) f).1 h

-- ---- from the test

tag_from : (text : List ℕ) (words : List (List ℕ)) → slice_split (λ byte. eqb byte 46) text ≡ words → are_tag_words words ≡ true → IsTagText text
tag_from text [] e h = absurd (cc)
tag_from text (word ∷ []) e h = inr (inr (subst (IsOneOf lone_words) (sym (one_part 46 text word e)) (one_of lone_words word h)))
tag_from text (first ∷ second ∷ []) e h = absurd (cc)
tag_from text (gender ∷ number ∷ gcase ∷ []) e h =
    let parts = and_parts (is_one_of genders gender && is_one_of numbers number) (is_one_of cases gcase) h in
    let front = and_parts (is_one_of genders gender) (is_one_of numbers number) parts.0 in
    inl (record {
      gender = gender;
      number = number;
      gcase = gcase;
      is_gender = one_of genders gender front.0;
      is_number = one_of numbers number front.1;
      is_case = one_of cases gcase parts.1;
      is_text = three_parts 46 text gender number gcase e;
    })
tag_from text (tense ∷ voice ∷ person ∷ number ∷ []) e h =
    let parts = and_parts ((is_one_of tenses tense && is_one_of voices voice) && is_one_of persons person) (is_one_of numbers number) h in
    let front = and_parts (is_one_of tenses tense && is_one_of voices voice) (is_one_of persons person) parts.0 in
    let first = and_parts (is_one_of tenses tense) (is_one_of voices voice) front.0 in
    inr (inl (record {
      tense = tense;
      voice = voice;
      person = person;
      number = number;
      is_tense = one_of tenses tense first.0;
      is_voice = one_of voices voice first.1;
      is_person = one_of persons person front.1;
      is_number = one_of numbers number parts.1;
      is_text = four_parts 46 text tense voice person number e;
    }))
tag_from text (tense ∷ voice ∷ person ∷ number ∷ more ∷ words) e h = absurd (cc)

-- a text that passes the test is a tag's
pub tag_from_test : (text : List ℕ) → is_tag_text text ≡ true → IsTagText text
unfolding is_tag_text
tag_from_test text h = tag_from text (slice_split (λ byte. eqb byte 46) text) refl h

-- ---- to the test

pub free_nominal : (mark : ℕ) (text : List ℕ) → is_free mark (46 ∷ []) ≡ true → list_all (is_free mark) genders ≡ true → list_all (is_free mark) numbers ≡ true
    → list_all (is_free mark) cases ≡ true → IsNominalText text → is_free mark text ≡ true
free_nominal mark text d g n c h =
    let dotted = free_append mark (46 ∷ []) h.gcase d (free_one mark cases h.gcase c h.is_case) in
    let later = free_append mark h.number (46 ∷ h.gcase) (free_one mark numbers h.number n h.is_number) dotted in
    ap (is_free mark) h.is_text
    ∙ free_append mark h.gender (46 ∷ (h.number ++ 46 ∷ h.gcase)) (free_one mark genders h.gender g h.is_gender)
    (free_append mark (46 ∷ []) (h.number ++ 46 ∷ h.gcase) d later)

free_verbal : (mark : ℕ) (text : List ℕ) → is_free mark (46 ∷ []) ≡ true → list_all (is_free mark) tenses ≡ true → list_all (is_free mark) voices ≡ true
    → list_all (is_free mark) persons ≡ true → list_all (is_free mark) numbers ≡ true → IsVerbalText text → is_free mark text ≡ true
free_verbal mark text d t v p n h =
    let number = free_append mark (46 ∷ []) h.number d (free_one mark numbers h.number n h.is_number) in
    let person = free_append mark (46 ∷ []) (h.person ++ 46 ∷ h.number) d (free_append mark h.person (46 ∷ h.number) (free_one mark persons h.person p h.is_person) number) in
    let voice = free_append mark (46 ∷ []) (h.voice ++ 46 ∷ (h.person ++ 46 ∷ h.number)) d
    (free_append mark h.voice (46 ∷ (h.person ++ 46 ∷ h.number)) (free_one mark voices h.voice v h.is_voice) person) in
    ap (is_free mark) h.is_text
    ∙ free_append mark h.tense (46 ∷ (h.voice ++ 46 ∷ (h.person ++ 46 ∷ h.number))) (free_one mark tenses h.tense t h.is_tense) voice

-- a tag's text has no blank and no line end
pub tag_free_of_blank : (text : List ℕ) → IsTagText text → is_free 32 text ≡ true
tag_free_of_blank text (inl h) = free_nominal 32 text refl refl refl refl h
tag_free_of_blank text (inr (inl h)) = free_verbal 32 text refl refl refl refl refl h
tag_free_of_blank text (inr (inr h)) = free_one 32 lone_words text refl h

pub tag_free_of_line_end : (text : List ℕ) → IsTagText text → is_free 10 text ≡ true
tag_free_of_line_end text (inl h) = free_nominal 10 text refl refl refl refl h
tag_free_of_line_end text (inr (inl h)) = free_verbal 10 text refl refl refl refl refl h
tag_free_of_line_end text (inr (inr h)) = free_one 10 lone_words text refl h

nominal_words : (text : List ℕ) → (h : IsNominalText text) → slice_split (λ byte. eqb byte 46) text ≡ h.gender ∷ h.number ∷ h.gcase ∷ []
nominal_words text h =
    ap (slice_split (λ byte. eqb byte 46)) h.is_text
    ∙ split_at 46 h.gender (h.number ++ 46 ∷ h.gcase) (free_one 46 genders h.gender refl h.is_gender)
    ∙ ap (◌∷◌ h.gender) (split_at 46 h.number h.gcase (free_one 46 numbers h.number refl h.is_number)
    ∙ ap (◌∷◌ h.number) (split_none 46 h.gcase (free_one 46 cases h.gcase refl h.is_case)))

verbal_words : (text : List ℕ) → (h : IsVerbalText text) → slice_split (λ byte. eqb byte 46) text ≡ h.tense ∷ h.voice ∷ h.person ∷ h.number ∷ []
verbal_words text h =
    ap (slice_split (λ byte. eqb byte 46)) h.is_text
    ∙ split_at 46 h.tense (h.voice ++ 46 ∷ (h.person ++ 46 ∷ h.number)) (free_one 46 tenses h.tense refl h.is_tense)
    ∙ ap (◌∷◌ h.tense) (split_at 46 h.voice (h.person ++ 46 ∷ h.number) (free_one 46 voices h.voice refl h.is_voice)
    ∙ ap (◌∷◌ h.voice) (split_at 46 h.person h.number (free_one 46 persons h.person refl h.is_person)
    ∙ ap (◌∷◌ h.person) (split_none 46 h.number (free_one 46 numbers h.number refl h.is_number))))

-- a tag's text passes the test
pub test_from_tag : (text : List ℕ) → IsTagText text → is_tag_text text ≡ true
unfolding is_tag_text
test_from_tag text (inl h) =
    ap are_tag_words (nominal_words text h)
    ∙ and_from _ _ (and_from _ _ (is_one genders h.gender h.is_gender) (is_one numbers h.number h.is_number)) (is_one cases h.gcase h.is_case)
test_from_tag text (inr (inl h)) =
    ap are_tag_words (verbal_words text h)
    ∙ and_from _ _ (and_from _ _ (and_from _ _ (is_one tenses h.tense h.is_tense) (is_one voices h.voice h.is_voice)) (is_one persons h.person h.is_person))
    (is_one numbers h.number h.is_number)
test_from_tag text (inr (inr h)) =
    ap are_tag_words (split_none 46 text (free_one 46 lone_words text refl h)) ∙ is_one lone_words text h
