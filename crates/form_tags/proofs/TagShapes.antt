-- Which texts are tag texts, by the number of their dots: each shape has one number of dots, and its parts are the text's own.
use Rattle.std.proofs.Common.{◌≡◌, ℕ, ◌↔◌, List, refl, inl, inr, ⊎_elim}
use Rattle.lexicon_definitions.specs.Tags.{IsOneOf, IsTagText, genders, numbers, cases, tenses, voices, persons, lone_words, before_dot}
use Rattle.form_tags.specs.Dots.{IsDotless}
use Rattle.form_tags.proofs.DottedTexts.{before_dot-once, before_dot-has_dot, IsOneOf-dotless}

pub gender_dotless : (text : List ℕ) → IsOneOf genders text → IsDotless text
gender_dotless = IsOneOf-dotless genders refl

pub number_dotless : (text : List ℕ) → IsOneOf numbers text → IsDotless text
number_dotless = IsOneOf-dotless numbers refl

pub case_dotless : (text : List ℕ) → IsOneOf cases text → IsDotless text
case_dotless = IsOneOf-dotless cases refl

pub tense_dotless : (text : List ℕ) → IsOneOf tenses text → IsDotless text
tense_dotless = IsOneOf-dotless tenses refl

pub voice_dotless : (text : List ℕ) → IsOneOf voices text → IsDotless text
voice_dotless = IsOneOf-dotless voices refl

pub person_dotless : (text : List ℕ) → IsOneOf persons text → IsDotless text
person_dotless = IsOneOf-dotless persons refl

pub lone_dotless : (text : List ℕ) → IsOneOf lone_words text → IsDotless text
lone_dotless = IsOneOf-dotless lone_words refl

-- a text without a dot
pub no_dot : (text : List ℕ) → IsDotless text → IsTagText text ↔ IsOneOf lone_words text
no_dot text h = (
  λ t. ⊎_elim
      (λ n. absurd (before_dot-has_dot n.gender _ (rw n.is_text at h)))
      (λ o. ⊎_elim (λ v. absurd (before_dot-has_dot v.tense _ (rw v.is_text at h))) (λ l. l) o)
      t,
  λ l. inr (inr l),
)

-- a text with one dot
pub one_dot : (a b : List ℕ) → IsDotless a → IsDotless b → IsTagText (before_dot a b) → ⊥
one_dot a b ha hb t =
    ⊎_elim
    (λ n. let e = before_dot-once a n.gender b (before_dot n.number n.gcase) ha (gender_dotless n.gender n.is_gender) n.is_text in
    before_dot-has_dot n.number n.gcase (rw e.1 at hb))
    (λ o. ⊎_elim
    (λ v. let e = before_dot-once a v.tense b (before_dot v.voice (before_dot v.person v.number)) ha (tense_dotless v.tense v.is_tense) v.is_text in
    before_dot-has_dot v.voice (before_dot v.person v.number) (rw e.1 at hb))
    (λ l. before_dot-has_dot a b (lone_dotless (before_dot a b) l))
    o)
    t

-- a text with two dots
pub two_dots : (a b c : List ℕ) → IsDotless a → IsDotless b → IsDotless c
    → IsTagText (before_dot a (before_dot b c)) ↔ (IsOneOf genders a × IsOneOf numbers b × IsOneOf cases c)
two_dots a b c ha hb hc = (
  λ t. ⊎_elim
      (λ n. let e = before_dot-once a n.gender (before_dot b c) (before_dot n.number n.gcase) ha (gender_dotless n.gender n.is_gender) n.is_text in
      let f = before_dot-once b n.number c n.gcase hb (number_dotless n.number n.is_number) e.1 in
      (rw e.0 n.is_gender, rw f.0 n.is_number, rw f.1 n.is_case))
      (λ o. ⊎_elim
      (λ v. let e = before_dot-once a v.tense (before_dot b c) (before_dot v.voice (before_dot v.person v.number)) ha (tense_dotless v.tense v.is_tense) v.is_text in
      let f = before_dot-once b v.voice c (before_dot v.person v.number) hb (voice_dotless v.voice v.is_voice) e.1 in
      absurd (before_dot-has_dot v.person v.number (rw f.1 at hc)))
      (λ l. absurd (before_dot-has_dot a (before_dot b c) (lone_dotless (before_dot a (before_dot b c)) l)))
      o)
      t,
  λ w. inl (record { gender = a; number = b; gcase = c; is_gender = w.0; is_number = w.1; is_case = w.2; is_text = refl }),
)

-- a text with three dots or more
pub three_dots : (a b c d : List ℕ) → IsDotless a → IsDotless b → IsDotless c
    → IsTagText (before_dot a (before_dot b (before_dot c d))) ↔ (IsOneOf tenses a × IsOneOf voices b × IsOneOf persons c × IsOneOf numbers d)
three_dots a b c d ha hb hc = (
  λ t. ⊎_elim
      (λ n. let e = before_dot-once a n.gender (before_dot b (before_dot c d)) (before_dot n.number n.gcase) ha (gender_dotless n.gender n.is_gender) n.is_text in
      let f = before_dot-once b n.number (before_dot c d) n.gcase hb (number_dotless n.number n.is_number) e.1 in
      absurd (before_dot-has_dot c d (case_dotless (before_dot c d) (rw f.1 n.is_case))))
      (λ o. ⊎_elim
      (λ v. let e = before_dot-once a v.tense (before_dot b (before_dot c d)) (before_dot v.voice (before_dot v.person v.number)) ha (tense_dotless v.tense v.is_tense) v.is_text in
      let f = before_dot-once b v.voice (before_dot c d) (before_dot v.person v.number) hb (voice_dotless v.voice v.is_voice) e.1 in
      let g = before_dot-once c v.person d v.number hc (person_dotless v.person v.is_person) f.1 in
      (rw e.0 v.is_tense, rw f.0 v.is_voice, rw g.0 v.is_person, rw g.1 v.is_number))
      (λ l. absurd (before_dot-has_dot a (before_dot b (before_dot c d)) (lone_dotless (before_dot a (before_dot b (before_dot c d))) l)))
      o)
      t,
  λ w. inr (inl (record { tense = a; voice = b; person = c; number = d; is_tense = w.0; is_voice = w.1; is_person = w.2; is_number = w.3; is_text = refl })),
)

-- the same of a text that was taken apart at one dot after the other
pub one_dot_apart : (text a b : List ℕ) → (text ≡ before_dot a b) × IsDotless a → IsDotless b → IsTagText text → ⊥
one_dot_apart text a b first hb t = one_dot a b first.1 hb (rw first.0 at t)

pub two_dots_apart : (text a r b c : List ℕ) → (text ≡ before_dot a r) × IsDotless a → (r ≡ before_dot b c) × IsDotless b → IsDotless c
    → IsTagText text ↔ (IsOneOf genders a × IsOneOf numbers b × IsOneOf cases c)
two_dots_apart text a r b c first second hc = rw (first.0, second.0) (two_dots a b c first.1 second.1 hc)

pub three_dots_apart : (text a r b s c d : List ℕ)
    → (text ≡ before_dot a r) × IsDotless a → (r ≡ before_dot b s) × IsDotless b → (s ≡ before_dot c d) × IsDotless c
    → IsTagText text ↔ (IsOneOf tenses a × IsOneOf voices b × IsOneOf persons c × IsOneOf numbers d)
three_dots_apart text a r b s c d first second third =
    rw (first.0, second.0, third.0) (three_dots a b c d first.1 second.1 third.1)
