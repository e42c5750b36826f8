-- A tag is told by its text: each word is one variant's, and a text falls into its words in one way.
use Rattle.std.proofs.Common.{◌≡◌, ℕ, List, if◌then◌else◌, refl, ap, sym, ◌∙◌, inl, inr, codes}
use Rattle.std.specs.Str.{bytes_eq}
use Rattle.lexicon_definitions.specs.Tags.{IsOneOf, IsTagText, before_dot, genders, numbers, cases, tenses, voices, persons, lone_words}
use Rattle.form_tags.specs.declared.gender.Gender.{Gender}
use Rattle.form_tags.specs.declared.gender.Gender.TheVariants.{M, F, N}
use Rattle.form_tags.specs.declared.number.Number.{Number}
use Rattle.form_tags.specs.declared.number.Number.TheVariants.{Sg, Du, Pl}
use Rattle.form_tags.specs.declared.case.Case.{Case}
use Rattle.form_tags.specs.declared.case.Case.TheVariants.{Nom, Acc, Ins, Dat, Abl, Gen, Loc, Voc}
use Rattle.form_tags.specs.declared.tense.Tense.{Tense}
use Rattle.form_tags.specs.declared.tense.Tense.TheVariants.{Pr, Impf, Imp, Opt, Fut, Perf, Aor}
use Rattle.form_tags.specs.declared.voice.Voice.{Voice}
use Rattle.form_tags.specs.declared.voice.Voice.TheVariants.{Ac, Md, Ps}
use Rattle.form_tags.specs.declared.person.Person.{Person}
use Rattle.form_tags.specs.declared.person.Person.TheVariants.{First, Second, Third}
use Rattle.form_tags.specs.declared.tag.Tag.{Tag}
use Rattle.form_tags.specs.declared.tag.Tag.TheVariants.{Nominal, Verbal, Iic, Pv, Ind}
use Rattle.form_tags.specs.TagTexts.{tag_text, gender_text, number_text, case_text, tense_text, voice_text, person_text}
use Rattle.form_tags.proofs.DottedTexts.{before_dot-once, before_dot-has_dot}
use Rattle.form_tags.proofs.TagShapes.{gender_dotless, number_dotless, case_dotless, tense_dotless, voice_dotless, person_dotless, lone_dotless}

gender_of : List ℕ → Gender
gender_of word =
    if bytes_eq word (codes "m") then M else (if bytes_eq word (codes "f") then F else (N))

gender_of-text : (gender : Gender) → gender_of (gender_text gender) ≡ gender
unfolding gender_of
gender_of-text M = refl
gender_of-text F = refl
gender_of-text N = refl

gender_text-once : (left right : Gender) → gender_text left ≡ gender_text right → left ≡ right
gender_text-once left right e = sym (gender_of-text left) ∙ ap gender_of e ∙ gender_of-text right

pub gender_text-is : (gender : Gender) → IsOneOf genders (gender_text gender)
gender_text-is M = inl refl
gender_text-is F = inr (inl refl)
gender_text-is N = inr (inr (inl refl))

number_of : List ℕ → Number
number_of word =
    if bytes_eq word (codes "sg") then Sg else (if bytes_eq word (codes "du") then Du else (Pl))

number_of-text : (number : Number) → number_of (number_text number) ≡ number
unfolding number_of
number_of-text Sg = refl
number_of-text Du = refl
number_of-text Pl = refl

number_text-once : (left right : Number) → number_text left ≡ number_text right → left ≡ right
number_text-once left right e = sym (number_of-text left) ∙ ap number_of e ∙ number_of-text right

pub number_text-is : (number : Number) → IsOneOf numbers (number_text number)
number_text-is Sg = inl refl
number_text-is Du = inr (inl refl)
number_text-is Pl = inr (inr (inl refl))

case_of : List ℕ → Case
case_of word =
    if bytes_eq word (codes "nom") then Nom else (if bytes_eq word (codes "acc") then Acc else (if bytes_eq word (codes "ins") then Ins else (if bytes_eq word (codes "dat") then Dat else (if bytes_eq word (codes "abl") then Abl else (if bytes_eq word (codes "gen") then Gen else (if bytes_eq word (codes "loc") then Loc else (Voc)))))))

case_of-text : (gcase : Case) → case_of (case_text gcase) ≡ gcase
unfolding case_of
case_of-text Nom = refl
case_of-text Acc = refl
case_of-text Ins = refl
case_of-text Dat = refl
case_of-text Abl = refl
case_of-text Gen = refl
case_of-text Loc = refl
case_of-text Voc = refl

case_text-once : (left right : Case) → case_text left ≡ case_text right → left ≡ right
case_text-once left right e = sym (case_of-text left) ∙ ap case_of e ∙ case_of-text right

pub case_text-is : (gcase : Case) → IsOneOf cases (case_text gcase)
case_text-is Nom = inl refl
case_text-is Acc = inr (inl refl)
case_text-is Ins = inr (inr (inl refl))
case_text-is Dat = inr (inr (inr (inl refl)))
case_text-is Abl = inr (inr (inr (inr (inl refl))))
case_text-is Gen = inr (inr (inr (inr (inr (inl refl)))))
case_text-is Loc = inr (inr (inr (inr (inr (inr (inl refl))))))
case_text-is Voc = inr (inr (inr (inr (inr (inr (inr (inl refl)))))))

tense_of : List ℕ → Tense
tense_of word =
    if bytes_eq word (codes "pr") then Pr else (if bytes_eq word (codes "impf") then Impf else (if bytes_eq word (codes "imp") then Imp else (if bytes_eq word (codes "opt") then Opt else (if bytes_eq word (codes "fut") then Fut else (if bytes_eq word (codes "perf") then Perf else (Aor))))))

tense_of-text : (tense : Tense) → tense_of (tense_text tense) ≡ tense
unfolding tense_of
tense_of-text Pr = refl
tense_of-text Impf = refl
tense_of-text Imp = refl
tense_of-text Opt = refl
tense_of-text Fut = refl
tense_of-text Perf = refl
tense_of-text Aor = refl

tense_text-once : (left right : Tense) → tense_text left ≡ tense_text right → left ≡ right
tense_text-once left right e = sym (tense_of-text left) ∙ ap tense_of e ∙ tense_of-text right

pub tense_text-is : (tense : Tense) → IsOneOf tenses (tense_text tense)
tense_text-is Pr = inl refl
tense_text-is Impf = inr (inl refl)
tense_text-is Imp = inr (inr (inl refl))
tense_text-is Opt = inr (inr (inr (inl refl)))
tense_text-is Fut = inr (inr (inr (inr (inl refl))))
tense_text-is Perf = inr (inr (inr (inr (inr (inl refl)))))
tense_text-is Aor = inr (inr (inr (inr (inr (inr (inl refl))))))

voice_of : List ℕ → Voice
voice_of word =
    if bytes_eq word (codes "ac") then Ac else (if bytes_eq word (codes "md") then Md else (Ps))

voice_of-text : (voice : Voice) → voice_of (voice_text voice) ≡ voice
unfolding voice_of
voice_of-text Ac = refl
voice_of-text Md = refl
voice_of-text Ps = refl

voice_text-once : (left right : Voice) → voice_text left ≡ voice_text right → left ≡ right
voice_text-once left right e = sym (voice_of-text left) ∙ ap voice_of e ∙ voice_of-text right

pub voice_text-is : (voice : Voice) → IsOneOf voices (voice_text voice)
voice_text-is Ac = inl refl
voice_text-is Md = inr (inl refl)
voice_text-is Ps = inr (inr (inl refl))

person_of : List ℕ → Person
person_of word =
    if bytes_eq word (codes "1") then First else (if bytes_eq word (codes "2") then Second else (Third))

person_of-text : (person : Person) → person_of (person_text person) ≡ person
unfolding person_of
person_of-text First = refl
person_of-text Second = refl
person_of-text Third = refl

person_text-once : (left right : Person) → person_text left ≡ person_text right → left ≡ right
person_text-once left right e = sym (person_of-text left) ∙ ap person_of e ∙ person_of-text right

pub person_text-is : (person : Person) → IsOneOf persons (person_text person)
person_text-is First = inl refl
person_text-is Second = inr (inl refl)
person_text-is Third = inr (inr (inl refl))

-- the text of a tag is a tag's text
pub tag_text-is : (tag : Tag) → IsTagText (tag_text tag)
tag_text-is (Nominal gender number gcase) =
    inl (record { gender = gender_text gender; number = number_text number; gcase = case_text gcase; is_gender = gender_text-is gender; is_number = number_text-is number; is_case = case_text-is gcase; is_text = refl })
tag_text-is (Verbal tense voice person number) =
    inr (inl (record { tense = tense_text tense; voice = voice_text voice; person = person_text person; number = number_text number; is_tense = tense_text-is tense; is_voice = voice_text-is voice; is_person = person_text-is person; is_number = number_text-is number; is_text = refl }))
tag_text-is Iic = inr (inr (inl refl))
tag_text-is Pv = inr (inr (inr (inl refl)))
tag_text-is Ind = inr (inr (inr (inr (inl refl))))

nominal_once : (g g' : Gender) (n n' : Number) (c c' : Case) → tag_text (Nominal g n c) ≡ tag_text (Nominal g' n' c') → Nominal g n c ≡ Nominal g' n' c'
nominal_once g g' n n' c c' e =
    let first = before_dot-once (gender_text g) (gender_text g') (before_dot (number_text n) (case_text c)) (before_dot (number_text n') (case_text c')) (gender_dotless _ (gender_text-is g)) (gender_dotless _ (gender_text-is g')) e in
    let second = before_dot-once (number_text n) (number_text n') (case_text c) (case_text c') (number_dotless _ (number_text-is n)) (number_dotless _ (number_text-is n')) first.1 in
    rw (gender_text-once g g' first.0, number_text-once n n' second.0, case_text-once c c' second.1)

verbal_once : (t t' : Tense) (v v' : Voice) (p p' : Person) (n n' : Number) → tag_text (Verbal t v p n) ≡ tag_text (Verbal t' v' p' n') → Verbal t v p n ≡ Verbal t' v' p' n'
verbal_once t t' v v' p p' n n' e =
    let first = before_dot-once (tense_text t) (tense_text t') (before_dot (voice_text v) (before_dot (person_text p) (number_text n))) (before_dot (voice_text v') (before_dot (person_text p') (number_text n'))) (tense_dotless _ (tense_text-is t)) (tense_dotless _ (tense_text-is t')) e in
    let second = before_dot-once (voice_text v) (voice_text v') (before_dot (person_text p) (number_text n)) (before_dot (person_text p') (number_text n')) (voice_dotless _ (voice_text-is v)) (voice_dotless _ (voice_text-is v')) first.1 in
    let third = before_dot-once (person_text p) (person_text p') (number_text n) (number_text n') (person_dotless _ (person_text-is p)) (person_dotless _ (person_text-is p')) second.1 in
    rw (tense_text-once t t' first.0, voice_text-once v v' second.0, person_text-once p p' third.0, number_text-once n n' third.1)

shapes_differ : (g : Gender) (n : Number) (c : Case) (t : Tense) (v : Voice) (p : Person) (m : Number) → tag_text (Nominal g n c) ≡ tag_text (Verbal t v p m) → ⊥
shapes_differ g n c t v p m e =
    let first = before_dot-once (gender_text g) (tense_text t) (before_dot (number_text n) (case_text c)) (before_dot (voice_text v) (before_dot (person_text p) (number_text m))) (gender_dotless _ (gender_text-is g)) (tense_dotless _ (tense_text-is t)) e in
    let second = before_dot-once (number_text n) (voice_text v) (case_text c) (before_dot (person_text p) (number_text m)) (number_dotless _ (number_text-is n)) (voice_dotless _ (voice_text-is v)) first.1 in
    before_dot-has_dot (person_text p) (number_text m) (rw second.1 at (case_dotless _ (case_text-is c)))

lone_differs : (word part rest : List ℕ) → IsOneOf lone_words word → word ≡ before_dot part rest → ⊥
lone_differs word part rest h e = before_dot-has_dot part rest (rw e at (lone_dotless word h))

lone_iic : IsOneOf lone_words (codes "iic")
lone_iic = inl refl

lone_pv : IsOneOf lone_words (codes "pv")
lone_pv = inr (inl refl)

lone_ind : IsOneOf lone_words (codes "ind")
lone_ind = inr (inr (inl refl))

lone_of : List ℕ → Tag
lone_of word = if bytes_eq word (codes "iic") then Iic else (if bytes_eq word (codes "pv") then Pv else Ind)

lone_of-iic : lone_of (codes "iic") ≡ Iic
unfolding lone_of
lone_of-iic = refl

lone_of-pv : lone_of (codes "pv") ≡ Pv
unfolding lone_of
lone_of-pv = refl

lone_of-ind : lone_of (codes "ind") ≡ Ind
unfolding lone_of
lone_of-ind = refl

-- two tags with one text are one tag
pub tag_text-once : (left right : Tag) → tag_text left ≡ tag_text right → left ≡ right
tag_text-once (Nominal g n c) (Nominal g' n' c') e = nominal_once g g' n n' c c' e
tag_text-once (Nominal g n c) (Verbal t v p m) e = absurd (shapes_differ g n c t v p m e)
tag_text-once (Nominal g n c) Iic e = absurd (lone_differs (codes "iic") (gender_text g) (before_dot (number_text n) (case_text c)) lone_iic (sym e))
tag_text-once (Nominal g n c) Pv e = absurd (lone_differs (codes "pv") (gender_text g) (before_dot (number_text n) (case_text c)) lone_pv (sym e))
tag_text-once (Nominal g n c) Ind e = absurd (lone_differs (codes "ind") (gender_text g) (before_dot (number_text n) (case_text c)) lone_ind (sym e))
tag_text-once (Verbal t v p m) (Nominal g n c) e = absurd (shapes_differ g n c t v p m (sym e))
tag_text-once (Verbal t v p n) (Verbal t' v' p' n') e = verbal_once t t' v v' p p' n n' e
tag_text-once (Verbal t v p m) Iic e = absurd (lone_differs (codes "iic") (tense_text t) (before_dot (voice_text v) (before_dot (person_text p) (number_text m))) lone_iic (sym e))
tag_text-once (Verbal t v p m) Pv e = absurd (lone_differs (codes "pv") (tense_text t) (before_dot (voice_text v) (before_dot (person_text p) (number_text m))) lone_pv (sym e))
tag_text-once (Verbal t v p m) Ind e = absurd (lone_differs (codes "ind") (tense_text t) (before_dot (voice_text v) (before_dot (person_text p) (number_text m))) lone_ind (sym e))
tag_text-once Iic (Nominal g n c) e = absurd (lone_differs (codes "iic") (gender_text g) (before_dot (number_text n) (case_text c)) lone_iic e)
tag_text-once Iic (Verbal t v p m) e = absurd (lone_differs (codes "iic") (tense_text t) (before_dot (voice_text v) (before_dot (person_text p) (number_text m))) lone_iic e)
tag_text-once Iic Iic e = refl
tag_text-once Iic Pv e = sym lone_of-iic ∙ ap lone_of e ∙ lone_of-pv
tag_text-once Iic Ind e = sym lone_of-iic ∙ ap lone_of e ∙ lone_of-ind
tag_text-once Pv (Nominal g n c) e = absurd (lone_differs (codes "pv") (gender_text g) (before_dot (number_text n) (case_text c)) lone_pv e)
tag_text-once Pv (Verbal t v p m) e = absurd (lone_differs (codes "pv") (tense_text t) (before_dot (voice_text v) (before_dot (person_text p) (number_text m))) lone_pv e)
tag_text-once Pv Iic e = sym lone_of-pv ∙ ap lone_of e ∙ lone_of-iic
tag_text-once Pv Pv e = refl
tag_text-once Pv Ind e = sym lone_of-pv ∙ ap lone_of e ∙ lone_of-ind
tag_text-once Ind (Nominal g n c) e = absurd (lone_differs (codes "ind") (gender_text g) (before_dot (number_text n) (case_text c)) lone_ind e)
tag_text-once Ind (Verbal t v p m) e = absurd (lone_differs (codes "ind") (tense_text t) (before_dot (voice_text v) (before_dot (person_text p) (number_text m))) lone_ind e)
tag_text-once Ind Iic e = sym lone_of-ind ∙ ap lone_of e ∙ lone_of-iic
tag_text-once Ind Pv e = sym lone_of-ind ∙ ap lone_of e ∙ lone_of-pv
tag_text-once Ind Ind e = refl
