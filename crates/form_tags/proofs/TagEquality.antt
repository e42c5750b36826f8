-- Tags that are equal for the program are one: field by field, down to the enums, whose derived equality tells their variants.
use Rattle.std.proofs.Common.{◌≡◌, true, ◌&&◌, refl, sym, rules, true≢false}
use Rattle.std.proofs.lemmas.Bool.{and_parts}
use denote.Enum.Bare.{same_true}
use Rattle.form_tags.specs.declared.tag.Tag.{Tag}
use Rattle.form_tags.specs.declared.tag.Tag.TheVariants.{Nominal, Verbal, Iic, Pv, Ind}
use Rattle.form_tags.specs.declared.gender.Gender.{Gender}
use Rattle.form_tags.specs.contracts.gender.Gender.{the_type as gender_type}
use Rattle.form_tags.specs.contracts.gender.GenderPartialEq.TheImpl.{eq-value as gender_eq}
use Rattle.form_tags.specs.declared.number.Number.{Number}
use Rattle.form_tags.specs.contracts.number.Number.{the_type as number_type}
use Rattle.form_tags.specs.contracts.number.NumberPartialEq.TheImpl.{eq-value as number_eq}
use Rattle.form_tags.specs.declared.case.Case.{Case}
use Rattle.form_tags.specs.contracts.case.Case.{the_type as case_type}
use Rattle.form_tags.specs.contracts.case.CasePartialEq.TheImpl.{eq-value as case_eq}
use Rattle.form_tags.specs.declared.tense.Tense.{Tense}
use Rattle.form_tags.specs.contracts.tense.Tense.{the_type as tense_type}
use Rattle.form_tags.specs.contracts.tense.TensePartialEq.TheImpl.{eq-value as tense_eq}
use Rattle.form_tags.specs.declared.voice.Voice.{Voice}
use Rattle.form_tags.specs.contracts.voice.Voice.{the_type as voice_type}
use Rattle.form_tags.specs.contracts.voice.VoicePartialEq.TheImpl.{eq-value as voice_eq}
use Rattle.form_tags.specs.declared.person.Person.{Person}
use Rattle.form_tags.specs.contracts.person.Person.{the_type as person_type}
use Rattle.form_tags.specs.contracts.person.PersonPartialEq.TheImpl.{eq-value as person_eq}
use Rattle.form_tags.specs.contracts.tag.TagPartialEq.TheImpl.{eq-value as tag_eq}

gender_one : (a b : Gender) → gender_eq.it a b ≡ true → a ≡ b
gender_one a b e = same_true gender_type (search rules) a b e

number_one : (a b : Number) → number_eq.it a b ≡ true → a ≡ b
number_one a b e = same_true number_type (search rules) a b e

case_one : (a b : Case) → case_eq.it a b ≡ true → a ≡ b
case_one a b e = same_true case_type (search rules) a b e

tense_one : (a b : Tense) → tense_eq.it a b ≡ true → a ≡ b
tense_one a b e = same_true tense_type (search rules) a b e

voice_one : (a b : Voice) → voice_eq.it a b ≡ true → a ≡ b
voice_one a b e = same_true voice_type (search rules) a b e

person_one : (a b : Person) → person_eq.it a b ≡ true → a ≡ b
person_one a b e = same_true person_type (search rules) a b e

pub tag_one : (a b : Tag) → tag_eq.it a b ≡ true → a ≡ b
tag_one (Nominal g n c) (Nominal g' n' c') e =
    let first = and_parts (gender_eq.it g g') (number_eq.it n n' && case_eq.it c c') e in
    let rest = and_parts (number_eq.it n n') (case_eq.it c c') first.1 in
    λ i. Nominal (gender_one g g' first.0 i) (number_one n n' rest.0 i) (case_one c c' rest.1 i)
tag_one (Verbal t v p n) (Verbal t' v' p' n') e =
    let first = and_parts (tense_eq.it t t') (voice_eq.it v v' && (person_eq.it p p' && number_eq.it n n')) e in
    let second = and_parts (voice_eq.it v v') (person_eq.it p p' && number_eq.it n n') first.1 in
    let rest = and_parts (person_eq.it p p') (number_eq.it n n') second.1 in
    λ i. Verbal (tense_one t t' first.0 i) (voice_one v v' second.0 i) (person_one p p' rest.0 i) (number_one n n' rest.1 i)
tag_one Iic Iic e = refl
tag_one Pv Pv e = refl
tag_one Ind Ind e = refl
tag_one a b e = absurd (true≢false (sym e))
