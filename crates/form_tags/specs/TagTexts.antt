-- The text of a tag, as the program names tags.
use Rattle.std.specs.Prelude.{ℕ, List, codes}
use Rattle.lexicon_definitions.specs.Tags.{before_dot}
use Rattle.form_tags.specs.declared.gender.Gender.{Gender}
use Rattle.form_tags.specs.declared.gender.Gender.TheVariants.{M, F, N}
use Rattle.form_tags.specs.declared.number.Number.{Number}
use Rattle.form_tags.specs.declared.number.Number.TheVariants.{Sg, Du, Pl}
use Rattle.form_tags.specs.declared.case.Case.{Case}
use Rattle.form_tags.specs.declared.case.Case.TheVariants.{Nom, Acc, Ins, Dat, Abl, Gen, Loc, Voc}
use Rattle.form_tags.specs.declared.tense.Tense.{Tense}
use Rattle.form_tags.specs.declared.tense.Tense.TheVariants.{Pr, Impf, Imp, Opt, Fut, Perf, Aor}
use Rattle.form_tags.specs.declared.voice.Voice.{Voice}
use Rattle.form_tags.specs.declared.voice.Voice.TheVariants.{Ac, Md, Ps}
use Rattle.form_tags.specs.declared.person.Person.{Person}
use Rattle.form_tags.specs.declared.person.Person.TheVariants.{First, Second, Third}
use Rattle.form_tags.specs.declared.tag.Tag.{Tag}
use Rattle.form_tags.specs.declared.tag.Tag.TheVariants.{Nominal, Verbal, Iic, Pv, Ind}

-- the word of a gender
abbrev pub gender_text : Gender → List ℕ
gender_text M = codes "m"
gender_text F = codes "f"
gender_text N = codes "n"

-- the word of a number
abbrev pub number_text : Number → List ℕ
number_text Sg = codes "sg"
number_text Du = codes "du"
number_text Pl = codes "pl"

-- the word of a case
abbrev pub case_text : Case → List ℕ
case_text Nom = codes "nom"
case_text Acc = codes "acc"
case_text Ins = codes "ins"
case_text Dat = codes "dat"
case_text Abl = codes "abl"
case_text Gen = codes "gen"
case_text Loc = codes "loc"
case_text Voc = codes "voc"

-- the word of a tense
abbrev pub tense_text : Tense → List ℕ
tense_text Pr = codes "pr"
tense_text Impf = codes "impf"
tense_text Imp = codes "imp"
tense_text Opt = codes "opt"
tense_text Fut = codes "fut"
tense_text Perf = codes "perf"
tense_text Aor = codes "aor"

-- the word of a voice
abbrev pub voice_text : Voice → List ℕ
voice_text Ac = codes "ac"
voice_text Md = codes "md"
voice_text Ps = codes "ps"

-- the word of a person
abbrev pub person_text : Person → List ℕ
person_text First = codes "1"
person_text Second = codes "2"
person_text Third = codes "3"

-- the text of a tag
abbrev pub tag_text : Tag → List ℕ
tag_text (Nominal gender number gcase) =
    before_dot (gender_text gender) (before_dot (number_text number) (case_text gcase))
tag_text (Verbal tense voice person number) =
    before_dot (tense_text tense) (before_dot (voice_text voice) (before_dot (person_text person) (number_text number)))
tag_text Iic = codes "iic"
tag_text Pv = codes "pv"
tag_text Ind = codes "ind"
