-- The words of a tag's text.
use Rattle.std.specs.Prelude.{ℕ, List, [], codes}
use Rattle.form_tags.specs.declared.tag.Tag.{Tag}
use Rattle.form_tags.specs.declared.tag.Tag.TheVariants.{Nominal, Verbal, Iic, Pv, Ind}
use Rattle.form_tags.specs.TagTexts.{gender_text, number_text, case_text, tense_text, voice_text, person_text}

-- four words; where a text has fewer, the last are empty
abbrev pub tag_words : Tag → List ℕ × List ℕ × List ℕ × List ℕ
tag_words (Nominal gender number gcase) = (gender_text gender, number_text number, case_text gcase, [])
tag_words (Verbal tense voice person number) =
    (tense_text tense, voice_text voice, person_text person, number_text number)
tag_words Iic = (codes "iic", [], [], [])
tag_words Pv = (codes "pv", [], [], [])
tag_words Ind = (codes "ind", [], [], [])
