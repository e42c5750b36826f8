-- The texts of tags: what an inflected form is, in words joined by dots, as Huet's lexicons of forms tell it; words and shapes are this project's own.
use Rattle.std.specs.Prelude.{◌≡◌, ℕ, List, [], ◌∷◌, ◌++◌, ◌⊎◌, codes}

-- the text is one of the words
abbrev pub IsOneOf : List (List ℕ) → List ℕ → Type 0
IsOneOf [] text = ⊥
IsOneOf (word ∷ words) text = (text ≡ word) ⊎ IsOneOf words text

-- masculine, feminine, neuter
abbrev pub genders : List (List ℕ)
genders = codes "m" ∷ codes "f" ∷ codes "n" ∷ []

-- singular, dual, plural
abbrev pub numbers : List (List ℕ)
numbers = codes "sg" ∷ codes "du" ∷ codes "pl" ∷ []

-- nominative, accusative, instrumental, dative, ablative, genitive, locative, vocative
abbrev pub cases : List (List ℕ)
cases =
    codes "nom" ∷ codes "acc" ∷ codes "ins" ∷ codes "dat" ∷ codes "abl" ∷ codes "gen" ∷ codes "loc" ∷ codes "voc" ∷ []

-- present, imperfect, imperative, optative, future, perfect, aorist
abbrev pub tenses : List (List ℕ)
tenses = codes "pr" ∷ codes "impf" ∷ codes "imp" ∷ codes "opt" ∷ codes "fut" ∷ codes "perf" ∷ codes "aor" ∷ []

-- active, middle, passive
abbrev pub voices : List (List ℕ)
voices = codes "ac" ∷ codes "md" ∷ codes "ps" ∷ []

-- first, second, third person
abbrev pub persons : List (List ℕ)
persons = codes "1" ∷ codes "2" ∷ codes "3" ∷ []

-- a stem before another in a compound, a preverb, a word without endings
abbrev pub lone_words : List (List ℕ)
lone_words = codes "iic" ∷ codes "pv" ∷ codes "ind" ∷ []

-- a word, a dot, and what follows
abbrev pub before_dot : List ℕ → List ℕ → List ℕ
before_dot word rest = word ++ 46 ∷ rest

-- the tag of a noun: GENDER.NUMBER.CASE
pub record IsNominalText (text : List ℕ) : Type 0 where
  pub gender : List ℕ
  pub number : List ℕ
  pub gcase : List ℕ
  pub is_gender : IsOneOf genders gender
  pub is_number : IsOneOf numbers number
  pub is_case : IsOneOf cases gcase
  pub is_text : text ≡ before_dot gender (before_dot number gcase)

-- the tag of a verb: TENSE.VOICE.PERSON.NUMBER
pub record IsVerbalText (text : List ℕ) : Type 0 where
  pub tense : List ℕ
  pub voice : List ℕ
  pub person : List ℕ
  pub number : List ℕ
  pub is_tense : IsOneOf tenses tense
  pub is_voice : IsOneOf voices voice
  pub is_person : IsOneOf persons person
  pub is_number : IsOneOf numbers number
  pub is_text : text ≡ before_dot tense (before_dot voice (before_dot person number))

-- a tag's text is that of a noun, that of a verb, or a lone word
abbrev pub IsTagText : List ℕ → Type 0
IsTagText text = IsNominalText text ⊎ IsVerbalText text ⊎ IsOneOf lone_words text
