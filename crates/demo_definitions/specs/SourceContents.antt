-- What the source files and the text of `demo` hold, letters by their codes (own).
use Rattle.std.specs.Prelude.{ℕ, Ok, Err, List, [], ◌∷◌, ◌++◌, map, codes}
use Rattle.text_definitions.specs.Lines.{Line}
use Rattle.text_definitions.specs.Spellings.{Reading}
use Rattle.text_definitions.specs.Slp1.{word_of_slp1}
use Rattle.lexicon_definitions.specs.Lexicons.{RuleSet}
use Rattle.lexicon_definitions.specs.Rules.{Rule}
use Rattle.morphology_definitions.specs.Inflection.{Row, Class, Stem}
use Rattle.demo_definitions.specs.DrawnStems.{stems_of_number}
use Rattle.demo_definitions.specs.DrawnTexts.{text_of_number}

-- the letters of the class k: k, g, c, j, t, d, p, b, m and y
abbrev pub any_consonants : List ℕ
any_consonants = 17 ∷ 19 ∷ 22 ∷ 24 ∷ 32 ∷ 34 ∷ 37 ∷ 39 ∷ 41 ∷ 42 ∷ []

-- those of the class p: k, c, t and p
abbrev pub voiceless_consonants : List ℕ
voiceless_consonants = 17 ∷ 22 ∷ 32 ∷ 37 ∷ []

-- those of the class b: g, j, d, b, m and y
abbrev pub voiced_consonants : List ℕ
voiced_consonants = 19 ∷ 24 ∷ 34 ∷ 39 ∷ 41 ∷ 42 ∷ []

-- the pairs of this letter and each of these
abbrev pub pairs_after : ℕ → List ℕ → List (ℕ × ℕ)
pairs_after letter followers = map (λ follower. (letter, follower)) followers

-- the rule by which aH becomes o before this letter, in each of the two phases
abbrev pub visarga_rule : ℕ → Rule
visarga_rule letter = record { u = 1 ∷ 16 ∷ []; v = letter ∷ []; w = 12 ∷ letter ∷ []; before = 3; after = 3 }

-- the phases noun and ind; a, e and visarga before consonants; visarga after a before voiced ones
unfoldable pub demo_rule_set : RuleSet
demo_rule_set = record {
  names = codes "noun" ∷ codes "ind" ∷ [];
  grammar = codes "(ind | noun)+";
  plain = pairs_after 1 any_consonants ++ pairs_after 10 any_consonants ++ pairs_after 16 voiceless_consonants;
  rules = map visarga_rule voiced_consonants;
}

-- the row with this tag, phase and ending, which cuts the stem's last letter
abbrev pub demo_row : List ℕ → ℕ → List ℕ → Row
demo_row tag phase ending = record { tag = tag; phase = phase; prefix = []; cut = 1; ending = ending }

-- the class a: aH, ena, Aya and e as nouns, and e as an indeclinable
unfoldable pub demo_classes : List Class
demo_classes =
    record {
      name = codes "a";
      rows =
          demo_row (codes "m.sg.nom") 0 (1 ∷ 16 ∷ []) ∷ demo_row (codes "m.sg.ins") 0 (10 ∷ 36 ∷ 1 ∷ [])
          ∷ demo_row (codes "m.sg.dat") 0 (2 ∷ 42 ∷ 1 ∷ []) ∷ demo_row (codes "m.sg.loc") 0 (10 ∷ [])
          ∷ demo_row (codes "ind") 1 (10 ∷ []) ∷ [];
    } ∷ []

-- the word that was read
abbrev pub word_read : Reading → List ℕ
word_read (Ok word) = word
word_read (Err fault) = []

-- the letters that a text spells in SLP1
unfoldable pub letters_spelled : List ℕ → List ℕ
letters_spelled text = word_read (word_of_slp1 text)

-- the stem that a text spells, of the class a
abbrev pub stem_spelled : List ℕ → Stem
stem_spelled text = record { letters = letters_spelled text; class = 0 }

-- the stems of a number
unfoldable pub stems_spelled : ℕ → List Stem
stems_spelled number = map stem_spelled (stems_of_number number)

-- the line of a number's text
unfoldable pub line_spelled : ℕ → Line
line_spelled number = record { letters = letters_spelled (text_of_number number); blanks = [] }
