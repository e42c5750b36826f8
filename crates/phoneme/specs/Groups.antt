-- The group of a letter, as the program names it.
use Rattle.std.specs.Prelude.{ℕ}
use Rattle.text_definitions.specs.Letters.{IsVowel, IsMark, IsGuttural, IsPalatal, IsLingual, IsDental, IsLabial, IsSemivowel, IsSibilant, IsBreath, IsAvagraha}
use Rattle.phoneme.specs.declared.group.Group.{Group}
use Rattle.phoneme.specs.declared.group.Group.TheVariants.{Vowel, Mark, Guttural, Palatal, Lingual, Dental, Labial, Semivowel, Sibilant, Breath, Avagraha}

-- the letter with this code is in the group
abbrev pub IsInGroup : ℕ → Group → Type 0
IsInGroup code Vowel = IsVowel code
IsInGroup code Mark = IsMark code
IsInGroup code Guttural = IsGuttural code
IsInGroup code Palatal = IsPalatal code
IsInGroup code Lingual = IsLingual code
IsInGroup code Dental = IsDental code
IsInGroup code Labial = IsLabial code
IsInGroup code Semivowel = IsSemivowel code
IsInGroup code Sibilant = IsSibilant code
IsInGroup code Breath = IsBreath code
IsInGroup code Avagraha = IsAvagraha code
