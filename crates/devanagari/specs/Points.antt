-- The program's kinds of code points, as the definition of the script names them.
use Rattle.text_definitions.specs.Devanagari as script
use Rattle.text_definitions.specs.Devanagari.{PointKind}
use Rattle.devanagari.specs.declared.point.Point.{Point}
use Rattle.devanagari.specs.declared.point.Point.TheVariants.{Joiner, Virama, Letter, Sign, Foreign}

-- the same kind
abbrev pub kind_of : Point → PointKind
kind_of Joiner = script.Joiner
kind_of Virama = script.Virama
kind_of (Letter letter) = script.Letter letter
kind_of (Sign vowel) = script.Sign vowel
kind_of Foreign = script.Foreign
