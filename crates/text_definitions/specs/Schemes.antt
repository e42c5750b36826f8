-- The spelling schemes in which a text may be written.
use Rattle.std.specs.Prelude.{ℕ, List, Option, Some, None, if◌then◌else◌, codes}
use Rattle.std.specs.Str.{bytes_eq}
use Rattle.text_definitions.specs.Spellings.{Reading}
use Rattle.text_definitions.specs.Slp1.{word_of_slp1}
use Rattle.text_definitions.specs.Wx.{word_of_wx}
use Rattle.text_definitions.specs.Velthuis.{word_of_velthuis}
use Rattle.text_definitions.specs.Devanagari.{word_of_devanagari}

-- one of the four schemes
pub data Scheme : Type 0 where
  Slp1 : Scheme
  Wx : Scheme
  Velthuis : Scheme
  Devanagari : Scheme

-- the word that a text spells in the scheme, or its first fault
abbrev pub word_of_text : Scheme → List ℕ → Reading
word_of_text Slp1 text = word_of_slp1 text
word_of_text Wx text = word_of_wx text
word_of_text Velthuis text = word_of_velthuis text
word_of_text Devanagari text = word_of_devanagari text

-- the word that names the scheme
abbrev pub name_of_scheme : Scheme → List ℕ
name_of_scheme Slp1 = codes "slp1"
name_of_scheme Wx = codes "wx"
name_of_scheme Velthuis = codes "velthuis"
name_of_scheme Devanagari = codes "devanagari"

-- the scheme of this name
abbrev pub scheme_named : List ℕ → Option Scheme
scheme_named name =
    if bytes_eq name (name_of_scheme Slp1) then Some Slp1
    else if bytes_eq name (name_of_scheme Wx) then Some Wx
    else if bytes_eq name (name_of_scheme Velthuis) then Some Velthuis
    else if bytes_eq name (name_of_scheme Devanagari) then Some Devanagari
    else None
