-- The six schemes between which a text may be converted (own).
use Rattle.std.specs.Prelude.{ℕ, List, Bool, true, false, Option, Some, None, if◌then◌else◌, codes, Ok, Err}
use Rattle.std.specs.Str.{bytes_eq, is_utf8}
use Rattle.std.specs.Str.Lossy.{utf8_valid_len}
use Rattle.text_definitions.specs.Spellings.{Reading, NotUtf8}
use Rattle.text_definitions.specs.Slp1.{word_of_slp1, slp1_of_word}
use Rattle.text_definitions.specs.Wx.{word_of_wx, wx_of_word}
use Rattle.text_definitions.specs.Velthuis.{word_of_velthuis, velthuis_of_word}
use Rattle.text_definitions.specs.Devanagari.{word_of_devanagari, devanagari_of_word}
use Rattle.more_scheme_definitions.specs.HarvardKyoto.{word_of_harvard_kyoto, harvard_kyoto_of_word}
use Rattle.more_scheme_definitions.specs.Iast.{composed, word_of_composed, iast_of_word}

-- one of the six schemes
pub data AnyScheme : Type 0 where
  Slp1 : AnyScheme
  Wx : AnyScheme
  Velthuis : AnyScheme
  Devanagari : AnyScheme
  Iast : AnyScheme
  HarvardKyoto : AnyScheme

-- the word that names the scheme
abbrev pub name_of_any_scheme : AnyScheme → List ℕ
name_of_any_scheme Slp1 = codes "slp1"
name_of_any_scheme Wx = codes "wx"
name_of_any_scheme Velthuis = codes "velthuis"
name_of_any_scheme Devanagari = codes "devanagari"
name_of_any_scheme Iast = codes "iast"
name_of_any_scheme HarvardKyoto = codes "hk"

-- the scheme of this name
abbrev pub any_scheme_named : List ℕ → Option AnyScheme
any_scheme_named name =
    if bytes_eq name (name_of_any_scheme Slp1) then Some Slp1
    else if bytes_eq name (name_of_any_scheme Wx) then Some Wx
    else if bytes_eq name (name_of_any_scheme Velthuis) then Some Velthuis
    else if bytes_eq name (name_of_any_scheme Devanagari) then Some Devanagari
    else if bytes_eq name (name_of_any_scheme Iast) then Some Iast
    else if bytes_eq name (name_of_any_scheme HarvardKyoto) then Some HarvardKyoto
    else None

-- the text, where it is UTF-8
abbrev pub if_utf8 : List ℕ → List ℕ → Reading
if_utf8 text reading = if is_utf8 text then Ok reading else Err (NotUtf8 (utf8_valid_len text))

-- The bytes of a line that are read: in IAST the composed line, and in the other schemes the line as it is. In IAST and in
-- Devanagari what is not UTF-8 is at fault before all else.
abbrev pub read_bytes : AnyScheme → List ℕ → Reading
read_bytes Slp1 line = Ok line
read_bytes Wx line = Ok line
read_bytes Velthuis line = Ok line
read_bytes Devanagari line = if_utf8 line line
read_bytes Iast line = if_utf8 line (composed line)
read_bytes HarvardKyoto line = Ok line

-- the word that a run of letters spells in the scheme, or its first fault; in IAST the run is composed already
abbrev pub word_of_run : AnyScheme → List ℕ → Reading
word_of_run Slp1 run = word_of_slp1 run
word_of_run Wx run = word_of_wx run
word_of_run Velthuis run = word_of_velthuis run
word_of_run Devanagari run = word_of_devanagari run
word_of_run Iast run = word_of_composed run
word_of_run HarvardKyoto run = word_of_harvard_kyoto run

-- the spelling of a word in the scheme
abbrev pub spelling_in : AnyScheme → List ℕ → List ℕ
spelling_in Slp1 word = slp1_of_word word
spelling_in Wx word = wx_of_word word
spelling_in Velthuis word = velthuis_of_word word
spelling_in Devanagari word = devanagari_of_word word
spelling_in Iast word = iast_of_word word
spelling_in HarvardKyoto word = harvard_kyoto_of_word word
