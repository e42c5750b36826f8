-- What `convert` makes of the bytes of a text file.
use Rattle.std.specs.Prelude.{◌≡◌, ℕ, List, string_bytes}
use Rattle.conversion_definitions.specs.AnySchemes.{AnyScheme}
use Rattle.run_definitions.specs.ConvertOutcomes.{IsConversion, printed_lines}
use Rattle.commands.specs.declared.convert.ConvertedFile.{ConvertedFile}
use Rattle.commands.specs.Sources.{HoldsSource}

-- the file has this text in the other scheme, and the output tells how many lines it has
pub record IsConvertedFile (from to : AnyScheme) (bytes : List ℕ) (converted : ConvertedFile) : Type 0 where
  pub lines : ℕ
  pub held : HoldsSource (IsConversion from to) bytes (record { bytes = converted.text.items; lines = lines })
  pub output : string_bytes converted.output ≡ printed_lines lines
