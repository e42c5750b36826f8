-- The fault of a text is that of its first line that has one: by induction on the lines, by what each is converted to.
use Rattle.std.proofs.Common.{◌≡◌, ℕ, ◌+◌, List, [], ◌∷◌, ◌++◌, length, Ok, Err, refl, ◌∙◌, ap, arith}
use Rattle.std.specs.List.{AllByRecursion}
use Rattle.text_definitions.specs.Spellings.{Reading}
use Rattle.lexicon_text_definitions.specs.FileLines.{Line}
use Rattle.conversion_definitions.specs.AnySchemes.{AnyScheme}
use Rattle.conversion_definitions.specs.Conversions.{ConversionFault, Converted, converted_line, with_bytes, line_end, line_by, converted_lines}

-- the line is converted
abbrev pub IsConverted : AnyScheme → AnyScheme → Line → Type 0
IsConverted from to line = (result : List ℕ) × (converted_line from to line.bytes ≡ Ok result)

-- the first of these lines that has a fault, where their numbers begin with this one
pub record HasFirstFault (from to : AnyScheme) (number : ℕ) (lines : List Line) (fault : ConversionFault) : Type 0 where
  pub before : List Line
  pub line : Line
  pub after : List Line
  pub are : lines ≡ before ++ line ∷ after
  pub numbered : fault.line ≡ length before + number
  pub is : converted_line from to line.bytes ≡ Err fault.fault
  pub earlier : AllByRecursion (IsConverted from to) before

rest_fails : (bytes : List ℕ) (rest : Converted) (fault : ConversionFault) → with_bytes bytes rest ≡ Err fault → rest ≡ Err fault
rest_fails bytes (Ok more) fault h = absurd (cc (h))
rest_fails bytes (Err other) fault h = cc (h)

module _ (from to : AnyScheme) where
  later : (number : ℕ) (line : Line) (lines : List Line) (fault : ConversionFault) → IsConverted from to line
      → HasFirstFault from to (number + 1) lines fault → HasFirstFault from to number (line ∷ lines) fault
  later number line lines fault converted found = record {
    before = line ∷ found.before;
    line = found.line;
    after = found.after;
    are = ap (λ ls. line ∷ ls) found.are;
    numbered = omega (arith, found.numbered);
    is = found.is;
    earlier = (converted, found.earlier);
  }

  by_line : (number : ℕ) (line : Line) (lines : List Line) (fault : ConversionFault) (reading : Reading) → converted_line from to line.bytes ≡ reading
      → line_by number line.ended reading (converted_lines from to (number + 1) lines) ≡ Err fault
      → (converted_lines from to (number + 1) lines ≡ Err fault → HasFirstFault from to (number + 1) lines fault)
      → HasFirstFault from to number (line ∷ lines) fault
  by_line number line lines fault (Ok result) e h rest =
      later number line lines fault (result, e) (rest (rest_fails (result ++ line_end line.ended) (converted_lines from to (number + 1) lines) fault h))
  by_line number line lines fault (Err why) e h rest =
      let same : record { line = number; fault = why } ≡ fault = cc (h) in record {
        before = [];
        line = line;
        after = lines;
        are = refl;
        numbered = omega (arith, ap (λ (f : ConversionFault). f.line) same);
        is = e ∙ ap (λ (f : ConversionFault). Err f.fault) same;
        earlier = tt;
      }

  pub first_fault : (lines : List Line) (number : ℕ) (fault : ConversionFault) → converted_lines from to number lines ≡ Err fault
      → HasFirstFault from to number lines fault
  first_fault [] number fault h = absurd (cc (h))
  first_fault (line ∷ lines) number fault h =
      by_line number line lines fault (converted_line from to line.bytes) refl h (first_fault lines (number + 1) fault)
