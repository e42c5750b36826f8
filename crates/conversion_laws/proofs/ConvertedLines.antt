-- A line that is converted says the same: what is written is read as it stands, and says what was read.
use Rattle.std.proofs.Common.{◌≡◌, ℕ, cond, List, [], ◌∷◌, length, Ok, Err, arith, ap, ◌∙◌, sym, refl}
use Rattle.std.specs.List.{AllByRecursion}
use Rattle.std.specs.Str.Lossy.{utf8_valid_len}
use Rattle.std.proofs.lemmas.Str.{is_utf8-from_IsUtf8}
use Rattle.text_definitions.specs.Spellings.{NotUtf8, Reading}
use Rattle.more_scheme_definitions.specs.Iast.{composed}
use Rattle.conversion_definitions.specs.AnySchemes.{AnyScheme, Slp1, Wx, Velthuis, Devanagari, Iast, HarvardKyoto, read_bytes}
use Rattle.conversion_definitions.specs.Marks.{Mark, is_devanagari, marks_between}
use Rattle.conversion_definitions.specs.Conversions.{converted_reading, converted_line}
use Rattle.conversion_laws.specs.Signs.{signs_of_reading, signs_of_line}
use Rattle.conversion_laws.proofs.SameSigns.{Keeps, says_same}
use Rattle.conversion_laws.proofs.PrintedWords.{word_printed, run_letters}
use Rattle.conversion_laws.proofs.WrittenBytes.{IsEncoded, join_encoded, encoded_utf8, devanagari_written, devanagari_marks_written, IsKept, nothing_kept, join_kept, kept_utf8, kept_composed, iast_written, iast_marks_written}

-- what is written in the scheme is UTF-8 in Devanagari and IAST, and composed in IAST
abbrev Written : AnyScheme → List ℕ → Type 0
Written Slp1 bytes = Unit {0}
Written Wx bytes = Unit {0}
Written Velthuis bytes = Unit {0}
Written Devanagari bytes = IsEncoded bytes
Written Iast bytes = IsKept bytes
Written HarvardKyoto bytes = Unit {0}

each_unit : (marks : List Mark) → AllByRecursion (λ mark. Unit {0}) marks
each_unit [] = tt
each_unit (mark ∷ marks) = (tt, each_unit marks)

keeps : (from to : AnyScheme) → Keeps (Written to) from to
keeps from Slp1 = record { nothing = tt; joined = λ xs ys a b. tt; marks = each_unit (marks_between from Slp1); words = λ word ls. tt }
keeps from Wx = record { nothing = tt; joined = λ xs ys a b. tt; marks = each_unit (marks_between from Wx); words = λ word ls. tt }
keeps from Velthuis = record { nothing = tt; joined = λ xs ys a b. tt; marks = each_unit (marks_between from Velthuis); words = λ word ls. tt }
keeps from HarvardKyoto = record { nothing = tt; joined = λ xs ys a b. tt; marks = each_unit (marks_between from HarvardKyoto); words = λ word ls. tt }
keeps from Devanagari = record {
  nothing = record { points = []; scalars = refl; bytes_are = refl };
  joined = join_encoded;
  marks = devanagari_marks_written (is_devanagari from);
  words = devanagari_written;
}
keeps from Iast = record { nothing = nothing_kept; joined = join_kept; marks = iast_marks_written (is_devanagari from); words = iast_written }

-- what is written is read as it stands
read_back : (scheme : AnyScheme) (bytes : List ℕ) → Written scheme bytes → read_bytes scheme bytes ≡ Ok bytes
read_back Slp1 bytes w = refl
read_back Wx bytes w = refl
read_back Velthuis bytes w = refl
read_back HarvardKyoto bytes w = refl
read_back Devanagari bytes w =
    ap (λ b. cond b (Ok bytes) (Err (NotUtf8 (utf8_valid_len bytes)))) (is_utf8-from_IsUtf8 bytes (encoded_utf8 bytes w))
read_back Iast bytes w =
    ap (λ b. cond b (Ok (composed bytes)) (Err (NotUtf8 (utf8_valid_len bytes)))) (is_utf8-from_IsUtf8 bytes (kept_utf8 bytes w))
    ∙ ap (λ b. Ok b) (kept_composed bytes w)

by_reading : (from to : AnyScheme) (reading : Reading) (result : List ℕ) → converted_reading from to reading ≡ Ok result
    → signs_of_reading to (read_bytes to result) ≡ signs_of_reading from reading
by_reading from to (Ok bytes) result h =
    let has = says_same from to (Written to) (keeps from to) (word_printed to) (run_letters from) (length bytes) bytes result 0 (omega arith) h in
    ap (signs_of_reading to) (read_back to result has.written) ∙ has.target 0 ∙ sym (has.source 0)
by_reading from to (Err fault) result h = absurd (cc (h))

-- a line that is converted says the same
pub line_says_same : (from to : AnyScheme) (line result : List ℕ) → converted_line from to line ≡ Ok result → signs_of_line to result ≡ signs_of_line from line
unfolding converted_line signs_of_line
line_says_same from to line result h = by_reading from to (read_bytes from line) result h
