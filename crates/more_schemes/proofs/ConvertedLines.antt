-- A line gives what the parts of the bytes that are read of it give; the lines of a text are converted one after another, and the first
-- fault among them is that of the text.
use Rattle.std.proofs.Common.{◌≡◌, ℕ, ◌+◌, ◌<◌, ◌^◌, List, [], ◌∷◌, ◌++◌, length, Some, None, Ok, Err, Bool, true, false, cond, inl, inr, refl, ap, ◌∙◌, sym, subst, arith, append-nil, ◌≢◌, All}
use Rattle.std.specs.Prelude.{◌⊎◌}
use Rattle.std.specs.Str.{IsUtf8, is_utf8}
use Rattle.std.specs.Str.Lossy.{utf8_valid_len}
use Rattle.std.proofs.lemmas.Str.{is_utf8-from_IsUtf8, IsUtf8-from_is_utf8}
use Rattle.std.proofs.lemmas.Bool.{cases_Bool}
use Rattle.std.proofs.lemmas.List.{append_assoc}
use Rattle.text_definitions.specs.Spellings.{SpellingFault, NotUtf8, Reading, with_front}
use Rattle.more_scheme_definitions.specs.Iast.{composed}
use Rattle.list_laws.proofs.CutLaws.{not_cut, cut_as, cut_as_parted}
use Rattle.list_laws.proofs.Marks.{is_free, free_parts}
use Rattle.lexicon_text_definitions.specs.FileLines.{Line, with_byte, lines_of_bytes}
use Rattle.lexicon_text_definitions.proofs.LineCuts.{line_at}
use Rattle.conversion_definitions.specs.AnySchemes.{AnyScheme, Slp1, Wx, Velthuis, Devanagari, Iast, HarvardKyoto, read_bytes}
use Rattle.conversion_definitions.specs.Marks.{marks_between}
use Rattle.conversion_definitions.specs.Conversions.{parts_from, converted_parts, converted_reading, converted_line, ConversionFault, Converted, with_bytes, line_end, line_by, converted_lines, converted_text}
use Rattle.more_schemes.specs.declared.any_scheme.AnyScheme as names
use Rattle.more_schemes.specs.declared.any_scheme.AnyScheme.TheVariants as variants
use Rattle.more_schemes.specs.Values.{any_scheme_of}

-- the parts of these bytes, converted
abbrev pub converted_bytes : AnyScheme → AnyScheme → List ℕ → Reading
converted_bytes from to bytes = converted_parts from to (parts_from (marks_between from to) 0 0 bytes)

-- ---- one line

-- in the schemes in ASCII the line is read as it is
pub ascii_line : (from : names.AnyScheme) (to : AnyScheme) (line : List ℕ)
    → (from ≡ variants.Slp1) ⊎ ((from ≡ variants.Wx) ⊎ ((from ≡ variants.Velthuis) ⊎ (from ≡ variants.Hk)))
    → converted_bytes (any_scheme_of from) to line ≡ converted_line (any_scheme_of from) to line
unfolding converted_line
ascii_line from to line h =
    let P : names.AnyScheme → Type 0 = λ s. converted_bytes (any_scheme_of s) to line ≡ converted_reading (any_scheme_of s) to (read_bytes (any_scheme_of s) line) in
    elim h [
      | inl slp1 ↦ subst P (sym slp1) refl
      | inr more ↦ elim more [
        | inl wx ↦ subst P (sym wx) refl
        | inr others ↦ elim others [ inl velthuis ↦ subst P (sym velthuis) refl | inr hk ↦ subst P (sym hk) refl ]
      ]
    ]

if_valid : (from to : AnyScheme) (line bytes : List ℕ) → IsUtf8 line
    → converted_bytes from to bytes ≡ converted_reading from to (cond (is_utf8 line) (Ok bytes) (Err (NotUtf8 (utf8_valid_len line))))
if_valid from to line bytes valid =
    sym (ap (λ b. converted_reading from to (cond b (Ok bytes) (Err (NotUtf8 (utf8_valid_len line))))) (is_utf8-from_IsUtf8 line valid))

-- in Devanagari and IAST a line that is UTF-8 gives what its bytes give, or those of the composed line
pub devanagari_line : (to : AnyScheme) (line : List ℕ) → IsUtf8 line → converted_bytes Devanagari to line ≡ converted_line Devanagari to line
unfolding converted_line
devanagari_line to line valid = if_valid Devanagari to line line valid

pub iast_line : (to : AnyScheme) (line : List ℕ) → IsUtf8 line → converted_bytes Iast to (composed line) ≡ converted_line Iast to line
unfolding converted_line
iast_line to line valid = if_valid Iast to line (composed line) valid

if_broken : (from to : AnyScheme) (line bytes : List ℕ) (place : ℕ) → ¬ (IsUtf8 line) → place ≡ utf8_valid_len line
    → converted_reading from to (cond (is_utf8 line) (Ok bytes) (Err (NotUtf8 (utf8_valid_len line)))) ≡ Err (NotUtf8 place)
if_broken from to line bytes place broken at =
    elim (cases_Bool (is_utf8 line)) [
      | inl valid ↦ absurd (broken (IsUtf8-from_is_utf8 line valid))
      | inr other ↦
          ap (λ b. converted_reading from to (cond b (Ok bytes) (Err (NotUtf8 (utf8_valid_len line))))) other ∙ ap (λ p. Err (NotUtf8 p)) (sym at)
    ]

-- where the scheme is Devanagari or IAST and not IAST
pub not_iast : (input : names.AnyScheme) → (any_scheme_of input ≡ Devanagari) ⊎ (any_scheme_of input ≡ Iast) → (input ≡ variants.Iast → ⊥)
    → any_scheme_of input ≡ Devanagari
not_iast input (inl e) h = e
not_iast variants.Slp1 (inr e) h = absurd (cc (e))
not_iast variants.Wx (inr e) h = absurd (cc (e))
not_iast variants.Velthuis (inr e) h = absurd (cc (e))
not_iast variants.Devanagari (inr e) h = refl
not_iast variants.Iast (inr e) h = absurd (h refl)
not_iast variants.Hk (inr e) h = absurd (cc (e))

-- and one that is not has this fault
pub broken_line : (from : AnyScheme) (to : AnyScheme) (line : List ℕ) (place : ℕ) → (from ≡ Devanagari) ⊎ (from ≡ Iast) → ¬ (IsUtf8 line)
    → place ≡ utf8_valid_len line → converted_line from to line ≡ Err (NotUtf8 place)
unfolding converted_line
broken_line from to line place h broken at =
    let P : AnyScheme → Type 0 = λ s. converted_reading s to (read_bytes s line) ≡ Err (NotUtf8 place) in
    elim h [
      | inl devanagari ↦ subst P (sym devanagari) (if_broken Devanagari to line line place broken at)
      | inr iast ↦ subst P (sym iast) (if_broken Iast to line (composed line) place broken at)
    ]

-- ---- lines

-- bytes are cut after the first line end
pub line_cut : (bytes front rest : List ℕ) → (bytes ≡ front ++ 10 ∷ rest) × All (λ byte. byte ≢ 10) front
    → lines_of_bytes bytes ≡ record { bytes = front; ended = true } ∷ lines_of_bytes rest
line_cut bytes front rest parted =
    let is = cut_as 10 bytes (Some (front, rest)) (cut_as_parted 10 bytes front rest parted) in
    ap lines_of_bytes is.0 ∙ line_at front rest is.1

last_line : (byte : ℕ) (bytes : List ℕ) → is_free 10 (byte ∷ bytes) ≡ true
    → lines_of_bytes (byte ∷ bytes) ≡ record { bytes = byte ∷ bytes; ended = false } ∷ []
last_line byte [] h = ap (λ test. cond test (record { bytes = []; ended = true } ∷ []) (with_byte byte [])) (free_parts 10 byte [] h).0
last_line byte (next ∷ bytes) h =
    let parts = free_parts 10 byte (next ∷ bytes) h in
    ap (λ test. cond test (record { bytes = []; ended = true } ∷ lines_of_bytes (next ∷ bytes)) (with_byte byte (lines_of_bytes (next ∷ bytes)))) parts.0
    ∙ ap (with_byte byte) (last_line next bytes parts.1)

-- without one they are a line, where there are any
pub rest_line : (bytes : List ℕ) → All (λ byte. byte ≢ 10) bytes → 0 < length bytes → lines_of_bytes bytes ≡ record { bytes = bytes; ended = false } ∷ []
rest_line [] all some = absurd (omega arith)
rest_line (byte ∷ bytes) all some = last_line byte bytes (cut_as 10 (byte ∷ bytes) None (not_cut 10 (byte ∷ bytes) all))

-- ---- line after line

with_bytes_append : (xs ys : List ℕ) (rest : Converted) → with_bytes (xs ++ ys) rest ≡ with_bytes xs (with_bytes ys rest)
with_bytes_append xs ys (Ok bytes) = ap (λ b. Ok b) (append_assoc xs ys bytes)
with_bytes_append xs ys (Err fault) = refl

-- what the line gives, where so much was written before it
line_is : (old new : List ℕ) (reading : Reading) → with_front old reading ≡ Ok new → (line : List ℕ) × (reading ≡ Ok line) × (new ≡ old ++ line)
line_is old new (Ok line) e = (line, refl, cc (e))
line_is old new (Err fault) e = absurd (cc (e))

module _ (from to : AnyScheme) where
  -- a line with its line end is appended, before the lines that follow
  pub line_pushed : (old new newer : List ℕ) (number : ℕ) (ended : _) (line : List ℕ) (lines : List Line)
      → with_front old (converted_line from to line) ≡ Ok new → newer ≡ new ++ line_end ended
      → with_bytes newer (converted_lines from to (number + 1) lines) ≡ with_bytes old (converted_lines from to number (record { bytes = line; ended = ended } ∷ lines))
  line_pushed old new newer number ended line lines e f =
      let (converted, is, same) = line_is old new (converted_line from to line) e in
      let rest = converted_lines from to (number + 1) lines in
      ap (λ n. with_bytes n rest) (f ∙ ap (λ n. n ++ line_end ended) same ∙ append_assoc old converted (line_end ended))
      ∙ with_bytes_append old (converted ++ line_end ended) rest
      ∙ ap (λ r. with_bytes old (line_by number ended r rest)) (sym is)

  -- a last line without a line end is appended
  pub last_pushed : (old new : List ℕ) (number : ℕ) (line : List ℕ) → with_front old (converted_line from to line) ≡ Ok new
      → with_bytes old (converted_lines from to number (record { bytes = line; ended = false } ∷ [])) ≡ Ok new
  last_pushed old new number line e =
      sym (line_pushed old new new number false line [] e (sym (append-nil new))) ∙ ap (λ n. Ok n) (append-nil new)

  -- a line at fault
  pub line_refused : (old : List ℕ) (number : ℕ) (line : Line) (lines : List Line) (fault : SpellingFault) → converted_line from to line.bytes ≡ Err fault
      → with_bytes old (converted_lines from to number (line ∷ lines)) ≡ Err (record { line = number; fault = fault })
  line_refused old number line lines fault is = ap (λ r. with_bytes old (line_by number line.ended r (converted_lines from to (number + 1) lines))) is

  -- before the first line nothing is written
  pub none_converted : (text : List ℕ) → with_bytes [] (converted_lines from to 1 (lines_of_bytes text)) ≡ converted_text from to text
  unfolding converted_text
  none_converted text = nothing_before (converted_lines from to 1 (lines_of_bytes text))
    where
      nothing_before : (converted : Converted) → with_bytes [] converted ≡ converted
      nothing_before (Ok bytes) = refl
      nothing_before (Err fault) = refl
