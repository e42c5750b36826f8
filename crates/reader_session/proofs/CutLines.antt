-- Lines are cut off one after another, and whatever comes after the bytes stays in what is left; a rest without a line end is one
-- line, or no line where it is empty. So the lines that were cut off are the first of the input, in either case of its length.
use Rattle.std.proofs.Common.{◌≡◌, ◌≢◌, ℕ, ◌+◌, ◌-◌, ◌<◌, ◌≤◌, Bool, true, false, cond, List, [], ◌∷◌, ◌++◌, length, take, refl, sym, ◌∙◌, ap, arith, append_assoc}
use Rattle.std.proofs.lemmas.List.{append-nil, length-append}
use Rattle.std.proofs.lemmas.List.Elements.{All-append}
use Rattle.std.proofs.lemmas.Bool.{leb-true, le-leb}
use Rattle.std.proofs.Math.Seq.{take-append-add, take-append_seam}
use Rattle.list_laws.proofs.Marks.{is_free, free_parts, free_from_All}
use Rattle.lexicon_text_definitions.specs.FileLines.{Line, with_byte, lines_of_bytes}
use Rattle.lexicon_text_definitions.proofs.LineCuts.{ended_line, line_at}
use Rattle.session_definitions.specs.declared.limits.TheConstants.{MOST_INPUT_BYTES}
use Rattle.session_definitions.specs.SessionLines.{ended_lines, fits_session, lines_of_input}
use Rattle.reader_session.specs.Serving.{HasNoEnd, AreCutOff}

pub no_end_in_both : (left right : List ℕ) → HasNoEnd left → HasNoEnd right → HasNoEnd (left ++ right)
no_end_in_both left right h k = All-append (λ byte. byte ≢ 10) left right h k

-- ---- lines with a line end

ended_by : (test : Bool) (line : Line) (all first rest : List Line) → all ≡ first ++ rest
    → cond test (line ∷ all) all ≡ cond test (line ∷ first) first ++ rest
ended_by true line all first rest e = ap (◌∷◌ line) e
ended_by false line all first rest e = e

ended_append : (lines more : List Line) → ended_lines (lines ++ more) ≡ ended_lines lines ++ ended_lines more
ended_append [] more = refl
ended_append (line ∷ lines) more = ended_by line.ended line _ _ _ (ended_append lines more)

-- ---- lines that are cut off

pub none_cut : (bytes : List ℕ) → AreCutOff bytes [] bytes
none_cut bytes = record { ended = refl; first = λ more. refl }

pub line_cut : (line rest : List ℕ) → HasNoEnd line → AreCutOff (line ++ 10 ∷ rest) (ended_line line ∷ []) rest
line_cut line rest none = record {
  ended = refl;
  first = λ more. ap lines_of_bytes (append_assoc line (10 ∷ rest) more) ∙ line_at line (rest ++ more) (free_from_All 10 line none);
}

pub cut_on : (bytes middle left : List ℕ) (lines more : List Line) → AreCutOff bytes lines middle → AreCutOff middle more left
    → AreCutOff bytes (lines ++ more) left
cut_on bytes middle left lines more p q = record {
  ended = ended_append lines more ∙ (λ i. p.ended i ++ q.ended i);
  first = λ after. p.first after ∙ ap (λ (x : List Line). lines ++ x) (q.first after) ∙ sym (append_assoc lines more (lines_of_bytes (left ++ after)));
}

pub cut_longer : (bytes left piece : List ℕ) (lines : List Line) → AreCutOff bytes lines left → AreCutOff (bytes ++ piece) lines (left ++ piece)
cut_longer bytes left piece lines p = record {
  ended = p.ended;
  first = λ more.
      ap lines_of_bytes (append_assoc bytes piece more) ∙ p.first (piece ++ more)
      ∙ ap (λ (x : List ℕ). lines ++ lines_of_bytes x) (sym (append_assoc left piece more));
}

-- ---- what is left without a line end

-- a line without a line end, or no line where nothing is left
abbrev pub lines_left : List ℕ → List Line
lines_left [] = []
lines_left (byte ∷ bytes) = record { bytes = byte ∷ bytes; ended = false } ∷ []

free_lines : (bytes : List ℕ) → is_free 10 bytes ≡ true → lines_of_bytes bytes ≡ lines_left bytes
free_lines [] h = refl
free_lines (byte ∷ []) h = ap (λ test. cond test (ended_line [] ∷ []) (with_byte byte [])) (free_parts 10 byte [] h).0
free_lines (byte ∷ next ∷ bytes) h =
    let parts = free_parts 10 byte (next ∷ bytes) h in
    ap (λ test. cond test (ended_line [] ∷ lines_of_bytes (next ∷ bytes)) (with_byte byte (lines_of_bytes (next ∷ bytes)))) parts.0
    ∙ ap (with_byte byte) (free_lines (next ∷ bytes) parts.1)

pub lines_at_end : (rest : List ℕ) → HasNoEnd rest → lines_of_bytes rest ≡ lines_left rest
lines_at_end rest none = free_lines rest (free_from_All 10 rest none)

pub one_line_at_end : (rest : List ℕ) → HasNoEnd rest → 0 < length rest → lines_of_bytes rest ≡ record { bytes = rest; ended = false } ∷ []
one_line_at_end [] none some = absurd (omega arith)
one_line_at_end (byte ∷ bytes) none some = lines_at_end (byte ∷ bytes) none

none_ended : (rest : List ℕ) → ended_lines (lines_left rest) ≡ []
none_ended [] = refl
none_ended (byte ∷ bytes) = refl

-- all lines of the bytes are those that were cut off and what is left
pub all_lines : (bytes rest : List ℕ) (lines : List Line) → AreCutOff bytes lines rest → lines_of_bytes bytes ≡ lines ++ lines_of_bytes rest
all_lines bytes rest lines cut =
    ap lines_of_bytes (sym (append-nil bytes)) ∙ cut.first [] ∙ ap (λ (x : List ℕ). lines ++ lines_of_bytes x) (append-nil rest)

-- where nothing is left that has a line end, they are all the complete lines
pub complete_lines : (bytes rest : List ℕ) (lines : List Line) → AreCutOff bytes lines rest → HasNoEnd rest
    → ended_lines (lines_of_bytes bytes) ≡ lines
complete_lines bytes rest lines cut none =
    ap ended_lines (all_lines bytes rest lines cut ∙ ap (λ (x : List Line). lines ++ x) (lines_at_end rest none))
    ∙ ended_append lines (lines_left rest) ∙ (λ i. cut.ended i ++ none_ended rest i) ∙ append-nil lines

-- ---- the lines of an input

fits_by : (input : List ℕ) → length input ≤ MOST_INPUT_BYTES → fits_session input ≡ true
fits_by input few = le-leb (length input) MOST_INPUT_BYTES few

by_fit : (fits : Bool) (input : List ℕ) → fits_session input ≡ fits
    → lines_of_input input ≡ cond fits (lines_of_bytes input) (ended_lines (lines_of_bytes (take MOST_INPUT_BYTES input)))
unfolding lines_of_input
by_fit fits input e = ap (λ test. cond test (lines_of_bytes input) (ended_lines (lines_of_bytes (take MOST_INPUT_BYTES input)))) e

-- an input that is not too long has all its lines
pub lines_that_fit : (input : List ℕ) → length input ≤ MOST_INPUT_BYTES → (lines_of_input input ≡ lines_of_bytes input) × (fits_session input ≡ true)
lines_that_fit input few = (by_fit true input (fits_by input few), fits_by input few)

take_after : (taken others : List ℕ) (most : ℕ) → length taken ≤ most → take most (taken ++ others) ≡ taken ++ take (most - length taken) others
take_after taken others most few =
    let sum : most ≡ length taken + (most - length taken) = omega arith in
    ap (λ (n : ℕ). take n (taken ++ others)) sum ∙ take-append-add taken others (most - length taken)

front_by : (fits : Bool) (taken others left : List ℕ) (lines : List Line) → AreCutOff taken lines left → length taken ≤ MOST_INPUT_BYTES
    → fits_session (taken ++ others) ≡ fits → (more : List Line) × (lines_of_input (taken ++ others) ≡ lines ++ more)
front_by true taken others left lines cut few e = (lines_of_bytes (left ++ others), by_fit true (taken ++ others) e ∙ cut.first others)
front_by false taken others left lines cut few e =
    let allowed = take (MOST_INPUT_BYTES - length taken) others in (
      ended_lines (lines_of_bytes (left ++ allowed)),
      by_fit false (taken ++ others) e ∙ ap (λ (x : List ℕ). ended_lines (lines_of_bytes x)) (take_after taken others MOST_INPUT_BYTES few)
          ∙ ap ended_lines (cut.first allowed) ∙ ended_append lines (lines_of_bytes (left ++ allowed))
          ∙ (λ i. cut.ended i ++ ended_lines (lines_of_bytes (left ++ allowed))),
    )

-- lines that are cut off within the first bytes are the first lines of the input, whatever comes after
pub front_of_input : (taken others left : List ℕ) (lines : List Line) → AreCutOff taken lines left → length taken ≤ MOST_INPUT_BYTES
    → (more : List Line) × (lines_of_input (taken ++ others) ≡ lines ++ more)
front_of_input taken others left lines cut few = front_by (fits_session (taken ++ others)) taken others left lines cut few refl

not_fit_by : (fits : Bool) (input : List ℕ) → fits_session input ≡ fits → MOST_INPUT_BYTES < length input → fits ≡ false
not_fit_by true input e long = let few = leb-true (length input) MOST_INPUT_BYTES e in absurd (omega arith)
not_fit_by false input e long = refl

-- an input that is too long has the complete lines of its first bytes
pub lines_that_do_not_fit : (taken others : List ℕ) → length taken ≡ MOST_INPUT_BYTES → 0 < length others
    → (lines_of_input (taken ++ others) ≡ ended_lines (lines_of_bytes taken)) × (fits_session (taken ++ others) ≡ false)
lines_that_do_not_fit taken others full some =
    let long : MOST_INPUT_BYTES < length (taken ++ others) = omega (arith, length-append taken others) in
    let not = not_fit_by (fits_session (taken ++ others)) (taken ++ others) refl long in (
      by_fit false (taken ++ others) not
          ∙ ap (λ (x : List ℕ). ended_lines (lines_of_bytes x)) (ap (λ (n : ℕ). take n (taken ++ others)) (sym full) ∙ take-append_seam taken others),
      not,
    )
