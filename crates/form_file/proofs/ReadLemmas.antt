-- One line more: what is read from the next line on is what is read from this one on, unless it is refused.
use Rattle.std.proofs.Common.{◌≡◌, ℕ, ◌+◌, ◌⊎◌, inl, inr, Ok, Err, List, [], ◌∷◌, refl, sym, ap, subst}
use Rattle.lexicon_definitions.specs.GrammarFaults.{IsGrammarTextWithinLimits}
use Rattle.lexicon_text_definitions.specs.FileFaults.{Why, NoEnd}
use Rattle.lexicon_text_definitions.specs.FileLines.{Line, lines_of_bytes, Kind, Opening, Head, Phase, Grammar, Plain, Rule, Form, End}
use Rattle.lexicon_text_definitions.specs.FileContents.{Told, nothing_told, lexicon_told}
use Rattle.lexicon_text_definitions.specs.FileSteps.{Taken, take_line}
use Rattle.lexicon_text_definitions.specs.FileReadings.{Reading, asking, read_on, read_lines, at_end, reading_of, IsResult, IsReadAs, FileResult, fault_at}
use Rattle.form_file.specs.Told.{IsGrammarFault}

by_kind : (last : Kind) (number : ℕ) (after : Told) (rest : Reading) (result : FileResult) → (last ≡ Grammar → IsGrammarTextWithinLimits after.names after.grammar) → IsResult rest result
    → IsResult (asking last number after rest) result
by_kind Grammar number after rest result g r = inl (g refl, r)
by_kind last number after rest result g r = r

pub taken_on : (told after : Told) (number : ℕ) (line : Line) (rest : List Line) (result : FileResult) → take_line told line ≡ Ok after
    → (after.last ≡ Grammar → IsGrammarTextWithinLimits after.names after.grammar) → IsResult (read_lines after (number + 1) rest) result → IsResult (read_lines told number (line ∷ rest)) result
taken_on told after number line rest result e g r =
    subst (λ taken. IsResult (read_on number taken (λ following. read_lines following (number + 1) rest)) result) (sym e)
    (by_kind after.last number after (read_lines after (number + 1) rest) result g r)

pub refused_at : (told : Told) (number : ℕ) (line : Line) (rest : List Line) (why : Why) → take_line told line ≡ Err why → IsResult (read_lines told number (line ∷ rest)) (fault_at number why)
refused_at told number line rest why e =
    subst (λ taken. IsResult (read_on number taken (λ following. read_lines following (number + 1) rest)) (fault_at number why)) (sym e) refl

asked_by : (last : Kind) (number : ℕ) (rest : Reading) (why : Why) (taken : Taken) → (h : IsGrammarFault taken why) → h.told.last ≡ last → IsResult (asking last number h.told rest) (fault_at number why)
asked_by Grammar number rest why taken h e = inr (h.fault, h.first, ap (fault_at number) h.is)
asked_by Opening number rest why taken h e = absurd (cc (e, h.grammar_line))
asked_by Head number rest why taken h e = absurd (cc (e, h.grammar_line))
asked_by Phase number rest why taken h e = absurd (cc (e, h.grammar_line))
asked_by Plain number rest why taken h e = absurd (cc (e, h.grammar_line))
asked_by Rule number rest why taken h e = absurd (cc (e, h.grammar_line))
asked_by Form number rest why taken h e = absurd (cc (e, h.grammar_line))
asked_by End number rest why taken h e = absurd (cc (e, h.grammar_line))

pub grammar_refused : (told : Told) (number : ℕ) (line : Line) (rest : List Line) (why : Why) → IsGrammarFault (take_line told line) why
    → IsResult (read_lines told number (line ∷ rest)) (fault_at number why)
grammar_refused told number line rest why h =
    subst (λ taken. IsResult (read_on number taken (λ following. read_lines following (number + 1) rest)) (fault_at number why)) (sym h.taken_so)
    (asked_by h.told.last number (read_lines h.told (number + 1) rest) why (take_line told line) h refl)

-- after the last line
ended_by : (last : Kind) (told : Told) (number : ℕ) → last ≡ End → IsResult (at_end last number told) (Ok (lexicon_told told))
ended_by last told number e = subst (λ last. IsResult (at_end last number told) (Ok (lexicon_told told))) (sym e) refl

not_ended : (last : Kind) (told : Told) (number : ℕ) → (last ≡ End → ⊥) → IsResult (at_end last number told) (fault_at number NoEnd)
not_ended End told number n = absurd (n refl)
not_ended last told number n = refl

-- what is read from here on is what is read in all
abbrev pub Reads : Reading → Told → ℕ → List ℕ → Type 0
Reads whole told number rest = (result : FileResult) → IsResult (read_lines told number (lines_of_bytes rest)) result → IsResult whole result

pub reads_on : (whole : Reading) (told after : Told) (number : ℕ) (rest following : List ℕ) (line : Line) → Reads whole told number rest
    → lines_of_bytes rest ≡ line ∷ lines_of_bytes following → take_line told line ≡ Ok after → (after.last ≡ Grammar → IsGrammarTextWithinLimits after.names after.grammar)
    → Reads whole after (number + 1) following
reads_on whole told after number rest following line h cut e g result r =
    h result (subst (λ lines. IsResult (read_lines told number lines) result) (sym cut) (taken_on told after number line (lines_of_bytes following) result e g r))

-- a refused line is the first fault
pub refused : (whole : Reading) (told : Told) (number : ℕ) (rest following : List ℕ) (line : Line) (why : Why) → Reads whole told number rest
    → lines_of_bytes rest ≡ line ∷ lines_of_bytes following → (take_line told line ≡ Err why) ⊎ IsGrammarFault (take_line told line) why → IsResult whole (fault_at number why)
refused whole told number rest following line why h cut (inl e) =
    h (fault_at number why) (subst (λ lines. IsResult (read_lines told number lines) (fault_at number why)) (sym cut) (refused_at told number line (lines_of_bytes following) why e))
refused whole told number rest following line why h cut (inr g) =
    h (fault_at number why) (subst (λ lines. IsResult (read_lines told number lines) (fault_at number why)) (sym cut) (grammar_refused told number line (lines_of_bytes following) why g))

-- after the last line all that was told is the lexicon, or the end is missing
ends : (whole : Reading) (after : Told) (number : ℕ) (rest : List ℕ) (result : FileResult) → Reads whole after number rest → rest ≡ [] → IsResult (at_end after.last number after) result
    → IsResult whole result
ends whole after number rest result h none r = h result (subst (λ bytes. IsResult (read_lines after number (lines_of_bytes bytes)) result) (sym none) r)

pub told_to_end : (whole : Reading) (after : Told) (number : ℕ) (rest : List ℕ) → Reads whole after number rest → rest ≡ [] → after.last ≡ End
    → IsResult whole (Ok (lexicon_told after))
told_to_end whole after number rest h none e = ends whole after number rest (Ok (lexicon_told after)) h none (ended_by after.last after number e)

pub lacks_end : (whole : Reading) (after : Told) (number : ℕ) (rest : List ℕ) → Reads whole after number rest → rest ≡ [] → (after.last ≡ End → ⊥)
    → IsResult whole (fault_at number NoEnd)
lacks_end whole after number rest h none n = ends whole after number rest (fault_at number NoEnd) h none (not_ended after.last after number n)

-- what is read of all lines is what is read in the file
pub read_as : (bytes : List ℕ) (before : Told) (result : FileResult) → before ≡ nothing_told → IsResult (read_lines before 1 (lines_of_bytes bytes)) result → IsReadAs bytes result
unfolding reading_of
read_as bytes before result e h = subst (λ told. IsResult (read_lines told 1 (lines_of_bytes bytes)) result) e h
