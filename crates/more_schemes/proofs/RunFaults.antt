-- The place of a fault of a run lies in the run: in the four schemes of lines by their law, and in the two others by induction on the run,
-- with a bound that the whole run keeps to.
use Rattle.std.proofs.Common.{◌≡◌, ℕ, zero, suc, ◌+◌, ◌-◌, ◌≤◌, Bool, true, false, ◌&&◌, List, [], ◌∷◌, length, Option, Some, None, Ok, Err, is_some, eqb, arith}
use Rattle.text_definitions.specs.Spellings.{Reading, with_letter}
use Rattle.text_definitions.specs.Longest.{word_at, word_of_spellings}
use Rattle.text_definitions.specs.Schemes as lines
use Rattle.text_definitions.proofs.FaultPlaces.{IsUpTo, fault_in_text}
use Rattle.more_scheme_definitions.specs.HarvardKyoto.{harvard_kyoto_front, word_of_harvard_kyoto}
use Rattle.more_scheme_definitions.specs.Iast.{iast_front, word_of_composed}
use Rattle.conversion_definitions.specs.AnySchemes.{AnyScheme, Slp1, Wx, Velthuis, Devanagari, Iast, HarvardKyoto, word_of_run}

up_to_letter : (most letter : ℕ) (rest : Reading) → IsUpTo most rest → IsUpTo most (with_letter letter rest)
up_to_letter most letter (Ok word) r = tt
up_to_letter most letter (Err fault) r = r

up_to_spelling : (most place : ℕ) (found : Option (ℕ × ℕ)) (passed : Bool) (following : ℕ → Bool → Reading) → place ≤ most → ((inside : ℕ) (after : Bool) → IsUpTo most (following inside after)) → IsUpTo most (word_at place found passed following)
up_to_spelling most place None false following h r = h
up_to_spelling most place None true following h r = r 0 false
up_to_spelling most place (Some pair) passed following h r = up_to_letter most pair.0 (following (pair.1 - 1) true) (r (pair.1 - 1) true)

up_to_spellings : (front : List ℕ → Option (ℕ × ℕ)) (most : ℕ) (text : List ℕ) (place inside : ℕ) (spelled : Bool) → place + length text ≤ most → IsUpTo most (word_of_spellings front place inside spelled text)
up_to_spellings front most [] place inside spelled h = tt
up_to_spellings front most (byte ∷ text) place (suc inside) spelled h = up_to_spellings front most text (place + 1) inside true (omega arith)
up_to_spellings front most (byte ∷ text) place zero spelled h =
    up_to_spelling most place (front (byte ∷ text)) (spelled && eqb byte 95 && is_some (front text)) (λ inside after. word_of_spellings front (place + 1) inside after text) (omega arith) (λ inside after. up_to_spellings front most text (place + 1) inside after (omega arith))

up_to_composed : (run : List ℕ) → IsUpTo (length run) (word_of_composed run)
unfolding word_of_composed
up_to_composed run = up_to_spellings iast_front (length run) run 0 0 false (omega arith)

up_to_harvard_kyoto : (run : List ℕ) → IsUpTo (length run) (word_of_harvard_kyoto run)
unfolding word_of_harvard_kyoto
up_to_harvard_kyoto run = up_to_spellings harvard_kyoto_front (length run) run 0 0 false (omega arith)

-- in each scheme a run's fault is at a place of the run, or at its end
pub fault_in_run : (scheme : AnyScheme) (run : List ℕ) → IsUpTo (length run) (word_of_run scheme run)
fault_in_run Slp1 run = fault_in_text lines.Slp1 run
fault_in_run Wx run = fault_in_text lines.Wx run
fault_in_run Velthuis run = fault_in_text lines.Velthuis run
fault_in_run Devanagari run = fault_in_text lines.Devanagari run
fault_in_run Iast run = up_to_composed run
fault_in_run HarvardKyoto run = up_to_harvard_kyoto run
