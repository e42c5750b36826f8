-- The word has the letters of the bytes so far.
use Rattle.std.proofs.Common.{◌≡◌, ℕ, Some, map, take}
use Rattle.latin_schemes.specs.Codes.{letter_by_code}
use Rattle.latin_schemes.proofs.byte_scheme.read_front_over.Given as goal

abbrev pub invariant-loop-at : goal.invariant-loop-at
invariant-loop-at l =
    map (letter_by_code l.codes) (take l.at l.text) ≡ map (λ (letter : ℕ). Some letter) l.word
