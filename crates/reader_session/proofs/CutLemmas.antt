-- A line is cut at its first blank, or nowhere where it has no blank; what it asks for is told by the two parts.
use Rattle.std.proofs.Common.{◌≡◌, ◌≢◌, ℕ, Some, None, List, ◌∷◌, ◌++◌, All, ap}
use Rattle.lexicon_text_definitions.specs.FileLines.{parts_of, parts_or_all}
use Rattle.list_laws.proofs.CutLaws.{not_cut, cut_as_parted}
use Rattle.session_definitions.specs.Requests.{after_blank, request_with, request_of}

pub whole : (line : List ℕ) → All (λ byte. byte ≢ 32) line → parts_of line ≡ record { kind = line; rest = None }
whole line h = ap (parts_or_all line) (not_cut 32 line h)

pub in_two : (line word rest : List ℕ) → (line ≡ word ++ 32 ∷ rest) × All (λ byte. byte ≢ 32) word
    → parts_of line ≡ record { kind = word; rest = Some rest }
in_two line word rest h = ap (parts_or_all line) (cut_as_parted 32 line word rest h)

pub asked : (line word rest : List ℕ) → word ≡ (parts_of line).kind → rest ≡ after_blank (parts_of line).rest
    → request_with word rest ≡ request_of line
unfolding request_of
asked line word rest first later = λ i. request_with (first i) (later i)
