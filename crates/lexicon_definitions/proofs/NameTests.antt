-- The test of a phase's name passes exactly where it is one: part by part.
use Rattle.std.proofs.Common.{◌≡◌, ℕ, true, ◌&&◌, List, [], ◌∷◌, length}
use Rattle.std.specs.List.{list_all}
use Rattle.std.proofs.lemmas.Bool.{and_parts, and_from, leb-true, le-leb}
use Rattle.lexicon_definitions.specs.declared.limits.TheConstants.{MOST_NAME_BYTES}
use Rattle.lexicon_definitions.specs.GrammarTexts.{is_name_byte}
use Rattle.lexicon_definitions.specs.GrammarFaults.{is_small_letter}
use Rattle.lexicon_definitions.specs.PhaseNames.{is_phase_name}
use Rattle.lexicon_definitions.specs.Lexicons.{IsPhaseName}

pub name_from_test : (name : List ℕ) → is_phase_name name ≡ true → IsPhaseName name
name_from_test [] h = absurd (cc)
name_from_test (byte ∷ bytes) h =
    let parts = and_parts (is_small_letter byte && _) (list_all is_name_byte bytes) h in
    let first = and_parts (is_small_letter byte) _ parts.0 in
    (first.0, leb-true (length (byte ∷ bytes)) MOST_NAME_BYTES first.1, parts.1)

pub test_from_name : (name : List ℕ) → IsPhaseName name → is_phase_name name ≡ true
test_from_name [] h = absurd h
test_from_name (byte ∷ bytes) h =
    and_from _ _ (and_from _ _ h.0 (le-leb (length (byte ∷ bytes)) MOST_NAME_BYTES h.1)) h.2
