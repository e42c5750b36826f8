-- the places of the deltas so far are in the set
use Rattle.std.proofs.Common.{◌≡◌, ◌+◌, ◌<◌, ℕ, map, take}
use Rattle.lexicon_definitions.specs.Deltas.{Delta}
use Rattle.form_tags.specs.Analyses.{text_delta}
use Rattle.trie_checks.specs.Bounds.{HasOne}
use Rattle.trie_checks.specs.NumberSets.{HasNumber}
use Rattle.trie_checks.proofs.put_places.places_of.Given as goal

abbrev pub invariant-loop-delta : goal.invariant-loop-delta
invariant-loop-delta l =
    (place : ℕ) → place < 64 → HasOne (λ (delta : Delta). delta.cut ≡ place + 1) (map text_delta (take l.delta-index l.deltas)) → HasNumber l.places place
