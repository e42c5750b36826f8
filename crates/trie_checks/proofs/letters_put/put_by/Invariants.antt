-- the letters of the deltas so far
use Rattle.std.proofs.Common.{ℕ, ◌↔◌, map, take}
use Rattle.form_tags.specs.Analyses.{text_delta}
use Rattle.trie_checks.specs.Bounds.{HasOne}
use Rattle.trie_checks.specs.LettersPut.{PutsLetter}
use Rattle.trie_checks.specs.NumberSets.{HasNumber}
use Rattle.trie_checks.proofs.letters_put.put_by.Given as goal

abbrev pub invariant-loop-delta : goal.invariant-loop-delta
invariant-loop-delta l = (letter : ℕ) → HasNumber l.set letter ↔ HasOne (PutsLetter l.before letter) (map text_delta (take l.delta-index l.deltas))
