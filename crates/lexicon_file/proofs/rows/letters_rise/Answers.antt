-- What is left at the end rises.
use Rattle.std.proofs.Common.{ℕ, ◌∙◌, sym}
use Rattle.std.specs.Ordering.{nat_cmp, on}
use Rattle.lexicon_file.proofs.RisingLemmas.{short_rises}
use Rattle.lexicon_file.proofs.rows.letters_rise.Goals as goal

pub returns : goal.returns
returns c = sym (short_rises (on (λ (child : ℕ × ℕ). child.0) nat_cmp) c.loop-rest.rest.now c.in_default.len_below) ∙ c.loop-rest.invariant
