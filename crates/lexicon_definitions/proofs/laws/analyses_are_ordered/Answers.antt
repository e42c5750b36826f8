-- Two orders of lists of numbers, one after the other.
use Rattle.std.proofs.lemmas.Cmp.{nat_list_cmp_total, then_total, on_total}
use Rattle.lexicon_definitions.specs.Analyses.{Analysis}
use Rattle.lexicon_definitions.proofs.laws.analyses_are_ordered.Goals as goal

pub returns : goal.returns
returns c = then_total (on_total (λ (a : Analysis). a.stem) nat_list_cmp_total) (on_total (λ (a : Analysis). a.tag) nat_list_cmp_total)
