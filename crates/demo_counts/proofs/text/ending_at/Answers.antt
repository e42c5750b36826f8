-- Number by number.
use Rattle.std.proofs.Common.{refl, Bor, List, ℕ}
use Rattle.demo_counts.proofs.DrawnLemmas.{four_endings}
use Rattle.demo_counts.proofs.text.ending_at.Goals as goal

pub returns : goal.returns
returns c = four_endings (λ (slice : Bor (List ℕ)). slice.now) _ _ _ _ _ refl refl refl refl c.args.number c.requires
