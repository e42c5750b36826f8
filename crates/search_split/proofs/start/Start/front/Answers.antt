-- The keys that are cut off are the first ones.
use Rattle.std.proofs.Common.{rules, ◌∙◌, ap, take}
use Rattle.derivation.specs.Steps.{keys_meant}
use Rattle.search_split.proofs.KeysTaken.{meant_taken}
use Rattle.search_split.proofs.start.Start.front.Goals as goal

pub returns : goal.returns
returns c =
    ap (λ keys. keys_meant (take c.min-count.result keys)) c.as_slice.ensures.value
    ∙ meant_taken c.args.self.now.keys.items c.args.depth c.min-count.result (search rules)
