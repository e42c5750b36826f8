-- at first no letter is put so far before any node
use Rattle.std.proofs.Common.{replicate, ◌∙◌, ap}
use Rattle.trie_checks.proofs.PutSteps.{passes_begin}
use Rattle.trie_checks.proofs.put_back.has_put_back.Goals as goal

pub loop-place-init : goal.loop-place-init
loop-place-init c =
    passes_begin c.args.store.now.rows c.args.farthest c.requires.farthest c.new.result c.new.ensures c.in_ok-letters.letters.items
    (c.in_ok-letters.ensures.items_if_clones_equal (λ y same. same) ∙ ap (λ n. replicate n c.new.result) c.len.ensures.value)
