-- places up to 64 are told by sets; beyond them each is allowed
use Rattle.trie_checks.proofs.PlaceSteps.{none_farther}
use Rattle.trie_checks.proofs.put_places.allowed_places.Goals as goal

pub put_places-requires : goal.put_places-requires
put_places-requires c = none_farther c.args.store.now.rows c.args.farthest 64 c.if-farthest-gt64.false c.requires
