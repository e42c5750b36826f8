-- A lexicon may be shared among threads, since each part may. One search through all parts runs out of its bounds, so it goes part
-- by part.
use denote.Param.Send.{IsSync, sendable}
use Rattle.std.proofs.Crossing.{crosses}
use Rattle.shared_trie.specs.contracts.store.Store as Store
use Rattle.annotated_trie.specs.contracts.annotated.Annotated as Annotated
use Rattle.annotated_trie.specs.contracts.lexicon.Lexicon as Lexicon

store_shared : IsSync Store.the_row
store_shared = search (sendable, crosses) depth 60 fits 50000

tries_shared : IsSync Annotated.the_row
tries_shared = let store = store_shared in search (sendable, crosses) depth 60 fits 50000

pub lexicon_shared : IsSync Lexicon.the_row
lexicon_shared = let tries = tries_shared in search (sendable, crosses) depth 60 fits 5000
