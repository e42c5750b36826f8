-- The hashes of the links of chains, and the places before them.
use Rattle.std.specs.Prelude.{ℕ, List, map}
use Rattle.shared_trie.specs.declared.chains.Link.{Link}

-- the hash of each number
abbrev pub hashes_of : List Link → List ℕ
hashes_of links = map (λ (link : Link). link.hash) links

-- for each number one more than the one before it in its bucket, or 0
abbrev pub befores_of : List Link → List ℕ
befores_of links = map (λ (link : Link). link.before) links
