-- What a file of version 2 or 3 tells is a trie: what was told line by line is lawful at the end.
use Rattle.std.proofs.Common.{ℕ, List, refl}
use Rattle.std.specs.Prelude.{drop}
use Rattle.lexicon_definitions.specs.Tries.{IsTrie}
use Rattle.lexicon_text_definitions.specs.FileLines.{lines_of_bytes}
use Rattle.trie_text_definitions.specs.Versions.{Version}
use Rattle.trie_text_definitions.specs.VersionSteps.{Told, head_told, trie_told}
use Rattle.trie_text_definitions.specs.VersionReadings.{Reading, Content, Fault, Asks, HasContent, reading_in}
use Rattle.trie_text_definitions.proofs.ToldTries.{trie_of_nodes}
use Rattle.trie_text_definitions.proofs.VersionsTold.{Tells, read_all, head_lawful}

-- nothing is asked of the grammar's text
abbrev AnyGrammar : List (List ℕ) → List ℕ → Type 0
AnyGrammar names grammar = Unit {0}

tells_by : (version : Version) (reading : Reading) (told : Told) → HasContent reading told → Tells AnyGrammar version reading told
tells_by version (Content content) told h = cc
tells_by version (Fault line why) told h = absurd (cc)
tells_by version (Asks line asked after) told h = (tt, tells_by version after told h)

pub shared_by : (version : Version) (bytes : List ℕ) (told : Told) → HasContent (reading_in version bytes) told → IsTrie (trie_told told)
unfolding reading_in
shared_by version bytes told h =
    let read = read_all AnyGrammar version told head_told 2 (drop 1 (lines_of_bytes bytes)) (head_lawful version) (refl, refl, refl, refl, refl) tt tt (tells_by version _ told h) in
    trie_of_nodes told.rows told.nodes told.roots read.lawful.nodes
