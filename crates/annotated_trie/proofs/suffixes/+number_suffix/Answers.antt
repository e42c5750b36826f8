-- the rest of the word has its number, and the word is stored with its first letter
use Rattle.std.specs.List.{list_any}
use Rattle.annotated_trie.proofs.SuffixLaws.{StandsFor-first}
use Rattle.annotated_trie.proofs.SuffixPlaces.{pair_eq}
use Rattle.annotated_trie.proofs.suffixes.+number_suffix.Goals as goal

pub returns-clause-ok : goal.returns-clause-ok
returns-clause-ok t c =
    let old = c.number_suffix.new.suffixes.keys in
    let letter = c.letter-item.result in
    let rest = c.in_ok-after.after in
    StandsFor-first old c.insert_full.new.self.keys letter rest c.in-Ok.place (list_any (pair_eq (letter, rest)) old) c.args.word.now
    c.in-Ok.ensures.keys c.in-len1-up.len_at_least c.letter-item.is c.in_ok-after.ensures.ok c.in-Ok.ensures.stored
