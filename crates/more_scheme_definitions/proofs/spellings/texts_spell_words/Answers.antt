-- Each letter that is read comes from a scheme's table.
use Rattle.std.proofs.lemmas.List.Elements.{All-from_recursion}
use Rattle.text_definitions.specs.Letters.{IsLetter}
use Rattle.more_scheme_definitions.proofs.ReadSpellings.{harvard_kyoto_reads_words, iast_reads_words}
use Rattle.more_scheme_definitions.proofs.spellings.texts_spell_words.Goals as goal

pub returns-clause-harvard_kyoto : goal.returns-clause-harvard_kyoto
returns-clause-harvard_kyoto c = λ text word h. All-from_recursion IsLetter word (harvard_kyoto_reads_words text word h)

pub returns-clause-iast : goal.returns-clause-iast
returns-clause-iast c = λ text word h. All-from_recursion IsLetter word (iast_reads_words text word h)
