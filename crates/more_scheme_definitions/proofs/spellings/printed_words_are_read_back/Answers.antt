-- Each table passes the test that the prover computes over its fifty letters; the rest is the lemma on such tables.
use Rattle.std.proofs.lemmas.List.Elements.{recursion_from_All}
use Rattle.text_definitions.specs.Letters.{IsLetter}
use Rattle.text_definitions.specs.Longest.{spelling_of_letter}
use Rattle.text_definitions.proofs.PrintedSpellings.{printed_is_read}
use Rattle.more_scheme_definitions.specs.HarvardKyoto.{harvard_kyoto_table, harvard_kyoto_front, word_of_harvard_kyoto, harvard_kyoto_of_word}
use Rattle.more_scheme_definitions.proofs.HarvardKyotoTable.{separates_harvard_kyoto}
use Rattle.more_scheme_definitions.proofs.ComposedSpellings.{printed_iast_is_read}
use Rattle.more_scheme_definitions.proofs.spellings.printed_words_are_read_back.Goals as goal

pub returns-clause-harvard_kyoto : goal.returns-clause-harvard_kyoto
unfolding word_of_harvard_kyoto harvard_kyoto_of_word
returns-clause-harvard_kyoto c = λ word l. printed_is_read harvard_kyoto_front (spelling_of_letter harvard_kyoto_table) separates_harvard_kyoto word (recursion_from_All IsLetter word l)

pub returns-clause-iast : goal.returns-clause-iast
returns-clause-iast c = λ word l. printed_iast_is_read word (recursion_from_All IsLetter word l)
