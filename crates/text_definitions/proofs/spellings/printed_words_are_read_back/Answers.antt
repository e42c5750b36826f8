-- Each table passes the test that the prover computes over its fifty letters; the rest is the lemma on such tables.
use Rattle.std.proofs.Common.{refl}
use Rattle.std.proofs.lemmas.List.Elements.{recursion_from_All}
use Rattle.text_definitions.specs.Letters.{IsLetter}
use Rattle.text_definitions.specs.Slp1.{slp1_table, word_of_slp1, slp1_of_word}
use Rattle.text_definitions.specs.Wx.{wx_table, word_of_wx, wx_of_word}
use Rattle.text_definitions.specs.Longest.{spelling_of_letter}
use Rattle.text_definitions.specs.Velthuis.{velthuis_table, velthuis_front, word_of_velthuis, velthuis_of_word}
use Rattle.text_definitions.proofs.PrintedSpellings.{printed_is_read}
use Rattle.text_definitions.proofs.VelthuisTable.{separates_velthuis}
use Rattle.text_definitions.proofs.DevanagariTable.{printed_points_are_read}
use Rattle.text_definitions.proofs.Bytes.{word-bytes}
use Rattle.text_definitions.proofs.spellings.printed_words_are_read_back.Goals as goal

pub returns-clause-slp1 : goal.returns-clause-slp1
unfolding slp1_table word_of_slp1 slp1_of_word
returns-clause-slp1 c = λ word l. word-bytes slp1_table refl 0 word (recursion_from_All IsLetter word l)

pub returns-clause-wx : goal.returns-clause-wx
unfolding wx_table word_of_wx wx_of_word
returns-clause-wx c = λ word l. word-bytes wx_table refl 0 word (recursion_from_All IsLetter word l)

pub returns-clause-velthuis : goal.returns-clause-velthuis
unfolding word_of_velthuis velthuis_of_word
returns-clause-velthuis c = λ word l. printed_is_read velthuis_front (spelling_of_letter velthuis_table) separates_velthuis word (recursion_from_All IsLetter word l)

pub returns-clause-devanagari : goal.returns-clause-devanagari
returns-clause-devanagari c = λ word l. printed_points_are_read word (recursion_from_All IsLetter word l)
