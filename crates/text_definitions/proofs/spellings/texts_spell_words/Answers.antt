-- Each letter that is read comes from a scheme's table.
use Rattle.std.proofs.Common.{refl}
use Rattle.std.proofs.lemmas.List.Elements.{All-from_recursion}
use Rattle.text_definitions.specs.Letters.{IsLetter}
use Rattle.text_definitions.specs.Slp1.{slp1_table, word_of_slp1}
use Rattle.text_definitions.specs.Wx.{wx_table, word_of_wx}
use Rattle.text_definitions.proofs.PrintedBytes.{read_is_printed}
use Rattle.text_definitions.proofs.ReadWords.{velthuis_reads_words, devanagari_reads_words}
use Rattle.text_definitions.proofs.spellings.texts_spell_words.Goals as goal

pub returns-clause-slp1 : goal.returns-clause-slp1
unfolding slp1_table word_of_slp1
returns-clause-slp1 c = λ text word h. All-from_recursion IsLetter word (read_is_printed slp1_table refl 0 text word h).letters

pub returns-clause-wx : goal.returns-clause-wx
unfolding wx_table word_of_wx
returns-clause-wx c = λ text word h. All-from_recursion IsLetter word (read_is_printed wx_table refl 0 text word h).letters

pub returns-clause-velthuis : goal.returns-clause-velthuis
returns-clause-velthuis c = λ text word h. All-from_recursion IsLetter word (velthuis_reads_words text word h)

pub returns-clause-devanagari : goal.returns-clause-devanagari
returns-clause-devanagari c = λ text word h. All-from_recursion IsLetter word (devanagari_reads_words text word h)
