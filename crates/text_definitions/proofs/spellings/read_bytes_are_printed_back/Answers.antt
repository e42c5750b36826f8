-- By the lemma on schemes with one byte for each letter, for tables of fifty bytes.
use Rattle.std.proofs.Common.{refl}
use Rattle.text_definitions.specs.Slp1.{slp1_table, word_of_slp1, slp1_of_word}
use Rattle.text_definitions.specs.Wx.{wx_table, word_of_wx, wx_of_word}
use Rattle.text_definitions.proofs.PrintedBytes.{read_is_printed}
use Rattle.text_definitions.proofs.spellings.read_bytes_are_printed_back.Goals as goal

pub returns-clause-slp1 : goal.returns-clause-slp1
unfolding slp1_table word_of_slp1 slp1_of_word
returns-clause-slp1 c = λ text word h. (read_is_printed slp1_table refl 0 text word h).bytes

pub returns-clause-wx : goal.returns-clause-wx
unfolding wx_table word_of_wx wx_of_word
returns-clause-wx c = λ text word h. (read_is_printed wx_table refl 0 text word h).bytes
