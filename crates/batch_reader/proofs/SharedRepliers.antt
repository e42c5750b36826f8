-- A lexicon and what is made of it may be shared among threads, since each part may: the lexicon by its own law. So may what is asked.
use denote.Ref.{NamedLft}
use denote.RattleType.{RattleType}
use denote.Param.Send.{IsSync, sendable}
use Rattle.std.proofs.Crossing.{crosses}
use Rattle.annotated_trie.proofs.SharedLexicons.{lexicon_shared}
use Rattle.answer_printing.specs.contracts.rule_texts.RuleTexts as RuleTexts
use Rattle.batch_reader.specs.contracts.asked.Asked as Asked
use Rattle.batch_reader.specs.contracts.replier.Replier as Replier

texts_shared : (κ : NamedLft) → IsSync (RuleTexts.the_row κ)
texts_shared κ = search (sendable, crosses) depth 60 fits 20000

pub asked_shared : (κ : NamedLft) → IsSync (Asked.the_row κ)
asked_shared κ = search (sendable, crosses) depth 60 fits 20000

pub replier_shared : (κ : NamedLft) (G : RattleType) → IsSync G → IsSync (Replier.the_row κ G)
replier_shared κ G gate = search (sendable, crosses, lexicon_shared, texts_shared) depth 60 fits 20000
