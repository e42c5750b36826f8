-- What parts are listed by may be shared among threads, since each part of it may: the lexicon by its own law.
use denote.Ref.{NamedLft}
use denote.RattleType.{RattleType}
use denote.Param.Send.{IsSync, sendable}
use Rattle.std.proofs.Crossing.{crosses}
use Rattle.annotated_trie.proofs.SharedLexicons.{lexicon_shared}
use Rattle.reader_choices.specs.contracts.choices.Choices as Choices
use Rattle.summary_chart.specs.contracts.chart.Chart as Chart
use Rattle.search_split.specs.contracts.lister.Lister as Lister
use Rattle.search_split.specs.contracts.block.Block as Block
use Rattle.answer_printing.specs.contracts.rule_texts.RuleTexts as RuleTexts

chart_shared : IsSync Chart.the_row
chart_shared = search (sendable, crosses) depth 60 fits 50000

choices_shared : IsSync Choices.the_row
choices_shared = search (sendable, crosses) depth 60 fits 50000

texts_shared : (κ : NamedLft) → IsSync (RuleTexts.the_row κ)
texts_shared κ = search (sendable, crosses) depth 60 fits 20000

pub block_shared : IsSync Block.the_row
block_shared = search (sendable, crosses) depth 60 fits 50000

pub lister_shared : (κ : NamedLft) (G : RattleType) → IsSync G → IsSync (Lister.the_row κ G)
lister_shared κ G gate = search (sendable, crosses, lexicon_shared, texts_shared, chart_shared, choices_shared) depth 60 fits 20000
