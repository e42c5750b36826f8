-- The place of the triple is that of the rule.
use Rattle.std.proofs.Common.{Some, None, sym, ◌∙◌, ap}
use Rattle.chain_definitions.specs.ChainReadings.{rule_with_words}
use Rattle.joiner.specs.Triples.{change_of}
use Rattle.joiner.proofs.RulesFound.{number_found}
use Rattle.joiner.proofs.naming.rule_number.Goals as goal

pub returns-in-None-get_index_of : goal.returns-in-None-get_index_of
returns-in-None-get_index_of c = λ rules are.
    number_found rules c.args.triples.now.keys c.in-Some.triple None are c.in-None-get_index_of.ensures.index
    ∙ ap (λ change. rule_with_words rules (change_of change)) (sym c.in-Some.is)

pub returns-in-Some-get_index_of : goal.returns-in-Some-get_index_of
returns-in-Some-get_index_of c = λ rules are.
    number_found rules c.args.triples.now.keys c.in-Some.triple (Some c.in-Some-get_index_of.place) are c.in-Some-get_index_of.ensures.index
    ∙ ap (λ change. rule_with_words rules (change_of change)) (sym c.in-Some.is)
