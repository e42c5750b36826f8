-- The texts so far are those of the rules so far.
use Rattle.std.proofs.Common.{◌≡◌, map, take}
use Rattle.answer_printing.specs.Texts.{texts_of}
use Rattle.answer_printing.proofs.rule_texts.texts_of_rules.Given as goal

abbrev pub invariant-loop-rule : goal.invariant-loop-rule
invariant-loop-rule l = record { so_far : l.texts.items ≡ map texts_of (take l.rule-index l.rules) }
