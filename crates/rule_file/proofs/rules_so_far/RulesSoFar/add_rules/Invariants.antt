-- Twins are sought from here on as from the first rule, and the rules so far with those to come are all of them.
use Rattle.std.proofs.Common.{◌≡◌, ◌++◌, length}
use Rattle.std.specs.Vec.Iter.{into_iter_items, into_iter_len}
use Rattle.rule_file_definitions.specs.RuleEntries.{have_twins}
use Rattle.rule_file.specs.Triples.{IsKept}
use Rattle.rule_file.proofs.rules_so_far.RulesSoFar.add_rules.Given as goal

abbrev pub invariant-loop-rule : goal.invariant-loop-rule
invariant-loop-rule l = record {
  kept : IsKept l.self;
  twins : have_twins l.self.rules.items (into_iter_items l.rule-iterator) ≡ have_twins l.initial.self.rules.items (into_iter_items l.initial.rule-iterator);
  all : l.self.rules.items ++ into_iter_items l.rule-iterator ≡ l.initial.self.rules.items ++ into_iter_items l.initial.rule-iterator;
  count : into_iter_len l.rule-iterator ≡ length (into_iter_items l.rule-iterator);
}
