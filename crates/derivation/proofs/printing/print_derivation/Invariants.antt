-- What is printed so far, and what the rest of the steps prints after the rule before it, are the whole line.
use Rattle.std.proofs.Common.{◌≡◌, ◌≤◌, ◌++◌, length, drop, string_bytes}
use Rattle.segmentation_definitions.specs.PrintedAnswers.{printed_answer, printed_steps}
use Rattle.lexicon_definitions.specs.Lexicons.{rule_of}
use Rattle.derivation.specs.Steps.{steps_of, steps_from}
use Rattle.derivation.proofs.printing.print_derivation.Given as goal

abbrev pub invariant-loop-j : goal.invariant-loop-j
invariant-loop-j l = record {
  before : l.before ≤ length l.rules.rules;
  printed : string_bytes l.text ++ printed_steps l.rules (steps_from l.rules l.line.letters (rule_of l.rules l.before).v (drop l.j l.steps))
      ≡ printed_answer l.rules l.fn.number (steps_of l.rules l.line.letters l.steps);
}
