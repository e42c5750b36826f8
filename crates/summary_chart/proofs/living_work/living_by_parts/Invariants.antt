-- The states that live by the parts so far were found; each part took a step, and as many as it has rules.
use Rattle.std.proofs.Common.{◌+◌, ◌≤◌, ◌↔◌, ℕ, length, take}
use Rattle.std.specs.List.{sum_by}
use Rattle.annotated_trie.specs.Choices.{rules_of_part}
use Rattle.summary_chart.specs.Memos.{AreLiving, EndFrom, IsOfParts, LivesBy}
use Rattle.summary_chart.specs.StateSets.{HasState}
use Rattle.summary_chart.proofs.living_work.living_by_parts.Given as goal

abbrev pub invariant-loop-part : goal.invariant-loop-part
invariant-loop-part g l = record {
  low : l.part-index ≤ length l.parts;
  memo : AreLiving l.site.lexicon.now l.site.line.now l.table l.memo;
  ends : (at : ℕ) → at ≤ l.work.end → EndFrom at l.fn.memo → EndFrom at l.memo;
  living : (number : ℕ) → HasState l.living number
      ↔ LivesBy l.site.lexicon.now l.site.line.now l.table l.work (IsOfParts l.site.lexicon.now.tries (take l.part-index l.parts)) number;
  spent : l.steps ≤ l.fn.steps + l.part-index + sum_by (λ (part : ℕ). length (rules_of_part l.site.lexicon.now.tries part)) (take l.part-index l.parts);
}
