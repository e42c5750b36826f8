-- The states after which the line goes on by the parts so far were found; each part took a step, and as many as it has rules.
use Rattle.std.proofs.Common.{◌+◌, ◌≤◌, ℕ, length, take}
use Rattle.std.specs.List.{sum_by}
use Rattle.annotated_trie.specs.Choices.{parts_of, rules_of_part}
use Rattle.search_frames.specs.Frames.{numbered_of}
use Rattle.summary_chart.specs.declared.state_set.StateSet.{StateSet}
use Rattle.summary_chart.specs.Memos.{AreLiving, EndFrom, IsByPart}
use Rattle.summary_chart.specs.Onward.{LivesMore}
use Rattle.summary_chart.specs.StateSets.{HasState}
use Rattle.summary_chart.proofs.gathering.living_by_entered_parts.Given as goal

abbrev pub invariant-loop-part : goal.invariant-loop-part
invariant-loop-part g l = record {
  low : l.part-index ≤ length l.parts;
  memo : AreLiving l.here.site.lexicon.now l.here.site.line.now l.table l.memo;
  ends : EndFrom l.here.site.place.now.at l.fn.memo → EndFrom l.here.site.place.now.at l.memo;
  living : (empty : StateSet) → ((number : ℕ) → HasState empty number → ⊥)
      → LivesMore l.here.site.lexicon.now l.here.site.line.now l.here.site.choices.now (numbered_of l.here.site.lexicon.now l.here.site.place.now) l.table
      (IsByPart l.here.site.lexicon.now.tries l.front.phase l.front.taken (take l.part-index (parts_of l.here.site.lexicon.now.tries l.front.node))) empty l.living;
  spent : l.steps ≤ l.fn.steps + l.part-index + sum_by (λ (part : ℕ). length (rules_of_part l.here.site.lexicon.now.tries part)) (take l.part-index l.parts);
}
