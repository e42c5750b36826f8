-- The key without a change is possible where a form ends.
use Rattle.std.proofs.Common.{◌≡◌, ◌≢◌, ◌↔◌, inr, [], length, refl, sym, ◌∙◌, ap, subst, arith}
use Rattle.std.specs.Prelude.{IsTrue}
use Rattle.lexicon_definitions.specs.Tries.{Trie, row_of}
use Rattle.segmentation_definitions.specs.Listings.{Key}
use Rattle.derivation.specs.Steps.{key_of, key_meant}
use Rattle.derivation.specs.declared.step.Step.{Step}
use Rattle.annotated_trie.specs.Choices.{AnnotatedTrie}
use Rattle.search_frames.specs.Configurations.{IsPossible}
use Rattle.search_frames.specs.FirstKeys.{IsJudged}
use Rattle.search_frames.specs.Turns.{BeginsPath}
use Rattle.search_frames.specs.Frames.{numbered_of}
use Rattle.search_frames.proofs.PossibleKeys.{reached_there}
use Rattle.search_frames.proofs.TriedRules.{none_unchanged, none_of_one, unchanged_possible}
use Rattle.search_frames.proofs.turning.turn_unchanged.Goals as goal
use Rattle.search_frames.proofs.turning.turn_unchanged.Goals.{then-from-gt0-via-then-from-gt0, then-from-gt0-via-else-from-gt0+then-not-accepts}

pub accepts-requires : goal.accepts-requires
accepts-requires g c =
    let searched = c.args.space.now.lexicon.now in
    let trie : c.store.result.now ≡ searched.tries.trie = c.store.ensures ∙ ap (λ (t : AnnotatedTrie). t.trie) c.tries.ensures.value in
    let there = reached_there searched c.requires.searched c.args.from.phase c.args.node _ c.requires.phase c.requires.node in
    let rows = ap (λ (t : Trie). length t.rows) trie in
    omega (arith, there, rows)

pub returns-then-from-gt0-clause-first : goal.returns-then-from-gt0-clause-first
returns-then-from-gt0-clause-first g c key begins meant =
    elim c.then-from-gt0.branch [
      | then-from-gt0-via-then-from-gt0 w ↦
          let some = w.if-from-gt0.true in
          let above = meant.0.2 in
          let zero = meant.1 in
          omega (arith, some, above, zero)
      | then-from-gt0-via-else-from-gt0+then-not-accepts w ↦
          let searched = c.args.space.now.lexicon.now in
          let trie : w.store.result.now ≡ searched.tries.trie = w.store.ensures ∙ ap (λ (t : AnnotatedTrie). t.trie) w.tries.ensures.value in
          none_unchanged searched c.args.space.now.line.now c.args.space.now.choices.now (numbered_of searched c.args.place.now) (key_meant c.args.from)
          c.requires.searched c.args.node c.requires.node w.accepts.result
          (subst (λ (t : Trie). IsTrue w.accepts.result ↔ ((row_of t.rows c.args.node).deltas ≢ [])) trie w.accepts.ensures) w.if-not-accepts.true key begins meant
    ]

pub judge-requires-clause-possible : goal.judge-requires-clause-possible
judge-requires-clause-possible g c =
    let searched = c.args.space.now.lexicon.now in
    let here = numbered_of searched c.args.place.now in
    let trie : c.store.result.now ≡ searched.tries.trie = c.store.ensures ∙ ap (λ (t : AnnotatedTrie). t.trie) c.tries.ensures.value in
    let told = subst (λ (t : Trie). IsTrue c.accepts.result ↔ ((row_of t.rows c.args.node).deltas ≢ [])) trie c.accepts.ensures in
    subst (λ (s : Step). IsPossible searched c.args.space.now.line.now here (key_of s)) (sym c.step_with.ensures)
    (unchanged_possible searched c.args.space.now.line.now c.args.space.now.choices.now here (key_meant c.args.from) c.requires.searched c.requires.phase c.requires.letters
    c.args.node c.requires.node (told.0 c.if-not-accepts.false) (omega (arith, c.if-from-gt0.false)))

pub returns-in-Refused-clause-first : goal.returns-in-Refused-clause-first
returns-in-Refused-clause-first g c key begins meant =
    let searched = c.args.space.now.lexicon.now in
    let here = numbered_of searched c.args.place.now in
    let zero : c.args.from.rule ≡ 0 = omega (arith, c.if-from-gt0.false) in
    let is = ap key_of c.step_with.ensures in
    none_of_one searched c.args.space.now.line.now c.args.space.now.choices.now here (key_meant c.args.from) c.args.from.rule
    (subst (λ (k : Key). BeginsPath searched c.args.space.now.line.now c.args.space.now.choices.now here k → ⊥) is c.in-Refused.ensures.judged)
    key begins meant.0.0 meant.0.1 (meant.1 ∙ sym zero)

pub returns-in_default : goal.returns-in_default
returns-in_default g c =
    let searched = c.args.space.now.lexicon.now in
    let here = numbered_of searched c.args.place.now in
    let trie : c.store.result.now ≡ searched.tries.trie = c.store.ensures ∙ ap (λ (t : AnnotatedTrie). t.trie) c.tries.ensures.value in
    let told = subst (λ (t : Trie). IsTrue c.accepts.result ↔ ((row_of t.rows c.args.node).deltas ≢ [])) trie c.accepts.ensures in
    let zero : c.args.from.rule ≡ 0 = omega (arith, c.if-from-gt0.false) in
    let is = ap key_of c.step_with.ensures in
    record {
      first = record {
        possible = unchanged_possible searched c.args.space.now.line.now c.args.space.now.choices.now here (key_meant c.args.from) c.requires.searched c.requires.phase c.requires.letters
            c.args.node c.requires.node (told.0 c.if-not-accepts.false) zero;
        meant = ((refl, refl, omega arith), zero);
        judged = subst (λ (k : Key). IsJudged searched c.args.space.now.line.now c.args.space.now.choices.now (g.D.Guide.says c.args.space.now.guide.now) here k c.judge.result) is c.judge.ensures.judged;
        goes = c.in_default.not-Refused;
        first = λ key begins meant. inr (meant.0.0, inr (meant.0.1, meant.0.2));
      };
      steps = c.judge.ensures.steps;
    }
