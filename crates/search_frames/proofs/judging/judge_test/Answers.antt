-- No path begins with a key that is refused, nor with one that leads to where the guide says false.
use Rattle.std.proofs.Common.{◌≡◌, false, refl, sym, ◌∙◌}
use Rattle.derivation.specs.Steps.{key_meant}
use Rattle.search_frames.specs.Frames.{numbered_of}
use Rattle.search_frames.proofs.BegunPaths.{judged_unless_leads, dead_begins}
use Rattle.search_frames.proofs.ConfigurationPaths.{guide_covers}
use Rattle.search_frames.proofs.PossibleKeys.{possible_phase}
use Rattle.search_frames.proofs.judging.judge_test.Goals as goal

pub test_in_grammar-requires-clause-phase : goal.test_in_grammar-requires-clause-phase
test_in_grammar-requires-clause-phase g c =
    possible_phase c.args.space.now.lexicon.now c.requires.searched c.args.space.now.line.now (numbered_of c.args.space.now.lexicon.now c.args.place.now) (key_meant c.args.key) c.requires.possible

pub live-requires : goal.live-requires
live-requires g c =
    guide_covers c.args.space.now.lexicon.now c.args.space.now.line.now c.args.space.now.choices.now (g.D.Guide.covers c.args.space.now.guide.now) (g.D.Guide.says c.args.space.now.guide.now)
    c.in-LeadsOn.next c.requires.searched c.requires.guide (c.in-LeadsOn.ensures.exact c.args.space.now.line.now c.args.space.now.choices.now (key_meant c.args.key) c.requires.place refl c.requires.possible c.requires.test).within

pub returns-in_default-clause-judged : goal.returns-in_default-clause-judged
returns-in_default-clause-judged g c =
    judged_unless_leads c.args.space.now.lexicon.now c.args.space.now.line.now c.args.space.now.choices.now (numbered_of c.args.space.now.lexicon.now c.args.place.now) (key_meant c.args.key)
    (g.D.Guide.says c.args.space.now.guide.now) c.test_in_grammar.result c.in_default.not-LeadsOn
    (c.test_in_grammar.ensures.exact c.args.space.now.line.now c.args.space.now.choices.now (key_meant c.args.key) c.requires.place refl c.requires.possible c.requires.test)

pub returns-else-live-clause-judged : goal.returns-else-live-clause-judged
returns-else-live-clause-judged g c =
    let dead : g.D.Guide.says c.args.space.now.guide.now c.in-LeadsOn.next.at c.in-LeadsOn.next.entrance c.in-LeadsOn.next.state ≡ false = sym c.live.ensures.ok ∙ c.if-live.false in
    dead_begins c.args.space.now.lexicon.now c.args.space.now.line.now c.args.space.now.choices.now (numbered_of c.args.space.now.lexicon.now c.args.place.now) (key_meant c.args.key)
    (g.D.Guide.covers c.args.space.now.guide.now) (g.D.Guide.says c.args.space.now.guide.now) c.in-LeadsOn.next c.requires.searched c.requires.line c.requires.guide c.requires.reached
    (c.in-LeadsOn.ensures.exact c.args.space.now.line.now c.args.space.now.choices.now (key_meant c.args.key) c.requires.place refl c.requires.possible c.requires.test) dead

pub returns-then-live-clause-judged : goal.returns-then-live-clause-judged
returns-then-live-clause-judged g c = (
  c.in-LeadsOn.ensures.exact c.args.space.now.line.now c.args.space.now.choices.now (key_meant c.args.key) c.requires.place refl c.requires.possible c.requires.test,
  sym c.live.ensures.ok ∙ c.if-live.true,
)
