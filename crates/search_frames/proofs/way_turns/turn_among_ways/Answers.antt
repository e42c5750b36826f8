-- Way by way: where none so far begins a path, the next with which one may begin is the first.
use Rattle.std.proofs.Common.{◌≡◌, true, false, map, get_or, sym, ◌∙◌, ap, subst, arith}
use Rattle.std.specs.Ordering.{is_lt}
use Rattle.std.proofs.lemmas.List.{get_or-map, length-map}
use Rattle.std.proofs.lemmas.List.Elements.{All-get_or}
use Rattle.segmentation_definitions.specs.Listings.{Key, compare_keys}
use Rattle.derivation.specs.Steps.{key_meant}
use Rattle.search_frames.specs.Configurations.{IsPossible}
use Rattle.search_frames.specs.Frames.{numbered_of}
use Rattle.search_frames.specs.WaysFrom.{IsWayFrom, key_of_way}
use Rattle.search_frames.proofs.TurnedWays.{not_from, from_unless_before, one_way_more, no_way_left, first_way}
use Rattle.search_frames.proofs.way_turns.turn_among_ways.Given as given
use Rattle.search_frames.proofs.way_turns.turn_among_ways.Goals as goal
use Rattle.search_frames.proofs.way_turns.turn_among_ways.Goals.{After-is_lt}

-- the key of the way is that at its place among the keys
key_there : (g : given.Over) (c : After-is_lt g) → (default : Key) → get_or (map key_of_way c.args.ways.now) c.loop-way.way-index default ≡ key_of_way c.way-item.result
key_there g c default = get_or-map key_of_way c.args.ways.now c.loop-way.way-index c.way-item.result default c.loop-way-test.true ∙ ap key_of_way (sym c.way-item.is)

pub loop-way-preserved-then-is_lt : goal.loop-way-preserved-then-is_lt
loop-way-preserved-then-is_lt g c =
    let before : is_lt (compare_keys (key_of_way c.way-item.result) (key_meant c.args.from)) ≡ true = ap is_lt (sym c.compare.ensures) ∙ sym c.is_lt.ensures ∙ c.if-is_lt.true in
    record {
      none = one_way_more c.args.space.now.lexicon.now c.args.space.now.line.now c.args.space.now.choices.now (numbered_of c.args.space.now.lexicon.now c.args.place.now) (key_meant c.args.from) (map key_of_way c.args.ways.now) c.loop-way.way-index (key_of_way c.way-item.result) (key_there g (goal.at.loop-way-preserved-then-is_lt g c).After-is_lt)
          c.loop-way.invariant.none (λ meant begins. not_from (key_meant c.args.from) (key_of_way c.way-item.result) before meant);
      spent = omega (arith, c.loop-way.invariant.spent, c.tick.ensures);
    }

pub loop-way-preserved : goal.loop-way-preserved
loop-way-preserved g c = record {
  none = one_way_more c.args.space.now.lexicon.now c.args.space.now.line.now c.args.space.now.choices.now (numbered_of c.args.space.now.lexicon.now c.args.place.now) (key_meant c.args.from) (map key_of_way c.args.ways.now) c.loop-way.way-index (key_of_way c.way-item.result) (key_there g (goal.at.loop-way-preserved g c).After-is_lt)
      c.loop-way.invariant.none (λ meant begins. c.in-Refused.ensures.judged begins);
  spent = omega (arith, c.loop-way.invariant.spent, c.tick.ensures, c.judge_way.ensures.steps);
}

pub returns-in_default : goal.returns-in_default
returns-in_default g c =
    let after : is_lt (compare_keys (key_of_way c.way-item.result) (key_meant c.args.from)) ≡ false = ap is_lt (sym c.compare.ensures) ∙ sym c.is_lt.ensures ∙ c.if-is_lt.false in
    let way = All-get_or (IsWayFrom c.args.space.now.lexicon.now c.args.space.now.line.now c.args.space.now.choices.now (numbered_of c.args.space.now.lexicon.now c.args.place.now)) c.args.ways.now c.loop-way.way-index c.way-item.result c.loop-way-test.true c.requires.ways.each in
    record {
      first = first_way c.args.space.now.lexicon.now c.args.space.now.line.now c.args.space.now.choices.now (numbered_of c.args.space.now.lexicon.now c.args.place.now) (key_meant c.args.from) (map key_of_way c.args.ways.now) c.requires.ways.all c.requires.ways.rising (g.D.Guide.says c.args.space.now.guide.now) c.loop-way.way-index (key_of_way c.way-item.result) c.judge_way.result
          (omega (arith, c.loop-way-test.true, length-map c.args.ways.now key_of_way)) (key_there g (goal.at.returns-in_default g c).After-is_lt) c.loop-way.invariant.none
          (from_unless_before (key_meant c.args.from) (key_of_way c.way-item.result) after) (subst (λ w. IsPossible c.args.space.now.lexicon.now c.args.space.now.line.now (numbered_of c.args.space.now.lexicon.now c.args.place.now) (key_of_way w)) (sym c.way-item.is) way.possible)
          c.judge_way.ensures.judged c.in_default.not-Refused;
      steps = omega (arith, c.loop-way.invariant.spent, c.loop-way-test.true, c.requires.few, c.tick.ensures, c.judge_way.ensures.steps);
    }

pub returns-clause-first : goal.returns-clause-first
returns-clause-first g c =
    no_way_left c.args.space.now.lexicon.now c.args.space.now.line.now c.args.space.now.choices.now (numbered_of c.args.space.now.lexicon.now c.args.place.now) (key_meant c.args.from) (map key_of_way c.args.ways.now) c.requires.ways.all c.loop-way.way-index (omega (arith, c.loop-way-test.false, length-map c.args.ways.now key_of_way)) c.loop-way.invariant.none
