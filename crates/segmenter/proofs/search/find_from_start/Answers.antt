-- What is found from the opening is the first answer; where the guide says that no answer goes on from there, there is none.
use Rattle.std.proofs.Common.{sym, ◌∙◌, subst, arith}
use Rattle.listing_laws.specs.Ways.{IsPath}
use Rattle.search_frames.specs.Configurations.{ways_in}
use Rattle.segmenter.specs.Chains.{HasFound, HasNone, Every}
use Rattle.segmenter.proofs.PathsFound.{on_true, on_false}
use Rattle.segmenter.proofs.SearchMoves.{next_before, none_before}
use Rattle.search_frames.specs.Frames.{numbered_of}
use Rattle.search_frames.specs.Reached.{IsReached}
use Rattle.search_frames.proofs.ConfigurationPaths.{guide_covers, guide_says}
use Rattle.search_frames.proofs.ReachedConfigurations.{opening_reached}
use Rattle.segmenter.proofs.LevelCosts.{first_move, no_first_move, found_only}
use Rattle.segmenter.proofs.search.find_from_start.Goals as goal

pub live-requires : goal.live-requires
live-requires g c =
    guide_covers c.args.space.now.lexicon.now c.args.space.now.line.now c.args.space.now.choices.now (g.D.Guide.covers c.args.space.now.guide.now) (g.D.Guide.says c.args.space.now.guide.now) c.opening-start.result
    c.requires.searched c.requires.guide (c.opening-start.ensures.within c.args.space.now.line.now)

pub returns-then-not-live-clause-none : goal.returns-then-not-live-clause-none
returns-then-not-live-clause-none g c =
    none_before c.args.space.now.lexicon.now c.args.space.now.line.now c.args.space.now.choices.now c.args.stack.now c.requires.searched c.requires.stack c.requires.before
    (λ keys path wanted.
    let here = sym c.opening-start.ensures.standing in
    let reached = subst (IsReached c.args.space.now.lexicon.now c.args.space.now.line.now c.args.space.now.choices.now) here (opening_reached c.args.space.now.lexicon.now c.args.space.now.line.now c.args.space.now.choices.now) in
    let says = guide_says c.args.space.now.lexicon.now c.args.space.now.line.now c.args.space.now.choices.now (g.D.Guide.covers c.args.space.now.guide.now) (g.D.Guide.says c.args.space.now.guide.now) c.opening-start.result
    c.requires.searched c.requires.guide (c.opening-start.ensures.within c.args.space.now.line.now) c.requires.stack.is_line reached keys
    (subst (λ h. IsPath (ways_in c.args.space.now.lexicon.now c.args.space.now.line.now c.args.space.now.choices.now) h keys) here path) in
    let ok = c.live.ensures.ok in
    let no = c.if-not-live.true in
    absurd (cc (says, ok, no)))

pub returns-then-not-live-clause-steps : goal.returns-then-not-live-clause-steps
returns-then-not-live-clause-steps g c exact most few =
    no_first_move c.args.space.now.lexicon.now c.args.space.now.line.now c.args.space.now.choices.now c.requires.searched most c.args.steps.now c.live.new.steps c.requires.stack.is_line (omega (arith, c.live.ensures.steps))

pub returns-clause-found : goal.returns-clause-found
returns-clause-found g c =
    on_true c.find_first.result
    (λ found. next_before c.args.space.now.lexicon.now c.args.space.now.line.now c.args.space.now.choices.now c.args.stack.now c.requires.searched c.requires.stack c.find_first.new.stack c.requires.before
    (subst (HasFound c.args.space.now.lexicon.now c.args.space.now.line.now c.args.space.now.choices.now Every c.find_first.new.stack 0) c.opening-start.ensures.standing found))
    c.find_first.ensures.found

pub returns-clause-none : goal.returns-clause-none
returns-clause-none g c =
    on_false c.find_first.result
    (λ none. none_before c.args.space.now.lexicon.now c.args.space.now.line.now c.args.space.now.choices.now c.args.stack.now c.requires.searched c.requires.stack c.requires.before
    (subst (HasNone c.args.space.now.lexicon.now c.args.space.now.line.now c.args.space.now.choices.now Every) c.opening-start.ensures.standing none))
    c.find_first.ensures.none

pub returns-clause-steps : goal.returns-clause-steps
returns-clause-steps g c exact most few =
    let ok = c.live.ensures.ok in
    let yes = c.if-not-live.false in
    let found = c.find_first.ensures.exact exact (sym ok ∙ yes) in
    first_move c.args.space.now.lexicon.now c.args.space.now.line.now c.args.space.now.choices.now c.requires.searched most c.args.steps.now c.find_first.new.steps c.requires.stack.is_line
    (numbered_of c.args.space.now.lexicon.now c.opening-start.result) c.opening-start.ensures.standing
    (let spent = found_only c.find_first.result found (c.find_first.ensures.steps_on exact most few) in omega (arith, spent, c.live.ensures.steps))
