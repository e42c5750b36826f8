-- A walk along the lead and then letters of the line is one along the letters from where the lead leads.
use Rattle.std.proofs.Common.{take, IsSome, ◌-◌, ◌++◌, sym, ◌∙◌, ap, subst, arith, length-append}
use Rattle.std.specs.Prelude.{is_some}
use Rattle.std.proofs.lemmas.List.{length-take-le}
use Rattle.lexicon_definitions.proofs.TrieWalks.{walk-two}
use Rattle.search_frames.specs.declared.frame.TheConstants.{NODES_OF_FRAME}
use Rattle.search_frames.proofs.WalkLemmas.{nowhere_after, short_after}
use Rattle.search_frames.proofs.walking.walk_fronts.Goals as goal

pub walk_letters-requires-clause-short : goal.walk_letters-requires-clause-short
walk_letters-requires-clause-short g c =
    short_after c.args.store.now.rows c.args.lead.now c.args.root c.in-Some.node NODES_OF_FRAME (sym c.in-Some.ensures.value) c.requires.short

pub returns-in-None-clause-all : goal.returns-in-None-clause-all
returns-in-None-clause-all g c taken low walks =
    absurd (nowhere_after c.args.store.now.rows c.args.lead.now (take taken c.args.letters.now) c.args.root (sym c.in-None.ensures.value) walks)

pub returns-in-Some-clause-walked : goal.returns-in-Some-clause-walked
returns-in-Some-clause-walked g c taken low =
    walk-two c.args.store.now.rows c.args.lead.now (take taken c.args.letters.now) c.args.root c.in-Some.node (sym c.in-Some.ensures.value)
    ∙ c.walk_letters.ensures.walked taken low

pub returns-in-Some-clause-all : goal.returns-in-Some-clause-all
returns-in-Some-clause-all g c taken low walks =
    c.walk_letters.ensures.all taken low
    (subst IsSome (walk-two c.args.store.now.rows c.args.lead.now (take taken c.args.letters.now) c.args.root c.in-Some.node (sym c.in-Some.ensures.value)) walks)

pub returns-in-Some-clause-steps : goal.returns-in-Some-clause-steps
returns-in-Some-clause-steps g c =
    let taken = c.walk_letters.result - 1 in
    let some = c.walk_letters.ensures.some in
    let walked = walk-two c.args.store.now.rows c.args.lead.now (take taken c.args.letters.now) c.args.root c.in-Some.node (sym c.in-Some.ensures.value)
    ∙ c.walk_letters.ensures.walked taken (omega (arith, some)) in
    let low = c.requires.short (c.args.lead.now ++ take taken c.args.letters.now) (ap is_some walked) in
    let both = length-append c.args.lead.now (take taken c.args.letters.now) in
    let within = c.walk_letters.ensures.within in
    let count = length-take-le taken c.args.letters.now (omega (arith, within)) in
    omega (arith, low, both, count, some, c.in-Some.ensures.steps, c.walk_letters.ensures.steps)
