-- The lengths of the phase to which the trie leads.
use Rattle.std.proofs.Common.{◌≡◌, ◌+◌, ◌*◌, ◌<◌, ◌≤◌, ℕ, List, length, take, sym, ap, subst, arith}
use Rattle.std.proofs.Math.Nat.{mul-le-mul_right}
use Rattle.std.proofs.lemmas.List.{length-take-le}
use Rattle.derivation.specs.Steps.{key_meant}
use Rattle.search_frames.specs.Costs.{steps_of_node, steps_of_phase}
use Rattle.search_frames.specs.declared.frame.TheConstants.{NODES_OF_FRAME}
use Rattle.search_frames.specs.Frames.{numbered_of}
use Rattle.search_frames.specs.Walks.{IsNodeAmong}
use Rattle.search_frames.proofs.TurnedPhases.{phase_told}
use Rattle.search_frames.proofs.turning.turn_in_phase.Goals as goal

-- what the walk and the nodes take is within a phase
phase_costs : (most walked steps gone now count : ℕ) → gone + walked + 1 ≤ steps + 2 * NODES_OF_FRAME → walked ≤ NODES_OF_FRAME → count ≡ walked
    → now ≤ gone + count * steps_of_node most → now < steps + steps_of_phase most
phase_costs most walked steps gone now count went few count_is spent =
    let each : walked * (2 * most + 1) ≤ NODES_OF_FRAME * (2 * most + 1) = mul-le-mul_right (2 * most + 1) few in
    let same = ap (λ (n : ℕ). n * steps_of_node most) count_is in
    let node : walked * steps_of_node most ≡ walked + walked * (2 * most + 1) = omega arith in
    omega (arith, went, each, same, node, spent)

pub turn_among_nodes-requires-clause-nodes : goal.turn_among_nodes-requires-clause-nodes
turn_among_nodes-requires-clause-nodes g c taken low =
    let walked = c.walk_place-walked.ensures in
    let count : length (take c.walk_place-walked.result c.deref.result.now) ≡ c.walk_place-walked.result =
    length-take-le c.walk_place-walked.result c.deref.result.now (omega (arith, walked.few, walked.room, c.requires.room, ap length c.deref.ensures.value)) in
    subst (λ (nodes : List ℕ). IsNodeAmong c.args.space.now.lexicon.now c.args.space.now.line.now (numbered_of c.args.space.now.lexicon.now c.args.place.now) c.args.from.phase (take c.walk_place-walked.result nodes) taken)
    (sym c.deref.ensures.value) (walked.walked taken (omega (arith, low, count)))

pub returns-clause-first : goal.returns-clause-first
returns-clause-first g c =
    let walked = c.walk_place-walked.ensures in
    let count : length (take c.walk_place-walked.result c.deref.result.now) ≡ c.walk_place-walked.result =
    length-take-le c.walk_place-walked.result c.deref.result.now (omega (arith, walked.few, walked.room, c.requires.room, ap length c.deref.ensures.value)) in
    phase_told c.args.space.now.lexicon.now c.args.space.now.line.now c.args.space.now.choices.now (g.D.Guide.says c.args.space.now.guide.now) (numbered_of c.args.space.now.lexicon.now c.args.place.now) (key_meant c.args.from)
    (length (take c.walk_place-walked.result c.deref.result.now)) c.requires.searched
    (λ taken node few within at. let low = walked.all taken node few within at in omega (arith, low, count)) c.turn_among_nodes.result c.turn_among_nodes.ensures.first

pub returns-clause-steps : goal.returns-clause-steps
returns-clause-steps g c most few =
    let walked = c.walk_place-walked.ensures in
    let count : length (take c.walk_place-walked.result c.deref.result.now) ≡ c.walk_place-walked.result =
    length-take-le c.walk_place-walked.result c.deref.result.now (omega (arith, walked.few, walked.room, c.requires.room, ap length c.deref.ensures.value)) in
    phase_costs most c.walk_place-walked.result c.args.steps.now c.walk_place-walked.new.steps c.turn_among_nodes.new.steps
    (length (take c.walk_place-walked.result c.deref.result.now)) walked.steps walked.few count (c.turn_among_nodes.ensures.steps most few)
