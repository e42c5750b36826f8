-- A form has few letters, and the letters of a key that is possible lead to a node.
use Rattle.std.proofs.Common.{◌<◌, length, sym, ap, ◌∙◌, subst, arith}
use Rattle.std.specs.Prelude.{string_bytes}
use Rattle.std.proofs.lemmas.List.{length-map, get_or_default, get_or-take}
use Rattle.lexicon_definitions.specs.Lexicons.{RuleSet}
use Rattle.derivation.specs.Steps.{key_meant}
use Rattle.search_frames.specs.Frames.{numbered_of}
use Rattle.search_frames.specs.Walks.{IsNodeAt}
use Rattle.search_frames.proofs.SoughtKeys.{refused_phase, refused_letters, refused_walk}
use Rattle.search_frames.proofs.seeking.has_key.Goals as goal

pub returns-then-key-phases-clause-refused : goal.returns-then-key-phases-clause-refused
returns-then-key-phases-clause-refused c not_there =
    let names = ap (λ (r : RuleSet). length r.names) c.rules.ensures.value in
    refused_phase c.args.lexicon.now c.rules.ensures.searched c.args.line.now (numbered_of c.args.lexicon.now c.args.place.now) (key_meant c.args.key)
    (omega (arith, c.if-key-phases.true, length-map c.phases.result.now string_bytes, ap length c.phases.ensures, names))

pub walk_place-walked-requires-clause-phase : goal.walk_place-walked-requires-clause-phase
walk_place-walked-requires-clause-phase c =
    let names = ap (λ (r : RuleSet). length r.names) c.rules.ensures.value in
    omega (arith, c.if-key-phases.false, length-map c.phases.result.now string_bytes, ap length c.phases.ensures, names)

pub has_change-requires-clause-searched : goal.has_change-requires-clause-searched
has_change-requires-clause-searched c = c.rules.ensures.searched

pub has_change-requires-clause-phase : goal.has_change-requires-clause-phase
has_change-requires-clause-phase c =
    let names = ap (λ (r : RuleSet). length r.names) c.rules.ensures.value in
    omega (arith, c.if-key-phases.false, length-map c.phases.result.now string_bytes, ap length c.phases.ensures, names)

pub index-requires : goal.index-requires
index-requires c = omega (arith, c.if-key-walked.false, c.walk_place-walked.ensures.few, c.walk_place-walked.ensures.room, c.requires.room)

pub has_change-requires-clause-letters : goal.has_change-requires-clause-letters
has_change-requires-clause-letters c = (c.walk_place-walked.ensures.walked c.args.key.taken (omega (arith, c.if-key-walked.false))).letters

pub returns-then-key-gt-MOST_FORM_LETTERS-clause-refused : goal.returns-then-key-gt-MOST_FORM_LETTERS-clause-refused
returns-then-key-gt-MOST_FORM_LETTERS-clause-refused c not_there =
    refused_letters c.args.lexicon.now c.rules.ensures.searched c.args.line.now (numbered_of c.args.lexicon.now c.args.place.now) (key_meant c.args.key)
    (omega (arith, c.if-key-gt-MOST_FORM_LETTERS.true))

pub returns-then-key-walked-clause-refused : goal.returns-then-key-walked-clause-refused
returns-then-key-walked-clause-refused c not_there =
    refused_walk c.args.lexicon.now c.rules.ensures.searched c.args.line.now (numbered_of c.args.lexicon.now c.args.place.now) (key_meant c.args.key)
    c.walk_place-walked.result (omega (arith, c.if-key-walked.true)) (λ node within at. c.walk_place-walked.ensures.all c.args.key.taken node (omega arith) within at)

pub has_change-requires-clause-node : goal.has_change-requires-clause-node
has_change-requires-clause-node c =
    let low = c.if-key-walked.false in
    let nodes = c.walk_place-walked.new.nodes.items in
    let there : c.args.key.taken < length nodes = omega (arith, low, c.walk_place-walked.ensures.few, c.walk_place-walked.ensures.room, c.requires.room) in
    let is = c.index.ensures ∙ get_or_default nodes c.args.key.taken _ 0 there in
    subst (IsNodeAt c.args.lexicon.now c.args.line.now (numbered_of c.args.lexicon.now c.args.place.now) c.args.key.phase c.args.key.taken)
    (get_or-take c.walk_place-walked.result nodes c.args.key.taken 0 low ∙ sym is) (c.walk_place-walked.ensures.walked c.args.key.taken low).walked
