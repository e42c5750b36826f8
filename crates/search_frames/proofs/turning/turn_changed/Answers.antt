-- Where no letter is left no rule is written.
use Rattle.std.proofs.Common.{◌≡◌, ◌+◌, ◌≤◌, List, ℕ, length, get_or, ◌∙◌, ap, subst}
use Rattle.std.proofs.lemmas.List.{get_or_default}
use Rattle.text_definitions.specs.Lines.{Line}
use Rattle.derivation.specs.Steps.{key_meant}
use Rattle.search_frames.specs.Frames.{numbered_of}
use Rattle.search_frames.proofs.TriedRules.{none_at_end}
use Rattle.search_frames.proofs.turning.turn_changed.Goals as goal

pub returns-in-None-clause-first : goal.returns-in-None-clause-first
returns-in-None-clause-first g c =
    let searched = c.args.space.now.lexicon.now in
    let whole : c.as_slice.result.now ≡ c.args.space.now.line.now.letters = c.as_slice.ensures.value ∙ ap (λ (line : Line). line.letters) c.line.view_is in
    let past = c.in-None.ensures.lookup.3 in
    none_at_end c.args.space.now.lexicon.now c.args.space.now.line.now c.args.space.now.choices.now (numbered_of searched c.args.place.now) (key_meant c.args.from) c.requires.searched c.requires.phase c.requires.letters c.args.node c.requires.node
    (subst (λ (letters : List ℕ). length letters ≤ c.args.place.now.at + c.args.from.taken) whole past)

pub turn_in_group-requires-clause-letter : goal.turn_in_group-requires-clause-letter
turn_in_group-requires-clause-letter g c =
    let whole : c.as_slice.result.now ≡ c.args.space.now.line.now.letters = c.as_slice.ensures.value ∙ ap (λ (line : Line). line.letters) c.line.view_is in
    let at = c.args.place.now.at + c.args.from.taken in
    let there = c.in-Some.ensures.lookup.3.0 in
    c.in-Some.ensures.lookup.1 ∙ get_or_default c.as_slice.result.now at _ 0 there ∙ ap (λ (letters : List ℕ). get_or letters at 0) whole
