-- The keys are gone along from the opening.
use Rattle.std.proofs.Common.{◌≡◌, ◌≢◌, ◌==◌, false, List, [], ◌∷◌, length, sym, subst}
use Rattle.derivation.specs.declared.step.Key.{Key}
use Rattle.listing_laws.specs.Ways.{IsPath}
use Rattle.search_frames.specs.Configurations.{ways_in}
use Rattle.derivation.specs.Steps.{keys_meant}
use Rattle.segmenter.specs.Searches.{IsStackOf, StandsAtKeys}
use Rattle.segmenter.specs.Skips.{value_of}
use Rattle.segmenter.proofs.KeyedFrames.{StandAlong}
use Rattle.segmenter.proofs.ResumedAnswers.{stack_at_keys, stands_at_keys, no_keys}
use Rattle.segmenter.proofs.resuming.go_to_keys.Goals as goal

some_keys : (keys : List Key) → false ≡ (length keys == 0) → keys ≢ []
some_keys [] some none = absurd (cc (some))
some_keys (key ∷ keys) some none = absurd (cc (none))

pub returns-then-not-find_keys-clause-none : goal.returns-then-not-find_keys-clause-none
returns-then-not-find_keys-clause-none g c = (
  some_keys c.args.keys.now c.if-is_empty.ensures,
  no_keys c.args.space.now.lexicon.now c.args.space.now.line.now c.args.space.now.choices.now c.args.stack.now c.find_keys.new.stack c.requires.searched c.requires.stack (keys_meant c.args.keys.now)
      (λ path. c.if-not-find_keys.ensures.not_there
      (subst (λ here. IsPath (ways_in c.args.space.now.lexicon.now c.args.space.now.line.now c.args.space.now.choices.now) here (keys_meant c.args.keys.now))
      (sym c.opening.ensures.standing) path)),
)

pub returns-clause-stack : goal.returns-clause-stack
returns-clause-stack g c =
    let found = subst (λ here. StandAlong c.args.space.now.lexicon.now c.args.space.now.line.now c.args.space.now.choices.now c.find_keys.new.stack 0 here (keys_meant c.args.keys.now))
    c.opening.ensures.standing c.if-not-find_keys.ensures.found in
    subst (IsStackOf c.args.space.now.lexicon.now c.args.space.now.line.now c.args.space.now.choices.now) (sym c.stand_at.ensures)
    (stack_at_keys c.args.space.now.lexicon.now c.args.space.now.line.now c.args.space.now.choices.now c.args.stack.now c.find_keys.new.stack c.requires.searched c.requires.stack
    (keys_meant c.args.keys.now) c.find_keys.ensures.changes found.0 found.1)

pub returns-clause-at : goal.returns-clause-at
returns-clause-at g c =
    let found = subst (λ here. StandAlong c.args.space.now.lexicon.now c.args.space.now.line.now c.args.space.now.choices.now c.find_keys.new.stack 0 here (keys_meant c.args.keys.now))
    c.opening.ensures.standing c.if-not-find_keys.ensures.found in
    subst (λ stack. StandsAtKeys (value_of c.args.space.now.lexicon.now c.args.space.now.line.now c.args.space.now.choices.now stack) (keys_meant c.args.keys.now)) (sym c.stand_at.ensures)
    (stands_at_keys c.args.space.now.lexicon.now c.args.space.now.line.now c.args.space.now.choices.now c.args.stack.now c.find_keys.new.stack c.requires.searched c.requires.stack
    (keys_meant c.args.keys.now) found.0 found.1)
