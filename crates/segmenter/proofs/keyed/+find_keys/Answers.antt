-- The first key is gone to, and the rest from where it leads.
use Rattle.std.proofs.Common.{◌≡◌, ℕ, ◌-◌, ◌<◌, ◌≤◌, List, length, take, drop, sym, subst, arith, length-take, length-drop}
use Rattle.std.specs.Bool.{OnTrue}
use Rattle.derivation.specs.declared.step.Key.{Key}
use Rattle.segmenter.proofs.KeptFrames.{keeps_then, keeps_less}
use Rattle.search_frames.proofs.LeadingTo.{leads_from}
use Rattle.segmenter.proofs.PathsFound.{on_true}
use Rattle.segmenter.proofs.KeyedFrames.{StandAlong, stand_along, stand_at_end}
use Rattle.search_frames.specs.Frames.{numbered_of}
use Rattle.derivation.specs.Steps.{keys_meant}
use Rattle.segmenter.proofs.keyed.+find_keys.Goals as goal

-- the rest is shorter
shorter : (keys : List Key) (n : ℕ) → 1 ≤ length keys → length keys ≡ n → length (take (length keys - 1) (drop 1 keys)) < n
shorter keys n some is = omega (arith, is, some, length-take (length keys - 1) (drop 1 keys), length-drop 1 keys)

pub find_keys-requires : goal.find_keys-requires
find_keys-requires g t c κs bounds =
    let leads = leads_from c.args.space.now.lexicon.now c.args.space.now.line.now c.args.space.now.choices.now (numbered_of c.args.space.now.lexicon.now c.args.place) _ c.in-LeadsOn.next
    c.in-LeadsOn.ensures.exact c.requires.searched c.requires.reached in
    let rises = leads.rises in
    let within = leads.within in
    let below = c.requires.room.below in
    let room = c.requires.room.room in
    let frames = c.stand_at_key.ensures.changes.room in (
      shorter c.args.keys.now t c.in-len1-up.len_at_least c.decreases,
      (
        bounds,
        (
          c.requires.searched,
          (
            c.requires.line,
            (
              c.stand_at_key.ensures.changes.is_stack,
              (
                leads.place,
                (
                  leads.reached,
                  record { below = omega (arith, below, rises); within = within; room = omega (arith, room, frames) },
                ),
              ),
            ),
          ),
        ),
      ),
    )

pub returns-in-LeadsOn-clause-found : goal.returns-in-LeadsOn-clause-found
returns-in-LeadsOn-clause-found g t c =
    on_true c.find_keys.result
    (stand_along c.args.space.now.lexicon.now c.args.space.now.line.now c.args.space.now.choices.now c.args.level (numbered_of c.args.space.now.lexicon.now c.args.place)
    c.stand_at_key.new.stack c.find_keys.new.stack c.args.keys.now _ c.in-LeadsOn.next c.in-len1-up.len_at_least c.in-LeadsOn.ensures.stands
    c.in-LeadsOn.ensures.exact c.find_keys.ensures.changes)
    c.find_keys.ensures.found

pub returns-in-LeadsOn-clause-changes : goal.returns-in-LeadsOn-clause-changes
returns-in-LeadsOn-clause-changes g t c =
    keeps_then c.args.level c.args.stack.now c.stand_at_key.new.stack c.find_keys.new.stack c.stand_at_key.ensures.changes
    (keeps_less c.args.level c.stand_at_key.new.stack c.find_keys.new.stack c.find_keys.ensures.changes)

pub returns-in-Ends-clause-found : goal.returns-in-Ends-clause-found
returns-in-Ends-clause-found g t c =
    let searched = c.args.space.now.lexicon.now in
    let here = numbered_of searched c.args.place in
    subst (λ stack. OnTrue c.is_empty.result (StandAlong searched c.args.space.now.line.now c.args.space.now.choices.now stack c.args.level here (keys_meant c.args.keys.now)))
    (sym c.use_frames.ensures)
    (stand_at_end searched c.args.space.now.line.now c.args.space.now.choices.now c.args.level here c.stand_at_key.new.stack c.args.keys.now _ c.is_empty.result
    c.in-len1-up.len_at_least c.is_empty.ensures c.in-Ends.ensures.stands c.in-Ends.ensures.exact)
