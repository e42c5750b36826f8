-- A key that ends the line is the first path; one that leads on begins the first path where one is found after it.
use Rattle.std.proofs.Common.{◌≡◌, ◌+◌, ◌*◌, ◌<◌, ◌≤◌, length, arith, refl, sym, ap, ◌∙◌, subst}
use Rattle.search_frames.specs.declared.guiding.ToTry.TheVariants.{Later}
use Rattle.search_frames.specs.Frames.{numbered_of, here_of, key_at}
use Rattle.search_frames.specs.Reached.{rank}
use Rattle.search_frames.specs.Turns.{keys_left}
use Rattle.search_frames.specs.Costs.{steps_of_frame}
use Rattle.search_frames.proofs.ConfigurationPaths.{path_if_exact}
use Rattle.search_frames.specs.Stacks.{KeepsBefore, with_depth}
use Rattle.segmenter.specs.Chains.{HasFound, HasNone, Every, BeginsToTry}
use Rattle.segmenter.proofs.KeptFrames.{frame_kept, key_kept, keeps_then, keeps_less, other_depth, other_depth_keeps}
use Rattle.segmenter.proofs.PathsFound.{found_first, none_at_all, on_true, on_false, still_reached, led_deeper, found_end, found_deeper, under_way_deeper, none_left, keeps_mid, true_unless}
use Rattle.segmenter.specs.MoveCosts.{steps_of_levels, levels_after}
use Rattle.segmenter.proofs.LevelCosts.{found_opened, found_below}
use Rattle.segmenter.proofs.finding.+find.Goals as goal

pub find_first-returns-clause-found : goal.find_first-returns-clause-found
find_first-returns-clause-found g t c =
    let searched = c.args.space.now.lexicon.now in
    let here = ap (numbered_of searched) c.open_frame.ensures.place in
    on_true c.find_next.result
    (λ found. subst (HasFound searched c.args.space.now.line.now c.args.space.now.choices.now Every c.find_next.new.stack c.args.level) here
    (found_first c.args.space.now.lexicon.now c.args.space.now.line.now c.args.space.now.choices.now c.args.level (key_at c.open_frame.new.stack c.args.level) (here_of searched c.open_frame.new.stack c.args.level) c.find_next.new.stack found))
    c.find_next.ensures.found

pub find_first-returns-clause-none : goal.find_first-returns-clause-none
find_first-returns-clause-none g t c =
    let searched = c.args.space.now.lexicon.now in
    let here = ap (numbered_of searched) c.open_frame.ensures.place in
    on_false c.find_next.result
    (λ none. subst (HasNone c.args.space.now.lexicon.now c.args.space.now.line.now c.args.space.now.choices.now Every) here
    (none_at_all c.args.space.now.lexicon.now c.args.space.now.line.now c.args.space.now.choices.now c.args.level (key_at c.open_frame.new.stack c.args.level) (here_of searched c.open_frame.new.stack c.args.level) none))
    c.find_next.ensures.none

pub find_first-returns-clause-exact : goal.find_first-returns-clause-exact
find_first-returns-clause-exact g t c exact says =
    let searched = c.args.space.now.lexicon.now in
    let path = path_if_exact c.args.space.now.lexicon.now c.args.space.now.line.now c.args.space.now.choices.now (g.D.Guide.covers c.args.space.now.guide.now) (g.D.Guide.says c.args.space.now.guide.now)
    c.args.place c.requires.searched c.requires.guide c.requires.place exact c.requires.line c.requires.reached says in
    let here = ap (numbered_of searched) c.open_frame.ensures.place in
    true_unless c.find_next.result
    (on_false c.find_next.result
    (λ none. subst (HasNone c.args.space.now.lexicon.now c.args.space.now.line.now c.args.space.now.choices.now Every) here
    (none_at_all c.args.space.now.lexicon.now c.args.space.now.line.now c.args.space.now.choices.now c.args.level (key_at c.open_frame.new.stack c.args.level) (here_of searched c.open_frame.new.stack c.args.level) none) path.0 path.1 tt)
    c.find_next.ensures.none)

pub find_first-returns-clause-steps_on : goal.find_first-returns-clause-steps_on
find_first-returns-clause-steps_on g t c exact most few =
    let searched = c.args.space.now.lexicon.now in
    let line = c.args.space.now.line.now in
    let here = ap (numbered_of searched) c.open_frame.ensures.place in
    on_true c.find_next.result
    (λ found. found_opened (steps_of_frame searched most) (2 * length line.letters) (rank (numbered_of searched c.args.place)) c.args.steps.now c.find_next.new.steps
    c.requires.room.within
    (subst (λ h. c.find_next.new.steps ≤ c.args.steps.now + steps_of_frame searched most + steps_of_levels searched most (levels_after line h)) here found))
    (c.find_next.ensures.steps_on exact most few)

pub find_next-turn-requires-clause-reached : goal.find_next-turn-requires-clause-reached
find_next-turn-requires-clause-reached g t c =
    still_reached c.args.space.now.lexicon.now c.args.space.now.line.now c.args.space.now.choices.now c.args.level c.args.stack.now c.args.to_try c.loop-stack.stack c.loop-stack.to_try c.loop-stack.invariant.under c.requires.reached

pub find_next-turn-requires-clause-stands : goal.find_next-turn-requires-clause-stands
find_next-turn-requires-clause-stands g t c = c.loop-stack.invariant.under.stands

pub find_next-turn-requires-clause-placed : goal.find_next-turn-requires-clause-placed
find_next-turn-requires-clause-placed g t c = c.loop-stack.invariant.under.placed

pub find_next-returns-in-Refused-clause-none : goal.find_next-returns-in-Refused-clause-none
find_next-returns-in-Refused-clause-none g t c =
    none_left c.args.space.now.lexicon.now c.args.space.now.line.now c.args.space.now.choices.now c.args.level c.args.stack.now c.args.to_try c.loop-stack.stack c.loop-stack.to_try c.loop-stack.invariant.under c.in-Refused.ensures.turn

pub find_next-returns-in-Ends-clause-found : goal.find_next-returns-in-Ends-clause-found
find_next-returns-in-Ends-clause-found g t c =
    let went = c.in-Ends.ensures.turn.0 in
    let searched = c.args.space.now.lexicon.now in
    let level = c.args.level in
    subst (λ stack. HasFound searched c.args.space.now.line.now c.args.space.now.choices.now (BeginsToTry (key_at c.args.stack.now level) c.args.to_try) stack level (here_of searched c.args.stack.now level))
    (sym c.use_frames.ensures)
    (found_end c.args.space.now.lexicon.now c.args.space.now.line.now c.args.space.now.choices.now c.args.level c.args.stack.now c.args.to_try c.loop-stack.stack c.turn.new.stack c.loop-stack.to_try
    c.loop-stack.invariant.under went c.turn.ensures.changes (with_depth c.turn.new.stack (level + 1))
    (other_depth searched c.args.space.now.line.now c.turn.new.stack level (level + 1) went.placed)
    refl refl refl c.in-Ends.ensures.turn.1)

pub find_next-returns-in-Ends-clause-changes : goal.find_next-returns-in-Ends-clause-changes
find_next-returns-in-Ends-clause-changes g t c =
    subst (KeepsBefore c.args.level c.args.stack.now) (sym c.use_frames.ensures)
    (other_depth_keeps c.args.level c.args.stack.now c.turn.new.stack (c.args.level + 1)
    (keeps_mid c.args.space.now.lexicon.now c.args.space.now.line.now c.args.space.now.choices.now c.args.level c.args.stack.now c.args.to_try c.loop-stack.stack c.turn.new.stack c.loop-stack.to_try
    c.loop-stack.invariant.under c.in-Ends.ensures.turn.0 c.turn.ensures.changes))

pub find_next-find_first-requires : goal.find_next-find_first-requires
find_next-find_first-requires g t c κs bounds =
    let turn = c.in-LeadsOn.ensures.turn in
    let under = c.loop-stack.invariant.under in
    let leads = led_deeper c.args.space.now.lexicon.now c.args.space.now.line.now c.args.space.now.choices.now c.args.level c.args.stack.now c.args.to_try c.loop-stack.stack c.turn.new.stack c.loop-stack.to_try
    under turn.0 c.turn.ensures.changes c.in-LeadsOn.next turn.1 c.requires.searched c.requires.reached in
    let rises = leads.rises in
    let within = leads.within in
    let below = c.requires.room.below in
    let room = c.requires.room.room in
    let frames : length c.turn.new.stack.frames.items ≡ length c.args.stack.now.frames.items = c.turn.ensures.changes.room ∙ under.keeps.room in (
      omega (arith, rises, within, c.decreases),
      (
        bounds.0,
        (
          bounds.1,
          (
            c.requires.searched,
            (
              c.requires.line,
              (
                c.requires.guide,
                (
                  c.requires.known,
                  (
                    c.turn.ensures.changes.is_stack,
                    (
                      leads.place,
                      (
                        leads.reached,
                        record { below = omega (arith, below, rises); within = within; room = omega (arith, room, frames) },
                      ),
                    ),
                  ),
                ),
              ),
            ),
          ),
        ),
      ),
    )

pub find_next-returns-then-find_first-clause-found : goal.find_next-returns-then-find_first-clause-found
find_next-returns-then-find_first-clause-found g t c =
    let turn = c.in-LeadsOn.ensures.turn in
    found_deeper c.args.space.now.lexicon.now c.args.space.now.line.now c.args.space.now.choices.now c.args.level c.args.stack.now c.args.to_try c.loop-stack.stack c.turn.new.stack c.loop-stack.to_try
    c.loop-stack.invariant.under turn.0 c.turn.ensures.changes c.find_first.new.stack c.find_first.ensures.changes turn.1.leads_on
    (subst (HasFound c.args.space.now.lexicon.now c.args.space.now.line.now c.args.space.now.choices.now Every c.find_first.new.stack (c.args.level + 1)) turn.1.is c.if-find_first.ensures.found)

pub find_next-returns-then-find_first-clause-changes : goal.find_next-returns-then-find_first-clause-changes
find_next-returns-then-find_first-clause-changes g t c =
    keeps_then c.args.level c.args.stack.now c.turn.new.stack c.find_first.new.stack
    (keeps_mid c.args.space.now.lexicon.now c.args.space.now.line.now c.args.space.now.choices.now c.args.level c.args.stack.now c.args.to_try c.loop-stack.stack c.turn.new.stack c.loop-stack.to_try
    c.loop-stack.invariant.under c.in-LeadsOn.ensures.turn.0 c.turn.ensures.changes)
    (keeps_less c.args.level c.turn.new.stack c.find_first.new.stack c.find_first.ensures.changes)

pub find_next-loop-stack-preserved : goal.find_next-loop-stack-preserved
find_next-loop-stack-preserved g t c =
    let turn = c.in-LeadsOn.ensures.turn in
    record {
      under = under_way_deeper c.args.space.now.lexicon.now c.args.space.now.line.now c.args.space.now.choices.now c.args.level c.args.stack.now c.args.to_try c.loop-stack.stack c.turn.new.stack c.loop-stack.to_try
          c.loop-stack.invariant.under turn.0 c.turn.ensures.changes c.find_first.new.stack c.find_first.ensures.changes turn.1.leads_on
          (subst (HasNone c.args.space.now.lexicon.now c.args.space.now.line.now c.args.space.now.choices.now Every) turn.1.is c.if-find_first.ensures.none);
      spent = λ exact.
          let yes = c.find_first.ensures.exact exact turn.2 in
          let no = c.if-find_first.false in
          absurd (cc (yes, no));
    }

pub find_next-loop-stack-smaller : goal.find_next-loop-stack-smaller
find_next-loop-stack-smaller g t c =
    let kept = key_kept c.args.level c.turn.new.stack c.find_first.new.stack
    (frame_kept c.args.level c.turn.new.stack c.find_first.new.stack c.find_first.ensures.changes) in
    subst (λ key. keys_left c.args.space.now.lexicon.now key Later < keys_left c.args.space.now.lexicon.now (key_at c.loop-stack.stack c.args.level) c.loop-stack.to_try)
    (sym kept) c.in-LeadsOn.ensures.falls

pub find_next-returns-in-Ends-clause-steps_on : goal.find_next-returns-in-Ends-clause-steps_on
find_next-returns-in-Ends-clause-steps_on g t c exact most few =
    let so_far = c.loop-stack.invariant.spent exact in
    let spent = c.turn.ensures.steps most few in
    omega (arith, so_far, spent)

pub find_next-returns-then-find_first-clause-steps_on : goal.find_next-returns-then-find_first-clause-steps_on
find_next-returns-then-find_first-clause-steps_on g t c exact most few =
    let turn = c.in-LeadsOn.ensures.turn in
    let so_far = c.loop-stack.invariant.spent exact in
    let spent = c.turn.ensures.steps most few in
    let leads = led_deeper c.args.space.now.lexicon.now c.args.space.now.line.now c.args.space.now.choices.now c.args.level c.args.stack.now c.args.to_try c.loop-stack.stack c.turn.new.stack c.loop-stack.to_try
    c.loop-stack.invariant.under turn.0 c.turn.ensures.changes c.in-LeadsOn.next turn.1 c.requires.searched c.requires.reached in
    found_below (steps_of_frame c.args.space.now.lexicon.now most) (2 * length c.args.space.now.line.now.letters) (rank (here_of c.args.space.now.lexicon.now c.args.stack.now c.args.level))
    (rank (numbered_of c.args.space.now.lexicon.now c.in-LeadsOn.next)) c.args.steps.now c.turn.new.steps c.find_first.new.steps
    leads.rises (omega (arith, so_far, spent)) (c.if-find_first.ensures.steps_on exact most few)

pub find_next-returns-in-Refused-clause-steps_end : goal.find_next-returns-in-Refused-clause-steps_end
find_next-returns-in-Refused-clause-steps_end g t c exact most few =
    let so_far = c.loop-stack.invariant.spent exact in
    let spent = c.turn.ensures.steps most few in
    omega (arith, so_far, spent)
