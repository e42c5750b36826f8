-- One key more is printed.
use Rattle.std.proofs.Common.{get_or, refl, ◌∙◌}
use Rattle.derivation.specs.declared.step.Key.{Key}
use Rattle.bookmarks.proofs.ListsPrinted.{key_printed}
use Rattle.bookmarks.proofs.keys.print_keys.Goals as goal

pub loop-key-preserved : goal.loop-key-preserved
loop-key-preserved c =
    let none : Key = record { phase = 0; taken = 0; rule = 0 } in
    record {
      printed = key_printed c.args.keys.now c.loop-key.key-index (get_or c.args.keys.now c.loop-key.key-index none) none _ _ _ c.loop-key-test.true refl
          c.loop-key.invariant.printed (c.as_str.ensures.value ∙ c.in_ok-print_key.ensures.ok) c.in_ok-push_part.ensures.ok;
    }
