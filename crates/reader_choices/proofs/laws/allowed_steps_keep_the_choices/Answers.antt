-- By the law on the local tests of all steps, which are those of each step.
use Rattle.std.proofs.Common.{[], true, sym, subst, length}
use Rattle.segmentation_definitions.specs.LocalTests.{AllAllow}
use Rattle.segmentation_definitions.proofs.LocalChoices.{allowed_if_kept, kept_if_allowed}
use Rattle.derivation.specs.Steps.{steps_of}
use Rattle.derivation.proofs.PlacedSteps.{same_places}
use Rattle.reader_choices.proofs.AllowedSteps.{each_from_all, all_from_each}
use Rattle.reader_choices.proofs.laws.allowed_steps_keep_the_choices.Goals as goal

pub returns : goal.returns
returns c lexicon letters choices steps is stand derives =
    let rules = lexicon.rules in
    let all = steps_of rules letters steps in
    let same = same_places rules letters steps stand in (
      λ kept. each_from_all rules letters choices true [] steps
          (subst (AllAllow rules (length letters) choices true) same (allowed_if_kept lexicon letters choices all is derives kept)),
      λ each. kept_if_allowed lexicon letters choices all is derives
          (subst (AllAllow rules (length letters) choices true) (sym same) (all_from_each rules letters choices true [] steps each)),
    )
