-- A list with no element is empty.
use Rattle.std.proofs.Common.{◌≡◌, ◌∷◌, [], List, length, refl, arith}
use Rattle.std.proofs.lemmas.Bool.{OnTrue_from}
use Rattle.std.proofs.lemmas.Grind.{common_steps}
use Rattle.segmentation_definitions.specs.Items.{Choice}
use Rattle.summary_chart.proofs.site.Site.is_free.Goals as goal

none_if_empty : (choices : List Choice) → length choices ≡ 0 → choices ≡ []
none_if_empty [] none = refl
none_if_empty (first ∷ rest) none = absurd (omega (arith, none))

pub returns : goal.returns
returns c = OnTrue_from c.is_empty.result (c.args.self.choices.now ≡ []) (λ empty. grind (arith, common_steps, none_if_empty))
