-- A text file tells one thing, which is computed from its bytes, and `convert` has one outcome for it.
use Rattle.std.proofs.Common.{◌≡◌, sym, ◌∙◌, subst}
use Rattle.outside.specs.Files.{Files}
use Rattle.conversion_definitions.specs.AnySchemes.{AnyScheme}
use Rattle.run_definitions.specs.Arguments.{FileWord}
use Rattle.run_definitions.specs.Ends.{Outcome, Spelling}
use Rattle.run_definitions.specs.SourceTells.{SourceTells, IsOutcomeAfter}
use Rattle.run_definitions.specs.ConvertOutcomes.{Conversion, IsConversion, IsConvertedOutcome, IsConvertOutcome}
use Rattle.run_definitions.proofs.OneBuildOutcome.{one_telling, one_after}

-- `convert` has one outcome
pub one_convert_outcome : (from to : AnyScheme) (file out : FileWord) (files : Files) (a b : Outcome)
    → IsConvertOutcome from to file out files a → IsConvertOutcome from to file out files b → a ≡ b
one_convert_outcome from to file out files a b p q =
    let following = λ (outcome : Outcome) (conversion : Conversion). IsConvertedOutcome conversion out files outcome in
    let same = one_telling (IsConversion from to) Spelling (λ bytes left right l r. sym l ∙ r) files file.name p.tells q.tells p.do_tell q.do_tell in
    one_after q.tells file files a b (following a) (following b) (λ conversion l r. l ∙ sym r)
    (subst (λ (t : SourceTells Conversion). IsOutcomeAfter t file files a (following a)) same p.is_outcome) q.is_outcome
