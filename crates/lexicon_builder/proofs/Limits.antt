-- What a refusal says, where it follows from what another one says.
use Rattle.lexicon_builder.specs.Sources.{IfLimit}
use Rattle.lexicon_builder.specs.declared.error.BuildError.{BuildError}
use Rattle.lexicon_builder.specs.declared.error.BuildError.TheVariants.{Limit, Memory}

pub limit_follows : (error : BuildError) (P Q : Type 0) → (P → Q) → IfLimit error P → IfLimit error Q
limit_follows Limit P Q f h = f h
limit_follows Memory P Q f h = tt
