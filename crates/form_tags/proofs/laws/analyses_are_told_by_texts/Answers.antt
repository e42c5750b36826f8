use Rattle.form_tags.proofs.DeltaLaws.{text_analysis-IsAnalysis, text_analysis-once}
use Rattle.form_tags.proofs.laws.analyses_are_told_by_texts.Goals as goal

pub returns : goal.returns
returns c = record { analysis = text_analysis-IsAnalysis; once = text_analysis-once }
