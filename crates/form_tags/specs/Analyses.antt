-- What the definitions see of an analysis and of a delta: the tag as its text.
use Rattle.form_tags.specs.declared.analysis.Analysis.{Analysis}
use Rattle.form_tags.specs.declared.delta.Delta.{Delta}
use Rattle.lexicon_definitions.specs.Analyses.{Analysis as TextAnalysis}
use Rattle.lexicon_definitions.specs.Deltas.{Delta as TextDelta}
use Rattle.form_tags.specs.TagTexts.{tag_text}

-- an analysis with its tag's text
abbrev pub text_analysis : Analysis → TextAnalysis
text_analysis analysis = record { stem = analysis.stem; tag = tag_text analysis.tag }

-- a delta with its tag's text
abbrev pub text_delta : Delta → TextDelta
text_delta delta = record { cut = delta.cut; append = delta.append; tag = tag_text delta.tag }
