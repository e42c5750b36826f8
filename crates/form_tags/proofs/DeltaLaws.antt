-- The least cut is one, and with it what is appended: both deltas keep the same letters of the form.
use Rattle.std.proofs.Common.{◌≡◌, ℕ, ◌-◌, List, ◌++◌, length, take, ap, sym, ◌∙◌, arith}
use Rattle.std.proofs.lemmas.List.{append_cancel_left}
use Rattle.lexicon_definitions.specs.Analyses.{Analysis as TextAnalysis}
use Rattle.text_definitions.specs.Words.{IsWord}
use Rattle.lexicon_definitions.specs.Lexicons.{IsAnalysis}
use Rattle.lexicon_definitions.specs.Deltas.{Delta as TextDelta, IsDelta, analysis_by}
use Rattle.form_tags.specs.declared.analysis.Analysis.{Analysis}
use Rattle.form_tags.specs.declared.delta.Delta.{Delta}
use Rattle.form_tags.specs.Analyses.{text_analysis, text_delta}
use Rattle.form_tags.proofs.TagsByText.{tag_text-is, tag_text-once}

-- a form and an analysis have one delta at most
pub IsDelta-once : (form : List ℕ) (analysis : TextAnalysis) (left right : TextDelta) → IsDelta form analysis left → IsDelta form analysis right → left ≡ right
IsDelta-once form analysis left right a b =
    let cut : left.cut ≡ right.cut = omega (arith, a.least right b.within b.gives, b.least left a.within a.gives) in
    let both : analysis_by form left ≡ analysis_by form right = a.gives ∙ sym b.gives in
    let tag : left.tag ≡ right.tag = ap (λ x. x.tag) both in
    let stem : take (length form - left.cut) form ++ left.append ≡ take (length form - right.cut) form ++ right.append = ap (λ x. x.stem) both in
    let append : left.append ≡ right.append = append_cancel_left (take (length form - right.cut) form) left.append right.append (rw cut at stem) in
    λ i. record { cut = cut i; append = append i; tag = tag i }

-- an analysis of a word is one in the definitions
pub text_analysis-IsAnalysis : (analysis : Analysis) → IsWord analysis.stem → IsAnalysis (text_analysis analysis)
text_analysis-IsAnalysis analysis word = record { stem = word; tag = tag_text-is analysis.tag }

-- two analyses with one stem and one tag's text are one
pub text_analysis-once : (left right : Analysis) → text_analysis left ≡ text_analysis right → left ≡ right
text_analysis-once left right e =
    let tag : left.tag ≡ right.tag = tag_text-once left.tag right.tag (ap (λ x. x.tag) e) in
    let stem : left.stem ≡ right.stem = ap (λ x. x.stem) e in
    λ i. record { stem = stem i; tag = tag i }

-- what a delta of an analysis gives back is the analysis
pub given_back : (form : List ℕ) (analysis result : Analysis) (delta : Delta) → IsDelta form (text_analysis analysis) (text_delta delta) → text_analysis result ≡ analysis_by form (text_delta delta) → result ≡ analysis
given_back form analysis result delta d e = text_analysis-once result analysis (e ∙ d.gives)
