-- The search finds the analysis, or the index where it goes.
use Rattle.std.proofs.Common.{◌∙◌, map, ap, rules}
use Rattle.std.proofs.lemmas.Fn.{always_returns_same}
use Rattle.lexicon_definitions.specs.Analyses.{compare_analyses}
use Rattle.form_tags.specs.Analyses.{text_analysis}
use Rattle.shared_trie.proofs.PutAnalyses.{put_at, put_there}
use Rattle.shared_trie.proofs.analyses.put_analysis.Goals as goal

pub returns-in_ok-insert : goal.returns-in_ok-insert
returns-in_ok-insert c =
    let found = c.in-Err.ensures.position (λ other. compare_analyses (text_analysis other) (text_analysis c.args.analysis)) (always_returns_same _ _ _ (λ a r f' k. search rules)) in
    record {
      ok = ap (map text_analysis) c.in_ok-insert.ensures.items
          ∙ put_at c.deref.result.now c.args.analyses.now.items c.args.analysis c.deref.ensures.value c.requires.rising c.in-Err.index c.in-Err.ensures.bound found;
    }

pub returns-in_default : goal.returns-in_default
returns-in_default c =
    let found = c.in_default.ensures.position (λ other. compare_analyses (text_analysis other) (text_analysis c.args.analysis)) (always_returns_same _ _ _ (λ a r f' k. search rules)) in
    record {
      ok = put_there c.deref.result.now c.args.analyses.now.items c.args.analysis c.deref.ensures.value c.requires.rising c.in_default.field-0 c.in_default.ensures.bound found;
    }
