-- The contents are those of the number's sources, and the page is that of its line.
use Rattle.std.proofs.Common.{◌∙◌, ap, length, arith}
use Rattle.text_definitions.specs.Lines.{Line}
use Rattle.demo_counts.proofs.InputsMade.{file_is_that, few_are_drawn, counts_made}
use Rattle.demo_counts.specs.Inputs.{AreDemoContents}
use Rattle.demo_counts.proofs.counts.count_input.Given.{Over}
use Rattle.demo_counts.proofs.counts.count_input.Goals as goal

pub build-requires-after_bounds : goal.build-requires-after_bounds
build-requires-after_bounds g c κs within =
    (c.requires.0, file_is_that c.requires.0 _ _ (c.as_slice.ensures.value ∙ c.in_ok-bytes.ensures.ok) c.requires.1.stems_are)

-- what was made of the stems
made : (g : Over) (c : goal.In_ok-contents g) → AreDemoContents c.requires.0 c.in_ok-contents.field-0.contents
made g c = c.in_ok-contents.ensures.ok c.requires.0 (file_is_that c.requires.0 _ _ (c.as_slice.ensures.value ∙ c.in_ok-bytes.ensures.ok) c.requires.1.stems_are)

pub build-requires-2-clause-trie : goal.build-requires-2-clause-trie
build-requires-2-clause-trie g c = (made g c).trie

pub build-requires-2-clause-lexicon : goal.build-requires-2-clause-lexicon
build-requires-2-clause-lexicon g c = (made g c).has_text.lexicon_itself

pub build-requires-2-clause-limits : goal.build-requires-2-clause-limits
build-requires-2-clause-limits g c = (made g c).has_text.limits

pub build-requires-2-clause-machine : goal.build-requires-2-clause-machine
build-requires-2-clause-machine g c = (made g c).recognizes

pub build-requires-2-clause-phases : goal.build-requires-2-clause-phases
build-requires-2-clause-phases g c = (made g c).phases

pub overflow_cast-result : goal.overflow_cast-result
overflow_cast-result g c = let few = few_are_drawn c.requires.0 c.args.stems.now c.requires.1.stems_are in omega arith

pub returns : goal.returns
returns g c = record {
  ok = λ number input.
      let is = file_is_that number _ _ (c.as_slice.ensures.value ∙ c.in_ok-bytes.ensures.ok) input.stems_are in
      let contents = c.in_ok-contents.ensures.ok number is in
      counts_made number c.args.stems.now c.args.text.now c.in_ok-contents.field-0.contents c.in_ok-lexicon.lexicon.lexicon c.in_ok-line.line c.in_ok-page.page
      c.in_ok-contents.field-0.lines c.len.result input contents c.in_ok-lexicon.ensures.ok.0
      (c.in_ok-line.ensures.ok number input.text_is) c.in_ok-page.ensures.ok
      c.in_ok-contents.ensures.lines (c.len.ensures.value ∙ ap (λ (line : Line). length line.letters) c.line.view_is);
}
