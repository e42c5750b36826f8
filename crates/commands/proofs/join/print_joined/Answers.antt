-- The word is spelled and its line printed; an overlap of a chain has a phase and two rules of the lexicon.
use Rattle.std.proofs.Common.{◌≡◌, string_bytes, ◌++◌, ◌∙◌, ap, codes, sym, subst}
use Rattle.text_definitions.specs.Slp1.{slp1_of_word}
use Rattle.lexicon_definitions.specs.Lexicons.{RuleSet}
use Rattle.chain_definitions.specs.JoinedChains.{Text, Overlap, IsJoinedTo}
use Rattle.run_definitions.specs.JoinOutcomes.{printed_answer}
use Rattle.commands.specs.Checks.{CanBePrinted}
use Rattle.commands.proofs.JoinRuns.{overlap_printable, text_line}
use Rattle.commands.proofs.join.print_joined.Goals as goal

pub print_overlap-requires : goal.print_overlap-requires
print_overlap-requires c =
    let lexicon = c.args.lexicon.now.lexicon in
    let o = c.in-Overlap.overlap in
    let joined : IsJoinedTo lexicon c.args.links.now (Overlap o.phase o.form o.before o.after) = rw c.in-Overlap.is at c.in_ok-word.ensures.ok in
    subst (λ (rules : RuleSet). CanBePrinted rules o) (sym c.rules-rules.ensures.value)
    (overlap_printable lexicon c.args.links.now o.phase o.form o.before o.after c.rules-rules.ensures.searched.lexicon joined)

pub returns-in_ok-format-in-Text : goal.returns-in_ok-format-in-Text
returns-in_ok-format-in-Text c =
    let word = c.in-Text.word in
    let answer = c.in-Text.answer in
    let told : string_bytes c.in_ok-format-in-Text.field-0 ≡ codes "text " ++ (string_bytes c.in_ok-word-in-Text.word ++ (codes "\n" ++ c.answer_line-whether.result.now)) =
    c.in_ok-format-in-Text.ensures.ok in
    record {
      ok = record {
        joined = Text word answer;
        is_joined = rw c.in-Text.is at c.in_ok-word.ensures.ok;
        printed = told
            ∙ ap (λ spelled. codes "text " ++ (spelled ++ (codes "\n" ++ c.answer_line-whether.result.now))) c.in_ok-word-in-Text.ensures.ok
            ∙ ap (λ rest. codes "text " ++ (slp1_of_word word ++ (codes "\n" ++ rest))) c.answer_line-whether.ensures
            ∙ text_line (slp1_of_word word) (printed_answer answer);
      };
    }
