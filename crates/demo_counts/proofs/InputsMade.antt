-- What is drawn is the input of the number, and what is counted of it are the counts of the definitions.
use Rattle.std.proofs.Common.{◌≡◌, ℕ, ◌*◌, ◌<◌, ◌≤◌, List, [], length, sym, ap, ◌∙◌, subst, arith}
use Rattle.std.specs.List.{flat_map}
use Rattle.std.proofs.lemmas.List.{length-map}
use Rattle.text_definitions.specs.Lines.{Line}
use Rattle.lexicon_definitions.specs.Lexicons.{Lexicon}
use Rattle.lexicon_definitions.specs.Limits.{count_lines}
use Rattle.trie_text_definitions.specs.TrieForms.{phases_of}
use Rattle.segmentation_definitions.specs.Listings.{BeforeFirst, IsPage}
use Rattle.demo_definitions.specs.declared.limits.TheConstants.{STEM_DRAWS, TEXT_WORDS, DEMO_PAGE}
use Rattle.demo_definitions.specs.Draws.{seed_after}
use Rattle.demo_definitions.specs.DrawnStems.{stems_drawn, stems_of_number}
use Rattle.demo_definitions.specs.DrawnTexts.{text_drawn, text_of_number}
use Rattle.demo_definitions.specs.SourceTexts.{stem_record, demo_stems}
use Rattle.demo_definitions.specs.SourceContents.{stem_spelled, stems_spelled, line_spelled}
use Rattle.demo_definitions.proofs.StemTexts.{stems_are_texts, some_stems}
use Rattle.demo_definitions.proofs.LinesRead.{line_read}
use Rattle.run_definitions.specs.DemoOutcomes.{AreDemoCounts}
use Rattle.form_file.specs.declared.contents.Contents.{Contents}
use Rattle.form_file.specs.Contents.{lexicon_of}
use Rattle.demo_counts.specs.declared.counting.PageCount.{PageCount}
use Rattle.demo_counts.specs.Pages.{IsPageCount}
use Rattle.demo_counts.specs.Inputs.{AreInput, AreDemoContents, counts_told}

-- ---- what is drawn

pub stems_are_those : (number seed : ℕ) (keys stems : List (List ℕ)) → seed ≡ number → keys ≡ stems_drawn seed STEM_DRAWS → stems ≡ keys
    → stems ≡ stems_of_number number
unfolding stems_of_number
stems_are_those number seed keys stems is drawn same = same ∙ drawn ∙ ap (λ (s : ℕ). stems_drawn s STEM_DRAWS) is

pub some_are_drawn : (number : ℕ) (stems : List (List ℕ)) → stems ≡ stems_of_number number → 0 < length stems
some_are_drawn number stems are = let some = some_stems number in let same = ap length are in omega arith

pub few_are_drawn : (number : ℕ) (stems : List (List ℕ)) → stems ≡ stems_of_number number → length stems ≤ 1000
few_are_drawn number stems are = let few = (stems_are_texts number).few in let same = ap length are in omega arith

pub text_is_that : (number seed next : ℕ) (stems : List (List ℕ)) (text bytes : List ℕ) → seed ≡ number → stems ≡ stems_of_number number
    → next ≡ seed_after seed (5 * STEM_DRAWS) → text ≡ text_drawn stems next TEXT_WORDS → bytes ≡ text → bytes ≡ text_of_number number
unfolding text_of_number
text_is_that number seed next stems text bytes is are after drawn same =
    let next_is : next ≡ seed_after number (5 * STEM_DRAWS) = after ∙ ap (λ (s : ℕ). seed_after s (5 * STEM_DRAWS)) is in
    same ∙ drawn ∙ (λ i. text_drawn (are i) (next_is i) TEXT_WORDS)

pub file_is_that : (number : ℕ) (stems : List (List ℕ)) (bytes : List ℕ) → bytes ≡ flat_map stem_record stems → stems ≡ stems_of_number number
    → bytes ≡ demo_stems number
unfolding demo_stems
file_is_that number stems bytes made are = made ∙ ap (λ (texts : List (List ℕ)). flat_map stem_record texts) are

-- ---- what is counted

as_many : (number : ℕ) → length (stems_spelled number) ≡ length (stems_of_number number)
unfolding stems_spelled
as_many number = length-map (stems_of_number number) stem_spelled

pub counts_made : (number : ℕ) (stems : List (List ℕ)) (text : List ℕ) (contents : Contents) (lexicon : Lexicon) (line : Line) (page : PageCount)
    (forms letters : ℕ) → AreInput number stems text → AreDemoContents number contents → lexicon ≡ lexicon_of contents → line ≡ line_spelled number
    → IsPageCount lexicon line page → forms ≡ count_lines (phases_of contents.store) → letters ≡ length line.letters
    → AreDemoCounts number (counts_told (record { stems = length stems; forms = forms; letters = letters; answers = page.answers; more = page.more }))
counts_made number stems text contents lexicon line page forms letters input made lexicon_is line_is counted forms_are letters_are =
    let stems_are : length stems ≡ length (stems_spelled number) = ap length input.stems_are ∙ sym (as_many number) in
    let letters_is : letters ≡ length (line_spelled number).letters = letters_are ∙ ap (λ (l : Line). length l.letters) line_is in
    let answers_are : page.answers ≡ length counted.answers = sym counted.many in
    record {
      stems = stems_spelled number;
      lexicon = lexicon_of contents;
      is_lexicon = made.is_lexicon;
      line = line_spelled number;
      text_read = line_read number;
      answers = counted.answers;
      more = page.more;
      page =
          subst (λ (l : Line). IsPage (lexicon_of contents) l [] BeforeFirst DEMO_PAGE counted.answers page.more) line_is
          (subst (λ (l : Lexicon). IsPage l line [] BeforeFirst DEMO_PAGE counted.answers page.more) lexicon_is counted.is_page);
      are = λ i. record { stems = stems_are i; forms = forms_are i; letters = letters_is i; answers = answers_are i; more = page.more };
    }
