-- The source files and the text of a number are each read in one way, the sources have one lexicon, and the line one page over it.
use Rattle.std.proofs.Common.{◌≡◌, ℕ, Bool, List, [], length, Ok, sym, ◌∙◌, ap, subst}
use Rattle.outside.specs.Files.{Files}
use Rattle.text_definitions.specs.Lines.{Line}
use Rattle.lexicon_definitions.specs.Lexicons.{RuleSet, Lexicon}
use Rattle.lexicon_definitions.specs.Limits.{count_lines}
use Rattle.segmentation_definitions.specs.Derivations.{Step}
use Rattle.segmentation_definitions.specs.Listings.{BeforeFirst, IsPage}
use Rattle.segmentation_definitions.proofs.Listings.{same_page}
use Rattle.morphology_definitions.specs.Inflection.{Class, Stem}
use Rattle.rule_file_definitions.specs.RuleFileReadings.{read_before_grammar}
use Rattle.paradigm_file_definitions.specs.TableFiles.{tables_of}
use Rattle.paradigm_file_definitions.specs.StemFiles.{stems_of}
use Rattle.demo_definitions.specs.declared.limits.TheConstants.{DEMO_PAGE}
use Rattle.demo_definitions.specs.SourceTexts.{demo_rules, demo_tables, demo_stems}
use Rattle.run_definitions.specs.Ends.{Outcome, Done, outcome_over}
use Rattle.run_definitions.specs.SourceLexicons.{IsLexiconOf}
use Rattle.run_definitions.specs.DemoOutcomes.{DemoCounts, IsDemoLexicon, AreDemoCounts, printed_demo, IsDemoOutcome}
use Rattle.run_definitions.proofs.OneSourceLexicon.{one_lexicon}
use Rattle.run_definitions.proofs.OneBuildOutcome.{one_decided}

-- a number has one lexicon, and its stems are one list
one_demo_lexicon : (number : ℕ) (stems others : List Stem) (left right : Lexicon) → IsDemoLexicon number stems left → IsDemoLexicon number others right
    → (stems ≡ others) × (left ≡ right)
one_demo_lexicon number stems others left right p q =
    let read = one_decided (read_before_grammar demo_rules) (Ok p.rules) (Ok q.rules) p.rules_read q.rules_read in
    let rules : p.rules ≡ q.rules = cc in
    let tables : Ok p.classes ≡ Ok q.classes =
    sym p.tables_read ∙ ap (λ (set : RuleSet). tables_of set.names demo_tables) rules ∙ q.tables_read in
    let classes : p.classes ≡ q.classes = cc in
    let taken : Ok stems ≡ Ok others =
    sym p.stems_read ∙ ap (λ (held : List Class). stems_of held (demo_stems number)) classes ∙ q.stems_read in
    let same : stems ≡ others = cc in (
      same,
      one_lexicon q.rules q.classes others left right
          (subst (λ (held : List Stem). IsLexiconOf q.rules q.classes held left) same
          (subst (λ (held : List Class). IsLexiconOf q.rules held stems left) classes
          (subst (λ (set : RuleSet). IsLexiconOf set p.classes stems left) rules p.is_of)))
          q.is_of,
    )

-- the counts by what they are of
counts_of : List Stem → Lexicon → Line → List (List Step) → Bool → DemoCounts
counts_of stems lexicon line answers more =
    record { stems = length stems; forms = count_lines lexicon.phases; letters = length line.letters; answers = length answers; more = more }

-- a number has the same counts each time
pub one_count : (number : ℕ) (left right : DemoCounts) → AreDemoCounts number left → AreDemoCounts number right → left ≡ right
unfolding counts_of
one_count number left right p q =
    let both = one_demo_lexicon number p.stems q.stems p.lexicon q.lexicon p.is_lexicon q.is_lexicon in
    let read : Ok p.line ≡ Ok q.line = sym p.text_read ∙ q.text_read in
    let line : p.line ≡ q.line = cc in
    let page = same_page q.lexicon q.line [] BeforeFirst DEMO_PAGE p.answers q.answers p.more q.more
    (subst (λ (l : Line). IsPage q.lexicon l [] BeforeFirst DEMO_PAGE p.answers p.more) line
    (subst (λ (l : Lexicon). IsPage l p.line [] BeforeFirst DEMO_PAGE p.answers p.more) both.1 p.page)) q.page in
    let same : counts_of p.stems p.lexicon p.line p.answers p.more ≡ counts_of q.stems q.lexicon q.line q.answers q.more =
    λ i. counts_of (both.0 i) (both.1 i) (line i) (page.0 i) (page.1 i) in
    p.are ∙ same ∙ sym q.are

-- and so `demo` has one outcome
pub one_demo_outcome : (number : ℕ) (files : Files) (a b : Outcome) → IsDemoOutcome number files a → IsDemoOutcome number files b → a ≡ b
one_demo_outcome number files a b p q =
    p.is ∙ ap (λ (counts : DemoCounts). outcome_over files (printed_demo counts) Done) (one_count number p.counts q.counts p.are_counts q.are_counts) ∙ sym q.is
