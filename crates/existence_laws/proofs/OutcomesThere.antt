-- Each command has an outcome, from what its files tell, and the page, the session or the lexicon that is there; and so has a run,
-- whose words are those of a command or of none.
use Rattle.std.proofs.Common.{◌≡◌, ◌≤◌, ℕ, ◌+◌, ◌++◌, inl, inr, List, [], ◌∷◌, length, Option, Some, Result, Ok, Err, refl, sym, ◌∙◌, subst, arith}
use Rattle.std.specs.Prelude.{codes, false}
use Rattle.outside.specs.Files.{Files, with_file}
use Rattle.text_definitions.specs.Lines.{Line}
use Rattle.text_definitions.specs.Schemes.{Scheme}
use Rattle.text_definitions.specs.LineTexts.{LineFault, line_of_text}
use Rattle.lexicon_definitions.specs.Lexicons.{RuleSet, Lexicon, IsLexicon}
use Rattle.lexicon_definitions.specs.Limits.{count_lines}
use Rattle.lexicon_text_definitions.specs.declared.limits.TheConstants.{MOST_FILE_BYTES}
use Rattle.lexicon_text_definitions.specs.FileLines as file
use Rattle.lexicon_text_definitions.specs.FileLines.{lines_of_bytes}
use Rattle.trie_text_definitions.specs.Versions.{Version, version_of}
use Rattle.trie_text_definitions.specs.VersionTexts.{HasTextIn, IsNewestText}
use Rattle.trie_text_definitions.proofs.LexiconsTold.{read_lexicon}
use Rattle.lexicon_definitions.specs.declared.limits.TheConstants.{MOST_FORM_LINES}
use Rattle.segmentation_definitions.specs.Listings.{BeforeFirst}
use Rattle.segmentation_definitions.specs.PrintedAnswers.{output_line, printed_page}
use Rattle.session_definitions.specs.LineWhys.{why_no_line}
use Rattle.morphology_definitions.specs.Inflection.{Class, Stem}
use Rattle.rule_file_definitions.specs.RuleFileReadings.{IsReadAs}
use Rattle.paradigm_file_definitions.specs.TableFiles.{tables_of}
use Rattle.paradigm_file_definitions.specs.StemFiles.{stems_of}
use Rattle.demo_definitions.specs.declared.limits.TheConstants.{DEMO_PAGE}
use Rattle.demo_definitions.specs.SourceTexts.{demo_rules, demo_tables, demo_stems}
use Rattle.demo_definitions.specs.SourceContents.{demo_rule_set, demo_classes, stems_spelled, line_spelled}
use Rattle.demo_definitions.proofs.SourcesRead.{rule_set_read, tables_read}
use Rattle.demo_definitions.proofs.StemsRead.{stems_read}
use Rattle.demo_definitions.proofs.LinesRead.{line_read}
use Rattle.run_definitions.specs.declared.limits.TheConstants.{CHECK_OVERLAPS, SEGMENT_PAGE}
use Rattle.run_definitions.specs.Arguments.{FileWord}
use Rattle.run_definitions.specs.Commands.{Command, Segment, Check, Build, Read, Batch, Demo, Convert, Join, Split, Annotate, Reread, Migrate, AreWordsOf}
use Rattle.run_definitions.specs.Ends.{Outcome, Spelling, Done, ReadFault, BadFile, BadText, BadChain, AnyFault, Rules, Tables, Stems, Note, outcome_over}
use Rattle.run_definitions.specs.Refusals.{file_refusal, text_refusal, chain_refusal, usage_outcome}
use Rattle.run_definitions.specs.LexiconTells as lexicons
use Rattle.run_definitions.specs.LexiconTells.{FileTells, DoesTell}
use Rattle.run_definitions.specs.SourceTells as sources
use Rattle.run_definitions.specs.SourceTells.{SourceTells, DoesTellSource, IsOutcomeAfter}
use Rattle.run_definitions.specs.SourceLexicons.{IsOversized}
use Rattle.run_definitions.specs.SegmentOutcomes.{IsListedOutcome, OfText, OfPage, IsOutcomeWith, IsSegmentOutcome}
use Rattle.run_definitions.specs.Overlaps.{printed_check}
use Rattle.run_definitions.specs.CheckOutcomes.{IsCheckOutcomeWith, IsCheckOutcome}
use Rattle.run_definitions.specs.BuildOutcomes.{AreTables, AreStems, RulesTell, TablesTell, StemsTell, lexicon_fault, built_outcome, IsWrittenOutcome, IsLexiconOutcome, IsStemsOutcome, IsTablesOutcome, IsBuildOutcome}
use Rattle.run_definitions.specs.BuildOutcomes as build
use Rattle.run_definitions.specs.ReadOutcomes.{end_with, IsToldWhereServed, IsReadOutcomeWith, IsReadOutcome}
use Rattle.run_definitions.specs.BatchOutcomes as batch
use Rattle.run_definitions.specs.BatchOutcomes.{IsLineReply, numbered_reply, AreNumberedReplies, IsAnyText, no_text_fault, TextTells, IsRepliesOutcome, IsTextOutcome, IsBatchOutcomeWith, IsBatchOutcome}
use Rattle.conversion_definitions.specs.AnySchemes.{AnyScheme}
use Rattle.conversion_definitions.specs.Conversions.{converted_text}
use Rattle.run_definitions.specs.ConvertOutcomes.{with_count, IsConversion, printed_lines, IsConvertedOutcome, IsConvertOutcome}
use Rattle.segmentation_definitions.specs.Derivations.{Step}
use Rattle.chain_definitions.specs.ChainFaults.{Fault}
use Rattle.chain_definitions.specs.ChainReadings.{IsChainRead}
use Rattle.chain_definitions.proofs.ReadChains.{chain_if_read}
use Rattle.run_definitions.specs.JoinOutcomes as join
use Rattle.run_definitions.specs.JoinOutcomes.{printed_joined, IsChainOutcome, IsJoinOutcomeWith, IsJoinOutcome}
use Rattle.text_definitions.specs.Schemes.{Slp1}
use Rattle.run_definitions.specs.SplitOutcomes as split
use Rattle.run_definitions.specs.SplitOutcomes.{IsSplitTextOutcome, IsSplitOutcomeWith, IsSplitOutcome}
use Rattle.note_definitions.specs.NoteReadings.{IsNoteRead}
use Rattle.run_definitions.specs.AnnotateOutcomes.{IsAnnotateOutcomeWith, IsAnnotateOutcome}
use Rattle.run_definitions.specs.RereadOutcomes.{IsRereadNoteOutcome, IsNoteFileOutcome, IsRereadOutcomeWith, IsRereadOutcome}
use Rattle.run_definitions.specs.MigrateOutcomes as migrate
use Rattle.run_definitions.specs.MigrateOutcomes.{text_fault, migrated_outcome, IsMigratedOutcome, IsMigrateOutcomeWith, IsMigrateOutcome}
use Rattle.run_definitions.specs.DemoOutcomes.{DemoCounts, IsDemoLexicon, printed_demo, IsDemoOutcome}
use Rattle.run_definitions.specs.Outcomes.{IsOutcomeOf, IsOutcome, IsSoFar, OfNoCommand, OfCommand, OfNone, OfOne}
use Rattle.run_definitions.proofs.SoFar.{all_is_so_far}
use Rattle.existence_laws.proofs.Decisions.{is_below}
use Rattle.existence_laws.proofs.ListingsThere.{page_there}
use Rattle.existence_laws.proofs.SessionsThere.{session_there}
use Rattle.existence_laws.proofs.FilesThere.{rules_read_there, lexicon_told_there, source_told_there}
use Rattle.existence_laws.proofs.OverlapsThere.{overlaps_there}
use Rattle.existence_laws.proofs.LexiconsThere.{lexicon_there}
use Rattle.existence_laws.proofs.ChainsThere.{chain_read_there, joined_there}
use Rattle.existence_laws.proofs.CommandsThere.{command_there}
use Rattle.existence_laws.proofs.NewestTextsThere.{newest_of_text, lexicon_of_text, newest_of_sources}
use Rattle.existence_laws.proofs.NotesThere.{mark_there, note_read_there}

-- what a file holds is a lexicon that has a text of some version
held_has_text : (files : Files) (name : List ℕ) (tells : FileTells) (lexicon : Lexicon) → DoesTell files name tells → tells ≡ lexicons.Holds lexicon
    → (version : Option Version) × HasTextIn version lexicon
held_has_text files name tells lexicon (lexicons.IsMissing p e) h = let f = sym e ∙ h in absurd (cc)
held_has_text files name tells lexicon (lexicons.IsLarge bytes p l e) h = let f = sym e ∙ h in absurd (cc)
held_has_text files name tells lexicon (lexicons.IsFaulty bytes p l fault r e) h = let f = sym e ∙ h in absurd (cc)
held_has_text files name tells lexicon (lexicons.IsLexicon bytes p l other r e) h =
    let f : lexicons.Holds other ≡ lexicons.Holds lexicon = sym e ∙ h in
    let same : other ≡ lexicon = cc in
    (version_of bytes, subst (HasTextIn (version_of bytes)) same (read_lexicon bytes other r))

held_is_lexicon : (files : Files) (name : List ℕ) (tells : FileTells) (lexicon : Lexicon) → DoesTell files name tells → tells ≡ lexicons.Holds lexicon
    → IsLexicon lexicon
held_is_lexicon files name tells lexicon told h =
    let has = held_has_text files name tells lexicon told h in (lexicon_of_text has.0 lexicon has.1).0

-- ---- segment

listed_there : (lexicon : Lexicon) → IsLexicon lexicon → (scheme : Scheme) (text : List ℕ) (files : Files) (read : Result Line LineFault)
    → line_of_text scheme text ≡ read → (outcome : Outcome) × IsListedOutcome lexicon scheme text files outcome
listed_there lexicon is scheme text files (Err fault) e = (outcome_over files (text_refusal fault) (BadText fault), OfText fault e refl)
listed_there lexicon is scheme text files (Ok line) e =
    let page = page_there lexicon line [] is BeforeFirst SEGMENT_PAGE in (
      outcome_over files (printed_page lexicon.rules 1 page.0 page.1) Done,
      OfPage line e (record { answers = page.0; more = page.1; page = page.2; is = refl }),
    )

segment_with : (tells : FileTells) → ((lexicon : Lexicon) → tells ≡ lexicons.Holds lexicon → IsLexicon lexicon) → (lex : FileWord) (scheme : Scheme)
    (text : List ℕ) (files : Files) → (outcome : Outcome) × IsOutcomeWith tells lex scheme text files outcome
segment_with lexicons.NotThere is lex scheme text files = (outcome_over files [] ReadFault, refl)
segment_with (lexicons.Refused fault) is lex scheme text files = (outcome_over files (file_refusal lex.name fault) (BadFile lex.place fault), refl)
segment_with (lexicons.Holds lexicon) is lex scheme text files =
    listed_there lexicon (is lexicon refl) scheme text files (line_of_text scheme text) refl

pub segment_there : (lex : FileWord) (scheme : Scheme) (text : List ℕ) (files : Files) → (outcome : Outcome) × IsSegmentOutcome lex scheme text files outcome
segment_there lex scheme text files =
    let told = lexicon_told_there files lex.name in
    let outcome = segment_with told.0 (λ lexicon e. held_is_lexicon files lex.name told.0 lexicon told.1 e) lex scheme text files in
    (outcome.0, record { tells = told.0; does_tell = told.1; is_outcome = outcome.1 })

-- ---- check

check_with : (tells : FileTells) (lex : FileWord) (files : Files) → (outcome : Outcome) × IsCheckOutcomeWith tells lex files outcome
check_with lexicons.NotThere lex files = (outcome_over files [] ReadFault, refl)
check_with (lexicons.Refused fault) lex files = (outcome_over files (file_refusal lex.name fault) (BadFile lex.place fault), refl)
check_with (lexicons.Holds lexicon) lex files =
    let first = overlaps_there lexicon CHECK_OVERLAPS in
    (outcome_over files (printed_check lexicon first.0 first.1) Done, record { overlaps = first.0; more = first.1; first = first.2; is = refl })

pub check_there : (lex : FileWord) (files : Files) → (outcome : Outcome) × IsCheckOutcome lex files outcome
check_there lex files =
    let told = lexicon_told_there files lex.name in
    let outcome = check_with told.0 lex files in
    (outcome.0, record { tells = told.0; does_tell = told.1; is_outcome = outcome.1 })

-- ---- build

-- by what a source tells, which may be told together with how its bytes were read
after_there : {A : Type 0} (tells : SourceTells A) (word : FileWord) (files : Files) (following : A → Outcome → Type 0)
    → ((held : A) → tells ≡ sources.Holds held → (outcome : Outcome) × following held outcome)
    → (outcome : Outcome) × IsOutcomeAfter tells word files outcome (λ held. following held outcome)
after_there sources.Missing word files following there = (outcome_over files [] ReadFault, refl)
after_there (sources.Refused fault) word files following there = (outcome_over files (file_refusal word.name fault) (BadFile word.place fault), refl)
after_there (sources.Holds held) word files following there = there held refl

-- what a source holds was read of some bytes
module _ {A Fault : Type 0} (is_read : List ℕ → Result A Fault → Type 0) (named : Fault → AnyFault) where
  held_was_read : (files : Files) (name : List ℕ) (tells : SourceTells A) (held : A) → DoesTellSource is_read named files name tells
      → tells ≡ sources.Holds held → (bytes : List ℕ) × is_read bytes (Ok held)
  held_was_read files name tells held (sources.IsMissing p e) h = let f = sym e ∙ h in absurd (cc)
  held_was_read files name tells held (sources.IsLarge bytes p l e) h = let f = sym e ∙ h in absurd (cc)
  held_was_read files name tells held (sources.IsFaulty bytes p l fault r e) h = let f = sym e ∙ h in absurd (cc)
  held_was_read files name tells held (sources.IsSound bytes p l other r e) h =
      let f : sources.Holds other ≡ sources.Holds held = sym e ∙ h in
      let same : other ≡ held = cc in
      (bytes, subst (λ (x : A). is_read bytes (Ok x)) same r)

written_there : (lexicon : Lexicon) → (count_lines lexicon.phases ≤ MOST_FORM_LINES → (bytes : List ℕ) × IsNewestText lexicon bytes)
    → (stems out : FileWord) (files : Files) → (outcome : Outcome) × IsWrittenOutcome lexicon stems out files outcome
written_there lexicon there stems out files =
    elim (is_below MOST_FORM_LINES (count_lines lexicon.phases)) [
      | inl many ↦ too_large (inl many)
      | inr few ↦ let newest = there (omega (arith, few)) in elim (is_below MOST_FILE_BYTES (length newest.0)) [
        | inl long ↦ too_large (inr (newest.0, newest.1, long))
        | inr short ↦ (built_outcome lexicon newest.0 out files, build.OfText newest.0 newest.1 (omega (arith, short)) refl)
      ]
    ]
  where
    too_large : IsOversized lexicon → (outcome : Outcome) × IsWrittenOutcome lexicon stems out files outcome
    too_large h = (outcome_over files (file_refusal stems.name lexicon_fault) (BadFile stems.place lexicon_fault), build.OfLimit h refl)

pub build_there : (rules tables stems out : FileWord) (files : Files) → (outcome : Outcome) × IsBuildOutcome rules tables stems out files outcome
build_there rules tables stems out files =
    let told = source_told_there IsReadAs Rules rules_read_there files rules.name in
    let outcome = after_there told.0 rules files (λ set o. IsTablesOutcome set tables stems out files o) (λ set e.
    let read = held_was_read IsReadAs Rules files rules.name told.0 set told.1 e in with_rules set read.0 read.1) in
    (outcome.0, record { tells = told.0; do_tell = told.1; is_outcome = outcome.1 })
  where
    with_stems : (set : RuleSet) (classes : List Class) (held : List Stem) (rule_bytes table_bytes stem_bytes : List ℕ) → IsReadAs rule_bytes (Ok set)
        → tables_of set.names table_bytes ≡ Ok classes → stems_of classes stem_bytes ≡ Ok held
        → (outcome : Outcome) × IsLexiconOutcome set classes held stems out files outcome
    with_stems set classes held rule_bytes table_bytes stem_bytes r t s =
        let lexicon = lexicon_there rule_bytes table_bytes stem_bytes set classes held r t s in
        let written = written_there lexicon.0
        (newest_of_sources rule_bytes table_bytes stem_bytes set classes held lexicon.0 r t s lexicon.1) stems out files in
        (written.0, record { lexicon = lexicon.0; is_of = lexicon.1; is_outcome = written.1 })

    with_tables : (set : RuleSet) (classes : List Class) (rule_bytes table_bytes : List ℕ) → IsReadAs rule_bytes (Ok set)
        → tables_of set.names table_bytes ≡ Ok classes → (outcome : Outcome) × IsStemsOutcome set classes stems out files outcome
    with_tables set classes rule_bytes table_bytes r t =
        let told = source_told_there (AreStems classes) Stems (λ bytes. (stems_of classes bytes, refl)) files stems.name in
        let outcome = after_there told.0 stems files (λ held o. IsLexiconOutcome set classes held stems out files o) (λ held e.
        let read = held_was_read (AreStems classes) Stems files stems.name told.0 held told.1 e in
        with_stems set classes held rule_bytes table_bytes read.0 r t read.1) in
        (outcome.0, record { tells = told.0; do_tell = told.1; is_outcome = outcome.1 })

    with_rules : (set : RuleSet) (rule_bytes : List ℕ) → IsReadAs rule_bytes (Ok set) → (outcome : Outcome) × IsTablesOutcome set tables stems out files outcome
    with_rules set rule_bytes r =
        let told = source_told_there (AreTables set.names) Tables (λ bytes. (tables_of set.names bytes, refl)) files tables.name in
        let outcome = after_there told.0 tables files (λ classes o. IsStemsOutcome set classes stems out files o) (λ classes e.
        let read = held_was_read (AreTables set.names) Tables files tables.name told.0 classes told.1 e in
        with_tables set classes rule_bytes read.0 r read.1) in
        (outcome.0, record { tells = told.0; do_tell = told.1; is_outcome = outcome.1 })

-- ---- read

-- the input is told where the file holds a lexicon
abbrev IsToldFor : FileTells → Option (List ℕ) → Type 0
IsToldFor tells input = (lexicon : Lexicon) → tells ≡ lexicons.Holds lexicon → (bytes : List ℕ) × (input ≡ Some bytes)

read_with : (tells : FileTells) → ((lexicon : Lexicon) → tells ≡ lexicons.Holds lexicon → IsLexicon lexicon) → (lex : FileWord) (files : Files)
    (input : Option (List ℕ)) → IsToldFor tells input → (outcome : Outcome) × IsReadOutcomeWith tells lex files input outcome
read_with lexicons.NotThere is lex files input told = (outcome_over files [] ReadFault, refl)
read_with (lexicons.Refused fault) is lex files input told = (outcome_over files (file_refusal lex.name fault) (BadFile lex.place fault), refl)
read_with (lexicons.Holds lexicon) is lex files input told =
    let bytes = told lexicon refl in
    let session = session_there lexicon (is lexicon refl) bytes.0 in (
      outcome_over files session.0 (end_with session.1),
      record { told = bytes.0; is_told = bytes.1; output = session.0; end = session.1; session = session.2; is = refl },
    )

pub read_there : (lex : FileWord) (files : Files) (input : Option (List ℕ))
    → ((lexicon : Lexicon) → DoesTell files lex.name (lexicons.Holds lexicon) → (bytes : List ℕ) × (input ≡ Some bytes))
    → (outcome : Outcome) × IsReadOutcome lex files input outcome
read_there lex files input is_told =
    let told = lexicon_told_there files lex.name in
    let outcome = read_with told.0 (λ lexicon e. held_is_lexicon files lex.name told.0 lexicon told.1 e) lex files input
    (λ lexicon e. is_told lexicon (subst (DoesTell files lex.name) e told.1)) in
    (outcome.0, record { tells = told.0; does_tell = told.1; is_outcome = outcome.1 })

-- ---- batch

module _ (lexicon : Lexicon) (is : IsLexicon lexicon) (scheme : Scheme) (count : ℕ) where
  line_reply : (text : List ℕ) (read : Result Line LineFault) → line_of_text scheme text ≡ read
      → (reply : List ℕ) × IsLineReply lexicon scheme count text reply
  line_reply text (Err fault) e = (output_line (codes "? " ++ why_no_line fault), batch.OfFault fault e refl)
  line_reply text (Ok line) e =
      let page = page_there lexicon line [] is BeforeFirst count in
      (printed_page lexicon.rules 1 page.0 page.1, batch.OfPage line page.0 page.1 e page.2 refl)

  numbered_there : (lines : List file.Line) (number : ℕ) → (output : List ℕ) × AreNumberedReplies lexicon scheme count number lines output
  numbered_there [] number = ([], refl)
  numbered_there (line ∷ lines) number =
      let reply = line_reply line.bytes (line_of_text scheme line.bytes) refl in
      let rest = numbered_there lines (number + 1) in
      (numbered_reply number reply.0 ++ rest.0, (reply.0, rest.0, reply.1, refl, rest.1))

  text_there : (word : FileWord) (files : Files) → (outcome : Outcome) × IsTextOutcome lexicon scheme word count files outcome
  text_there word files =
      let told = source_told_there IsAnyText no_text_fault (λ bytes. (Ok bytes, refl)) files word.name in
      let outcome = after_there told.0 word files (λ bytes o. IsRepliesOutcome lexicon scheme count bytes files o) (λ bytes e.
      let replies = numbered_there (lines_of_bytes bytes) 1 in
      (outcome_over files replies.0 Done, record { output = replies.0; replies = replies.1; is = refl })) in
      (outcome.0, record { tells = told.0; do_tell = told.1; is_outcome = outcome.1 })

batch_with : (tells : FileTells) → ((lexicon : Lexicon) → tells ≡ lexicons.Holds lexicon → IsLexicon lexicon) → (lex : FileWord) (scheme : Scheme)
    (word : FileWord) (count : ℕ) (files : Files) → (outcome : Outcome) × IsBatchOutcomeWith tells lex scheme word count files outcome
batch_with lexicons.NotThere is lex scheme word count files = (outcome_over files [] ReadFault, refl)
batch_with (lexicons.Refused fault) is lex scheme word count files = (outcome_over files (file_refusal lex.name fault) (BadFile lex.place fault), refl)
batch_with (lexicons.Holds lexicon) is lex scheme word count files = text_there lexicon (is lexicon refl) scheme count word files

pub batch_there : (lex : FileWord) (scheme : Scheme) (word : FileWord) (count : ℕ) (files : Files)
    → (outcome : Outcome) × IsBatchOutcome lex scheme word count files outcome
batch_there lex scheme word count files =
    let told = lexicon_told_there files lex.name in
    let outcome = batch_with told.0 (λ lexicon e. held_is_lexicon files lex.name told.0 lexicon told.1 e) lex scheme word count files in
    (outcome.0, record { tells = told.0; does_tell = told.1; is_outcome = outcome.1 })

-- ---- demo

demo_lexicon_there : (number : ℕ) → (lexicon : Lexicon) × IsDemoLexicon number (stems_spelled number) lexicon
demo_lexicon_there number =
    let lexicon = lexicon_there demo_rules demo_tables (demo_stems number) demo_rule_set demo_classes (stems_spelled number) rule_set_read tables_read (stems_read number) in (
      lexicon.0,
      record {
        rules = demo_rule_set;
        rules_read = rule_set_read;
        classes = demo_classes;
        tables_read = tables_read;
        stems_read = stems_read number;
        is_of = lexicon.1;
      },
    )

pub demo_there : (number : ℕ) (files : Files) → (outcome : Outcome) × IsDemoOutcome number files outcome
demo_there number files =
    let lexicon = demo_lexicon_there number in
    let page = page_there lexicon.0 (line_spelled number) [] lexicon.1.is_of.lexicon_itself BeforeFirst DEMO_PAGE in
    let counts : DemoCounts = record {
      stems = length (stems_spelled number);
      forms = count_lines lexicon.0.phases;
      letters = length (line_spelled number).letters;
      answers = length page.0;
      more = page.1;
    } in (
      outcome_over files (printed_demo counts) Done,
      record {
        counts = counts;
        are_counts = record {
          stems = stems_spelled number;
          lexicon = lexicon.0;
          is_lexicon = lexicon.1;
          line = line_spelled number;
          text_read = line_read number;
          answers = page.0;
          more = page.1;
          page = page.2;
          are = refl;
        };
        is = refl;
      },
    )

-- ---- convert

pub convert_there : (from to : AnyScheme) (text out : FileWord) (files : Files) → (outcome : Outcome) × IsConvertOutcome from to text out files outcome
convert_there from to text out files =
    let told = source_told_there (IsConversion from to) Spelling
    (λ bytes. (with_count (length (lines_of_bytes bytes)) (converted_text from to bytes), refl)) files text.name in
    let outcome = after_there told.0 text files (λ conversion o. IsConvertedOutcome conversion out files o) (λ conversion e.
    (record { output = printed_lines conversion.lines; files = with_file files out.name conversion.bytes; end = Done }, refl)) in
    (outcome.0, record { tells = told.0; do_tell = told.1; is_outcome = outcome.1 })

-- ---- join

chain_there : (lexicon : Lexicon) (chain : List ℕ) (files : Files) (read : Result (List Step) Fault) → IsChainRead lexicon chain read
    → (outcome : Outcome) × IsChainOutcome lexicon chain files outcome
chain_there lexicon chain files (Err fault) r = (outcome_over files (chain_refusal fault) (BadChain fault), join.OfFault fault r refl)
chain_there lexicon chain files (Ok steps) r =
    let joined = joined_there lexicon steps (chain_if_read lexicon chain steps r).chain in (
      outcome_over files (printed_joined lexicon.rules joined.0) Done,
      join.OfSteps steps r (record { joined = joined.0; is_joined = joined.1; is = refl }),
    )

join_with : (tells : FileTells) (lex : FileWord) (chain : List ℕ) (files : Files) → (outcome : Outcome) × IsJoinOutcomeWith tells lex chain files outcome
join_with lexicons.NotThere lex chain files = (outcome_over files [] ReadFault, refl)
join_with (lexicons.Refused fault) lex chain files = (outcome_over files (file_refusal lex.name fault) (BadFile lex.place fault), refl)
join_with (lexicons.Holds lexicon) lex chain files =
    let read = chain_read_there lexicon chain in chain_there lexicon chain files read.0 read.1

pub join_there : (lex : FileWord) (chain : List ℕ) (files : Files) → (outcome : Outcome) × IsJoinOutcome lex chain files outcome
join_there lex chain files =
    let told = lexicon_told_there files lex.name in
    let outcome = join_with told.0 lex chain files in
    (outcome.0, record { tells = told.0; does_tell = told.1; is_outcome = outcome.1 })

-- ---- split

split_text : (lexicon : Lexicon) → IsLexicon lexicon → (text : List ℕ) (count : ℕ) (files : Files) (read : Result Line LineFault)
    → line_of_text Slp1 text ≡ read → (outcome : Outcome) × IsSplitTextOutcome lexicon text count files outcome
split_text lexicon is text count files (Err fault) e = (outcome_over files (text_refusal fault) (BadText fault), split.OfText fault e refl)
split_text lexicon is text count files (Ok line) e =
    let page = page_there lexicon line [] is BeforeFirst count in (
      outcome_over files (printed_page lexicon.rules 1 page.0 page.1) Done,
      split.OfPage line e (record { answers = page.0; more = page.1; page = page.2; is = refl }),
    )

split_with : (tells : FileTells) → ((lexicon : Lexicon) → tells ≡ lexicons.Holds lexicon → IsLexicon lexicon) → (lex : FileWord)
    (text : List ℕ) (count : ℕ) (files : Files) → (outcome : Outcome) × IsSplitOutcomeWith tells lex text count files outcome
split_with lexicons.NotThere is lex text count files = (outcome_over files [] ReadFault, refl)
split_with (lexicons.Refused fault) is lex text count files = (outcome_over files (file_refusal lex.name fault) (BadFile lex.place fault), refl)
split_with (lexicons.Holds lexicon) is lex text count files =
    split_text lexicon (is lexicon refl) text count files (line_of_text Slp1 text) refl

pub split_there : (lex : FileWord) (text : List ℕ) (count : ℕ) (files : Files) → (outcome : Outcome) × IsSplitOutcome lex text count files outcome
split_there lex text count files =
    let told = lexicon_told_there files lex.name in
    let outcome = split_with told.0 (λ lexicon e. held_is_lexicon files lex.name told.0 lexicon told.1 e) lex text count files in
    (outcome.0, record { tells = told.0; does_tell = told.1; is_outcome = outcome.1 })

-- ---- annotate

annotate_with : (tells : FileTells) → ((lexicon : Lexicon) → tells ≡ lexicons.Holds lexicon → IsLexicon lexicon) → (lex : FileWord)
    (mark : List ℕ) (out : FileWord) (files : Files) → (outcome : Outcome) × IsAnnotateOutcomeWith tells lex mark out files outcome
annotate_with lexicons.NotThere is lex mark out files = (outcome_over files [] ReadFault, refl)
annotate_with (lexicons.Refused fault) is lex mark out files = (outcome_over files (file_refusal lex.name fault) (BadFile lex.place fault), refl)
annotate_with (lexicons.Holds lexicon) is lex mark out files = mark_there lexicon (is lexicon refl) mark out files

pub annotate_there : (lex : FileWord) (mark : List ℕ) (out : FileWord) (files : Files)
    → (outcome : Outcome) × IsAnnotateOutcome lex mark out files outcome
annotate_there lex mark out files =
    let told = lexicon_told_there files lex.name in
    let outcome = annotate_with told.0 (λ lexicon e. held_is_lexicon files lex.name told.0 lexicon told.1 e) lex mark out files in
    (outcome.0, record { tells = told.0; does_tell = told.1; is_outcome = outcome.1 })

-- ---- reread

note_file_there : (lexicon : Lexicon) → IsLexicon lexicon → (word : FileWord) (files : Files)
    → (outcome : Outcome) × IsNoteFileOutcome lexicon word files outcome
note_file_there lexicon is word files =
    let told = source_told_there (IsNoteRead lexicon) Note (note_read_there lexicon is) files word.name in
    let outcome = after_there told.0 word files (λ note o. IsRereadNoteOutcome lexicon note files o) (λ note e.
    (outcome_over files (printed_page lexicon.rules 1 (note.steps ∷ []) false) Done, refl)) in
    (outcome.0, record { tells = told.0; do_tell = told.1; is_outcome = outcome.1 })

reread_with : (tells : FileTells) → ((lexicon : Lexicon) → tells ≡ lexicons.Holds lexicon → IsLexicon lexicon) → (lex word : FileWord)
    (files : Files) → (outcome : Outcome) × IsRereadOutcomeWith tells lex word files outcome
reread_with lexicons.NotThere is lex word files = (outcome_over files [] ReadFault, refl)
reread_with (lexicons.Refused fault) is lex word files = (outcome_over files (file_refusal lex.name fault) (BadFile lex.place fault), refl)
reread_with (lexicons.Holds lexicon) is lex word files = note_file_there lexicon (is lexicon refl) word files

pub reread_there : (lex word : FileWord) (files : Files) → (outcome : Outcome) × IsRereadOutcome lex word files outcome
reread_there lex word files =
    let told = lexicon_told_there files lex.name in
    let outcome = reread_with told.0 (λ lexicon e. held_is_lexicon files lex.name told.0 lexicon told.1 e) lex word files in
    (outcome.0, record { tells = told.0; does_tell = told.1; is_outcome = outcome.1 })

-- ---- migrate

migrated_there : (lexicon : Lexicon) → (bytes : List ℕ) × IsNewestText lexicon bytes → (lex out : FileWord) (files : Files)
    → (outcome : Outcome) × IsMigratedOutcome lexicon lex out files outcome
migrated_there lexicon (bytes, (version, text)) lex out files =
    elim (is_below MOST_FILE_BYTES (length bytes)) [
      | inl long ↦ (
        outcome_over files (file_refusal lex.name text_fault) (BadFile lex.place text_fault),
        migrate.OfLimit (bytes, (version, text), long) refl,
      )
      | inr short ↦ (
        migrated_outcome (length text.trie.rows) bytes out files,
        migrate.OfText version bytes text (omega (arith, short)) refl,
      )
    ]

migrate_with : (tells : FileTells) → ((lexicon : Lexicon) → tells ≡ lexicons.Holds lexicon → (version : Option Version) × HasTextIn version lexicon)
    → (lex out : FileWord) (files : Files) → (outcome : Outcome) × IsMigrateOutcomeWith tells lex out files outcome
migrate_with lexicons.NotThere has lex out files = (outcome_over files [] ReadFault, refl)
migrate_with (lexicons.Refused fault) has lex out files = (outcome_over files (file_refusal lex.name fault) (BadFile lex.place fault), refl)
migrate_with (lexicons.Holds lexicon) has lex out files =
    let text = has lexicon refl in migrated_there lexicon (newest_of_text text.0 lexicon text.1) lex out files

pub migrate_there : (lex out : FileWord) (files : Files) → (outcome : Outcome) × IsMigrateOutcome lex out files outcome
migrate_there lex out files =
    let told = lexicon_told_there files lex.name in
    let outcome = migrate_with told.0 (λ lexicon e. held_has_text files lex.name told.0 lexicon told.1 e) lex out files in
    (outcome.0, record { tells = told.0; does_tell = told.1; is_outcome = outcome.1 })

-- ---- a run

of_command : (words : List (List ℕ)) (files : Files) (input : Option (List ℕ)) → IsToldWhereServed words files input
    → (command : Command) → AreWordsOf command words → (outcome : Outcome) × IsOutcomeOf command files input outcome
of_command words files input told (Segment lex scheme text) are = segment_there lex scheme text files
of_command words files input told (Check lex) are = check_there lex files
of_command words files input told (Build rules tables stems out) are = build_there rules tables stems out files
of_command words files input told (Read lex) are = read_there lex files input (λ lexicon holds. told lex lexicon are holds)
of_command words files input told (Batch lex scheme word count) are = batch_there lex scheme word count files
of_command words files input told (Demo number) are = demo_there number files
of_command words files input told (Convert from to text out) are = convert_there from to text out files
of_command words files input told (Join lex chain) are = join_there lex chain files
of_command words files input told (Split lex text count depth) are = split_there lex text count files
of_command words files input told (Annotate lex mark out) are = annotate_there lex mark out files
of_command words files input told (Reread lex word) are = reread_there lex word files
of_command words files input told (Migrate lex out) are = migrate_there lex out files

pub outcome_there : (words : List (List ℕ)) (files : Files) (input : Option (List ℕ)) → IsToldWhereServed words files input
    → (outcome : Outcome) × IsOutcome words files input outcome
outcome_there words files input told = elim (command_there words) [
  | inl c ↦ let outcome = of_command words files input told c.0 c.1 in (outcome.0, OfCommand c.0 c.1 outcome.1)
  | inr none ↦ (usage_outcome files, OfNoCommand (λ command are. none (command, are)) refl)
]

-- all of its output is what it may have come to write
pub so_far_there : (words : List (List ℕ)) (files : Files) (input : Option (List ℕ)) → IsToldWhereServed words files input
    → (output : List ℕ) × IsSoFar words files input output
so_far_there words files input told = elim (command_there words) [
  | inl c ↦
      let outcome = of_command words files input told c.0 c.1 in
      (outcome.0.output, OfOne c.0 c.1 (all_is_so_far c.0 files input outcome.0 outcome.1))
  | inr none ↦ ((usage_outcome files).output, OfNone (λ command are. none (command, are)) refl)
]
