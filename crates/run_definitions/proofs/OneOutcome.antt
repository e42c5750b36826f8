-- Two outcomes of one run are of one command; its file tells one thing, its text has one line, and this has one page.
use Rattle.std.proofs.Common.{◌≡◌, ℕ, ◌<◌, ◌≤◌, List, [], length, Option, Some, Ok, Err, sym, ◌∙◌, ap, subst, arith}
use Rattle.outside.specs.Files.{Files, contents_of}
use Rattle.text_definitions.specs.Lines.{Line}
use Rattle.text_definitions.specs.Schemes.{Scheme}
use Rattle.text_definitions.specs.LineTexts.{LineFault}
use Rattle.lexicon_definitions.specs.Lexicons.{Lexicon}
use Rattle.trie_text_definitions.specs.VersionFaults.{FileResult}
use Rattle.trie_text_definitions.specs.VersionReadings.{IsReadAs}
use Rattle.segmentation_definitions.specs.Listings.{BeforeFirst}
use Rattle.segmentation_definitions.specs.PrintedAnswers.{printed_page}
use Rattle.segmentation_definitions.proofs.Listings.{same_page}
use Rattle.session_definitions.specs.Sessions.{IsSession}
use Rattle.session_definitions.proofs.OneSession.{one_session}
use Rattle.run_definitions.specs.declared.limits.TheConstants.{CHECK_OVERLAPS, SEGMENT_PAGE}
use Rattle.run_definitions.specs.Commands.{Command, Segment, Check, Build, Read, Batch, Demo, Convert, Join, Split, Annotate, Reread, Migrate, FileWord}
use Rattle.run_definitions.specs.Ends as ends
use Rattle.run_definitions.specs.Ends.{Outcome, Done, Large, outcome_over}
use Rattle.run_definitions.specs.Refusals.{text_refusal}
use Rattle.run_definitions.specs.LexiconTells.{FileTells, NotThere, Refused, Holds, DoesTell, IsMissing, IsLarge, IsFaulty, IsLexicon}
use Rattle.run_definitions.specs.SegmentOutcomes.{IsPageOutcome, IsListedOutcome, OfText, OfPage, IsOutcomeWith, IsSegmentOutcome}
use Rattle.run_definitions.specs.Overlaps.{printed_check}
use Rattle.run_definitions.specs.CheckOutcomes.{IsCheckOutcomeWith, IsCheckOutcome}
use Rattle.run_definitions.specs.ReadOutcomes.{end_with, IsSessionOutcome, IsReadOutcomeWith, IsReadOutcome}
use Rattle.run_definitions.specs.BatchOutcomes.{IsBatchOutcomeWith, IsBatchOutcome}
use Rattle.run_definitions.proofs.OneBatchOutcome.{one_text_outcome}
use Rattle.run_definitions.proofs.OneDemoOutcome.{one_demo_outcome}
use Rattle.run_definitions.proofs.OneConvertOutcome.{one_convert_outcome}
use Rattle.run_definitions.specs.JoinOutcomes.{IsJoinOutcomeWith, IsJoinOutcome}
use Rattle.run_definitions.proofs.OneJoinOutcome.{one_chain_outcome}
use Rattle.run_definitions.specs.SplitOutcomes.{IsSplitOutcomeWith, IsSplitOutcome}
use Rattle.run_definitions.proofs.OneSplitOutcome.{one_split_text}
use Rattle.run_definitions.specs.AnnotateOutcomes.{IsAnnotateOutcomeWith, IsAnnotateOutcome}
use Rattle.run_definitions.proofs.OneAnnotateOutcome.{one_mark_outcome}
use Rattle.run_definitions.specs.RereadOutcomes.{IsRereadOutcomeWith, IsRereadOutcome}
use Rattle.run_definitions.proofs.OneRereadOutcome.{one_note_file_outcome}
use Rattle.run_definitions.specs.MigrateOutcomes.{IsMigrateOutcomeWith, IsMigrateOutcome}
use Rattle.run_definitions.proofs.OneMigrateOutcome.{one_migrated}
use Rattle.run_definitions.proofs.OneBuildOutcome.{one_build_outcome}
use Rattle.run_definitions.proofs.OneCommand.{one_command}
use Rattle.run_definitions.proofs.OneContent.{same_bytes, not_missing}
use Rattle.run_definitions.proofs.OneOverlapList.{one_list}
use Rattle.run_definitions.specs.Outcomes.{IsOutcome, IsOutcomeOf, OfNoCommand, OfCommand}

-- where bytes are read in one way, a file tells one thing
module _ (one : (bytes : List ℕ) (left right : FileResult) → IsReadAs bytes left → IsReadAs bytes right → left ≡ right) where
  -- and the same of one file, whose content is given twice
  one_reading : (files : Files) (name bytes more : List ℕ) (left right : FileResult) → contents_of files name ≡ Some bytes
      → contents_of files name ≡ Some more → IsReadAs bytes left → IsReadAs more right → left ≡ right
  one_reading files name bytes more left right p q r s =
      one more left right (subst (λ b. IsReadAs b left) (same_bytes files name bytes more p q) r) s

  -- a file is not too large and within the limit
  not_large : (files : Files) (name bytes more : List ℕ) (limit : ℕ) → contents_of files name ≡ Some bytes
      → contents_of files name ≡ Some more → limit < length bytes → length more ≤ limit → ⊥
  not_large files name bytes more limit p q large small =
      let same = ap length (same_bytes files name bytes more p q) in omega arith

  pub one_telling : (files : Files) (name : List ℕ) (left right : FileTells) → DoesTell files name left → DoesTell files name right → left ≡ right
  one_telling files name left right (IsMissing p e) (IsMissing q f) = e ∙ sym f
  one_telling files name left right (IsMissing p e) (IsLarge more q l f) = absurd (not_missing files name more p q)
  one_telling files name left right (IsMissing p e) (IsFaulty more q l fault r f) = absurd (not_missing files name more p q)
  one_telling files name left right (IsMissing p e) (IsLexicon more q l lexicon r f) = absurd (not_missing files name more p q)
  one_telling files name left right (IsLarge bytes p l e) (IsMissing q f) = absurd (not_missing files name bytes q p)
  one_telling files name left right (IsLarge bytes p l e) (IsLarge more q m f) = e ∙ sym f
  one_telling files name left right (IsLarge bytes p l e) (IsFaulty more q m fault r f) = absurd (not_large files name bytes more _ p q l m)
  one_telling files name left right (IsLarge bytes p l e) (IsLexicon more q m lexicon r f) = absurd (not_large files name bytes more _ p q l m)
  one_telling files name left right (IsFaulty bytes p l fault r e) (IsMissing q f) = absurd (not_missing files name bytes q p)
  one_telling files name left right (IsFaulty bytes p l fault r e) (IsLarge more q m f) = absurd (not_large files name more bytes _ q p m l)
  one_telling files name left right (IsFaulty bytes p l fault r e) (IsFaulty more q m other s f) =
      let same : Err fault ≡ Err other = one_reading files name bytes more (Err fault) (Err other) p q r s in
      let same_fault : fault ≡ other = cc in
      e ∙ ap (λ x. Refused (ends.Lexicon x)) same_fault ∙ sym f
  one_telling files name left right (IsFaulty bytes p l fault r e) (IsLexicon more q m lexicon s f) =
      let same : Err fault ≡ Ok lexicon = one_reading files name bytes more (Err fault) (Ok lexicon) p q r s in absurd (cc)
  one_telling files name left right (IsLexicon bytes p l lexicon r e) (IsMissing q f) = absurd (not_missing files name bytes q p)
  one_telling files name left right (IsLexicon bytes p l lexicon r e) (IsLarge more q m f) = absurd (not_large files name more bytes _ q p m l)
  one_telling files name left right (IsLexicon bytes p l lexicon r e) (IsFaulty more q m other s f) =
      let same : Ok lexicon ≡ Err other = one_reading files name bytes more (Ok lexicon) (Err other) p q r s in absurd (cc)
  one_telling files name left right (IsLexicon bytes p l lexicon r e) (IsLexicon more q m other s f) =
      let same : Ok lexicon ≡ Ok other = one_reading files name bytes more (Ok lexicon) (Ok other) p q r s in
      let same_lexicon : lexicon ≡ other = cc in
      e ∙ ap Holds same_lexicon ∙ sym f

  one_page_outcome : (lexicon : Lexicon) (line : Line) (files : Files) (a b : Outcome) → IsPageOutcome lexicon line files a
      → IsPageOutcome lexicon line files b → a ≡ b
  one_page_outcome lexicon line files a b p q =
      let page = same_page lexicon line [] BeforeFirst SEGMENT_PAGE p.answers q.answers p.more q.more p.page q.page in
      let printed : outcome_over files (printed_page lexicon.rules 1 p.answers p.more) Done
      ≡ outcome_over files (printed_page lexicon.rules 1 q.answers q.more) Done =
      λ i. outcome_over files (printed_page lexicon.rules 1 (page.0 i) (page.1 i)) Done in
      p.is ∙ printed ∙ sym q.is

  one_listed : (lexicon : Lexicon) (scheme : Scheme) (text : List ℕ) (files : Files) (a b : Outcome) → IsListedOutcome lexicon scheme text files a
      → IsListedOutcome lexicon scheme text files b → a ≡ b
  one_listed lexicon scheme text files a b (OfText fault p e) (OfText other q f) =
      let same : Err fault ≡ Err other = sym p ∙ q in
      let same_fault : fault ≡ other = cc in
      e ∙ ap (λ (x : LineFault). outcome_over files (text_refusal x) (ends.BadText x)) same_fault ∙ sym f
  one_listed lexicon scheme text files a b (OfText fault p e) (OfPage line q f) =
      let same : Err fault ≡ Ok line = sym p ∙ q in absurd (cc)
  one_listed lexicon scheme text files a b (OfPage line p e) (OfText fault q f) =
      let same : Ok line ≡ Err fault = sym p ∙ q in absurd (cc)
  one_listed lexicon scheme text files a b (OfPage line p e) (OfPage other q f) =
      let same : Ok line ≡ Ok other = sym p ∙ q in
      let same_line : line ≡ other = cc in
      one_page_outcome lexicon other files a b (subst (λ (l : Line). IsPageOutcome lexicon l files a) same_line e) f

  one_outcome_with : (tells : FileTells) (lex : FileWord) (scheme : Scheme) (text : List ℕ) (files : Files) (a b : Outcome)
      → IsOutcomeWith tells lex scheme text files a → IsOutcomeWith tells lex scheme text files b → a ≡ b
  one_outcome_with NotThere lex scheme text files a b p q = p ∙ sym q
  one_outcome_with (Refused fault) lex scheme text files a b p q = p ∙ sym q
  one_outcome_with (Holds lexicon) lex scheme text files a b p q = one_listed lexicon scheme text files a b p q

  pub one_segment_outcome : (lex : FileWord) (scheme : Scheme) (text : List ℕ) (files : Files) (a b : Outcome) → IsSegmentOutcome lex scheme text files a
      → IsSegmentOutcome lex scheme text files b → a ≡ b
  one_segment_outcome lex scheme text files a b p q =
      let same = one_telling files lex.name p.tells q.tells p.does_tell q.does_tell in
      one_outcome_with q.tells lex scheme text files a b (subst (λ (t : FileTells). IsOutcomeWith t lex scheme text files a) same p.is_outcome) q.is_outcome

  one_check_with : (tells : FileTells) (lex : FileWord) (files : Files) (a b : Outcome) → IsCheckOutcomeWith tells lex files a
      → IsCheckOutcomeWith tells lex files b → a ≡ b
  one_check_with NotThere lex files a b p q = p ∙ sym q
  one_check_with (Refused fault) lex files a b p q = p ∙ sym q
  one_check_with (Holds lexicon) lex files a b p q =
      let same = one_list lexicon CHECK_OVERLAPS p.overlaps q.overlaps p.more q.more p.first q.first in
      let printed : outcome_over files (printed_check lexicon p.overlaps p.more) Done
      ≡ outcome_over files (printed_check lexicon q.overlaps q.more) Done =
      λ i. outcome_over files (printed_check lexicon (same.0 i) (same.1 i)) Done in
      p.is ∙ printed ∙ sym q.is

  pub one_check_outcome : (lex : FileWord) (files : Files) (a b : Outcome) → IsCheckOutcome lex files a → IsCheckOutcome lex files b → a ≡ b
  one_check_outcome lex files a b p q =
      let same = one_telling files lex.name p.tells q.tells p.does_tell q.does_tell in
      one_check_with q.tells lex files a b (subst (λ (t : FileTells). IsCheckOutcomeWith t lex files a) same p.is_outcome) q.is_outcome

  one_session_outcome : (lexicon : Lexicon) (input : Option (List ℕ)) (files : Files) (a b : Outcome) → IsSessionOutcome lexicon input files a
      → IsSessionOutcome lexicon input files b → a ≡ b
  one_session_outcome lexicon input files a b p q =
      let told : Some p.told ≡ Some q.told = sym p.is_told ∙ q.is_told in
      let same_told : p.told ≡ q.told = cc (told) in
      let session : IsSession lexicon q.told p.output p.end = subst (λ t. IsSession lexicon t p.output p.end) same_told p.session in
      let one = one_session lexicon q.told p.output q.output p.end q.end session q.session in
      let printed : outcome_over files p.output (end_with p.end) ≡ outcome_over files q.output (end_with q.end) =
      λ i. outcome_over files (one.0 i) (end_with (one.1 i)) in
      p.is ∙ printed ∙ sym q.is

  one_read_with : (tells : FileTells) (lex : FileWord) (files : Files) (input : Option (List ℕ)) (a b : Outcome) → IsReadOutcomeWith tells lex files input a
      → IsReadOutcomeWith tells lex files input b → a ≡ b
  one_read_with NotThere lex files input a b p q = p ∙ sym q
  one_read_with (Refused fault) lex files input a b p q = p ∙ sym q
  one_read_with (Holds lexicon) lex files input a b p q = one_session_outcome lexicon input files a b p q

  pub one_read_outcome : (lex : FileWord) (files : Files) (input : Option (List ℕ)) (a b : Outcome) → IsReadOutcome lex files input a
      → IsReadOutcome lex files input b → a ≡ b
  one_read_outcome lex files input a b p q =
      let same = one_telling files lex.name p.tells q.tells p.does_tell q.does_tell in
      one_read_with q.tells lex files input a b (subst (λ (t : FileTells). IsReadOutcomeWith t lex files input a) same p.is_outcome) q.is_outcome

  one_batch_with : (tells : FileTells) (lex : FileWord) (scheme : Scheme) (file : FileWord) (count : ℕ) (files : Files) (a b : Outcome)
      → IsBatchOutcomeWith tells lex scheme file count files a → IsBatchOutcomeWith tells lex scheme file count files b → a ≡ b
  one_batch_with NotThere lex scheme file count files a b p q = p ∙ sym q
  one_batch_with (Refused fault) lex scheme file count files a b p q = p ∙ sym q
  one_batch_with (Holds lexicon) lex scheme file count files a b p q = one_text_outcome lexicon scheme file count files a b p q

  pub one_batch_outcome : (lex : FileWord) (scheme : Scheme) (file : FileWord) (count : ℕ) (files : Files) (a b : Outcome)
      → IsBatchOutcome lex scheme file count files a → IsBatchOutcome lex scheme file count files b → a ≡ b
  one_batch_outcome lex scheme file count files a b p q =
      let same = one_telling files lex.name p.tells q.tells p.does_tell q.does_tell in
      one_batch_with q.tells lex scheme file count files a b (subst (λ (t : FileTells). IsBatchOutcomeWith t lex scheme file count files a) same p.is_outcome) q.is_outcome

  one_join_with : (tells : FileTells) (lex : FileWord) (chain : List ℕ) (files : Files) (a b : Outcome)
      → IsJoinOutcomeWith tells lex chain files a → IsJoinOutcomeWith tells lex chain files b → a ≡ b
  one_join_with NotThere lex chain files a b p q = p ∙ sym q
  one_join_with (Refused fault) lex chain files a b p q = p ∙ sym q
  one_join_with (Holds lexicon) lex chain files a b p q = one_chain_outcome lexicon chain files a b p q

  pub one_join_outcome : (lex : FileWord) (chain : List ℕ) (files : Files) (a b : Outcome) → IsJoinOutcome lex chain files a
      → IsJoinOutcome lex chain files b → a ≡ b
  one_join_outcome lex chain files a b p q =
      let same = one_telling files lex.name p.tells q.tells p.does_tell q.does_tell in
      one_join_with q.tells lex chain files a b (subst (λ (t : FileTells). IsJoinOutcomeWith t lex chain files a) same p.is_outcome) q.is_outcome

  one_split_with : (tells : FileTells) (lex : FileWord) (text : List ℕ) (count : ℕ) (files : Files) (a b : Outcome)
      → IsSplitOutcomeWith tells lex text count files a → IsSplitOutcomeWith tells lex text count files b → a ≡ b
  one_split_with NotThere lex text count files a b p q = p ∙ sym q
  one_split_with (Refused fault) lex text count files a b p q = p ∙ sym q
  one_split_with (Holds lexicon) lex text count files a b p q = one_split_text lexicon text count files a b p q

  pub one_split_outcome : (lex : FileWord) (text : List ℕ) (count : ℕ) (files : Files) (a b : Outcome)
      → IsSplitOutcome lex text count files a → IsSplitOutcome lex text count files b → a ≡ b
  one_split_outcome lex text count files a b p q =
      let same = one_telling files lex.name p.tells q.tells p.does_tell q.does_tell in
      one_split_with q.tells lex text count files a b (subst (λ (t : FileTells). IsSplitOutcomeWith t lex text count files a) same p.is_outcome) q.is_outcome

  one_annotate_with : (tells : FileTells) (lex : FileWord) (mark : List ℕ) (out : FileWord) (files : Files) (a b : Outcome)
      → IsAnnotateOutcomeWith tells lex mark out files a → IsAnnotateOutcomeWith tells lex mark out files b → a ≡ b
  one_annotate_with NotThere lex mark out files a b p q = p ∙ sym q
  one_annotate_with (Refused fault) lex mark out files a b p q = p ∙ sym q
  one_annotate_with (Holds lexicon) lex mark out files a b p q = one_mark_outcome lexicon mark out files a b p q

  pub one_annotate_outcome : (lex : FileWord) (mark : List ℕ) (out : FileWord) (files : Files) (a b : Outcome)
      → IsAnnotateOutcome lex mark out files a → IsAnnotateOutcome lex mark out files b → a ≡ b
  one_annotate_outcome lex mark out files a b p q =
      let same = one_telling files lex.name p.tells q.tells p.does_tell q.does_tell in
      one_annotate_with q.tells lex mark out files a b (subst (λ (t : FileTells). IsAnnotateOutcomeWith t lex mark out files a) same p.is_outcome) q.is_outcome

  one_reread_with : (tells : FileTells) (lex file : FileWord) (files : Files) (a b : Outcome)
      → IsRereadOutcomeWith tells lex file files a → IsRereadOutcomeWith tells lex file files b → a ≡ b
  one_reread_with NotThere lex file files a b p q = p ∙ sym q
  one_reread_with (Refused fault) lex file files a b p q = p ∙ sym q
  one_reread_with (Holds lexicon) lex file files a b p q = one_note_file_outcome lexicon file files a b p q

  pub one_reread_outcome : (lex file : FileWord) (files : Files) (a b : Outcome) → IsRereadOutcome lex file files a
      → IsRereadOutcome lex file files b → a ≡ b
  one_reread_outcome lex file files a b p q =
      let same = one_telling files lex.name p.tells q.tells p.does_tell q.does_tell in
      one_reread_with q.tells lex file files a b (subst (λ (t : FileTells). IsRereadOutcomeWith t lex file files a) same p.is_outcome) q.is_outcome

  one_migrate_with : (tells : FileTells) (lex out : FileWord) (files : Files) (a b : Outcome)
      → IsMigrateOutcomeWith tells lex out files a → IsMigrateOutcomeWith tells lex out files b → a ≡ b
  one_migrate_with NotThere lex out files a b p q = p ∙ sym q
  one_migrate_with (Refused fault) lex out files a b p q = p ∙ sym q
  one_migrate_with (Holds lexicon) lex out files a b p q = one_migrated lexicon lex out files a b p q

  pub one_migrate_outcome : (lex out : FileWord) (files : Files) (a b : Outcome) → IsMigrateOutcome lex out files a
      → IsMigrateOutcome lex out files b → a ≡ b
  one_migrate_outcome lex out files a b p q =
      let same = one_telling files lex.name p.tells q.tells p.does_tell q.does_tell in
      one_migrate_with q.tells lex out files a b (subst (λ (t : FileTells). IsMigrateOutcomeWith t lex out files a) same p.is_outcome) q.is_outcome

  -- each command has one outcome at most
  pub one_outcome_of : (command : Command) (files : Files) (input : Option (List ℕ)) (a b : Outcome) → IsOutcomeOf command files input a
      → IsOutcomeOf command files input b → a ≡ b
  one_outcome_of (Segment lex scheme text) files input a b p q = one_segment_outcome lex scheme text files a b p q
  one_outcome_of (Check lex) files input a b p q = one_check_outcome lex files a b p q
  one_outcome_of (Build rules tables stems out) files input a b p q = one_build_outcome rules tables stems out files a b p q
  one_outcome_of (Read lex) files input a b p q = one_read_outcome lex files input a b p q
  one_outcome_of (Batch lex scheme file count) files input a b p q = one_batch_outcome lex scheme file count files a b p q
  one_outcome_of (Demo number) files input a b p q = one_demo_outcome number files a b p q
  one_outcome_of (Convert from to file out) files input a b p q = one_convert_outcome from to file out files a b p q
  one_outcome_of (Join lex chain) files input a b p q = one_join_outcome lex chain files a b p q
  one_outcome_of (Split lex text count depth) files input a b p q = one_split_outcome lex text count files a b p q
  one_outcome_of (Annotate lex mark out) files input a b p q = one_annotate_outcome lex mark out files a b p q
  one_outcome_of (Reread lex file) files input a b p q = one_reread_outcome lex file files a b p q
  one_outcome_of (Migrate lex out) files input a b p q = one_migrate_outcome lex out files a b p q

  -- and so has a run
  pub one_outcome : (words : List (List ℕ)) (files : Files) (input : Option (List ℕ)) (a b : Outcome)
      → IsOutcome words files input a → IsOutcome words files input b → a ≡ b
  one_outcome words files input a b (OfNoCommand none p) (OfNoCommand other q) = p ∙ sym q
  one_outcome words files input a b (OfNoCommand none p) (OfCommand command are q) = absurd (none command are)
  one_outcome words files input a b (OfCommand command are p) (OfNoCommand none q) = absurd (none command are)
  one_outcome words files input a b (OfCommand command are p) (OfCommand other too q) =
      let same = one_command words command other are too in
      one_outcome_of other files input a b (subst (λ (c : Command). IsOutcomeOf c files input a) same p) q
