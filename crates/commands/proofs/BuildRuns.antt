-- What each stage of `build` says of the outcome: a source file tells what was read of it, its fault, or that it is not there;
-- and the lexicon of the sources is written, or is too large.
use Rattle.std.proofs.Common.{◌≡◌, ℕ, ◌+◌, List, [], Option, Some, None, Result, Ok, Err, string_bytes, refl, sym, ap, subst}
use Rattle.outside.specs.Files.{Files, AreFirstBytes, contents_of, first_bytes, with_file}
use Rattle.lexicon_definitions.specs.Lexicons.{RuleSet}
use Rattle.morphology_definitions.specs.Inflection.{Class, Stem}
use Rattle.lexicon_text_definitions.specs.declared.limits.TheConstants.{MOST_FILE_BYTES}
use Rattle.rule_file_definitions.specs.RuleFileReadings.{IsReadAs}
use Rattle.run_definitions.specs.Commands.{FileWord}
use Rattle.run_definitions.specs.Ends as ends
use Rattle.run_definitions.specs.Ends.{Outcome, outcome_over}
use Rattle.run_definitions.specs.Refusals.{file_refusal}
use Rattle.run_definitions.specs.SourceTells.{Missing, Refused, Holds, DoesTellSource, IsMissing, IsLarge, IsFaulty, IsSound}
use Rattle.run_definitions.specs.BuildOutcomes.{AreTables, AreStems, OfLimit, OfText, IsLexiconOutcome, IsStemsOutcome, IsTablesOutcome, IsBuildOutcome, lexicon_fault}
use Rattle.commands.specs.declared.status.Status.TheVariants.{Done, Usage, BadFile}
use Rattle.commands.specs.declared.status.AnyFault.{AnyFault}
use Rattle.commands.specs.declared.build.Built.{Built}
use Rattle.commands.specs.Faults.{file_fault}
use Rattle.commands.specs.RunEnds.{HasOutcome}
use Rattle.commands.specs.Sources.{HoldsSource, IsRefusedSource, TooLarge, Faulty, IsBuilt}
use Rattle.commands.specs.SourceErrors.{HaveLargeLexicon}
use Rattle.commands.proofs.FilesRead.{first_content, whole, within, longer}

-- ---- what a source file tells

-- these are the first bytes of the file, of which one more is read than it may have
abbrev pub AreRead : Option Files → List ℕ → List ℕ → Type 0
AreRead files name bytes = AreFirstBytes files name (MOST_FILE_BYTES + 1) bytes

told_bytes : (files : Option Files) (told : Files) (name bytes : List ℕ) → files ≡ Some told → AreRead files name bytes
    → first_bytes told name (MOST_FILE_BYTES + 1) ≡ Some bytes
told_bytes files told name bytes e read = subst (λ (f : Option Files). AreRead f name bytes) e read

module _ {A Fault : Type 0} (is_read : List ℕ → Result A Fault → Type 0) (named : Fault → ends.AnyFault) (files : Option Files) (told : Files)
    (name bytes : List ℕ) (told_files : files ≡ Some told) (read : AreRead files name bytes) where
  pub told_held : (held : A) → HoldsSource is_read bytes held → DoesTellSource is_read named told name (Holds held)
  told_held held h =
      let (content, there, e) = first_content told name (MOST_FILE_BYTES + 1) bytes (told_bytes files told name bytes told_files read) in
      let low = within content bytes e h.within in
      let same = whole content bytes e low in
      IsSound content there low held (subst (λ b. is_read b (Ok held)) (sym same) h.read) refl

  pub told_refused : (why : ends.AnyFault) → IsRefusedSource is_read named bytes why → DoesTellSource is_read named told name (Refused why)
  told_refused why (TooLarge high w) =
      let (content, there, e) = first_content told name (MOST_FILE_BYTES + 1) bytes (told_bytes files told name bytes told_files read) in
      IsLarge content there (longer content bytes e high) (ap Refused w)
  told_refused why (Faulty small fault r w) =
      let (content, there, e) = first_content told name (MOST_FILE_BYTES + 1) bytes (told_bytes files told name bytes told_files read) in
      let low = within content bytes e small in
      let same = whole content bytes e low in
      IsFaulty content there low fault (subst (λ b. is_read b (Err fault)) (sym same) r) (ap Refused w)

-- a refused file is no refusal of words
pub not_usage : (place : ℕ) (fault : AnyFault) → BadFile place fault ≡ Usage → ⊥
not_usage place fault e = cc (e)

-- ---- the rule file

module _ (rules tables stems out : FileWord) where
  pub rules_missing : (told : Files) → contents_of told rules.name ≡ None → IsBuildOutcome rules tables stems out told (outcome_over told [] ends.ReadFault)
  rules_missing told e = record { tells = Missing; do_tell = IsMissing e refl; is_outcome = refl }

  pub rules_refused : (files : Option Files) (bytes : List ℕ) (fault : AnyFault) → AreRead files rules.name bytes
      → IsRefusedSource IsReadAs ends.Rules bytes (file_fault fault) → (told : Files) → files ≡ Some told
      → HasOutcome (IsBuildOutcome rules tables stems out told) (BadFile rules.place fault) (file_refusal rules.name (file_fault fault)) told
  rules_refused files bytes fault read why told e = record {
    end = ends.BadFile rules.place (file_fault fault);
    told = refl;
    is_it = record {
      tells = Refused (file_fault fault);
      do_tell = told_refused IsReadAs ends.Rules files told rules.name bytes e read (file_fault fault) why;
      is_outcome = refl;
    };
  }

  pub rules_held : (files : Option Files) (bytes : List ℕ) (set : RuleSet) → AreRead files rules.name bytes → HoldsSource IsReadAs bytes set
      → (told : Files) → files ≡ Some told → (outcome : Outcome) → IsTablesOutcome set tables stems out told outcome
      → IsBuildOutcome rules tables stems out told outcome
  rules_held files bytes set read held told e outcome is = record {
    tells = Holds set;
    do_tell = told_held IsReadAs ends.Rules files told rules.name bytes e read set held;
    is_outcome = is;
  }

-- ---- the table file

module _ (set : RuleSet) (tables stems out : FileWord) where
  pub tables_missing : (told : Files) → contents_of told tables.name ≡ None → IsTablesOutcome set tables stems out told (outcome_over told [] ends.ReadFault)
  tables_missing told e = record { tells = Missing; do_tell = IsMissing e refl; is_outcome = refl }

  pub tables_refused : (files : Option Files) (bytes : List ℕ) (fault : AnyFault) → AreRead files tables.name bytes
      → IsRefusedSource (AreTables set.names) ends.Tables bytes (file_fault fault) → (told : Files) → files ≡ Some told
      → HasOutcome (IsTablesOutcome set tables stems out told) (BadFile tables.place fault) (file_refusal tables.name (file_fault fault)) told
  tables_refused files bytes fault read why told e = record {
    end = ends.BadFile tables.place (file_fault fault);
    told = refl;
    is_it = record {
      tells = Refused (file_fault fault);
      do_tell = told_refused (AreTables set.names) ends.Tables files told tables.name bytes e read (file_fault fault) why;
      is_outcome = refl;
    };
  }

  pub tables_held : (files : Option Files) (bytes : List ℕ) (classes : List Class) → AreRead files tables.name bytes
      → HoldsSource (AreTables set.names) bytes classes → (told : Files) → files ≡ Some told → (outcome : Outcome)
      → IsStemsOutcome set classes stems out told outcome → IsTablesOutcome set tables stems out told outcome
  tables_held files bytes classes read held told e outcome is = record {
    tells = Holds classes;
    do_tell = told_held (AreTables set.names) ends.Tables files told tables.name bytes e read classes held;
    is_outcome = is;
  }

-- ---- the stem file

module _ (set : RuleSet) (classes : List Class) (stems out : FileWord) where
  pub stems_missing : (told : Files) → contents_of told stems.name ≡ None → IsStemsOutcome set classes stems out told (outcome_over told [] ends.ReadFault)
  stems_missing told e = record { tells = Missing; do_tell = IsMissing e refl; is_outcome = refl }

  pub stems_refused : (files : Option Files) (bytes : List ℕ) (fault : AnyFault) → AreRead files stems.name bytes
      → IsRefusedSource (AreStems classes) ends.Stems bytes (file_fault fault) → (told : Files) → files ≡ Some told
      → HasOutcome (IsStemsOutcome set classes stems out told) (BadFile stems.place fault) (file_refusal stems.name (file_fault fault)) told
  stems_refused files bytes fault read why told e = record {
    end = ends.BadFile stems.place (file_fault fault);
    told = refl;
    is_it = record {
      tells = Refused (file_fault fault);
      do_tell = told_refused (AreStems classes) ends.Stems files told stems.name bytes e read (file_fault fault) why;
      is_outcome = refl;
    };
  }

  pub stems_held : (files : Option Files) (bytes : List ℕ) (held : List Stem) → AreRead files stems.name bytes
      → HoldsSource (AreStems classes) bytes held → (told : Files) → files ≡ Some told → (outcome : Outcome)
      → IsLexiconOutcome set classes held stems out told outcome → IsStemsOutcome set classes stems out told outcome
  stems_held files bytes held read holds told e outcome is = record {
    tells = Holds held;
    do_tell = told_held (AreStems classes) ends.Stems files told stems.name bytes e read held holds;
    is_outcome = is;
  }

-- ---- the lexicon of all three

module _ (set : RuleSet) (classes : List Class) (held : List Stem) (stems out : FileWord) where
  pub lexicon_written : (built : Built) → IsBuilt set classes held built → (told : Files)
      → HasOutcome (IsLexiconOutcome set classes held stems out told) Done (string_bytes built.output) (with_file told out.name built.text.items)
  lexicon_written built is told = record {
    end = ends.Done;
    told = refl;
    is_it = record {
      lexicon = is.lexicon;
      is_of = is.is_of;
      is_outcome = OfText built.text.items is.text is.within
          (λ i. record { output = is.output i; files = with_file told out.name built.text.items; end = ends.Done });
    };
  }

  pub lexicon_too_large : (fault : AnyFault) → file_fault fault ≡ lexicon_fault → HaveLargeLexicon set classes held → (told : Files)
      → HasOutcome (IsLexiconOutcome set classes held stems out told) (BadFile stems.place fault) (file_refusal stems.name (file_fault fault)) told
  lexicon_too_large fault same large told = record {
    end = ends.BadFile stems.place (file_fault fault);
    told = refl;
    is_it = record {
      lexicon = large.lexicon;
      is_of = large.is_of;
      is_outcome = OfLimit large.oversized (ap (λ why. outcome_over told (file_refusal stems.name why) (ends.BadFile stems.place why)) same);
    };
  }
