-- How a run of a command ended is put together of what its parts wrote, and tells each clause of a run, case by case.
use Rattle.std.proofs.Common.{◌≡◌, ℕ, List, [], Option, Some, None, refl, sym, ap, subst, ◌∙◌, inl, inr, append-nil}
use Rattle.std.specs.Prelude.{Contains, ◌⊎◌}
use Rattle.outside.specs.Counts.{Rose}
use Rattle.outside.specs.Files.{Files, Lacks, contents_of, with_file, told_with, told_without}
use Rattle.outside.specs.Told.{bytes_after, GrowsByPrefix}
use Rattle.outside.proofs.FilesLemmas.{without_file-with_file}
use Rattle.run_definitions.specs.Commands.{FileWord}
use Rattle.run_definitions.specs.Ends as ends
use Rattle.run_definitions.specs.Ends.{End, Outcome, outcome_over}
use Rattle.commands.specs.declared.status.Status.{Status}
use Rattle.commands.specs.declared.status.Status.TheVariants.{Done, Memory, Usage, ReadFault, WriteFault, BadFile, BadText, TooMuch, BadChain, NoAnswer, Several, BadMark}
use Rattle.commands.specs.Faults.{Tells}
use Rattle.commands.specs.Headline.{IsNoFault, MayEndNoCommand}
use Rattle.commands.specs.Ends.{IsUnread, Finishes, Refuses, Silently, InWords, Wrote, Nothing, Something}
use Rattle.commands.specs.RunEnds.{WroteOutcome, Devices, devices, HasOutcome, Leaves, Ran, Wanting, NotRead, Printed, NotWritten, Written}

-- a status that tells no fault is not one of these
pub no_fault_is_not_memory : (status : Status) → IsNoFault status → status ≡ Memory → ⊥
no_fault_is_not_memory status own e = subst IsNoFault e own

pub no_fault_is_not_write_fault : (status : Status) → IsNoFault status → status ≡ WriteFault → ⊥
no_fault_is_not_write_fault status own e = subst IsNoFault e own

pub no_fault_is_not_read_fault : (status : Status) → IsNoFault status → status ≡ ReadFault → ⊥
no_fault_is_not_read_fault status own e = subst IsNoFault e own

-- ---- how a run ended, from its parts

module _ (IsIt : Files → Outcome → Type 0) (reads : List FileWord) (writes : Option FileWord) (result : Status) (old new : Devices) where
  -- a file was not read
  pub unread : (word : FileWord) → Contains reads word
      → ((told : Files) → contents_of told word.name ≡ None → IsIt told (outcome_over told [] ends.ReadFault)) → Leaves old new
      → IsUnread result (Rose old.failed_reads new.failed_reads) (Lacks old.files word.name) → Ran IsIt reads writes result old new
  unread word is_read is_it leaves why = elim why [
    | inl memory ↦ Wanting memory leaves
    | inr (fault, cause) ↦ NotRead fault leaves (elim cause [
      | inl rose ↦ inl rose
      | inr lacks ↦ inr (record { word = word; is_read = is_read; lacks = lacks; is_it = λ told e. is_it told (subst (λ (f : Option Files). Lacks f word.name) e lacks) })
    ])
  ]

  -- a refusal was written
  pub refused : (status : Status) (output : List ℕ) → (status ≡ Usage → ⊥) → new.files ≡ old.files → new.failed_writes ≡ old.failed_writes
      → ((told : Files) → old.files ≡ Some told → HasOutcome (IsIt told) status output told)
      → Refuses status result old.written new.written old.faults new.faults output → Ran IsIt reads writes result old new
  refused status output not_usage files failed_writes has (Silently memory same) =
      Wanting memory (record { files = files; failed_writes = failed_writes; written = same })
  refused status output not_usage files failed_writes has (InWords finishes) = Printed (record {
    status = status;
    output = output;
    not_usage = not_usage;
    files = files;
    failed_writes = failed_writes;
    has = has;
    finishes = finishes;
  })

  -- what may be written before a status was written, and it is the output of an outcome
  pub printed : (May : Status → List ℕ → Type 0) → ((status : Status) (output : List ℕ) → May status output → status ≡ Usage → ⊥)
      → ((told : Files) → old.files ≡ Some told → (status : Status) (output : List ℕ) → May status output → HasOutcome (IsIt told) status output told)
      → new.files ≡ old.files → new.failed_writes ≡ old.failed_writes
      → Wrote May result old.written new.written old.faults new.faults → Ran IsIt reads writes result old new
  printed May not_usage has files failed_writes (Nothing memory same) =
      Wanting memory (record { files = files; failed_writes = failed_writes; written = same })
  printed May not_usage has files failed_writes (Something status output may finishes) = Printed (record {
    status = status;
    output = output;
    not_usage = not_usage status output may;
    files = files;
    failed_writes = failed_writes;
    has = λ told e. has told e status output may;
    finishes = finishes;
  })

-- devices that tell the same are the same
pub same_devices : (files other_files : Option Files) (reads other_reads writes other_writes : ℕ) (written : Option (List ℕ)) (faults : ℕ)
    → files ≡ other_files → reads ≡ other_reads → writes ≡ other_writes
    → devices files reads writes written faults ≡ devices other_files other_reads other_writes written faults
same_devices files other_files reads other_reads writes other_writes written faults p q r =
    λ i. record { files = p i; failed_reads = q i; failed_writes = r i; written = written; faults = faults }

-- an outcome of a stage is one of the whole
has_outcome : (Stage Whole : Outcome → Type 0) → ((outcome : Outcome) → Stage outcome → Whole outcome)
    → (status : Status) (output : List ℕ) (after : Files) → HasOutcome Stage status output after → HasOutcome Whole status output after
has_outcome Stage Whole embeds status output after h =
    record { end = h.end; told = h.told; is_it = embeds (record { output = output; files = after; end = h.end }) h.is_it }

module _ (Stage Whole : Files → Outcome → Type 0) (more reads : List FileWord) (writes : Option FileWord) (result : Status) (old new : Devices)
    (embeds : (files : Files) → old.files ≡ Some files → (outcome : Outcome) → Stage files outcome → Whole files outcome)
    (are_read : (word : FileWord) → Contains more word → Contains reads word) where
  -- how a stage ended is how the whole ended
  pub embedded : Ran Stage more writes result old new → Ran Whole reads writes result old new
  embedded (Wanting memory leaves) = Wanting memory leaves
  embedded (NotRead fault leaves cause) = NotRead fault leaves (elim cause [
    | inl rose ↦ inl rose
    | inr n ↦ inr (record {
      word = n.word;
      is_read = are_read n.word n.is_read;
      lacks = n.lacks;
      is_it = λ told e. embeds told e (outcome_over told [] ends.ReadFault) (n.is_it told e);
    })
  ])
  embedded (Printed p) = Printed (record {
    status = p.status;
    output = p.output;
    not_usage = p.not_usage;
    files = p.files;
    failed_writes = p.failed_writes;
    has = λ told e. has_outcome (Stage told) (Whole told) (embeds told e) p.status p.output told (p.has told e);
    finishes = p.finishes;
  })
  embedded (NotWritten out e s) = NotWritten out e (record {
    text = s.text;
    output = s.output;
    has = λ told f. has_outcome (Stage told) (Whole told) (embeds told f) Done s.output (with_file told out.name s.text) (s.has told f);
    others = s.others;
    written = s.written;
    cause = s.cause;
  })
  embedded (Written out e s) = Written out e (record {
    text = s.text;
    output = s.output;
    has = λ told f. has_outcome (Stage told) (Whole told) (embeds told f) Done s.output (with_file told out.name s.text) (s.has told f);
    files = s.files;
    failed_writes = s.failed_writes;
    finishes = s.finishes;
  })

  -- also where the stage began after a call that left the devices as they were
  pub goes_on : (mid : Devices) → mid ≡ old → Ran Stage more writes result mid new → Ran Whole reads writes result old new
  goes_on mid same ran = embedded (subst (λ (d : Devices). Ran Stage more writes result d new) same ran)

-- ---- the clauses of a run, from how it ended

-- all of an output was written before a status
all_of : (P : Outcome → Type 0) (status result : Status) (output : List ℕ) (after : Files) (left : Option Files) (old new : Option (List ℕ))
    (faults now : ℕ) (told : List ℕ) → HasOutcome P status output after → Finishes status result old new faults now output
    → IsNoFault result → old ≡ Some told → left ≡ Some after → WroteOutcome P left told new result
all_of P status result output after left old new faults now told h f own o l =
    let (same, all) = f.all own in record {
      outcome = record { output = output; files = after; end = h.end };
      is_it = h.is_it;
      output = all ∙ ap (λ x. bytes_after x output) o;
      files = l;
      told = subst (λ (x : Status). Tells x h.end) (sym same) h.told;
    }

-- what is put under a name is gone where the name is taken out
told_without-told_with : (files : Option Files) (name bytes : List ℕ) → told_without (told_with files name bytes) name ≡ told_without files name
told_without-told_with None name bytes = refl
told_without-told_with (Some files) name bytes = ap Some (without_file-with_file files name bytes)

-- the outcome that was to be written ends well
ends_well : (P : Outcome → Type 0) (output : List ℕ) (after : Files) (outcome : Outcome) → ((a b : Outcome) → P a → P b → a ≡ b)
    → HasOutcome P Done output after → P outcome → outcome.end ≡ ends.Done
ends_well P output after outcome one h is =
    ap (λ (o : Outcome). o.end) (one outcome (record { output = output; files = after; end = h.end }) is h.is_it) ∙ h.told

module _ (IsIt : Files → Outcome → Type 0) (reads : List FileWord) (writes : Option FileWord) (result : Status) (old new : Devices) where
  pub ran_outcome : Ran IsIt reads writes result old new → IsNoFault result → (files : Files) (told : List ℕ) → old.files ≡ Some files
      → old.written ≡ Some told → WroteOutcome (IsIt files) new.files told new.written result
  ran_outcome (Wanting memory leaves) own files told f o = absurd (no_fault_is_not_memory result own memory)
  ran_outcome (NotRead fault leaves cause) own files told f o = absurd (no_fault_is_not_read_fault result own fault)
  ran_outcome (Printed p) own files told f o =
      all_of (IsIt files) p.status result p.output files new.files old.written new.written old.faults new.faults told (p.has files f) p.finishes own o (p.files ∙ f)
  ran_outcome (NotWritten out e s) own files told f o = elim s.cause [
    | inl memory ↦ absurd (no_fault_is_not_memory result own memory)
    | inr (fault, rose) ↦ absurd (no_fault_is_not_write_fault result own fault)
  ]
  ran_outcome (Written out e s) own files told f o =
      all_of (IsIt files) Done result s.output (with_file files out.name s.text) new.files old.written new.written old.faults new.faults told (s.has files f) s.finishes own o
      (s.files ∙ ap (λ x. told_with x out.name s.text) f)

  pub ran_missing : Ran IsIt reads writes result old new → result ≡ ReadFault → (files : Files) (told : List ℕ) → old.files ≡ Some files
      → old.written ≡ Some told → Rose old.failed_reads new.failed_reads ⊎ WroteOutcome (IsIt files) new.files told new.written result
  ran_missing (Wanting memory leaves) r files told f o = let d : Memory ≡ ReadFault = sym memory ∙ r in absurd (cc (d))
  ran_missing (NotRead fault leaves cause) r files told f o = elim cause [
    | inl rose ↦ inl rose
    | inr n ↦ inr (record {
      outcome = outcome_over files [] ends.ReadFault;
      is_it = n.is_it files f;
      output = leaves.written ∙ o ∙ ap Some (sym (append-nil told));
      files = leaves.files ∙ f;
      told = subst (λ (x : Status). Tells x ends.ReadFault) (sym r) refl;
    })
  ]
  ran_missing (Printed p) r files told f o = absurd (p.finishes.read_fault r)
  ran_missing (NotWritten out e s) r files told f o = elim s.cause [
    | inl memory ↦ let d : Memory ≡ ReadFault = sym memory ∙ r in absurd (cc (d))
    | inr (fault, rose) ↦ let d : WriteFault ≡ ReadFault = sym fault ∙ r in absurd (cc (d))
  ]
  ran_missing (Written out e s) r files told f o = absurd (s.finishes.read_fault r)

  pub ran_prefix : Ran IsIt reads writes result old new → (files : Files) → old.files ≡ Some files
      → (new.written ≡ old.written) ⊎ ((outcome : Outcome) × IsIt files outcome × GrowsByPrefix old.written new.written outcome.output)
  ran_prefix (Wanting memory leaves) files f = inl leaves.written
  ran_prefix (NotRead fault leaves cause) files f = inl leaves.written
  ran_prefix (Printed p) files f =
      let h = p.has files f in inr (record { output = p.output; files = files; end = h.end }, h.is_it, p.finishes.prefix)
  ran_prefix (NotWritten out e s) files f = inl s.written
  ran_prefix (Written out e s) files f =
      let h = s.has files f in
      inr (record { output = s.output; files = with_file files out.name s.text; end = h.end }, h.is_it, s.finishes.prefix)

  pub ran_usage : Ran IsIt reads writes result old new → result ≡ Usage → ⊥
  ran_usage (Wanting memory leaves) u = let d : Memory ≡ Usage = sym memory ∙ u in cc (d)
  ran_usage (NotRead fault leaves cause) u = let d : ReadFault ≡ Usage = sym fault ∙ u in cc (d)
  ran_usage (Printed p) u = p.not_usage (sym (p.finishes.all (subst IsNoFault (sym u) tt)).0 ∙ u)
  ran_usage (NotWritten out e s) u = elim s.cause [
    | inl memory ↦ let d : Memory ≡ Usage = sym memory ∙ u in cc (d)
    | inr (fault, rose) ↦ let d : WriteFault ≡ Usage = sym fault ∙ u in cc (d)
  ]
  ran_usage (Written out e s) u =
      let d : Done ≡ Usage = sym (s.finishes.all (subst IsNoFault (sym u) tt)).0 ∙ u in cc (d)

  pub ran_read_fault : Ran IsIt reads writes result old new → result ≡ ReadFault
      → Rose old.failed_reads new.failed_reads ⊎ ((word : FileWord) × Contains reads word × Lacks old.files word.name)
  ran_read_fault (Wanting memory leaves) r = let d : Memory ≡ ReadFault = sym memory ∙ r in absurd (cc (d))
  ran_read_fault (NotRead fault leaves cause) r = elim cause [ inl rose ↦ inl rose | inr n ↦ inr (n.word, n.is_read, n.lacks) ]
  ran_read_fault (Printed p) r = absurd (p.finishes.read_fault r)
  ran_read_fault (NotWritten out e s) r = elim s.cause [
    | inl memory ↦ let d : Memory ≡ ReadFault = sym memory ∙ r in absurd (cc (d))
    | inr (fault, rose) ↦ let d : WriteFault ≡ ReadFault = sym fault ∙ r in absurd (cc (d))
  ]
  ran_read_fault (Written out e s) r = absurd (s.finishes.read_fault r)

  pub ran_write_fault : Ran IsIt reads writes result old new → result ≡ WriteFault
      → Rose old.faults new.faults ⊎ ((out : FileWord) × (writes ≡ Some out) × Rose old.failed_writes new.failed_writes)
  ran_write_fault (Wanting memory leaves) w = let d : Memory ≡ WriteFault = sym memory ∙ w in absurd (cc (d))
  ran_write_fault (NotRead fault leaves cause) w = let d : ReadFault ≡ WriteFault = sym fault ∙ w in absurd (cc (d))
  ran_write_fault (Printed p) w = inl (p.finishes.write_fault w)
  ran_write_fault (NotWritten out e s) w = elim s.cause [
    | inl memory ↦ let d : Memory ≡ WriteFault = sym memory ∙ w in absurd (cc (d))
    | inr (fault, rose) ↦ inr (out, e, rose)
  ]
  ran_write_fault (Written out e s) w = inl (s.finishes.write_fault w)

  pub ran_files : Ran IsIt reads writes result old new → ((out : FileWord) → writes ≡ Some out → ⊥) → new.files ≡ old.files
  ran_files (Wanting memory leaves) none = leaves.files
  ran_files (NotRead fault leaves cause) none = leaves.files
  ran_files (Printed p) none = p.files
  ran_files (NotWritten out e s) none = absurd (none out e)
  ran_files (Written out e s) none = absurd (none out e)

  pub ran_failed_writes : Ran IsIt reads writes result old new → ((out : FileWord) → writes ≡ Some out → ⊥) → new.failed_writes ≡ old.failed_writes
  ran_failed_writes (Wanting memory leaves) none = leaves.failed_writes
  ran_failed_writes (NotRead fault leaves cause) none = leaves.failed_writes
  ran_failed_writes (Printed p) none = p.failed_writes
  ran_failed_writes (NotWritten out e s) none = absurd (none out e)
  ran_failed_writes (Written out e s) none = absurd (none out e)

  pub ran_other_files : Ran IsIt reads writes result old new → (out : FileWord) → writes ≡ Some out
      → told_without new.files out.name ≡ told_without old.files out.name
  ran_other_files (Wanting memory leaves) out w = ap (λ x. told_without x out.name) leaves.files
  ran_other_files (NotRead fault leaves cause) out w = ap (λ x. told_without x out.name) leaves.files
  ran_other_files (Printed p) out w = ap (λ x. told_without x out.name) p.files
  ran_other_files (NotWritten other e s) out w =
      let d : Some other ≡ Some out = sym e ∙ w in
      let same : other ≡ out = cc (d) in
      subst (λ (o : FileWord). told_without new.files o.name ≡ told_without old.files o.name) same s.others
  ran_other_files (Written other e s) out w =
      let d : Some other ≡ Some out = sym e ∙ w in
      let same : other ≡ out = cc (d) in
      subst (λ (o : FileWord). told_without new.files o.name ≡ told_without old.files o.name) same
      (ap (λ x. told_without x other.name) s.files ∙ told_without-told_with old.files other.name s.text)

  pub ran_done_files : ((files : Files) (a b : Outcome) → IsIt files a → IsIt files b → a ≡ b) → Ran IsIt reads writes result old new
      → (files : Files) (outcome : Outcome) → old.files ≡ Some files → IsIt files outcome → (outcome.end ≡ ends.Done → ⊥) → new.files ≡ old.files
  ran_done_files one (Wanting memory leaves) files outcome f is not = leaves.files
  ran_done_files one (NotRead fault leaves cause) files outcome f is not = leaves.files
  ran_done_files one (Printed p) files outcome f is not = p.files
  ran_done_files one (NotWritten out e s) files outcome f is not =
      absurd (not (ends_well (IsIt files) s.output (with_file files out.name s.text) outcome (one files) (s.has files f) is))
  ran_done_files one (Written out e s) files outcome f is not =
      absurd (not (ends_well (IsIt files) s.output (with_file files out.name s.text) outcome (one files) (s.has files f) is))

  pub ran_read_fault_files : Ran IsIt reads writes result old new → result ≡ ReadFault → new.files ≡ old.files
  ran_read_fault_files (Wanting memory leaves) r = leaves.files
  ran_read_fault_files (NotRead fault leaves cause) r = leaves.files
  ran_read_fault_files (Printed p) r = p.files
  ran_read_fault_files (NotWritten out e s) r = elim s.cause [
    | inl memory ↦ let d : Memory ≡ ReadFault = sym memory ∙ r in absurd (cc (d))
    | inr (fault, rose) ↦ let d : WriteFault ≡ ReadFault = sym fault ∙ r in absurd (cc (d))
  ]
  ran_read_fault_files (Written out e s) r = absurd (s.finishes.read_fault r)

  -- where a file was not read, nothing was written
  pub ran_read_fault_written : Ran IsIt reads writes result old new → result ≡ ReadFault → new.written ≡ old.written
  ran_read_fault_written (Wanting memory leaves) r = leaves.written
  ran_read_fault_written (NotRead fault leaves cause) r = leaves.written
  ran_read_fault_written (Printed p) r = absurd (p.finishes.read_fault r)
  ran_read_fault_written (NotWritten out e s) r = s.written
  ran_read_fault_written (Written out e s) r = absurd (s.finishes.read_fault r)

  pub ran_write_fault_files : Ran IsIt reads writes result old new → result ≡ WriteFault → (files : Files) → old.files ≡ Some files
      → (Rose old.failed_writes new.failed_writes × (new.written ≡ old.written))
      ⊎ ((outcome : Outcome) × IsIt files outcome × (new.files ≡ Some outcome.files))
  ran_write_fault_files (Wanting memory leaves) w files f = let d : Memory ≡ WriteFault = sym memory ∙ w in absurd (cc (d))
  ran_write_fault_files (NotRead fault leaves cause) w files f = let d : ReadFault ≡ WriteFault = sym fault ∙ w in absurd (cc (d))
  ran_write_fault_files (Printed p) w files f =
      let h = p.has files f in inr (record { output = p.output; files = files; end = h.end }, h.is_it, p.files ∙ f)
  ran_write_fault_files (NotWritten out e s) w files f = elim s.cause [
    | inl memory ↦ let d : Memory ≡ WriteFault = sym memory ∙ w in absurd (cc (d))
    | inr (fault, rose) ↦ inl (rose, s.written)
  ]
  ran_write_fault_files (Written out e s) w files f =
      let h = s.has files f in
      inr (
        record { output = s.output; files = with_file files out.name s.text; end = h.end },
        h.is_it,
        s.files ∙ ap (λ x. told_with x out.name s.text) f,
      )

-- words of no command are refused, where their refusal is written
pub may_end : (result : Status) (old new : Option (List ℕ)) (faults now : ℕ) (output : List ℕ)
    → Finishes Usage result old new faults now output → MayEndNoCommand result
may_end Done old new faults now output f = absurd (cc ((f.all tt).0))
may_end (BadFile word fault) old new faults now output f = absurd (cc ((f.all tt).0))
may_end (BadText fault) old new faults now output f = absurd (cc ((f.all tt).0))
may_end TooMuch old new faults now output f = absurd (cc ((f.all tt).0))
may_end (BadChain fault) old new faults now output f = absurd (cc ((f.all tt).0))
may_end NoAnswer old new faults now output f = absurd (cc ((f.all tt).0))
may_end (Several first second) old new faults now output f = absurd (cc ((f.all tt).0))
may_end BadMark old new faults now output f = absurd (cc ((f.all tt).0))
may_end ReadFault old new faults now output f = absurd (f.read_fault refl)
may_end Usage old new faults now output f = tt
may_end WriteFault old new faults now output f = tt
may_end Memory old new faults now output f = tt
