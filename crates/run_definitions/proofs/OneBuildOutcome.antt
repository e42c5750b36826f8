-- Each source file tells one thing over what those before it hold, these hold one lexicon, and this is too large or is not.
use Rattle.std.proofs.Common.{◌≡◌, ◌<◌, ◌≤◌, inl, inr, ℕ, List, length, Some, Result, Ok, Err, sym, ◌∙◌, ap, subst, arith}
use Rattle.outside.specs.Files.{Files, contents_of}
use Rattle.lexicon_definitions.specs.Lexicons.{RuleSet, Lexicon}
use Rattle.morphology_definitions.specs.Inflection.{Class, Stem}
use Rattle.lexicon_definitions.specs.GrammarFaults as grammars
use Rattle.lexicon_definitions.proofs.GrammarFaultCases.{one_first_fault}
use Rattle.rule_file_definitions.specs.RuleFileFaults.{Grammar}
use Rattle.rule_file_definitions.specs.RuleFileReadings.{FileResult, IsReadAs, IsDecided, read_before_grammar}
use Rattle.run_definitions.specs.Commands.{FileWord}
use Rattle.run_definitions.specs.Ends.{Outcome, AnyFault, Rules, Tables, Stems}
use Rattle.run_definitions.specs.SourceLexicons.{IsOversized}
use Rattle.lexicon_text_definitions.specs.declared.limits.TheConstants.{MOST_FILE_BYTES}
use Rattle.trie_text_definitions.specs.VersionTexts.{IsNewestText}
use Rattle.trie_text_definitions.proofs.OneText.{one_newest}
use Rattle.run_definitions.proofs.OneMigrateOutcome.{not_long}
use Rattle.run_definitions.specs.SourceTells.{SourceTells, Missing, Refused, Holds, DoesTellSource, IsMissing, IsLarge, IsFaulty, IsSound, IsOutcomeAfter}
use Rattle.run_definitions.specs.BuildOutcomes.{AreTables, AreStems, built_outcome, IsWrittenOutcome, OfLimit, OfText, IsLexiconOutcome, IsStemsOutcome, IsTablesOutcome, IsBuildOutcome}
use Rattle.run_definitions.proofs.OneContent.{same_bytes, not_missing}
use Rattle.run_definitions.proofs.OneSourceLexicon.{one_lexicon}

-- ---- what a source file tells

-- a file is not too large and within the limit
not_large : (files : Files) (name bytes more : List ℕ) (limit : ℕ) → contents_of files name ≡ Some bytes
    → contents_of files name ≡ Some more → limit < length bytes → length more ≤ limit → ⊥
not_large files name bytes more limit p q large small =
    let same = ap length (same_bytes files name bytes more p q) in omega arith

module _ {A Fault : Type 0} (is_read : List ℕ → Result A Fault → Type 0) (named : Fault → AnyFault)
    (one : (bytes : List ℕ) (left right : Result A Fault) → is_read bytes left → is_read bytes right → left ≡ right) where
  -- one file is read in one way, also where its content is given twice
  one_source : (files : Files) (name bytes more : List ℕ) (left right : Result A Fault) → contents_of files name ≡ Some bytes
      → contents_of files name ≡ Some more → is_read bytes left → is_read more right → left ≡ right
  one_source files name bytes more left right p q r s =
      one more left right (subst (λ b. is_read b left) (same_bytes files name bytes more p q) r) s

  -- and tells one thing
  pub one_telling : (files : Files) (name : List ℕ) (left right : SourceTells A) → DoesTellSource is_read named files name left
      → DoesTellSource is_read named files name right → left ≡ right
  one_telling files name left right (IsMissing p e) (IsMissing q f) = e ∙ sym f
  one_telling files name left right (IsMissing p e) (IsLarge more q l f) = absurd (not_missing files name more p q)
  one_telling files name left right (IsMissing p e) (IsFaulty more q l fault r f) = absurd (not_missing files name more p q)
  one_telling files name left right (IsMissing p e) (IsSound more q l held r f) = absurd (not_missing files name more p q)
  one_telling files name left right (IsLarge bytes p l e) (IsMissing q f) = absurd (not_missing files name bytes q p)
  one_telling files name left right (IsLarge bytes p l e) (IsLarge more q m f) = e ∙ sym f
  one_telling files name left right (IsLarge bytes p l e) (IsFaulty more q m fault r f) = absurd (not_large files name bytes more _ p q l m)
  one_telling files name left right (IsLarge bytes p l e) (IsSound more q m held r f) = absurd (not_large files name bytes more _ p q l m)
  one_telling files name left right (IsFaulty bytes p l fault r e) (IsMissing q f) = absurd (not_missing files name bytes q p)
  one_telling files name left right (IsFaulty bytes p l fault r e) (IsLarge more q m f) = absurd (not_large files name more bytes _ q p m l)
  one_telling files name left right (IsFaulty bytes p l fault r e) (IsFaulty more q m other s f) =
      let same : Err fault ≡ Err other = one_source files name bytes more (Err fault) (Err other) p q r s in
      let same_fault : fault ≡ other = cc in
      e ∙ ap (λ (x : Fault). Refused (named x)) same_fault ∙ sym f
  one_telling files name left right (IsFaulty bytes p l fault r e) (IsSound more q m held s f) =
      let same : Err fault ≡ Ok held = one_source files name bytes more (Err fault) (Ok held) p q r s in absurd (cc)
  one_telling files name left right (IsSound bytes p l held r e) (IsMissing q f) = absurd (not_missing files name bytes q p)
  one_telling files name left right (IsSound bytes p l held r e) (IsLarge more q m f) = absurd (not_large files name more bytes _ q p m l)
  one_telling files name left right (IsSound bytes p l held r e) (IsFaulty more q m other s f) =
      let same : Ok held ≡ Err other = one_source files name bytes more (Ok held) (Err other) p q r s in absurd (cc)
  one_telling files name left right (IsSound bytes p l held r e) (IsSound more q m other s f) =
      let same : Ok held ≡ Ok other = one_source files name bytes more (Ok held) (Ok other) p q r s in
      let same_held : held ≡ other = cc in
      e ∙ ap Holds same_held ∙ sym f

-- by what a file tells, what follows has one outcome where each of what may be held gives one
pub one_after : {A : Type 0} (tells : SourceTells A) (word : FileWord) (files : Files) (a b : Outcome) (left right : A → Type 0)
    → ((held : A) → left held → right held → a ≡ b) → IsOutcomeAfter tells word files a left → IsOutcomeAfter tells word files b right → a ≡ b
one_after Missing word files a b left right one p q = p ∙ sym q
one_after (Refused fault) word files a b left right one p q = p ∙ sym q
one_after (Holds held) word files a b left right one p q = one held p q

-- ---- what is done with the lexicon

-- a lexicon with a newest text within the limit is not too large, since a text has not too many lines
not_oversized : (lexicon : Lexicon) (bytes : List ℕ) → IsNewestText lexicon bytes → length bytes ≤ MOST_FILE_BYTES → IsOversized lexicon → ⊥
not_oversized lexicon bytes (version, text) within (inl lines) = let few = text.has_text.limits.lines in omega (arith, few, lines)
not_oversized lexicon bytes newest within (inr long) = not_long lexicon bytes newest within long

one_written : (lexicon : Lexicon) (stems out : FileWord) (files : Files) (a b : Outcome) → IsWrittenOutcome lexicon stems out files a
    → IsWrittenOutcome lexicon stems out files b → a ≡ b
one_written lexicon stems out files a b (OfLimit p e) (OfLimit q f) = e ∙ sym f
one_written lexicon stems out files a b (OfLimit p e) (OfText bytes q within f) = absurd (not_oversized lexicon bytes q within p)
one_written lexicon stems out files a b (OfText bytes p within e) (OfLimit q f) = absurd (not_oversized lexicon bytes p within q)
one_written lexicon stems out files a b (OfText bytes p within e) (OfText more q small f) =
    e ∙ ap (λ (b : List ℕ). built_outcome lexicon b out files) (one_newest lexicon bytes more p q) ∙ sym f

one_lexicon_outcome : (rules : RuleSet) (classes : List Class) (held : List Stem) (stems out : FileWord) (files : Files) (a b : Outcome)
    → IsLexiconOutcome rules classes held stems out files a → IsLexiconOutcome rules classes held stems out files b → a ≡ b
one_lexicon_outcome rules classes held stems out files a b p q =
    let same = one_lexicon rules classes held p.lexicon q.lexicon p.is_of q.is_of in
    one_written q.lexicon stems out files a b (subst (λ (l : Lexicon). IsWrittenOutcome l stems out files a) same p.is_outcome) q.is_outcome

one_stems_outcome : (rules : RuleSet) (classes : List Class) (stems out : FileWord) (files : Files) (a b : Outcome)
    → IsStemsOutcome rules classes stems out files a → IsStemsOutcome rules classes stems out files b → a ≡ b
one_stems_outcome rules classes stems out files a b p q =
    let following = λ (outcome : Outcome) (held : List Stem). IsLexiconOutcome rules classes held stems out files outcome in
    let same = one_telling (AreStems classes) Stems (λ bytes left right l r. sym l ∙ r) files stems.name p.tells q.tells p.do_tell q.do_tell in
    one_after q.tells stems files a b (following a) (following b) (λ held. one_lexicon_outcome rules classes held stems out files a b)
    (subst (λ (t : SourceTells (List Stem)). IsOutcomeAfter t stems files a (following a)) same p.is_outcome) q.is_outcome

one_tables_outcome : (rules : RuleSet) (tables stems out : FileWord) (files : Files) (a b : Outcome)
    → IsTablesOutcome rules tables stems out files a → IsTablesOutcome rules tables stems out files b → a ≡ b
one_tables_outcome rules tables stems out files a b p q =
    let following = λ (outcome : Outcome) (classes : List Class). IsStemsOutcome rules classes stems out files outcome in
    let same = one_telling (AreTables rules.names) Tables (λ bytes left right l r. sym l ∙ r) files tables.name p.tells q.tells p.do_tell q.do_tell in
    one_after q.tells tables files a b (following a) (following b) (λ classes. one_stems_outcome rules classes stems out files a b)
    (subst (λ (t : SourceTells (List Class)). IsOutcomeAfter t tables files a (following a)) same p.is_outcome) q.is_outcome

-- a rule file is read in one way: the grammar's text has one first fault at most
pub one_decided : (before left right : FileResult) → IsDecided before left → IsDecided before right → left ≡ right
one_decided (Err fault) left right p q = p ∙ sym q
one_decided (Ok set) left right (inl p) (inl q) = p.1 ∙ sym q.1
one_decided (Ok set) left right (inl p) (inr (fault, first, e)) = absurd (p.0 fault first)
one_decided (Ok set) left right (inr (fault, first, e)) (inl q) = absurd (q.0 fault first)
one_decided (Ok set) left right (inr (fault, first, e)) (inr (other, second, f)) =
    e ∙ ap (λ (found : grammars.Fault). Err (Grammar found)) (one_first_fault set.names set.grammar fault other first second) ∙ sym f

-- `build` has one outcome
pub one_build_outcome : (rules tables stems out : FileWord) (files : Files) (a b : Outcome)
    → IsBuildOutcome rules tables stems out files a → IsBuildOutcome rules tables stems out files b → a ≡ b
one_build_outcome rules tables stems out files a b p q =
    let one = λ (bytes : List ℕ) (left right : FileResult) (l : IsReadAs bytes left) (r : IsReadAs bytes right). one_decided (read_before_grammar bytes) left right l r in
    let following = λ (outcome : Outcome) (set : RuleSet). IsTablesOutcome set tables stems out files outcome in
    let same = one_telling IsReadAs Rules one files rules.name p.tells q.tells p.do_tell q.do_tell in
    one_after q.tells rules files a b (following a) (following b) (λ set. one_tables_outcome set tables stems out files a b)
    (subst (λ (t : SourceTells RuleSet). IsOutcomeAfter t rules files a (following a)) same p.is_outcome) q.is_outcome
