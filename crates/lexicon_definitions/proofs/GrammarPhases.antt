-- What holds of the phase of each name of a tree holds of each phase that is read: by induction on the tree. The phases of a
-- text's names are numbers of names, by induction on its tokens.
use Rattle.std.proofs.Common.{◌≡◌, ℕ, zero, suc, ◌+◌, ◌<◌, inl, inr, Bool, true, false, cond, nat_lt, Some, None, unwrap_or, List, [], ◌∷◌, ◌++◌, length, refl, sym, subst}
use Rattle.std.specs.List.{AllByRecursion, position_or_len}
use Rattle.std.specs.Str.{bytes_eq}
use Rattle.std.proofs.lemmas.Bool.{ltb-true}
use Rattle.lexicon_definitions.specs.Grammars.{Grammar, Name, Sequence, Either, AnyTimes, OnceOrMore, AtMostOnce, Mark, count_names, Reads}
use Rattle.lexicon_definitions.specs.GrammarMarks.{IsLink}
use Rattle.lexicon_definitions.specs.GrammarTexts.{Token, Word, Open, Close, Bar, Star, Plus, Question, Other, tokens_of, phase_named, Level, empty_level, sequence_tree, expression_tree, level_tree, with_newest, after_token, after_tokens, outermost_tree, grammar_of}
use Rattle.lexicon_definitions.proofs.GrammarLists.{all_append, all_at}
use Rattle.lexicon_definitions.proofs.GrammarPositions.{all_of_joined}

module _ (P : ℕ → Type 0) where
  -- each name's phase has the property
  abbrev pub AllNames : Grammar → Type 0
  AllNames (Name phase) = P phase
  AllNames (Sequence first second) = AllNames first × AllNames second
  AllNames (Either left right) = AllNames left × AllNames right
  AllNames (AnyTimes inner) = AllNames inner
  AllNames (OnceOrMore inner) = AllNames inner
  AllNames (AtMostOnce inner) = AllNames inner

  reads_all : (g : Grammar) (from : ℕ) (marks : List Mark) → AllNames g → Reads g from marks
      → AllByRecursion (λ (mark : Mark). P mark.phase) marks
  reads_all (Name phase) from marks p h = subst (λ ms. AllByRecursion (λ (mark : Mark). P mark.phase) ms) (sym h) (p, tt)
  reads_all (Sequence first second) from marks p h =
      subst (λ ms. AllByRecursion (λ (mark : Mark). P mark.phase) ms) (sym h.2)
      (all_append (λ (mark : Mark). P mark.phase) h.0 h.1 (reads_all first from h.0 p.0 h.3) (reads_all second (from + count_names first) h.1 p.1 h.4))
  reads_all (Either left right) from marks p h = elim h [
    | inl k ↦ reads_all left from marks p.0 k
    | inr k ↦ reads_all right (from + count_names left) marks p.1 k
  ]
  reads_all (AnyTimes inner) from marks p h =
      subst (λ ms. AllByRecursion (λ (mark : Mark). P mark.phase) ms) (sym h.1)
      (all_of_joined (λ (mark : Mark). P mark.phase) (Reads inner from) (λ part. reads_all inner from part p) h.0 h.2)
  reads_all (OnceOrMore inner) from marks p h =
      subst (λ ms. AllByRecursion (λ (mark : Mark). P mark.phase) ms) (sym h.2)
      (all_of_joined (λ (mark : Mark). P mark.phase) (Reads inner from) (λ part. reads_all inner from part p) h.0 h.3)
  reads_all (AtMostOnce inner) from marks p h = elim h [
    | inl e ↦ subst (λ ms. AllByRecursion (λ (mark : Mark). P mark.phase) ms) (sym e) tt
    | inr k ↦ reads_all inner from marks p k
  ]

  pub link_phase : (g : Grammar) (before phase position : ℕ) → AllNames g → IsLink g before phase position → P phase
  link_phase g zero phase position p h = subst P h.2 (all_at (λ (mark : Mark). P mark.phase) [] h.0 h.1.0 (reads_all g 1 (h.0 ∷ h.1.0) p h.1.1))
  link_phase g (suc before) phase position p h =
      subst P h.4 (second (all_from h.2.0 (reads_all g 1 (h.2.0 ++ h.0 ∷ h.1 ∷ h.2.1) p h.2.2)))
    where
      all_from : (front : List Mark) → AllByRecursion (λ (mark : Mark). P mark.phase) (front ++ h.0 ∷ h.1 ∷ h.2.1)
          → AllByRecursion (λ (mark : Mark). P mark.phase) (h.0 ∷ h.1 ∷ h.2.1)
      all_from [] a = a
      all_from (mark ∷ front) a = all_from front a.1

      second : AllByRecursion (λ (mark : Mark). P mark.phase) (h.0 ∷ h.1 ∷ h.2.1) → P h.1.phase
      second a = a.1.0

  -- ---- the names of a text
  AllOfLevel : Level → Type 0
  AllOfLevel level = AllByRecursion AllNames level.sequences × AllByRecursion AllNames level.items

  sequence_all : (items : List Grammar) → P 0 → AllByRecursion AllNames items → AllNames (sequence_tree items)
  sequence_all [] z h = z
  sequence_all (item ∷ []) z h = h.0
  sequence_all (item ∷ before ∷ items) z h = (sequence_all (before ∷ items) z h.1, h.0)

  expression_all : (sequences : List Grammar) → P 0 → AllByRecursion AllNames sequences → AllNames (expression_tree sequences)
  expression_all [] z h = z
  expression_all (sequence ∷ []) z h = h.0
  expression_all (sequence ∷ before ∷ sequences) z h = (expression_all (before ∷ sequences) z h.1, h.0)

  level_all : (level : Level) → P 0 → AllOfLevel level → AllNames (level_tree level)
  unfolding AllOfLevel
  level_all level z h = expression_all (sequence_tree level.items ∷ level.sequences) z (sequence_all level.items z h.1, h.0)

  newest_all : (change : Grammar → Grammar) → ((g : Grammar) → AllNames g → AllNames (change g)) → (items : List Grammar)
      → AllByRecursion AllNames items → AllByRecursion AllNames (with_newest change items)
  newest_all change keeps [] h = tt
  newest_all change keeps (item ∷ items) h = (keeps item h.0, h.1)

  token_all : (names : List (List ℕ)) → P 0 → ((name : List ℕ) → P (phase_named names name)) → (token : Token) (levels : List Level)
      → AllByRecursion AllOfLevel levels → AllByRecursion AllOfLevel (after_token names token levels)
  unfolding AllOfLevel
  token_all names z p token [] h = tt
  token_all names z p (Word name) (level ∷ levels) h = ((h.0.0, (p name, h.0.1)), h.1)
  token_all names z p Open (level ∷ levels) h = ((tt, tt), h)
  token_all names z p Close (level ∷ []) h = h
  token_all names z p Close (level ∷ outer ∷ levels) h = ((h.1.0.0, (level_all level z h.0, h.1.0.1)), h.1.1)
  token_all names z p Bar (level ∷ levels) h = (((sequence_all level.items z h.0.1, h.0.0), tt), h.1)
  token_all names z p Star (level ∷ levels) h = ((h.0.0, newest_all AnyTimes (λ g k. k) level.items h.0.1), h.1)
  token_all names z p Plus (level ∷ levels) h = ((h.0.0, newest_all OnceOrMore (λ g k. k) level.items h.0.1), h.1)
  token_all names z p Question (level ∷ levels) h = ((h.0.0, newest_all AtMostOnce (λ g k. k) level.items h.0.1), h.1)
  token_all names z p (Other byte) (level ∷ levels) h = h

  tokens_all : (names : List (List ℕ)) → P 0 → ((name : List ℕ) → P (phase_named names name)) → (tokens : List Token) (levels : List Level)
      → AllByRecursion AllOfLevel levels → AllByRecursion AllOfLevel (after_tokens names tokens levels)
  tokens_all names z p [] levels h = h
  tokens_all names z p (token ∷ tokens) levels h = tokens_all names z p tokens (after_token names token levels) (token_all names z p token levels h)

  outermost_all : (levels : List Level) → P 0 → AllByRecursion AllOfLevel levels → AllNames (outermost_tree levels)
  outermost_all [] z h = z
  outermost_all (level ∷ levels) z h = level_all level z h.0

  pub text_all : (names : List (List ℕ)) (text : List ℕ) → P 0 → ((name : List ℕ) → P (phase_named names name)) → AllNames (grammar_of names text)
  unfolding AllOfLevel grammar_of
  text_all names text z p =
      outermost_all (after_tokens names (tokens_of text) (empty_level ∷ [])) z
      (tokens_all names z p (tokens_of text) (empty_level ∷ []) ((tt, tt), tt))

-- a phase is a number of a name, where there are names
small : (b : Bool) (i n : ℕ) → (b ≡ true → i < n) → 0 < n → unwrap_or (cond b (Some i) None) 0 < n
small true i n h z = h refl
small false i n h z = z

pub phase_below : (names : List (List ℕ)) (name : List ℕ) → 0 < length names → phase_named names name < length names
phase_below names name some =
    let at = position_or_len (bytes_eq name) names in
    small (nat_lt at (length names)) at (length names) (λ e. ltb-true at (length names) e) some

pub phases_below : (names : List (List ℕ)) (text : List ℕ) → 0 < length names
    → (before phase position : ℕ) → IsLink (grammar_of names text) before phase position → phase < length names
phases_below names text some before phase position h =
    link_phase (λ k. k < length names) (grammar_of names text) before phase position
    (text_all (λ k. k < length names) names text some (λ name. phase_below names name some)) h
