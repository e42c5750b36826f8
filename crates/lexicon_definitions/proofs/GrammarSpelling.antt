-- What was read spells the levels that stand open, token by token: the items of a level one after another, after the
-- sequences before the last `|`, after the levels around them.
use Rattle.std.proofs.Common.{◌≡◌, ◌≢◌, ℕ, List, [], ◌∷◌, ◌++◌, refl, sym, ap, ◌∙◌, append_assoc, subst}
use Rattle.lexicon_definitions.specs.Grammars.{Grammar, Sequence, Either}
use Rattle.lexicon_definitions.specs.GrammarTexts.{Token, Open, Close, Bar, Level, empty_level, sequence_tree, expression_tree, level_tree, with_item, with_newest, change_newest, after_close}
use Rattle.lexicon_definitions.specs.GrammarSyntax.{IsExpression, IsSequence, IsItem, one_sequence, either, one_item, item_after, bracketed}

module _ (names : List (List ℕ)) where
  -- these tokens spell the items, the newest last
  abbrev pub ItemsSpell : List Grammar → List Token → Type 0
  ItemsSpell [] tokens = tokens ≡ []
  ItemsSpell (item ∷ items) tokens =
      (front : List Token) × (rest : List Token) × (tokens ≡ front ++ rest) × ItemsSpell items front × IsItem names item rest

  -- these tokens spell what stands at a level
  abbrev pub PartsSpell : List Grammar → List Grammar → List Token → Type 0
  PartsSpell [] items tokens = ItemsSpell items tokens
  PartsSpell (sequence ∷ sequences) items tokens =
      (front : List Token) × (rest : List Token) × (tokens ≡ front ++ Bar ∷ rest)
      × IsExpression names (expression_tree (sequence ∷ sequences)) front × ItemsSpell items rest

  abbrev pub LevelSpells : Level → List Token → Type 0
  LevelSpells level tokens = PartsSpell level.sequences level.items tokens

  -- these tokens spell the levels, the innermost last
  abbrev pub LevelsSpell : List Level → List Token → Type 0
  LevelsSpell [] tokens = tokens ≡ []
  LevelsSpell (level ∷ []) tokens = LevelSpells level tokens
  LevelsSpell (level ∷ outer ∷ levels) tokens =
      (front : List Token) × (rest : List Token) × (tokens ≡ front ++ Open ∷ rest) × LevelsSpell (outer ∷ levels) front
      × LevelSpells level rest

  -- ---- trees
  items_sequence : (items : List Grammar) (tokens : List Token) → items ≢ [] → ItemsSpell items tokens
      → IsSequence names (sequence_tree items) tokens
  items_sequence [] tokens some h = absurd (some refl)
  items_sequence (item ∷ []) tokens some h =
      subst (λ ts. IsSequence names item ts) (sym (h.2 ∙ ap (λ front. front ++ h.1) h.3)) (one_item h.4)
  items_sequence (item ∷ before ∷ items) tokens some h =
      subst (λ ts. IsSequence names (Sequence (sequence_tree (before ∷ items)) item) ts) (sym h.2)
      (item_after (items_sequence (before ∷ items) h.0 (λ e. cc) h.3) h.4)

  pub level_expression : (level : Level) (tokens : List Token) → level.items ≢ [] → LevelSpells level tokens
      → IsExpression names (level_tree level) tokens
  level_expression level tokens some h = go level.sequences h
    where
      go : (sequences : List Grammar) → PartsSpell sequences level.items tokens
          → IsExpression names (expression_tree (sequence_tree level.items ∷ sequences)) tokens
      go [] h = one_sequence (items_sequence level.items tokens some h)
      go (sequence ∷ sequences) h =
          subst (λ ts. IsExpression names (Either (expression_tree (sequence ∷ sequences)) (sequence_tree level.items)) ts) (sym h.2)
          (either h.3 (items_sequence level.items h.1 some h.4))

  -- ---- one token more
  -- what is added to the items
  add_items : (items changed : List Grammar) (more : List Token)
      → ((tokens : List Token) → ItemsSpell items tokens → ItemsSpell changed (tokens ++ more))
      → (sequences : List Grammar) (tokens : List Token) → PartsSpell sequences items tokens → PartsSpell sequences changed (tokens ++ more)
  add_items items changed more step [] tokens h = step tokens h
  add_items items changed more step (sequence ∷ sequences) tokens h = (
    h.0,
    h.1 ++ more,
    ap (λ ts. ts ++ more) h.2 ∙ append_assoc h.0 (Bar ∷ h.1) more,
    h.3,
    step h.1 h.4,
  )

  -- what is added to the innermost level
  add_level : (level changed : Level) (more : List Token)
      → ((tokens : List Token) → LevelSpells level tokens → LevelSpells changed (tokens ++ more))
      → (levels : List Level) (tokens : List Token) → LevelsSpell (level ∷ levels) tokens → LevelsSpell (changed ∷ levels) (tokens ++ more)
  add_level level changed more step [] tokens h = step tokens h
  add_level level changed more step (outer ∷ levels) tokens h = (
    h.0,
    h.1 ++ more,
    ap (λ ts. ts ++ more) h.2 ∙ append_assoc h.0 (Open ∷ h.1) more,
    h.3,
    step h.1 h.4,
  )

  pub spell_item : (item : Grammar) (more : List Token) → IsItem names item more → (level : Level) (levels : List Level) (tokens : List Token)
      → LevelsSpell (level ∷ levels) tokens → LevelsSpell (with_item item level ∷ levels) (tokens ++ more)
  spell_item item more spelled level levels tokens h =
      add_level level (with_item item level) more
      (add_items level.items (item ∷ level.items) more (λ ts k. (ts, more, refl, k, spelled)) level.sequences) levels tokens h

  repeated : (change : Grammar → Grammar) (sign : Token)
      → ((tree : Grammar) (tokens : List Token) → IsItem names tree tokens → IsItem names (change tree) (tokens ++ sign ∷ []))
      → (items : List Grammar) → items ≢ [] → (tokens : List Token) → ItemsSpell items tokens
      → ItemsSpell (with_newest change items) (tokens ++ sign ∷ [])
  repeated change sign step [] some tokens h = absurd (some refl)
  repeated change sign step (item ∷ items) some tokens h =
      (h.0, h.1 ++ sign ∷ [], ap (λ ts. ts ++ sign ∷ []) h.2 ∙ append_assoc h.0 h.1 (sign ∷ []), h.3, step item h.1 h.4)

  pub spell_repetition : (change : Grammar → Grammar) (sign : Token)
      → ((tree : Grammar) (tokens : List Token) → IsItem names tree tokens → IsItem names (change tree) (tokens ++ sign ∷ []))
      → (level : Level) → level.items ≢ [] → (levels : List Level) (tokens : List Token) → LevelsSpell (level ∷ levels) tokens
      → LevelsSpell (change_newest change level ∷ levels) (tokens ++ sign ∷ [])
  spell_repetition change sign step level some levels tokens h =
      add_level level (change_newest change level) (sign ∷ [])
      (add_items level.items (with_newest change level.items) (sign ∷ []) (repeated change sign step level.items some) level.sequences) levels tokens h

  pub spell_open : (levels : List Level) → levels ≢ [] → (tokens : List Token) → LevelsSpell levels tokens
      → LevelsSpell (empty_level ∷ levels) (tokens ++ Open ∷ [])
  spell_open [] some tokens h = absurd (some refl)
  spell_open (level ∷ levels) some tokens h = (tokens, [], refl, h, refl)

  pub spell_bar : (level : Level) → level.items ≢ [] → (levels : List Level) (tokens : List Token) → LevelsSpell (level ∷ levels) tokens
      → LevelsSpell (record { sequences = sequence_tree level.items ∷ level.sequences; items = [] } ∷ levels) (tokens ++ Bar ∷ [])
  spell_bar level some levels tokens h =
      add_level level (record { sequences = sequence_tree level.items ∷ level.sequences; items = [] }) (Bar ∷ [])
      (λ ts k. (ts, [], refl, level_expression level ts some k, refl)) levels tokens h

  pub spell_close : (level outer : Level) → level.items ≢ [] → (levels : List Level) (tokens : List Token)
      → LevelsSpell (level ∷ outer ∷ levels) tokens → LevelsSpell (after_close level (outer ∷ levels)) (tokens ++ Close ∷ [])
  spell_close level outer some levels tokens h =
      subst (λ ts. LevelsSpell (with_item (level_tree level) outer ∷ levels) ts)
      (sym (ap (λ ts. ts ++ Close ∷ []) h.2 ∙ append_assoc h.0 (Open ∷ h.1) (Close ∷ [])))
      (spell_item (level_tree level) (Open ∷ (h.1 ++ Close ∷ [])) (bracketed (level_expression level h.1 some h.4)) outer levels h.0 h.3)
