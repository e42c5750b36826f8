-- The file of `ca` and `iti` and that of their trie are read by computing, but for the grammar, which has three states at most: its one
-- name has one position. What is read of the second is a trie in order, so that the second is the newest text of the first.
use Rattle.std.proofs.Common.{◌≡◌, ℕ, ◌<◌, ◌≤◌, inl, inr, List, [], ◌∷◌, ◌++◌, length, Option, Some, None, Ok, refl, sym, subst, arith}
use Rattle.std.specs.Prelude.{codes}
use Rattle.std.specs.Fmt.{digits}
use Rattle.std.specs.Str.{is_utf8, chars}
use Rattle.std.specs.List.Sorted.{IsStrictlyIncreasing}
use Rattle.std.proofs.lemmas.List.Elements.{All-contains, All-from_recursion}
use Rattle.outside.specs.Files.{no_files}
use Rattle.outside.proofs.FilesLemmas.{contents_of-with_file_same}
use Rattle.text_definitions.specs.Slp1.{slp1_table, word_of_slp1, slp1_of_word}
use Rattle.lexicon_definitions.specs.Grammars.{Grammar, Name, OnceOrMore, State, Opening, After, IsPositionAfter}
use Rattle.lexicon_definitions.specs.GrammarTexts.{grammar_of}
use Rattle.lexicon_definitions.specs.GrammarFaults.{Long, Syntax, UnknownPhase, Places, States, IsGrammarTextWithinLimits, IsStateOf, HasMoreStates, fault_before_states}
use Rattle.lexicon_definitions.proofs.GrammarPositions.{IsPositionOf, positions_within}
use Rattle.lexicon_definitions.proofs.GrammarLists.{all_right}
use Rattle.lexicon_text_definitions.specs.declared.limits.TheConstants.{MOST_FILE_BYTES}
use Rattle.lexicon_text_definitions.specs.FileContents.{is_tag_text}
use Rattle.lexicon_text_definitions.specs.FileLines as lines
use Rattle.lexicon_text_definitions.specs.FileReadings as first
use Rattle.lexicon_text_definitions.specs.FileReadings.{reading_of}
use Rattle.lexicon_text_definitions.specs.FileSteps as steps
use Rattle.lexicon_text_definitions.specs.FileSteps.{take_phase, take_grammar, take_plain, take_rule, take_form}
use Rattle.lexicon_text_definitions.specs.LexiconTexts.{text_of_lines}
use Rattle.trie_text_definitions.specs.Versions.{Version, Second, version_of}
use Rattle.trie_text_definitions.specs.TrieTexts.{text_in}
use Rattle.trie_text_definitions.specs.VersionTexts.{HasTextIn, IsOrderedTrieOf, IsTrieText}
use Rattle.trie_text_definitions.specs.VersionSteps.{Told, End, take_limited_rule, take_node, take_root, take_end, take_line}
use Rattle.trie_text_definitions.specs.VersionReadings.{IsReadAs, IsReadIn, IsResult, reading_in}
use Rattle.trie_text_definitions.specs.WorkedFiles.{small_lines, small_trie_lines, small_lexicon}
use Rattle.trie_text_definitions.specs.TrieForms.{phases_of}
use Rattle.trie_text_definitions.proofs.LexiconsTold.{read_lexicon, all_read}
use Rattle.trie_text_definitions.proofs.TrieTextsRead.{ordered}
use Rattle.trie_text_definitions.proofs.VersionsTold.{Tells}
use Rattle.run_definitions.specs.declared.limits.TheConstants.{MOST_WORD_BYTES}
use Rattle.run_definitions.specs.Arguments.{FileWord}
use Rattle.run_definitions.specs.Commands.{Migrate, AreWordsOf}
use Rattle.run_definitions.specs.LexiconTells.{Holds, DoesTell, IsLexicon}
use Rattle.run_definitions.specs.MigrateOutcomes.{IsMigrateOutcome, OfText}
use Rattle.run_definitions.specs.Outcomes.{IsOutcome, OfCommand}
use Rattle.demo_definitions.proofs.DifferentElements.{In, contains_from_in, different_from_pairs, different_are_few}
use Rattle.worked_cases.specs.WorkedRuns.{small_files, migrate_words, small_trie, small_outcome}

-- ---- the grammar

abbrev word_tree : Grammar
word_tree = OnceOrMore (Name 0)

tree_is : grammar_of (codes "word" ∷ []) (codes "word+") ≡ word_tree
unfolding grammar_of
tree_is = refl

position_is : (phases : List ℕ) (position : ℕ) → IsPositionAfter word_tree phases position → position ≡ 1
position_is phases position h =
    let all = positions_within word_tree 1 (h.0 ++ h.1 ∷ h.2) h.3 in
    let last = all_right (IsPositionOf word_tree 1) h.0 (h.1 ∷ h.2) all in
    let here = last.0 in
    let same = h.5 in
    let low = here.0 in
    let high = here.1 in
    omega (arith, low, high, same)

abbrev few_states : List State
few_states = Opening ∷ After [] ∷ After (1 ∷ []) ∷ []

rising_positions : (xs : List ℕ) → IsStrictlyIncreasing xs → ((x : ℕ) → In x xs → x ≡ 1) → In (After xs) few_states
rising_positions [] rising one = inr (inl refl)
rising_positions (x ∷ []) rising one = let e = one x (inl refl) in inr (inr (inl (λ i. After (sym e i ∷ []))))
rising_positions (x ∷ y ∷ xs) rising one =
    let e = one x (inl refl) in
    let f = one y (inr (inl refl)) in
    let below : x < y = rising 0 (omega arith) in
    absurd (omega (arith, e, f, below))

few : (state : State) → IsStateOf word_tree state → In state few_states
few Opening h = inl refl
few (After xs) ([], is, live) = absurd (let e = is in cc)
few (After xs) (phase ∷ phases, is, live) =
    rising_positions xs is.0 (λ x m. position_is (phase ∷ phases) x ((is.1 x).0 (contains_from_in x xs m)))

no_more : HasMoreStates word_tree 32 → ⊥
no_more (states, more, pairs, each) =
    let bound = different_are_few states few_states (different_from_pairs states pairs) (λ state m.
    few state (All-contains (IsStateOf word_tree) states state each (contains_from_in state states m))) in
    omega arith

no_fault_before : fault_before_states (codes "word" ∷ []) (codes "word+") ≡ None
no_fault_before = refl

grammar_within : IsGrammarTextWithinLimits (codes "word" ∷ []) (codes "word+")
grammar_within Long h = let e = no_fault_before in cc
grammar_within (Syntax at) h = let e = no_fault_before in cc
grammar_within (UnknownPhase at) h = let e = no_fault_before in cc
grammar_within Places h = let e = no_fault_before in cc
grammar_within States h = no_more (subst (λ (g : Grammar). HasMoreStates g 32) tree_is h.1)

-- ---- the files

abbrev forms_text : List ℕ
forms_text = text_of_lines small_lines

abbrev trie_text : List ℕ
trie_text = text_of_lines small_trie_lines

forms_version : version_of forms_text ≡ None
unfolding version_of
forms_version = refl

trie_version : version_of trie_text ≡ Some Second
unfolding version_of
trie_version = refl

forms_read_first : first.IsReadAs forms_text (Ok small_lexicon)
unfolding is_tag_text word_of_slp1 slp1_table slp1_of_word is_utf8 chars lib.Utf8.encode reading_of steps.take_line steps.take_end take_phase take_grammar take_plain take_rule take_form
forms_read_first = inl (grammar_within, refl)

forms_read : IsReadAs forms_text (Ok small_lexicon)
forms_read =
    subst (λ (version : Option Version). IsReadIn version forms_text (Ok small_lexicon)) (sym forms_version) (Ok small_lexicon, forms_read_first, refl)

trie_read_second : IsResult (reading_in Second trie_text) (Ok small_lexicon)
unfolding is_tag_text word_of_slp1 slp1_table slp1_of_word digits is_utf8 chars lib.Utf8.encode reading_in take_line take_phase take_grammar take_plain take_rule take_limited_rule take_node take_root take_end
trie_read_second = inl (grammar_within, refl)

trie_read : IsReadAs trie_text (Ok small_lexicon)
trie_read = subst (λ (version : Option Version). IsReadIn version trie_text (Ok small_lexicon)) (sym trie_version) trie_read_second

-- ---- the trie

-- what the lines of its file tell
abbrev told : Told
told = record {
  last = End;
  front = record {
    last = lines.Rule;
    names = codes "word" ∷ [];
    grammar = codes "word+";
    plain = [];
    rules = small_lexicon.rules.rules;
    forms = [];
  };
  rows = small_trie.rows;
  nodes =
      record { height = 0; bytes = codes "node 0::ind -" }
      ∷ record { height = 1; bytes = codes "node - a=0" }
      ∷ record { height = 1; bytes = codes "node - i=0" }
      ∷ record { height = 2; bytes = codes "node - t=2" }
      ∷ record { height = 3; bytes = codes "node - i=3,c=1" }
      ∷ [];
  roots = small_trie.roots;
}

is_told : Tells IsGrammarTextWithinLimits Second (reading_in Second trie_text) told
unfolding is_tag_text word_of_slp1 slp1_table slp1_of_word digits is_utf8 chars lib.Utf8.encode reading_in take_line take_phase take_grammar take_plain take_rule take_limited_rule take_node take_root take_end
is_told = (grammar_within, refl)

same_phases : phases_of small_trie ≡ small_lexicon.phases
same_phases = refl

in_order : IsOrderedTrieOf small_trie small_lexicon.phases
in_order = subst (IsOrderedTrieOf small_trie) same_phases (ordered Second trie_text told (all_read Second trie_text told is_told))

same_text : trie_text ≡ text_in Second small_lexicon.rules small_trie
unfolding text_in slp1_of_word slp1_table digits
same_text = refl

abbrev newest : IsTrieText Second small_lexicon trie_text
newest = record {
  has_text = subst (λ (version : Option Version). HasTextIn version small_lexicon) trie_version (read_lexicon trie_text small_lexicon trie_read);
  trie = small_trie;
  ordered = in_order;
  text = same_text;
}

-- ---- the run

abbrev lex : FileWord
lex = record { place = 1; name = codes "l1" }

abbrev out : FileWord
out = record { place = 2; name = codes "m" }

forms_short : length forms_text ≤ MOST_FILE_BYTES
forms_short = let e : length forms_text ≡ 88 = refl in omega (arith, e)

trie_short : length trie_text ≤ MOST_FILE_BYTES
trie_short = let e : length trie_text ≡ 120 = refl in omega (arith, e)

l1_tells : DoesTell small_files (codes "l1") (Holds small_lexicon)
l1_tells = IsLexicon forms_text (contents_of-with_file_same no_files (codes "l1") forms_text) forms_short small_lexicon forms_read refl

migrated : IsMigrateOutcome lex out small_files small_outcome
unfolding digits
migrated = record { tells = Holds small_lexicon; does_tell = l1_tells; is_outcome = OfText Second trie_text newest trie_short refl }

are_words : AreWordsOf (Migrate lex out) migrate_words
are_words = record {
  following = codes "l1" ∷ codes "m" ∷ [];
  are = refl;
  within_limit = All-from_recursion (λ (word : List ℕ). length word ≤ MOST_WORD_BYTES) (codes "l1" ∷ codes "m" ∷ []) (omega arith, (omega arith, tt));
  values = [];
  given = lex ∷ out ∷ [];
  have = refl;
  takes = (refl, refl);
}

pub small_run : (input : Option (List ℕ)) → IsOutcome migrate_words small_files input small_outcome
small_run input = OfCommand (Migrate lex out) are_words migrated
