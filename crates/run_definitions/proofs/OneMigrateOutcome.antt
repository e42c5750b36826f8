-- A lexicon has one newest text at most, whose length decides, and one trie in order, whose nodes are counted.
use Rattle.std.proofs.Common.{◌≡◌, ◌≤◌, ℕ, List, length, sym, ◌∙◌, ap, arith}
use Rattle.outside.specs.Files.{Files}
use Rattle.lexicon_definitions.specs.Lexicons.{Lexicon}
use Rattle.lexicon_definitions.specs.Tries.{Trie}
use Rattle.trie_text_definitions.specs.Versions.{Version}
use Rattle.trie_text_definitions.specs.VersionTexts.{IsTrieText, IsNewestText}
use Rattle.trie_text_definitions.proofs.OneText.{one_newest}
use Rattle.trie_text_definitions.proofs.OneTrie.{one_trie}
use Rattle.run_definitions.specs.Arguments.{FileWord}
use Rattle.run_definitions.specs.Ends.{Outcome}
use Rattle.run_definitions.specs.LongTexts.{HasLongText}
use Rattle.run_definitions.specs.MigrateOutcomes.{migrated_outcome, IsMigratedOutcome, OfLimit, OfText}
use Rattle.lexicon_text_definitions.specs.declared.limits.TheConstants.{MOST_FILE_BYTES}

-- a newest text within the limit is not one that is too long
pub not_long : (lexicon : Lexicon) (bytes : List ℕ) → IsNewestText lexicon bytes → length bytes ≤ MOST_FILE_BYTES → HasLongText lexicon → ⊥
not_long lexicon bytes newest within (more, other, long) =
    let same = ap length (one_newest lexicon bytes more newest other) in omega (arith, same, within, long)

-- the same text with the same nodes is written
migrated_once : (lexicon : Lexicon) (out : FileWord) (files : Files) (version other : Version) (bytes more : List ℕ)
    (left : IsTrieText version lexicon bytes) (right : IsTrieText other lexicon more)
    → migrated_outcome (length left.trie.rows) bytes out files ≡ migrated_outcome (length right.trie.rows) more out files
migrated_once lexicon out files version other bytes more left right =
    let same = one_newest lexicon bytes more (version, left) (other, right) in
    let trie = one_trie left.trie right.trie lexicon.phases left.ordered right.ordered in
    let nodes : length left.trie.rows ≡ length right.trie.rows = ap (λ (t : Trie). length t.rows) trie in
    λ i. migrated_outcome (nodes i) (same i) out files

-- `migrate` has one outcome over a lexicon
pub one_migrated : (lexicon : Lexicon) (lex out : FileWord) (files : Files) (a b : Outcome) → IsMigratedOutcome lexicon lex out files a
    → IsMigratedOutcome lexicon lex out files b → a ≡ b
one_migrated lexicon lex out files a b (OfLimit p e) (OfLimit q f) = e ∙ sym f
one_migrated lexicon lex out files a b (OfLimit p e) (OfText version bytes text within f) =
    absurd (not_long lexicon bytes (version, text) within p)
one_migrated lexicon lex out files a b (OfText version bytes text within e) (OfLimit q f) =
    absurd (not_long lexicon bytes (version, text) within q)
one_migrated lexicon lex out files a b (OfText version bytes text within e) (OfText other more too small f) =
    e ∙ migrated_once lexicon out files version other bytes more text too ∙ sym f
