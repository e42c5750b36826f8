-- A run that is followed by hand: `migrate` over the file of a small lexicon (own).
use Rattle.std.specs.Prelude.{ℕ, List, [], ◌∷◌, codes}
use Rattle.outside.specs.Files.{Files, no_files, with_file}
use Rattle.lexicon_definitions.specs.Tries.{Row, Trie}
use Rattle.lexicon_text_definitions.specs.LexiconTexts.{text_of_lines}
use Rattle.segmentation_definitions.specs.PrintedAnswers.{output_line}
use Rattle.trie_text_definitions.specs.WorkedFiles.{small_lines, small_trie_lines}
use Rattle.run_definitions.specs.Ends.{Outcome, Done}

-- `l1` holds the lexicon of `ca` and `iti`, whose file lists its forms, and there is no other file
abbrev pub small_files : Files
small_files = with_file no_files (codes "l1") (text_of_lines small_lines)

-- the words of the run
abbrev pub migrate_words : List (List ℕ)
migrate_words = codes "migrate" ∷ codes "l1" ∷ codes "m" ∷ []

-- the node that letters lead to, from the node of this row
abbrev pub row_with : List (ℕ × ℕ) → Row
row_with children = record { deltas = []; children = children }

-- the trie of `ca` and `iti`: where both end; after `c`, after `it` and after `i`; and the root, from which `i` and `c` lead on
abbrev pub small_trie : Trie
small_trie = record {
  rows =
      record { deltas = record { cut = 0; append = []; tag = codes "ind" } ∷ []; children = [] }
      ∷ row_with ((1, 0) ∷ [])
      ∷ row_with ((3, 0) ∷ [])
      ∷ row_with ((32, 2) ∷ [])
      ∷ row_with ((3, 3) ∷ (22, 1) ∷ [])
      ∷ [];
  roots = 4 ∷ [];
}

-- the run prints how many nodes these are, and `m` tells them
abbrev pub small_outcome : Outcome
small_outcome = record {
  output = output_line (codes "nodes 5");
  files = with_file small_files (codes "m") (text_of_lines small_trie_lines);
  end = Done;
}
