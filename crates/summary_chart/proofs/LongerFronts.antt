-- Longer fronts: the letters of the line after those of a front lead from its node where they lead from the root of its phase.
use Rattle.std.proofs.Common.{◌≡◌, ℕ, ◌+◌, Some, List, ◌++◌, take, drop, sym, ap, ◌∙◌, take-add}
use Rattle.std.proofs.lemmas.List.{append_assoc, drop-drop}
use Rattle.text_definitions.specs.Lines.{Line}
use Rattle.lexicon_definitions.specs.Tries.{walk}
use Rattle.lexicon_definitions.proofs.TrieWalks.{walk-two}
use Rattle.annotated_trie.specs.Searched.{SearchedLexicon}
use Rattle.answer_paths.specs.Fronts.{supplied}
use Rattle.search_frames.specs.Configurations.{NumberedConfiguration}
use Rattle.search_frames.proofs.PossibleKeys.{root_in}
use Rattle.summary_chart.specs.Fronts.{IsFrontAt, front_after}

module _ (searched : SearchedLexicon) (line : Line) (here : NumberedConfiguration) where
  -- more letters after those of a front
  front_longer : (taken further : ℕ) → front_after line here (taken + further) ≡ front_after line here taken ++ take further (drop (here.at + taken) line.letters)
  front_longer taken further =
      ap (λ (word : List ℕ). supplied here.entrance ++ word)
      (take-add taken further (drop here.at line.letters)
      ∙ ap (λ (rest : List ℕ). take taken (drop here.at line.letters) ++ take further rest) (drop-drop taken here.at line.letters))
      ∙ sym (append_assoc (supplied here.entrance) (take taken (drop here.at line.letters)) (take further (drop (here.at + taken) line.letters)))

  module _ (phase taken node : ℕ) (front : IsFrontAt searched line here phase taken node) where
    -- so many letters more lead from the front's node where they lead from the root
    pub on_from_front : (further reached : ℕ) → walk searched.tries.trie.rows node (take further (drop (here.at + taken) line.letters)) ≡ Some reached
        → walk searched.tries.trie.rows (root_in searched phase) (front_after line here (taken + further)) ≡ Some reached
    on_from_front further reached walked =
        ap (walk searched.tries.trie.rows (root_in searched phase)) (front_longer taken further)
        ∙ walk-two searched.tries.trie.rows (front_after line here taken) (take further (drop (here.at + taken) line.letters)) (root_in searched phase) node front.walked
        ∙ walked

    pub back_to_front : (further reached : ℕ) → walk searched.tries.trie.rows (root_in searched phase) (front_after line here (taken + further)) ≡ Some reached
        → walk searched.tries.trie.rows node (take further (drop (here.at + taken) line.letters)) ≡ Some reached
    back_to_front further reached walked =
        sym (walk-two searched.tries.trie.rows (front_after line here taken) (take further (drop (here.at + taken) line.letters)) (root_in searched phase) node front.walked)
        ∙ ap (walk searched.tries.trie.rows (root_in searched phase)) (sym (front_longer taken further))
        ∙ walked
