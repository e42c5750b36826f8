-- Forms with one entry more: which words begin a form and which deltas there are; and what stays of a node, which is all where the
-- entry's form does not begin with the node's front.
use Rattle.std.proofs.Common.{◌≡◌, ◌⊎◌, inl, inr, ℕ, List, [], ◌∷◌, ◌++◌, sym, ◌∙◌, ap, subst, append_assoc}
use Rattle.std.specs.Prelude.{Contains}
use Rattle.std.proofs.lemmas.List.Elements.{Contains-append_left, Contains-push, Contains-push_cases}
use Rattle.lexicon_definitions.specs.Analyses.{Analysis}
use Rattle.lexicon_definitions.specs.Deltas.{Delta}
use Rattle.lexicon_definitions.specs.Lexicons.{Form}
use Rattle.lexicon_definitions.specs.Tries.{Row, BeginsForm, HasDelta, IsNodeAfter}
use Rattle.shared_trie.specs.OpenForms.{IsKnownChild}
use Rattle.shared_trie.specs.Runs.{HasFront}

-- the new forms are the old ones, with an analysis of this word
pub record HaveWord (old new : List Form) (word : List ℕ) : Type 0 where
  pub begins_old : (w : List ℕ) → BeginsForm old w → BeginsForm new w
  pub begins_new : (w : List ℕ) → BeginsForm new w → BeginsForm old w ⊎ HasFront w word
  pub deltas_old : (w : List ℕ) (delta : Delta) → HasDelta old w delta → HasDelta new w delta
  pub deltas_new : (w : List ℕ) (delta : Delta) → HasDelta new w delta → HasDelta old w delta ⊎ (w ≡ word)

-- one form more
pub word_appended : (old : List Form) (form : Form) → HaveWord old (old ++ form ∷ []) form.letters
word_appended old form = record {
  begins_old = λ w b. record { form = b.form; is_among = Contains-append_left old (form ∷ []) b.form b.is_among; rest = b.rest; has_letters = b.has_letters };
  begins_new = λ w b.
      elim (Contains-push_cases old form b.form b.is_among) [
        | inl earlier ↦ inl (record { form = b.form; is_among = earlier; rest = b.rest; has_letters = b.has_letters })
        | inr same ↦ inr (b.rest, ap (λ (f : Form). f.letters) same ∙ b.has_letters)
      ];
  deltas_old = λ w delta h.
      record {
        form = h.form;
        is_among = Contains-append_left old (form ∷ []) h.form h.is_among;
        has_letters = h.has_letters;
        analysis = h.analysis;
        is_analyzed = h.is_analyzed;
        is_delta = h.is_delta;
      };
  deltas_new = λ w delta h.
      elim (Contains-push_cases old form h.form h.is_among) [
        | inl earlier ↦ inl (record { form = h.form; is_among = earlier; has_letters = h.has_letters; analysis = h.analysis; is_analyzed = h.is_analyzed; is_delta = h.is_delta })
        | inr same ↦ inr (sym (ap (λ (f : Form). f.letters) same ∙ h.has_letters))
      ];
}

-- one analysis more of the last form
pub word_analyzed : (before : List Form) (letters : List ℕ) (analyses : List Analysis) (analysis : Analysis)
    → HaveWord (before ++ record { letters = letters; analyses = analyses } ∷ []) (before ++ record { letters = letters; analyses = analyses ++ analysis ∷ [] } ∷ []) letters
word_analyzed before letters analyses analysis =
    let old : Form = record { letters = letters; analyses = analyses } in
    let new : Form = record { letters = letters; analyses = analyses ++ analysis ∷ [] } in
    record {
      begins_old = λ w b.
          elim (Contains-push_cases before old b.form b.is_among) [
            | inl earlier ↦ record { form = b.form; is_among = Contains-append_left before (new ∷ []) b.form earlier; rest = b.rest; has_letters = b.has_letters }
            | inr same ↦ record { form = new; is_among = Contains-push before new; rest = b.rest; has_letters = ap (λ (f : Form). f.letters) same ∙ b.has_letters }
          ];
      begins_new = λ w b.
          elim (Contains-push_cases before new b.form b.is_among) [
            | inl earlier ↦ inl (record { form = b.form; is_among = Contains-append_left before (old ∷ []) b.form earlier; rest = b.rest; has_letters = b.has_letters })
            | inr same ↦ inl (record { form = old; is_among = Contains-push before old; rest = b.rest; has_letters = ap (λ (f : Form). f.letters) same ∙ b.has_letters })
          ];
      deltas_old = λ w delta h.
          elim (Contains-push_cases before old h.form h.is_among) [
            | inl earlier ↦
                record {
                  form = h.form;
                  is_among = Contains-append_left before (new ∷ []) h.form earlier;
                  has_letters = h.has_letters;
                  analysis = h.analysis;
                  is_analyzed = h.is_analyzed;
                  is_delta = h.is_delta;
                }
            | inr same ↦
                record {
                  form = new;
                  is_among = Contains-push before new;
                  has_letters = ap (λ (f : Form). f.letters) same ∙ h.has_letters;
                  analysis = h.analysis;
                  is_analyzed = Contains-append_left analyses (analysis ∷ []) h.analysis (subst (λ (f : Form). Contains f.analyses h.analysis) (sym same) h.is_analyzed);
                  is_delta = h.is_delta;
                }
          ];
      deltas_new = λ w delta h.
          elim (Contains-push_cases before new h.form h.is_among) [
            | inl earlier ↦
                inl (record {
                  form = h.form;
                  is_among = Contains-append_left before (old ∷ []) h.form earlier;
                  has_letters = h.has_letters;
                  analysis = h.analysis;
                  is_analyzed = h.is_analyzed;
                  is_delta = h.is_delta;
                })
            | inr same ↦ inr (sym (ap (λ (f : Form). f.letters) same ∙ h.has_letters))
          ];
    }

module _ (old new : List Form) (word : List ℕ) (have : HaveWord old new word) where
  -- what a word that is longer than a front begins
  shorter_front : (front more : List ℕ) → HasFront (front ++ more) word → HasFront front word
  shorter_front front more (rest, e) = (more ++ rest, e ∙ append_assoc front more rest)

  -- a node stays where the word does not begin with its front
  pub node_stays : (rows : List Row) (front : List ℕ) (node : ℕ) → (HasFront front word → ⊥) → IsNodeAfter rows old front node → IsNodeAfter rows new front node
  node_stays rows front node apart is = record {
    walks = λ w. (
      λ walks. elim ((is.walks w).0 walks) [ inl none ↦ inl none | inr begins ↦ inr (have.begins_old (front ++ w) begins) ],
      elim [
        | inl none ↦ (is.walks w).1 (inl none)
        | inr begins ↦ elim (have.begins_new (front ++ w) begins) [
          | inl before ↦ (is.walks w).1 (inr before)
          | inr longer ↦ absurd (apart (shorter_front front w longer))
        ]
      ],
    );
    deltas = λ w reached walked delta. (
      λ has. have.deltas_old (front ++ w) delta ((is.deltas w reached walked delta).0 has),
      λ has. elim (have.deltas_new (front ++ w) delta has) [
        | inl before ↦ (is.deltas w reached walked delta).1 before
        | inr same ↦ absurd (apart (w, sym same))
      ],
    );
  }

  -- and so does a child
  pub child_stays : (rows : List Row) (front : List ℕ) (child : ℕ × ℕ) → (HasFront (front ++ child.0 ∷ []) word → ⊥)
      → IsKnownChild rows old front child → IsKnownChild rows new front child
  child_stays rows front child apart is = record {
    letter = is.letter;
    known = record {
      there = is.known.there;
      not_empty = is.known.not_empty;
      after = node_stays rows (front ++ child.0 ∷ []) child.1 apart is.known.after;
    };
    begins = have.begins_old (front ++ child.0 ∷ []) is.begins;
  }
