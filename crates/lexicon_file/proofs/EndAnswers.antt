-- The answers to the last line: what is asked of the trie and of the rules decides one after another.
use Rattle.std.proofs.Common.{◌≡◌, ℕ, Bool, true, false, cond, Option, Some, None, Ok, Err, List, true≢false, refl, sym, ◌∙◌}
use Rattle.std.specs.Option.{is_some}
use Rattle.std.specs.Borrow.{Bor}
use Rattle.list_laws.proofs.Booleans.{when_true, when_false}
use Rattle.trie_text_definitions.specs.NodeValues.{has_unused}
use Rattle.trie_text_definitions.specs.TrieForms.{has_too_many_pairs, has_wrong_delta}
use Rattle.trie_text_definitions.specs.Versions.{Version}
use Rattle.trie_text_definitions.specs.VersionFaults as faults
use Rattle.trie_text_definitions.specs.VersionSteps.{Told, End, Taken, trie_told, lacks_limited, take_end}
use Rattle.form_file.specs.Fields.{text_of_rest}

-- the answer by what is asked
abbrev end_by : Bool → Bool → Bool → Bool → Told → Taken
end_by many unused wrong lacks told =
    cond many (Err faults.Limit) (cond unused (Err faults.Unused) (cond wrong (Err faults.Delta) (cond lacks (Err faults.Unlimited) (Ok (record told { last = End })))))

pub alone : (rest : Option (Bor (List ℕ))) → false ≡ is_some rest → text_of_rest rest ≡ None
alone None h = refl
alone (Some rest) h = absurd (true≢false (sym h))

pub no_more : (version : Version) (told : Told) (rest : Option (Bor (List ℕ))) → true ≡ is_some rest → take_end version told (text_of_rest rest) ≡ Err faults.Field
unfolding take_end
no_more version told None h = absurd (true≢false h)
no_more version told (Some rest) h = refl

module _ (version : Version) (kept told : Told) (view : kept ≡ told) (rest : Option (List ℕ)) (alone : rest ≡ None) where
  taken_by : take_end version told rest ≡ end_by (has_too_many_pairs (trie_told kept)) (has_unused (trie_told kept)) (has_wrong_delta (trie_told kept)) (lacks_limited version kept.front) kept
  unfolding take_end
  taken_by = λ i. take_end version (sym view i) (alone i)

  pub too_many : has_too_many_pairs (trie_told kept) ≡ true → take_end version told rest ≡ Err faults.Limit
  too_many h = taken_by ∙ when_true (has_too_many_pairs (trie_told kept)) _ _ _ h refl

  module _ (few : has_too_many_pairs (trie_told kept) ≡ false) where
    few_taken : take_end version told rest ≡ cond (has_unused (trie_told kept)) (Err faults.Unused) (cond (has_wrong_delta (trie_told kept)) (Err faults.Delta) (cond (lacks_limited version kept.front) (Err faults.Unlimited) (Ok (record kept { last = End }))))
    few_taken = taken_by ∙ when_false (has_too_many_pairs (trie_told kept)) _ _ _ few refl

    pub some_unused : has_unused (trie_told kept) ≡ true → take_end version told rest ≡ Err faults.Unused
    some_unused h = few_taken ∙ when_true (has_unused (trie_told kept)) _ _ _ h refl

    module _ (used : has_unused (trie_told kept) ≡ false) where
      used_taken : take_end version told rest ≡ cond (has_wrong_delta (trie_told kept)) (Err faults.Delta) (cond (lacks_limited version kept.front) (Err faults.Unlimited) (Ok (record kept { last = End })))
      used_taken = few_taken ∙ when_false (has_unused (trie_told kept)) _ _ _ used refl

      pub some_wrong : has_wrong_delta (trie_told kept) ≡ true → take_end version told rest ≡ Err faults.Delta
      some_wrong h = used_taken ∙ when_true (has_wrong_delta (trie_told kept)) _ _ _ h refl

      module _ (right : has_wrong_delta (trie_told kept) ≡ false) where
        right_taken : take_end version told rest ≡ cond (lacks_limited version kept.front) (Err faults.Unlimited) (Ok (record kept { last = End }))
        right_taken = used_taken ∙ when_false (has_wrong_delta (trie_told kept)) _ _ _ right refl

        pub none_limited : lacks_limited version kept.front ≡ true → take_end version told rest ≡ Err faults.Unlimited
        none_limited h = right_taken ∙ when_true (lacks_limited version kept.front) _ _ _ h refl

        pub end_taken : lacks_limited version kept.front ≡ false → take_end version told rest ≡ Ok (record kept { last = End })
        end_taken h = right_taken ∙ when_false (lacks_limited version kept.front) _ _ _ h refl
