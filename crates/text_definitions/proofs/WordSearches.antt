-- What a binary search for a word says of a rising list, by the laws on searches: the order of words tells all words apart.
use Rattle.std.proofs.Common.{◌≡◌, ℕ, ◌↔◌, List, length, map, get_or, Result, Contains, IsTrue, IfOk, is_ok}
use Rattle.std.specs.Ordering.{on}
use Rattle.std.specs.List.Sorted.{IsStrictlySortedBy, IsBinarySearchResult, IsSearchInRange}
use Rattle.std.proofs.lemmas.Cmp.{nat_list_cmp_total}
use Rattle.std.proofs.lemmas.Map.Lookups.{exact_bytes}
use Rattle.list_laws.proofs.Searches.{found, found_at, found_key}
use Rattle.text_definitions.specs.Words.{compare_words}

-- a search for a word among rising words
pub found_word : (words : List (List ℕ)) (word : List ℕ) (r : Result ℕ ℕ) → IsStrictlySortedBy compare_words words
    → IsSearchInRange r (length words) → IsBinarySearchResult (λ other. compare_words other word) words r → IsTrue (is_ok r) ↔ Contains words word
found_word = found nat_list_cmp_total exact_bytes

-- a search for a word among entries that rise by their words, and the entry at the place that it found
pub found_entry : {X : Type 0} (word_of : X → List ℕ) (entries : List X) (word : List ℕ) (r : Result ℕ ℕ)
    → IsStrictlySortedBy (on word_of compare_words) entries → IsSearchInRange r (length entries)
    → IsBinarySearchResult (λ entry. compare_words (word_of entry) word) entries r → IsTrue (is_ok r) ↔ Contains (map word_of entries) word
found_entry = found_key nat_list_cmp_total exact_bytes

pub entry_found_at : {X : Type 0} (word_of : X → List ℕ) (entries : List X) (word : List ℕ) (r : Result ℕ ℕ)
    → IsBinarySearchResult (λ entry. compare_words (word_of entry) word) entries r → IfOk r (λ i. (d : X) → word_of (get_or entries i d) ≡ word)
entry_found_at = found_at nat_list_cmp_total exact_bytes
