-- The forms that a trie tells, each with its analyses, and which deltas are the right ones (own; deltas are Huet's differential words).
use Rattle.std.specs.Prelude.{ℕ, ◌-◌, not, ◌&&◌, nat_eq, nat_le, nat_lt, Bool, List, [], map, length, take, sum_by}
use Rattle.std.specs.List.{list_any, list_all, range_with_len, starts_with}
use Rattle.list_laws.specs.RisingSets.{with_elements}
use Rattle.lexicon_definitions.specs.declared.limits.TheConstants.{MOST_FORM_LETTERS, MOST_FORM_LINES}
use Rattle.lexicon_definitions.specs.Analyses.{Analysis, compare_analyses}
use Rattle.lexicon_definitions.specs.Deltas.{Delta, replace_end, analysis_by}
use Rattle.lexicon_definitions.specs.Lexicons.{Form}
use Rattle.lexicon_definitions.specs.Tries.{Row, Trie}
use Rattle.trie_text_definitions.specs.NodeValues.{Suffix, suffixes_of}

-- the analyses that deltas give a form, rising
abbrev pub analyses_by : List ℕ → List Delta → List Analysis
analyses_by form deltas = with_elements compare_analyses [] (map (analysis_by form) deltas)

-- the form that a suffix of a root is
abbrev pub form_of_suffix : Suffix → Form
form_of_suffix suffix = record { letters = suffix.word; analyses = analyses_by suffix.word suffix.deltas }

-- the forms for which a root stands
abbrev pub forms_of_root : List Row → ℕ → List Form
forms_of_root rows root = map form_of_suffix (suffixes_of rows root)

-- the forms of each phase
abbrev pub phases_of : Trie → List (List Form)
phases_of trie = map (forms_of_root trie.rows) trie.roots

-- how many pairs of a form and one of its deltas there are, counted in each phase and added up
abbrev pub count_pairs : Trie → ℕ
count_pairs trie = sum_by (λ root. sum_by (λ suffix. length suffix.deltas) (suffixes_of trie.rows root)) trie.roots

-- there are more of these pairs than a lexicon may have
abbrev pub has_too_many_pairs : Trie → Bool
has_too_many_pairs trie = nat_lt MOST_FORM_LINES (count_pairs trie)

-- the stem has a letter, and not too many
abbrev pub is_stem_length : List ℕ → Bool
is_stem_length stem = nat_le 1 (length stem) && nat_le (length stem) MOST_FORM_LETTERS

-- the form without its last so many letters begins the stem, so that a delta with this cut gives the stem
abbrev pub may_cut : List ℕ → List ℕ → ℕ → Bool
may_cut form stem cut = starts_with nat_eq stem (take (length form - cut) form)

-- the delta cuts no more letters than the form has, gives a stem of lawful length, and no smaller cut gives the same stem
abbrev pub is_right_delta : List ℕ → Delta → Bool
is_right_delta form delta =
    nat_le delta.cut (length form) && is_stem_length (replace_end form delta.cut delta.append)
    && not (list_any (may_cut form (replace_end form delta.cut delta.append)) (range_with_len 0 delta.cut))

-- each delta of the suffix is right for the form that the suffix is
abbrev pub has_right_deltas : Suffix → Bool
has_right_deltas suffix = list_all (is_right_delta suffix.word) suffix.deltas

-- some delta of some form is not right
abbrev pub has_wrong_delta : Trie → Bool
has_wrong_delta trie = not (list_all (λ root. list_all has_right_deltas (suffixes_of trie.rows root)) trie.roots)
