-- A lexicon has one text in a version, since its phases have one ordered trie; and one newest text, since a lexicon with a limited rule has
-- none in version 2.
use Rattle.std.proofs.Common.{◌≡◌, ℕ, List, refl, sym, ◌∙◌, ap, subst}
use Rattle.std.specs.Prelude.{length}
use Rattle.std.proofs.lemmas.List.Elements.{All-contains}
use Rattle.lexicon_definitions.specs.Rules.{Rule, IsUnlimited}
use Rattle.lexicon_definitions.specs.Lexicons.{Lexicon}
use Rattle.trie_text_definitions.specs.Versions.{Version, Second, Third, HasRulesOf}
use Rattle.trie_text_definitions.specs.TrieTexts.{text_in}
use Rattle.trie_text_definitions.specs.VersionTexts.{IsTrieText, IsNewestText}
use Rattle.trie_text_definitions.proofs.OneTrie.{one_trie}

pub one_text : (version : Version) (lexicon : Lexicon) (left right : List ℕ) → IsTrieText version lexicon left → IsTrieText version lexicon right → left ≡ right
one_text version lexicon left right h k =
    h.text ∙ ap (text_in version lexicon.rules) (one_trie h.trie k.trie lexicon.phases h.ordered k.ordered) ∙ sym k.text

not_both : (count : ℕ) (rules : List Rule) → HasRulesOf Second count rules → HasRulesOf Third count rules → ⊥
not_both count rules all (rule, among, limited) = limited (All-contains (IsUnlimited count) rules rule all among)

one_version : (left right : Version) (count : ℕ) (rules : List Rule) → HasRulesOf left count rules → HasRulesOf right count rules → left ≡ right
one_version Second Second count rules h k = refl
one_version Second Third count rules h k = absurd (not_both count rules h k)
one_version Third Second count rules h k = absurd (not_both count rules k h)
one_version Third Third count rules h k = refl

pub one_newest : (lexicon : Lexicon) (left right : List ℕ) → IsNewestText lexicon left → IsNewestText lexicon right → left ≡ right
one_newest lexicon left right (version, h) (other, k) =
    let same = one_version version other (length lexicon.rules.names) lexicon.rules.rules h.has_text.rules k.has_text.rules in
    one_text other lexicon left right (subst (λ v. IsTrieText v lexicon left) same h) k
