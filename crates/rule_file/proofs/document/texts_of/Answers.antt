-- Item by item the texts so far stand before those of the rest, and after the last item there is no rest.
use Rattle.std.proofs.Common.{◌≡◌, ℕ, ◌+◌, ◌<◌, ◌≤◌, Option, Some, None, List, [], ◌∷◌, ◌++◌, length, drop, get_or, map, refl, sym, ◌∙◌, ap, Global, String, rules}
use Rattle.std.specs.String.{string_bytes}
use Rattle.std.proofs.lemmas.List.{append_assoc, append-nil, at_drop_all, drop_more, map_push}
use Rattle.toml.specs.declared.value.Value.{Value}
use Rattle.toml.specs.declared.value.Value as values
use Rattle.toml.specs.Data.{Data, item}
use Rattle.toml.specs.View.{items_view}
use Rattle.toml.proofs.Views.{view-String}
use Rattle.rule_file_definitions.specs.RuleTexts.{texts_of, with_text}
use Rattle.rule_file.specs.Held.{with_texts}
use Rattle.rule_file.proofs.document.texts_of.Goals as goal

-- one text more before the others
with_next : (front : List (List ℕ)) (text : List ℕ) (rest : Option (List (List ℕ))) → with_texts (front ++ text ∷ []) rest ≡ with_texts front (with_text text rest)
with_next front text None = refl
with_next front text (Some texts) = ap Some (append_assoc front (text ∷ []) texts)

-- the next item is a text
text_read : (items : List Value) (i : ℕ) (one : Value) (text : String Global) (front after : List (List ℕ)) → i < length items → one ≡ get_or items i one
    → one ≡ values.String text → after ≡ front ++ string_bytes text ∷ [] → with_texts front (texts_of (items_view (drop i items))) ≡ texts_of (items_view items)
    → with_texts after (texts_of (items_view (drop (i + 1) items))) ≡ texts_of (items_view items)
text_read items i one text front after low is is_text more so_far =
    let next : drop i items ≡ values.String text ∷ drop (i + 1) items = drop_more items i one low ∙ ap (λ (v : Value). v ∷ drop (i + 1) items) (sym is ∙ is_text) in
    let seen : texts_of (items_view (values.String text ∷ drop (i + 1) items)) ≡ with_text (string_bytes text) (texts_of (items_view (drop (i + 1) items))) =
    ap (λ (value : Data). texts_of (item value (items_view (drop (i + 1) items)))) (view-String text) in
    ap (λ (texts : List (List ℕ)). with_texts texts (texts_of (items_view (drop (i + 1) items)))) more
    ∙ with_next front (string_bytes text) (texts_of (items_view (drop (i + 1) items)))
    ∙ ap (with_texts front) (sym seen) ∙ sym (ap (λ (rest : List Value). with_texts front (texts_of (items_view rest))) next)
    ∙ so_far

-- no item is left
all_read : (items : List Value) (i : ℕ) (front : List (List ℕ)) → length items ≤ i → with_texts front (texts_of (items_view (drop i items))) ≡ texts_of (items_view items)
    → texts_of (items_view items) ≡ Some front
all_read items i front end so_far =
    sym so_far ∙ at_drop_all (λ (rest : List Value). with_texts front (texts_of (items_view rest))) items i end ∙ ap Some (append-nil front)

no_texts : (rest : Option (List (List ℕ))) → with_texts [] rest ≡ rest
no_texts None = refl
no_texts (Some texts) = refl

pub loop-item-init : goal.loop-item-init
loop-item-init c =
    ap (λ (front : List (String Global)). with_texts (map (string_bytes {Z = Global}) front) (texts_of (items_view c.deref-item-items.result.now))) c.in_ok-texts.ensures.items
    ∙ no_texts (texts_of (items_view c.deref-item-items.result.now))

pub loop-item-preserved : goal.loop-item-preserved
loop-item-preserved c =
    let copied : string_bytes {Z = Global} c.in_ok-clone.field-0 ≡ string_bytes c.in-String.text = search rules in
    let more : map (string_bytes {Z = Global}) c.push.new.self.items ≡ map (string_bytes {Z = Global}) c.loop-item.texts.items ++ string_bytes c.in-String.text ∷ [] =
    ap (map (string_bytes {Z = Global})) c.in_ok-push.ensures.items ∙ map_push (string_bytes {Z = Global}) c.loop-item.texts.items c.in_ok-clone.field-0
    ∙ ap (λ (text : List ℕ). map (string_bytes {Z = Global}) c.loop-item.texts.items ++ text ∷ []) copied in
    text_read c.deref-item-items.result.now c.loop-item.item-index c.item-item.result c.in-String.text (map (string_bytes {Z = Global}) c.loop-item.texts.items) _ c.loop-item-test.true
    c.item-item.is c.in-String.is more c.loop-item.invariant

pub returns-clause-ok : goal.returns-clause-ok
returns-clause-ok c =
    ap (λ (items : List Value). texts_of (items_view items)) (sym c.deref-item-items.ensures.value)
    ∙ all_read c.deref-item-items.result.now c.loop-item.item-index (map (string_bytes {Z = Global}) c.loop-item.texts.items) c.loop-item-test.false c.loop-item.invariant
