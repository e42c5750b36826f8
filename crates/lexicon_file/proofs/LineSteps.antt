-- After each line that is taken the kind of the last line among version 1's is still in step, and at most one row more is told.
use Rattle.std.proofs.Common.{◌≡◌, ℕ, ◌+◌, ◌≤◌, Bool, true, Ok, List, length, refl, ◌∙◌, ap, subst, arith}
use Rattle.std.proofs.lemmas.List.{length_push}
use Rattle.lexicon_text_definitions.specs.FileLines as lines
use Rattle.lexicon_text_definitions.specs.FileLines.{Line}
use Rattle.trie_text_definitions.specs.Versions.{Version}
use Rattle.trie_text_definitions.specs.VersionSteps.{Kind, Grammar, Plain, Rules, Node, Root, End, Told, may_follow, are_rooted, take_line}
use Rattle.trie_text_definitions.proofs.LimitedRuleSteps.{took_limited}
use Rattle.trie_text_definitions.proofs.VersionLines.{Took, a_name, a_grammar, a_pair, a_rule, a_limited, a_node, a_root, the_end, took_line}
use Rattle.trie_text_definitions.proofs.VersionsTold.{end_taken}
use Rattle.lexicon_text_definitions.specs.FileLines.{fields_of}
use Rattle.lexicon_file.specs.Told.{InStep}

in_body : (front kind : lines.Kind) → front ≡ kind → lines.may_follow kind lines.End ≡ true → lines.may_follow front lines.End ≡ true
in_body front kind e h = ap (λ (k : lines.Kind). lines.may_follow k lines.End) e ∙ h

-- before a node, a root or the end the last line among version 1's was one of the body
before_node : (rooted : Bool) (last : Kind) (front : lines.Kind) → may_follow rooted last Node ≡ true → InStep last front → lines.may_follow front lines.End ≡ true
before_node rooted Grammar front f s = in_body front lines.Grammar s refl
before_node rooted Plain front f s = in_body front lines.Plain s refl
before_node rooted Rules front f s = in_body front lines.Rule s refl
before_node rooted Node front f s = s
before_node rooted last front f s = absurd (cc)

before_root : (rooted : Bool) (last : Kind) (front : lines.Kind) → may_follow rooted last Root ≡ true → InStep last front → lines.may_follow front lines.End ≡ true
before_root rooted Node front f s = s
before_root rooted Root front f s = s
before_root rooted last front f s = absurd (cc)

before_end : (rooted : Bool) (last : Kind) (front : lines.Kind) → may_follow rooted last End ≡ true → InStep last front → lines.may_follow front lines.End ≡ true
before_end rooted Root front f s = s
before_end rooted last front f s = absurd (cc)

-- in step, with at most so many rows
abbrev GoesOn : ℕ → Told → Type 0
GoesOn count after = InStep after.last after.front.last × (length after.rows ≤ count + 1)

goes_on : (version : Version) (told after : Told) (bytes : List ℕ) → InStep told.last told.front.last → Took version told after bytes → GoesOn (length told.rows) after
goes_on version told after bytes s (a_name name f b m is) = subst (GoesOn (length told.rows)) is (refl, omega arith)
goes_on version told after bytes s (a_grammar text f b is) = subst (GoesOn (length told.rows)) is (refl, omega arith)
goes_on version told after bytes s (a_pair pair f b m is) = subst (GoesOn (length told.rows)) is (refl, omega arith)
goes_on version told after bytes s (a_rule e u v w f b m is) = subst (GoesOn (length told.rows)) is (refl, omega arith)
goes_on version told after bytes s (a_limited e rest f b t) =
    let taken = took_limited told after (fields_of rest) t in
    subst (GoesOn (length told.rows)) taken.is (refl, omega arith)
goes_on version told after bytes s (a_node row f b m is) =
    let long = length_push told.rows row in
    subst (GoesOn (length told.rows)) is (before_node (are_rooted told) told.last told.front.last f s, omega (arith, long))
goes_on version told after bytes s (a_root root f b m is) =
    subst (GoesOn (length told.rows)) is (before_root (are_rooted told) told.last told.front.last f s, omega arith)
goes_on version told after bytes s (the_end f b t) =
    subst (GoesOn (length told.rows)) (end_taken version told after t).1 (before_end (are_rooted told) told.last told.front.last f s, omega arith)

pub after_line : (version : Version) (told after : Told) (line : Line) → take_line version told line ≡ Ok after → InStep told.last told.front.last
    → InStep after.last after.front.last × (length after.rows ≤ length told.rows + 1)
after_line version told after line t s = goes_on version told after line.bytes s (took_line version told after line t).1
