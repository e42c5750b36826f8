-- All lines are read one after another: what was told is lawful and spells the lines so far after each of them, and so at the end.
use Rattle.std.proofs.Common.{◌≡◌, ◌≢◌, ℕ, ◌+◌, ◌<◌, ◌≤◌, true, false, None, Ok, Err, List, [], ◌∷◌, ◌++◌, length, map, All, slice_index_or, refl, sym, ◌∙◌, ap, subst, arith}
use Rattle.std.specs.List.{AllByRecursion}
use Rattle.std.proofs.lemmas.List.{append_assoc, append-nil, map-append, length_push}
use Rattle.std.proofs.lemmas.List.Elements.{All-push, All-nil}
use Rattle.list_laws.proofs.Booleans.{if_refused}
use Rattle.list_laws.proofs.Sorted.{sorted_nil}
use Rattle.text_definitions.specs.Letters.{IsLetter}
use Rattle.lexicon_definitions.specs.declared.limits.TheConstants.{MOST_RULES, MOST_LEADS}
use Rattle.lexicon_definitions.specs.Rules.{Rule, IsUnlimited, unlimited_rule}
use Rattle.lexicon_definitions.specs.Leads.{leads_of}
use Rattle.lexicon_definitions.specs.Lexicons.{IsPhaseName}
use Rattle.lexicon_definitions.specs.Tries.{Row}
use Rattle.lexicon_definitions.proofs.PlainPairs.{pairs_total}
use Rattle.lexicon_definitions.proofs.UnlimitedRules.{unlimited_by}
use Rattle.lexicon_text_definitions.specs.FileContents as first
use Rattle.lexicon_text_definitions.specs.FileContents.{different_v}
use Rattle.lexicon_text_definitions.specs.FileLines.{Line, fields_of}
use Rattle.lexicon_text_definitions.specs.LexiconTexts.{phase_line, grammar_line, plain_line, end_line}
use Rattle.lexicon_text_definitions.proofs.FileLeads.{leads_with, leads_counted}
use Rattle.lexicon_text_definitions.proofs.LineSteps as steps
use Rattle.lexicon_text_definitions.proofs.LineSteps.{MayName, MayPair, MayRule}
use Rattle.lexicon_text_definitions.proofs.LineTests.{IsOther, pairs_push}
use Rattle.lexicon_text_definitions.proofs.RisingLines.{sorted_with_last}
use Rattle.trie_text_definitions.specs.Versions.{Version, Second, Third, head_line}
use Rattle.trie_text_definitions.specs.VersionFaults.{Limit, Unused, Unlimited}
use Rattle.trie_text_definitions.specs.VersionFaults as faults
use Rattle.trie_text_definitions.specs.NodeValues.{has_unused}
use Rattle.trie_text_definitions.specs.TrieForms.{has_too_many_pairs, has_wrong_delta}
use Rattle.trie_text_definitions.specs.NodeLines.{node_line, node_line_over}
use Rattle.trie_text_definitions.specs.TrieTexts.{rule_line_in, root_line, root_lines}
use Rattle.trie_text_definitions.specs.VersionSteps.{Kind, Phase, Grammar, Plain, Rules, Node, Root, End, Told, Taken, head_told, trie_told, are_rooted, may_follow, lacks_limited, take_end, take_line}
use Rattle.trie_text_definitions.specs.VersionReadings.{Reading, Content, Fault, Asks, asking, read_on, read_lines, at_end}
use Rattle.trie_text_definitions.proofs.NodeSteps.{node_lines_total, with_row, MayNode, with_root, MayRoot}
use Rattle.trie_text_definitions.proofs.LimitedRuleSteps.{took_limited}
use Rattle.trie_text_definitions.proofs.ToldTries.{no_nodes, nodes_with_row, nodes_with_root}
use Rattle.trie_text_definitions.proofs.VersionLines.{with_told, with_end, Took, a_name, a_grammar, a_pair, a_rule, a_limited, a_node, a_root, the_end, took_line}
use Rattle.trie_text_definitions.proofs.VersionsSoFar.{IsTextRule, IsLawfulFront, IsLawful, NothingLater, HasGrammar, grammar_so_far, plain_so_far, rules_so_far, nodes_so_far, lines_so_far, before_name, before_grammar, before_pair, before_rule, before_node, before_root, before_end, leads_more, root_lines_more, unlimited_told, limited_line}

-- what the line `end` tests
pub record EndsWell (version : Version) (told : Told) : Type 0 where
  pub few_pairs : has_too_many_pairs (trie_told told) ≡ false
  pub used : has_unused (trie_told told) ≡ false
  pub right : has_wrong_delta (trie_told told) ≡ false
  pub limited : lacks_limited version told.front ≡ false

pub end_taken : (version : Version) (told after : Told) → take_end version told None ≡ Ok after → EndsWell version told × (with_end told ≡ after)
unfolding take_end
end_taken version told after h =
    let few = if_refused (has_too_many_pairs (trie_told told)) _ Limit after h in
    let used = if_refused (has_unused (trie_told told)) _ Unused after few.1 in
    let right = if_refused (has_wrong_delta (trie_told told)) _ faults.Delta after used.1 in
    let limited = if_refused (lacks_limited version told.front) _ Unlimited after right.1 in
    (record { few_pairs = few.0; used = used.0; right = right.0; limited = limited.0 }, cc (limited.1))

-- it was tested, once the line `end` is told
abbrev pub HasEnded : Version → Kind → Told → Type 0
HasEnded version End told = EndsWell version told
HasEnded version last told = Unit {0}

module _ (P : List (List ℕ) → List ℕ → Type 0) (version : Version) where
  -- what holds after a line: all as before, with the line at the end; the grammar is one, unless the line is the grammar's own
  pub record GoesOn (told after : Told) (bytes : List ℕ) : Type 0 where
    pub lawful : IsLawful version after
    pub later : NothingLater after.last after
    pub ended : HasEnded version after.last after
    pub grammar : HasGrammar P told.last told → after.last ≢ Grammar → HasGrammar P after.last after
    pub so_far : lines_so_far version after.last after ≡ lines_so_far version told.last told ++ bytes ∷ []

  module _ (told : Told) (h : IsLawful version told) (n : NothingLater told.last told) where
    name_goes_on : (name : List ℕ) → may_follow (are_rooted told) told.last Phase ≡ true → MayName told.front name
        → GoesOn told (with_told told Phase (steps.with_name told.front name)) (phase_line name)
    name_goes_on name f m =
        let (none, so_far) = before_name version (are_rooted told) told.last told f n in
        let (p, r, w, t) = none in
        let long = length_push told.front.names name in
        let front = h.front in
        record {
          lawful = record {
            front = record {
              names = All-push IsPhaseName told.front.names name front.names m.name_itself;
              apart = pairs_push (λ left right. left ≢ right) told.front.names name front.apart m.new;
              few_names = let few = m.few in omega (arith, long, few);
              letters = front.letters;
              rising = front.rising;
              rules = subst (All (IsTextRule (length (told.front.names ++ name ∷ [])))) (sym r) (All-nil _);
              unlimited = λ e. subst (All (IsUnlimited (length (told.front.names ++ name ∷ [])))) (sym r) (All-nil _);
              others = front.others;
              few_rules = front.few_rules;
              leads = front.leads;
            };
            nodes = h.nodes;
            few_roots = let few = h.few_roots in omega (arith, long, few);
          };
          later = (omega (arith, long), p, r, w, t);
          ended = tt;
          grammar = λ g o. tt;
          so_far = ap (◌∷◌ (head_line version)) (map-append phase_line told.front.names (name ∷ [])) ∙ ap (λ lines. lines ++ phase_line name ∷ []) (sym so_far);
        }

    same_front : (last : Kind) (grammar : List ℕ) (front : first.Told) → front ≡ steps.with_grammar told.front grammar → IsLawfulFront version front
    same_front last grammar front e =
        let l = h.front in
        subst (IsLawfulFront version) (sym e) (record {
          names = l.names;
          apart = l.apart;
          few_names = l.few_names;
          letters = l.letters;
          rising = l.rising;
          rules = l.rules;
          unlimited = l.unlimited;
          others = l.others;
          few_rules = l.few_rules;
          leads = l.leads;
        })

    grammar_goes_on : (text : List ℕ) → may_follow (are_rooted told) told.last Grammar ≡ true
        → GoesOn told (with_told told Grammar (steps.with_grammar told.front text)) (grammar_line text)
    grammar_goes_on text f =
        let (later, so_far) = before_grammar version (are_rooted told) told.last told f n in
        record {
          lawful = record { front = same_front Grammar text (steps.with_grammar told.front text) refl; nodes = h.nodes; few_roots = h.few_roots };
          later = later;
          ended = tt;
          grammar = λ g o. absurd (o refl);
          so_far = ap (λ lines. lines ++ grammar_line text ∷ []) (sym so_far);
        }

    pair_goes_on : (pair : ℕ × ℕ) → may_follow (are_rooted told) told.last Plain ≡ true → MayPair told.front pair
        → GoesOn told (with_told told Plain (steps.with_pair told.front pair)) (plain_line pair)
    pair_goes_on pair f m =
        let (b, r, w, t) = before_pair version P (are_rooted told) told.last told f n in
        let front = h.front in
        record {
          lawful = record {
            front = record {
              names = front.names;
              apart = front.apart;
              few_names = front.few_names;
              letters = All-push (λ pair. IsLetter pair.0 × IsLetter pair.1) told.front.plain pair front.letters (m.left, m.right);
              rising = sorted_with_last pairs_total told.front.plain pair front.rising m.above;
              rules = front.rules;
              unlimited = front.unlimited;
              others = front.others;
              few_rules = front.few_rules;
              leads = front.leads;
            };
            nodes = h.nodes;
            few_roots = h.few_roots;
          };
          later = (b.some, r, w, t);
          ended = tt;
          grammar = λ g o. b.grammar g;
          so_far = ap (λ lines. grammar_so_far version told ++ lines) (map-append plain_line told.front.plain (pair ∷ []))
              ∙ sym (append_assoc (grammar_so_far version told) (map plain_line told.front.plain) (plain_line pair ∷ [])) ∙ ap (λ lines. lines ++ plain_line pair ∷ []) (sym b.so_far);
        }

    -- a rule of either version
    rule_goes_on : (rule : Rule) (front : first.Told) → front ≡ steps.with_rule told.front rule → may_follow (are_rooted told) told.last Rules ≡ true
        → IsTextRule (length told.front.names) rule → (version ≡ Second → IsUnlimited (length told.front.names) rule) → All (λ other. IsOther other rule) told.front.rules
        → length told.front.rules < MOST_RULES → length (leads_of (told.front.rules ++ rule ∷ [])) ≤ MOST_LEADS
        → GoesOn told (with_told told Rules front) (rule_line_in version told.front.names rule)
    rule_goes_on rule front e f text unlimited other few leads =
        let (b, w, t) = before_rule version P (are_rooted told) told.last told f n in
        let l = h.front in
        let long = length_push told.front.rules rule in
        subst (λ fr. GoesOn told (with_told told Rules fr) (rule_line_in version told.front.names rule)) (sym e) (record {
          lawful = record {
            front = record {
              names = l.names;
              apart = l.apart;
              few_names = l.few_names;
              letters = l.letters;
              rising = l.rising;
              rules = All-push (IsTextRule (length told.front.names)) told.front.rules rule l.rules text;
              unlimited = λ v. All-push (IsUnlimited (length told.front.names)) told.front.rules rule (l.unlimited v) (unlimited v);
              others = pairs_push IsOther told.front.rules rule l.others other;
              few_rules = omega (arith, long, few);
              leads = leads;
            };
            nodes = h.nodes;
            few_roots = h.few_roots;
          };
          later = (b.some, w, t);
          ended = tt;
          grammar = λ g o. b.grammar g;
          so_far = ap (λ lines. plain_so_far version told ++ lines) (map-append (rule_line_in version told.front.names) told.front.rules (rule ∷ []))
              ∙ sym (append_assoc (plain_so_far version told) (map (rule_line_in version told.front.names) told.front.rules) (rule_line_in version told.front.names rule ∷ []))
              ∙ ap (λ lines. lines ++ rule_line_in version told.front.names rule ∷ []) (sym b.so_far);
        })

    node_goes_on : (row : Row) → may_follow (are_rooted told) told.last Node ≡ true → MayNode told row → GoesOn told (with_row told row) (node_line row)
    node_goes_on row f m =
        let (b, t) = before_node version P (are_rooted told) told.last told f n in
        let nodes = h.nodes in
        record {
          lawful = record {
            front = h.front;
            nodes = nodes_with_row told.rows told.nodes told.roots nodes row m.deltas m.children m.row_itself m.low
                (sorted_with_last node_lines_total told.nodes (node_line_over told.nodes row) nodes.rising m.above);
            few_roots = h.few_roots;
          };
          later = (b.some, t);
          ended = tt;
          grammar = λ g o. b.grammar g;
          so_far = ap (λ lines. rules_so_far version told ++ lines) (map-append node_line told.rows (row ∷ []))
              ∙ sym (append_assoc (rules_so_far version told) (map node_line told.rows) (node_line row ∷ [])) ∙ ap (λ lines. lines ++ node_line row ∷ []) (sym b.so_far);
        }

    root_goes_on : (root : ℕ) → may_follow (are_rooted told) told.last Root ≡ true → MayRoot told root
        → GoesOn told (with_root told root) (root_line (slice_index_or told.front.names (length told.roots) []) root)
    root_goes_on root f m =
        let (b, few) = before_root version P told.last told f h.few_roots n in
        let line = root_line (slice_index_or told.front.names (length told.roots) []) root in
        let long = length_push told.roots root in
        record {
          lawful = record {
            front = h.front;
            nodes = nodes_with_root told.rows told.nodes told.roots h.nodes root m.root_itself m.digits;
            few_roots = omega (arith, long, few);
          };
          later = b.some;
          ended = tt;
          grammar = λ g o. b.grammar g;
          so_far = ap (λ lines. nodes_so_far version told ++ lines) (root_lines_more told.front.names told.roots root few)
              ∙ sym (append_assoc (nodes_so_far version told) (root_lines told.front.names told.roots) (line ∷ [])) ∙ ap (λ lines. lines ++ line ∷ []) (sym b.so_far);
        }

    end_goes_on : may_follow (are_rooted told) told.last End ≡ true → EndsWell version told → GoesOn told (with_end told) end_line
    end_goes_on f well =
        let (b, rooted) = before_end version P told.last told f n in
        record {
          lawful = record { front = h.front; nodes = h.nodes; few_roots = h.few_roots };
          later = (b.some, rooted);
          ended = record { few_pairs = well.few_pairs; used = well.used; right = well.right; limited = well.limited };
          grammar = λ g o. b.grammar g;
          so_far = ap (λ lines. lines ++ end_line ∷ []) (sym b.so_far);
        }

    -- how many leads there are with a rule of version 2 more
    second_leads : version ≡ Second → (u v w : List ℕ) → MayRule told.front u v w
        → length (leads_of (told.front.rules ++ unlimited_rule (length told.front.names) u v w ∷ [])) ≤ MOST_LEADS
    second_leads e u v w m =
        let rule = unlimited_rule (length told.front.names) u v w in
        let all = All-push (IsUnlimited (length told.front.names)) told.front.rules rule (h.front.unlimited e) (refl, unlimited_by (length told.front.names) v) in
        let counted = leads_counted (length told.front.names) (told.front.rules ++ rule ∷ []) all in
        let same = ap length (leads_with told.front.rules rule) in
        let few = m.leads in
        omega (arith, counted, same, few)

    -- after any line that is taken
    pub goes_on : (after : Told) (bytes : List ℕ) → Took version told after bytes → GoesOn told after bytes
    goes_on after bytes (a_name name f b m is) =
        subst (λ to. GoesOn told to bytes) is (subst (GoesOn told _) (sym b) (name_goes_on name f m))
    goes_on after bytes (a_grammar text f b is) =
        subst (λ to. GoesOn told to bytes) is (subst (GoesOn told _) (sym b) (grammar_goes_on text f))
    goes_on after bytes (a_pair pair f b m is) =
        subst (λ to. GoesOn told to bytes) is (subst (GoesOn told _) (sym b) (pair_goes_on pair f m))
    goes_on after bytes (a_rule e u v w f b m is) =
        let rule = unlimited_rule (length told.front.names) u v w in
        let some = (before_rule version P (are_rooted told) told.last told f n).0.some in
        let line : bytes ≡ rule_line_in version told.front.names rule = b ∙ ap (λ ver. rule_line_in ver told.front.names rule) (sym e) in
        subst (λ to. GoesOn told to bytes) is (subst (GoesOn told _) (sym line)
        (rule_goes_on rule (steps.with_rule told.front rule) refl f (unlimited_told told.front u v w some m) (λ x. (refl, unlimited_by (length told.front.names) v)) m.other m.few (second_leads e u v w m)))
    goes_on after bytes (a_limited e rest f b t) =
        let taken = took_limited told after (fields_of rest) t in
        let rule = taken.rule in
        let m = taken.may in
        let some = (before_rule version P (are_rooted told) told.last told f n).0.some in
        let both = limited_line told after bytes rest some b taken in
        let line : bytes ≡ rule_line_in version told.front.names rule = both.0 ∙ ap (λ ver. rule_line_in ver told.front.names rule) (sym e) in
        let other : version ≡ Second → IsUnlimited (length told.front.names) rule = λ x. let no : Second ≡ Third = sym x ∙ e in absurd (cc) in
        let leads : length (leads_of (told.front.rules ++ rule ∷ [])) ≤ MOST_LEADS = subst (λ ls. length ls ≤ MOST_LEADS) (sym (leads_more [] told.front.rules rule)) m.leads in
        subst (λ to. GoesOn told to bytes) taken.is (subst (GoesOn told _) (sym line)
        (rule_goes_on rule (steps.with_rule told.front rule) refl f both.1 other m.other m.few leads))
    goes_on after bytes (a_node row f b m is) =
        subst (λ to. GoesOn told to bytes) is (subst (GoesOn told _) (sym b) (node_goes_on row f m))
    goes_on after bytes (a_root root f b m is) =
        subst (λ to. GoesOn told to bytes) is (subst (GoesOn told _) (sym b) (root_goes_on root f m))
    goes_on after bytes (the_end f b t) =
        let ended = end_taken version told after t in
        subst (λ to. GoesOn told to bytes) ended.1 (subst (GoesOn told _) (sym b) (end_goes_on f ended.0))

  -- ---- reading to the end

  -- all lines are read, what is known of the grammar's text is so at its line, and this is told at the end
  abbrev pub Tells : Reading → Told → Type 0
  Tells (Content told) content = told ≡ content
  Tells (Fault line why) content = ⊥
  Tells (Asks line told after) content = P told.front.names told.front.grammar × Tells after content

  abbrev pub bytes_of : List Line → List (List ℕ)
  bytes_of lines = map (λ (line : Line). line.bytes) lines

  -- what is told at the end is lawful and spells the lines
  pub record IsRead (told : Told) (lines : List Line) (content : Told) : Type 0 where
    pub lawful : IsLawful version content
    pub later : NothingLater End content
    pub well : EndsWell version content
    pub grammar : P content.front.names content.front.grammar
    pub so_far : lines_so_far version End content ≡ lines_so_far version told.last told ++ bytes_of lines
    pub ended : AllByRecursion (λ (line : Line). line.ended ≡ true) lines

  read_end : (last : Kind) (told content : Told) (number : ℕ) → told.last ≡ last → IsLawful version told → NothingLater last told → HasEnded version last told → HasGrammar P last told
      → Tells (at_end last number told) content → IsRead told [] content
  read_end End told content number e h n d g r =
      subst (IsRead told []) r (record {
        lawful = h;
        later = n;
        well = d;
        grammar = g;
        so_far = sym (append-nil (lines_so_far version End told)) ∙ ap (λ last. lines_so_far version last told ++ []) (sym e);
        ended = tt;
      })
  read_end last told content number e h n d g r = absurd r

  after_asking : (last : Kind) (number : ℕ) (after content : Told) (rest : Reading) → Tells (asking last number after rest) content
      → ((last ≢ Grammar) → HasGrammar P last after) → HasGrammar P last after × Tells rest content
  after_asking Grammar number after content rest both k = both
  after_asking last number after content rest r k = (k (λ e. cc), r)

  module _ (content : Told) where
    read_taken : (told : Told) (number : ℕ) (line : Line) (lines : List Line) (taken : Taken) → take_line version told line ≡ taken
        → IsLawful version told → NothingLater told.last told → HasGrammar P told.last told
        → Tells (read_on number taken (λ following. read_lines version following (number + 1) lines)) content
        → ((after : Told) → IsLawful version after → NothingLater after.last after → HasEnded version after.last after → HasGrammar P after.last after
        → Tells (read_lines version after (number + 1) lines) content → IsRead after lines content)
        → IsRead told (line ∷ lines) content
    read_taken told number line lines (Err why) e h n g r later = absurd r
    read_taken told number line lines (Ok after) e h n g r later =
        let took = took_line version told after line e in
        let next = goes_on told h n after line.bytes took.1 in
        let (grammar, rest) = after_asking after.last number after content (read_lines version after (number + 1) lines) r (next.grammar g) in
        let found = later after next.lawful next.later next.ended grammar rest in
        record {
          lawful = found.lawful;
          later = found.later;
          well = found.well;
          grammar = found.grammar;
          so_far = found.so_far ∙ ap (λ front. front ++ bytes_of lines) next.so_far ∙ append_assoc (lines_so_far version told.last told) (line.bytes ∷ []) (bytes_of lines);
          ended = (took.0, found.ended);
        }

    pub read_all : (told : Told) (number : ℕ) (lines : List Line) → IsLawful version told → NothingLater told.last told → HasEnded version told.last told → HasGrammar P told.last told
        → Tells (read_lines version told number lines) content → IsRead told lines content
    read_all told number [] h n d g r = read_end told.last told content number refl h n d g r
    read_all told number (line ∷ lines) h n d g r =
        read_taken told number line lines (take_line version told line) refl h n g r (λ after i m o k s. read_all after (number + 1) lines i m o k s)

-- after the first line nothing is told, which is lawful
pub head_lawful : (version : Version) → IsLawful version head_told
head_lawful version = record {
  front = record {
    names = All-nil _;
    apart = λ i j d below inside. absurd (omega (arith, inside));
    few_names = omega arith;
    letters = All-nil _;
    rising = sorted_nil _;
    rules = All-nil _;
    unlimited = λ e. All-nil _;
    others = λ i j d below inside. absurd (omega (arith, inside));
    few_rules = omega arith;
    leads = omega arith;
  };
  nodes = no_nodes;
  few_roots = omega arith;
}
