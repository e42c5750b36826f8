-- What the texts of a field tell, one after another: the shapes so far are there, and what they spell is what was read; a text without its
-- shape leaves nothing.
use Rattle.std.proofs.Common.{◌≡◌, ℕ, suc, ◌<◌, ◌≤◌, Bool, true, false, cond, ◌&&◌, leb, Option, Some, None, Err, List, [], ◌∷◌, ◌++◌, length, map, refl, sym, ◌∙◌, ap, subst, arith, Bor}
use Rattle.std.specs.Prelude.{option_map, option_and_then, IfSome}
use Rattle.std.proofs.lemmas.Bool.{false_from_ne_true}
use Rattle.std.proofs.lemmas.List.{append_assoc, append-nil, length-append, map-append}
use Rattle.lexicon_definitions.specs.declared.limits.TheConstants.{MOST_FORM_LETTERS}
use Rattle.lexicon_definitions.specs.Tags.{IsTagText}
use Rattle.lexicon_text_definitions.specs.FileContents.{is_tag_text}
use Rattle.lexicon_text_definitions.proofs.LineCuts.{three_parts}
use Rattle.lexicon_text_definitions.proofs.TagTests.{tag_from_test, test_from_tag}
use Rattle.trie_text_definitions.specs.LimitedRules.{all_there}
use Rattle.trie_text_definitions.specs.NodeFields.{DeltaShape, number_of, delta_with, delta_of_parts, delta_shape}
use Rattle.trie_text_definitions.proofs.NodeTexts.{map_some}
use Rattle.lexicon_file.specs.declared.error.FileWhy.TheVariants.{Field}
use Rattle.lexicon_file.specs.declared.take_error.TakeError.{TakeError}
use Rattle.lexicon_file.specs.declared.take_error.TakeError.TheVariants.{Why, Memory}
use Rattle.lexicon_file.specs.Fields.{IsTold, with_one}
use Rattle.lexicon_file.specs.Numbers.{if_cut, cut_of}
use Rattle.lexicon_file.specs.Parts.{parts_at, parts_after, three_of}

-- ---- values that are there

with_first : {X : Type 0} (z : X) (zs : Option (List X)) (x : Option X) → option_map (λ rest. z ∷ rest) (with_one zs x) ≡ with_one (option_map (λ rest. z ∷ rest) zs) x
with_first z None x = refl
with_first z (Some zs) None = refl
with_first z (Some zs) (Some x) = refl

by_first : {X : Type 0} (z : Option X) (zs more : Option (List X)) (x : Option X) → more ≡ with_one zs x
    → option_and_then (λ first. option_map (λ rest. first ∷ rest) more) z ≡ with_one (option_and_then (λ first. option_map (λ rest. first ∷ rest) zs) z) x
by_first None zs more x e = refl
by_first (Some z) zs more x e = ap (option_map (λ rest. z ∷ rest)) e ∙ with_first z zs x

one_there : {X : Type 0} (x : Option X) → all_there (x ∷ []) ≡ with_one (Some []) x
one_there None = refl
one_there (Some x) = refl

all_with : {X : Type 0} (xs : List (Option X)) (x : Option X) → all_there (xs ++ x ∷ []) ≡ with_one (all_there xs) x
all_with [] x = one_there x
all_with (z ∷ xs) x = by_first z (all_there xs) (all_there (xs ++ x ∷ [])) x (all_with xs x)

none_by : {X : Type 0} (z : Option X) (more : Option (List X)) → more ≡ None → option_and_then (λ first. option_map (λ rest. first ∷ rest) more) z ≡ None
none_by None more e = refl
none_by (Some z) more e = ap (option_map (λ rest. z ∷ rest)) e

none_there : {X : Type 0} (xs more : List (Option X)) → all_there (xs ++ None ∷ more) ≡ None
none_there [] more = refl
none_there (z ∷ xs) more = none_by z (all_there (xs ++ None ∷ more)) (none_there xs more)

map_none : {A B : Type 0} (f : A → B) (x : Option A) → option_map f x ≡ None → x ≡ None
map_none f None h = refl
map_none f (Some x) h = absurd (cc)

-- ---- texts one after another

module _ {S D : Type 0} (shape : List ℕ → Option S) (spell : S → Option D) where
  abbrev pub all_told : List (List ℕ) → Option (Option (List D))
  all_told texts = option_map (λ (shapes : List S). all_there (map spell shapes)) (all_there (map shape texts))

  -- these texts are read up to the rest, and this is what they spell
  pub record AreReadTo (texts : List (List ℕ)) (rest : Option (List ℕ)) (so_far : Option (List D)) : Type 0 where
    pub passed : List (List ℕ)
    pub shapes : List S
    pub parted : passed ++ parts_after 44 rest ≡ texts
    pub shaped : all_there (map shape passed) ≡ Some shapes
    pub spelled : all_there (map spell shapes) ≡ so_far

  pub none_read : (texts : List (List ℕ)) (rest : Option (List ℕ)) → texts ≡ parts_after 44 rest → AreReadTo texts rest (Some [])
  none_read texts rest e = record { passed = []; shapes = []; parted = sym e; shaped = refl; spelled = refl }

  pub next_read : (texts : List (List ℕ)) (rest following : Option (List ℕ)) (text part : List ℕ) (so_far more : Option (List D)) (one : Option D) → AreReadTo texts rest so_far
      → rest ≡ Some text → parts_at 44 text ≡ part ∷ parts_after 44 following → option_map spell (shape part) ≡ Some one → more ≡ with_one so_far one → AreReadTo texts following more
  next_read texts rest following text part so_far more one h r cut told put =
      let (s, is, spells) = map_some spell (shape part) one told in
      record {
        passed = h.passed ++ part ∷ [];
        shapes = h.shapes ++ s ∷ [];
        parted = append_assoc h.passed (part ∷ []) (parts_after 44 following) ∙ ap (λ (ps : List (List ℕ)). h.passed ++ ps) (sym (ap (parts_after 44) r ∙ cut)) ∙ h.parted;
        shaped = ap all_there (map-append shape h.passed (part ∷ [])) ∙ all_with (map shape h.passed) (shape part) ∙ (λ i. with_one (h.shaped i) (is i));
        spelled = ap all_there (map-append spell h.shapes (s ∷ [])) ∙ all_with (map spell h.shapes) (spell s) ∙ (λ i. with_one (h.spelled i) (spells i)) ∙ sym put;
      }

  pub none_told : (texts : List (List ℕ)) (rest following : Option (List ℕ)) (text part : List ℕ) (so_far : Option (List D)) → AreReadTo texts rest so_far
      → rest ≡ Some text → parts_at 44 text ≡ part ∷ parts_after 44 following → option_map spell (shape part) ≡ None → all_told texts ≡ None
  none_told texts rest following text part so_far h r cut none =
      let no = map_none spell (shape part) none in
      let whole : h.passed ++ part ∷ parts_after 44 following ≡ texts = ap (λ (ps : List (List ℕ)). h.passed ++ ps) (sym (ap (parts_after 44) r ∙ cut)) ∙ h.parted in
      ap all_told (sym whole)
      ∙ ap (λ (ss : List (Option S)). option_map (λ (shapes : List S). all_there (map spell shapes)) (all_there ss))
      (map-append shape h.passed (part ∷ parts_after 44 following) ∙ ap (λ (s : Option S). map shape h.passed ++ s ∷ map shape (parts_after 44 following)) no)
      ∙ ap (option_map (λ (shapes : List S). all_there (map spell shapes))) (none_there (map shape h.passed) (map shape (parts_after 44 following)))

  pub all_read : (texts : List (List ℕ)) (rest : Option (List ℕ)) (so_far : Option (List D)) → AreReadTo texts rest so_far → rest ≡ None → all_told texts ≡ Some so_far
  all_read texts rest so_far h none =
      let whole : h.passed ≡ texts = sym (append-nil h.passed) ∙ ap (λ (ps : List (List ℕ)). h.passed ++ ps) (sym (ap (parts_after 44) none)) ∙ h.parted in
      ap all_told (sym whole) ∙ ap (option_map (λ (shapes : List S). all_there (map spell shapes))) h.shaped ∙ ap Some h.spelled

-- where a text is refused the field is; want of memory says nothing
pub refused_by : {A B C D : Type 0} (told : Option C) (all : Option D) (error : TakeError) (seen : A → C) (seen_all : B → D) → IsTold told (Err error) seen → (told ≡ None → all ≡ None)
    → IsTold all (Err error) seen_all
refused_by told all (Why why) seen seen_all h none = (h.0, none h.1)
refused_by told all Memory seen seen_all h none = tt

-- refused for its shape
pub shape_refused : {A B : Type 0} (all : Option B) (error : TakeError) (seen : A → B) → error ≡ Why Field → all ≡ None → IsTold all (Err error) seen
shape_refused {A} all error seen why none = subst (λ (e : TakeError). IsTold {A = A} all (Err e) seen) (sym why) (refl, none)

-- ---- a delta

-- the shape with a cut, where the tag is one
abbrev with_cut : List ℕ → List ℕ → Bool → ℕ → Option DeltaShape
with_cut append tag is_tag cut = cond is_tag (Some (record { cut = cut; append = append; tag = tag })) None

by_tests : (n : ℕ) (append tag : List ℕ) (within is_tag : Bool) → with_cut append tag (within && is_tag) n ≡ option_and_then (with_cut append tag is_tag) (cond within (Some n) None)
by_tests n append tag true is_tag = refl
by_tests n append tag false is_tag = refl

by_number : (number : Option ℕ) (append tag : List ℕ)
    → option_and_then (delta_with append tag) number ≡ option_and_then (with_cut append tag (is_tag_text tag)) (option_and_then if_cut number)
by_number None append tag = refl
by_number (Some n) append tag = by_tests n append tag (leb n MOST_FORM_LETTERS) (is_tag_text tag)

-- the shape of a delta with these parts, by its cut
shape_by_cut : (text cut append tag : List ℕ) → parts_at 58 text ≡ cut ∷ append ∷ tag ∷ []
    → delta_shape text ≡ option_and_then (with_cut append tag (is_tag_text tag)) (cut_of cut)
shape_by_cut text cut append tag e = ap delta_of_parts e ∙ by_number (number_of cut) append tag

no_parts_by : (parts : List (List ℕ)) → three_of parts ≡ None → delta_of_parts parts ≡ None
no_parts_by [] h = refl
no_parts_by (cut ∷ []) h = refl
no_parts_by (cut ∷ append ∷ []) h = refl
no_parts_by (cut ∷ append ∷ tag ∷ []) h = absurd (cc)
no_parts_by (cut ∷ append ∷ tag ∷ more ∷ parts) h = refl

pub no_parts : (text : List ℕ) → three_of (parts_at 58 text) ≡ None → delta_shape text ≡ None
no_parts text h = no_parts_by (parts_at 58 text) h

pub no_cut : (text cut append tag : List ℕ) → parts_at 58 text ≡ cut ∷ append ∷ tag ∷ [] → cut_of cut ≡ None → delta_shape text ≡ None
no_cut text cut append tag e h =
    shape_by_cut text cut append tag e ∙ ap (option_and_then (with_cut append tag (is_tag_text tag))) h

pub no_tag : (text cut append tag : List ℕ) (n : ℕ) → parts_at 58 text ≡ cut ∷ append ∷ tag ∷ [] → Some n ≡ cut_of cut → (IsTagText tag → ⊥) → delta_shape text ≡ None
no_tag text cut append tag n e h none =
    shape_by_cut text cut append tag e ∙ ap (option_and_then (with_cut append tag (is_tag_text tag))) (sym h)
    ∙ ap (λ test. with_cut append tag test n) (false_from_ne_true (is_tag_text tag) (λ t. none (tag_from_test tag t)))

pub shape_is : (text cut append tag : List ℕ) (n : ℕ) (told : List ℕ) → parts_at 58 text ≡ cut ∷ append ∷ tag ∷ [] → Some n ≡ cut_of cut → IsTagText tag → told ≡ tag
    → delta_shape text ≡ Some (record { cut = n; append = append; tag = told })
shape_is text cut append tag n told e h is same =
    shape_by_cut text cut append tag e ∙ ap (option_and_then (with_cut append tag (is_tag_text tag))) (sym h)
    ∙ ap (λ test. with_cut append tag test n) (test_from_tag tag is)
    ∙ ap (λ t. with_cut append t true n) (sym same)

-- ---- what is left

-- the length of what is left, and one more; 0 where nothing is left
abbrev pub rest_length : Option (Bor (List ℕ)) → ℕ
rest_length None = 0
rest_length (Some rest) = suc (length rest.now)

pub append_fits : (text cut append tag : List ℕ) → parts_at 58 text ≡ cut ∷ append ∷ tag ∷ [] → length append ≤ length text
append_fits text cut append tag e =
    let long = ap length (three_parts 58 text cut append tag e) in
    let front = length-append cut (58 ∷ (append ++ 58 ∷ tag)) in
    let back = length-append append (58 ∷ tag) in
    omega (arith, long, front, back)

-- a part and what follows it are no longer than the whole
pub still_within : (rest following : Option (Bor (List ℕ))) (texts : Bor (List ℕ)) (most : ℕ) → IfSome rest (λ r. length r.now ≤ most) → rest ≡ Some texts
    → IfSome following (λ r. length r.now < length texts.now) → IfSome following (λ r. length r.now ≤ most)
still_within rest None texts most h e l = tt
still_within rest (Some following) texts most h e l =
    let within : length texts.now ≤ most = subst (λ (r : Option (Bor (List ℕ))). IfSome r (λ r. length r.now ≤ most)) e h in
    omega (arith, within, l)

pub here_within : (rest : Option (Bor (List ℕ))) (texts : Bor (List ℕ)) (most : ℕ) → IfSome rest (λ r. length r.now ≤ most) → rest ≡ Some texts → length texts.now ≤ most
here_within rest texts most h e = subst (λ (r : Option (Bor (List ℕ))). IfSome r (λ r. length r.now ≤ most)) e h
