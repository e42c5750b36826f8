-- Words give one list of values and one of arguments; and a command is read back from its name and these.
use Rattle.std.proofs.Common.{◌≡◌, ℕ, List, [], ◌∷◌, Option, Some, None, sym, ◌∙◌, ap, refl}
use Rattle.std.specs.Prelude.{◌==◌, if◌then◌else◌, codes, slice_index, option_map, option_and_then}
use Rattle.std.specs.Str.{bytes_eq}
use Rattle.text_definitions.specs.Schemes.{Scheme, Slp1, Wx, Velthuis, Devanagari, name_of_scheme}
use Rattle.conversion_definitions.specs.AnySchemes as any
use Rattle.conversion_definitions.specs.AnySchemes.{AnyScheme, name_of_any_scheme}
use Rattle.session_definitions.specs.Numbers.{page_size_of}
use Rattle.run_definitions.specs.SplitOutcomes.{split_depth_of}
use Rattle.run_definitions.specs.Arguments.{Given, given_by}
use Rattle.run_definitions.specs.Commands.{Command, Segment, Check, Build, Read, Batch, Demo, Convert, Join, Split, Annotate, Reread, Migrate, FileWord, demo_number_of, GiveScheme, name_of_command, Takes, AreWordsOf}

-- schemes are told by the first byte of their names
scheme_begun : List ℕ → Scheme
scheme_begun name =
    if slice_index name 0 == 115 then Slp1 else (if slice_index name 0 == 119 then Wx else (if slice_index name 0 == 118 then Velthuis else Devanagari))

named_back : (scheme : Scheme) → scheme_begun (name_of_scheme scheme) ≡ scheme
unfolding scheme_begun
named_back Slp1 = refl
named_back Wx = refl
named_back Velthuis = refl
named_back Devanagari = refl

-- and so are the six of `convert`
any_scheme_begun : List ℕ → AnyScheme
any_scheme_begun name =
    if slice_index name 0 == 115 then any.Slp1 else (if slice_index name 0 == 119 then any.Wx else (if slice_index name 0 == 118 then any.Velthuis
    else (if slice_index name 0 == 100 then any.Devanagari else (if slice_index name 0 == 105 then any.Iast else any.HarvardKyoto))))

any_named_back : (scheme : AnyScheme) → any_scheme_begun (name_of_any_scheme scheme) ≡ scheme
unfolding any_scheme_begun
any_named_back any.Slp1 = refl
any_named_back any.Wx = refl
any_named_back any.Velthuis = refl
any_named_back any.Devanagari = refl
any_named_back any.Iast = refl
any_named_back any.HarvardKyoto = refl

scheme_given : List (List ℕ) → Scheme
scheme_given [] = Slp1
scheme_given (value ∷ values) = scheme_begun value

given_back : (values : List (List ℕ)) (scheme : Scheme) → GiveScheme values scheme → scheme_given values ≡ scheme
unfolding scheme_given
given_back [] scheme e = sym e
given_back (value ∷ []) scheme e = ap scheme_begun e ∙ named_back scheme
given_back (value ∷ other ∷ values) scheme e = absurd e

segment_from : List (List ℕ) → List FileWord → Option Command
segment_from values [] = None
segment_from values (lex ∷ []) = None
segment_from values (lex ∷ text ∷ others) = Some (Segment lex (scheme_given values) text.name)

check_from : List FileWord → Option Command
check_from [] = None
check_from (lex ∷ others) = Some (Check lex)

build_from : List FileWord → Option Command
build_from (rules ∷ tables ∷ stems ∷ out ∷ others) = Some (Build rules tables stems out)
build_from arguments = None

read_from : List FileWord → Option Command
read_from [] = None
read_from (lex ∷ others) = Some (Read lex)

batch_from : List FileWord → Option Command
batch_from (lex ∷ named ∷ file ∷ counted ∷ others) =
    option_map (λ count. Batch lex (scheme_begun named.name) file count) (page_size_of counted.name)
batch_from arguments = None

demo_from : List FileWord → Option Command
demo_from [] = None
demo_from (word ∷ others) = option_map Demo (demo_number_of word.name)

convert_from : List FileWord → Option Command
convert_from (first ∷ second ∷ file ∷ out ∷ others) = Some (Convert (any_scheme_begun first.name) (any_scheme_begun second.name) file out)
convert_from arguments = None

join_from : List FileWord → Option Command
join_from (lex ∷ chain ∷ others) = Some (Join lex chain.name)
join_from arguments = None

split_from : List FileWord → Option Command
split_from (lex ∷ text ∷ counted ∷ deep ∷ others) =
    option_and_then (λ count. option_map (λ depth. Split lex text.name count depth) (split_depth_of deep.name)) (page_size_of counted.name)
split_from arguments = None

annotate_from : List FileWord → Option Command
annotate_from (lex ∷ mark ∷ out ∷ others) = Some (Annotate lex mark.name out)
annotate_from arguments = None

reread_from : List FileWord → Option Command
reread_from (lex ∷ file ∷ others) = Some (Reread lex file)
reread_from arguments = None

migrate_from : List FileWord → Option Command
migrate_from (lex ∷ out ∷ others) = Some (Migrate lex out)
migrate_from arguments = None

command_from : List ℕ → List (List ℕ) → List FileWord → Option Command
command_from name values arguments =
    if bytes_eq name (codes "segment") then segment_from values arguments
    else (if bytes_eq name (codes "check") then check_from arguments
    else (if bytes_eq name (codes "build") then build_from arguments
    else (if bytes_eq name (codes "read") then read_from arguments
    else (if bytes_eq name (codes "batch") then batch_from arguments
    else (if bytes_eq name (codes "convert") then convert_from arguments
    else (if bytes_eq name (codes "join") then join_from arguments
    else (if bytes_eq name (codes "split") then split_from arguments
    else (if bytes_eq name (codes "annotate") then annotate_from arguments
    else (if bytes_eq name (codes "reread") then reread_from arguments
    else (if bytes_eq name (codes "migrate") then migrate_from arguments else demo_from arguments))))))))))

read_back : (command : Command) (values : List (List ℕ)) (arguments : List FileWord) → Takes command values arguments
    → command_from (name_of_command command) values arguments ≡ Some command
unfolding command_from segment_from check_from build_from read_from batch_from convert_from join_from split_from annotate_from reread_from migrate_from demo_from
read_back (Segment lex scheme text) values arguments takes =
    ap (segment_from values) takes.1.1 ∙ ap (λ s. Some (Segment lex s text)) (given_back values scheme takes.0)
read_back (Check lex) values arguments takes = ap check_from takes.1
read_back (Build rules tables stems out) values arguments takes = ap build_from takes.1
read_back (Read lex) values arguments takes = ap read_from takes.1
read_back (Batch lex scheme file count) values arguments takes =
    let is = takes.1 in
    ap batch_from is.are ∙ ap (option_map (λ n. Batch lex (scheme_begun is.named.name) file n)) is.counts
    ∙ ap (λ name. Some (Batch lex (scheme_begun name) file count)) is.names ∙ ap (λ s. Some (Batch lex s file count)) (named_back scheme)
read_back (Demo number) values arguments takes = let is = takes.1 in ap demo_from is.are ∙ ap (option_map Demo) is.is
read_back (Convert from to file out) values arguments takes =
    let is = takes.1 in
    ap convert_from is.are
    ∙ ap (λ name. Some (Convert (any_scheme_begun name) (any_scheme_begun is.second.name) file out)) is.names_from
    ∙ ap (λ s. Some (Convert s (any_scheme_begun is.second.name) file out)) (any_named_back from)
    ∙ ap (λ name. Some (Convert from (any_scheme_begun name) file out)) is.names_to
    ∙ ap (λ s. Some (Convert from s file out)) (any_named_back to)
read_back (Join lex chain) values arguments takes = ap join_from takes.1.1
read_back (Split lex text count depth) values arguments takes =
    let is = takes.1 in
    ap split_from is.are
    ∙ ap (option_and_then (λ n. option_map (λ d. Split lex text n d) (split_depth_of is.deep.name))) is.counts
    ∙ ap (option_map (λ d. Split lex text count d)) is.is_depth
read_back (Annotate lex mark out) values arguments takes = ap annotate_from takes.1.1
read_back (Reread lex file) values arguments takes = ap reread_from takes.1
read_back (Migrate lex out) values arguments takes = ap migrate_from takes.1

-- words are those of one command
pub one_command : (words : List (List ℕ)) (left right : Command) → AreWordsOf left words → AreWordsOf right words → left ≡ right
one_command words left right p q =
    let e : name_of_command left ∷ p.following ≡ name_of_command right ∷ q.following = sym p.are ∙ q.are in
    let name : name_of_command left ≡ name_of_command right = cc in
    let following : p.following ≡ q.following = cc in
    let l : Given = record { values = p.values; arguments = p.given } in
    let r : Given = record { values = q.values; arguments = q.given } in
    let given : Some l ≡ Some r = sym p.have ∙ ap given_by following ∙ q.have in
    let same : l ≡ r = cc (given) in
    let back : Some left ≡ Some right =
    sym (read_back left p.values p.given p.takes) ∙ (λ i. command_from (name i) ((same i).values) ((same i).arguments))
    ∙ read_back right q.values q.given q.takes in
    cc (back)
