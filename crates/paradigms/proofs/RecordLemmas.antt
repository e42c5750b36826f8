-- Each record takes at least a byte and leaves a state between records, by the steps of the machine; so one more record read is
-- the first of those that are left, and no field is longer than the bytes.
use Rattle.std.proofs.Common.{◌≡◌, ℕ, suc, zero, ◌+◌, ◌<◌, ◌≤◌, ◌⊎◌, inl, inr, Bool, true, false, Option, Some, None, cond, List, [], ◌∷◌, ◌++◌, length, All, Bor, refl, sym, ◌∙◌, ap, subst, arith, add-one, eqb, ◌&&◌}
use Rattle.std.proofs.lemmas.Bool.{false≢true}
use Rattle.std.proofs.lemmas.List.{length-append}
use Rattle.std.proofs.lemmas.List.Elements.{All-nil, All-push}
use Rattle.csv.specs.Machine.{Read, next_record, step, in_field, start_field, start_record, is_end, ends_at_end, fields_after, field_after}
use Rattle.csv.specs.Reading.{NextIs, ReadRecord, ReadsNext, default_config, records_from, records_next, strip_bom, pending_of, took_first}
use Rattle.csv.specs.declared.parser.Action.{Action}
use Rattle.csv.specs.declared.parser.Action.TheVariants as act
use Rattle.csv.specs.declared.parser.State.{State}
use Rattle.csv.specs.declared.parser.State.TheVariants as st
use Rattle.csv.specs.declared.reader.Reader.{Reader}
use Rattle.lexicon_text_definitions.specs.declared.limits.TheConstants.{MOST_FILE_BYTES}
use Rattle.paradigms.specs.RecordsLeft.{IsBetween, IsNextOf, IsReading, bytes_left, records_left, records_within}

-- ---- a byte that ends a record leaves a state between records

record Ended (p : State × Action) : Type 0 where
  ends : is_end p.1 ≡ true → IsBetween p.0

skipped : (s : State) → Ended (s, act.Skip)
skipped s = record { ends = λ h. absurd (false≢true h) }

copied : (s : State) → Ended (s, act.Copy)
copied s = record { ends = λ h. absurd (false≢true h) }

cut_off : (s : State) → Ended (s, act.EndField)
cut_off s = record { ends = λ h. absurd (false≢true h) }

after_end_between : (b : Bool) → IsBetween (cond b st.AfterCr st.StartRecord)
after_end_between true = tt
after_end_between false = tt

chosen : (b : Bool) (x y : State × Action) → Ended x → Ended y → Ended (cond b x y)
chosen true x y first second = first
chosen false x y first second = second

in_field_ended : (c : ℕ) → Ended (in_field default_config c)
in_field_ended c =
    chosen _ _ _ (cut_off st.StartField) (chosen _ _ _ (record { ends = λ h. after_end_between (eqb c 13) }) (copied st.InField))

start_field_ended : (c : ℕ) → Ended (start_field default_config c)
start_field_ended c = chosen _ _ _ (skipped st.InQuoted) (in_field_ended c)

start_record_ended : (c : ℕ) → Ended (start_record default_config c)
start_record_ended c = chosen _ _ _ (skipped st.StartRecord) (start_field_ended c)

ended : (s : State) (c : ℕ) → Ended (step default_config s c)
ended st.StartRecord c = start_record_ended c
ended st.StartField c = start_field_ended c
ended st.InField c = in_field_ended c
ended st.InQuoted c = chosen _ _ _ (skipped st.AfterQuote) (copied st.InQuoted)
ended st.InEscape c = copied st.InQuoted
ended st.AfterQuote c = chosen _ _ _ (copied st.InQuoted) (in_field_ended c)
ended st.InComment c = chosen _ _ _ (skipped st.StartRecord) (skipped st.InComment)
ended st.AfterCr c = chosen _ _ _ (skipped st.StartRecord) (start_record_ended c)

-- ---- no field is longer than the bytes

abbrev Fit : ℕ → List (List ℕ) → Type 0
Fit most fields = All (λ field. length field ≤ most) fields

fields_fit : (most : ℕ) (action : Action) (fields : List (List ℕ)) (field : List ℕ) → Fit most fields → length field ≤ most → Fit most (fields_after action fields field)
fields_fit most act.EndField fields field all one = All-push (λ field. length field ≤ most) fields field all one
fields_fit most act.Skip fields field all one = all
fields_fit most act.Copy fields field all one = all
fields_fit most act.EndRecord fields field all one = All-push (λ field. length field ≤ most) fields field all one

field_fits : (action : Action) (c : ℕ) (field : List ℕ) → length (field_after action c field) ≤ length field + 1
field_fits act.Copy c field = omega (arith, length-append field (c ∷ []))
field_fits act.EndField c field = omega arith
field_fits act.Skip c field = omega arith
field_fits act.EndRecord c field = omega arith

-- ---- the next record

-- what is known of a record that was read in these bytes
record IsTaken (most : ℕ) (bytes : List ℕ) (read : Read) : Type 0 where
  between : IsBetween read.1
  shorter : (length read.2 < length bytes) ⊎ (length read.2 ≡ 0)
  fit : Fit most read.0

taken : (most : ℕ) (s : State) (fields : List (List ℕ)) (field bytes : List ℕ) (read : Read) → Fit most fields → length field + length bytes ≤ most
    → next_record default_config s fields field bytes ≡ Some read → IsTaken most bytes read
unfolding next_record
taken most s fields field [] read all fits h = go (ends_at_end s) h
  where
    go : (b : Bool) → cond b (Some (fields ++ field ∷ [], st.StartRecord, [])) None ≡ Some read → IsTaken most [] read
    go false e = absurd (cc (e))
    go true e =
        let same : ◌≡◌ {A = Read} (fields ++ field ∷ [], st.StartRecord, []) read = cc (e) in
        subst (IsTaken most []) same (record { between = tt; shorter = inr refl; fit = All-push (λ field. length field ≤ most) fields field all (omega arith) })
taken most s fields field (c ∷ rest) read all fits h =
    let longer = field_fits (step default_config s c).1 c field in
    go (is_end (step default_config s c).1) refl
    (λ e. taken most (step default_config s c).0 (fields_after (step default_config s c).1 fields field) (field_after (step default_config s c).1 c field) rest read
    (fields_fit most (step default_config s c).1 fields field all (omega arith)) (omega arith) e) h
  where
    later_shorter : (length read.2 < length rest) ⊎ (length read.2 ≡ 0) → length read.2 < suc (length rest)
    later_shorter (inl less) = omega arith
    later_shorter (inr none) = omega arith

    go : (b : Bool) → is_end (step default_config s c).1 ≡ b
        → (next_record default_config (step default_config s c).0 (fields_after (step default_config s c).1 fields field) (field_after (step default_config s c).1 c field) rest ≡ Some read → IsTaken most rest read)
        → cond b (Some (fields_after (step default_config s c).1 fields field, (step default_config s c).0, rest))
        (next_record default_config (step default_config s c).0 (fields_after (step default_config s c).1 fields field) (field_after (step default_config s c).1 c field) rest) ≡ Some read
        → IsTaken most (c ∷ rest) read
    go true is later e =
        let same : ◌≡◌ {A = Read} (fields_after (step default_config s c).1 fields field, (step default_config s c).0, rest) read = cc (e) in
        subst (IsTaken most (c ∷ rest)) same (record {
          between = (ended s c).ends is;
          shorter = inl (omega arith);
          fit = fields_fit most (step default_config s c).1 fields field all (omega arith);
        })
    go false is later e =
        let all_later = later e in
        record { between = all_later.between; shorter = inl (later_shorter all_later.shorter); fit = all_later.fit }

-- between records no record is read where there are no bytes
none_read : (s : State) (read : Read) → IsBetween s → next_record default_config s [] [] [] ≡ Some read → ⊥
unfolding next_record
none_read st.StartRecord read between h = absurd (cc (h))
none_read st.AfterCr read between h = absurd (cc (h))
none_read st.StartField read between h = between
none_read st.InField read between h = between
none_read st.InQuoted read between h = between
none_read st.AfterQuote read between h = between
none_read st.InEscape read between h = between
none_read st.InComment read between h = between

-- a record that was read between records took a byte
pub record IsTakenBetween (bytes : List ℕ) (read : Read) : Type 0 where
  pub between : IsBetween read.1
  pub shorter : length read.2 < length bytes
  pub fit : Fit (length bytes) read.0

pub taken_between : (s : State) (bytes : List ℕ) (read : Read) → IsBetween s → next_record default_config s [] [] bytes ≡ Some read → IsTakenBetween bytes read
taken_between s [] read between h = absurd (none_read s read between h)
taken_between s (c ∷ rest) read between h =
    let all = taken (length (c ∷ rest)) s [] [] (c ∷ rest) read (All-nil (λ field. length field ≤ length (c ∷ rest))) (omega arith) h in
    record { between = all.between; shorter = go all.shorter; fit = all.fit }
  where
    go : (length read.2 < length (c ∷ rest)) ⊎ (length read.2 ≡ 0) → length read.2 < length (c ∷ rest)
    go (inl less) = less
    go (inr none) = omega arith

-- ---- the records that are left

-- with one more turn than there are bytes, or more, the records are the same
same_records : (n m : ℕ) (s : State) (bytes : List ℕ) → IsBetween s → length bytes < n → length bytes < m → records_from default_config n s bytes ≡ records_from default_config m s bytes
unfolding records_from
same_records zero m s bytes between few less = absurd (omega arith)
same_records (suc n) zero s bytes between few less = absurd (omega arith)
same_records (suc n) (suc m) s bytes between few less =
    go (next_record default_config s [] [] bytes) refl (λ state rest then short. same_records n m state rest then (omega arith) (omega arith))
  where
    go : (o : Option Read) → next_record default_config s [] [] bytes ≡ o
        → ((state : State) (rest : List ℕ) → IsBetween state → length rest < length bytes → records_from default_config n state rest ≡ records_from default_config m state rest)
        → records_next (records_from default_config n) o ≡ records_next (records_from default_config m) o
    go None is later = refl
    go (Some read) is later =
        let one = taken_between s bytes read between is in
        ap (λ rest. read.0 ∷ rest) (later read.1 read.2 one.between one.shorter)

one_more : (s : State) (bytes : List ℕ) (read : Read) → IsBetween s → next_record default_config s [] [] bytes ≡ Some read
    → records_from default_config (length bytes + 1) s bytes ≡ read.0 ∷ records_from default_config (length read.2 + 1) read.1 read.2
unfolding records_from
one_more s bytes read between is =
    let one = taken_between s bytes read between is in
    let shorter = one.shorter in
    rw add-one (ap (records_next (records_from default_config (length bytes))) is ∙ ap (λ rest. read.0 ∷ rest) (same_records (length bytes) (length read.2 + 1) read.1 read.2 one.between (omega arith) (omega arith)))

no_more : (s : State) (bytes : List ℕ) → next_record default_config s [] [] bytes ≡ None → records_from default_config (length bytes + 1) s bytes ≡ []
unfolding records_from
no_more s bytes is = rw add-one (ap (records_next (records_from default_config (length bytes))) is)

-- ---- a read of the reader

read_some : (o : Option Read) (fields : List (List ℕ)) (s : State) (rest : List ℕ) → NextIs o true fields s rest → o ≡ Some (fields, s, rest)
read_some None fields s rest n = absurd (cc (n))
read_some (Some read) fields s rest n = λ i. Some (sym n.1 i, sym n.2 i, sym n.3 i)

read_none : (o : Option Read) (fields : List (List ℕ)) (s : State) (rest : List ℕ) → NextIs o false fields s rest → o ≡ None
read_none None fields s rest n = refl
read_none (Some read) fields s rest n = absurd (cc (n.0))

-- what a read that found a record tells
pub record IsReadOn (old new : Reader (Bor (List ℕ))) (fields : List (List ℕ)) : Type 0 where
  pub reading : IsReading new
  pub next : records_left old ≡ fields ∷ records_left new
  pub fits : Fit MOST_FILE_BYTES fields

known_source : (s s2 : State) (bytes : List ℕ) (after : Option (List ℕ)) (fields : List (List ℕ)) → ReadsNext default_config s (Some bytes) after true fields s2
    → (rest : List ℕ) × (after ≡ Some rest) × (next_record default_config s [] [] bytes ≡ Some (fields, s2, rest))
known_source s s2 bytes None fields reads = absurd reads
known_source s s2 bytes (Some rest) fields reads = (rest, refl, read_some (next_record default_config s [] [] bytes) fields s2 rest reads)

ended_source : (s s2 : State) (bytes : List ℕ) (after : Option (List ℕ)) (fields : List (List ℕ)) → ReadsNext default_config s (Some bytes) after false fields s2
    → next_record default_config s [] [] bytes ≡ None
ended_source s s2 bytes None fields reads = absurd reads
ended_source s s2 bytes (Some rest) fields reads = read_none (next_record default_config s [] [] bytes) fields s2 rest reads

fit_more : (least most : ℕ) (fields : List (List ℕ)) → least ≤ most → Fit least fields → Fit most fields
fit_more least most fields less all = λ k d inside. let one = all k d inside in omega arith

pub read_on : (old new : Reader (Bor (List ℕ))) (fields : List (List ℕ)) → IsReading old → ReadRecord (λ source. Some source.now) old new true fields → took_first new ≡ true
    → IsReadOn old new fields
read_on old new fields reading reads first =
    let before = rw (reading.config, reading.left) at reads.0 in
    let source = known_source old.state new.state reading.bytes (pending_of (Some new.rdr.now) new) fields before in
    let one = taken_between old.state reading.bytes (fields, new.state, source.0) reading.between source.2 in
    let shorter = one.shorter in
    let few = reading.few in
    let left : bytes_left new ≡ Some source.0 = rw reads.1 source.1 in
    record {
      reading = record {
        config = reads.2 ∙ reading.config;
        trim = reads.3 ∙ reading.trim;
        ready = inl first;
        between = one.between;
        bytes = source.0;
        left = left;
        few = omega arith;
      };
      next = ap (records_within old.state) reading.left ∙ one_more old.state reading.bytes (fields, new.state, source.0) reading.between source.2
          ∙ ap (λ rest. fields ∷ records_within new.state rest) (sym left);
      fits = fit_more (length reading.bytes) MOST_FILE_BYTES fields reading.few one.fit;
    }

pub read_end : (old new : Reader (Bor (List ℕ))) (fields : List (List ℕ)) → IsReading old → ReadRecord (λ source. Some source.now) old new false fields → records_left old ≡ []
read_end old new fields reading reads =
    let before = rw (reading.config, reading.left) at reads.0 in
    ap (records_within old.state) reading.left
    ∙ no_more old.state reading.bytes (ended_source old.state new.state reading.bytes (pending_of (Some new.rdr.now) new) fields before)

-- ---- a new reader

pub stripped : (bytes : List ℕ) → length (strip_bom bytes) ≤ length bytes
unfolding strip_bom
stripped [] = omega arith
stripped (a ∷ []) = omega arith
stripped (a ∷ b ∷ []) = omega arith
stripped (a ∷ b ∷ c ∷ rest) = go ((eqb a 239) && (eqb b 187) && (eqb c 191))
  where
    go : (mark : Bool) → length (cond mark rest (a ∷ b ∷ c ∷ rest)) ≤ length (a ∷ b ∷ c ∷ rest)
    go true = omega arith
    go false = omega arith

-- ---- either outcome of a read

pub read_so : (old new : Reader (Bor (List ℕ))) (found : Bool) (fields : List (List ℕ)) → IsReading old → ReadRecord (λ source. Some source.now) old new found fields → took_first new ≡ true
    → found ≡ true → IsReadOn old new fields
read_so old new true fields reading reads first h = read_on old new fields reading reads first
read_so old new false fields reading reads first h = absurd (cc)

pub next_so : (old new : Reader (Bor (List ℕ))) (found : Bool) (fields : List (List ℕ)) → IsReading old → ReadRecord (λ source. Some source.now) old new found fields → took_first new ≡ true
    → IsNextOf (records_left old) found fields (records_left new)
next_so old new true fields reading reads first = (read_on old new fields reading reads first).next
next_so old new false fields reading reads first = read_end old new fields reading reads

pub shorter_so : (old new : Reader (Bor (List ℕ))) (fields : List (List ℕ)) → IsReadOn old new fields → length (records_left new) < length (records_left old)
shorter_so old new fields on = let longer = ap length on.next in omega arith
