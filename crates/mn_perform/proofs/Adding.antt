-- What follows of files to which something is added.
use Rattle.std.proofs.Common.{◌≡◌, ℕ, ◌<◌, ◌≤◌, ◌==◌, ◌+◌, Bool, true, false, if◌then◌else◌, arith, List, [], ◌++◌, length, Option, Result, Ok, Err, OnOk}
use Rattle.std.proofs.Common.{IsErr, OnErr, refl, subst, sym, ◌∙◌, ap, append_assoc, length-append}
use Rattle.std.proofs.lemmas.List.{append-nil}
use Rattle.mn_base.proofs.Bools.{other_test}
use Rattle.std.specs.Result.{IsErrAnd}
use Rattle.mn_edge.specs.declared.device.DeviceBad.{DeviceBad}
use Rattle.mn_edge.specs.Faults.{CountedUnless}
use Rattle.mn_edge.specs.FaultLaws.{counted_out}
use Rattle.mn_edge.specs.Files.{Files}
use Rattle.mn_edge.specs.Kept.{HoldsOn, BeginsOn, Framed, Lacking}
use Rattle.mn_edge.specs.KeptLaws.{begins_on, begins_on_more, framed_both, framed_same, counted_framed}
use Rattle.mn_pcap.specs.Format.{record_header, record_of}
use Rattle.mn_topo.specs.Network.{Network}
use Rattle.mn_output_laws.specs.Files.{files_of}
use Rattle.mn_perform.specs.Recorded.{BooksNow, IsFor}
use Rattle.mn_perform.specs.Adding.{Adds, MayAdd, Puts, Stays, with_part, only_in}
pub use Rattle.mn_sched.proofs.Growing.{ok_then, err_then}

-- 1. Results

pub on_err : {T E : Type 0} (r : Result T E) (P : Type 0) → P → OnErr r P
on_err (Ok x) P p = tt
on_err (Err e) P p = p

-- 2. Contents that are the same

pub holds_as : (names : List (List ℕ)) (contents other : ℕ → List ℕ) (held : List (List ℕ)) (files : Option Files) →
    ((k : ℕ) → k < length names → contents k ≡ other k) → HoldsOn names contents held files → HoldsOn names other held files
holds_as names contents other held files same h = record {
  now = h.now;
  told = h.told;
  holds = λ k within. let x = h.holds k within in record { shelved = x.shelved; there = x.there; whole = x.whole ∙ same k within };
}

pub begins_as : (names : List (List ℕ)) (contents other : ℕ → List ℕ) (files : Option Files) →
    ((k : ℕ) → k < length names → contents k ≡ other k) → BeginsOn names contents files → BeginsOn names other files
begins_as names contents other files same b = record {
  now = b.now;
  told = b.told;
  begins = λ k within. let x = b.begins k within in record { shelved = x.shelved; there = x.there; part = (x.part.0, x.part.1 ∙ same k within) };
}

-- 3. One part and then another

pub both_add : (part more : ℕ → List ℕ) (a b c : BooksNow) (f g h : Option Files) → Adds part a b f g → Adds more b c g h →
    Adds (λ k. part k ++ more k) a c f h
both_add part more a b c f g h one other = λ contents holds.
    holds_as c.names (with_part (with_part contents part) more) (with_part contents (λ k. part k ++ more k)) c.held h
    (λ k within. append_assoc (contents k) (part k) (more k)) (other (with_part contents part) (one contents holds))

pub second_may : (part more : ℕ → List ℕ) (a b c : BooksNow) (f g h : Option Files) → Adds part a b f g → MayAdd more b c g h →
    MayAdd (λ k. part k ++ more k) a c f h
second_may part more a b c f g h one other = λ contents holds.
    begins_as c.names (with_part (with_part contents part) more) (with_part contents (λ k. part k ++ more k)) h
    (λ k within. append_assoc (contents k) (part k) (more k)) (other (with_part contents part) (one contents holds))

pub first_may : (part more : ℕ → List ℕ) (a b : BooksNow) (f g : Option Files) → MayAdd part a b f g → MayAdd (λ k. part k ++ more k) a b f g
first_may part more a b f g one = λ contents holds.
    begins_on_more b.names (with_part contents part) (with_part contents (λ k. part k ++ more k)) g
    (λ k. (more k, append_assoc (contents k) (part k) (more k))) (one contents holds)

-- 4. The same parts

pub adds_as : (part other : ℕ → List ℕ) (a b : BooksNow) (f g : Option Files) → ((k : ℕ) → k < length b.names → part k ≡ other k) →
    Adds part a b f g → Adds other a b f g
adds_as part other a b f g same adds = λ contents holds.
    holds_as b.names (with_part contents part) (with_part contents other) b.held g (λ k within. ap (λ l. contents k ++ l) (same k within)) (adds contents holds)

pub may_as : (part other : ℕ → List ℕ) (a b : BooksNow) (f g : Option Files) → ((k : ℕ) → k < length b.names → part k ≡ other k) →
    MayAdd part a b f g → MayAdd other a b f g
may_as part other a b f g same adds = λ contents holds.
    begins_as b.names (with_part contents part) (with_part contents other) g (λ k within. ap (λ l. contents k ++ l) (same k within)) (adds contents holds)

-- a first part of parts that go on
pub may_more : (part more : ℕ → List ℕ) (a b : BooksNow) (f g : Option Files) → ((k : ℕ) → (rest : List ℕ) × (part k ++ rest ≡ more k)) →
    MayAdd part a b f g → MayAdd more a b f g
may_more part more a b f g goes_on may = λ contents holds.
    begins_on_more b.names (with_part contents part) (with_part contents more) g
    (λ k. ((goes_on k).0, append_assoc (contents k) (part k) (goes_on k).0 ∙ ap (λ l. contents k ++ l) (goes_on k).1)) (may contents holds)

-- 5. A file that is none of these

pub outside : (file : ℕ) (names : List (List ℕ)) (piece : List ℕ) → length names ≤ file → (k : ℕ) → k < length names → only_in file piece k ≡ []
outside file names piece none k within = ap (λ b. if b then piece else []) (other_test file k (omega (arith, none, within)))

-- pieces for one file
pub joined_in : (file k : ℕ) (a b : List ℕ) → only_in file a k ++ only_in file b k ≡ only_in file (a ++ b) k
joined_in file k a b = by (file == k)
  where
    by : (own : Bool) → (if own then a else []) ++ (if own then b else []) ≡ (if own then a ++ b else [])
    by true = refl
    by false = refl

abbrev only_if : Bool → List ℕ
only_if own = if own then [] else []

pub nothing_in : (file k : ℕ) → only_in file [] k ≡ []
nothing_in file k = by (file == k)
  where
    by : (own : Bool) → only_if own ≡ []
    by true = refl
    by false = refl

-- a first part of what is for one file
pub more_in : (file k : ℕ) (fewer more : List ℕ) → (rest : List ℕ) × (fewer ++ rest ≡ more) →
    (rest : List ℕ) × (only_in file fewer k ++ rest ≡ only_in file more k)
more_in file k fewer more goes_on = (only_in file goes_on.0 k, joined_in file k fewer goes_on.0 ∙ ap (λ l. only_in file l k) goes_on.1)

-- a record of a capture: its header and its packet
pub header_then : (file k tick : ℕ) (head front packet : List ℕ) → head ≡ record_header tick (length front + length packet) →
    only_in file head k ++ only_in file (front ++ packet) k ≡ only_in file (record_of tick (front ++ packet)) k
header_then file k tick head front packet is =
    joined_in file k head (front ++ packet)
    ∙ ap (λ l. only_in file (l ++ (front ++ packet)) k) (is ∙ ap (record_header tick) (sym (length-append front packet)))

-- header, front and packet behind bytes
pub record_put : {E : Type 0} (put : Result (Unit {0}) E) (tick : ℕ) (old head front packet new : List ℕ) →
    head ≡ record_header tick (length front + length packet) → OnOk put (new ≡ old ++ (head ++ (front ++ packet))) →
    OnOk put (new ≡ old ++ record_of tick (front ++ packet))
record_put (Err e) tick old head front packet new is put_is = tt
record_put (Ok done) tick old head front packet new is put_is =
    put_is ∙ ap (λ l. old ++ (l ++ (front ++ packet))) (is ∙ ap (record_header tick) (sym (length-append front packet)))

pub framed_then : (a b : List (List ℕ)) (f g h : Option Files) → b ≡ a → Framed a f g → Framed b g h → Framed a f h
framed_then a b f g h same one other = framed_both a f g h one (subst (λ n. Framed n g h) same other)

-- a call that comes after others fails over a sound shelf only where one of the files wasn't there before them
pub writes_then : {T : Type 0} (a b : List (List ℕ)) (f g : Option Files) (first before now : Option ℕ) (result : Result T DeviceBad) → b ≡ a → Framed a f g →
    before ≡ first → CountedUnless (Lacking b g) before now result → CountedUnless (Lacking a f) first now result
writes_then a b f g first before now result same framed left counted =
    counted_framed a f g first before now result framed left (subst (λ n. CountedUnless (Lacking n g) before now result) same counted)

pub writes_out : {U : Type 0} (a b : List (List ℕ)) (f g : Option Files) (first before now : Option ℕ) (e : DeviceBad) (result : Result U DeviceBad) →
    IsErr result × IsErrAnd result (λ y. y ≡ e) → b ≡ a → Framed a f g → before ≡ first → CountedUnless {T = Unit {0}} (Lacking b g) before now (Err e) →
    CountedUnless (Lacking a f) first now result
writes_out {U} a b f g first before now e result from same framed left counted =
    counted_out (Lacking a f) (Lacking a f) first first now e result from refl (λ lacking. lacking)
    (writes_then {T = Unit {0}} a b f g first before now (Err e) same framed left counted)

-- 6. Nothing

pub none_add : (part : ℕ → List ℕ) (a : BooksNow) (f : Option Files) → ((k : ℕ) → k < length a.names → part k ≡ []) → Adds part a a f f
none_add part a f none = λ contents holds.
    holds_as a.names contents (with_part contents part) a.held f
    (λ k within. sym (append-nil (contents k)) ∙ ap (λ l. contents k ++ l) (sym (none k within))) holds

pub none_may : (part : ℕ → List ℕ) (a b : BooksNow) (f : Option Files) → b.names ≡ a.names → MayAdd part a b f f
none_may part a b f same = λ contents holds. renamed a.names b.names (with_part contents part) f same
    (begins_on_more a.names contents (with_part contents part) f (λ k. (part k, refl)) (begins_on a.names contents a.held f holds))
  where
    renamed : (one other : List (List ℕ)) (contents : ℕ → List ℕ) (f : Option Files) → other ≡ one → BeginsOn one contents f → BeginsOn other contents f
    renamed one other contents f e b = subst (λ n. BeginsOn n contents f) (sym e) b

-- 7. Parts that are put, by a call's result

-- a call that comes after others
pub puts_then : {T U E : Type 0} {part more whole : ℕ → List ℕ} {a b c : BooksNow} {f g h : Option Files} {x : T} {result : Result U E} →
    Puts {E = E} part a b f g (Ok x) → Puts more b c g h result → ((k : ℕ) → k < length c.names → part k ++ more k ≡ whole k) → Puts whole a c f h result
puts_then {part} {more} {whole} {a} {b} {c} {f} {g} {h} {result} one other same = record {
  adds = ok_then result _ _ other.adds (λ adds. adds_as (λ k. part k ++ more k) whole a c f h same (both_add part more a b c f g h one.adds adds));
  may = err_then result _ _ other.may (λ may. may_as (λ k. part k ++ more k) whole a c f h same (second_may part more a b c f g h one.adds may));
}

-- the same parts
pub puts_as : {T E : Type 0} {part whole : ℕ → List ℕ} {a b : BooksNow} {f g : Option Files} {result : Result T E} →
    Puts part a b f g result → ((k : ℕ) → k < length b.names → part k ≡ whole k) → Puts whole a b f g result
puts_as {part} {whole} {a} {b} {f} {g} {result} one same = record {
  adds = ok_then result _ _ one.adds (adds_as part whole a b f g same);
  may = err_then result _ _ one.may (may_as part whole a b f g same);
}

-- a fault in a call, which is answered
pub puts_out : {T U : Type 0} {part : ℕ → List ℕ} {a b : BooksNow} {f g : Option Files} {e : DeviceBad} {result : Result U DeviceBad} →
    IsErr result × IsErrAnd result (λ y. y ≡ e) → Puts {T = T} part a b f g (Err e) → Puts part a b f g result
puts_out {result = Ok x} from one = absurd from.1
puts_out {result = Err y} from one = record { adds = tt; may = one.may }

-- a fault in a call that others were to follow
pub puts_cut : {T E : Type 0} {part whole : ℕ → List ℕ} {a b : BooksNow} {f g : Option Files} {e : E} (more : ℕ → List ℕ) →
    Puts {T = T} part a b f g (Err e) → ((k : ℕ) → k < length b.names → part k ++ more k ≡ whole k) → Puts {T = T} whole a b f g (Err e)
puts_cut {part} {whole} {a} {b} {f} {g} more one same = record {
  adds = tt;
  may = may_as (λ k. part k ++ more k) whole a b f g same (first_may part more a b f g one.may);
}

pub puts_short : {T E : Type 0} {part whole : ℕ → List ℕ} {a b : BooksNow} {f g : Option Files} {e : E} →
    Puts {T = T} part a b f g (Err e) → ((k : ℕ) → (rest : List ℕ) × (part k ++ rest ≡ whole k)) → Puts {T = T} whole a b f g (Err e)
puts_short {part} {whole} {a} {b} {f} {g} one goes_on = record { adds = tt; may = may_more part whole a b f g goes_on one.may }

-- no call
pub puts_none : {E : Type 0} {part : ℕ → List ℕ} {a : BooksNow} {f : Option Files} → ((k : ℕ) → k < length a.names → part k ≡ []) →
    Puts {T = Unit {0}} {E = E} part a a f f (Ok tt)
puts_none {part} {a} {f} none = record { adds = none_add part a f none; may = tt }

-- a piece for a file, among files that are seen by their fields
pub puts_seen : {T E : Type 0} (part : ℕ → List ℕ) (names held later : List (List ℕ)) (a b : BooksNow) (f g : Option Files) (result : Result T E) →
    names ≡ a.names → held ≡ a.held → b.names ≡ a.names → later ≡ b.held →
    OnOk result ((contents : ℕ → List ℕ) → HoldsOn names contents held f → HoldsOn names (with_part contents part) later g) →
    OnErr result ((contents : ℕ → List ℕ) → HoldsOn names contents held f → BeginsOn names (with_part contents part) g) → Puts part a b f g result
puts_seen part names held later a b f g result same before stay after grown begun = record {
  adds = ok_then result _ _ grown (λ puts contents holds.
      subst (λ l. HoldsOn b.names (with_part contents part) l g) after
      (subst (λ n. HoldsOn n (with_part contents part) later g) (same ∙ sym stay) (puts contents (seen contents holds))));
  may = err_then result _ _ begun (λ puts contents holds.
      subst (λ n. BeginsOn n (with_part contents part) g) (same ∙ sym stay) (puts contents (seen contents holds)));
}
  where
    seen : (contents : ℕ → List ℕ) → HoldsOn a.names contents a.held f → HoldsOn names contents held f
    seen contents holds =
        subst (λ n. HoldsOn n contents held f) (sym same) (subst (λ l. HoldsOn a.names contents l f) (sym before) holds)

-- 8. What stays

pub stays_same : {Kept : Type 0} {files : Kept → Option Files} {write_faults read_faults : Kept → Option ℕ} {a : BooksNow} {f : Kept} →
    Stays {T = Unit {0}} files write_faults read_faults a a f f (Ok tt)
stays_same {files} {a} {f} = record { names = refl; places = refl; framed = framed_same a.names (files f); writes = refl; reads = refl }

-- a call that comes after others fails over a sound shelf only where one of the files wasn't there before them
pub stays_then : {Kept T U : Type 0} {files : Kept → Option Files} {write_faults read_faults : Kept → Option ℕ} {a b c : BooksNow} {f g h : Kept} {x : T}
    {result : Result U DeviceBad} → Stays files write_faults read_faults a b f g (Ok x) → Stays files write_faults read_faults b c g h result →
    Stays files write_faults read_faults a c f h result
stays_then {files} {write_faults} {a} {b} {f} {g} {h} {result} one other = record {
  names = other.names ∙ one.names;
  places = other.places ∙ one.places;
  framed = framed_then a.names b.names (files f) (files g) (files h) one.names one.framed other.framed;
  writes = writes_then a.names b.names (files f) (files g) (write_faults f) (write_faults g) (write_faults h) result one.names one.framed one.writes
      other.writes;
  reads = other.reads ∙ one.reads;
}

-- a fault in a call, which is answered
pub stays_out : {Kept U : Type 0} {files : Kept → Option Files} {write_faults read_faults : Kept → Option ℕ} {a b : BooksNow} {f g : Kept} {e : DeviceBad}
    {result : Result U DeviceBad} → IsErr result × IsErrAnd result (λ y. y ≡ e) → Stays {T = Unit {0}} files write_faults read_faults a b f g (Err e) →
    Stays files write_faults read_faults a b f g result
stays_out {files} {write_faults} {a} {f} {g} {e} {result} from one = record {
  names = one.names;
  places = one.places;
  framed = one.framed;
  writes = counted_out (Lacking a.names (files f)) (Lacking a.names (files f)) (write_faults f) (write_faults f) (write_faults g) e result from refl
      (λ lacking. lacking) one.writes;
  reads = one.reads;
}

-- among files that are seen by their fields
pub stays_seen : {Kept T : Type 0} {files : Kept → Option Files} {write_faults read_faults : Kept →
    Option ℕ} (names : List (List ℕ)) {a b : BooksNow} {f g : Kept}
    {result : Result T DeviceBad} → names ≡ a.names → b.names ≡ a.names → b.places ≡ a.places → Framed names (files f) (files g) →
    CountedUnless (Lacking names (files f)) (write_faults f) (write_faults g) result → read_faults g ≡ read_faults f →
    Stays files write_faults read_faults a b f g result
stays_seen {files} {write_faults} names {f = f} {g = g} {result = result} same stay places framed writes reads = record {
  names = stay;
  places = places;
  framed = subst (λ n. Framed n (files f) (files g)) same framed;
  writes = subst (λ n. CountedUnless (Lacking n (files f)) (write_faults f) (write_faults g) result) same writes;
  reads = reads;
}

-- the files are still those of the run
pub stays_for : {Kept T : Type 0} {files : Kept → Option Files} {write_faults read_faults : Kept → Option ℕ} {a b : BooksNow} {f g : Kept}
    {result : Result T DeviceBad} (t : Network) → Stays files write_faults read_faults a b f g result → IsFor a t → IsFor b t
stays_for t stays is = record { files = ap length stays.names ∙ is.files; table = stays.places ∙ is.table }

pub in_run : (b : BooksNow) (t : Network) (k : ℕ) → IsFor b t → k < length b.names → k < length (files_of t)
in_run b t k is within = subst (λ n. k < n) is.files within
