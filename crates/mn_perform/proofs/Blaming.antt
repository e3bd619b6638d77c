-- What excuses a run's fault.
use Rattle.std.proofs.Common.{◌≡◌, ℕ, List, Option, None, Some, Result, Ok, Err, inl, inr, refl, sym, ◌∙◌, subst}
use Rattle.std.specs.Prelude.{IsSome}
use Rattle.std.specs.Option.{ForSome}
use Rattle.std.proofs.lemmas.Option.{none-some}
use Rattle.mn_edge.specs.FaultLaws.{grew_by, grew_told}
use Rattle.mn_edge.specs.Files.{Absent, Files, file}
use Rattle.mn_edge.specs.Kept.{AllThere, Lacking}
use Rattle.mn_capture.specs.Packets.{CaptureView}
use Rattle.mn_perform.specs.Recorded.{told_packets}
pub use Rattle.mn_perform.proofs.Recording.{absent_untold}
use Rattle.mn_perform.specs.Faults.{Counts, Blamed}
use Rattle.mn_perform.specs.declared.ended.Fault.{Fault}
use Rattle.mn_perform.specs.declared.ended.Fault.TheVariants.{Read, Write, NoMemory}

-- excuses stand for others
pub blamed_by : {T : Type 0} (a b p q : Type 0) (old new : Counts) (result : Result T Fault) → (a → p) → (b → q) → Blamed a b old new result →
    Blamed p q old new result
blamed_by a b p q old new (Ok x) read write h = h
blamed_by a b p q old new (Err Read) read write h = (grew_by a p old.0 new.0 read h.0, h.1, h.2)
blamed_by a b p q old new (Err Write) read write h =
    (h.0, elim h.1 [ inl x ↦ inl (grew_by b q old.1 new.1 write x.0, x.1) | inr x ↦ inr x ])
blamed_by a b p q old new (Err NoMemory) read write h = h

-- after calls that left all counts
pub blamed_after : {T : Type 0} (p q : Type 0) (first before now : Counts) (result : Result T Fault) → before.0 ≡ first.0 → before.1 ≡ first.1 →
    before.2 ≡ first.2 → Blamed p q before now result → Blamed p q first now result
blamed_after {T} p q first before now result reads writes puts h = subst (λ counts. Blamed {T = T} p q counts now result) (λ i. (reads i, writes i, puts i)) h

-- over a shelf that tells its files where it is sound, what excuses no write of told files excuses none
pub blamed_told : {T : Type 0} (files : Option Files) (read write : Type 0) (old new : Counts) (result : Result T Fault) → (files ≡ None → IsSome old.1) →
    ((m : Files) → files ≡ Some m → write → ⊥) → Blamed read write old new result → Blamed read ⊥ old new result
blamed_told files read write old new (Ok x) told never h = h
blamed_told files read write old new (Err Read) told never h = h
blamed_told files read write old new (Err Write) told never h =
    (h.0, elim h.1 [ inl x ↦ inl (grew_told files write old.1 new.1 told never x.0, x.1) | inr x ↦ inr x ])
blamed_told files read write old new (Err NoMemory) told never h = h

-- where packets are told all files are there
pub lacking_then : (packets : Option (List (List ℕ))) (names : List (List ℕ)) (files : Option Files) → ForSome packets (λ all. AllThere names files) →
    Lacking names files → packets ≡ None
lacking_then packets names files there lacking = by packets refl
  where
    by : (o : Option (List (List ℕ))) → packets ≡ o → packets ≡ None
    by None is = is
    by (Some all) is = absurd (lacking (there all is))

-- and where the capture is there packets are told
pub untold_absent : (old new : Option Files) (names : List (List ℕ)) (capture : CaptureView) →
    ((m : Files) (bytes : List ℕ) → old ≡ Some m → file m capture.name ≡ Some bytes → (all : List (List ℕ)) × (told_packets new names capture ≡ Some all)) →
    told_packets new names capture ≡ None → Absent old capture.name
untold_absent old new names capture told none = λ m is. by m is (file m capture.name) refl
  where
    by : (m : Files) → old ≡ Some m → (o : Option (List ℕ)) → file m capture.name ≡ o → file m capture.name ≡ None
    by m is None e = e
    by m is (Some bytes) e =
        let x = told m bytes is e in
        let clash : ◌≡◌ {A = Option (List (List ℕ))} None (Some x.0) = sym none ∙ x.1 in
        absurd (none-some x.0 clash)
