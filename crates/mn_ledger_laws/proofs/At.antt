-- The world and the packets after the first so many steps of a journal: each is one step more than the one before.
use Rattle.std.proofs.Common.{ℕ, zero, suc, ◌≡◌, ◌+◌, ◌≤◌, Bool, true, false, List, [], ◌∷◌, ◌++◌, length, take, refl, arith, sym, ◌∙◌, ap, subst, Some, None}
use Rattle.std.specs.Prelude.{slice_get, slice_index_or}
use Rattle.std.proofs.lemmas.List.{take_all, take-append-le}
use Rattle.mn_topo.specs.Network.{Network}
use Rattle.mn_topo.specs.Steps.{fits}
use Rattle.mn_topo.specs.declared.steps.Step.{Step}
use Rattle.mn_topo.specs.declared.steps.JournalEntry.{JournalEntry}
use Rattle.mn_ledger.specs.World.{World}
use Rattle.mn_ledger.specs.Packets.{Packets, packets_after}
use Rattle.mn_ledger.specs.Ledger.{after, start, no_packets, world_from, world_of, packets_from, packets_of, injects, next_of, but_next, left_by}
use Rattle.mn_ledger.specs.Verdicts.{one_if, injections}
use Rattle.mn_ledger.specs.Refusal.{refusal_at}
use Rattle.mn_ledger.specs.Lawful.{IsLawfulFrom, IsLawfulJournal}
use Rattle.mn_ledger.proofs.More.{unlooked, none_more}
use Rattle.mn_ledger_laws.specs.Accounts.{world_at, packets_at}
use Rattle.mn_ledger.specs.Ledger.{packets_by}
use Rattle.mn_ledger.specs.Time.{clock_after, timed}

-- 1. The bytes of an injection

-- a packet's bytes, and none past the last
abbrev pub bytes_of : List (List ℕ) → ℕ → List ℕ
bytes_of ps j = slice_index_or ps j []

next_is : (ps : List (List ℕ)) → next_of ps ≡ bytes_of ps 0
next_is [] = refl
next_is (p ∷ ps) = refl

pub but_next_is : (ps : List (List ℕ)) (j : ℕ) → bytes_of (but_next ps) j ≡ bytes_of ps (1 + j)
but_next_is [] j = refl
but_next_is (p ∷ ps) j = ap (bytes_of (p ∷ ps)) (one j)
  where
    one : (j : ℕ) → suc j ≡ 1 + j
    one j = omega arith

left_is : (s : Step) (ps : List (List ℕ)) (j : ℕ) → bytes_of (left_by s ps) j ≡ bytes_of ps (one_if (injects s) + j)
left_is s ps j = by_kind (injects s) refl
  where
    by_kind : (f : Bool) → injects s ≡ f → bytes_of (left_by s ps) j ≡ bytes_of ps (one_if (injects s) + j)
    by_kind true e = rw e (but_next_is ps j)
    by_kind false e = rw e (ap (bytes_of ps) (none j))
      where
        none : (j : ℕ) → j ≡ 0 + j
        none j = omega arith

-- 2. One step more

pub no_entry : (e : JournalEntry) → None ≡ Some e → ⊥
no_entry e h = cc

same_entry : (x e : JournalEntry) → Some x ≡ Some e → x ≡ e
same_entry x e h = ap (λ o. elim o as (λ _. JournalEntry) [ None ↦ x | Some z ↦ z ]) h

world_goes : (t : Network) (es : List JournalEntry) (n : ℕ) (e : JournalEntry) (w : World) → slice_get es n ≡ Some e
    → world_from t w (take (suc n) es) ≡ after t (world_from t w (take n es)) e.step
world_goes t [] n e w h = absurd (no_entry e h)
world_goes t (x ∷ es) zero e w h = ap (λ (y : JournalEntry). after t w y.step) (same_entry x e h)
world_goes t (x ∷ es) (suc n) e w h = world_goes t es n e (after t w x.step) h

pub world_step : (t : Network) (es : List JournalEntry) (n : ℕ) (e : JournalEntry) → slice_get es n ≡ Some e
    → world_at t es (suc n) ≡ after t (world_at t es n) e.step
world_step t es n e h = world_goes t es n e (start t) h

-- the packets after a step that is done with these packets before it
abbrev pub stepped_to : Network → World → Packets → JournalEntry → List ℕ → Packets
stepped_to t w k e b = packets_by t (after t w e.step) k e b

packets_go : (t : Network) (es : List JournalEntry) (n : ℕ) (e : JournalEntry) (w : World) (k : Packets) (ps : List (List ℕ)) → slice_get es n ≡ Some e
    → packets_from t w k (take (suc n) es) ps ≡ stepped_to t (world_from t w (take n es)) (packets_from t w k (take n es) ps) e
    (bytes_of ps (injections (take n es)))
packets_go t [] n e w k ps h = absurd (no_entry e h)
packets_go t (x ∷ es) zero e w k ps h = ap (λ y. stepped_to t w k y (next_of ps)) (same_entry x e h) ∙ ap (stepped_to t w k e) (next_is ps)
packets_go t (x ∷ es) (suc n) e w k ps h =
    let v : World = after t w x.step in
    let q : Packets = packets_by t v k x (next_of ps) in
    packets_go t es n e v q (left_by x.step ps) h
    ∙ ap (stepped_to t (world_from t v (take n es)) (packets_from t v q (take n es) (left_by x.step ps)) e) (left_is x.step ps (injections (take n es)))

pub packets_step : (t : Network) (es : List JournalEntry) (ps : List (List ℕ)) (n : ℕ) (e : JournalEntry) → slice_get es n ≡ Some e
    → packets_at t es ps (suc n) ≡ stepped_to t (world_at t es n) (packets_at t es ps n) e (bytes_of ps (injections (take n es)))
packets_step t es ps n e h = packets_go t es n e (start t) no_packets ps h

pub injections_step : (es : List JournalEntry) (n : ℕ) (e : JournalEntry) → slice_get es n ≡ Some e
    → injections (take (suc n) es) ≡ one_if (injects e.step) + injections (take n es)
injections_step [] n e h = absurd (no_entry e h)
injections_step (x ∷ es) zero e h = ap (λ (y : JournalEntry). one_if (injects y.step) + 0) (same_entry x e h)
injections_step (x ∷ es) (suc n) e h = omega (arith, injections_step es n e h)

-- 3. A lawful journal's steps

-- the step at this place fits, and nothing refuses it
pub record IsDone (t : Network) (w : World) (k : Packets) (n : ℕ) (s : Step) (b : List ℕ) : Type 0 where
  pub fitting : fits t s ≡ true
  pub unrefused : refusal_at t w k n s b ≡ None

lawful_goes : (t : Network) (es : List JournalEntry) (n : ℕ) (e : JournalEntry) (tick : ℕ) (w : World) (k : Packets) (i : ℕ) (ps : List (List ℕ))
    → slice_get es n ≡ Some e → IsLawfulFrom t tick w k i es ps
    → IsDone t (world_from t w (take n es)) (packets_from t w k (take n es) ps) (i + n) e.step (bytes_of ps (injections (take n es)))
lawful_goes t [] n e tick w k i ps h lawful = absurd (no_entry e h)
lawful_goes t (x ∷ es) zero e tick w k i ps h lawful =
    subst (λ y. IsDone t w k (i + 0) y (bytes_of ps 0)) (ap (λ (y : JournalEntry). y.step) (same_entry x e h))
    (subst (λ m. IsDone t w k m x.step (bytes_of ps 0)) (none i)
    (subst (IsDone t w k i x.step) (next_is ps) (record { fitting = lawful.0; unrefused = lawful.2 })))
  where
    none : (i : ℕ) → i ≡ i + 0
    none i = omega arith
lawful_goes t (x ∷ es) (suc n) e tick w k i ps h lawful =
    let v : World = after t w x.step in
    let q : Packets = packets_by t v k x (next_of ps) in
    subst (λ m. IsDone t (world_from t v (take n es)) (packets_from t v q (take n es) (left_by x.step ps)) m e.step
    (bytes_of ps (one_if (injects x.step) + injections (take n es)))) (one i n)
    (subst (IsDone t (world_from t v (take n es)) (packets_from t v q (take n es) (left_by x.step ps)) (i + 1 + n) e.step)
    (left_is x.step ps (injections (take n es)))
    (lawful_goes t es n e (clock_after x) v q (i + 1) (left_by x.step ps) h lawful.3))
  where
    one : (i n : ℕ) → i + 1 + n ≡ i + suc n
    one i n = omega arith

pub lawful_step : (t : Network) (es : List JournalEntry) (ps : List (List ℕ)) (n : ℕ) (e : JournalEntry) → slice_get es n ≡ Some e → IsLawfulJournal t es ps
    → IsDone t (world_at t es n) (packets_at t es ps n) n e.step (bytes_of ps (injections (take n es)))
lawful_step t es ps n e h lawful =
    subst (λ m. IsDone t (world_at t es n) (packets_at t es ps n) m e.step (bytes_of ps (injections (take n es)))) (none n)
    (lawful_goes t es n e 0 (start t) no_packets 0 ps h lawful)
  where
    none : (n : ℕ) → 0 + n ≡ n
    none n = omega arith

lawful_front : (t : Network) (es : List JournalEntry) (n tick : ℕ) (w : World) (k : Packets) (i : ℕ) (ps : List (List ℕ))
    → IsLawfulFrom t tick w k i es ps → IsLawfulFrom t tick w k i (take n es) ps
lawful_front t es zero tick w k i ps h = tt
lawful_front t [] (suc n) tick w k i ps h = tt
lawful_front t (x ∷ es) (suc n) tick w k i ps h = (
  h.0,
  h.1,
  h.2,
  lawful_front t es n (clock_after x) (after t w x.step) (packets_by t (after t w x.step) k x (next_of ps)) (i + 1) (left_by x.step ps) h.3,
)

pub lawful_at : (t : Network) (es : List JournalEntry) (ps : List (List ℕ)) (n : ℕ) → IsLawfulJournal t es ps → IsLawfulJournal t (take n es) ps
lawful_at t es ps n h = lawful_front t es n 0 (start t) no_packets 0 ps h

-- 4. The end, and a longer journal

pub world_whole : (t : Network) (es : List JournalEntry) (n : ℕ) → length es ≤ n → world_at t es n ≡ world_of t es
world_whole t es n h = ap (world_of t) (take_all n es h)

pub packets_whole : (t : Network) (es : List JournalEntry) (ps : List (List ℕ)) (n : ℕ) → length es ≤ n → packets_at t es ps n ≡ packets_of t es ps
packets_whole t es ps n h = ap (λ xs. packets_of t xs ps) (take_all n es h)

-- packets past those that the entries inject aren't looked at
abbrev Unlooked : Network → List JournalEntry → List (List ℕ) → Type 0
Unlooked t es qs = (w : World) (k : Packets) (ps : List (List ℕ)) → length ps ≡ injections es → packets_from t w k es (ps ++ qs) ≡ packets_from t w k es ps

one_unlooked : (f : Bool) (t : Network) (x : JournalEntry) (es : List JournalEntry) (qs : List (List ℕ)) → Unlooked t es qs → injects x.step ≡ f
    → (w : World) (k : Packets) (ps : List (List ℕ)) → length ps ≡ one_if (injects x.step) + injections es
    → packets_from t w k (x ∷ es) (ps ++ qs) ≡ packets_from t w k (x ∷ es) ps
one_unlooked true t x es qs ih e w k [] h = absurd (none_more (injections es) (h ∙ ap (λ b. one_if b + injections es) e))
one_unlooked true t x es qs ih e w k (p ∷ ps) h =
    let v : World = after t w x.step in
    let q : Packets = packets_by t v k x p in
    ap (packets_from t v q es) (taken (p ∷ (ps ++ qs))) ∙ ih v q ps (omega (arith, h, ap one_if e)) ∙ sym (ap (packets_from t v q es) (taken (p ∷ ps)))
  where
    taken : (ps : List (List ℕ)) → left_by x.step ps ≡ but_next ps
    taken ps = rw e refl
one_unlooked false t x es qs ih e w k ps h =
    let v : World = after t w x.step in
    ap (packets_from t v (packets_by t v k x (next_of (ps ++ qs))) es) (kept (ps ++ qs))
    ∙ ap (λ q. packets_from t v q es (ps ++ qs)) (unlooked t v (timed t x k) x.step (next_of (ps ++ qs)) (next_of ps) e)
    ∙ ih v (packets_by t v k x (next_of ps)) ps (omega (arith, h, ap one_if e))
    ∙ sym (ap (packets_from t v (packets_by t v k x (next_of ps)) es) (kept ps))
  where
    kept : (ps : List (List ℕ)) → left_by x.step ps ≡ ps
    kept ps = rw e refl

more_unlooked : (t : Network) (es : List JournalEntry) (qs : List (List ℕ)) → Unlooked t es qs
more_unlooked t [] qs w k ps h = refl
more_unlooked t (x ∷ es) qs w k ps h = one_unlooked (injects x.step) t x es qs (more_unlooked t es qs) refl w k ps h

-- the packets of a journal, once a longer one has done as many steps
pub packets_longer : (t : Network) (es more : List JournalEntry) (ps later : List (List ℕ)) → length ps ≡ injections es
    → packets_at t (es ++ more) (ps ++ later) (length es) ≡ packets_of t es ps
packets_longer t es more ps later h =
    ap (λ xs. packets_of t xs (ps ++ later)) (take-append-le (length es) es more (omega arith) ∙ take_all (length es) es (omega arith))
    ∙ more_unlooked t es later (start t) no_packets ps h
