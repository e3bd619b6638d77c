-- One entry more adds to the lists of deliveries and of frames.
use Rattle.std.proofs.Common.{ℕ, ◌≡◌, ◌+◌, Bool, true, false, List, [], ◌∷◌, ◌++◌, filter, length, refl, arith, sym, ◌∙◌, ap, append-nil, append_assoc}
use Rattle.std.proofs.lemmas.List.Elements.{filter-append}
use Rattle.mn_topo.specs.Network.{Network}
use Rattle.mn_topo.specs.declared.steps.JournalEntry.{JournalEntry}
use Rattle.mn_ledger.specs.Items.{Item, Frames, same_channel, numbered, made_by}
use Rattle.mn_ledger.specs.Ledger.{after, start, no_packets, injects, next_of, but_next, left_by, world_of, packets_from, packets_of}
use Rattle.mn_ledger.specs.OneMore.{added, with_packet, made_then}
use Rattle.mn_ledger.specs.Packets.{Packets, packets_after}
use Rattle.mn_ledger.specs.Verdicts.{one_if, injections}
use Rattle.mn_ledger.specs.World.{World}
use Rattle.mn_ledger.proofs.More.{unlooked, goes_on, none_more}
use Rattle.mn_ledger_laws.specs.Deliveries.{Delivery, delivery_at, deliveries_from, deliveries_of}
use Rattle.mn_ledger_laws.specs.OneMore.{AddsToItsLists}
use Rattle.mn_ledger.specs.Ledger.{packets_by}
use Rattle.mn_ledger.specs.Time.{timed}

-- 1. The last entry's delivery comes last

deliveries_end : (t : Network) (es : List JournalEntry) (e : JournalEntry) (w : World) (k : Packets) (ps : List (List ℕ))
    → deliveries_from t w k (es ++ e ∷ []) ps ≡ deliveries_from t w k es ps ++ delivery_at e.tick (packets_from t w k (es ++ e ∷ []) ps).delivered
deliveries_end t [] e w k ps = append-nil (delivery_at e.tick (packets_by t (after t w e.step) k e (next_of ps)).delivered)
deliveries_end t (x ∷ es) e w k ps =
    let v : World = after t w x.step in
    let q : Packets = packets_by t v k x (next_of ps) in
    ap (λ r. delivery_at x.tick q.delivered ++ r) (deliveries_end t es e v q (left_by x.step ps))
    ∙ sym (append_assoc (delivery_at x.tick q.delivered) (deliveries_from t v q es (left_by x.step ps))
    (delivery_at e.tick (packets_from t v q (es ++ e ∷ []) (left_by x.step ps)).delivered))

-- 2. A packet past those that are injected isn't looked at

abbrev Unlooked : Network → List JournalEntry → List (List ℕ) → Type 0
Unlooked t es qs = (w : World) (k : Packets) (ps : List (List ℕ)) → length ps ≡ injections es
    → deliveries_from t w k es (ps ++ qs) ≡ deliveries_from t w k es ps

-- the deliveries from a step on, by the packets that it makes
abbrev onward : Network → World → JournalEntry → List JournalEntry → Packets → List (List ℕ) → List Delivery
onward t v x es q ps = delivery_at x.tick q.delivered ++ deliveries_from t v q es ps

one_unlooked : (f : Bool) (t : Network) (x : JournalEntry) (es : List JournalEntry) (qs : List (List ℕ)) → Unlooked t es qs → injects x.step ≡ f
    → (w : World) (k : Packets) (ps : List (List ℕ))
    → length ps ≡ one_if (injects x.step) + injections es → deliveries_from t w k (x ∷ es) (ps ++ qs) ≡ deliveries_from t w k (x ∷ es) ps
one_unlooked true t x es qs ih e w k [] h = absurd (none_more (injections es) (h ∙ ap (λ b. one_if b + injections es) e))
one_unlooked true t x es qs ih e w k (p ∷ ps) h =
    let v : World = after t w x.step in
    let q : Packets = packets_by t v k x p in
    ap (onward t v x es q) (taken (p ∷ (ps ++ qs))) ∙ ap (λ r. delivery_at x.tick q.delivered ++ r) (ih v q ps (omega (arith, h, ap one_if e)))
    ∙ sym (ap (onward t v x es q) (taken (p ∷ ps)))
  where
    taken : (ps : List (List ℕ)) → left_by x.step ps ≡ but_next ps
    taken ps = rw e refl
one_unlooked false t x es qs ih e w k ps h =
    let v : World = after t w x.step in
    let q : Packets = packets_by t v k x (next_of ps) in
    ap (onward t v x es (packets_by t v k x (next_of (ps ++ qs)))) (kept (ps ++ qs))
    ∙ ap (λ r. onward t v x es r (ps ++ qs)) (unlooked t v (timed t x k) x.step (next_of (ps ++ qs)) (next_of ps) e)
    ∙ ap (λ r. delivery_at x.tick q.delivered ++ r) (ih v q ps (omega (arith, h, ap one_if e)))
    ∙ sym (ap (onward t v x es q) (kept ps))
  where
    kept : (ps : List (List ℕ)) → left_by x.step ps ≡ ps
    kept ps = rw e refl

pub more_unlooked : (t : Network) (es : List JournalEntry) (qs : List (List ℕ)) → Unlooked t es qs
more_unlooked t [] qs w k ps h = refl
more_unlooked t (x ∷ es) qs w k ps h = one_unlooked (injects x.step) t x es qs (more_unlooked t es qs) refl w k ps h

-- 3. The law

with_more : (f : Bool) (t : Network) (es : List JournalEntry) (ps : List (List ℕ)) (b : List ℕ) → length ps ≡ injections es
    → deliveries_of t es (added f b ps) ≡ deliveries_of t es ps
with_more true t es ps b h = more_unlooked t es (b ∷ []) (start t) no_packets ps h
with_more false t es ps b h = refl

pub adds_to_its_lists : (t : Network) (es : List JournalEntry) (ps : List (List ℕ)) (e : JournalEntry) (b : List ℕ) → length ps ≡ injections es
    → AddsToItsLists t es ps e b
adds_to_its_lists t es ps e b each =
    let one = goes_on t es ps e b each in
    let then : Packets = packets_by t (after t (world_of t es) e.step) (packets_of t es ps) e b in
    record {
      deliveries = deliveries_end t es e (start t) no_packets (with_packet e.step b ps)
          ∙ ap (λ r. r ++ delivery_at e.tick (packets_of t (es ++ e ∷ []) (with_packet e.step b ps)).delivered) (with_more (injects e.step) t es ps b each)
          ∙ ap (λ (q : Packets). deliveries_of t es ps ++ delivery_at e.tick q.delivered) one.packets;
      frames = λ l d. ap (filter (λ (item : Item). same_channel (Frames l d) item.on)) one.made
          ∙ filter-append (λ (item : Item). same_channel (Frames l d) item.on) (made_by t es ps)
          (numbered t e.tick (length (made_by t es ps)) (made_then t (world_of t es) (packets_of t es ps) e b));
    }
