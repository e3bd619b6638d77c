-- A notice can be learned, and a message received, exactly where one is in flight on its channel.
use Rattle.std.proofs.Common.{ℕ, suc, ◌≡◌, ◌≢◌, ◌+◌, ◌-◌, ◌<◌, ◌≤◌, inl, inr, Bool, true, false, List, [], ◌∷◌, map, length, drop, refl, arith, sym, ◌∙◌}
use Rattle.std.proofs.Common.{ap, subst, Some, None}
use Rattle.std.specs.Prelude.{◌==◌, ◌&&◌, ◌||◌, not, nat_lt, nat_le}
use Rattle.std.proofs.lemmas.Bool.Decides.{leb_tells}
use Rattle.std.proofs.lemmas.List.{length-drop}
use Rattle.mn_wiring.specs.Wiring.{is_end, across, sender, receiver}
use Rattle.mn_wiring.specs.declared.links.Dir.{Dir}
use Rattle.mn_base.proofs.Bools.{clash}
use Rattle.mn_topo.specs.VrfTable.{is_edge}
use Rattle.mn_topo.specs.Network.{Network, wiring_of}
use Rattle.mn_topo.specs.Lawful.{IsLawful}
use Rattle.mn_topo.specs.Steps.{fits}
use Rattle.mn_topo.specs.declared.steps.Step.{Step}
use Rattle.mn_topo.specs.declared.steps.Step.TheVariants as step
use Rattle.mn_topo.specs.declared.steps.JournalEntry.{JournalEntry}
use Rattle.mn_ledger.specs.World.{World}
use Rattle.mn_ledger.specs.Transport.{lives}
use Rattle.mn_ledger.specs.Bgp.{peers_live}
use Rattle.mn_ledger.specs.Packets.{Packets}
use Rattle.mn_ledger.specs.Ledger.{no_packets, world_of, packets_of}
use Rattle.mn_ledger.specs.Lawful.{IsLawfulJournal}
use Rattle.mn_ledger.specs.Refusal.{is_empty}
use Rattle.mn_ledger.specs.Turns.{IsInTurn}
use Rattle.mn_ledger.specs.Items.{Channel, Notices, Messages, Routes, Says, Tells, Item, Flight, loads_on, made_by, flight_of}
use Rattle.mn_ledger.specs.InFlight.{is_in_order, IsInFlight}
use Rattle.mn_ledger.proofs.Turning.{dir_ends, across-end}
use Rattle.mn_ledger.proofs.InTurn.{in_turn}
use Rattle.mn_ledger.proofs.Flows.{in_flight}
use Rattle.mn_drain_laws.specs.Drain.{IsDrainStep, IsDrained, taken_from, is_nil}
use Rattle.mn_drain_laws.proofs.Drain.{less-is, and-both, unequal}

none-some : (on : Channel) → None ≡ Some on → ⊥
none-some on e = cc

some-same : (a b : Channel) → Some a ≡ Some b → a ≡ b
some-same a b e = ap (λ o. elim o as (λ _. Channel) [ None ↦ a | Some z ↦ z ]) e

-- nothing is left of a list past its end
nil-drop : {A B : Type 0} (f : A → B) (n : ℕ) (xs : List A) → is_nil (map f (drop n xs)) ≡ nat_le (length xs) n
nil-drop {A = A} f n xs = by_list (drop n xs) (length-drop n xs)
  where
    by_list : (ys : List A) → length ys ≡ length xs - n → is_nil (map f ys) ≡ nat_le (length xs) n
    by_list [] e = elim (leb_tells (length xs) n) [ inl q ↦ sym q.0 | inr q ↦ absurd (over e q.1) ]
      where
        over : 0 ≡ length xs - n → n < length xs → ⊥
        over a b = omega (arith, a, b)
    by_list (y ∷ ys) e = elim (leb_tells (length xs) n) [ inl q ↦ absurd (over e q.1) | inr q ↦ sym q.0 ]
      where
        over : suc (length ys) ≡ length xs - n → length xs ≤ n → ⊥
        over a b = omega (arith, a, b)

nil-count : {A : Type 0} (xs : List A) (m n : ℕ) → m + length xs ≡ n → is_nil xs ≡ nat_le n m
nil-count [] m n e = elim (leb_tells n m) [ inl q ↦ sym q.0 | inr q ↦ absurd (over e q.1) ]
  where
    over : m + 0 ≡ n → m < n → ⊥
    over a b = omega (arith, a, b)
nil-count (x ∷ xs) m n e = elim (leb_tells n m) [ inl q ↦ absurd (over e q.1) | inr q ↦ sym q.0 ]
  where
    over : m + suc (length xs) ≡ n → n ≤ m → ⊥
    over a b = omega (arith, a, b)

-- a session without a life has nothing in flight
dead-or : (alive : Bool) (m n : ℕ) → (alive ≡ false → m ≡ 0) → nat_le m n ≡ (not alive || nat_le m n)
dead-or true m n h = refl
dead-or false m n h = ap (λ k. nat_le k n) (h refl) ∙ elim (leb_tells 0 n) [ inl q ↦ q.0 | inr q ↦ absurd (none q.1) ]
  where
    none : n < 0 → ⊥
    none h = omega (arith, h)

sender-ends : (t : Network) → IsLawful t → (l : ℕ) (dir : Dir) → l < length t.links
    → (is_end (wiring_of t) l (sender (wiring_of t) l dir) ≡ true) × (across (wiring_of t) l (sender (wiring_of t) l dir) ≡ receiver (wiring_of t) l dir)
sender-ends t lawful l dir h =
    let ends = dir_ends (wiring_of t) l dir (lawful.ends_differ l h) in
    let other = across-end (wiring_of t) l (receiver (wiring_of t) l dir) (lawful.ends_differ l h) ends.0 in
    (subst (λ n. is_end (wiring_of t) l n ≡ true) ends.1 other.0, subst (λ n. across (wiring_of t) l n ≡ receiver (wiring_of t) l dir) ends.1 other.1)

takes : (t : Network) (w : World) (k : Packets) (made : List Item) (flight : Flight) → IsLawful t → IsInTurn t w → IsInFlight t w k made flight
    → (s : Step) (on : Channel) → fits t s ≡ true → taken_from t s ≡ Some on → is_empty t w no_packets s ≡ is_nil (loads_on on flight.items)
takes t w k made flight lawful turn f (step.Learn n l) on fit e =
    let both = and-both (nat_lt n.0 (length t.loopbacks)) (nat_lt l.0 (length t.links)) fit in
    sym (nil-count (loads_on (Notices l.0 n.0) flight.items) (w.views.learned n.0 l.0) (w.views.changes l.0)
    (f.notices l.0 n.0 (less-is n.0 (length t.loopbacks) both.0)))
    ∙ ap (λ c. is_nil (loads_on c flight.items)) (some-same (Notices l.0 n.0) on e)
takes t w k made flight lawful turn f (step.HearLdp l dir) on fit e =
    let there : l.0 < length t.links = less-is l.0 (length t.links) fit in
    let m : ℕ = sender (wiring_of t) l.0 dir in
    let ends = sender-ends t lawful l.0 dir there in
    sym (ap is_nil (f.messages l.0 m there ends.0) ∙ nil-drop (λ message. Says message) (w.sessions.heard l.0 (across (wiring_of t) l.0 m))
    (w.sessions.said l.0 m)
    ∙ ap (λ n. nat_le (length (w.sessions.said l.0 m)) (w.sessions.heard l.0 n)) ends.1
    ∙ dead-or (lives w.config l.0) (length (w.sessions.said l.0 m)) (w.sessions.heard l.0 (receiver (wiring_of t) l.0 dir))
    (λ dead. ap length ((turn.ldp l.0 m there ends.0).silent dead).0))
    ∙ ap (λ c. is_nil (loads_on c flight.items)) (some-same (Messages l.0 m) on e)
takes t w k made flight lawful turn f (step.HearBgp a b) on fit e =
    let both = and-both (is_edge t.vrfs a.0 && is_edge t.vrfs b.0) (not (a.0 == b.0)) fit in
    let apart : a.0 ≢ b.0 = unequal a.0 b.0 both.1 in
    sym (ap is_nil (f.routes a.0 b.0 apart) ∙ nil-drop (λ telling. Tells telling) (w.peerings.heard b.0 a.0) (w.peerings.told a.0 b.0)
    ∙ dead-or (peers_live w.config a.0 b.0) (length (w.peerings.told a.0 b.0)) (w.peerings.heard b.0 a.0)
    (λ dead. ap length ((turn.bgp a.0 b.0 apart).silent dead).0))
    ∙ ap (λ c. is_nil (loads_on c flight.items)) (some-same (Routes a.0 b.0) on e)
takes t w k made flight lawful turn f (step.LinkUp l) on fit e = absurd (none-some on e)
takes t w k made flight lawful turn f (step.LinkDown l) on fit e = absurd (none-some on e)
takes t w k made flight lawful turn f (step.LdpAdmin l o) on fit e = absurd (none-some on e)
takes t w k made flight lawful turn f (step.BgpUp a b) on fit e = absurd (none-some on e)
takes t w k made flight lawful turn f (step.BgpDown a b) on fit e = absurd (none-some on e)
takes t w k made flight lawful turn f (step.AddRoute s p) on fit e = absurd (none-some on e)
takes t w k made flight lawful turn f (step.DelRoute s p) on fit e = absurd (none-some on e)
takes t w k made flight lawful turn f (step.Import v o x) on fit e = absurd (none-some on e)
takes t w k made flight lawful turn f (step.Export v o x) on fit e = absurd (none-some on e)
takes t w k made flight lawful turn f (step.Attach s) on fit e = absurd (none-some on e)
takes t w k made flight lawful turn f (step.Detach s) on fit e = absurd (none-some on e)
takes t w k made flight lawful turn f (step.Inject s n) on fit e = absurd (none-some on e)
takes t w k made flight lawful turn f (step.Carry l dir place) on fit e = absurd (none-some on e)
takes t w k made flight lawful turn f (step.Lose l dir place) on fit e = absurd (none-some on e)
takes t w k made flight lawful turn f (step.Tick ticks) on fit e = absurd (none-some on e)

pub takes_what_flies : (t : Network) (es : List JournalEntry) (ps : List (List ℕ)) (s : Step) (on : Channel) → IsLawful t → IsLawfulJournal t es ps
    → fits t s ≡ true → taken_from t s ≡ Some on
    → is_empty t (world_of t es) no_packets s ≡ is_nil (loads_on on (flight_of t es ps).items)
takes_what_flies t es ps s on lawful journal fit e =
    takes t (world_of t es) (packets_of t es ps) (made_by t es ps) (flight_of t es ps) lawful (in_turn t es ps lawful journal)
    (in_flight t es ps lawful journal) s on fit e

-- 2. Where no notice and no message flies, nothing is left to a drain

leaves-none : (t : Network) (es : List JournalEntry) (ps : List (List ℕ)) → IsLawful t → IsLawfulJournal t es ps
    → ((on : Channel) → is_in_order on ≡ true → loads_on on (flight_of t es ps).items ≡ [])
    → (s : Step) (on : Channel) → taken_from t s ≡ Some on → is_in_order on ≡ true → IsDrainStep t (world_of t es) s → ⊥
leaves-none t es ps lawful journal none s on e order d =
    clash (sym (takes_what_flies t es ps s on lawful journal d.fitting e ∙ ap is_nil (none on order)) ∙ d.there)

pub drained_where_none_flies : (t : Network) (es : List JournalEntry) (ps : List (List ℕ)) → IsLawful t → IsLawfulJournal t es ps
    → ((on : Channel) → is_in_order on ≡ true → loads_on on (flight_of t es ps).items ≡ []) → IsDrained t (world_of t es)
drained_where_none_flies t es ps lawful journal none (step.Learn n l) d = leaves-none t es ps lawful journal none (step.Learn n l) (Notices l.0 n.0) refl refl d
drained_where_none_flies t es ps lawful journal none (step.HearLdp l dir) d =
    leaves-none t es ps lawful journal none (step.HearLdp l dir) (Messages l.0 (sender (wiring_of t) l.0 dir)) refl refl d
drained_where_none_flies t es ps lawful journal none (step.HearBgp a b) d =
    leaves-none t es ps lawful journal none (step.HearBgp a b) (Routes a.0 b.0) refl refl d
drained_where_none_flies t es ps lawful journal none (step.LinkUp l) d = d.in_turn
drained_where_none_flies t es ps lawful journal none (step.LinkDown l) d = d.in_turn
drained_where_none_flies t es ps lawful journal none (step.LdpAdmin l o) d = d.in_turn
drained_where_none_flies t es ps lawful journal none (step.BgpUp a b) d = d.in_turn
drained_where_none_flies t es ps lawful journal none (step.BgpDown a b) d = d.in_turn
drained_where_none_flies t es ps lawful journal none (step.AddRoute s p) d = d.in_turn
drained_where_none_flies t es ps lawful journal none (step.DelRoute s p) d = d.in_turn
drained_where_none_flies t es ps lawful journal none (step.Import v o x) d = d.in_turn
drained_where_none_flies t es ps lawful journal none (step.Export v o x) d = d.in_turn
drained_where_none_flies t es ps lawful journal none (step.Attach s) d = d.in_turn
drained_where_none_flies t es ps lawful journal none (step.Detach s) d = d.in_turn
drained_where_none_flies t es ps lawful journal none (step.Inject s n) d = d.in_turn
drained_where_none_flies t es ps lawful journal none (step.Carry l dir place) d = d.in_turn
drained_where_none_flies t es ps lawful journal none (step.Lose l dir place) d = d.in_turn
drained_where_none_flies t es ps lawful journal none (step.Tick ticks) d = d.in_turn
