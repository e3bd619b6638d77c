-- The ledger doesn't look at marks.
use Rattle.std.specs.Prelude.{ℕ, suc, ◌≡◌, ◌+◌, ◌++◌, List, [], ◌∷◌, map, length, refl}
use Rattle.std.proofs.Common.{ap, ◌∙◌, sym, subst}
use Rattle.mn_topo.specs.Network.{Network}
use Rattle.mn_topo.specs.declared.steps.JournalEntry.{JournalEntry}
use Rattle.mn_ledger.specs.World.{World}
use Rattle.mn_ledger.specs.Packets.{Packets}
use Rattle.mn_ledger.specs.Time.{clock_after, timed}
use Rattle.mn_ledger.specs.Ledger.{after, start, no_packets, injects, next_of, left_by, packets_by, world_from, packets_from}
use Rattle.mn_ledger.specs.Lawful.{IsLawfulFrom}
use Rattle.mn_ledger.specs.Verdicts.{injections, one_if}
use Rattle.mn_ledger.specs.OneMore.{tick_from}
use Rattle.mn_ledger.specs.Items.{Channel, Load, Flight, with_made, made_in, in_time, numbered, flight_from, made_from}
use Rattle.mn_damage.specs.Same.{unmarked, AreOne}

world_un : (t : Network) (es : List JournalEntry) (w : World) → world_from t w (map unmarked es) ≡ world_from t w es
world_un t [] w = refl
world_un t (e ∷ es) w = world_un t es (after t w e.step)

packets_un : (t : Network) (es : List JournalEntry) (w : World) (k : Packets) (ps : List (List ℕ)) →
    packets_from t w k (map unmarked es) ps ≡ packets_from t w k es ps
packets_un t [] w k ps = refl
packets_un t (e ∷ es) w k ps = packets_un t es (after t w e.step) (packets_by t (after t w e.step) k e (next_of ps)) (left_by e.step ps)

flight_un : (t : Network) (es : List JournalEntry) (w : World) (k : Packets) (f : Flight) (ps : List (List ℕ)) →
    flight_from t w k f (map unmarked es) ps ≡ flight_from t w k f es ps
flight_un t [] w k f ps = refl
flight_un t (e ∷ es) w k f ps =
    let v : World = after t w e.step in
    let q : Packets = packets_by t v k e (next_of ps) in
    flight_un t es v q (with_made t e.tick (made_in t w v (timed t e k) q e.step) e.step (in_time t e f)) (left_by e.step ps)

made_un : (t : Network) (es : List JournalEntry) (w : World) (k : Packets) (n : ℕ) (ps : List (List ℕ)) →
    made_from t w k n (map unmarked es) ps ≡ made_from t w k n es ps
made_un t [] w k n ps = refl
made_un t (e ∷ es) w k n ps =
    let v : World = after t w e.step in
    let q : Packets = packets_by t v k e (next_of ps) in
    let new : List (Channel × Load) = made_in t w v (timed t e k) q e.step in
    ap (λ xs. numbered t e.tick n new ++ xs) (made_un t es v q (n + length new) (left_by e.step ps))

count_un : (es : List JournalEntry) → length (map unmarked es) ≡ length es
count_un [] = refl
count_un (e ∷ es) = ap (λ n. suc n) (count_un es)

injections_un : (es : List JournalEntry) → injections (map unmarked es) ≡ injections es
injections_un [] = refl
injections_un (e ∷ es) = ap (λ n. one_if (injects e.step) + n) (injections_un es)

tick_un : (es : List JournalEntry) (tick : ℕ) → tick_from tick (map unmarked es) ≡ tick_from tick es
tick_un [] tick = refl
tick_un (e ∷ es) tick = tick_un es (clock_after e)

lawful_marked : (t : Network) (es : List JournalEntry) (tick : ℕ) (w : World) (k : Packets) (n : ℕ) (ps : List (List ℕ)) →
    IsLawfulFrom t tick w k n (map unmarked es) ps → IsLawfulFrom t tick w k n es ps
lawful_marked t [] tick w k n ps l = tt
lawful_marked t (e ∷ es) tick w k n ps l =
    let v : World = after t w e.step in
    (l.0, l.1, l.2, lawful_marked t es (clock_after e) v (packets_by t v k e (next_of ps)) (n + 1) (left_by e.step ps) l.3)

lawful_unmarked : (t : Network) (es : List JournalEntry) (tick : ℕ) (w : World) (k : Packets) (n : ℕ) (ps : List (List ℕ)) →
    IsLawfulFrom t tick w k n es ps → IsLawfulFrom t tick w k n (map unmarked es) ps
lawful_unmarked t [] tick w k n ps l = tt
lawful_unmarked t (e ∷ es) tick w k n ps l =
    let v : World = after t w e.step in
    (l.0, l.1, l.2, lawful_unmarked t es (clock_after e) v (packets_by t v k e (next_of ps)) (n + 1) (left_by e.step ps) l.3)

-- what two lists without their marks have in common, where each has it with them
pub both : {A : Type 0} (f : List JournalEntry → A) (one other : List JournalEntry) → f (map unmarked one) ≡ f one → f (map unmarked other) ≡ f other →
    map unmarked one ≡ map unmarked other → f one ≡ f other
both f one other h g e = sym h ∙ ap f e ∙ g

pub are_one : (t : Network) (one other : List JournalEntry) → map unmarked one ≡ map unmarked other → AreOne t one other
are_one t one other e = record {
  world = both (world_from t (start t)) one other (world_un t one (start t)) (world_un t other (start t)) e;
  count = both length one other (count_un one) (count_un other) e;
  injections = both injections one other (injections_un one) (injections_un other) e;
  tick = both (tick_from 0) one other (tick_un one 0) (tick_un other 0) e;
  packets = λ ps. both (λ es. packets_from t (start t) no_packets es ps) one other (packets_un t one (start t) no_packets ps)
      (packets_un t other (start t) no_packets ps) e;
  made = λ ps. both (λ es. made_from t (start t) no_packets 0 es ps) one other (made_un t one (start t) no_packets 0 ps)
      (made_un t other (start t) no_packets 0 ps) e;
  flight = λ ps. both (λ es. flight_from t (start t) no_packets nothing es ps) one other (flight_un t one (start t) no_packets nothing ps)
      (flight_un t other (start t) no_packets nothing ps) e;
  lawful = λ ps l. lawful_marked t other 0 (start t) no_packets 0 ps
      (subst (λ es. IsLawfulFrom t 0 (start t) no_packets 0 es ps) e (lawful_unmarked t one 0 (start t) no_packets 0 ps l));
}
  where
    nothing : Flight
    nothing = record { made = 0; items = [] }
