-- Packets of a stretch in which one link changes: their paths, and their ends.
use Rattle.std.proofs.Common.{ℕ, ◌≡◌, ◌+◌, ◌<◌, ◌≤◌, List, [], ◌∷◌, ◌++◌, true, false, length, refl, arith, sym, ◌∙◌, ap, subst, append_assoc, Option, Some}
use Rattle.std.proofs.Common.{None}
use Rattle.std.specs.Prelude.{slice_index_or, nat_le, nat_lt}
use Rattle.std.specs.List.{list_all}
use Rattle.mn_ipv4.specs.Header.{ttl_of, destination_of}
use Rattle.mn_base.specs.declared.numbers.SiteNo.{SiteNo}
use Rattle.mn_base.proofs.Bools.{and_parts, less_tells}
use Rattle.mn_base.proofs.Members.{In}
use Rattle.mn_topo.specs.Network.{Network, wiring_of}
use Rattle.mn_topo.specs.Lawful.{IsLawful}
use Rattle.mn_topo.specs.declared.steps.Step.TheVariants.{Inject}
use Rattle.mn_topo.specs.declared.steps.Damaged.{Damaged}
use Rattle.mn_topo.specs.declared.steps.JournalEntry.{JournalEntry}
use Rattle.mn_ledger.specs.Places.{home_of, vrf_of}
use Rattle.mn_ledger.specs.World.{World}
use Rattle.mn_ledger.specs.Transport.{sessions_after}
use Rattle.mn_ledger.specs.Bgp.{peerings_after}
use Rattle.mn_ledger.specs.Held.{HeldRoute, best}
use Rattle.mn_ledger.specs.Eligible.{eligible}
use Rattle.mn_ledger.specs.Packets.{Packets, before_step, packets_after}
use Rattle.mn_ledger.specs.Verdicts.{injections, AreInOnePlace}
use Rattle.mn_ledger.specs.Time.{clock_after, timed}
use Rattle.mn_ledger.specs.Ledger.{after, start, no_packets, next_of, left_by, world_of, packets_from, packets_of, packets_by}
use Rattle.mn_ledger.specs.Lawful.{IsLawfulFrom, IsLawfulJournal}
use Rattle.mn_ledger.proofs.InTurn.{not_empty}
use Rattle.mn_ledger.proofs.OnePlace.{unmarked, stepped, in_one_place, timed_places}
use Rattle.mn_settled_laws.specs.Ways.{AreUpWhereOdd}
use Rattle.mn_settled_laws.specs.Arrival.{left_after}
use Rattle.mn_settled_laws.proofs.Arrival.{packets_from-append}
use Rattle.mn_reach_laws.proofs.Homes.{edge-below, home-is-edge}
use Rattle.mn_changing_laws.specs.BothNext.{GoesBy, HasNoneTwice, HasNoLoop}
use Rattle.mn_changing_laws.specs.Changing.{changes_no_other, OneLinkChanges, links_with, old_and_new_next, bound_for, edge_of_route, MeetsNoNodeTwice}
use Rattle.mn_changing_laws.proofs.Walks.{no_node_twice, no-more-than}
use Rattle.mn_changing_laws.proofs.Views.{OthersStay, others-stay-step, sends}
use Rattle.mn_changing_laws.proofs.Calm.{path_of}
use Rattle.mn_changing_laws.proofs.Stretch.{lawful-rest, alone-parts, odd-first, others-here}
use Rattle.mn_changing_laws.proofs.OnTheWay.{Sends, SendOn, Goes, goes-on, enters}

module _ (t : Network) (old : World) (l edge : ℕ) (lawful : IsLawful t) (odd : AreUpWhereOdd old) where
  send : (w : World) → OthersStay t old l w → Sends t (old_and_new_next t old l edge) edge w
  send w h x hop below is =
      let s = sends t old l w x edge hop lawful h odd below is in
      (subst (In (old_and_new_next t old l edge x)) s.1 s.0, subst (λ y. y < length t.loopbacks) s.1 s.2)

  send-on : (es : List JournalEntry) (tick : ℕ) (w : World) (k : Packets) (i : ℕ) (ps : List (List ℕ)) → IsLawfulFrom t tick w k i es ps
      → list_all (λ entry. changes_no_other l entry.step) es ≡ true → OthersStay t old l w → SendOn t (old_and_new_next t old l edge) edge w es
  send-on [] tick w k i ps journal alone h = tt
  send-on (e ∷ es) tick w k i ps journal alone h =
      let parts = and_parts (changes_no_other l e.step) (list_all (λ entry. changes_no_other l entry.step) es) alone in
      let then : OthersStay t old l (after t w e.step) = others-stay-step t old l w k e.step parts.0 (not_empty t w k i e.step (next_of ps) journal.2) h in (
        send (after t w e.step) then,
        send-on es (clock_after e) (after t w e.step) (packets_by t (after t w e.step) k e (next_of ps)) (i + 1) (left_by e.step ps) journal.3 parts.1 then,
      )

-- an injection leaves the world as it is
stays : (t : Network) (w : World) (site : SiteNo) (number : ℕ) → after t w (Inject site number) ≡ w
unfolding sessions_after peerings_after
stays t w site number = refl

module _ (t : Network) (l : ℕ) (before earlier later : List JournalEntry) (tick number : ℕ) (mark : Damaged) (site : SiteNo) (ps : List (List ℕ))
    (lawful : IsLawful t) (one : OneLinkChanges t l before (earlier ++ record { tick = tick; step = Inject site number; damaged = mark } ∷ later) ps) where
  abbrev entry : JournalEntry
  entry = record { tick = tick; step = Inject site number; damaged = mark }

  abbrev done : List JournalEntry
  done = before ++ earlier

  abbrev bytes : List ℕ
  bytes = next_of (left_after done ps)

  abbrev edge : ℕ
  edge = bound_for t (world_of t done) site.0 bytes

  abbrev hops : ℕ → List ℕ
  hops = old_and_new_next t (world_of t before) l edge

  abbrev all : List JournalEntry
  all = before ++ (earlier ++ entry ∷ later)

  goes-whole : Goes t hops (injections done) edge (ttl_of bytes) (packets_of t all ps)
  unfolding packets_after
  goes-whole =
      let w : World = world_of t done in
      let k : Packets = packets_of t done ps in
      let cut : all ≡ done ++ entry ∷ later = sym (append_assoc before earlier (entry ∷ later)) in
      let journal : IsLawfulJournal t (done ++ entry ∷ later) ps = subst (λ es. IsLawfulJournal t es ps) cut one.journal in
      let rest = lawful-rest t done (entry ∷ later) 0 (start t) no_packets 0 ps journal in
      let odd : AreUpWhereOdd (world_of t before) = odd-first t l before earlier (entry ∷ later) ps one in
      let others : OthersStay t (world_of t before) l w = others-here t l before earlier (entry ∷ later) ps one in
      let alone = (alone-parts l earlier (entry ∷ later) one.alone).1 in
      let sends_on : SendOn t hops edge w (entry ∷ later) =
      send-on t (world_of t before) l edge lawful odd (entry ∷ later) rest.0 w k rest.1 (left_after done ps) rest.2 alone others in
      let placed : AreInOnePlace k (injections done) = in_one_place t done ps in
      let now : Packets = timed t entry k in
      let v : World = after t w (Inject site number) in
      let a : Packets = packets_by t v k entry bytes in
      let here : v ≡ w = stays t w site number in
      let home_below : home_of t site.0 < length t.loopbacks = edge-below t (home_of t site.0)
      (home-is-edge t lawful site.0 (less_tells site.0 (length t.sites) (and_parts (nat_lt site.0 (length t.sites)) (nat_le 1 number) rest.2.0).0)) in
      let first : Goes t hops (injections done) edge (ttl_of bytes) a =
      enters t hops (injections done) edge (ttl_of bytes) v (before_step now) (injections done) site.0 bytes sends_on.0
      (unmarked now (injections done) (timed_places t entry k (injections done) placed)) placed.verdicts home_below refl
      (λ r e. bound_is (best (eligible t w (home_of t site.0) (vrf_of t site.0) (destination_of bytes)) (destination_of bytes)) r
      (sym (ap (λ u. best (eligible t u (home_of t site.0) (vrf_of t site.0) (destination_of bytes)) (destination_of bytes)) here) ∙ e)) in
      let last : Goes t hops (injections done) edge (ttl_of bytes) (packets_from t v a later (left_by (Inject site number) (left_after done ps))) =
      goes-on t hops (injections done) edge (ttl_of bytes) later v a (1 + injections done) (left_by (Inject site number) (left_after done ps)) sends_on.1
      (stepped t v now (Inject site number) bytes (injections done) (timed_places t entry k (injections done) placed)) (next_number (injections done)) first in
      subst (Goes t hops (injections done) edge (ttl_of bytes))
      (sym (ap (λ es. packets_of t es ps) cut ∙ packets_from-append t done (entry ∷ later) (start t) no_packets ps)) last
    where
      next_number : (n : ℕ) → n < 1 + n
      next_number n = omega arith

      bound_is : (o : Option HeldRoute) (r : HeldRoute) → o ≡ Some r → r.edge ≡ edge_of_route (home_of t site.0) o
      bound_is None r e = cc
      bound_is (Some q) r e = cc

  goes-by : GoesBy hops (path_of (packets_of t all ps) (injections done))
  goes-by = goes-whole.path.0

  meets-none-twice : HasNoLoop (wiring_of t) (links_with t (world_of t before) l false) (links_with t (world_of t before) l true) edge
      → MeetsNoNodeTwice (packets_of t all ps) (injections done) (length t.loopbacks) (ttl_of bytes)
  meets-none-twice none =
      let path : List ℕ = path_of (packets_of t all ps) (injections done) in
      let once : HasNoneTwice path =
      no_node_twice (wiring_of t) (links_with t (world_of t before) l false) (links_with t (world_of t before) l true) edge none path goes-by in
      record {
        path = once;
        lives_on = λ enough node is. short (ttl_of bytes) (length path) (length t.loopbacks) (goes-whole.spent (node.0, is))
            (no-more-than path (length t.loopbacks) once goes-whole.path.1) enough;
      }
    where
      short : (ttl long nodes : ℕ) → ttl ≤ long → long ≤ nodes → nodes < ttl → ⊥
      short ttl long nodes a b c = omega (arith, a, b, c)

pub goes_by_old_or_new : (t : Network) (l : ℕ) (before earlier later : List JournalEntry) (tick number : ℕ) (mark : Damaged) (site : SiteNo)
    (ps : List (List ℕ))
    → IsLawful t → OneLinkChanges t l before (earlier ++ record { tick = tick; step = Inject site number; damaged = mark } ∷ later) ps
    → GoesBy (old_and_new_next t (world_of t before) l (bound_for t (world_of t (before ++ earlier)) site.0 (next_of (left_after (before ++ earlier) ps))))
    (slice_index_or (packets_of t (before ++ (earlier ++ record { tick = tick; step = Inject site number; damaged = mark } ∷ later)) ps).paths
    (injections (before ++ earlier)) [])
goes_by_old_or_new t l before earlier later tick number mark site ps lawful one = goes-by t l before earlier later tick number mark site ps lawful one

pub no_node_is_met_twice : (t : Network) (l : ℕ) (before earlier later : List JournalEntry) (tick number : ℕ) (mark : Damaged) (site : SiteNo)
    (ps : List (List ℕ))
    → IsLawful t → OneLinkChanges t l before (earlier ++ record { tick = tick; step = Inject site number; damaged = mark } ∷ later) ps
    → HasNoLoop (wiring_of t) (links_with t (world_of t before) l false) (links_with t (world_of t before) l true)
    (bound_for t (world_of t (before ++ earlier)) site.0 (next_of (left_after (before ++ earlier) ps)))
    → MeetsNoNodeTwice (packets_of t (before ++ (earlier ++ record { tick = tick; step = Inject site number; damaged = mark } ∷ later)) ps)
    (injections (before ++ earlier)) (length t.loopbacks) (ttl_of (next_of (left_after (before ++ earlier) ps)))
no_node_is_met_twice t l before earlier later tick number mark site ps lawful one =
    meets-none-twice t l before earlier later tick number mark site ps lawful one
