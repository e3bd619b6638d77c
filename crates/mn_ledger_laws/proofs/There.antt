-- What a lawful topology says by number exists; and a node that can send towards another has a link to its next hop.
use Rattle.std.proofs.Common.{ℕ, ◌≡◌, ◌≢◌, ◌<◌, inl, inr, Bool, true, false, List, [], ◌∷◌, ◌++◌, length, refl, sym, ◌∙◌, ap, subst, Option, Some, None}
use Rattle.std.specs.Prelude.{◌==◌, ◌&&◌, ◌||◌, nat_lt}
use Rattle.std.proofs.lemmas.Bool.{and_parts, ltb-true}
use Rattle.std.proofs.lemmas.Bool.Decides.{eqb_tells}
use Rattle.mn_wiring.specs.declared.links.Dir.{Dir}
use Rattle.mn_wiring.specs.declared.links.Dir.TheVariants.{Forth, Back}
use Rattle.mn_base.specs.Numbers.{has_rd_form}
use Rattle.mn_wiring.specs.Wiring.{link, is_end, across, sender, receiver}
use Rattle.mn_wiring.specs.Paths.{IsNext, next}
use Rattle.mn_wiring.proofs.Next.{next_is}
use Rattle.mn_base.proofs.Rules.{none_is}
use Rattle.mn_topo.specs.declared.sites.SiteDef.{SiteDef}
use Rattle.mn_topo.specs.Lawful.{IsLawful, is_vrf_of}
use Rattle.mn_topo.specs.Network.{Network, wiring_of}
use Rattle.mn_ledger.specs.Places.{vrf_at, vrf_of, edge_of, home_of}
use Rattle.mn_ledger.specs.World.{World}
use Rattle.mn_ledger.specs.Ldp.{Knowledge, hearing, is_operational, is_mapped, usable_over}
use Rattle.mn_ledger.specs.Transport.{usable, knowledge_of}
use Rattle.mn_ledger.specs.Packets.{away_from}
use Rattle.mn_ledger.proofs.Peers.{same_numbers}
use Rattle.mn_ledger.proofs.Turning.{dir_ends, across-end}
use Rattle.mn_ledger_laws.specs.Accounts.{AreJoined, GoesOver}
pub use Rattle.mn_topo.proofs.Wirings.{passes_at as at_all}

-- 1. Sites, VRFs and edges

pub vrf_there : (t : Network) (site : ℕ) → IsLawful t → site < length t.sites → vrf_of t site < length t.vrfs
vrf_there t site lawful h = ltb-true _ _ (at_all (λ (s : SiteDef). nat_lt s.vrf.0 (length t.vrfs)) t.sites site _ lawful.sites.placed h)

pub edge_there : (t : Network) (v : ℕ) → IsLawful t → v < length t.vrfs → edge_of t v < length t.loopbacks
edge_there t v lawful h =
    ltb-true _ _ (and_parts (nat_lt (edge_of t v) (length t.loopbacks)) (has_rd_form (vrf_at t v).rd.0)
    (at_all (is_vrf_of (length t.loopbacks)) t.vrfs v _ lawful.vrfs.formed h)).0

pub home_there : (t : Network) (site : ℕ) → IsLawful t → site < length t.sites → home_of t site < length t.loopbacks
home_there t site lawful h = edge_there t (vrf_of t site) lawful (vrf_there t site lawful h)

-- 2. Links

pub receiver_there : (t : Network) (l : ℕ) (d : Dir) → IsLawful t → l < length t.links → receiver (wiring_of t) l d < length t.loopbacks
receiver_there t l Forth lawful h = (lawful.joins_nodes l h).1
receiver_there t l Back lawful h = (lawful.joins_nodes l h).0

pub joined_over : (t : Network) (l : ℕ) (d : Dir) → IsLawful t → l < length t.links → AreJoined t (sender (wiring_of t) l d) (receiver (wiring_of t) l d)
joined_over t l d lawful h =
    let ends = dir_ends (wiring_of t) l d (lawful.ends_differ l h) in
    let other = across-end (wiring_of t) l (receiver (wiring_of t) l d) (lawful.ends_differ l h) ends.0 in
    record {
      link = l;
      there = h;
      at_node = subst (λ n. is_end (wiring_of t) l n ≡ true) ends.1 other.0;
      leads = subst (λ n. across (wiring_of t) l n ≡ receiver (wiring_of t) l d) ends.1 other.1;
    }

-- 3. Where a node can send

pub by_next : (k : Knowledge) (fec : ℕ) (o : Option (ℕ × ℕ)) (hop : ℕ × ℕ) → usable_over k fec o ≡ Some hop → o ≡ Some hop
by_next k fec None hop h = h
by_next k fec (Some other) hop h = by_test (is_operational k other.1 && is_mapped false fec (hearing k other.1).messages) h
  where
    by_test : (b : Bool) → elim b as (λ _. Option (ℕ × ℕ)) [ true ↦ Some other | false ↦ None ] ≡ Some hop → Some other ≡ Some hop
    by_test true e = e
    by_test false e = absurd (none_is hop e)

-- over a link that is there, and away from the node
pub record IsHop (t : Network) (node : ℕ) (hop : ℕ × ℕ) : Type 0 where
  pub there : hop.1 < length t.links
  pub at_node : is_end (wiring_of t) hop.1 node ≡ true
  pub leads : hop.0 ≡ across (wiring_of t) hop.1 node
  pub sends : sender (wiring_of t) hop.1 (away_from t hop.1 node) ≡ node

or_false : (b : Bool) → (false || b) ≡ true → b ≡ true
or_false b h = h

pub sends_from : (t : Network) (l node : ℕ) → is_end (wiring_of t) l node ≡ true → sender (wiring_of t) l (away_from t l node) ≡ node
sends_from t l node h = elim (eqb_tells (link (wiring_of t) l).a.0 node) [
  | inl q ↦ rw q.0 q.1
  | inr q ↦ rw q.0 (same_numbers (link (wiring_of t) l).b.0 node (sym (ap (λ b. b || ((link (wiring_of t) l).b.0 == node)) q.0) ∙ h))
]

pub hop_is : (t : Network) (w : World) (node edge : ℕ) (hop : ℕ × ℕ) → IsLawful t → node < length t.loopbacks → node ≢ edge
    → usable t w.config w.views w.sessions node edge ≡ Some hop → IsHop t node hop
hop_is t w node edge hop lawful below apart h =
    let k : Knowledge = knowledge_of (wiring_of t) w.config w.views w.sessions node in
    let is : next (wiring_of t) k.view node edge ≡ Some hop = by_next k edge (next (wiring_of t) k.view node edge) hop h in
    let n : IsNext (wiring_of t) k.view node edge (Some hop) = subst (IsNext (wiring_of t) k.view node edge) is
    (next_is (wiring_of t) k.view edge lawful.joins_nodes node below apart) in
    record { there = n.1.there; at_node = n.1.at_node; leads = n.0; sends = sends_from t hop.1 node n.1.at_node }

-- 4. Paths

pub goes_further : (t : Network) (from : ℕ) (nodes : List ℕ) (last next : ℕ) → GoesOver t from nodes last → AreJoined t last next
    → GoesOver t from (nodes ++ next ∷ []) next
goes_further t from [] last next h j = (subst (λ n. AreJoined t n next) (sym h) j, refl)
goes_further t from (node ∷ nodes) last next h j = (h.0, goes_further t node nodes last next h.1 j)

pub goes_to : (t : Network) (from : ℕ) (nodes : List ℕ) (last other : ℕ) → last ≡ other → GoesOver t from nodes last → GoesOver t from nodes other
goes_to t from nodes last other e h = subst (GoesOver t from nodes) e h
