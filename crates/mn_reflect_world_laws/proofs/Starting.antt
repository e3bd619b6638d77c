-- What is kept at the start stands for no steps.
use Rattle.std.proofs.Common.{ℕ, zero, suc, ◌≡◌, ◌+◌, Bool, true, false, List, [], ◌∷◌, map, filter, length, replicate, Option, Some, None, refl, arith, sym}
use Rattle.std.proofs.Common.{◌∙◌, ap}
use Rattle.std.specs.Prelude.{◌==◌, not, nat_lt, if◌then◌else◌, option_map}
use Rattle.std.specs.List.{range_with_len}
use Rattle.mn_base.proofs.Members.{in_contained}
use Rattle.mn_wiring.specs.Wiring.{nodes_of}
use Rattle.mn_topo.specs.Network.{Network, wiring_of}
use Rattle.mn_ledger.specs.Places.{loopback, sites_at}
use Rattle.mn_ledger.specs.Bgp.{peers_live, state_heard}
use Rattle.mn_ledger.specs.Ledger.{first_config}
use Rattle.mn_bgp_session.specs.declared.session.BgpSession.{BgpSession}
use Rattle.mn_routing_laws.proofs.Tables.{map_same}
use Rattle.mn_offers.specs.Heard.{Heard}
use Rattle.mn_reflect_ledger_laws.specs.Words.{Key, Offer}
use Rattle.mn_reflect_ledger_laws.specs.Picks.{announced_by, first_announced, or_else, by_address}
use Rattle.mn_reflect_ledger_laws.specs.World.{start}
use Rattle.mn_reflect_world_laws.specs.Labels.{first_labels, attachments_at}
use Rattle.mn_reflect_world_laws.specs.Kept.{kept_in}
use Rattle.mn_reflect_world_laws.specs.Now.{ReflectNow, IsReflect, session_in}
use Rattle.mn_reflect_world_laws.specs.Starts.{nothing_decided, StartsAs}
use Rattle.mn_reflect_world_laws.proofs.Given.{nothing_yet}
use Rattle.mn_reflect_world_laws.proofs.Rows.{table, table_same}

same_all : {A : Type 0} (x : A) (a n : ℕ) → replicate n x ≡ map (λ (l : ℕ). x) (range_with_len a n)
same_all x a zero = refl
same_all x a (suc n) = ap (λ xs. x ∷ xs) (same_all x (a + 1) n)

both_all : {A : Type 0} (x : A) (n : ℕ) → replicate n (replicate n x) ≡ table n (λ node peer. x)
both_all x n = ap (λ xs. replicate n xs) (same_all x 0 n) ∙ same_all (map (λ (peer : ℕ). x) (range_with_len 0 n)) 0 n

module _ (t : Network) (reflectors : List ℕ) where
  never : (n p : ℕ) → peers_live (first_config t) n p ≡ false
  never n p = by (nat_lt n p)
    where
      by : (b : Bool) → (if b then false else false) ≡ false
      by true = refl
      by false = refl

  no_session : (n p : ℕ) → None ≡ session_in t (start t) n p
  no_session n p =
      sym (ap (λ b. if b
      then Some (let e : BgpSession = record { asn = t.asn; me = loopback t n; peer = loopback t p; state = state_heard 0 } in e)
      else None) (never n p))

  no_offer : (n p : ℕ) → [] ≡ kept_in (first_labels t) (start t) n p
  no_offer n p = sym (ap (λ b. let ks : List Heard = if b then [] else [] in ks) (never n p))

  silent : (n : ℕ) (key : Key) (peers : List ℕ) → first_announced (start t) n key peers ≡ None
  silent n key [] = refl
  silent n key (p ∷ peers) = ap (λ o. or_else o (first_announced (start t) n key peers)) (none n p) ∙ silent n key peers
    where
      none : (n p : ℕ) → announced_by (start t) n p key ≡ None
      none n p = ap (λ b. let o : Option Offer = if b then None else None in o) (never n p)

  pub starts : (now : ReflectNow) → StartsAs t reflectors now → IsReflect t reflectors [] now
  starts now h = (
    record {
      works = h.works;
      topology_is = h.topology_is;
      reflectors_are = h.reflectors_are;
      decisions = nothing_decided;
      decided = record {
        last = λ edge key is below off. sym (ap (λ o. option_map (λ (offer : Offer). offer.export) o)
            (silent edge key (by_address t (filter (λ other. not (other == edge)) reflectors))));
        told = λ edge home telling i. absurd (in_contained [] telling i);
      };
      edges = h.edges;
      sessions = h.sessions ∙ both_all None (length t.loopbacks)
          ∙ table_same (length t.loopbacks) (λ node peer. None) (session_in t (start t)) no_session;
      heard = h.heard ∙ both_all [] (length t.loopbacks)
          ∙ table_same (length t.loopbacks) (λ node peer. []) (kept_in (first_labels t) (start t)) no_offer;
      attachments = h.attachments ∙ map_same (λ node. length (sites_at t node)) (attachments_at t (first_config t)) (nodes_of (wiring_of t))
          (λ node i. omega (arith, nothing_yet (sites_at t node)));
      statics = h.statics;
      nodes = h.nodes;
      letters = h.letters;
    },
    h.done,
  )
