-- A packet that leaves its edge.
use Rattle.std.proofs.Common.{ℕ, ◌≡◌, ◌≢◌, ◌-◌, ◌<◌, ◌∷◌, [], Bool, true, false, List, length, refl, arith, sym, ◌∙◌, ap, Some, None}
use Rattle.std.specs.Prelude.{◌==◌, Option, if◌then◌else◌}
use Rattle.mn_drops.specs.declared.drops.Rule.TheVariants as rule
use Rattle.mn_wiring.specs.declared.links.Dir.{Dir}
use Rattle.mn_ipv4.specs.Header.{ttl_of, aged}
use Rattle.mn_stack.specs.Labelled.{Labelled}
use Rattle.mn_topo.specs.Network.{Network, Leads}
use Rattle.mn_topo.specs.Lawful.{IsLawful}
use Rattle.mn_ledger.specs.World.{World}
use Rattle.mn_ledger.specs.Transport.{usable}
use Rattle.mn_ledger.specs.Held.{HeldRoute}
use Rattle.mn_ledger.specs.Packets.{Packets, bound, hop_over, away_from, stamped}
use Rattle.mn_frame_laws.specs.Given.{Labelling, label_for}
use Rattle.mn_frame_laws.specs.Frames.{entry, inner}
use Rattle.mn_frame_laws.specs.Entries.{IsPushed, outer_over}
use Rattle.mn_frame_laws.specs.Tables.{AreMapped}
use Rattle.mn_frame_laws.specs.Arrivals.{sent}
use Rattle.mn_frame_laws.specs.Departures.{with_outer, Departs, LeavesAsTold, StaysAsTold}
use Rattle.mn_frame_laws.proofs.Links.{hop_leads, only_link, leads_are_joined}

-- with the label of the way out the stack is the one on its way to the next hop
outer_stack : (g : Labelling) (route : HeldRoute) (bytes : List ℕ) (packet hop : ℕ) (b : Bool) →
    with_outer (if b then None else Some (label_for g hop route.edge)) (inner g (bound 0 route bytes) (ttl_of bytes - 1) ∷ [])
    ≡ (if b then inner g (bound packet route bytes) (ttl_of bytes - 1) ∷ [] else entry (label_for g hop route.edge) false (ttl_of bytes - 1) ∷ inner g
    (bound packet route bytes) (ttl_of bytes - 1) ∷ [])
outer_stack g route bytes packet hop true = refl
outer_stack g route bytes packet hop false = refl

departs : (t : Network) (g : Labelling) (w : World) (k : Packets) (packet : ℕ) (route : HeldRoute) (bytes : List ℕ) (node : ℕ) (frame : Labelled)
    (found : Option (ℕ × ℕ)) →
    IsLawful t → node < length t.loopbacks → node ≢ route.edge → AreMapped t g w → IsPushed t g route bytes frame →
    usable t w.config w.views w.sessions node route.edge ≡ found →
    Departs t g k (bound packet route bytes) node (hop_over t k (stamped k (bound packet route bytes)) node rule.NoLsp found)
    (outer_over g route.edge found) frame
departs t g w k packet route bytes node frame None lawful there apart mapped pushed is = refl
departs t g w k packet route bytes node frame (Some hop) lawful there apart mapped pushed is = (
  links,
  record {
    stack = ap (with_outer (if hop.0 == route.edge then None else Some (label_for g hop.0 route.edge))) pushed.stack
        ∙ outer_stack g route bytes packet hop.0 (hop.0 == route.edge);
    packet = pushed.packet;
    outer = mapped node route.edge hop there pushed.sound.node apart is;
  },
  record {
    home = pushed.sound.home;
    node = pushed.sound.node;
    labelled = pushed.sound.labelled;
    within = pushed.sound.within;
    pushed =
        pushed.sound.pushed;
    packet = pushed.sound.packet;
  },
  leads_are_joined t node hop.0 hop.1 (away_from t hop.1 node) leads,
)
  where
    leads : Leads t node hop.0 hop.1 (away_from t hop.1 node)
    leads = hop_leads t w node route.edge hop lawful there apart is

    links : (l : ℕ) (dir : Dir) → Leads t node hop.0 l dir →
        hop_over t k (stamped k (bound packet route bytes)) node rule.NoLsp (Some hop) ≡ sent k (stamped k (bound packet route bytes)) l dir
    links l dir other = let one = only_link t node hop.0 l hop.1 dir (away_from t hop.1 node) lawful other leads in rw (one.1, one.0) refl

pub leaves_as_told : LeavesAsTold
leaves_as_told t g w k packet route bytes node frame lawful there apart mapped pushed =
    departs t g w k packet route bytes node frame (usable t w.config w.views w.sessions node route.edge) lawful there apart mapped pushed refl

pub stays_as_told : StaysAsTold
stays_as_told k packet site bytes frame is =
    let once : ttl_of bytes - (ttl_of bytes - 1) ≡ 1 = omega (arith, is.alive) in
    ap (λ n. Some (aged bytes n)) once ∙ ap (λ p. Some p) (sym is.packet)
