-- A packet that leaves its edge, and what the packets in transit stand for then.
use Rattle.std.proofs.Common.{ℕ, ◌≡◌, ◌≢◌, ◌<◌, true, List, length, refl, sym, ◌∙◌, subst, Some, None}
use Rattle.std.specs.Prelude.{Option, slice_set}
use Rattle.mn_drops.specs.declared.drops.Rule.TheVariants as rule
use Rattle.mn_wiring.specs.declared.links.Dir.{Dir}
use Rattle.mn_base.specs.declared.numbers.NodeNo.{NodeNo}
use Rattle.mn_stack.specs.Labelled.{Labelled}
use Rattle.mn_topo.specs.Network.{Network, Leads}
use Rattle.mn_topo.specs.Links.{are_joined}
use Rattle.mn_topo.specs.Lawful.{IsLawful}
use Rattle.mn_ledger.specs.declared.verdict.Verdict.TheVariants.{Dropped}
use Rattle.mn_ledger.specs.World.{World}
use Rattle.mn_ledger.specs.Held.{HeldRoute}
use Rattle.mn_ledger.specs.Packets.{Token, Packets, bound, hop_on, stamped}
use Rattle.mn_frame_laws.specs.Given.{Labelling}
use Rattle.mn_frame_laws.specs.Tables.{AreMapped}
use Rattle.mn_frame_laws.specs.Departures.{with_outer, Departs}
use Rattle.mn_frame_laws.specs.Entries.{IsPushed, outer_for}
use Rattle.mn_frame_laws.specs.Arrivals.{sent}
use Rattle.mn_frame_laws.proofs.Leaving.{leaves_as_told}
use Rattle.mn_transit.specs.Moving.{Moving}
use Rattle.mn_transit.specs.Stands.{IsFlown, StandsFor}
use Rattle.mn_transit.proofs.Arriving.{flown_stamped}
use Rattle.mn_transit.proofs.Going.{ends}

-- what the ledger says of a packet that leaves, by what the node answers of the way out
departs : (t : Network) (g : Labelling) (w : World) (k : Packets) (route : HeldRoute) (bytes : List ℕ) (packet : ℕ) (node : NodeNo) (frame : Labelled)
    (out : Option (NodeNo × Option ℕ)) →
    IsLawful t → node.0 < length t.loopbacks → node.0 ≢ route.edge → AreMapped t g w → out ≡ outer_for t g w node.0 route.edge →
    IsPushed t g route bytes frame →
    Departs t g k (bound packet route bytes) node.0 (hop_on t w k (bound packet route bytes) node.0 rule.NoLsp) out frame
departs t g w k route bytes packet node frame out lawful there apart mapped is pushed =
    subst (λ (o : Option (NodeNo × Option ℕ)). Departs t g k (bound packet route bytes) node.0
    (hop_on t w k (bound packet route bytes) node.0 rule.NoLsp) o frame) (sym is)
    (leaves_as_told t g w k packet route bytes node.0 frame lawful there apart mapped pushed)

pub stands_left : (t : Network) (g : Labelling) (w : World) (m new : Moving) (k : Packets) (route : HeldRoute) (bytes : List ℕ) (packet : ℕ)
    (node next : NodeNo) (label : Option ℕ) (frame after : Labelled) →
    IsLawful t → after.entries ≡ with_outer label frame.entries → after.packet ≡ frame.packet →
    ((g : Labelling) (k : Packets) (token : Token) → StandsFor t g m k → IsFlown t g next.0 (record { packet = packet; frame = after }) token →
    are_joined t.links node.0 next.0 ≡ true →
    (link : ℕ) × (dir : Dir) × Leads t node.0 next.0 link dir × StandsFor t g new (sent k token link dir)) →
    node.0 < length t.loopbacks → node.0 ≢ route.edge → AreMapped t g w → Some (next, label) ≡ outer_for t g w node.0 route.edge →
    IsPushed t g route bytes frame →
    StandsFor t g m k → StandsFor t g new (hop_on t w k (bound packet route bytes) node.0 rule.NoLsp)
stands_left t g w m new k route bytes packet node next label frame after lawful entries same goes there apart mapped out pushed stands =
    let told = departs t g w k route bytes packet node frame (Some (next, label)) lawful there apart mapped out pushed in
    let flies : IsFlown t g next.0 (record { packet = packet; frame = after }) (bound packet route bytes) = record {
      packet = refl;
      sound = told.2;
      frame = record { stack = entries ∙ told.1.stack; packet = same ∙ told.1.packet; outer = told.1.outer };
    } in
    let gone =
    goes g k (stamped k (bound packet route bytes)) stands
    (flown_stamped t g k next.0 (record { packet = packet; frame = after }) (bound packet route bytes) flies) told.3 in
    subst (λ p. StandsFor t g new p) (sym (told.0 gone.0 gone.1 gone.2)) gone.3

-- with no way out it is dropped
pub stands_unled : (t : Network) (g : Labelling) (w : World) (m new : Moving) (k : Packets) (route : HeldRoute) (bytes : List ℕ) (packet : ℕ)
    (node : NodeNo) (frame : Labelled) →
    IsLawful t → new ≡ record m { verdicts = slice_set m.verdicts packet (Dropped rule.NoLsp node) } →
    node.0 < length t.loopbacks → node.0 ≢ route.edge → AreMapped t g w → None ≡ outer_for t g w node.0 route.edge → IsPushed t g route bytes frame →
    StandsFor t g m k → StandsFor t g new (hop_on t w k (bound packet route bytes) node.0 rule.NoLsp)
stands_unled t g w m new k route bytes packet node frame lawful is there apart mapped out pushed stands =
    let told = departs t g w k route bytes packet node frame None lawful there apart mapped out pushed in
    subst (λ p. StandsFor t g new p) (sym told) (ends t g m new k packet packet node.0 node rule.NoLsp refl refl is stands)
