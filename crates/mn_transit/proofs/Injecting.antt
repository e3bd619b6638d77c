-- A packet that enters, and what the packets in transit stand for then.
use Rattle.std.proofs.Common.{ℕ, ◌≡◌, ◌≢◌, ◌+◌, ◌-◌, ◌∷◌, ◌++◌, [], Bool, true, false, List, map, length, refl, arith, sym, ◌∙◌, ap, subst, Some, None, eq-eqb}
use Rattle.std.specs.Prelude.{◌==◌, Option, if◌then◌else◌, slice_set}
use Rattle.mn_drops.specs.declared.drops.Rule.{Rule}
use Rattle.mn_drops.specs.declared.drops.Rule.TheVariants as rule
use Rattle.mn_base.specs.declared.numbers.NodeNo.{NodeNo}
use Rattle.mn_base.specs.declared.numbers.SiteNo.{SiteNo}
use Rattle.mn_ipv4.specs.Header.{aged, ttl_of, destination_of}
use Rattle.mn_stack.specs.Labelled.{Labelled}
use Rattle.mn_topo.specs.Network.{Network}
use Rattle.mn_topo.specs.declared.steps.Step.TheVariants as Step
use Rattle.mn_ledger.specs.declared.verdict.Verdict.TheVariants.{Delivered, Dropped}
use Rattle.mn_ledger.specs.Entry.{first_rule}
use Rattle.mn_ledger.specs.Places.{home_of, vrf_of}
use Rattle.mn_ledger.specs.World.{World}
use Rattle.mn_ledger.specs.Held.{HeldRoute, best}
use Rattle.mn_ledger.specs.Eligible.{eligible}
use Rattle.mn_ledger.specs.Packets.{Packets, entry_rules, bound, hop_on, one_more, before_step, packets_after}
use Rattle.mn_frame_laws.specs.Given.{Labelling}
use Rattle.mn_frame_laws.specs.Entries.{Fate, Falls, Stays, Leaves, fate_of, fate, entered, IsAged}
use Rattle.mn_frame_laws.proofs.Entering.{by_fate}
use Rattle.mn_paths.specs.Visits.{Visits}
use Rattle.mn_transit.specs.Moving.{Moving}
use Rattle.mn_transit.specs.Stands.{StandsFor}
use Rattle.mn_transit.proofs.Standing.{numbers, stands_begun}
use Rattle.mn_transit.proofs.Arriving.{delivers}
use Rattle.mn_transit.proofs.Going.{ends}

path_last : (paths : List Visits) (node : NodeNo) (room : ℕ) →
    numbers (paths ++ record { nodes = node ∷ []; room = room } ∷ []) ≡ numbers paths ++ (node.0 ∷ []) ∷ []
path_last [] node room = refl
path_last (p ∷ ps) node room = ap (λ l. map (λ n. n.0) p.nodes ∷ l) (path_last ps node room)

-- one more packet, before its fate is known
stands_more : (t : Network) (g : Labelling) (m new : Moving) (k : Packets) (node : NodeNo) (room spare : ℕ) →
    new ≡ record m {
      verdicts = m.verdicts ++ Dropped rule.Lost node ∷ [];
      paths = m.paths ++ record { nodes = node ∷ []; room = room } ∷ [];
      spare =
          spare;
    } → StandsFor t g m k →
    StandsFor t g new (one_more k node.0)
stands_more t g m new k node room spare is stands =
    subst (λ n. StandsFor t g n (one_more k node.0)) (sym is)
    (let more : StandsFor t g (record m {
      verdicts = m.verdicts ++ Dropped rule.Lost node ∷ [];
      paths =
          m.paths ++ record { nodes = node ∷ []; room = room } ∷ [];
      spare = spare;
    }) (one_more k node.0) = record {
      verdicts = ap (λ vs. vs ++ Dropped rule.Lost node ∷ []) stands.verdicts;
      paths = path_last m.paths node room ∙ ap (λ ps. ps ++ (node.0 ∷ []) ∷ []) stands.paths;
      copies = stands.copies;
      delivered = stands.delivered;
      frames = stands.frames;
    } in more)

-- the packet's number is how many were injected before it
pub record Ready (t : Network) (g : Labelling) (more : Moving) (k : Packets) (node packet : ℕ) : Type 0 where
  pub stands : StandsFor t g more (one_more (before_step k) node)
  pub number : packet ≡ length k.verdicts

pub ready : (t : Network) (g : Labelling) (m more begun : Moving) (k : Packets) (node : NodeNo) (packet room spare : ℕ) →
    more ≡ record m {
      verdicts = m.verdicts ++ Dropped rule.Lost node ∷ [];
      paths = m.paths ++ record { nodes = node ∷ []; room = room } ∷ [];
      spare =
          spare;
    } → packet ≡ length m.verdicts →
    begun ≡ record more { delivered = None } → StandsFor t g m k → Ready t g begun k node.0 packet
ready t g m more begun k node packet room spare adds counts begins stands = record {
  stands = stands_begun t g more begun (one_more k node.0) begins (stands_more t g m more k node room spare adds stands);
  number = counts ∙ ap length stands.verdicts;
}

-- by the packet's fate
enters_by : (t : Network) (g : Labelling) (w : World) (new : Moving) (k : Packets) (node number : ℕ) (site : SiteNo) (bytes : List ℕ) (what : Fate) →
    node ≡ home_of t site.0 → fate t w site.0 bytes ≡ what →
    StandsFor t g new (entered t w (one_more (before_step k) node) (length k.verdicts) bytes node what) →
    StandsFor t g new (packets_after t w k (Step.Inject site number) bytes)
unfolding packets_after
enters_by t g w new k node number site bytes what e is stands =
    subst (λ p. StandsFor t g new p) (sym (by_fate t w (before_step k) site.0 bytes))
    (subst (λ f. StandsFor t g new (entered t w (one_more (before_step k) (home_of t site.0)) (length k.verdicts) bytes (home_of t site.0) f)) (sym is)
    (subst (λ n. StandsFor t g new (entered t w (one_more (before_step k) n) (length k.verdicts) bytes n what)) e stands))

pub stands_fallen : (t : Network) (g : Labelling) (w : World) (more new : Moving) (k : Packets) (node : NodeNo) (packet number : ℕ) (site : SiteNo)
    (bytes : List ℕ) (cause : Rule) →
    new ≡ record more { verdicts = slice_set more.verdicts packet (Dropped cause node) } → node.0 ≡ home_of t site.0 → fate t w site.0 bytes ≡ Falls cause →
    Ready t g more k node.0 packet →
    StandsFor t g new (packets_after t w k (Step.Inject site number) bytes)
stands_fallen t g w more new k node packet number site bytes cause is home falls are =
    enters_by t g w new k node.0 number site bytes (Falls cause) home falls
    (ends t g more new (one_more (before_step k) node.0) (length k.verdicts) packet node.0 node cause are.number refl is are.stands)

pub stands_stayed : (t : Network) (g : Labelling) (w : World) (more new : Moving) (k : Packets) (node : NodeNo) (packet number ttl : ℕ) (site to : SiteNo)
    (bytes : List ℕ) (frame : Labelled) →
    new ≡ record more {
      verdicts = slice_set more.verdicts packet (Delivered ttl to (more.copies + 1));
      copies = more.copies + 1;
      delivered =
          Some frame.packet;
    } → ttl ≡ ttl_of frame.packet →
    node.0 ≡ home_of t site.0 → fate t w site.0 bytes ≡ Stays to.0 → IsAged bytes frame → Ready t g more k node.0 packet →
    StandsFor t g new (packets_after t w k (Step.Inject site number) bytes)
stands_stayed t g w more new k node packet number ttl site to bytes frame is level home stays age are =
    let lower : ttl ≡ ttl_of bytes - 1 = level ∙ age.ttl in
    let once : 1 ≡ ttl_of bytes - (ttl_of bytes - 1) = omega (arith, age.alive) in
    let whole : new ≡ record more {
      verdicts = slice_set more.verdicts (length k.verdicts) (Delivered (ttl_of bytes - 1) to (more.copies + 1));
      copies =
          more.copies + 1;
      delivered = Some (aged bytes (ttl_of bytes - (ttl_of bytes - 1)));
    } =
    is ∙ ap (λ n. record more {
      verdicts = slice_set more.verdicts packet (Delivered n to (more.copies + 1));
      copies = more.copies + 1;
      delivered =
          Some frame.packet;
    }) lower
    ∙ ap (λ n. record more {
      verdicts = slice_set more.verdicts n (Delivered (ttl_of bytes - 1) to (more.copies + 1));
      copies = more.copies + 1;
      delivered =
          Some frame.packet;
    }) are.number
    ∙ ap (λ b. record more {
      verdicts = slice_set more.verdicts (length k.verdicts) (Delivered (ttl_of bytes - 1) to (more.copies + 1));
      copies =
          more.copies + 1;
      delivered = Some b;
    }) (age.packet ∙ ap (aged bytes) once) in
    enters_by t g w new k node.0 number site bytes (Stays to.0) home stays
    (subst (λ n. StandsFor t g n (entered t w (one_more (before_step k) node.0) (length k.verdicts) bytes node.0 (Stays to.0))) (sym whole)
    (delivers t g more (one_more (before_step k) node.0) (length k.verdicts) to.0 (ttl_of bytes - 1) bytes are.stands))

-- a route by which a packet leaves is of another edge
leaves_by : (edge : ℕ) (route : HeldRoute) (found : HeldRoute) (b : Bool) → (found.edge == edge) ≡ b →
    (if b then Stays found.site else Leaves found) ≡ Leaves route → route.edge ≡ edge → ⊥
leaves_by edge route found true e h same = absurd (let no : Stays found.site ≡ Leaves route → ⊥ = (λ q. cc) in no h)
leaves_by edge route found false e h same =
    let one : found ≡ route = cc in
    let yes : (found.edge == edge) ≡ true = eq-eqb found.edge edge (ap (λ (r : HeldRoute). r.edge) one ∙ same) in
    absurd (let no : false ≡ true → ⊥ = (λ q. cc) in no (sym e ∙ yes))

leaves_apart : (edge : ℕ) (route : HeldRoute) (found : Option HeldRoute) (cause : Option Rule) → fate_of edge found cause ≡ Leaves route → route.edge ≡ edge → ⊥
leaves_apart edge route found (Some cause) h same = absurd (let no : Falls cause ≡ Leaves route → ⊥ = (λ q. cc) in no h)
leaves_apart edge route None None h same = absurd (let no : Falls rule.NoRoute ≡ Leaves route → ⊥ = (λ q. cc) in no h)
leaves_apart edge route (Some found) None h same = leaves_by edge route found (found.edge == edge) refl h same

pub leaves_home : (t : Network) (w : World) (node : ℕ) (site : SiteNo) (bytes : List ℕ) (route : HeldRoute) → node ≡ home_of t site.0 →
    fate t w site.0 bytes ≡ Leaves route → node ≢ route.edge
leaves_home t w node site bytes route home leaves same =
    leaves_apart (home_of t site.0) route (best (eligible t w (home_of t site.0) (vrf_of t site.0) (destination_of bytes)) (destination_of bytes))
    (first_rule (entry_rules (w.config.attached site.0) bytes)) leaves (sym same ∙ home)

pub stands_gone : (t : Network) (g : Labelling) (w : World) (more new : Moving) (k : Packets) (node : NodeNo) (packet number : ℕ) (site : SiteNo)
    (bytes : List ℕ) (route : HeldRoute) →
    node.0 ≡ home_of t site.0 → fate t w site.0 bytes ≡ Leaves route → packet ≡ length k.verdicts →
    StandsFor t g new (hop_on t w (one_more (before_step k) node.0) (bound packet route bytes) node.0 rule.NoLsp) →
    StandsFor t g new (packets_after t w k (Step.Inject site number) bytes)
stands_gone t g w more new k node packet number site bytes route home leaves counts stands =
    enters_by t g w new k node.0 number site bytes (Leaves route) home leaves
    (subst (λ n. StandsFor t g new (hop_on t w (one_more (before_step k) node.0) (bound n route bytes) node.0 rule.NoLsp)) counts stands)
