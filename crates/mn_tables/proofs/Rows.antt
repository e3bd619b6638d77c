-- Lines, from their pieces.
use Rattle.std.proofs.Common.{◌≡◌, ◌<◌, ℕ, Bool, true, false, List, [], ◌∷◌, ◌++◌, length, Option, Some, None, refl, ap, ◌∙◌, append_assoc}
use Rattle.std.proofs.Common.{arith, ◌⊎◌, inl, inr}
use Rattle.std.specs.Prelude.{codes, decimal, if◌then◌else◌}
use Rattle.mn_wiring.specs.Wiring.{View, link, sender, receiver}
use Rattle.mn_wiring.specs.Paths.{dist_in, dists_to, next}
use Rattle.mn_wiring.specs.declared.links.Dir.{Dir}
use Rattle.mn_wiring.specs.declared.links.Dir.TheVariants.{Forth, Back}
use Rattle.mn_base.specs.declared.numbers.NodeNo.{NodeNo}
use Rattle.mn_linkdb.specs.Trees.{hop_alone}
use Rattle.mn_topo.specs.Network.{Network, wiring_of}
use Rattle.mn_ledger.specs.World.{World}
use Rattle.mn_ledger.specs.Transport.{lives}
use Rattle.mn_ledger.specs.Transport as transport
use Rattle.mn_ledger.specs.Bgp.{bgp_state_of}
use Rattle.mn_ledger.specs.Held.{HeldRoute, Own, Near, Far}
use Rattle.mn_text.specs.Addresses.{prefix_text}
use Rattle.mn_frame_laws.specs.Given.{Labelling, label_at}
use Rattle.mn_ledger.specs.Items.{Item}
use Rattle.mn_lines.specs.Lines.{text}
use Rattle.mn_output_laws.specs.Files.{node_name}
use Rattle.mn_output_laws.specs.Tables.{up_or_down, link_line, walk_text, tree_line, ldp_name, ldp_text, ldp_line, bgp_name, bgp_line, frames_line, route_line}
use Rattle.mn_output_laws.specs.Tables.{mark_text, marked_line}
use Rattle.mn_output_laws.specs.Tables.{vrf_name, site_name}
use Rattle.mn_tables.specs.States.{state_at, state_name}

pub link_row : (topology : Network) (world : World) (l : ℕ) (a b up cost changes : List ℕ)
    → a ≡ node_name topology (sender (wiring_of topology) l Forth) → b ≡ node_name topology (receiver (wiring_of topology) l Forth)
    → up ≡ up_or_down (world.config.is_up l) → cost ≡ decimal (link (wiring_of topology) l).cost → changes ≡ decimal (world.views.changes l)
    → text (codes "link " ∷ a ∷ codes " " ∷ b ∷ up ∷ codes " cost " ∷ cost ∷ codes " changes " ∷ changes ∷ codes "\n" ∷ []) ≡ link_line topology world l
link_row topology world l a b up cost changes is_a is_b is_up is_cost is_changes =
    rw (is_a, is_b, is_up, is_cost, is_changes) (simp append_assoc)

walk_row : (topology : Network) (dist : Option ℕ) (to : Option (ℕ × ℕ)) (cost : ℕ) (hop : NodeNo) (d h : List ℕ)
    → Some cost ≡ dist → Some hop ≡ hop_alone to → d ≡ decimal cost → h ≡ node_name topology hop.0
    → text (codes " cost " ∷ d ∷ codes " next " ∷ h ∷ codes "\n" ∷ []) ≡ walk_text topology dist to
walk_row topology None to cost hop d h is_dist is_to is_d is_h = cc
walk_row topology (Some least) None cost hop d h is_dist is_to is_d is_h = cc
walk_row topology (Some least) (Some far) cost hop d h is_dist is_to is_d is_h =
    let same : cost ≡ least = cc in
    let near : hop ≡ record { 0 = far.0 } = cc in
    rw (is_d ∙ ap decimal same, is_h ∙ ap (λ (n : NodeNo). node_name topology n.0) near) refl

pub tree_row : (topology : Network) (view : View) (node to cost : ℕ) (hop : NodeNo) (a b d h : List ℕ)
    → a ≡ node_name topology node → b ≡ node_name topology to → d ≡ decimal cost → h ≡ node_name topology hop.0
    → Some cost ≡ dist_in (dists_to (wiring_of topology) view to) node → Some hop ≡ hop_alone (next (wiring_of topology) view node to)
    → text (codes "tree " ∷ a ∷ codes " to " ∷ b ∷ codes " cost " ∷ d ∷ codes " next " ∷ h ∷ codes "\n" ∷ []) ≡ tree_line topology view node to
tree_row topology view node to cost hop a b d h is_a is_b is_d is_h is_dist is_to =
    let far : List ℕ = text (codes " cost " ∷ d ∷ codes " next " ∷ h ∷ codes "\n" ∷ []) in
    ap (λ x. codes "tree " ++ (x ++ (codes " to " ++ (b ++ far)))) is_a
    ∙ ap (λ y. codes "tree " ++ (node_name topology node ++ (codes " to " ++ (y ++ far)))) is_b
    ∙ ap (λ w. codes "tree " ++ (node_name topology node ++ (codes " to " ++ (node_name topology to ++ w))))
    (walk_row topology (dist_in (dists_to (wiring_of topology) view to) node) (next (wiring_of topology) view node to) cost hop d h is_dist is_to is_d is_h)

no_walk_row : (topology : Network) (dist : Option ℕ) (to : Option (ℕ × ℕ)) →
    (dist ≡ None) ⊎ (hop_alone to ≡ None) → codes " unreachable\n" ≡ walk_text topology dist to
no_walk_row topology None to none = refl
no_walk_row topology (Some least) None none = refl
no_walk_row topology (Some least) (Some far) (inl none) = cc
no_walk_row topology (Some least) (Some far) (inr none) = cc

pub unreached_row : (topology : Network) (view : View) (node to : ℕ) (a b : List ℕ)
    → a ≡ node_name topology node → b ≡ node_name topology to
    → (dist_in (dists_to (wiring_of topology) view to) node ≡ None) ⊎ (hop_alone (next (wiring_of topology) view node to) ≡ None)
    → text (codes "tree " ∷ a ∷ codes " to " ∷ b ∷ codes " unreachable\n" ∷ []) ≡ tree_line topology view node to
unreached_row topology view node to a b is_a is_b none =
    ap (λ x. codes "tree " ++ (x ++ (codes " to " ++ (b ++ codes " unreachable\n")))) is_a
    ∙ ap (λ y. codes "tree " ++ (node_name topology node ++ (codes " to " ++ (y ++ codes " unreachable\n")))) is_b
    ∙ ap (λ w. codes "tree " ++ (node_name topology node ++ (codes " to " ++ (node_name topology to ++ w))))
    (no_walk_row topology (dist_in (dists_to (wiring_of topology) view to) node) (next (wiring_of topology) view node to) none)

pub state_text : (topology : Network) (world : World) (l node : ℕ) → state_name (state_at topology world l node) ≡ ldp_text topology world l node
state_text topology world l node =
    elim (lives world.config l) as (λ live.
    state_name (if live then Some (transport.ldp_state_of topology world.sessions l node) else None)
    ≡ (if live then ldp_name (transport.ldp_state_of topology world.sessions l node) else codes "none")) [ true ↦ refl | false ↦ refl ]

pub ldp_row : (topology : Network) (world : World) (l : ℕ) (a b one other : List ℕ)
    → a ≡ node_name topology (sender (wiring_of topology) l Forth) → b ≡ node_name topology (receiver (wiring_of topology) l Forth)
    → one ≡ state_name (state_at topology world l (sender (wiring_of topology) l Forth))
    → other ≡ state_name (state_at topology world l (sender (wiring_of topology) l Back))
    → text (codes "ldp " ∷ a ∷ codes " " ∷ one ∷ codes " " ∷ b ∷ codes " " ∷ other ∷ codes "\n" ∷ []) ≡ ldp_line topology world l
ldp_row topology world l a b one other is_a is_b is_one is_other =
    rw (
      is_a,
      is_b,
      is_one ∙ state_text topology world l (sender (wiring_of topology) l Forth),
      is_other ∙ state_text topology world l (sender (wiring_of topology) l Back),
    ) refl

pub bgp_row : (topology : Network) (world : World) (m n : ℕ) (a b one other : List ℕ)
    → a ≡ node_name topology m → b ≡ node_name topology n
    → one ≡ bgp_name (bgp_state_of world.config world.peerings m n) → other ≡ bgp_name (bgp_state_of world.config world.peerings n m)
    → text (codes "bgp " ∷ a ∷ codes " " ∷ one ∷ codes " " ∷ b ∷ codes " " ∷ other ∷ codes "\n" ∷ []) ≡ bgp_line topology world m n
bgp_row topology world m n a b one other is_a is_b is_one is_other = rw (is_a, is_b, is_one, is_other) refl

pub no_frames_row : (topology : Network) (l : ℕ) (dir : Dir) (items : List Item) → 0 ≡ length items → text [] ≡ frames_line topology l dir items
no_frames_row topology l dir [] none = refl
no_frames_row topology l dir (item ∷ items) none = absurd (omega arith)

pub frames_row : (topology : Network) (l : ℕ) (dir : Dir) (items : List Item) (count : ℕ) (a b many : List ℕ)
    → 0 < count → count ≡ length items → a ≡ node_name topology (sender (wiring_of topology) l dir) →
    b ≡ node_name topology (receiver (wiring_of topology) l dir)
    → many ≡ decimal count
    → text (codes "frames " ∷ a ∷ codes " " ∷ b ∷ codes " " ∷ many ∷ codes "\n" ∷ []) ≡ frames_line topology l dir items
frames_row topology l dir [] count a b many some is_count is_a is_b is_many = absurd (omega arith)
frames_row topology l dir (item ∷ items) count a b many some is_count is_a is_b is_many = rw (is_a, is_b, is_many ∙ ap decimal is_count) (simp append_assoc)

pub counts_row : (notices messages : ℕ) (a b : List ℕ) → a ≡ decimal notices → b ≡ decimal messages
    → text (codes "notices " ∷ a ∷ codes "\nmessages " ∷ b ∷ codes "\n" ∷ [])
    ≡ text (codes "notices " ∷ decimal notices ∷ codes "\nmessages " ∷ decimal messages ∷ codes "\n" ∷ [])
counts_row notices messages a b is_a is_b = rw (is_a, is_b) refl

pub own_row : (topology : Network) (given : Labelling) (v : ℕ) (route : HeldRoute) (site : ℕ) (a p b : List ℕ)
    → a ≡ vrf_name topology v → p ≡ prefix_text route.prefix → b ≡ site_name topology site → route.source ≡ Own → site ≡ route.site
    → text (codes "route " ∷ a ∷ codes " " ∷ p ∷ codes " site " ∷ b ∷ codes "\n" ∷ []) ≡ route_line topology given v (Some route)
own_row topology given v route site a p b is_a is_p is_b is_own is_site =
    rw (is_a, is_p, is_b ∙ ap (site_name topology) is_site, is_own) (simp append_assoc)

pub near_row : (topology : Network) (given : Labelling) (v : ℕ) (route : HeldRoute) (from site : ℕ) (a p m b : List ℕ)
    → a ≡ vrf_name topology v → p ≡ prefix_text route.prefix → m ≡ vrf_name topology from → b ≡ site_name topology site
    → route.source ≡ Near from → site ≡ route.site
    → text (codes "route " ∷ a ∷ codes " " ∷ p ∷ codes " vrf " ∷ m ∷ codes " site " ∷ b ∷ codes "\n" ∷ []) ≡ route_line topology given v (Some route)
near_row topology given v route from site a p m b is_a is_p is_m is_b is_near is_site =
    rw (is_a, is_p, is_m, is_b ∙ ap (site_name topology) is_site, is_near) (simp append_assoc)

pub far_row : (topology : Network) (given : Labelling) (v : ℕ) (route : HeldRoute) (address rd edge label : ℕ) (unresolved : Bool) (a p m b k : List ℕ)
    → a ≡ vrf_name topology v → p ≡ prefix_text route.prefix → m ≡ node_name topology edge → b ≡ decimal label → k ≡ mark_text (Far address rd) unresolved
    → route.source ≡ Far address rd → edge ≡ route.edge → label ≡ label_at given route.edge route.site route.attachment
    → text (codes "route " ∷ a ∷ codes " " ∷ p ∷ codes " edge " ∷ m ∷ codes " label " ∷ b ∷ k ∷ codes "\n" ∷ [])
    ≡ marked_line topology given v unresolved route
far_row topology given v route address rd edge label unresolved a p m b k is_a is_p is_m is_b is_k is_far is_edge is_label =
    rw (is_a, is_p, is_m ∙ ap (node_name topology) is_edge, is_b ∙ ap decimal is_label, is_k, is_far) (simp append_assoc)
