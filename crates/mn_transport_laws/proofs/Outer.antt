-- The way out of a node is the ledger's.
use Rattle.std.proofs.Common.{ℕ, ◌≡◌, ◌≢◌, ◌≤◌, ◌<◌, Bool, true, false, List, length, refl, arith, sym, ◌∙◌, ap, subst, Option, None, Some, get_or, inl, inr}
use Rattle.std.specs.Prelude.{◌==◌, option_map, unwrap_or, slice_get, if◌then◌else◌}
use Rattle.std.proofs.lemmas.Bool.Decides.{eqb_tells}
use Rattle.std.proofs.lemmas.Option.{slice_get_read}
use Rattle.mn_base.proofs.Bools.{other_test, same_test}
use Rattle.mn_wiring.specs.Wiring.{Wiring, View}
use Rattle.mn_wiring.specs.Paths.{next, next_by, dists_to}
use Rattle.mn_base.specs.declared.numbers.NodeNo.{NodeNo}
use Rattle.mn_topo.specs.Network.{Network, wiring_of}
use Rattle.mn_topo.specs.Lawful.{IsLawful}
use Rattle.mn_topo.specs.declared.steps.JournalEntry.{JournalEntry}
use Rattle.mn_node.specs.Node.{Node}
use Rattle.mn_ledger.specs.World.{World}
use Rattle.mn_ledger.specs.Ledger.{world_of}
use Rattle.mn_node.specs.Ldp.{usable_over}
use Rattle.mn_node.specs.Node.{knowledge_in}
use Rattle.mn_slice_laws.specs.Slice.{node_at}
use Rattle.mn_ledger.specs.Transport.{usable, knowledge_of}
use Rattle.mn_labels.specs.Labels.{label_now}
use Rattle.mn_reuse_laws.specs.Resting.{rested_of}
use Rattle.mn_reuse_laws.specs.Relabelled.{node_with}
use Rattle.mn_frame_laws.specs.Given.{Labelling, given, label_in, fec_of}
use Rattle.mn_frame_laws.proofs.Bridge.{given_fit}
use Rattle.mn_frame_laws.specs.Tables.{next_over}
use Rattle.mn_frame_laws.specs.Entries.{outer_over, outer_for}
use Rattle.mn_lsr.specs.Standing.{Standing, way_to, labelled, sent_to, label_sent}
use Rattle.mn_transport_laws.specs.Carried.{Carried}
use Rattle.mn_transport_laws.specs.Stands.{own_of, IsNode, IsTransport}
use Rattle.mn_transport_laws.proofs.Tables.{way-is}

over : (g : Labelling) (edge : ℕ) → ((node : ℕ) → label_in (g node) (fec_of edge) ≢ 3) → (o : Option (ℕ × ℕ)) →
    option_map sent_to (next_over g edge o) ≡ outer_over g edge o
over g edge apart None = refl
over g edge apart (Some hop) = ap (λ label. let o : Option (NodeNo × Option ℕ) = Some (record { 0 = hop.0 }, label) in o) (by (hop.0 == edge))
  where
    by : (b : Bool) →
        label_sent (if b then 3 else label_in (g hop.0) (fec_of edge)) ≡ (if b then None else Some (if b then 3 else label_in (g hop.0) (fec_of edge)))
    by true = refl
    by false =
        ap (λ b. if b then None else Some (label_in (g hop.0) (fec_of edge))) (other_test (label_in (g hop.0) (fec_of edge)) 3 (apart hop.0))

-- a node gives no FEC implicit null
no-null : (t : Network) (es : List JournalEntry) (node edge : ℕ) → label_in (given t es node) (fec_of edge) ≢ 3
no-null t es node edge = by (label_now (given t es node) edge) refl
  where
    low : (a : ℕ) → 16 ≤ a → a ≢ 3
    low a h e = omega (arith, h, e)

    by : (o : Option ℕ) → label_now (given t es node) edge ≡ o → unwrap_or (label_now (given t es node) edge) 0 ≢ 3
    by None e q = (let none : 0 ≡ 3 → ⊥ = (λ x. omega (arith, x)) in none (sym (ap (λ o. unwrap_or o 0) e) ∙ q))
    by (Some a) e q = low a ((given_fit t es node).reserved (record { label = a; what = fec_of edge }) ((given_fit t es node).given edge a e))
        (sym (ap (λ o. unwrap_or o 0) e) ∙ q)

apart-is : (t : Network) (es : List JournalEntry) (lawful : IsLawful t) (w : World) (node : ℕ) → node < length t.loopbacks →
    (s : Standing) → IsNode t (given t es) (rested_of t es) w node s → (edge : ℕ) → edge < length t.loopbacks → node ≢ edge
    → option_map sent_to (way_to s.wiring s.node edge) ≡ outer_for t (given t es) w node edge
apart-is t es lawful w node below s is edge under apart =
    ap (option_map sent_to) (ap (λ (x : Wiring). way_to x s.node edge) is.wiring ∙ ap (λ (n : Node). way_to (wiring_of t) n edge) is.node_is
    ∙ way-is t lawful (given t es) w node below edge under apart)
    ∙ over (given t es) edge (λ n. no-null t es n edge) (usable t w.config w.views w.sessions node edge)

-- no next hop leads from a node to itself
no_next : (wiring : Wiring) (view : View) (node : ℕ) → next wiring view node node ≡ None
unfolding next
no_next wiring view node = none_at (node == node) (next_by wiring view (dists_to wiring view node) node) (same_test node)
  where
    none_at : (here : Bool) (hop : Option (ℕ × ℕ)) → here ≡ true → elim here as (λ x. Option (ℕ × ℕ)) [ true ↦ None | false ↦ hop ] ≡ None
    none_at true hop e = refl
    none_at false hop e = cc

itself-is : (t : Network) (g : Labelling) (f : ℕ → ℕ → ℕ) (w : World) (node : ℕ) (s : Standing) → IsNode t g f w node s →
    option_map sent_to (way_to s.wiring s.node node) ≡ outer_for t g w node node
itself-is t g f w node s is =
    let own = node_with (wiring_of t) (own_of g) (node_at t w node) in
    let known = knowledge_of (wiring_of t) w.config w.views w.sessions node in
    ap (option_map sent_to) (ap (λ (x : Wiring). way_to x s.node node) is.wiring ∙ ap (λ (n : Node). way_to (wiring_of t) n node) is.node_is
    ∙ ap (λ o. labelled own node (usable_over (knowledge_in own) node o)) (no_next (wiring_of t) (knowledge_in own).view node))
    ∙ sym (ap (λ o. outer_over g node (usable_over known node o)) (no_next (wiring_of t) known.view node))

pub outer-is : (t : Network) (es : List JournalEntry) (lawful : IsLawful t) (w : World) (node : ℕ) → node < length t.loopbacks →
    (s : Standing) → IsNode t (given t es) (rested_of t es) w node s → (edge : ℕ) → edge < length t.loopbacks
    → option_map sent_to (way_to s.wiring s.node edge) ≡ outer_for t (given t es) w node edge
outer-is t es lawful w node below s is edge under =
    elim (eqb_tells node edge) [
      | inl e ↦ subst (λ k. option_map sent_to (way_to s.wiring s.node k) ≡ outer_for t (given t es) w node k) e.1
          (itself-is t (given t es) (rested_of t es) w node s is)
      | inr e ↦ apart-is t es lawful w node below s is edge under e.1
    ]

-- Contracts see the transport as `seen`, the code as `old`. The node at this index was read.
module _ (t : Network) (lawful : IsLawful t) (old seen : Carried) (view_is : old ≡ seen) (node index : ℕ) (below : node < length t.loopbacks)
    (at : index ≡ node) (es : List JournalEntry) (stands : IsTransport t es seen) where
  pub node-there : index < length old.nodes
  node-there = subst (λ k. k < length old.nodes) (sym at) (subst (λ n. node < n) (sym (ap (λ (c : Carried). length c.nodes) view_is ∙ stands.each)) below)

  module _ (x : Standing) (value : x ≡ get_or old.nodes index x) where
    node-is : IsNode t (given t es) (rested_of t es) (world_of t es) node x
    node-is = stands.nodes node x
        (ap (λ (c : Carried). slice_get c.nodes node) (sym view_is) ∙ ap (slice_get old.nodes) (sym at)
        ∙ slice_get_read old.nodes (length old.nodes) index x refl node-there value)

    pub edge-there : (edge : ℕ) → edge < length t.loopbacks → edge < length x.wiring.loopbacks
    edge-there edge under = subst (λ (w : Wiring). edge < length w.loopbacks) (sym node-is.wiring) under

    pub outer-told : (edge : ℕ) → edge < length t.loopbacks → (way : Option (NodeNo × Option ℕ)) →
        (x.failed ≡ false → way ≡ option_map sent_to (way_to x.wiring x.node edge))
        → way ≡ outer_for t (given t es) (world_of t es) node edge
    outer-told edge under way is = is node-is.works ∙ outer-is t es lawful (world_of t es) node below x node-is edge under
