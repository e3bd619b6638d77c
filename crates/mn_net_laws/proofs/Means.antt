-- In a network that stands for the ledger labels mean what the ledger's world says.
use Rattle.std.proofs.Common.{ℕ, zero, suc, ◌≡◌, ◌+◌, ◌<◌, List, [], ◌∷◌, length, arith, sym, ap, ◌∙◌, Option, Some, None}
use Rattle.std.specs.Prelude.{option_map, slice_get, slice_index_or}
use Rattle.std.proofs.lemmas.Option.{same_Some}
use Rattle.mn_wiring.specs.Wiring.{Wiring, across}
use Rattle.mn_topo.specs.Network.{wiring_of}
use Rattle.mn_ledger.specs.Ledger.{world_of}
use Rattle.mn_node.specs.Node.{Session, Node, session_at}
use Rattle.mn_slice_laws.specs.Slice.{node_at}
use Rattle.mn_reuse_laws.specs.Relabelled.{Labelling, node_with, session_with, relabelled_from}
use Rattle.mn_frame_laws.specs.Given.{given}
use Rattle.mn_lsr.specs.Standing.{Standing, session_label}
use Rattle.mn_transport_laws.specs.Stands.{own_of}
use Rattle.mn_transport_laws.proofs.Goings.{session-with}
use Rattle.mn_net_laws.specs.Now.{NetNow, StandsFor}
use Rattle.mn_net_laws.specs.Labels.{NodeMeans, LabelsMean}

none_is : (label : ℕ) → None ≡ Some label → ⊥
none_is label e = cc

relabelled : (labels : ℕ → ℕ) (xs : List (Option ℕ)) (k i label : ℕ) → slice_index_or (relabelled_from labels k xs) i None ≡ Some label → label ≡ labels (k + i)
relabelled labels [] k i label e = absurd (none_is label e)
relabelled labels (None ∷ xs) k zero label e = absurd (none_is label e)
relabelled labels (Some x ∷ xs) k zero label e = sym (same_Some (labels k) label e) ∙ ap labels (let plain : k ≡ k + 0 = omega arith in plain)
relabelled labels (None ∷ xs) k (suc i) label e = relabelled labels xs (k + 1) i label e ∙ ap labels (let along : k + 1 + i ≡ k + suc i = omega arith in along)
relabelled labels (Some x ∷ xs) k (suc i) label e = relabelled labels xs (k + 1) i label e
    ∙ ap labels (let along : k + 1 + i ≡ k + suc i = omega arith in along)

in_session : (labels : ℕ → ℕ) (o : Option Session) (fec label : ℕ) → session_label (option_map (session_with labels) o) fec ≡ Some label → label ≡ labels fec
in_session labels None fec label e = absurd (none_is label e)
in_session labels (Some session) fec label e = relabelled labels session.labels 0 fec label e ∙ ap labels (let plain : 0 + fec ≡ fec = omega arith in plain)

-- a label that a node keeps for a FEC is that which the FEC has now at the neighbour
kept_so : (wiring : Wiring) (own : Labelling) (node : Node) (l fec label : ℕ) → session_label (session_at (node_with wiring own node) l) fec ≡ Some label →
    label ≡ own (across wiring l node.me) fec
kept_so wiring own node l fec label e =
    in_session (own (across wiring l node.me)) (session_at node l) fec label (ap (λ o. session_label o fec) (sym (session-with wiring own node l)) ∙ e)

pub node_means : (net : NetNow) (inputs : List (List ℕ)) → StandsFor net inputs → (node : ℕ) (standing : Standing) → node < length net.topology.loopbacks →
    slice_get net.transport.nodes node ≡ Some standing → NodeMeans net node standing
node_means net inputs h node standing below there =
    let is = h.transport.nodes node standing there in
    record {
      labels = is.labels;
      kept = λ l fec label on under e. kept_so (wiring_of net.topology) (own_of (given net.topology net.journal))
          (node_at net.topology (world_of net.topology net.journal) node) l fec label
          (ap (λ (n : Node). session_label (session_at n l) fec) (sym is.node_is) ∙ e);
      entries = is.table;
    }

pub labels_mean : (net : NetNow) (inputs : List (List ℕ)) → StandsFor net inputs → LabelsMean net inputs
labels_mean net inputs h = record { nodes = node_means net inputs h; said = h.transport.messages; routes = h.routes; frames = h.stands.packets.frames }
