-- A node's label table stands for the ledger's world.
use Rattle.std.proofs.Common.{ℕ, zero, suc, ◌≡◌, ◌≢◌, ◌+◌, ◌≤◌, ◌<◌, Bool, true, false, List, [], ◌∷◌, length, map, refl, arith, sym, ◌∙◌, ap, subst, Option}
use Rattle.std.proofs.Common.{None, Some}
use Rattle.std.specs.Prelude.{◌&&◌, nat_le, option_map, unwrap_or, slice_index_or, if◌then◌else◌}
use Rattle.std.proofs.lemmas.List.FromFn.{get_or-map-range_with_len}
use Rattle.mn_base.proofs.Bools.{and_left, and_right}
use Rattle.mn_base.proofs.Members.{in_contained}
use Rattle.mn_wiring.specs.Wiring.{nodes_of, is_end, across}
use Rattle.mn_wiring.specs.Paths.{next}
use Rattle.mn_base.specs.declared.numbers.NodeNo.{NodeNo}
use Rattle.mn_labels.specs.declared.meaning.Bind.{Bind}
use Rattle.mn_labels.specs.declared.meaning.Bind.TheVariants as bind
use Rattle.mn_labels.specs.Labels.{meaning_of, Means}
use Rattle.mn_lfib.specs.Uses.{use_of, fec_use}
use Rattle.mn_topo.specs.Network.{Network, wiring_of}
use Rattle.mn_topo.specs.Lawful.{IsLawful}
use Rattle.mn_topo.specs.declared.steps.JournalEntry.{JournalEntry}
use Rattle.mn_node.specs.Ldp.{Message, Knowledge, hearing, is_operational, is_mapped, usable_over, usable_by}
use Rattle.mn_node.specs.Node.{Session, Node, session_at, knowledge_in, label_of}
use Rattle.mn_node.proofs.Told.{usable_by-alike}
use Rattle.mn_ledger.specs.World.{World}
use Rattle.mn_ledger.specs.Transport.{lives, ldp_state_of, heard_by, knowledge_of, usable}
use Rattle.mn_ledger.proofs.Mentions.{operational-is}
use Rattle.mn_ledger_laws.proofs.There.{by_next, hop_is, IsHop}
use Rattle.mn_slice_laws.specs.Slice.{label_heard, session_of, node_at}
use Rattle.mn_slice_laws.proofs.Known.{hearing-is, knows_as_much}
use Rattle.mn_slice_laws.proofs.Changing.{session_at-is}
use Rattle.mn_reuse_laws.specs.Relabelled.{relabelled_from, session_with, node_with}
use Rattle.mn_reuse_laws.proofs.Relabelling.{same_knowledge}
use Rattle.mn_frame_laws.specs.Given.{Labelling, HasLabel, given, label_in, fec_of, attachment_of}
use Rattle.mn_frame_laws.specs.Tables.{next_over, next_entry, site_entry, TableStands}
use Rattle.mn_frame_laws.proofs.Bridge.{given_fit}
use Rattle.mn_frame_laws.proofs.Labels.{is_meant, has_means, meant}
use Rattle.mn_lsr.specs.Standing as lsr
use Rattle.mn_lsr.specs.Standing.{Standing, labelled, way_to, IsUseOf}
use Rattle.mn_transport_laws.specs.Stands.{own_of}
use Rattle.mn_transport_laws.proofs.Goings.{session-with}
use Rattle.mn_transport_laws.proofs.Once.{one-label}

both_true : (b : Bool) (hop : ℕ × ℕ) → elim b as (λ _. Option (ℕ × ℕ)) [ true ↦ Some hop | false ↦ None ] ≡ Some hop → b ≡ true
both_true true hop e = refl
both_true false hop e = cc

-- where a FEC has a label it has the other one then
relabelled-at : (f : ℕ → ℕ) (a p : ℕ) (ls : List (Option ℕ)) →
    slice_index_or (relabelled_from f a ls) p None ≡ option_map (λ label. f (a + p)) (slice_index_or ls p None)
relabelled-at f a p [] = refl
relabelled-at f a zero (None ∷ ls) = refl
relabelled-at f a zero (Some x ∷ ls) = ap (λ n. let o : Option ℕ = Some (f n) in o) (let e : a ≡ a + 0 = omega arith in e)
relabelled-at f a (suc p) (None ∷ ls) =
    relabelled-at f (a + 1) p ls ∙ ap (λ n. option_map (λ label. f n) (slice_index_or ls p None)) (let e : a + 1 + p ≡ a + suc p = omega arith in e)
relabelled-at f a (suc p) (Some x ∷ ls) =
    relabelled-at f (a + 1) p ls ∙ ap (λ n. option_map (λ label. f n) (slice_index_or ls p None)) (let e : a + 1 + p ≡ a + suc p = omega arith in e)

session-label-with : (f : ℕ → ℕ) (o : Option Session) (edge : ℕ) →
    lsr.session_label (option_map (session_with f) o) edge ≡ option_map (λ label. f edge) (lsr.session_label o edge)
session-label-with f None edge = refl
session-label-with f (Some s) edge =
    relabelled-at f 0 edge s.labels ∙ ap (λ n. option_map (λ label. f n) (slice_index_or s.labels edge None)) (let e : 0 + edge ≡ edge = omega arith in e)

module _ (t : Network) (lawful : IsLawful t) (g : Labelling) (w : World) (node : ℕ) (below : node < length t.loopbacks) where
  abbrev known : Knowledge
  known = knowledge_of (wiring_of t) w.config w.views w.sessions node

  -- the node, with the labels that FECs have
  abbrev pub with_labels : Node
  with_labels = node_with (wiring_of t) (own_of g) (node_at t w node)

  -- where it can send, the next hop has mapped the FEC, and so gave its label
  label-there : (edge : ℕ) (hop : ℕ × ℕ) → edge < length t.loopbacks → node ≢ edge → usable t w.config w.views w.sessions node edge ≡ Some hop
      → lsr.session_label (session_at with_labels hop.1) edge ≡ Some (own_of g hop.0 edge)
  label-there edge hop under apart can =
      let is : IsHop t node hop = hop_is t w node edge hop lawful below apart can in
      let first : next (wiring_of t) known.view node edge ≡ Some hop = by_next known edge (next (wiring_of t) known.view node edge) hop can in
      let both : (is_operational known hop.1 && is_mapped false edge (hearing known hop.1).messages) ≡ true =
      both_true (is_operational known hop.1 && is_mapped false edge (hearing known hop.1).messages) hop (sym (ap (usable_over known edge) first) ∙ can) in
      let on : ((lives w.config hop.1 && is_end (wiring_of t) hop.1 node) && nat_le 2 (w.sessions.heard hop.1 node)) ≡ true =
      sym (operational-is (wiring_of t) w.config w.views w.sessions node hop.1 is.there)
      ∙ and_left (is_operational known hop.1) (is_mapped false edge (hearing known hop.1).messages) both in
      let alive : (lives w.config hop.1 && is_end (wiring_of t) hop.1 node) ≡ true =
      and_left (lives w.config hop.1 && is_end (wiring_of t) hop.1 node) (nat_le 2 (w.sessions.heard hop.1 node)) on in
      let far : ℕ = across (wiring_of t) hop.1 node in
      let messages : List Message = heard_by (wiring_of t) w.sessions hop.1 node in
      let mapped : is_mapped false edge messages ≡ true =
      sym (ap (λ h. is_mapped false edge h.messages) (hearing-is t w.config w.views w.sessions node hop.1 is.there))
      ∙ and_right (is_operational known hop.1) (is_mapped false edge (hearing known hop.1).messages) both in
      let there : session_of t w.config w.sessions node hop.1 ≡ Some (record {
        state = ldp_state_of t w.sessions hop.1 node;
        said =
            length (w.sessions.said hop.1 node);
        labels = map (label_heard far messages) (nodes_of (wiring_of t));
      }) =
      in_session (lives w.config hop.1 && is_end (wiring_of t) hop.1 node) alive _ in
      ap (λ o. lsr.session_label o edge) (session-with (wiring_of t) (own_of g) (node_at t w node) hop.1)
      ∙ session-label-with (own_of g far) (session_at (node_at t w node) hop.1) edge
      ∙ ap (option_map (λ label. own_of g far edge))
      (ap (λ o. lsr.session_label o edge) (session_at-is t w.config w.views w.sessions node hop.1 is.there ∙ there)
      ∙ get_or-map-range_with_len (label_heard far messages) 0 (length t.loopbacks) edge edge None under (omega arith)
      ∙ ap (λ b. if b then Some (label_of far edge) else None) mapped)
      ∙ ap (λ n. let o : Option ℕ = Some (own_of g n edge) in o) (sym is.leads)
    where
      in_session : (b : Bool) → b ≡ true → (s : Session) → (if b then Some s else None) ≡ Some s
      in_session true e s = refl
      in_session false e s = cc

  over : (edge : ℕ) → edge < length t.loopbacks → node ≢ edge → (o : Option (ℕ × ℕ)) → usable t w.config w.views w.sessions node edge ≡ o
      → labelled with_labels edge o ≡ next_over g edge o
  over edge under apart None e = refl
  over edge under apart (Some hop) e =
      ap (λ (o : Option ℕ). option_map (λ label. let h : NodeNo × ℕ = (record { 0 = hop.0 }, label) in h) o) (label-there edge hop under apart e)

  -- the way that the node itself knows is the ledger's
  pub way-is : (edge : ℕ) → edge < length t.loopbacks → node ≢ edge → way_to (wiring_of t) with_labels edge ≡ next_entry t g w node edge
  way-is edge under apart =
      ap (λ k. labelled with_labels edge (usable_by (wiring_of t) k node edge)) (same_knowledge (wiring_of t) (own_of g) (node_at t w node))
      ∙ ap (labelled with_labels edge)
      (sym (usable_by-alike (wiring_of t) known (knowledge_in (node_at t w node)) node edge under (knows_as_much t w.config w.views w.sessions node)))
      ∙ over edge under apart (usable t w.config w.views w.sessions node edge) refl

-- a table that stands for the node stands for the world, where the attachments' labels do
pub table-is : (t : Network) (lawful : IsLawful t) (es : List JournalEntry) (w : World) (node : ℕ) (below : node < length t.loopbacks) (s : Standing) →
    s.wiring ≡ wiring_of t → s.node ≡ node_with (wiring_of t) (own_of (given t es)) (node_at t w node) → s.labels ≡ given t es node → lsr.TableStands s
    → ((site attachment : ℕ) → HasLabel (given t es node) (attachment_of site attachment) →
    use_of s.uses (label_in (given t es node) (attachment_of site attachment)) ≡ Some (site_entry w site attachment))
    → TableStands t (given t es) w node s.uses
table-is t lawful es w node below s wired node_is labels stands sites = record {
  fecs = λ edge under apart has.
      let label : ℕ = label_in (given t es node) (fec_of edge) in
      let meaning : meaning_of s.labels label ≡ Some (fec_of edge) =
      ap (λ g. meaning_of g label) labels
      ∙ is_meant (given t es node) (given_fit t es node) label (fec_of edge) (has_means (given t es node) (fec_of edge) has) in
      subst (λ m. IsUseOf (way_to s.wiring s.node) m (use_of s.uses label)) meaning (stands label)
      ∙ ap fec_use (ap (λ x. way_to x s.node edge) wired ∙ ap (λ n. way_to (wiring_of t) n edge) node_is
      ∙ way-is t lawful (given t es) w node below edge under (λ e. apart (sym e)));
  sites = sites;
  reserved = λ label low. none_used label (by label (λ thing has is. lower label low (subst (λ k. 16 ≤ k) is has)) (meaning_of (given t es node) label) refl);
  others = λ label none. none_used label (by label none (meaning_of (given t es node) label) refl);
}
  where
    lower : (label : ℕ) → label < 16 → 16 ≤ label → ⊥
    lower label f h = omega (arith, f, h)

    -- what means a label has it
    has : (label : ℕ) (thing : Bind) → Means (given t es node) label thing → HasLabel (given t es node) thing × (label_in (given t es node) thing ≡ label)
    has label (bind.Fec fec) h =
        let is : label_in (given t es node) (bind.Fec fec) ≡ label = ap (λ o. unwrap_or o 0) h in (
          subst (λ k. 16 ≤ k) (sym is) ((given_fit t es node).reserved (record { label = label; what = fec_of fec.0 })
              ((given_fit t es node).given fec.0 label h)),
          is,
        )
    has label (bind.Site site number) h =
        let one = one-label t es node label site.0 number (in_contained (given t es node).given (record { label = label; what = bind.Site site number }) h) in
        (one.1, one.0)

    by : (label : ℕ) → ((thing : Bind) → HasLabel (given t es node) thing → label_in (given t es node) thing ≢ label) → (o : Option Bind) →
        meaning_of (given t es node) label ≡ o → meaning_of (given t es node) label ≡ None
    by label none None e = e
    by label none (Some thing) e = let is = has label thing (meant (given t es node) label thing e) in absurd (none thing is.0 is.1)

    none_used : (label : ℕ) → meaning_of (given t es node) label ≡ None → use_of s.uses label ≡ None
    none_used label none =
        subst (λ m. IsUseOf (way_to s.wiring s.node) m (use_of s.uses label)) (ap (λ g. meaning_of g label) labels ∙ none) (stands label)
