-- A next hop that isn't the edge has a label for it.
use Rattle.std.proofs.Common.{ℕ, ◌≡◌, ◌≢◌, ◌<◌, ◌≤◌, inl, inr, true, false, List, length, refl, sym, ap, subst, Some}
use Rattle.std.specs.Prelude.{unwrap_or}
use Rattle.mn_base.proofs.Bools.{two_ways}
use Rattle.mn_wiring.specs.Wiring.{sender, receiver}
use Rattle.mn_wiring.specs.declared.links.Dir.{Dir}
use Rattle.mn_wiring.specs.declared.links.Dir.TheVariants.{Forth, Back}
use Rattle.mn_topo.specs.Network.{Network, wiring_of, Leads}
use Rattle.mn_topo.specs.Lawful.{IsLawful}
use Rattle.mn_topo.specs.declared.steps.JournalEntry.{JournalEntry}
use Rattle.mn_ledger.specs.Ledger.{world_of}
use Rattle.mn_ledger.specs.Packets.{away_from}
use Rattle.mn_ledger.specs.Lawful.{IsLawfulJournal}
use Rattle.mn_reuse_laws.specs.Resting.{is_at_rest}
use Rattle.mn_reuse_laws.proofs.Laws.{blocks}
use Rattle.mn_reuse_laws.proofs.Over.{has_labels}
use Rattle.mn_labels.specs.Labels.{Labels, label_now}
use Rattle.mn_frame_laws.specs.Given.{given, fec_of, HasLabel}
use Rattle.mn_frame_laws.specs.Laws.{AllAreMapped}
use Rattle.mn_frame_laws.proofs.Links.{hop_leads}

leads_inside : (t : Network) (m n l : ℕ) (dir : Dir) → IsLawful t → Leads t m n l dir → n < length t.loopbacks
leads_inside t m n l Forth lawful leads = subst (λ x. x < length t.loopbacks) leads.to (lawful.joins_nodes l leads.within).1
leads_inside t m n l Back lawful leads = subst (λ x. x < length t.loopbacks) leads.to (lawful.joins_nodes l leads.within).0

pub labelled : (labels : Labels) (fec label : ℕ) → label_now labels fec ≡ Some label → 16 ≤ label → HasLabel labels (fec_of fec)
labelled labels fec label is low = subst (λ n. 16 ≤ n) (sym (ap (λ o. unwrap_or o 0) is)) low

pub all_are_mapped : AllAreMapped
unfolding given
all_are_mapped t es ps lawful journal node edge hop there inside apart is away = elim (two_ways (is_at_rest t (world_of t es) hop.0 edge)) [
  | inl rest ↦ absurd (blocks t es ps lawful journal hop.0 node edge hop there inside apart rest is refl)
  | inr awake ↦ (let labels = has_labels t es ps hop.0
      (leads_inside t node hop.0 hop.1 (away_from t hop.1 node) lawful (hop_leads t (world_of t es) node edge hop lawful there apart is)) lawful journal in
      let one = labels.had edge inside (λ e. away (sym e)) awake in
      labelled (given t es hop.0) edge one.0 one.1 (labels.fit.reserved _ (labels.fit.given edge one.0 one.1)))
]
