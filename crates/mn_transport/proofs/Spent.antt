-- How many labels the edge of a site has given, where the transport stands for a journal.
use Rattle.std.proofs.Common.{ℕ, ◌≡◌, ◌↔◌, ◌+◌, false, length, get_or, sym, ◌∙◌, ap, subst, Some}
use Rattle.std.specs.Prelude.{slice_get}
use Rattle.std.proofs.lemmas.Option.{get_or_from_slice_get}
use Rattle.mn_base.specs.declared.numbers.SiteNo.{SiteNo}
use Rattle.mn_wiring.specs.Wiring.{Wiring}
use Rattle.mn_labels.specs.Labels.{attachments_in}
use Rattle.mn_topo.specs.Network.{Network}
use Rattle.mn_topo.specs.declared.steps.Step.TheVariants.{Attach}
use Rattle.mn_ledger.specs.Places.{home_of}
use Rattle.mn_lsr.specs.Standing.{Standing}
use Rattle.mn_transport_laws.specs.Carried.{Carried}
use Rattle.mn_transport_laws.specs.Steps.{MayDo}

-- what holds of the edge's labels as it was read holds of the edge that contracts see
pub spent-at : (t : Network) (s : SiteNo) (old seen : Carried) (view_is : old ≡ seen) (may : MayDo t (Attach s) seen) (node index : ℕ)
    (home : node ≡ home_of t s.0)
    (from : index ≡ node) (x : Standing) (value : x ≡ get_or old.nodes index x) (Q : Type 0) →
    (x.failed ≡ false → Q ↔ (attachments_in x.labels.given + length x.wiring.loopbacks ≡ 1048561)) →
    (standing : Standing) → slice_get seen.nodes (home_of t s.0) ≡ Some standing → Q ↔ (attachments_in standing.labels.given + length t.loopbacks ≡ 1048561)
spent-at t s old seen view_is may node index home from x value Q holds standing at =
    let is = may.stands.nodes (home_of t s.0) standing at in
    let found : slice_get old.nodes (home_of t s.0) ≡ Some standing = ap (λ (c : Carried). slice_get c.nodes (home_of t s.0)) view_is ∙ at in
    let same : x ≡ standing =
    value ∙ ap (λ k. get_or old.nodes k x) (from ∙ home) ∙ get_or_from_slice_get old.nodes (home_of t s.0) standing x found in
    subst (λ (w : Wiring). Q ↔ (attachments_in standing.labels.given + length w.loopbacks ≡ 1048561)) is.wiring
    (subst (λ (y : Standing). y.failed ≡ false → Q ↔ (attachments_in y.labels.given + length y.wiring.loopbacks ≡ 1048561)) same holds is.works)
