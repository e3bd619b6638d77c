-- What is asked of a VRF, of the edges as a cause sees them.
use Rattle.std.proofs.Common.{ℕ, ◌≡◌, Bool, true, false, List, [], ◌∷◌, refl, sym, ap, ◌∙◌, Option, Some, None}
use Rattle.std.specs.Prelude.{◌==◌, slice_index_or, if◌then◌else◌}
use Rattle.mn_topo.specs.Network.{Network}
use Rattle.mn_vrf.specs.Vrf.{VrfState}
use Rattle.mn_pe.specs.Edge.{Edge}
use Rattle.mn_pe.specs.Pe.{found_in}
use Rattle.mn_ledger.specs.Places.{edge_of}
use Rattle.mn_routing_laws.specs.Whole.{RoutesNow}
use Rattle.mn_net_laws.specs.Refusal.{asked, of_vrf}

abbrev pub bind : {A B : Type 0} → (A → Option B) → Option A → Option B
bind f None = None
bind f (Some a) = f a

found_by : {A : Type 0} (v : ℕ) (question : VrfState → Option A) (vrfs : List VrfState) → found_in v question vrfs ≡ bind question (found_in v Some vrfs)
found_by v question [] = refl
found_by {A = A} v question (vrf ∷ vrfs) = by (vrf.number == v) (found_by v question vrfs)
  where
    by : (b : Bool) → found_in v question vrfs ≡ bind question (found_in v Some vrfs) →
        (if b then question vrf else found_in v question vrfs) ≡ bind question (if b then Some vrf else found_in v Some vrfs)
    by true e = refl
    by false e = e

asked_by : {A : Type 0} (v : ℕ) (question : VrfState → Option A) (o : Option Edge) →
    asked (λ edge. found_in v question edge.vrfs) o ≡ bind question (asked (λ edge. found_in v Some edge.vrfs) o)
asked_by v question None = refl
asked_by v question (Some edge) = found_by v question edge.vrfs

-- a question of a VRF is one of the VRF that is found
pub of_vrf_by : {A : Type 0} (t : Network) (r : RoutesNow) (v : ℕ) (question : VrfState → Option A) → of_vrf t r v question ≡ bind question (of_vrf t r v Some)
of_vrf_by t r v question = asked_by v question (slice_index_or r.edges (edge_of t v) None)

-- so a question may be asked of the VRF that was found
pub asked_of : {A : Type 0} (t : Network) (r : RoutesNow) (v : ℕ) (question : VrfState → Option A) (o : Option VrfState) → o ≡ of_vrf t r v Some →
    bind question o ≡ of_vrf t r v question
asked_of t r v question o e = ap (bind question) e ∙ sym (of_vrf_by t r v question)
