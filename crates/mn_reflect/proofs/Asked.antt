-- What is asked of an edge or a VRF, of the edges as contracts see them.
use Rattle.std.proofs.Common.{ℕ, zero, suc, ◌≡◌, Bool, true, false, List, [], ◌∷◌, length, map, refl, sym, ap, ◌∙◌, Option, Some, None}
use Rattle.std.specs.Prelude.{◌==◌, is_some, option_map, unwrap_or, slice_index_or, if◌then◌else◌}
use Rattle.mn_base.specs.declared.numbers.Rt.{Rt}
use Rattle.mn_prefix.specs.Prefix.{AddressBlock}
use Rattle.mn_topo.specs.Network.{Network}
use Rattle.mn_targets.specs.Targets.{has_target}
use Rattle.mn_vrf.specs.Vrf.{Static, VrfState, static_of}
use Rattle.mn_pe.specs.Edge.{Edge}
use Rattle.mn_pe.specs.Held.{site_label as label_of}
use Rattle.mn_pe.specs.Pe.{PeNow, found_in}
use Rattle.mn_ledger.specs.Places.{edge_of, home_of}
use Rattle.mn_routing_laws.specs.Whole.{RoutesNow}
use Rattle.mn_net_laws.specs.Refusal.{asked, of_edge, of_vrf, imports_it, exports_it, site_label, site_with}
use Rattle.mn_reflect_world_laws.specs.Now.{ReflectNow}
use Rattle.mn_reflect.specs.Causes.{shown}

abbrev pub bind : {A B : Type 0} → (A → Option B) → Option A → Option B
bind f None = None
bind f (Some a) = f a

found_by : {A : Type 0} (v : ℕ) (question : VrfState → Option A) (vrfs : List VrfState) → found_in v question vrfs ≡ bind question (found_in v Some vrfs)
found_by v question [] = refl
found_by {A = A} v question (vrf ∷ vrfs) = by (vrf.number == v) (found_by v question vrfs)
  where
    by : (b : Bool) → found_in v question vrfs ≡ bind question (found_in v Some vrfs) →
        (if b then question vrf else found_in v question vrfs) ≡ bind question (if b then Some vrf else found_in v Some vrfs)
    by true e = refl
    by false e = e

asked_by : {A : Type 0} (v : ℕ) (question : VrfState → Option A) (o : Option Edge) →
    asked (λ edge. found_in v question edge.vrfs) o ≡ bind question (asked (λ edge. found_in v Some edge.vrfs) o)
asked_by v question None = refl
asked_by v question (Some edge) = found_by v question edge.vrfs

-- a question of a VRF is one of the VRF that is found
pub of_vrf_by : {A : Type 0} (t : Network) (r : RoutesNow) (v : ℕ) (question : VrfState → Option A) → of_vrf t r v question ≡ bind question (of_vrf t r v Some)
of_vrf_by t r v question = asked_by v question (slice_index_or r.edges (edge_of t v) None)

-- the edge of a node is the one that contracts see
pub edge_shown : (es : List (Option PeNow)) (node : ℕ) →
    slice_index_or (map (option_map (λ (pe : PeNow). pe.edge)) es) node None ≡ option_map (λ (pe : PeNow). pe.edge) (slice_index_or es node None)
edge_shown [] node = refl
edge_shown (e ∷ es) zero = refl
edge_shown (e ∷ es) (suc node) = edge_shown es node

pub of_edge_shown : {A : Type 0} (r : ReflectNow) (node : ℕ) (question : Edge → Option A) →
    of_edge (shown r) node question ≡ asked question (option_map (λ (pe : PeNow). pe.edge) (slice_index_or r.edges node None))
of_edge_shown r node question = ap (asked question) (edge_shown r.edges node)

-- as they are asked
pub imports_by : (t : Network) (r : RoutesNow) (v : ℕ) (target : Rt) (o : Option VrfState) → o ≡ of_vrf t r v Some →
    unwrap_or (bind (λ (vrf : VrfState). Some (has_target target vrf.imports)) o) false ≡ imports_it t r v target
imports_by t r v target o e =
    ap (λ q. unwrap_or (bind (λ (vrf : VrfState). Some (has_target target vrf.imports)) q) false) e
    ∙ ap (λ q. unwrap_or q false) (sym (of_vrf_by t r v (λ vrf. Some (has_target target vrf.imports))))

pub exports_by : (t : Network) (r : RoutesNow) (v : ℕ) (target : Rt) (o : Option VrfState) → o ≡ of_vrf t r v Some →
    unwrap_or (bind (λ (vrf : VrfState). Some (has_target target vrf.exports)) o) false ≡ exports_it t r v target
exports_by t r v target o e =
    ap (λ q. unwrap_or (bind (λ (vrf : VrfState). Some (has_target target vrf.exports)) q) false) e
    ∙ ap (λ q. unwrap_or q false) (sym (of_vrf_by t r v (λ vrf. Some (has_target target vrf.exports))))

pub imports_count_by : (t : Network) (r : RoutesNow) (v : ℕ) (o : Option VrfState) → o ≡ of_vrf t r v Some →
    unwrap_or (bind (λ (vrf : VrfState). Some (length vrf.imports)) o) 0 ≡ unwrap_or (of_vrf t r v (λ vrf. Some (length vrf.imports))) 0
imports_count_by t r v o e =
    ap (λ q. unwrap_or (bind (λ (vrf : VrfState). Some (length vrf.imports)) q) 0) e
    ∙ ap (λ q. unwrap_or q 0) (sym (of_vrf_by t r v (λ vrf. Some (length vrf.imports))))

pub exports_count_by : (t : Network) (r : RoutesNow) (v : ℕ) (o : Option VrfState) → o ≡ of_vrf t r v Some →
    unwrap_or (bind (λ (vrf : VrfState). Some (length vrf.exports)) o) 0 ≡ unwrap_or (of_vrf t r v (λ vrf. Some (length vrf.exports))) 0
exports_count_by t r v o e =
    ap (λ q. unwrap_or (bind (λ (vrf : VrfState). Some (length vrf.exports)) q) 0) e
    ∙ ap (λ q. unwrap_or q 0) (sym (of_vrf_by t r v (λ vrf. Some (length vrf.exports))))

pub site_by : (t : Network) (r : RoutesNow) (v : ℕ) (p : AddressBlock) (o : Option VrfState) → o ≡ of_vrf t r v Some →
    bind (λ (vrf : VrfState). option_map (λ (static : Static). static.site) (static_of p vrf.statics)) o ≡ site_with t r v p
site_by t r v p o e =
    ap (bind (λ (vrf : VrfState). option_map (λ (static : Static). static.site) (static_of p vrf.statics))) e
    ∙ sym (of_vrf_by t r v (λ vrf. option_map (λ (static : Static). static.site) (static_of p vrf.statics)))

pub label_by : (t : Network) (r : ReflectNow) (s : ℕ) (o : Option PeNow) → o ≡ slice_index_or r.edges (home_of t s) None →
    is_some (asked (λ edge. label_of edge s) (option_map (λ (pe : PeNow). pe.edge) o)) ≡ is_some (site_label t (shown r) s)
label_by t r s o e =
    ap (λ q. is_some (asked (λ edge. label_of edge s) (option_map (λ (pe : PeNow). pe.edge) q))) e
    ∙ ap is_some (sym (of_edge_shown r (home_of t s) (λ edge. label_of edge s)))

-- a VRF that an edge answers
pub vrf_by : (t : Network) (r : ReflectNow) (v : ℕ) (o : Option PeNow) → o ≡ slice_index_or r.edges (edge_of t v) None →
    asked (λ (edge : Edge). found_in v Some edge.vrfs) (option_map (λ (pe : PeNow). pe.edge) o) ≡ of_vrf t (shown r) v Some
vrf_by t r v o e =
    ap (λ q. asked (λ (edge : Edge). found_in v Some edge.vrfs) (option_map (λ (pe : PeNow). pe.edge) q)) e
    ∙ sym (of_edge_shown r (edge_of t v) (λ (edge : Edge). found_in v Some edge.vrfs))
