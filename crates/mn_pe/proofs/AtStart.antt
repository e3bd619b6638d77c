-- Where nothing is attached or received, a VRF is to hold nothing.
use Rattle.std.proofs.Common.{ℕ, zero, suc, ◌≡◌, inl, inr, List, [], ◌∷◌, map, refl, sym, ◌∙◌, ap, subst, Option, Some, None}
use Rattle.std.specs.Prelude.{slice_index_or}
use Rattle.std.specs.List.{AllByRecursion}
use Rattle.mn_base.specs.declared.numbers.VrfNo.{VrfNo}
use Rattle.mn_base.proofs.Members.{In}
use Rattle.mn_prefix.specs.Prefix.{AddressBlock}
use Rattle.mn_rib_in.specs.Heard.{Heard}
use Rattle.mn_topo.specs.Network.{Network}
use Rattle.mn_topo.specs.Lawful.{IsLawful}
use Rattle.mn_topo.specs.declared.sites.SiteDef.{SiteDef}
use Rattle.mn_vrf.specs.declared.source.Source.{Source}
use Rattle.mn_vrf.specs.Vrf.{Static, VrfState, Holding}
use Rattle.mn_pe.specs.Edge.{Edge}
use Rattle.mn_pe.specs.Held.{held_by, in_order}
use Rattle.mn_pe.specs.Pe.{AllHold, IsSound, edge_of}
use Rattle.mn_pe.specs.Start.{HoldsNone, edge_at_start}
use Rattle.mn_pe.proofs.Importing.{from_far}
use Rattle.mn_pe.proofs.Spreads.{IsPresent, raw, raw_kinds}
use Rattle.mn_pe.proofs.Starting.{start_order}

none_in : (xs : List (AddressBlock × Source)) → ((z : AddressBlock × Source) → In xs z → ⊥) → xs ≡ []
none_in [] h = refl
none_in (x ∷ xs) h = absurd (h x (inl refl))

no_labels : (defs : List SiteDef) (k : ℕ) → slice_index_or (map (λ (def : SiteDef). let none : Option ℕ = None in none) defs) k None ≡ None
no_labels [] k = refl
no_labels (def ∷ defs) zero = refl
no_labels (def ∷ defs) (suc k) = no_labels defs k

nothing_of : (loopbacks : List ℕ) (k : ℕ) → slice_index_or (map (λ (loopback : ℕ). let nothing : List Heard = [] in nothing) loopbacks) k [] ≡ []
nothing_of [] k = refl
nothing_of (x ∷ xs) zero = refl
nothing_of (x ∷ xs) (suc k) = nothing_of xs k

module _ (e : Edge) (unlabelled : (k : ℕ) → slice_index_or e.labels k None ≡ None) (unheard : (k : ℕ) → slice_index_or e.heard k [] ≡ []) where
  not_present : (u : VrfState) (s : Static) → IsPresent e u s → ⊥
  not_present u s p = (let never : None ≡ Some p.0 → ⊥ = (λ q. cc) in never (sym (unlabelled s.site) ∙ p.2))

  holds_none : (w : VrfState) → held_by e w ≡ []
  holds_none w = ap in_order (none_in (raw e w) (λ z i. elim (raw_kinds e w z i) [
    | inl o ↦ not_present w o.0 o.1
    | inr q ↦ elim q [
      | inl n ↦ not_present n.0 n.4.0 n.4.1
      | inr f ↦ let h = from_far e.loopbacks e.heard w.imports z f in subst (λ (xs : List Heard). In xs h.2) (unheard h.0) h.3
    ]
  ]))

  all_hold_none : (hs : List Holding) → AllByRecursion HoldsNone hs → AllHold e hs
  all_hold_none [] all = tt
  all_hold_none (h ∷ hs) all = (all.0 ∙ sym (holds_none h.vrf), all_hold_none hs all.1)

pub start_sound : (t : Network) (node : ℕ) (holdings : List Holding) (sites : List VrfNo) (labels : List (Option ℕ)) (lbs : List ℕ) (hs : List (List Heard)) →
    IsLawful t → edge_of holdings sites labels lbs hs ≡ edge_at_start t node → AllByRecursion HoldsNone holdings →
    IsSound (edge_of holdings sites labels lbs hs) holdings
start_sound t node holdings sites labels lbs hs lawful is none =
    subst (λ e. IsSound e holdings) (sym is) (record {
      order = start_order t node lawful;
      held = all_hold_none (edge_at_start t node) (no_labels t.sites) (nothing_of t.loopbacks) holdings none;
    })
