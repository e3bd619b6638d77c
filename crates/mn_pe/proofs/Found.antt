-- A peer's route that is looked up has a label of 20 bits.
use Rattle.std.proofs.Common.{ℕ, ◌≡◌, ◌<◌, ◌^◌, inl, inr, Bool, true, false, List, [], ◌∷◌, ◌++◌, filter, length, refl, ◌∙◌, subst, Option, Some, None}
use Rattle.std.specs.Prelude.{◌==◌, ◌&&◌, not, if◌then◌else◌, IfSome}
use Rattle.std.specs.List.{flat_map, range_with_len}
use Rattle.std.proofs.lemmas.Option.{same_Some}
use Rattle.mn_base.proofs.Members.{In, in_append, in_map, in_filter, in_flat_map}
use Rattle.mn_base.proofs.Kept.{fold_in}
use Rattle.mn_prefix.specs.Prefix.{AddressBlock, contains}
use Rattle.mn_prefix.specs.Longest.{matching, is_longest}
use Rattle.mn_prefix.specs.Table.{first_of, longest_match}
use Rattle.mn_rib_in.specs.Heard.{Heard}
use Rattle.mn_targets.specs.Targets.{meet}
use Rattle.mn_vrf.specs.declared.source.Source.{Source}
use Rattle.mn_vrf.specs.Routes.{route_before, is_open, open_among, or_else, found_among}
use Rattle.mn_vrf.specs.Vrf.{VrfState}
use Rattle.mn_pe.specs.Edge.{Edge, heard_of_peer}
use Rattle.mn_pe.specs.Held.{Exported, own_over, near_over, present_with, exports_of, held_own, held_near, held_far, held_by}
use Rattle.mn_pe.specs.Pe.{InOrder, found_in}
use Rattle.mn_pe.specs.Entries.{HasLabel, route_for, route_among}
use Rattle.mn_pe.proofs.Offers.{far_of}
use Rattle.mn_pe.proofs.OnePlaces.{all_in}
use Rattle.mn_pe.proofs.Sound.{labels_at_peer}

first_in : {A : Type 0} (xs : List A) (x : A) → first_of xs ≡ Some x → In xs x
first_in [] x e = absurd (let no : None ≡ Some x → ⊥ = (λ q. cc) in no e)
first_in (y ∷ ys) x e = inl (same_Some y x e)

match_in : (address : ℕ) (routes : List (AddressBlock × Source)) (x : AddressBlock × Source) → longest_match address routes ≡ Some x → In routes x
match_in address routes x e =
    let found : List (AddressBlock × Source) = matching (λ pair. pair.0) address routes in
    let here = first_in (filter (is_longest (λ (pair : AddressBlock × Source). pair.0) found) found) x e in
    (in_filter (λ (pair : AddressBlock × Source). contains pair.0 address) routes x
    (in_filter (is_longest (λ (pair : AddressBlock × Source). pair.0) found) found x here).0).0

held_label : (edge : Edge) (vrf : VrfState) → InOrder edge → (x : AddressBlock × Source) → In (held_by edge vrf) x → HasLabel x.1
held_label edge vrf order x i = elim (fold_in route_before []
    (held_own edge vrf ++ (held_near edge vrf ++ flat_map (held_far edge vrf) (range_with_len 0 (length edge.heard)))) x i) [
      | inl n ↦ absurd n
      | inr raw ↦ elim (in_append (held_own edge vrf) _ x raw) [
        | inl j ↦ let m = in_map (λ (e : Exported). (e.prefix, own_over e.site)) (present_with edge vrf []) x j in
            subst (λ (r : AddressBlock × Source). HasLabel r.1) m.2 tt
        | inr j ↦ elim (in_append (held_near edge vrf) _ x j) [
          | inl k ↦ let m = in_map (λ (e : Exported). (e.prefix, near_over e.vrf e.site))
              (filter (λ (e : Exported). not (e.vrf == vrf.number) && meet e.targets vrf.imports) (exports_of edge)) x k in
              subst (λ (r : AddressBlock × Source). HasLabel r.1) m.2 tt
          | inr k ↦
              let f = in_flat_map (held_far edge vrf) (range_with_len 0 (length edge.heard)) x k in
              let m = in_map (far_of edge f.0) (filter (λ route. meet route.targets vrf.imports) (heard_of_peer edge f.0)) x f.2 in
              let here = in_filter (λ route. meet route.targets vrf.imports) (heard_of_peer edge f.0) m.0 m.1 in
              subst (λ (r : AddressBlock × Source). HasLabel r.1) m.2
              (all_in (λ (h : Heard). h.label < 2 ^ 20) (heard_of_peer edge f.0) m.0 (labels_at_peer edge.heard f.0 order.labels) here.0)
        ]
      ]
    ]

-- what is found among the open routes, and else among all, is one of all
among_in : (ways : List Bool) (address : ℕ) (routes : List (AddressBlock × Source)) (x : AddressBlock × Source) →
    found_among ways address routes ≡ Some x → In routes x
among_in ways address routes x e = by (longest_match address (open_among ways routes)) refl e
  where
    by : (o : Option (AddressBlock × Source)) → longest_match address (open_among ways routes) ≡ o
        → or_else o (longest_match address routes) ≡ Some x → In routes x
    by None h f = match_in address routes x f
    by (Some y) h f = (in_filter (λ (route : AddressBlock × Source). is_open ways route.1) routes x
        (match_in address (open_among ways routes) x (h ∙ f))).0

-- a look-up that finds held routes alone, in the VRF of a number
in_one : (edge : Edge) (v : ℕ) (find : List (AddressBlock × Source) → Option (AddressBlock × Source)) → InOrder edge →
    ((routes : List (AddressBlock × Source)) (x : AddressBlock × Source) → find routes ≡ Some x → In routes x) → (vrfs : List VrfState)
    (x : AddressBlock × Source) → found_in v (λ (vrf : VrfState). find (held_by edge vrf)) vrfs ≡ Some x → HasLabel x.1
in_one edge v find order finds [] x e = absurd (let no : None ≡ Some x → ⊥ = (λ q. cc) in no e)
in_one edge v find order finds (vrf ∷ vrfs) x e = split (vrf.number == v) (in_one edge v find order finds vrfs x) e
  where
    split : (b : Bool) → (found_in v (λ (u : VrfState). find (held_by edge u)) vrfs ≡ Some x → HasLabel x.1)
        → (if b then find (held_by edge vrf) else found_in v (λ (u : VrfState). find (held_by edge u)) vrfs) ≡ Some x → HasLabel x.1
    split true more h = held_label edge vrf order x (finds (held_by edge vrf) x h)
    split false more h = more h

if_some : (o : Option (AddressBlock × Source)) → ((x : AddressBlock × Source) → o ≡ Some x → HasLabel x.1) →
    IfSome o (λ (x : AddressBlock × Source). HasLabel x.1)
if_some None each = tt
if_some (Some x) each = each x refl

pub found_label : (edge : Edge) (site address : ℕ) → InOrder edge → IfSome (route_for edge site address) (λ (x : AddressBlock × Source). HasLabel x.1)
found_label edge site address order =
    if_some (route_for edge site address) (λ x e. in_one edge _ (longest_match address) order (match_in address) edge.vrfs x e)

pub found_label_among : (edge : Edge) (ways : List Bool) (site address : ℕ) → InOrder edge →
    IfSome (route_among edge ways site address) (λ (x : AddressBlock × Source). HasLabel x.1)
found_label_among edge ways site address order =
    if_some (route_among edge ways site address) (λ x e. in_one edge _ (found_among ways address) order (among_in ways address) edge.vrfs x e)
