-- The routes that a VRF holds, one after another.
use Rattle.std.proofs.Common.{◌≡◌, ◌<◌, ℕ, zero, suc, List, [], ◌∷◌, length, get_or, Option, Some, None, refl, ap, sym, ◌∙◌, arith}
use Rattle.std.specs.Prelude.{codes, slice_get, option_map}
use Rattle.mn_prefix.specs.Prefix.{AddressBlock}
use Rattle.mn_vrf.specs.declared.source.Source.{Source}
use Rattle.mn_vrf.specs.declared.source.Source.TheVariants as from
use Rattle.mn_ledger.specs.Held.{HeldRoute}
use Rattle.mn_ledger.specs.Held as ledger_held
use Rattle.mn_base.specs.declared.numbers.SiteNo.{SiteNo}
use Rattle.mn_base.specs.declared.numbers.VrfNo.{VrfNo}
use Rattle.mn_base.specs.declared.numbers.NodeNo.{NodeNo}
use Rattle.mn_base.specs.declared.numbers.Rd.{Rd}
use Rattle.mn_bgp_spelling_laws.specs.Spelling.{Labels}
use Rattle.mn_routing_laws.specs.Sources.{as_held, source_from}
use Rattle.mn_ledger.specs.Heads.{prefixes_of, best_for, best_at, held_at}
use Rattle.mn_topo.specs.Network.{Network}
use Rattle.mn_frame_laws.specs.Given.{Labelling}
use Rattle.mn_text.specs.Addresses.{prefix_text}
use Rattle.mn_lines.specs.Lines.{text}
use Rattle.mn_output_laws.specs.Tables as output
use Rattle.mn_output_laws.specs.Tables.{vrf_name}
use Rattle.mn_reflect_run.specs.Report.{source_text, route_line}

-- 1. A source tells the ledger's

pub record IsOwn (route : HeldRoute) (site : SiteNo) : Type 0 where
  pub source_is : route.source ≡ ledger_held.Own
  pub site_is : site.0 ≡ route.site

pub record IsNear (route : HeldRoute) (other : VrfNo) (site : SiteNo) : Type 0 where
  pub source_is : route.source ≡ ledger_held.Near other.0
  pub site_is : site.0 ≡ route.site

pub record IsFar (labels : Labels) (route : HeldRoute) (edge : NodeNo) (label : ℕ) : Type 0 where
  pub address : ℕ
  pub rd : ℕ
  pub source_is : route.source ≡ ledger_held.Far address rd
  pub edge_is : edge.0 ≡ route.edge
  pub label_is : label ≡ labels route.site route.attachment

abbrev site_in : Source → ℕ
site_in (from.Own site) = site.0
site_in (from.Near other site) = site.0
site_in (from.Far loopback rd edge label) = 0

abbrev vrf_in : Source → ℕ
vrf_in (from.Near other site) = other.0
vrf_in _ = 0

abbrev edge_in : Source → ℕ
edge_in (from.Far loopback rd edge label) = edge.0
edge_in _ = 0

abbrev label_in : Source → ℕ
label_in (from.Far loopback rd edge label) = label
label_in _ = 0

own_by : (labels : Labels) (route : HeldRoute) (source : ledger_held.Source) (site : SiteNo) →
    from.Own site ≡ source_from labels route.edge route.site route.attachment source →
    (source ≡ ledger_held.Own) × (site.0 ≡ route.site)
own_by labels route ledger_held.Own site is = (refl, ap site_in is)
own_by labels route (ledger_held.Near v) site is = cc
own_by labels route (ledger_held.Far address rd) site is = cc

pub is_own : (labels : Labels) (route : HeldRoute) (site : SiteNo) → from.Own site ≡ source_from labels route.edge route.site route.attachment route.source →
    IsOwn route site
is_own labels route site is = let both = own_by labels route route.source site is in record { source_is = both.0; site_is = both.1 }

near_by : (labels : Labels) (route : HeldRoute) (source : ledger_held.Source) (other : VrfNo) (site : SiteNo) →
    from.Near other site ≡ source_from labels route.edge route.site route.attachment source
    → (source ≡ ledger_held.Near other.0) × (site.0 ≡ route.site)
near_by labels route ledger_held.Own other site is = cc
near_by labels route (ledger_held.Near v) other site is = (ap ledger_held.Near (sym (ap vrf_in is)), ap site_in is)
near_by labels route (ledger_held.Far address rd) other site is = cc

pub is_near : (labels : Labels) (route : HeldRoute) (other : VrfNo) (site : SiteNo) →
    from.Near other site ≡ source_from labels route.edge route.site route.attachment route.source →
    IsNear route other site
is_near labels route other site is = let both = near_by labels route route.source other site is in record { source_is = both.0; site_is = both.1 }

far_by : (labels : Labels) (route : HeldRoute) (source : ledger_held.Source) (loopback : ℕ) (rd : Rd) (edge : NodeNo) (label : ℕ) →
    from.Far loopback rd edge label ≡ source_from labels route.edge route.site route.attachment source
    → (address : ℕ) × (number : ℕ) × (source ≡ ledger_held.Far address number) × (edge.0 ≡ route.edge)
    × (label ≡ labels route.site route.attachment)
far_by labels route ledger_held.Own loopback rd edge label is = cc
far_by labels route (ledger_held.Near v) loopback rd edge label is = cc
far_by labels route (ledger_held.Far address number) loopback rd edge label is = (address, number, refl, ap edge_in is, ap label_in is)

pub is_far : (labels : Labels) (route : HeldRoute) (loopback : ℕ) (rd : Rd) (edge : NodeNo) (label : ℕ) →
    from.Far loopback rd edge label ≡ source_from labels route.edge route.site route.attachment route.source
    → IsFar labels route edge label
is_far labels route loopback rd edge label is =
    let all = far_by labels route route.source loopback rd edge label is in
    record { address = all.0; rd = all.1; source_is = all.2; edge_is = all.3; label_is = all.4 }

-- 2. The route at a place

-- the line at a place
abbrev pub line_at : Network → Labels → ℕ → List HeldRoute → AddressBlock → List ℕ
line_at topology labels v routes prefix = route_line topology labels v (best_for routes prefix)

-- the prefix at a place that holds something
pub record HeldThere (labels : Labels) (routes : List HeldRoute) (place : ℕ) (prefix : AddressBlock) (source : Source) : Type 0 where
  pub route : HeldRoute
  pub below : place < length (prefixes_of routes)
  pub best : best_for routes (get_or (prefixes_of routes) place (record { address = 0; length = 0 })) ≡ Some route
  pub prefix_is : prefix ≡ route.prefix
  pub source_is : source ≡ source_from labels route.edge route.site route.attachment route.source

abbrev prefix_of_held : Option (AddressBlock × Source) → AddressBlock
prefix_of_held (Some found) = found.0
prefix_of_held None = record { address = 0; length = 0 }

abbrev source_of_held : Option (AddressBlock × Source) → Source
source_of_held (Some found) = found.1
source_of_held None = from.Own (record { 0 = 0 })

held_by_route : (labels : Labels) (route : Option HeldRoute) (prefix : AddressBlock) (source : Source) →
    Some (prefix, source) ≡ option_map (as_held labels) route
    → (found : HeldRoute) × (route ≡ Some found) × (prefix ≡ found.prefix) × (source ≡ source_from labels found.edge found.site found.attachment found.source)
held_by_route labels None prefix source is = cc
held_by_route labels (Some route) prefix source is = (route, refl, ap prefix_of_held is, ap source_of_held is)

at_place : (routes : List HeldRoute) (prefixes : List AddressBlock) (place : ℕ) (route : HeldRoute) → best_at routes (slice_get prefixes place) ≡ Some route
    → (place < length prefixes) × (best_for routes (get_or prefixes place (record { address = 0; length = 0 })) ≡ Some route)
at_place routes [] place route is = cc
at_place routes (prefix ∷ prefixes) zero route is = (omega arith, is)
at_place routes (prefix ∷ prefixes) (suc place) route is =
    let rest = at_place routes prefixes place route is in
    let below : place < length prefixes = rest.0 in
    (omega arith, rest.1)

pub held_there : (labels : Labels) (routes : List HeldRoute) (place : ℕ) (prefix : AddressBlock) (source : Source)
    → Some (prefix, source) ≡ option_map (as_held labels) (held_at routes place) → HeldThere labels routes place prefix source
held_there labels routes place prefix source is =
    let found = held_by_route labels (held_at routes place) prefix source is in
    let there = at_place routes (prefixes_of routes) place found.0 found.1 in
    record { route = found.0; below = there.0; best = there.1; prefix_is = found.2; source_is = found.3 }

-- the text of a route that is put is the line at its place
pub line_is : (topology : Network) (labels : Labels) (v : ℕ) (routes : List HeldRoute) (place : ℕ) (prefix : AddressBlock) (source : Source)
    → (there : HeldThere labels routes place prefix source)
    → route_line topology labels v (Some there.route) ≡ line_at topology labels v routes
    (get_or (prefixes_of routes) place (record { address = 0; length = 0 }))
line_is topology labels v routes place prefix source there = ap (route_line topology labels v) (sym there.best)

pub nothing_held : (labels : Labels) (routes : List HeldRoute) (place : ℕ) → None ≡ option_map (as_held labels) (held_at routes place) →
    held_at routes place ≡ None
nothing_held labels routes place is = nothing_by labels (held_at routes place) is
  where
    nothing_by : (labels : Labels) (route : Option HeldRoute) → None ≡ option_map (as_held labels) route → route ≡ None
    nothing_by labels None is = refl
    nothing_by labels (Some route) is = cc

-- 3. The line of a route that no other edge told has no label

abbrev pub no_labels : Labelling
no_labels node = record { given = []; fecs = [] }

module _ (topology : Network) (labels : Labels) (v : ℕ) (route : HeldRoute) where
  abbrev with_source : List ℕ → List ℕ
  with_source source = text (codes "route " ∷ vrf_name topology v ∷ codes " " ∷ prefix_text route.prefix ∷ codes " " ∷ source ∷ codes "\n" ∷ [])

  same_line : (source : ledger_held.Source) → route.source ≡ source →
      output.source_text topology no_labels route source ≡ source_text topology labels route source →
      output.route_line topology no_labels v (Some route) ≡ route_line topology labels v (Some route)
  same_line source is same =
      ap (λ s. with_source (output.source_text topology no_labels route s)) is ∙ ap with_source same
      ∙ sym (ap (λ s. with_source (source_text topology labels route s)) is)

  pub own_line : route.source ≡ ledger_held.Own → output.route_line topology no_labels v (Some route) ≡ route_line topology labels v (Some route)
  own_line is = same_line ledger_held.Own is refl

  pub near_line : (other : ℕ) → route.source ≡ ledger_held.Near other →
      output.route_line topology no_labels v (Some route) ≡ route_line topology labels v (Some route)
  near_line other is = same_line (ledger_held.Near other) is refl
