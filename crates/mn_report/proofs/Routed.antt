-- The routes that a VRF holds, one after another.
use Rattle.std.proofs.Common.{◌≡◌, ◌<◌, ℕ, zero, suc, Bool, List, [], ◌∷◌, length, get_or, Option, Some, None, refl, ap, sym, ◌∙◌, arith}
use Rattle.std.specs.Prelude.{codes, slice_get, option_map}
use Rattle.mn_prefix.specs.Prefix.{AddressBlock}
use Rattle.mn_vrf.specs.declared.source.Source.{Source}
use Rattle.mn_vrf.specs.declared.source.Source.TheVariants as from
use Rattle.mn_ledger.specs.Held.{HeldRoute}
use Rattle.mn_ledger.specs.Held as ledger_held
use Rattle.mn_frame_laws.specs.Given.{Labelling, label_at}
use Rattle.mn_base.specs.declared.numbers.SiteNo.{SiteNo}
use Rattle.mn_base.specs.declared.numbers.VrfNo.{VrfNo}
use Rattle.mn_base.specs.declared.numbers.NodeNo.{NodeNo}
use Rattle.mn_base.specs.declared.numbers.Rd.{Rd}
use Rattle.mn_pe.specs.Entries.{as_held, source_of}
use Rattle.mn_ledger.specs.Heads.{prefixes_of, best_for, best_at, held_at}
use Rattle.mn_topo.specs.Network.{Network}
use Rattle.mn_ledger.specs.World.{World}
use Rattle.mn_ledger.specs.Places.{edge_of}
use Rattle.mn_output_laws.specs.Tables.{vrf_name, source_text, mark_text, route_line, marked_line, shown_among, shown_line}
use Rattle.mn_text.specs.Addresses.{prefix_text}
use Rattle.mn_lines.specs.Lines.{text}
use Rattle.mn_report.specs.Routes.{IsShown}
use Rattle.mn_report.proofs.Holding.{best_has}

-- 1. A source tells the ledger's

pub record IsOwn (route : HeldRoute) (site : SiteNo) : Type 0 where
  pub source_is : route.source ≡ ledger_held.Own
  pub site_is : site.0 ≡ route.site

pub record IsNear (route : HeldRoute) (other : VrfNo) (site : SiteNo) : Type 0 where
  pub source_is : route.source ≡ ledger_held.Near other.0
  pub site_is : site.0 ≡ route.site

pub record IsFar (given : Labelling) (route : HeldRoute) (edge : NodeNo) (label : ℕ) : Type 0 where
  pub address : ℕ
  pub rd : ℕ
  pub source_is : route.source ≡ ledger_held.Far address rd
  pub edge_is : edge.0 ≡ route.edge
  pub label_is : label ≡ label_at given route.edge route.site route.attachment

abbrev site_in : Source → ℕ
site_in (from.Own site) = site.0
site_in (from.Near other site) = site.0
site_in (from.Far loopback rd edge label) = 0

abbrev vrf_in : Source → ℕ
vrf_in (from.Near other site) = other.0
vrf_in _ = 0

abbrev edge_in : Source → ℕ
edge_in (from.Far loopback rd edge label) = edge.0
edge_in _ = 0

abbrev label_in : Source → ℕ
label_in (from.Far loopback rd edge label) = label
label_in _ = 0

own_by : (given : Labelling) (route : HeldRoute) (source : ledger_held.Source) (site : SiteNo) → from.Own site ≡ source_of given route source →
    (source ≡ ledger_held.Own) × (site.0 ≡ route.site)
own_by given route ledger_held.Own site is = (refl, ap site_in is)
own_by given route (ledger_held.Near v) site is = cc
own_by given route (ledger_held.Far address rd) site is = cc

pub is_own : (given : Labelling) (route : HeldRoute) (site : SiteNo) → from.Own site ≡ source_of given route route.source → IsOwn route site
is_own given route site is = let both = own_by given route route.source site is in record { source_is = both.0; site_is = both.1 }

near_by : (given : Labelling) (route : HeldRoute) (source : ledger_held.Source) (other : VrfNo) (site : SiteNo) →
    from.Near other site ≡ source_of given route source
    → (source ≡ ledger_held.Near other.0) × (site.0 ≡ route.site)
near_by given route ledger_held.Own other site is = cc
near_by given route (ledger_held.Near v) other site is = (ap ledger_held.Near (sym (ap vrf_in is)), ap site_in is)
near_by given route (ledger_held.Far address rd) other site is = cc

pub is_near : (given : Labelling) (route : HeldRoute) (other : VrfNo) (site : SiteNo) → from.Near other site ≡ source_of given route route.source →
    IsNear route other site
is_near given route other site is = let both = near_by given route route.source other site is in record { source_is = both.0; site_is = both.1 }

far_by : (given : Labelling) (route : HeldRoute) (source : ledger_held.Source) (loopback : ℕ) (rd : Rd) (edge : NodeNo) (label : ℕ) →
    from.Far loopback rd edge label ≡ source_of given route source
    → (address : ℕ) × (number : ℕ) × (source ≡ ledger_held.Far address number) × (edge.0 ≡ route.edge)
    × (label ≡ label_at given route.edge route.site route.attachment)
far_by given route ledger_held.Own loopback rd edge label is = cc
far_by given route (ledger_held.Near v) loopback rd edge label is = cc
far_by given route (ledger_held.Far address number) loopback rd edge label is = (address, number, refl, ap edge_in is, ap label_in is)

pub is_far : (given : Labelling) (route : HeldRoute) (loopback : ℕ) (rd : Rd) (edge : NodeNo) (label : ℕ) →
    from.Far loopback rd edge label ≡ source_of given route route.source
    → IsFar given route edge label
is_far given route loopback rd edge label is =
    let all = far_by given route route.source loopback rd edge label is in
    record { address = all.0; rd = all.1; source_is = all.2; edge_is = all.3; label_is = all.4 }

-- a route of the edge itself has no mark
module _ (topology : Network) (given : Labelling) (v : ℕ) (unresolved : Bool) (route : HeldRoute) where
  abbrev with_mark : List ℕ → List ℕ
  with_mark mark =
      text (codes "route " ∷ vrf_name topology v ∷ codes " " ∷ prefix_text route.prefix ∷ codes " " ∷ source_text topology given route route.source
      ∷ mark ∷ codes "\n" ∷ [])

  pub own_line : route.source ≡ ledger_held.Own → route_line topology given v (Some route) ≡ marked_line topology given v unresolved route
  own_line is = ap with_mark (sym (ap (λ s. mark_text s unresolved) is))

  pub near_line : (other : ℕ) → route.source ≡ ledger_held.Near other → route_line topology given v (Some route) ≡ marked_line topology given v unresolved route
  near_line other is = ap with_mark (sym (ap (λ s. mark_text s unresolved) is))

-- 2. The route at a place

-- the line of a prefix
abbrev pub line_at : Network → World → Labelling → ℕ → List HeldRoute → AddressBlock → List ℕ
line_at topology world given v routes prefix =
    shown_line topology world given v (best_for (shown_among topology world (edge_of topology v) prefix routes) prefix)

-- the prefix at a place that holds something
pub record HeldThere (given : Labelling) (routes : List HeldRoute) (place : ℕ) (prefix : AddressBlock) (source : Source) : Type 0 where
  pub route : HeldRoute
  pub below : place < length (prefixes_of routes)
  pub best : best_for routes (get_or (prefixes_of routes) place (record { address = 0; length = 0 })) ≡ Some route
  pub prefix_is : prefix ≡ route.prefix
  pub source_is : source ≡ source_of given route route.source

abbrev prefix_of_held : Option (AddressBlock × Source) → AddressBlock
prefix_of_held (Some found) = found.0
prefix_of_held None = record { address = 0; length = 0 }

abbrev source_of_held : Option (AddressBlock × Source) → Source
source_of_held (Some found) = found.1
source_of_held None = from.Own (record { 0 = 0 })

held_by_route : (given : Labelling) (route : Option HeldRoute) (prefix : AddressBlock) (source : Source) →
    Some (prefix, source) ≡ option_map (as_held given) route
    → (found : HeldRoute) × (route ≡ Some found) × (prefix ≡ found.prefix) × (source ≡ source_of given found found.source)
held_by_route given None prefix source is = cc
held_by_route given (Some route) prefix source is = (route, refl, ap prefix_of_held is, ap source_of_held is)

at_place : (routes : List HeldRoute) (prefixes : List AddressBlock) (place : ℕ) (route : HeldRoute) → best_at routes (slice_get prefixes place) ≡ Some route
    → (place < length prefixes) × (best_for routes (get_or prefixes place (record { address = 0; length = 0 })) ≡ Some route)
at_place routes [] place route is = cc
at_place routes (prefix ∷ prefixes) zero route is = (omega arith, is)
at_place routes (prefix ∷ prefixes) (suc place) route is =
    let rest = at_place routes prefixes place route is in
    let below : place < length prefixes = rest.0 in
    (omega arith, rest.1)

pub held_there : (given : Labelling) (routes : List HeldRoute) (place : ℕ) (prefix : AddressBlock) (source : Source)
    → Some (prefix, source) ≡ option_map (as_held given) (held_at routes place) → HeldThere given routes place prefix source
held_there given routes place prefix source is =
    let found = held_by_route given (held_at routes place) prefix source is in
    let there = at_place routes (prefixes_of routes) place found.0 found.1 in
    record { route = found.0; below = there.0; best = there.1; prefix_is = found.2; source_is = found.3 }

-- it is the one at that place
pub prefix_there : (given : Labelling) (routes : List HeldRoute) (place : ℕ) (prefix : AddressBlock) (source : Source) →
    (there : HeldThere given routes place prefix source) → get_or (prefixes_of routes) place (record { address = 0; length = 0 }) ≡ prefix
prefix_there given routes place prefix source there =
    sym (best_has routes (get_or (prefixes_of routes) place (record { address = 0; length = 0 })) there.route there.best).1 ∙ sym there.prefix_is

pub best_there : (given : Labelling) (routes : List HeldRoute) (place : ℕ) (prefix : AddressBlock) (source : Source) →
    (there : HeldThere given routes place prefix source) → best_for routes prefix ≡ Some there.route
best_there given routes place prefix source there = ap (best_for routes) (sym (prefix_there given routes place prefix source there)) ∙ there.best

-- the text of a route that is put is the line at its place
pub line_is : (topology : Network) (world : World) (given : Labelling) (v : ℕ) (routes : List HeldRoute) (place : ℕ) (prefix : AddressBlock)
    (held source : Source) (unresolved : Bool) → (there : HeldThere given routes place prefix held)
    → (shown : IsShown topology world given v routes prefix source unresolved) → marked_line topology given v unresolved shown.route
    ≡ line_at topology world given v routes (get_or (prefixes_of routes) place (record { address = 0; length = 0 }))
line_is topology world given v routes place prefix held source unresolved there shown =
    ap (λ b. marked_line topology given v b shown.route) shown.mark_is
    ∙ ap (shown_line topology world given v) (sym shown.best)
    ∙ ap (line_at topology world given v routes) (sym (prefix_there given routes place prefix held there))

pub nothing_held : (given : Labelling) (routes : List HeldRoute) (place : ℕ) → None ≡ option_map (as_held given) (held_at routes place) →
    held_at routes place ≡ None
nothing_held given routes place is = nothing_by given (held_at routes place) is
  where
    nothing_by : (given : Labelling) (route : Option HeldRoute) → None ≡ option_map (as_held given) route → route ≡ None
    nothing_by given None is = refl
    nothing_by given (Some route) is = cc
