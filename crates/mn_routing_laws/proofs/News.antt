-- What an edge advertises in a step is the news of the exports that it is asked for.
use Rattle.std.proofs.Common.{ℕ, zero, suc, ◌≡◌, ◌<◌, inl, inr, Bool, true, false, List, [], ◌∷◌, map, filter, length, refl}
use Rattle.std.proofs.Common.{arith, sym, ◌∙◌, ap, subst}
use Rattle.std.specs.Prelude.{◌==◌, ◌&&◌, slice_index_or, nat_lt}
use Rattle.mn_base.specs.Ordered.{Ascends}
use Rattle.mn_base.proofs.Bools.{same_numbers, less_tells}
use Rattle.mn_base.proofs.Members.{In, in_map, in_filter, all_in as all_of}
use Rattle.mn_base.proofs.Kept.{fold_in}
use Rattle.mn_base.specs.declared.numbers.SiteNo.{SiteNo}
use Rattle.mn_base.specs.declared.numbers.VrfNo.{VrfNo}
use Rattle.mn_prefix.specs.Prefix.{AddressBlock, same_prefix}
use Rattle.mn_topo.specs.declared.sites.SiteDef.{SiteDef}
use Rattle.mn_topo.specs.Network.{Network}
use Rattle.mn_topo.specs.declared.steps.Step.{Step}
use Rattle.mn_ledger.specs.Places.{vrf_of, vrfs_at}
use Rattle.mn_ledger.specs.World.{SiteRoute, Config, Export, Announcement, Withdrawal, Peerings}
use Rattle.mn_ledger.specs.Exports as ledger_exports
use Rattle.mn_ledger.specs.Ledger.{config_after}
use Rattle.mn_ledger.proofs.Statics.{HasStatics}
use Rattle.mn_ledger.proofs.Turning.{loopbacks_apart}
use Rattle.mn_topo.specs.Lawful.{IsLawful}
use Rattle.mn_vrf.specs.Vrf.{Static, VrfState, static_before}
use Rattle.mn_pe.specs.Edge.{vrf_of_site}
use Rattle.mn_pe.specs.Held.{Exported, exports_of}
use Rattle.mn_pe.specs.Exports.{exports_at, exports_over, export_of}
use Rattle.mn_bgp_spelling_laws.specs.Spelling.{Labels, bytes_in}
use Rattle.mn_routing_laws.specs.Standing.{static_of, vrf_in, edge_in}
use Rattle.mn_routing_laws.specs.Touched.{touches, comes, goes}
use Rattle.mn_routing_laws.specs.Sending.{spelled_in}
use Rattle.mn_routing_laws.specs.Doing.{those_of}
use Rattle.mn_routing_laws.proofs.Present.{exported}
use Rattle.mn_routing_laws.proofs.Exports.{exports_same}
use Rattle.mn_routing_laws.proofs.KeptOrder.{kept_in}
use Rattle.mn_routing_laws.proofs.Matching.{AreAtHome, AreApartVrfs, filter_map, exports_at_are, exports_over_are, export_of_is}

-- 1. The edge's VRFs and sites

site_vrf : (sites : List SiteDef) (site : ℕ) →
    (slice_index_or (map (λ (def : SiteDef). def.vrf) sites) site (record { 0 = 0 })).0 ≡
    (slice_index_or sites site (record { vrf = record { 0 = 0 }; prefixes = [] })).vrf.0
site_vrf [] site = refl
site_vrf (x ∷ xs) zero = refl
site_vrf (x ∷ xs) (suc site) = site_vrf xs site

-- the VRF of a site is the ledger's
pub vrf_of_site_is : (t : Network) (l : Labels) (c : Config) (p : Peerings) (e site : ℕ) → vrf_of_site (edge_in t l c p e) site ≡ vrf_of t site
vrf_of_site_is t l c p e site = site_vrf t.sites site

pub at_home : (t : Network) (l : Labels) (c : Config) (p : Peerings) (e site : ℕ) → AreAtHome (edge_in t l c p e) site
at_home t l c p e site vrf static i j is =
    let m = in_map (vrf_in t c) (vrfs_at t e) vrf i in
    let k = fold_in static_before [] (map static_of (filter (λ static. vrf_of t static.site == m.0) c.statics)) static
    (subst (λ (u : VrfState). In u.statics static) (sym m.2) j) in
    let n = in_map static_of (filter (λ static. vrf_of t static.site == m.0) c.statics) static (elim k [ inl gone ↦ absurd gone | inr found ↦ found ]) in
    let f = in_filter (λ static. vrf_of t static.site == m.0) c.statics n.0 n.1 in
    sym (ap (λ (u : VrfState). u.number) m.2) ∙ sym (same_numbers (vrf_of t n.0.site) m.0 f.1) ∙ ap (vrf_of t) (ap (λ (s : Static). s.site) n.2 ∙ is)
    ∙ sym (vrf_of_site_is t l c p e site)

apart_of : (vrfs : List VrfState) → Ascends (λ (u w : VrfState). nat_lt u.number w.number) vrfs → AreApartVrfs vrfs
apart_of [] up = tt
apart_of (x ∷ xs) up = (
  (λ y i e. let less : x.number < y.number = less_tells x.number y.number (all_of (λ (y : VrfState). nat_lt x.number y.number ≡ true) xs y up.0 i) in
      absurd (omega (arith, less, e))),
  apart_of xs up.1,
)

pub vrfs_apart : (t : Network) (l : Labels) (c : Config) (p : Peerings) (e : ℕ) → IsLawful t → AreApartVrfs (edge_in t l c p e).vrfs
vrfs_apart t l c p e lawful = apart_of (edge_in t l c p e).vrfs (kept_in t l c p e (loopbacks_apart t lawful)).vrfs

-- 2. What is told, in bytes

announced_all : (t : Network) (l : Labels) (e : ℕ) (xs : List Export) →
    map (bytes_in t l e) (map (λ export. Announcement export) xs) ≡ map (spelled_in t e true) (map (exported t l) xs)
announced_all t l e [] = refl
announced_all t l e (x ∷ xs) = ap (λ ys. bytes_in t l e (Announcement x) ∷ ys) (announced_all t l e xs)

withdrawn_all : (t : Network) (l : Labels) (e : ℕ) (xs : List Export) →
    map (bytes_in t l e) (map (λ (export : Export). Withdrawal export.vrf export.prefix) xs) ≡ map (spelled_in t e false) (map (exported t l) xs)
withdrawn_all t l e [] = refl
withdrawn_all t l e (x ∷ xs) = ap (λ ys. bytes_in t l e (Withdrawal x.vrf x.prefix) ∷ ys) (withdrawn_all t l e xs)

pub announced_told : (t : Network) (l : Labels) (e : ℕ) (xs : List Export) →
    map (bytes_in t l e) (map (λ export. Announcement export) xs) ≡ map (spelled_in t e true) (map (exported t l) xs)
announced_told t l e xs = announced_all t l e xs

-- 3. The exports that a step touches, as the edge has them

module _ (t : Network) (l : Labels) (c : Config) (p : Peerings) (e : ℕ) (lawful : IsLawful t) (has : HasStatics t c.statics)
    (sited : (x : SiteRoute) → In c.statics x → x.site < length t.sites) where
  touched_by : (q : Exported → Bool) (s : Step) → ((x : Export) → touches t s x ≡ q (exported t l x))
      → map (exported t l) (filter (touches t s) (ledger_exports.exports_of t c e)) ≡ filter q (exports_of (edge_in t l c p e))
  touched_by q s h = filter_map (exported t l) q (touches t s) (ledger_exports.exports_of t c e) h ∙ ap (filter q) (exports_same t l c p e has sited)

  pub of_prefix : (s : Step) (site : SiteNo) (prefix : AddressBlock) →
      ((x : Export) → touches t s x ≡ ((vrf_of t site.0 == x.vrf) && same_prefix prefix x.prefix))
      → map (exported t l) (filter (touches t s) (ledger_exports.exports_of t c e)) ≡ those_of (export_of (edge_in t l c p e) site.0 prefix)
  of_prefix s site prefix h =
      touched_by (λ (x : Exported). (vrf_of t site.0 == x.vrf) && same_prefix prefix x.prefix) s h
      ∙ ap (λ v. filter (λ (x : Exported). (v == x.vrf) && same_prefix prefix x.prefix) (exports_of (edge_in t l c p e)))
      (sym (vrf_of_site_is t l c p e site.0))
      ∙ export_of_is (edge_in t l c p e) site.0 prefix (vrfs_apart t l c p e lawful) (kept_in t l c p e (loopbacks_apart t lawful)).statics

  pub over_site : (s : Step) (site : SiteNo) → ((x : Export) → touches t s x ≡ (x.site == site.0))
      → map (exported t l) (filter (touches t s) (ledger_exports.exports_of t c e)) ≡ exports_over (edge_in t l c p e) site.0
  over_site s site h = touched_by (λ (x : Exported). x.site == site.0) s h ∙ exports_over_are (edge_in t l c p e) site.0 (at_home t l c p e site.0)

  pub of_vrf : (s : Step) (v : VrfNo) → ((x : Export) → touches t s x ≡ (x.vrf == v.0))
      → map (exported t l) (filter (touches t s) (ledger_exports.exports_of t c e)) ≡ exports_at (edge_in t l c p e) v.0
  of_vrf s v h = touched_by (λ (x : Exported). x.vrf == v.0) s h ∙ exports_at_are (edge_in t l c p e) v.0

-- 4. Told, in bytes

pub comes_as : (t : Network) (l : Labels) (c : Config) (s : Step) (e : ℕ) (xs : List Exported) →
    map (exported t l) (filter (touches t s) (ledger_exports.exports_of t (config_after c s) e)) ≡ xs
    → map (bytes_in t l e) (comes t c s e) ≡ map (spelled_in t e true) xs
comes_as t l c s e xs h = announced_all t l e (filter (touches t s) (ledger_exports.exports_of t (config_after c s) e)) ∙ ap (map (spelled_in t e true)) h

pub goes_as : (t : Network) (l : Labels) (c : Config) (s : Step) (e : ℕ) (xs : List Exported) →
    map (exported t l) (filter (touches t s) (ledger_exports.exports_of t c e)) ≡ xs
    → map (bytes_in t l e) (goes t c s e) ≡ map (spelled_in t e false) xs
goes_as t l c s e xs h = withdrawn_all t l e (filter (touches t s) (ledger_exports.exports_of t c e)) ∙ ap (map (spelled_in t e false)) h
