-- The statics of attached sites, and so an edge's exports, as the ledger has them and as the edge has them.
use Rattle.std.proofs.Common.{ℕ, ◌≡◌, ◌<◌, inl, inr, true, List, [], ◌∷◌, map, filter, length, refl, sym, ◌∙◌, ap, subst, Option, Some, None}
use Rattle.std.specs.Prelude.{◌==◌, ◌&&◌, ◌||◌, is_some, unwrap_or, option_map, if◌then◌else◌}
use Rattle.std.specs.List.{list_any, range_with_len}
use Rattle.mn_base.specs.declared.numbers.Rt.{Rt}
use Rattle.mn_topo.specs.Network.{Network}
use Rattle.mn_ledger.specs.Places.{vrf_at, vrf_of, edge_of, vrfs_at}
use Rattle.mn_ledger.specs.World.{SiteRoute, Config, Export, Peerings}
use Rattle.mn_ledger.specs.Exports.{is_present, export_of}
use Rattle.mn_ledger.specs.Exports as ledger_exports
use Rattle.mn_ledger.proofs.Members.{In, in_map, in_filter, filter_in, in_flat_map, one_alike}
use Rattle.mn_ledger.proofs.Peers.{same_numbers, same_test, and_left, and_right}
use Rattle.mn_ledger.proofs.Statics.{SameStatic, HasStatics}
use Rattle.mn_ledger.proofs.Tellings.{Behind, behind}
use Rattle.mn_ledger.proofs.OneKind.{map_in, flat_map_in, in_order_in}
use Rattle.mn_vrf.specs.Vrf.{VrfState, static_before}
use Rattle.mn_targets.specs.Targets.{meet}
use Rattle.mn_pe.specs.Held.{Exported, site_label, export_at}
use Rattle.mn_pe.specs.Held as held
use Rattle.mn_bgp_spelling_laws.specs.Spelling.{Labels, as_targets}
use Rattle.mn_routing_laws.specs.Laws.{exported_in}
use Rattle.mn_routing_laws.specs.Standing.{static_of, statics_in, vrf_in, site_label_now, edge_in}
use Rattle.mn_routing_laws.proofs.Tables.{map_numbers_at}
use Rattle.mn_base.proofs.Kept.{fold_in, in_fold}
use Rattle.mn_routing_laws.proofs.Removing.{two_prefixes}
use Rattle.mn_base.proofs.Bools.{no}

-- an export as its edge has it
abbrev pub exported : Network → Labels → Export → Exported
exported = exported_in

some_is : (f : ℕ → ℕ) (o : Option ℕ) → is_some o ≡ true → option_map f o ≡ Some (f (unwrap_or o 0))
some_is f None h = absurd (no h)
some_is f (Some k) h = refl

module _ (t : Network) (l : Labels) (c : Config) (p : Peerings) (e : ℕ) (has : HasStatics t c.statics)
    (sited : (x : SiteRoute) → In c.statics x → x.site < length t.sites) where
  -- the label of a site of the edge
  label_is : (u : ℕ) (s : SiteRoute) → edge_of t u ≡ e → In c.statics s → (vrf_of t s.site == u) ≡ true →
      site_label (edge_in t l c p e) s.site ≡ option_map (l s.site) (c.attached s.site)
  label_is u s at i h =
      map_numbers_at (site_label_now t l c e) (length t.sites) s.site None (sited s i)
      ∙ ap (λ b. if b then option_map (l s.site) (c.attached s.site) else None)
      (ap (λ n. n == e) (ap (edge_of t) (same_numbers (vrf_of t s.site) u h) ∙ at) ∙ same_test e)

  pub static_there : (u : ℕ) (s : SiteRoute) → In c.statics s → (vrf_of t s.site == u) ≡ true → In (statics_in t c u) (static_of s)
  static_there u s i h =
      in_fold static_before [] (map static_of (filter (λ static. vrf_of t static.site == u) c.statics)) (static_of s)
      (inr (map_in static_of (filter (λ static. vrf_of t static.site == u) c.statics) s (filter_in (λ static. vrf_of t static.site == u) c.statics s i h)))
      (λ z j.
      let m = in_map static_of (filter (λ static. vrf_of t static.site == u) c.statics) z j in
      let n = in_filter (λ static. vrf_of t static.site == u) c.statics m.0 m.1 in
      elim (two_prefixes s.prefix m.0.prefix) [
        | inl q ↦ inr (sym m.2 ∙ ap static_of (one_alike (SameStatic t) (λ _ _ r. (sym r.0, sym r.1)) c.statics m.0 s has.apart n.0 i
            (same_numbers (vrf_of t m.0.site) u n.1 ∙ sym (same_numbers (vrf_of t s.site) u h), sym q.0)))
        | inr q ↦ inl (ap (λ z. static_before (static_of s) z || static_before z (static_of s)) (sym m.2) ∙ q.1)
      ])

  pub present_there : (u : ℕ) (ts : List ℕ) (x : Export) → edge_of t u ≡ e → In (ledger_exports.present_with t c u ts) x →
      In (held.present_with (edge_in t l c p e) (vrf_in t c u) (as_targets ts)) (exported t l x)
  unfolding Behind
  present_there u ts x at i =
      let b = behind t c u ts x i in
      let vrf : (vrf_of t b.0.site == u) ≡ true = and_left _ _ b.2 in
      flat_map_in (λ static. export_at (vrf_in t c u) (as_targets ts) static (site_label (edge_in t l c p e) static.site)) (statics_in t c u) (static_of b.0)
      (exported t l x) (static_there u b.0 b.1 vrf)
      (subst (λ o. In (export_at (vrf_in t c u) (as_targets ts) (static_of b.0) o) (exported t l x))
      (sym (label_is u b.0 at b.1 vrf ∙ some_is (l b.0.site) (c.attached b.0.site) (and_right (vrf_of t b.0.site == u) _ b.2)))
      (inl (ap (exported t l) b.3)))

  pub present_only : (u : ℕ) (ts : List ℕ) (z : Exported) → edge_of t u ≡ e → In (held.present_with (edge_in t l c p e) (vrf_in t c u) (as_targets ts)) z →
      (x : Export) × In (ledger_exports.present_with t c u ts) x × (exported t l x ≡ z)
  present_only u ts z at i =
      let f = in_flat_map (λ static. export_at (vrf_in t c u) (as_targets ts) static (site_label (edge_in t l c p e) static.site)) (statics_in t c u) z i in
      let kept = fold_in static_before [] (map static_of (filter (λ static. vrf_of t static.site == u) c.statics)) f.0 f.1 in
      let m = in_map static_of (filter (λ static. vrf_of t static.site == u) c.statics) f.0 (elim kept [ inl n ↦ absurd n | inr n ↦ n ]) in
      let n = in_filter (λ static. vrf_of t static.site == u) c.statics m.0 m.1 in
      by_label m.0 n.0 n.1 (c.attached m.0.site) refl
      (subst (λ o. In (export_at (vrf_in t c u) (as_targets ts) (static_of m.0) o) z) (label_is u m.0 at n.0 n.1)
      (subst (λ y. In (export_at (vrf_in t c u) (as_targets ts) y (site_label (edge_in t l c p e) y.site)) z) (sym m.2) f.2))
    where
      by_label : (s : SiteRoute) → In c.statics s → (vrf_of t s.site == u) ≡ true → (o : Option ℕ) → c.attached s.site ≡ o →
          In (export_at (vrf_in t c u) (as_targets ts) (static_of s) (option_map (l s.site) o)) z → (x : Export) × In (ledger_exports.present_with t c u ts) x ×
          (exported t l x ≡ z)
      by_label s there vrf None q j = absurd j
      by_label s there vrf (Some k) q j = (
        export_of c u ts s,
        in_order_in (map (export_of c u ts) (filter (is_present t c u) c.statics)) (export_of c u ts s)
            (map_in (export_of c u ts) (filter (is_present t c u) c.statics) s
            (filter_in (is_present t c u) c.statics s there (ap (λ b. b && is_some (c.attached s.site)) vrf ∙ ap is_some q))),
        ap (λ o. record { vrf = u; rd = (vrf_at t u).rd; prefix = s.prefix; label = l s.site (unwrap_or o 0); site = s.site; targets = as_targets ts }) q
            ∙ elim j [ inl h ↦ h | inr n ↦ absurd n ],
      )

  -- what a VRF exports
  pub exports_there : (u : ℕ) (ts : List ℕ) (x : Export) → edge_of t u ≡ e → In (ledger_exports.exports_with t c u ts) x →
      In (held.exports_with (edge_in t l c p e) (vrf_in t c u) (as_targets ts)) (exported t l x)
  exports_there u [] x at i = absurd i
  exports_there u (target ∷ ts) x at i = present_there u (target ∷ ts) x at i

  pub exports_only : (u : ℕ) (ts : List ℕ) (z : Exported) → edge_of t u ≡ e → In (held.exports_with (edge_in t l c p e) (vrf_in t c u) (as_targets ts)) z →
      (x : Export) × In (ledger_exports.exports_with t c u ts) x × (exported t l x ≡ z)
  exports_only u [] z at i = absurd i
  exports_only u (target ∷ ts) z at i = present_only u (target ∷ ts) z at i

  at_edge : (u : ℕ) → In (vrfs_at t e) u → edge_of t u ≡ e
  at_edge u i = same_numbers (edge_of t u) e (in_filter (λ v. edge_of t v == e) (range_with_len 0 (length t.vrfs)) u i).1

  -- what the edge exports
  pub all_there : (x : Export) → In (ledger_exports.exports_of t c e) x → In (held.exports_of (edge_in t l c p e)) (exported t l x)
  all_there x i =
      let m = in_flat_map (λ v. ledger_exports.exports_with t c v (c.exports v)) (vrfs_at t e) x i in
      flat_map_in (λ vrf. held.exports_with (edge_in t l c p e) vrf vrf.exports) (map (vrf_in t c) (vrfs_at t e)) (vrf_in t c m.0) (exported t l x)
      (map_in (vrf_in t c) (vrfs_at t e) m.0 m.1)
      (exports_there m.0 (c.exports m.0) x (at_edge m.0 m.1) m.2)

  pub all_only : (z : Exported) → In (held.exports_of (edge_in t l c p e)) z → (x : Export) × In (ledger_exports.exports_of t c e) x × (exported t l x ≡ z)
  all_only z i =
      let f = in_flat_map (λ vrf. held.exports_with (edge_in t l c p e) vrf vrf.exports) (map (vrf_in t c) (vrfs_at t e)) z i in
      let m = in_map (vrf_in t c) (vrfs_at t e) f.0 f.1 in
      let o = exports_only m.0 (c.exports m.0) z (at_edge m.0 m.1)
      (subst (λ (vrf : VrfState). In (held.exports_with (edge_in t l c p e) vrf vrf.exports) z) (sym m.2) f.2) in
      (o.0, flat_map_in (λ v. ledger_exports.exports_with t c v (c.exports v)) (vrfs_at t e) m.0 o.0 m.1 o.1, o.2)

-- sets that meet
pub meets_same : (xs ys : List ℕ) → meet (as_targets xs) (as_targets ys) ≡ ledger_exports.meet xs ys
meets_same [] ys = refl
meets_same (x ∷ xs) ys = ap (λ b. b || meet (as_targets xs) (as_targets ys)) (one_of ys) ∙ ap (λ b. list_any (λ other. other == x) ys || b) (meets_same xs ys)
  where
    one_of : (ys : List ℕ) → list_any (λ (other : Rt). other.0 == x) (as_targets ys) ≡ list_any (λ other. other == x) ys
    one_of [] = refl
    one_of (y ∷ ys) = ap (λ b. (y == x) || b) (one_of ys)
