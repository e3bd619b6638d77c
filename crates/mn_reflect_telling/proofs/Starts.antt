-- The start: edges as the topology says them, with their first labels, and how many statics there are.
use Rattle.std.proofs.Common.{ℕ, zero, suc, ◌≡◌, ◌+◌, ◌<◌, ◌≤◌, Bool, true, false, cond, List, [], ◌∷◌, map, drop, length, refl, arith, sym}
use Rattle.std.proofs.Common.{◌∙◌, ap, subst, Option, None, Some, inl, inr}
use Rattle.std.specs.Prelude.{◌==◌, ◌&&◌, nat_lt, filter, option_map, if◌then◌else◌, slice_index_or}
use Rattle.std.specs.List.{range_with_len}
use Rattle.std.proofs.lemmas.Bool.Decides.{eqb_tells}
use Rattle.std.proofs.lemmas.List.{length-map, length-append}
use Rattle.std.proofs.Math.Seq.{drop-cons}
use Rattle.mn_base.proofs.Bools.{less_is, not_less, and_false}
use Rattle.mn_base.specs.Limits.{most_static_routes}
use Rattle.mn_prefix.specs.Prefix.{AddressBlock}
use Rattle.mn_topo.specs.Network.{Network, wiring_of}
use Rattle.mn_topo.specs.Lawful.{IsLawful}
use Rattle.mn_topo.specs.VrfTable.{is_edge}
use Rattle.mn_topo.specs.SiteTable.{statics_of, in_vrf}
use Rattle.mn_topo.specs.declared.sites.SiteDef.{SiteDef}
use Rattle.mn_node.proofs.Lists.{map_below}
use Rattle.mn_ledger.specs.Prelude.{nodes_of}
use Rattle.mn_ledger.specs.Places.{home_of, vrfs_at}
use Rattle.mn_ledger.specs.World.{SiteRoute}
use Rattle.mn_ledger.specs.Ledger.{statics_from, first_config}
use Rattle.mn_ledger.specs.Bgp.{peers_live}
use Rattle.mn_rib_in.specs.Heard.{Heard}
use Rattle.mn_vrf.specs.Vrf.{VrfState}
use Rattle.mn_pe.specs.Edge.{Edge}
use Rattle.mn_pe.specs.Start.{edge_at_start}
use Rattle.mn_edges.specs.Changes.{working}
use Rattle.mn_edges.specs.Start.{sites_before, label_at_start}
use Rattle.mn_edges.specs.Start as edges
use Rattle.mn_edges.proofs.Starts.{same_all}
use Rattle.mn_routing_laws.specs.Standing.{vrf_in, site_label_now, heard_in}
use Rattle.mn_routing_laws.proofs.Starts as starts
use Rattle.mn_reflect_world_laws.specs.Labels.{first_labels}
use Rattle.mn_reflect_world_laws.specs.Edges.{all_live, as_peerings}
use Rattle.mn_reflect_telling.proofs.Posting.{drop_all}
use Rattle.mn_reflect_telling.specs.Starting.{nothing_decided, first_edge, first_edge_or_none}

-- 1. How many sites of a node come before a site

module _ (p : ℕ → Bool) where
  none_past : (n b c : ℕ) → c ≤ b → filter (λ s. p s && nat_lt s c) (range_with_len b n) ≡ []
  none_past zero b c h = refl
  none_past (suc n) b c h =
      ap (λ x. cond (p b && x) (b ∷ filter (λ s. p s && nat_lt s c) (range_with_len (b + 1) n))
      (filter (λ s. p s && nat_lt s c) (range_with_len (b + 1) n))) (not_less b c h)
      ∙ ap (λ x. cond x (b ∷ filter (λ s. p s && nat_lt s c) (range_with_len (b + 1) n)) (filter (λ s. p s && nat_lt s c) (range_with_len (b + 1) n)))
      (and_false (p b))
      ∙ none_past n (b + 1) c (omega (arith, h))

  below_only : (m a n : ℕ) → m ≤ n → filter (λ s. p s && nat_lt s (a + m)) (range_with_len a n) ≡ filter p (range_with_len a m)
  below_only zero a n h = none_past n a (a + 0) (omega arith)
  below_only (suc m) a zero h = absurd (omega (arith, h))
  below_only (suc m) a (suc n) h =
      ap (λ x. cond (p a && x) (a ∷ far) far) (less_is a (a + suc m) (omega arith))
      ∙ ap (λ x. cond x (a ∷ far) far) (and_true (p a))
      ∙ ap (λ (xs : List ℕ). cond (p a) (a ∷ xs) xs) (ap (λ c. filter (λ s. p s && nat_lt s c) (range_with_len (a + 1) n)) (let e : a + suc m ≡ a + 1 + m =
      omega arith in e) ∙ below_only m (a + 1) n (omega (arith, h)))
    where
      far : List ℕ
      far = filter (λ s. p s && nat_lt s (a + suc m)) (range_with_len (a + 1) n)

      and_true : (b : Bool) → (b && true) ≡ b
      and_true true = refl
      and_true false = refl

-- 2. An edge, with the first labels

nothing : (a b : Bool) → (let hs : List Heard = if a then [] else (if b then [] else []) in hs) ≡ []
nothing true b = refl
nothing false true = refl
nothing false false = refl

module _ (t : Network) (lawful : IsLawful t) (node : ℕ) where
  label_is : (k : ℕ) → k < length t.sites → home_of t k ≡ node → first_labels t k 1 ≡ 16 + sites_before t node k
  label_is k below home =
      ap (λ n. 16 + n)
      (ap (λ h. length (filter (λ s. (home_of t s == h) && nat_lt s k) (range_with_len 0 (length t.sites)))) home
      ∙ ap (λ c. length (filter (λ s. (home_of t s == node) && nat_lt s c) (range_with_len 0 (length t.sites)))) (let e : k ≡ 0 + k = omega arith in e)
      ∙ ap length (below_only (λ s. home_of t s == node) k 0 (length t.sites) (omega (arith, below))))

  label_so : (k : ℕ) → k < length t.sites → label_at_start t node k ≡ site_label_now t (first_labels t) (first_config t) node k
  label_so k below = elim (eqb_tells (home_of t k) node) [
    | inl p ↦ ap (λ b. if b then Some (16 + sites_before t node k) else None) p.0
        ∙ ap (λ n. let o : Option ℕ = Some n in o) (sym (label_is k below p.1))
        ∙ sym (ap (λ b. if b then option_map (first_labels t k) ((first_config t).attached k) else None) p.0)
    | inr p ↦ ap (λ b. if b then Some (16 + sites_before t node k) else None) p.0
        ∙ sym (ap (λ b. if b then option_map (first_labels t k) ((first_config t).attached k) else None) p.0)
  ]

  edge_is : edges.first_edge t node ≡ first_edge t node
  edge_is =
      ap (λ (vs : List VrfState). let e : Edge = record (edges.first_edge t node) { vrfs = vs } in e) (ap (λ (e : Edge). e.vrfs) (starts.edge_is t lawful node))
      ∙ ap (λ (ls : List (Option ℕ)). let e : Edge =
      record (edge_at_start t node) { vrfs = map (vrf_in t (first_config t)) (vrfs_at t node); labels = ls } in e)
      (map_below (label_at_start t node) (site_label_now t (first_labels t) (first_config t) node) (length t.sites) 0
      (λ s low below. label_so s (omega (arith, below))))
      ∙ ap (λ (hs : List (List Heard)). let e : Edge = record (first_edge t node) { heard = hs } in e)
      (same_all t.loopbacks (heard_in t (first_labels t) (all_live t (first_config t)) (as_peerings nothing_decided) node) [] 0
      (λ peer. nothing (peer == node) (peers_live (all_live t (first_config t)) node peer)))

pub edges_are : (t : Network) → IsLawful t → map (λ node. option_map working (edges.first_edge_or_none t node)) (nodes_of (wiring_of t))
    ≡ map (λ node. option_map working (first_edge_or_none t node)) (nodes_of (wiring_of t))
edges_are t lawful =
    map_below (λ node. option_map working (edges.first_edge_or_none t node)) (λ node. option_map working (first_edge_or_none t node)) (length t.loopbacks) 0
    (λ node low below. ap (λ (e : Edge). option_map working (if is_edge t.vrfs node then Some e else None)) (edge_is t lawful node))

-- 3. Statics

over : ℕ → AddressBlock → SiteRoute
over site prefix = record { site = site; prefix = prefix }

-- as many as the topology's prefixes
pub as_many : (k : ℕ) (sites : List SiteDef) → length (statics_from k sites) ≡ length (statics_of sites)
unfolding over
as_many k [] = refl
as_many k (site ∷ sites) =
    length-append (map (over k) site.prefixes) (statics_from (k + 1) sites)
    ∙ ap (λ n. n + length (statics_from (k + 1) sites)) (length-map site.prefixes (over k))
    ∙ ap (λ n. length site.prefixes + n) (as_many (k + 1) sites)
    ∙ ap (λ n. n + length (statics_of sites)) (sym (length-map site.prefixes (λ (prefix : AddressBlock). (site.vrf.0, prefix))))
    ∙ sym (length-append (in_vrf site.vrf.0 site.prefixes) (statics_of sites))

-- of the sites from a number on
pub of_next : (k : ℕ) (site : SiteDef) (sites : List SiteDef) (i : ℕ) → i < length sites → site ≡ slice_index_or sites i site →
    length (statics_from k (drop i sites)) ≡ length site.prefixes + length (statics_from (k + 1) (drop (i + 1) sites))
unfolding over
of_next k site sites i below is =
    ap (λ xs. length (statics_from k xs)) (drop-cons sites i site below)
    ∙ ap (λ (x : SiteDef). length (statics_from k (x ∷ drop (suc i) sites))) (sym is)
    ∙ length-append (map (over k) site.prefixes) (statics_from (k + 1) (drop (suc i) sites))
    ∙ ap (λ n. n + length (statics_from (k + 1) (drop (suc i) sites))) (length-map site.prefixes (over k))
    ∙ ap (λ j. length site.prefixes + length (statics_from (k + 1) (drop j sites))) (let e : suc i ≡ i + 1 = omega arith in e)

pub at_end : (k : ℕ) (sites : List SiteDef) (i : ℕ) → i ≡ length sites → length (statics_from k (drop i sites)) ≡ 0
at_end k sites i end = ap (λ xs. length (statics_from k xs)) (drop_all sites i end)

-- those counted with a site's own, and those of the sites behind it, make it all
pub counted_on : (t : Network) (sites : List SiteDef) (i count : ℕ) (site : SiteDef) (prefixes : List AddressBlock) → sites ≡ t.sites → i < length sites →
    site ≡ slice_index_or sites i site → prefixes ≡ site.prefixes → count + length (statics_from i (drop i t.sites)) ≡ length (first_config t).statics →
    count + length prefixes + length (statics_from (i + 1) (drop (i + 1) t.sites)) ≡ length (first_config t).statics
counted_on t sites i count site prefixes same below is its so =
    let next = of_next i site t.sites i (subst (λ xs. i < length xs) same below) (is ∙ ap (λ xs. slice_index_or xs i site) same) in
    let size = ap length its in
    omega (arith, next, size, so)

-- which are few
pub few_at_start : (t : Network) → IsLawful t → length (first_config t).statics ≤ most_static_routes
few_at_start t lawful = let many = as_many 0 t.sites in let few = lawful.sites.few_prefixes in omega (arith, many, few)
