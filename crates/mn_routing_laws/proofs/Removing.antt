-- A static goes: its VRF has it no longer, and nothing else changes.
use Rattle.std.proofs.Common.{ℕ, ◌≡◌, ◌≢◌, ◌⊎◌, inl, inr, Bool, true, false, cond, List, [], ◌∷◌, map, filter, length, refl, sym, ◌∙◌, ap}
use Rattle.std.specs.Prelude.{◌==◌, ◌&&◌, ◌||◌, not, nat_lt}
use Rattle.std.specs.List.{range_with_len}
use Rattle.std.proofs.lemmas.Bool.Decides.{eqb_tells}
use Rattle.mn_base.specs.declared.numbers.SiteNo.{SiteNo}
use Rattle.mn_wiring.specs.Wiring.{nodes_of}
use Rattle.mn_prefix.specs.Prefix.{AddressBlock, same_prefix}
use Rattle.mn_topo.specs.declared.sites.SiteDef.{SiteDef}
use Rattle.mn_topo.specs.Network.{Network, wiring_of}
use Rattle.mn_topo.specs.declared.steps.Step.TheVariants as step
use Rattle.mn_ledger.specs.Places.{vrf_of, vrfs_at, home_of}
use Rattle.mn_ledger.specs.World.{SiteRoute, Config, Peerings}
use Rattle.mn_ledger.specs.Bgp.{peerings_after}
use Rattle.mn_ledger.specs.Ledger.{config_after, is_static}
use Rattle.mn_ledger.proofs.Members.{In, in_filter, one_alike}
use Rattle.mn_ledger.proofs.Peers.{same_numbers, same_test, and_off}
use Rattle.mn_ledger.proofs.Statics.{SameStatic, HasStatics}
use Rattle.mn_base.specs.Ordered.{IsOrder, without_one}
use Rattle.mn_base.proofs.Orders.{by_number, by_number_then, first_same, first_neither}
use Rattle.mn_base.proofs.Places.{filter_twice, without_fold}
use Rattle.mn_prefix.specs.Prefix.{prefix_before}
use Rattle.mn_vrf.specs.Vrf.{Static, static_before, without_static}
use Rattle.mn_pe.specs.Edge.{on_vrf, after_vrf}
use Rattle.mn_bgp_spelling_laws.specs.Spelling.{Labels}
use Rattle.mn_routing_laws.specs.Standing.{static_of, statics_in, vrf_in, site_label_now, heard_in, edge_in, in_order}
use Rattle.mn_routing_laws.proofs.Hearing.{IsInTurn}
use Rattle.mn_routing_laws.proofs.Steps.{made, same_parts, still_heard, on_vrfs, off_vrfs}
use Rattle.mn_base.proofs.Bools.{no, less_itself as itself}
use Rattle.mn_pe.proofs.Offers.{neither_less as neither}

pub static_order : IsOrder static_before
static_order =
    by_number_then (λ (x : Static). x.prefix.address) (λ x y. nat_lt x.prefix.length y.prefix.length) (by_number (λ (x : Static). x.prefix.length))

-- 1. One place among statics is one prefix

pub same_place : (p : AddressBlock) → (prefix_before p p || prefix_before p p) ≡ false
same_place p = ap (λ b. b || b) (first_same p.address p.address (nat_lt p.length p.length) refl ∙ itself p.length)

pub two_prefixes : (p q : AddressBlock) → ((p ≡ q) × (same_prefix p q ≡ true)) ⊎ ((same_prefix p q ≡ false) × ((prefix_before p q || prefix_before q p) ≡ true))
two_prefixes p q = elim (eqb_tells p.address q.address) [
  | inl e ↦ elim (eqb_tells p.length q.length) [
    | inl f ↦ inl (
      ap (λ a. let r : AddressBlock = record { address = a; length = p.length } in r) e.1
          ∙ ap (λ n. let r : AddressBlock = record { address = q.address; length = n } in r) f.1,
      ap (λ b. b && (p.length == q.length)) e.0 ∙ f.0,
    )
    | inr f ↦ inr (ap (λ b. b && (p.length == q.length)) e.0 ∙ f.0, apart (λ g. f.1 g.1))
  ]
  | inr e ↦ inr (ap (λ b. b && (p.length == q.length)) e.0, apart (λ g. e.1 g.0))
]
  where
    apart : ((p.address ≡ q.address) × (p.length ≡ q.length) → ⊥) → (prefix_before p q || prefix_before q p) ≡ true
    apart d = go (prefix_before p q || prefix_before q p) refl
      where
        go : (b : Bool) → (prefix_before p q || prefix_before q p) ≡ b → (prefix_before p q || prefix_before q p) ≡ true
        go true e = e
        go false e = let n = first_neither p.address q.address (nat_lt p.length q.length) (nat_lt q.length p.length) e in
            absurd (d (n.0, neither p.length q.length n.1))

-- 2. The statics of a VRF

map_filter : {A B : Type 0} (f : A → B) (p : A → Bool) (q : B → Bool) (xs : List A) → ((x : A) → In xs x → p x ≡ q (f x)) →
    map f (filter p xs) ≡ filter q (map f xs)
map_filter f p q [] h = refl
map_filter f p q (x ∷ xs) h =
    ap (λ b. map f (cond b (x ∷ filter p xs) (filter p xs))) (h x (inl refl)) ∙ split (q (f x)) (map_filter f p q xs (λ y i. h y (inr i)))
  where
    split : (b : Bool) → map f (filter p xs) ≡ filter q (map f xs) →
        map f (cond b (x ∷ filter p xs) (filter p xs)) ≡ cond b (f x ∷ filter q (map f xs)) (filter q (map f xs))
    split true e = ap (λ ys. f x ∷ ys) e
    split false e = e

-- what passes the one passes the other
filter_wider : {A : Type 0} (p q : A → Bool) (xs : List A) → ((x : A) → p x ≡ true → q x ≡ true) → filter p (filter q xs) ≡ filter p xs
filter_wider p q [] h = refl
filter_wider p q (x ∷ xs) h = split (q x) (p x) refl refl (filter_wider p q xs h)
  where
    split : (b d : Bool) → q x ≡ b → p x ≡ d → filter p (filter q xs) ≡ filter p xs →
        filter p (cond b (x ∷ filter q xs) (filter q xs)) ≡ cond d (x ∷ filter p xs) (filter p xs)
    split true true e f g = ap (λ b. cond b (x ∷ filter p (filter q xs)) (filter p (filter q xs))) f ∙ ap (λ ys. x ∷ ys) g
    split true false e f g = ap (λ b. cond b (x ∷ filter p (filter q xs)) (filter p (filter q xs))) f ∙ g
    split false true e f g = absurd (no (sym e ∙ h x f))
    split false false e f g = g

module _ (t : Network) (c : Config) (s : SiteNo) (prefix : AddressBlock) where
  gone : SiteRoute
  gone = record { site = s.0; prefix = prefix }

  place : Static
  place = record { prefix = prefix; site = s.0 }

  stays : SiteRoute → Bool
  stays static = not (is_static s.0 prefix static)

  -- the static that goes is the one of its prefix in the VRF
  stays_is : HasStatics t c.statics → In c.statics gone → (u : ℕ) → u ≡ vrf_of t s.0 → (y : SiteRoute) →
      In (filter (λ static. vrf_of t static.site == u) c.statics) y → stays y ≡ (static_before (static_of y) place || static_before place (static_of y))
  unfolding gone stays place
  stays_is has there u e y i =
      let parts = in_filter (λ static. vrf_of t static.site == u) c.statics y i in
      elim (two_prefixes y.prefix prefix) [
        | inl p ↦
            let one : y ≡ gone = one_alike (SameStatic t) (λ _ _ r. (sym r.0, sym r.1)) c.statics y gone has.apart parts.0 there
            (same_numbers (vrf_of t y.site) u parts.1 ∙ e, p.0) in
            ap (λ b. not (b && same_prefix y.prefix prefix)) (ap (λ (z : SiteRoute). z.site == s.0) one ∙ same_test s.0) ∙ ap not p.1
            ∙ sym (ap (λ q. prefix_before q prefix || prefix_before prefix q) p.0 ∙ same_place prefix)
        | inr p ↦ ap (λ b. not ((y.site == s.0) && b)) p.0 ∙ ap not (and_off (y.site == s.0)) ∙ sym p.1
      ]

  statics_here : HasStatics t c.statics → In c.statics gone → (u : ℕ) → u ≡ vrf_of t s.0 →
      statics_in t (config_after c (step.DelRoute s prefix)) u ≡ without_one static_before place (statics_in t c u)
  unfolding stays
  statics_here has there u e =
      ap (λ xs. in_order (map static_of xs)) (filter_twice (λ static. vrf_of t static.site == u) stays c.statics)
      ∙ ap in_order (map_filter static_of stays (λ z. static_before z place || static_before place z) (filter (λ static. vrf_of t static.site == u) c.statics)
      (stays_is has there u e))
      ∙ sym (without_fold static_before static_order place [] (map static_of (filter (λ static. vrf_of t static.site == u) c.statics)) tt)

  statics_off : (u : ℕ) → u ≢ vrf_of t s.0 → statics_in t (config_after c (step.DelRoute s prefix)) u ≡ statics_in t c u
  unfolding stays
  statics_off u d = ap (λ xs. in_order (map static_of xs)) (filter_wider (λ static. vrf_of t static.site == u) stays c.statics other)
    where
      other : (x : SiteRoute) → (vrf_of t x.site == u) ≡ true → stays x ≡ true
      other x h = elim (eqb_tells x.site s.0) [
        | inl e ↦ absurd (d (sym (same_numbers (vrf_of t x.site) u h) ∙ ap (vrf_of t) e.1))
        | inr e ↦ ap (λ b. not (b && same_prefix x.prefix prefix)) e.0
      ]

  del_vrf : HasStatics t c.statics → In c.statics gone → (u : ℕ) →
      vrf_in t (config_after c (step.DelRoute s prefix)) u ≡ cond (u == vrf_of t s.0) (without_static place (vrf_in t c u)) (vrf_in t c u)
  del_vrf has there u = elim (eqb_tells u (vrf_of t s.0)) [
    | inl e ↦ ap (λ (xs : List Static). record (vrf_in t c u) { statics = xs }) (statics_here has there u e.1)
        ∙ sym (ap (λ b. cond b (without_static place (vrf_in t c u)) (vrf_in t c u)) e.0)
    | inr e ↦ ap (λ (xs : List Static). record (vrf_in t c u) { statics = xs }) (statics_off u e.1)
        ∙ sym (ap (λ b. cond b (without_static place (vrf_in t c u)) (vrf_in t c u)) e.0)
  ]

  pub del_here : (l : Labels) (p : Peerings) (edge : ℕ) → IsInTurn p → HasStatics t c.statics → In c.statics (record { site = s.0; prefix = prefix })
      → edge_in t l (config_after c (step.DelRoute s prefix)) (peerings_after t c (config_after c (step.DelRoute s prefix)) p (step.DelRoute s prefix)) edge
      ≡ after_vrf (edge_in t l c p edge) (vrf_of t s.0) (without_static (record { prefix = prefix; site = s.0 }))
  unfolding peerings_after made gone place
  del_here l p edge turn has there =
      let new : Config = config_after c (step.DelRoute s prefix) in
      same_parts (map (λ (def : SiteDef). def.vrf) t.sites) (map (vrf_in t new) (vrfs_at t edge))
      (on_vrf (vrf_of t s.0) (without_static place) (map (vrf_in t c) (vrfs_at t edge)))
      (map (site_label_now t l new edge) (range_with_len 0 (length t.sites)))
      (map (site_label_now t l c edge) (range_with_len 0 (length t.sites))) t.loopbacks _
      (map (heard_in t l c p edge) (nodes_of (wiring_of t)))
      (on_vrfs t c new (vrf_of t s.0) (without_static place) (vrfs_at t edge) (del_vrf has there)) refl
      (still_heard t l c new p (step.DelRoute s prefix) edge refl refl turn)

  pub del_off : (l : Labels) (p : Peerings) (edge : ℕ) → edge ≢ home_of t s.0 → IsInTurn p → HasStatics t c.statics →
      In c.statics (record { site = s.0; prefix = prefix })
      → edge_in t l (config_after c (step.DelRoute s prefix))
      (peerings_after t c (config_after c (step.DelRoute s prefix)) p (step.DelRoute s prefix)) edge ≡ edge_in t l c p edge
  unfolding peerings_after made gone place
  del_off l p edge d turn has there =
      let new : Config = config_after c (step.DelRoute s prefix) in
      same_parts (map (λ (def : SiteDef). def.vrf) t.sites) (map (vrf_in t new) (vrfs_at t edge)) (map (vrf_in t c) (vrfs_at t edge))
      (map (site_label_now t l new edge) (range_with_len 0 (length t.sites)))
      (map (site_label_now t l c edge) (range_with_len 0 (length t.sites))) t.loopbacks _
      (map (heard_in t l c p edge) (nodes_of (wiring_of t)))
      (off_vrfs t c new (vrf_of t s.0) edge (without_static place) d (del_vrf has there)) refl
      (still_heard t l c new p (step.DelRoute s prefix) edge refl refl turn)
