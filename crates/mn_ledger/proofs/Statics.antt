-- After every lawful journal no two statics of one VRF have one prefix, and each prefix is of its form.
use Rattle.std.proofs.Common.{ℕ, suc, ◌≡◌, ◌+◌, ◌<◌, inl, inr, Bool, true, false, cond, List, [], ◌∷◌, ◌++◌, map, length, refl, arith, sym, ◌∙◌, ap}
use Rattle.std.proofs.Common.{subst, Option, Some, None}
use Rattle.std.proofs.lemmas.List.{get_or_default, map-append}
use Rattle.std.specs.Prelude.{◌==◌, ◌&&◌, not, slice_index_or}
use Rattle.std.specs.List.{IsDistinct, AllByRecursion, list_all}
use Rattle.mn_base.proofs.Bools.{clash, and_parts}
use Rattle.mn_topo.specs.Prefix.{AddressBlock, IsPrefix, same_prefix}
use Rattle.mn_topo.specs.declared.sites.SiteDef.{SiteDef}
use Rattle.mn_topo.specs.declared.steps.Step.{Step}
use Rattle.mn_topo.specs.declared.steps.Step.TheVariants.{AddRoute, DelRoute}
use Rattle.mn_topo.specs.SiteTable.{Static, in_vrf, statics_of, is_lawful_prefix}
use Rattle.mn_topo.specs.Steps.{has_site, fits}
use Rattle.mn_topo.proofs.Prefixes.{prefix_is}
use Rattle.mn_topo.specs.Lawful.{IsLawful, same_static}
use Rattle.mn_topo.specs.Network.{Network}
use Rattle.mn_ledger.specs.Places.{site_at, vrf_of}
use Rattle.mn_ledger.specs.World.{SiteRoute, World}
use Rattle.mn_ledger.specs.Packets.{Packets}
use Rattle.mn_ledger.specs.Ledger.{statics_from, is_static, config_after, start}
use Rattle.mn_ledger.specs.Refusal.{taken_by, prefix_refusal, refusal_at}
use Rattle.mn_ledger.proofs.Peers.{same_test}
use Rattle.mn_ledger.proofs.Refusals.{free}
use Rattle.mn_ledger.proofs.Members.{In, in_append, in_filter, AreApart, apart_filter, apart_push}

-- 1. Statics

abbrev pub SameStatic : Network → SiteRoute → SiteRoute → Type 0
SameStatic t x y = (vrf_of t x.site ≡ vrf_of t y.site) × (x.prefix ≡ y.prefix)

-- no two are of one VRF and prefix
pub record HasStatics (t : Network) (statics : List SiteRoute) : Type 0 where
  pub apart : AreApart (SameStatic t) statics

-- their prefixes have no bit set past their length
pub record HasForms (statics : List SiteRoute) : Type 0 where
  pub formed : (x : SiteRoute) → In statics x → IsPrefix x.prefix.address x.prefix.length

same_to_itself : (p : AddressBlock) → same_prefix p p ≡ true
same_to_itself p = ap (λ b. b && (p.length == p.length)) (same_test p.address) ∙ same_test p.length

-- 2. At the start

keyed : Network → SiteRoute → Static
keyed t x = (vrf_of t x.site, x.prefix)

every_in : {A B : Type 0} (P : B → Type 0) (f : A → B) (xs : List A) (y : A) → AllByRecursion P (map f xs) → In xs y → P (f y)
every_in P f [] y h i = absurd i
every_in P f (x ∷ xs) y h i = elim i [ inl e ↦ subst (λ z. P (f z)) e h.0 | inr j ↦ every_in P f xs y h.1 j ]

alike_same : (t : Network) (x y : SiteRoute) → SameStatic t x y → same_static (keyed t x) (keyed t y) ≡ true
unfolding keyed
alike_same t x y a =
    ap (λ v. (vrf_of t x.site == v) && same_prefix x.prefix y.prefix) (sym a.0)
    ∙ ap (λ p. (vrf_of t x.site == vrf_of t x.site) && same_prefix x.prefix p) (sym a.1)
    ∙ ap (λ b. b && same_prefix x.prefix x.prefix) (same_test (vrf_of t x.site)) ∙ same_to_itself x.prefix

distinct_apart : (t : Network) (xs : List SiteRoute) → IsDistinct same_static (map (keyed t) xs) → AreApart (SameStatic t) xs
unfolding IsDistinct
distinct_apart t [] h = tt
distinct_apart t (x ∷ xs) h = (
  λ y i a. clash (sym (alike_same t x y a) ∙ every_in (λ z. same_static (keyed t x) z ≡ false) (keyed t) xs y h.0 i),
  distinct_apart t xs h.1,
)

-- the sites from this number on are those of the topology
AreFrom : Network → ℕ → List SiteDef → Type 0
AreFrom t k sites = (i : ℕ) (d : SiteDef) → i < length sites → slice_index_or sites i d ≡ site_at t (k + i)

of_site : (t : Network) (k : ℕ) (v : ℕ) (prefixes : List AddressBlock) → vrf_of t k ≡ v →
    map (keyed t) (map (λ prefix. record { site = k; prefix = prefix }) prefixes) ≡ in_vrf v prefixes
unfolding keyed
of_site t k v [] e = refl
of_site t k v (p ∷ prefixes) e =
    ap (λ w. (w, p) ∷ map (keyed t) (map (λ prefix. record { site = k; prefix = prefix }) prefixes)) e ∙ ap (λ xs. (v, p) ∷ xs) (of_site t k v prefixes e)

keyed_statics : (t : Network) (k : ℕ) (sites : List SiteDef) → AreFrom t k sites → map (keyed t) (statics_from k sites) ≡ statics_of sites
unfolding AreFrom
keyed_statics t k [] h = refl
keyed_statics t k (site ∷ sites) h =
    map-append (keyed t) (map (λ prefix. record { site = k; prefix = prefix }) site.prefixes) (statics_from (k + 1) sites)
    ∙ ap (λ xs. xs ++ map (keyed t) (statics_from (k + 1) sites))
    (of_site t k site.vrf.0 site.prefixes (ap (λ (s : SiteDef). s.vrf.0) (ap (site_at t) plus ∙ sym (h 0 site (omega arith)))))
    ∙ ap (λ xs. in_vrf site.vrf.0 site.prefixes ++ xs)
    (keyed_statics t (k + 1) sites (λ i d below. h (suc i) d (omega (arith, below)) ∙ ap (site_at t) (next i)))
  where
    plus : k ≡ k + 0
    plus = omega arith

    next : (i : ℕ) → k + suc i ≡ k + 1 + i
    next i = omega arith

all_keyed : (t : Network) → map (keyed t) (statics_from 0 t.sites) ≡ statics_of t.sites
unfolding AreFrom
all_keyed t = keyed_statics t 0 t.sites (λ i d below. get_or_default t.sites i d _ below ∙ ap (site_at t) (from_none i))
  where
    from_none : (i : ℕ) → i ≡ 0 + i
    from_none i = omega arith

pub first_statics : (t : Network) → IsLawful t → HasStatics t (start t).config.statics
first_statics t lawful = record { apart = distinct_apart t (statics_from 0 t.sites) (subst (IsDistinct same_static) (sym (all_keyed t)) lawful.sites.distinct) }

passes : (t : Network) (xs : List SiteRoute) → list_all (λ (static : Static). is_lawful_prefix static.1) (map (keyed t) xs) ≡ true →
    (x : SiteRoute) → In xs x → is_lawful_prefix x.prefix ≡ true
unfolding keyed
passes t [] h x i = absurd i
passes t (y ∷ ys) h x i =
    let q = and_parts (is_lawful_prefix y.prefix) (list_all (λ (static : Static). is_lawful_prefix static.1) (map (keyed t) ys)) h in
    elim i [ inl e ↦ subst (λ (z : SiteRoute). is_lawful_prefix z.prefix ≡ true) e q.0 | inr j ↦ passes t ys q.1 x j ]

pub first_forms : (t : Network) → IsLawful t → HasForms (start t).config.statics
first_forms t lawful = record {
  formed = λ x i. prefix_is x.prefix
      (passes t (statics_from 0 t.sites)
      (subst (λ xs. list_all (λ (static : Static). is_lawful_prefix static.1) xs ≡ true) (sym (all_keyed t)) lawful.sites.formed) x i);
}

-- 3. A step

pub not_taken : (o : Option ℕ) (count : ℕ) → prefix_refusal o count ≡ None → o ≡ None
not_taken None count h = refl
not_taken (Some s) count h = cc

pub none_taken : (t : Network) (v : ℕ) (p : AddressBlock) (xs : List SiteRoute) → taken_by t v p xs ≡ None →
    (x : SiteRoute) → In xs x → vrf_of t x.site ≡ v → x.prefix ≡ p → ⊥
none_taken t v p [] h x i e f = absurd i
none_taken t v p (y ∷ ys) h x i e f = split ((vrf_of t y.site == v) && same_prefix y.prefix p) refl (λ g j. none_taken t v p ys g x j e f) h
  where
    some : Some y.site ≡ None → ⊥
    some q = cc

    split : (b : Bool) → ((vrf_of t y.site == v) && same_prefix y.prefix p) ≡ b →
        (taken_by t v p ys ≡ None → In ys x → ⊥) → cond b (Some y.site) (taken_by t v p ys) ≡ None → ⊥
    split true q more g = some g
    split false q more g = elim i [
      | inl r ↦
          clash (sym (ap (λ w. (w == v) && same_prefix y.prefix p) (ap (λ (z : SiteRoute). vrf_of t z.site) r ∙ e)
          ∙ ap (λ z. (v == v) && same_prefix z p) (ap (λ (z : SiteRoute). z.prefix) r ∙ f) ∙ ap (λ c. c && same_prefix p p) (same_test v)
          ∙ same_to_itself p) ∙ q)
      | inr j ↦ more g j
    ]

pub statics_go : (t : Network) (w : World) (k : Packets) (i : ℕ) (s : Step) (b : List ℕ) → refusal_at t w k i s b ≡ None → HasStatics t w.config.statics →
    HasStatics t (config_after w.config s).statics
statics_go t w k i (AddRoute s p) b none h = record {
  apart = apart_push (SameStatic t) w.config.statics (record { site = s.0; prefix = p }) h.apart
      (λ x j a. none_taken t (vrf_of t s.0) p w.config.statics
      (not_taken (taken_by t (vrf_of t s.0) p w.config.statics) (length w.config.statics) (free t w k i (AddRoute s p) b none).statics) x j a.0 a.1);
}
statics_go t w k i (DelRoute s p) b none h = record {
  apart = apart_filter (SameStatic t) (λ static. not (is_static s.0 p static)) w.config.statics h.apart;
}
statics_go t w k i _ b none h = h

pub forms_go : (t : Network) (w : World) (s : Step) → fits t s ≡ true → HasForms w.config.statics → HasForms (config_after w.config s).statics
forms_go t w (AddRoute s p) fit h = record {
  formed = λ x j. elim (in_append w.config.statics (record { site = s.0; prefix = p } ∷ []) x j) [
    | inl l ↦ h.formed x l
    | inr l ↦ elim l [
      | inl e ↦ subst (λ (z : SiteRoute). IsPrefix z.prefix.address z.prefix.length) e
          (prefix_is p (and_parts (has_site t s) (is_lawful_prefix p) fit).1)
      | inr n ↦ absurd n
    ]
  ];
}
forms_go t w (DelRoute s p) fit h = record {
  formed = λ x j. h.formed x (in_filter (λ static. not (is_static s.0 p static)) w.config.statics x j).0;
}
forms_go t w _ fit h = h
