-- What an edge exports is what the ledger says, one for one and in the same order.
use Rattle.std.proofs.Common.{ℕ, ◌≡◌, ◌<◌, inl, inr, Bool, true, false, List, [], ◌∷◌, ◌++◌, map, filter, length, refl, sym, ◌∙◌, ap, subst}
use Rattle.std.proofs.lemmas.List.{map-append}
use Rattle.std.specs.Prelude.{◌==◌, ◌||◌, nat_lt, if◌then◌else◌}
use Rattle.std.specs.List.{flat_map, range_with_len, AllByRecursion}
use Rattle.mn_topo.specs.Network.{Network}
use Rattle.mn_ledger.specs.Places.{vrf_of, edge_of, vrfs_at}
use Rattle.mn_ledger.specs.World.{SiteRoute, Config, Export, Peerings}
use Rattle.mn_ledger.specs.Exports.{comes_before, placed, is_present, export_of}
use Rattle.mn_ledger.specs.Exports as ledger_exports
use Rattle.mn_ledger.proofs.Members.{In, in_filter, in_map, AreApart, apart_filter}
use Rattle.mn_ledger.proofs.Peers.{same_numbers, and_left}
use Rattle.mn_ledger.proofs.Statics.{SameStatic, HasStatics}
use Rattle.mn_base.specs.Ordered.{Ascends, IsOrder}
use Rattle.mn_base.proofs.Orders.{by_number, by_number_then}
use Rattle.mn_base.proofs.Places.{all_turned, fold_ascends}
use Rattle.mn_vrf.specs.Vrf.{static_before}
use Rattle.mn_pe.specs.Held.{Exported}
use Rattle.mn_pe.specs.Held as held
use Rattle.mn_pe.proofs.Present.{export_before, present_ascends}
use Rattle.mn_bgp_spelling_laws.specs.Spelling.{Labels, as_targets}
use Rattle.mn_routing_laws.specs.Standing.{static_of, statics_in, vrf_in, edge_in}
use Rattle.mn_base.proofs.Kept.{ascending_unique}
use Rattle.mn_routing_laws.proofs.Removing.{two_prefixes, static_order}
use Rattle.mn_routing_laws.proofs.Present.{exported, present_there, present_only}
use Rattle.mn_base.proofs.Bools.{no}
use Rattle.mn_base.proofs.Members.{map_in as mapped}

or_other : (a b : Bool) → a ≡ false → (a || b) ≡ true → b ≡ true
or_other true b h g = absurd (no (sym h))
or_other false b h g = g

-- by prefix
export_order : IsOrder export_before
export_order = by_number_then (λ (x : Exported). x.prefix.address) (λ x y. nat_lt x.prefix.length y.prefix.length)
    (by_number (λ (x : Exported). x.prefix.length))

-- 1. The ledger's order

abbrev told_before : Export → Export → Bool
told_before x y = comes_before x.prefix y.prefix

told_order : IsOrder told_before
told_order = by_number_then (λ (x : Export). x.prefix.address) (λ x y. nat_lt x.prefix.length y.prefix.length) (by_number (λ (x : Export). x.prefix.length))

all_placed : (P : Export → Type 0) (x : Export) (ys : List Export) → P x → AllByRecursion P ys → AllByRecursion P (placed x ys)
all_placed P x [] h g = (h, tt)
all_placed P x (y ∷ ys) h g = split (comes_before x.prefix y.prefix) (all_placed P x ys h g.1)
  where
    split : (b : Bool) → AllByRecursion P (placed x ys) → AllByRecursion P (if b then x ∷ y ∷ ys else y ∷ placed x ys)
    split true more = (h, g)
    split false more = (g.0, more)

placed_ascends : (x : Export) (ys : List Export) → Ascends told_before ys → AllByRecursion (λ y. (told_before x y || told_before y x) ≡ true) ys →
    Ascends told_before (placed x ys)
placed_ascends x [] up apart = (tt, tt)
placed_ascends x (y ∷ ys) up apart = split (comes_before x.prefix y.prefix) refl (placed_ascends x ys up.1 apart.1)
  where
    split : (b : Bool) → comes_before x.prefix y.prefix ≡ b → Ascends told_before (placed x ys) →
        Ascends told_before (if b then x ∷ y ∷ ys else y ∷ placed x ys)
    split true e more = ((e, all_turned (λ z. told_before y z ≡ true) (λ z. told_before x z ≡ true) (λ z h. told_order.onward x y z e h) ys up.0), up)
    split false e more = (all_placed (λ z. told_before y z ≡ true) x ys (or_other (told_before x y) (told_before y x) e apart.0) up.0, more)

all_ordered : (P : Export → Type 0) (xs : List Export) → AllByRecursion P xs → AllByRecursion P (ledger_exports.in_order xs)
all_ordered P [] h = tt
all_ordered P (x ∷ xs) h = all_placed P x (ledger_exports.in_order xs) h.0 (all_ordered P xs h.1)

-- no two have one prefix
abbrev OtherPrefixes : List Export → Type 0
OtherPrefixes [] = Unit {0}
OtherPrefixes (x ∷ xs) = AllByRecursion (λ y. (told_before x y || told_before y x) ≡ true) xs × OtherPrefixes xs

ordered_ascends : (xs : List Export) → OtherPrefixes xs → Ascends told_before (ledger_exports.in_order xs)
ordered_ascends [] h = tt
ordered_ascends (x ∷ xs) h =
    placed_ascends x (ledger_exports.in_order xs) (ordered_ascends xs h.1) (all_ordered (λ y. (told_before x y || told_before y x) ≡ true) xs h.0)

all_of : {A B : Type 0} (P : B → Type 0) (f : A → B) (xs : List A) → ((x : A) → In xs x → P (f x)) → AllByRecursion P (map f xs)
all_of P f [] h = tt
all_of P f (x ∷ xs) h = (h x (inl refl), all_of P f xs (λ y i. h y (inr i)))

other_prefixes : (t : Network) (c : Config) (u : ℕ) (ts : List ℕ) (xs : List SiteRoute) → AreApart (SameStatic t) xs →
    ((x : SiteRoute) → In xs x → vrf_of t x.site ≡ u) → OtherPrefixes (map (export_of c u ts) xs)
other_prefixes t c u ts [] h g = tt
other_prefixes t c u ts (x ∷ xs) h g = (
  all_of (λ y. (told_before (export_of c u ts x) y || told_before y (export_of c u ts x)) ≡ true) (export_of c u ts) xs
      (λ y i. elim (two_prefixes x.prefix y.prefix) [
        | inl q ↦ absurd (h.0 y i (g x (inl refl) ∙ sym (g y (inr i)), q.0))
        | inr q ↦ q.1
      ]),
  other_prefixes t c u ts xs h.1 (λ y i. g y (inr i)),
)

map_into : {A B : Type 0} (P : A → Type 0) (Q : B → Type 0) (f : A → B) (xs : List A) → ((x : A) → P x → Q (f x)) → AllByRecursion P xs →
    AllByRecursion Q (map f xs)
map_into P Q f [] g h = tt
map_into P Q f (x ∷ xs) g h = (g x h.0, map_into P Q f xs g h.1)

map_ascends : (f : Export → Exported) (xs : List Export) → ((x y : Export) → export_before (f x) (f y) ≡ told_before x y) → Ascends told_before xs →
    Ascends export_before (map f xs)
map_ascends f [] same up = tt
map_ascends f (x ∷ xs) same up = (
  map_into (λ y. told_before x y ≡ true) (λ z. export_before (f x) z ≡ true) f xs
      (λ y h. same x y ∙ h) up.0,
  map_ascends f xs same up.1,
)

-- 2. The same lists

flat_map_map : {A B C : Type 0} (f : A → B) (g : B → List C) (xs : List A) → flat_map g (map f xs) ≡ flat_map (λ x. g (f x)) xs
flat_map_map f g [] = refl
flat_map_map f g (x ∷ xs) = ap (λ ys. g (f x) ++ ys) (flat_map_map f g xs)

map_flat_map : {A B C : Type 0} (f : B → C) (g : A → List B) (h : A → List C) (xs : List A) → ((x : A) → In xs x → map f (g x) ≡ h x) →
    map f (flat_map g xs) ≡ flat_map h xs
map_flat_map f g h [] e = refl
map_flat_map f g h (x ∷ xs) e = map-append f (g x) (flat_map g xs) ∙ ap (λ ys. ys ++ map f (flat_map g xs)) (e x (inl refl))
    ∙ ap (λ ys. h x ++ ys) (map_flat_map f g h xs (λ y i. e y (inr i)))

module _ (t : Network) (l : Labels) (c : Config) (p : Peerings) (e : ℕ) (has : HasStatics t c.statics)
    (sited : (x : SiteRoute) → In c.statics x → x.site < length t.sites) where
  present_same : (u : ℕ) (ts : List ℕ) → edge_of t u ≡ e → map (exported t l) (ledger_exports.present_with t c u ts) ≡ held.present_with (edge_in t l c p e)
      (vrf_in t c u) (as_targets ts)
  present_same u ts at =
      ascending_unique export_before export_order (map (exported t l) (ledger_exports.present_with t c u ts))
      (held.present_with (edge_in t l c p e) (vrf_in t c u) (as_targets ts))
      (map_ascends (exported t l) (ledger_exports.present_with t c u ts) (λ x y. refl)
      (ordered_ascends (map (export_of c u ts) (filter (is_present t c u) c.statics))
      (other_prefixes t c u ts (filter (is_present t c u) c.statics) (apart_filter (SameStatic t) (is_present t c u) c.statics has.apart)
      (λ x i. same_numbers (vrf_of t x.site) u (and_left _ _ (in_filter (is_present t c u) c.statics x i).1)))))
      (present_ascends (edge_in t l c p e) (vrf_in t c u) (as_targets ts) (statics_in t c u)
      (fold_ascends static_before [] (map static_of (filter (λ static. vrf_of t static.site == u) c.statics)) static_order tt))
      (λ z i. let m = in_map (exported t l) (ledger_exports.present_with t c u ts) z i in
      subst (In (held.present_with (edge_in t l c p e) (vrf_in t c u) (as_targets ts))) m.2 (present_there t l c p e has sited u ts m.0 at m.1))
      (λ z i. let o = present_only t l c p e has sited u ts z at i in
      subst (In (map (exported t l) (ledger_exports.present_with t c u ts))) o.2 (mapped (exported t l) (ledger_exports.present_with t c u ts) o.0 o.1))

  vrf_same : (u : ℕ) (ts : List ℕ) → edge_of t u ≡ e →
      map (exported t l) (ledger_exports.exports_with t c u ts) ≡ held.exports_with (edge_in t l c p e) (vrf_in t c u)
      (as_targets ts)
  vrf_same u [] at = refl
  vrf_same u (target ∷ ts) at = present_same u (target ∷ ts) at

  pub exports_same : map (exported t l) (ledger_exports.exports_of t c e) ≡ held.exports_of (edge_in t l c p e)
  exports_same =
      map_flat_map (exported t l) (λ v. ledger_exports.exports_with t c v (c.exports v))
      (λ v. held.exports_with (edge_in t l c p e) (vrf_in t c v) (as_targets (c.exports v))) (vrfs_at t e)
      (λ u i. vrf_same u (c.exports u) (same_numbers (edge_of t u) e (in_filter (λ v. edge_of t v == e) (range_with_len 0 (length t.vrfs)) u i).1))
      ∙ sym (flat_map_map (vrf_in t c) (λ vrf. held.exports_with (edge_in t l c p e) vrf vrf.exports) (vrfs_at t e))
