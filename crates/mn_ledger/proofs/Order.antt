-- Lists in their order, and each thing in them once: statics, exports and held routes.
use Rattle.std.proofs.Common.{ℕ, zero, suc, ◌≡◌, ◌≢◌, ◌+◌, ◌<◌, ◌≤◌, ◌⊎◌, inl, inr, Bool, true, false, cond, List, [], ◌∷◌, ◌++◌, map, filter, length, refl}
use Rattle.std.proofs.Common.{arith, sym, ◌∙◌, ap, subst}
use Rattle.std.specs.Prelude.{◌==◌, ◌&&◌, ◌||◌, not, nat_lt, slice_index_or, if◌then◌else◌, ⊤}
use Rattle.std.specs.List.{AllPairs, flat_map, range_with_len}
use Rattle.std.proofs.lemmas.Bool.Decides.{eqb_tells, leb_tells}
use Rattle.mn_base.proofs.Bools.{less_is, no, not_less, test_same}
use Rattle.mn_topo.specs.Prefix.{AddressBlock}
use Rattle.mn_topo.specs.Network.{Network}
use Rattle.mn_topo.specs.Lawful.{IsLawful}
use Rattle.mn_topo.specs.declared.steps.JournalEntry.{JournalEntry}
use Rattle.mn_topo.specs.VrfTable.{is_edge}
use Rattle.mn_ledger.specs.Places.{loopback, vrf_at, edge_of, vrfs_at, edges}
use Rattle.mn_ledger.specs.World.{SiteRoute, Config, Export, Peerings}
use Rattle.mn_ledger.specs.Exports.{comes_before, placed, in_order, is_present, export_of, present_with, exports_with, exports_of}
use Rattle.mn_ledger.specs.Held.{HeldRoute, Own, Near, Far}
use Rattle.mn_ledger.specs.Exports.{meet}
use Rattle.mn_ledger.specs.Held.{held_by, own_routes, imported, near_routes, believed, far_routes, held}
use Rattle.mn_ledger.specs.Ledger.{world_of}
use Rattle.mn_ledger.specs.Lawful.{IsLawfulJournal}
use Rattle.mn_ledger.specs.Tidy.{ComesBefore, DifferInVrf, DifferBySource, IsTidy}
use Rattle.mn_ledger.proofs.Choice.{Keeps, keeps}
use Rattle.mn_ledger.proofs.Tidy.{Rise, RiseAll, sets_rise}
use Rattle.mn_ledger.proofs.Turning.{Apart, loopbacks_apart}
use Rattle.mn_ledger.proofs.Members.{In, in_append, in_map, in_filter, in_flat_map, in_range, AreApart, apart_filter}
use Rattle.mn_ledger.proofs.Statics.{SameStatic, HasStatics}
use Rattle.mn_ledger.proofs.Tellings.{Behind, in_placed, in_in_order, exported, AllGood}
use Rattle.mn_ledger.proofs.Held.{SameRoute, believed_is_apart, good_believed, one_edge, one_vrf, present_vrf, source_kind, near_vrf, far_address, far_rd}
use Rattle.mn_ledger.proofs.Held.{from_own, from_near, from_far, own_kind, near_kind, far_kind}

-- 1. Each element and all after it

abbrev pub EachBefore : {A : Type 0} → (A → A → Type 0) → List A → Type 0
EachBefore before [] = ⊤
EachBefore before (x ∷ xs) = ((y : _) → In xs y → before x y) × EachBefore before xs

in_place : {A : Type 0} (xs : List A) (i : ℕ) (d : A) → i < length xs → In xs (slice_index_or xs i d)
in_place [] i d h = absurd (none h)
  where
    none : i < 0 → ⊥
    none h = omega (arith, h)
in_place (x ∷ xs) zero d h = inl refl
in_place (x ∷ xs) (suc i) d h = inr (in_place xs i d (omega (arith, h)))

pub pairs : {A : Type 0} (before : A → A → Type 0) (xs : List A) → EachBefore before xs → AllPairs before xs
pairs before [] h i j d low high = absurd (none high)
  where
    none : j < 0 → ⊥
    none h = omega (arith, h)
pairs before (x ∷ xs) h i zero d low high = absurd (none low)
  where
    none : i < 0 → ⊥
    none h = omega (arith, h)
pairs before (x ∷ xs) h zero (suc j) d low high = h.0 (slice_index_or xs j d) (in_place xs j d (omega (arith, high)))
pairs before (x ∷ xs) h (suc i) (suc j) d low high = pairs before xs h.1 i j d (omega (arith, low)) (omega (arith, high))

pub each_filter : {A : Type 0} (before : A → A → Type 0) (p : A → Bool) (xs : List A) → EachBefore before xs → EachBefore before (filter p xs)
each_filter before p [] h = tt
each_filter before p (x ∷ xs) h =
    let rest = each_filter before p xs h.1 in
    elim (p x) as (λ b. EachBefore before (cond b (x ∷ filter p xs) (filter p xs))) [ true ↦ (λ y i. h.0 y (in_filter p xs y i).0, rest) | false ↦ rest ]

pub each_map : {A B : Type 0} (before : A → A → Type 0) (later : B → B → Type 0) (f : A → B) (xs : List A) →
    ((x y : A) → In xs x → In xs y → before x y → later (f x) (f y)) → EachBefore before xs → EachBefore later (map f xs)
each_map before later f [] go h = tt
each_map before later f (x ∷ xs) go h = (
  λ y i. let m = in_map f xs y i in subst (later (f x)) m.2 (go x m.0 (inl refl) (inr m.1) (h.0 m.0 m.1)),
  each_map before later f xs (λ a b i j. go a b (inr i) (inr j)) h.1,
)

pub each_append : {A : Type 0} (before : A → A → Type 0) (xs ys : List A) → EachBefore before xs → EachBefore before ys →
    ((x y : A) → In xs x → In ys y → before x y) → EachBefore before (xs ++ ys)
each_append before [] ys h g go = g
each_append before (x ∷ xs) ys h g go = (
  λ y i. elim (in_append xs ys y i) [ inl j ↦ h.0 y j | inr j ↦ go x y (inl refl) j ],
  each_append before xs ys h.1 g (λ a b i j. go a b (inr i) j),
)

pub each_flat_map : {A B : Type 0} (before : A → A → Type 0) (later : B → B → Type 0) (f : A → List B) (xs : List A) → EachBefore before xs →
    ((x : A) → In xs x → EachBefore later (f x))
    → ((x y : A) (u v : B) → In xs x → In xs y → before x y → In (f x) u → In (f y) v → later u v) → EachBefore later (flat_map f xs)
each_flat_map before later f [] h each go = tt
each_flat_map before later f (x ∷ xs) h each go =
    each_append later (f x) (flat_map f xs) (each x (inl refl))
    (each_flat_map before later f xs h.1 (λ y i. each y (inr i)) (λ a b u v i j. go a b u v (inr i) (inr j)))
    (λ u v i j. let m = in_flat_map f xs v j in go x m.0 u v (inl refl) (inr m.1) (h.0 m.0 m.1) i m.2)

pub each_more : {A : Type 0} (before later : A → A → Type 0) (xs : List A) →
    ((x y : A) → In xs x → In xs y → before x y → later x y) → EachBefore before xs → EachBefore later xs
each_more before later [] go h = tt
each_more before later (x ∷ xs) go h = (λ y i. go x y (inl refl) (inr i) (h.0 y i), each_more before later xs (λ a b i j. go a b (inr i) (inr j)) h.1)

each_apart : {A : Type 0} (alike : A → A → Type 0) (xs : List A) → AreApart alike xs → EachBefore (λ x y. alike x y → ⊥) xs
each_apart alike [] h = tt
each_apart alike (x ∷ xs) h = (h.0, each_apart alike xs h.1)

each_range : (a n : ℕ) → EachBefore (λ (x y : ℕ). x < y) (range_with_len a n)
each_range a zero = tt
each_range a (suc n) = (λ y i. above (in_range (a + 1) n y i).0, each_range (a + 1) n)
  where
    above : {y : ℕ} → a + 1 ≤ y → a < y
    above h = omega (arith, h)

-- 2. Prefixes in order

before_tells : (p q : AddressBlock) → comes_before p q ≡ true → (p.address < q.address) ⊎ ((p.address ≡ q.address) × (p.length < q.length))
before_tells p q h = elim (leb_tells (suc p.address) q.address) [
  | inl a ↦ inl a.1
  | inr a ↦ elim (eqb_tells p.address q.address) [
    | inr e ↦ absurd (no (sym (ap (λ b. b || ((p.address == q.address) && nat_lt p.length q.length)) a.0 ∙ ap (λ b. b && nat_lt p.length q.length) e.0) ∙ h))
    | inl e ↦ elim (leb_tells (suc p.length) q.length) [
      | inl l ↦ inr (e.1, l.1)
      | inr l ↦ absurd
          (no (sym (ap (λ b. b || ((p.address == q.address) && nat_lt p.length q.length)) a.0 ∙ ap (λ b. b && nat_lt p.length q.length) e.0 ∙ l.0) ∙ h))
    ]
  ]
]

lesser_before : (p q : AddressBlock) → p.address < q.address → comes_before p q ≡ true
lesser_before p q h = ap (λ b. b || ((p.address == q.address) && nat_lt p.length q.length)) (less_is p.address q.address h)

shorter_before : (p q : AddressBlock) → p.address ≡ q.address → p.length < q.length → comes_before p q ≡ true
shorter_before p q e h =
    ap (λ b. b || ((p.address == q.address) && nat_lt p.length q.length)) (not_less p.address q.address (at_most e))
    ∙ ap (λ b. b && nat_lt p.length q.length) (test_same p.address q.address e) ∙ less_is p.length q.length h
  where
    at_most : {m n : ℕ} → m ≡ n → n ≤ m
    at_most e = omega (arith, e)

before_follows : (p q r : AddressBlock) → comes_before p q ≡ true → comes_before q r ≡ true → comes_before p r ≡ true
before_follows p q r h g = elim (before_tells p q h) [
  | inl a ↦ elim (before_tells q r g) [ inl b ↦ lesser_before p r (omega (arith, a, b)) | inr b ↦ lesser_before p r (omega (arith, a, b.0)) ]
  | inr a ↦ elim (before_tells q r g) [ inl b ↦ lesser_before p r (omega (arith, a.0, b)) | inr b ↦ shorter_before p r (a.0 ∙ b.0) (omega (arith, a.1, b.1)) ]
]

not_itself : (p q : AddressBlock) → comes_before p q ≡ true → p ≢ q
not_itself p q h e =
    elim (before_tells p q h) [
      | inl a ↦ less_same a (ap (λ (r : AddressBlock). r.address) e)
      | inr a ↦ less_same a.1
          (ap (λ (r : AddressBlock). r.length) e)
    ]
  where
    less_same : {m n : ℕ} → m < n → m ≡ n → ⊥
    less_same h e = omega (arith, h, e)

one_of_them : (p q : AddressBlock) → comes_before p q ≡ false → p ≢ q → comes_before q p ≡ true
one_of_them p q h d = elim (leb_tells (suc p.address) q.address) [
  | inl a ↦ absurd (no (sym h ∙ lesser_before p q a.1))
  | inr a ↦ elim (eqb_tells p.address q.address) [
    | inr e ↦ lesser_before q p (strictly a.1 e.1)
    | inl e ↦ elim (leb_tells (suc p.length) q.length) [
      | inl l ↦ absurd (no (sym h ∙ shorter_before p q e.1 l.1))
      | inr l ↦ shorter_before q p (sym e.1) (elim (eqb_tells p.length q.length) [ inl f ↦ absurd (d (both p q e.1 f.1)) | inr f ↦ strictly l.1 f.1 ])
    ]
  ]
]
  where
    strictly : {m n : ℕ} → n < suc m → m ≢ n → n < m
    strictly h d = grind (arith, h, d)

    both : (p q : AddressBlock) → p.address ≡ q.address → p.length ≡ q.length → p ≡ q
    both p q e f = ap (λ a. record { address = a; length = p.length }) e ∙ ap (λ l. record { address = q.address; length = l }) f

-- 3. What a VRF exports, in the order of prefixes

abbrev ByPrefix : Export → Export → Type 0
ByPrefix x y = comes_before x.prefix y.prefix ≡ true

abbrev Differ : Export → Export → Type 0
Differ x y = x.prefix ≢ y.prefix

placed_each : (e : Export) (es : List Export) → EachBefore ByPrefix es → ((x : Export) → In es x → e.prefix ≢ x.prefix) → EachBefore ByPrefix (placed e es)
placed_each e [] h d = (λ y i. absurd i, tt)
placed_each e (x ∷ xs) h d = split (comes_before e.prefix x.prefix) refl (placed_each e xs h.1 (λ y i. d y (inr i)))
  where
    split : (b : Bool) → comes_before e.prefix x.prefix ≡ b → EachBefore ByPrefix (placed e xs) →
        EachBefore ByPrefix (if b then e ∷ x ∷ xs else x ∷ placed e xs)
    split true q g = (λ y i. elim i [ inl f ↦ subst (λ z. ByPrefix e z) f q | inr j ↦ before_follows e.prefix x.prefix y.prefix q (h.0 y j) ], h)
    split false q g =
        (λ y i. elim (in_placed e xs y i) [ inl f ↦ subst (λ z. ByPrefix x z) f (one_of_them e.prefix x.prefix q (d x (inl refl))) | inr j ↦ h.0 y j ], g)

in_order_each : (es : List Export) → EachBefore Differ es → EachBefore ByPrefix (in_order es)
in_order_each [] h = tt
in_order_each (e ∷ es) h = placed_each e (in_order es) (in_order_each es h.1) (λ x i. h.0 x (in_in_order es x i))

present_each : (t : Network) (c : Config) (v : ℕ) (targets : List ℕ) → HasStatics t c.statics → EachBefore ByPrefix (present_with t c v targets)
present_each t c v targets h =
    in_order_each (map (export_of c v targets) (filter (is_present t c v) c.statics))
    (each_map (λ x y. SameStatic t x y → ⊥) Differ (export_of c v targets) (filter (is_present t c v) c.statics)
    (λ x y i j d e. d (
      present_vrf t c v x (in_filter (is_present t c v) c.statics x i).1 ∙ sym (present_vrf t c v y (in_filter (is_present t c v) c.statics y j).1),
      e,
    ))
    (each_apart (SameStatic t) (filter (is_present t c v) c.statics) (apart_filter (SameStatic t) (is_present t c v) c.statics h.apart)))

exports_each : (t : Network) (c : Config) (v : ℕ) (targets : List ℕ) → HasStatics t c.statics → EachBefore ByPrefix (exports_with t c v targets)
exports_each t c v [] h = tt
exports_each t c v (target ∷ targets) h = present_each t c v (target ∷ targets) h

of_vrf : (t : Network) (c : Config) (v : ℕ) (targets : List ℕ) (e : Export) → In (exports_with t c v targets) e → v ≡ e.vrf
unfolding Behind
of_vrf t c v targets e i = ap (λ (x : Export). x.vrf) (exported t c v targets e i).3

pub told_each : (t : Network) (c : Config) (edge : ℕ) → HasStatics t c.statics → EachBefore ComesBefore (exports_of t c edge)
told_each t c edge h =
    each_flat_map (λ (u v : ℕ). u < v) ComesBefore (λ v. exports_with t c v (c.exports v)) (vrfs_at t edge)
    (each_filter (λ (u v : ℕ). u < v) (λ v. edge_of t v == edge) (range_with_len 0 (length t.vrfs)) (each_range 0 (length t.vrfs)))
    (λ v i. each_more ByPrefix ComesBefore (exports_with t c v (c.exports v))
    (λ x y j k b. inr (sym (of_vrf t c v (c.exports v) x j) ∙ of_vrf t c v (c.exports v) y k, b)) (exports_each t c v (c.exports v) h))
    (λ u v x y i j less k l. inl (subst (λ n. n < y.vrf) (of_vrf t c u (c.exports u) x k) (subst (λ n. u < n) (of_vrf t c v (c.exports v) y l) less)))

pub statics_each : (t : Network) (statics : List SiteRoute) → HasStatics t statics → EachBefore (DifferInVrf t) statics
statics_each t statics h =
    each_more (λ x y. SameStatic t x y → ⊥) (DifferInVrf t) statics (λ x y i j d vrf prefix. d (vrf, prefix)) (each_apart (SameStatic t) statics h.apart)

-- 4. What a VRF holds

own_each : (t : Network) (c : Config) (edge v : ℕ) → HasStatics t c.statics → EachBefore DifferBySource (own_routes t c edge v)
own_each t c edge v h =
    each_map ByPrefix DifferBySource (held_by edge Own) (present_with t c v []) (λ x y i j b source. not_itself x.prefix y.prefix b)
    (present_each t c v [] h)

-- two exports of one VRF and one prefix don't stand one before the other
not_the_same : (x y : Export) → ComesBefore x y → x.vrf ≡ y.vrf → x.prefix ≢ y.prefix
not_the_same x y b e = elim b [ inl less ↦ absurd (less_same less e) | inr p ↦ not_itself x.prefix y.prefix p.1 ]
  where
    less_same : {m n : ℕ} → m < n → m ≡ n → ⊥
    less_same h e = omega (arith, h, e)

near_each : (t : Network) (c : Config) (edge v : ℕ) → HasStatics t c.statics → EachBefore DifferBySource (near_routes t c edge v)
near_each t c edge v h =
    let others : List Export = filter (λ export. not (export.vrf == v)) (exports_of t c edge) in
    each_map ComesBefore DifferBySource (λ (export : Export). held_by edge (Near export.vrf) export) (imported c v others)
    (λ x y i j b source. not_the_same x y b (ap near_vrf source))
    (each_filter ComesBefore (λ (export : Export). meet export.targets (c.imports v)) others
    (each_filter ComesBefore (λ (export : Export). not (export.vrf == v)) (exports_of t c edge) (told_each t c edge h)))

far_each : (t : Network) (c : Config) (p : Peerings) (edge v peer : ℕ) → IsLawful t → AllGood t p → EachBefore DifferBySource (far_routes t c p edge v peer)
far_each t c p edge v peer lawful good =
    let routes : List Export = imported c v (believed c p edge peer) in
    let of_them : (x : Export) → In routes x → In (believed c p edge peer) x =
    λ x i. (in_filter (λ (export : Export). meet export.targets (c.imports v)) (believed c p edge peer) x i).0 in
    each_map (λ x y. SameRoute x y → ⊥) DifferBySource (λ (export : Export). held_by peer (Far (loopback t peer) (vrf_at t export.vrf).rd.0) export) routes
    (λ x y i j d source prefix. d (
      one_vrf t lawful x.vrf y.vrf (good_believed t c p edge peer x good (of_them x i)).0 (good_believed t c p edge peer y good (of_them y j)).0
          (ap far_rd source),
      prefix,
    ))
    (each_apart SameRoute routes
    (apart_filter SameRoute (λ (export : Export). meet export.targets (c.imports v)) (believed c p edge peer) (believed_is_apart c p edge peer)))

-- the edge behind a route of another edge
from_peer : (t : Network) (c : Config) (p : Peerings) (edge v peer : ℕ) (a : HeldRoute) → In (far_routes t c p edge v peer) a →
    loopback t peer ≡ far_address a.source
from_peer t c p edge v peer a i = let m =
    in_map (λ (export : Export). held_by peer (Far (loopback t peer) (vrf_at t export.vrf).rd.0) export) (imported c v (believed c p edge peer)) a i in
    ap (λ (r : HeldRoute). far_address r.source) m.2

peers_each : (t : Network) (c : Config) (p : Peerings) (edge v : ℕ) → IsLawful t → Apart t → AllGood t p →
    EachBefore DifferBySource (flat_map (far_routes t c p edge v) (filter (λ peer. not (peer == edge)) (edges t)))
peers_each t c p edge v lawful apart good =
    let peers : List ℕ = filter (λ peer. not (peer == edge)) (edges t) in
    let there : (x : ℕ) → In peers x → x < length t.loopbacks =
    λ x i. below x
    (in_range 0 (length t.loopbacks) x
    (in_filter (λ node. is_edge t.vrfs node) (range_with_len 0 (length t.loopbacks)) x (in_filter (λ peer. not (peer == edge)) (edges t) x i).0).0).1 in
    each_flat_map (λ (m n : ℕ). m < n) DifferBySource (far_routes t c p edge v) peers
    (each_filter (λ (m n : ℕ). m < n) (λ peer. not (peer == edge)) (edges t)
    (each_filter (λ (m n : ℕ). m < n) (λ node. is_edge t.vrfs node) (range_with_len 0 (length t.loopbacks)) (each_range 0 (length t.loopbacks))))
    (λ peer i. far_each t c p edge v peer lawful good)
    (λ m n x y i j less k l source prefix. less_same less
    (one_edge t apart m n (there m i) (there n j) (from_peer t c p edge v m x k ∙ ap far_address source ∙ sym (from_peer t c p edge v n y l))))
  where
    below : (x : ℕ) → x < 0 + length t.loopbacks → x < length t.loopbacks
    below x h = omega (arith, h)

    less_same : {m n : ℕ} → m < n → m ≡ n → ⊥
    less_same h e = omega (arith, h, e)

-- sources of two kinds
of_kinds : (a b : HeldRoute) (m n : ℕ) → m ≡ source_kind a.source → n ≡ source_kind b.source → m < n → DifferBySource a b
of_kinds a b m n h g less source prefix = omega (arith, h, g, less, ap source_kind source)

pub held_each : (t : Network) (c : Config) (p : Peerings) (edge v : ℕ) → IsLawful t → Apart t → HasStatics t c.statics → AllGood t p →
    EachBefore DifferBySource (held t c p edge v)
unfolding held
held_each t c p edge v lawful apart h good =
    let far : List HeldRoute = flat_map (far_routes t c p edge v) (filter (λ peer. not (peer == edge)) (edges t)) in
    each_append DifferBySource (own_routes t c edge v) (near_routes t c edge v ++ far) (own_each t c edge v h)
    (each_append DifferBySource (near_routes t c edge v) far (near_each t c edge v h) (peers_each t c p edge v lawful apart good)
    (λ x y i j. of_kinds x y 1 2 (near_kind t c edge x (from_near t c edge v x i)) (far_kind t c p edge y (from_far t c p edge v y j)) (omega arith)))
    (λ x y i j. elim (in_append (near_routes t c edge v) far y j) [
      | inl k ↦ of_kinds x y 0 1 (own_kind t c edge v x (from_own t c edge v x i)) (near_kind t c edge y (from_near t c edge v y k)) (omega arith)
      | inr k ↦ of_kinds x y 0 2 (own_kind t c edge v x (from_own t c edge v x i)) (far_kind t c p edge y (from_far t c p edge v y k)) (omega arith)
    ])

-- 5. Over a journal

from_low : (low : ℕ) (xs : List ℕ) → Rise low xs → (y : ℕ) → In xs y → low ≤ y
from_low low [] h y i = absurd i
from_low low (x ∷ xs) h y i = elim i [ inl e ↦ subst (λ n. low ≤ n) e h.0 | inr j ↦ weaker h.0 (from_low (suc x) xs h.1 y j) ]
  where
    weaker : low ≤ x → suc x ≤ y → low ≤ y
    weaker a b = omega (arith, a, b)

rise_each : (low : ℕ) (xs : List ℕ) → Rise low xs → EachBefore (λ (m n : ℕ). m < n) xs
rise_each low [] h = tt
rise_each low (x ∷ xs) h = (λ y i. above (from_low (suc x) xs h.1 y i), rise_each (suc x) xs h.1)
  where
    above : {y : ℕ} → suc x ≤ y → x < y
    above h = omega (arith, h)

pub tidy : (t : Network) (es : List JournalEntry) (ps : List (List ℕ)) → IsLawful t → IsLawfulJournal t es ps → IsTidy t (world_of t es)
tidy t es ps lawful journal =
    let k : Keeps t (world_of t es) = keeps t es ps lawful journal in
    let c : Config = (world_of t es).config in
    let rise : RiseAll c = sets_rise t es ps lawful journal in
    record {
      imports = λ v. pairs (λ (m n : ℕ). m < n) (c.imports v) (rise_each 0 (c.imports v) (rise.imports v));
      exports = λ v. pairs (λ (m n : ℕ). m < n) (c.exports v) (rise_each 0 (c.exports v) (rise.exports v));
      statics = pairs (DifferInVrf t) c.statics (statics_each t c.statics k.statics);
      told = λ edge. pairs ComesBefore (exports_of t c edge) (told_each t c edge k.statics);
      held = λ edge v. pairs DifferBySource (held t c (world_of t es).peerings edge v)
          (held_each t c (world_of t es).peerings edge v lawful (loopbacks_apart t lawful) k.statics k.told);
    }
