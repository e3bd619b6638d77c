-- After every lawful journal a VRF holds one route of each prefix from each source.
use Rattle.std.proofs.Common.{ℕ, ◌≡◌, ◌≢◌, ◌<◌, ◌≤◌, ◌⊎◌, inl, inr, Bool, true, false, List, [], ◌∷◌, ◌++◌, filter, length, arith, sym, ◌∙◌, ap, subst}
use Rattle.std.specs.Prelude.{◌==◌, ◌&&◌, not, if◌then◌else◌}
use Rattle.std.specs.List.{flat_map, range_with_len}
use Rattle.std.proofs.lemmas.Bool.Decides.{eqb_tells, leb_tells}
use Rattle.std.proofs.lemmas.Map.Keys.{apart_from_distinct}
use Rattle.mn_base.proofs.Bools.{clash, no}
use Rattle.mn_topo.specs.Prefix.{IsPrefix, same_prefix}
use Rattle.mn_topo.specs.VrfTable.{is_edge}
use Rattle.mn_topo.specs.Network.{Network}
use Rattle.mn_topo.specs.Lawful.{IsLawful}
use Rattle.mn_topo.specs.declared.vrfs.VrfDef.{VrfDef}
use Rattle.mn_ledger.specs.Places.{loopback, vrf_at, vrf_of, edges}
use Rattle.mn_ledger.specs.World.{SiteRoute, Config, Export, Telling, Open, BgpKeepAlive, Announcement, Withdrawal, Peerings}
use Rattle.mn_ledger.specs.Exports.{is_present, export_of, exports_of}
use Rattle.mn_ledger.specs.Bgp.{peers_live, is_for}
use Rattle.mn_ledger.specs.Held.{HeldRoute, Source, Own, Near, Far, held_by, own_routes, imported}
use Rattle.mn_ledger.specs.Exports.{meet}
use Rattle.mn_ledger.specs.Held.{near_routes, believed_after, believed_from, heard_of, believed, far_routes, held}
use Rattle.mn_ledger.proofs.Peers.{same_test, same_numbers, and_left}
use Rattle.mn_ledger.proofs.Turning.{Apart}
use Rattle.mn_ledger.proofs.Members.{In, in_append, in_map, in_filter, in_flat_map, in_take, in_range, AreApart, one_alike, apart_filter, apart_push}
use Rattle.mn_ledger.proofs.Statics.{SameStatic, HasStatics, HasForms}
use Rattle.mn_ledger.proofs.Tellings.{Behind, behind, exported_by, IsGoodExport, AllGood}

-- 1. What an edge believes of a peer

abbrev pub SameRoute : Export → Export → Type 0
SameRoute x y = (x.vrf ≡ y.vrf) × (x.prefix ≡ y.prefix)

is_for_it : (x e : Export) → SameRoute x e → is_for e.vrf e.prefix x ≡ true
is_for_it x e a =
    ap (λ v. (e.vrf == v) && same_prefix e.prefix x.prefix) a.0 ∙ ap (λ p. (e.vrf == e.vrf) && same_prefix e.prefix p) a.1
    ∙ ap (λ b. b && same_prefix e.prefix e.prefix) (same_test e.vrf) ∙ ap (λ b. b && (e.prefix.length == e.prefix.length)) (same_test e.prefix.address)
    ∙ same_test e.prefix.length

believed_apart : (es : List Export) (ms : List Telling) → AreApart SameRoute es → AreApart SameRoute (believed_from es ms)
believed_apart es [] h = h
believed_apart es (Announcement e ∷ ms) h =
    believed_apart (believed_after es (Announcement e)) ms
    (apart_push SameRoute (filter (λ other. not (is_for e.vrf e.prefix other)) es) e (apart_filter SameRoute (λ other. not (is_for e.vrf e.prefix other)) es h)
    (λ x i a. no (sym (ap not (is_for_it x e a)) ∙ (in_filter (λ other. not (is_for e.vrf e.prefix other)) es x i).1)))
believed_apart es (Withdrawal v p ∷ ms) h =
    believed_apart (believed_after es (Withdrawal v p)) ms (apart_filter SameRoute (λ other. not (is_for v p other)) es h)
believed_apart es (Open ∷ ms) h = believed_apart es ms h
believed_apart es (BgpKeepAlive ∷ ms) h = believed_apart es ms h

pub believed_is_apart : (c : Config) (p : Peerings) (edge peer : ℕ) → AreApart SameRoute (believed c p edge peer)
believed_is_apart c p edge peer = either (peers_live c edge peer)
  where
    either : (b : Bool) → AreApart SameRoute (if b then believed_from [] (heard_of p edge peer) else [])
    either true = believed_apart [] (heard_of p edge peer) tt
    either false = tt

-- what is believed was announced
pub announced_once : (es : List Export) (ms : List Telling) (x : Export) → In (believed_from es ms) x → In es x ⊎ In ms (Announcement x)
announced_once es [] x i = inl i
announced_once es (Announcement e ∷ ms) x i = elim (announced_once (believed_after es (Announcement e)) ms x i) [
  | inr j ↦ inr (inr j)
  | inl j ↦ elim (in_append (filter (λ other. not (is_for e.vrf e.prefix other)) es) (e ∷ []) x j) [
    | inl k ↦ inl (in_filter (λ other. not (is_for e.vrf e.prefix other)) es x k).0
    | inr k ↦ elim k [ inl q ↦ inr (inl (ap (λ y. Announcement y) q)) | inr n ↦ absurd n ]
  ]
]
announced_once es (Withdrawal v p ∷ ms) x i = elim (announced_once (believed_after es (Withdrawal v p)) ms x i) [
  | inr j ↦ inr (inr j)
  | inl j ↦ inl (in_filter (λ other. not (is_for v p other)) es x j).0
]
announced_once es (Open ∷ ms) x i = elim (announced_once es ms x i) [ inl j ↦ inl j | inr j ↦ inr (inr j) ]
announced_once es (BgpKeepAlive ∷ ms) x i = elim (announced_once es ms x i) [ inl j ↦ inl j | inr j ↦ inr (inr j) ]

if_in : {A : Type 0} (b : Bool) (xs : List A) (x : A) → In (if b then xs else []) x → In xs x
if_in true xs x i = i
if_in false xs x i = absurd i

pub in_believed : (c : Config) (p : Peerings) (edge peer : ℕ) (x : Export) → In (believed c p edge peer) x → In (believed_from [] (heard_of p edge peer)) x
in_believed c p edge peer x i = if_in (peers_live c edge peer) (believed_from [] (heard_of p edge peer)) x i

pub good_believed : (t : Network) (c : Config) (p : Peerings) (edge peer : ℕ) (x : Export) → AllGood t p → In (believed c p edge peer) x → IsGoodExport t x
good_believed t c p edge peer x good i = elim (announced_once [] (heard_of p edge peer) x (in_believed c p edge peer x i)) [
  | inl j ↦ absurd j
  | inr j ↦ good peer edge (Announcement x) (in_take (p.heard edge peer) (p.told peer edge) (Announcement x) j)
]

one_believed : (c : Config) (p : Peerings) (edge peer : ℕ) (x y : Export) → In (believed c p edge peer) x → In (believed c p edge peer) y → SameRoute x y →
    x ≡ y
one_believed c p edge peer x y i j a =
    one_alike SameRoute (λ _ _ s. (sym s.0, sym s.1)) (believed_from [] (heard_of p edge peer)) x y (believed_apart [] (heard_of p edge peer) tt)
    (in_believed c p edge peer x i) (in_believed c p edge peer y j) a

-- 2. From where each held route comes

-- by its source
unfoldable pub OwnRoute : Network → Config → ℕ → ℕ → HeldRoute → Type 0
OwnRoute t c edge v a = (x : Export) × Behind t c v [] x × (held_by edge Own x ≡ a)

unfoldable pub NearRoute : Network → Config → ℕ → HeldRoute → Type 0
NearRoute t c edge a = (x : Export) × In (exports_of t c edge) x × (held_by edge (Near x.vrf) x ≡ a)

unfoldable pub FarRoute : Network → Config → Peerings → ℕ → HeldRoute → Type 0
FarRoute t c p edge a =
    (peer : ℕ) × (peer < length t.loopbacks) × (x : Export) × In (believed c p edge peer) x
    × (held_by peer (Far (loopback t peer) (vrf_at t x.vrf).rd.0) x ≡ a)

pub from_own : (t : Network) (c : Config) (edge v : ℕ) (a : HeldRoute) → In (own_routes t c edge v) a → OwnRoute t c edge v a
unfolding OwnRoute
from_own t c edge v a i = let m = in_map (held_by edge Own) _ a i in (m.0, behind t c v [] m.0 m.1, m.2)

pub from_near : (t : Network) (c : Config) (edge v : ℕ) (a : HeldRoute) → In (near_routes t c edge v) a → NearRoute t c edge a
unfolding NearRoute
from_near t c edge v a i =
    let others : List Export = filter (λ export. not (export.vrf == v)) (exports_of t c edge) in
    let m = in_map (λ (export : Export). held_by edge (Near export.vrf) export) (imported c v others) a i in
    let f = in_filter (λ (export : Export). meet export.targets (c.imports v)) others m.0 m.1 in
    (m.0, (in_filter (λ (export : Export). not (export.vrf == v)) (exports_of t c edge) m.0 f.0).0, m.2)

pub from_far : (t : Network) (c : Config) (p : Peerings) (edge v : ℕ) (a : HeldRoute) →
    In (flat_map (far_routes t c p edge v) (filter (λ peer. not (peer == edge)) (edges t))) a → FarRoute t c p edge a
unfolding FarRoute
from_far t c p edge v a i =
    let m = in_flat_map (far_routes t c p edge v) (filter (λ peer. not (peer == edge)) (edges t)) a i in
    let peer : ℕ = m.0 in
    let at_edge =
    in_filter (λ node. is_edge t.vrfs node) (range_with_len 0 (length t.loopbacks)) peer
    (in_filter (λ peer. not (peer == edge)) (edges t) peer m.1).0 in
    let below = in_range 0 (length t.loopbacks) peer at_edge.0 in
    let n = in_map (λ (export : Export). held_by peer (Far (loopback t peer) (vrf_at t export.vrf).rd.0) export)
    (imported c v (believed c p edge peer)) a m.2 in
    (peer, omega (arith, below.1), n.0, (in_filter (λ (export : Export). meet export.targets (c.imports v)) (believed c p edge peer) n.0 n.1).0, n.2)

Kinds : Network → Config → Peerings → ℕ → ℕ → HeldRoute → Type 0
Kinds t c p edge v a = OwnRoute t c edge v a ⊎ (NearRoute t c edge a ⊎ FarRoute t c p edge a)

kinds : (t : Network) (c : Config) (p : Peerings) (edge v : ℕ) (a : HeldRoute) → In (held t c p edge v) a → Kinds t c p edge v a
unfolding held Kinds
kinds t c p edge v a i =
    elim (in_append (own_routes t c edge v) (near_routes t c edge v ++ flat_map (far_routes t c p edge v) (filter (λ peer. not (peer == edge)) (edges t))) a
    i) [
      | inl j ↦ inl (from_own t c edge v a j)
      | inr j ↦ elim (in_append (near_routes t c edge v) (flat_map (far_routes t c p edge v) (filter (λ peer. not (peer == edge)) (edges t))) a j) [
        | inl k ↦ inr (inl (from_near t c edge v a k))
        | inr k ↦ inr (inr (from_far t c p edge v a k))
      ]
    ]

-- 3. One route of each source and prefix

pub present_vrf : (t : Network) (c : Config) (v : ℕ) (x : SiteRoute) → is_present t c v x ≡ true → vrf_of t x.site ≡ v
present_vrf t c v x h = same_numbers (vrf_of t x.site) v (and_left _ _ h)

one_behind : (t : Network) (c : Config) (v : ℕ) (targets : List ℕ) (x y : Export) → HasStatics t c.statics → Behind t c v targets x →
    Behind t c v targets y → x.prefix ≡ y.prefix → x ≡ y
unfolding Behind
one_behind t c v targets x y h a b same =
    let one : a.0 ≡ b.0 = one_alike (SameStatic t) (λ _ _ s. (sym s.0, sym s.1)) c.statics a.0 b.0 h.apart a.1 b.1
    (present_vrf t c v a.0 a.2 ∙ sym (present_vrf t c v b.0 b.2), ap (λ (e : Export). e.prefix) a.3 ∙ same ∙ sym (ap (λ (e : Export). e.prefix) b.3)) in
    sym a.3 ∙ ap (export_of c v targets) one ∙ b.3

abbrev pub source_kind : Source → ℕ
source_kind Own = 0
source_kind (Near v) = 1
source_kind (Far address rd) = 2

abbrev pub near_vrf : Source → ℕ
near_vrf (Near v) = v
near_vrf _ = 0

abbrev pub far_address : Source → ℕ
far_address (Far address rd) = address
far_address _ = 0

abbrev pub far_rd : Source → ℕ
far_rd (Far address rd) = rd
far_rd _ = 0

pub one_edge : (t : Network) → Apart t → (m n : ℕ) → m < length t.loopbacks → n < length t.loopbacks → loopback t m ≡ loopback t n → m ≡ n
one_edge t apart m n h g e = elim (eqb_tells m n) [ inl p ↦ p.1 | inr p ↦ absurd (apart m n h g p.1 e) ]

pub one_vrf : (t : Network) → IsLawful t → (u w : ℕ) → u < length t.vrfs → w < length t.vrfs → (vrf_at t u).rd.0 ≡ (vrf_at t w).rd.0 → u ≡ w
one_vrf t lawful u w h g e = elim (eqb_tells u w) [
  | inl p ↦ p.1
  | inr p ↦ elim (leb_tells u w) [
    | inl q ↦ absurd
        (clash (sym (ap (λ r. (vrf_at t u).rd.0 == r) (sym e) ∙ same_test (vrf_at t u).rd.0)
        ∙ apart_from_distinct (λ (one other : VrfDef). one.rd.0 == other.rd.0) t.vrfs u w _ lawful.vrfs.distinct (less u w q.1 p.1) g))
    | inr q ↦ absurd
        (clash (sym (ap (λ r. (vrf_at t w).rd.0 == r) e ∙ same_test (vrf_at t w).rd.0)
        ∙ apart_from_distinct (λ (one other : VrfDef). one.rd.0 == other.rd.0) t.vrfs w u _ lawful.vrfs.distinct q.1 h))
  ]
]
  where
    less : (m n : ℕ) → m ≤ n → m ≢ n → m < n
    less m n q d = grind (arith, q, d)

one_near : (t : Network) (c : Config) (edge : ℕ) (a b : HeldRoute) → HasStatics t c.statics → NearRoute t c edge a → NearRoute t c edge b →
    a.source ≡ b.source → a.prefix ≡ b.prefix → a ≡ b
unfolding NearRoute
one_near t c edge a b h m n source prefix =
    let x = exported_by t c edge m.0 m.1 in
    let y = exported_by t c edge n.0 n.1 in
    let vrfs : m.0.vrf ≡ n.0.vrf = ap (λ (r : HeldRoute). near_vrf r.source) m.2 ∙ ap near_vrf source ∙ sym (ap (λ (r : HeldRoute). near_vrf r.source) n.2) in
    let one : m.0 ≡ n.0 = one_behind t c n.0.vrf (c.exports n.0.vrf) m.0 n.0 h (subst (λ v. Behind t c v (c.exports v) m.0) vrfs x.1) y.1
    (ap (λ (r : HeldRoute). r.prefix) m.2 ∙ prefix ∙ sym (ap (λ (r : HeldRoute). r.prefix) n.2)) in
    sym m.2 ∙ ap (λ (e : Export). held_by edge (Near e.vrf) e) one ∙ n.2

one_own : (t : Network) (c : Config) (edge v : ℕ) (a b : HeldRoute) → HasStatics t c.statics → OwnRoute t c edge v a → OwnRoute t c edge v b →
    a.prefix ≡ b.prefix → a ≡ b
unfolding OwnRoute
one_own t c edge v a b h m n prefix =
    sym m.2 ∙ ap (held_by edge Own)
    (one_behind t c v [] m.0 n.0 h m.1 n.1 (ap (λ (r : HeldRoute). r.prefix) m.2 ∙ prefix ∙ sym (ap (λ (r : HeldRoute). r.prefix) n.2))) ∙ n.2

one_far : (t : Network) (c : Config) (p : Peerings) (edge : ℕ) (a b : HeldRoute) → IsLawful t → Apart t → AllGood t p → FarRoute t c p edge a →
    FarRoute t c p edge b → a.source ≡ b.source → a.prefix ≡ b.prefix → a ≡ b
unfolding FarRoute
one_far t c p edge a b lawful apart good m n source prefix =
    let address : loopback t m.0 ≡ loopback t n.0 =
    ap (λ (r : HeldRoute). far_address r.source) m.4 ∙ ap far_address source ∙ sym (ap (λ (r : HeldRoute). far_address r.source) n.4) in
    let peer : m.0 ≡ n.0 = one_edge t apart m.0 n.0 m.1 n.1 address in
    let rd : (vrf_at t m.2.vrf).rd.0 ≡ (vrf_at t n.2.vrf).rd.0 =
    ap (λ (r : HeldRoute). far_rd r.source) m.4 ∙ ap far_rd source ∙ sym (ap (λ (r : HeldRoute). far_rd r.source) n.4) in
    let here : In (believed c p edge n.0) m.2 = subst (λ q. In (believed c p edge q) m.2) peer m.3 in
    let vrf : m.2.vrf ≡ n.2.vrf =
    one_vrf t lawful m.2.vrf n.2.vrf (good_believed t c p edge n.0 m.2 good here).0 (good_believed t c p edge n.0 n.2 good n.3).0 rd in
    let one : m.2 ≡ n.2 =
    one_believed c p edge n.0 m.2 n.2 here n.3 (vrf, ap (λ (r : HeldRoute). r.prefix) m.4 ∙ prefix ∙ sym (ap (λ (r : HeldRoute). r.prefix) n.4)) in
    sym m.4 ∙ ap (λ q. held_by q (Far (loopback t q) (vrf_at t m.2.vrf).rd.0) m.2) peer
    ∙ ap (λ (e : Export). held_by n.0 (Far (loopback t n.0) (vrf_at t e.vrf).rd.0) e) one ∙ n.4

-- its kind
pub own_kind : (t : Network) (c : Config) (edge v : ℕ) (a : HeldRoute) → OwnRoute t c edge v a → 0 ≡ source_kind a.source
unfolding OwnRoute
own_kind t c edge v a m = ap (λ (r : HeldRoute). source_kind r.source) m.2

pub near_kind : (t : Network) (c : Config) (edge : ℕ) (a : HeldRoute) → NearRoute t c edge a → 1 ≡ source_kind a.source
unfolding NearRoute
near_kind t c edge a m = ap (λ (r : HeldRoute). source_kind r.source) m.2

pub far_kind : (t : Network) (c : Config) (p : Peerings) (edge : ℕ) (a : HeldRoute) → FarRoute t c p edge a → 2 ≡ source_kind a.source
unfolding FarRoute
far_kind t c p edge a m = ap (λ (r : HeldRoute). source_kind r.source) m.4

pub one_held : (t : Network) (c : Config) (p : Peerings) (edge v : ℕ) (a b : HeldRoute) → IsLawful t → Apart t → HasStatics t c.statics → AllGood t p →
    In (held t c p edge v) a → In (held t c p edge v) b → a.source ≡ b.source → a.prefix ≡ b.prefix → a ≡ b
unfolding Kinds
one_held t c p edge v a b lawful apart h good i j source prefix =
    let same : source_kind a.source ≡ source_kind b.source = ap source_kind source in
    elim (kinds t c p edge v a i) [
      | inl m ↦ elim (kinds t c p edge v b j) [
        | inl n ↦ one_own t c edge v a b h m n prefix
        | inr q ↦ elim q [
          | inl n ↦ absurd (omega (arith, own_kind t c edge v a m, near_kind t c edge b n, same))
          | inr n ↦ absurd (omega (arith, own_kind t c edge v a m, far_kind t c p edge b n, same))
        ]
      ]
      | inr r ↦ elim r [
        | inl m ↦ elim (kinds t c p edge v b j) [
          | inl n ↦ absurd (omega (arith, near_kind t c edge a m, own_kind t c edge v b n, same))
          | inr q ↦ elim q [
            | inl n ↦ one_near t c edge a b h m n source prefix
            | inr n ↦ absurd (omega (arith, near_kind t c edge a m, far_kind t c p edge b n, same))
          ]
        ]
        | inr m ↦ elim (kinds t c p edge v b j) [
          | inl n ↦ absurd (omega (arith, far_kind t c p edge a m, own_kind t c edge v b n, same))
          | inr q ↦ elim q [
            | inl n ↦ absurd (omega (arith, far_kind t c p edge a m, near_kind t c edge b n, same))
            | inr n ↦ one_far t c p edge a b lawful apart good m n source prefix
          ]
        ]
      ]
    ]

-- 4. Each prefix is of its form

formed_behind : (t : Network) (c : Config) (v : ℕ) (targets : List ℕ) (x : Export) → HasForms c.statics → Behind t c v targets x →
    IsPrefix x.prefix.address x.prefix.length
unfolding Behind
formed_behind t c v targets x h b = subst (λ (e : Export). IsPrefix e.prefix.address e.prefix.length) b.3 (h.formed b.0 b.1)

own_formed : (t : Network) (c : Config) (edge v : ℕ) (a : HeldRoute) → HasForms c.statics → OwnRoute t c edge v a → IsPrefix a.prefix.address a.prefix.length
unfolding OwnRoute
own_formed t c edge v a h m = subst (λ (r : HeldRoute). IsPrefix r.prefix.address r.prefix.length) m.2 (formed_behind t c v [] m.0 h m.1)

near_formed : (t : Network) (c : Config) (edge : ℕ) (a : HeldRoute) → HasForms c.statics → NearRoute t c edge a → IsPrefix a.prefix.address a.prefix.length
unfolding NearRoute
near_formed t c edge a h m =
    let x = exported_by t c edge m.0 m.1 in
    subst (λ (r : HeldRoute). IsPrefix r.prefix.address r.prefix.length) m.2 (formed_behind t c m.0.vrf (c.exports m.0.vrf) m.0 h x.1)

far_formed : (t : Network) (c : Config) (p : Peerings) (edge : ℕ) (a : HeldRoute) → AllGood t p → FarRoute t c p edge a →
    IsPrefix a.prefix.address a.prefix.length
unfolding FarRoute
far_formed t c p edge a good m = subst (λ (r : HeldRoute). IsPrefix r.prefix.address r.prefix.length) m.4 (good_believed t c p edge m.0 m.2 good m.3).1

pub held_formed : (t : Network) (c : Config) (p : Peerings) (edge v : ℕ) (a : HeldRoute) → HasForms c.statics → AllGood t p → In (held t c p edge v) a →
    IsPrefix a.prefix.address a.prefix.length
unfolding Kinds
held_formed t c p edge v a h good i = elim (kinds t c p edge v a i) [
  | inl m ↦ own_formed t c edge v a h m
  | inr r ↦ elim r [ inl m ↦ near_formed t c edge a h m | inr m ↦ far_formed t c p edge a good m ]
]
