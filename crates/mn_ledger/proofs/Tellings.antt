-- After every lawful journal each route that was told is of a VRF of the network, and its prefix is of its form.
use Rattle.std.proofs.Common.{ℕ, ◌≡◌, ◌<◌, ◌⊎◌, inl, inr, Bool, true, false, List, [], ◌∷◌, ◌++◌, map, filter, length, arith, ◌∙◌, ap, subst}
use Rattle.std.specs.Prelude.{◌==◌, not, if◌then◌else◌, ⊤}
use Rattle.std.specs.List.{flat_map, list_any, range_with_len}
use Rattle.std.proofs.lemmas.Bool.Decides.{eqb_tells}
use Rattle.mn_node.specs.BgpState.{BgpState}
use Rattle.mn_node.specs.BgpState.TheVariants.{OpenSent, OpenConfirm}
use Rattle.mn_topo.specs.Prefix.{IsPrefix}
use Rattle.mn_topo.specs.declared.steps.Step.{Step}
use Rattle.mn_topo.specs.declared.steps.Step.TheVariants as step
use Rattle.mn_topo.specs.Network.{Network}
use Rattle.mn_ledger.specs.Tables.{put_pair}
use Rattle.mn_ledger.specs.Places.{edge_of, vrfs_at, edges}
use Rattle.mn_ledger.specs.World.{SiteRoute, Config, Export, Telling, Open, BgpKeepAlive, Announcement, Withdrawal, Peerings, World}
use Rattle.mn_ledger.specs.Exports.{comes_before, placed, in_order, is_present, export_of, present_with, exports_with, exports_of}
use Rattle.mn_ledger.specs.Bgp.{Told, is_from_to}
use Rattle.mn_ledger.specs.Bgp.{tellings_of, told_to, reply, bgp_replies, is_for, same_export, withdrawn, announced, changed, steady_peers, route_news, told_in}
use Rattle.mn_ledger.specs.Bgp.{bgp_counted}
use Rattle.mn_ledger.specs.Ledger.{config_after, after}
use Rattle.mn_ledger.proofs.Parts.{peerings_go}
use Rattle.mn_ledger.proofs.GoingBy.{pair_here, pair_off}
use Rattle.mn_ledger.proofs.Members.{In, in_append, in_map, in_filter, in_flat_map, in_range}
use Rattle.mn_ledger.proofs.Statics.{HasForms}

-- 1. What a VRF exports

pub in_placed : (e : Export) (es : List Export) (x : Export) → In (placed e es) x → (e ≡ x) ⊎ In es x
in_placed e [] x i = elim i [ inl q ↦ inl q | inr j ↦ absurd j ]
in_placed e (y ∷ ys) x i = split (comes_before e.prefix y.prefix) (in_placed e ys x) i
  where
    split : (b : Bool) → (In (placed e ys) x → (e ≡ x) ⊎ In ys x) → In (if b then e ∷ y ∷ ys else y ∷ placed e ys) x → (e ≡ x) ⊎ In (y ∷ ys) x
    split true more j = elim j [ inl q ↦ inl q | inr k ↦ inr k ]
    split false more j = elim j [ inl q ↦ inr (inl q) | inr k ↦ elim (more k) [ inl q ↦ inl q | inr l ↦ inr (inr l) ] ]

pub in_in_order : (es : List Export) (x : Export) → In (in_order es) x → In es x
in_in_order [] x i = absurd i
in_in_order (e ∷ es) x i = elim (in_placed e (in_order es) x i) [ inl q ↦ inl q | inr j ↦ inr (in_in_order es x j) ]

-- the static behind an export
unfoldable pub Behind : Network → Config → ℕ → List ℕ → Export → Type 0
Behind t c v targets e = (x : SiteRoute) × In c.statics x × (is_present t c v x ≡ true) × (export_of c v targets x ≡ e)

pub behind : (t : Network) (c : Config) (v : ℕ) (targets : List ℕ) (e : Export) → In (present_with t c v targets) e → Behind t c v targets e
unfolding Behind
behind t c v targets e i =
    let m = in_map (export_of c v targets) (filter (is_present t c v) c.statics) e
    (in_in_order (map (export_of c v targets) (filter (is_present t c v) c.statics)) e i) in
    let f = in_filter (is_present t c v) c.statics m.0 m.1 in
    (m.0, f.0, f.1, m.2)

pub exported : (t : Network) (c : Config) (v : ℕ) (targets : List ℕ) (e : Export) → In (exports_with t c v targets) e → Behind t c v targets e
exported t c v [] e i = absurd i
exported t c v (target ∷ targets) e i = behind t c v (target ∷ targets) e i

-- the VRF of an export is one of the edge's, and a static is behind it
pub exported_by : (t : Network) (c : Config) (edge : ℕ) (e : Export) → In (exports_of t c edge) e →
    (e.vrf < length t.vrfs) × Behind t c e.vrf (c.exports e.vrf) e
unfolding Behind
exported_by t c edge e i =
    let m = in_flat_map (λ v. exports_with t c v (c.exports v)) (vrfs_at t edge) e i in
    let b = exported t c m.0 (c.exports m.0) e m.2 in
    let f = in_filter (λ v. edge_of t v == edge) (range_with_len 0 (length t.vrfs)) m.0 m.1 in
    let r = in_range 0 (length t.vrfs) m.0 f.0 in
    let v_is : m.0 ≡ e.vrf = ap (λ (x : Export). x.vrf) b.3 in
    (subst (λ v. v < length t.vrfs) v_is (omega (arith, r.1)), subst (λ v. Behind t c v (c.exports v) e) v_is b)

abbrev pub IsGoodExport : Network → Export → Type 0
IsGoodExport t e = (e.vrf < length t.vrfs) × IsPrefix e.prefix.address e.prefix.length

good_export : (t : Network) (c : Config) (edge : ℕ) → HasForms c.statics → (e : Export) → In (exports_of t c edge) e → IsGoodExport t e
unfolding Behind
good_export t c edge h e i =
    let x = exported_by t c edge e i in
    (x.0, subst (λ (p : Export). IsPrefix p.prefix.address p.prefix.length) x.1.3 (h.formed x.1.0 x.1.1))

-- 2. What is told

-- An edge tells OPEN, KEEPALIVE, that what it exports has gone, and what it exports now: so what is so of these is so of all that is told.
module _ (G : ℕ → Telling → Type 0) (opens : (edge : ℕ) → G edge Open) (keeps : (edge : ℕ) → G edge BgpKeepAlive) (t : Network) where
  -- of all that the edge exports
  abbrev pub Announces : Config → ℕ → Type 0
  Announces c edge = (e : Export) → In (exports_of t c edge) e → G edge (Announcement e)

  abbrev pub Withdraws : Config → ℕ → Type 0
  Withdraws c edge = (e : Export) → In (exports_of t c edge) e → G edge (Withdrawal e.vrf e.prefix)

  abbrev AreTold : List Told → Type 0
  AreTold xs = (x : Told) → In xs x → G x.teller x.telling

  one_is : (edge : ℕ) (m : Telling) → G edge m → (x : Telling) → In (m ∷ []) x → G edge x
  one_is edge m g x i = elim i [ inl e ↦ subst (G edge) e g | inr j ↦ absurd j ]

  announced_are : (edge : ℕ) (es : List Export) → ((e : Export) → In es e → G edge (Announcement e)) →
      (m : Telling) → In (map (λ export. Announcement export) es) m → G edge m
  announced_are edge es h m i = let f = in_map (λ export. Announcement export) es m i in subst (G edge) f.2 (h f.0 f.1)

  reply_is : (edge : ℕ) (state : BgpState) (m : Telling) (c : Config) → Announces c edge → (x : Telling) → In (reply state m (exports_of t c edge)) x → G edge x
  reply_is edge OpenSent Open c h x i = one_is edge BgpKeepAlive (keeps edge) x i
  reply_is edge OpenConfirm BgpKeepAlive c h x i = announced_are edge (exports_of t c edge) h x i
  reply_is edge _ _ c h x i = absurd i

  told_to_are : (a b : ℕ) (ms : List Telling) → ((m : Telling) → In ms m → G a m) → AreTold (told_to a b ms)
  told_to_are a b ms h x i = let f = in_map (λ telling. record { teller = a; peer = b; telling = telling }) ms x i in
      subst (λ (y : Told). G y.teller y.telling) f.2 (h f.0 f.1)

  join_told : (xs ys : List Told) → AreTold xs → AreTold ys → AreTold (xs ++ ys)
  join_told xs ys h g x i = elim (in_append xs ys x i) [ inl j ↦ h x j | inr j ↦ g x j ]

  replies_are : (c : Config) (k : Peerings) (s : Step) → ((edge : ℕ) → Announces c edge) → AreTold (bgp_replies t c k s)
  replies_are c k (step.BgpUp a b) h =
      join_told (told_to a.0 b.0 (Open ∷ [])) (told_to b.0 a.0 (Open ∷ [])) (told_to_are a.0 b.0 (Open ∷ []) (one_is a.0 Open (opens a.0)))
      (told_to_are b.0 a.0 (Open ∷ []) (one_is b.0 Open (opens b.0)))
  replies_are c k (step.HearBgp a b) h = told_to_are b.0 a.0 (reply _ _ (exports_of t c b.0)) (reply_is b.0 _ _ c (h b.0))
  replies_are c k _ h = λ x i. absurd i

  changed_are : (edge : ℕ) (c new : Config) → Withdraws c edge → Announces new edge →
      (m : Telling) → In (changed (exports_of t c edge) (exports_of t new edge)) m → G edge m
  changed_are edge c new g h m i =
      let before : List Export = exports_of t c edge in
      let now : List Export = exports_of t new edge in
      elim (in_append (withdrawn before now) (announced before now) m i) [
        | inl j ↦
            let f = in_map (λ (export : Export). Withdrawal export.vrf export.prefix)
            (filter (λ export. not (list_any (is_for export.vrf export.prefix) now)) before) m j in
            subst (G edge) f.2 (g f.0 (in_filter (λ (export : Export). not (list_any (is_for export.vrf export.prefix) now)) before f.0 f.1).0)
        | inr j ↦ announced_are edge (filter (λ export. not (list_any (same_export export) before)) now)
            (λ e k. h e (in_filter (λ export. not (list_any (same_export export) before)) now e k).0) m j
      ]

  news_are : (c : Config) (p : Peerings) (new : Config) (k : Peerings) (edge : ℕ) → Withdraws c edge → Announces new edge →
      AreTold (route_news t c p new k edge)
  news_are c p new k edge g h x i =
      let f = in_flat_map (λ telling. map (λ peer. record { teller = edge; peer = peer; telling = telling }) (steady_peers t c p new k edge))
      (changed (exports_of t c edge) (exports_of t new edge)) x i in
      let m = in_map (λ peer. record { teller = edge; peer = peer; telling = f.0 }) (steady_peers t c p new k edge) x f.2 in
      subst (λ (y : Told). G y.teller y.telling) m.2 (changed_are edge c new g h f.0 f.1)

  pub told_are : (c : Config) (p : Peerings) (new : Config) (k : Peerings) (s : Step) → ((edge : ℕ) → Withdraws c edge) → ((edge : ℕ) → Announces new edge) →
      (x : Told) → In (told_in t c p new k s) x → G x.teller x.telling
  told_are c p new k s g h =
      join_told (bgp_replies t new p s) (flat_map (route_news t c p new k) (edges t)) (replies_are new p s h)
      (λ x i. let f = in_flat_map (route_news t c p new k) (edges t) x i in news_are c p new k f.0 (g f.0) (h f.0) x f.2)

abbrev pub IsGood : Network → Telling → Type 0
IsGood t (Announcement e) = IsGoodExport t e
IsGood t _ = ⊤

abbrev AllTold : Network → List Told → Type 0
AllTold t xs = (x : Told) → In xs x → IsGood t x.telling

good_told : (t : Network) (c : Config) (p : Peerings) (new : Config) (k : Peerings) (s : Step) → HasForms new.statics → AllTold t (told_in t c p new k s)
good_told t c p new k s h =
    told_are (λ edge m. IsGood t m) (λ edge. tt) (λ edge. tt) t c p new k s (λ edge e i. tt) (λ edge e i. good_export t new edge h e i)

-- 3. A step

abbrev pub AllGood : Network → Peerings → Type 0
AllGood t p = (edge peer : ℕ) (m : Telling) → In (p.told edge peer) m → IsGood t m

pub in_tellings : (a b : ℕ) (xs : List Told) (m : Telling) → In (tellings_of a b xs) m → (x : Told) × In xs x × (x.telling ≡ m)
in_tellings a b xs m i =
    let f = in_map (λ (told : Told). told.telling) (filter (is_from_to a b) xs) m i in
    (f.0, (in_filter (is_from_to a b) xs f.0 f.1).0, f.2)

pub in_cleared : (f : ℕ → ℕ → List Telling) (a b edge peer : ℕ) (m : Telling) → In (put_pair f a b [] edge peer) m → In (f edge peer) m
in_cleared f a b edge peer m i = elim (eqb_tells edge a) [
  | inr p ↦ subst (λ xs. In xs m) (pair_off f a b [] edge peer (inl p.1)) i
  | inl p ↦ elim (eqb_tells peer b) [
    | inr q ↦ subst (λ xs. In xs m) (pair_off f a b [] edge peer (inr q.1)) i
    | inl q ↦ absurd (subst (λ xs. In xs m) (ap (λ j. put_pair f a b [] j peer) p.1 ∙ ap (put_pair f a b [] a) q.1 ∙ pair_here f a b []) i)
  ]
]

-- what is so of all that was sent is so of what a session that begins anew leaves of it
pub still_told : (P : ℕ → ℕ → Telling → Type 0) (p : Peerings) (s : Step) → ((edge peer : ℕ) (m : Telling) → In (p.told edge peer) m → P edge peer m)
    → (edge peer : ℕ) (m : Telling) → In ((bgp_counted p s).told edge peer) m → P edge peer m
still_told P p (step.BgpUp a b) h edge peer m i =
    h edge peer m (in_cleared p.told a.0 b.0 edge peer m (in_cleared (put_pair p.told a.0 b.0 []) b.0 a.0 edge peer m i))
still_told P p (step.BgpDown a b) h edge peer m i =
    h edge peer m (in_cleared p.told a.0 b.0 edge peer m (in_cleared (put_pair p.told a.0 b.0 []) b.0 a.0 edge peer m i))
still_told P p _ h edge peer m i = h edge peer m i

pub still_good : (t : Network) (p : Peerings) (s : Step) → AllGood t p → AllGood t (bgp_counted p s)
still_good t p s h = still_told (λ edge peer m. IsGood t m) p s h

more_good : (t : Network) (k : Peerings) (xs : List Told) → AllGood t k → AllTold t xs →
    (edge peer : ℕ) (m : Telling) → In (k.told edge peer ++ tellings_of edge peer xs) m → IsGood t m
more_good t k xs h g edge peer m i = elim (in_append (k.told edge peer) (tellings_of edge peer xs) m i) [
  | inl j ↦ h edge peer m j
  | inr j ↦ let f = in_tellings edge peer xs m j in subst (IsGood t) f.2 (g f.0 f.1)
]

told_go_on : (t : Network) (c new : Config) (p : Peerings) (s : Step) → HasForms new.statics → AllGood t p →
    (edge peer : ℕ) (m : Telling) → In ((bgp_counted p s).told edge peer ++ tellings_of edge peer (told_in t c p new (bgp_counted p s) s)) m → IsGood t m
told_go_on t c new p s h g =
    more_good t (bgp_counted p s) (told_in t c p new (bgp_counted p s) s) (still_good t p s g) (good_told t c p new (bgp_counted p s) s h)

pub tellings_go : (t : Network) (w : World) (s : Step) → HasForms (config_after w.config s).statics → AllGood t w.peerings → AllGood t (after t w s).peerings
tellings_go t w s h g =
    let new : Config = config_after w.config s in
    peerings_go (AllGood t) t w.config new w.peerings s (told_go_on t w.config new w.peerings s h g) g
