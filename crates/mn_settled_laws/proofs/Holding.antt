-- In a settled world each VRF holds the routes that the present configuration gives it.
use Rattle.std.proofs.Common.{ℕ, zero, suc, ◌≡◌, ◌≢◌, ◌+◌, ◌<◌, ◌≤◌, inl, inr, Bool, true, false, cond, List, [], ◌∷◌, ◌++◌, map, filter, length, take, refl}
use Rattle.std.proofs.Common.{arith, sym, ◌∙◌, ap, subst, Option, None, Some}
use Rattle.std.specs.Prelude.{◌==◌, ◌&&◌, not, nat_le, is_some, unwrap_or, if◌then◌else◌}
use Rattle.std.specs.List.{flat_map, range_with_len, Contains, list_any}
use Rattle.std.proofs.lemmas.Bool.Decides.{eqb_tells, leb_tells}
use Rattle.std.proofs.lemmas.List.{take_all}
use Rattle.mn_topo.specs.VrfTable.{is_edge}
use Rattle.mn_topo.specs.Network.{Network, wiring_of}
use Rattle.mn_topo.specs.Lawful.{IsLawful}
use Rattle.mn_wiring.specs.Wiring.{JoinsNodes, EndsDiffer}
use Rattle.mn_base.proofs.Bools.{clash, at_most_is}
use Rattle.mn_topo.specs.declared.steps.JournalEntry.{JournalEntry}
use Rattle.mn_ledger.specs.Places.{loopback, vrf_at, edges}
use Rattle.mn_ledger.specs.World.{Config, Export, Telling, World}
use Rattle.mn_ledger.specs.Exports.{exports_of, present_with}
use Rattle.mn_ledger.specs.Bgp.{peers_live, is_established}
use Rattle.mn_ledger.specs.Held.{HeldRoute, Own, Near, Far, held_by, own_routes, near_routes, imported}
use Rattle.mn_ledger.specs.Exports.{meet}
use Rattle.mn_ledger.specs.Held.{heard_of, believed, believed_from, far_routes, held, is_better, matching, unbeaten, first_of, best}
use Rattle.mn_ledger.specs.Ledger.{after, start, no_packets, next_of, left_by, world_from, world_of, packets_by}
use Rattle.mn_ledger.specs.Eligible.{eligible, is_resolved}
use Rattle.mn_ledger.proofs.Eligible.{in_those}
use Rattle.mn_ledger.specs.Packets.{Packets, packets_after}
use Rattle.mn_ledger.specs.Lawful.{IsLawfulFrom, IsLawfulJournal}
use Rattle.mn_ledger.specs.Turns.{IsInTurn, IsPeerTalk}
use Rattle.mn_ledger.specs.Settled.{IsSettled}
use Rattle.mn_prefix.specs.Prefix.{contains}
use Rattle.mn_ledger.proofs.Members.{In, in_append, in_front, in_rest, in_map, in_filter, filter_in, in_flat_map, in_contained, contained_in}
use Rattle.mn_ledger.proofs.Turning.{Apart, loopbacks_apart}
use Rattle.mn_ledger.proofs.Statics.{HasStatics, first_statics, statics_go}
use Rattle.mn_ledger.proofs.Tellings.{Behind, behind, exported_by}
use Rattle.mn_ledger.proofs.Peers.{and_right}
use Rattle.mn_ledger.proofs.InTurn.{goes_step, begins, not_empty, in_order, in_turn}
use Rattle.mn_settled_laws.specs.Routes as routes
use Rattle.mn_settled_laws.specs.Routes.{TellTheirExports, HoldsItsRoutes, routes_of}
use Rattle.mn_settled_laws.proofs.Mapped.{flat_map_in}
use Rattle.mn_settled_laws.proofs.Changes.{AreSame}
use Rattle.mn_settled_laws.proofs.Exporting.{Tells, AllTell, tells-step}
use Rattle.mn_ledger.specs.Time.{clock_after}

-- 1. Over a journal

tells-on : (t : Network) → Apart t → JoinsNodes (wiring_of t) → EndsDiffer (wiring_of t)
    → (es : List JournalEntry) (tick : ℕ) (w : World) (k : Packets) (i : ℕ) (ps : List (List ℕ)) → IsLawfulFrom t tick w k i es ps → IsInTurn t w
    → HasStatics t w.config.statics → AllTell t w.config w.peerings
    → AllTell t (world_from t w es).config (world_from t w es).peerings
tells-on t apart joins differ [] tick w k i ps lawful g statics h = h
tells-on t apart joins differ (e ∷ es) tick w k i ps lawful g statics h =
    let full = not_empty t w k i e.step (next_of ps) lawful.2 in
    let later = statics_go t w k i e.step (next_of ps) lawful.2 statics in
    tells-on t apart joins differ es (clock_after e) (after t w e.step) (packets_by t (after t w e.step) k e (next_of ps)) (i + 1) (left_by e.step ps) lawful.3
    (goes_step t apart joins differ w k e.step lawful.0 full g) later
    (tells-step t w k e.step (in_order t e.step lawful.0) full statics later g.bgp h)

tells-first : (t : Network) → AllTell t (start t).config (start t).peerings
tells-first t a b d i j = record { on = λ e. absurd (clash (sym e ∙ never)); off = λ e x m. m }
  where
    never : is_established (start t).config (start t).peerings a b ≡ false
    never = elim (leb_tells (suc a) b) [ inl q ↦ ap (λ x. (cond x false false) && nat_le 2 0) q.0 | inr q ↦ ap (λ x. (cond x false false) && nat_le 2 0) q.0 ]

pub all-tell : (t : Network) (es : List JournalEntry) (ps : List (List ℕ)) → IsLawful t → IsLawfulJournal t es ps
    → AllTell t (world_of t es).config (world_of t es).peerings
all-tell t es ps lawful journal =
    tells-on t (loopbacks_apart t lawful) lawful.joins_nodes lawful.ends_differ es 0 (start t) no_packets 0 ps journal (begins t) (first_statics t lawful)
    (tells-first t)

pub tell_their_exports : (t : Network) (es : List JournalEntry) (ps : List (List ℕ)) → IsLawful t → IsLawfulJournal t es ps → TellTheirExports t (world_of t es)
tell_their_exports t es ps lawful journal a b x d i j =
    let w : World = world_of t es in
    let h : Tells t w.config w.peerings a b = all-tell t es ps lawful journal a b d (in_contained (edges t) a i) (in_contained (edges t) b j) in
    record {
      only = λ c. only w h (in_contained (believed_from [] (w.peerings.told a b)) x c);
      all = λ on c. contained_in (believed_from [] (w.peerings.told a b)) x ((h.on on x).1 (in_contained (exports_of t w.config a) x c));
    }
  where
    only : (w : World) → Tells t w.config w.peerings a b → In (believed_from [] (w.peerings.told a b)) x
        → (is_established w.config w.peerings a b ≡ true) × Contains (exports_of t w.config a) x
    only w h m = either (is_established w.config w.peerings a b) refl
      where
        either : (on : Bool) → is_established w.config w.peerings a b ≡ on
            → (is_established w.config w.peerings a b ≡ true) × Contains (exports_of t w.config a) x
        either true e = (e, contained_in (exports_of t w.config a) x ((h.on e x).0 m))
        either false e = absurd (h.off e x m)

-- 2. Where all is received, both ends of a session are Established

told-so-far : (k : ℕ) (xs : List Telling) → IsPeerTalk k xs → (1 ≤ length xs) × (1 ≤ k → 2 ≤ length xs)
told-so-far zero xs h = (omega (arith, ap length h), λ l. absurd (none l))
  where
    none : 1 ≤ 0 → ⊥
    none l = omega (arith, l)
told-so-far (suc zero) xs h = (omega (arith, ap length h), λ l. omega (arith, ap length h))
told-so-far (suc (suc k)) xs h = (omega (arith, ap length h.1), λ l. omega (arith, ap length h.1))

module _ (t : Network) (w : World) (turn : IsInTurn t w) (settled : IsSettled t w) (tell : AllTell t w.config w.peerings) where
  edge-is : (e : ℕ) → In (edges t) e → is_edge t.vrfs e ≡ true
  edge-is e i = (in_filter (λ node. is_edge t.vrfs node) (range_with_len 0 (length t.loopbacks)) e i).1

  established : (a b : ℕ) → a ≢ b → In (edges t) a → In (edges t) b → is_established w.config w.peerings a b ≡ true
  established a b d i j =
      let live : peers_live w.config a b ≡ true = settled.peered a b d (edge-is a i) (edge-is b j) in
      let back : peers_live w.config b a ≡ true = settled.peered b a (λ e. d (sym e)) (edge-is b j) (edge-is a i) in
      let one = told-so-far (w.peerings.heard a b) (w.peerings.told a b) ((turn.bgp a b d).talk live) in
      let other = told-so-far (w.peerings.heard b a) (w.peerings.told b a) ((turn.bgp b a (λ e. d (sym e))).talk back) in
      let heard_one : w.peerings.heard a b ≡ length (w.peerings.told b a) = settled.told a b d (edge-is a i) (edge-is b j) in
      let heard_other : w.peerings.heard b a ≡ length (w.peerings.told a b) = settled.told b a (λ e. d (sym e)) (edge-is b j) (edge-is a i) in
      ap (λ x. x && nat_le 2 (w.peerings.heard a b)) live
      ∙ at_most_is 2 (w.peerings.heard a b) (subst (λ n. 2 ≤ n) (sym heard_one) (other.1 (subst (λ n. 1 ≤ n) (sym heard_other) one.0)))

  -- an edge believes what its peer exports
  believes : (edge peer : ℕ) → edge ≢ peer → In (edges t) edge → In (edges t) peer
      → AreSame (believed w.config w.peerings edge peer) (exports_of t w.config peer)
  believes edge peer d i j =
      subst (λ ys. AreSame ys (exports_of t w.config peer)) (sym is) ((tell peer edge (λ e. d (sym e)) j i).on (established peer edge (λ e. d (sym e)) j i))
    where
      is : believed w.config w.peerings edge peer ≡ believed_from [] (w.peerings.told peer edge)
      is =
          ap (λ b. if b then believed_from [] (heard_of w.peerings edge peer) else []) (settled.peered edge peer d (edge-is edge i) (edge-is peer j))
          ∙ ap (λ n. believed_from [] (take n (w.peerings.told peer edge))) (settled.told edge peer d (edge-is edge i) (edge-is peer j))
          ∙ ap (believed_from []) (take_all (length (w.peerings.told peer edge)) (w.peerings.told peer edge) (omega arith))

  map_in : {A B : Type 0} (f : A → B) (xs : List A) (x : A) → In xs x → In (map f xs) (f x)
  map_in f [] x i = absurd i
  map_in f (y ∷ ys) x i = elim i [ inl e ↦ inl (ap f e) | inr j ↦ inr (map_in f ys x j) ]

  abbrev route_from : ℕ → Export → HeldRoute
  route_from peer export = held_by peer (Far (loopback t peer) (vrf_at t export.vrf).rd.0) export

  -- the routes of one list of exports are those of another with the same
  same-routes : (v peer : ℕ) (xs ys : List Export) → ((x : Export) → In xs x → In ys x) → (r : HeldRoute)
      → In (map (route_from peer) (imported w.config v xs)) r → In (map (route_from peer) (imported w.config v ys)) r
  same-routes v peer xs ys same r i =
      let m = in_map (route_from peer) (imported w.config v xs) r i in
      let f = in_filter (λ (export : Export). meet export.targets (w.config.imports v)) xs m.0 m.1 in
      subst (In (map (route_from peer) (imported w.config v ys))) m.2
      (map_in (route_from peer) (imported w.config v ys) m.0
      (filter_in (λ (export : Export). meet export.targets (w.config.imports v)) ys m.0 (same m.0 f.0) f.1))

  not-self : (edge peer : ℕ) → not (peer == edge) ≡ true → edge ≢ peer
  not-self edge peer h e = clash (sym h ∙ ap not (elim (eqb_tells peer edge) [ inl q ↦ q.0 | inr q ↦ absurd (q.1 (sym e)) ]))

  others-same : (edge v : ℕ) → In (edges t) edge → (r : HeldRoute)
      → (In (flat_map (far_routes t w.config w.peerings edge v) (filter (λ peer. not (peer == edge)) (edges t))) r
      → In (flat_map (routes.exported_by t w.config v) (filter (λ peer. not (peer == edge)) (edges t))) r)
      × (In (flat_map (routes.exported_by t w.config v) (filter (λ peer. not (peer == edge)) (edges t))) r
      → In (flat_map (far_routes t w.config w.peerings edge v) (filter (λ peer. not (peer == edge)) (edges t))) r)
  others-same edge v i r = (
    λ h.
        let m = in_flat_map (far_routes t w.config w.peerings edge v) (filter (λ peer. not (peer == edge)) (edges t)) r h in
        let f = in_filter (λ peer. not (peer == edge)) (edges t) m.0 m.1 in
        flat_map_in (routes.exported_by t w.config v) (filter (λ peer. not (peer == edge)) (edges t)) m.0 r m.1
        (same-routes v m.0 (believed w.config w.peerings edge m.0) (exports_of t w.config m.0)
        (λ x k. (believes edge m.0 (not-self edge m.0 f.1) i f.0 x).0 k) r m.2),
    λ h.
        let m = in_flat_map (routes.exported_by t w.config v) (filter (λ peer. not (peer == edge)) (edges t)) r h in
        let f = in_filter (λ peer. not (peer == edge)) (edges t) m.0 m.1 in
        flat_map_in (far_routes t w.config w.peerings edge v) (filter (λ peer. not (peer == edge)) (edges t)) m.0 r m.1
        (same-routes v m.0 (exports_of t w.config m.0) (believed w.config w.peerings edge m.0)
        (λ x k. (believes edge m.0 (not-self edge m.0 f.1) i f.0 x).1 k) r m.2),
  )

  -- the third part alone differs
  third : (xs ys zs us : List HeldRoute) (r : HeldRoute) → (In zs r → In us r) → In (xs ++ (ys ++ zs)) r → In (xs ++ (ys ++ us)) r
  third xs ys zs us r h i = elim (in_append xs (ys ++ zs) r i) [
    | inl j ↦ in_front xs (ys ++ us) r j
    | inr j ↦ elim (in_append ys zs r j) [
      | inl k ↦ in_rest xs (ys ++ us) r (in_front ys us r k)
      | inr k ↦ in_rest xs (ys ++ us) r (in_rest ys us r (h k))
    ]
  ]

  pub holds : (edge v : ℕ) → In (edges t) edge → (r : HeldRoute) → HoldsItsRoutes t w edge v r
  unfolding held
  holds edge v i r =
      let same = others-same edge v i r in
      let far = flat_map (far_routes t w.config w.peerings edge v) (filter (λ peer. not (peer == edge)) (edges t)) in
      let exported = flat_map (routes.exported_by t w.config v) (filter (λ peer. not (peer == edge)) (edges t)) in
      record {
        only =
            λ c. contained_in (routes_of t w.config edge v) r (third (own_routes t w.config edge v) (near_routes t w.config edge v) far exported r same.0
            (in_contained (held t w.config w.peerings edge v) r c));
        all =
            λ c. contained_in (held t w.config w.peerings edge v) r
            (third (own_routes t w.config edge v) (near_routes t w.config edge v) exported far r same.1 (in_contained (routes_of t w.config edge v) r c));
      }

  -- 3. Behind each route is the present attachment of its site, at an edge

  present-attached : (c : Config) (v : ℕ) (ts : List ℕ) (x : Export) → Behind t c v ts x → c.attached x.site ≡ Some x.attachment
  unfolding Behind
  present-attached c v ts x b =
      subst (λ (e : Export). c.attached e.site ≡ Some e.attachment) b.3 (here (c.attached b.0.site) (and_right _ _ b.2))
    where
      here : (o : Option ℕ) → is_some o ≡ true → o ≡ Some (unwrap_or o 0)
      here None e = absurd (clash (sym e))
      here (Some n) e = refl

  abbrev IsBehind : HeldRoute → Type 0
  IsBehind r = (w.config.attached r.site ≡ Some r.attachment) × In (edges t) r.edge

  export-attached : (edge : ℕ) (x : Export) → In (exports_of t w.config edge) x → w.config.attached x.site ≡ Some x.attachment
  export-attached edge x i = present-attached w.config x.vrf (w.config.exports x.vrf) x (exported_by t w.config edge x i).1

  route-attached : (edge v : ℕ) (r : HeldRoute) → In (edges t) edge → In (routes_of t w.config edge v) r → IsBehind r
  route-attached edge v r i h =
      elim (in_append (own_routes t w.config edge v) (near_routes t w.config edge v
      ++ flat_map (routes.exported_by t w.config v) (filter (λ peer. not (peer == edge)) (edges t))) r h) [
        | inl j ↦
            let m = in_map (held_by edge Own) (present_with t w.config v []) r j in
            subst IsBehind m.2 (present-attached w.config v [] m.0 (behind t w.config v [] m.0 m.1), i)
        | inr j ↦ elim (in_append (near_routes t w.config edge v)
            (flat_map (routes.exported_by t w.config v) (filter (λ peer. not (peer == edge)) (edges t))) r j) [
              | inl k ↦
                  let m = in_map (λ (export : Export). held_by edge (Near export.vrf) export)
                  (imported w.config v (filter (λ export. not (export.vrf == v)) (exports_of t w.config edge))) r k in
                  let f = in_filter (λ (export : Export). meet export.targets (w.config.imports v))
                  (filter (λ export. not (export.vrf == v)) (exports_of t w.config edge)) m.0 m.1 in
                  let g = in_filter (λ (export : Export). not (export.vrf == v)) (exports_of t w.config edge) m.0 f.0 in
                  subst IsBehind m.2 (export-attached edge m.0 g.0, i)
              | inr k ↦
                  let n = in_flat_map (routes.exported_by t w.config v) (filter (λ peer. not (peer == edge)) (edges t)) r k in
                  let m = in_map (route_from n.0) (imported w.config v (exports_of t w.config n.0)) r n.2 in
                  let f = in_filter (λ (export : Export). meet export.targets (w.config.imports v)) (exports_of t w.config n.0) m.0 m.1 in
                  subst IsBehind m.2 (export-attached n.0 m.0 f.0, (in_filter (λ peer. not (peer == edge)) (edges t) n.0 n.1).0)
            ]
      ]

  first-in : (rs : List HeldRoute) (r : HeldRoute) → first_of rs ≡ Some r → In rs r
  first-in [] r e = absurd (none e)
    where
      none : None ≡ Some r → ⊥
      none e = cc
  first-in (x ∷ rs) r e = inl (ap (λ o. elim o as (λ _. HeldRoute) [ None ↦ x | Some z ↦ z ]) e)

  best-in : (rs : List HeldRoute) (address : ℕ) (r : HeldRoute) → best rs address ≡ Some r → In rs r
  best-in rs address r e =
      (in_filter (λ route. contains route.prefix address) rs r
      (in_filter (λ route. not (list_any (λ other. is_better other route) (matching address rs))) (matching address rs) r
      (first-in (unbeaten (matching address rs)) r e)).0).0

  pub best-attached : (edge v address : ℕ) (r : HeldRoute) → In (edges t) edge → best (eligible t w edge v address) address ≡ Some r
      → (w.config.attached r.site ≡ Some r.attachment) × In (edges t) r.edge
  best-attached edge v address r i e =
      route-attached edge v r i (in_contained (routes_of t w.config edge v) r
      ((holds edge v i r).only (contained_in (held t w.config w.peerings edge v) r
      (in_those _ (is_resolved t w edge) (held t w.config w.peerings edge v) r (best-in (eligible t w edge v address) address r e)))))

pub hold_their_routes : (t : Network) (es : List JournalEntry) (ps : List (List ℕ)) → IsLawful t → IsLawfulJournal t es ps → IsSettled t (world_of t es)
    → (edge v : ℕ) (route : HeldRoute) → Contains (edges t) edge → HoldsItsRoutes t (world_of t es) edge v route
hold_their_routes t es ps lawful journal settled edge v route i =
    holds t (world_of t es) (in_turn t es ps lawful journal) settled (all-tell t es ps lawful journal) edge v (in_contained (edges t) edge i) route
