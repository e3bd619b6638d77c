-- In a network at rest each VRF holds the routes that the present configuration gives it.
use Rattle.std.proofs.Common.{ℕ, zero, suc, ◌≡◌, ◌≢◌, ◌≤◌, inl, inr, Bool, true, false, List, [], ◌∷◌, ◌++◌, map, filter, length, take, refl}
use Rattle.std.proofs.Common.{arith, sym, ◌∙◌, ap, subst, Option, None, Some}
use Rattle.std.specs.Prelude.{◌==◌, ◌&&◌, not, nat_le, is_some, unwrap_or, if◌then◌else◌}
use Rattle.std.specs.List.{flat_map, range_with_len, list_any}
use Rattle.std.proofs.lemmas.Bool.Decides.{eqb_tells}
use Rattle.std.proofs.lemmas.List.{take_all}
use Rattle.mn_topo.specs.VrfTable.{is_edge}
use Rattle.mn_topo.specs.Network.{Network}
use Rattle.mn_base.proofs.Bools.{clash, at_most_is}
use Rattle.mn_ledger.specs.Places.{loopback, vrf_at, edges}
use Rattle.mn_ledger.specs.World.{Config, Export, Telling, World}
use Rattle.mn_ledger.specs.Exports.{exports_of, present_with}
use Rattle.mn_ledger.specs.Bgp.{peers_live, is_established}
use Rattle.mn_ledger.specs.Held.{HeldRoute, Own, Near, Far, held_by, own_routes, near_routes, imported}
use Rattle.mn_ledger.specs.Exports.{meet}
use Rattle.mn_ledger.specs.Held.{heard_of, believed, believed_from, far_routes, held, is_better, matching, unbeaten, first_of, best}
use Rattle.mn_ledger.specs.Turns.{IsInTurn, IsPeerTalk}
use Rattle.mn_prefix.specs.Prefix.{contains}
use Rattle.mn_ledger.proofs.Members.{In, in_append, in_front, in_rest, in_map, in_filter, filter_in, in_flat_map}
use Rattle.mn_ledger.proofs.Tellings.{Behind, behind, exported_by}
use Rattle.mn_ledger.proofs.Peers.{and_right}
use Rattle.mn_settled_laws.specs.Routes as routes
use Rattle.mn_reach_laws.specs.Rest.{IsAtRest}
use Rattle.mn_reach_laws.specs.Fates.{routes_at_rest}
use Rattle.mn_settled_laws.proofs.Mapped.{flat_map_in}
use Rattle.mn_settled_laws.proofs.Changes.{AreSame}
use Rattle.mn_settled_laws.proofs.Exporting.{AllTell}
use Rattle.mn_ledger.proofs.Peers.{live_sym}
use Rattle.mn_base.proofs.Bools.{and_parts}

told-so-far : (k : ℕ) (xs : List Telling) → IsPeerTalk k xs → (1 ≤ length xs) × (1 ≤ k → 2 ≤ length xs)
told-so-far zero xs h = (omega (arith, ap length h), λ l. absurd (none l))
  where
    none : 1 ≤ 0 → ⊥
    none l = omega (arith, l)
told-so-far (suc zero) xs h = (omega (arith, ap length h), λ l. omega (arith, ap length h))
told-so-far (suc (suc k)) xs h = (omega (arith, ap length h.1), λ l. omega (arith, ap length h.1))

module _ (t : Network) (w : World) (turn : IsInTurn t w) (rest : IsAtRest t w) (tell : AllTell t w.config w.peerings) where
  edge-is : (e : ℕ) → In (edges t) e → is_edge t.vrfs e ≡ true
  edge-is e i = (in_filter (λ node. is_edge t.vrfs node) (range_with_len 0 (length t.loopbacks)) e i).1

  established : (a b : ℕ) → a ≢ b → In (edges t) a → In (edges t) b → peers_live w.config a b ≡ true → is_established w.config w.peerings a b ≡ true
  established a b d i j live =
      let back : peers_live w.config b a ≡ true = sym (live_sym w.config a b d) ∙ live in
      let one = told-so-far (w.peerings.heard a b) (w.peerings.told a b) ((turn.bgp a b d).talk live) in
      let other = told-so-far (w.peerings.heard b a) (w.peerings.told b a) ((turn.bgp b a (λ e. d (sym e))).talk back) in
      let heard_one : w.peerings.heard a b ≡ length (w.peerings.told b a) = rest.told a b d (edge-is a i) (edge-is b j) live in
      let heard_other : w.peerings.heard b a ≡ length (w.peerings.told a b) = rest.told b a (λ e. d (sym e)) (edge-is b j) (edge-is a i) back in
      ap (λ x. x && nat_le 2 (w.peerings.heard a b)) live
      ∙ at_most_is 2 (w.peerings.heard a b) (subst (λ n. 2 ≤ n) (sym heard_one) (other.1 (subst (λ n. 1 ≤ n) (sym heard_other) one.0)))

  -- an edge believes what its peer exports, where their session lives
  believes : (edge peer : ℕ) → edge ≢ peer → In (edges t) edge → In (edges t) peer → peers_live w.config edge peer ≡ true
      → AreSame (believed w.config w.peerings edge peer) (exports_of t w.config peer)
  believes edge peer d i j live =
      subst (λ ys. AreSame ys (exports_of t w.config peer)) (sym is)
      ((tell peer edge (λ e. d (sym e)) j i).on (established peer edge (λ e. d (sym e)) j i (sym (live_sym w.config edge peer d) ∙ live)))
    where
      is : believed w.config w.peerings edge peer ≡ believed_from [] (w.peerings.told peer edge)
      is =
          ap (λ b. if b then believed_from [] (heard_of w.peerings edge peer) else []) live
          ∙ ap (λ n. believed_from [] (take n (w.peerings.told peer edge))) (rest.told edge peer d (edge-is edge i) (edge-is peer j) live)
          ∙ ap (believed_from []) (take_all (length (w.peerings.told peer edge)) (w.peerings.told peer edge) (omega arith))

  map_in : {A B : Type 0} (f : A → B) (xs : List A) (x : A) → In xs x → In (map f xs) (f x)
  map_in f [] x i = absurd i
  map_in f (y ∷ ys) x i = elim i [ inl e ↦ inl (ap f e) | inr j ↦ inr (map_in f ys x j) ]

  abbrev route_from : ℕ → Export → HeldRoute
  route_from peer export = held_by peer (Far (loopback t peer) (vrf_at t export.vrf).rd.0) export

  -- the routes of one list of exports are those of another with the same
  same-routes : (v peer : ℕ) (xs ys : List Export) → ((x : Export) → In xs x → In ys x) → (r : HeldRoute)
      → In (map (route_from peer) (imported w.config v xs)) r → In (map (route_from peer) (imported w.config v ys)) r
  same-routes v peer xs ys same r i =
      let m = in_map (route_from peer) (imported w.config v xs) r i in
      let f = in_filter (λ (export : Export). meet export.targets (w.config.imports v)) xs m.0 m.1 in
      subst (In (map (route_from peer) (imported w.config v ys))) m.2
      (map_in (route_from peer) (imported w.config v ys) m.0
      (filter_in (λ (export : Export). meet export.targets (w.config.imports v)) ys m.0 (same m.0 f.0) f.1))

  not-self : (edge peer : ℕ) → not (peer == edge) ≡ true → edge ≢ peer
  not-self edge peer h e = clash (sym h ∙ ap not (elim (eqb_tells peer edge) [ inl q ↦ q.0 | inr q ↦ absurd (q.1 (sym e)) ]))

  abbrev is_peer : ℕ → ℕ → Bool
  is_peer edge peer = not (peer == edge) && peers_live w.config edge peer

  abbrev far_of : ℕ → ℕ → List HeldRoute
  far_of edge v = flat_map (far_routes t w.config w.peerings edge v) (filter (λ peer. not (peer == edge)) (edges t))

  abbrev exported_to : ℕ → ℕ → List HeldRoute
  exported_to edge v = flat_map (routes.exported_by t w.config v) (filter (is_peer edge) (edges t))

  -- from a session that is gone nothing is believed
  from-none : (edge v peer : ℕ) (r : HeldRoute) → peers_live w.config edge peer ≡ false → In (far_routes t w.config w.peerings edge v peer) r → ⊥
  from-none edge v peer r dead i =
      let m = in_map (route_from peer) (imported w.config v (believed w.config w.peerings edge peer)) r i in
      let f = in_filter (λ (export : Export). meet export.targets (w.config.imports v)) (believed w.config w.peerings edge peer) m.0 m.1 in
      subst (λ xs. In xs m.0) (ap (λ b. if b then believed_from [] (heard_of w.peerings edge peer) else []) dead) f.0

  there : (edge v : ℕ) → In (edges t) edge → (r : HeldRoute) → In (far_of edge v) r → In (exported_to edge v) r
  there edge v i r h =
      let m = in_flat_map (far_routes t w.config w.peerings edge v) (filter (λ peer. not (peer == edge)) (edges t)) r h in
      let f = in_filter (λ peer. not (peer == edge)) (edges t) m.0 m.1 in
      by_live m.0 f.0 f.1 m.2 (peers_live w.config edge m.0) refl
    where
      by_live : (peer : ℕ) → In (edges t) peer → not (peer == edge) ≡ true → In (far_routes t w.config w.peerings edge v peer) r
          → (b : Bool) → peers_live w.config edge peer ≡ b → In (exported_to edge v) r
      by_live peer j other k false dead = absurd (from-none edge v peer r dead k)
      by_live peer j other k true live =
          flat_map_in (routes.exported_by t w.config v) (filter (is_peer edge) (edges t)) peer r
          (filter_in (is_peer edge) (edges t) peer j (ap (λ b. b && peers_live w.config edge peer) other ∙ live))
          (same-routes v peer (believed w.config w.peerings edge peer) (exports_of t w.config peer)
          (λ x q. (believes edge peer (not-self edge peer other) i j live x).0 q) r k)

  back : (edge v : ℕ) → In (edges t) edge → (r : HeldRoute) → In (exported_to edge v) r → In (far_of edge v) r
  back edge v i r h =
      let m = in_flat_map (routes.exported_by t w.config v) (filter (is_peer edge) (edges t)) r h in
      let f = in_filter (is_peer edge) (edges t) m.0 m.1 in
      let both = and_parts (not (m.0 == edge)) (peers_live w.config edge m.0) f.1 in
      flat_map_in (far_routes t w.config w.peerings edge v) (filter (λ peer. not (peer == edge)) (edges t)) m.0 r
      (filter_in (λ peer. not (peer == edge)) (edges t) m.0 f.0 both.0)
      (same-routes v m.0 (exports_of t w.config m.0) (believed w.config w.peerings edge m.0)
      (λ x q. (believes edge m.0 (not-self edge m.0 both.0) i f.0 both.1 x).1 q) r m.2)

  -- the third part alone differs
  third : (xs ys zs us : List HeldRoute) (r : HeldRoute) → (In zs r → In us r) → In (xs ++ (ys ++ zs)) r → In (xs ++ (ys ++ us)) r
  third xs ys zs us r h i = elim (in_append xs (ys ++ zs) r i) [
    | inl j ↦ in_front xs (ys ++ us) r j
    | inr j ↦ elim (in_append ys zs r j) [
      | inl k ↦ in_rest xs (ys ++ us) r (in_front ys us r k)
      | inr k ↦ in_rest xs (ys ++ us) r (in_rest ys us r (h k))
    ]
  ]

  pub held-there : (edge v : ℕ) → In (edges t) edge → (r : HeldRoute) → In (held t w.config w.peerings edge v) r → In (routes_at_rest t w.config edge v) r
  unfolding held
  held-there edge v i r h = third (own_routes t w.config edge v) (near_routes t w.config edge v) (far_of edge v) (exported_to edge v) r (there edge v i r) h

  pub held-back : (edge v : ℕ) → In (edges t) edge → (r : HeldRoute) → In (routes_at_rest t w.config edge v) r → In (held t w.config w.peerings edge v) r
  unfolding held
  held-back edge v i r h = third (own_routes t w.config edge v) (near_routes t w.config edge v) (exported_to edge v) (far_of edge v) r (back edge v i r) h

  -- 3. Behind each route is the present attachment of its site, at an edge

  present-attached : (c : Config) (v : ℕ) (ts : List ℕ) (x : Export) → Behind t c v ts x → c.attached x.site ≡ Some x.attachment
  unfolding Behind
  present-attached c v ts x b =
      subst (λ (e : Export). c.attached e.site ≡ Some e.attachment) b.3 (here (c.attached b.0.site) (and_right _ _ b.2))
    where
      here : (o : Option ℕ) → is_some o ≡ true → o ≡ Some (unwrap_or o 0)
      here None e = absurd (clash (sym e))
      here (Some n) e = refl

  abbrev pub IsBehind : HeldRoute → Type 0
  IsBehind r = (w.config.attached r.site ≡ Some r.attachment) × In (edges t) r.edge

  export-attached : (edge : ℕ) (x : Export) → In (exports_of t w.config edge) x → w.config.attached x.site ≡ Some x.attachment
  export-attached edge x i = present-attached w.config x.vrf (w.config.exports x.vrf) x (exported_by t w.config edge x i).1

  pub route-attached : (edge v : ℕ) (r : HeldRoute) → In (edges t) edge → In (routes_at_rest t w.config edge v) r → IsBehind r
  route-attached edge v r i h =
      elim (in_append (own_routes t w.config edge v) (near_routes t w.config edge v
      ++ flat_map (routes.exported_by t w.config v) (filter (is_peer edge) (edges t))) r h) [
        | inl j ↦
            let m = in_map (held_by edge Own) (present_with t w.config v []) r j in
            subst IsBehind m.2 (present-attached w.config v [] m.0 (behind t w.config v [] m.0 m.1), i)
        | inr j ↦ elim (in_append (near_routes t w.config edge v)
            (flat_map (routes.exported_by t w.config v) (filter (is_peer edge) (edges t))) r j) [
              | inl k ↦
                  let m = in_map (λ (export : Export). held_by edge (Near export.vrf) export)
                  (imported w.config v (filter (λ export. not (export.vrf == v)) (exports_of t w.config edge))) r k in
                  let f = in_filter (λ (export : Export). meet export.targets (w.config.imports v))
                  (filter (λ export. not (export.vrf == v)) (exports_of t w.config edge)) m.0 m.1 in
                  let g = in_filter (λ (export : Export). not (export.vrf == v)) (exports_of t w.config edge) m.0 f.0 in
                  subst IsBehind m.2 (export-attached edge m.0 g.0, i)
              | inr k ↦
                  let n = in_flat_map (routes.exported_by t w.config v) (filter (is_peer edge) (edges t)) r k in
                  let m = in_map (route_from n.0) (imported w.config v (exports_of t w.config n.0)) r n.2 in
                  let f = in_filter (λ (export : Export). meet export.targets (w.config.imports v)) (exports_of t w.config n.0) m.0 m.1 in
                  subst IsBehind m.2 (export-attached n.0 m.0 f.0, (in_filter (is_peer edge) (edges t) n.0 n.1).0)
            ]
      ]

  first-in : (rs : List HeldRoute) (r : HeldRoute) → first_of rs ≡ Some r → In rs r
  first-in [] r e = absurd (none e)
    where
      none : None ≡ Some r → ⊥
      none e = cc
  first-in (x ∷ rs) r e = inl (ap (λ o. elim o as (λ _. HeldRoute) [ None ↦ x | Some z ↦ z ]) e)

  pub best-in : (rs : List HeldRoute) (address : ℕ) (r : HeldRoute) → best rs address ≡ Some r → In rs r
  best-in rs address r e =
      (in_filter (λ route. contains route.prefix address) rs r
      (in_filter (λ route. not (list_any (λ other. is_better other route) (matching address rs))) (matching address rs) r
      (first-in (unbeaten (matching address rs)) r e)).0).0
