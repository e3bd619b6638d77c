-- Under a failure a VRF has one route of each prefix from each source, so the first that is told is the best.
use Rattle.std.proofs.Common.{ℕ, ◌≡◌, inl, inr, Bool, true, List, [], ◌++◌, map, filter, length, arith, sym, ◌∙◌, ap, subst}
use Rattle.std.specs.Prelude.{◌==◌, ◌&&◌, not, if◌then◌else◌}
use Rattle.std.specs.List.{flat_map}
use Rattle.std.proofs.lemmas.List.{take_all}
use Rattle.mn_base.proofs.Bools.{and_parts}
use Rattle.mn_topo.specs.Prefix.{IsPrefix}
use Rattle.mn_topo.specs.Network.{Network}
use Rattle.mn_topo.specs.Lawful.{IsLawful}
use Rattle.mn_ledger.specs.Places.{loopback, vrf_at, vrf_of, home_of, edges}
use Rattle.mn_ledger.specs.World.{Config, Export, Telling, Announcement, Peerings}
use Rattle.mn_ledger.specs.Exports.{meet, exports_of}
use Rattle.mn_ledger.specs.Bgp.{peers_live}
use Rattle.mn_ledger.specs.Held.{HeldRoute, Far, held_by, own_routes, near_routes, imported, heard_of, believed, believed_from, far_routes, held, best}
use Rattle.mn_ledger.specs.Best.{NamesTheBest}
use Rattle.mn_ledger.specs.Eligible.{only_if}
use Rattle.mn_ledger.specs.Ledger.{first_config}
use Rattle.mn_ledger.proofs.Eligible.{in_those}
use Rattle.mn_ledger.proofs.Members.{In, in_append, in_front, in_rest, in_map, in_filter, filter_in, in_flat_map}
use Rattle.mn_ledger.proofs.OneKind.{map_in, flat_map_in}
use Rattle.mn_ledger.proofs.Turning.{loopbacks_apart}
use Rattle.mn_ledger.proofs.Statics.{HasStatics, HasForms, first_statics, first_forms}
use Rattle.mn_ledger.proofs.Tellings.{Behind, exported_by, IsGoodExport, IsGood, AllGood}
use Rattle.mn_ledger.proofs.Held.{one_held, held_formed}
use Rattle.mn_ledger.proofs.Choice.{names_one}
use Rattle.mn_settled_laws.specs.Routes as routes
use Rattle.mn_settled_laws.proofs.Changes.{announced-all, exports-different}
use Rattle.mn_reach_laws.specs.Fates.{routes_at_rest, is_reached, taking_part, ends_towards}
use Rattle.mn_reach_laws.specs.Candidates.{AreCandidates, chosen}
use Rattle.mn_reach_laws.proofs.First.{chosen_is_best}
use Rattle.mn_failure_laws.specs.Failures.{Failure, config_under}
use Rattle.mn_failure_laws.specs.Fates.{fate_under}

-- 1. As if each edge had told all others what it exports, and they had received it

announce : List Export → List Telling
announce es = map (λ export. Announcement export) es

all_told : Network → Config → Peerings
all_told t c = record { told = λ edge peer. announce (exports_of t c edge); heard = λ edge peer. length (announce (exports_of t c peer)) }

module _ (t : Network) (c : Config) (statics : HasStatics t c.statics) (forms : HasForms c.statics) where
  good_export : (edge : ℕ) (x : Export) → In (exports_of t c edge) x → IsGoodExport t x
  unfolding Behind
  good_export edge x i =
      let e = exported_by t c edge x i in
      (e.0, subst (λ (y : Export). IsPrefix y.prefix.address y.prefix.length) e.1.3 (forms.formed e.1.0 e.1.1))

  all_good : AllGood t (all_told t c)
  unfolding all_told announce
  all_good edge peer m i =
      let e = in_map (λ export. Announcement export) (exports_of t c edge) m i in
      subst (IsGood t) e.2 (good_export edge e.0 e.1)

  -- then a peer's exports are believed where its session lives
  believes : (edge peer : ℕ) (x : Export) → peers_live c edge peer ≡ true → In (exports_of t c peer) x → In (believed c (all_told t c) edge peer) x
  unfolding all_told announce
  believes edge peer x live i =
      subst (λ es. In es x) (sym is) ((announced-all [] (exports_of t c peer) (λ y j. j) (exports-different t c peer statics) x).1 i)
    where
      is : believed c (all_told t c) edge peer ≡ believed_from [] (map (λ export. Announcement export) (exports_of t c peer))
      is =
          ap (λ b. if b then believed_from [] (heard_of (all_told t c) edge peer) else []) live
          ∙ ap (believed_from [])
          (take_all (length (map (λ export. Announcement export) (exports_of t c peer))) (map (λ export. Announcement export) (exports_of t c peer))
          (omega arith))

  abbrev route_from : ℕ → Export → HeldRoute
  route_from peer export = held_by peer (Far (loopback t peer) (vrf_at t export.vrf).rd.0) export

  from_peer : (edge v peer : ℕ) (r : HeldRoute) → peers_live c edge peer ≡ true → In (routes.exported_by t c v peer) r
      → In (far_routes t c (all_told t c) edge v peer) r
  from_peer edge v peer r live i =
      let m = in_map (route_from peer) (imported c v (exports_of t c peer)) r i in
      let g = in_filter (λ (export : Export). meet export.targets (c.imports v)) (exports_of t c peer) m.0 m.1 in
      subst (In (far_routes t c (all_told t c) edge v peer)) m.2
      (map_in (route_from peer) (imported c v (believed c (all_told t c) edge peer)) m.0
      (filter_in (λ (export : Export). meet export.targets (c.imports v)) (believed c (all_told t c) edge peer) m.0 (believes edge peer m.0 live g.0) g.1))

  abbrev is_peer : ℕ → ℕ → Bool
  is_peer edge peer = not (peer == edge) && peers_live c edge peer

  -- so its VRFs hold what the configuration gives them
  would_hold : (edge v : ℕ) (r : HeldRoute) → In (routes_at_rest t c edge v) r → In (held t c (all_told t c) edge v) r
  unfolding held
  would_hold edge v r i =
      elim (in_append (own_routes t c edge v) (near_routes t c edge v ++ flat_map (routes.exported_by t c v) (filter (is_peer edge) (edges t))) r i) [
        | inl j ↦ in_front (own_routes t c edge v) _ r j
        | inr j ↦ elim (in_append (near_routes t c edge v) (flat_map (routes.exported_by t c v) (filter (is_peer edge) (edges t))) r j) [
          | inl k ↦ in_rest (own_routes t c edge v) _ r (in_front (near_routes t c edge v) _ r k)
          | inr k ↦
              let m = in_flat_map (routes.exported_by t c v) (filter (is_peer edge) (edges t)) r k in
              let g = in_filter (is_peer edge) (edges t) m.0 m.1 in
              let both = and_parts (not (m.0 == edge)) (peers_live c edge m.0) g.1 in
              in_rest (own_routes t c edge v) _ r (in_rest (near_routes t c edge v) _ r
              (flat_map_in (far_routes t c (all_told t c) edge v) (filter (λ peer. not (peer == edge)) (edges t)) m.0 r
              (filter_in (λ peer. not (peer == edge)) (edges t) m.0 g.0 both.0) (from_peer edge v m.0 r both.1 m.2)))
        ]
      ]

  -- 2. The best of them is one

  names : IsLawful t → (edge v address : ℕ) (b : Bool) → NamesTheBest (only_if b (is_reached t c edge) (routes_at_rest t c edge v)) address
  names lawful edge v address b =
      let given = λ (r : HeldRoute) (i : In (only_if b (is_reached t c edge) (routes_at_rest t c edge v)) r).
      would_hold edge v r (in_those b (is_reached t c edge) (routes_at_rest t c edge v) r i) in
      names_one (only_if b (is_reached t c edge) (routes_at_rest t c edge v)) address
      (λ r i. held_formed t c (all_told t c) edge v r forms all_good (given r i))
      (λ r q i j source prefix. one_held t c (all_told t c) edge v r q lawful (loopbacks_apart t lawful) statics all_good (given r i) (given q j) source prefix)

pub first_told_is_best : (t : Network) (f : Failure) (edge v address : ℕ) (cs : List HeldRoute) → IsLawful t
    → AreCandidates t (config_under t f) edge v address cs
    → best (taking_part t (config_under t f) edge v address) address ≡ chosen t (config_under t f) edge cs
first_told_is_best t f edge v address cs lawful are =
    chosen_is_best t (config_under t f) edge v address cs (names t (config_under t f) (first_statics t lawful) (first_forms t lawful) lawful edge v address) are

-- 3. Candidates don't go by what fails

pub of_topology : (t : Network) (f : Failure) (edge v address : ℕ) (cs : List HeldRoute) → AreCandidates t (first_config t) edge v address cs
    → AreCandidates t (config_under t f) edge v address cs
of_topology t f edge v address cs are = record { only = are.only; all = are.all; ordered = are.ordered }

pub stay : (t : Network) (f g : Failure) (edge v address : ℕ) (cs : List HeldRoute) → AreCandidates t (config_under t f) edge v address cs
    → AreCandidates t (config_under t g) edge v address cs
stay t f g edge v address cs are = record { only = are.only; all = are.all; ordered = are.ordered }

pub by_the_chosen : (t : Network) (f g : Failure) (s ttl address : ℕ) (cs : List HeldRoute) → IsLawful t
    → AreCandidates t (config_under t g) (home_of t s) (vrf_of t s) address cs
    → fate_under t f s ttl address ≡ ends_towards t (config_under t f) (home_of t s) ttl (chosen t (config_under t f) (home_of t s) cs)
by_the_chosen t f g s ttl address cs lawful are =
    ap (ends_towards t (config_under t f) (home_of t s) ttl)
    (first_told_is_best t f (home_of t s) (vrf_of t s) address cs lawful (stay t g f (home_of t s) (vrf_of t s) address cs are))
