-- Where next hops are resolved, a packet for which some route is in reach arrives at the best of those that are.
use Rattle.std.proofs.Common.{ℕ, zero, suc, ◌≡◌, ◌≢◌, ◌+◌, ◌<◌, ◌≤◌, List, [], ◌∷◌, length, take, refl, arith, sym, ◌∙◌, ap, subst, Option, Some, None, Bool}
use Rattle.std.proofs.Common.{true, false}
use Rattle.std.proofs.Common.{inl, inr}
use Rattle.std.specs.Prelude.{◌==◌, ◌&&◌, ◌||◌, filter, is_some}
use Rattle.std.specs.List.{Contains, list_any}
use Rattle.std.proofs.lemmas.Bool.Decides.{eqb_tells}
use Rattle.std.proofs.lemmas.Bool.{ltb-true}
use Rattle.mn_base.proofs.Bools.{no, and_parts}
use Rattle.mn_topo.specs.Steps.{fits}
use Rattle.mn_topo.specs.Paths.{next, walk_end}
use Rattle.mn_ipv4.specs.Header.{ttl_of, destination_of}
use Rattle.mn_topo.specs.Network.{Network, wiring_of}
use Rattle.mn_topo.specs.Lawful.{IsLawful}
use Rattle.mn_topo.specs.declared.steps.JournalEntry.{JournalEntry}
use Rattle.mn_ledger.specs.Places.{home_of, vrf_of}
use Rattle.mn_ledger.specs.World.{World}
use Rattle.mn_ledger.specs.Transport.{known, offers, view_of}
use Rattle.mn_ledger.specs.Held.{HeldRoute, held, best, is_better}
use Rattle.mn_ledger.specs.Ledger.{world_of, packets_of}
use Rattle.mn_ledger.specs.Lawful.{IsLawfulJournal}
use Rattle.mn_ledger.specs.Settled.{hops_from}
use Rattle.mn_ledger.specs.Eligible.{is_resolved, covers, only_if, some_resolves, eligible, IsFairChoice}
use Rattle.mn_ledger.proofs.Members.{In, in_contained, contained_in, filter_in}
use Rattle.mn_ledger.proofs.OneKind.{one_passes}
use Rattle.mn_ledger.proofs.Eligible.{fair_choice}
use Rattle.mn_ledger_laws.specs.Accounts.{world_at, packets_at, Sending, routes_at}
use Rattle.mn_ledger_laws.specs.Named.{NamesItsSite}
use Rattle.mn_ledger_laws.proofs.At.{lawful_at, lawful_step}
use Rattle.mn_ledger_laws.proofs.Holding.{names_what_exists}
use Rattle.mn_ledger_laws.proofs.There.{vrf_there, home_there}
use Rattle.mn_settled_laws.specs.Ways.{Reaches, way, KnowTheWays}
use Rattle.mn_settled_laws.specs.Arrival.{route_to}
use Rattle.mn_settled_laws.proofs.Ways.{know_the_ways}
use Rattle.mn_arrival_laws.specs.Arrival.{IsSentInSteadyStretch, HasAWay, ReachesItsSite, ItArrives, IsInReach, MayArrive, ReachesASite, ArrivesWhereItCan}
use Rattle.mn_arrival_laws.proofs.Arriving.{it_arrives}

-- a route has no more nodes than it may have hops, and one
few_hops : (t : Network) (w : World) (k n p : ℕ) → length (hops_from t w k n p) ≤ k + 1
few_hops t w zero n p = omega arith
few_hops t w (suc k) n p = by (λ m. few_hops t w k m p) (next (wiring_of t) (view_of (wiring_of t) w.views n) n p)
  where
    one_more : (a b : ℕ) → a ≤ b + 1 → suc a ≤ suc b + 1
    one_more a b h = omega (arith, h)

    by : ((m : ℕ) → length (hops_from t w k m p) ≤ k + 1) → (o : Option (ℕ × ℕ))
        → length (elim o as (λ _. List ℕ) [ None ↦ n ∷ [] | Some hop ↦ n ∷ hops_from t w k hop.0 p ]) ≤ suc k + 1
    by rest None = omega arith
    by rest (Some hop) = one_more (length (hops_from t w k hop.0 p)) k (rest hop.0)

-- in a settled world a route is resolved exactly where its edge is reached
resolved_there : (t : Network) (w : World) (n p : ℕ) → KnowTheWays t w → n < length t.loopbacks → p < length t.loopbacks → Reaches t w n p
    → offers (wiring_of t) (known t w n) n p ≡ true
resolved_there t w n p ways below inside walk = elim (eqb_tells n p) [
  | inl e ↦ ap (λ b. b || is_some (way t w n p)) e.0
  | inr e ↦ ap (λ b. b || is_some (way t w n p)) e.0 ∙ ap is_some ((ways n p below inside).where_reached e.1 walk).1
]

reached_there : (t : Network) (w : World) (n p : ℕ) → KnowTheWays t w → n < length t.loopbacks → p < length t.loopbacks
    → offers (wiring_of t) (known t w n) n p ≡ true → Reaches t w n p
reached_there t w n p ways below inside on = elim (eqb_tells n p) [
  | inl e ↦ ([], ap (λ m. Some m) e.1)
  | inr e ↦ by (way t w n p) refl (ap (λ b. b || is_some (way t w n p)) (sym e.0) ∙ on)
]
  where
    by : (o : Option (ℕ × ℕ)) → way t w n p ≡ o → is_some o ≡ true → Reaches t w n p
    by None is some = absurd (no some)
    by (Some hop) is some = ((ways n p below inside).only_there hop is).1

module _ (t : Network) (lawful : IsLawful t) (es : List JournalEntry) (ps : List (List ℕ)) (journal : IsLawfulJournal t es ps)
    (s : Sending) (from to : ℕ) (on : t.resolve ≡ true) (stands : IsSentInSteadyStretch t es ps s from to)
    (may : MayArrive t (world_at t es from) s) where
  site_there : s.site < length t.sites
  site_there =
      ltb-true _ _ (and_parts _ _ (ap (fits t) (sym stands.sent.injects) ∙ (lawful_step t es ps s.place stands.sent.entry stands.sent.there journal).fitting)).0

  ways : KnowTheWays t (world_at t es from)
  ways = know_the_ways t (take from es) ps lawful (lawful_at t es ps from journal) stands.steady.settled

  fair : IsFairChoice t (world_at t es from) (home_of t s.site) (vrf_of t s.site) (destination_of s.bytes)
  fair = fair_choice t (take from es) ps lawful (lawful_at t es ps from journal) (home_of t s.site) (vrf_of t s.site) (destination_of s.bytes)

  edge_there : (x : HeldRoute) → Contains (routes_at t (world_at t es from) s.site) x → x.edge < length t.loopbacks
  edge_there x there =
      let named : NamesItsSite t (world_at t es from).config (home_of t s.site) x =
      (names_what_exists t (take from es) ps lawful (lawful_at t es ps from journal)).routes (vrf_of t s.site) x
      (vrf_there t s.site lawful site_there) there in
      subst (λ n. n < length t.loopbacks) named.home (home_there t x.site lawful named.site)

  home_below : home_of t s.site < length t.loopbacks
  home_below = home_there t s.site lawful site_there

  -- what is in reach is resolved
  is_on : (x : HeldRoute) → IsInReach t (world_at t es from) s x → is_resolved t (world_at t es from) (home_of t s.site) x ≡ true
  is_on x r = resolved_there t (world_at t es from) (home_of t s.site) x.edge ways home_below (edge_there x r.is_held) r.reached

  takes_part : (x : HeldRoute) → IsInReach t (world_at t es from) s x
      → Contains (eligible t (world_at t es from) (home_of t s.site) (vrf_of t s.site) (destination_of s.bytes)) x
  takes_part x r =
      let p : HeldRoute → Bool = is_resolved t (world_at t es from) (home_of t s.site) in
      let rs : List HeldRoute = routes_at t (world_at t es from) s.site in
      let a : ℕ = destination_of s.bytes in
      let among : In (filter p rs) x = filter_in p rs x (in_contained rs x r.is_held) (is_on x r) in
      let some : list_any (covers a) (filter p rs) ≡ true = one_passes (covers a) (filter p rs) x among r.matches in
      subst (λ b. Contains (only_if b p rs) x) (sym (ap (λ b. b && list_any (covers a) (filter p rs)) on ∙ some)) (contained_in (filter p rs) x among)

  by_choice : (o : Option HeldRoute)
      → best (eligible t (world_at t es from) (home_of t s.site) (vrf_of t s.site) (destination_of s.bytes)) (destination_of s.bytes) ≡ o
      → ReachesASite t (world_at t es from) (packets_of t es ps) s
  by_choice None e = absurd (no (sym (fair.none e may.some may.in_reach.is_held) ∙ may.in_reach.matches))
  by_choice (Some x) e =
      let top = fair.names.named x e in
      let there : Contains (routes_at t (world_at t es from) s.site) x = fair.is_held x top.held in
      let walk : Reaches t (world_at t es from) (home_of t s.site) x.edge = reached_there t (world_at t es from) (home_of t s.site) x.edge ways home_below
      (edge_there x there) (fair.found on x may.some e may.in_reach.is_held may.in_reach.matches (is_on may.some may.in_reach)) in
      record {
        route = x;
        in_reach = record { is_held = there; matches = top.matches; reached = walk };
        best_in_reach = λ other r. top.unbeaten other (takes_part other r) r.matches;
        reaches = it_arrives t es ps lawful journal s from to x stands (record {
          addressed = record { passes = may.passes; best_is = e };
          reached = walk;
          lives = enough _ (length t.loopbacks) _ (few_hops t (world_at t es from) (length t.loopbacks) (home_of t s.site) x.edge) may.lives;
        });
      }
    where
      enough : (a b c : ℕ) → a ≤ b + 1 → b + 2 ≤ c → a + 1 ≤ c
      enough a b c h g = omega (arith, h, g)

pub arrives_where_it_can : (t : Network) (es : List JournalEntry) (ps : List (List ℕ)) → IsLawful t → IsLawfulJournal t es ps → ArrivesWhereItCan t es ps
arrives_where_it_can t es ps lawful journal s from to on stands may =
    by_choice t lawful es ps journal s from to on stands may
    (best (eligible t (world_at t es from) (home_of t s.site) (vrf_of t s.site) (destination_of s.bytes)) (destination_of s.bytes)) refl
