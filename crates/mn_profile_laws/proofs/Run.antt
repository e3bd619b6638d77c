-- Where each node has one next hop a packet has one way: that of the ledger, in the network as the profile has it.
use Rattle.std.proofs.Common.{ℕ, zero, suc, ◌≡◌, Bool, true, false, cond, List, [], ◌∷◌, ◌++◌, map, filter, length, refl, ◌∙◌, ap}
use Rattle.std.proofs.Common.{Option, None, Some}
use Rattle.std.specs.Prelude.{◌==◌, ◌&&◌, ◌||◌, not, is_some, if◌then◌else◌}
use Rattle.std.specs.List.{flat_map, list_any}
use Rattle.mn_wiring.specs.Paths.{dist_in, dists_to, next}
use Rattle.mn_ipv4.specs.Header.{ttl_of, destination_of}
use Rattle.mn_topo.specs.Network.{Network, wiring_of}
use Rattle.mn_topo.specs.Lawful.{IsLawful}
use Rattle.mn_ledger.specs.Places.{home_of, vrf_of}
use Rattle.mn_ledger.specs.World.{Config}
use Rattle.mn_ledger.specs.Held.{HeldRoute, best}
use Rattle.mn_ledger.specs.Eligible.{covers, only_if}
use Rattle.mn_reach_laws.specs.Fates as fates
use Rattle.mn_reach_laws.specs.Fates.{up_links, before, over_hop, lsp_within, lsp_by, lsp, routes_at_rest, is_reached, ends_towards}
use Rattle.mn_failure_laws.specs.Failures.{Failure, config_under}
use Rattle.mn_failure_laws.specs.Fates.{fate_to, fate_under}
use Rattle.mn_failure_laws.proofs.Same.{same_filter}
use Rattle.mn_failure_laws.proofs.Fates.{come_to_their_fates}
use Rattle.mn_profile.specs.declared.switches.Resolve.{Resolve}
use Rattle.mn_profile.specs.declared.switches.Resolve.TheVariants.{AsTopology}
use Rattle.mn_profile.specs.declared.switches.Profile.{Profile}
use Rattle.mn_profile_laws.specs.Profiles.{of_run, of_one_hop, asks_links, network_under}
use Rattle.mn_profile_laws.specs.Paths.{list_of, over_each, lsps_within, lsps_by, lsps, has_some, some_lead}
use Rattle.mn_profile_laws.specs.Lookups.{Turn, Along, links_lead, labels_lead, is_resolved, taking_part, may_stand_aside, is_elsewhere, best_in_turn}
use Rattle.mn_profile_laws.specs.Lookups.{all_in_turn, chosen, unlabelled, turns_by}
use Rattle.mn_profile_laws.specs.Ways.{Way, Ends, ways_by, ways_from, ways_under}
use Rattle.mn_profile_laws.specs.Journals.{AllGoTheirOneWay}

abbrev paths_of : Option (List ℕ) → List (List ℕ)
paths_of None = []
paths_of (Some nodes) = nodes ∷ []

abbrev routes_of : Option HeldRoute → List HeldRoute
routes_of None = []
routes_of (Some route) = route ∷ []

pub same_only : (b : Bool) (p q : HeldRoute → Bool) (xs : List HeldRoute) → ((r : HeldRoute) → p r ≡ q r) → only_if b p xs ≡ only_if b q xs
same_only true p q xs h = same_filter p q xs (λ r i. h r)
same_only false p q xs h = refl

never_both : (x s : Bool) → (x && (s && not s)) ≡ false
never_both false s = refl
never_both true true = refl
never_both true false = refl

module _ (t : Network) (resolve : Resolve) (sync : Bool) (c : Config) (by_labels : asks_links resolve ≡ false) where
  abbrev p : Profile
  p = of_one_hop resolve sync

  -- 1. One path

  abbrev hop_of : ℕ → ℕ → Option (ℕ × ℕ)
  hop_of node to = next (wiring_of t) (up_links t c) node to

  over_one : (n node to : ℕ) (hop : ℕ × ℕ) → lsps_within t p c n hop.0 to ≡ paths_of (lsp_within t c n hop.0 to)
      → over_each c node (λ h. lsps_within t p c n h to) hop ++ [] ≡ paths_of (over_hop c node (λ h. lsp_within t c n h to) (Some hop))
  over_one n node to hop same = by_ldp (c.ldp_on hop.1)
    where
      by_rest : (o : Option (List ℕ)) → map (λ nodes. node ∷ nodes) (paths_of o) ++ [] ≡ paths_of (before node o)
      by_rest None = refl
      by_rest (Some nodes) = refl

      by_ldp : (b : Bool) → (elim b as (λ _. List (List ℕ)) [ true ↦ map (λ nodes. node ∷ nodes) (lsps_within t p c n hop.0 to) | false ↦ [] ]) ++ []
          ≡ paths_of (cond b (before node (lsp_within t c n hop.0 to)) None)
      by_ldp true = ap (λ ps. map (λ nodes. node ∷ nodes) ps ++ []) same ∙ by_rest (lsp_within t c n hop.0 to)
      by_ldp false = refl

  one_within : (n node to : ℕ) → lsps_within t p c n node to ≡ paths_of (lsp_within t c n node to)
  one_within zero node to = refl
  one_within (suc n) node to = by_end (λ m. one_within n m to) (node == to) (hop_of node to)
    where
      by_end : ((m : ℕ) → lsps_within t p c n m to ≡ paths_of (lsp_within t c n m to)) → (b : Bool) (o : Option (ℕ × ℕ))
          → (elim b as (λ _. List (List ℕ)) [
            | true ↦ (node ∷ []) ∷ []
            | false ↦ flat_map (over_each c node (λ hop. lsps_within t p c n hop to)) (list_of o)
          ])
          ≡ paths_of (cond b (Some (node ∷ [])) (over_hop c node (λ hop. lsp_within t c n hop to) o))
      by_end more true o = refl
      by_end more false None = refl
      by_end more false (Some hop) = over_one n node to hop (more hop.0)

  one_lsp : (node to : ℕ) → lsps t p c node to ≡ paths_of (lsp t c node to)
  one_lsp node to = by_cost (dist_in (dists_to (wiring_of t) (up_links t c) to) node)
    where
      by_cost : (o : Option ℕ) → lsps_by t p c node to o ≡ paths_of (lsp_by t c node to o)
      by_cost None = refl
      by_cost (Some cost) = one_within (suc cost) node to

  leads_so : (node to : ℕ) → some_lead t p c node to ≡ is_some (lsp t c node to)
  leads_so node to = ap has_some (one_lsp node to) ∙ by_path (lsp t c node to)
    where
      by_path : (o : Option (List ℕ)) → has_some (paths_of o) ≡ is_some o
      by_path None = refl
      by_path (Some nodes) = refl

  -- 2. One route

  resolved_so : (edge : ℕ) (r : HeldRoute) → is_resolved t p c edge r ≡ is_reached t c edge r
  resolved_so edge r = ap (λ b. if b then links_lead t c edge r else labels_lead t p c edge r) by_labels ∙ leads_so edge r.edge

  same_part : (edge v address : ℕ) → taking_part t p c edge v address ≡ fates.taking_part t c edge v address
  same_part edge v address = of_routes (routes_at_rest t c edge v)
    where
      of_routes : (rs : List HeldRoute)
          → only_if ((asks_links resolve || t.resolve) && list_any (covers address) (filter (is_resolved t p c edge) rs)) (is_resolved t p c edge) rs
          ≡ only_if (t.resolve && list_any (covers address) (filter (is_reached t c edge) rs)) (is_reached t c edge) rs
      of_routes rs =
          ap (λ b. only_if ((b || t.resolve) && list_any (covers address) (filter (is_resolved t p c edge) rs)) (is_resolved t p c edge) rs) by_labels
          ∙ ap (λ xs. only_if (t.resolve && list_any (covers address) xs) (is_resolved t p c edge) rs)
          (same_filter (is_resolved t p c edge) (is_reached t c edge) rs (λ r i. resolved_so edge r))
          ∙ same_only (t.resolve && list_any (covers address) (filter (is_reached t c edge) rs)) (is_resolved t p c edge) (is_reached t c edge) rs
          (resolved_so edge)

  abbrev later : ℕ → ℕ → ℕ → HeldRoute → List HeldRoute
  later edge v address route =
      best_in_turn (length (fates.taking_part t c edge v address)) (may_stand_aside t p c edge) address
      (filter (is_elsewhere route) (fates.taking_part t c edge v address))

  one_chosen : (edge v address : ℕ) → chosen t p c edge v address ≡ routes_of (best (fates.taking_part t c edge v address) address)
  one_chosen edge v address =
      ap (all_in_turn (may_stand_aside t p c edge) address) (same_part edge v address) ∙ by_best (best (fates.taking_part t c edge v address) address)
    where
      by_best : (o : Option HeldRoute)
          → (elim o as (λ _. List HeldRoute) [
            | None ↦ []
            | Some route ↦ route ∷ elim (may_stand_aside t p c edge route) as (λ _. List HeldRoute) [ true ↦ later edge v address route | false ↦ [] ]
          ])
          ≡ routes_of o
      by_best None = refl
      by_best (Some route) =
          ap (λ b. route ∷ elim b as (λ _. List HeldRoute) [ true ↦ later edge v address route | false ↦ [] ])
          (never_both t.resolve (some_lead t p c edge route.edge))

  -- 3. One way

  abbrev each_way : ℕ → ℕ → ℕ → ℕ → Turn → List Way
  each_way more edge ttl address turn = ways_by t p edge ttl (ways_from more t p c address) turn

  one_towards : (more edge ttl address : ℕ) (o : Option HeldRoute)
      → flat_map (each_way more edge ttl address) (turns_by t p c edge (routes_of o)) ≡ Ends (ends_towards t c edge ttl o) ∷ []
  one_towards more edge ttl address None = refl
  one_towards more edge ttl address (Some route) =
      ap (λ ps. flat_map (each_way more edge ttl address) ((map (λ nodes. Along route nodes) ps ++ []) ++ unlabelled (has_some ps || false)))
      (one_lsp edge route.edge)
      ∙ by_path (lsp t c edge route.edge)
    where
      by_path : (o : Option (List ℕ))
          → flat_map (each_way more edge ttl address) ((map (λ nodes. Along route nodes) (paths_of o) ++ []) ++ unlabelled (has_some (paths_of o) || false))
          ≡ Ends (fates.ends_over edge ttl route o) ∷ []
      by_path None = refl
      by_path (Some nodes) = refl

  pub one_of : (more s ttl address : ℕ) → ways_from (suc more) t p c address ttl (vrf_of t s) ≡ Ends (fate_to t c s ttl address) ∷ []
  one_of more s ttl address =
      ap (λ cs. flat_map (each_way more (home_of t s) ttl address) (turns_by t p c (home_of t s) cs)) (one_chosen (home_of t s) (vrf_of t s) address)
      ∙ one_towards more (home_of t s) ttl address (best (fates.taking_part t c (home_of t s) (vrf_of t s) address) address)

pub one_way : (t : Network) (resolve : Resolve) (sync : Bool) (f : Failure) (s ttl address : ℕ) → asks_links resolve ≡ false
    → ways_under t (of_one_hop resolve sync) f s ttl address
    ≡ Ends (fate_to (network_under t (of_one_hop resolve sync) (config_under t f)) (config_under t f) s ttl address) ∷ []
one_way t resolve sync f s ttl address by_labels =
    one_of (network_under t (of_one_hop resolve sync) (config_under t f)) resolve sync (config_under t f) by_labels (length t.vrfs) s ttl address

pub one_fate : (t : Network) (f : Failure) (s ttl address : ℕ) → ways_under t of_run f s ttl address ≡ Ends (fate_under t f s ttl address) ∷ []
one_fate t f s ttl address = one_way t AsTopology false f s ttl address refl

-- so in every lawful journal
pub in_journals : (t : Network) (f : Failure) → IsLawful t → AllGoTheirOneWay t f
in_journals t f lawful es ps sending from to stands = record {
  fate = fate_under t f sending.site (ttl_of sending.bytes) (destination_of sending.bytes);
  only = one_fate t f sending.site (ttl_of sending.bytes) (destination_of sending.bytes);
  has_it = come_to_their_fates t f lawful es ps sending from to stands;
}
