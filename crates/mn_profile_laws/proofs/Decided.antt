-- Where all nodes have chosen, what becomes of a packet is one of the ways that are told.
use Rattle.std.proofs.Common.{ℕ, suc, ◌≡◌, ◌<◌, inl, inr, Bool, true, false, List, [], ◌∷◌, filter, length, refl, arith, sym, ◌∙◌, ap, subst}
use Rattle.std.proofs.Common.{Option, None, Some}
use Rattle.std.specs.Prelude.{◌&&◌, ◌||◌, not, is_some, if◌then◌else◌}
use Rattle.std.specs.List.{Contains, flat_map, list_any}
use Rattle.mn_base.proofs.Bools.{no, clash}
use Rattle.mn_base.proofs.Members.{In, in_contained, contained_in, in_front, in_rest, map_in, in_filter, filter_in, flat_map_in, none_passes, passes_none}
use Rattle.mn_topo.specs.Network.{Network}
use Rattle.mn_ledger.specs.Places.{home_of, vrf_of}
use Rattle.mn_ledger.specs.World.{Config}
use Rattle.mn_ledger.specs.Held.{HeldRoute, best}
use Rattle.mn_ledger.specs.Eligible.{covers, only_if}
use Rattle.mn_ledger.proofs.Choice.{none_matches}
use Rattle.mn_reach_laws.specs.Fates.{routes_at_rest, ends_over}
use Rattle.mn_failure_laws.specs.Failures.{Failure, config_under}
use Rattle.mn_failure_laws.proofs.Same.{same_filter}
use Rattle.mn_profile.specs.declared.switches.Resolve.{Resolve}
use Rattle.mn_profile.specs.declared.switches.Profile.{Profile}
use Rattle.mn_profile_laws.specs.Profiles.{of_any_hop, asks_links, network_under}
use Rattle.mn_profile_laws.specs.Paths.{lsps, has_some, all_lead, surely_lead}
use Rattle.mn_profile_laws.specs.Lookups.{Turn, Unrouted, Unlabelled, Along, links_lead, labels_lead, is_resolved, taking_part, may_stand_aside}
use Rattle.mn_profile_laws.specs.Lookups.{is_elsewhere, best_in_turn, all_in_turn, along_each, unlabelled, turns_by, turns}
use Rattle.mn_profile_laws.specs.Ways.{Way, Ends, ways_by, ways_from, ways_under}
use Rattle.mn_profile_laws.specs.ByChoices.{Choices, AllChoose, path_by, is_reached_by, route_by, ends_by_choice, fate_by}
use Rattle.mn_profile_laws.proofs.Choosing.{covers as covers_choice}
use Rattle.mn_profile_laws.proofs.Run.{same_only}
use Rattle.mn_profile_laws.proofs.Staying.{sub_filter, best_is, rounds, ones}

some_there : {A : Type 0} (xs : List A) (x : A) → In xs x → has_some xs ≡ true
some_there [] x i = absurd i
some_there (y ∷ ys) x i = refl

one_passes : {A : Type 0} (p : A → Bool) (xs : List A) (x : A) → In xs x → p x ≡ true → list_any p xs ≡ true
one_passes p xs x i h = by (list_any p xs) refl
  where
    by : (b : Bool) → list_any p xs ≡ b → list_any p xs ≡ true
    by true e = e
    by false e = absurd (clash (sym h ∙ none_passes p xs x e i))

module _ (t : Network) (resolve : Resolve) (sync : Bool) (c : Config) (by_labels : asks_links resolve ≡ false) (choices : Choices)
    (choose : AllChoose t (of_any_hop resolve sync) c choices) (edge v a : ℕ) where
  abbrev p : Profile
  p = of_any_hop resolve sync

  abbrev rs : List HeldRoute
  rs = routes_at_rest t c edge v

  abbrev by_some : HeldRoute → Bool
  by_some = labels_lead t p c edge

  abbrev by_these : HeldRoute → Bool
  by_these = is_reached_by t c choices edge

  abbrev aside : HeldRoute → Bool
  aside = may_stand_aside t p c edge

  -- 1. A route that is reached by these choices is so by some, and one that is by all is so by these

  reached_some : (r : HeldRoute) → by_these r ≡ true → by_some r ≡ true
  reached_some r h = by (path_by t c choices edge r.edge) refl h
    where
      by : (o : Option (List ℕ)) → path_by t c choices edge r.edge ≡ o → is_some o ≡ true → by_some r ≡ true
      by None e k = absurd (no k)
      by (Some ns) e k =
          some_there (lsps t p c edge r.edge) ns
          (in_contained (lsps t p c edge r.edge) ns ((covers_choice t p c r.edge (choices r.edge) (choose r.edge) edge).told ns e))

  all_reached : (r : HeldRoute) → all_lead t p c edge r.edge ≡ true → by_these r ≡ true
  all_reached r h = ap is_some ((covers_choice t p c r.edge (choices r.edge) (choose r.edge) edge).all h).1

  not_sure : (r : HeldRoute) → by_these r ≡ false → surely_lead t p c edge r.edge ≡ false
  not_sure r off = by (all_lead t p c edge r.edge) refl
    where
      by : (b : Bool) → all_lead t p c edge r.edge ≡ b → all_lead t p c edge r.edge ≡ false
      by false e = e
      by true e = absurd (clash (sym (all_reached r e) ∙ off))

  stands : t.resolve ≡ true → (r : HeldRoute) → by_some r ≡ true → by_these r ≡ false → aside r ≡ true
  stands m r some off =
      ap (λ b. b && (by_some r && not (surely_lead t p c edge r.edge))) m ∙ ap (λ b. b && not (surely_lead t p c edge r.edge)) some
      ∙ ap not (not_sure r off)

  same_edge : (x y : HeldRoute) → x.edge ≡ y.edge → by_these x ≡ by_these y
  same_edge x y e = ap (λ k. is_some (path_by t c choices edge k)) e

  -- 2. The routes that take part

  resolved_so : (r : HeldRoute) → is_resolved t p c edge r ≡ by_some r
  resolved_so r = ap (λ b. if b then links_lead t c edge r else labels_lead t p c edge r) by_labels

  part_so : taking_part t p c edge v a ≡ only_if (t.resolve && list_any (covers a) (filter by_some rs)) by_some rs
  part_so =
      ap (λ b. only_if ((b || t.resolve) && list_any (covers a) (filter (is_resolved t p c edge) rs)) (is_resolved t p c edge) rs) by_labels
      ∙ ap (λ xs. only_if (t.resolve && list_any (covers a) xs) (is_resolved t p c edge) rs)
      (same_filter (is_resolved t p c edge) by_some rs (λ r i. resolved_so r))
      ∙ same_only (t.resolve && list_any (covers a) (filter by_some rs)) (is_resolved t p c edge) by_some rs resolved_so

  -- 3. Turns

  abbrev sure : HeldRoute → Bool
  sure r = surely_lead t p c edge r.edge

  is_along : (cs : List HeldRoute) (r : HeldRoute) (ns : List ℕ) → In cs r → In (lsps t p c edge r.edge) ns → In (turns_by t p c edge cs) (Along r ns)
  is_along [] r ns i j = absurd i
  is_along (x ∷ xs) r ns i j =
      in_front (flat_map (along_each t p c edge) (x ∷ xs)) (unlabelled (list_any sure (x ∷ xs))) (Along r ns)
      (flat_map_in (along_each t p c edge) (x ∷ xs) r (Along r ns) i (map_in (λ nodes. Along r nodes) (lsps t p c edge r.edge) ns j))

  is_unlabelled : (cs : List HeldRoute) (r : HeldRoute) → In cs r → ((x : HeldRoute) → In cs x → sure x ≡ false) → In (turns_by t p c edge cs) Unlabelled
  is_unlabelled [] r i off = absurd i
  is_unlabelled (x ∷ xs) r i off =
      in_rest (flat_map (along_each t p c edge) (x ∷ xs)) (unlabelled (list_any sure (x ∷ xs))) Unlabelled
      (subst (λ b. In (unlabelled b) Unlabelled) (sym (passes_none sure (x ∷ xs) off)) (inl refl))

  -- the end of a turn by these choices
  abbrev turn_over : HeldRoute → Option (List ℕ) → Turn
  turn_over r None = Unlabelled
  turn_over r (Some ns) = Along r ns

  abbrev turn_by : Option HeldRoute → Turn
  turn_by None = Unrouted
  turn_by (Some r) = turn_over r (path_by t c choices edge r.edge)

  by_path : (cs : List HeldRoute) (r : HeldRoute) → In cs r → (by_these r ≡ false → (x : HeldRoute) → In cs x → sure x ≡ false)
      → In (turns_by t p c edge cs) (turn_over r (path_by t c choices edge r.edge))
  by_path cs r i off = by (path_by t c choices edge r.edge) refl
    where
      by : (o : Option (List ℕ)) → path_by t c choices edge r.edge ≡ o → In (turns_by t p c edge cs) (turn_over r o)
      by None e = is_unlabelled cs r i (off (ap is_some e))
      by (Some ns) e =
          is_along cs r ns i
          (in_contained (lsps t p c edge r.edge) ns ((covers_choice t p c r.edge (choices r.edge) (choose r.edge) edge).told ns e))

  -- 4. Of one VRF

  abbrev in_order : List HeldRoute → List HeldRoute
  in_order L = all_in_turn aside a L

  abbrev later : List HeldRoute → HeldRoute → Bool → List HeldRoute
  later L r b = elim b as (λ _. List HeldRoute) [ true ↦ best_in_turn (length L) aside a (filter (is_elsewhere r) L) | false ↦ [] ]

  abbrev then_by : List HeldRoute → Option HeldRoute → List HeldRoute
  then_by L o = elim o as (λ _. List HeldRoute) [
    | None ↦ []
    | Some route ↦ route ∷ elim (aside route) as (λ _. List HeldRoute) [ true ↦ best_in_turn (length L) aside a (filter (is_elsewhere route) L) | false ↦ [] ]
  ]

  less_one : (L : List HeldRoute) → length L < suc (length L)
  less_one L = omega arith

  -- without a best there is none in order
  none_in_order : (L : List HeldRoute) → best L a ≡ None → in_order L ≡ []
  none_in_order L e = ap (then_by L) e

  some_in_order : (L : List HeldRoute) (u : HeldRoute) → best L a ≡ Some u → In (in_order L) u
  some_in_order L u e = subst (λ o. In (then_by L o) u) (sym e) (inl refl)

  not_covered : (L : List HeldRoute) → best L a ≡ None → list_any (covers a) L ≡ false
  not_covered L e = passes_none (covers a) L (λ x i. by x i (covers a x) refl)
    where
      by : (x : HeldRoute) → In L x → (b : Bool) → covers a x ≡ b → covers a x ≡ false
      by x i false m = m
      by x i true m = absurd (none_matches L a e x (filter_in (covers a) L x i m))

  -- next hops don't resolve: all take part by any choices
  all_alike : t.resolve ≡ false → In (turns_by t p c edge (in_order rs)) (turn_by (best rs a))
  all_alike m = by (best rs a) refl
    where
      alone : (r : HeldRoute) → best rs a ≡ Some r → in_order rs ≡ r ∷ []
      alone r e = ap (then_by rs) e ∙ ap (λ b. r ∷ later rs r b) (ap (λ b. b && (by_some r && not (surely_lead t p c edge r.edge))) m)

      by : (o : Option HeldRoute) → best rs a ≡ o → In (turns_by t p c edge (in_order rs)) (turn_by o)
      by None e = subst (λ cs. In (turns_by t p c edge cs) Unrouted) (sym (none_in_order rs e)) (inl refl)
      by (Some r) e =
          subst (λ cs. In (turns_by t p c edge cs) (turn_over r (path_by t c choices edge r.edge))) (sym (alone r e))
          (by_path (r ∷ []) r (inl refl) (λ off x i. elim i [ inl same ↦ subst (λ y. sure y ≡ false) same (not_sure r off) | inr j ↦ absurd j ]))

  -- none is reached by these choices: all take part by them
  off_there : list_any (covers a) (filter by_these rs) ≡ false → (x : HeldRoute) → In rs x → covers a x ≡ true → by_these x ≡ false
  off_there unreached x i m = by (by_these x) refl
    where
      by : (b : Bool) → by_these x ≡ b → by_these x ≡ false
      by false e = e
      by true e = absurd (clash (sym m ∙ none_passes (covers a) (filter by_these rs) x unreached (filter_in by_these rs x i e)))

  none_reached : list_any (covers a) (filter by_these rs) ≡ false → (L : List HeldRoute) → ((x : HeldRoute) → In L x → In rs x) →
      (best L a ≡ None → best rs a ≡ None)
      → In (turns_by t p c edge (in_order L)) (turn_by (best rs a))
  none_reached unreached L sub full = by (best rs a) refl
    where
      none_of_them : best rs a ≡ None → (o : Option HeldRoute) → best L a ≡ o → best L a ≡ None
      none_of_them e None g = g
      none_of_them e (Some u) g =
          let top = best_is L a u g in
          absurd (none_matches rs a e u (filter_in (covers a) rs u (sub u (in_contained L u top.held)) top.matches))

      in_all : (r : HeldRoute) → best rs a ≡ Some r → (o : Option HeldRoute) → best L a ≡ o → In (turns_by t p c edge (in_order L)) Unlabelled
      in_all r e None g = absurd (differ (sym (full g) ∙ e))
        where
          differ : None ≡ Some r → ⊥
          differ q = cc
      in_all r e (Some u) g =
          is_unlabelled (in_order L) u (some_in_order L u g)
          (λ x i. let one = ones a by_these aside same_edge (suc (length L)) L x i in not_sure x (off_there unreached x (sub x one.there) one.matches))

      no_path : (r : HeldRoute) (o : Option (List ℕ)) → is_some o ≡ false → Unlabelled ≡ turn_over r o
      no_path r None k = refl
      no_path r (Some ns) k = absurd (clash k)

      by : (o : Option HeldRoute) → best rs a ≡ o → In (turns_by t p c edge (in_order L)) (turn_by o)
      by None e = subst (λ cs. In (turns_by t p c edge cs) Unrouted) (sym (none_in_order L (none_of_them e (best L a) refl))) (inl refl)
      by (Some r) e =
          let top = best_is rs a r e in
          subst (In (turns_by t p c edge (in_order L)))
          (no_path r (path_by t c choices edge r.edge) (off_there unreached r (in_contained rs r top.held) top.matches)) (in_all r e (best L a) refl)

  -- one is reached by these choices: it is found in order
  some_reached : t.resolve ≡ true → list_any (covers a) (filter by_these rs) ≡ true
      → In (turns_by t p c edge (in_order (filter by_some rs))) (turn_by (best (filter by_these rs) a))
  some_reached m some = by (best (filter by_these rs) a) refl
    where
      in_turn_so : (r : HeldRoute) → best (filter by_these rs) a ≡ Some r → In (in_order (filter by_some rs)) r
      in_turn_so r e =
          rounds a by_these aside same_edge (suc (length (filter by_some rs))) (filter by_some rs) r (less_one (filter by_some rs))
          (λ x i off. stands m x (in_filter by_some rs x i).1 off)
          (ap (λ N. best N a) (sub_filter by_these by_some rs (λ x i k. reached_some x k)) ∙ e)

      by : (o : Option HeldRoute) → best (filter by_these rs) a ≡ o → In (turns_by t p c edge (in_order (filter by_some rs))) (turn_by o)
      by None e = absurd (clash (sym some ∙ not_covered (filter by_these rs) e))
      by (Some r) e =
          let on = (in_filter by_these rs r (in_contained (filter by_these rs) r (best_is (filter by_these rs) a r e).held)).1 in
          by_path (in_order (filter by_some rs)) r (in_turn_so r e) (λ off. absurd (clash (sym on ∙ off)))

  the_turn : In (turns t p c edge v a) (turn_by (route_by t c choices edge v a))
  the_turn =
      subst (λ L. In (turns_by t p c edge (in_order L)) (turn_by (route_by t c choices edge v a))) (sym part_so) (by_resolve t.resolve refl)
    where
      too_few : list_any (covers a) (filter by_some rs) ≡ false → list_any (covers a) (filter by_these rs) ≡ false
      too_few x = passes_none (covers a) (filter by_these rs)
          (λ r i. let f = in_filter by_these rs r i in none_passes (covers a) (filter by_some rs) r x (filter_in by_some rs r f.0 (reached_some r f.1)))

      by_lists : t.resolve ≡ true → (y : Bool) → list_any (covers a) (filter by_these rs) ≡ y → (x : Bool) → list_any (covers a) (filter by_some rs) ≡ x
          → In (turns_by t p c edge (in_order (only_if x by_some rs))) (turn_by (best (only_if y by_these rs) a))
      by_lists m true h true g = some_reached m h
      by_lists m true h false g = absurd (clash (sym h ∙ too_few g))
      by_lists m false h true g =
          none_reached h (filter by_some rs) (λ x i. (in_filter by_some rs x i).0)
          (λ e. absurd (clash (sym g ∙ not_covered (filter by_some rs) e)))
      by_lists m false h false g = none_reached h rs (λ x i. i) (λ e. e)

      by_resolve : (m : Bool) → t.resolve ≡ m
          → In (turns_by t p c edge (in_order (only_if (m && list_any (covers a) (filter by_some rs)) by_some rs)))
          (turn_by (best (only_if (m && list_any (covers a) (filter by_these rs)) by_these rs) a))
      by_resolve false m = all_alike m
      by_resolve true m = by_lists m (list_any (covers a) (filter by_these rs)) refl (list_any (covers a) (filter by_some rs)) refl

  -- 5. Of the packet

  pub the_way : (ttl : ℕ) (again : ℕ → ℕ → List Way)
      → In (flat_map (ways_by t p edge ttl again) (turns t p c edge v a)) (Ends (ends_by_choice t c choices edge ttl (route_by t c choices edge v a)))
  the_way ttl again =
      flat_map_in (ways_by t p edge ttl again) (turns t p c edge v a) (turn_by (route_by t c choices edge v a))
      (Ends (ends_by_choice t c choices edge ttl (route_by t c choices edge v a))) the_turn (by_route (route_by t c choices edge v a))
    where
      by_end : (r : HeldRoute) (o : Option (List ℕ)) → In (ways_by t p edge ttl again (turn_over r o)) (Ends (ends_over edge ttl r o))
      by_end r None = inl refl
      by_end r (Some ns) = inl refl

      by_route : (o : Option HeldRoute) → In (ways_by t p edge ttl again (turn_by o)) (Ends (ends_by_choice t c choices edge ttl o))
      by_route None = inl refl
      by_route (Some r) = by_end r (path_by t c choices edge r.edge)

pub has_its_way : (t : Network) (resolve : Resolve) (sync : Bool) (f : Failure) (choices : Choices) (s ttl a : ℕ) → asks_links resolve ≡ false
    → AllChoose (network_under t (of_any_hop resolve sync) (config_under t f)) (of_any_hop resolve sync) (config_under t f) choices
    → Contains (ways_under t (of_any_hop resolve sync) f s ttl a)
    (Ends (fate_by (network_under t (of_any_hop resolve sync) (config_under t f)) (config_under t f) choices s ttl a))
has_its_way t resolve sync f choices s ttl a by_labels choose =
    let n : Network = network_under t (of_any_hop resolve sync) (config_under t f) in
    contained_in (ways_under t (of_any_hop resolve sync) f s ttl a) (Ends (fate_by n (config_under t f) choices s ttl a))
    (the_way n resolve sync (config_under t f) by_labels choices choose (home_of n s) (vrf_of n s) a ttl
    (ways_from (length t.vrfs) n (of_any_hop resolve sync) (config_under t f) a))
