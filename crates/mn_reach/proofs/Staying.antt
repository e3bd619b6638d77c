-- A pair that is spared has the fate that it has where nothing is gone: each of its candidates is told and reached as before, and the label
-- switched path to its edge is the same.
use Rattle.std.proofs.Common.{ℕ, ◌≡◌, ◌<◌, inl, inr, Bool, true, false, List, [], ◌∷◌, map, filter, length, get_or, refl, sym, ◌∙◌, ap, subst}
use Rattle.std.proofs.Common.{Option, Some, None}
use Rattle.std.specs.Prelude.{◌==◌, ◌&&◌, ◌||◌, if◌then◌else◌, not, nat_lt, is_some, unwrap_or}
use Rattle.std.specs.List.{Contains, list_all}
use Rattle.std.proofs.lemmas.List.{get_or-replicate, length-replicate}
use Rattle.std.proofs.lemmas.List.Elements.{All-contains, Contains-get_or}
use Rattle.std.proofs.lemmas.List.FromFn.{fill_by_all}
use Rattle.mn_base.proofs.Bools.{no, and_parts}
use Rattle.mn_base.proofs.Members.{In, in_contained, contained_in, in_map, in_filter, flat_map_in}
use Rattle.mn_wiring.specs.Wiring.{is_up}
use Rattle.mn_topo.specs.Network.{Network, wiring_of}
use Rattle.mn_topo.specs.Lawful.{IsLawful}
use Rattle.mn_ledger.specs.Places.{home_of}
use Rattle.mn_ledger.specs.World.{Config}
use Rattle.mn_ledger.specs.Held.{HeldRoute, first_of}
use Rattle.mn_ledger_laws.proofs.There.{home_there}
use Rattle.mn_reach_laws.specs.Fates.{up_links, lsp, is_reached, ends_towards, ends_over}
use Rattle.mn_reach_laws.specs.Candidates.{is_told, chosen, chosen_by}
use Rattle.mn_failure_laws.specs.Failures.{Failure, no_failure, config_under, links_lead, have_session, is_session_off}
use Rattle.mn_failure_laws.specs.Fates.{fate_under}
use Rattle.mn_failure_laws.proofs.Left.{left}
use Rattle.mn_failure_laws.proofs.Told.{by_the_chosen}
use Rattle.mn_failure_laws.proofs.Same.{same_filter}
use Rattle.mn_way.specs.Way.{way, links_on}
use Rattle.mn_way_laws.specs.Paths.{way_of}
use Rattle.mn_way_laws.specs.Spared.{IsSparedPath, KeepsPath}
use Rattle.mn_reach.specs.declared.plan.Candidate.{Candidate}
use Rattle.mn_reach.specs.Plans.{IsOf, IsPlaced, all_up, held_in, links_towards, links_between, pair_at, prospect_at}
use Rattle.mn_reach.specs.Reaching.{Reaching, failure_of, nothing_gone}
use Rattle.mn_reach.specs.Spared.{is_whole, is_spared}
use Rattle.mn_reach.proofs.Left.{placed_below}

abbrev pub Spares : Type 0
Spares = (topology : Network) (before after : Config) (node to : ℕ) → IsLawful topology → node < length topology.loopbacks →
    IsSparedPath topology before after node to → KeepsPath topology before after node to

-- 1. Lists

all_so : {A : Type 0} (p : A → Bool) (xs : List A) (x : A) → list_all p xs ≡ true → In xs x → p x ≡ true
all_so p [] x h i = absurd i
all_so p (y ∷ ys) x h i =
    let parts = and_parts (p y) (list_all p ys) h in
    elim i [ inl e ↦ sym (ap p e) ∙ parts.0 | inr j ↦ all_so p ys x parts.1 j ]

off : (b : Bool) → not b ≡ true → b ≡ false
off true h = absurd (no h)
off false h = refl

first_in : (rs : List HeldRoute) (r : HeldRoute) → first_of rs ≡ Some r → In rs r
first_in [] r h = absurd (cc)
first_in (x ∷ rs) r h = let e : x ≡ r = cc in inl e

-- 2. Two configurations in which the same candidates are told, and the same label switched paths lead to them

module _ (t : Network) (before after : Config) (home : ℕ) (rs : List HeldRoute)
    (told : (r : HeldRoute) → In rs r → is_told after home r ≡ is_told before home r)
    (lsps : (r : HeldRoute) → In rs r → lsp t after home r.edge ≡ lsp t before home r.edge) where
  told_same : filter (is_told after home) rs ≡ filter (is_told before home) rs
  told_same = same_filter (is_told after home) (is_told before home) rs told

  told_in : (r : HeldRoute) → In (filter (is_told before home) rs) r → In rs r
  told_in r i = (in_filter (is_told before home) rs r i).0

  reached_same : filter (is_reached t after home) (filter (is_told after home) rs) ≡ filter (is_reached t before home) (filter (is_told before home) rs)
  reached_same =
      ap (filter (is_reached t after home)) told_same
      ∙ same_filter (is_reached t after home) (is_reached t before home) (filter (is_told before home) rs)
      (λ r i. ap (λ (o : Option (List ℕ)). is_some o) (lsps r (told_in r i)))

  chosen_same : chosen t after home rs ≡ chosen t before home rs
  chosen_same =
      ap (λ xs. chosen_by t.resolve (first_of xs) (first_of (filter (is_told after home) rs))) reached_same
      ∙ ap (λ xs. chosen_by t.resolve (first_of (filter (is_reached t before home) (filter (is_told before home) rs))) (first_of xs)) told_same

  chosen_in : (r : HeldRoute) → chosen t before home rs ≡ Some r → In rs r
  chosen_in r h = by t.resolve (first_of (filter (is_reached t before home) (filter (is_told before home) rs))) refl h
    where
      by : (b : Bool) (o : Option HeldRoute) → first_of (filter (is_reached t before home) (filter (is_told before home) rs)) ≡ o →
          chosen_by b o (first_of (filter (is_told before home) rs)) ≡ Some r → In rs r
      by true (Some q) e h = told_in r
          (in_filter (is_reached t before home) (filter (is_told before home) rs) r
          (first_in (filter (is_reached t before home) (filter (is_told before home) rs)) r (e ∙ h))).0
      by true None e h = told_in r (first_in (filter (is_told before home) rs) r h)
      by false (Some q) e h = told_in r (first_in (filter (is_told before home) rs) r h)
      by false None e h = told_in r (first_in (filter (is_told before home) rs) r h)

  pub ends_same : (ttl : ℕ) → ends_towards t after home ttl (chosen t after home rs) ≡ ends_towards t before home ttl (chosen t before home rs)
  ends_same ttl = ap (ends_towards t after home ttl) chosen_same ∙ by (chosen t before home rs) refl
    where
      by : (o : Option HeldRoute) → chosen t before home rs ≡ o → ends_towards t after home ttl o ≡ ends_towards t before home ttl o
      by None e = refl
      by (Some r) e = ap (ends_over home ttl r) (lsps r (chosen_in r e))

-- 3. A pair that is spared

module _ (t : Network) (r : Reaching) (of : IsOf t r.plan) (law : Spares) (k : ℕ) (there : k < length r.plan.pairs) (spared : is_spared t r k ≡ true) where
  abbrev home : ℕ
  home = home_of t (pair_at r.plan k).site.0

  abbrev cs : List Candidate
  cs = (prospect_at r.plan k).candidates

  abbrev was : Config
  was = config_under t (nothing_gone r.ends)

  abbrev is : Config
  is = config_under t (failure_of r)

  site : (pair_at r.plan k).site.0 < length t.sites
  site = of.sites k _ there

  home_below : home < length t.loopbacks
  home_below = home_there t (pair_at r.plan k).site.0 of.lawful site

  parts : (list_all (is_whole r) (links_between t home cs) ≡ true) × (list_all (λ c. not (is_session_off (failure_of r) home c.route.edge.0)) cs ≡ true)
  parts = and_parts _ _ spared

  edge_below : (c : Candidate) → In cs c → c.route.edge.0 < length t.loopbacks
  edge_below c i = placed_below t r.plan.edges c of.edges (All-contains (IsPlaced r.plan.edges) cs c (of.planned k there).placed (contained_in cs c i))

  were_up : up_links t was ≡ all_up t
  were_up = sym (fill_by_all (λ l. true) (all_up t) (length t.links) false (length-replicate (length t.links) true)
      (λ l h. get_or-replicate (length t.links) l true false h))

  abbrev links : Candidate → List ℕ
  links c = links_on (unwrap_or (way_of t was home c.route.edge.0) [])

  whole : (c : Candidate) → In cs c → (l : ℕ) → Contains (links_on (unwrap_or (way_of t was home c.route.edge.0) [])) l → is_whole r l ≡ true
  whole c i l h =
      all_so (is_whole r) (links_between t home cs) l parts.0
      (flat_map_in (links_towards t home) cs c l i (in_contained (links_towards t home c) l
      (subst (λ view. Contains (links_on (unwrap_or (way (wiring_of t) view home c.route.edge.0) [])) l) were_up h)))

  on : (b : Bool) → b ≡ true → not (not b) ≡ true
  on b e = ap (λ x. not (not x)) e

  is_spared_path : (c : Candidate) → In cs c → IsSparedPath t was is home c.route.edge.0
  is_spared_path c i = record {
    no_more = λ l h g. refl;
    up = λ k d h. let w = and_parts (is_up r.up (get_or (links c) k d)) (is_up r.ldp (get_or (links c) k d))
        (whole c i (get_or (links c) k d) (Contains-get_or (links c) k d h)) in
        on (is_up r.up (get_or (links c) k d)) w.0;
    ldp = λ k d h. let w = and_parts (is_up r.up (get_or (links c) k d)) (is_up r.ldp (get_or (links c) k d))
        (whole c i (get_or (links c) k d) (Contains-get_or (links c) k d h)) in
        on (is_up r.ldp (get_or (links c) k d)) w.1;
  }

  stays : (c : Candidate) → In cs c → KeepsPath t was is home c.route.edge.0
  stays c i = law t was is home c.route.edge.0 of.lawful home_below (is_spared_path c i)

  never_off : (one other : ℕ) → is_session_off (nothing_gone r.ends) one other ≡ false
  never_off one other = by (nat_lt one other)
    where
      by : (b : Bool) → (if b then false else false) ≡ false
      by true = refl
      by false = refl

  sessions_same : (c : Candidate) → In cs c → have_session t (failure_of r) home c.route.edge.0 ≡ have_session t (nothing_gone r.ends) home c.route.edge.0
  sessions_same c i =
      ap (λ b. not b && (not r.ends || links_lead t (failure_of r) home c.route.edge.0))
      (off (is_session_off (failure_of r) home c.route.edge.0)
      (all_so (λ (x : Candidate). not (is_session_off (failure_of r) home x.route.edge.0)) cs c parts.1 i)
      ∙ sym (never_off home c.route.edge.0))
      ∙ ap (λ (o : Option ℕ). not (is_session_off (nothing_gone r.ends) home c.route.edge.0) && (not r.ends || is_some o)) (stays c i).same_cost

  told_as : (f : Failure) (c : Candidate) → In cs c →
      is_told (config_under t f) home (held_in c) ≡ ((c.route.edge.0 == home) || have_session t f home c.route.edge.0)
  told_as f c i = (left t f of.lawful).told home (held_in c) home_below (edge_below c i)

  told_alike : (c : Candidate) → In cs c → is_told is home (held_in c) ≡ is_told was home (held_in c)
  told_alike c i =
      told_as (failure_of r) c i ∙ ap (λ b. (c.route.edge.0 == home) || b) (sessions_same c i) ∙ sym (told_as (nothing_gone r.ends) c i)

  told : (h : HeldRoute) → In (map held_in cs) h → is_told is home h ≡ is_told was home h
  told h i = let c = in_map held_in cs h i in subst (λ x. is_told is home x ≡ is_told was home x) c.2 (told_alike c.0 c.1)

  lsps : (h : HeldRoute) → In (map held_in cs) h → lsp t is home h.edge ≡ lsp t was home h.edge
  lsps h i = let c = in_map held_in cs h i in subst (λ (x : HeldRoute). lsp t is home x.edge ≡ lsp t was home x.edge) c.2 (stays c.0 c.1).same_path

  pub spared_stays : (ttl : ℕ) → fate_under t (failure_of r) (pair_at r.plan k).site.0 ttl (pair_at r.plan k).address
      ≡ fate_under t (nothing_gone r.ends) (pair_at r.plan k).site.0 ttl (pair_at r.plan k).address
  spared_stays ttl =
      let are = (of.planned k there).candidates in
      by_the_chosen t (failure_of r) no_failure (pair_at r.plan k).site.0 ttl (pair_at r.plan k).address (map held_in cs) of.lawful are
      ∙ ends_same t was is home (map held_in cs) told lsps ttl
      ∙ sym (by_the_chosen t (nothing_gone r.ends) no_failure (pair_at r.plan k).site.0 ttl (pair_at r.plan k).address (map held_in cs) of.lawful are)
