-- Whatever next hops nodes have chosen: the path by them is among those that are told, and there is one where all lead.
use Rattle.std.proofs.Common.{ℕ, zero, suc, ◌≡◌, ◌≢◌, inl, inr, Bool, true, false, cond, List, [], ◌∷◌, map, filter, refl, sym, ◌∙◌, ap, subst}
use Rattle.std.proofs.Common.{Option, None, Some}
use Rattle.std.specs.Prelude.{◌==◌, ◌||◌, nat_lt}
use Rattle.std.specs.List.{flat_map, list_all}
use Rattle.std.proofs.lemmas.Bool.Decides.{eqb_tells}
use Rattle.std.proofs.lemmas.Option.{same_Some}
use Rattle.mn_base.proofs.Bools.{no, clash, and_parts}
use Rattle.mn_base.proofs.Members.{In, in_contained, contained_in, map_in, flat_map_in}
use Rattle.mn_wiring.specs.Wiring.{Wiring, View, across, links_at}
use Rattle.mn_wiring.specs.Paths.{dists_to, is_on_least, nearer, nearest, next_by, next}
use Rattle.mn_topo.specs.Network.{Network, wiring_of}
use Rattle.mn_ledger.specs.World.{Config}
use Rattle.mn_reach_laws.specs.Fates.{up_links, before, over_hop}
use Rattle.mn_profile.specs.declared.switches.EqualCost.{EqualCost}
use Rattle.mn_profile.specs.declared.switches.EqualCost.TheVariants as equal_cost
use Rattle.mn_profile.specs.declared.switches.Profile.{Profile}
use Rattle.mn_profile_laws.specs.Paths.{list_of, hop_over, equal_hops, hops_by, hops, cost_to, over_each, lsps_within, lsps_by, lsps, has_some}
use Rattle.mn_profile_laws.specs.Paths.{leads_over}
use Rattle.mn_profile_laws.specs.Paths.{all_lead_within, all_lead_by}
use Rattle.mn_profile_laws.specs.Choices.{Choice, IsAmong, Chooses, chosen_within, chosen_by, CoversEachChoice}

pub nothing : {A : Type 0} (x : A) → None ≡ Some x → ⊥
nothing x e = cc

pub all_pass : {A : Type 0} (p : A → Bool) (xs : List A) (x : A) → list_all p xs ≡ true → In xs x → p x ≡ true
all_pass p [] x h i = absurd i
all_pass p (y ∷ ys) x h i =
    let parts = and_parts (p y) (list_all p ys) h in
    elim i [ inl e ↦ subst (λ z. p z ≡ true) e parts.0 | inr j ↦ all_pass p ys x parts.1 j ]

-- what has a first one isn't empty
not_empty : {A : Type 0} (xs : List A) → has_some xs ≡ true → xs ≡ [] → ⊥
not_empty xs h e = no (sym (ap has_some e) ∙ h)

-- 1. The path of a choice is among those that are told

module _ (t : Network) (p : Profile) (c : Config) (to : ℕ) (choice : Choice) (chooses : Chooses t p c to choice) where
  abbrev rest_of : ℕ → ℕ → Option (List ℕ)
  rest_of fuel hop = chosen_within c choice fuel hop to

  abbrev paths_from : ℕ → ℕ → List (List ℕ)
  paths_from fuel hop = lsps_within t p c fuel hop to

  over : (fuel node : ℕ) (hop : ℕ × ℕ) (nodes : List ℕ) → ((ns : List ℕ) → rest_of fuel hop.0 ≡ Some ns → In (paths_from fuel hop.0) ns)
      → over_hop c node (rest_of fuel) (Some hop) ≡ Some nodes → In (over_each c node (paths_from fuel) hop) nodes
  over fuel node hop nodes more is = by_ldp (c.ldp_on hop.1) is
    where
      by_rest : (o : Option (List ℕ)) → rest_of fuel hop.0 ≡ o → before node o ≡ Some nodes → In (map (λ ns. node ∷ ns) (paths_from fuel hop.0)) nodes
      by_rest None e h = absurd (nothing nodes h)
      by_rest (Some ns) e h =
          subst (In (map (λ ns. node ∷ ns) (paths_from fuel hop.0))) (same_Some (node ∷ ns) nodes h)
          (map_in (λ ns. node ∷ ns) (paths_from fuel hop.0) ns (more ns e))

      by_ldp : (b : Bool) → cond b (before node (rest_of fuel hop.0)) None ≡ Some nodes
          → In (elim b as (λ _. List (List ℕ)) [ true ↦ map (λ ns. node ∷ ns) (paths_from fuel hop.0) | false ↦ [] ]) nodes
      by_ldp true h = by_rest (rest_of fuel hop.0) refl h
      by_ldp false h = absurd (nothing nodes h)

  abbrev ended : ℕ → ℕ → Bool → List (List ℕ)
  ended fuel node b = elim b as (λ _. List (List ℕ)) [
    | true ↦ (node ∷ []) ∷ []
    | false ↦ flat_map (over_each c node (paths_from fuel)) (hops t p c node to)
  ]

  abbrev gone : ℕ → ℕ → Option (ℕ × ℕ) → Bool → Option (List ℕ)
  gone fuel node o b = cond b (Some (node ∷ [])) (over_hop c node (rest_of fuel) o)

  pub is_told : (fuel node : ℕ) (nodes : List ℕ) → chosen_within c choice fuel node to ≡ Some nodes → In (lsps_within t p c fuel node to) nodes
  is_told zero node nodes is = absurd (nothing nodes is)
  is_told (suc fuel) node nodes is = elim (eqb_tells node to) [
    | inl e ↦
        subst (λ b. In (ended fuel node b) nodes) (sym e.0)
        (inl (same_Some (node ∷ []) nodes (sym (ap (gone fuel node (choice node)) e.0) ∙ is)))
    | inr e ↦
        subst (λ b. In (ended fuel node b) nodes) (sym e.0)
        (by_hop (λ m ns i. is_told fuel m ns i) (choice node) (chooses node e.1) (sym (ap (gone fuel node (choice node)) e.0) ∙ is))
  ]
    where
      by_hop : ((m : ℕ) (ns : List ℕ) → rest_of fuel m ≡ Some ns → In (paths_from fuel m) ns)
          → (o : Option (ℕ × ℕ)) → IsAmong (hops t p c node to) o → over_hop c node (rest_of fuel) o ≡ Some nodes
          → In (flat_map (over_each c node (paths_from fuel)) (hops t p c node to)) nodes
      by_hop more None among h = absurd (nothing nodes h)
      by_hop more (Some hop) among h =
          flat_map_in (over_each c node (paths_from fuel)) (hops t p c node to) hop nodes (in_contained (hops t p c node to) hop among)
          (over fuel node hop nodes (λ ns e. more hop.0 ns e) h)

  -- 2. Where all lead it leads

  leads-on : (node : ℕ) (b rest : Bool) → b ≡ false → (b || rest) ≡ true → rest ≡ true
  leads-on node b rest e h = sym (ap (λ x. x || rest) e) ∙ h

  pub leads : (fuel node : ℕ) → all_lead_within t p c fuel node to ≡ true → (nodes : List ℕ) × (chosen_within c choice fuel node to ≡ Some nodes)
  leads zero node h = absurd (no h)
  leads (suc fuel) node h = elim (eqb_tells node to) [
    | inl e ↦ (node ∷ [], ap (gone fuel node (choice node)) e.0)
    | inr e ↦
        let parts = and_parts (has_some (hops t p c node to)) (list_all (leads_over c (λ hop. all_lead_within t p c fuel hop to)) (hops t p c node to))
        (leads-on node (node == to) _ e.0 h) in
        by_hop (λ m i. leads fuel m i) e.0 parts.0 parts.1 (choice node) refl (chooses node e.1)
  ]
    where
      by_hop : ((m : ℕ) → all_lead_within t p c fuel m to ≡ true → (nodes : List ℕ) × (chosen_within c choice fuel m to ≡ Some nodes))
          → (node == to) ≡ false → has_some (hops t p c node to) ≡ true
          → list_all (leads_over c (λ hop. all_lead_within t p c fuel hop to)) (hops t p c node to) ≡ true
          → (o : Option (ℕ × ℕ)) → choice node ≡ o → IsAmong (hops t p c node to) o
          → (nodes : List ℕ) × (chosen_within c choice (suc fuel) node to ≡ Some nodes)
      by_hop more apart some all None is among = absurd (not_empty (hops t p c node to) some among)
      by_hop more apart some all (Some hop) is among =
          let on = and_parts (c.ldp_on hop.1) (all_lead_within t p c fuel hop.0 to)
          (all_pass (leads_over c (λ h. all_lead_within t p c fuel h to)) (hops t p c node to) hop all (in_contained (hops t p c node to) hop among)) in
          let rest = more hop.0 on.1 in (
            node ∷ rest.0,
            ap (gone fuel node (choice node)) apart ∙ ap (over_hop c node (rest_of fuel)) is
                ∙ ap (λ b. cond b (before node (rest_of fuel hop.0)) None) on.0 ∙ ap (before node) rest.1,
          )

  -- 3. All that is told covers it

  pub covers : (node : ℕ) → CoversEachChoice t p c node to choice
  covers node = record {
    told = λ nodes is. contained_in (lsps t p c node to) nodes (by_told (cost_to t c node to) nodes is);
    all = by_all (cost_to t c node to);
    none = by_none (cost_to t c node to);
  }
    where
      by_told : (o : Option ℕ) (nodes : List ℕ) → chosen_by c choice node to o ≡ Some nodes → In (lsps_by t p c node to o) nodes
      by_told None nodes is = absurd (nothing nodes is)
      by_told (Some cost) nodes is = is_told (suc cost) node nodes is

      by_all : (o : Option ℕ) → all_lead_by t p c node to o ≡ true → (nodes : List ℕ) × (chosen_by c choice node to o ≡ Some nodes)
      by_all None h = absurd (no h)
      by_all (Some cost) h = leads (suc cost) node h

      is_none : (o : Option (List ℕ)) (ps : List (List ℕ)) → has_some ps ≡ false → ((nodes : List ℕ) → o ≡ Some nodes → In ps nodes) → o ≡ None
      is_none None ps h among = refl
      is_none (Some nodes) [] h among = absurd (among nodes refl)
      is_none (Some nodes) (x ∷ ps) h among = absurd (clash h)

      by_none : (o : Option ℕ) → has_some (lsps_by t p c node to o) ≡ false → chosen_by c choice node to o ≡ None
      by_none o h = is_none (chosen_by c choice node to o) (lsps_by t p c node to o) h (by_told o)

-- 4. One of the choices is the neighbour of least number

one_of_two : (hops : List (ℕ × ℕ)) (b : Bool) (here there : ℕ × ℕ) → In hops there → In (here ∷ hops) (cond b there here)
one_of_two hops true here there i = inr i
one_of_two hops false here there i = inl refl

nearest_among : (w : Wiring) (node : ℕ) (ls : List ℕ) → IsAmong (map (hop_over w node) ls) (nearest w node ls)
nearest_among w node [] = refl
nearest_among w node (l ∷ ls) =
    by (nearest w node ls) (nearest_among w node ls)
  where
    by : (o : Option (ℕ × ℕ)) → IsAmong (map (hop_over w node) ls) o → IsAmong (hop_over w node l ∷ map (hop_over w node) ls) (nearer (hop_over w node l) o)
    by None among = contained_in (hop_over w node l ∷ map (hop_over w node) ls) (hop_over w node l) (inl refl)
    by (Some hop) among =
        contained_in (hop_over w node l ∷ map (hop_over w node) ls) (cond (nat_lt hop.0 (across w l node)) hop (hop_over w node l))
        (one_of_two (map (hop_over w node) ls) (nat_lt hop.0 (across w l node)) (hop_over w node l) hop (in_contained (map (hop_over w node) ls) hop among))

next_by_is : (w : Wiring) (v : View) (node to : ℕ) → (node == to) ≡ false → next w v node to ≡ next_by w v (dists_to w v to) node
unfolding next
next_by_is w v node to q = ap (λ b. elim b as (λ _. Option (ℕ × ℕ)) [ true ↦ None | false ↦ next_by w v (dists_to w v to) node ]) q

listed : (o : Option (ℕ × ℕ)) → IsAmong (list_of o) o
listed None = refl
listed (Some hop) = contained_in (hop ∷ []) hop (inl refl)

equally : (w : Wiring) (v : View) (to node : ℕ) → node ≢ to → IsAmong (equal_hops w v node to) (next w v node to)
equally w v to node apart = elim (eqb_tells node to) [
  | inl q ↦ absurd (apart q.1)
  | inr q ↦ subst (IsAmong (equal_hops w v node to)) (sym (next_by_is w v node to q.0))
      (nearest_among w node (filter (is_on_least w v (dists_to w v to) node) (links_at w node)))
]

next_among : (e : EqualCost) (w : Wiring) (v : View) (to node : ℕ) → node ≢ to → IsAmong (hops_by e w v node to) (next w v node to)
next_among equal_cost.Least w v to node apart = listed (next w v node to)
next_among equal_cost.All w v to node apart = equally w v to node apart
next_among equal_cost.Any w v to node apart = equally w v to node apart

pub least_is_one : (t : Network) (p : Profile) (c : Config) (to : ℕ) → Chooses t p c to (λ node. next (wiring_of t) (up_links t c) node to)
least_is_one t p c to node apart = next_among p.equal (wiring_of t) (up_links t c) to node apart
