-- Each path that is told is that of some choice, and where not all lead some choice has none: each node is passed once, since the least
-- cost falls, so a choice can be changed at one without changing what follows.
use Rattle.std.proofs.Common.{ℕ, zero, suc, ◌≡◌, ◌≢◌, ◌<◌, inl, inr, Bool, true, false, cond, List, [], ◌∷◌, map, length, refl, arith, sym, ◌∙◌, ap, subst}
use Rattle.std.proofs.Common.{Option, None, Some}
use Rattle.std.specs.Prelude.{◌==◌, ◌&&◌, ◌||◌}
use Rattle.std.specs.List.{Contains, flat_map, list_all}
use Rattle.std.proofs.lemmas.Bool.Decides.{eqb_tells}
use Rattle.mn_base.proofs.Bools.{clash, same_test}
use Rattle.mn_base.proofs.Members.{In, in_contained, contained_in, in_map, in_flat_map}
use Rattle.mn_wiring.specs.Wiring.{Wiring, View, JoinsNodes}
use Rattle.mn_wiring.specs.Paths.{IsLeast, next}
use Rattle.mn_toward_laws.specs.Spared.{AllCost}
use Rattle.mn_topo.specs.Network.{Network, wiring_of}
use Rattle.mn_topo.specs.Lawful.{IsLawful}
use Rattle.mn_ledger.specs.World.{Config}
use Rattle.mn_reach_laws.specs.Fates.{up_links, before, over_hop}
use Rattle.mn_profile.specs.declared.switches.Profile.{Profile}
use Rattle.mn_profile_laws.specs.Profiles.{network_under}
use Rattle.mn_profile_laws.specs.Paths.{hops, cost_to, over_each, lsps_within, lsps_by, lsps, has_some, leads_over, all_lead_within, all_lead_by}
use Rattle.mn_profile_laws.specs.Choices.{Choice, IsAmong, Chooses, chosen_within, chosen_by, chosen_lsp, TellsOfChoices}
use Rattle.mn_profile_laws.proofs.Choosing.{least_is_one}
use Rattle.mn_profile_laws.proofs.Arriving.{joins, cost-all, one-least, none-less, least-is, is_hop, has_hop, IsNearer, nearer, shorter}

pub some_fails : {A : Type 0} (test : A → Bool) (xs : List A) → list_all test xs ≡ false → (x : A) × In xs x × (test x ≡ false)
some_fails test [] h = absurd (clash h)
some_fails test (x ∷ xs) h = by (λ e. some_fails test xs e) (test x) refl
  where
    by : (list_all test xs ≡ false → (y : _) × In xs y × (test y ≡ false)) → (b : Bool) → test x ≡ b → (y : _) × In (x ∷ xs) y × (test y ≡ false)
    by more false e = (x, inl refl, e)
    by more true e = let found = more (sym (ap (λ b. b && list_all test xs) e) ∙ h) in (found.0, inr found.1, found.2)

-- a choice that is changed at one node
abbrev with_hop : ℕ → Option (ℕ × ℕ) → Choice → Choice
with_hop n o choice m = cond (m == n) o (choice m)

trans : {a b e : ℕ} → a < b → b < e → a < e
trans h g = omega (arith, h, g)

module _ (t : Network) (p : Profile) (c : Config) (to : ℕ) (ok : JoinsNodes (wiring_of t)) (costs : AllCost (wiring_of t)) where
  abbrev wiring : Wiring
  wiring = wiring_of t

  abbrev view : View
  view = up_links t c

  abbrev rest_by : Choice → ℕ → ℕ → Option (List ℕ)
  rest_by choice fuel hop = chosen_within c choice fuel hop to

  abbrev gone_by : Choice → ℕ → ℕ → Bool → Option (List ℕ)
  gone_by choice fuel n b = cond b (Some (n ∷ [])) (over_hop c n (rest_by choice fuel) (choice n))

  -- 1. Two choices that agree wherever it costs less

  abbrev Agree : Choice → Choice → ℕ → Type 0
  Agree one other d = (m x : ℕ) → m < length t.loopbacks → IsLeast wiring view m to x → x < d → one m ≡ other m

  agree : (d : ℕ) (one other : Choice) → Chooses t p c to one → Agree one other d → (fuel n x : ℕ) → n < length t.loopbacks → IsLeast wiring view n to x → x < d
      → chosen_within c one fuel n to ≡ chosen_within c other fuel n to
  agree d one other chooses same zero n x below least less = refl
  agree d one other chooses same (suc fuel) n x below least less = elim (eqb_tells n to) [
    | inl e ↦ ap (gone_by one fuel n) e.0 ∙ sym (ap (gone_by other fuel n) e.0)
    | inr e ↦
        ap (gone_by one fuel n) e.0 ∙ by_hop (λ m y b l s. agree d one other chooses same fuel m y b l s) e.1 (one n) (chooses n e.1)
        ∙ ap (over_hop c n (rest_by other fuel)) (same n x below least less) ∙ sym (ap (gone_by other fuel n) e.0)
  ]
    where
      by_hop : ((m y : ℕ) → m < length t.loopbacks → IsLeast wiring view m to y → y < d → rest_by one fuel m ≡ rest_by other fuel m)
          → n ≢ to → (o : Option (ℕ × ℕ)) → IsAmong (hops t p c n to) o → over_hop c n (rest_by one fuel) o ≡ over_hop c n (rest_by other fuel) o
      by_hop more apart None among = refl
      by_hop more apart (Some hop) among =
          let h = is_hop wiring view to ok p.equal n hop below apart (in_contained (hops t p c n to) hop among) in
          let near = nearer wiring view to n x hop ok costs least h in
          ap (λ r. cond (c.ldp_on hop.1) (before n r) None) (more hop.0 near.rest near.below near.least (trans near.less less))

  -- 2. Changed at a node

  apart_from : (m n : ℕ) (o : Option (ℕ × ℕ)) (choice : Choice) → m ≢ n → with_hop n o choice m ≡ choice m
  apart_from m n o choice apart = elim (eqb_tells m n) [
    | inl e ↦ absurd (apart e.1)
    | inr e ↦ ap (λ b. cond b o (choice m)) e.0
  ]

  at_node : (n : ℕ) (o : Option (ℕ × ℕ)) (choice : Choice) → with_hop n o choice n ≡ o
  at_node n o choice = ap (λ b. cond b o (choice n)) (same_test n)

  still_chooses : (n : ℕ) (hop : ℕ × ℕ) (choice : Choice) → Chooses t p c to choice → In (hops t p c n to) hop → Chooses t p c to (with_hop n (Some hop) choice)
  still_chooses n hop choice chooses i m apart = elim (eqb_tells m n) [
    | inl e ↦ subst (IsAmong (hops t p c m to)) (sym (ap (λ b. cond b (Some hop) (choice m)) e.0))
        (subst (λ k. Contains (hops t p c k to) hop) (sym e.1) (contained_in (hops t p c n to) hop i))
    | inr e ↦ subst (IsAmong (hops t p c m to)) (sym (ap (λ b. cond b (Some hop) (choice m)) e.0)) (chooses m apart)
  ]

  -- from there it goes as the other choice does
  goes_on : (fuel d n : ℕ) (hop : ℕ × ℕ) (choice : Choice) → n < length t.loopbacks → n ≢ to → IsLeast wiring view n to d → Chooses t p c to choice
      → In (hops t p c n to) hop → IsNearer wiring view to d hop
      → chosen_within c (with_hop n (Some hop) choice) (suc fuel) n to ≡ cond (c.ldp_on hop.1) (before n (chosen_within c choice fuel hop.0 to)) None
  goes_on fuel d n hop choice below apart least chooses i near = elim (eqb_tells n to) [
    | inl e ↦ absurd (apart e.1)
    | inr e ↦
        ap (gone_by (with_hop n (Some hop) choice) fuel n) e.0 ∙ ap (over_hop c n (rest_by (with_hop n (Some hop) choice) fuel)) (at_node n (Some hop) choice)
        ∙ ap (λ r. cond (c.ldp_on hop.1) (before n r) None)
        (agree d (with_hop n (Some hop) choice) choice (still_chooses n hop choice chooses i) same fuel hop.0 near.rest near.below near.least near.less)
  ]
    where
      same : Agree (with_hop n (Some hop) choice) choice d
      same m x there there_least less =
          apart_from m n (Some hop) choice
          (λ e. not_less (one-least wiring view n to x d (subst (λ k. IsLeast wiring view k to x) e there_least) least) less)
        where
          not_less : x ≡ d → x < d → ⊥
          not_less h g = omega (arith, h, g)

  abbrev default : Choice
  default n = next wiring view n to

  default_chooses : Chooses t p c to default
  default_chooses = least_is_one t p c to

  abbrev IsOfSome : ℕ → ℕ → Option (List ℕ) → Type 0
  IsOfSome fuel n o = (choice : Choice) × Chooses t p c to choice × (chosen_within c choice fuel n to ≡ o)

  -- 3. Each path is that of a choice

  abbrev paths_from : ℕ → ℕ → List (List ℕ)
  paths_from fuel hop = lsps_within t p c fuel hop to

  abbrev ended : ℕ → ℕ → Bool → List (List ℕ)
  ended fuel n b = elim b as (λ _. List (List ℕ)) [ true ↦ (n ∷ []) ∷ [] | false ↦ flat_map (over_each c n (paths_from fuel)) (hops t p c n to) ]

  pub record IsBehind (fuel n : ℕ) (hop : ℕ × ℕ) (nodes : List ℕ) : Type 0 where
    pub on : c.ldp_on hop.1 ≡ true
    pub rest : List ℕ
    pub there : In (paths_from fuel hop.0) rest
    pub whole : n ∷ rest ≡ nodes

  is_behind : (fuel n : ℕ) (hop : ℕ × ℕ) (nodes : List ℕ) → In (over_each c n (paths_from fuel) hop) nodes → IsBehind fuel n hop nodes
  is_behind fuel n hop nodes i = by_ldp (c.ldp_on hop.1) refl i
    where
      by_ldp : (b : Bool) → c.ldp_on hop.1 ≡ b → In (elim b as (λ _. List (List ℕ)) [ true ↦ map (λ ns. n ∷ ns) (paths_from fuel hop.0) | false ↦ [] ]) nodes
          → IsBehind fuel n hop nodes
      by_ldp true e j = let m = in_map (λ ns. n ∷ ns) (paths_from fuel hop.0) nodes j in record { on = e; rest = m.0; there = m.1; whole = m.2 }
      by_ldp false e j = absurd j

  of_some : (fuel d n : ℕ) (nodes : List ℕ) → d < fuel → n < length t.loopbacks → IsLeast wiring view n to d → In (lsps_within t p c fuel n to) nodes
      → IsOfSome fuel n (Some nodes)
  of_some zero d n nodes f below least i = absurd (none-less d f)
  of_some (suc fuel) d n nodes f below least i = elim (eqb_tells n to) [
    | inl e ↦ at_end e.0 (subst (λ b. In (ended fuel n b) nodes) e.0 i)
    | inr e ↦ by_hop (λ m x ns g b l j. of_some fuel x m ns g b l j) e.1
        (in_flat_map (over_each c n (paths_from fuel)) (hops t p c n to) nodes (subst (λ b. In (ended fuel n b) nodes) e.0 i))
  ]
    where
      at_end : (n == to) ≡ true → In ((n ∷ []) ∷ []) nodes → IsOfSome (suc fuel) n (Some nodes)
      at_end e i = elim i [
        | inl same ↦ (default, default_chooses, ap (gone_by default fuel n) e ∙ ap (λ ns. Some ns) same)
        | inr none ↦ absurd none
      ]

      by_hop : ((m x : ℕ) (ns : List ℕ) → x < fuel → m < length t.loopbacks → IsLeast wiring view m to x → In (paths_from fuel m) ns →
          IsOfSome fuel m (Some ns))
          → n ≢ to → (hop : ℕ × ℕ) × In (hops t p c n to) hop × In (over_each c n (paths_from fuel) hop) nodes → IsOfSome (suc fuel) n (Some nodes)
      by_hop more apart m =
          let near = nearer wiring view to n d m.0 ok costs least (is_hop wiring view to ok p.equal n m.0 below apart m.1) in
          let after = is_behind fuel n m.0 nodes m.2 in
          let rest = more m.0.0 near.rest after.rest (shorter near.less f) near.below near.least after.there in (
            with_hop n (Some m.0) rest.0,
            still_chooses n m.0 rest.0 rest.1 m.1,
            goes_on fuel d n m.0 rest.0 below apart least rest.1 m.1 near
                ∙ ap (λ b. cond b (before n (chosen_within c rest.0 fuel m.0.0 to)) None) after.on ∙ ap (before n) rest.2 ∙ ap (λ ns. Some ns) after.whole,
          )

  -- 4. Where not all lead some choice has none

  abbrev over : ℕ → ℕ × ℕ → Bool
  over fuel = leads_over c (λ hop. all_lead_within t p c fuel hop to)

  abbrev lead_on : ℕ → ℕ → Bool
  lead_on fuel n = has_some (hops t p c n to) && list_all (over fuel) (hops t p c n to)

  has_none : (fuel d n : ℕ) → d < fuel → n < length t.loopbacks → IsLeast wiring view n to d → all_lead_within t p c fuel n to ≡ false → IsOfSome fuel n None
  has_none zero d n f below least h = absurd (none-less d f)
  has_none (suc fuel) d n f below least h = elim (eqb_tells n to) [
    | inl e ↦ absurd (clash (sym (ap (λ b. b || lead_on fuel n) e.0) ∙ h))
    | inr e ↦ by_hop (λ m x g b l k. has_none fuel x m g b l k) e.1 (some_fails (over fuel) (hops t p c n to)
        (sym (ap (λ b. b && list_all (over fuel) (hops t p c n to)) (has_hop wiring view to ok p.equal n d below e.1 least))
        ∙ sym (ap (λ b. b || lead_on fuel n) e.0) ∙ h))
  ]
    where
      by_hop : ((m x : ℕ) → x < fuel → m < length t.loopbacks → IsLeast wiring view m to x → all_lead_within t p c fuel m to ≡ false → IsOfSome fuel m None)
          → n ≢ to → (hop : ℕ × ℕ) × In (hops t p c n to) hop × (over fuel hop ≡ false) → IsOfSome (suc fuel) n None
      by_hop more apart m =
          by_ldp (nearer wiring view to n d m.0 ok costs least (is_hop wiring view to ok p.equal n m.0 below apart m.1)) (c.ldp_on m.0.1) refl
        where
          by_ldp : IsNearer wiring view to d m.0 → (b : Bool) → c.ldp_on m.0.1 ≡ b → IsOfSome (suc fuel) n None
          by_ldp near false e = (
            with_hop n (Some m.0) default,
            still_chooses n m.0 default default_chooses m.1,
            goes_on fuel d n m.0 default below apart least default_chooses m.1 near
                ∙ ap (λ b. cond b (before n (chosen_within c default fuel m.0.0 to)) None) e,
          )
          by_ldp near true e =
              let rest = more m.0.0 near.rest (shorter near.less f) near.below near.least
              (sym (ap (λ b. b && all_lead_within t p c fuel m.0.0 to) e) ∙ m.2) in (
                with_hop n (Some m.0) rest.0,
                still_chooses n m.0 rest.0 rest.1 m.1,
                goes_on fuel d n m.0 rest.0 below apart least rest.1 m.1 near
                    ∙ ap (λ b. cond b (before n (chosen_within c rest.0 fuel m.0.0 to)) None) e ∙ ap (before n) rest.2,
              )

  -- 5. So what is told is told of choices

  abbrev IsOfOne : ℕ → Option (List ℕ) → Type 0
  IsOfOne n o = (choice : Choice) × Chooses t p c to choice × (chosen_lsp t c choice n to ≡ o)

  by_one : (n : ℕ) (nodes : List ℕ) → n < length t.loopbacks → (o : Option ℕ) → cost_to t c n to ≡ o → In (lsps_by t p c n to o) nodes
      → IsOfOne n (Some nodes)
  by_one n nodes below None e i = absurd i
  by_one n nodes below (Some d) e i =
      let one = of_some (suc d) d n nodes (omega arith) below (least-is wiring view to ok n d below e) i in
      (one.0, one.1, ap (chosen_by c one.0 n to) e ∙ one.2)

  falls : (n : ℕ) → n < length t.loopbacks → (o : Option ℕ) → cost_to t c n to ≡ o → all_lead_by t p c n to o ≡ false → IsOfOne n None
  falls n below None e h = (default, default_chooses, ap (chosen_by c default n to) e)
  falls n below (Some d) e h =
      let one = has_none (suc d) d n (omega arith) below (least-is wiring view to ok n d below e) h in
      (one.0, one.1, ap (chosen_by c one.0 n to) e ∙ one.2)

  pub tells : (n : ℕ) → n < length t.loopbacks → TellsOfChoices t p c n to
  tells n below = record {
    by_one = λ nodes i. by_one n nodes below (cost_to t c n to) refl (in_contained (lsps t p c n to) nodes i);
    falls = λ h. falls n below (cost_to t c n to) refl h;
  }

pub told_of_choices : (t : Network) (p : Profile) (c : Config) (n to : ℕ) → IsLawful t → n < length t.loopbacks
    → TellsOfChoices (network_under t p c) p c n to
told_of_choices t p c n to lawful below = tells (network_under t p c) p c to (joins t p c lawful) (cost-all t p c lawful) n below
