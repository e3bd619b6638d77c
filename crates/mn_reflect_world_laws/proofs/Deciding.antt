-- An edge decides anew on routes of other edges, as what reflectors say of them changes.
use Rattle.std.proofs.Common.{ℕ, ◌≡◌, ◌≢◌, ◌<◌, ◌⊎◌, inl, inr, Bool, true, false, List, [], ◌∷◌, ◌++◌, length, take}
use Rattle.std.proofs.Common.{Some, None, Option, refl, sym, ◌∙◌, ap, subst}
use Rattle.std.specs.Prelude.{◌==◌, ◌&&◌, nat_lt, if◌then◌else◌, option_map}
use Rattle.std.proofs.lemmas.Bool.Decides.{eqb_tells}
use Rattle.std.proofs.lemmas.List.Sums.{fold-append}
use Rattle.mn_base.proofs.Bools.{no, two_ways, and_on}
use Rattle.mn_base.proofs.Members.{In, in_append, in_contained}
use Rattle.mn_wiring.specs.Wiring.{nodes_of}
use Rattle.mn_topo.specs.Network.{Network, wiring_of}
use Rattle.mn_topo.specs.Lawful.{IsLawful}
use Rattle.mn_topo.specs.VrfTable.{is_edge}
use Rattle.mn_ledger.specs.Tables.{put_pair}
use Rattle.mn_ledger.specs.Places.{edge_of}
use Rattle.mn_ledger.specs.World.{Config, Export, Telling, Announcement, Withdrawal}
use Rattle.mn_ledger.specs.Bgp.{peers_live}
use Rattle.mn_ledger.specs.Held.{heard_of}
use Rattle.mn_ledger.proofs.GoingBy.{pair_here, pair_off}
use Rattle.mn_ledger_laws.proofs.There.{edge_there}
use Rattle.mn_bgp_wire.specs.Says.{Says}
use Rattle.mn_rib_in.specs.Heard as rib
use Rattle.mn_pe.specs.Edge.{Edge, heard_of_peer, heard_after, after_update}
use Rattle.mn_bgp_spelling_laws.specs.Spelling.{Labels}
use Rattle.mn_routing_laws.specs.Standing.{says_of, heard_if, heard_from, heard_in, edge_in}
use Rattle.mn_routing_laws.proofs.Tables.{map_same, map_numbers_set, map_numbers_at}
use Rattle.mn_reflect_ledger_laws.specs.Words.{Key, Offer, key_of, same_key}
use Rattle.mn_reflect_ledger_laws.specs.Picks.{ReflectWorld, by_address, from_reflectors}
use Rattle.mn_reflect_ledger_laws.proofs.Mentions.{key_itself, same_keys}
use Rattle.mn_reflect_ledger_laws.proofs.Holding.{is_an_edge}
use Rattle.mn_reflect_world_laws.specs.Kept.{route_in, kept_in}
use Rattle.mn_reflect_world_laws.specs.Edges.{Decisions, all_live, as_peerings, IsDecision, decided_after, decided, AreDecided}
use Rattle.mn_reflect_world_laws.specs.Choice.{reflected_to}
use Rattle.mn_reflect_world_laws.specs.Goes.{decision_says, decide, decide_all}
use Rattle.mn_reflect_world_laws.proofs.Choosing.{reflected_is}
use Rattle.mn_reflect_world_laws.proofs.Config.{IsMade}

-- 1. One decision more

take_all : {A : Type 0} (xs : List A) → take (length xs) xs ≡ xs
take_all [] = refl
take_all (x ∷ xs) = ap (λ ys. x ∷ ys) (take_all xs)

module _ (t : Network) (l : Labels) (c : Config) where
  abbrev live : Config
  live = all_live t c

  heard_all : (d : Decisions) (edge home : ℕ) → heard_of (as_peerings d) edge home ≡ d edge home
  heard_all d edge home = take_all (d edge home)

  both_edges : (edge home : ℕ) → is_edge t.vrfs edge ≡ true → is_edge t.vrfs home ≡ true → peers_live live edge home ≡ true
  both_edges edge home h g = by (nat_lt edge home)
    where
      by : (b : Bool) → (if b then is_edge t.vrfs edge && is_edge t.vrfs home else is_edge t.vrfs home && is_edge t.vrfs edge) ≡ true
      by true = and_on (is_edge t.vrfs edge) (is_edge t.vrfs home) h g
      by false = and_on (is_edge t.vrfs home) (is_edge t.vrfs edge) g h

  heard_by : (d : Decisions) (edge home : ℕ) → heard_in t l live (as_peerings d) edge home
      ≡ (if home == edge then [] else if peers_live live edge home then heard_from t l home (d edge home) else [])
  heard_by d edge home = ap (λ ms. if home == edge then [] else if peers_live live edge home then heard_from t l home ms else []) (heard_all d edge home)

  one_more_heard : (home : ℕ) (ms : List Telling) (m : Telling) (says : Says) → says_of t l home m ≡ Some says →
      heard_from t l home (ms ++ m ∷ []) ≡ heard_after (heard_from t l home ms) says
  one_more_heard home ms m says h =
      fold-append (λ heard telling. heard_if heard (says_of t l home telling)) [] ms (m ∷ [])
      ∙ ap (heard_if (heard_from t l home ms)) h

  module _ (d : Decisions) (edge home : ℕ) (m : Telling) (says : Says) (is : says_of t l home m ≡ Some says) (apart : home ≢ edge)
      (edge_is : is_edge t.vrfs edge ≡ true) (home_is : is_edge t.vrfs home ≡ true) (below : home < length t.loopbacks) where
    abbrev pub more : Decisions
    more = put_pair d edge home (d edge home ++ m ∷ [])

    here : heard_in t l live (as_peerings more) edge home ≡ heard_after (heard_in t l live (as_peerings d) edge home) says
    here =
        heard_by more edge home
        ∙ ap (λ b. if b then [] else if peers_live live edge home then heard_from t l home (more edge home) else []) off
        ∙ ap (λ b. if b then heard_from t l home (more edge home) else []) (both_edges edge home edge_is home_is)
        ∙ ap (heard_from t l home) (pair_here d edge home (d edge home ++ m ∷ []))
        ∙ one_more_heard home (d edge home) m says is
        ∙ ap (λ hs. heard_after hs says)
        (sym (heard_by d edge home
        ∙ ap (λ b. if b then [] else if peers_live live edge home then heard_from t l home (d edge home) else []) off
        ∙ ap (λ b. if b then heard_from t l home (d edge home) else []) (both_edges edge home edge_is home_is)))
      where
        off : (home == edge) ≡ false
        off = elim (eqb_tells home edge) [ inl e ↦ absurd (apart e.1) | inr e ↦ e.0 ]

    elsewhere : (n h : ℕ) → (n ≢ edge) ⊎ (h ≢ home) → heard_in t l live (as_peerings more) n h ≡ heard_in t l live (as_peerings d) n h
    elsewhere n h g =
        heard_by more n h
        ∙ ap (λ ms. if h == n then [] else if peers_live live n h then heard_from t l h ms else []) (pair_off d edge home (d edge home ++ m ∷ []) n h g)
        ∙ sym (heard_by d n h)

    built : ℕ → List (List rib.Heard) → Edge
    built n heard = record (edge_in t l live (as_peerings d) n) { heard = heard }

    pub decided_edge : edge_in t l live (as_peerings more) edge ≡ after_update (edge_in t l live (as_peerings d) edge) home says
    unfolding built
    decided_edge =
        ap (built edge)
        (map_numbers_set (heard_in t l live (as_peerings d) edge) (heard_in t l live (as_peerings more) edge) (length t.loopbacks) home
        (heard_after (heard_of_peer (edge_in t l live (as_peerings d) edge) home) says) below
        (here ∙ ap (λ hs. heard_after hs says)
        (sym (map_numbers_at (heard_in t l live (as_peerings d) edge) (length t.loopbacks) home [] below)))
        (λ h g. elsewhere edge h (inr g)))

    pub other_edge : (n : ℕ) → n ≢ edge → edge_in t l live (as_peerings more) n ≡ edge_in t l live (as_peerings d) n
    unfolding built
    other_edge n g =
        ap (built n)
        (map_same (heard_in t l live (as_peerings more) n) (heard_in t l live (as_peerings d) n) (nodes_of (wiring_of t)) (λ h i. elsewhere n h (inl g)))

-- 2. The last decision

decided_more : (key : Key) (was : Option Export) (ms : List Telling) (m : Telling) → decided key was (ms ++ m ∷ []) ≡ decided_after key (decided key was ms) m
decided_more key was [] m = refl
decided_more key was (x ∷ ms) m = decided_more key (decided_after key was x) ms m

-- what is decided of a name
abbrev pub decision : Key → Option Offer → Telling
decision key None = Withdrawal key.vrf key.prefix
decision key (Some offer) = Announcement offer.export

decides_it : (key : Key) (offer : Option Offer) (was : Option Export) → ((x : Offer) → offer ≡ Some x → key_of x ≡ key) →
    decided_after key was (decision key offer) ≡ option_map (λ o. o.export) offer
decides_it key None was h = ap (λ b. if b then None else was) (key_itself key)
decides_it key (Some x) was h = ap (λ b. if b then Some x.export else was) (subst (λ k. same_key key k ≡ true) (sym (h x refl)) (key_itself key))

decides_other : (key other : Key) (offer : Option Offer) (was : Option Export) → ((x : Offer) → offer ≡ Some x → key_of x ≡ other) →
    same_key key other ≡ false →
    decided_after key was (decision other offer) ≡ was
decides_other key other None was h g = ap (λ b. if b then None else was) g
decides_other key other (Some x) was h g = ap (λ b. if b then Some x.export else was) (subst (λ k. same_key key k ≡ false) (sym (h x refl)) g)

-- 3. One name after another

module _ (t : Network) (reflectors : List ℕ) (l : Labels) (u : ReflectWorld) (lawful : IsLawful t) (edge : ℕ) (edge_is : is_edge t.vrfs edge ≡ true)
    (named : (key : Key) (x : Offer) → from_reflectors t reflectors u edge key ≡ Some x → (key_of x ≡ key) × IsMade t u.config x.export) where
  -- decided is what is to be, but for the names that are still to be decided at this edge
  pub record AreDecidedBut (d : Decisions) (keys : List Key) : Type 0 where
    pub last : (node : ℕ) (key : Key) → is_edge t.vrfs node ≡ true → key.vrf < length t.vrfs → edge_of t key.vrf ≢ node →
        (decided key None (d node (edge_of t key.vrf)) ≡ option_map (λ o. o.export) (from_reflectors t reflectors u node key)) ⊎ ((node ≡ edge) × In keys key)
    pub told : (node home : ℕ) (m : Telling) → In (d node home) m → IsDecision t u.config home m

  -- what comes of it
  pub record Comes (d : Decisions) (keys : List Key) : Type 0 where
    pub then_decided : Decisions
    pub are : AreDecidedBut then_decided []
    pub here : edge_in t l (all_live t u.config) (as_peerings then_decided) edge
        ≡ decide_all t (by_address t reflectors) (kept_in l u edge) edge keys (edge_in t l (all_live t u.config) (as_peerings d) edge)
    pub others : (n : ℕ) → n ≢ edge → edge_in t l (all_live t u.config) (as_peerings then_decided) n ≡ edge_in t l (all_live t u.config) (as_peerings d) n

  spelled : (key : Key) (offer : Option Offer) → ((x : Offer) → offer ≡ Some x → key_of x ≡ key) →
      says_of t l (edge_of t key.vrf) (decision key offer) ≡ Some (decision_says t key (option_map (route_in l) offer))
  spelled key None h = refl
  spelled key (Some x) h = refl

  is_decision : (key : Key) (offer : Option Offer) → key.vrf < length t.vrfs → ((x : Offer) → offer ≡ Some x → (key_of x ≡ key) × IsMade t u.config x.export) →
      IsDecision t u.config (edge_of t key.vrf) (decision key offer)
  is_decision key None below h = (below, refl)
  is_decision key (Some x) below h =
      let m = h x refl in
      (m.1.vrf, ap (λ (k : Key). edge_of t k.vrf) m.0, m.1.formed, m.1.attachment.given)

  module _ (d : Decisions) (key : Key) (keys : List Key) (below : key.vrf < length t.vrfs) (but : AreDecidedBut d (key ∷ keys)) where
    abbrev home : ℕ
    home = edge_of t key.vrf

    abbrev offer : Option Offer
    offer = from_reflectors t reflectors u edge key

    -- of an own VRF nothing is decided
    own : home ≡ edge → AreDecidedBut d keys
    own e = record {
      last = λ node k is v apart. elim (but.last node k is v apart) [
        | inl g ↦ inl g
        | inr g ↦ elim g.1 [
          | inl q ↦ absurd (apart (ap (λ (z : Key). edge_of t z.vrf) (sym q) ∙ e ∙ sym g.0))
          | inr i ↦ inr (g.0, i)
        ]
      ];
      told = but.told;
    }

    own_stays : home ≡ edge → (now : Edge) → decide t (by_address t reflectors) (kept_in l u edge) edge key now ≡ now
    own_stays e now = elim (eqb_tells home edge) [
      | inl q ↦ ap (λ b. if b then now else after_update now home (decision_says t key (reflected_to (by_address t reflectors) (kept_in l u edge) edge key)))
          q.0
      | inr q ↦ absurd (q.1 e)
    ]

    abbrev next : Decisions
    next = put_pair d edge home (d edge home ++ decision key offer ∷ [])

    decides : AreDecidedBut next keys
    decides = record {
      last = λ node k is v apart. elim (eqb_tells node edge) [
        | inr n ↦ elim (but.last node k is v apart) [
          | inl g ↦ inl (ap (decided k None) (pair_off d edge home (d edge home ++ decision key offer ∷ []) node (edge_of t k.vrf) (inl n.1)) ∙ g)
          | inr g ↦ absurd (n.1 g.0)
        ]
        | inl n ↦ elim (eqb_tells (edge_of t k.vrf) home) [
          | inr h ↦ elim (but.last node k is v apart) [
            | inl g ↦ inl (ap (decided k None) (pair_off d edge home (d edge home ++ decision key offer ∷ []) node (edge_of t k.vrf) (inr h.1)) ∙ g)
            | inr g ↦ elim g.1 [ inl q ↦ absurd (h.1 (ap (λ (z : Key). edge_of t z.vrf) (sym q))) | inr i ↦ inr (g.0, i) ]
          ]
          | inl h ↦ at_home node k is v apart n.1 h.1
        ]
      ];
      told = λ node h m i. elim (eqb_tells node edge) [
        | inr n ↦ but.told node h m (subst (λ ms. In ms m) (pair_off d edge home (d edge home ++ decision key offer ∷ []) node h (inl n.1)) i)
        | inl n ↦ elim (eqb_tells h home) [
          | inr g ↦ but.told node h m (subst (λ ms. In ms m) (pair_off d edge home (d edge home ++ decision key offer ∷ []) node h (inr g.1)) i)
          | inl g ↦ told_here node h m n.1 g.1 i
        ]
      ];
    }
      where
        there : (node h : ℕ) → node ≡ edge → h ≡ home → next node h ≡ d edge home ++ decision key offer ∷ []
        there node h n g = ap (λ x. next x h) n ∙ ap (next edge) g ∙ pair_here d edge home (d edge home ++ decision key offer ∷ [])

        told_here : (node h : ℕ) (m : Telling) → node ≡ edge → h ≡ home → In (next node h) m → IsDecision t u.config h m
        told_here node h m n g i = elim (in_append (d edge home) (decision key offer ∷ []) m (subst (λ ms. In ms m) (there node h n g) i)) [
          | inl j ↦ subst (λ x. IsDecision t u.config x m) (sym g) (but.told edge home m j)
          | inr j ↦ elim j [
            | inl q ↦ subst (λ x. IsDecision t u.config x m) (sym g) (subst (IsDecision t u.config home) q (is_decision key offer below (λ x e. named key x e)))
            | inr k ↦ absurd k
          ]
        ]

        at_home : (node : ℕ) (k : Key) → is_edge t.vrfs node ≡ true → k.vrf < length t.vrfs → edge_of t k.vrf ≢ node → node ≡ edge → edge_of t k.vrf ≡ home →
            (decided k None (next node (edge_of t k.vrf)) ≡ option_map (λ o. o.export) (from_reflectors t reflectors u node k)) ⊎ ((node ≡ edge) × In keys k)
        at_home node k is v apart n h = elim (two_ways (same_key k key)) [
          | inl q ↦ inl (
              ap (decided k None) (there node (edge_of t k.vrf) n h) ∙ decided_more k None (d edge home) (decision key offer)
              ∙ ap (λ (z : Key). decided_after z (decided z None (d edge home)) (decision key offer)) (same_keys k key q)
              ∙ decides_it key offer (decided key None (d edge home)) (λ x e. (named key x e).0)
              ∙ ap (λ x. option_map (λ o. o.export) (from_reflectors t reflectors u x key)) (sym n)
              ∙ ap (λ z. option_map (λ o. o.export) (from_reflectors t reflectors u node z)) (sym (same_keys k key q)))
          | inr q ↦ elim (but.last node k is v apart) [
            | inl g ↦ inl (
                ap (decided k None) (there node (edge_of t k.vrf) n h) ∙ decided_more k None (d edge home) (decision key offer)
                ∙ decides_other k key offer (decided k None (d edge home)) (λ x e. (named key x e).0) q
                ∙ ap (decided k None) (sym (ap (λ x. d x (edge_of t k.vrf)) n ∙ ap (d edge) h)) ∙ g)
            | inr g ↦ elim g.1 [
              | inl e ↦ absurd (no (sym q ∙ ap (same_key k) e ∙ key_itself k))
              | inr i ↦ inr (g.0, i)
            ]
          ]
        ]

    home_is : is_edge t.vrfs home ≡ true
    home_is = is_an_edge t key.vrf below

    home_below : home < length t.loopbacks
    home_below = edge_there t key.vrf lawful below

    is_spelled : says_of t l home (decision key offer) ≡ Some (decision_says t key (reflected_to (by_address t reflectors) (kept_in l u edge) edge key))
    is_spelled = spelled key offer (λ x e. (named key x e).0)
        ∙ ap (λ o. Some (decision_says t key o)) (sym (reflected_is t reflectors l u edge key))

    edge_then : home ≢ edge → edge_in t l (all_live t u.config) (as_peerings next) edge
        ≡ decide t (by_address t reflectors) (kept_in l u edge) edge key (edge_in t l (all_live t u.config) (as_peerings d) edge)
    edge_then apart =
        decided_edge t l u.config d edge home (decision key offer) (decision_says t key (reflected_to (by_address t reflectors) (kept_in l u edge) edge key))
        is_spelled apart edge_is home_is home_below
        ∙ elim (eqb_tells home edge) [
          | inl q ↦ absurd (apart q.1)
          | inr q ↦ sym (ap (λ b. if b then edge_in t l (all_live t u.config) (as_peerings d) edge else
              after_update (edge_in t l (all_live t u.config) (as_peerings d) edge) home
              (decision_says t key (reflected_to (by_address t reflectors) (kept_in l u edge) edge key))) q.0)
        ]

    edge_off : home ≢ edge → (n : ℕ) → n ≢ edge → edge_in t l (all_live t u.config) (as_peerings next) n ≡ edge_in t l (all_live t u.config) (as_peerings d) n
    edge_off apart n g =
        other_edge t l u.config d edge home (decision key offer) (decision_says t key (reflected_to (by_address t reflectors) (kept_in l u edge) edge key))
        is_spelled apart edge_is home_is home_below n g

  pub comes : (d : Decisions) (keys : List Key) → ((key : Key) → In keys key → key.vrf < length t.vrfs) → AreDecidedBut d keys → Comes d keys
  comes d [] h but = record { then_decided = d; are = but; here = refl; others = λ n g. refl }
  comes d (key ∷ keys) h but = elim (eqb_tells (edge_of t key.vrf) edge) [
    | inl e ↦
        (let more = comes d keys (λ k i. h k (inr i)) (own d key keys (h key (inl refl)) but e.1) in
        record {
          then_decided = more.then_decided;
          are = more.are;
          here = more.here
              ∙ ap (decide_all t (by_address t reflectors) (kept_in l u edge) edge keys)
              (sym (own_stays d key keys (h key (inl refl)) but e.1 (edge_in t l (all_live t u.config) (as_peerings d) edge)));
          others = more.others;
        })
    | inr e ↦
        (let more = comes (next d key keys (h key (inl refl)) but) keys (λ k i. h k (inr i)) (decides d key keys (h key (inl refl)) but) in
        record {
          then_decided = more.then_decided;
          are = more.are;
          here = more.here
              ∙ ap (decide_all t (by_address t reflectors) (kept_in l u edge) edge keys) (edge_then d key keys (h key (inl refl)) but e.1);
          others = λ n g. more.others n g ∙ edge_off d key keys (h key (inl refl)) but e.1 n g;
        })
  ]

-- all is decided
pub then_decided_are : (t : Network) (reflectors : List ℕ) (l : Labels) (u : ReflectWorld) (lawful : IsLawful t) (edge : ℕ)
    (edge_is : is_edge t.vrfs edge ≡ true)
    (named : (key : Key) (x : Offer) → from_reflectors t reflectors u edge key ≡ Some x → (key_of x ≡ key) × IsMade t u.config x.export) (d : Decisions) →
    AreDecidedBut t reflectors l u lawful edge edge_is named d [] → AreDecided t reflectors u d
then_decided_are t reflectors l u lawful edge edge_is named d h = record {
  last = λ node key is v apart. elim (h.last node key is v apart) [ inl g ↦ g | inr g ↦ absurd g.1 ];
  told = λ node home m i. h.told node home m (in_contained (d node home) m i);
}
