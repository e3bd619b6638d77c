-- What is found of a topology and pairs, step by step.
use Rattle.std.proofs.Common.{ℕ, zero, suc, ◌≡◌, ◌+◌, ◌<◌, Bool, true, false, cond, List, [], ◌∷◌, ◌++◌, map, filter, length, get_or, take, refl, arith, sym}
use Rattle.std.proofs.Common.{◌∙◌, ap, subst}
use Rattle.std.proofs.Common.{Some, None}
use Rattle.std.specs.Prelude.{◌==◌, ◌||◌, All, nat_lt, unwrap_or, position, if◌then◌else◌}
use Rattle.std.specs.List.{Contains, flat_map, range_with_len, position_or_len}
use Rattle.std.proofs.lemmas.List.{map-append, take_more, get_or-map, get_or_default, get_or_append_left, get_or_push, length_push, length-map}
use Rattle.std.proofs.lemmas.List.Elements.{filter-append, All-contains, Contains-get_or}
use Rattle.std.proofs.lemmas.List.Sums.{passes_at_first, fails_before_first}
use Rattle.mn_base.proofs.Bools.{no, or_right, less_is, less_tells, not_less_tells, same_numbers, same_test, none_below}
use Rattle.mn_base.proofs.Members.{In, in_contained, contained_in, in_map, map_in, in_flat_map, in_range, range_in, filter_in}
use Rattle.mn_base.specs.declared.numbers.LinkNo.{LinkNo}
use Rattle.mn_base.specs.declared.numbers.NodeNo.{NodeNo}
use Rattle.mn_wiring.specs.Wiring.{Wiring}
use Rattle.mn_topo.specs.Network.{Network, wiring_of}
use Rattle.mn_topo.specs.Homes.{site_at, vrf_of, edge_of, home_of}
use Rattle.mn_topo.specs.Lawful.{IsLawful}
use Rattle.mn_topo.specs.VrfTable.{is_edge}
use Rattle.mn_topo.specs.declared.vrfs.VrfDef.{VrfDef}
use Rattle.mn_ledger.specs.Places.{edges}
use Rattle.mn_ledger.specs.Held.{HeldRoute}
use Rattle.mn_ledger_laws.proofs.There.{vrf_there, home_there}
use Rattle.mn_reach_laws.specs.Candidates.{AreCandidates}
use Rattle.mn_failure_laws.specs.Failures.{Failure, no_failure, config_under}
use Rattle.mn_failure_laws.proofs.Same.{same_flat_map}
use Rattle.mn_candidates.specs.declared.pairs.Pair.{Pair}
use Rattle.mn_candidates.specs.declared.route.Route.{Route}
use Rattle.mn_candidates.specs.Pairs.{takes_from}
use Rattle.mn_candidates.specs.Routes.{held_as, route_over, routes_over, routes_for, AreFor}
use Rattle.mn_way.specs.Way.{way, links_on, link_numbered}
use Rattle.mn_way.specs.Switched as switched
use Rattle.mn_way.specs.Switched.{Switched, IsOver}
use Rattle.mn_reach.specs.declared.plan.Candidate.{Candidate}
use Rattle.mn_reach.specs.declared.plan.Prospect.{Prospect}
use Rattle.mn_reach.specs.Plans.{IsOf, IsFor, IsPlaced, all_up, held_in, links_towards, numbers_of, no_pair, no_prospect, pairs_at}
use Rattle.mn_reach.specs.Finding.{IsFresh, AreFound, AreByHome, AreByLink}
use Rattle.mn_reach.proofs.Left.{edge_below}

-- 1. The edges

range_more : (a k : ℕ) → range_with_len a (suc k) ≡ range_with_len a k ++ (a + k) ∷ []
range_more a zero = ap (λ n. n ∷ []) (omega arith)
range_more a (suc k) = ap (λ xs. a ∷ xs) (range_more (a + 1) k ∙ ap (λ n. range_with_len (a + 1) k ++ n ∷ []) (omega arith))

next_number : (p : ℕ → Bool) (k : ℕ) → filter p (range_with_len 0 (k + 1)) ≡ filter p (range_with_len 0 k) ++ cond (p k) (k ∷ []) []
next_number p k =
    ap (λ n. filter p (range_with_len 0 n)) (let e : k + 1 ≡ suc k = omega arith in e)
    ∙ ap (filter p) (range_more 0 k ∙ ap (λ n. range_with_len 0 k ++ n ∷ []) (let e : 0 + k ≡ k = omega arith in e))
    ∙ filter-append p (range_with_len 0 k) (k ∷ [])

nothing_more : (xs : List ℕ) → xs ++ [] ≡ xs
nothing_more [] = refl
nothing_more (x ∷ xs) = ap (λ ys. x ∷ ys) (nothing_more xs)

pub one_edge : (p : ℕ → Bool) (k : ℕ) (found new : List NodeNo) → numbers_of found ≡ filter p (range_with_len 0 k) → p k ≡ true
    → new ≡ found ++ record { 0 = k } ∷ [] → numbers_of new ≡ filter p (range_with_len 0 (k + 1))
one_edge p k found new so_far passes e =
    ap numbers_of e ∙ map-append (λ (n : NodeNo). n.0) found (record { 0 = k } ∷ []) ∙ ap (λ xs. xs ++ k ∷ []) so_far
    ∙ sym (next_number p k ∙ ap (λ b. filter p (range_with_len 0 k) ++ cond b (k ∷ []) []) passes)

pub no_edge : (p : ℕ → Bool) (k : ℕ) (found : List NodeNo) → numbers_of found ≡ filter p (range_with_len 0 k) → p k ≡ false
    → numbers_of found ≡ filter p (range_with_len 0 (k + 1))
no_edge p k found so_far fails =
    so_far ∙ sym (next_number p k ∙ ap (λ b. filter p (range_with_len 0 k) ++ cond b (k ∷ []) []) fails ∙ nothing_more (filter p (range_with_len 0 k)))

-- the place of one
first_there : (es : List NodeNo) (e : ℕ) → Contains (numbers_of es) e → position_or_len (λ (n : NodeNo). n.0 == e) es < length es
first_there es e c = by (nat_lt (position_or_len (λ (n : NodeNo). n.0 == e) es) (length es)) refl
  where
    below : c.0 < length es
    below = subst (λ n. c.0 < n) (length-map es (λ (n : NodeNo). n.0)) c.1

    is : (get_or es c.0 (record { 0 = e })).0 ≡ e
    is = sym (get_or-map (λ (n : NodeNo). n.0) es c.0 (record { 0 = e }) e below) ∙ c.2

    by : (b : Bool) → nat_lt (position_or_len (λ (n : NodeNo). n.0 == e) es) (length es) ≡ b → position_or_len (λ (n : NodeNo). n.0 == e) es < length es
    by true f = less_tells _ _ f
    by false f =
        let past = not_less_tells _ _ f in
        absurd (no (sym (fails_before_first (λ (n : NodeNo). n.0 == e) es c.0 (record { 0 = e }) (omega (arith, below, past)))
        ∙ ap (λ n. n == e) is ∙ same_test e))

pub placed_at : (es : List NodeNo) (e at : ℕ) → Contains (numbers_of es) e → at ≡ unwrap_or (position (λ (n : NodeNo). n.0 == e) es) 0
    → (at < length (numbers_of es)) × (get_or (numbers_of es) at 0 ≡ e)
placed_at es e at c is =
    let below = first_there es e c in
    let first : at ≡ position_or_len (λ (n : NodeNo). n.0 == e) es =
    is ∙ ap (λ b. unwrap_or (cond b (Some (position_or_len (λ (n : NodeNo). n.0 == e) es)) None) 0) (less_is _ _ below) in (
      subst (λ n. at < n) (sym (length-map es (λ (n : NodeNo). n.0))) (subst (λ k. k < length es) (sym first) below),
      ap (λ k. get_or (numbers_of es) k 0) first
          ∙ get_or-map (λ (n : NodeNo). n.0) es (position_or_len (λ (n : NodeNo). n.0 == e) es) (record { 0 = 0 }) 0 below
          ∙ same_numbers _ _ (passes_at_first (λ (n : NodeNo). n.0 == e) es (record { 0 = 0 }) below),
    )

-- each route with a place
pub one_placed : (routes : List Route) (found new : List Candidate) (i : ℕ) (r : Route) (place : ℕ) → i < length routes → r ≡ get_or routes i r
    → map (λ (c : Candidate). c.route) found ≡ take i routes → new ≡ found ++ record { route = r; place = place } ∷ []
    → map (λ (c : Candidate). c.route) new ≡ take (i + 1) routes
one_placed routes found new i r place h is so_far e =
    ap (map (λ (c : Candidate). c.route)) e ∙ map-append (λ (c : Candidate). c.route) found (record { route = r; place = place } ∷ [])
    ∙ ap (λ xs. xs ++ r ∷ []) so_far ∙ ap (λ x. take i routes ++ x ∷ []) is ∙ sym (take_more routes i r h)

-- 2. The links on ways

numbered_again : (ls : List ℕ) → map (λ (l : LinkNo). l.0) (map link_numbered ls) ≡ ls
numbered_again [] = refl
numbered_again (l ∷ ls) = ap (λ xs. l ∷ xs) (numbered_again ls)

flat_map-append : {A B : Type 0} (f : A → List B) (xs : List A) (x : A) → flat_map f (xs ++ x ∷ []) ≡ flat_map f xs ++ f x
flat_map-append f [] x = nothing (f x)
  where
    nothing : {B : Type 0} (ys : List B) → ys ++ [] ≡ ys
    nothing [] = refl
    nothing (y ∷ ys) = ap (λ zs. y ∷ zs) (nothing ys)
flat_map-append f (y ∷ xs) x = ap (λ zs. f y ++ zs) (flat_map-append f xs x) ∙ sym (assoc (f y) (flat_map f xs) (f x))
  where
    assoc : {B : Type 0} (us vs ws : List B) → (us ++ vs) ++ ws ≡ us ++ (vs ++ ws)
    assoc [] vs ws = refl
    assoc (u ∷ us) vs ws = ap (λ zs. u ∷ zs) (assoc us vs ws)

pub more_links : (f : Candidate → List ℕ) (cs : List Candidate) (i : ℕ) (c : Candidate) (links new : List LinkNo) → i < length cs → get_or cs i c ≡ c
    → map (λ (l : LinkNo). l.0) links ≡ flat_map f (take i cs) → new ≡ links ++ map link_numbered (f c)
    → map (λ (l : LinkNo). l.0) new ≡ flat_map f (take (i + 1) cs)
more_links f cs i c links new h is so_far e =
    ap (map (λ (l : LinkNo). l.0)) e ∙ map-append (λ (l : LinkNo). l.0) links (map link_numbered (f c))
    ∙ ap (λ xs. map (λ (l : LinkNo). l.0) links ++ xs) (numbered_again (f c)) ∙ ap (λ xs. xs ++ f c) so_far
    ∙ sym (ap (flat_map f) (take_more cs i c h ∙ ap (λ x. take i cs ++ x ∷ []) is) ∙ flat_map-append f (take i cs) c)

-- 3. Candidates

edge_at : (t : Network) (v : ℕ) → v < length t.vrfs → is_edge t.vrfs (edge_of t v) ≡ true
edge_at t v h = at t.vrfs v (record { node = record { 0 = 0 }; rd = record { 0 = 0 }; «import» = []; export = [] }) h
  where
    at : (vs : List VrfDef) (i : ℕ) (d : VrfDef) → i < length vs → is_edge vs (get_or vs i d).node.0 ≡ true
    at [] i d h = absurd (none_below i h)
    at (x ∷ xs) zero d h = ap (λ b. b || is_edge xs x.node.0) (same_test x.node.0)
    at (x ∷ xs) (suc i) d h = or_right ((get_or xs i d).node.0 == x.node.0) (is_edge xs (get_or xs i d).node.0) (at xs i d (omega (arith, h)))

is_an_edge : (t : Network) (s : ℕ) → IsLawful t → s < length t.sites → In (edges t) (home_of t s)
is_an_edge t s lawful h =
    filter_in (λ node. is_edge t.vrfs node) (range_with_len 0 (length t.loopbacks)) (home_of t s)
    (range_in 0 (length t.loopbacks) (home_of t s) (omega arith) (let b = home_there t s lawful h in omega (arith, b)))
    (edge_at t (vrf_of t s) (vrf_there t s lawful h))

route_edge : (t : Network) (v : ℕ) (r : HeldRoute) → IsLawful t → In (routes_for t v) r → In (edges t) r.edge
route_edge t v r lawful i =
    let m = in_flat_map (routes_over t v) (range_with_len 0 (length t.sites)) r i in
    let below = (in_range 0 (length t.sites) m.0 m.1).1 in
    by m.0 (omega (arith, below)) (takes_from t v (vrf_of t m.0)) m.2
  where
    by : (s : ℕ) → s < length t.sites → (b : Bool) → In (if b then map (route_over t v s) (site_at t s).prefixes else []) r → In (edges t) r.edge
    by s h true j =
        let p = in_map (route_over t v s) (site_at t s).prefixes r j in
        subst (λ (x : HeldRoute). In (edges t) x.edge) p.2 (is_an_edge t s lawful h)
    by s h false j = absurd j

pub at_edges : (t : Network) (v address : ℕ) (es : List NodeNo) (routes found : List Route) → IsLawful t → numbers_of es ≡ edges t
    → map held_as routes ≡ routes_for t v → AreFor address (map held_as routes) (map held_as found)
    → All (λ (r : Route). Contains (numbers_of es) r.edge.0) found
at_edges t v address es routes found lawful e these are = λ k d h.
    let r = get_or found k d in
    let i : In found r = in_contained found r (k, h, get_or_default found k r d h) in
    let c = are.only (held_as r) (contained_in (map held_as found) (held_as r) (map_in held_as found r i)) in
    contained_in (numbers_of es) r.edge.0 (subst (λ xs. In xs r.edge.0) (sym e)
    (route_edge t v (held_as r) lawful (subst (λ rs. In rs (held_as r)) these (in_contained (map held_as routes) (held_as r) c.0))))

abbrev pub Ledgers : Type 0
Ledgers = (topology : Network) (failure : Failure) (v address : ℕ) (found : List HeldRoute) → IsLawful topology → v < length topology.vrfs →
    AreFor address (routes_for topology v) found → AreCandidates topology (config_under topology failure) (edge_of topology v) v address found

map_twice : (cs : List Candidate) → map held_in cs ≡ map held_as (map (λ (c : Candidate). c.route) cs)
map_twice [] = refl
map_twice (c ∷ cs) = ap (λ rs. held_in c ∷ rs) (map_twice cs)

pub is_for : (t : Network) (ways : Switched) (home : ℕ) (pair : Pair) (es : List NodeNo) (routes found : List Route) (cs : List Candidate)
    (links : List LinkNo) → Ledgers → IsLawful t
    → home ≡ home_of t pair.site.0 → IsFresh t ways → numbers_of es ≡ edges t → pair.site.0 < length t.sites →
    map held_as routes ≡ routes_for t (vrf_of t pair.site.0)
    → AreFor pair.address (map held_as routes) (map held_as found) → map (λ (c : Candidate). c.route) cs ≡ found → All (IsPlaced (numbers_of es)) cs
    → ((wiring : Wiring) → IsOver wiring ways → map (λ (l : LinkNo). l.0) links
    ≡ flat_map (λ (c : Candidate). links_on (unwrap_or (way wiring ways.up home (switched.edge_at ways c.place)) [])) cs)
    → IsFor t (edges t) pair (record { candidates = cs; links = links })
is_for t ways home pair es routes found cs links law lawful is_home fresh e site these are are_found placed goes = record {
  candidates = subst (AreCandidates t (config_under t no_failure) (home_of t pair.site.0) (vrf_of t pair.site.0) pair.address)
      (sym (map_twice cs ∙ ap (map held_as) are_found))
      (law t no_failure (vrf_of t pair.site.0) pair.address (map held_as found) lawful (vrf_there t pair.site.0 lawful site)
      (subst (λ rs. AreFor pair.address rs (map held_as found)) these are));
  placed = subst (λ xs. All (IsPlaced xs) cs) e placed;
  links = goes (wiring_of t) (record { nodes = sym fresh.nodes; ends = sym fresh.ends }) ∙ same_flat_map _ (links_towards t (home_of t pair.site.0)) cs same;
}
  where
    same : (c : Candidate) → In cs c →
        links_on (unwrap_or (way (wiring_of t) ways.up home (switched.edge_at ways c.place)) []) ≡ links_towards t (home_of t pair.site.0) c
    same c i =
        let p = All-contains (IsPlaced (numbers_of es)) cs c placed (contained_in cs c i) in
        ap (λ n. links_on (unwrap_or (way (wiring_of t) ways.up n (switched.edge_at ways c.place)) [])) is_home
        ∙ ap (λ view. links_on (unwrap_or (way (wiring_of t) view (home_of t pair.site.0) (switched.edge_at ways c.place)) [])) fresh.up
        ∙ ap (λ n. links_on (unwrap_or (way (wiring_of t) (all_up t) (home_of t pair.site.0) n) [])) (ap (λ xs. get_or xs c.place 0) (fresh.edges ∙ sym e)
        ∙ p.edge)

-- 4. Pair by pair

pub none_found : (t : Network) (pairs : List Pair) → AreFound t pairs 0 []
none_found t pairs = record { each = refl; at = λ k h. absurd (none_below k h) }

pub one_found : (t : Network) (pairs : List Pair) (i : ℕ) (pair : Pair) (found new : List Prospect) (one : Prospect) → i < length pairs →
    get_or pairs i pair ≡ pair
    → AreFound t pairs i found → IsFor t (edges t) pair one → new ≡ found ++ one ∷ [] → AreFound t pairs (i + 1) new
one_found t pairs i pair found new one h is so_far good e = subst (AreFound t pairs (i + 1)) (sym e) (record {
  each = length_push found one ∙ ap (λ n. n + 1) so_far.each;
  at = λ k g. by k (nat_lt k i) refl g;
})
  where
    here : IsFor t (edges t) (get_or pairs i no_pair) (get_or (found ++ one ∷ []) i no_prospect)
    here = subst (λ p. IsFor t (edges t) p (get_or (found ++ one ∷ []) i no_prospect)) (sym (get_or_default pairs i no_pair pair h ∙ is))
        (subst (IsFor t (edges t) pair) (sym (get_or_push found one no_prospect i so_far.each)) good)

    by : (k : ℕ) (b : Bool) → nat_lt k i ≡ b → k < i + 1 → IsFor t (edges t) (get_or pairs k no_pair) (get_or (found ++ one ∷ []) k no_prospect)
    by k true f g =
        let below = less_tells k i f in
        subst (IsFor t (edges t) (get_or pairs k no_pair))
        (sym (get_or_append_left found (one ∷ []) no_prospect k (subst (λ n. k < n) (sym so_far.each) below)))
        (so_far.at k below)
    by k false f g =
        let past = not_less_tells k i f in
        subst (λ n. IsFor t (edges t) (get_or pairs n no_pair) (get_or (found ++ one ∷ []) n no_prospect)) (let q : i ≡ k = omega (arith, past, g) in q) here

-- 5. All is found

pub edges_there : (t : Network) (es : List NodeNo) → numbers_of es ≡ edges t → All (λ (e : NodeNo). e.0 < length t.loopbacks) es
edges_there t es e = λ k d h.
    edge_below t (get_or es k d).0 (subst (λ xs. In xs (get_or es k d).0) e
    (map_in (λ (n : NodeNo). n.0) es (get_or es k d) (in_contained es (get_or es k d) (Contains-get_or es k d h))))

pub is_planned : (t : Network) (ways : Switched) (pairs : List Pair) (prospects : List Prospect) (by_link by_home : List (List ℕ)) (links : ℕ) →
    IsLawful t → IsFresh t ways
    → All (λ (pair : Pair). pair.site.0 < length t.sites) pairs → AreFound t pairs (length pairs) prospects
    → AreByLink links prospects (length prospects) by_link → AreByHome t pairs (length pairs) by_home
    → IsOf t (record {
      nodes = ways.nodes;
      links = ways.ends;
      edges = ways.edges;
      pairs = pairs;
      prospects = prospects;
      by_link = by_link;
      by_home = by_home;
    })
is_planned t ways pairs prospects by_link by_home links lawful fresh sites found linked homed = record {
  lawful = lawful;
  nodes = fresh.nodes;
  links = fresh.ends;
  edges = fresh.edges;
  each = found.each;
  sites = sites;
  planned = λ k h. subst (λ es. IsFor t es (get_or pairs k no_pair) (get_or prospects k no_prospect)) (sym fresh.edges) (found.at k h);
  listed = record {
    links = λ k l h i.
        let prospect = get_or prospects k no_prospect in
        let link = in_map (λ (x : LinkNo). x.0) prospect.links l (in_contained (map (λ (x : LinkNo). x.0) prospect.links) l
        (subst (λ xs. Contains xs l) (sym (found.at k h).links) i)) in
        subst (λ n. Contains (pairs_at by_link n) k) link.2
        (linked.at k link.0 (subst (λ n. k < n) (sym found.each) h) (contained_in prospect.links link.0 link.1));
    homes = homed.at;
  };
}
