-- An edge's news goes to the peers with which its session is Established.
use Rattle.std.proofs.Common.{ℕ, zero, suc, ◌≡◌, ◌≢◌, ◌+◌, ◌*◌, ◌<◌, inl, inr, Bool, true, false, cond, List, [], ◌∷◌, ◌++◌, map, filter, length, refl}
use Rattle.std.proofs.Common.{arith, sym, ◌∙◌, ap, subst, append-nil, Some, None}
use Rattle.std.specs.Prelude.{◌&&◌, nat_le, if◌then◌else◌}
use Rattle.std.specs.List.{flat_map, range_with_len}
use Rattle.std.proofs.lemmas.List.{map-append}
use Rattle.std.proofs.lemmas.Bool.Decides.{eqb_tells}
use Rattle.mn_base.specs.declared.numbers.NodeNo.{NodeNo}
use Rattle.mn_states.specs.declared.states.BgpState.TheVariants.{Idle}
use Rattle.mn_wiring.specs.Wiring.{nodes_of}
use Rattle.mn_base.proofs.Bools.{at_most_is}
use Rattle.mn_base.proofs.Members.{In, in_map, in_filter, in_flat_map, in_range}
use Rattle.mn_topo.specs.Network.{Network, wiring_of}
use Rattle.mn_ledger.specs.Places.{loopback}
use Rattle.mn_ledger.specs.World.{Config, Telling, Peerings}
use Rattle.mn_ledger.specs.Exports.{exports_of}
use Rattle.mn_ledger.specs.Bgp.{peers_live, state_heard, is_established, Told, steady_peers, changed, route_news}
use Rattle.mn_bgp_spelling_laws.specs.Spelling.{Labels, bytes_in}
use Rattle.mn_routing_laws.specs.Whole.{session_or_none}
use Rattle.mn_routing_laws.specs.Sending.{Parcel, to_each, to_all, is_steady, peers_from}
use Rattle.mn_routing_laws.proofs.Flying.{parcel_of, AreToNodes}

steady_as : (b : Bool) (asn me peer heard : ℕ) →
    is_steady (if b then Some (record { asn = asn; me = me; peer = peer; state = if b then state_heard heard else Idle }) else None) ≡ (b && nat_le 2 heard)
steady_as false asn me peer heard = refl
steady_as true asn me peer zero = refl
steady_as true asn me peer (suc zero) = refl
steady_as true asn me peer (suc (suc n)) = sym (at_most_is 2 (suc (suc n)) (omega arith))

-- an end is steady where the session is Established
steady_is : (t : Network) (c : Config) (p : Peerings) (edge peer : ℕ) → is_steady (session_or_none t c p edge peer) ≡ is_established c p edge peer
steady_is t c p edge peer = steady_as (peers_live c edge peer) t.asn (loopback t edge) (loopback t peer) (p.heard edge peer)

abbrev pub node_no : ℕ → NodeNo
node_no n = record { 0 = n }

peers_range : (t : Network) (c : Config) (p : Peerings) (edge from size : ℕ) →
    peers_from from (map (session_or_none t c p edge) (range_with_len from size)) ≡ map node_no (filter (is_established c p edge) (range_with_len from size))
peers_range t c p edge from zero = refl
peers_range t c p edge from (suc size) = by (is_established c p edge from) (steady_is t c p edge from) (peers_range t c p edge (from + 1) size)
  where
    by : (b : Bool) → is_steady (session_or_none t c p edge from) ≡ b
        → peers_from (from + 1) (map (session_or_none t c p edge) (range_with_len (from + 1) size)) ≡ map node_no
        (filter (is_established c p edge) (range_with_len (from + 1) size))
        → (if is_steady (session_or_none t c p edge from) then node_no from
        ∷ peers_from (from + 1) (map (session_or_none t c p edge) (range_with_len (from + 1) size))
        else peers_from (from + 1) (map (session_or_none t c p edge) (range_with_len (from + 1) size)))
        ≡ map node_no
        (cond b (from ∷ filter (is_established c p edge) (range_with_len (from + 1) size))
        (filter (is_established c p edge) (range_with_len (from + 1) size)))
    by true e h = rw e (ap (λ ys. node_no from ∷ ys) h)
    by false e h = rw e h

both_same : (f : ℕ → Bool) (g : ℕ → Bool) → ((n : ℕ) → g n ≡ f n) → (xs : List ℕ) → filter (λ n. f n && g n) xs ≡ filter f xs
both_same f g h [] = refl
both_same f g h (x ∷ xs) = by (f x) (g x) (h x) (both_same f g h xs)
  where
    by : (a b : Bool) → b ≡ a → filter (λ n. f n && g n) xs ≡ filter f xs →
        cond (a && b) (x ∷ filter (λ n. f n && g n) xs) (filter (λ n. f n && g n) xs) ≡ cond a (x ∷ filter f xs) (filter f xs)
    by true true e i = ap (λ ys. x ∷ ys) i
    by true false e i = cc
    by false b e i = i

-- where sessions stay these are the peers of the edge's news
pub peers_are : (t : Network) (c new : Config) (p k : Peerings) (edge : ℕ) → ((q : ℕ) → is_established new k edge q ≡ is_established c p edge q)
    → map node_no (steady_peers t c p new k edge) ≡ peers_from 0 (map (session_or_none t c p edge) (nodes_of (wiring_of t)))
peers_are t c new p k edge same =
    ap (map node_no) (both_same (is_established c p edge) (is_established new k edge) same (nodes_of (wiring_of t)))
    ∙ sym (peers_range t c p edge 0 (length t.loopbacks))

-- the news, in parcels
to_peers : (t : Network) (l : Labels) (edge : ℕ) (m : Telling) (peers : List ℕ)
    → map (parcel_of t l) (map (λ peer. record { teller = edge; peer = peer; telling = m }) peers) ≡ to_each (edge * length t.loopbacks) (map node_no peers)
    (bytes_in t l edge m)
to_peers t l edge m [] = refl
to_peers t l edge m (q ∷ qs) = ap (λ ys. (let y : Parcel = (edge * length t.loopbacks + q, bytes_in t l edge m) in y) ∷ ys) (to_peers t l edge m qs)

pub to_all_peers : (t : Network) (l : Labels) (edge : ℕ) (peers : List ℕ) (ms : List Telling)
    → map (parcel_of t l) (flat_map (λ telling. map (λ peer. record { teller = edge; peer = peer; telling = telling }) peers) ms)
    ≡ to_all (edge * length t.loopbacks) (map node_no peers) (map (bytes_in t l edge) ms)
to_all_peers t l edge peers [] = refl
to_all_peers t l edge peers (m ∷ ms) =
    map-append (parcel_of t l) (map (λ peer. record { teller = edge; peer = peer; telling = m }) peers)
    (flat_map (λ telling. map (λ peer. record { teller = edge; peer = peer; telling = telling }) peers) ms)
    ∙ ap (λ ys. ys ++ map (parcel_of t l) (flat_map (λ telling. map (λ peer. record { teller = edge; peer = peer; telling = telling }) peers) ms))
    (to_peers t l edge m peers)
    ∙ ap (λ ys. to_each (edge * length t.loopbacks) (map node_no peers) (bytes_in t l edge m) ++ ys) (to_all_peers t l edge peers ms)

-- peers are nodes
pub news_to_nodes : (t : Network) (c new : Config) (p k : Peerings) (edge : ℕ) → AreToNodes t (route_news t c p new k edge)
news_to_nodes t c new p k edge x i =
    let f = in_flat_map (λ telling. map (λ peer. record { teller = edge; peer = peer; telling = telling }) (steady_peers t c p new k edge))
    (changed (exports_of t c edge) (exports_of t new edge)) x i in
    let g = in_map (λ peer. record { teller = edge; peer = peer; telling = f.0 }) (steady_peers t c p new k edge) x f.2 in
    let h = in_filter (λ peer. is_established c p edge peer && is_established new k edge peer) (nodes_of (wiring_of t)) g.0 g.1 in
    subst (λ (y : Told). y.peer < length t.loopbacks) g.2 (let r = (in_range 0 (length t.loopbacks) g.0 h.0).1 in omega (arith, r))

-- 2. Of many edges one has news

none_has : {B : Type 0} (f : ℕ → List B) (xs : List ℕ) → ((x : ℕ) → In xs x → f x ≡ []) → flat_map f xs ≡ []
none_has f [] h = refl
none_has f (x ∷ xs) h = ap (λ ys. ys ++ flat_map f xs) (h x (inl refl)) ∙ none_has f xs (λ y i. h y (inr i))

pub one_has : {B : Type 0} (f : ℕ → List B) (p : ℕ → Bool) (home from size : ℕ) → In (filter p (range_with_len from size)) home →
    ((e : ℕ) → e ≢ home → f e ≡ []) →
    flat_map f (filter p (range_with_len from size)) ≡ f home
one_has f p home from zero i off = absurd i
one_has f p home from (suc size) i off = by (p from) i (λ j. one_has f p home (from + 1) size j off)
  where
    by : (b : Bool) → In (cond b (from ∷ filter p (range_with_len (from + 1) size)) (filter p (range_with_len (from + 1) size))) home
        → (In (filter p (range_with_len (from + 1) size)) home → flat_map f (filter p (range_with_len (from + 1) size)) ≡ f home)
        → flat_map f (cond b (from ∷ filter p (range_with_len (from + 1) size)) (filter p (range_with_len (from + 1) size))) ≡ f home
    by true j rest = elim (eqb_tells from home) [
      | inl e ↦ ap (λ ys. f from ++ ys) (none_has f (filter p (range_with_len (from + 1) size))
          (λ x k. off x (λ q. let r = (in_range (from + 1) size x (in_filter p (range_with_len (from + 1) size) x k).0).0 in let s = e.1 in
          absurd (omega (arith, r, q, s)))))
          ∙ append-nil (f from) ∙ ap f e.1
      | inr e ↦ ap (λ ys. ys ++ flat_map f (filter p (range_with_len (from + 1) size))) (off from e.1)
          ∙ rest (elim j [ inl q ↦ absurd (e.1 q) | inr k ↦ k ])
    ]
    by false j rest = rest j
