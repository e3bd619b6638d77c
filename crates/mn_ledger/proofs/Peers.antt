-- Each step of a lawful journal keeps BGP sessions in turn.
use Rattle.std.proofs.Common.{ℕ, zero, suc, ◌≡◌, ◌≢◌, ◌+◌, ◌<◌, ◌≤◌, ◌⊎◌, inl, inr, Bool, true, false, cond, List, [], ◌∷◌, ◌++◌, map, filter, length}
use Rattle.std.proofs.Common.{get_or, refl, arith, sym, ◌∙◌, ap, subst, append-nil, add-one}
use Rattle.std.specs.Prelude.{◌==◌, ◌&&◌, not, nat_le, nat_lt, if◌then◌else◌, slice_index_or, ⊤}
use Rattle.std.specs.List.{flat_map, list_any}
use Rattle.std.proofs.lemmas.Bool.Decides.{eqb_tells, nat_tests}
use Rattle.std.proofs.lemmas.List.{length-append, map-append}
use Rattle.std.proofs.lemmas.List.Elements.{filter-append}
use Rattle.mn_base.proofs.Bools.{no, clash, none_below, less_is, not_less, swap}
use Rattle.mn_base.proofs.Places.{all_at, all_append}
use Rattle.mn_topo.specs.Wiring.{nodes_of}
use Rattle.mn_node.specs.BgpState.TheVariants.{Idle}
pub use Rattle.mn_base.proofs.Bools.{and_left, and_right, other_test, same_numbers, same_test, two_ways}
use Rattle.mn_topo.specs.Network.{Network, wiring_of}
use Rattle.mn_topo.specs.declared.steps.Step.{Step}
use Rattle.mn_topo.specs.declared.steps.Step.TheVariants as step
use Rattle.mn_ledger.specs.Tables.{put_pair}
use Rattle.mn_ledger.specs.Places.{edges}
use Rattle.mn_ledger.specs.World.{Config, Export, Telling, Open, BgpKeepAlive, Announcement, Withdrawal, Peerings, World}
use Rattle.mn_ledger.specs.Bgp.{Told, peers_live, state_heard, bgp_state_of, is_established, is_from_to, tellings_of, told_to, reply, is_for, same_export}
use Rattle.mn_ledger.specs.Exports.{exports_of}
use Rattle.mn_ledger.specs.Bgp.{withdrawn, announced, changed, steady_peers, route_news, bgp_restarted, bgp_counted, with_told, peerings_after}
use Rattle.mn_ledger.specs.Packets.{Packets}
use Rattle.mn_ledger.specs.Ledger.{config_after, after}
use Rattle.mn_ledger.specs.Refusal.{is_empty}
use Rattle.mn_ledger.specs.Turns.{IsUpdate, AreUpdates, IsPeerTalk, has_bgp_row, IsPeerInTurn, PeersAreInTurn}
use Rattle.mn_ledger.proofs.GoingBy.{pair_here, pair_off, or_both, not_false, above}
use Rattle.mn_ledger.proofs.Mentions.{few_off}
pub use Rattle.mn_base.proofs.Bools.{and_false as and_off}
use Rattle.mn_ledger.proofs.Turning.{lt_tells}

-- 1. What is told in turn

abbrev pub IsPeerNth : ℕ → Telling → Type 0
IsPeerNth zero x = x ≡ Open
IsPeerNth (suc zero) x = x ≡ BgpKeepAlive
IsPeerNth (suc (suc n)) x = IsUpdate x

full-nth : (rest : List Telling) (k : ℕ) → AreUpdates rest → k < length (Open ∷ BgpKeepAlive ∷ rest) → IsPeerNth k (get_or (Open ∷ BgpKeepAlive ∷ rest) k Open)
full-nth rest zero m h = refl
full-nth rest (suc zero) m h = refl
full-nth rest (suc (suc k)) m h = all_at IsUpdate rest m k Open (omega (arith, h))

one-nth : (k : ℕ) → k < 1 → IsPeerNth k (get_or (Open ∷ []) k Open)
one-nth zero h = refl
one-nth (suc k) h = absurd (none_below k (omega (arith, h)))

pub peer-nth : (j : ℕ) (xs : List Telling) (k : ℕ) → IsPeerTalk j xs → k < length xs → IsPeerNth k (get_or xs k Open)
peer-nth zero xs k t h = subst (λ ys. IsPeerNth k (get_or ys k Open)) (sym t) (one-nth k (subst (λ ys. k < length ys) t h))
peer-nth (suc zero) xs k t h = subst (λ ys. IsPeerNth k (get_or ys k Open)) (sym t) (full-nth [] k tt (subst (λ ys. k < length ys) t h))
peer-nth (suc (suc n)) xs k t h = subst (λ ys. IsPeerNth k (get_or ys k Open)) (sym t.1) (full-nth t.0 k t.2 (subst (λ ys. k < length ys) t.1 h))

pub peer-row : (k : ℕ) (x : Telling) → IsPeerNth k x → has_bgp_row (state_heard k) x ≡ true
peer-row zero x e = rw e refl
peer-row (suc zero) x e = rw e refl
peer-row (suc (suc n)) Open e = absurd e
peer-row (suc (suc n)) BgpKeepAlive e = absurd e
peer-row (suc (suc n)) (Announcement export) e = refl
peer-row (suc (suc n)) (Withdrawal v prefix) e = refl

updates-announce : (es : List Export) → AreUpdates (map (λ export. Announcement export) es)
updates-announce [] = tt
updates-announce (e ∷ es) = (tt, updates-announce es)

updates-gone : (es : List Export) → AreUpdates (map (λ (export : Export). Withdrawal export.vrf export.prefix) es)
updates-gone [] = tt
updates-gone (e ∷ es) = (tt, updates-gone es)

reply-none : (n : ℕ) (x : Telling) (es : List Export) → reply (state_heard (suc (suc n))) x es ≡ []
reply-none n Open es = refl
reply-none n BgpKeepAlive es = refl
reply-none n (Announcement e) es = refl
reply-none n (Withdrawal v p) es = refl

peer-heard : (k : ℕ) (xs : List Telling) (x : Telling) (es : List Export) (ms : List Telling) → IsPeerTalk k xs → IsPeerNth k x →
    (k ≡ 0 → ms ≡ []) → AreUpdates ms → IsPeerTalk (suc k) (xs ++ (reply (state_heard k) x es ++ ms))
peer-heard zero xs x es ms t e q m = rw (t, e, q refl) refl
peer-heard (suc zero) xs x es ms t e q m =
    (map (λ export. Announcement export) es ++ ms, rw (t, e) refl, all_append IsUpdate (map (λ export. Announcement export) es) ms (updates-announce es) m)
peer-heard (suc (suc n)) xs x es ms t e q m = (
  t.0 ++ ms,
  ap (λ ys. ys ++ (reply (state_heard (suc (suc n))) x es ++ ms)) t.1
      ∙ ap (λ r. Open ∷ BgpKeepAlive ∷ (t.0 ++ (r ++ ms))) (reply-none n x es),
  all_append IsUpdate t.0 ms t.2 m,
)

peer-told : (k : ℕ) (xs ms : List Telling) → IsPeerTalk k xs → (k < 2 → ms ≡ []) → AreUpdates ms → IsPeerTalk k (xs ++ ms)
peer-told zero xs ms t q m = rw (q (omega arith)) (append-nil xs ∙ t)
peer-told (suc zero) xs ms t q m = rw (q (omega arith)) (append-nil xs ∙ t)
peer-told (suc (suc n)) xs ms t q m = (t.0 ++ ms, ap (λ ys. ys ++ ms) t.1, all_append IsUpdate t.0 ms t.2 m)

-- 2. What edges tell of their exports

abbrev IsNews : Config → Peerings → Told → Type 0
IsNews c k told = IsUpdate told.telling × (is_established c k told.teller told.peer ≡ true)

abbrev EachNews : Config → Peerings → List Told → Type 0
EachNews c k [] = ⊤
EachNews c k (told ∷ tolds) = IsNews c k told × EachNews c k tolds

each-append : (c : Config) (k : Peerings) (xs ys : List Told) → EachNews c k xs → EachNews c k ys → EachNews c k (xs ++ ys)
each-append c k [] ys h g = g
each-append c k (x ∷ xs) ys h g = (h.0, each-append c k xs ys h.1 g)

each-peer : (c : Config) (p : Peerings) (new : Config) (k : Peerings) (edge : ℕ) (x : Telling) → IsUpdate x → (nodes : List ℕ)
    → EachNews new k
    (map (λ peer. record { teller = edge; peer = peer; telling = x })
    (filter (λ peer. is_established c p edge peer && is_established new k edge peer) nodes))
each-peer c p new k edge x u [] = tt
each-peer c p new k edge x u (n ∷ nodes) =
    elim (two_ways (is_established c p edge n && is_established new k edge n)) [
      | inl q ↦ subst
          (λ b. EachNews new k
          (map (λ peer. record { teller = edge; peer = peer; telling = x })
          (cond b (n ∷ filter (λ peer. is_established c p edge peer && is_established new k edge peer) nodes)
          (filter (λ peer. is_established c p edge peer && is_established new k edge peer) nodes)))) (sym q)
          ((u, and_right _ _ q), each-peer c p new k edge x u nodes)
      | inr q ↦ subst
          (λ b. EachNews new k
          (map (λ peer. record { teller = edge; peer = peer; telling = x })
          (cond b (n ∷ filter (λ peer. is_established c p edge peer && is_established new k edge peer) nodes)
          (filter (λ peer. is_established c p edge peer && is_established new k edge peer) nodes)))) (sym q) (each-peer c p new k edge x u nodes)
    ]

each-telling : (t : Network) (c : Config) (p : Peerings) (new : Config) (k : Peerings) (edge : ℕ) (xs : List Telling) → AreUpdates xs
    → EachNews new k (flat_map (λ telling. map (λ peer. record { teller = edge; peer = peer; telling = telling }) (steady_peers t c p new k edge)) xs)
each-telling t c p new k edge [] u = tt
each-telling t c p new k edge (x ∷ xs) u =
    each-append new k (map (λ peer. record { teller = edge; peer = peer; telling = x }) (steady_peers t c p new k edge))
    (flat_map (λ telling. map (λ peer. record { teller = edge; peer = peer; telling = telling }) (steady_peers t c p new k edge)) xs)
    (each-peer c p new k edge x u.0 (nodes_of (wiring_of t))) (each-telling t c p new k edge xs u.1)

updates-changed : (before now : List Export) → AreUpdates (changed before now)
updates-changed before now =
    all_append IsUpdate (withdrawn before now) (announced before now)
    (updates-gone (filter (λ export. not (list_any (is_for export.vrf export.prefix) now)) before))
    (updates-announce (filter (λ export. not (list_any (same_export export) before)) now))

abbrev all_news : Network → Config → Peerings → Config → Peerings → List ℕ → List Told
all_news t c p new k es = flat_map (route_news t c p new k) es

each-edge : (t : Network) (c : Config) (p : Peerings) (new : Config) (k : Peerings) (es : List ℕ) → EachNews new k (all_news t c p new k es)
each-edge t c p new k [] = tt
each-edge t c p new k (e ∷ es) =
    each-append new k (route_news t c p new k e) (all_news t c p new k es)
    (each-telling t c p new k e (changed (exports_of t c e) (exports_of t new e)) (updates-changed (exports_of t c e) (exports_of t new e)))
    (each-edge t c p new k es)

pub tellings-append : (a b : ℕ) (xs ys : List Told) → tellings_of a b (xs ++ ys) ≡ tellings_of a b xs ++ tellings_of a b ys
tellings-append a b xs ys =
    ap (map (λ (told : Told). told.telling)) (filter-append (is_from_to a b) xs ys)
    ∙ map-append (λ (told : Told). told.telling) (filter (is_from_to a b) xs) (filter (is_from_to a b) ys)

pub pick : (a b : ℕ) (x : Told) (xs : List Told) (on : Bool) → is_from_to a b x ≡ on →
    tellings_of a b (x ∷ xs) ≡ cond on (x.telling ∷ tellings_of a b xs) (tellings_of a b xs)
pick a b x xs true h = ap (λ o. map (λ (told : Told). told.telling) (cond o (x ∷ filter (is_from_to a b) xs) (filter (is_from_to a b) xs))) h
pick a b x xs false h = ap (λ o. map (λ (told : Told). told.telling) (cond o (x ∷ filter (is_from_to a b) xs) (filter (is_from_to a b) xs))) h

tellings-updates : (c : Config) (k : Peerings) (a b : ℕ) (xs : List Told) → EachNews c k xs → AreUpdates (tellings_of a b xs)
tellings-updates c k a b [] h = tt
tellings-updates c k a b (x ∷ xs) h =
    elim (two_ways (is_from_to a b x)) [
      | inl q ↦ subst AreUpdates (sym (pick a b x xs true q)) (h.0.0, tellings-updates c k a b xs h.1)
      | inr q ↦ subst AreUpdates (sym (pick a b x xs false q)) (tellings-updates c k a b xs h.1)
    ]

tellings-none : (c : Config) (k : Peerings) (a b : ℕ) (xs : List Told) → EachNews c k xs → is_established c k a b ≡ false → tellings_of a b xs ≡ []
tellings-none c k a b [] h off = refl
tellings-none c k a b (x ∷ xs) h off =
    elim (two_ways (is_from_to a b x)) [
      | inl q ↦ absurd
          (clash (sym h.0.1 ∙ ap (λ j. is_established c k j x.peer) (same_numbers x.teller a (and_left _ _ q))
          ∙ ap (is_established c k a) (same_numbers x.peer b (and_right _ _ q)) ∙ off))
      | inr q ↦ pick a b x xs false q ∙ tellings-none c k a b xs h.1 off
    ]

pub told-own : (a b : ℕ) (xs : List Telling) → tellings_of a b (told_to a b xs) ≡ xs
told-own a b [] = refl
told-own a b (x ∷ xs) =
    pick a b (record { teller = a; peer = b; telling = x }) (told_to a b xs) true (ap (λ o. o && (b == b)) (same_test a) ∙ same_test b)
    ∙ ap (λ ys. x ∷ ys) (told-own a b xs)

pub told-other : (a b j k : ℕ) (xs : List Telling) → (j ≢ a) ⊎ (k ≢ b) → tellings_of a b (told_to j k xs) ≡ []
told-other a b j k [] d = refl
told-other a b j k (x ∷ xs) d = pick a b (record { teller = j; peer = k; telling = x }) (told_to j k xs) false off ∙ told-other a b j k xs d
  where
    off : ((j == a) && (k == b)) ≡ false
    off = elim d [ inl p ↦ ap (λ o. o && (k == b)) (other_test j a p) | inr p ↦ ap (λ o. (j == a) && o) (other_test k b p) ∙ and_off (j == a) ]

-- 3. One edge and a peer, whatever the step

keeps : (c new : Config) (p k : Peerings) (xs ns : List Told) (edge peer : ℕ) → EachNews new k ns
    → k.told edge peer ≡ p.told edge peer → k.heard edge peer ≡ p.heard edge peer → k.told peer edge ≡ p.told peer edge →
    peers_live new edge peer ≡ peers_live c edge peer → tellings_of edge peer xs ≡ []
    → IsPeerInTurn c p edge peer → IsPeerInTurn new (with_told k (xs ++ ns)) edge peer
keeps c new p k xs ns edge peer each told heard far alive none g =
    let only : tellings_of edge peer (xs ++ ns) ≡ tellings_of edge peer ns = tellings-append edge peer xs ns ∙ ap (λ ms. ms ++ tellings_of edge peer ns) none in
    record {
      heard = omega (arith, g.heard, heard, ap length far, length-append (k.told peer edge) (tellings_of peer edge (xs ++ ns)));
      silent = λ dead. (
        ap (λ ms. k.told edge peer ++ ms) (only ∙ tellings-none new k edge peer ns each (ap (λ b. b && nat_le 2 (k.heard edge peer)) dead))
            ∙ append-nil (k.told edge peer) ∙ told ∙ (g.silent (sym alive ∙ dead)).0,
        heard ∙ (g.silent (sym alive ∙ dead)).1,
      );
      talk = λ on.
          subst (λ n. IsPeerTalk n (k.told edge peer ++ tellings_of edge peer (xs ++ ns))) (sym heard)
          (subst (λ ms. IsPeerTalk (p.heard edge peer) (ms ++ tellings_of edge peer (xs ++ ns))) (sym told)
          (subst (λ ms. IsPeerTalk (p.heard edge peer) (p.told edge peer ++ ms)) (sym only)
          (peer-told (p.heard edge peer) (p.told edge peer) (tellings_of edge peer ns) (g.talk (sym alive ∙ on))
          (λ few. tellings-none new k edge peer ns each (few_off (peers_live new edge peer) (k.heard edge peer) (subst (λ n. n < 2) (sym heard) few)))
          (tellings-updates new k edge peer ns each))));
    }

-- a life begins with Open, or ends
renewed : (new : Config) (k : Peerings) (xs ns : List Told) (edge peer : ℕ) → EachNews new k ns → k.told edge peer ≡ [] → k.heard edge peer ≡ 0
    → (peers_live new edge peer ≡ true → tellings_of edge peer xs ≡ Open ∷ []) →
    (peers_live new edge peer ≡ false → tellings_of edge peer xs ≡ []) → IsPeerInTurn new (with_told k (xs ++ ns)) edge peer
renewed new k xs ns edge peer each told heard on off =
    let quiet : tellings_of edge peer ns ≡ [] =
    tellings-none new k edge peer ns each (few_off (peers_live new edge peer) (k.heard edge peer) (subst (λ n. n < 2) (sym heard) (omega arith))) in
    let all : k.told edge peer ++ tellings_of edge peer (xs ++ ns) ≡ tellings_of edge peer xs =
    ap (λ ms. ms ++ tellings_of edge peer (xs ++ ns)) told ∙ tellings-append edge peer xs ns ∙ ap (λ ms. tellings_of edge peer xs ++ ms) quiet
    ∙ append-nil (tellings_of edge peer xs) in
    record {
      heard = subst (λ n. n ≤ length (k.told peer edge ++ tellings_of peer edge (xs ++ ns))) (sym heard) (omega arith);
      silent = λ dead. (all ∙ off dead, heard);
      talk = λ alive. subst (λ n. IsPeerTalk n (k.told edge peer ++ tellings_of edge peer (xs ++ ns))) (sym heard)
          (subst (IsPeerTalk 0) (sym (all ∙ on alive)) refl);
    }

hears : (c : Config) (p k : Peerings) (ns : List Told) (edge peer : ℕ) (es : List Export) → EachNews c k ns → k.told edge peer ≡ p.told edge peer →
    k.told peer edge ≡ p.told peer edge → k.heard edge peer ≡ p.heard edge peer + 1
    → peers_live c edge peer ≡ true → p.heard edge peer < length (p.told peer edge) → IsPeerInTurn c p edge peer →
    IsPeerTalk (p.heard peer edge) (p.told peer edge)
    → IsPeerInTurn c
    (with_told k (told_to edge peer (reply (state_heard (p.heard edge peer)) (slice_index_or (p.told peer edge) (p.heard edge peer) Open) es) ++ ns))
    edge peer
hears c p k ns edge peer es each told far heard alive more g far_talk =
    let message : Telling = slice_index_or (p.told peer edge) (p.heard edge peer) Open in
    let answers : List Telling = reply (state_heard (p.heard edge peer)) message es in
    let turn : IsPeerNth (p.heard edge peer) message = peer-nth (p.heard peer edge) (p.told peer edge) (p.heard edge peer) far_talk more in
    let only : tellings_of edge peer (told_to edge peer answers ++ ns) ≡ answers ++ tellings_of edge peer ns =
    tellings-append edge peer (told_to edge peer answers) ns ∙ ap (λ ms. ms ++ tellings_of edge peer ns) (told-own edge peer answers) in
    record {
      heard = omega (arith, more, heard, ap length far, length-append (k.told peer edge) (tellings_of peer edge (told_to edge peer answers ++ ns)));
      silent = λ dead. absurd (clash (sym alive ∙ dead));
      talk = λ on.
          subst (λ n. IsPeerTalk n (k.told edge peer ++ tellings_of edge peer (told_to edge peer answers ++ ns))) (sym (heard ∙ add-one (p.heard edge peer)))
          (subst (λ ms. IsPeerTalk (suc (p.heard edge peer)) (ms ++ tellings_of edge peer (told_to edge peer answers ++ ns))) (sym told)
          (subst (λ ms. IsPeerTalk (suc (p.heard edge peer)) (p.told edge peer ++ ms)) (sym only)
          (peer-heard (p.heard edge peer) (p.told edge peer) message es (tellings_of edge peer ns) (g.talk alive) turn
          (λ none. tellings-none c k edge peer ns each (few_off (peers_live c edge peer) (k.heard edge peer) (few none)))
          (tellings-updates c k edge peer ns each))));
    }
  where
    few : p.heard edge peer ≡ 0 → k.heard edge peer < 2
    few e = omega (arith, e, heard)

-- 4. The steps

-- the pair is this one, this one the other way round, or neither
unfoldable pub Which : (a b edge peer : ℕ) → Type 0
Which a b edge peer = ((edge ≡ a) × (peer ≡ b)) ⊎ (((edge ≡ b) × (peer ≡ a)) ⊎ (((edge ≢ a) ⊎ (peer ≢ b)) × ((edge ≢ b) ⊎ (peer ≢ a))))

pub which : (a b edge peer : ℕ) → Which a b edge peer
unfolding Which
which a b edge peer = elim (eqb_tells edge a) [
  | inl p ↦ elim (eqb_tells peer b) [
    | inl q ↦ inl (p.1, q.1)
    | inr q ↦ elim (eqb_tells edge b) [
      | inl r ↦ elim (eqb_tells peer a) [ inl u ↦ inr (inl (r.1, u.1)) | inr u ↦ inr (inr (inr q.1, inr u.1)) ]
      | inr r ↦ inr (inr (inr q.1, inl r.1))
    ]
  ]
  | inr p ↦ elim (eqb_tells edge b) [
    | inl r ↦ elim (eqb_tells peer a) [ inl u ↦ inr (inl (r.1, u.1)) | inr u ↦ inr (inr (inl p.1, inr u.1)) ]
    | inr r ↦ inr (inr (inl p.1, inl r.1))
  ]
]

with_session : Config → ℕ → ℕ → Bool → Config
with_session c a b on = record c { bgp_on = put_pair c.bgp_on a b on }

live_off : (c : Config) (a b edge peer : ℕ) (on : Bool) → (edge ≢ a) ⊎ (peer ≢ b) →
    (edge ≢ b) ⊎ (peer ≢ a) → peers_live (with_session c a b on) edge peer ≡ peers_live c edge peer
unfolding with_session
live_off c a b edge peer on d e = elim (lt_tells edge peer) [
  | inl p ↦ ap (λ x. if x then put_pair c.bgp_on a b on edge peer else put_pair c.bgp_on a b on peer edge) p.0 ∙ pair_off c.bgp_on a b on edge peer d
      ∙ sym (ap (λ x. if x then c.bgp_on edge peer else c.bgp_on peer edge) p.0)
  | inr p ↦ ap (λ x. if x then put_pair c.bgp_on a b on edge peer else put_pair c.bgp_on a b on peer edge) p.0 ∙ pair_off c.bgp_on a b on peer edge (swap e)
      ∙ sym (ap (λ x. if x then c.bgp_on edge peer else c.bgp_on peer edge) p.0)
]

live_here : (c : Config) (a b : ℕ) (on : Bool) → a < b → (peers_live (with_session c a b on) a b ≡ on) × (peers_live (with_session c a b on) b a ≡ on)
unfolding with_session
live_here c a b on h = (
  ap (λ x. if x then put_pair c.bgp_on a b on a b else put_pair c.bgp_on a b on b a) (less_is a b h) ∙ pair_here c.bgp_on a b on,
  ap (λ x. if x then put_pair c.bgp_on a b on b a else put_pair c.bgp_on a b on a b) (not_less b a (omega (arith, h))) ∙ pair_here c.bgp_on a b on,
)

session_step : (t : Network) (c : Config) (p : Peerings) (a b : ℕ) (on : Bool) (xs ns : List Told) → a < b →
    EachNews (with_session c a b on) (bgp_restarted p a b) ns
    → (on ≡ true → (tellings_of a b xs ≡ Open ∷ []) × (tellings_of b a xs ≡ Open ∷ [])) → (on ≡ false → xs ≡ []) →
    ((edge peer : ℕ) → (edge ≢ a) ⊎ (peer ≢ b) → (edge ≢ b) ⊎ (peer ≢ a) → tellings_of edge peer xs ≡ [])
    → PeersAreInTurn c p → PeersAreInTurn (with_session c a b on) (with_told (bgp_restarted p a b) (xs ++ ns))
unfolding Which
session_step t c p a b on xs ns order each opens ends others h edge peer d =
    elim (split (which a b edge peer)) [
      | inl q ↦ subst (λ x. IsPeerInTurn (with_session c a b on) (with_told (bgp_restarted p a b) (xs ++ ns)) x peer) (sym q.0)
          (subst (λ x. IsPeerInTurn (with_session c a b on) (with_told (bgp_restarted p a b) (xs ++ ns)) a x) (sym q.1)
          (renewed (with_session c a b on) (bgp_restarted p a b) xs ns a b each
          (pair_off (put_pair p.told a b []) b a [] a b (inl apart) ∙ pair_here p.told a b []) (pair_off (put_pair p.heard a b 0) b a 0 a b (inl apart)
          ∙ pair_here p.heard a b 0)
          (λ live. (opens (sym (live_here c a b on order).0 ∙ live)).0) (λ dead. ap (tellings_of a b) (ends (sym (live_here c a b on order).0 ∙ dead)))))
      | inr r ↦ elim r [
        | inl q ↦ subst (λ x. IsPeerInTurn (with_session c a b on) (with_told (bgp_restarted p a b) (xs ++ ns)) x peer) (sym q.0)
            (subst (λ x. IsPeerInTurn (with_session c a b on) (with_told (bgp_restarted p a b) (xs ++ ns)) b x) (sym q.1)
            (renewed (with_session c a b on) (bgp_restarted p a b) xs ns b a each
            (pair_here (put_pair p.told a b []) b a []) (pair_here (put_pair p.heard a b 0) b a 0)
            (λ live. (opens (sym (live_here c a b on order).1 ∙ live)).1) (λ dead. ap (tellings_of b a) (ends (sym (live_here c a b on order).1 ∙ dead)))))
        | inr q ↦ keeps c (with_session c a b on) p (bgp_restarted p a b) xs ns edge peer each
            (pair_off (put_pair p.told a b []) b a [] edge peer q.1 ∙ pair_off p.told a b [] edge peer q.0)
            (pair_off (put_pair p.heard a b 0) b a 0 edge peer q.1 ∙ pair_off p.heard a b 0 edge peer q.0)
            (pair_off (put_pair p.told a b []) b a [] peer edge (swap q.0) ∙ pair_off p.told a b [] peer edge (swap q.1))
            (live_off c a b edge peer on q.0 q.1) (others edge peer q.0 q.1) (h edge peer d)
      ]
    ]
  where
    apart : a ≢ b
    apart e = no (subst (λ x. x < b) e order)
      where
        no : b < b → ⊥
        no h = omega (arith, h)

    split : Which a b edge peer → ((edge ≡ a) × (peer ≡ b)) ⊎ (((edge ≡ b) × (peer ≡ a)) ⊎ (((edge ≢ a) ⊎ (peer ≢ b)) × ((edge ≢ b) ⊎ (peer ≢ a))))
    split w = w

-- no session begins or ends, and nobody receives
config_step : (t : Network) (c new : Config) (p : Peerings) → ((edge peer : ℕ) → peers_live new edge peer ≡ peers_live c edge peer) → PeersAreInTurn c p →
    PeersAreInTurn new (with_told p ([] ++ all_news t c p new p (edges t)))
config_step t c new p same h edge peer d =
    keeps c new p p [] (all_news t c p new p (edges t)) edge peer (each-edge t c p new p (edges t)) refl refl refl (same edge peer) refl (h edge peer d)

-- an edge receives from a peer
hear_step : (t : Network) (c : Config) (p k : Peerings) (a b : ℕ) → a ≢ b → k ≡ record p { heard = put_pair p.heard b a (p.heard b a + 1) } →
    peers_live c b a ≡ true → p.heard b a < length (p.told a b) → peers_live c a b ≡ true → PeersAreInTurn c p
    → PeersAreInTurn c
    (with_told k
    (told_to b a (reply (state_heard (p.heard b a)) (slice_index_or (p.told a b) (p.heard b a) Open) (exports_of t c b)) ++ all_news t c p c k
    (edges t)))
hear_step t c p k a b apart is alive more far_alive h edge peer d =
    let answers : List Telling = reply (state_heard (p.heard b a)) (slice_index_or (p.told a b) (p.heard b a) Open) (exports_of t c b) in
    let ns : List Told = all_news t c p c k (edges t) in
    let each = each-edge t c p c k (edges t) in
    let told : k.told ≡ p.told = ap (λ x. x.told) is in
    let heard : k.heard ≡ put_pair p.heard b a (p.heard b a + 1) = ap (λ x. x.heard) is in
    let off : ((edge ≢ b) ⊎ (peer ≢ a)) → IsPeerInTurn c (with_told k (told_to b a answers ++ ns)) edge peer = λ e.
    keeps c c p k (told_to b a answers) ns edge peer each (ap (λ f. f edge peer) told)
    (ap (λ f. f edge peer) heard ∙ pair_off p.heard b a (p.heard b a + 1) edge peer e) (ap (λ f. f peer edge) told) refl
    (told-other edge peer b a answers (elim e [ inl q ↦ inl (λ r. q (sym r)) | inr q ↦ inr (λ r. q (sym r)) ])) (h edge peer d) in
    elim (eqb_tells edge b) [
      | inr q ↦ off (inl q.1)
      | inl q ↦ elim (eqb_tells peer a) [
        | inr r ↦ off (inr r.1)
        | inl r ↦
            subst (λ x. IsPeerInTurn c (with_told k (told_to b a answers ++ ns)) x peer) (sym q.1)
            (subst (λ x. IsPeerInTurn c (with_told k (told_to b a answers ++ ns)) b x) (sym r.1)
            (hears c p k ns b a (exports_of t c b) each (ap (λ f. f b a) told) (ap (λ f. f a b) told)
            (ap (λ f. f b a) heard ∙ pair_here p.heard b a (p.heard b a + 1)) alive more (h b a (λ e. apart (sym e))) ((h a b apart).talk far_alive)))
      ]
    ]

-- the edges of a step are in order, or differ
abbrev pub AreInOrder : Step → Type 0
AreInOrder (step.BgpUp a b) = a.0 < b.0
AreInOrder (step.BgpDown a b) = a.0 < b.0
AreInOrder (step.HearBgp a b) = a.0 ≢ b.0
AreInOrder _ = ⊤

pub live_sym : (c : Config) (a b : ℕ) → a ≢ b → peers_live c a b ≡ peers_live c b a
live_sym c a b d = elim (lt_tells a b) [
  | inl p ↦ ap (λ x. if x then c.bgp_on a b else c.bgp_on b a) p.0 ∙ sym (ap (λ x. if x then c.bgp_on b a else c.bgp_on a b) (not_less b a p.1))
  | inr p ↦ ap (λ x. if x then c.bgp_on a b else c.bgp_on b a) p.0 ∙ sym (ap (λ x. if x then c.bgp_on b a else c.bgp_on a b) (less b a (strict p.1)))
]
  where
    less : (x y : ℕ) → x < y → nat_lt x y ≡ true
    less x y h = grind (arith, nat_tests)

    not_less : (x y : ℕ) → y < x → nat_lt x y ≡ false
    not_less x y h = grind (arith, nat_tests)

    strict : b ≤ a → b < a
    strict h = grind (arith, h, d)

pub state_alive : (c : Config) (p : Peerings) (b a : ℕ) → peers_live c b a ≡ true → bgp_state_of c p b a ≡ state_heard (p.heard b a)
state_alive c p b a h = ap (λ x. if x then state_heard (p.heard b a) else Idle) h

opened : (a b : ℕ) → a ≢ b →
    (tellings_of a b (told_to a b (Open ∷ []) ++ told_to b a (Open ∷ [])) ≡ Open ∷ [])
    × (tellings_of b a (told_to a b (Open ∷ []) ++ told_to b a (Open ∷ [])) ≡ Open ∷ [])
opened a b d = (
  tellings-append a b (told_to a b (Open ∷ [])) (told_to b a (Open ∷ []))
      ∙ ap (λ x. x ++ tellings_of a b (told_to b a (Open ∷ []))) (told-own a b (Open ∷ []))
      ∙ ap (λ x. (Open ∷ []) ++ x) (told-other a b b a (Open ∷ []) (inl (λ e. d (sym e)))),
  tellings-append b a (told_to a b (Open ∷ [])) (told_to b a (Open ∷ []))
      ∙ ap (λ x. x ++ tellings_of b a (told_to b a (Open ∷ []))) (told-other b a a b (Open ∷ []) (inl d)) ∙ told-own b a (Open ∷ []),
)

unopened : (a b edge peer : ℕ) → (edge ≢ a) ⊎ (peer ≢ b) →
    (edge ≢ b) ⊎ (peer ≢ a) → tellings_of edge peer (told_to a b (Open ∷ []) ++ told_to b a (Open ∷ [])) ≡ []
unopened a b edge peer d e =
    tellings-append edge peer (told_to a b (Open ∷ [])) (told_to b a (Open ∷ []))
    ∙ ap (λ x. x ++ tellings_of edge peer (told_to b a (Open ∷ [])))
    (told-other edge peer a b (Open ∷ []) (elim d [ inl p ↦ inl (λ r. p (sym r)) | inr p ↦ inr (λ r. p (sym r)) ]))
    ∙ told-other edge peer b a (Open ∷ []) (elim e [ inl p ↦ inl (λ r. p (sym r)) | inr p ↦ inr (λ r. p (sym r)) ])

pub peers_go : (t : Network) (w : World) (k : Packets) (s : Step) → AreInOrder s → is_empty t w k s ≡ false → PeersAreInTurn w.config w.peerings →
    PeersAreInTurn (after t w s).config (after t w s).peerings
unfolding peerings_after with_session
peers_go t w k (step.BgpUp a b) order full h =
    session_step t w.config w.peerings a.0 b.0 true (told_to a.0 b.0 (Open ∷ []) ++ told_to b.0 a.0 (Open ∷ []))
    (all_news t w.config w.peerings (config_after w.config (step.BgpUp a b)) (bgp_restarted w.peerings a.0 b.0) (edges t)) order
    (each-edge t w.config w.peerings (config_after w.config (step.BgpUp a b)) (bgp_restarted w.peerings a.0 b.0) (edges t))
    (λ _. opened a.0 b.0 (λ e. no (subst (λ x. x < b.0) e order))) (λ e. absurd (clash e)) (unopened a.0 b.0) h
  where
    no : b.0 < b.0 → ⊥
    no h = omega (arith, h)
peers_go t w k (step.BgpDown a b) order full h =
    session_step t w.config w.peerings a.0 b.0 false []
    (all_news t w.config w.peerings (config_after w.config (step.BgpDown a b)) (bgp_restarted w.peerings a.0 b.0) (edges t)) order
    (each-edge t w.config w.peerings (config_after w.config (step.BgpDown a b)) (bgp_restarted w.peerings a.0 b.0) (edges t))
    (λ e. absurd (no e)) (λ _. refl) (λ edge peer d e. refl) h
peers_go t w k (step.HearBgp a b) order full h =
    let parts = or_both _ _ full in
    let alive : peers_live w.config a.0 b.0 ≡ true = not_false _ parts.0 in
    let back : peers_live w.config b.0 a.0 ≡ true = sym (live_sym w.config a.0 b.0 order) ∙ alive in
    subst (λ st. PeersAreInTurn w.config
    (with_told (bgp_counted w.peerings (step.HearBgp a b))
    (told_to b.0 a.0 (reply st (slice_index_or (w.peerings.told a.0 b.0) (w.peerings.heard b.0 a.0) Open) (exports_of t w.config b.0)) ++ all_news t
    w.config w.peerings w.config (bgp_counted w.peerings (step.HearBgp a b)) (edges t))))
    (sym (state_alive w.config w.peerings b.0 a.0 back))
    (hear_step t w.config w.peerings (bgp_counted w.peerings (step.HearBgp a b)) a.0 b.0 order refl back (above _ _ parts.1) alive h)
peers_go t w k (step.AddRoute s prefix) order full h = config_step t w.config (config_after w.config (step.AddRoute s prefix)) w.peerings (λ a b. refl) h
peers_go t w k (step.DelRoute s prefix) order full h = config_step t w.config (config_after w.config (step.DelRoute s prefix)) w.peerings (λ a b. refl) h
peers_go t w k (step.Import v on target) order full h = config_step t w.config (config_after w.config (step.Import v on target)) w.peerings (λ a b. refl) h
peers_go t w k (step.Export v on target) order full h = config_step t w.config (config_after w.config (step.Export v on target)) w.peerings (λ a b. refl) h
peers_go t w k (step.Attach s) order full h = config_step t w.config (config_after w.config (step.Attach s)) w.peerings (λ a b. refl) h
peers_go t w k (step.Detach s) order full h = config_step t w.config (config_after w.config (step.Detach s)) w.peerings (λ a b. refl) h
peers_go t w k _ order full h = λ edge peer d. let g = h edge peer d in record { heard = g.heard; silent = g.silent; talk = g.talk }
