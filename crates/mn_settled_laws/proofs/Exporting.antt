-- Each step of a lawful journal keeps that each edge has told what it exports.
use Rattle.std.proofs.Common.{ℕ, zero, suc, ◌≡◌, ◌≢◌, ◌+◌, ◌<◌, ◌≤◌, ◌⊎◌, inl, inr, Bool, true, false, cond, List, [], ◌∷◌, ◌++◌, map, length, refl}
use Rattle.std.proofs.Common.{arith, sym, ◌∙◌, ap, subst, append-nil}
use Rattle.std.specs.Prelude.{◌==◌, ◌&&◌, nat_le, slice_index_or}
use Rattle.std.specs.List.{flat_map, range_with_len}
use Rattle.std.proofs.lemmas.Bool.Decides.{eqb_tells, leb_tells}
use Rattle.mn_base.proofs.Bools.{and_off_left, and_off_right, and_on, clash, swap}
use Rattle.mn_wiring.specs.Wiring.{nodes_of}
use Rattle.mn_states.specs.declared.states.BgpState.TheVariants.{OpenSent, OpenConfirm, Established}
use Rattle.mn_topo.specs.VrfTable.{is_edge}
use Rattle.mn_topo.specs.Network.{Network, wiring_of}
use Rattle.mn_topo.specs.declared.steps.Step.{Step}
use Rattle.mn_topo.specs.declared.steps.Step.TheVariants as step
use Rattle.mn_ledger.specs.Turns.{PeersAreInTurn}
use Rattle.mn_ledger.specs.Tables.{put_pair}
use Rattle.mn_ledger.specs.Places.{edges}
use Rattle.mn_ledger.specs.World.{SiteRoute, Config, Export, Telling, Open, BgpKeepAlive, Announcement, Withdrawal, Peerings, World}
use Rattle.mn_ledger.specs.Exports.{exports_of}
use Rattle.mn_ledger.specs.Bgp.{Told, tellings_of, told_to, peers_live, state_heard, is_established, reply, changed, steady_peers, route_news}
use Rattle.mn_ledger.specs.Bgp.{bgp_restarted, bgp_counted, with_told, peerings_after}
use Rattle.mn_ledger.specs.Held.{believed_from}
use Rattle.mn_ledger.specs.Ledger.{config_after, after}
use Rattle.mn_ledger.specs.Packets.{Packets}
use Rattle.mn_ledger.specs.Refusal.{is_empty}
use Rattle.mn_ledger.proofs.Members.{In, in_filter, filter_in, in_front}
use Rattle.mn_ledger.proofs.GoingBy.{or_both, not_false, above, pair_here, pair_off}
use Rattle.mn_ledger.proofs.Peers.{IsPeerNth, peer-nth, tellings-append, same_test, other_test, and_off, AreInOrder, Which, which, live_sym, state_alive, pick}
use Rattle.mn_ledger.proofs.Statics.{HasStatics}
use Rattle.mn_ledger.proofs.Saying.{IsOnce, once-range, once-filter}
use Rattle.mn_settled_laws.proofs.Changes.{AreSame, AreKept, changes-believed, announced-all, exports-kept, exports-different, believed-append}
use Rattle.mn_ledger.proofs.Mentions.{few_off}
pub use Rattle.mn_ledger.proofs.Peers.{told-own}
pub use Rattle.mn_ledger.proofs.Peers.{told-other}

-- 1. What one edge tells one peer, of all that is told

abbrev to_each : ℕ → List ℕ → Telling → List Told
to_each e peers telling = map (λ peer. record { teller = e; peer = peer; telling = telling }) peers

each-else : (a b e : ℕ) (peers : List ℕ) (m : Telling) → (e ≢ a) ⊎ (In peers b → ⊥) → tellings_of a b (to_each e peers m) ≡ []
each-else a b e [] m d = refl
each-else a b e (x ∷ peers) m d =
    pick a b (record { teller = e; peer = x; telling = m }) (to_each e peers m) false off
    ∙ each-else a b e peers m (elim d [ inl p ↦ inl p | inr p ↦ inr (λ i. p (inr i)) ])
  where
    off : ((e == a) && (x == b)) ≡ false
    off = elim d [ inl p ↦ ap (λ o. o && (x == b)) (other_test e a p) | inr p ↦ ap (λ o. (e == a) && o) (other_test x b (λ q. p (inl q))) ∙ and_off (e == a) ]

each-once : (a b : ℕ) (peers : List ℕ) (m : Telling) → IsOnce b peers → In peers b → tellings_of a b (to_each a peers m) ≡ m ∷ []
each-once a b [] m once i = absurd i
each-once a b (x ∷ peers) m once i = elim (eqb_tells x b) [
  | inl e ↦
      pick a b (record { teller = a; peer = x; telling = m }) (to_each a peers m) true (ap (λ o. o && (x == b)) (same_test a) ∙ e.0)
      ∙ ap (λ ms. m ∷ ms) (each-else a b a peers m (inr (once.0 e.1)))
  | inr e ↦
      pick a b (record { teller = a; peer = x; telling = m }) (to_each a peers m) false (ap (λ o. (a == a) && o) e.0 ∙ and_off (a == a))
      ∙ each-once a b peers m once.1 (elim i [ inl q ↦ absurd (e.1 q) | inr j ↦ j ])
]

all-else : (a b e : ℕ) (peers : List ℕ) (ms : List Telling) → (e ≢ a) ⊎ (In peers b → ⊥) → tellings_of a b (flat_map (to_each e peers) ms) ≡ []
all-else a b e peers [] d = refl
all-else a b e peers (m ∷ ms) d =
    tellings-append a b (to_each e peers m) (flat_map (to_each e peers) ms)
    ∙ ap (λ xs. xs ++ tellings_of a b (flat_map (to_each e peers) ms)) (each-else a b e peers m d) ∙ all-else a b e peers ms d

all-once : (a b : ℕ) (peers : List ℕ) (ms : List Telling) → IsOnce b peers → In peers b → tellings_of a b (flat_map (to_each a peers) ms) ≡ ms
all-once a b peers [] once i = refl
all-once a b peers (m ∷ ms) once i =
    tellings-append a b (to_each a peers m) (flat_map (to_each a peers) ms)
    ∙ ap (λ xs. xs ++ tellings_of a b (flat_map (to_each a peers) ms)) (each-once a b peers m once i) ∙ ap (λ xs. m ∷ xs) (all-once a b peers ms once i)

module _ (t : Network) (c : Config) (p : Peerings) (new : Config) (k : Peerings) where
  abbrev is_steady : ℕ → ℕ → Bool
  is_steady a b = is_established c p a b && is_established new k a b

  news-else : (a b e : ℕ) → e ≢ a → tellings_of a b (route_news t c p new k e) ≡ []
  news-else a b e d = all-else a b e (steady_peers t c p new k e) (changed (exports_of t c e) (exports_of t new e)) (inl d)

  nobody : (a b : ℕ) (es : List ℕ) → (In es a → ⊥) → tellings_of a b (flat_map (route_news t c p new k) es) ≡ []
  nobody a b [] out = refl
  nobody a b (e ∷ es) out =
      tellings-append a b (route_news t c p new k e) (flat_map (route_news t c p new k) es)
      ∙ ap (λ xs. xs ++ tellings_of a b (flat_map (route_news t c p new k) es)) (news-else a b e (λ q. out (inl q))) ∙ nobody a b es (λ i. out (inr i))

  one-teller : (a b : ℕ) (es : List ℕ) → IsOnce a es → In es a →
      tellings_of a b (flat_map (route_news t c p new k) es) ≡ tellings_of a b (route_news t c p new k a)
  one-teller a b [] once i = absurd i
  one-teller a b (e ∷ es) once i = tellings-append a b (route_news t c p new k e) (flat_map (route_news t c p new k) es) ∙ (elim (eqb_tells e a) [
    | inl q ↦ ap (λ xs. tellings_of a b (route_news t c p new k e) ++ xs) (nobody a b es (once.0 q.1)) ∙ append-nil (tellings_of a b (route_news t c p new k e))
        ∙ ap (λ j. tellings_of a b (route_news t c p new k j)) q.1
    | inr q ↦ ap (λ xs. xs ++ tellings_of a b (flat_map (route_news t c p new k) es)) (news-else a b e q.1)
        ∙ one-teller a b es once.1 (elim i [ inl r ↦ absurd (q.1 r) | inr j ↦ j ])
  ])

  once-edges : (a : ℕ) → IsOnce a (edges t)
  once-edges a = once-filter (λ node. is_edge t.vrfs node) a (range_with_len 0 (length t.loopbacks)) (once-range a 0 (length t.loopbacks))

  once-peers : (a b : ℕ) → IsOnce b (steady_peers t c p new k a)
  once-peers a b =
      once-filter (λ peer. is_established c p a peer && is_established new k a peer) b (nodes_of (wiring_of t)) (once-range b 0 (length t.loopbacks))

  in-nodes : (b : ℕ) → In (edges t) b → In (nodes_of (wiring_of t)) b
  in-nodes b i = (in_filter (λ node. is_edge t.vrfs node) (range_with_len 0 (length t.loopbacks)) b i).0

  tells-steady : (a b : ℕ) → In (edges t) a → In (edges t) b → is_steady a b ≡ true
      → tellings_of a b (flat_map (route_news t c p new k) (edges t)) ≡ changed (exports_of t c a) (exports_of t new a)
  tells-steady a b i j on =
      one-teller a b (edges t) (once-edges a) i
      ∙ all-once a b (steady_peers t c p new k a) (changed (exports_of t c a) (exports_of t new a)) (once-peers a b)
      (filter_in (λ peer. is_established c p a peer && is_established new k a peer) (nodes_of (wiring_of t)) b (in-nodes b j) on)

  tells-unsteady : (a b : ℕ) → In (edges t) a → is_steady a b ≡ false → tellings_of a b (flat_map (route_news t c p new k) (edges t)) ≡ []
  tells-unsteady a b i off =
      one-teller a b (edges t) (once-edges a) i
      ∙ all-else a b a (steady_peers t c p new k a) (changed (exports_of t c a) (exports_of t new a))
      (inr (λ m. clash (sym (in_filter (λ peer. is_established c p a peer && is_established new k a peer) (nodes_of (wiring_of t)) b m).1 ∙ off)))

-- 2. One step, and one pair of edges

-- where Established it has told its exports, and else nothing
pub record Tells (t : Network) (c : Config) (p : Peerings) (a b : ℕ) : Type 0 where
  pub on : is_established c p a b ≡ true → AreSame (believed_from [] (p.told a b)) (exports_of t c a)
  pub off : is_established c p a b ≡ false → (x : Export) → In (believed_from [] (p.told a b)) x → ⊥

abbrev pub AllTell : Network → Config → Peerings → Type 0
AllTell t c p = (a b : ℕ) → a ≢ b → In (edges t) a → In (edges t) b → Tells t c p a b

many_on : (b : Bool) (k : ℕ) → b ≡ true → 2 ≤ k → (b && nat_le 2 k) ≡ true
many_on b k e h = ap (λ x. x && nat_le 2 k) e ∙ elim (leb_tells 2 k) [ inl r ↦ r.0 | inr r ↦ absurd (not_both h r.1) ]
  where
    not_both : 2 ≤ k → k < 2 → ⊥
    not_both a b = omega (arith, a, b)

module _ (t : Network) (c : Config) (p : Peerings) (new : Config) (k : Peerings) (xs : List Told) (a b : ℕ) (i : In (edges t) a) (j : In (edges t) b) where
  abbrev told : List Told
  told = flat_map (route_news t c p new k) (edges t)

  told-is : (ms : List Telling) → tellings_of a b xs ≡ ms → (rest : List Telling) → tellings_of a b told ≡ rest
      → (with_told k (xs ++ told)).told a b ≡ k.told a b ++ (ms ++ rest)
  told-is ms e rest f = ap (λ ys. k.told a b ++ ys) (tellings-append a b xs told ∙ ap (λ ys. ys ++ tellings_of a b told) e ∙ ap (λ ys. ms ++ ys) f)

  -- a life begins or ends
  tells-fresh : k.told a b ≡ [] → k.heard a b ≡ 0 → (tellings_of a b xs ≡ []) ⊎ (tellings_of a b xs ≡ Open ∷ []) → Tells t new (with_told k (xs ++ told)) a b
  tells-fresh none zero_heard replies_are =
      let few : k.heard a b < 2 = subst (λ n. n < 2) (sym zero_heard) (omega arith) in
      let now_off : is_established new k a b ≡ false = few_off (peers_live new a b) (k.heard a b) few in
      let quiet : tellings_of a b told ≡ [] = tells-unsteady t c p new k a b i (and_off_right (is_established c p a b) (is_established new k a b) now_off) in
      record {
        on = λ e. absurd (clash (sym e ∙ now_off));
        off = λ e x m. elim replies_are [
          | inl r ↦ subst (λ ys. In (believed_from [] ys) x) (told-is [] r [] quiet ∙ ap (λ ys. ys ++ []) none) m
          | inr r ↦ subst (λ ys. In (believed_from [] ys) x) (told-is (Open ∷ []) r [] quiet ∙ ap (λ ys. ys ++ (Open ∷ [])) none) m
        ];
      }

  -- nothing of its own happened to it
  tells-kept : HasStatics t c.statics → HasStatics t new.statics → AreKept (exports_of t c a) (exports_of t new a) → k.told a b ≡ p.told a b
      → k.heard a b ≡ p.heard a b → peers_live new a b ≡ peers_live c a b → tellings_of a b xs ≡ []
      → Tells t c p a b → Tells t new (with_told k (xs ++ told)) a b
  tells-kept old_statics new_statics keeps said heard alive quiet h =
      let same : is_established new k a b ≡ is_established c p a b = ap (λ x. x && nat_le 2 (k.heard a b)) alive
      ∙ ap (λ n. peers_live c a b && nat_le 2 n) heard in
      record {
        on = λ e.
            let was : is_established c p a b ≡ true = sym same ∙ e in
            let all : (with_told k (xs ++ told)).told a b ≡ p.told a b ++ changed (exports_of t c a) (exports_of t new a) =
            told-is [] quiet (changed (exports_of t c a) (exports_of t new a))
            (tells-steady t c p new k a b i j (and_on (is_established c p a b) (is_established new k a b) was e))
            ∙ ap (λ ys. ys ++ changed (exports_of t c a) (exports_of t new a)) said in
            subst (λ ys. AreSame ys (exports_of t new a)) (sym
            (ap (believed_from []) all ∙ believed-append [] (p.told a b) (changed (exports_of t c a) (exports_of t new a))))
            (changes-believed (believed_from [] (p.told a b)) (exports_of t c a) (exports_of t new a) (h.on was) (exports-different t c a old_statics)
            (exports-different t new a new_statics) keeps);
        off = λ e x m.
            let was : is_established c p a b ≡ false = sym same ∙ e in
            h.off was x (subst (λ ys. In (believed_from [] ys) x)
            (told-is [] quiet [] (tells-unsteady t c p new k a b i (and_off_left (is_established c p a b) (is_established new k a b) was))
            ∙ append-nil (k.told a b) ∙ said) m);
      }

-- it receives the peer's next message, and answers
module _ (t : Network) (c : Config) (p : Peerings) (a b : ℕ) (i : In (edges t) a) (j : In (edges t) b) (alive : peers_live c a b ≡ true) (message : Telling)
    (turn : IsPeerNth (p.heard a b) message) (statics : HasStatics t c.statics) (h : Tells t c p a b) where
  abbrev k : Peerings
  k = record p { heard = put_pair p.heard a b (p.heard a b + 1) }

  abbrev answers : List Told
  answers = told_to a b (reply (state_heard (p.heard a b)) message (exports_of t c a))

  abbrev then : Peerings
  then =
      with_told (record p { heard = put_pair p.heard a b (p.heard a b + 1) })
      (answers ++ flat_map (route_news t c p c (record p { heard = put_pair p.heard a b (p.heard a b + 1) })) (edges t))

  heard-is : put_pair p.heard a b (p.heard a b + 1) a b ≡ p.heard a b + 1
  heard-is = pair_here p.heard a b (p.heard a b + 1)

  all-told : (ms rest : List Telling) → reply (state_heard (p.heard a b)) message (exports_of t c a) ≡ ms
      → tellings_of a b (flat_map (route_news t c p c (record p { heard = put_pair p.heard a b (p.heard a b + 1) })) (edges t)) ≡ rest
      → then.told a b ≡ p.told a b ++ (ms ++ rest)
  all-told ms rest e f =
      told-is t c p c (record p { heard = put_pair p.heard a b (p.heard a b + 1) }) answers a b i j ms
      (told-own a b (reply (state_heard (p.heard a b)) message (exports_of t c a)) ∙ e) rest f

  few-before : p.heard a b < 2 → is_established c p a b ≡ false
  few-before few = few_off (peers_live c a b) (p.heard a b) few

  unsteady : p.heard a b < 2 → tellings_of a b (flat_map (route_news t c p c (record p { heard = put_pair p.heard a b (p.heard a b + 1) })) (edges t)) ≡ []
  unsteady few =
      tells-unsteady t c p c (record p { heard = put_pair p.heard a b (p.heard a b + 1) }) a b i (and_off_left (is_established c p a b) _ (few-before few))

  abbrev IsTold : Type 0
  IsTold = Tells t c then a b

  hears-first : p.heard a b ≡ 0 → IsTold
  hears-first e =
      let is : message ≡ Open = subst (λ n. IsPeerNth n message) e turn in
      let few : p.heard a b < 2 = subst (λ n. n < 2) (sym e) (omega arith) in
      let now_off : is_established c then a b ≡ false = few_off (peers_live c a b) (put_pair p.heard a b (p.heard a b + 1) a b)
      (subst (λ n. n < 2) (sym (heard-is ∙ ap (λ n. n + 1) e)) (omega arith)) in
      record {
        on = λ f. absurd (clash (sym f ∙ now_off));
        off =
            λ f x m. h.off (few-before few) x (subst (λ ys. In ys x)
            (ap (believed_from []) (all-told (BgpKeepAlive ∷ []) [] (ap (λ n. reply (state_heard n) message (exports_of t c a)) e
            ∙ ap (λ y. reply OpenSent y (exports_of t c a)) is) (unsteady few)) ∙ believed-append [] (p.told a b) (BgpKeepAlive ∷ [])) m);
      }

  hears-second : p.heard a b ≡ 1 → IsTold
  hears-second e =
      let is : message ≡ BgpKeepAlive = subst (λ n. IsPeerNth n message) e turn in
      let few : p.heard a b < 2 = subst (λ n. n < 2) (sym e) (omega arith) in
      let now_on : is_established c then a b ≡ true = many_on (peers_live c a b) (put_pair p.heard a b (p.heard a b + 1) a b) alive
      (subst (λ n. 2 ≤ n) (sym (heard-is ∙ ap (λ n. n + 1) e)) (omega arith)) in
      let all : then.told a b ≡ p.told a b ++ map (λ export. Announcement export) (exports_of t c a) =
      all-told (map (λ export. Announcement export) (exports_of t c a)) []
      (ap (λ n. reply (state_heard n) message (exports_of t c a)) e ∙ ap (λ y. reply OpenConfirm y (exports_of t c a)) is) (unsteady few)
      ∙ ap (λ ys. p.told a b ++ ys) (append-nil (map (λ export. Announcement export) (exports_of t c a))) in
      record {
        on =
            λ f. subst (λ ys. AreSame ys (exports_of t c a)) (sym
            (ap (believed_from []) all ∙ believed-append [] (p.told a b) (map (λ export. Announcement export) (exports_of t c a))))
            (announced-all (believed_from [] (p.told a b)) (exports_of t c a) (h.off (few-before few)) (exports-different t c a statics));
        off = λ f. absurd (clash (sym now_on ∙ f));
      }

  hears-later : (n : ℕ) → p.heard a b ≡ suc (suc n) → IsTold
  hears-later n e =
      let many : 2 ≤ p.heard a b = omega (arith, e) in
      let was_on : is_established c p a b ≡ true = many_on (peers_live c a b) (p.heard a b) alive many in
      let now_on : is_established c then a b ≡ true = many_on (peers_live c a b) (put_pair p.heard a b (p.heard a b + 1) a b) alive
      (subst (λ x. 2 ≤ x) (sym heard-is) (omega (arith, many))) in
      let all : then.told a b ≡ p.told a b ++ changed (exports_of t c a) (exports_of t c a) =
      all-told [] (changed (exports_of t c a) (exports_of t c a)) (ap (λ x. reply (state_heard x) message (exports_of t c a)) e ∙ silent message)
      (tells-steady t c p c (record p { heard = put_pair p.heard a b (p.heard a b + 1) }) a b i j (and_on (is_established c p a b) _ was_on now_on)) in
      record {
        on =
            λ f. subst (λ ys. AreSame ys (exports_of t c a)) (sym
            (ap (believed_from []) all ∙ believed-append [] (p.told a b) (changed (exports_of t c a) (exports_of t c a))))
            (changes-believed (believed_from [] (p.told a b)) (exports_of t c a) (exports_of t c a) (h.on was_on) (exports-different t c a statics)
            (exports-different t c a statics) (exports-kept t c.statics c c a statics (λ z k. k) (λ z k. k)));
        off = λ f. absurd (clash (sym now_on ∙ f));
      }
    where
      silent : (m : Telling) → reply Established m (exports_of t c a) ≡ []
      silent Open = refl
      silent BgpKeepAlive = refl
      silent (Announcement x) = refl
      silent (Withdrawal v x) = refl

  pub hears : IsTold
  hears = by_count (p.heard a b) refl
    where
      by_count : (n : ℕ) → p.heard a b ≡ n → IsTold
      by_count zero e = hears-first e
      by_count (suc zero) e = hears-second e
      by_count (suc (suc n)) e = hears-later n e

-- 3. Each kind of step

turned : (a b j k : ℕ) → (j ≢ a) ⊎ (k ≢ b) → (a ≢ j) ⊎ (b ≢ k)
turned a b j k d = elim d [ inl p ↦ inl (λ e. p (sym e)) | inr q ↦ inr (λ e. q (sym e)) ]

live-off : (c : Config) (a b edge peer : ℕ) (on : Bool) → (edge ≢ a) ⊎ (peer ≢ b) → (edge ≢ b) ⊎ (peer ≢ a)
    → peers_live (record c { bgp_on = put_pair c.bgp_on a b on }) edge peer ≡ peers_live c edge peer
live-off c a b edge peer on d e = elim (leb_tells (suc edge) peer) [
  | inl p ↦ ap (λ x. cond x (put_pair c.bgp_on a b on edge peer) (put_pair c.bgp_on a b on peer edge)) p.0 ∙ pair_off c.bgp_on a b on edge peer d
      ∙ sym (ap (λ x. cond x (c.bgp_on edge peer) (c.bgp_on peer edge)) p.0)
  | inr p ↦ ap (λ x. cond x (put_pair c.bgp_on a b on edge peer) (put_pair c.bgp_on a b on peer edge)) p.0 ∙ pair_off c.bgp_on a b on peer edge (swap e)
      ∙ sym (ap (λ x. cond x (c.bgp_on edge peer) (c.bgp_on peer edge)) p.0)
]

-- a session of this pair begins or ends
session-step : (t : Network) (c : Config) (p : Peerings) (x y : ℕ) (on : Bool) (xs : List Told) → x ≢ y → HasStatics t c.statics
    → ((tellings_of x y xs ≡ []) ⊎ (tellings_of x y xs ≡ Open ∷ [])) × ((tellings_of y x xs ≡ []) ⊎ (tellings_of y x xs ≡ Open ∷ []))
    → ((a b : ℕ) → (a ≢ x) ⊎ (b ≢ y) → (a ≢ y) ⊎ (b ≢ x) → tellings_of a b xs ≡ [])
    → AllTell t c p
    → AllTell t (record c { bgp_on = put_pair c.bgp_on x y on })
    (with_told (bgp_restarted p x y) (xs ++ flat_map (route_news t c p (record c { bgp_on = put_pair c.bgp_on x y on }) (bgp_restarted p x y)) (edges t)))
unfolding Which
session-step t c p x y on xs apart statics opens others h a b d i j = elim (which x y a b) [
  | inl q ↦ tells-fresh t c p (record c { bgp_on = put_pair c.bgp_on x y on }) (bgp_restarted p x y) xs a b i j
      (ap (λ z. put_pair (put_pair p.told x y []) y x [] z b) q.0 ∙ ap (put_pair (put_pair p.told x y []) y x [] x) q.1
      ∙ pair_off (put_pair p.told x y []) y x [] x y (inl apart) ∙ pair_here p.told x y [])
      (ap (λ z. put_pair (put_pair p.heard x y 0) y x 0 z b) q.0 ∙ ap (put_pair (put_pair p.heard x y 0) y x 0 x) q.1
      ∙ pair_off (put_pair p.heard x y 0) y x 0 x y (inl apart) ∙ pair_here p.heard x y 0)
      (either a b x y q.0 q.1 opens.0)
  | inr r ↦ elim r [
    | inl q ↦ tells-fresh t c p (record c { bgp_on = put_pair c.bgp_on x y on }) (bgp_restarted p x y) xs a b i j
        (ap (λ z. put_pair (put_pair p.told x y []) y x [] z b) q.0 ∙ ap (put_pair (put_pair p.told x y []) y x [] y) q.1
        ∙ pair_here (put_pair p.told x y []) y x [])
        (ap (λ z. put_pair (put_pair p.heard x y 0) y x 0 z b) q.0 ∙ ap (put_pair (put_pair p.heard x y 0) y x 0 y) q.1
        ∙ pair_here (put_pair p.heard x y 0) y x 0)
        (either a b y x q.0 q.1 opens.1)
    | inr q ↦ tells-kept t c p (record c { bgp_on = put_pair c.bgp_on x y on }) (bgp_restarted p x y) xs a b i j statics statics
        (exports-kept t c.statics c (record c { bgp_on = put_pair c.bgp_on x y on }) a statics (λ z k. k) (λ z k. k))
        (pair_off (put_pair p.told x y []) y x [] a b q.1 ∙ pair_off p.told x y [] a b q.0)
        (pair_off (put_pair p.heard x y 0) y x 0 a b q.1 ∙ pair_off p.heard x y 0 a b q.0)
        (live-off c x y a b on q.0 q.1) (others a b q.0 q.1) (h a b d i j)
  ]
]
  where
    either : (a b u v : ℕ) → a ≡ u → b ≡ v → (tellings_of u v xs ≡ []) ⊎ (tellings_of u v xs ≡ Open ∷ [])
        → (tellings_of a b xs ≡ []) ⊎ (tellings_of a b xs ≡ Open ∷ [])
    either a b u v e f g =
        let is : tellings_of a b xs ≡ tellings_of u v xs = ap (λ z. tellings_of z b xs) e ∙ ap (λ z. tellings_of u z xs) f in
        elim g [ inl q ↦ inl (is ∙ q) | inr q ↦ inr (is ∙ q) ]

abbrev opening : ℕ → ℕ → List Told
opening x y = told_to x y (Open ∷ []) ++ told_to y x (Open ∷ [])

opens-here : (x y : ℕ) → x ≢ y → tellings_of x y (opening x y) ≡ Open ∷ []
opens-here x y d =
    tellings-append x y (told_to x y (Open ∷ [])) (told_to y x (Open ∷ []))
    ∙ ap (λ ys. ys ++ tellings_of x y (told_to y x (Open ∷ []))) (told-own x y (Open ∷ []))
    ∙ ap (λ ys. Open ∷ ys) (told-other x y y x (Open ∷ []) (inl (λ e. d (sym e))))

opens-back : (x y : ℕ) → x ≢ y → tellings_of y x (opening x y) ≡ Open ∷ []
opens-back x y d =
    tellings-append y x (told_to x y (Open ∷ [])) (told_to y x (Open ∷ []))
    ∙ ap (λ ys. ys ++ tellings_of y x (told_to y x (Open ∷ []))) (told-other y x x y (Open ∷ []) (inl d)) ∙ told-own y x (Open ∷ [])

opens-else : (x y a b : ℕ) → (a ≢ x) ⊎ (b ≢ y) → (a ≢ y) ⊎ (b ≢ x) → tellings_of a b (opening x y) ≡ []
opens-else x y a b d e =
    tellings-append a b (told_to x y (Open ∷ [])) (told_to y x (Open ∷ []))
    ∙ ap (λ ys. ys ++ tellings_of a b (told_to y x (Open ∷ []))) (told-other a b x y (Open ∷ []) (turned x y a b d))
    ∙ told-other a b y x (Open ∷ []) (turned y x a b e)

-- exports may change
config-step : (t : Network) (c new : Config) (p : Peerings) (all : List SiteRoute) → HasStatics t c.statics → HasStatics t new.statics → HasStatics t all
    → ((z : SiteRoute) → In new.statics z → In all z) → ((z : SiteRoute) → In c.statics z → In all z)
    → ((a b : ℕ) → peers_live new a b ≡ peers_live c a b) → AllTell t c p → AllTell t new (with_told p ([] ++ flat_map (route_news t c p new p) (edges t)))
config-step t c new p all old_statics new_statics statics new_in old_in alive h a b d i j =
    tells-kept t c p new p [] a b i j old_statics new_statics (exports-kept t all c new a statics new_in old_in) refl refl (alive a b) refl (h a b d i j)

hear-step : (t : Network) (c : Config) (p : Peerings) (x y : ℕ) (message : Telling) → x ≢ y → peers_live c y x ≡ true → IsPeerNth (p.heard y x) message
    → HasStatics t c.statics → AllTell t c p
    → AllTell t c (with_told (record p { heard = put_pair p.heard y x (p.heard y x + 1) })
    (told_to y x (reply (state_heard (p.heard y x)) message (exports_of t c y))
    ++ flat_map (route_news t c p c (record p { heard = put_pair p.heard y x (p.heard y x + 1) })) (edges t)))
hear-step t c p x y message apart alive turn statics h a b d i j = elim (eqb_tells a y) [
  | inr q ↦ off (inl q.1)
  | inl q ↦ elim (eqb_tells b x) [
    | inr r ↦ off (inr r.1)
    | inl r ↦
        subst (λ z. Tells t c then_world z b) (sym q.1) (subst (λ z. Tells t c then_world y z) (sym r.1)
        (hears t c p y x (subst (In (edges t)) q.1 i) (subst (In (edges t)) r.1 j) alive message turn statics
        (h y x (λ e. apart (sym e)) (subst (In (edges t)) q.1 i) (subst (In (edges t)) r.1 j))))
  ]
]
  where
    then_world : Peerings
    then_world =
        with_told (record p { heard = put_pair p.heard y x (p.heard y x + 1) })
        (told_to y x (reply (state_heard (p.heard y x)) message (exports_of t c y))
        ++ flat_map (route_news t c p c (record p { heard = put_pair p.heard y x (p.heard y x + 1) })) (edges t))

    off : (a ≢ y) ⊎ (b ≢ x) → Tells t c then_world a b
    off e =
        tells-kept t c p c (record p { heard = put_pair p.heard y x (p.heard y x + 1) })
        (told_to y x (reply (state_heard (p.heard y x)) message (exports_of t c y))) a b i j statics statics
        (exports-kept t c.statics c c a statics (λ z k. k) (λ z k. k))
        refl (pair_off p.heard y x (p.heard y x + 1) a b e) refl
        (told-other a b y x (reply (state_heard (p.heard y x)) message (exports_of t c y)) (turned y x a b e)) (h a b d i j)

pub tells-step : (t : Network) (w : World) (k : Packets) (s : Step) → AreInOrder s → is_empty t w k s ≡ false → HasStatics t w.config.statics
    → HasStatics t (config_after w.config s).statics → PeersAreInTurn w.config w.peerings → AllTell t w.config w.peerings
    → AllTell t (after t w s).config (after t w s).peerings
unfolding peerings_after
tells-step t w k (step.BgpUp a b) order full old new go h =
    session-step t w.config w.peerings a.0 b.0 true (opening a.0 b.0) (apart order) old
    (inr (opens-here a.0 b.0 (apart order)), inr (opens-back a.0 b.0 (apart order))) (opens-else a.0 b.0) h
  where
    apart : a.0 < b.0 → a.0 ≢ b.0
    apart l e = omega (arith, l, e)
tells-step t w k (step.BgpDown a b) order full old new go h =
    session-step t w.config w.peerings a.0 b.0 false [] (apart order) old (inl refl, inl refl) (λ x y d e. refl) h
  where
    apart : a.0 < b.0 → a.0 ≢ b.0
    apart l e = omega (arith, l, e)
tells-step t w k (step.HearBgp a b) order full old new go h =
    let parts = or_both _ _ full in
    let alive : peers_live w.config a.0 b.0 ≡ true = not_false _ parts.0 in
    let back : peers_live w.config b.0 a.0 ≡ true = sym (live_sym w.config a.0 b.0 order) ∙ alive in
    let message : Telling = slice_index_or (w.peerings.told a.0 b.0) (w.peerings.heard b.0 a.0) Open in
    let turn : IsPeerNth (w.peerings.heard b.0 a.0) message = peer-nth (w.peerings.heard a.0 b.0) (w.peerings.told a.0 b.0) (w.peerings.heard b.0 a.0)
    ((go a.0 b.0 order).talk alive) (above _ _ parts.1) in
    subst (λ st. AllTell t w.config (with_told (bgp_counted w.peerings (step.HearBgp a b))
    (told_to b.0 a.0 (reply st message (exports_of t w.config b.0))
    ++ flat_map (route_news t w.config w.peerings w.config (bgp_counted w.peerings (step.HearBgp a b))) (edges t))))
    (sym (state_alive w.config w.peerings b.0 a.0 back))
    (hear-step t w.config w.peerings a.0 b.0 message order back turn old h)
tells-step t w k (step.AddRoute s prefix) order full old new go h =
    config-step t w.config (config_after w.config (step.AddRoute s prefix)) w.peerings (config_after w.config (step.AddRoute s prefix)).statics old new new
    (λ z i. i) (λ z i. in_front w.config.statics _ z i) (λ a b. refl) h
tells-step t w k (step.DelRoute s prefix) order full old new go h =
    config-step t w.config (config_after w.config (step.DelRoute s prefix)) w.peerings w.config.statics old new old
    (λ z i. (in_filter _ w.config.statics z i).0) (λ z i. i) (λ a b. refl) h
tells-step t w k (step.Import v on x) order full old new go h =
    config-step t w.config (config_after w.config (step.Import v on x)) w.peerings w.config.statics old new old (λ z i. i) (λ z i. i) (λ a b. refl) h
tells-step t w k (step.Export v on x) order full old new go h =
    config-step t w.config (config_after w.config (step.Export v on x)) w.peerings w.config.statics old new old (λ z i. i) (λ z i. i) (λ a b. refl) h
tells-step t w k (step.Attach s) order full old new go h =
    config-step t w.config (config_after w.config (step.Attach s)) w.peerings w.config.statics old new old (λ z i. i) (λ z i. i) (λ a b. refl) h
tells-step t w k (step.Detach s) order full old new go h =
    config-step t w.config (config_after w.config (step.Detach s)) w.peerings w.config.statics old new old (λ z i. i) (λ z i. i) (λ a b. refl) h
tells-step t w k _ order full old new go h = λ a b d i j. let g = h a b d i j in record { on = g.on; off = g.off }
