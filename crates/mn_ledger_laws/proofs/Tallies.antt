-- What is in flight, counted item by item, is what the ledger counts by nodes, links and edges.
use Rattle.std.proofs.Common.{ℕ, ◌≡◌, ◌≢◌, ◌+◌, ◌*◌, ◌<◌, inl, inr, Bool, true, false, cond, List, [], ◌∷◌, map, filter, length, refl, arith, sym, ◌∙◌, ap}
use Rattle.std.proofs.Common.{subst}
use Rattle.std.specs.Prelude.{◌==◌, ◌&&◌, ◌||◌, not, nat_lt}
use Rattle.std.specs.List.{list_all, range_with_len}
use Rattle.std.proofs.lemmas.Bool.{and_parts, ltb-true}
use Rattle.std.proofs.lemmas.Bool.Decides.{eqb_tells}
use Rattle.mn_base.proofs.Bools.{no, or_ways, same_test, other_test, same_numbers}
use Rattle.mn_wiring.specs.declared.links.Dir.{Dir}
use Rattle.mn_wiring.specs.declared.links.Dir.TheVariants.{Forth, Back}
use Rattle.mn_wiring.specs.Wiring.{nodes_of, links_of, link, is_end}
use Rattle.mn_base.specs.Numbers.{has_rd_form}
use Rattle.mn_topo.specs.declared.vrfs.VrfDef.{VrfDef}
use Rattle.mn_topo.specs.Lawful.{IsLawful, is_vrf_of}
use Rattle.mn_topo.specs.Network.{Network, wiring_of}
use Rattle.mn_topo.specs.VrfTable.{is_edge}
use Rattle.mn_ledger.specs.Packets.{channel}
use Rattle.mn_ledger.specs.Places.{edges}
use Rattle.mn_ledger.specs.Items.{Channel, Notices, Messages, Routes, Frames, Load, Notice, Says, Tells, Carries, Item, same_channel, items_on, loads_on}
use Rattle.mn_ledger.proofs.Members.{In}
use Rattle.mn_ledger_laws.specs.Flight.{IsOfChannel, is_frame, frame_length}
use Rattle.mn_ledger_laws.proofs.Sums.{total, where_so, total-same, total-add, total-none, times, total-at, once_there, times-filter, where-both}

-- 1. Items on channels

-- the sum over those on a channel
abbrev pub weigh : (Item → ℕ) → List Item → Channel → ℕ
weigh w [] on = 0
weigh w (x ∷ xs) on = where_so (same_channel on x.on) (w x) + weigh w xs on

abbrev pub by_notices : Network → (Channel → ℕ) → ℕ
by_notices t f = total (λ node. total (λ l. f (Notices l node)) (links_of (wiring_of t))) (nodes_of (wiring_of t))

abbrev pub by_messages : Network → (Channel → ℕ) → ℕ
by_messages t f = total (λ l. f (Messages l (link (wiring_of t) l).a.0) + f (Messages l (link (wiring_of t) l).b.0)) (links_of (wiring_of t))

abbrev pub by_routes : Network → (Channel → ℕ) → ℕ
by_routes t f = total (λ edge. total (λ peer. f (Routes peer edge)) (edges t)) (edges t)

abbrev pub by_frames : Network → (Channel → ℕ) → ℕ
by_frames t f = total (λ l. f (Frames l Forth) + f (Frames l Back)) (links_of (wiring_of t))

-- over all channels but those of frames
abbrev pub by_others : Network → (Channel → ℕ) → ℕ
by_others t f = by_notices t f + (by_messages t f + by_routes t f)

add-notices : (t : Network) (f g : Channel → ℕ) → by_notices t (λ c. f c + g c) ≡ by_notices t f + by_notices t g
add-notices t f g =
    total-same _ _ (nodes_of (wiring_of t)) (λ node i. total-add (λ l. f (Notices l node)) (λ l. g (Notices l node)) (links_of (wiring_of t)))
    ∙ total-add (λ node. total (λ l. f (Notices l node)) (links_of (wiring_of t))) (λ node. total (λ l. g (Notices l node)) (links_of (wiring_of t)))
    (nodes_of (wiring_of t))

add-messages : (t : Network) (f g : Channel → ℕ) → by_messages t (λ c. f c + g c) ≡ by_messages t f + by_messages t g
add-messages t f g =
    total-same _ _ (links_of (wiring_of t))
    (λ l i. turn (f (Messages l (link (wiring_of t) l).a.0)) (g (Messages l (link (wiring_of t) l).a.0))
    (f (Messages l (link (wiring_of t) l).b.0)) (g (Messages l (link (wiring_of t) l).b.0)))
    ∙ total-add (λ l. f (Messages l (link (wiring_of t) l).a.0) + f (Messages l (link (wiring_of t) l).b.0))
    (λ l. g (Messages l (link (wiring_of t) l).a.0) + g (Messages l (link (wiring_of t) l).b.0)) (links_of (wiring_of t))
  where
    turn : (a b c d : ℕ) → (a + b) + (c + d) ≡ (a + c) + (b + d)
    turn a b c d = omega arith

add-routes : (t : Network) (f g : Channel → ℕ) → by_routes t (λ c. f c + g c) ≡ by_routes t f + by_routes t g
add-routes t f g =
    total-same _ _ (edges t) (λ edge i. total-add (λ peer. f (Routes peer edge)) (λ peer. g (Routes peer edge)) (edges t))
    ∙ total-add (λ edge. total (λ peer. f (Routes peer edge)) (edges t)) (λ edge. total (λ peer. g (Routes peer edge)) (edges t)) (edges t)

add-frames : (t : Network) (f g : Channel → ℕ) → by_frames t (λ c. f c + g c) ≡ by_frames t f + by_frames t g
add-frames t f g =
    total-same _ _ (links_of (wiring_of t)) (λ l i. turn (f (Frames l Forth)) (g (Frames l Forth)) (f (Frames l Back)) (g (Frames l Back)))
    ∙ total-add (λ l. f (Frames l Forth) + f (Frames l Back)) (λ l. g (Frames l Forth) + g (Frames l Back)) (links_of (wiring_of t))
  where
    turn : (a b c d : ℕ) → (a + b) + (c + d) ≡ (a + c) + (b + d)
    turn a b c d = omega arith

-- 2. One item is on one channel

-- where an item of this weight is
abbrev at : Channel → ℕ → Channel → ℕ
at on n c = where_so (same_channel c on) n

no-notices : (t : Network) (f : Channel → ℕ) → ((l node : ℕ) → f (Notices l node) ≡ 0) → by_notices t f ≡ 0
no-notices t f h =
    total-same _ (λ _. 0) (nodes_of (wiring_of t))
    (λ node i. total-same _ (λ _. 0) (links_of (wiring_of t)) (λ l j. h l node) ∙ total-none (links_of (wiring_of t)))
    ∙ total-none (nodes_of (wiring_of t))

no-messages : (t : Network) (f : Channel → ℕ) → ((l node : ℕ) → f (Messages l node) ≡ 0) → by_messages t f ≡ 0
no-messages t f h = total-same _ (λ _. 0) (links_of (wiring_of t)) (λ l i. two (h l (link (wiring_of t) l).a.0) (h l (link (wiring_of t) l).b.0))
    ∙ total-none (links_of (wiring_of t))
  where
    two : {a b : ℕ} → a ≡ 0 → b ≡ 0 → a + b ≡ 0
    two p q = omega (arith, p, q)

no-routes : (t : Network) (f : Channel → ℕ) → ((edge peer : ℕ) → f (Routes edge peer) ≡ 0) → by_routes t f ≡ 0
no-routes t f h =
    total-same _ (λ _. 0) (edges t) (λ edge i. total-same _ (λ _. 0) (edges t) (λ peer j. h peer edge) ∙ total-none (edges t)) ∙ total-none (edges t)

no-frames : (t : Network) (f : Channel → ℕ) → ((l : ℕ) (d : Dir) → f (Frames l d) ≡ 0) → by_frames t f ≡ 0
no-frames t f h = total-same _ (λ _. 0) (links_of (wiring_of t)) (λ l i. two (h l Forth) (h l Back)) ∙ total-none (links_of (wiring_of t))
  where
    two : {a b : ℕ} → a ≡ 0 → b ≡ 0 → a + b ≡ 0
    two p q = omega (arith, p, q)

-- the number once
once : (m n : ℕ) → m ≡ 1 → m * n ≡ n
once m n h = ap (λ k. k * n) h ∙ omega arith

one-notice : (t : Network) (l node n : ℕ) → l < length t.links → node < length t.loopbacks → by_notices t (at (Notices l node) n) ≡ n
one-notice t l node n below there =
    total-same _ (λ m. where_so (node == m) n) (nodes_of (wiring_of t)) (λ m i.
    total-same _ (λ k. where_so (l == k) (where_so (node == m) n)) (links_of (wiring_of t)) (λ k j. where-both (l == k) (node == m) n)
    ∙ total-at l (λ _. where_so (node == m) n) (links_of (wiring_of t)) ∙ once _ _ (once_there l 0 (length t.links) (omega arith) (omega (arith, below))))
    ∙ total-at node (λ _. n) (nodes_of (wiring_of t)) ∙ once _ _ (once_there node 0 (length t.loopbacks) (omega arith) (omega (arith, there)))

-- an end of a link is one of two
one-end : (a b e n : ℕ) → a ≢ b → ((a == e) || (b == e)) ≡ true → where_so (e == a) n + where_so (e == b) n ≡ n
one-end a b e n apart h = elim (eqb_tells e a) [
  | inl p ↦ omega (arith, ap (λ x. where_so x n) p.0, ap (λ x. where_so x n) (other_test e b (λ q. apart (sym p.1 ∙ q))))
  | inr p ↦ elim (or_ways (a == e) (b == e) h) [
    | inl q ↦ absurd (p.1 (sym (same_numbers a e q)))
    | inr q ↦ omega (arith, ap (λ x. where_so x n) p.0, ap (λ x. where_so x n) (ap (λ m. m == b) (sym (same_numbers b e q)) ∙ same_test b))
  ]
]

one-message : (t : Network) (l node n : ℕ) → IsLawful t → l < length t.links → is_end (wiring_of t) l node ≡ true → by_messages t (at (Messages l node) n) ≡ n
one-message t l node n lawful below at_end =
    total-same _ (λ k. where_so (l == k) (where_so (node == (link (wiring_of t) k).a.0) n + where_so (node == (link (wiring_of t) k).b.0) n))
    (links_of (wiring_of t))
    (λ k i. both (l == k) (node == (link (wiring_of t) k).a.0) (node == (link (wiring_of t) k).b.0))
    ∙ total-at l (λ k. where_so (node == (link (wiring_of t) k).a.0) n + where_so (node == (link (wiring_of t) k).b.0) n) (links_of (wiring_of t))
    ∙ once _ _ (once_there l 0 (length t.links) (omega arith) (omega (arith, below)))
    ∙ one-end (link (wiring_of t) l).a.0 (link (wiring_of t) l).b.0 node n (lawful.ends_differ l below) at_end
  where
    both : (a b c : Bool) → where_so (a && b) n + where_so (a && c) n ≡ where_so a (where_so b n + where_so c n)
    both true b c = refl
    both false b c = refl

edge-once : (t : Network) (edge : ℕ) → is_edge t.vrfs edge ≡ true → edge < length t.loopbacks → times edge (edges t) ≡ 1
edge-once t edge h below = times-filter (λ node. is_edge t.vrfs node) edge (range_with_len 0 (length t.loopbacks)) h
    ∙ once_there edge 0 (length t.loopbacks) (omega arith) (omega (arith, below))

one-route : (t : Network) (edge peer n : ℕ) → times edge (edges t) ≡ 1 → times peer (edges t) ≡ 1 → by_routes t (at (Routes edge peer) n) ≡ n
one-route t edge peer n one other =
    total-same _ (λ m. where_so (peer == m) n) (edges t) (λ m i.
    total-same _ (λ k. where_so (edge == k) (where_so (peer == m) n)) (edges t) (λ k j. where-both (edge == k) (peer == m) n)
    ∙ total-at edge (λ _. where_so (peer == m) n) (edges t) ∙ once _ _ one)
    ∙ total-at peer (λ _. n) (edges t) ∙ once _ _ other

same-way : (l k : ℕ) (d e : Dir)
    → (channel l d == channel k e) ≡
    ((l == k) && (elim d as
    (λ _. Bool) [ Forth ↦ elim e as (λ _. Bool) [ Forth ↦ true | Back ↦ false ] | Back ↦ elim e as (λ _. Bool) [ Forth ↦ false | Back ↦ true ] ]))
same-way l k Forth Forth = alike l k
  where
    alike : (l k : ℕ) → (2 * l == 2 * k) ≡ ((l == k) && true)
    alike l k = elim (eqb_tells l k) [
      | inl q ↦ ap (λ m. 2 * m == 2 * k) q.1 ∙ same_test (2 * k) ∙ sym (ap (λ b. b && true) q.0)
      | inr q ↦ other_test (2 * l) (2 * k) (λ e. q.1 (half l k e)) ∙ sym (ap (λ b. b && true) q.0)
    ]
      where
        half : (l k : ℕ) → 2 * l ≡ 2 * k → l ≡ k
        half l k e = omega (arith, e)
same-way l k Back Back = alike l k
  where
    alike : (l k : ℕ) → (2 * l + 1 == 2 * k + 1) ≡ ((l == k) && true)
    alike l k = elim (eqb_tells l k) [
      | inl q ↦ ap (λ m. 2 * m + 1 == 2 * k + 1) q.1 ∙ same_test (2 * k + 1) ∙ sym (ap (λ b. b && true) q.0)
      | inr q ↦ other_test (2 * l + 1) (2 * k + 1) (λ e. q.1 (half l k e)) ∙ sym (ap (λ b. b && true) q.0)
    ]
      where
        half : (l k : ℕ) → 2 * l + 1 ≡ 2 * k + 1 → l ≡ k
        half l k e = omega (arith, e)
same-way l k Forth Back = other_test (2 * l) (2 * k + 1) (λ e. odd l k e) ∙ sym (off (l == k))
  where
    odd : (l k : ℕ) → 2 * l ≡ 2 * k + 1 → ⊥
    odd l k e = omega (arith, e)

    off : (b : Bool) → (b && false) ≡ false
    off true = refl
    off false = refl
same-way l k Back Forth = other_test (2 * l + 1) (2 * k) (λ e. odd l k e) ∙ sym (off (l == k))
  where
    odd : (l k : ℕ) → 2 * l + 1 ≡ 2 * k → ⊥
    odd l k e = omega (arith, e)

    off : (b : Bool) → (b && false) ≡ false
    off true = refl
    off false = refl

one-frame : (t : Network) (l : ℕ) (d : Dir) (n : ℕ) → l < length t.links → by_frames t (at (Frames l d) n) ≡ n
one-frame t l d n below =
    total-same _ (λ k. where_so (l == k) n) (links_of (wiring_of t)) (λ k i. either d k) ∙ total-at l (λ _. n) (links_of (wiring_of t))
    ∙ once _ _ (once_there l 0 (length t.links) (omega arith) (omega (arith, below)))
  where
    first : (b : Bool) → where_so (b && true) n + where_so (b && false) n ≡ where_so b n
    first true = omega arith
    first false = omega arith

    last : (b : Bool) → where_so (b && false) n + where_so (b && true) n ≡ where_so b n
    last true = omega arith
    last false = omega arith

    either : (d : Dir) (k : ℕ) → where_so (channel l d == channel k Forth) n + where_so (channel l d == channel k Back) n ≡ where_so (l == k) n
    either Forth k = ap (λ b. where_so b n + where_so (channel l Forth == channel k Back) n) (same-way l k Forth Forth)
        ∙ ap (λ b. where_so ((l == k) && true) n + where_so b n) (same-way l k Forth Back) ∙ first (l == k)
    either Back k = ap (λ b. where_so b n + where_so (channel l Back == channel k Back) n) (same-way l k Back Forth)
        ∙ ap (λ b. where_so ((l == k) && false) n + where_so b n) (same-way l k Back Back) ∙ last (l == k)

-- 3. All items

edge_below : (t : Network) (edge : ℕ) → IsLawful t → is_edge t.vrfs edge ≡ true → edge < length t.loopbacks
edge_below t edge lawful h = below t.vrfs lawful.vrfs.formed h
  where
    below : (vs : List VrfDef) → list_all (is_vrf_of (length t.loopbacks)) vs ≡ true → is_edge vs edge ≡ true → edge < length t.loopbacks
    below [] all h = absurd (no h)
    below (v ∷ vs) all h =
        let parts = and_parts (is_vrf_of (length t.loopbacks) v) (list_all (is_vrf_of (length t.loopbacks)) vs) all in
        elim (or_ways (edge == v.node.0) (is_edge vs edge) h) [
          | inl q ↦ subst (λ n. n < length t.loopbacks) (sym (same_numbers edge v.node.0 q))
              (ltb-true _ _ (and_parts (nat_lt v.node.0 (length t.loopbacks)) (has_rd_form v.rd.0) parts.0).0)
          | inr q ↦ below vs parts.1 q
        ]

three : {a b c : ℕ} (n : ℕ) → a ≡ n → b ≡ 0 → c ≡ 0 → a + (b + c) ≡ n
three n p q r = omega (arith, p, q, r)

second : {a b c : ℕ} (n : ℕ) → a ≡ 0 → b ≡ n → c ≡ 0 → a + (b + c) ≡ n
second n p q r = omega (arith, p, q, r)

third : {a b c : ℕ} (n : ℕ) → a ≡ 0 → b ≡ 0 → c ≡ n → a + (b + c) ≡ n
third n p q r = omega (arith, p, q, r)

other_one : (t : Network) (on : Channel) (load : Load) (n : ℕ) → IsLawful t → IsOfChannel t on load → by_others t (at on n) ≡ where_so (not (is_frame on)) n
other_one t (Notices l node) Notice n lawful h = three n (one-notice t l node n h.0 h.1) (no-messages t (at (Notices l node) n) (λ _ _. refl))
    (no-routes t (at (Notices l node) n) (λ _ _. refl))
other_one t (Messages l node) (Says m) n lawful h = second n (no-notices t (at (Messages l node) n) (λ _ _. refl))
    (one-message t l node n lawful h.0 h.1) (no-routes t (at (Messages l node) n) (λ _ _. refl))
other_one t (Routes edge peer) (Tells m) n lawful h =
    third n (no-notices t (at (Routes edge peer) n) (λ _ _. refl)) (no-messages t (at (Routes edge peer) n) (λ _ _. refl))
    (one-route t edge peer n (edge-once t edge h.0 (edge_below t edge lawful h.0)) (edge-once t peer h.1 (edge_below t peer lawful h.1)))
other_one t (Frames l d) load n lawful h = three 0 (no-notices t (at (Frames l d) n) (λ _ _. refl)) (no-messages t (at (Frames l d) n) (λ _ _. refl))
    (no-routes t (at (Frames l d) n) (λ _ _. refl))
other_one t (Notices l node) _ n lawful h = absurd h
other_one t (Messages l node) _ n lawful h = absurd h
other_one t (Routes edge peer) _ n lawful h = absurd h

frame_one : (t : Network) (on : Channel) (load : Load) (n : ℕ) → IsOfChannel t on load → by_frames t (at on n) ≡ where_so (is_frame on) n
frame_one t (Frames l d) (Carries token) n h = one-frame t l d n h
frame_one t (Notices l node) load n h = no-frames t (at (Notices l node) n) (λ _ _. refl)
frame_one t (Messages l node) load n h = no-frames t (at (Messages l node) n) (λ _ _. refl)
frame_one t (Routes edge peer) load n h = no-frames t (at (Routes edge peer) n) (λ _ _. refl)
frame_one t (Frames l d) _ n h = absurd h

abbrev pub AllOn : Network → List Item → Type 0
AllOn t xs = (x : Item) → In xs x → IsOfChannel t x.on x.load

add-others : (t : Network) (f g : Channel → ℕ) → by_others t (λ c. f c + g c) ≡ by_others t f + by_others t g
add-others t f g = omega (arith, add-notices t f g, add-messages t f g, add-routes t f g)

-- by items and by channels
pub others_weighed : (t : Network) (w : Item → ℕ) (xs : List Item) → IsLawful t → AllOn t xs
    → total (λ x. where_so (not (is_frame x.on)) (w x)) xs ≡ by_others t (weigh w xs)
others_weighed t w [] lawful h = sym
    (three 0 (no-notices t (weigh w []) (λ _ _. refl)) (no-messages t (weigh w []) (λ _ _. refl)) (no-routes t (weigh w []) (λ _ _. refl)))
others_weighed t w (x ∷ xs) lawful h =
    ap (λ n. n + total (λ y. where_so (not (is_frame y.on)) (w y)) xs) (sym (other_one t x.on x.load (w x) lawful (h x (inl refl))))
    ∙ ap (λ n. by_others t (at x.on (w x)) + n) (others_weighed t w xs lawful (λ y i. h y (inr i))) ∙ sym (add-others t (at x.on (w x)) (weigh w xs))

pub frames_weighed : (t : Network) (w : Item → ℕ) (xs : List Item) → AllOn t xs → total (λ x. where_so (is_frame x.on) (w x)) xs ≡ by_frames t (weigh w xs)
frames_weighed t w [] h = sym (no-frames t (weigh w []) (λ _ _. refl))
frames_weighed t w (x ∷ xs) h =
    ap (λ n. n + total (λ y. where_so (is_frame y.on) (w y)) xs) (sym (frame_one t x.on x.load (w x) (h x (inl refl))))
    ∙ ap (λ n. by_frames t (at x.on (w x)) + n) (frames_weighed t w xs (λ y i. h y (inr i))) ∙ sym (add-frames t (at x.on (w x)) (weigh w xs))

-- 4. What a channel's items weigh

pub as_many_on : (xs : List Item) (on : Channel) → weigh (λ _. 1) xs on ≡ length (items_on on xs)
as_many_on [] on = refl
as_many_on (x ∷ xs) on = by_test (same_channel on x.on) (as_many_on xs on)
  where
    by_test : (b : Bool) → weigh (λ _. 1) xs on ≡ length (items_on on xs)
        → where_so b 1 + weigh (λ _. 1) xs on ≡ length (cond b (x ∷ items_on on xs) (items_on on xs))
    by_test true h = omega (arith, h)
    by_test false h = omega (arith, h)

pub loads_weigh : (f : Load → ℕ) (xs : List Item) (on : Channel) → weigh (λ x. f x.load) xs on ≡ total f (loads_on on xs)
loads_weigh f [] on = refl
loads_weigh f (x ∷ xs) on = by_test (same_channel on x.on) (loads_weigh f xs on)
  where
    by_test : (b : Bool) → weigh (λ y. f y.load) xs on ≡ total f (loads_on on xs)
        → where_so b (f x.load) + weigh (λ y. f y.load) xs on ≡ total f (map (λ (y : Item). y.load) (cond b (x ∷ items_on on xs) (items_on on xs)))
    by_test true h = omega (arith, h)
    by_test false h = omega (arith, h)

pub filter_counts : (p : Item → Bool) (xs : List Item) → length (filter p xs) ≡ total (λ x. where_so (p x) 1) xs
filter_counts p [] = refl
filter_counts p (x ∷ xs) = by_test (p x) (filter_counts p xs)
  where
    by_test : (b : Bool) → length (filter p xs) ≡ total (λ y. where_so (p y) 1) xs
        → length (cond b (x ∷ filter p xs) (filter p xs)) ≡ where_so b 1 + total (λ y. where_so (p y) 1) xs
    by_test true h = omega (arith, h)
    by_test false h = omega (arith, h)

-- what is no frame has no length
pub lengths_of_frames : (t : Network) (xs : List Item) → AllOn t xs
    → total (λ x. frame_length x.load) xs ≡ total (λ x. where_so (is_frame x.on) (frame_length x.load)) xs
lengths_of_frames t xs h = total-same _ _ xs (λ x i. one x.on x.load (h x i))
  where
    one : (on : Channel) (load : Load) → IsOfChannel t on load → frame_length load ≡ where_so (is_frame on) (frame_length load)
    one (Notices l node) Notice c = refl
    one (Messages l node) (Says m) c = refl
    one (Routes edge peer) (Tells m) c = refl
    one (Frames l d) (Carries token) c = refl
    one (Notices l node) _ c = absurd c
    one (Messages l node) _ c = absurd c
    one (Routes edge peer) _ c = absurd c
    one (Frames l d) _ c = absurd c
