-- What leaves the flights of notices and messages in a step, by keys.
use Rattle.std.proofs.Common.{ℕ, zero, suc, ◌≡◌, ◌≢◌, ◌+◌, ◌*◌, ◌<◌, Bool, true, false, not, List, [], ◌∷◌, length, filter, refl, arith, sym, ap, ◌∙◌}
use Rattle.std.proofs.Common.{subst, None, inl, inr, eqb-true}
use Rattle.std.specs.Prelude.{◌==◌, ◌&&◌, ◌||◌, ⊤, nat_lt, if◌then◌else◌}
use Rattle.std.proofs.lemmas.Bool.Decides.{nat_tests, eqb_tells}
use Rattle.mn_wiring.specs.Wiring.{link, sender, is_end}
use Rattle.mn_wiring.specs.declared.links.Dir.{Dir}
use Rattle.mn_wiring.specs.declared.links.Dir.TheVariants.{Forth, Back}
use Rattle.mn_topo.specs.Network.{Network, wiring_of}
use Rattle.mn_topo.specs.Lawful.{IsLawful, is_vrf_of}
use Rattle.mn_topo.specs.VrfTable.{is_edge}
use Rattle.mn_topo.specs.declared.vrfs.VrfDef.{VrfDef}
use Rattle.mn_base.specs.Numbers.{has_rd_form}
use Rattle.std.specs.List.{list_all}
use Rattle.mn_topo.specs.Steps.{fits}
use Rattle.mn_topo.specs.declared.steps.Step.{Step}
use Rattle.mn_topo.specs.declared.steps.Step.TheVariants.{LinkUp, LinkDown, Learn, LdpAdmin, HearLdp, BgpUp, BgpDown, HearBgp, Carry, Lose}
use Rattle.mn_ledger.specs.Packets.{channel}
use Rattle.mn_ledger.specs.Items.{Channel, Notices, Messages, Routes, Frames, Item, same_channel, left_in_flight, is_session_of, is_over, is_between}
use Rattle.mn_ledger.proofs.Turning.{end_is}
use Rattle.mn_timetable_laws.specs.Keys.{Numbering, of_notices, of_messages, of_routes, keys_on, is_number, Names, Passes, Agrees, but_two, notices_leave}
use Rattle.mn_timetable_laws.specs.Keys.{messages_leave, routes_leave, IsThere, AreThere}
use Rattle.mn_timetable_laws.proofs.Keys.{keys_taken, keys_untaken, keys_left, Strange}
use Rattle.mn_timetable_laws.proofs.FrameKeys.{by_all, by_both}
use Rattle.mn_base.proofs.Bools.{no as clash}

pub less-is : (a b : ℕ) → nat_lt a b ≡ true → a < b
less-is a b h = grind (arith, nat_tests, h)

pub and-both : (x y : Bool) → (x && y) ≡ true → (x ≡ true) × (y ≡ true)
and-both true y e = (refl, e)
and-both false y e = absurd (clash e)

-- an edge is a node
at-node : (k : ℕ) (vs : List VrfDef) (e : ℕ) → list_all (is_vrf_of k) vs ≡ true → is_edge vs e ≡ true → e < k
at-node k [] e all h = absurd (clash h)
at-node k (x ∷ vs) e all h = elim (eqb_tells e x.node.0) [
  | inl q ↦ subst (λ n. n < k) (sym q.1)
      (less-is x.node.0 k (and-both (nat_lt x.node.0 k) (has_rd_form x.rd.0) (and-both (is_vrf_of k x) (list_all (is_vrf_of k) vs) all).0).0)
  | inr q ↦ at-node k vs e (and-both (is_vrf_of k x) (list_all (is_vrf_of k) vs) all).1 (sym (ap (λ b. b || is_edge vs e) q.0) ∙ h)
]

pub edge-below : (t : Network) → IsLawful t → (e : ℕ) → is_edge t.vrfs e ≡ true → e < length t.loopbacks
edge-below t lawful e h = at-node (length t.loopbacks) t.vrfs e lawful.vrfs.formed h

-- 1. A number of two parts

over : (n l m j : ℕ) → m < n → m ≡ suc l * n + j → ⊥
over n l m j h e = omega (arith, h, e)

pub pair_one : (n k l m j : ℕ) → m < n → j < n → k * n + m ≡ l * n + j → (k ≡ l) × (m ≡ j)
pair_one n zero zero m j h g e = (refl, omega (arith, e))
pair_one n zero (suc l) m j h g e = absurd (omega (arith, h, e))
pair_one n (suc k) zero m j h g e = absurd (omega (arith, g, e))
pair_one n (suc k) (suc l) m j h g e = let less = pair_one n k l m j h g (omega (arith, e)) in (ap suc less.0, less.1)

pub same_self : (n : ℕ) → (n == n) ≡ true
same_self n = grind (arith, nat_tests)

unlike : (a b : ℕ) → a ≢ b → (a == b) ≡ false
unlike a b h = elim (eqb_tells a b) [ inl q ↦ absurd (h q.1) | inr q ↦ q.0 ]

-- two tests are one test of the number
pub both_tests : (n k l m j : ℕ) → m < n → j < n → ((k == l) && (m == j)) ≡ (k * n + m == l * n + j)
both_tests n k l m j h g = elim (eqb_tells (k * n + m) (l * n + j)) [
  | inl q ↦ (let e = pair_one n k l m j h g q.1 in
      ap (λ x. (x == l) && (m == j)) e.0 ∙ ap (λ x. (l == l) && (x == j)) e.1 ∙ ap (λ b. b && (j == j)) (same_self l) ∙ same_self j ∙ sym q.0)
  | inr q ↦ apart (k == l) (m == j) refl refl q.1 ∙ sym q.0
]
  where
    apart : (a b : Bool) → (k == l) ≡ a → (m == j) ≡ b → k * n + m ≢ l * n + j → (a && b) ≡ false
    apart false b e f h = refl
    apart true false e f h = refl
    apart true true e f h = absurd (h (ap (λ x. x * n + m) (eqb-true _ _ e) ∙ ap (λ x. l * n + x) (eqb-true _ _ f)))

-- 2. Of any numbering

strange : (t : Network) (number : Numbering) (on : Channel) → ((other : Channel) → same_channel on other ≡ true → number other ≡ None) →
    (xs : List Item) → Strange number on xs
strange t number on h [] = tt
strange t number on h (x ∷ xs) = (h x.on, strange t number on h xs)

pub names : (t : Network) (number : Numbering) (on : Channel) (c : ℕ) →
    ((other : Channel) → IsThere t other → same_channel on other ≡ is_number c (number other)) → (xs : List Item) → AreThere t xs → Names number on c xs
names t number on c h [] there = tt
names t number on c h (x ∷ xs) there = (h x.on there.0, names t number on c h xs there.1)

agrees : (t : Network) (number : Numbering) (goes : Channel → Bool) (test : ℕ → Bool) →
    ((on : Channel) → IsThere t on → Passes test (goes on) (number on)) → (xs : List Item) → AreThere t xs → Agrees number goes test xs
agrees t number goes test h [] there = tt
agrees t number goes test h (x ∷ xs) there = (h x.on there.0, agrees t number goes test h xs there.1)

all_stay : (t : Network) (number : Numbering) (goes : Channel → Bool) (xs : List Item) → AreThere t xs →
    ((on : Channel) → IsThere t on → Passes (λ n. true) (goes on) (number on)) →
    keys_on number (filter (λ item. goes item.on) xs) ≡ keys_on number xs
all_stay t number goes xs there h = keys_left number goes (λ n. true) xs (agrees t number goes (λ n. true) h xs there) ∙ by_all (keys_on number xs)

two_go : (t : Network) (number : Numbering) (goes : Channel → Bool) (c d : ℕ) (xs : List Item) → AreThere t xs →
    ((on : Channel) → IsThere t on → Passes (λ n. not (n == c) && not (n == d)) (goes on) (number on)) →
    keys_on number (filter (λ item. goes item.on) xs) ≡ but_two c d (keys_on number xs)
two_go t number goes c d xs there h =
    keys_left number goes (λ n. not (n == c) && not (n == d)) xs (agrees t number goes _ h xs there)
    ∙ sym (by_both (λ n. not (n == c)) (λ n. not (n == d)) (keys_on number xs))

-- 3. Notices

notice_none : (t : Network) (n : ℕ) (on : Channel) → ((k m : ℕ) → same_channel on (Notices k m) ≡ false) → (xs : List Item) → Strange (of_notices n) on xs
notice_none t n on h xs = strange t (of_notices n) on one xs
  where
    one : (other : Channel) → same_channel on other ≡ true → of_notices n other ≡ None
    one (Notices k m) g = absurd (clash (sym (h k m) ∙ g))
    one (Messages k m) g = refl
    one (Routes k m) g = refl
    one (Frames k e) g = refl

notice_passes : (t : Network) (n : ℕ) (goes : Channel → Bool) → ((k m : ℕ) → goes (Notices k m) ≡ true) →
    (on : Channel) → IsThere t on → Passes (λ c. true) (goes on) (of_notices n on)
notice_passes t n goes h (Notices k m) g = h k m
notice_passes t n goes h (Messages k m) g = tt
notice_passes t n goes h (Routes k m) g = tt
notice_passes t n goes h (Frames k e) g = tt

pub notices_left : (t : Network) (s : Step) (xs : List Item) → fits t s ≡ true → AreThere t xs →
    keys_on (of_notices (length t.loopbacks)) (left_in_flight t s xs) ≡ notices_leave (length t.loopbacks) s (keys_on (of_notices (length t.loopbacks)) xs)
notices_left t (Learn node l) xs fit there =
    keys_taken (of_notices (length t.loopbacks)) (Notices l.0 node.0) (l.0 * length t.loopbacks + node.0) 0 xs
    (names t (of_notices (length t.loopbacks)) (Notices l.0 node.0) _ one xs there)
  where
    within : node.0 < length t.loopbacks
    within = less-is node.0 (length t.loopbacks) (and-both (nat_lt node.0 (length t.loopbacks)) (nat_lt l.0 (length t.links)) fit).0

    one : (other : Channel) → IsThere t other →
        same_channel (Notices l.0 node.0) other ≡ is_number (l.0 * length t.loopbacks + node.0) (of_notices (length t.loopbacks) other)
    one (Notices k m) g = both_tests (length t.loopbacks) k l.0 m node.0 g within
    one (Messages k m) g = refl
    one (Routes k m) g = refl
    one (Frames k e) g = refl
notices_left t (HearLdp l d) xs fit there = let on : Channel = Messages l.0 (sender (wiring_of t) l.0 d) in
    keys_untaken (of_notices (length t.loopbacks)) on 0 xs (notice_none t (length t.loopbacks) on (λ k m. refl) xs)
notices_left t (HearBgp a b) xs fit there = let on : Channel = Routes a.0 b.0 in
    keys_untaken (of_notices (length t.loopbacks)) on 0 xs (notice_none t (length t.loopbacks) on (λ k m. refl) xs)
notices_left t (Carry l d p) xs fit there = let on : Channel = Frames l.0 d in
    keys_untaken (of_notices (length t.loopbacks)) on p xs (notice_none t (length t.loopbacks) on (λ k m. refl) xs)
notices_left t (Lose l d p) xs fit there = let on : Channel = Frames l.0 d in
    keys_untaken (of_notices (length t.loopbacks)) on p xs (notice_none t (length t.loopbacks) on (λ k m. refl) xs)
notices_left t (LinkUp l) xs fit there =
    all_stay t (of_notices (length t.loopbacks)) (λ on. not (is_session_of l.0 on)) xs there (notice_passes t (length t.loopbacks) _ (λ k m. refl))
notices_left t (LinkDown l) xs fit there =
    all_stay t (of_notices (length t.loopbacks)) (λ on. not (is_session_of l.0 on || is_over l.0 on)) xs there
    (notice_passes t (length t.loopbacks) _ (λ k m. refl))
notices_left t (LdpAdmin l o) xs fit there =
    all_stay t (of_notices (length t.loopbacks)) (λ on. not (is_session_of l.0 on)) xs there (notice_passes t (length t.loopbacks) _ (λ k m. refl))
notices_left t (BgpUp a b) xs fit there =
    all_stay t (of_notices (length t.loopbacks)) (λ on. not (is_between a.0 b.0 on)) xs there (notice_passes t (length t.loopbacks) _ (λ k m. refl))
notices_left t (BgpDown a b) xs fit there =
    all_stay t (of_notices (length t.loopbacks)) (λ on. not (is_between a.0 b.0 on)) xs there (notice_passes t (length t.loopbacks) _ (λ k m. refl))
notices_left t _ xs fit there = refl

-- 4. Messages of LDP

-- an end's place: the end a sends forth
abbrev of_end : Network → ℕ → ℕ → ℕ
of_end t k m = if m == (link (wiring_of t) k).a.0 then 2 * k else 2 * k + 1

sender_end : (t : Network) (l : ℕ) (d : Dir) → (link (wiring_of t) l).a.0 ≢ (link (wiring_of t) l).b.0 → of_end t l (sender (wiring_of t) l d) ≡ channel l d
sender_end t l Forth h = ap (λ b. if b then 2 * l else 2 * l + 1) (same_self (link (wiring_of t) l).a.0)
sender_end t l Back h = ap (λ b. if b then 2 * l else 2 * l + 1) (unlike _ _ (λ e. h (sym e)))

-- each end of a link sends in a direction
sends : (t : Network) (k m : ℕ) → is_end (wiring_of t) k m ≡ true → (d : Dir) × (sender (wiring_of t) k d ≡ m)
sends t k m h = elim (end_is (wiring_of t) k m h) [ inl e ↦ (Forth, e) | inr e ↦ (Back, e) ]

same_test : (l k : ℕ) (m n : ℕ) (c d : ℕ) → (k ≡ l → (m == n) ≡ (c == d)) → (k ≢ l → (c == d) ≡ false) → ((k == l) && (m == n)) ≡ (c == d)
same_test l k m n c d h g = elim (eqb_tells k l) [
  | inl q ↦ ap (λ b. b && (m == n)) q.0 ∙ h q.1
  | inr q ↦ ap (λ b. b && (m == n)) q.0 ∙ sym (g q.1)
]

apart_links : (k l : ℕ) (e d : Dir) → k ≢ l → (channel k e == channel l d) ≡ false
apart_links k l e d h = unlike _ _ (λ q. h (one k l e d q))
  where
    one : (k l : ℕ) (e d : Dir) → channel k e ≡ channel l d → k ≡ l
    one k l Forth Forth q = omega (arith, q)
    one k l Back Back q = omega (arith, q)
    one k l Forth Back q = absurd (omega (arith, q))
    one k l Back Forth q = absurd (omega (arith, q))

-- on one link senders are told apart as directions are
one_link : (t : Network) (l : ℕ) (e d : Dir) → (link (wiring_of t) l).a.0 ≢ (link (wiring_of t) l).b.0 →
    (sender (wiring_of t) l e == sender (wiring_of t) l d) ≡ (channel l e == channel l d)
one_link t l Forth Forth h = same_self _ ∙ sym (same_self (channel l Forth))
one_link t l Back Back h = same_self _ ∙ sym (same_self (channel l Back))
one_link t l Forth Back h = unlike _ _ h ∙ sym (unlike (channel l Forth) (channel l Back) (λ q. apart q))
  where
    apart : 2 * l ≡ 2 * l + 1 → ⊥
    apart q = omega (arith, q)
one_link t l Back Forth h = unlike _ _ (λ q. h (sym q)) ∙ sym (unlike (channel l Back) (channel l Forth) (λ q. apart q))
  where
    apart : 2 * l + 1 ≡ 2 * l → ⊥
    apart q = omega (arith, q)

message_named : (t : Network) → IsLawful t → (l : ℕ) (d : Dir) → l < length t.links → (k m : ℕ) → IsThere t (Messages k m) →
    ((k == l) && (m == sender (wiring_of t) l d)) ≡ (of_end t k m == channel l d)
message_named t lawful l d there k m g =
    let from = sends t k m g.1 in
    let number : of_end t k m ≡ channel k from.0 = ap (of_end t k) (sym from.1) ∙ sender_end t k from.0 (lawful.ends_differ k g.0) in
    ap (λ x. (k == l) && (x == sender (wiring_of t) l d)) (sym from.1)
    ∙ same_test l k (sender (wiring_of t) k from.0) (sender (wiring_of t) l d) (channel k from.0) (channel l d)
    (λ e. subst (λ x. (sender (wiring_of t) x from.0 == sender (wiring_of t) l d) ≡ (channel x from.0 == channel l d)) (sym e)
    (one_link t l from.0 d (lawful.ends_differ l there)))
    (λ e. apart_links k l from.0 d e)
    ∙ ap (λ x. x == channel l d) (sym number)

message_none : (t : Network) (on : Channel) → ((k m : ℕ) → same_channel on (Messages k m) ≡ false) → (xs : List Item) → Strange (of_messages t) on xs
message_none t on h xs = strange t (of_messages t) on one xs
  where
    one : (other : Channel) → same_channel on other ≡ true → of_messages t other ≡ None
    one (Messages k m) g = absurd (clash (sym (h k m) ∙ g))
    one (Notices k m) g = refl
    one (Routes k m) g = refl
    one (Frames k e) g = refl

-- a session's messages are those of the two directions
session_goes : (t : Network) → IsLawful t → (l : ℕ) (goes : Channel → Bool) → ((k m : ℕ) → goes (Messages k m) ≡ not (l == k)) →
    (on : Channel) → IsThere t on → Passes (λ n. not (n == channel l Forth) && not (n == channel l Back)) (goes on) (of_messages t on)
session_goes t lawful l goes h (Notices k m) g = tt
session_goes t lawful l goes h (Routes k m) g = tt
session_goes t lawful l goes h (Frames k e) g = tt
session_goes t lawful l goes h (Messages k m) g =
    let from = sends t k m g.1 in
    let number : of_end t k m ≡ channel k from.0 = ap (of_end t k) (sym from.1) ∙ sender_end t k from.0 (lawful.ends_differ k g.0) in
    h k m ∙ two k from.0 ∙ ap (λ n. not (n == channel l Forth) && not (n == channel l Back)) (sym number)
  where
    two : (k : ℕ) (e : Dir) → not (l == k) ≡ (not (channel k e == channel l Forth) && not (channel k e == channel l Back))
    two k Forth = grind (arith, nat_tests)
    two k Back = grind (arith, nat_tests)

message_stays : (t : Network) (goes : Channel → Bool) → ((k m : ℕ) → goes (Messages k m) ≡ true) →
    (on : Channel) → IsThere t on → Passes (λ c. true) (goes on) (of_messages t on)
message_stays t goes h (Messages k m) g = h k m
message_stays t goes h (Notices k m) g = tt
message_stays t goes h (Routes k m) g = tt
message_stays t goes h (Frames k e) g = tt

pub messages_left : (t : Network) (s : Step) (xs : List Item) → IsLawful t → fits t s ≡ true → AreThere t xs →
    keys_on (of_messages t) (left_in_flight t s xs) ≡ messages_leave s (keys_on (of_messages t) xs)
messages_left t (HearLdp l d) xs lawful fit there =
    keys_taken (of_messages t) (Messages l.0 (sender (wiring_of t) l.0 d)) (channel l.0 d) 0 xs
    (names t (of_messages t) (Messages l.0 (sender (wiring_of t) l.0 d)) (channel l.0 d) one xs there)
  where
    one : (other : Channel) → IsThere t other → same_channel (Messages l.0 (sender (wiring_of t) l.0 d)) other ≡ is_number (channel l.0 d) (of_messages t other)
    one (Messages k m) g = message_named t lawful l.0 d (less-is l.0 (length t.links) fit) k m g
    one (Notices k m) g = refl
    one (Routes k m) g = refl
    one (Frames k e) g = refl
messages_left t (Learn n l) xs lawful fit there = let on : Channel = Notices l.0 n.0 in
    keys_untaken (of_messages t) on 0 xs (message_none t on (λ k m. refl) xs)
messages_left t (HearBgp a b) xs lawful fit there = let on : Channel = Routes a.0 b.0 in
    keys_untaken (of_messages t) on 0 xs (message_none t on (λ k m. refl) xs)
messages_left t (Carry l d p) xs lawful fit there = let on : Channel = Frames l.0 d in keys_untaken (of_messages t) on p xs (message_none t on (λ k m. refl) xs)
messages_left t (Lose l d p) xs lawful fit there = let on : Channel = Frames l.0 d in keys_untaken (of_messages t) on p xs (message_none t on (λ k m. refl) xs)
messages_left t (LinkUp l) xs lawful fit there =
    two_go t (of_messages t) (λ on. not (is_session_of l.0 on)) (channel l.0 Forth) (channel l.0 Back) xs there (session_goes t lawful l.0 _ (λ k m. refl))
messages_left t (LdpAdmin l o) xs lawful fit there =
    two_go t (of_messages t) (λ on. not (is_session_of l.0 on)) (channel l.0 Forth) (channel l.0 Back) xs there (session_goes t lawful l.0 _ (λ k m. refl))
messages_left t (LinkDown l) xs lawful fit there =
    two_go t (of_messages t) (λ on. not (is_session_of l.0 on || is_over l.0 on)) (channel l.0 Forth) (channel l.0 Back) xs there
    (session_goes t lawful l.0 _ (λ k m. or_none (l.0 == k)))
  where
    or_none : (b : Bool) → not (b || false) ≡ not b
    or_none true = refl
    or_none false = refl
messages_left t (BgpUp a b) xs lawful fit there = all_stay t (of_messages t) (λ on. not (is_between a.0 b.0 on)) xs there (message_stays t _ (λ k m. refl))
messages_left t (BgpDown a b) xs lawful fit there = all_stay t (of_messages t) (λ on. not (is_between a.0 b.0 on)) xs there (message_stays t _ (λ k m. refl))
messages_left t _ xs lawful fit there = refl

-- 5. Messages of BGP

route_none : (t : Network) (n : ℕ) (on : Channel) → ((a b : ℕ) → same_channel on (Routes a b) ≡ false) → (xs : List Item) → Strange (of_routes n) on xs
route_none t n on h xs = strange t (of_routes n) on one xs
  where
    one : (other : Channel) → same_channel on other ≡ true → of_routes n other ≡ None
    one (Routes k m) g = absurd (clash (sym (h k m) ∙ g))
    one (Notices k m) g = refl
    one (Messages k m) g = refl
    one (Frames k e) g = refl

-- the edges of a step are nodes
abbrev pub NodesOf : Network → Step → Type 0
NodesOf t (HearBgp a b) = (a.0 < length t.loopbacks) × (b.0 < length t.loopbacks)
NodesOf t (BgpUp a b) = (a.0 < length t.loopbacks) × (b.0 < length t.loopbacks)
NodesOf t (BgpDown a b) = (a.0 < length t.loopbacks) × (b.0 < length t.loopbacks)
NodesOf t _ = ⊤

route_stays : (t : Network) (n : ℕ) (goes : Channel → Bool) → ((a b : ℕ) → goes (Routes a b) ≡ true) →
    (on : Channel) → IsThere t on → Passes (λ c. true) (goes on) (of_routes n on)
route_stays t n goes h (Routes k m) g = h k m
route_stays t n goes h (Notices k m) g = tt
route_stays t n goes h (Messages k m) g = tt
route_stays t n goes h (Frames k e) g = tt

-- an equation of numbers is one either way
pub turned : (a b : ℕ) → (a == b) ≡ (b == a)
turned a b = grind (arith, nat_tests)

not_either : (p q : Bool) → not (p || q) ≡ (not p && not q)
not_either true q = refl
not_either false q = refl

pair_goes : (t : Network) (a b : ℕ) → a < length t.loopbacks → b < length t.loopbacks → (on : Channel) → IsThere t on →
    Passes (λ n. not (n == a * length t.loopbacks + b) && not (n == b * length t.loopbacks + a)) (not (is_between a b on)) (of_routes (length t.loopbacks) on)
pair_goes t a b ha hb (Notices k m) g = tt
pair_goes t a b ha hb (Messages k m) g = tt
pair_goes t a b ha hb (Frames k e) g = tt
pair_goes t a b ha hb (Routes k m) g =
    let one : ((a == k) && (b == m)) ≡ (k * length t.loopbacks + m == a * length t.loopbacks + b) =
    ap (λ x. x && (b == m)) (turned a k) ∙ ap (λ x. (k == a) && x) (turned b m) ∙ both_tests (length t.loopbacks) k a m b g.1 hb in
    let two : ((b == k) && (a == m)) ≡ (k * length t.loopbacks + m == b * length t.loopbacks + a) =
    ap (λ x. x && (a == m)) (turned b k) ∙ ap (λ x. (k == b) && x) (turned a m) ∙ both_tests (length t.loopbacks) k b m a g.1 ha in
    not_either ((a == k) && (b == m)) ((b == k) && (a == m)) ∙ ap (λ x. not x && not ((b == k) && (a == m))) one
    ∙ ap (λ x. not (k * length t.loopbacks + m == a * length t.loopbacks + b) && not x) two

pub routes_left : (t : Network) (s : Step) (xs : List Item) → NodesOf t s → AreThere t xs →
    keys_on (of_routes (length t.loopbacks)) (left_in_flight t s xs) ≡ routes_leave (length t.loopbacks) s (keys_on (of_routes (length t.loopbacks)) xs)
routes_left t (HearBgp a b) xs nodes there =
    keys_taken (of_routes (length t.loopbacks)) (Routes a.0 b.0) (a.0 * length t.loopbacks + b.0) 0 xs
    (names t (of_routes (length t.loopbacks)) (Routes a.0 b.0) _ one xs there)
  where
    one : (other : Channel) → IsThere t other →
        same_channel (Routes a.0 b.0) other ≡ is_number (a.0 * length t.loopbacks + b.0) (of_routes (length t.loopbacks) other)
    one (Routes k m) g = both_tests (length t.loopbacks) k a.0 m b.0 g.1 nodes.1
    one (Notices k m) g = refl
    one (Messages k m) g = refl
    one (Frames k e) g = refl
routes_left t (Learn n l) xs nodes there = let on : Channel = Notices l.0 n.0 in
    keys_untaken (of_routes (length t.loopbacks)) on 0 xs (route_none t (length t.loopbacks) on (λ k m. refl) xs)
routes_left t (HearLdp l d) xs nodes there = let on : Channel = Messages l.0 (sender (wiring_of t) l.0 d) in
    keys_untaken (of_routes (length t.loopbacks)) on 0 xs (route_none t (length t.loopbacks) on (λ k m. refl) xs)
routes_left t (Carry l d p) xs nodes there = let on : Channel = Frames l.0 d in
    keys_untaken (of_routes (length t.loopbacks)) on p xs (route_none t (length t.loopbacks) on (λ k m. refl) xs)
routes_left t (Lose l d p) xs nodes there = let on : Channel = Frames l.0 d in
    keys_untaken (of_routes (length t.loopbacks)) on p xs (route_none t (length t.loopbacks) on (λ k m. refl) xs)
routes_left t (LinkUp l) xs nodes there =
    all_stay t (of_routes (length t.loopbacks)) (λ on. not (is_session_of l.0 on)) xs there (route_stays t (length t.loopbacks) _ (λ k m. refl))
routes_left t (LinkDown l) xs nodes there =
    all_stay t (of_routes (length t.loopbacks)) (λ on. not (is_session_of l.0 on || is_over l.0 on)) xs there
    (route_stays t (length t.loopbacks) _ (λ k m. refl))
routes_left t (LdpAdmin l o) xs nodes there =
    all_stay t (of_routes (length t.loopbacks)) (λ on. not (is_session_of l.0 on)) xs there (route_stays t (length t.loopbacks) _ (λ k m. refl))
routes_left t (BgpUp a b) xs nodes there =
    two_go t (of_routes (length t.loopbacks)) (λ on. not (is_between a.0 b.0 on)) _ _ xs there (pair_goes t a.0 b.0 nodes.0 nodes.1)
routes_left t (BgpDown a b) xs nodes there =
    two_go t (of_routes (length t.loopbacks)) (λ on. not (is_between a.0 b.0 on)) _ _ xs there (pair_goes t a.0 b.0 nodes.0 nodes.1)
routes_left t _ xs nodes there = refl
