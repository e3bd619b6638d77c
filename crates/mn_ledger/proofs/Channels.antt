-- What is on one channel of all that flies, when a step makes items and takes some out.
use Rattle.std.proofs.Common.{ℕ, zero, suc, ◌≡◌, ◌≢◌, ◌+◌, ◌<◌, ◌≤◌, inl, inr, Bool, true, false, cond, List, [], ◌∷◌, ◌++◌, map, filter, length, drop}
use Rattle.std.proofs.Common.{take, refl, arith, sym, ◌∙◌, ap, append-nil}
use Rattle.std.specs.Prelude.{◌==◌, ◌&&◌, not}
use Rattle.std.specs.List.{range_with_len}
use Rattle.std.proofs.lemmas.Bool.Decides.{eqb_tells}
use Rattle.std.proofs.lemmas.List.{map-append, take-append-drop}
use Rattle.std.proofs.lemmas.List.Elements.{filter-append}
use Rattle.mn_topo.specs.Dir.{Dir}
use Rattle.mn_base.proofs.Bools.{no}
use Rattle.mn_topo.specs.Network.{Network}
use Rattle.mn_ledger.specs.declared.verdict.Verdict.{Verdict}
use Rattle.mn_ledger.specs.declared.verdict.Verdict.TheVariants.{Flying}
use Rattle.mn_ledger.specs.Packets.{Packets, flying_on}
use Rattle.mn_ledger.specs.Transport.{Said, is_by, messages_of}
use Rattle.mn_ledger.specs.Bgp.{Told, is_from_to, tellings_of}
use Rattle.mn_ledger.specs.Items.{Channel, Notices, Messages, Routes, Frames, Load, Notice, Says, Tells, Item, same_channel, items_on, loads_on, message_of}
use Rattle.mn_ledger.specs.Items.{route_of, last_of, frame_by, numbered, without}
use Rattle.mn_ledger.specs.InFlight.{is_in_order, AreLastOf}
use Rattle.mn_ledger.proofs.Peers.{two_ways, and_left, and_right, same_numbers, same_test, other_test, and_off}

-- 1. Channels that hand over in order

pub same_chan : (on c : Channel) → is_in_order on ≡ true → same_channel on c ≡ true → c ≡ on
same_chan (Notices l n) (Notices k m) i h = ap (λ x. Notices x m) (same_numbers k l (and_left _ _ h)) ∙ ap (Notices l) (same_numbers m n (and_right _ _ h))
same_chan (Messages l n) (Messages k m) i h = ap (λ x. Messages x m) (same_numbers k l (and_left _ _ h)) ∙ ap (Messages l) (same_numbers m n (and_right _ _ h))
same_chan (Routes l n) (Routes k m) i h = ap (λ x. Routes x m) (same_numbers k l (and_left _ _ h)) ∙ ap (Routes l) (same_numbers m n (and_right _ _ h))
same_chan (Frames l d) c i h = absurd (no i)
same_chan _ _ i h = absurd (no h)

pub no_frame : (on : Channel) (l : ℕ) (d : Dir) → is_in_order on ≡ true → same_channel on (Frames l d) ≡ false
no_frame (Notices k m) l d i = refl
no_frame (Messages k m) l d i = refl
no_frame (Routes k m) l d i = refl
no_frame (Frames k e) l d i = absurd (no i)

-- 2. What a step takes out of flight

kept_cons : (on : Channel) (x : Item) (f whole : List Item) (b : Bool) → items_on on f ≡ items_on on whole →
    (same_channel on x.on ≡ true → b ≡ true) → items_on on (cond b (x ∷ f) f) ≡ items_on on (x ∷ whole)
kept_cons on x f whole true e h = ap (λ ys. cond (same_channel on x.on) (x ∷ ys) ys) e
kept_cons on x f whole false e h = elim (two_ways (same_channel on x.on)) [
  | inl q ↦ absurd (no (h q))
  | inr q ↦ e ∙ sym (ap (λ b. cond b (x ∷ items_on on whole) (items_on on whole)) q)
]

-- what isn't on the channel is filtered
pub kept : (on : Channel) (p : Channel → Bool) → ((c : Channel) → same_channel on c ≡ true → p c ≡ false) →
    (xs : List Item) → items_on on (filter (λ item. not (p item.on)) xs) ≡ items_on on xs
kept on p h [] = refl
kept on p h (x ∷ xs) = kept_cons on x (filter (λ item. not (p item.on)) xs) xs (not (p x.on)) (kept on p h xs) (λ q. ap not (h x.on q))

gone_cons : (on : Channel) (x : Item) (f : List Item) (b : Bool) → items_on on f ≡ [] →
    (same_channel on x.on ≡ true → b ≡ false) → items_on on (cond b (x ∷ f) f) ≡ []
gone_cons on x f true e h = elim (two_ways (same_channel on x.on)) [
  | inl q ↦ absurd (no (sym (h q)))
  | inr q ↦ ap (λ b. cond b (x ∷ items_on on f) (items_on on f)) q ∙ e
]
gone_cons on x f false e h = e

-- all that is on the channel is filtered
pub gone : (on : Channel) (p : Channel → Bool) → ((c : Channel) → same_channel on c ≡ true → p c ≡ true) →
    (xs : List Item) → items_on on (filter (λ item. not (p item.on)) xs) ≡ []
gone on p h [] = refl
gone on p h (x ∷ xs) = gone_cons on x (filter (λ item. not (p item.on)) xs) (not (p x.on)) (gone on p h xs) (λ q. ap not (h x.on q))

here_cons : (on : Channel) (x : Item) (xs : List Item) (b : Bool) → same_channel on x.on ≡ b → items_on on (without on 0 xs) ≡ drop 1 (items_on on xs)
    → items_on on (cond b xs (x ∷ without on 0 xs)) ≡ drop 1 (cond b (x ∷ items_on on xs) (items_on on xs))
here_cons on x xs true q e = refl
here_cons on x xs false q e = ap (λ b. cond b (x ∷ items_on on (without on 0 xs)) (items_on on (without on 0 xs))) q ∙ e

-- the first on the channel is taken out
pub taken : (on : Channel) (xs : List Item) → items_on on (without on 0 xs) ≡ drop 1 (items_on on xs)
taken on [] = refl
taken on (x ∷ xs) = here_cons on x xs (same_channel on x.on) refl (taken on xs)

off_cons : (on : Channel) (x : Item) (xs f : List Item) (b : Bool) →
    (b ≡ true → same_channel on x.on ≡ false) → items_on on f ≡ items_on on xs → items_on on (cond b xs (x ∷ f)) ≡ items_on on (x ∷ xs)
off_cons on x xs f true h e = sym (ap (λ b. cond b (x ∷ items_on on xs) (items_on on xs)) (h refl))
off_cons on x xs f false h e = ap (λ ys. cond (same_channel on x.on) (x ∷ ys) ys) e

either : (on : Channel) (f g xs : List Item) (b : Bool) → items_on on f ≡ items_on on xs → items_on on g ≡ items_on on xs →
    items_on on (cond b f g) ≡ items_on on xs
either on f g xs true e d = e
either on f g xs false e d = d

-- one of another channel is taken out
pub off : (on other : Channel) → ((c : Channel) → same_channel other c ≡ true → same_channel on c ≡ false) →
    (place : ℕ) (xs : List Item) → items_on on (without other place xs) ≡ items_on on xs
off on other h place [] = refl
off on other h zero (x ∷ xs) = off_cons on x xs (without other zero xs) (same_channel other x.on) (h x.on) (off on other h zero xs)
off on other h (suc place) (x ∷ xs) =
    ap (λ ys. cond (same_channel on x.on) (x ∷ ys) ys)
    (either on (without other place xs) (without other (suc place) xs) xs (same_channel other x.on) (off on other h place xs)
    (off on other h (suc place) xs))

-- 3. What a step makes

abbrev pub loads_in : Channel → List (Channel × Load) → List Load
loads_in on made = map (λ (one : Channel × Load). one.1) (filter (λ (one : Channel × Load). same_channel on one.0) made)

pub loads_append : (on : Channel) (xs ys : List Item) → loads_on on (xs ++ ys) ≡ loads_on on xs ++ loads_on on ys
loads_append on xs ys =
    ap (map (λ (item : Item). item.load)) (filter-append (λ (item : Item). same_channel on item.on) xs ys)
    ∙ map-append (λ (item : Item). item.load) (items_on on xs) (items_on on ys)

pub loads_in_append : (on : Channel) (xs ys : List (Channel × Load)) → loads_in on (xs ++ ys) ≡ loads_in on xs ++ loads_in on ys
loads_in_append on xs ys =
    ap (map (λ (one : Channel × Load). one.1)) (filter-append (λ (one : Channel × Load). same_channel on one.0) xs ys)
    ∙ map-append (λ (one : Channel × Load). one.1) (filter (λ (one : Channel × Load). same_channel on one.0) xs)
    (filter (λ (one : Channel × Load). same_channel on one.0) ys)

number_cons : (b : Bool) (i : Item) (m : Channel × Load) (f : List Item) (g : List (Channel × Load)) → i.load ≡ m.1 →
    map (λ (item : Item). item.load) f ≡ map (λ (one : Channel × Load). one.1) g
    → map (λ (item : Item). item.load) (cond b (i ∷ f) f) ≡ map (λ (one : Channel × Load). one.1) (cond b (m ∷ g) g)
number_cons true i m f g s e = ap (λ x. x ∷ map (λ (item : Item). item.load) f) s ∙ ap (λ ys. m.1 ∷ ys) e
number_cons false i m f g s e = e

pub on_numbered : (t : Network) (on : Channel) (tick n : ℕ) (xs : List (Channel × Load)) → loads_on on (numbered t tick n xs) ≡ loads_in on xs
on_numbered t on tick n [] = refl
on_numbered t on tick n (x ∷ xs) =
    number_cons (same_channel on x.0) _ x (items_on on (numbered t tick (n + 1) xs)) (filter (λ (one : Channel × Load). same_channel on one.0) xs) refl
    (on_numbered t on tick (n + 1) xs)

pub none_of : {A : Type 0} (on : Channel) (f : A → Channel × Load) → ((a : A) → same_channel on (f a).0 ≡ false) → (xs : List A) → loads_in on (map f xs) ≡ []
none_of on f h [] = refl
none_of on f h (x ∷ xs) =
    ap (λ b. map (λ (one : Channel × Load). one.1)
    (cond b (f x ∷ filter (λ (one : Channel × Load). same_channel on one.0) (map f xs))
    (filter (λ (one : Channel × Load). same_channel on one.0) (map f xs)))) (h x) ∙ none_of on f h xs

pub no_frames : (on : Channel) → is_in_order on ≡ true → (p : Packets) (v : Verdict) → loads_in on (frame_by p v) ≡ []
no_frames on i p (Flying l dir) = none_of on _ (λ token. no_frame on l.0 dir i) (last_of (flying_on p l.0 dir))
no_frames on i p _ = refl

load_cons : {A M : Type 0} (sent : A → Channel × Load) (of : A → M) (load : M → Load) → ((x : A) → (sent x).1 ≡ load (of x)) →
    (b : Bool) (x : A) (f : List (Channel × Load)) (g : List A) → map (λ (one : Channel × Load). one.1) f ≡ map load (map of g)
    → map (λ (one : Channel × Load). one.1) (cond b (sent x ∷ f) f) ≡ map load (map of (cond b (x ∷ g) g))
load_cons sent of load same true x f g e = ap (λ y. y ∷ map (λ (one : Channel × Load). one.1) f) (same x) ∙ ap (λ ys. load (of x) ∷ ys) e
load_cons sent of load same false x f g e = e

pub in_messages : (l n : ℕ) (xs : List Said) → loads_in (Messages l n) (map message_of xs) ≡ map (λ message. Says message) (messages_of l n xs)
in_messages l n [] = refl
in_messages l n (x ∷ xs) =
    load_cons message_of (λ (said : Said). said.message) (λ message. Says message) (λ said. refl) (is_by l n x) x
    (filter (λ (one : Channel × Load). same_channel (Messages l n) one.0) (map message_of xs)) (filter (is_by l n) xs) (in_messages l n xs)

pub in_routes : (a b : ℕ) (xs : List Told) → loads_in (Routes a b) (map route_of xs) ≡ map (λ telling. Tells telling) (tellings_of a b xs)
in_routes a b [] = refl
in_routes a b (x ∷ xs) =
    load_cons route_of (λ (told : Told). told.telling) (λ telling. Tells telling) (λ told. refl) (is_from_to a b x) x
    (filter (λ (one : Channel × Load). same_channel (Routes a b) one.0) (map route_of xs)) (filter (is_from_to a b) xs) (in_routes a b xs)

-- 4. Notices to each node

abbrev notice : ℕ → ℕ → Channel × Load
notice at n = (Notices at n, Notice)

not_for : (at node a : ℕ) → a ≢ node → same_channel (Notices at node) (notice at a).0 ≡ false
not_for at node a d = ap (λ b. (at == at) && b) (other_test a node d) ∙ and_off (at == at)

is_for : (at node a : ℕ) → a ≡ node → same_channel (Notices at node) (notice at a).0 ≡ true
is_for at node a d = ap (λ b. b && (a == node)) (same_test at) ∙ ap (λ x. x == node) d ∙ same_test node

add_notice : ℕ → ℕ → ℕ → List ℕ → Bool → List Load
add_notice at node a ns b =
    map (λ (one : Channel × Load). one.1)
    (cond b (notice at a ∷ filter (λ (one : Channel × Load). same_channel (Notices at node) one.0) (map (notice at) ns))
    (filter (λ (one : Channel × Load). same_channel (Notices at node) one.0) (map (notice at) ns)))

none_past : (at node a k : ℕ) → node < a → length (loads_in (Notices at node) (map (notice at) (range_with_len a k))) ≡ 0
unfolding add_notice
none_past at node a zero h = refl
none_past at node a (suc k) h =
    ap (λ b. length (add_notice at node a (range_with_len (a + 1) k) b)) (not_for at node a (λ e. omega (arith, h, e)))
    ∙ none_past at node (a + 1) k (omega (arith, h))

one_of : (at node a k : ℕ) → a ≤ node → node < a + k → length (loads_in (Notices at node) (map (notice at) (range_with_len a k))) ≡ 1
unfolding add_notice
one_of at node a zero h g = absurd (omega (arith, h, g))
one_of at node a (suc k) h g = elim (eqb_tells a node) [
  | inl p ↦ ap (λ b. length (add_notice at node a (range_with_len (a + 1) k) b)) (is_for at node a p.1)
      ∙ ap suc (none_past at node (a + 1) k (omega (arith, p.1)))
  | inr p ↦ ap (λ b. length (add_notice at node a (range_with_len (a + 1) k) b)) (not_for at node a p.1)
      ∙ one_of at node (a + 1) k (more p.1) (omega (arith, g))
]
  where
    more : a ≢ node → a + 1 ≤ node
    more d = grind (arith, h, d)

-- each node is told once
pub noticed : (at node k : ℕ) → node < k → length (loads_in (Notices at node) (map (notice at) (range_with_len 0 k))) ≡ 1
noticed at node k h = one_of at node 0 k (omega arith) (omega (arith, h))

-- and of no other link
pub not_noticed : (at l node : ℕ) → at ≢ l → (ns : List ℕ) → loads_in (Notices l node) (map (notice at) ns) ≡ []
not_noticed at l node d ns = none_of (Notices l node) (notice at) (λ n. ap (λ b. b && (n == node)) (other_test at l d)) ns

-- 5. The last of what was made

pub kept_last : (all left : List Item) → left ≡ all → AreLastOf left all
kept_last all left e = ([], sym e)

pub gone_last : (all left : List Item) → left ≡ [] → AreLastOf left all
gone_last all left e = (all, sym (ap (λ r. all ++ r) e ∙ append-nil all))

pub taken_last : (all left : List Item) → left ≡ drop 1 all → AreLastOf left all
taken_last all left e = (take 1 all, sym (ap (λ r. take 1 all ++ r) e ∙ take-append-drop 1 all))
