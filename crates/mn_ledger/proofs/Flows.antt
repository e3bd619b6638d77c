-- Each step of a lawful journal keeps what flies in order.
use Rattle.std.proofs.Common.{ℕ, zero, suc, ◌≡◌, ◌≢◌, ◌+◌, ◌<◌, ◌≤◌, ◌⊎◌, inl, inr, Bool, true, false, cond, List, [], ◌∷◌, ◌++◌, map, filter, length, drop}
use Rattle.std.proofs.Common.{refl, arith, sym, ◌∙◌, ap, subst, append-nil, Option, None, Some}
use Rattle.std.specs.Prelude.{◌==◌, ◌&&◌, ◌||◌, not, if◌then◌else◌, slice_get}
use Rattle.std.specs.List.{Contains, range_with_len}
use Rattle.std.proofs.lemmas.Bool.Decides.{eqb_tells}
use Rattle.std.proofs.lemmas.List.{map-append, append_assoc, drop-map, drop-drop, drop-append-le, length-append, length-drop}
use Rattle.std.proofs.lemmas.List.Elements.{filter-append}
use Rattle.mn_topo.specs.Wiring.{Wiring, nodes_of, link, is_end, across, sender, receiver, JoinsNodes, EndsDiffer}
use Rattle.mn_topo.specs.Dir.{Dir}
use Rattle.mn_base.proofs.Bools.{clash, no, or_true, swap}
use Rattle.mn_topo.specs.Network.{Network, wiring_of}
use Rattle.mn_topo.specs.Lawful.{IsLawful}
use Rattle.mn_topo.specs.Steps.{fits}
use Rattle.mn_topo.specs.declared.steps.Step.{Step}
use Rattle.mn_topo.specs.declared.steps.Step.TheVariants.{LinkUp, LinkDown, Learn, LdpAdmin, HearLdp, BgpUp, BgpDown, HearBgp, AddRoute, DelRoute, Import}
use Rattle.mn_topo.specs.declared.steps.Step.TheVariants.{Export, Attach, Detach, Inject, Carry, Lose, Tick}
use Rattle.mn_topo.specs.declared.steps.JournalEntry.{JournalEntry}
use Rattle.mn_ledger.specs.Tables.{put, put_pair}
use Rattle.mn_ledger.specs.World.{World, Sessions, Peerings, Views}
use Rattle.mn_ledger.specs.Transport.{Said, is_transport, said_in, ldp_counted, ldp_restarted, sessions_after}
use Rattle.mn_ledger.specs.Bgp as ledger_bgp
use Rattle.mn_ledger.specs.Bgp.{Told, peerings_after}
use Rattle.mn_ledger.specs.Packets.{Token, Packets, packets_after}
use Rattle.mn_ledger.specs.Time.{clock_after, timed}
use Rattle.mn_ledger.specs.Items.{in_time, in_time_by}
use Rattle.mn_ledger.proofs.Expiring.{in_time_flies, timed_empty}
use Rattle.mn_ledger.proofs.OnePlace.{timed_places}
use Rattle.mn_ledger.specs.Ledger.{after, start, no_packets, next_of, left_by, injects, world_from, world_of, packets_from, packets_of}
use Rattle.mn_ledger.specs.Refusal.{is_empty}
use Rattle.mn_ledger.specs.Lawful.{IsLawfulFrom, IsLawfulJournal}
use Rattle.mn_ledger.specs.Items.{Channel, Notices, Messages, Routes, Frames, Load, Notice, Says, Tells, Item, Flight, same_channel, items_on, loads_on}
use Rattle.mn_ledger.specs.Items.{notices_in, messages_in, routes_in, message_of, route_of, frame_after, frames_in, made_in, numbered, without}
use Rattle.mn_ledger.specs.Items.{is_session_of, is_over, is_between, left_in_flight, with_made, flight_from, flight_of, made_from, made_by}
use Rattle.mn_ledger.specs.InFlight.{is_in_order, AreLastOf, AreNumbered, IsInFlight}
use Rattle.mn_ledger.specs.Turns.{IsInTurn}
use Rattle.mn_ledger.proofs.Peers.{two_ways, same_test, other_test, Which, which, AreInOrder}
use Rattle.mn_ledger.proofs.Turning.{Apart, loopbacks_apart, across-end, dir_ends}
use Rattle.mn_ledger.proofs.GoingBy.{LinkIsThere, put_here, put_off, pair_here, pair_off, or_both, above}
use Rattle.mn_ledger.proofs.InTurn.{goes_step, begins, not_empty, link_there, in_order}
use Rattle.mn_ledger.specs.Verdicts.{one_if, AreInOnePlace}
use Rattle.mn_ledger.proofs.Members.{In, in_append, in_front, in_rest, in_filter, in_contained, contained_in}
use Rattle.mn_ledger.proofs.OnePlace.{stepped}
use Rattle.mn_ledger.proofs.Frames.{frames_go}
use Rattle.mn_ledger.proofs.Channels.{same_chan, no_frame, kept, gone, taken, off, loads_in, loads_append, loads_in_append, on_numbered, none_of, no_frames}
use Rattle.mn_ledger.proofs.Channels.{in_messages, in_routes, noticed, not_noticed, kept_last, gone_last, taken_last}
use Rattle.mn_ledger.proofs.Ended.{other_than}

-- 1. Which channels a step takes from

touches : Network → Step → Channel → Bool
touches t (Learn node l) on = same_channel (Notices l.0 node.0) on
touches t (HearLdp l dir) on = same_channel (Messages l.0 (sender (wiring_of t) l.0 dir)) on
touches t (HearBgp a b) on = same_channel (Routes a.0 b.0) on
touches t (LinkUp l) on = is_session_of l.0 on
touches t (LinkDown l) on = is_session_of l.0 on || is_over l.0 on
touches t (LdpAdmin l s) on = is_session_of l.0 on
touches t (BgpUp a b) on = is_between a.0 b.0 on
touches t (BgpDown a b) on = is_between a.0 b.0 on
touches t _ on = false

apart : (on other : Channel) → is_in_order on ≡ true → same_channel other on ≡ false → (c : Channel) → same_channel other c ≡ true → same_channel on c ≡ false
apart on other i h c g = elim (two_ways (same_channel on c)) [
  | inl q ↦ absurd (no (sym h ∙ ap (same_channel other) (sym (same_chan on c i q)) ∙ g))
  | inr q ↦ q
]

frames_apart : (on : Channel) (l : ℕ) (d : Dir) → is_in_order on ≡ true → (c : Channel) → same_channel (Frames l d) c ≡ true → same_channel on c ≡ false
frames_apart on l d i (Frames k e) g = no_frame on k e i
frames_apart on l d i (Notices k m) g = absurd (no g)
frames_apart on l d i (Messages k m) g = absurd (no g)
frames_apart on l d i (Routes k m) g = absurd (no g)

untouched : (t : Network) (s : Step) (on : Channel) → is_in_order on ≡ true → touches t s on ≡ false →
    (items : List Item) → items_on on (left_in_flight t s items) ≡ items_on on items
unfolding touches
untouched t (Learn node l) on i h items = off on (Notices l.0 node.0) (apart on (Notices l.0 node.0) i h) 0 items
untouched t (HearLdp l dir) on i h items =
    off on (Messages l.0 (sender (wiring_of t) l.0 dir)) (apart on (Messages l.0 (sender (wiring_of t) l.0 dir)) i h) 0 items
untouched t (HearBgp a b) on i h items = off on (Routes a.0 b.0) (apart on (Routes a.0 b.0) i h) 0 items
untouched t (Carry l dir place) on i h items = off on (Frames l.0 dir) (frames_apart on l.0 dir i) place items
untouched t (Lose l dir place) on i h items = off on (Frames l.0 dir) (frames_apart on l.0 dir i) place items
untouched t (LinkUp l) on i h items = kept on (is_session_of l.0) (λ c q. ap (is_session_of l.0) (same_chan on c i q) ∙ h) items
untouched t (LinkDown l) on i h items =
    kept on (λ c. is_session_of l.0 c || is_over l.0 c) (λ c q. ap (λ c. is_session_of l.0 c || is_over l.0 c) (same_chan on c i q) ∙ h) items
untouched t (LdpAdmin l s) on i h items = kept on (is_session_of l.0) (λ c q. ap (is_session_of l.0) (same_chan on c i q) ∙ h) items
untouched t (BgpUp a b) on i h items = kept on (is_between a.0 b.0) (λ c q. ap (is_between a.0 b.0) (same_chan on c i q) ∙ h) items
untouched t (BgpDown a b) on i h items = kept on (is_between a.0 b.0) (λ c q. ap (is_between a.0 b.0) (same_chan on c i q) ∙ h) items
untouched t _ on i h items = refl

-- 2. What is left on a channel is the last that was on it

first_taken : (on other : Channel) → is_in_order other ≡ true → same_channel other on ≡ true →
    (items : List Item) → items_on on (without other 0 items) ≡ drop 1 (items_on on items)
first_taken on other i q items = subst (λ c. items_on on (without c 0 items) ≡ drop 1 (items_on on items)) (same_chan other on i q) (taken on items)

touched_last : (t : Network) (s : Step) (on : Channel) → is_in_order on ≡ true → touches t s on ≡ true →
    (items : List Item) → AreLastOf (items_on on (left_in_flight t s items)) (items_on on items)
unfolding touches
touched_last t (Learn node l) on i q items = taken_last _ _ (first_taken on (Notices l.0 node.0) refl q items)
touched_last t (HearLdp l dir) on i q items = taken_last _ _ (first_taken on (Messages l.0 (sender (wiring_of t) l.0 dir)) refl q items)
touched_last t (HearBgp a b) on i q items = taken_last _ _ (first_taken on (Routes a.0 b.0) refl q items)
touched_last t (LinkUp l) on i q items = gone_last _ _ (gone on (is_session_of l.0) (λ c g. ap (is_session_of l.0) (same_chan on c i g) ∙ q) items)
touched_last t (LinkDown l) on i q items =
    gone_last _ _
    (gone on (λ c. is_session_of l.0 c || is_over l.0 c) (λ c g. ap (λ c. is_session_of l.0 c || is_over l.0 c) (same_chan on c i g) ∙ q) items)
touched_last t (LdpAdmin l s) on i q items = gone_last _ _ (gone on (is_session_of l.0) (λ c g. ap (is_session_of l.0) (same_chan on c i g) ∙ q) items)
touched_last t (BgpUp a b) on i q items = gone_last _ _ (gone on (is_between a.0 b.0) (λ c g. ap (is_between a.0 b.0) (same_chan on c i g) ∙ q) items)
touched_last t (BgpDown a b) on i q items = gone_last _ _ (gone on (is_between a.0 b.0) (λ c g. ap (is_between a.0 b.0) (same_chan on c i g) ∙ q) items)
touched_last t _ on i q items = absurd (no q)

left_last : (t : Network) (s : Step) (on : Channel) → is_in_order on ≡ true →
    (items : List Item) → AreLastOf (items_on on (left_in_flight t s items)) (items_on on items)
left_last t s on i items = elim (two_ways (touches t s on)) [
  | inl q ↦ touched_last t s on i q items
  | inr q ↦ kept_last _ _ (untouched t s on i q items)
]

-- 3. What a step makes for a channel

parts : (on : Channel) (a b c d : List (Channel × Load)) →
    loads_in on (a ++ (b ++ (c ++ d))) ≡ loads_in on a ++ (loads_in on b ++ (loads_in on c ++ loads_in on d))
parts on a b c d =
    loads_in_append on a (b ++ (c ++ d)) ∙ ap (λ r. loads_in on a ++ r) (loads_in_append on b (c ++ d) ∙ ap (λ r. loads_in on b ++ r) (loads_in_append on c d))

option_none : (on : Channel) → is_in_order on ≡ true → (q : Packets) (o : Option Token) → loads_in on (frame_after q o) ≡ []
option_none on i q None = refl
option_none on i q (Some token) = no_frames on i q _

frames_none : (on : Channel) → is_in_order on ≡ true → (p q : Packets) (s : Step) → loads_in on (frames_in p q s) ≡ []
frames_none on i p q (Inject site number) = no_frames on i q _
frames_none on i p q (Carry l dir place) = option_none on i q _
frames_none on i p q _ = refl

pub if_none : (on : Channel) (b : Bool) (xs : List (Channel × Load)) → loads_in on xs ≡ [] → loads_in on (if b then xs else []) ≡ []
if_none on true xs h = h
if_none on false xs h = refl

no_messages : (on : Channel) → ((x : Said) → same_channel on (message_of x).0 ≡ false) →
    (t : Network) (w v : World) (s : Step) → loads_in on (messages_in t w v s) ≡ []
no_messages on h t w v s =
    let said : List Said = said_in t w.config w.views w.sessions v.config v.views (ldp_counted t w.sessions s) s in
    if_none on (is_transport s) (map message_of said) (none_of on message_of h said)

no_routes : (on : Channel) → ((x : Told) → same_channel on (route_of x).0 ≡ false) →
    (t : Network) (w v : World) (s : Step) → loads_in on (routes_in t w v s) ≡ []
no_routes on h t w v s =
    let told : List Told = ledger_bgp.told_in t w.config w.peerings v.config (ledger_bgp.bgp_counted w.peerings s) s in
    if_none on (ledger_bgp.is_routing s) (map route_of told) (none_of on route_of h told)

-- a notice flies on no other channel
no_notices_on : (on : Channel) → ((l n : ℕ) → same_channel on (Notices l n) ≡ false) → (t : Network) (s : Step) → loads_in on (notices_in t s) ≡ []
no_notices_on on h t (LinkUp at) = none_of on (λ n. (Notices at.0 n, Notice)) (h at.0) (nodes_of (wiring_of t))
no_notices_on on h t (LinkDown at) = none_of on (λ n. (Notices at.0 n, Notice)) (h at.0) (nodes_of (wiring_of t))
no_notices_on on h t _ = refl

pub no_notices : (t : Network) (s : Step) (l node : ℕ) → loads_in (Messages l node) (notices_in t s) ≡ []
no_notices t s l node = no_notices_on (Messages l node) (λ k n. refl) t s

-- one part in four has all
first_alone : (a : List Load) {b c d : List Load} → b ≡ [] → c ≡ [] → d ≡ [] → a ++ (b ++ (c ++ d)) ≡ a
first_alone a p q r = rw (p, q, r) (append-nil a)

second_alone : {a : List Load} (b : List Load) {c d : List Load} → a ≡ [] → c ≡ [] → d ≡ [] → a ++ (b ++ (c ++ d)) ≡ b
second_alone b p q r = rw (p, q, r) (append-nil b)

third_alone : {a b : List Load} (c : List Load) {d : List Load} → a ≡ [] → b ≡ [] → d ≡ [] → a ++ (b ++ (c ++ d)) ≡ c
third_alone c p q r = rw (p, q, r) (append-nil c)

fourth_alone : {a b c : List Load} (d : List Load) → a ≡ [] → b ≡ [] → c ≡ [] → a ++ (b ++ (c ++ d)) ≡ d
fourth_alone d p q r = rw (p, q, r) refl

-- the part of what a step makes that is for channels of this kind
abbrev part_for : Channel → Network → World → World → Packets → Packets → Step → List (Channel × Load)
part_for (Notices l node) t w v p q s = notices_in t s
part_for (Messages l node) t w v p q s = messages_in t w v s
part_for (Routes edge peer) t w v p q s = routes_in t w v s
part_for (Frames l d) t w v p q s = frames_in p q s

made_for : (on : Channel) (t : Network) (w v : World) (p q : Packets) (s : Step) → loads_in on (made_in t w v p q s) ≡ loads_in on (part_for on t w v p q s)
made_for on t w v p q s = parts on (notices_in t s) (messages_in t w v s) (routes_in t w v s) (frames_in p q s) ∙ alone on
  where
    alone : (on : Channel) → loads_in on
        (notices_in t s) ++ (loads_in on (messages_in t w v s) ++ (loads_in on (routes_in t w v s) ++ loads_in on (frames_in p q s)))
        ≡ loads_in on (part_for on t w v p q s)
    alone (Notices l node) = let on : Channel = Notices l node in
        first_alone (loads_in on (notices_in t s)) (no_messages on (λ x. refl) t w v s) (no_routes on (λ x. refl) t w v s) (frames_none on refl p q s)
    alone (Messages l node) = let on : Channel = Messages l node in
        second_alone (loads_in on (messages_in t w v s)) (no_notices t s l node) (no_routes on (λ x. refl) t w v s) (frames_none on refl p q s)
    alone (Routes edge peer) = let on : Channel = Routes edge peer in
        third_alone (loads_in on (routes_in t w v s)) (no_notices_on on (λ k n. refl) t s) (no_messages on (λ x. refl) t w v s) (frames_none on refl p q s)
    alone (Frames l d) = let on : Channel = Frames l d in
        fourth_alone (loads_in on (frames_in p q s)) (no_notices_on on (λ k n. refl) t s) (no_messages on (λ x. refl) t w v s)
        (no_routes on (λ x. refl) t w v s)

abbrev later_items : Network → World → Packets → Packets → Step → ℕ → ℕ → List Item → List Item
later_items t w p q s tick n items = left_in_flight t s items ++ numbered t tick n (made_in t w (after t w s) p q s)

later_loads : (t : Network) (w : World) (p q : Packets) (s : Step) (tick n : ℕ) (items : List Item) (on : Channel)
    → loads_on on (later_items t w p q s tick n items) ≡ loads_on on (left_in_flight t s items) ++ loads_in on (made_in t w (after t w s) p q s)
later_loads t w p q s tick n items on =
    loads_append on (left_in_flight t s items) (numbered t tick n (made_in t w (after t w s) p q s))
    ∙ ap (λ r. loads_on on (left_in_flight t s items) ++ r) (on_numbered t on tick n (made_in t w (after t w s) p q s))

loads_kept : (t : Network) (s : Step) (on : Channel) → is_in_order on ≡ true → touches t s on ≡ false →
    (items : List Item) → loads_on on (left_in_flight t s items) ≡ loads_on on items
loads_kept t s on i h items = ap (map (λ (item : Item). item.load)) (untouched t s on i h items)

-- what is sent comes after what isn't received yet
comes_after : {A : Type 0} (load : A → Load) (t : Network) (w : World) (p q : Packets) (s : Step) (tick n : ℕ) (items : List Item) (on : Channel)
    (h : ℕ) (old new : List A) → loads_on on (left_in_flight t s items) ≡ map load (drop h old) → h ≤ length old →
    loads_in on (part_for on t w (after t w s) p q s) ≡ map load new → loads_on on (later_items t w p q s tick n items) ≡ map load (drop h (old ++ new))
comes_after load t w p q s tick n items on h old new left few made =
    later_loads t w p q s tick n items on ∙ ap (λ r. r ++ loads_in on (made_in t w (after t w s) p q s)) left
    ∙ ap (λ r. map load (drop h old) ++ r) (made_for on t w (after t w s) p q s ∙ made)
    ∙ sym (map-append load (drop h old) new) ∙ ap (map load) (sym (drop-append-le h old new few))

-- a pair of numbers is this one, or differs in one of the two
pair_ways : {P : Type 0} (x a y b : ℕ) → ((x ≢ a) ⊎ (y ≢ b) → P) → (x ≡ a → y ≡ b → P) → P
pair_ways x a y b other here = elim (eqb_tells x a) [
  | inr p ↦ other (inl p.1)
  | inl p ↦ elim (eqb_tells y b) [ inr r ↦ other (inr r.1) | inl r ↦ here p.1 r.1 ]
]

-- 4. Notices

count_later : (t : Network) (w : World) (p q : Packets) (s : Step) (tick n : ℕ) (items : List Item) (l node : ℕ)
    → length (loads_on (Notices l node) (later_items t w p q s tick n items)) ≡ length (loads_on (Notices l node) (left_in_flight t s items)) + length
    (loads_in (Notices l node) (notices_in t s))
count_later t w p q s tick n items l node =
    ap length (later_loads t w p q s tick n items (Notices l node)
    ∙ ap (λ r. loads_on (Notices l node) (left_in_flight t s items) ++ r) (made_for (Notices l node) t w (after t w s) p q s))
    ∙ length-append (loads_on (Notices l node) (left_in_flight t s items)) (loads_in (Notices l node) (notices_in t s))

-- the link comes up or goes down
turned : (changes : ℕ → ℕ) (at l node k : ℕ) (had many : ℕ) → node < k → had + many ≡ changes l →
    had + (many + length (loads_in (Notices l node) (map (λ n. (Notices at n, Notice)) (range_with_len 0 k)))) ≡ put changes at (changes at + 1) l
turned changes at l node k had many below h = elim (eqb_tells l at) [
  | inl p ↦ omega (arith, h, ap changes p.1, here p.1, one p.1)
  | inr p ↦ omega (arith, h, put_off changes at (changes at + 1) l p.1, ap length (not_noticed at l node (λ e. p.1 (sym e)) (range_with_len 0 k)))
]
  where
    here : l ≡ at → put changes at (changes at + 1) l ≡ changes at + 1
    here e = ap (put changes at (changes at + 1)) e ∙ put_here changes at (changes at + 1)

    one : l ≡ at → length (loads_in (Notices l node) (map (λ n. (Notices at n, Notice)) (range_with_len 0 k))) ≡ 1
    one e = ap (λ j. length (loads_in (Notices j node) (map (λ n. (Notices at n, Notice)) (range_with_len 0 k)))) e ∙ noticed at node k below

first_loads : (on : Channel) (items : List Item) → loads_on on (without on 0 items) ≡ drop 1 (loads_on on items)
first_loads on items = ap (map (λ (item : Item). item.load)) (taken on items) ∙ sym (drop-map (λ (item : Item). item.load) 1 (items_on on items))

both : (a b : Bool) → (a ≡ false) ⊎ (b ≡ false) → (a && b) ≡ false
both true b d = elim d [ inl p ↦ absurd (clash p) | inr q ↦ q ]
both false b d = refl

-- the node learns of the link's next change
learns : (v : Views) (who at : ℕ) (items : List Item) → v.learned who at < v.changes at →
    v.learned who at + length (loads_on (Notices at who) items) ≡ v.changes at
    → put_pair v.learned who at (v.learned who at + 1) who at + length (loads_on (Notices at who) (without (Notices at who) 0 items)) ≡ v.changes at
learns v who at items less h =
    omega (
      arith,
      h,
      less,
      pair_here v.learned who at (v.learned who at + 1),
      ap length (first_loads (Notices at who) items),
      length-drop 1
          (loads_on (Notices at who) items),
    )

learns_all : (t : Network) (v : Views) (who at : ℕ) (items left : List Item) (l node : ℕ) → left ≡ without (Notices at who) 0 items →
    v.learned who at < v.changes at
    → (same_channel (Notices at who) (Notices l node) ≡ false → loads_on (Notices l node) left ≡ loads_on (Notices l node) items)
    → v.learned node l + length (loads_on (Notices l node) items) ≡ v.changes l →
    put_pair v.learned who at (v.learned who at + 1) node l + length (loads_on (Notices l node) left) ≡ v.changes l
learns_all t v who at items left l node is less off h =
    let other : ((node ≢ who) ⊎ (l ≢ at)) →
    put_pair v.learned who at (v.learned who at + 1) node l + length (loads_on (Notices l node) left) ≡ v.changes l = λ d.
    omega (
      arith,
      h,
      pair_off v.learned who at (v.learned who at + 1) node l d,
      ap length
          (off (both (l == at) (node == who) (elim d [ inl p ↦ inr (other_test node who p) | inr p ↦ inl (other_test l at p) ]))),
    ) in
    pair_ways node who l at other
    (λ p q. subst (λ j. put_pair v.learned who at (v.learned who at + 1) j l + length (loads_on (Notices l j) left) ≡ v.changes l) (sym p)
    (subst (λ j. put_pair v.learned who at (v.learned who at + 1) who j + length (loads_on (Notices j who) left) ≡ v.changes j) (sym q)
    (subst (λ r. put_pair v.learned who at (v.learned who at + 1) who at + length (loads_on (Notices at who) r) ≡ v.changes at) (sym is)
    (learns v who at items less
    (subst (λ j. v.learned who j + length (loads_on (Notices j who) items) ≡ v.changes j) q
    (subst (λ j. v.learned j l + length (loads_on (Notices l j) items) ≡ v.changes l) p h))))))

abbrev NoticesGo : Network → World → Packets → Packets → Step → ℕ → ℕ → List Item → ℕ → ℕ → Type 0
NoticesGo t w p q s tick n items l node =
    (after t w s).views.learned node l + length (loads_on (Notices l node) (later_items t w p q s tick n items)) ≡ (after t w s).views.changes l

-- where no notice is made
none_made : (had many more : ℕ) (total : ℕ) → many ≡ more + 0 → had + more ≡ total → had + many ≡ total
none_made had many more total e h = omega (arith, e, h)

some_made : (had many more new : ℕ) (total : ℕ) → many ≡ more + new → had + (more + new) ≡ total → had + many ≡ total
some_made had many more new total e h = omega (arith, e, h)

notices_go : (t : Network) (w : World) (p q : Packets) (s : Step) (tick n : ℕ) (items : List Item) (l node : ℕ) → node < length t.loopbacks →
    is_empty t w p s ≡ false
    → w.views.learned node l + length (loads_on (Notices l node) items) ≡ w.views.changes l → NoticesGo t w p q s tick n items l node
unfolding touches
notices_go t w p q (LinkUp at) tick n items l node below full h =
    some_made _ _ _ _ _ (count_later t w p q (LinkUp at) tick n items l node
    ∙ ap (λ m. m + length (loads_in (Notices l node) (notices_in t (LinkUp at))))
    (ap length (loads_kept t (LinkUp at) (Notices l node) refl refl items)))
    (turned w.views.changes at.0 l node (length t.loopbacks) (w.views.learned node l) (length (loads_on (Notices l node) items)) below h)
notices_go t w p q (LinkDown at) tick n items l node below full h =
    some_made _ _ _ _ _ (count_later t w p q (LinkDown at) tick n items l node
    ∙ ap (λ m. m + length (loads_in (Notices l node) (notices_in t (LinkDown at))))
    (ap length (loads_kept t (LinkDown at) (Notices l node) refl refl items)))
    (turned w.views.changes at.0 l node (length t.loopbacks) (w.views.learned node l) (length (loads_on (Notices l node) items)) below h)
notices_go t w p q (Learn who at) tick n items l node below full h =
    none_made _ _ _ _ (count_later t w p q (Learn who at) tick n items l node)
    (learns_all t w.views who.0 at.0 items (left_in_flight t (Learn who at) items) l node refl (above _ _ full)
    (λ e. loads_kept t (Learn who at) (Notices l node) refl e items) h)
notices_go t w p q s tick n items l node below full h =
    none_made _ _ _ _ (count_later t w p q s tick n items l node ∙ ap (λ m. m + 0) (ap length (loads_kept t s (Notices l node) refl refl items))) h

-- 5. Messages of LDP

abbrev MessagesGo : Network → World → Packets → Packets → Step → ℕ → ℕ → List Item → ℕ → ℕ → Type 0
MessagesGo t w p q s tick n items l node =
    loads_on (Messages l node) (later_items t w p q s tick n items) ≡ map (λ message. Says message)
    (drop ((after t w s).sessions.heard l (across (wiring_of t) l node)) ((after t w s).sessions.said l node))

-- the life of a link's session ends or begins
renewed : (s : Sessions) (at l node other : ℕ) (left items : List Item) → (l ≡ at → loads_on (Messages l node) left ≡ []) →
    (l ≢ at → loads_on (Messages l node) left ≡ loads_on (Messages l node) items)
    → s.heard l other ≤ length (s.said l node) → loads_on (Messages l node) items ≡ map (λ message. Says message) (drop (s.heard l other) (s.said l node))
    → (loads_on (Messages l node) left ≡ map (λ message. Says message) (drop ((ldp_restarted s at).heard l other) ((ldp_restarted s at).said l node)))
    × ((ldp_restarted s at).heard l other ≤ length ((ldp_restarted s at).said l node))
renewed s at l node other left items here off few h = elim (eqb_tells l at) [
  | inl p ↦
      let said : (ldp_restarted s at).said l node ≡ [] = ap (λ j. (ldp_restarted s at).said j node) p.1 ∙ ap (λ f. f node) (put_here s.said at (λ _. [])) in
      let heard : (ldp_restarted s at).heard l other ≡ 0 =
      ap (λ j. (ldp_restarted s at).heard j other) p.1 ∙ ap (λ f. f other) (put_here s.heard at (λ _. 0)) in (
        here p.1
            ∙ sym (ap (λ m. map (λ message. Says message) (drop m ((ldp_restarted s at).said l node))) heard ∙ ap (map (λ message. Says message)) said),
        subst
            (λ m. m ≤ length ((ldp_restarted s at).said l node)) (sym heard) (omega arith),
      )
  | inr p ↦
      let said : (ldp_restarted s at).said l node ≡ s.said l node = ap (λ f. f node) (put_off s.said at (λ _. []) l p.1) in
      let heard : (ldp_restarted s at).heard l other ≡ s.heard l other = ap (λ f. f other) (put_off s.heard at (λ _. 0) l p.1) in (
        off p.1 ∙ h
            ∙ sym (ap (λ m. map (λ message. Says message) (drop m ((ldp_restarted s at).said l node))) heard
            ∙ ap (λ m. map (λ message. Says message) (drop (s.heard l other) m)) said),
        omega (arith, few, heard, ap length said),
      )
]

emptied : (on : Channel) (f : Channel → Bool) → is_in_order on ≡ true → f on ≡ true →
    (items : List Item) → loads_on on (filter (λ item. not (f item.on)) items) ≡ []
emptied on f i h items = ap (map (λ (item : Item). item.load)) (gone on f (λ c g. ap f (same_chan on c i g) ∙ h) items)

same_is : (a b : ℕ) → a ≡ b → (b == a) ≡ true
same_is a b e = ap (λ x. b == x) e ∙ same_test b

-- an end receives the other's next message
hears : (s : Sessions) (wiring : Wiring) (at who far : ℕ) (l node : ℕ) (left items : List Item) →
    (link wiring l).a.0 ≢ (link wiring l).b.0 → is_end wiring l node ≡ true → across wiring at who ≡ far → across wiring at far ≡ who
    → s.heard at who < length (s.said at far) → left ≡ without (Messages at far) 0 items
    → (same_channel (Messages at far) (Messages l node) ≡ false → loads_on (Messages l node) left ≡ loads_on (Messages l node) items)
    → s.heard l (across wiring l node) ≤ length (s.said l node) →
    loads_on (Messages l node) items ≡ map (λ message. Says message) (drop (s.heard l (across wiring l node)) (s.said l node))
    → (loads_on (Messages l node) left ≡ map (λ message. Says message)
    (drop (put_pair s.heard at who (s.heard at who + 1) l (across wiring l node)) (s.said l node)))
    × (put_pair s.heard at who (s.heard at who + 1) l (across wiring l node) ≤ length (s.said l node))
hears s wiring at who far l node left items differ at_end here there less is off few h =
    let next : ℕ → ℕ → ℕ = put_pair s.heard at who (s.heard at who + 1) in
    let other : ((l ≢ at) ⊎ (node ≢ far)) →
    (loads_on (Messages l node) left ≡ map (λ message. Says message) (drop (next l (across wiring l node)) (s.said l node)))
    × (next l (across wiring l node) ≤ length (s.said l node)) = λ d.
    let same : next l (across wiring l node) ≡ s.heard l (across wiring l node) =
    pair_off s.heard at who (s.heard at who + 1) l (across wiring l node) (far_off d) in
    (off (apart_pair d) ∙ h ∙ ap (λ m. map (λ message. Says message) (drop m (s.said l node))) (sym same), omega (arith, same, few)) in
    pair_ways l at node far other both_here
  where
    apart_pair : (l ≢ at) ⊎ (node ≢ far) → ((l == at) && (node == far)) ≡ false
    apart_pair d = both (l == at) (node == far) (elim d [ inl p ↦ inl (other_test l at p) | inr p ↦ inr (other_test node far p) ])

    far_off : (l ≢ at) ⊎ (node ≢ far) → (l ≢ at) ⊎ (across wiring l node ≢ who)
    far_off d = elim d [
      | inl p ↦ inl p
      | inr p ↦ elim (eqb_tells l at) [
        | inr r ↦ inl r.1
        | inl r ↦ inr (λ e. p (sym (across-end wiring l node differ at_end).1 ∙ ap (across wiring l) e ∙ ap (λ j. across wiring j who) r.1 ∙ here))
      ]
    ]

    both_here : l ≡ at → node ≡ far
        → (loads_on (Messages l node) left ≡ map (λ message. Says message)
        (drop (put_pair s.heard at who (s.heard at who + 1) l (across wiring l node)) (s.said l node)))
        × (put_pair s.heard at who (s.heard at who + 1) l (across wiring l node) ≤ length (s.said l node))
    both_here e d =
        let who_is : across wiring l node ≡ who = ap (λ j. across wiring j node) e ∙ ap (across wiring at) d ∙ there in
        let now : put_pair s.heard at who (s.heard at who + 1) l (across wiring l node) ≡ s.heard l (across wiring l node) + 1 =
        ap (λ m. put_pair s.heard at who (s.heard at who + 1) l m) who_is ∙ ap (λ j. put_pair s.heard at who (s.heard at who + 1) j who) e
        ∙ pair_here s.heard at who (s.heard at who + 1)
        ∙ ap (λ j. s.heard j who + 1) (sym e) ∙ ap (λ m. s.heard l m + 1) (sym who_is) in
        let chan : Messages at far ≡ Messages l node = ap (λ j. Messages j far) (sym e) ∙ ap (Messages l) (sym d) in (
          ap (loads_on (Messages l node)) (is ∙ ap (λ c. without c 0 items) chan) ∙ first_loads (Messages l node) items ∙ ap (drop 1) h
              ∙ drop-map (λ message. Says message) 1 (drop (s.heard l (across wiring l node)) (s.said l node))
              ∙ ap (map (λ message. Says message)) (drop-drop 1 (s.heard l (across wiring l node)) (s.said l node))
              ∙ ap (λ m. map (λ message. Says message) (drop m (s.said l node))) (sym now),
          omega (
            arith,
            now,
            ap (λ m. s.heard l m) who_is,
            ap (λ j. s.heard j who) e,
            ap (λ j. length (s.said j node)) e,
            ap
                (λ j. length (s.said at j)) d,
            less,
          ),
        )

quiet : (t : Network) (w : World) (p q : Packets) (s : Step) (tick n : ℕ) (items : List Item) (on : Channel) → is_in_order on ≡ true →
    touches t s on ≡ false → loads_in on (made_in t w (after t w s) p q s) ≡ []
    → loads_on on (later_items t w p q s tick n items) ≡ loads_on on items
quiet t w p q s tick n items on i h none =
    later_loads t w p q s tick n items on ∙ ap (λ r. loads_on on (left_in_flight t s items) ++ r) none ∙ append-nil (loads_on on (left_in_flight t s items))
    ∙ loads_kept t s on i h items

messages_go : (t : Network) (w : World) (p q : Packets) (s : Step) (tick n : ℕ) (items : List Item) (l node : ℕ) → EndsDiffer (wiring_of t) →
    LinkIsThere t s → l < length t.links → is_end (wiring_of t) l node ≡ true → is_empty t w p s ≡ false
    → w.sessions.heard l (across (wiring_of t) l node) ≤ length (w.sessions.said l node)
    → loads_on (Messages l node) items ≡ map (λ message. Says message) (drop (w.sessions.heard l (across (wiring_of t) l node)) (w.sessions.said l node)) →
    MessagesGo t w p q s tick n items l node
unfolding touches sessions_after
messages_go t w p q (LinkUp at) tick n items l node differ inside below at_end full few h =
    let new = renewed w.sessions at.0 l node (across (wiring_of t) l node) (left_in_flight t (LinkUp at) items) items
    (λ e. emptied (Messages l node) (is_session_of at.0) refl (same_is l at.0 e) items)
    (λ d. loads_kept t (LinkUp at) (Messages l node) refl (other_test at.0 l (λ e. d (sym e))) items) few h in
    comes_after (λ message. Says message) t w p q (LinkUp at) tick n items (Messages l node) _ _ _ new.0 new.1 (in_messages l node _)
messages_go t w p q (LinkDown at) tick n items l node differ inside below at_end full few h =
    let new = renewed w.sessions at.0 l node (across (wiring_of t) l node) (left_in_flight t (LinkDown at) items) items
    (λ e. emptied (Messages l node) (λ c. is_session_of at.0 c || is_over at.0 c) refl (ap (λ b. b || false) (same_is l at.0 e)) items)
    (λ d. loads_kept t (LinkDown at) (Messages l node) refl (ap (λ b. b || false) (other_test at.0 l (λ e. d (sym e)))) items) few h in
    comes_after (λ message. Says message) t w p q (LinkDown at) tick n items (Messages l node) _ _ _ new.0 new.1 (in_messages l node _)
messages_go t w p q (LdpAdmin at on) tick n items l node differ inside below at_end full few h =
    let new = renewed w.sessions at.0 l node (across (wiring_of t) l node) (left_in_flight t (LdpAdmin at on) items) items
    (λ e. emptied (Messages l node) (is_session_of at.0) refl (same_is l at.0 e) items)
    (λ d. loads_kept t (LdpAdmin at on) (Messages l node) refl (other_test at.0 l (λ e. d (sym e))) items) few h in
    comes_after (λ message. Says message) t w p q (LdpAdmin at on) tick n items (Messages l node) _ _ _ new.0 new.1 (in_messages l node _)
messages_go t w p q (Learn who at) tick n items l node differ inside below at_end full few h =
    comes_after (λ message. Says message) t w p q (Learn who at) tick n items (Messages l node) _ _ _
    (loads_kept t (Learn who at) (Messages l node) refl refl items ∙ h) few (in_messages l node _)
messages_go t w p q (HearLdp at dir) tick n items l node differ inside below at_end full few h =
    let ends = dir_ends (wiring_of t) at.0 dir (differ at.0 inside) in
    let back = ap (across (wiring_of t) at.0) (sym ends.1) ∙ (across-end (wiring_of t) at.0 (receiver (wiring_of t) at.0 dir) (differ at.0 inside) ends.0).1 in
    let new =
    hears w.sessions (wiring_of t) at.0 (receiver (wiring_of t) at.0 dir) (sender (wiring_of t) at.0 dir) l node
    (left_in_flight t (HearLdp at dir) items) items (differ l below) at_end ends.1 back
    (above _ _ (or_both _ _ full).1) refl (λ e. loads_kept t (HearLdp at dir) (Messages l node) refl e items) few h in
    comes_after (λ message. Says message) t w p q (HearLdp at dir) tick n items (Messages l node) _ _ _ new.0 new.1 (in_messages l node _)
messages_go t w p q s tick n items l node differ inside below at_end full few h =
    quiet t w p q s tick n items (Messages l node) refl refl (made_for (Messages l node) t w (after t w s) p q s) ∙ h

-- 6. Messages of BGP

abbrev RoutesGo : Network → World → Packets → Packets → Step → ℕ → ℕ → List Item → ℕ → ℕ → Type 0
RoutesGo t w p q s tick n items edge peer =
    loads_on (Routes edge peer) (later_items t w p q s tick n items) ≡ map (λ telling. Tells telling)
    (drop ((after t w s).peerings.heard peer edge) ((after t w s).peerings.told edge peer))

abbrev Unheard : Peerings → ℕ → ℕ → List Item → Type 0
Unheard k edge peer items =
    (loads_on (Routes edge peer) items ≡ map (λ telling. Tells telling) (drop (k.heard peer edge) (k.told edge peer)))
    × (k.heard peer edge ≤ length (k.told edge peer))

none_left : (k : Peerings) (edge peer : ℕ) (left : List Item) → loads_on (Routes edge peer) left ≡ [] → k.told edge peer ≡ [] → k.heard peer edge ≡ 0 →
    Unheard k edge peer left
none_left k edge peer left none told heard = (
  none ∙ sym (ap (λ m. map (λ telling. Tells telling) (drop m (k.told edge peer))) heard ∙ ap (map (λ telling. Tells telling)) told),
  subst (λ m. m ≤ length (k.told edge peer)) (sym heard) (omega arith),
)

all_left : (k new : Peerings) (edge peer : ℕ) (left items : List Item) → loads_on (Routes edge peer) left ≡ loads_on (Routes edge peer) items →
    new.told edge peer ≡ k.told edge peer → new.heard peer edge ≡ k.heard peer edge
    → Unheard k edge peer items → Unheard new edge peer left
all_left k new edge peer left items same told heard u = (
  same ∙ u.0
      ∙ sym (ap (λ m. map (λ telling. Tells telling) (drop m (new.told edge peer))) heard
      ∙ ap (λ m. map (λ telling. Tells telling) (drop (k.heard peer edge) m)) told),
  omega (arith, u.1, heard, ap length told),
)

-- a session begins or ends
begun : (k : Peerings) (a b edge peer : ℕ) (left items : List Item) → a ≢ b → (is_between a b (Routes edge peer) ≡ true → loads_on (Routes edge peer) left ≡ [])
    → (is_between a b (Routes edge peer) ≡ false → loads_on (Routes edge peer) left ≡ loads_on (Routes edge peer) items) → Unheard k edge peer items →
    Unheard (ledger_bgp.bgp_restarted k a b) edge peer left
unfolding Which
begun k a b edge peer left items differ here off u = elim (which a b edge peer) [
  | inl p ↦
      none_left (ledger_bgp.bgp_restarted k a b) edge peer left
      (here (ap (λ x. (x && (b == peer)) || ((b == edge) && (a == peer))) (same_is edge a p.0)
      ∙ ap (λ x. x || ((b == edge) && (a == peer))) (same_is peer b p.1)))
      (ap (λ j. (ledger_bgp.bgp_restarted k a b).told j peer) p.0 ∙ ap (λ j. (ledger_bgp.bgp_restarted k a b).told a j) p.1
      ∙ pair_off (put_pair k.told a b []) b a [] a b (inl differ)
      ∙ pair_here k.told a b [])
      (ap (λ j. (ledger_bgp.bgp_restarted k a b).heard peer j) p.0 ∙ ap (λ j. (ledger_bgp.bgp_restarted k a b).heard j a) p.1
      ∙ pair_here (put_pair k.heard a b 0) b a 0)
  | inr d ↦ elim d [
    | inl p ↦
        none_left (ledger_bgp.bgp_restarted k a b) edge peer left
        (here (ap (λ x. ((a == edge) && (b == peer)) || (x && (a == peer))) (same_is edge b p.0)
        ∙ ap (λ x. ((a == edge) && (b == peer)) || x) (same_is peer a p.1) ∙ or_true ((a == edge) && (b == peer))))
        (ap (λ j. (ledger_bgp.bgp_restarted k a b).told j peer) p.0 ∙ ap (λ j. (ledger_bgp.bgp_restarted k a b).told b j) p.1
        ∙ pair_here (put_pair k.told a b []) b a [])
        (ap (λ j. (ledger_bgp.bgp_restarted k a b).heard peer j) p.0 ∙ ap (λ j. (ledger_bgp.bgp_restarted k a b).heard j b) p.1
        ∙ pair_off (put_pair k.heard a b 0) b a 0 a b (inl differ)
        ∙ pair_here k.heard a b 0)
    | inr p ↦
        all_left k (ledger_bgp.bgp_restarted k a b) edge peer left items
        (off (ap (λ x. x || ((b == edge) && (a == peer))) (both (a == edge) (b == peer) (tests a b p.0)) ∙ both (b == edge) (a == peer) (tests b a p.1)))
        (pair_off (put_pair k.told a b []) b a [] edge peer p.1 ∙ pair_off k.told a b [] edge peer p.0)
        (pair_off (put_pair k.heard a b 0) b a 0 peer edge (swap p.0) ∙ pair_off k.heard a b 0 peer edge (swap p.1)) u
  ]
]
  where
    tests : (x y : ℕ) → (edge ≢ x) ⊎ (peer ≢ y) → ((x == edge) ≡ false) ⊎ ((y == peer) ≡ false)
    tests x y d = elim d [ inl p ↦ inl (other_test x edge (λ e. p (sym e))) | inr p ↦ inr (other_test y peer (λ e. p (sym e))) ]

-- an edge receives a peer's next message
heeds : (k : Peerings) (a b edge peer : ℕ) (left items : List Item) → k.heard b a < length (k.told a b) → left ≡ without (Routes a b) 0 items
    → (same_channel (Routes a b) (Routes edge peer) ≡ false → loads_on (Routes edge peer) left ≡ loads_on (Routes edge peer) items) → Unheard k edge peer items
    → Unheard (record k { heard = put_pair k.heard b a (k.heard b a + 1) }) edge peer left
heeds k a b edge peer left items less is off u =
    let new : Peerings = record k { heard = put_pair k.heard b a (k.heard b a + 1) } in
    let other : ((edge ≢ a) ⊎ (peer ≢ b)) → Unheard new edge peer left = λ d.
    all_left k new edge peer left items
    (off (both (edge == a) (peer == b) (elim d [ inl p ↦ inl (other_test edge a p) | inr p ↦ inr (other_test peer b p) ]))) refl
    (pair_off k.heard b a (k.heard b a + 1) peer edge (swap d)) u in
    pair_ways edge a peer b other here
  where
    here : edge ≡ a → peer ≡ b → Unheard (record k { heard = put_pair k.heard b a (k.heard b a + 1) }) edge peer left
    here e d =
        let now : put_pair k.heard b a (k.heard b a + 1) peer edge ≡ k.heard peer edge + 1 =
        ap (λ j. put_pair k.heard b a (k.heard b a + 1) j edge) d ∙ ap (λ j. put_pair k.heard b a (k.heard b a + 1) b j) e
        ∙ pair_here k.heard b a (k.heard b a + 1) ∙ ap (λ j. k.heard j a + 1) (sym d) ∙ ap (λ j. k.heard peer j + 1) (sym e) in
        let chan : Routes a b ≡ Routes edge peer = ap (λ j. Routes j b) (sym e) ∙ ap (Routes edge) (sym d) in (
          ap (loads_on (Routes edge peer)) (is ∙ ap (λ c. without c 0 items) chan) ∙ first_loads (Routes edge peer) items ∙ ap (drop 1) u.0
              ∙ drop-map (λ telling. Tells telling) 1 (drop (k.heard peer edge) (k.told edge peer))
              ∙ ap (map (λ telling. Tells telling)) (drop-drop 1 (k.heard peer edge) (k.told edge peer))
              ∙ ap (λ m. map (λ telling. Tells telling) (drop m (k.told edge peer))) (sym now),
          omega (arith, now, ap (λ j. k.heard j edge) d, ap (λ j. k.heard b j) e, ap (λ j. length (k.told j peer)) e, ap (λ j. length (k.told a j)) d, less),
        )

abbrev told_by : Network → World → Step → List Told
told_by t w s = ledger_bgp.told_in t w.config w.peerings (after t w s).config (ledger_bgp.bgp_counted w.peerings s) s

routes_go : (t : Network) (w : World) (p q : Packets) (s : Step) (tick n : ℕ) (items : List Item) (edge peer : ℕ) → AreInOrder s →
    is_empty t w p s ≡ false → Unheard w.peerings edge peer items → RoutesGo t w p q s tick n items edge peer
unfolding touches peerings_after
routes_go t w p q (BgpUp a b) tick n items edge peer order full u =
    let new =
    begun w.peerings a.0 b.0 edge peer (left_in_flight t (BgpUp a b) items) items (other_than a.0 b.0 order)
    (λ e. emptied (Routes edge peer) (is_between a.0 b.0) refl e items) (λ e. loads_kept t (BgpUp a b) (Routes edge peer) refl e items) u in
    comes_after (λ telling. Tells telling) t w p q (BgpUp a b) tick n items (Routes edge peer) _ _ _ new.0 new.1 (in_routes edge peer (told_by t w (BgpUp a b)))
routes_go t w p q (BgpDown a b) tick n items edge peer order full u =
    let new =
    begun w.peerings a.0 b.0 edge peer (left_in_flight t (BgpDown a b) items) items (other_than a.0 b.0 order)
    (λ e. emptied (Routes edge peer) (is_between a.0 b.0) refl e items) (λ e. loads_kept t (BgpDown a b) (Routes edge peer) refl e items) u in
    comes_after (λ telling. Tells telling) t w p q (BgpDown a b) tick n items (Routes edge peer) _ _ _ new.0 new.1
    (in_routes edge peer (told_by t w (BgpDown a b)))
routes_go t w p q (HearBgp a b) tick n items edge peer order full u =
    let new =
    heeds w.peerings a.0 b.0 edge peer (left_in_flight t (HearBgp a b) items) items (above _ _ (or_both _ _ full).1) refl
    (λ e. loads_kept t (HearBgp a b) (Routes edge peer) refl e items) u in
    comes_after (λ telling. Tells telling) t w p q (HearBgp a b) tick n items (Routes edge peer) _ _ _ new.0 new.1
    (in_routes edge peer (told_by t w (HearBgp a b)))
routes_go t w p q (AddRoute a b) tick n items edge peer order full u =
    comes_after (λ telling. Tells telling) t w p q (AddRoute a b) tick n items (Routes edge peer) _ _ _
    (loads_kept t (AddRoute a b) (Routes edge peer) refl refl items
    ∙ u.0) u.1 (in_routes edge peer (told_by t w (AddRoute a b)))
routes_go t w p q (DelRoute a b) tick n items edge peer order full u =
    comes_after (λ telling. Tells telling) t w p q (DelRoute a b) tick n items (Routes edge peer) _ _ _
    (loads_kept t (DelRoute a b) (Routes edge peer) refl refl items
    ∙ u.0) u.1 (in_routes edge peer (told_by t w (DelRoute a b)))
routes_go t w p q (Import v on x) tick n items edge peer order full u =
    comes_after (λ telling. Tells telling) t w p q (Import v on x) tick n items (Routes edge peer) _ _ _
    (loads_kept t (Import v on x) (Routes edge peer) refl refl items
    ∙ u.0) u.1 (in_routes edge peer (told_by t w (Import v on x)))
routes_go t w p q (Export v on x) tick n items edge peer order full u =
    comes_after (λ telling. Tells telling) t w p q (Export v on x) tick n items (Routes edge peer) _ _ _
    (loads_kept t (Export v on x) (Routes edge peer) refl refl items
    ∙ u.0) u.1 (in_routes edge peer (told_by t w (Export v on x)))
routes_go t w p q (Attach a) tick n items edge peer order full u =
    comes_after (λ telling. Tells telling) t w p q (Attach a) tick n items (Routes edge peer) _ _ _ (loads_kept t (Attach a) (Routes edge peer) refl refl items
    ∙ u.0) u.1
    (in_routes edge peer (told_by t w (Attach a)))
routes_go t w p q (Detach a) tick n items edge peer order full u =
    comes_after (λ telling. Tells telling) t w p q (Detach a) tick n items (Routes edge peer) _ _ _ (loads_kept t (Detach a) (Routes edge peer) refl refl items
    ∙ u.0) u.1
    (in_routes edge peer (told_by t w (Detach a)))
routes_go t w p q s tick n items edge peer order full u =
    quiet t w p q s tick n items (Routes edge peer) refl refl (made_for (Routes edge peer) t w (after t w s) p q s) ∙ u.0

-- 7. Numbers

AreFrom : ℕ → List Item → Type 0
AreFrom base items = (place : ℕ) (item : Item) → slice_get items place ≡ Some item → item.number ≡ base + place

from_join : (base : ℕ) (xs ys : List Item) → AreFrom base xs → AreFrom (base + length xs) ys → AreFrom base (xs ++ ys)
unfolding AreFrom
from_join base [] ys h g place item e = omega (arith, g place item e)
from_join base (x ∷ xs) ys h g zero item e = h zero item e
from_join base (x ∷ xs) ys h g (suc place) item e =
    omega (arith, from_join (base + 1) xs ys (λ k i f. omega (arith, h (suc k) i f)) (λ k i f. omega (arith, g k i f)) place item e)

some_same : (x y : Item) → Some x ≡ Some y → x ≡ y
some_same x y e = ap (λ o. elim o as (λ _. Item) [ None ↦ x | Some z ↦ z ]) e

from_numbered : (t : Network) (tick n : ℕ) (xs : List (Channel × Load)) → AreFrom n (numbered t tick n xs)
unfolding AreFrom
from_numbered t tick n [] place item e = absurd (clash e)
  where
    clash : None ≡ Some item → ⊥
    clash e = cc
from_numbered t tick n (x ∷ xs) zero item e = omega (arith, ap (λ (i : Item). i.number) (some_same _ item e))
from_numbered t tick n (x ∷ xs) (suc place) item e = omega (arith, from_numbered t tick (n + 1) xs place item e)

pub length_numbered : (t : Network) (tick n : ℕ) (xs : List (Channel × Load)) → length (numbered t tick n xs) ≡ length xs
length_numbered t tick n [] = refl
length_numbered t tick n (x ∷ xs) = ap suc (length_numbered t tick (n + 1) xs)

numbers_go : (t : Network) (tick : ℕ) (made : List Item) (n : ℕ) (new : List (Channel × Load)) → n ≡ length made → AreNumbered made →
    AreNumbered (made ++ numbered t tick n new)
unfolding AreFrom
numbers_go t tick made n new is h place item e =
    omega (
      arith,
      from_join 0 made (numbered t tick n new) (λ k i f. omega (arith, h k i f))
          (λ k i f. omega (arith, is, from_numbered t tick n new k i f)) place item e,
    )

-- 8. One step, and a journal

order_go : (t : Network) (s : Step) (tick n : ℕ) (new : List (Channel × Load)) (items made : List Item) (on : Channel) → is_in_order on ≡ true →
    AreLastOf (items_on on items) (items_on on made)
    → AreLastOf (items_on on (left_in_flight t s items ++ numbered t tick n new)) (items_on on (made ++ numbered t tick n new))
order_go t s tick n new items made on i h =
    let rest = left_last t s on i items in
    let more : List Item = numbered t tick n new in (
      h.0 ++ rest.0,
      filter-append (λ (item : Item). same_channel on item.on) made more
          ∙ ap (λ r. r ++ items_on on more) (h.1 ∙ ap (λ r. h.0 ++ r) rest.1 ∙ sym (append_assoc h.0 rest.0 (items_on on (left_in_flight t s items))))
          ∙ append_assoc (h.0 ++ rest.0) (items_on on (left_in_flight t s items)) (items_on on more)
          ∙ ap (λ r. (h.0 ++ rest.0) ++ r) (sym (filter-append (λ (item : Item). same_channel on item.on) (left_in_flight t s items) more)),
    )

in_without : (on : Channel) (n : ℕ) (xs : List Item) (x : Item) → In (without on n xs) x → In xs x
in_without on n [] x i = i
in_without on zero (y ∷ ys) x i = one_out (same_channel on y.on) (in_without on 0 ys x) i
  where
    one_out : (b : Bool) → (In (without on 0 ys) x → In ys x) → In (cond b ys (y ∷ without on 0 ys)) x → In (y ∷ ys) x
    one_out true more j = inr j
    one_out false more j = elim j [ inl e ↦ inl e | inr k ↦ inr (more k) ]
in_without on (suc n) (y ∷ ys) x i =
    elim i [ inl e ↦ inl e | inr j ↦ inr (later_out (same_channel on y.on) (in_without on n ys x) (in_without on (suc n) ys x) j) ]
  where
    later_out : (b : Bool) → (In (without on n ys) x → In ys x) →
        (In (without on (suc n) ys) x → In ys x) → In (cond b (without on n ys) (without on (suc n) ys)) x → In ys x
    later_out true one more j = one j
    later_out false one more j = more j

pub in_left : (t : Network) (s : Step) (items : List Item) (x : Item) → In (left_in_flight t s items) x → In items x
in_left t (Learn node l) items x i = in_without (Notices l.0 node.0) 0 items x i
in_left t (HearLdp l dir) items x i = in_without (Messages l.0 (sender (wiring_of t) l.0 dir)) 0 items x i
in_left t (HearBgp a b) items x i = in_without (Routes a.0 b.0) 0 items x i
in_left t (Carry l dir place) items x i = in_without (Frames l.0 dir) place items x i
in_left t (Lose l dir place) items x i = in_without (Frames l.0 dir) place items x i
in_left t (LinkUp l) items x i = (in_filter (λ item. not (is_session_of l.0 item.on)) items x i).0
in_left t (LinkDown l) items x i = (in_filter (λ item. not (is_session_of l.0 item.on || is_over l.0 item.on)) items x i).0
in_left t (LdpAdmin l s) items x i = (in_filter (λ item. not (is_session_of l.0 item.on)) items x i).0
in_left t (BgpUp a b) items x i = (in_filter (λ item. not (is_between a.0 b.0 item.on)) items x i).0
in_left t (BgpDown a b) items x i = (in_filter (λ item. not (is_between a.0 b.0 item.on)) items x i).0
in_left t _ items x i = i

among_go : (t : Network) (s : Step) (items made new : List Item) → ((x : Item) → Contains items x → Contains made x) →
    (x : Item) → Contains (left_in_flight t s items ++ new) x → Contains (made ++ new) x
among_go t s items made new h x c = elim (in_append (left_in_flight t s items) new x (in_contained (left_in_flight t s items ++ new) x c)) [
  | inl i ↦ contained_in (made ++ new) x (in_front made new x (in_contained made x (h x (contained_in items x (in_left t s items x i)))))
  | inr i ↦ contained_in (made ++ new) x (in_rest made new x i)
]

flows_step : (t : Network) → EndsDiffer (wiring_of t) → (w : World) (p : Packets) (s : Step) (b : List ℕ) (tick count : ℕ) → fits t s ≡ true →
    is_empty t w p s ≡ false → IsInTurn t w → AreInOnePlace p count → (made : List Item) (flight : Flight) → IsInFlight t w p made flight
    → (let later : Packets = packets_after t (after t w s) p s b in
    let new : List (Channel × Load) = made_in t w (after t w s) p later s in
    IsInFlight t (after t w s) later (made ++ numbered t tick flight.made new) (with_made t tick new s flight))
flows_step t differ w p s b tick count fit full g one made flight f =
    let q : Packets = packets_after t (after t w s) p s b in
    let new : List (Channel × Load) = made_in t w (after t w s) p q s in
    record {
      counted = omega (arith, f.counted, length-append made (numbered t tick flight.made new), length_numbered t tick flight.made new);
      numbers = numbers_go t tick made flight.made new f.counted f.numbers;
      among = among_go t s flight.items made (numbered t tick flight.made new) f.among;
      order = λ on i. order_go t s tick flight.made new flight.items made on i (f.order on i);
      notices = λ l node below. notices_go t w p q s tick flight.made flight.items l node below full (f.notices l node below);
      messages = λ l node below at_end.
          let other = across-end (wiring_of t) l node (differ l below) at_end in
          messages_go t w p q s tick flight.made flight.items l node differ (link_there t s fit) below at_end full
          (subst (λ n. w.sessions.heard l (across (wiring_of t) l node) ≤ length (w.sessions.said l n)) other.1
          (g.ldp l (across (wiring_of t) l node) below other.0).heard) (f.messages l node below at_end);
      routes = λ edge peer d. routes_go t w p q s tick flight.made flight.items edge peer (in_order t s fit) full
          (f.routes edge peer d, (g.bgp peer edge (λ e. d (sym e))).heard);
      frames = λ l dir.
          later_loads t w p q s tick flight.made flight.items (Frames l dir)
          ∙ ap (λ r. loads_on (Frames l dir) (left_in_flight t s flight.items) ++ r) (made_for (Frames l dir) t w (after t w s) p q s)
          ∙ frames_go t (after t w s) p s b flight.items count l dir one f.frames;
    }

in_time_made : (t : Network) (clock : ℕ) (s : Step) (flight : Flight) → (in_time_by t clock s flight).made ≡ flight.made
in_time_made t clock (Tick n) flight = refl
in_time_made t clock _ flight = refl

flows_on : (t : Network) → Apart t → JoinsNodes (wiring_of t) → EndsDiffer (wiring_of t) →
    (es : List JournalEntry) (tick : ℕ) (w : World) (k : Packets) (i count : ℕ) (ps : List (List ℕ)) → IsLawfulFrom t tick w k i es ps → IsInTurn t w →
    AreInOnePlace k count
    → (made : List Item) (flight : Flight) → IsInFlight t w k made flight →
    IsInFlight t (world_from t w es) (packets_from t w k es ps) (made ++ made_from t w k flight.made es ps) (flight_from t w k flight es ps)
flows_on t distinct joins differ [] tick w k i count ps lawful g one made flight f = subst (λ m. IsInFlight t w k m flight) (sym (append-nil made)) f
flows_on t distinct joins differ (e ∷ es) tick w k i count ps lawful g one made flight f =
    let later : World = after t w e.step in
    let now : Packets = timed t e k in
    let packets : Packets = packets_after t later now e.step (next_of ps) in
    let new : List (Channel × Load) = made_in t w later now packets e.step in
    let full : is_empty t w k e.step ≡ false = not_empty t w k i e.step (next_of ps) lawful.2 in
    let there : is_empty t w now e.step ≡ false = timed_empty t w (clock_after e) e.step k ∙ full in
    let places : AreInOnePlace now count = timed_places t e k count one in
    let left : Flight = in_time t e flight in
    let counts : left.made ≡ flight.made = in_time_made t (clock_after e) e.step flight in
    subst (λ m. IsInFlight t (world_from t later es) (packets_from t later packets es (left_by e.step ps)) m
    (flight_from t later packets (with_made t e.tick new e.step left) es (left_by e.step ps)))
    (append_assoc made (numbered t e.tick left.made new) (made_from t later packets (left.made + length new) es (left_by e.step ps))
    ∙ ap (λ n. made ++ (numbered t e.tick n new ++ made_from t later packets (n + length new) es (left_by e.step ps))) counts)
    (flows_on t distinct joins differ es (clock_after e) later packets (i + 1) (one_if (injects e.step) + count) (left_by e.step ps) lawful.3
    (goes_step t distinct joins differ w k e.step lawful.0 full g) (stepped t later now e.step (next_of ps) count places)
    (made ++ numbered t e.tick left.made new) (with_made t e.tick new e.step left)
    (flows_step t differ w now e.step (next_of ps) e.tick count lawful.0 there g places made left (in_time_flies t w (clock_after e) e.step k made flight f)))

nothing_flies : (t : Network) → IsInFlight t (start t) no_packets [] (record { made = 0; items = [] })
nothing_flies t = record {
  counted = refl;
  numbers = λ place item e. absurd (clash item e);
  among = λ item c. c;
  order = λ on i. ([], refl);
  notices = λ l node below. refl;
  messages = λ l node below at_end. refl;
  routes = λ edge peer d. refl;
  frames = λ l dir. refl;
}
  where
    clash : (item : Item) → None ≡ Some item → ⊥
    clash item e = cc

pub in_flight : (t : Network) (es : List JournalEntry) (ps : List (List ℕ)) → IsLawful t → IsLawfulJournal t es ps →
    IsInFlight t (world_of t es) (packets_of t es ps) (made_by t es ps) (flight_of t es ps)
in_flight t es ps lawful journal =
    flows_on t (loopbacks_apart t lawful) lawful.joins_nodes lawful.ends_differ es 0 (start t) no_packets 0 0 ps journal (begins t) (record {
      places =
          λ j c. refl;
      verdicts = refl;
      paths = refl;
    }) [] (record { made = 0; items = [] }) (nothing_flies t)
