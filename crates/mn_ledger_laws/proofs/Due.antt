-- Each frame in flight is due its link's delay after it was sent.
use Rattle.std.proofs.Common.{ℕ, zero, suc, ◌≡◌, ◌≢◌, ◌+◌, ◌-◌, ◌<◌, inl, inr, true, false, List, [], ◌∷◌, ◌++◌, map, length, refl, arith, sym, ◌∙◌, ap, subst}
use Rattle.std.proofs.Common.{Option, Some, None, Bool}
use Rattle.std.specs.Prelude.{◌==◌, nat_le, slice_get, slice_index_or, ⊤, if◌then◌else◌, ◌≤◌}
use Rattle.std.specs.List.{Contains, list_all}
use Rattle.mn_drops.specs.declared.drops.Rule.{Rule}
use Rattle.mn_drops.specs.declared.drops.Rule.TheVariants as rule
use Rattle.mn_wiring.specs.declared.links.Dir.{Dir}
use Rattle.mn_wiring.specs.Wiring.{receiver, nodes_of, link, links_of}
use Rattle.mn_topo.specs.Network.{Network, wiring_of}
use Rattle.mn_topo.specs.declared.steps.Step.{Step}
use Rattle.mn_topo.specs.declared.steps.Step.TheVariants.{Inject, Carry, LinkUp, LinkDown}
use Rattle.mn_topo.specs.declared.steps.JournalEntry.{JournalEntry}
use Rattle.mn_ledger.specs.declared.verdict.Verdict.{Verdict}
use Rattle.mn_ledger.specs.declared.verdict.Verdict.TheVariants.{Delivered, Dropped, Flying}
use Rattle.mn_ledger.specs.Entry.{first_rule}
use Rattle.mn_ledger.specs.Tables.{put}
use Rattle.mn_ledger.specs.Places.{home_of, vrf_of}
use Rattle.mn_ledger.specs.World.{World}
use Rattle.mn_ledger.specs.Packets.{Token, Packets, channel, flying_on, away_from, judged, hop_over, stamped, bound, entry_rules, enter_by, one_more, taken}
use Rattle.mn_ledger.specs.Packets.{visited}
use Rattle.mn_ledger.specs.Packets.{carry, before_step, packets_after, deliver}
use Rattle.mn_ledger.specs.Ledger.{after, start, no_packets, injects, next_of, left_by, packets_by, packets_of}
use Rattle.mn_ledger.specs.Time.{clock_after, timed, ticks_in, timed_by}
use Rattle.mn_ledger.specs.Verdicts.{one_if, verdict_on, AreInOnePlace}
use Rattle.mn_ledger.specs.Items.{Channel, Load, Carries, Item, Flight, delay_on, last_of, frame_by, frames_in, notices_in, messages_in, routes_in, made_in}
use Rattle.mn_ledger.specs.Items.{numbered}
use Rattle.mn_ledger.specs.Items.{left_in_flight, with_made, in_time, flight_from, flight_of, frame_after, Frames, Notices, Notice, message_of}
use Rattle.mn_ledger.proofs.GoingBy.{put_here}
use Rattle.mn_ledger.proofs.Members.{In, in_append, in_map, in_contained, in_filter, contained_in}
use Rattle.mn_ledger.proofs.OnePlace.{loosen, stepped, timed_places}
use Rattle.mn_ledger_laws.specs.Flight.{IsDueAsSent, is_frame}
use Rattle.mn_ledger_laws.proofs.Elsewhere.{judged_here, push_here}
use Rattle.mn_ledger_laws.proofs.Entering.{enters}
use Rattle.mn_ledger_laws.proofs.Moving.{after_time, injected_is, carried_is, arrives}
use Rattle.mn_ledger_laws.proofs.Expired.{later}
use Rattle.mn_ledger.proofs.Flows.{in_left, in_flight}
use Rattle.mn_ledger_laws.proofs.Channels.{in_time_in}
use Rattle.mn_ledger.specs.Items.{route_of, same_channel, items_on, Messages, Routes}
use Rattle.mn_ledger_laws.proofs.Copies.{nowhere}
use Rattle.mn_ipv4.specs.Header.{ttl_of}
use Rattle.std.proofs.lemmas.List.{length_push}
use Rattle.mn_ledger.specs.Transport.{is_transport}
use Rattle.mn_ledger.specs.Bgp.{is_routing}
use Rattle.mn_base.proofs.Bools.{and_on, same_numbers, at_most_is}
use Rattle.mn_ledger_laws.proofs.Fates.{one_link}
use Rattle.mn_topo.specs.Lawful.{IsLawful}
use Rattle.mn_ledger.specs.Lawful.{IsLawfulJournal, none_is_due_before}
use Rattle.mn_wiring.specs.declared.links.Dir.TheVariants.{Forth, Back}
use Rattle.mn_base.proofs.Members.{map_in}

-- 1. A frame that is made is sent now

-- a frame was sent at this tick
abbrev SentAt : ℕ → Load → Type 0
SentAt clock (Carries token) = token.sent ≡ clock
SentAt clock _ = ⊤

abbrev AllSent : ℕ → List (Channel × Load) → Type 0
AllSent clock xs = (x : Channel × Load) → In xs x → SentAt clock x.1

-- of the packet's frame that is made, if there is one
abbrev IsSentNow : ℕ → ℕ → Packets → Type 0
IsSentNow clock j q = AllSent clock (frame_by q (verdict_on q j))

no_more : (clock j : ℕ) (q : Packets) (v : Verdict) → verdict_on q j ≡ v → AllSent clock (frame_by q v) → IsSentNow clock j q
no_more clock j q v e h = subst (λ x. AllSent clock (frame_by q x)) (sym e) h

dropped_now : (clock j : ℕ) (u : Packets) (cause : Rule) (node : ℕ) → j < length u.verdicts →
    IsSentNow clock j (judged u j (Dropped cause (record { 0 = node })))
dropped_now clock j u cause node h = no_more clock j (judged u j (Dropped cause (record { 0 = node }))) (Dropped cause (record { 0 = node }))
    (judged_here u j (Dropped cause (record { 0 = node })) h) (λ x i. absurd i)

last_pushed : (xs : List Token) (k : Token) → last_of (xs ++ k ∷ []) ≡ k ∷ []
last_pushed [] k = refl
last_pushed (x ∷ []) k = refl
last_pushed (x ∷ y ∷ xs) k = last_pushed (y ∷ xs) k

hopped_now : (t : Network) (u : Packets) (k : Token) (node : ℕ) (cause : Rule) (hop : ℕ × ℕ) → k.packet < length u.verdicts
    → IsSentNow u.clock k.packet (hop_over t u (stamped u k) node cause (Some hop))
hopped_now t u k node cause hop h =
    no_more u.clock k.packet q (Flying (record { 0 = hop.1 }) dir) (judged_here u k.packet (Flying (record { 0 = hop.1 }) dir) h)
    (λ x i. let m = in_map (λ token. (Frames hop.1 dir, Carries token)) (last_of (flying_on q hop.1 dir)) x i in
    subst (λ (y : Channel × Load). SentAt u.clock y.1) m.2 (only m.0 (subst (λ ks. In ks m.0) last m.1)))
  where
    dir : Dir
    dir = away_from t hop.1 node

    q : Packets
    q = hop_over t u (stamped u k) node cause (Some hop)

    last : last_of (flying_on q hop.1 dir) ≡ stamped u k ∷ []
    last = ap last_of (put_here u.flying (channel hop.1 dir) (flying_on u hop.1 dir ++ stamped u k ∷ [])) ∙ last_pushed (flying_on u hop.1 dir) (stamped u k)

    only : (x : Token) → In (stamped u k ∷ []) x → x.sent ≡ u.clock
    only x i = elim i [ inl e ↦ ap (λ (y : Token). y.sent) (sym e) | inr z ↦ absurd z ]

entered_now : (t : Network) (w : World) (k : Packets) (site : ℕ) (b : List ℕ)
    → IsSentNow k.clock (length k.verdicts) (enter_by t w (one_more (before_step k) (home_of t site)) (length k.verdicts) b (home_of t site) (vrf_of t site)
    (first_rule (entry_rules (w.config.attached site) b)))
entered_now t w k site b =
    enters (IsSentNow k.clock (length k.verdicts)) t w u (length k.verdicts) site b (record {
      falls = λ cause f. dropped_now k.clock (length k.verdicts) u cause (home_of t site) inside;
      delivered = λ x p m e. no_more k.clock (length k.verdicts) (deliver u (length k.verdicts) x.site (ttl_of b - 1) b)
          (Delivered (ttl_of b - 1) (record { 0 = x.site }) (u.copies + 1))
          (judged_here u (length k.verdicts) (Delivered (ttl_of b - 1) (record { 0 = x.site }) (u.copies + 1)) inside) (λ y i. absurd i);
      flies = λ x hop p m e q. hopped_now t u (bound (length k.verdicts) x b) (home_of t site) rule.NoLsp hop inside;
    })
  where
    u : Packets
    u = one_more (before_step k) (home_of t site)

    inside : length k.verdicts < length u.verdicts
    inside = omega (arith, length_push k.verdicts (Dropped rule.Lost (record { 0 = home_of t site })))

carried_now : (t : Network) (w : World) (k : Packets) (count l : ℕ) (d : Dir) (place node : ℕ) (o : Option Token) → AreInOnePlace k count
    → slice_get (flying_on k l d) place ≡ o → AllSent k.clock (frame_after (carry t w (taken (before_step k) l d place) node o) o)
carried_now t w k count l d place node None one at = λ x i. absurd i
carried_now t w k count l d place node (Some f) one at =
    arrives (IsSentNow k.clock f.packet) t w u f node (record {
      expires = λ a. dropped_now k.clock f.packet u rule.TtlExpired node inside;
      delivered = λ a b c. no_more k.clock f.packet (deliver u f.packet f.site (f.ttl - 1) f.bytes)
          (Delivered (f.ttl - 1) (record { 0 = f.site }) (u.copies + 1))
          (judged_here u f.packet (Delivered (f.ttl - 1) (record { 0 = f.site }) (u.copies + 1)) inside) (λ y i. absurd i);
      gone = λ a b c. dropped_now k.clock f.packet u rule.SiteGone node inside;
      stuck = λ a b c. dropped_now k.clock f.packet u rule.NoEntry node inside;
      flies = λ a b hop c. hopped_now t u (record f { ttl = f.ttl - 1 }) node rule.NoEntry hop inside;
    })
  where
    u : Packets
    u = visited (taken (before_step k) l d place) f.packet node

    inside : f.packet < length u.verdicts
    inside = (loosen k (channel l d) place count f one at).within

-- what a step makes at this tick, once time has gone on to this clock
frames_at : (t : Network) (w : World) (k : Packets) (count clock tick : ℕ) (s : Step) (b : List ℕ) → AreInOnePlace k count → clock ≡ tick + ticks_in s
    → AllSent tick (frames_in (timed_by t clock s k) (after_time t clock w k s b) s)
frames_at t w k count clock tick (Inject site n) b one e =
    subst (λ c. AllSent c (frame_by (after_time t clock w k (Inject site n) b) (verdict_on (after_time t clock w k (Inject site n) b) (length k.verdicts))))
    (now e)
    (subst (IsSentNow clock (length k.verdicts)) (sym (injected_is t w (later k clock) site n b)) (entered_now t w (later k clock) site.0 b))
  where
    now : clock ≡ tick + 0 → clock ≡ tick
    now h = omega (arith, h)
frames_at t w k count clock tick (Carry l d place) b one e =
    subst (λ c. AllSent c (frame_after (after_time t clock w k (Carry l d place) b) (slice_get (flying_on k l.0 d) place))) (now e)
    (subst (λ q. AllSent clock (frame_after q (slice_get (flying_on k l.0 d) place))) (sym (carried_is t w (later k clock) l d place b))
    (carried_now t w (later k clock) count l.0 d place (receiver (wiring_of t) l.0 d) (slice_get (flying_on k l.0 d) place)
    (record { places = one.places; verdicts = one.verdicts; paths = one.paths }) refl))
  where
    now : clock ≡ tick + 0 → clock ≡ tick
    now h = omega (arith, h)
frames_at t w k count clock tick _ b one e = λ x i. absurd i

-- 2. Whatever is made

if_sent : (clock : ℕ) (b : Bool) (xs : List (Channel × Load)) → AllSent clock xs → AllSent clock (if b then xs else [])
if_sent clock true xs h = h
if_sent clock false xs h = λ x i. absurd i

both_sent : (clock : ℕ) (xs ys : List (Channel × Load)) → AllSent clock xs → AllSent clock ys → AllSent clock (xs ++ ys)
both_sent clock xs ys h g x i = elim (in_append xs ys x i) [ inl j ↦ h x j | inr j ↦ g x j ]

no_frames : {A : Type 0} (clock : ℕ) (make : A → Channel × Load) (xs : List A) → ((a : A) → SentAt clock (make a).1) → AllSent clock (map make xs)
no_frames clock make xs h x i = let m = in_map make xs x i in subst (λ (y : Channel × Load). SentAt clock y.1) m.2 (h m.0)

notices_sent : (t : Network) (clock : ℕ) (s : Step) → AllSent clock (notices_in t s)
notices_sent t clock (LinkUp l) = no_frames clock (λ node. (Notices l.0 node, Notice)) (nodes_of (wiring_of t)) (λ node. tt)
notices_sent t clock (LinkDown l) = no_frames clock (λ node. (Notices l.0 node, Notice)) (nodes_of (wiring_of t)) (λ node. tt)
notices_sent t clock _ = λ x i. absurd i

made_at : (t : Network) (w v : World) (p q : Packets) (tick : ℕ) (s : Step) → AllSent tick (frames_in p q s) → AllSent tick (made_in t w v p q s)
made_at t w v p q tick s h =
    both_sent tick (notices_in t s) _ (notices_sent t tick s)
    (both_sent tick (messages_in t w v s) _ (if_sent tick (is_transport s) _ (no_frames tick message_of _ (λ a. tt)))
    (both_sent tick (routes_in t w v s) _ (if_sent tick (is_routing s) _ (no_frames tick route_of _ (λ a. tt))) h))

-- 3. A journal

abbrev AllDue : Network → List Item → Type 0
AllDue t xs = (x : Item) → In xs x → IsDueAsSent t x.on x.load x.due

due_made : (t : Network) (on : Channel) (load : Load) (tick : ℕ) → SentAt tick load → IsDueAsSent t on load (tick + delay_on t on)
due_made t on (Carries token) tick h = ap (λ n. n + delay_on t on) (sym h)
due_made t on _ tick h = tt

numbered_due : (t : Network) (tick n : ℕ) (new : List (Channel × Load)) → AllSent tick new → AllDue t (numbered t tick n new)
numbered_due t tick n [] h x i = absurd i
numbered_due t tick n (m ∷ ms) h x i = elim i [
  | inl e ↦ subst (λ (y : Item). IsDueAsSent t y.on y.load y.due) e (due_made t m.0 m.1 tick (h m (inl refl)))
  | inr j ↦ numbered_due t tick (n + 1) ms (λ y k. h y (inr k)) x j
]

due_from : (t : Network) (es : List JournalEntry) (w : World) (k : Packets) (count : ℕ) (f : Flight) (ps : List (List ℕ)) → AreInOnePlace k count
    → AllDue t f.items → AllDue t (flight_from t w k f es ps).items
due_from t [] w k count f ps one h = h
due_from t (e ∷ es) w k count f ps one h =
    let v : World = after t w e.step in
    let now : Packets = timed t e k in
    let q : Packets = packets_by t v k e (next_of ps) in
    let new : List (Channel × Load) = made_in t w v now q e.step in
    let left : Flight = in_time t e f in
    due_from t es v q (one_if (injects e.step) + count) (with_made t e.tick new e.step left) (left_by e.step ps)
    (stepped t v now e.step (next_of ps) count (timed_places t e k count one))
    (λ x j. elim (in_append (left_in_flight t e.step left.items) (numbered t e.tick left.made new) x j) [
      | inl m ↦ h x (in_time_in t (clock_after e) e.step f x (in_left t e.step left.items x m))
      | inr m ↦ numbered_due t e.tick left.made new
          (made_at t w v now q e.tick e.step (frames_at t w k count (clock_after e) e.tick e.step (next_of ps) one refl)) x m
    ])

pub due_as_sent : (t : Network) (es : List JournalEntry) (ps : List (List ℕ)) (item : Item) → Contains (flight_of t es ps).items item
    → IsDueAsSent t item.on item.load item.due
due_as_sent t es ps item c =
    due_from t es (start t) no_packets 0 (record { made = 0; items = [] }) ps nowhere (λ x i. absurd i) item (in_contained (flight_of t es ps).items item c)

-- 4. Nothing is due before a tick where no frame in flight is

all_of : {A : Type 0} (p : A → Bool) (xs : List A) → ((x : A) → In xs x → p x ≡ true) → list_all p xs ≡ true
all_of p [] h = refl
all_of p (x ∷ xs) h = and_on (p x) (list_all p xs) (h x (inl refl)) (all_of p xs (λ y i. h y (inr i)))

on_frames : (l : ℕ) (d : Dir) (on : Channel) → same_channel (Frames l d) on ≡ true → on ≡ Frames l d
on_frames l d (Frames k b) h =
    let one = one_link k l b d (same_numbers (channel k b) (channel l d) h) in
    ap (λ n. Frames n b) one.0 ∙ ap (Frames l) one.1
on_frames l d (Notices k n) h = cc
on_frames l d (Messages k n) h = cc
on_frames l d (Routes k n) h = cc

module _ (t : Network) (es : List JournalEntry) (ps : List (List ℕ)) (tick : ℕ) (lawful : IsLawful t) (journal : IsLawfulJournal t es ps)
    (late : (x : Item) → In (flight_of t es ps).items x → is_frame x.on ≡ true → tick ≤ x.due) where
  token_due : (l : ℕ) (d : Dir) (token : Token) → In (flying_on (packets_of t es ps) l d) token
      → nat_le tick (token.sent + (link (wiring_of t) l).delay) ≡ true
  token_due l d token i =
      let load = in_map (λ (item : Item). item.load) (items_on (Frames l d) (flight_of t es ps).items) (Carries token)
      (subst (λ loads. In loads (Carries token)) (sym ((in_flight t es ps lawful journal).frames l d))
      (map_in (λ token. Carries token) (flying_on (packets_of t es ps) l d) token i)) in
      let item = in_filter (λ item. same_channel (Frames l d) item.on) (flight_of t es ps).items load.0 load.1 in
      let on : load.0.on ≡ Frames l d = on_frames l d load.0.on item.1 in
      let due : load.0.due ≡ token.sent + (link (wiring_of t) l).delay =
      subst (λ c. IsDueAsSent t c (Carries token) load.0.due) on
      (subst (λ x. IsDueAsSent t load.0.on x load.0.due) load.2
      (due_as_sent t es ps load.0 (contained_in (flight_of t es ps).items load.0 item.0))) in
      at_most_is tick (token.sent + (link (wiring_of t) l).delay)
      (subst (λ n. tick ≤ n) due (late load.0 item.0 (ap is_frame on)))

  pub none_due : none_is_due_before t (packets_of t es ps) tick ≡ true
  none_due = all_of _ (links_of (wiring_of t)) (λ l i. all_of _ _ (λ token j. elim (in_append (flying_on (packets_of t es ps) l Forth)
      (flying_on (packets_of t es ps) l Back) token j) [
        | inl k ↦ token_due l Forth token k
        | inr k ↦ token_due l Back token k
      ]))
