-- How many items a step makes at most.
use Rattle.std.proofs.Common.{ℕ, zero, suc, ◌≡◌, ◌+◌, ◌*◌, ◌≤◌, Bool, true, false, cond, List, [], ◌∷◌, ◌++◌, map, filter, length, refl, arith, ap}
use Rattle.std.proofs.Common.{length-append}
use Rattle.std.proofs.Common.{Option, Some, None}
use Rattle.std.specs.Prelude.{◌==◌, ◌&&◌, not, nat_le, if◌then◌else◌, slice_get, slice_index_or}
use Rattle.std.specs.List.{flat_map, range_with_len, list_any}
use Rattle.std.proofs.Math.Nat.{mul-suc}
use Rattle.std.proofs.lemmas.List.{length-map}
use Rattle.std.proofs.lemmas.List.Filters.{length-filter_both}
use Rattle.mn_base.proofs.Bools.{same_numbers, at_most_tells, not_at_most_tells}
use Rattle.mn_states.specs.declared.states.LdpState.{LdpState}
use Rattle.mn_states.specs.declared.states.LdpState.TheVariants as ldp
use Rattle.mn_states.specs.declared.states.BgpState.{BgpState}
use Rattle.mn_states.specs.declared.states.BgpState.TheVariants as bgp
use Rattle.mn_wiring.specs.Wiring.{Wiring, nodes_of, links_at, link, is_end, across, joining, sender, receiver}
use Rattle.mn_wiring.specs.declared.links.Dir.{Dir}
use Rattle.mn_topo.specs.Network.{Network, wiring_of}
use Rattle.mn_topo.specs.Lawful.{IsLawful}
use Rattle.mn_topo.specs.VrfTable.{is_edge}
use Rattle.mn_topo.specs.declared.steps.Step.{Step}
use Rattle.mn_topo.specs.declared.steps.Step.TheVariants as step
use Rattle.mn_ledger.specs.declared.verdict.Verdict.{Verdict}
use Rattle.mn_ledger.specs.declared.verdict.Verdict.TheVariants.{Flying}
use Rattle.mn_ledger.specs.Places.{vrfs_at, edges, edge_of}
use Rattle.mn_ledger.specs.World.{World, Config, Views, Sessions, Peerings, Export, SiteRoute, Telling, Open, BgpKeepAlive, Announcement, Withdrawal}
use Rattle.mn_ledger.specs.World.{Message, Initialization, Address}
use Rattle.mn_ledger.specs.Transport as ledger_transport
use Rattle.mn_ledger.specs.Transport.{Said, Knowledge, knowledge_of, lives, ldp_state_of, said_on, answer, mention, mentioned_on, mentioned_from, offered}
use Rattle.mn_ledger.specs.Transport.{by_neighbour, offers, is_operational, news, opening, ldp_replies, ends_first, speakers, said_in, is_transport}
use Rattle.mn_ledger.specs.Transport.{ldp_counted}
use Rattle.mn_ledger.specs.Exports.{exports_of, exports_with, in_order, placed, comes_before, export_of, is_present}
use Rattle.mn_ledger.specs.Bgp as ledger_bgp
use Rattle.mn_ledger.specs.Bgp.{Told, told_to, reply, bgp_replies, withdrawn, announced, changed, steady_peers, route_news, told_in, is_routing, bgp_state_of}
use Rattle.mn_ledger.specs.Packets.{Token, Packets, flying_on}
use Rattle.mn_ledger.specs.Verdicts.{verdict_on}
use Rattle.mn_ledger.proofs.Saying.{few-answers}
use Rattle.mn_ledger.specs.Items.{Channel, Notices, Frames, Load, Notice, Carries, notices_in, message_of, messages_in, route_of, routes_in, last_of, frame_by}
use Rattle.mn_ledger.specs.Items.{frame_after, frames_in, made_in}

-- 1. Lists

each : {A B : Type 0} (f : A → List B) (k : ℕ) → ((x : A) → length (f x) ≤ k) → (xs : List A) → length (flat_map f xs) ≤ k * length xs
each f k h [] = omega arith
each f k h (x ∷ xs) = omega (arith, length-append (f x) (flat_map f xs), h x, each f k h xs, mul-suc k (length xs))

pub fewer : {A : Type 0} (p : A → Bool) (xs : List A) → length (filter p xs) ≤ length xs
fewer p xs = omega (arith, length-filter_both p (λ x. not (p x)) (λ x. refl) xs)

range-long : (a n : ℕ) → length (range_with_len a n) ≡ n
range-long a zero = refl
range-long a (suc n) = ap suc (range-long (a + 1) n)

-- what is at the place `a`, and what is behind it
parts : (f : ℕ → ℕ) (a : ℕ) (vs : List ℕ) →
    length (filter (λ v. f v == a) vs) + length (filter (λ v. nat_le (a + 1) (f v)) vs) ≤ length (filter (λ v. nat_le a (f v)) vs)
parts f a [] = omega arith
parts f a (v ∷ vs) = split (f v == a) (nat_le (a + 1) (f v)) (nat_le a (f v)) refl refl refl (parts f a vs)
  where
    here : List ℕ
    here = filter (λ x. f x == a) vs

    behind : List ℕ
    behind = filter (λ x. nat_le (a + 1) (f x)) vs

    all : List ℕ
    all = filter (λ x. nat_le a (f x)) vs

    split : (p q r : Bool) → (f v == a) ≡ p → nat_le (a + 1) (f v) ≡ q → nat_le a (f v) ≡ r →
        length here + length behind ≤ length all →
        length (cond p (v ∷ here) here) + length (cond q (v ∷ behind) behind) ≤ length (cond r (v ∷ all) all)
    split true true r e g h few = absurd (omega (arith, same_numbers (f v) a e, at_most_tells (a + 1) (f v) g))
    split true false true e g h few = omega (arith, few)
    split true false false e g h few = absurd (omega (arith, same_numbers (f v) a e, not_at_most_tells a (f v) h))
    split false true true e g h few = omega (arith, few)
    split false true false e g h few = absurd (omega (arith, at_most_tells (a + 1) (f v) g, not_at_most_tells a (f v) h))
    split false false true e g h few = omega (arith, few)
    split false false false e g h few = omega (arith, few)

-- each of these is at one place
apart : (f : ℕ → ℕ) (p : ℕ → Bool) (vs : List ℕ) (a n : ℕ) →
    length (flat_map (λ k. filter (λ v. f v == k) vs) (filter p (range_with_len a n))) ≤ length (filter (λ v. nat_le a (f v)) vs)
apart f p vs a zero = omega arith
apart f p vs a (suc n) = split (p a) (apart f p vs (a + 1) n)
  where
    at : ℕ → List ℕ
    at k = filter (λ v. f v == k) vs

    rest : List ℕ
    rest = filter p (range_with_len (a + 1) n)

    split : (b : Bool) → length (flat_map at rest) ≤ length (filter (λ v. nat_le (a + 1) (f v)) vs) →
        length (flat_map at (cond b (a ∷ rest) rest)) ≤ length (filter (λ v. nat_le a (f v)) vs)
    split true h = omega (arith, length-append (at a) (flat_map at rest), h, parts f a vs)
    split false h = omega (arith, h, parts f a vs)

-- 2. Notices

on_notices : ℕ → ℕ → Channel × Load
on_notices l node = (Notices l node, Notice)

few_notices : (t : Network) (s : Step) → length t.loopbacks ≤ 256 → length (notices_in t s) ≤ 256
unfolding on_notices
few_notices t (step.LinkUp l) h = omega (arith, h, length-map (nodes_of (wiring_of t)) (λ node. on_notices l.0 node), range-long 0 (length t.loopbacks))
few_notices t (step.LinkDown l) h = omega (arith, h, length-map (nodes_of (wiring_of t)) (λ node. on_notices l.0 node), range-long 0 (length t.loopbacks))
few_notices t _ h = omega arith

-- 3. Messages of LDP

pub few_answers : (state : LdpState) (message : Message) → length (answer state message) ≤ 2
few_answers state message = few-answers state message

said_length : (l n : ℕ) (ms : List Message) → length (said_on l n ms) ≡ length ms
said_length l n [] = refl
said_length l n (m ∷ ms) = ap suc (said_length l n ms)

few_opening : (t : Network) (c : Config) (k : ℕ) → length (opening t c k) ≤ 2
few_opening t c k = either (lives c k)
  where
    either : (b : Bool) → length {A = Said} (elim b [
      | true ↦
          said_on k (if ledger_transport.is_active t k (link (wiring_of t) k).a.0 then (link (wiring_of t) k).a.0 else (link (wiring_of t) k).b.0)
          (Initialization ∷ [])
      | false ↦ []
    ]) ≤ 2
    either true = omega arith
    either false = omega arith

few_replies : (t : Network) (c : Config) (s : Sessions) (done : Step) → length (ldp_replies t c s done) ≤ 2
few_replies t c s (step.LinkUp k) = few_opening t c k.0
few_replies t c s (step.LdpAdmin k on) = few_opening t c k.0
few_replies t c s (step.HearLdp k dir) =
    let node : ℕ = receiver (wiring_of t) k.0 dir in
    let other : ℕ = sender (wiring_of t) k.0 dir in
    let message : Message = slice_index_or (s.said k.0 other) (s.heard k.0 node) Address in
    omega (arith, said_length k.0 node (answer (ldp_state_of t s k.0 node) message), few_answers (ldp_state_of t s k.0 node) message)
few_replies t c s _ = omega arith

one_mention : (was is : Bool) (q : ℕ) → length (mention was is q) ≤ 1
one_mention true true q = omega arith
one_mention true false q = omega arith
one_mention false true q = omega arith
one_mention false false q = omega arith

module _ (before after : Knowledge) (n : ℕ) where
  on_link : (q : ℕ) (was is : Bool) (j : ℕ) → length (mentioned_on before after n q was is j) ≤ 1
  on_link q was is j = either (is_operational after j)
    where
      either : (on : Bool) → length (if on then said_on j n (mention (is_operational before j && was) is q) else []) ≤ 1
      either true =
          omega (arith, said_length j n (mention (is_operational before j && was) is q), one_mention (is_operational before j && was) is q)
      either false = omega arith

  mentions : (k : ℕ) (links : List ℕ) (q : ℕ) (weres ares : List Bool) → length links ≤ k →
      length (mentioned_from before after n links q weres ares) ≤ k * length weres
  mentions k links q [] ares few = omega arith
  mentions k links q (was ∷ weres) [] few = omega arith
  mentions k links q (was ∷ weres) (is ∷ ares) few = omega (
    arith,
    length-append (flat_map (mentioned_on before after n q was is) links) (mentioned_from before after n links (q + 1) weres ares),
    each (mentioned_on before after n q was is) 1 (on_link q was is) links,
    mentions k links (q + 1) weres ares few,
    few,
    mul-suc k (length weres),
  )

joined : (w : Wiring) (m n : ℕ) → length w.ends ≤ 1024 → length (joining w m n) ≤ 1024
joined w m n few = omega (
  arith,
  fewer (λ l. across w l m == n) (links_at w m),
  fewer (λ l. is_end w l m) (range_with_len 0 (length w.ends)),
  range-long 0 (length w.ends),
  few,
)

neighbours : (w : Wiring) (n : ℕ) → length w.ends ≤ 1024 → length w.loopbacks ≤ 256 → length (by_neighbour w n) ≤ 262144
neighbours w n links nodes = omega (
  arith,
  each (joining w n) 1024 (λ b. joined w n b links) (nodes_of w),
  range-long 0 (length w.loopbacks),
  nodes,
)

pub few_news : (w : Wiring) (before after : Knowledge) (n : ℕ) → length w.ends ≤ 1024 → length w.loopbacks ≤ 256 →
    length (news w before after n) ≤ 67108864
unfolding news
few_news w before after n links nodes = omega (
  arith,
  mentions before after n 262144 (by_neighbour w n) 0 (offered w before n) (offered w after n) (neighbours w n links nodes),
  length-map (nodes_of w) (offers w before n),
  range-long 0 (length w.loopbacks),
  nodes,
)

few_ends : (w : Wiring) (l : ℕ) → length w.loopbacks ≤ 256 → length (ends_first w l) ≤ 258
few_ends w l nodes = omega (arith, fewer (λ node. not (is_end w l node)) (nodes_of w), range-long 0 (length w.loopbacks), nodes)

few_speakers : (w : Wiring) (s : Step) → length w.loopbacks ≤ 256 → length (speakers w s) ≤ 258
few_speakers w (step.LinkUp l) nodes = few_ends w l.0 nodes
few_speakers w (step.LinkDown l) nodes = few_ends w l.0 nodes
few_speakers w (step.LdpAdmin l on) nodes = few_ends w l.0 nodes
few_speakers w _ nodes = omega (arith, range-long 0 (length w.loopbacks), nodes)

few_said : (t : Network) (c : Config) (v : Views) (s : Sessions) (new : Config) (nv : Views) (ns : Sessions) (done : Step) → IsLawful t →
    length (said_in t c v s new nv ns done) ≤ 17314086914
few_said t c v s new nv ns done lawful =
    let w : Wiring = wiring_of t in
    let replies : List Said = ldp_replies t new s done in
    let said : List Said = flat_map (λ m. news w (knowledge_of w c v s m) (knowledge_of w new nv ns m) m) (speakers w done) in
    let some : length said ≤ 67108864 * length (speakers w done) =
    each (λ m. news w (knowledge_of w c v s m) (knowledge_of w new nv ns m) m) 67108864
    (λ m. few_news w (knowledge_of w c v s m) (knowledge_of w new nv ns m) m lawful.few_links lawful.few_nodes) (speakers w done) in
    both (length replies) (length said) (length (speakers w done)) (length (replies ++ said)) (length-append replies said) (few_replies t new s done) some
    (few_speakers w done lawful.few_nodes)
  where
    both : (m n k all : ℕ) → all ≡ m + n → m ≤ 2 → n ≤ 67108864 * k → k ≤ 258 → all ≤ 17314086914
    both m n k all e few some speak = omega (arith, e, few, some, speak)

few_messages : (t : Network) (w later : World) (s : Step) → IsLawful t → length (messages_in t w later s) ≤ 17314086914
few_messages t w later s lawful = split (is_transport s)
  where
    said : List Said
    said = said_in t w.config w.views w.sessions later.config later.views (ldp_counted t w.sessions s) s

    split : (b : Bool) → length (if b then map message_of said else []) ≤ 17314086914
    split true = omega (
      arith,
      length-map said message_of,
      few_said t w.config w.views w.sessions later.config later.views (ldp_counted t w.sessions s) s lawful,
    )
    split false = omega arith

-- 4. Messages of BGP

placed_length : (x : Export) (xs : List Export) → length (placed x xs) ≡ suc (length xs)
placed_length x [] = refl
placed_length x (y ∷ ys) = split (comes_before x.prefix y.prefix) (placed_length x ys)
  where
    split : (b : Bool) → length (placed x ys) ≡ suc (length ys) → length (if b then x ∷ y ∷ ys else y ∷ placed x ys) ≡ suc (suc (length ys))
    split true h = refl
    split false h = ap suc h

ordered_length : (xs : List Export) → length (in_order xs) ≡ length xs
ordered_length [] = refl
ordered_length (x ∷ xs) = omega (arith, placed_length x (in_order xs), ordered_length xs)

few_exports : (t : Network) (c : Config) (v : ℕ) (targets : List ℕ) → length c.statics ≤ 65536 → length (exports_with t c v targets) ≤ 65536
few_exports t c v [] few = omega arith
few_exports t c v (target ∷ targets) few =
    let present : List SiteRoute = filter (is_present t c v) c.statics in
    omega (
      arith,
      ordered_length (map (export_of c v (target ∷ targets)) present),
      length-map present (export_of c v (target ∷ targets)),
      fewer (is_present t c v) c.statics,
      few,
    )

exports_few : (t : Network) (c : Config) (edge : ℕ) → length c.statics ≤ 65536 → length (exports_of t c edge) ≤ 65536 * length (vrfs_at t edge)
exports_few t c edge few = each (λ v. exports_with t c v (c.exports v)) 65536 (λ v. few_exports t c v (c.exports v) few) (vrfs_at t edge)

all_vrfs : (t : Network) → length t.vrfs ≤ 512 → length (flat_map (vrfs_at t) (edges t)) ≤ 512
all_vrfs t few =
    let vs : List ℕ = range_with_len 0 (length t.vrfs) in
    omega (
      arith,
      apart (edge_of t) (is_edge t.vrfs) vs 0 (length t.loopbacks),
      fewer (λ v. nat_le 0 (edge_of t v)) vs,
      range-long 0 (length t.vrfs),
      few,
    )

some_vrfs : (t : Network) (edge : ℕ) → length t.vrfs ≤ 512 → length (vrfs_at t edge) ≤ 512
some_vrfs t edge few =
    let vs : List ℕ = range_with_len 0 (length t.vrfs) in
    omega (arith, fewer (λ v. edge_of t v == edge) vs, range-long 0 (length t.vrfs), few)

few_changed : (before after : List Export) → length (changed before after) ≤ length before + length after
few_changed before after =
    let gone : List Export = filter (λ export. not (list_any (ledger_bgp.is_for export.vrf export.prefix) after)) before in
    let new : List Export = filter (λ export. not (list_any (ledger_bgp.same_export export) before)) after in
    omega (
      arith,
      length-append (withdrawn before after) (announced before after),
      length-map gone (λ export. Withdrawal export.vrf export.prefix),
      length-map new (λ export. Announcement export),
      fewer (λ export. not (list_any (ledger_bgp.is_for export.vrf export.prefix) after)) before,
      fewer (λ export. not (list_any (ledger_bgp.same_export export) before)) after,
    )

few_told : (t : Network) (c : Config) (p : Peerings) (new : Config) (np : Peerings) (edge : ℕ) → length t.loopbacks ≤ 256 →
    length c.statics ≤ 65536 → length new.statics ≤ 65536 → length (route_news t c p new np edge) ≤ 33554432 * length (vrfs_at t edge)
few_told t c p new np edge nodes few fewer_then =
    let peers : List ℕ = steady_peers t c p new np edge in
    let tells : Telling → List Told = λ telling. map (λ peer. record { teller = edge; peer = peer; telling = telling }) peers in
    omega (
      arith,
      each tells 256
          (λ telling. omega (
            arith,
            length-map {B = Told} peers (λ peer. record { teller = edge; peer = peer; telling = telling }),
            fewer (λ peer. ledger_bgp.is_established c p edge peer && ledger_bgp.is_established new np edge peer) (nodes_of (wiring_of t)),
            range-long 0 (length t.loopbacks),
            nodes,
          ))
          (changed (exports_of t c edge) (exports_of t new edge)),
      few_changed (exports_of t c edge) (exports_of t new edge),
      exports_few t c edge few,
      exports_few t new edge fewer_then,
    )

each_edge : (f : ℕ → List Told) (g : ℕ → List ℕ) → ((x : ℕ) → length (f x) ≤ 33554432 * length (g x)) → (xs : List ℕ) →
    length (flat_map f xs) ≤ 33554432 * length (flat_map g xs)
each_edge f g h [] = omega arith
each_edge f g h (x ∷ xs) =
    omega (arith, length-append (f x) (flat_map f xs), length-append (g x) (flat_map g xs), h x, each_edge f g h xs)

few_reply : (state : BgpState) (telling : Telling) (exports : List Export) → length (reply state telling exports) ≤ 1 + length exports
few_reply bgp.OpenSent Open xs = omega arith
few_reply bgp.OpenConfirm BgpKeepAlive xs = omega (arith, length-map xs (λ export. Announcement export))
few_reply _ _ xs = omega arith

told_length : (a b : ℕ) (ts : List Telling) → length (told_to a b ts) ≡ length ts
told_length a b [] = refl
told_length a b (x ∷ xs) = ap suc (told_length a b xs)

bgp_few : (t : Network) (c : Config) (p : Peerings) (s : Step) → length t.vrfs ≤ 512 → length c.statics ≤ 65536 →
    length (bgp_replies t c p s) ≤ 33554433
bgp_few t c p (step.BgpUp a b) vrfs few = omega arith
bgp_few t c p (step.HearBgp a b) vrfs few =
    let message : Telling = slice_index_or (p.told a.0 b.0) (p.heard b.0 a.0) Open in
    omega (
      arith,
      told_length b.0 a.0 (reply (bgp_state_of c p b.0 a.0) message (exports_of t c b.0)),
      few_reply (bgp_state_of c p b.0 a.0) message (exports_of t c b.0),
      exports_few t c b.0 few,
      some_vrfs t b.0 vrfs,
    )
bgp_few t c p _ vrfs few = omega arith

few_tellings : (t : Network) (c : Config) (p : Peerings) (new : Config) (np : Peerings) (s : Step) → IsLawful t →
    length c.statics ≤ 65536 → length new.statics ≤ 65536 → length (told_in t c p new np s) ≤ 17213423617
few_tellings t c p new np s lawful few later =
    let replies : List Told = bgp_replies t new p s in
    let told : List Told = flat_map (route_news t c p new np) (edges t) in
    both (length replies) (length told) (length (flat_map (vrfs_at t) (edges t))) (length (replies ++ told)) (length-append replies told)
    (bgp_few t new p s lawful.few_vrfs later)
    (each_edge (route_news t c p new np) (vrfs_at t) (λ edge. few_told t c p new np edge lawful.few_nodes few later) (edges t))
    (all_vrfs t lawful.few_vrfs)
  where
    both : (m n k all : ℕ) → all ≡ m + n → m ≤ 33554433 → n ≤ 33554432 * k → k ≤ 512 → all ≤ 17213423617
    both m n k all e few some vrfs = omega (arith, e, few, some, vrfs)

few_routes : (t : Network) (w later : World) (s : Step) → IsLawful t → length w.config.statics ≤ 65536 → length later.config.statics ≤ 65536 →
    length (routes_in t w later s) ≤ 17213423617
few_routes t w later s lawful few few_then = split (is_routing s)
  where
    counted : Peerings
    counted = ledger_bgp.bgp_counted w.peerings s

    split : (b : Bool) → length (if b then map route_of (told_in t w.config w.peerings later.config counted s) else []) ≤ 17213423617
    split true = omega (
      arith,
      length-map (told_in t w.config w.peerings later.config counted s) route_of,
      few_tellings t w.config w.peerings later.config counted s lawful few few_then,
    )
    split false = omega arith

-- 5. A frame, and all

one_last : (tokens : List Token) → length (last_of tokens) ≤ 1
one_last [] = omega arith
one_last (x ∷ []) = omega arith
one_last (x ∷ y ∷ ys) = one_last (y ∷ ys)

on_frames : ℕ → Dir → Token → Channel × Load
on_frames l dir token = (Frames l dir, Carries token)

one_frame : (k : Packets) (v : Verdict) → length (frame_by k v) ≤ 1
unfolding on_frames
one_frame k (Flying l dir) =
    omega (arith, length-map (last_of (flying_on k l.0 dir)) (on_frames l.0 dir), one_last (flying_on k l.0 dir))
one_frame k _ = omega arith

one_after : (k : Packets) (o : Option Token) → length (frame_after k o) ≤ 1
one_after k None = omega arith
one_after k (Some token) = one_frame k (verdict_on k token.packet)

few_frames : (k later : Packets) (s : Step) → length (frames_in k later s) ≤ 1
few_frames k later (step.Inject site number) = one_frame later (verdict_on later (length k.verdicts))
few_frames k later (step.Carry l dir place) = one_after later (slice_get (flying_on k l.0 dir) place)
few_frames k later _ = omega arith

pub few_made : (t : Network) (w later : World) (k packets_then : Packets) (s : Step) → IsLawful t → length w.config.statics ≤ 65536 →
    length later.config.statics ≤ 65536 → length (made_in t w later k packets_then s) ≤ 35000000000
few_made t w later k packets_then s lawful few few_then = omega (
  arith,
  length-append (notices_in t s) (messages_in t w later s ++ (routes_in t w later s ++ frames_in k packets_then s)),
  length-append (messages_in t w later s) (routes_in t w later s ++ frames_in k packets_then s),
  length-append (routes_in t w later s) (frames_in k packets_then s),
  few_notices t s lawful.few_nodes,
  few_messages t w later s lawful,
  few_routes t w later s lawful few few_then,
  few_frames k packets_then s,
)
