-- After every lawful journal what is in flight is on channels of the network, each with loads of its kind.
use Rattle.std.proofs.Common.{ℕ, suc, ◌≡◌, ◌≢◌, ◌+◌, ◌<◌, inl, inr, Bool, true, false, cond, List, [], ◌∷◌, ◌++◌, map, filter, length, refl, arith, sym}
use Rattle.std.proofs.Common.{◌∙◌, ap, subst, Option, None, Some}
use Rattle.std.specs.Prelude.{◌==◌, ◌&&◌, not, nat_lt, slice_get, if◌then◌else◌}
use Rattle.std.specs.List.{flat_map, Contains}
use Rattle.std.proofs.lemmas.Bool.{and_parts}
use Rattle.std.proofs.lemmas.Bool.Decides.{eqb_tells, leb_tells}
use Rattle.mn_wiring.specs.Wiring.{Wiring, nodes_of, links_of, links_at, joining, link, is_end, across, receiver, EndsDiffer}
use Rattle.mn_base.proofs.Bools.{and_parts, clash, less_tells, unlike_numbers}
use Rattle.mn_topo.specs.VrfTable.{is_edge}
use Rattle.mn_topo.specs.Network.{Network, wiring_of}
use Rattle.mn_topo.specs.Lawful.{IsLawful}
use Rattle.mn_topo.specs.Steps.{fits}
use Rattle.mn_topo.specs.declared.steps.Step.{Step}
use Rattle.mn_topo.specs.declared.steps.Step.TheVariants as step
use Rattle.mn_topo.specs.declared.steps.JournalEntry.{JournalEntry}
use Rattle.mn_ledger.specs.declared.verdict.Verdict.{Verdict}
use Rattle.mn_ledger.specs.declared.verdict.Verdict.TheVariants.{Delivered, Dropped, Flying}
use Rattle.mn_ledger.specs.Tables.{put_pair}
use Rattle.mn_ledger.specs.Places.{edges}
use Rattle.mn_ledger.specs.Ldp.{Message, Initialization, Said, Knowledge, is_operational, said_on, mention, mentioned_on, mentioned_from, offered}
use Rattle.mn_ledger.specs.Ldp.{by_neighbour, news}
use Rattle.mn_ledger.specs.World.{World, Config, Views, Sessions, Peerings, Telling, Open}
use Rattle.mn_ledger.specs.Transport.{lives, opening, ldp_replies, knowledge_of, speakers, said_in, ldp_counted, is_transport}
use Rattle.mn_ledger.specs.Bgp as ledger_bgp
use Rattle.mn_ledger.specs.Exports.{exports_of}
use Rattle.mn_ledger.specs.Bgp.{Told, told_to, peers_live, is_established, steady_peers, is_routing, changed}
use Rattle.mn_ledger.specs.Packets.{Token, Packets, flying_on}
use Rattle.mn_ledger.specs.Ledger.{config_after, after, start, no_packets, next_of, left_by, world_from, world_of}
use Rattle.mn_ledger.specs.Lawful.{IsLawfulFrom, IsLawfulJournal}
use Rattle.mn_ledger.specs.Items.{Channel, Notices, Messages, Frames, Load, Notice, Says, Carries, Item, Flight, notices_in, message_of, messages_in}
use Rattle.mn_ledger.specs.Items.{route_of, routes_in, frame_by, frame_after, frames_in, last_of, made_in, numbered, left_in_flight, with_made, flight_from}
use Rattle.mn_ledger.specs.Items.{flight_of, in_time, in_time_by, is_late}
use Rattle.mn_ledger.proofs.Parts.{peerings_go}
use Rattle.mn_ledger.proofs.Members.{In, in_append, in_map, in_filter, in_flat_map, in_range, in_contained}
use Rattle.mn_ledger.proofs.Turning.{opener, dir_ends}
use Rattle.mn_ledger.proofs.GoingBy.{pair_here, pair_off}
use Rattle.mn_ledger.proofs.Peers.{same_numbers}
use Rattle.mn_ledger.proofs.Flows.{in_left}
use Rattle.mn_ledger_laws.specs.Flight.{IsOfChannel}
use Rattle.mn_ledger_laws.proofs.Linked.{IsLinked, AreLinked, linked_step, none_linked, timed_linked}
use Rattle.mn_ledger.proofs.Quiet.{opener_end}
use Rattle.mn_ledger.specs.Ledger.{packets_by}
use Rattle.mn_ledger.specs.Time.{clock_after, timed}
use Rattle.mn_topo.specs.declared.steps.Step.TheVariants.{Tick}

-- 1. What is sent is sent on a link, by one of its ends

abbrev AllSaid : Network → List Said → Type 0
AllSaid t xs = (x : Said) → In xs x → IsOfChannel t (Messages x.link x.end) (Says x.message)

both-said : (t : Network) (xs ys : List Said) → AllSaid t xs → AllSaid t ys → AllSaid t (xs ++ ys)
both-said t xs ys h g x i = elim (in_append xs ys x i) [ inl j ↦ h x j | inr j ↦ g x j ]

on-link : (t : Network) (l n : ℕ) (ms : List Message) → l < length t.links → is_end (wiring_of t) l n ≡ true → AllSaid t (said_on l n ms)
on-link t l n ms h e x i = let m = in_map (λ message. record { link = l; end = n; message = message }) ms x i in subst
    (λ (y : Said). IsOfChannel t (Messages y.link y.end) (Says y.message)) m.2 (h, e)

opening-said : (t : Network) (c : Config) (l : ℕ) → l < length t.links → AllSaid t (opening t c l)
opening-said t c l h = either (lives c l)
  where
    either : (alive : Bool) → AllSaid t (elim alive [ true ↦ said_on l (opener t l) (Initialization ∷ []) | false ↦ [] ])
    either true = on-link t l (opener t l) (Initialization ∷ []) h (opener_end t l)
    either false = λ x i. absurd i

replies-said : (t : Network) (c : Config) (s : Sessions) (st : Step) → EndsDiffer (wiring_of t) → fits t st ≡ true → AllSaid t (ldp_replies t c s st)
replies-said t c s (step.LinkUp l) differ fit = opening-said t c l.0 (less_tells l.0 (length t.links) fit)
replies-said t c s (step.LdpAdmin l on) differ fit = opening-said t c l.0 (less_tells l.0 (length t.links) fit)
replies-said t c s (step.HearLdp l dir) differ fit =
    let h : l.0 < length t.links = less_tells l.0 (length t.links) fit in
    on-link t l.0 (receiver (wiring_of t) l.0 dir) _ h (dir_ends (wiring_of t) l.0 dir (differ l.0 h)).0
replies-said t c s _ differ fit = λ x i. absurd i

if-said : (t : Network) (b : Bool) (xs : List Said) → AllSaid t xs → AllSaid t (if b then xs else [])
if-said t true xs h = h
if-said t false xs h = λ x i. absurd i

from-said : (t : Network) (before now : Knowledge) (n : ℕ) (ks : List ℕ)
    → ((l : ℕ) → In ks l → (l < length t.links) × (is_end (wiring_of t) l n ≡ true)) → (fec : ℕ) (weres ares : List Bool)
    → AllSaid t (mentioned_from before now n ks fec weres ares)
from-said t before now n ks at fec [] ares = λ x i. absurd i
from-said t before now n ks at fec (was ∷ weres) [] = λ x i. absurd i
from-said t before now n ks at fec (was ∷ weres) (is ∷ ares) =
    both-said t (flat_map (mentioned_on before now n fec was is) ks) (mentioned_from before now n ks (fec + 1) weres ares)
    (λ x i.
    let m = in_flat_map (mentioned_on before now n fec was is) ks x i in
    if-said t (is_operational now m.0) (said_on m.0 n (mention (is_operational before m.0 && was) is fec))
    (on-link t m.0 n (mention (is_operational before m.0 && was) is fec) (at m.0 m.1).0 (at m.0 m.1).1) x m.2)
    (from-said t before now n ks at (fec + 1) weres ares)

pub neighbour-links : (w : Wiring) (n l : ℕ) → In (by_neighbour w n) l → (l < length w.ends) × (is_end w l n ≡ true)
neighbour-links w n l i =
    let m = in_flat_map (joining w n) (nodes_of w) l i in
    let f = in_filter (λ k. across w k n == m.0) (links_at w n) l m.2 in
    let g = in_filter (λ k. is_end w k n) (links_of w) l f.0 in
    (omega (arith, (in_range 0 (length w.ends) l g.0).1), g.1)

news-said : (t : Network) (before now : Knowledge) (n : ℕ) → AllSaid t (news (wiring_of t) before now n)
unfolding news
news-said t before now n = from-said t before now n (by_neighbour (wiring_of t) n) (λ l i. neighbour-links (wiring_of t) n l i) 0
    (offered (wiring_of t) before n) (offered (wiring_of t) now n)

all-said : (t : Network) (c new : Config) (v nv : Views) (s k : Sessions) (st : Step) → EndsDiffer (wiring_of t) → fits t st ≡ true
    → AllSaid t (said_in t c v s new nv k st)
all-said t c new v nv s k st differ fit = both-said t (ldp_replies t new s st) _ (replies-said t new s st differ fit)
    (λ x i. let m = in_flat_map (λ node. news (wiring_of t) (knowledge_of (wiring_of t) c v s node) (knowledge_of (wiring_of t) new nv k node) node)
    (speakers (wiring_of t) st) x i in
    news-said t (knowledge_of (wiring_of t) c v s m.0) (knowledge_of (wiring_of t) new nv k m.0) m.0 x m.2)

-- 2. What is told is told by an edge to another

abbrev AreEdges : Network → ℕ → ℕ → Type 0
AreEdges t a b = (is_edge t.vrfs a ≡ true) × (is_edge t.vrfs b ≡ true) × (a ≢ b)

-- sessions are those of edges, the lesser number first
abbrev JoinEdges : Network → Config → Type 0
JoinEdges t c = (a b : ℕ) → c.bgp_on a b ≡ true → AreEdges t a b

back-edges : (t : Network) (a b : ℕ) → AreEdges t a b → AreEdges t b a
back-edges t a b h = (h.1, h.0, λ e. h.2 (sym e))

live-edges : (t : Network) (c : Config) (a b : ℕ) → JoinEdges t c → peers_live c a b ≡ true → AreEdges t a b
live-edges t c a b h live = elim (leb_tells (suc a) b) [
  | inl q ↦ h a b (sym (ap (λ x. if x then c.bgp_on a b else c.bgp_on b a) q.0) ∙ live)
  | inr q ↦ back-edges t b a (h b a (sym (ap (λ x. if x then c.bgp_on a b else c.bgp_on b a) q.0) ∙ live))
]

abbrev AllTold : Network → List Told → Type 0
AllTold t xs = (x : Told) → In xs x → AreEdges t x.teller x.peer

told-between : (t : Network) (a b : ℕ) (ms : List Telling) → AreEdges t a b → AllTold t (told_to a b ms)
told-between t a b ms h x i = let m = in_map (λ telling. record { teller = a; peer = b; telling = telling }) ms x i in subst
    (λ (y : Told). AreEdges t y.teller y.peer) m.2 h

edges-fit : (t : Network) (a b : ℕ) → ((is_edge t.vrfs a && is_edge t.vrfs b) && not (a == b)) ≡ true → AreEdges t a b
edges-fit t a b fit =
    let f = and_parts (is_edge t.vrfs a && is_edge t.vrfs b) (not (a == b)) fit in
    let g = and_parts (is_edge t.vrfs a) (is_edge t.vrfs b) f.0 in
    (g.0, g.1, unlike_numbers a b f.1)

edges-in-order : (t : Network) (a b : ℕ) → ((is_edge t.vrfs a && is_edge t.vrfs b) && nat_lt a b) ≡ true → AreEdges t a b
edges-in-order t a b fit =
    let f = and_parts (is_edge t.vrfs a && is_edge t.vrfs b) (nat_lt a b) fit in
    let g = and_parts (is_edge t.vrfs a) (is_edge t.vrfs b) f.0 in
    (g.0, g.1, apart (less_tells a b f.1))
  where
    apart : a < b → a ≢ b
    apart l e = omega (arith, l, e)

told-replies : (t : Network) (c : Config) (p : Peerings) (st : Step) → fits t st ≡ true → AllTold t (ledger_bgp.bgp_replies t c p st)
told-replies t c p (step.BgpUp a b) fit = λ x i. elim (in_append (told_to a.0 b.0 (Open ∷ [])) (told_to b.0 a.0 (Open ∷ [])) x i) [
  | inl j ↦ told-between t a.0 b.0 (Open ∷ []) (edges-in-order t a.0 b.0 fit) x j
  | inr j ↦ told-between t b.0 a.0 (Open ∷ []) (back-edges t a.0 b.0 (edges-in-order t a.0 b.0 fit)) x j
]
told-replies t c p (step.HearBgp a b) fit = told-between t b.0 a.0 _ (back-edges t a.0 b.0 (edges-fit t a.0 b.0 fit))
told-replies t c p _ fit = λ x i. absurd i

told-news : (t : Network) (c : Config) (p : Peerings) (new : Config) (k : Peerings) (e : ℕ) → JoinEdges t c → AllTold t (ledger_bgp.route_news t c p new k e)
told-news t c p new k e h x i =
    let m = in_flat_map (λ telling. map (λ peer. record { teller = e; peer = peer; telling = telling }) (steady_peers t c p new k e))
    (changed (exports_of t c e) (exports_of t new e)) x i in
    let n = in_map (λ peer. record { teller = e; peer = peer; telling = m.0 }) (steady_peers t c p new k e) x m.2 in
    let f = in_filter (λ peer. is_established c p e peer && is_established new k e peer) (nodes_of (wiring_of t)) n.0 n.1 in
    let live : peers_live c e n.0 ≡ true = (and_parts _ _ (and_parts _ _ f.1).0).0 in
    subst (λ (y : Told). AreEdges t y.teller y.peer) n.2 (live-edges t c e n.0 h live)

all-told : (t : Network) (c : Config) (p : Peerings) (new : Config) (k : Peerings) (st : Step) → fits t st ≡ true → JoinEdges t c
    → AllTold t (ledger_bgp.told_in t c p new k st)
all-told t c p new k st fit h x i = elim (in_append (ledger_bgp.bgp_replies t new p st) (flat_map (ledger_bgp.route_news t c p new k) (edges t)) x i) [
  | inl j ↦ told-replies t new p st fit x j
  | inr j ↦ let m = in_flat_map (ledger_bgp.route_news t c p new k) (edges t) x j in told-news t c p new k m.0 h x m.2
]

joins-put : (t : Network) (c : Config) (a b : ℕ) (on : Bool) → AreEdges t a b → JoinEdges t c → JoinEdges t (record c { bgp_on = put_pair c.bgp_on a b on })
joins-put t c a b on e h x y live = elim (eqb_tells x a) [
  | inr q ↦ h x y (sym (pair_off c.bgp_on a b on x y (inl q.1)) ∙ live)
  | inl q ↦ elim (eqb_tells y b) [
    | inr r ↦ h x y (sym (pair_off c.bgp_on a b on x y (inr r.1)) ∙ live)
    | inl r ↦ subst (λ z. AreEdges t z y) (sym q.1) (subst (λ z. AreEdges t a z) (sym r.1) e)
  ]
]

joins-step : (t : Network) (c : Config) (st : Step) → fits t st ≡ true → JoinEdges t c → JoinEdges t (config_after c st)
joins-step t c (step.BgpUp a b) fit h = joins-put t c a.0 b.0 true (edges-in-order t a.0 b.0 fit) h
joins-step t c (step.BgpDown a b) fit h = joins-put t c a.0 b.0 false (edges-in-order t a.0 b.0 fit) h
joins-step t c _ fit h = h

-- 3. What a step makes

abbrev AllMade : Network → List (Channel × Load) → Type 0
AllMade t xs = (x : Channel × Load) → In xs x → IsOfChannel t x.0 x.1

notices-made : (t : Network) (st : Step) → fits t st ≡ true → AllMade t (notices_in t st)
notices-made t (step.LinkUp l) fit x i =
    let m = in_map (λ node. (Notices l.0 node, Notice)) (nodes_of (wiring_of t)) x i in
    subst (λ (y : Channel × Load). IsOfChannel t y.0 y.1) m.2 (less_tells l.0 (length t.links) fit, omega (arith, (in_range 0 (length t.loopbacks) m.0 m.1).1))
notices-made t (step.LinkDown l) fit x i =
    let m = in_map (λ node. (Notices l.0 node, Notice)) (nodes_of (wiring_of t)) x i in
    subst (λ (y : Channel × Load). IsOfChannel t y.0 y.1) m.2 (less_tells l.0 (length t.links) fit, omega (arith, (in_range 0 (length t.loopbacks) m.0 m.1).1))
notices-made t _ fit x i = absurd i

if-made : (t : Network) (b : Bool) (xs : List (Channel × Load)) → AllMade t xs → AllMade t (if b then xs else [])
if-made t true xs h = h
if-made t false xs h = λ x i. absurd i

frame-made : (t : Network) (p : Packets) (v : Verdict) → IsLinked t v → AllMade t (frame_by p v)
frame-made t p (Flying l dir) h x i = let m = in_map (λ token. (Frames l.0 dir, Carries token)) (last_of (flying_on p l.0 dir)) x i in subst
    (λ (y : Channel × Load). IsOfChannel t y.0 y.1) m.2 h
frame-made t p (Delivered n s c) h x i = absurd i
frame-made t p (Dropped r n) h x i = absurd i

option-made : (t : Network) (p : Packets) (o : Option Token) → AreLinked t p → AllMade t (frame_after p o)
option-made t p None h x i = absurd i
option-made t p (Some token) h x i = frame-made t p _ (h token.packet) x i

frames-made : (t : Network) (p q : Packets) (st : Step) → AreLinked t q → AllMade t (frames_in p q st)
frames-made t p q (step.Inject s n) h = frame-made t q _ (h (length p.verdicts))
frames-made t p q (step.Carry l dir place) h = option-made t q (slice_get (flying_on p l.0 dir) place) h
frames-made t p q _ h = λ x i. absurd i

step-made : (t : Network) (w v : World) (p q : Packets) (st : Step) → EndsDiffer (wiring_of t) → fits t st ≡ true → JoinEdges t w.config
    → AreLinked t q → AllMade t (made_in t w v p q st)
step-made t w v p q st differ fit h linked x i = elim (in_append (notices_in t st) (messages_in t w v st ++ (routes_in t w v st ++ frames_in p q st)) x i) [
  | inl j ↦ notices-made t st fit x j
  | inr j ↦ elim (in_append (messages_in t w v st) (routes_in t w v st ++ frames_in p q st) x j) [
    | inl k ↦ if-made t (is_transport st) (map message_of said)
        (λ y m. let f = in_map message_of said y m in subst (λ (z : Channel × Load). IsOfChannel t z.0 z.1) f.2
        (all-said t w.config v.config w.views v.views w.sessions (ldp_counted t w.sessions st) st differ fit f.0 f.1)) x k
    | inr k ↦ elim (in_append (routes_in t w v st) (frames_in p q st) x k) [
      | inl r ↦ if-made t (is_routing st) (map route_of told)
          (λ y m. let f = in_map route_of told y m in subst (λ (z : Channel × Load). IsOfChannel t z.0 z.1) f.2
          (all-told t w.config w.peerings v.config (ledger_bgp.bgp_counted w.peerings st) st fit h f.0 f.1)) x r
      | inr r ↦ frames-made t p q st linked x r
    ]
  ]
]
  where
    said : List Said
    said = said_in t w.config w.views w.sessions v.config v.views (ldp_counted t w.sessions st) st

    told : List Told
    told = ledger_bgp.told_in t w.config w.peerings v.config (ledger_bgp.bgp_counted w.peerings st) st

-- 4. Over a journal

abbrev AllOn : Network → List Item → Type 0
AllOn t xs = (x : Item) → In xs x → IsOfChannel t x.on x.load

numbered-on : (t : Network) (tick n : ℕ) (new : List (Channel × Load)) → AllMade t new → AllOn t (numbered t tick n new)
numbered-on t tick n [] h x i = absurd i
numbered-on t tick n (m ∷ ms) h x i = elim i [
  | inl e ↦ subst (λ (y : Item). IsOfChannel t y.on y.load) e (h m (inl refl))
  | inr j ↦ numbered-on t tick (n + 1) ms (λ y k. h y (inr k)) x j
]

-- what is still in flight as time goes on was
pub in_time_in : (t : Network) (clock : ℕ) (s : Step) (flight : Flight) (x : Item) → In (in_time_by t clock s flight).items x → In flight.items x
in_time_in t clock (Tick ticks) flight x i = (in_filter (λ item. not (is_late t clock item.on item.load)) flight.items x i).0
in_time_in t clock _ flight x i = i

channels-on : (t : Network) → IsLawful t
    → (es : List JournalEntry) (tick : ℕ) (w : World) (k : Packets) (i : ℕ) (flight : Flight) (ps : List (List ℕ)) → IsLawfulFrom t tick w k i es ps
    → JoinEdges t w.config → AreLinked t k → AllOn t flight.items → AllOn t (flight_from t w k flight es ps).items
channels-on t fine [] tick w k i flight ps lawful joins linked h = h
channels-on t fine (e ∷ es) tick w k i flight ps lawful joins linked h =
    let then_world : World = after t w e.step in
    let now : Packets = timed t e k in
    let packets : Packets = packets_by t then_world k e (next_of ps) in
    let new : List (Channel × Load) = made_in t w then_world now packets e.step in
    let left : Flight = in_time t e flight in
    let later : AreLinked t packets = linked_step t w now e.step (next_of ps) fine lawful.0 (timed_linked t (clock_after e) e.step k linked) in
    channels-on t fine es (clock_after e) then_world packets (i + 1) (with_made t e.tick new e.step left) (left_by e.step ps) lawful.3
    (joins-step t w.config e.step lawful.0 joins) later
    (λ x j. elim (in_append (left_in_flight t e.step left.items) (numbered t e.tick left.made new) x j) [
      | inl m ↦ h x (in_time_in t (clock_after e) e.step flight x (in_left t e.step left.items x m))
      | inr m ↦ numbered-on t e.tick left.made new (step-made t w then_world now packets e.step fine.ends_differ lawful.0 joins later) x m
    ])

pub channels_are : (t : Network) (es : List JournalEntry) (ps : List (List ℕ)) (item : Item) → IsLawful t → IsLawfulJournal t es ps
    → Contains (flight_of t es ps).items item → IsOfChannel t item.on item.load
channels_are t es ps item lawful journal c =
    channels-on t lawful es 0 (start t) no_packets 0 (record { made = 0; items = [] }) ps journal (λ a b live. absurd (clash (sym live)))
    (none_linked t) (λ x i. absurd i) item (in_contained (flight_of t es ps).items item c)

-- 5. No edge tells itself anything

none_between : (t : Network) (edge : ℕ) (xs : List Told) → AllTold t xs → ledger_bgp.tellings_of edge edge xs ≡ []
none_between t edge [] h = refl
none_between t edge (x ∷ xs) h = by_test (ledger_bgp.is_from_to edge edge x) refl (none_between t edge xs (λ y i. h y (inr i)))
  where
    by_test : (b : Bool) → ledger_bgp.is_from_to edge edge x ≡ b → ledger_bgp.tellings_of edge edge xs ≡ []
        → map (λ (told : Told). told.telling) (cond b (x ∷ filter (ledger_bgp.is_from_to edge edge) xs) (filter (ledger_bgp.is_from_to edge edge) xs)) ≡ []
    by_test true e rest =
        let parts = and_parts (x.teller == edge) (x.peer == edge) e in
        absurd ((h x (inl refl)).2 (same_numbers x.teller edge parts.0 ∙ sym (same_numbers x.peer edge parts.1)))
    by_test false e rest = rest

abbrev NoneToItself : Peerings → Type 0
NoneToItself p = (edge : ℕ) → p.told edge edge ≡ []

cleared : (f : ℕ → ℕ → List Telling) (a b edge : ℕ) → f edge edge ≡ [] → put_pair f a b [] edge edge ≡ []
cleared f a b edge h = elim (eqb_tells edge a) [
  | inr p ↦ pair_off f a b [] edge edge (inl p.1) ∙ h
  | inl p ↦ elim (eqb_tells edge b) [
    | inr q ↦ pair_off f a b [] edge edge (inr q.1) ∙ h
    | inl q ↦ ap (λ j. put_pair f a b [] j edge) p.1 ∙ ap (put_pair f a b [] a) q.1 ∙ pair_here f a b []
  ]
]

still_none : (p : Peerings) (st : Step) → NoneToItself p → NoneToItself (ledger_bgp.bgp_counted p st)
still_none p (step.BgpUp a b) h edge = cleared (put_pair p.told a.0 b.0 []) b.0 a.0 edge (cleared p.told a.0 b.0 edge (h edge))
still_none p (step.BgpDown a b) h edge = cleared (put_pair p.told a.0 b.0 []) b.0 a.0 edge (cleared p.told a.0 b.0 edge (h edge))
still_none p _ h edge = h edge

none_go_on : (t : Network) (w : World) (st : Step) → fits t st ≡ true → JoinEdges t w.config → NoneToItself w.peerings
    → (edge : ℕ) → (ledger_bgp.bgp_counted w.peerings st).told edge edge ++ ledger_bgp.tellings_of edge edge
    (ledger_bgp.told_in t w.config w.peerings (config_after w.config st) (ledger_bgp.bgp_counted w.peerings st) st) ≡ []
none_go_on t w st fit joins h edge =
    ap (λ xs. xs ++ ledger_bgp.tellings_of edge edge
    (ledger_bgp.told_in t w.config w.peerings (config_after w.config st) (ledger_bgp.bgp_counted w.peerings st) st))
    (still_none w.peerings st h edge)
    ∙ none_between t edge (ledger_bgp.told_in t w.config w.peerings (config_after w.config st) (ledger_bgp.bgp_counted w.peerings st) st)
    (all-told t w.config w.peerings (config_after w.config st) (ledger_bgp.bgp_counted w.peerings st) st fit joins)

none_go : (t : Network) (w : World) (st : Step) → fits t st ≡ true → JoinEdges t w.config → NoneToItself w.peerings → NoneToItself (after t w st).peerings
none_go t w st fit joins h = peerings_go NoneToItself t w.config (config_after w.config st) w.peerings st (none_go_on t w st fit joins h) h

none_from : (t : Network) (es : List JournalEntry) (tick : ℕ) (w : World) (k : Packets) (i : ℕ) (ps : List (List ℕ)) → IsLawfulFrom t tick w k i es ps
    → JoinEdges t w.config → NoneToItself w.peerings → NoneToItself (world_from t w es).peerings
none_from t [] tick w k i ps lawful joins h = h
none_from t (e ∷ es) tick w k i ps lawful joins h =
    none_from t es (clock_after e) (after t w e.step) (packets_by t (after t w e.step) k e (next_of ps)) (i + 1) (left_by e.step ps) lawful.3
    (joins-step t w.config e.step lawful.0 joins) (none_go t w e.step lawful.0 joins h)

pub none_to_itself : (t : Network) (es : List JournalEntry) (ps : List (List ℕ)) → IsLawfulJournal t es ps → (edge : ℕ)
    → (world_of t es).peerings.told edge edge ≡ []
none_to_itself t es ps journal = none_from t es 0 (start t) no_packets 0 ps journal (λ a b live. absurd (clash (sym live))) (λ edge. refl)
