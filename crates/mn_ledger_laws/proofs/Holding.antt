-- After every step of a lawful journal what a VRF holds, and what an end of a link has sent, names what exists.
use Rattle.std.proofs.Common.{ℕ, zero, suc, ◌≡◌, ◌≢◌, ◌+◌, ◌<◌, ◌≤◌, inl, inr, Bool, true, false, cond, List, [], ◌∷◌, ◌++◌, map, filter, length, refl}
use Rattle.std.proofs.Common.{arith, sym, ◌∙◌, ap, subst, Some}
use Rattle.std.specs.Prelude.{◌==◌, ◌&&◌, not, if◌then◌else◌, slice_index_or}
use Rattle.std.specs.List.{flat_map, range_with_len}
use Rattle.mn_states.specs.declared.states.LdpState.{LdpState}
use Rattle.mn_states.specs.declared.states.LdpState.TheVariants.{Initialized, OpenSent, OpenRec, Operational}
use Rattle.mn_wiring.specs.Wiring.{sender, receiver}
use Rattle.mn_base.proofs.Bools.{unlike_numbers}
use Rattle.mn_prefix.specs.Prefix.{AddressBlock, IsPrefix}
use Rattle.mn_topo.specs.Lawful.{IsLawful}
use Rattle.mn_topo.specs.Network.{Network, wiring_of}
use Rattle.mn_topo.specs.declared.steps.Step.{Step}
use Rattle.mn_topo.specs.declared.steps.Step.TheVariants.{LinkUp, LinkDown, Learn, LdpAdmin, HearLdp}
use Rattle.mn_topo.specs.declared.steps.JournalEntry.{JournalEntry}
use Rattle.mn_ledger.specs.Ldp.{Message, Initialization, KeepAlive, Address, Mapping, Withdraw, Release, Said, is_by, messages_of, said_on, state_by, answer}
use Rattle.mn_ledger.specs.Ldp.{Knowledge, is_operational, offers, offered, mention, by_neighbour, mentioned_on, mentioned_from, news}
use Rattle.mn_ledger.specs.Tables.{put}
use Rattle.mn_ledger.specs.Places.{loopback, vrf_at, vrf_of, edge_of, home_of, edges}
use Rattle.mn_ledger.specs.World.{Config, Views, Sessions, Export, Announcement, Peerings, World}
use Rattle.mn_ledger.specs.Transport.{is_active, lives, opening, ldp_replies, speakers, said_in, ldp_counted, knowledge_of, views_after, sessions_after}
use Rattle.mn_ledger.specs.Exports.{meet, exports_of}
use Rattle.mn_ledger.specs.Held.{HeldRoute, Own, Near, Far, held_by, own_routes, near_routes, far_routes, imported, heard_of, believed, held}
use Rattle.mn_ledger.specs.Ledger.{config_after, after, start, world_from, world_of}
use Rattle.mn_ledger.specs.Lawful.{IsLawfulJournal}
use Rattle.mn_ledger.proofs.OnePlace.{arms}
use Rattle.mn_ledger.proofs.Members.{In, in_append, in_map, in_filter, in_flat_map, in_take, in_contained}
use Rattle.mn_ledger.proofs.Choice.{keeps}
use Rattle.mn_ledger.proofs.Statics.{HasForms}
use Rattle.mn_ledger.proofs.Tellings.{behind}
use Rattle.mn_ledger_laws.specs.Accounts.{world_at}
use Rattle.mn_ledger_laws.specs.Named.{NamesANode, NamesAnAttachment, NamesItsSite, NamesWhatExists}
use Rattle.mn_ledger_laws.proofs.At.{world_whole}
use Rattle.mn_ledger_laws.proofs.Announced.{IsInBounds, IsBehind, is_behind, is_exported, TellingsNamed, bounds_at, forms_at, tellings_at}
use Rattle.mn_ledger_laws.proofs.Believing.{believed_last, announced_in}
use Rattle.mn_ledger_laws.proofs.Travelling.{HoldsSites}

-- 1. Held routes

-- a site of this edge that is attached
here_named : (t : Network) (c : Config) (edge v : ℕ) (e : Export) (a : HeldRoute) → IsInBounds t c → IsBehind t c v e → edge_of t v ≡ edge
    → a.site ≡ e.site → a.attachment ≡ e.attachment → a.edge ≡ edge → a.prefix ≡ e.prefix → NamesItsSite t c edge a
here_named t c edge v e a h b at site attachment same prefix = record {
  site = subst (λ n. n < length t.sites) (sym site) b.site;
  home = ap (home_of t) site ∙ ap (edge_of t) b.of_vrf ∙ at ∙ sym same;
  formed = subst (λ (p : AddressBlock). IsPrefix p.address p.length) (sym prefix) b.formed;
  first = omega (arith, attachment, (h.attached e.site e.attachment b.present).0);
  given = omega (arith, attachment, ap c.attaches site, (h.attached e.site e.attachment b.present).1);
  present = λ _. ap c.attached site ∙ b.present ∙ ap Some (sym attachment);
}

own_named : (t : Network) (c : Config) (edge v : ℕ) (a : HeldRoute) → IsInBounds t c → HasForms c.statics → edge_of t v ≡ edge
    → In (own_routes t c edge v) a → NamesItsSite t c edge a
own_named t c edge v a h forms at i =
    let m = in_map (held_by edge Own) _ a i in
    here_named t c edge v m.0 a h (is_behind t c v [] m.0 h forms (behind t c v [] m.0 m.1)) at (ap (λ (r : HeldRoute). r.site) (sym m.2))
    (ap (λ (r : HeldRoute). r.attachment) (sym m.2)) (ap (λ (r : HeldRoute). r.edge) (sym m.2)) (ap (λ (r : HeldRoute). r.prefix) (sym m.2))

near_named : (t : Network) (c : Config) (edge v : ℕ) (a : HeldRoute) → IsInBounds t c → HasForms c.statics → In (near_routes t c edge v) a
    → NamesItsSite t c edge a
near_named t c edge v a h forms i =
    let others : List Export = filter (λ export. not (export.vrf == v)) (exports_of t c edge) in
    let m = in_map (λ (export : Export). held_by edge (Near export.vrf) export) (imported c v others) a i in
    let f = in_filter (λ (export : Export). meet export.targets (c.imports v)) others m.0 m.1 in
    let x = is_exported t c edge m.0 h forms (in_filter (λ (export : Export). not (export.vrf == v)) (exports_of t c edge) m.0 f.0).0 in
    here_named t c edge m.0.vrf m.0 a h x.behind x.at_edge (ap (λ (r : HeldRoute). r.site) (sym m.2)) (ap (λ (r : HeldRoute). r.attachment) (sym m.2))
    (ap (λ (r : HeldRoute). r.edge) (sym m.2)) (ap (λ (r : HeldRoute). r.prefix) (sym m.2))

far_named : (t : Network) (c : Config) (p : Peerings) (edge v : ℕ) (a : HeldRoute) → TellingsNamed t c p
    → In (flat_map (far_routes t c p edge v) (filter (λ peer. not (peer == edge)) (edges t))) a → NamesItsSite t c edge a
far_named t c p edge v a named i =
    let m = in_flat_map (far_routes t c p edge v) (filter (λ peer. not (peer == edge)) (edges t)) a i in
    let peer : ℕ = m.0 in
    let other : peer ≢ edge = unlike_numbers peer edge (in_filter (λ peer. not (peer == edge)) (edges t) peer m.1).1 in
    let n = in_map (λ (export : Export). held_by peer (Far (loopback t peer) (vrf_at t export.vrf).rd.0) export)
    (imported c v (believed c p edge peer)) a m.2 in
    let b = (in_filter (λ (export : Export). meet export.targets (c.imports v)) (believed c p edge peer) n.0 n.1).0 in
    let told = announced_in (heard_of p edge peer) n.0 (believed_last c p edge peer n.0 b).1 in
    let e : NamesAnAttachment t c peer n.0 = named peer edge (Announcement n.0) (in_take (p.heard edge peer) (p.told peer edge) (Announcement n.0) told) in
    let site : a.site ≡ n.0.site = ap (λ (r : HeldRoute). r.site) (sym n.2) in
    let attachment : a.attachment ≡ n.0.attachment = ap (λ (r : HeldRoute). r.attachment) (sym n.2) in
    let same : a.edge ≡ peer = ap (λ (r : HeldRoute). r.edge) (sym n.2) in
    record {
      site = subst (λ n. n < length t.sites) (sym site) e.site;
      home = ap (home_of t) site ∙ ap (edge_of t) e.of_vrf ∙ e.at_teller ∙ sym same;
      formed = subst (λ (p : AddressBlock). IsPrefix p.address p.length) (ap (λ (r : HeldRoute). r.prefix) n.2) e.formed;
      first = omega (arith, attachment, e.first);
      given = omega (arith, attachment, ap c.attaches site, e.given);
      present = λ q. absurd (other (sym same ∙ q));
    }

pub held_named : (t : Network) (c : Config) (p : Peerings) (edge v : ℕ) (a : HeldRoute) → IsInBounds t c → HasForms c.statics → TellingsNamed t c p
    → edge_of t v ≡ edge → In (held t c p edge v) a → NamesItsSite t c edge a
unfolding held
held_named t c p edge v a h forms named at
    i = elim (in_append (own_routes t c edge v)
    (near_routes t c edge v ++ flat_map (far_routes t c p edge v) (filter (λ peer. not (peer == edge)) (edges t))) a i) [
      | inl j ↦ own_named t c edge v a h forms at j
      | inr j ↦ elim (in_append (near_routes t c edge v) (flat_map (far_routes t c p edge v) (filter (λ peer. not (peer == edge)) (edges t))) a j) [
        | inl k ↦ near_named t c edge v a h forms k
        | inr k ↦ far_named t c p edge v a named k
      ]
    ]

pub sites_held : (t : Network) → IsLawful t → (es : List JournalEntry) (ps : List (List ℕ)) → IsLawfulJournal t es ps → HoldsSites t es
sites_held t lawful es ps journal n site x within below i =
    held_named t (world_at t es n).config (world_at t es n).peerings (home_of t site) (vrf_of t site) x (bounds_at t lawful es ps journal n within)
    (forms_at t lawful es ps journal n) (tellings_at t lawful es ps journal n within) refl i

-- 2. FECs

abbrev AllNodes : Network → List Message → Type 0
AllNodes t ms = (m : Message) → In ms m → NamesANode t m

abbrev AllSaid : Network → List Said → Type 0
AllSaid t xs = (x : Said) → In xs x → NamesANode t x.message

one_node : (t : Network) (m : Message) → NamesANode t m → AllNodes t (m ∷ [])
one_node t m g x i = elim i [ inl e ↦ subst (NamesANode t) e g | inr j ↦ absurd j ]

none_said : (t : Network) → AllSaid t []
none_said t x i = absurd i

said_nodes : (t : Network) (l node : ℕ) (ms : List Message) → AllNodes t ms → AllSaid t (said_on l node ms)
said_nodes t l node ms h x i = let f = in_map (λ message. record { link = l; end = node; message = message }) ms x i in subst
    (λ (y : Said). NamesANode t y.message) f.2 (h f.0 f.1)

join_said : (t : Network) (xs ys : List Said) → AllSaid t xs → AllSaid t ys → AllSaid t (xs ++ ys)
join_said t xs ys h g x i = elim (in_append xs ys x i) [ inl j ↦ h x j | inr j ↦ g x j ]

mention_nodes : (t : Network) (was is : Bool) (fec : ℕ) → fec < length t.loopbacks → AllNodes t (mention was is fec)
mention_nodes t true true fec h = λ m i. absurd i
mention_nodes t false false fec h = λ m i. absurd i
mention_nodes t false true fec h = one_node t (Mapping fec) h
mention_nodes t true false fec h = one_node t (Withdraw fec) h

if_said : (t : Network) (b : Bool) (xs : List Said) → AllSaid t xs → AllSaid t (if b then xs else [])
if_said t true xs h = h
if_said t false xs h = none_said t

links_nodes : (t : Network) (before later : Knowledge) (node fec : ℕ) (was is : Bool) (ls : List ℕ) → fec < length t.loopbacks
    → AllSaid t (flat_map (mentioned_on before later node fec was is) ls)
links_nodes t before later node fec was is [] h = none_said t
links_nodes t before later node fec was is (l ∷ ls) h =
    join_said t (mentioned_on before later node fec was is l) (flat_map (mentioned_on before later node fec was is) ls)
    (if_said t (is_operational later l) (said_on l node (mention (is_operational before l && was) is fec))
    (said_nodes t l node (mention (is_operational before l && was) is fec) (mention_nodes t (is_operational before l && was) is fec h)))
    (links_nodes t before later node fec was is ls h)

from_nodes : (t : Network) (before later : Knowledge) (node : ℕ) (ls : List ℕ) (fec : ℕ) (weres ares : List Bool)
    → fec + length ares ≤ length t.loopbacks → AllSaid t (mentioned_from before later node ls fec weres ares)
from_nodes t before later node ls fec [] ares h = none_said t
from_nodes t before later node ls fec (was ∷ weres) [] h = none_said t
from_nodes t before later node ls fec (was ∷ weres) (is ∷ ares) h =
    join_said t (flat_map (mentioned_on before later node fec was is) ls) (mentioned_from before later node ls (fec + 1) weres ares)
    (links_nodes t before later node fec was is ls (omega (arith, h)))
    (from_nodes t before later node ls (fec + 1) weres ares (omega (arith, h)))

pub length_range : {A : Type 0} (f : ℕ → A) (a n : ℕ) → length (map f (range_with_len a n)) ≡ n
length_range f a zero = refl
length_range f a (suc n) = ap suc (length_range f (a + 1) n)

news_nodes : (t : Network) (was now : Knowledge) (node : ℕ) → AllSaid t (news (wiring_of t) was now node)
unfolding news
news_nodes t was now node =
    from_nodes t was now node (by_neighbour (wiring_of t) node) 0 (offered (wiring_of t) was node) (offered (wiring_of t) now node)
    (omega (arith, length_range (offers (wiring_of t) now node) 0 (length t.loopbacks)))

-- an answer names the FEC that was received
none_answered : (t : Network) → AllNodes t []
none_answered t m i = absurd i

answer_nodes : (t : Network) (state : LdpState) (m : Message) → NamesANode t m → AllNodes t (answer state m)
answer_nodes t Initialized Initialization h = λ m i. elim i [ inl e ↦ subst (NamesANode t) e tt | inr j ↦ one_node t KeepAlive tt m j ]
answer_nodes t OpenSent Initialization h = one_node t KeepAlive tt
answer_nodes t OpenRec KeepAlive h = one_node t Address tt
answer_nodes t Initialized (Withdraw fec) h = one_node t (Release fec) h
answer_nodes t OpenSent (Withdraw fec) h = one_node t (Release fec) h
answer_nodes t OpenRec (Withdraw fec) h = one_node t (Release fec) h
answer_nodes t Operational (Withdraw fec) h = one_node t (Release fec) h
answer_nodes t _ _ h = none_answered t

abbrev SaidNamed : Network → Sessions → Type 0
SaidNamed t s = (l node : ℕ) → AllNodes t (s.said l node)

nth_nodes : (t : Network) (ms : List Message) (k : ℕ) → AllNodes t ms → NamesANode t (slice_index_or ms k Address)
nth_nodes t [] k h = tt
nth_nodes t (m ∷ ms) zero h = h m (inl refl)
nth_nodes t (m ∷ ms) (suc k) h = nth_nodes t ms k (λ x i. h x (inr i))

opening_nodes : (t : Network) (c : Config) (l : ℕ) → AllSaid t (opening t c l)
opening_nodes t c l = arms (AllSaid t) (lives c l) _ _ (said_nodes t l _ (Initialization ∷ []) (one_node t Initialization tt)) (none_said t)

replies_nodes : (t : Network) (c : Config) (s : Sessions) (x : Step) → SaidNamed t s → AllSaid t (ldp_replies t c s x)
replies_nodes t c s (LinkUp l) h = opening_nodes t c l.0
replies_nodes t c s (LdpAdmin l on) h = opening_nodes t c l.0
replies_nodes t c s (HearLdp l dir) h =
    let node : ℕ = receiver (wiring_of t) l.0 dir in
    let other : ℕ = sender (wiring_of t) l.0 dir in
    said_nodes t l.0 node (answer (state_by (is_active t l.0 node) (s.heard l.0 node)) (slice_index_or (s.said l.0 other) (s.heard l.0 node) Address))
    (answer_nodes t (state_by (is_active t l.0 node) (s.heard l.0 node)) (slice_index_or (s.said l.0 other) (s.heard l.0 node) Address)
    (nth_nodes t (s.said l.0 other) (s.heard l.0 node) (h l.0 other)))
replies_nodes t c s _ h = none_said t

said_in_nodes : (t : Network) (c : Config) (v : Views) (s : Sessions) (new : Config) (nv : Views) (k : Sessions) (x : Step) → SaidNamed t s
    → AllSaid t (said_in t c v s new nv k x)
said_in_nodes t c v s new nv k x h =
    join_said t (ldp_replies t new s x)
    (flat_map (λ node. news (wiring_of t) (knowledge_of (wiring_of t) c v s node) (knowledge_of (wiring_of t) new nv k node) node)
    (speakers (wiring_of t) x)) (replies_nodes t new s x h)
    (λ y i. let f = in_flat_map (λ node. news (wiring_of t) (knowledge_of (wiring_of t) c v s node) (knowledge_of (wiring_of t) new nv k node) node)
    (speakers (wiring_of t) x) y i in
    news_nodes t (knowledge_of (wiring_of t) c v s f.0) (knowledge_of (wiring_of t) new nv k f.0) f.0 y f.2)

messages_nodes : (t : Network) (l node : ℕ) (xs : List Said) → AllSaid t xs → AllNodes t (messages_of l node xs)
messages_nodes t l node xs h m i =
    let f = in_map (λ (said : Said). said.message) (filter (is_by l node) xs) m i in
    subst (NamesANode t) f.2 (h f.0 (in_filter (is_by l node) xs f.0 f.1).0)

cleared : (t : Network) (f : ℕ → ℕ → List Message) (at l node : ℕ) → AllNodes t (f l node) → AllNodes t (put f at (λ node. []) l node)
cleared t f at l node h = split (l == at)
  where
    split : (b : Bool) → AllNodes t (cond b (λ (n : ℕ). []) (f l) node)
    split true = none_answered t
    split false = h

still_named : (t : Network) (s : Sessions) (x : Step) → SaidNamed t s → SaidNamed t (ldp_counted t s x)
still_named t s (LinkUp at) h = λ l node. cleared t s.said at.0 l node (h l node)
still_named t s (LinkDown at) h = λ l node. cleared t s.said at.0 l node (h l node)
still_named t s (LdpAdmin at on) h = λ l node. cleared t s.said at.0 l node (h l node)
still_named t s _ h = h

said_go_on : (t : Network) (w : World) (x : Step) → SaidNamed t w.sessions → (l node : ℕ)
    → AllNodes t ((ldp_counted t w.sessions x).said l node ++ messages_of l node
    (said_in t w.config w.views w.sessions (config_after w.config x) (views_after w.views x) (ldp_counted t w.sessions x) x))
said_go_on t w x h l node m i =
    let new : List Said = said_in t w.config w.views w.sessions (config_after w.config x) (views_after w.views x) (ldp_counted t w.sessions x) x in
    elim (in_append ((ldp_counted t w.sessions x).said l node) (messages_of l node new) m i) [
      | inl j ↦ still_named t w.sessions x h l node m j
      | inr j ↦ messages_nodes t l node new
          (said_in_nodes t w.config w.views w.sessions (config_after w.config x) (views_after w.views x) (ldp_counted t w.sessions x) x h) m j
    ]

said_go : (t : Network) (w : World) (x : Step) → SaidNamed t w.sessions → SaidNamed t (after t w x).sessions
unfolding sessions_after
said_go t w (LinkUp l) h = said_go_on t w (LinkUp l) h
said_go t w (LinkDown l) h = said_go_on t w (LinkDown l) h
said_go t w (LdpAdmin l on) h = said_go_on t w (LdpAdmin l on) h
said_go t w (Learn n l) h = said_go_on t w (Learn n l) h
said_go t w (HearLdp l dir) h = said_go_on t w (HearLdp l dir) h
said_go t w _ h = h

said_from : (t : Network) (es : List JournalEntry) (w : World) → SaidNamed t w.sessions → SaidNamed t (world_from t w es).sessions
said_from t [] w h = h
said_from t (e ∷ es) w h = said_from t es (after t w e.step) (said_go t w e.step h)

-- 3. The law

pub names_what_exists : (t : Network) (es : List JournalEntry) (ps : List (List ℕ)) → IsLawful t → IsLawfulJournal t es ps → NamesWhatExists t (world_of t es)
names_what_exists t es ps lawful journal =
    let whole : world_at t es (length es) ≡ world_of t es = world_whole t es (length es) (omega arith) in
    let bounds : IsInBounds t (world_of t es).config = subst (λ (w : World). IsInBounds t w.config) whole
    (bounds_at t lawful es ps journal (length es) (omega arith)) in
    let tellings : TellingsNamed t (world_of t es).config (world_of t es).peerings = subst (λ (w : World). TellingsNamed t w.config w.peerings) whole
    (tellings_at t lawful es ps journal (length es) (omega arith)) in
    record {
      ldp = λ l end m c. said_from t es (start t) (λ l node. none_answered t) l end m (in_contained ((world_of t es).sessions.said l end) m c);
      bgp = λ teller peer m c. tellings teller peer m (in_contained ((world_of t es).peerings.told teller peer) m c);
      routes = λ v route below c. held_named t (world_of t es).config (world_of t es).peerings (edge_of t v) v route bounds
          (keeps t es ps lawful journal).forms tellings refl (in_contained (held t (world_of t es).config (world_of t es).peerings (edge_of t v) v) route c);
    }
