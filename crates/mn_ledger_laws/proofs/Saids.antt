-- The ids of LDP messages are their places among what was sent in a life.
use Rattle.std.proofs.Common.{ℕ, zero, suc, ◌≡◌, ◌+◌, ◌<◌, ◌⊎◌, inl, inr, Bool, true, false, List, [], ◌∷◌, ◌++◌, map, length, refl, sym, ◌∙◌, ap}
use Rattle.std.proofs.Common.{append-nil, append_assoc}
use Rattle.std.specs.Prelude.{slice_get, Option, Some, None}
use Rattle.std.specs.List.{range_with_len}
use Rattle.std.proofs.lemmas.Bool.Decides.{eqb_tells}
use Rattle.std.proofs.lemmas.List.{map-append}
use Rattle.mn_base.proofs.Bools.{two_ways}
use Rattle.mn_wiring.specs.Wiring.{is_end}
use Rattle.mn_topo.specs.Lawful.{IsLawful}
use Rattle.mn_topo.specs.Network.{Network, wiring_of}
use Rattle.mn_topo.specs.declared.steps.Step.{Step}
use Rattle.mn_topo.specs.declared.steps.Step.TheVariants.{LinkUp, LinkDown, Learn, LdpAdmin, HearLdp, Inject, Carry}
use Rattle.mn_topo.specs.declared.steps.JournalEntry.{JournalEntry}
use Rattle.mn_ledger.specs.Ldp.{Message, Initialization, KeepAlive, Address, Mapping, Withdraw, Release, messages_of}
use Rattle.mn_ledger.specs.Tables.{put}
use Rattle.mn_ledger.specs.World.{World}
use Rattle.mn_ledger.specs.Packets.{Token, Packets, flying_on, packets_after}
use Rattle.mn_ledger.specs.Transport.{lives, is_active, said_in, ldp_counted, sessions_after}
use Rattle.mn_ledger.specs.Bgp as ledger_bgp
use Rattle.mn_ledger.specs.Ledger.{after, start, no_packets, next_of, left_by, world_from, world_of}
use Rattle.mn_ledger.specs.Lawful.{IsLawfulJournal}
use Rattle.mn_ledger.specs.Turns.{AreLabelMessages, IsTalk}
use Rattle.mn_ledger.specs.Items.{Channel, Messages, Load, Says, loads_on, notices_in, messages_in, route_of, routes_in, frame_after, frames_in, made_in}
use Rattle.mn_ledger.specs.Items.{numbered, made_from}
use Rattle.mn_ledger.proofs.Channels.{loads_in, loads_append, loads_in_append, on_numbered, none_of, no_frames, in_messages}
use Rattle.mn_ledger.proofs.GoingBy.{put_here, put_off}
use Rattle.mn_ledger.proofs.InTurn.{in_turn}
use Rattle.mn_ledger_laws.specs.Ids.{ids_after, ids_of, SaysWithIds}
use Rattle.mn_ledger.proofs.Flows.{if_none, no_notices}
use Rattle.mn_ledger.specs.Ledger.{packets_by}
use Rattle.mn_ledger.specs.Time.{timed}

-- 1. What a step makes for an end of a link

option_none : (l node : ℕ) (q : Packets) (o : Option Token) → loads_in (Messages l node) (frame_after q o) ≡ []
option_none l node q None = refl
option_none l node q (Some token) = no_frames (Messages l node) refl q _

frames_none : (l node : ℕ) (p q : Packets) (s : Step) → loads_in (Messages l node) (frames_in p q s) ≡ []
frames_none l node p q (Inject site number) = no_frames (Messages l node) refl q _
frames_none l node p q (Carry k dir place) = option_none l node q (slice_get (flying_on p k.0 dir) place)
frames_none l node p q _ = refl

routes_none : (l node : ℕ) (t : Network) (w v : World) (s : Step) → loads_in (Messages l node) (routes_in t w v s) ≡ []
routes_none l node t w v s =
    if_none (Messages l node) (ledger_bgp.is_routing s)
    (map route_of (ledger_bgp.told_in t w.config w.peerings v.config (ledger_bgp.bgp_counted w.peerings s) s))
    (none_of (Messages l node) route_of (λ x. refl) (ledger_bgp.told_in t w.config w.peerings v.config (ledger_bgp.bgp_counted w.peerings s) s))

-- what an end says in a step
abbrev said_now : Network → World → Step → ℕ → ℕ → List Message
said_now t w s l node = messages_of l node (said_in t w.config w.views w.sessions (after t w s).config (after t w s).views (ldp_counted t w.sessions s) s)

made_messages : (t : Network) (w : World) (p q : Packets) (s : Step) (l node : ℕ)
    → loads_in (Messages l node) (made_in t w (after t w s) p q s) ≡ loads_in (Messages l node) (messages_in t w (after t w s) s)
made_messages t w p q s l node =
    let on : Channel = Messages l node in
    let notices : List (Channel × Load) = notices_in t s in
    let messages : List (Channel × Load) = messages_in t w (after t w s) s in
    let routes : List (Channel × Load) = routes_in t w (after t w s) s in
    let frames : List (Channel × Load) = frames_in p q s in
    loads_in_append on notices (messages ++ (routes ++ frames)) ∙ ap (λ r. r ++ loads_in on (messages ++ (routes ++ frames))) (no_notices t s l node)
    ∙ loads_in_append on messages (routes ++ frames) ∙ ap (λ r. loads_in on messages ++ r) (loads_in_append on routes frames)
    ∙ ap (λ r. loads_in on messages ++ (r ++ loads_in on frames)) (routes_none l node t w (after t w s) s)
    ∙ ap (λ r. loads_in on messages ++ r) (frames_none l node p q s) ∙ append-nil (loads_in on messages)

-- 2. The lives of a session

-- what was sent is forgotten, or kept, and then comes what is sent now
GoesOn : Network → World → Step → ℕ → ℕ → List Message → Type 0
GoesOn t w s l node new = (earlier : List Message) × (w.sessions.said l node ++ new ≡ earlier ++ (after t w s).sessions.said l node)

cleared : (said : ℕ → ℕ → List Message) (at l node : ℕ) (new : List Message)
    → (earlier : List Message) × (said l node ++ new ≡ earlier ++ (put said at (λ _. []) l node ++ new))
cleared said at l node new = elim (eqb_tells l at) [
  | inl q ↦ (
    said l node,
    ap (λ r. said l node ++ r)
        (sym (ap (λ xs. xs ++ new) (ap (λ m. put said at (λ _. []) m node) q.1 ∙ ap (λ f. f node) (put_here said at (λ _. []))))),
  )
  | inr q ↦ ([], ap (λ xs. xs ++ new) (sym (ap (λ f. f node) (put_off said at (λ _. []) l q.1))))
]

-- the loads that a step makes for the end
step_goes : (t : Network) (w : World) (p q : Packets) (s : Step) (l node : ℕ)
    → (new : List Message) × (loads_in (Messages l node) (made_in t w (after t w s) p q s) ≡ map (λ message. Says message) new) × GoesOn t w s l node new
unfolding sessions_after GoesOn
step_goes t w p q (LinkUp at) l node = (
  said_now t w (LinkUp at) l node,
  made_messages t w p q (LinkUp at) l node
      ∙ in_messages l node _,
  cleared w.sessions.said at.0 l node (said_now t w (LinkUp at) l node),
)
step_goes t w p q (LinkDown at) l node = (
  said_now t w (LinkDown at) l node,
  made_messages t w p q (LinkDown at) l node
      ∙ in_messages l node _,
  cleared w.sessions.said at.0 l node (said_now t w (LinkDown at) l node),
)
step_goes t w p q (LdpAdmin at on) l node = (
  said_now t w (LdpAdmin at on) l node,
  made_messages t w p q (LdpAdmin at on) l node
      ∙ in_messages l node _,
  cleared w.sessions.said at.0 l node (said_now t w (LdpAdmin at on) l node),
)
step_goes t w p q (Learn n at) l node = (said_now t w (Learn n at) l node, made_messages t w p q (Learn n at) l node ∙ in_messages l node _, ([], refl))
step_goes t w p q (HearLdp at dir) l node = (
  said_now t w (HearLdp at dir) l node,
  made_messages t w p q (HearLdp at dir) l node
      ∙ in_messages l node _,
  ([], refl),
)
step_goes t w p q s l node = ([], made_messages t w p q s l node, ([], append-nil (w.sessions.said l node)))

-- 3. A journal

AllSaid : Network → World → Packets → ℕ → List JournalEntry → List (List ℕ) → ℕ → ℕ → Type 0
AllSaid t w k n es ps l node =
    (new : List Message) × (loads_on (Messages l node) (made_from t w k n es ps) ≡ map (λ message. Says message) new) × (earlier : List Message)
    × (w.sessions.said l node ++ new ≡ earlier ++ (world_from t w es).sessions.said l node)

all_said : (t : Network) (es : List JournalEntry) (w : World) (k : Packets) (n : ℕ) (ps : List (List ℕ)) (l node : ℕ) → AllSaid t w k n es ps l node
unfolding AllSaid GoesOn
all_said t [] w k n ps l node = ([], refl, [], append-nil (w.sessions.said l node))
all_said t (e ∷ es) w k n ps l node =
    let v : World = after t w e.step in
    let q : Packets = packets_by t v k e (next_of ps) in
    let now : Packets = timed t e k in
    let new : List (Channel × Load) = made_in t w v now q e.step in
    let here = step_goes t w now q e.step l node in
    let rest = all_said t es v q (n + length new) (left_by e.step ps) l node in (
      here.0 ++ rest.0,
      loads_append (Messages l node) (numbered t e.tick n new) (made_from t v q (n + length new) es (left_by e.step ps))
          ∙ ap (λ r. r ++ loads_on (Messages l node) (made_from t v q (n + length new) es (left_by e.step ps)))
          (on_numbered t (Messages l node) e.tick n new ∙ here.1)
          ∙ ap (λ r. map (λ message. Says message) here.0 ++ r) rest.1 ∙ sym (map-append (λ message. Says message) here.0 rest.0),
      here.2.0 ++ rest.2,
      sym (append_assoc (w.sessions.said l node) here.0 rest.0) ∙ ap (λ r. r ++ rest.0) here.2.1
          ∙ append_assoc here.2.0 (v.sessions.said l node) rest.0 ∙ ap (λ r. here.2.0 ++ r) rest.3
          ∙ sym (append_assoc here.2.0 rest.2 ((world_from t v es).sessions.said l node)),
    )

-- 4. Ids

-- the last id after these messages
abbrev last_id : ℕ → List Message → ℕ
last_id id [] = id
last_id id (Initialization ∷ ms) = last_id 1 ms
last_id id (m ∷ ms) = last_id (id + 1) ms

ids_append : (id : ℕ) (xs ys : List Message) → ids_after id (xs ++ ys) ≡ ids_after id xs ++ ids_after (last_id id xs) ys
ids_append id [] ys = refl
ids_append id (Initialization ∷ ms) ys = ap (λ r. 1 ∷ r) (ids_append 1 ms ys)
ids_append id (KeepAlive ∷ ms) ys = ap (λ r. (id + 1) ∷ r) (ids_append (id + 1) ms ys)
ids_append id (Address ∷ ms) ys = ap (λ r. (id + 1) ∷ r) (ids_append (id + 1) ms ys)
ids_append id (Mapping f ∷ ms) ys = ap (λ r. (id + 1) ∷ r) (ids_append (id + 1) ms ys)
ids_append id (Withdraw f ∷ ms) ys = ap (λ r. (id + 1) ∷ r) (ids_append (id + 1) ms ys)
ids_append id (Release f ∷ ms) ys = ap (λ r. (id + 1) ∷ r) (ids_append (id + 1) ms ys)

label_ids : (id : ℕ) (ms : List Message) → AreLabelMessages ms → ids_after id ms ≡ range_with_len (id + 1) (length ms)
label_ids id [] h = refl
label_ids id (Mapping f ∷ ms) h = ap (λ r. (id + 1) ∷ r) (label_ids (id + 1) ms h.1)
label_ids id (Withdraw f ∷ ms) h = ap (λ r. (id + 1) ∷ r) (label_ids (id + 1) ms h.1)
label_ids id (Release f ∷ ms) h = ap (λ r. (id + 1) ∷ r) (label_ids (id + 1) ms h.1)
label_ids id (Initialization ∷ ms) h = absurd h.0
label_ids id (KeepAlive ∷ ms) h = absurd h.0
label_ids id (Address ∷ ms) h = absurd h.0

full_ids : (id : ℕ) (rest : List Message) → AreLabelMessages rest
    → ids_after id (Initialization ∷ KeepAlive ∷ Address ∷ rest) ≡ range_with_len 1 (length (Initialization ∷ KeepAlive ∷ Address ∷ rest))
full_ids id rest h = ap (λ r. 1 ∷ 2 ∷ 3 ∷ r) (label_ids 3 rest h)

talk_ids : (id : ℕ) (active : Bool) (heard : ℕ) (said : List Message) → IsTalk active heard said → ids_after id said ≡ range_with_len 1 (length said)
talk_ids id true zero said h = ap (ids_after id) h ∙ sym (ap (λ ms. range_with_len 1 (length ms)) h)
talk_ids id false zero said h = ap (ids_after id) h ∙ sym (ap (λ ms. range_with_len 1 (length ms)) h)
talk_ids id true (suc zero) said h = ap (ids_after id) h ∙ sym (ap (λ ms. range_with_len 1 (length ms)) h)
talk_ids id false (suc zero) said h = ap (ids_after id) h ∙ sym (ap (λ ms. range_with_len 1 (length ms)) h)
talk_ids id true (suc (suc more)) said h = ap (ids_after id) h.1 ∙ full_ids id h.0 h.2 ∙ sym (ap (λ ms. range_with_len 1 (length ms)) h.1)
talk_ids id false (suc (suc more)) said h = ap (ids_after id) h.1 ∙ full_ids id h.0 h.2 ∙ sym (ap (λ ms. range_with_len 1 (length ms)) h.1)

pub says_with_ids : (t : Network) (es : List JournalEntry) (ps : List (List ℕ)) (l node : ℕ) → IsLawful t → IsLawfulJournal t es ps
    → l < length t.links → is_end (wiring_of t) l node ≡ true → SaysWithIds t es ps l node
unfolding AllSaid
says_with_ids t es ps l node lawful journal below at_end =
    let said : List Message = (world_of t es).sessions.said l node in
    let h = all_said t es (start t) no_packets 0 ps l node in
    let turn = (in_turn t es ps lawful journal).ldp l node below at_end in
    record {
      earlier = h.2;
      all = h.1 ∙ ap (map (λ message. Says message)) h.3;
      ids = ids_append 0 h.2 said ∙ ap (λ r. ids_of h.2 ++ r) (by_life (two_ways (lives (world_of t es).config l)) (last_id 0 h.2) turn.silent turn.talk);
    }
  where
    by_life : (lives (world_of t es).config l ≡ true) ⊎ (lives (world_of t es).config l ≡ false) → (id : ℕ)
        → (lives (world_of t es).config l ≡ false → ((world_of t es).sessions.said l node ≡ []) × ((world_of t es).sessions.heard l node ≡ 0))
        → (lives (world_of t es).config l ≡ true → IsTalk (is_active t l node) ((world_of t es).sessions.heard l node) ((world_of t es).sessions.said l node))
        → ids_after id ((world_of t es).sessions.said l node) ≡ range_with_len 1 (length ((world_of t es).sessions.said l node))
    by_life alive id silent talk = elim alive [
      | inl q ↦ talk_ids id (is_active t l node) ((world_of t es).sessions.heard l node) ((world_of t es).sessions.said l node) (talk q)
      | inr q ↦ ap (ids_after id) (silent q).0 ∙ sym (ap (λ ms. range_with_len 1 (length ms)) (silent q).0)
    ]
