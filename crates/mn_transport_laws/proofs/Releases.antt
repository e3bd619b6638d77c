-- A Release that a node says brings the label of the Withdraw that it has just received.
use Rattle.std.proofs.Common.{ℕ, ◌≡◌, ◌+◌, Bool, true, false, List, [], ◌∷◌, ◌++◌, sym, Option, None, Some}
use Rattle.std.specs.Prelude.{◌&&◌, if◌then◌else◌, ⊤}
use Rattle.std.specs.List.{flat_map}
use Rattle.mn_wiring.specs.Wiring.{Wiring, across}
use Rattle.mn_states.specs.declared.states.LdpState.{LdpState}
use Rattle.mn_states.specs.declared.states.LdpState.TheVariants.{Initialized, OpenSent, OpenRec, Operational}
use Rattle.mn_node.specs.Ldp.{Message, Initialization, KeepAlive, Address, Mapping, Withdraw, Release, Said, Knowledge, is_operational, said_on, mention}
use Rattle.mn_node.specs.Ldp.{mentioned_on, mentioned_from, offered, by_neighbour, answer, news}
use Rattle.mn_node.specs.Node.{Session, Node, session_at, knowledge_in}
use Rattle.mn_reuse_laws.specs.Relabelled.{label_with}
use Rattle.mn_node.specs.Machine.{Event, Learns, Opens, Closes, Hears, speaks_first, changed, answer_in, said}
use Rattle.mn_transport_laws.specs.Sending.{released_by}
use Rattle.mn_transport_laws.proofs.Spelled.{AllReleases}

rel-append : (w : Wiring) (g : ℕ → ℕ → ℕ) (me wd : ℕ) (xs ys : List Said) → AllReleases w g me wd xs → AllReleases w g me wd ys →
    AllReleases w g me wd (xs ++ ys)
rel-append w g me wd [] ys h k = k
rel-append w g me wd (x ∷ xs) ys h k = (h.0, rel-append w g me wd xs ys h.1 k)

rel-mention : (w : Wiring) (g : ℕ → ℕ → ℕ) (me wd l fec : ℕ) (was is : Bool) → AllReleases w g me wd (said_on l me (mention was is fec))
rel-mention w g me wd l fec true true = tt
rel-mention w g me wd l fec false false = tt
rel-mention w g me wd l fec false true = (tt, tt)
rel-mention w g me wd l fec true false = (tt, tt)

rel-if : (w : Wiring) (g : ℕ → ℕ → ℕ) (me wd : ℕ) (b : Bool) (xs : List Said) → AllReleases w g me wd xs → AllReleases w g me wd (if b then xs else [])
rel-if w g me wd true xs h = h
rel-if w g me wd false xs h = tt

rel-links : (w : Wiring) (g : ℕ → ℕ → ℕ) (before now : Knowledge) (me wd fec : ℕ) (was is : Bool) (ls : List ℕ) →
    AllReleases w g me wd (flat_map (mentioned_on before now me fec was is) ls)
rel-links w g before now me wd fec was is [] = tt
rel-links w g before now me wd fec was is (l ∷ ls) =
    rel-append w g me wd (mentioned_on before now me fec was is l) (flat_map (mentioned_on before now me fec was is) ls)
    (rel-if w g me wd (is_operational now l) (said_on l me (mention (is_operational before l && was) is fec))
    (rel-mention w g me wd l fec (is_operational before l && was) is))
    (rel-links w g before now me wd fec was is ls)

rel-from : (w : Wiring) (g : ℕ → ℕ → ℕ) (before now : Knowledge) (me wd : ℕ) (ls : List ℕ) (fec : ℕ) (weres ares : List Bool) →
    AllReleases w g me wd (mentioned_from before now me ls fec weres ares)
rel-from w g before now me wd ls fec [] ares = tt
rel-from w g before now me wd ls fec (was ∷ weres) [] = tt
rel-from w g before now me wd ls fec (was ∷ weres) (is ∷ ares) =
    rel-append w g me wd (flat_map (mentioned_on before now me fec was is) ls) (mentioned_from before now me ls (fec + 1) weres ares)
    (rel-links w g before now me wd fec was is ls) (rel-from w g before now me wd ls (fec + 1) weres ares)

rel-news : (w : Wiring) (g : ℕ → ℕ → ℕ) (before now : Knowledge) (me wd : ℕ) → AllReleases w g me wd (news w before now me)
unfolding news
rel-news w g before now me wd = rel-from w g before now me wd (by_neighbour w me) 0 (offered w before me) (offered w now me)

rel-answer : (w : Wiring) (g : ℕ → ℕ → ℕ) (me l label : ℕ) (state : LdpState) (message : Message) → label ≡ label_with (g (across w l me)) message →
    AllReleases w g me label (said_on l me (answer state message))
rel-answer w g me l label Initialized Initialization e = (tt, (tt, tt))
rel-answer w g me l label Initialized KeepAlive e = tt
rel-answer w g me l label Initialized Address e = tt
rel-answer w g me l label Initialized (Mapping fec) e = tt
rel-answer w g me l label Initialized (Withdraw fec) e = (sym e, tt)
rel-answer w g me l label Initialized (Release fec) e = tt
rel-answer w g me l label OpenSent Initialization e = (tt, tt)
rel-answer w g me l label OpenSent KeepAlive e = tt
rel-answer w g me l label OpenSent Address e = tt
rel-answer w g me l label OpenSent (Mapping fec) e = tt
rel-answer w g me l label OpenSent (Withdraw fec) e = (sym e, tt)
rel-answer w g me l label OpenSent (Release fec) e = tt
rel-answer w g me l label OpenRec Initialization e = tt
rel-answer w g me l label OpenRec KeepAlive e = (tt, tt)
rel-answer w g me l label OpenRec Address e = tt
rel-answer w g me l label OpenRec (Mapping fec) e = tt
rel-answer w g me l label OpenRec (Withdraw fec) e = (sym e, tt)
rel-answer w g me l label OpenRec (Release fec) e = tt
rel-answer w g me l label Operational Initialization e = tt
rel-answer w g me l label Operational KeepAlive e = tt
rel-answer w g me l label Operational Address e = tt
rel-answer w g me l label Operational (Mapping fec) e = tt
rel-answer w g me l label Operational (Withdraw fec) e = (sym e, tt)
rel-answer w g me l label Operational (Release fec) e = tt

rel-answers : (w : Wiring) (g : ℕ → ℕ → ℕ) (me l label : ℕ) (o : Option Session) (message : Message) → label ≡ label_with (g (across w l me)) message →
    AllReleases w g me label (said_on l me (answer_in o message))
rel-answers w g me l label None message e = tt
rel-answers w g me l label (Some session) message e = rel-answer w g me l label session.state message e

-- what is received brings the label that the far end gave
abbrev pub IsBrought : Wiring → (ℕ → ℕ → ℕ) → Node → Event → Type 0
IsBrought w g n (Hears l message label) = label ≡ label_with (g (across w l n.me)) message
IsBrought w g n _ = ⊤

pub releases : (w : Wiring) (g : ℕ → ℕ → ℕ) (n : Node) (e : Event) → IsBrought w g n e → AllReleases w g n.me (released_by e) (said w n e)
releases w g n (Learns l) h = rel-news w g (knowledge_in n) (knowledge_in (changed w n (Learns l))) n.me 0
releases w g n (Closes l) h = rel-news w g (knowledge_in n) (knowledge_in (changed w n (Closes l))) n.me 0
releases w g n (Opens l) h =
    rel-append w g n.me 0 (if speaks_first w l n.me then said_on l n.me (Initialization ∷ []) else [])
    (news w (knowledge_in n) (knowledge_in (changed w n (Opens l))) n.me)
    (rel-if w g n.me 0 (speaks_first w l n.me) (said_on l n.me (Initialization ∷ [])) (tt, tt))
    (rel-news w g (knowledge_in n) (knowledge_in (changed w n (Opens l))) n.me 0)
releases w g n (Hears l message label) h =
    rel-append w g n.me label (said_on l n.me (answer_in (session_at n l) message))
    (news w (knowledge_in n) (knowledge_in (changed w n (Hears l message label))) n.me)
    (rel-answers w g n.me l label (session_at n l) message h) (rel-news w g (knowledge_in n) (knowledge_in (changed w n (Hears l message label))) n.me label)
