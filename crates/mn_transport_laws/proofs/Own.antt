-- What a node says in an event it says on its own links, in sessions that live.
use Rattle.std.proofs.Common.{ℕ, ◌≡◌, ◌≢◌, ◌+◌, ◌<◌, inl, inr, Bool, true, false, List, [], ◌∷◌, ◌++◌, length, refl, sym, ◌∙◌, ap, Option, None, Some}
use Rattle.std.specs.Prelude.{◌&&◌, nat_le, if◌then◌else◌, ⊤}
use Rattle.std.specs.List.{flat_map}
use Rattle.std.proofs.lemmas.List.{get_or-set_same}
use Rattle.mn_base.proofs.Bools.{clash}
use Rattle.mn_base.proofs.Members.{In}
use Rattle.mn_wiring.specs.Wiring.{Wiring, is_end}
use Rattle.mn_node.specs.Ldp.{Message, Initialization, Said, Knowledge, is_operational, said_on, mention, mentioned_on, mentioned_from, offered}
use Rattle.mn_node.specs.Ldp.{by_neighbour, news}
use Rattle.mn_node.specs.Node.{Session, Node, session_at, hearing_in, knowledge_in}
use Rattle.mn_node.specs.Machine.{Event, Learns, Opens, Closes, Hears, speaks_first, changed, answer_in, said}
use Rattle.mn_node.proofs.Opening.{hearing-in}
use Rattle.mn_ledger_laws.proofs.Channels.{neighbour-links}

-- said by the node, on a link of its, in a session that lives
pub record IsOwn (w : Wiring) (n : Node) (me : ℕ) (x : Said) : Type 0 where
  pub by : x.end ≡ me
  pub there : x.link < length w.ends
  pub at_end : is_end w x.link me ≡ true
  pub lives : session_at n x.link ≢ None

abbrev pub AllOwn : Wiring → Node → ℕ → List Said → Type 0
AllOwn w n me [] = ⊤
AllOwn w n me (x ∷ xs) = IsOwn w n me x × AllOwn w n me xs

own-append : (w : Wiring) (n : Node) (me : ℕ) (xs ys : List Said) → AllOwn w n me xs → AllOwn w n me ys → AllOwn w n me (xs ++ ys)
own-append w n me [] ys h g = g
own-append w n me (x ∷ xs) ys h g = (h.0, own-append w n me xs ys h.1 g)

pub own-said : (w : Wiring) (n : Node) (me l : ℕ) (ms : List Message) → l < length w.ends → is_end w l me ≡ true → session_at n l ≢ None →
    AllOwn w n me (said_on l me ms)
own-said w n me l [] h e o = tt
own-said w n me l (m ∷ ms) h e o = (record { by = refl; there = h; at_end = e; lives = o }, own-said w n me l ms h e o)

-- where the node is OPERATIONAL there is a session
alive : (n : Node) (l : ℕ) → is_operational (knowledge_in n) l ≡ true → session_at n l ≢ None
alive n l on none = clash (sym on ∙ ap (λ h. h.alive && nat_le 2 h.count) (hearing-in n l ∙ ap hearing_in none))

own-if : (w : Wiring) (n : Node) (me l : ℕ) (ms : List Message) (b : Bool) → is_operational (knowledge_in n) l ≡ b → l < length w.ends → is_end w l me ≡ true
    → AllOwn w n me (if b then said_on l me ms else [])
own-if w n me l ms true on h e = own-said w n me l ms h e (alive n l on)
own-if w n me l ms false on h e = tt

AtNode : Wiring → ℕ → List ℕ → Type 0
AtNode w me ls = (l : ℕ) → In ls l → (l < length w.ends) × (is_end w l me ≡ true)

own-links : (w : Wiring) (before : Knowledge) (n : Node) (me fec : ℕ) (was is : Bool) (ls : List ℕ) →
    ((l : ℕ) → In ls l → (l < length w.ends) × (is_end w l me ≡ true))
    → AllOwn w n me (flat_map (mentioned_on before (knowledge_in n) me fec was is) ls)
own-links w before n me fec was is [] at = tt
own-links w before n me fec was is (l ∷ ls) at =
    own-append w n me (mentioned_on before (knowledge_in n) me fec was is l) (flat_map (mentioned_on before (knowledge_in n) me fec was is) ls)
    (own-if w n me l (mention (is_operational before l && was) is fec) (is_operational (knowledge_in n) l) refl (at l (inl refl)).0 (at l (inl refl)).1)
    (own-links w before n me fec was is ls (λ k i. at k (inr i)))

own-from : (w : Wiring) (before : Knowledge) (n : Node) (me : ℕ) (ls : List ℕ) → ((l : ℕ) → In ls l → (l < length w.ends) × (is_end w l me ≡ true)) →
    (fec : ℕ) (weres ares : List Bool)
    → AllOwn w n me (mentioned_from before (knowledge_in n) me ls fec weres ares)
own-from w before n me ls at fec [] ares = tt
own-from w before n me ls at fec (was ∷ weres) [] = tt
own-from w before n me ls at fec (was ∷ weres) (is ∷ ares) =
    own-append w n me (flat_map (mentioned_on before (knowledge_in n) me fec was is) ls) (mentioned_from before (knowledge_in n) me ls (fec + 1) weres ares)
    (own-links w before n me fec was is ls at) (own-from w before n me ls at (fec + 1) weres ares)

own-news : (w : Wiring) (before : Knowledge) (n : Node) (me : ℕ) → AllOwn w n me (news w before (knowledge_in n) me)
unfolding news
own-news w before n me = own-from w before n me (by_neighbour w me) (λ l i. neighbour-links w me l i) 0 (offered w before me) (offered w (knowledge_in n) me)

-- the event's link is one of the node's, with a session once a message is received
abbrev pub IsHere : Wiring → Node → Event → Type 0
IsHere w n (Learns l) = ⊤
IsHere w n (Opens l) = (l < length w.ends) × (is_end w l n.me ≡ true) × (l < length n.sessions)
IsHere w n (Closes l) = ⊤
IsHere w n (Hears l message label) = (l < length w.ends) × (is_end w l n.me ≡ true) × (session_at (changed w n (Hears l message label)) l ≢ None)

opened : (w : Wiring) (n : Node) (l : ℕ) → l < length n.sessions → session_at (changed w n (Opens l)) l ≢ None
opened w n l h none = some_none (sym (get_or-set_same n.sessions l _ None h) ∙ none)
  where
    some_none : {s : Session} → (let o : Option Session = Some s in o) ≡ None → ⊥
    some_none e = cc

pub own-event : (w : Wiring) (n : Node) (e : Event) → IsHere w n e → AllOwn w (changed w n e) n.me (said w n e)
own-event w n (Learns l) h = own-news w (knowledge_in n) (changed w n (Learns l)) n.me
own-event w n (Closes l) h = own-news w (knowledge_in n) (changed w n (Closes l)) n.me
own-event w n (Opens l) h =
    own-append w (changed w n (Opens l)) n.me (if speaks_first w l n.me then said_on l n.me (Initialization ∷ []) else [])
    (news w (knowledge_in n) (knowledge_in (changed w n (Opens l))) n.me)
    (first (speaks_first w l n.me)) (own-news w (knowledge_in n) (changed w n (Opens l)) n.me)
  where
    first : (b : Bool) → AllOwn w (changed w n (Opens l)) n.me (if b then said_on l n.me (Initialization ∷ []) else [])
    first true = own-said w (changed w n (Opens l)) n.me l (Initialization ∷ []) h.0 h.1 (opened w n l h.2)
    first false = tt
own-event w n (Hears l message label) h =
    own-append w (changed w n (Hears l message label)) n.me (said_on l n.me (answer_in (session_at n l) message))
    (news w (knowledge_in n) (knowledge_in (changed w n (Hears l message label))) n.me)
    (own-said w (changed w n (Hears l message label)) n.me l (answer_in (session_at n l) message) h.0 h.1 h.2)
    (own-news w (knowledge_in n) (changed w n (Hears l message label)) n.me)
