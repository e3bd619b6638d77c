-- What a step makes for each of the four flights.
use Rattle.std.proofs.Common.{ℕ, ◌≡◌, ◌+◌, Bool, true, false, List, [], ◌∷◌, ◌++◌, length, map, refl, sym, ap, ◌∙◌, subst, Option, Some, None, inl, inr}
use Rattle.std.proofs.Common.{◌⊎◌, append-nil}
use Rattle.std.specs.Prelude.{slice_get, if◌then◌else◌}
use Rattle.mn_wiring.specs.Wiring.{nodes_of}
use Rattle.mn_wiring.specs.declared.links.Dir.{Dir}
use Rattle.mn_topo.specs.Network.{Network, wiring_of}
use Rattle.mn_topo.specs.declared.steps.Step.{Step}
use Rattle.mn_topo.specs.declared.steps.Step.TheVariants.{LinkUp, LinkDown, Inject, Carry}
use Rattle.mn_ledger.specs.declared.verdict.Verdict.{Verdict}
use Rattle.mn_ledger.specs.declared.verdict.Verdict.TheVariants.{Delivered, Dropped, Flying}
use Rattle.mn_ledger.specs.World.{World}
use Rattle.mn_ledger.specs.Transport.{Said, is_transport}
use Rattle.mn_ledger.specs.Bgp.{Told, is_routing}
use Rattle.mn_ledger.specs.Verdicts.{verdict_on}
use Rattle.mn_ledger.specs.Packets.{Token, Packets, flying_on}
use Rattle.mn_ledger.specs.Items.{Channel, Notices, Messages, Routes, Frames, Load, Notice, Carries, notices_in, message_of, messages_in, route_of}
use Rattle.mn_ledger.specs.Items.{routes_in, last_of, frame_by, frame_after, frames_in, made_in, numbered}
use Rattle.mn_timetable_laws.specs.Keys.{Numbering, of_notices, of_messages, of_routes, of_frames, keys_on}
use Rattle.mn_timetable_laws.proofs.Keys.{keys_more, numbered-append, NoneOf, none_made}

-- 1. At most one frame

abbrev pub IsOneFrame : List (Channel × Load) → Type 0
IsOneFrame made = (made ≡ []) ⊎ ((l : ℕ) × (dir : Dir) × (load : Load) × (made ≡ (Frames l dir, load) ∷ []))

last_one : (l : ℕ) (d : Dir) (xs : List Token) → IsOneFrame (map (λ token. (Frames l d, Carries token)) (last_of xs))
last_one l d [] = inl refl
last_one l d (x ∷ []) = inr (l, d, Carries x, refl)
last_one l d (x ∷ y ∷ ys) = last_one l d (y ∷ ys)

frame_one : (w : Packets) (v : Verdict) → IsOneFrame (frame_by w v)
frame_one w (Flying l d) = last_one l.0 d (flying_on w l.0 d)
frame_one w (Delivered n s c) = inl refl
frame_one w (Dropped r n) = inl refl

after_one : (w : Packets) (o : Option Token) → IsOneFrame (frame_after w o)
after_one w None = inl refl
after_one w (Some token) = frame_one w (verdict_on w token.packet)

pub one_frame : (w v : Packets) (s : Step) → IsOneFrame (frames_in w v s)
one_frame w v (Inject s n) = frame_one v (verdict_on v (length w.verdicts))
one_frame w v (Carry l d p) = after_one v (slice_get (flying_on w l.0 d) p)
one_frame w v _ = inl refl

-- 2. What isn't of a flight

pub none_both : (number : Numbering) (xs ys : List (Channel × Load)) → NoneOf number xs → NoneOf number ys → NoneOf number (xs ++ ys)
none_both number [] ys h g = g
none_both number (x ∷ xs) ys h g = (h.0, none_both number xs ys h.1 g)

none_if : (number : Numbering) (b : Bool) (xs : List (Channel × Load)) → NoneOf number xs → NoneOf number (if b then xs else [])
none_if number true xs h = h
none_if number false xs h = tt

-- a numbering that has no channel of a kind
no_notices : (number : Numbering) (l : ℕ) (ns : List ℕ) → ((k n : ℕ) → number (Notices k n) ≡ None) → NoneOf number (map (λ node. (Notices l node, Notice)) ns)
no_notices number l [] h = tt
no_notices number l (n ∷ ns) h = (h l n, no_notices number l ns h)

pub no_notice_in : (number : Numbering) (t : Network) (s : Step) → ((k n : ℕ) → number (Notices k n) ≡ None) → NoneOf number (notices_in t s)
no_notice_in number t (LinkUp l) h = no_notices number l.0 (nodes_of (wiring_of t)) h
no_notice_in number t (LinkDown l) h = no_notices number l.0 (nodes_of (wiring_of t)) h
no_notice_in number t _ h = tt

no_said : (number : Numbering) (xs : List Said) → ((k n : ℕ) → number (Messages k n) ≡ None) → NoneOf number (map message_of xs)
no_said number [] h = tt
no_said number (x ∷ xs) h = (h x.link x.end, no_said number xs h)

pub no_message_in : (number : Numbering) (t : Network) (w v : World) (s : Step) →
    ((k n : ℕ) → number (Messages k n) ≡ None) → NoneOf number (messages_in t w v s)
no_message_in number t w v s h = none_if number (is_transport s) _ (no_said number _ h)

no_told : (number : Numbering) (xs : List Told) → ((k n : ℕ) → number (Routes k n) ≡ None) → NoneOf number (map route_of xs)
no_told number [] h = tt
no_told number (x ∷ xs) h = (h x.teller x.peer, no_told number xs h)

pub no_route_in : (number : Numbering) (t : Network) (w v : World) (s : Step) → ((k n : ℕ) → number (Routes k n) ≡ None) → NoneOf number (routes_in t w v s)
no_route_in number t w v s h = none_if number (is_routing s) _ (no_told number _ h)

none_one : (number : Numbering) (xs : List (Channel × Load)) → ((l : ℕ) (d : Dir) → number (Frames l d) ≡ None) → IsOneFrame xs → NoneOf number xs
none_one number xs h (inl e) = subst (NoneOf number) (sym e) tt
none_one number xs h (inr f) = subst (NoneOf number) (sym f.3) (h f.0 f.1, tt)

pub no_frame_in : (number : Numbering) (w v : Packets) (s : Step) → ((l : ℕ) (d : Dir) → number (Frames l d) ≡ None) → NoneOf number (frames_in w v s)
no_frame_in number w v s h = none_one number (frames_in w v s) h (one_frame w v s)

-- 3. What is made for each flight

skip : (number : Numbering) (t : Network) (tick n : ℕ) (xs ys : List (Channel × Load)) → NoneOf number xs →
    keys_on number (numbered t tick n (xs ++ ys)) ≡ keys_on number (numbered t tick (n + length xs) ys)
skip number t tick n xs ys h =
    ap (keys_on number) (numbered-append t tick n xs ys) ∙ keys_more number (numbered t tick n xs) (numbered t tick (n + length xs) ys)
    ∙ ap (λ k. k ++ keys_on number (numbered t tick (n + length xs) ys)) (none_made number t tick n xs h)

only : (number : Numbering) (t : Network) (tick n : ℕ) (xs ys : List (Channel × Load)) → NoneOf number ys →
    keys_on number (numbered t tick n (xs ++ ys)) ≡ keys_on number (numbered t tick n xs)
only number t tick n xs ys h =
    ap (keys_on number) (numbered-append t tick n xs ys) ∙ keys_more number (numbered t tick n xs) (numbered t tick (n + length xs) ys)
    ∙ ap (λ k. keys_on number (numbered t tick n xs) ++ k) (none_made number t tick (n + length xs) ys h) ∙ append-nil (keys_on number (numbered t tick n xs))

-- notices are the first that a step makes
pub notices_made : (nodes : ℕ) (t : Network) (w v : World) (p q : Packets) (s : Step) (tick n : ℕ) →
    keys_on (of_notices nodes) (numbered t tick n (made_in t w v p q s)) ≡ keys_on (of_notices nodes) (numbered t tick n (notices_in t s))
notices_made nodes t w v p q s tick n =
    only (of_notices nodes) t tick n (notices_in t s) (messages_in t w v s ++ (routes_in t w v s ++ frames_in p q s))
    (none_both (of_notices nodes) (messages_in t w v s) (routes_in t w v s ++ frames_in p q s) (no_message_in (of_notices nodes) t w v s (λ k m. refl))
    (none_both (of_notices nodes) (routes_in t w v s) (frames_in p q s) (no_route_in (of_notices nodes) t w v s (λ k m. refl))
    (no_frame_in (of_notices nodes) p q s (λ l d. refl))))

-- messages of LDP come after the notices
pub messages_made : (t : Network) (w v : World) (p q : Packets) (s : Step) (tick n : ℕ) →
    keys_on (of_messages t) (numbered t tick n (made_in t w v p q s)) ≡ keys_on (of_messages t)
    (numbered t tick (n + length (notices_in t s)) (messages_in t w v s))
messages_made t w v p q s tick n =
    skip (of_messages t) t tick n (notices_in t s) (messages_in t w v s ++ (routes_in t w v s ++ frames_in p q s))
    (no_notice_in (of_messages t) t s (λ k m. refl))
    ∙ only (of_messages t) t tick (n + length (notices_in t s)) (messages_in t w v s) (routes_in t w v s ++ frames_in p q s)
    (none_both (of_messages t) (routes_in t w v s) (frames_in p q s) (no_route_in (of_messages t) t w v s (λ k m. refl))
    (no_frame_in (of_messages t) p q s (λ l d. refl)))

-- and messages of BGP after those of LDP
pub routes_made : (nodes : ℕ) (t : Network) (w v : World) (p q : Packets) (s : Step) (tick n : ℕ) →
    keys_on (of_routes nodes) (numbered t tick n (made_in t w v p q s)) ≡ keys_on (of_routes nodes)
    (numbered t tick (n + length (notices_in t s) + length (messages_in t w v s)) (routes_in t w v s))
routes_made nodes t w v p q s tick n =
    skip (of_routes nodes) t tick n (notices_in t s) (messages_in t w v s ++ (routes_in t w v s ++ frames_in p q s))
    (no_notice_in (of_routes nodes) t s (λ k m. refl))
    ∙ skip (of_routes nodes) t tick (n + length (notices_in t s)) (messages_in t w v s) (routes_in t w v s ++ frames_in p q s)
    (no_message_in (of_routes nodes) t w v s (λ k m. refl))
    ∙ only (of_routes nodes) t tick (n + length (notices_in t s) + length (messages_in t w v s)) (routes_in t w v s) (frames_in p q s)
    (no_frame_in (of_routes nodes) p q s (λ l d. refl))

-- a frame comes last
pub frames_made : (t : Network) (w v : World) (p q : Packets) (s : Step) (tick n : ℕ) →
    keys_on of_frames (numbered t tick n (made_in t w v p q s)) ≡ keys_on of_frames
    (numbered t tick (n + length (notices_in t s) + length (messages_in t w v s) + length (routes_in t w v s)) (frames_in p q s))
frames_made t w v p q s tick n =
    skip of_frames t tick n (notices_in t s) (messages_in t w v s ++ (routes_in t w v s ++ frames_in p q s)) (no_notice_in of_frames t s (λ k m. refl))
    ∙ skip of_frames t tick (n + length (notices_in t s)) (messages_in t w v s) (routes_in t w v s ++ frames_in p q s)
    (no_message_in of_frames t w v s (λ k m. refl))
    ∙ skip of_frames t tick (n + length (notices_in t s) + length (messages_in t w v s)) (routes_in t w v s) (frames_in p q s)
    (no_route_in of_frames t w v s (λ k m. refl))
