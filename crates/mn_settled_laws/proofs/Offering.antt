-- Each step of a lawful journal keeps that each end has sent what it offers.
use Rattle.std.proofs.Common.{ℕ, ◌≡◌, ◌≢◌, ◌+◌, ◌<◌, ◌≤◌, ◌⊎◌, inl, inr, Bool, true, false, List, [], ◌∷◌, ◌++◌, length, refl, arith, sym, ◌∙◌, ap, subst}
use Rattle.std.proofs.Common.{Option, None, Some}
use Rattle.std.specs.Prelude.{◌==◌, ◌&&◌, ◌||◌, not, nat_le, is_some}
use Rattle.std.specs.List.{flat_map}
use Rattle.std.proofs.lemmas.Bool.Decides.{eqb_tells, leb_tells}
use Rattle.std.proofs.lemmas.List.{take-append-le}
use Rattle.mn_base.proofs.Bools.{two_ways, and_off_left, not_on, clash}
use Rattle.mn_wiring.specs.Wiring.{Wiring, View, nodes_of, is_end, across, receiver, JoinsNodes, EndsDiffer}
use Rattle.mn_wiring.specs.Paths.{IsNext, next}
use Rattle.mn_wiring.proofs.Next.{next_is}
use Rattle.mn_states.specs.declared.states.LdpState.{LdpState}
use Rattle.mn_states.specs.declared.states.LdpState.TheVariants.{Initialized, OpenSent, OpenRec}
use Rattle.mn_topo.specs.Network.{Network, wiring_of}
use Rattle.mn_topo.specs.Lawful.{IsLawful}
use Rattle.mn_topo.specs.declared.steps.Step.{Step}
use Rattle.mn_topo.specs.declared.steps.Step.TheVariants.{LinkUp, LinkDown, Learn, LdpAdmin, HearLdp}
use Rattle.mn_topo.specs.declared.steps.JournalEntry.{JournalEntry}
use Rattle.mn_ledger.specs.Tables.{put, put_pair}
use Rattle.mn_ledger.specs.World.{World, Config, Views, Sessions, Message, Initialization, KeepAlive, Withdraw}
use Rattle.mn_ledger.specs.Transport.{Said, Hearing, Knowledge, lives, knowledge_of, hearing, is_operational, is_mapped, usable_over, usable_by}
use Rattle.mn_ledger.specs.Transport.{offers, said_on, messages_of, answer, opening, ldp_replies, news, ends_first, speakers, ldp_counted, with_said}
use Rattle.mn_ledger.specs.Transport.{sessions_after}
use Rattle.mn_ledger.specs.Transport.{views_after}
use Rattle.mn_ledger.specs.Packets.{Packets, packets_after}
use Rattle.mn_ledger.specs.Time.{clock_after}
use Rattle.mn_ledger.specs.Ledger.{packets_by, config_after, after, start, no_packets, next_of, left_by, world_from, world_of}
use Rattle.mn_ledger.specs.Refusal.{is_empty}
use Rattle.mn_ledger.specs.Lawful.{IsLawfulFrom, IsLawfulJournal}
use Rattle.mn_ledger.specs.Quiet.{known_before}
use Rattle.mn_ledger.proofs.Members.{In, filter_in}
use Rattle.mn_ledger.proofs.Mentions.{EachNews, each-speaker, messages-none, operational-is, few-off}
use Rattle.mn_ledger.proofs.Turning.{Apart, loopbacks_apart, opener, said-own, said-other, end_is, across-end, dir_ends}
use Rattle.mn_ledger.proofs.GoingBy.{LinkIsThere, put_here, put_off, pair_here, pair_off, or_both, above}
use Rattle.mn_ledger.specs.Turns.{IsInTurn, EndsAreInTurn}
use Rattle.mn_ledger.proofs.InTurn.{goes_step, begins, not_empty, link_there}
use Rattle.mn_settled_laws.specs.Offers.{SaysItsOffers}
use Rattle.mn_settled_laws.proofs.Mapped.{mapped-append, mapped-said, speaks, range_in}
pub use Rattle.mn_ledger.proofs.Quiet.{hearing-is}

-- 1. Replies mention no FEC

plain_answer : (x : Bool) (p : ℕ) (st : LdpState) (m : Message) → is_mapped x p (answer st m) ≡ x
plain_answer x p Initialized Initialization = refl
plain_answer x p OpenSent Initialization = refl
plain_answer x p OpenRec KeepAlive = refl
plain_answer x p _ (Withdraw fec) = refl
plain_answer x p _ _ = refl

-- what is sent on one link by one end is sent there, or isn't
plain_on : (x : Bool) (p l m k n : ℕ) (ms : List Message) → is_mapped x p ms ≡ x → is_mapped x p (messages_of l m (said_on k n ms)) ≡ x
plain_on x p l m k n ms h = elim (eqb_tells k l) [
  | inr e ↦ ap (is_mapped x p) (said-other l m k n ms (inl e.1))
  | inl e ↦ elim (eqb_tells n m) [
    | inr f ↦ ap (is_mapped x p) (said-other l m k n ms (inr f.1))
    | inl f ↦ ap (λ j. is_mapped x p (messages_of l m (said_on j n ms))) e.1 ∙ ap (λ j. is_mapped x p (messages_of l m (said_on l j ms))) f.1
        ∙ ap (is_mapped x p) (said-own l m ms) ∙ h
  ]
]

plain_opening : (x : Bool) (p l m : ℕ) (t : Network) (c : Config) (at : ℕ) → is_mapped x p (messages_of l m (opening t c at)) ≡ x
plain_opening x p l m t c at = either (lives c at)
  where
    either : (alive : Bool) → is_mapped x p (messages_of l m (elim alive [ true ↦ said_on at (opener t at) (Initialization ∷ []) | false ↦ [] ])) ≡ x
    either true = plain_on x p l m at (opener t at) (Initialization ∷ []) refl
    either false = refl

plain_replies : (x : Bool) (p l m : ℕ) (t : Network) (c : Config) (s : Sessions) (step : Step) → is_mapped x p (messages_of l m (ldp_replies t c s step)) ≡ x
plain_replies x p l m t c s (LinkUp at) = plain_opening x p l m t c at.0
plain_replies x p l m t c s (LdpAdmin at on) = plain_opening x p l m t c at.0
plain_replies x p l m t c s (HearLdp at dir) = plain_on x p l m at.0 (receiver (wiring_of t) at.0 dir) (answer _ _) (plain_answer x p _ _)
plain_replies x p l m t c s _ = refl

-- 2. What is sent in a step is not received in it

over-same : (w : Wiring) (view : View) (one other : Knowledge) (m p : ℕ) (o : Option (ℕ × ℕ)) → IsNext w view m p o
    → ((l : ℕ) → l < length w.ends → is_end w l m ≡ true → hearing one l ≡ hearing other l) → usable_over one p o ≡ usable_over other p o
over-same w view one other m p None n h = refl
over-same w view one other m p (Some hop) n h =
    ap (λ (g : Hearing). elim ((g.alive && nat_le 2 g.count) && is_mapped false p g.messages) as (λ _. Option (ℕ × ℕ)) [ true ↦ Some hop | false ↦ None ])
    (h hop.1 n.1.there n.1.at_node)

-- who has the same view, and received the same on its links, offers the same
pub offers-same : (w : Wiring) (one other : Knowledge) (m p : ℕ) → JoinsNodes w → m < length w.loopbacks → one.view ≡ other.view
    → ((l : ℕ) → l < length w.ends → is_end w l m ≡ true → hearing one l ≡ hearing other l) → offers w one m p ≡ offers w other m p
offers-same w one other m p joins below view h = elim (eqb_tells m p) [
  | inl e ↦ ap (λ b. b || is_some (usable_by w one m p)) e.0 ∙ sym (ap (λ b. b || is_some (usable_by w other m p)) e.0)
  | inr e ↦ ap (λ o. (m == p) || is_some o) (ap (λ v. usable_over one p (next w v m p)) view
      ∙ over-same w other.view one other m p (next w other.view m p) (next_is w other.view p joins m below e.1) h)
]

-- 3. One end, as the step counts and before anything is sent

-- either a life begins or ends at it, or it has sent what it had and received no less
pub record IsCounted (t : Network) (c new : Config) (s k : Sessions) (l m : ℕ) : Type 0 where
  pub far : k.heard l m ≤ length (k.said l (across (wiring_of t) l m))
  pub own : ((k.said l m ≡ []) × (k.heard l m ≡ 0)) ⊎ ((k.said l m ≡ s.said l m) × (lives new l ≡ lives c l) × (s.heard l m ≤ k.heard l m))

abbrev pub AllCounted : Network → Config → Config → Sessions → Sessions → Type 0
AllCounted t c new s k = (l m : ℕ) → l < length t.links → is_end (wiring_of t) l m ≡ true → IsCounted t c new s k l m

abbrev Says : Network → Config → Views → Sessions → Type 0
Says t c v s =
    (l m p : ℕ) → l < length t.links → is_end (wiring_of t) l m ≡ true → p < length t.loopbacks →
    is_mapped false p (s.said l m) ≡ (is_operational (knowledge_of (wiring_of t) c v s m) l && offers (wiring_of t) (knowledge_of (wiring_of t) c v s m) m p)

more_heard : (a b d : Bool) (i j : ℕ) → d ≡ a → i ≤ j → ((d && b) && nat_le 2 j) ≡ false → ((a && b) && nat_le 2 i) ≡ false
more_heard true true d i j e h off = elim (leb_tells 2 i) [
  | inr p ↦ p.0
  | inl p ↦ elim (leb_tells 2 j) [
    | inl q ↦ absurd (clash (sym (ap (λ x. (x && true) && nat_le 2 j) e ∙ q.0) ∙ off))
    | inr q ↦ absurd (beyond p.1 h q.1)
  ]
]
  where
    beyond : 2 ≤ i → i ≤ j → j < 2 → ⊥
    beyond x y z = omega (arith, x, y, z)
more_heard true false d i j e h off = refl
more_heard false b d i j e h off = refl

both_and : (a b c d : Bool) → a ≡ c → b ≡ d → (a && b) ≡ (c && d)
both_and a b c d e f = ap (λ x. x && b) e ∙ ap (λ x. c && x) f

pub on_and : (a b : Bool) → a ≡ true → (a && b) ≡ b
on_and a b e = ap (λ x. x && b) e

pub ends_below : (t : Network) → JoinsNodes (wiring_of t) → (l m : ℕ) → l < length t.links → is_end (wiring_of t) l m ≡ true → m < length t.loopbacks
ends_below t joins l m h e = elim (end_is (wiring_of t) l m e) [
  | inl p ↦ subst (λ n. n < length t.loopbacks) p (joins l h).0
  | inr p ↦ subst (λ n. n < length t.loopbacks) p (joins l h).1
]

-- 4. One step in which something may be sent

module _ (t : Network) (c new : Config) (v nv : Views) (s k : Sessions) (step : Step) (joins : JoinsNodes (wiring_of t))
    (differ : EndsDiffer (wiring_of t)) where
  abbrev before : ℕ → Knowledge
  before n = knowledge_of (wiring_of t) c v s n

  abbrev between : ℕ → Knowledge
  between n = knowledge_of (wiring_of t) new nv k n

  abbrev told : List Said
  told = flat_map (λ n. news (wiring_of t) (before n) (between n) n) (speakers (wiring_of t) step)

  abbrev all_said : List Said
  all_said = ldp_replies t new s step ++ told

  final-hearing : AllCounted t c new s k → (l m : ℕ) → l < length t.links → is_end (wiring_of t) l m ≡ true
      → hearing (knowledge_of (wiring_of t) new nv (with_said k all_said) m) l ≡ hearing (between m) l
  final-hearing counts l m h e =
      hearing-is (wiring_of t) new nv (with_said k all_said) m l h
      ∙ ap (λ ms. record { alive = lives new l && is_end (wiring_of t) l m; count = k.heard l m; messages = ms })
      (take-append-le (k.heard l m) (k.said l (across (wiring_of t) l m)) (messages_of l (across (wiring_of t) l m) all_said) (counts l m h e).far)
      ∙ sym (hearing-is (wiring_of t) new nv k m l h)

  final-offers : AllCounted t c new s k → (m p : ℕ) → m < length t.loopbacks
      → offers (wiring_of t) (knowledge_of (wiring_of t) new nv (with_said k all_said) m) m p ≡ offers (wiring_of t) (between m) m p
  unfolding knowledge_of
  final-offers counts m p below =
      offers-same (wiring_of t) (knowledge_of (wiring_of t) new nv (with_said k all_said) m) (between m) m p joins below refl
      (λ l h e. final-hearing counts l m h e)

  final-on : (l m : ℕ) → l < length t.links → is_operational (knowledge_of (wiring_of t) new nv (with_said k all_said) m) l ≡ is_operational (between m) l
  final-on l m h = operational-is (wiring_of t) new nv (with_said k all_said) m l h ∙ sym (operational-is (wiring_of t) new nv k m l h)

  each : EachNews between told
  each = each-speaker (wiring_of t) before between (speakers (wiring_of t) step)

  said-off : AllCounted t c new s k → Says t c v s → (l m p : ℕ) → l < length t.links → is_end (wiring_of t) l m ≡ true → p < length t.loopbacks
      → is_operational (between m) l ≡ false → is_mapped false p (k.said l m) ≡ false
  said-off counts says l m p h e inside off = elim (counts l m h e).own [
    | inl q ↦ ap (is_mapped false p) q.0
    | inr q ↦ ap (is_mapped false p) q.0 ∙ says l m p h e inside
        ∙ and_off_left (is_operational (before m) l) _ (operational-is (wiring_of t) c v s m l h
        ∙ more_heard (lives c l) (is_end (wiring_of t) l m) (lives new l) (s.heard l m) (k.heard l m) q.1 q.2
        (sym (operational-is (wiring_of t) new nv k m l h) ∙ off))
  ]

  said-on : AllCounted t c new s k → Says t c v s → (l m p : ℕ) → l < length t.links → is_end (wiring_of t) l m ≡ true → p < length t.loopbacks
      → is_operational (between m) l ≡ true → is_mapped false p (k.said l m) ≡ (is_operational (before m) l && offers (wiring_of t) (before m) m p)
  said-on counts says l m p h e inside on = elim (counts l m h e).own [
    | inl q ↦ absurd (clash (sym on ∙ few-off (wiring_of t) new nv k m l h (subst (λ n. n < 2) (sym q.1) (omega arith))))
    | inr q ↦ ap (is_mapped false p) q.0 ∙ says l m p h e inside
  ]

  says-then : AllCounted t c new s k → Says t c v s → ((l m : ℕ) → l < length t.links → is_end (wiring_of t) l m ≡ true → In (speakers (wiring_of t) step) m)
      → Says t new nv (with_said k all_said)
  says-then counts says speak l m p h e inside =
      mapped-append false p (k.said l m) (messages_of l m all_said)
      ∙ mapped-said (is_mapped false p (k.said l m)) p l m (ldp_replies t new s step) told
      ∙ ap (λ x. is_mapped x p (messages_of l m told)) (plain_replies (is_mapped false p (k.said l m)) p l m t new s step)
      ∙ (elim (two_ways (is_operational (between m) l)) [
        | inl on ↦
            let other = across-end (wiring_of t) l m (differ l h) e in
            speaks (wiring_of t) before between l m p (speakers (wiring_of t) step) (is_mapped false p (k.said l m)) h e
            (ends_below t joins l (across (wiring_of t) l m) h other.0) inside on (speak l m h e) (said-on counts says l m p h e inside on)
            ∙ sym (on_and (is_operational (between m) l) (offers (wiring_of t) (between m) m p) on)
        | inr off ↦
            ap (is_mapped (is_mapped false p (k.said l m)) p) (messages-none between l m told each off) ∙ said-off counts says l m p h e inside off
            ∙ sym (and_off_left (is_operational (between m) l) (offers (wiring_of t) (between m) m p) off)
      ])
      ∙ sym (both_and _ _ _ _ (final-on l m h) (final-offers counts m p (ends_below t joins l m h e)))

-- 5. Each kind of step

speaks-all : (t : Network) → JoinsNodes (wiring_of t) → (l m : ℕ) → l < length t.links → is_end (wiring_of t) l m ≡ true → In (nodes_of (wiring_of t)) m
speaks-all t joins l m h e = range_in 0 (length t.loopbacks) m (omega arith) (omega (arith, ends_below t joins l m h e))

speaks-ends : (t : Network) → JoinsNodes (wiring_of t) → (at l m : ℕ) → l < length t.links → is_end (wiring_of t) l m ≡ true
    → In (ends_first (wiring_of t) at) m
speaks-ends t joins at l m h e = elim (two_ways (is_end (wiring_of t) at m)) [
  | inl q ↦ elim (end_is (wiring_of t) at m q) [ inl x ↦ inl x | inr x ↦ inr (inl x) ]
  | inr q ↦ inr (inr (filter_in (λ node. not (is_end (wiring_of t) at node)) (nodes_of (wiring_of t)) m (speaks-all t joins l m h e) (not_on _ q)))
]

-- a life of the link's session begins or ends
counts-anew : (t : Network) (c new : Config) (s : Sessions) (at : ℕ) → ((l : ℕ) → l ≢ at → lives new l ≡ lives c l) → EndsAreInTurn t c s
    → AllCounted t c new s (record { said = put s.said at (λ node. []); heard = put s.heard at (λ node. 0) })
counts-anew t c new s at others g l m h e = elim (eqb_tells l at) [
  | inl p ↦
      let none : put s.heard at (λ node. 0) l m ≡ 0 = ap (λ j. put s.heard at (λ node. 0) j m) p.1 ∙ ap (λ f. f m) (put_here s.heard at (λ node. 0)) in
      record {
        far = subst (λ n. n ≤ length (put s.said at (λ node. []) l (across (wiring_of t) l m))) (sym none) (omega arith);
        own = inl (ap (λ j. put s.said at (λ node. []) j m) p.1 ∙ ap (λ f. f m) (put_here s.said at (λ node. [])), none);
      }
  | inr p ↦
      let said : put s.said at (λ node. []) l ≡ s.said l = put_off s.said at (λ node. []) l p.1 in
      let heard : put s.heard at (λ node. 0) l ≡ s.heard l = put_off s.heard at (λ node. 0) l p.1 in
      record {
        far =
            subst (λ n. n ≤ length (put s.said at (λ node. []) l (across (wiring_of t) l m))) (sym (ap (λ f. f m) heard))
            (subst (λ (f : ℕ → List Message). s.heard l m ≤ length (f (across (wiring_of t) l m))) (sym said) (g l m h e).heard);
        own = inr (ap (λ f. f m) said, others l p.1, omega (arith, ap (λ f. f m) heard));
      }
]

counts-same : (t : Network) (c : Config) (s : Sessions) → EndsAreInTurn t c s → AllCounted t c c s s
counts-same t c s g l m h e = record { far = (g l m h e).heard; own = inr (refl, refl, omega arith) }

-- an end receives a message more
pub counts-heard : (t : Network) (c : Config) (s : Sessions) (at n : ℕ) → s.heard at n < length (s.said at (across (wiring_of t) at n)) → EndsAreInTurn t c s
    → AllCounted t c c s (record s { heard = put_pair s.heard at n (s.heard at n + 1) })
counts-heard t c s at n more g l m h e = elim (eqb_tells l at) [
  | inr p ↦ off (inl p.1)
  | inl p ↦ elim (eqb_tells m n) [
    | inr q ↦ off (inr q.1)
    | inl q ↦
        let heard : put_pair s.heard at n (s.heard at n + 1) l m ≡ s.heard at n + 1 = ap (λ j. put_pair s.heard at n (s.heard at n + 1) j m) p.1
        ∙ ap (put_pair s.heard at n (s.heard at n + 1) at) q.1 ∙ pair_here s.heard at n (s.heard at n + 1) in
        let was : s.heard l m ≡ s.heard at n = ap (λ j. s.heard j m) p.1 ∙ ap (s.heard at) q.1 in
        record {
          far =
              subst (λ i. i ≤ length (s.said l (across (wiring_of t) l m))) (sym heard)
              (subst (λ j. s.heard at n + 1 ≤ length (s.said j (across (wiring_of t) j m))) (sym p.1)
              (subst (λ j. s.heard at n + 1 ≤ length (s.said at (across (wiring_of t) at j))) (sym q.1) (reach more)));
          own = inr (refl, refl, omega (arith, heard, was));
        }
  ]
]
  where
    off : (l ≢ at) ⊎ (m ≢ n) → IsCounted t c c s (record s { heard = put_pair s.heard at n (s.heard at n + 1) }) l m
    off d =
        let heard : put_pair s.heard at n (s.heard at n + 1) l m ≡ s.heard l m = pair_off s.heard at n (s.heard at n + 1) l m d in
        record {
          far = subst (λ i. i ≤ length (s.said l (across (wiring_of t) l m))) (sym heard) (g l m h e).heard;
          own = inr
              (refl, refl, omega (arith, heard));
        }

    reach : {x y : ℕ} → x < y → x + 1 ≤ y
    reach f = omega (arith, f)

pub says-step : (t : Network) (w : World) (k : Packets) (step : Step) → JoinsNodes (wiring_of t) → EndsDiffer (wiring_of t) → LinkIsThere t step
    → is_empty t w k step ≡ false → EndsAreInTurn t w.config w.sessions
    → Says t w.config w.views w.sessions → Says t (after t w step).config (after t w step).views (after t w step).sessions
unfolding sessions_after knowledge_of
says-step t w k (LinkUp l) joins differ there full g h =
    says-then t w.config (config_after w.config (LinkUp l)) w.views (views_after w.views (LinkUp l)) w.sessions (ldp_counted t w.sessions (LinkUp l))
    (LinkUp l) joins differ
    (counts-anew t w.config (config_after w.config (LinkUp l)) w.sessions l.0 (λ j d. ap (λ b. b && w.config.ldp_on j) (put_off w.config.is_up l.0 true j d)) g)
    h (speaks-ends t joins l.0)
says-step t w k (LinkDown l) joins differ there full g h =
    says-then t w.config (config_after w.config (LinkDown l)) w.views (views_after w.views (LinkDown l)) w.sessions (ldp_counted t w.sessions (LinkDown l))
    (LinkDown l) joins differ
    (counts-anew t w.config (config_after w.config (LinkDown l)) w.sessions l.0
    (λ j d. ap (λ b. b && w.config.ldp_on j) (put_off w.config.is_up l.0 false j d)) g) h (speaks-ends t joins l.0)
says-step t w k (LdpAdmin l on) joins differ there full g h =
    says-then t w.config (config_after w.config (LdpAdmin l on)) w.views (views_after w.views (LdpAdmin l on)) w.sessions
    (ldp_counted t w.sessions (LdpAdmin l on))
    (LdpAdmin l on) joins differ
    (counts-anew t w.config (config_after w.config (LdpAdmin l on)) w.sessions l.0
    (λ j d. ap (λ b. w.config.is_up j && b) (put_off w.config.ldp_on l.0 on j d)) g) h (speaks-ends t joins l.0)
says-step t w k (Learn n l) joins differ there full g h =
    says-then t w.config w.config w.views (views_after w.views (Learn n l)) w.sessions w.sessions (Learn n l) joins differ
    (counts-same t w.config w.sessions g) h (speaks-all t joins)
says-step t w k (HearLdp l dir) joins differ there full g h =
    let ends = dir_ends (wiring_of t) l.0 dir (differ l.0 there) in
    says-then t w.config w.config w.views w.views w.sessions (ldp_counted t w.sessions (HearLdp l dir)) (HearLdp l dir) joins differ
    (counts-heard t w.config w.sessions l.0 (receiver (wiring_of t) l.0 dir)
    (subst (λ n. w.sessions.heard l.0 (receiver (wiring_of t) l.0 dir) < length (w.sessions.said l.0 n)) (sym ends.1) (above _ _ (or_both _ _ full).1)) g) h
    (speaks-all t joins)
says-step t w k _ joins differ there full g h = h

-- 6. A journal

says-on : (t : Network) → Apart t → JoinsNodes (wiring_of t) → EndsDiffer (wiring_of t)
    → (es : List JournalEntry) (tick : ℕ) (w : World) (k : Packets) (i : ℕ) (ps : List (List ℕ)) → IsLawfulFrom t tick w k i es ps → IsInTurn t w
    → SaysItsOffers t w → SaysItsOffers t (world_from t w es)
says-on t apart joins differ [] tick w k i ps lawful g h = h
says-on t apart joins differ (e ∷ es) tick w k i ps lawful g h =
    let full : is_empty t w k e.step ≡ false = not_empty t w k i e.step (next_of ps) lawful.2 in
    says-on t apart joins differ es (clock_after e) (after t w e.step) (packets_by t (after t w e.step) k e (next_of ps)) (i + 1) (left_by e.step ps) lawful.3
    (goes_step t apart joins differ w k e.step lawful.0 full g)
    (says-step t w k e.step joins differ (link_there t e.step lawful.0) full g.ldp h)

pub says-first : (t : Network) → SaysItsOffers t (start t)
says-first t l m p h e inside =
    sym (and_off_left (is_operational (known_before t (start t) m) l) _
    (few-off (wiring_of t) (start t).config (start t).views (start t).sessions m l h (omega arith)))

pub says_its_offers : (t : Network) (es : List JournalEntry) (ps : List (List ℕ)) → IsLawful t → IsLawfulJournal t es ps → SaysItsOffers t (world_of t es)
says_its_offers t es ps lawful journal =
    says-on t (loopbacks_apart t lawful) lawful.joins_nodes lawful.ends_differ es 0 (start t) no_packets 0 ps journal (begins t) (says-first t)
