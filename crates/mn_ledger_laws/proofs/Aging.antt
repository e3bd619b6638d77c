-- No frame on a link is older than the link's life, and the packets' clock is the journal's.
use Rattle.std.proofs.Common.{ℕ, ◌≡◌, ◌+◌, ◌<◌, ◌≤◌, inl, inr, Bool, true, false, List, [], ◌∷◌, ◌++◌, length, refl, arith, sym, ◌∙◌, subst}
use Rattle.std.specs.Prelude.{◌||◌, not, nat_le}
use Rattle.std.specs.List.{list_all}
use Rattle.std.proofs.lemmas.Bool.Decides.{leb_tells}
use Rattle.mn_base.proofs.Bools.{clash, and_left, and_right, not_less_tells, at_most_tells}
use Rattle.mn_base.proofs.Members.{In, in_filter, in_front, in_rest, range_in, in_contained}
use Rattle.mn_wiring.specs.declared.links.Dir.{Dir}
use Rattle.mn_wiring.specs.declared.links.Dir.TheVariants.{Forth, Back}
use Rattle.mn_wiring.specs.Wiring.{link, links_of}
use Rattle.mn_topo.specs.Network.{Network, wiring_of}
use Rattle.mn_topo.specs.Lawful.{IsLawful, has_figures}
use Rattle.mn_topo.proofs.Wirings.{passes_at}
use Rattle.mn_topo.specs.declared.steps.Step.{Step}
use Rattle.mn_topo.specs.declared.steps.Step.TheVariants.{Tick}
use Rattle.mn_topo.specs.declared.steps.JournalEntry.{JournalEntry}
use Rattle.mn_ledger.specs.World.{World}
use Rattle.mn_ledger.specs.Packets.{Token, Packets, channel, flying_on}
use Rattle.mn_ledger.specs.Time.{ticks_in, clock_after, is_overdue, timed_by, timed}
use Rattle.mn_ledger.specs.Ledger.{after, start, no_packets, next_of, left_by, packets_by, packets_from, packets_of}
use Rattle.mn_ledger.specs.Lawful.{none_is_due_before, GoesForward, IsLawfulFrom, IsLawfulJournal}
use Rattle.mn_ledger.specs.OneMore.{tick_from}
use Rattle.mn_ledger.proofs.Expiring.{left_young, timed_clock}
use Rattle.mn_ledger_laws.specs.Ages.{IsInItsLife, NoneIsOverdue}
use Rattle.mn_ledger_laws.proofs.Sending.{Grows, grows, sends_in}

-- 1. Ages

-- each frame is in its life by the packets' clock
abbrev pub AreYoung : Network → Packets → Type 0
AreYoung t k = (l : ℕ) (d : Dir) (token : Token) → l < length t.links → In (flying_on k l d) token → IsInItsLife t k.clock l token

-- a frame is due before its link's life is over
abbrev pub AreLasting : Network → Type 0
AreLasting t = (l : ℕ) → l < length t.links → (link (wiring_of t) l).delay ≤ (link (wiring_of t) l).life

pub all_at : {A : Type 0} (q : A → Bool) (xs : List A) (x : A) → list_all q xs ≡ true → In xs x → q x ≡ true
all_at q [] x h i = absurd i
all_at q (y ∷ ys) x h i = elim i [
  | inl e ↦ subst (λ z. q z ≡ true) e (and_left (q y) (list_all q ys) h)
  | inr j ↦ all_at q ys x (and_right (q y) (list_all q ys) h) j
]

due_at : (t : Network) (k : Packets) (tick l : ℕ) (d : Dir) (token : Token) → none_is_due_before t k tick ≡ true → l < length t.links →
    In (flying_on k l d) token → tick ≤ token.sent + (link (wiring_of t) l).delay
due_at t k tick l d token all below i =
    let on : list_all (λ token. nat_le tick (token.sent + (link (wiring_of t) l).delay)) (flying_on k l Forth ++ flying_on k l Back) ≡ true =
    all_at (λ l. list_all (λ token. nat_le tick (token.sent + (link (wiring_of t) l).delay)) (flying_on k l Forth ++ flying_on k l Back))
    (links_of (wiring_of t)) l all
    (range_in 0 (length t.links) l (omega arith) (omega (arith, below))) in
    at_most_tells tick (token.sent + (link (wiring_of t) l).delay)
    (all_at (λ token. nat_le tick (token.sent + (link (wiring_of t) l).delay)) (flying_on k l Forth ++ flying_on k l Back) token on (both d i))
  where
    both : (d : Dir) → In (flying_on k l d) token → In (flying_on k l Forth ++ flying_on k l Back) token
    both Forth j = in_front (flying_on k l Forth) (flying_on k l Back) token j
    both Back j = in_rest (flying_on k l Forth) (flying_on k l Back) token j

or_off : (b c : Bool) → (b || c) ≡ true → b ≡ false → c ≡ true
or_off true c h e = absurd (clash e)
or_off false c h e = h

-- the clock goes on to the tick of an entry
pub flown : (t : Network) (e : JournalEntry) (k : Packets) (l : ℕ) (d : Dir) (token : Token) → AreLasting t → AreYoung t k → GoesForward t k.clock k e.tick
    → l < length t.links → In (flying_on k l d) token → IsInItsLife t e.tick l token
flown t e k l d token lasting young on below i =
    let was = young l d token below i in
    elim (leb_tells e.tick k.clock) [
      | inl x ↦ record { sent = between was.sent on.later; young = between x.1 was.young }
      | inr x ↦
          record {
            sent = between was.sent on.later;
            young =
                longer token.sent (link (wiring_of t) l).delay (link (wiring_of t) l).life e.tick
                (due_at t k e.tick l d token (or_off (nat_le e.tick k.clock) (none_is_due_before t k e.tick) on.due x.0) below i) (lasting l below);
          }
    ]
  where
    between : {a b c : ℕ} → a ≤ b → b ≤ c → a ≤ c
    between x y = omega (arith, x, y)

    longer : (a b c e : ℕ) → e ≤ a + b → b ≤ c → e ≤ a + c
    longer a b c e x y = omega (arith, x, y)

on_not : (b : Bool) → not b ≡ true → b ≡ false
on_not true h = cc
on_not false h = refl

-- which frames fly once time has gone on, and how old they are
pub timed_young : (t : Network) (clock tick : ℕ) (s : Step) (k : Packets) → clock ≡ tick + ticks_in s
    → ((l : ℕ) (d : Dir) (token : Token) → l < length t.links → In (flying_on k l d) token → IsInItsLife t tick l token)
    → (l : ℕ) (d : Dir) (token : Token) → l < length t.links → In (flying_on (timed_by t clock s k) l d) token
    → In (flying_on k l d) token × IsInItsLife t clock l token
timed_young t clock tick (Tick n) k e h l d token below i =
    let left = in_filter (λ x. not (is_overdue t clock l x)) (flying_on k l d) token
    (subst (λ xs. In xs token) (left_young t clock l d (record k { clock = clock }) below) i) in (
      left.0,
      record {
        sent = later (h l d token below left.0).sent e;
        young = not_less_tells (token.sent + (link (wiring_of t) l).life) clock (on_not (is_overdue t clock l token) left.1);
      },
    )
  where
    later : {a : ℕ} → a ≤ tick → clock ≡ tick + n → a ≤ clock
    later x y = omega (arith, x, y)
timed_young t clock tick _ k e h l d token below i =
    (i, record { sent = omega (arith, (h l d token below i).sent, e); young = omega (arith, (h l d token below i).young, e) })

by_clock : (t : Network) (a b l : ℕ) (token : Token) → a ≡ b → IsInItsLife t a l token → IsInItsLife t b l token
by_clock t a b l token e h = record { sent = subst (λ c. token.sent ≤ c) e h.sent; young = subst (λ c. c ≤ token.sent + (link (wiring_of t) l).life) e h.young }

pub timed_all : (t : Network) (e : JournalEntry) (k : Packets) → AreLasting t → AreYoung t k → GoesForward t k.clock k e.tick → AreYoung t (timed t e k)
timed_all t e k lasting young on l d token below i =
    by_clock t (clock_after e) (timed t e k).clock l token (sym (timed_clock t (clock_after e) e.step k))
    (timed_young t (clock_after e) e.tick e.step k refl (λ j b x inside m. flown t e k j b x lasting young on inside m) l d token below i).1

-- and once the step is done
pub grown_young : (t : Network) (v : World) (n : ℕ) (k u : Packets) → Grows t v n k u → AreYoung t k → AreYoung t u
grown_young t v n k u grown young l d token below i = elim (grown.1 (channel l d) token i) [
  | inl j ↦ by_clock t k.clock u.clock l token (sym grown.0) (young l d token below j)
  | inr j ↦ record { sent = now grown.0 j.now; young = later grown.0 j.now }
]
  where
    now : u.clock ≡ k.clock → token.sent ≡ k.clock → token.sent ≤ u.clock
    now x y = omega (arith, x, y)

    later : u.clock ≡ k.clock → token.sent ≡ k.clock → u.clock ≤ token.sent + (link (wiring_of t) l).life
    later x y = omega (arith, x, y)

-- 2. A journal

pub lasting_of : (t : Network) → IsLawful t → AreLasting t
lasting_of t lawful l below =
    not_less_tells (link (wiring_of t) l).life (link (wiring_of t) l).delay
    (on_not _ (and_right _ _ (and_right _ _ (passes_at has_figures t.links l _ lawful.links.figures below))))

-- an entry leaves the clock at its tick, and after a Tick at the one to which time went on
pub clock_then : (t : Network) (w : World) (k : Packets) (e : JournalEntry) (bytes : List ℕ) → (packets_by t (after t w e.step) k e bytes).clock ≡ clock_after e
clock_then t w k e bytes = (grows t (after t w e.step) (timed t e k) e.step bytes).0 ∙ timed_clock t (clock_after e) e.step k

clock_on : (t : Network) (es : List JournalEntry) (tick : ℕ) (w : World) (k : Packets) (ps : List (List ℕ)) → k.clock ≡ tick →
    (packets_from t w k es ps).clock ≡ tick_from tick es
clock_on t [] tick w k ps h = h
clock_on t (e ∷ es) tick w k ps h =
    clock_on t es (clock_after e) (after t w e.step) (packets_by t (after t w e.step) k e (next_of ps)) (left_by e.step ps) (clock_then t w k e (next_of ps))

pub clock_is : (t : Network) (es : List JournalEntry) (ps : List (List ℕ)) → (packets_of t es ps).clock ≡ tick_from 0 es
clock_is t es ps = clock_on t es 0 (start t) no_packets ps refl

young_on : (t : Network) → AreLasting t → (es : List JournalEntry) (tick : ℕ) (w : World) (k : Packets) (i : ℕ) (ps : List (List ℕ))
    → IsLawfulFrom t tick w k i es ps → k.clock ≡ tick → AreYoung t k → AreYoung t (packets_from t w k es ps)
young_on t lasting [] tick w k i ps lawful clock young = young
young_on t lasting (e ∷ es) tick w k i ps lawful clock young =
    let on : GoesForward t k.clock k e.tick = subst (λ c. GoesForward t c k e.tick) (sym clock) lawful.1 in
    young_on t lasting es (clock_after e) (after t w e.step) (packets_by t (after t w e.step) k e (next_of ps)) (i + 1) (left_by e.step ps) lawful.3
    (clock_then t w k e (next_of ps))
    (grown_young t (after t w e.step) (sends_in t e.step) (timed t e k) (packets_by t (after t w e.step) k e (next_of ps))
    (grows t (after t w e.step) (timed t e k) e.step (next_of ps)) (timed_all t e k lasting young on))

pub none_is_overdue : (t : Network) (es : List JournalEntry) (ps : List (List ℕ)) → IsLawful t → IsLawfulJournal t es ps → NoneIsOverdue t es ps
none_is_overdue t es ps lawful journal l d token below i =
    by_clock t (packets_of t es ps).clock (tick_from 0 es) l token (clock_is t es ps)
    (young_on t (lasting_of t lawful) es 0 (start t) no_packets 0 ps journal refl (λ l d token below i. absurd i) l d token below
    (in_contained (flying_on (packets_of t es ps) l d) token i))
