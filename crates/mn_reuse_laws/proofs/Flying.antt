-- No frame that flies to a node with a FEC that is at rest there was sent later than the FEC came to rest.
use Rattle.std.proofs.Common.{ℕ, ◌≡◌, ◌≢◌, ◌+◌, ◌<◌, ◌≤◌, ◌⊎◌, inl, inr, true, false, List, [], ◌∷◌, length, refl, arith, sym, ◌∙◌, ap, subst}
use Rattle.std.proofs.Common.{Some}
use Rattle.std.specs.Prelude.{◌==◌, nat_lt, nat_le, max, map, if◌then◌else◌}
use Rattle.std.proofs.Math.Nat.{le-max_left, le-max_right}
use Rattle.std.proofs.lemmas.List.{get_or_past}
use Rattle.std.proofs.lemmas.List.FromFn.{length-map-range_with_len}
use Rattle.std.proofs.lemmas.Bool.Decides.{eqb_tells, leb_tells}
use Rattle.mn_base.proofs.Bools.{clash, two_ways, and_left, and_right, less_tells}
use Rattle.mn_base.proofs.Members.{In, in_contained}
use Rattle.mn_wiring.specs.declared.links.Dir.{Dir}
use Rattle.mn_wiring.specs.declared.links.Dir.TheVariants.{Forth, Back}
use Rattle.mn_wiring.specs.Wiring.{link, is_end, across, receiver, links_at, links_of, JoinsNodes, EndsDiffer}
use Rattle.mn_topo.specs.Network.{Network, wiring_of}
use Rattle.mn_topo.specs.Lawful.{IsLawful}
use Rattle.mn_wiring.specs.Paths.{next}
use Rattle.mn_topo.specs.declared.steps.JournalEntry.{JournalEntry}
use Rattle.mn_ledger.specs.World.{World}
use Rattle.mn_ledger.specs.Transport.{lives, hearing, hearing_at, is_operational, known, knowledge_of, usable}
use Rattle.mn_ledger.specs.Packets.{Token, Packets, channel, flying_on, away_from}
use Rattle.mn_ledger.specs.Time.{clock_after, timed}
use Rattle.mn_ledger.specs.Ledger.{after, start, no_packets, next_of, left_by, packets_by, packets_from, packets_of, world_from, world_of}
use Rattle.mn_ledger.specs.Lawful.{GoesForward, IsLawfulFrom, IsLawfulJournal}
use Rattle.mn_ledger.specs.Turns.{IsInTurn}
use Rattle.mn_ledger.proofs.Directions.{one_channel}
use Rattle.mn_ledger.proofs.Turning.{Apart, loopbacks_apart, is_end-a, is_end-b}
use Rattle.mn_ledger.proofs.InTurn.{goes_step, begins, link_there}
use Rattle.mn_ledger.proofs.Refusals.{free}
use Rattle.mn_ledger.proofs.Quiet.{hearing-is}
use Rattle.mn_settled_laws.specs.Offers.{SaysItsOffers}
use Rattle.mn_settled_laws.proofs.Offering.{says-step, says-first, ends_below}
use Rattle.mn_reuse_laws.specs.Resting.{is_at_rest, lays_to_rest, rested_after, rested_from, rested_of}
use Rattle.mn_reuse_laws.specs.Labels.{longest_life, is_free}
use Rattle.mn_reuse_laws.proofs.Answering.{Released, released_step}
use Rattle.mn_reuse_laws.proofs.Blocking.{rest_blocks, hop_mapped, over_mapped, link_at}
use Rattle.mn_reuse_laws.proofs.Resting.{rest_begins}
use Rattle.mn_base.proofs.Bools.{never}
use Rattle.mn_ledger_laws.proofs.Aging.{AreYoung, AreLasting, lasting_of, flown, timed_young, timed_all, grown_young, clock_then, clock_is}
use Rattle.mn_reuse_laws.specs.Laws.{WereSentBefore, FramesKeepTheirLabels}
use Rattle.mn_reuse_laws.proofs.Over.{keeps_its_label}
use Rattle.mn_ledger_laws.proofs.Sending.{grows, sends_in}

-- 1. Frames that fly to a node where their FEC is at rest

-- each was sent by the tick at which the FEC came to rest
abbrev pub AreOld : Network → World → (ℕ → ℕ → ℕ) → Packets → Type 0
AreOld t w rested k = (l : ℕ) (d : Dir) (token : Token) → l < length t.links → In (flying_on k l d) token → token.edge < length t.loopbacks →
    token.edge ≢ receiver (wiring_of t) l d → is_at_rest t w (receiver (wiring_of t) l d) token.edge ≡ true →
    token.sent ≤ rested (receiver (wiring_of t) l d) token.edge

-- the way of a frame is to the end that receives it
to_hop : (t : Network) (v : World) (l n p : ℕ) (d : Dir) (hop : ℕ × ℕ) → EndsDiffer (wiring_of t) → hop.1 < length t.links → is_end (wiring_of t) hop.1 n ≡ true
    → channel l d ≡ channel hop.1 (away_from t hop.1 n) → receiver (wiring_of t) l d ≡ across (wiring_of t) hop.1 n
to_hop t v l n p d hop differ below end over =
    let one = one_channel l hop.1 d (away_from t hop.1 n) over in
    ap (λ x. receiver (wiring_of t) x d) one.0 ∙ ap (receiver (wiring_of t) hop.1) one.1 ∙ by (eqb_tells (link (wiring_of t) hop.1).a.0 n)
  where
    by : (((link (wiring_of t) hop.1).a.0 == n) ≡ true) × ((link (wiring_of t) hop.1).a.0 ≡ n) ⊎ (((link (wiring_of t) hop.1).a.0 == n) ≡ false)
        × ((link (wiring_of t) hop.1).a.0 ≢ n)
        → receiver (wiring_of t) hop.1 (away_from t hop.1 n) ≡ across (wiring_of t) hop.1 n
    by (inl x) = ap (λ b. receiver (wiring_of t) hop.1 (if b then Forth else Back)) x.0
        ∙ sym (ap (λ b. if b then (link (wiring_of t) hop.1).b.0 else (link (wiring_of t) hop.1).a.0) x.0)
    by (inr x) = ap (λ b. receiver (wiring_of t) hop.1 (if b then Forth else Back)) x.0
        ∙ sym (ap (λ b. if b then (link (wiring_of t) hop.1).b.0 else (link (wiring_of t) hop.1).a.0) x.0)

-- who can send is at an end of the link, and is a node
alive_link : (t : Network) (w : World) (n l : ℕ) → is_operational (known t w n) l ≡ true → (l < length t.links) × (is_end (wiring_of t) l n ≡ true)
unfolding knowledge_of
alive_link t w n l on = elim (leb_tells (length t.links) l) [
  | inl past ↦ absurd (clash (sym (and_left (hearing (known t w n) l).alive (nat_le 2 (hearing (known t w n) l).count) on)
      ∙ ap (λ h. h.alive) (get_or_past (map (hearing_at (wiring_of t) w.config w.sessions n) (links_of (wiring_of t))) l
      (record { alive = false; count = 0; messages = [] })
      (subst (λ m. m ≤ l) (sym (length-map-range_with_len (hearing_at (wiring_of t) w.config w.sessions n) 0 (length t.links))) past.1))))
  | inr below ↦ (
    below.1,
    and_right (lives w.config l) (is_end (wiring_of t) l n)
        (sym (ap (λ h. h.alive) (hearing-is (wiring_of t) w.config w.views w.sessions n l below.1))
        ∙ and_left (hearing (known t w n) l).alive (nat_le 2 (hearing (known t w n) l).count) on),
  )
]

sender_there : (t : Network) (w : World) (n p : ℕ) (hop : ℕ × ℕ) → JoinsNodes (wiring_of t) → usable t w.config w.views w.sessions n p ≡ Some hop →
    (hop.1 < length t.links) × (is_end (wiring_of t) hop.1 n ≡ true) × (n < length t.loopbacks)
sender_there t w n p hop joins way =
    let on = over_mapped (known t w n) p (next (wiring_of t) (known t w n).view n p) hop way in
    let at = alive_link t w n hop.1 on.1 in
    (at.0, at.1, ends_below t joins hop.1 n at.0 at.1)

-- 2. One entry

module _ (t : Network) (e : JournalEntry) (w : World) (k : Packets) (rested : ℕ → ℕ → ℕ) (joins : JoinsNodes (wiring_of t)) (differ : EndsDiffer (wiring_of t))
    (lasting : AreLasting t) (young : AreYoung t k) (on : GoesForward t k.clock k e.tick) where
  old_step : (bytes : List ℕ) → SaysItsOffers t (after t w e.step) → Released t (after t w e.step).sessions
      → ((m p : ℕ) → is_at_rest t w m p ≡ false → is_at_rest t (after t w e.step) m p ≡ true → lays_to_rest t w e.step m p ≡ true)
      → AreOld t w rested k
      → AreOld t (after t w e.step) (λ m. rested_after t w e.tick e.step m (rested m)) (packets_by t (after t w e.step) k e bytes)
  old_step bytes says released begins old l d token below i inside apart rest =
      elim ((grows t (after t w e.step) (timed t e k) e.step bytes).1 (channel l d) token i) [
        | inl j ↦
            let was = timed_young t (clock_after e) e.tick e.step k refl (λ a b x within m. flown t e k a b x lasting young on within m) l d token below j in
            let sent = (flown t e k l d token lasting young on below was.0).sent in
            elim (two_ways (lays_to_rest t w e.step (receiver (wiring_of t) l d) token.edge)) [
              | inl lays ↦ subst (λ b. token.sent ≤ (if b then e.tick else rested (receiver (wiring_of t) l d) token.edge)) (sym lays) sent
              | inr none ↦ subst (λ b. token.sent ≤ (if b then e.tick else rested (receiver (wiring_of t) l d) token.edge)) (sym none)
                  (elim (two_ways (is_at_rest t w (receiver (wiring_of t) l d) token.edge)) [
                    | inl before ↦ old l d token below was.0 inside apart before
                    | inr before ↦ absurd (clash (sym (begins (receiver (wiring_of t) l d) token.edge before rest) ∙ none))
                  ])
            ]
        | inr j ↦
            let there = sender_there t (after t w e.step) (sends_in t e.step) token.edge j.hop joins j.way in
            let way = hop_mapped t (after t w e.step) (sends_in t e.step) token.edge j.hop joins there.2 j.apart j.way in
            absurd (rest_blocks t (after t w e.step) (receiver (wiring_of t) l d) (sends_in t e.step) token.edge j.hop joins differ there.2 j.apart inside says
            released
            rest j.way (way.2 ∙ sym (to_hop t (after t w e.step) l (sends_in t e.step) token.edge d j.hop differ there.0 there.1 j.over)))
      ]

-- 3. A journal

pub record AreTimed (t : Network) (w : World) (rested : ℕ → ℕ → ℕ) (k : Packets) : Type 0 where
  pub young : AreYoung t k
  pub old : AreOld t w rested k

all_rested : Network → World → (ℕ → ℕ → ℕ) → List JournalEntry → ℕ → ℕ → ℕ
all_rested t w rested es m = rested_from t m w (rested m) es

timed_on : (t : Network) → Apart t → JoinsNodes (wiring_of t) → EndsDiffer (wiring_of t) → AreLasting t
    → (es : List JournalEntry) (tick : ℕ) (w : World) (k : Packets) (i : ℕ) (ps : List (List ℕ)) (rested : ℕ → ℕ → ℕ) → IsLawfulFrom t tick w k i es ps
    → k.clock ≡ tick → IsInTurn t w → SaysItsOffers t w → Released t w.sessions → AreTimed t w rested k
    → AreTimed t (world_from t w es) (all_rested t w rested es) (packets_from t w k es ps)
unfolding all_rested
timed_on t apart joins differ lasting [] tick w k i ps rested lawful clock g says r h = h
timed_on t apart joins differ lasting (e ∷ es) tick w k i ps rested lawful clock g says r h =
    let may = free t w k i e.step (next_of ps) lawful.2 in
    let there = link_there t e.step lawful.0 in
    let on : GoesForward t k.clock k e.tick = subst (λ c. GoesForward t c k e.tick) (sym clock) lawful.1 in
    let later = released_step t w k e.step differ there may.there g.ldp r in
    let offers = says-step t w k e.step joins differ there may.there g.ldp says in
    let grown = grows t (after t w e.step) (timed t e k) e.step (next_of ps) in
    timed_on t apart joins differ lasting es (clock_after e) (after t w e.step) (packets_by t (after t w e.step) k e (next_of ps)) (i + 1) (left_by e.step ps)
    (λ m. rested_after t w e.tick e.step m (rested m)) lawful.3 (clock_then t w k e (next_of ps))
    (goes_step t apart joins differ w k e.step lawful.0 may.there g) offers later
    (record {
      young = grown_young t (after t w e.step) (sends_in t e.step) (timed t e k) (packets_by t (after t w e.step) k e (next_of ps)) grown
          (timed_all t e k lasting h.young on);
      old = old_step t e w k rested joins differ lasting h.young on (next_of ps) offers later
          (λ m p before rest. rest_begins t w k e.step m p differ there may.changes may.there g.ldp r before rest) h.old;
    })

pub are_timed : (t : Network) (es : List JournalEntry) (ps : List (List ℕ)) → IsLawful t → IsLawfulJournal t es ps →
    AreTimed t (world_of t es) (rested_of t es) (packets_of t es ps)
unfolding all_rested
are_timed t es ps lawful journal =
    timed_on t (loopbacks_apart t lawful) lawful.joins_nodes lawful.ends_differ (lasting_of t lawful) es 0 (start t) no_packets 0 ps (λ m fec. 0) journal refl
    (begins t) (says-first t) (λ l m p h e. refl) (record { young = λ l d token below i. absurd i; old = λ l d token below i inside apart rest. absurd i })

-- 4. Where a FEC is free, none of its frames flies

longest_at : (t : Network) (ls : List ℕ) (l : ℕ) → In ls l → (link (wiring_of t) l).life ≤ longest_life t ls
longest_at t [] l i = absurd i
longest_at t (x ∷ xs) l i = elim i [
  | inl e ↦
      subst (λ y. (link (wiring_of t) y).life ≤ max (link (wiring_of t) x).life (longest_life t xs)) e
      (le-max_left (link (wiring_of t) x).life (longest_life t xs))
  | inr j ↦ between (longest_at t xs l j) (le-max_right (link (wiring_of t) x).life (longest_life t xs))
]
  where
    between : {a b c : ℕ} → a ≤ b → b ≤ c → a ≤ c
    between x y = omega (arith, x, y)

receiver_end : (t : Network) (l : ℕ) (d : Dir) → is_end (wiring_of t) l (receiver (wiring_of t) l d) ≡ true
receiver_end t l Forth = is_end-b (wiring_of t) l
receiver_end t l Back = is_end-a (wiring_of t) l

pub none_flies : (t : Network) (w : World) (rested : ℕ → ℕ → ℕ) (k : Packets) (e : JournalEntry) (l : ℕ) (d : Dir) (token : Token)
    → AreLasting t → AreTimed t w rested k → GoesForward t k.clock k e.tick → l < length t.links → token.edge < length t.loopbacks
    → token.edge ≢ receiver (wiring_of t) l d → In (flying_on k l d) token
    → is_free t w (receiver (wiring_of t) l d) (rested (receiver (wiring_of t) l d)) e.tick token.edge ≡ true → ⊥
none_flies t w rested k e l d token lasting h on below inside apart i free =
    let n : ℕ = receiver (wiring_of t) l d in
    let rest = and_left (is_at_rest t w n token.edge) (nat_lt (rested n token.edge + longest_life t (links_at (wiring_of t) n)) e.tick) free in
    let past = less_tells (rested n token.edge + longest_life t (links_at (wiring_of t) n)) e.tick
    (and_right (is_at_rest t w n token.edge) (nat_lt (rested n token.edge + longest_life t (links_at (wiring_of t) n)) e.tick) free) in
    beyond (h.old l d token below i inside apart rest) (flown t e k l d token lasting h.young on below i).young
    (longest_at t (links_at (wiring_of t) n) l (link_at t l n below (receiver_end t l d))) past
  where
    beyond : {sent at tick life most : ℕ} → sent ≤ at → tick ≤ sent + life → life ≤ most → at + most < tick → ⊥
    beyond a b c f = omega (arith, a, b, c, f)

pub sent_before : (t : Network) (es : List JournalEntry) (ps : List (List ℕ)) → IsLawful t → IsLawfulJournal t es ps → WereSentBefore t es ps
sent_before t es ps lawful journal l d token below i =
    (are_timed t es ps lawful journal).old l d token below (in_contained (flying_on (packets_of t es ps) l d) token i)

pub frames_keep : (t : Network) (es : List JournalEntry) (ps : List (List ℕ)) (e : JournalEntry) → IsLawful t → IsLawfulJournal t es ps →
    FramesKeepTheirLabels t es ps e
frames_keep t es ps e lawful journal l d token label below on i inside apart has =
    keeps_its_label t es e (receiver (wiring_of t) l d) token.edge label has (never _ (λ free.
    none_flies t (world_of t es) (rested_of t es) (packets_of t es ps) e l d token (lasting_of t lawful) (are_timed t es ps lawful journal)
    (subst (λ c. GoesForward t c (packets_of t es ps) e.tick) (sym (clock_is t es ps)) on) below inside apart
    (in_contained (flying_on (packets_of t es ps) l d) token i) free))
