-- When what flies was made: those of a channel one after the other, and none after the last step.
use Rattle.std.proofs.Common.{ℕ, suc, ◌≡◌, ◌+◌, ◌<◌, ◌≤◌, inl, inr, true, List, [], ◌∷◌, length, refl, arith, sym, ap, ◌∙◌, subst}
use Rattle.std.specs.Prelude.{◌==◌, ◌&&◌, nat_le}
use Rattle.std.specs.List.{Contains, AllByRecursion}
use Rattle.mn_wiring.specs.declared.links.LinkEnds.{LinkEnds}
use Rattle.mn_wiring.specs.Wiring.{link}
use Rattle.mn_base.proofs.Bools.{no, and_left, and_right, and_on, at_most_tells, same_numbers, same_test}
use Rattle.mn_base.proofs.Members.{In, in_contained, in_append}
use Rattle.mn_topo.specs.Lawful.{IsLawful, has_figures}
use Rattle.mn_topo.specs.Network.{Network, wiring_of}
use Rattle.mn_topo.specs.declared.steps.JournalEntry.{JournalEntry}
use Rattle.mn_topo.proofs.Wirings.{passes_at}
use Rattle.mn_ledger.specs.World.{World}
use Rattle.mn_ledger.specs.Packets.{Packets, channel}
use Rattle.mn_ledger.specs.Ledger.{after, start, no_packets, next_of, left_by, packets_by}
use Rattle.mn_ledger.specs.Lawful.{IsLawfulFrom, IsLawfulJournal}
use Rattle.mn_ledger.specs.OneMore.{tick_from}
use Rattle.mn_ledger.specs.Items.{Channel, Notices, Messages, Routes, Frames, Load, Notice, Says, Tells, Carries, Item, same_channel, delay_on, numbered}
use Rattle.mn_ledger.specs.Items.{made_in, made_from, made_by, flight_of}
use Rattle.mn_ledger.proofs.Channels.{same_chan}
use Rattle.mn_ledger.proofs.Flows.{in_flight}
use Rattle.mn_ledger_laws.specs.Flight.{AreAscending, AreMadeInOrder, IsOfChannel}
use Rattle.mn_ledger_laws.proofs.Fates.{one_link}
use Rattle.mn_ledger.specs.Time.{clock_after, timed}

-- 1. Channels

pub same_on : (on c : Channel) → same_channel on c ≡ true → c ≡ on
same_on (Frames l d) (Frames k b) h =
    let one = one_link k l b d (same_numbers (channel k b) (channel l d) h) in
    ap (λ n. Frames n b) one.0 ∙ ap (Frames l) one.1
same_on (Frames l d) (Notices k n) h = absurd (no h)
same_on (Frames l d) (Messages k n) h = absurd (no h)
same_on (Frames l d) (Routes k n) h = absurd (no h)
same_on (Notices l n) c h = same_chan (Notices l n) c refl h
same_on (Messages l n) c h = same_chan (Messages l n) c refl h
same_on (Routes l n) c h = same_chan (Routes l n) c refl h

pub on_itself : (on : Channel) → same_channel on on ≡ true
on_itself (Notices l n) = and_on (l == l) (n == n) (same_test l) (same_test n)
on_itself (Messages l n) = and_on (l == l) (n == n) (same_test l) (same_test n)
on_itself (Routes l n) = and_on (l == l) (n == n) (same_test l) (same_test n)
on_itself (Frames l d) = same_test (channel l d)

-- 2. An item of a lesser number was made no later

of_all : (P : Item → Type 0) (xs : List Item) (y : Item) → AllByRecursion P xs → In xs y → P y
of_all P [] y h i = absurd i
of_all P (x ∷ xs) y h i = elim i [ inl e ↦ subst P e h.0 | inr j ↦ of_all P xs y h.1 j ]

pub at_least : (low high : ℕ) (xs : List Item) (y : Item) → AreAscending low high xs → In xs y → low ≤ y.number
at_least low high [] y h i = absurd i
at_least low high (x ∷ xs) y h i =
    let first : low ≤ x.number = h.0 in
    elim i [
      | inl e ↦ subst (λ (z : Item). low ≤ z.number) e first
      | inr j ↦ (let rest : suc x.number ≤ y.number = at_least (suc x.number) high xs y h.1 j in omega (arith, rest, first))
    ]

pub made_before : (t : Network) (low high : ℕ) (xs : List Item) (x y : Item) → AreMadeInOrder t xs → AreAscending low high xs → In xs x → In xs y
    → x.number < y.number → x.due + delay_on t y.on ≤ y.due + delay_on t x.on
made_before t low high [] x y order up i j less = absurd i
made_before t low high (z ∷ zs) x y order up i j less = elim i [
  | inl e ↦ elim j [
    | inl f ↦ absurd (equal (subst (λ (v : Item). v.number < y.number) (sym e ∙ f) less))
    | inr n ↦ subst (λ (v : Item). v.due + delay_on t y.on ≤ y.due + delay_on t v.on) e
        (of_all (λ other. z.due + delay_on t other.on ≤ other.due + delay_on t z.on) zs y order.0 n)
  ]
  | inr m ↦ elim j [
    | inl f ↦ absurd (back (at_least (suc z.number) high zs x up.1 m) (subst (λ (v : Item). x.number < v.number) (sym f) less))
    | inr n ↦ made_before t (suc z.number) high zs x y order.1 up.1 m n less
  ]
]
  where
    equal : y.number < y.number → ⊥
    equal h = omega (arith, h)

    back : suc z.number ≤ x.number → x.number < z.number → ⊥
    back h g = omega (arith, h, g)

-- 3. Nothing was made after the last step

on_time : (t : Network) (tick n : ℕ) (new : List (Channel × Load)) (x : Item) → In (numbered t tick n new) x → x.due ≡ tick + delay_on t x.on
on_time t tick n [] x i = absurd i
on_time t tick n (m ∷ ms) x i = elim i [
  | inl e ↦ subst (λ (v : Item). v.due ≡ tick + delay_on t v.on) e refl
  | inr j ↦ on_time t tick (n + 1) ms x j
]

ticks_rise : (t : Network) (es : List JournalEntry) (tick : ℕ) (w : World) (k : Packets) (i : ℕ) (ps : List (List ℕ)) → IsLawfulFrom t tick w k i es ps
    → tick ≤ tick_from tick es
ticks_rise t [] tick w k i ps lawful = omega arith
ticks_rise t (e ∷ es) tick w k i ps lawful =
    let v : World = after t w e.step in
    let later : clock_after e ≤ tick_from (clock_after e) es =
    ticks_rise t es (clock_after e) v (packets_by t v k e (next_of ps)) (i + 1) (left_by e.step ps) lawful.3 in
    omega (arith, later, lawful.1.later)

made_by_then : (t : Network) (es : List JournalEntry) (tick : ℕ) (w : World) (k : Packets) (i n : ℕ) (ps : List (List ℕ)) → IsLawfulFrom t tick w k i es ps
    → (x : Item) → In (made_from t w k n es ps) x → x.due ≤ tick_from tick es + delay_on t x.on
made_by_then t [] tick w k i n ps lawful x j = absurd j
made_by_then t (e ∷ es) tick w k i n ps lawful x j =
    let v : World = after t w e.step in
    let q : Packets = packets_by t v k e (next_of ps) in
    let new : List (Channel × Load) = made_in t w v (timed t e k) q e.step in
    elim (in_append (numbered t e.tick n new) (made_from t v q (n + length new) es (left_by e.step ps)) x j) [
      | inl f ↦ omega (arith, on_time t e.tick n new x f, ticks_rise t es (clock_after e) v q (i + 1) (left_by e.step ps) lawful.3)
      | inr g ↦ made_by_then t es (clock_after e) v q (i + 1) (n + length new) (left_by e.step ps) lawful.3 x g
    ]

-- 4. A delay is at most 1,000

module _ (t : Network) (lawful : IsLawful t) where
  link_delay : (l : ℕ) → l < length t.links → (link (wiring_of t) l).delay ≤ 1000
  link_delay l h =
      let ends : LinkEnds = link (wiring_of t) l in
      let figures : has_figures ends ≡ true = passes_at has_figures t.links l _ lawful.links.figures h in
      at_most_tells ends.delay 1000
      (and_right (nat_le 1 ends.delay) (nat_le ends.delay 1000)
      (and_right (nat_le 1 ends.cost && nat_le ends.cost 65535) (nat_le 1 ends.delay && nat_le ends.delay 1000)
      (and_left ((nat_le 1 ends.cost && nat_le ends.cost 65535) && (nat_le 1 ends.delay && nat_le ends.delay 1000))
      (nat_le 0 ends.loss && nat_le ends.loss 65535) (and_left _ _ figures))))

  few_ticks : (on : Channel) (load : Load) → IsOfChannel t on load → delay_on t on ≤ 1000
  few_ticks (Notices l n) load c =
      at_most_tells t.notice_delay 1000 (and_right (nat_le 1 t.notice_delay) (nat_le t.notice_delay 1000) lawful.notice_delay)
  few_ticks (Routes a b) load c = at_most_tells t.bgp_delay 1000 (and_right (nat_le 1 t.bgp_delay) (nat_le t.bgp_delay 1000) lawful.bgp_delay)
  few_ticks (Messages l n) (Says m) c = link_delay l c.0
  few_ticks (Messages l n) Notice c = absurd c
  few_ticks (Messages l n) (Tells m) c = absurd c
  few_ticks (Messages l n) (Carries k) c = absurd c
  few_ticks (Frames l d) (Carries k) c = link_delay l c
  few_ticks (Frames l d) Notice c = absurd c
  few_ticks (Frames l d) (Says m) c = absurd c
  few_ticks (Frames l d) (Tells m) c = absurd c

  pub due_soon : (es : List JournalEntry) (ps : List (List ℕ)) → IsLawfulJournal t es ps → (x : Item) → Contains (flight_of t es ps).items x
      → IsOfChannel t x.on x.load → x.due ≤ tick_from 0 es + 1000
  due_soon es ps journal x c of =
      omega (
        arith,
        made_by_then t es 0 (start t) no_packets 0 0 ps journal x
            (in_contained (made_by t es ps) x ((in_flight t es ps lawful journal).among x c)),
        few_ticks x.on x.load of,
      )
