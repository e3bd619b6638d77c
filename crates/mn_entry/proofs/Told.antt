-- An entry is of one damage, and one that fits is a step's or a damage's.
use Rattle.std.specs.Prelude.{ℕ, ◌≡◌, ◌<◌, ◌≤◌, ◌≢◌, ◌&&◌, ◌==◌, Bool, true, false, not, nat_lt, nat_le, if◌then◌else◌, refl, Option, Some, None}
use Rattle.std.proofs.Common.{arith, ap, sym, ◌∙◌}
use Rattle.std.proofs.lemmas.Bool.Decides.{nat_tests}
use Rattle.mn_base.proofs.Bools.{no, clash, and_on, and_left, and_right, unlike_numbers, less_is, less_tells, not_less_tells}
use Rattle.mn_base.specs.declared.numbers.NodeNo.{NodeNo}
use Rattle.mn_wiring.specs.declared.links.Dir.TheVariants as dir
use Rattle.mn_topo.specs.Network.{Network}
use Rattle.mn_topo.specs.VrfTable.{is_edge}
use Rattle.mn_topo.specs.Steps.{fits, has_link, are_edges, are_edges_in_order}
use Rattle.mn_topo.specs.declared.steps.Step.{Step}
use Rattle.mn_topo.specs.declared.steps.Step.TheVariants.{LdpAdmin, BgpDown}
use Rattle.mn_topo.specs.declared.steps.Damage.{Damage}
use Rattle.mn_topo.specs.declared.steps.Damage.TheVariants.{Ldp, Bgp}
use Rattle.mn_topo.specs.declared.steps.Damaged.{Damaged}
use Rattle.mn_topo.specs.declared.steps.Damaged.TheVariants as mark
use Rattle.mn_topo.specs.declared.steps.JournalEntry.{JournalEntry}
use Rattle.mn_entry.specs.Damages.{lesser, greater, ending, mark_of, entry_for, damage_fits, damage_in, damage_by}
use Rattle.mn_entry.specs.Entries.{has_record, mark_fits, entry_fits, IsMadeBy, Plain, ByDamage}

-- 1. An entry is of one damage

pair_told : (a b : NodeNo) (n : ℕ) (x : Bool) →
    damage_by (BgpDown (if x then a else b) (if x then b else a)) (if x then mark.Forth n else mark.Back n) ≡ Some (Bgp a b n)
pair_told a b n true = refl
pair_told a b n false = refl

pub one_damage : (tick : ℕ) (d : Damage) → damage_in (entry_for tick d) ≡ Some d
one_damage tick (Ldp l dir.Forth n) = refl
one_damage tick (Ldp l dir.Back n) = refl
one_damage tick (Bgp a b n) = pair_told a b n (nat_lt a.0 b.0)

-- 2. The entry for a damage that fits

after_it : (a b : NodeNo) → nat_lt a.0 b.0 ≡ false → a.0 ≢ b.0 → nat_lt b.0 a.0 ≡ true
after_it a b h g = less_is b.0 a.0 (below (not_less_tells a.0 b.0 h))
  where
    below : b.0 ≤ a.0 → b.0 < a.0
    below k = omega (arith, k, g)

-- two edges in the order of their numbers
pub ordered : (t : Network) (a b : NodeNo) (x : Bool) → nat_lt a.0 b.0 ≡ x → are_edges t a b ≡ true →
    are_edges_in_order t (if x then a else b) (if x then b else a) ≡ true
ordered t a b true h e =
    let both = and_left (is_edge t.vrfs a.0 && is_edge t.vrfs b.0) (not (a.0 == b.0)) e in
    and_on (is_edge t.vrfs a.0 && is_edge t.vrfs b.0) (nat_lt a.0 b.0) both h
ordered t a b false h e =
    let both = and_left (is_edge t.vrfs a.0 && is_edge t.vrfs b.0) (not (a.0 == b.0)) e in
    let other = unlike_numbers a.0 b.0 (and_right (is_edge t.vrfs a.0 && is_edge t.vrfs b.0) (not (a.0 == b.0)) e) in
    and_on (is_edge t.vrfs b.0 && is_edge t.vrfs a.0) (nat_lt b.0 a.0)
    (and_on (is_edge t.vrfs b.0) (is_edge t.vrfs a.0) (and_right (is_edge t.vrfs a.0) (is_edge t.vrfs b.0) both)
    (and_left (is_edge t.vrfs a.0) (is_edge t.vrfs b.0) both)) (after_it a b h other)

pair_marked : (a b : NodeNo) (n : ℕ) (x : Bool) → nat_le 1 n ≡ true →
    mark_fits (BgpDown (if x then a else b) (if x then b else a)) (if x then mark.Forth n else mark.Back n) ≡ true
pair_marked a b n true h = h
pair_marked a b n false h = h

pub damages_fit : (t : Network) (tick : ℕ) (d : Damage) → damage_fits t d ≡ true → entry_fits t (entry_for tick d) ≡ true
damages_fit t tick (Ldp l dir.Forth n) h = h
damages_fit t tick (Ldp l dir.Back n) h = h
damages_fit t tick (Bgp a b n) h =
    and_on (are_edges_in_order t (lesser a b) (greater a b)) (mark_fits (BgpDown (lesser a b) (greater a b)) (mark_of (Bgp a b n)))
    (ordered t a b (nat_lt a.0 b.0) refl (and_left (are_edges t a b) (nat_le 1 n) h))
    (pair_marked a b n (nat_lt a.0 b.0) (and_right (are_edges t a b) (nat_le 1 n) h))

-- 3. What an entry that fits tells

unlike : (a b : NodeNo) → nat_lt a.0 b.0 ≡ true → not (a.0 == b.0) ≡ true
unlike a b h = let less : a.0 < b.0 = less_tells a.0 b.0 h in grind (arith, nat_tests, less)

unlike_back : (a b : NodeNo) → nat_lt a.0 b.0 ≡ true → not (b.0 == a.0) ≡ true
unlike_back a b h = let less : a.0 < b.0 = less_tells a.0 b.0 h in grind (arith, nat_tests, less)

not_before : (a b : NodeNo) → nat_lt a.0 b.0 ≡ true → nat_lt b.0 a.0 ≡ false
not_before a b h = let less : a.0 < b.0 = less_tells a.0 b.0 h in grind (arith, nat_tests, less)

abbrev pair_entry : ℕ → NodeNo → NodeNo → Damaged → JournalEntry
pair_entry tick a b m = record { tick = tick; step = BgpDown a b; damaged = m }

forth_entry : (tick : ℕ) (a b : NodeNo) (n : ℕ) (x : Bool) → x ≡ true →
    pair_entry tick a b (mark.Forth n) ≡ pair_entry tick (if x then a else b) (if x then b else a) (if x then mark.Forth n else mark.Back n)
forth_entry tick a b n true h = refl
forth_entry tick a b n false h = absurd (no h)

back_entry : (tick : ℕ) (a b : NodeNo) (n : ℕ) (x : Bool) → x ≡ false →
    pair_entry tick a b (mark.Back n) ≡ pair_entry tick (if x then b else a) (if x then a else b) (if x then mark.Forth n else mark.Back n)
back_entry tick a b n false h = refl
back_entry tick a b n true h = absurd (clash h)

turned_edges : (t : Network) (a b : NodeNo) → are_edges_in_order t a b ≡ true → are_edges t b a ≡ true
turned_edges t a b h =
    let both = and_left (is_edge t.vrfs a.0 && is_edge t.vrfs b.0) (nat_lt a.0 b.0) h in
    let less = and_right (is_edge t.vrfs a.0 && is_edge t.vrfs b.0) (nat_lt a.0 b.0) h in
    and_on (is_edge t.vrfs b.0 && is_edge t.vrfs a.0) (not (b.0 == a.0))
    (and_on (is_edge t.vrfs b.0) (is_edge t.vrfs a.0) (and_right (is_edge t.vrfs a.0) (is_edge t.vrfs b.0) both)
    (and_left (is_edge t.vrfs a.0) (is_edge t.vrfs b.0) both)) (unlike_back a b less)

same_edges : (t : Network) (a b : NodeNo) → are_edges_in_order t a b ≡ true → are_edges t a b ≡ true
same_edges t a b h =
    let both = and_left (is_edge t.vrfs a.0 && is_edge t.vrfs b.0) (nat_lt a.0 b.0) h in
    and_on (is_edge t.vrfs a.0 && is_edge t.vrfs b.0) (not (a.0 == b.0)) both
    (unlike a b (and_right (is_edge t.vrfs a.0 && is_edge t.vrfs b.0) (nat_lt a.0 b.0) h))

no_record : (b : Bool) → (b && false) ≡ true → ⊥
no_record b h = no (and_right b false h)

made : (t : Network) (tick : ℕ) (s : Step) (m : Damaged) → entry_fits t (record { tick = tick; step = s; damaged = m }) ≡ true →
    IsMadeBy t (record { tick = tick; step = s; damaged = m })
made t tick s mark.Undamaged h = Plain refl (and_left (fits t s) true h)
made t tick (LdpAdmin l false) (mark.Forth n) h = ByDamage (Ldp l dir.Forth n) refl h
made t tick (LdpAdmin l false) (mark.Back n) h = ByDamage (Ldp l dir.Back n) refl h
made t tick (BgpDown a b) (mark.Forth n) h =
    let in_order = and_left (are_edges_in_order t a b) (nat_le 1 n) h in
    let less = and_right (is_edge t.vrfs a.0 && is_edge t.vrfs b.0) (nat_lt a.0 b.0) in_order in
    ByDamage (Bgp a b n) (forth_entry tick a b n (nat_lt a.0 b.0) less)
    (and_on (are_edges t a b) (nat_le 1 n) (same_edges t a b in_order) (and_right (are_edges_in_order t a b) (nat_le 1 n) h))
made t tick (BgpDown a b) (mark.Back n) h =
    let in_order = and_left (are_edges_in_order t a b) (nat_le 1 n) h in
    let less = and_right (is_edge t.vrfs a.0 && is_edge t.vrfs b.0) (nat_lt a.0 b.0) in_order in
    ByDamage (Bgp b a n) (back_entry tick a b n (nat_lt b.0 a.0) (not_before a b less))
    (and_on (are_edges t b a) (nat_le 1 n) (turned_edges t a b in_order) (and_right (are_edges_in_order t a b) (nat_le 1 n) h))
made t tick s (mark.Forth n) h = absurd (no (and_right (fits t s) false h))
made t tick s (mark.Back n) h = absurd (no (and_right (fits t s) false h))

pub one_or_the_other : (t : Network) (e : JournalEntry) → entry_fits t e ≡ true → IsMadeBy t e
one_or_the_other t e h = made t e.tick e.step e.damaged h

-- 4. The damage of an entry

pub plain_tells_none : (s : Step) → damage_by s mark.Undamaged ≡ None
plain_tells_none (LdpAdmin l true) = refl
plain_tells_none (LdpAdmin l false) = refl
plain_tells_none _ = refl

-- one that fits and tells none has no mark
pub no_mark : (s : Step) (m : Damaged) → mark_fits s m ≡ true → damage_by s m ≡ None → m ≡ mark.Undamaged
no_mark s mark.Undamaged h e = refl
no_mark s (mark.Forth n) h e = absurd (no (sym (ap has_record e) ∙ h))
no_mark s (mark.Back n) h e = absurd (no (sym (ap has_record e) ∙ h))

unlike_none : (d : Damage) → ◌≡◌ {A = Option Damage} None (Some d) → ⊥
unlike_none d h = cc

-- and the damage that one tells fits
pub told_fits : (t : Network) (e : JournalEntry) (d : Damage) → entry_fits t e ≡ true → damage_in e ≡ Some d → damage_fits t d ≡ true
told_fits t e d h told = by (one_or_the_other t e h)
  where
    by : IsMadeBy t e → damage_fits t d ≡ true
    by (Plain u f) = absurd (unlike_none d (sym (plain_tells_none e.step) ∙ sym (ap (damage_by e.step) u) ∙ told))
    by (ByDamage other is f) = let same : Some other ≡ Some d = sym (one_damage e.tick other) ∙ sym (ap damage_in is) ∙ told in
        let one : other ≡ d = cc in ap (damage_fits t) (sym one) ∙ f
