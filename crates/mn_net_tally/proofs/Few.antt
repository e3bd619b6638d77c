-- A step sends one frame at most.
use Rattle.std.proofs.Common.{ℕ, zero, suc, ◌≡◌, ◌+◌, ◌*◌, ◌<◌, ◌≤◌, inl, inr, Bool, true, false, cond, List, [], ◌∷◌, ◌++◌, length, refl, arith, sym, ap}
use Rattle.std.proofs.Common.{◌∙◌, subst}
use Rattle.std.specs.Prelude.{◌==◌, ◌/◌, ◌%◌, slice_index}
use Rattle.std.proofs.lemmas.List.{length-append}
use Rattle.std.proofs.lemmas.List.Elements.{filter-append}
use Rattle.mn_wiring.specs.declared.links.Dir.{Dir}
use Rattle.mn_wiring.specs.declared.links.Dir.TheVariants.{Forth, Back}
use Rattle.mn_topo.specs.Network.{Network}
use Rattle.mn_topo.specs.declared.steps.Step.{Step}
use Rattle.mn_topo.specs.declared.steps.JournalEntry.{JournalEntry}
use Rattle.mn_ledger.specs.World.{World}
use Rattle.mn_ledger.specs.Packets.{Packets, channel}
use Rattle.mn_ledger.specs.Ledger.{after, start, no_packets, next_of, left_by, packets_by}
use Rattle.mn_ledger.specs.Time.{timed}
use Rattle.mn_ledger.specs.Items.{Channel, Frames, Load, same_channel, items_on, delay_on, notices_in, messages_in, routes_in, frames_in, made_in, numbered}
use Rattle.mn_ledger.specs.Items.{made_from}
use Rattle.mn_ledger_laws.specs.Ids.{frames_sent}
use Rattle.mn_timetable_laws.specs.Keys.{Key, keys_on, of_frames}
use Rattle.mn_timetable_laws.proofs.Made.{IsOneFrame, one_frame, frames_made}
use Rattle.mn_net_parts_laws.proofs.Counted.{count_on, counted_on}
use Rattle.mn_net_tally.specs.Tallies.{Tally, Tallies}

one_key : (c : ℕ) (key : Key) → count_on c (key ∷ []) ≤ 1
one_key c key = by (key.channel == c)
  where
    by : (b : Bool) → length (cond b (key ∷ []) []) ≤ 1
    by true = omega arith
    by false = omega arith

one_in_step : (t : Network) (w v : World) (p q : Packets) (s : Step) (tick n : ℕ) (l : ℕ) (d : Dir) →
    length (items_on (Frames l d) (numbered t tick n (made_in t w v p q s))) ≤ 1
one_in_step t w v p q s tick n l d =
    subst (λ m. m ≤ 1) (sym (counted_on l d (numbered t tick n (made_in t w v p q s)) ∙ ap (count_on (channel l d)) (frames_made t w v p q s tick n)))
    (by (frames_in p q s) (one_frame p q s) (n + length (notices_in t s) + length (messages_in t w v s) + length (routes_in t w v s)))
  where
    by : (fs : List (Channel × Load)) → IsOneFrame fs → (m : ℕ) → count_on (channel l d) (keys_on of_frames (numbered t tick m fs)) ≤ 1
    by fs (inl e) m = subst (λ gs. count_on (channel l d) (keys_on of_frames (numbered t tick m gs)) ≤ 1) (sym e) (omega arith)
    by fs (inr e) m = subst (λ gs. count_on (channel l d) (keys_on of_frames (numbered t tick m gs)) ≤ 1) (sym e.3)
        (one_key (channel l d) (record { channel = channel e.0 e.1; due = tick + delay_on t (Frames e.0 e.1); number = m }))

few_from : (t : Network) (w : World) (k : Packets) (n : ℕ) (es : List JournalEntry) (ps : List (List ℕ)) (l : ℕ) (d : Dir) →
    length (items_on (Frames l d) (made_from t w k n es ps)) ≤ length es
few_from t w k n [] ps l d = omega arith
few_from t w k n (e ∷ es) ps l d =
    let v : World = after t w e.step in
    let q : Packets = packets_by t v k e (next_of ps) in
    let now : Packets = timed t e k in
    let new : List (Channel × Load) = made_in t w v now q e.step in
    let rest = few_from t v q (n + length new) es (left_by e.step ps) l d in
    let one = one_in_step t w v now q e.step e.tick n l d in
    let split =
    ap length
    (filter-append (λ item. same_channel (Frames l d) item.on) (numbered t e.tick n new) (made_from t v q (n + length new) es (left_by e.step ps)))
    ∙ length-append (items_on (Frames l d) (numbered t e.tick n new)) (items_on (Frames l d) (made_from t v q (n + length new) es (left_by e.step ps))) in
    omega (arith, split, one, rest)

-- the direction of a number
direction : (c n : ℕ) → c < 2 * n → (l : ℕ) × (d : Dir) × (l < n) × (c ≡ channel l d)
direction c n h = by (c % 2) refl
  where
    by : (r : ℕ) → c % 2 ≡ r → (l : ℕ) × (d : Dir) × (l < n) × (c ≡ channel l d)
    by zero e = (c / 2, Forth, omega (arith, h), omega (arith, e))
    by (suc r) e = (c / 2, Back, omega (arith, h), omega (arith, e))

pub few_sent : (t : Network) (es : List JournalEntry) (ps : List (List ℕ)) (tally : Tally) (c : ℕ) → Tallies t es ps tally → c < 2 * length t.links →
    slice_index tally.sent c ≤ length es
few_sent t es ps tally c h below =
    let at = direction c (length t.links) below in
    subst (λ n. n ≤ length es) (sym (ap (slice_index tally.sent) at.3 ∙ h.sent at.0 at.1 at.2)) (few_from t (start t) no_packets 0 es ps at.0 at.1)
