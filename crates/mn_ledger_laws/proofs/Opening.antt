-- What is in flight can be delivered: the step that delivers it fits, and only a full journal refuses it.
use Rattle.std.proofs.Common.{ℕ, ◌≡◌, ◌≢◌, ◌-◌, ◌<◌, inl, Bool, true, false, List, [], ◌∷◌, length, drop, refl, arith, sym, ap, ◌∙◌, subst, None}
use Rattle.std.specs.Prelude.{◌==◌, ◌&&◌, ◌||◌, not, nat_le, nat_lt}
use Rattle.std.proofs.lemmas.List.{length-map, length-drop}
use Rattle.mn_base.proofs.Bools.{no, and_on, not_on, less_is, other_test, not_at_most}
use Rattle.mn_wiring.specs.declared.links.Dir.{Dir}
use Rattle.mn_base.specs.declared.numbers.LinkNo.{LinkNo}
use Rattle.mn_wiring.specs.Wiring.{is_end, across, sender, receiver}
use Rattle.mn_topo.specs.Lawful.{IsLawful}
use Rattle.mn_topo.specs.Network.{Network, wiring_of}
use Rattle.mn_topo.specs.Steps.{fits}
use Rattle.mn_topo.specs.VrfTable.{is_edge}
use Rattle.mn_topo.specs.declared.steps.Step.{Step}
use Rattle.mn_topo.specs.declared.steps.Step.TheVariants.{LinkUp, Learn, HearLdp, HearBgp, Carry, Lose, Tick}
use Rattle.mn_topo.specs.declared.steps.JournalEntry.{JournalEntry}
use Rattle.mn_ledger.specs.declared.refused.Refused.{Refused}
use Rattle.mn_ledger.specs.declared.refused.Refused.TheVariants.{Empty, TooManySteps}
use Rattle.mn_ledger.specs.World.{World}
use Rattle.mn_ledger.specs.Packets.{Packets, channel, flying_on, away_from}
use Rattle.mn_ledger.specs.Ledger.{world_of, packets_of}
use Rattle.mn_ledger.specs.Lawful.{IsLawfulJournal}
use Rattle.mn_ledger.specs.Transport.{lives}
use Rattle.mn_ledger.specs.Bgp.{peers_live}
use Rattle.mn_ledger.specs.Turns.{IsInTurn}
use Rattle.mn_ledger.specs.InFlight.{is_in_order, IsInFlight}
use Rattle.mn_ledger.specs.Refusal.{refusal_at, first_cause, where_holds, is_empty, takes_out}
use Rattle.mn_ledger.specs.Items.{Channel, Notices, Messages, Routes, Frames, Load, Notice, Says, Tells, Carries, Item, same_channel, items_on, loads_on}
use Rattle.mn_ledger.specs.Items.{made_by, flight_of}
use Rattle.mn_ledger.proofs.Channels.{same_chan}
use Rattle.mn_ledger.proofs.Flows.{in_flight}
use Rattle.mn_ledger.proofs.InTurn.{in_turn}
use Rattle.mn_ledger.proofs.Members.{In, in_filter, contained_in}
use Rattle.mn_ledger.proofs.Peers.{same_numbers}
use Rattle.mn_ledger.proofs.Turning.{dir_ends, across-end}
use Rattle.mn_ledger_laws.specs.Flight.{IsOfChannel, delivering, IsOpen}
use Rattle.mn_ledger_laws.proofs.Channels.{channels_are}
use Rattle.mn_ledger_laws.proofs.Fates.{one_link}
use Rattle.mn_ledger_laws.proofs.There.{sends_from}

-- 1. A step that takes out what is there is refused by nothing but a full journal

last_cause : (b : Bool) (c : Refused) → first_cause (where_holds b c ∷ []) ≡ where_holds b c
last_cause true c = refl
last_cause false c = refl

past_empty : (e b : Bool) (c : Refused) → e ≡ false → first_cause (where_holds e Empty ∷ None ∷ None ∷ None ∷ None ∷ where_holds b c ∷ []) ≡ where_holds b c
past_empty false b c h = last_cause b c
past_empty true b c h = absurd (no (sym h))

pub takes_open : (t : Network) (w : World) (k : Packets) (n : ℕ) (s : Step) (b : List ℕ) → takes_out s ≡ true → is_empty t w k s ≡ false
    → refusal_at t w k n s b ≡ where_holds (nat_le 4000000 n) TooManySteps
takes_open t w k n (Learn node l) b h e = past_empty (is_empty t w k (Learn node l)) (nat_le 4000000 n) TooManySteps e
takes_open t w k n (HearLdp l d) b h e = past_empty (is_empty t w k (HearLdp l d)) (nat_le 4000000 n) TooManySteps e
takes_open t w k n (HearBgp x y) b h e = past_empty (is_empty t w k (HearBgp x y)) (nat_le 4000000 n) TooManySteps e
takes_open t w k n (Carry l d p) b h e = past_empty (is_empty t w k (Carry l d p)) (nat_le 4000000 n) TooManySteps e
takes_open t w k n (Lose l d p) b h e = past_empty (is_empty t w k (Lose l d p)) (nat_le 4000000 n) TooManySteps e
takes_open t w k n (Tick ticks) b h e = past_empty (is_empty t w k (Tick ticks)) (nat_le 4000000 n) TooManySteps e
takes_open t w k n (LinkUp l) b h e = absurd (no h)
takes_open t w k n _ b h e = absurd (no h)

-- 2. What is on a channel

pub some_item : (on : Channel) (xs : List Item) (place : ℕ) → place < length (items_on on xs) → (x : Item) × In xs x × (same_channel on x.on ≡ true)
some_item on xs place h = first (items_on on xs) refl
  where
    nothing : (place : ℕ) (ys : List Item) → ys ≡ [] → place < length ys → ⊥
    nothing place ys e h = omega (arith, h, ap length e)

    first : (ys : List Item) → items_on on xs ≡ ys → (x : Item) × In xs x × (same_channel on x.on ≡ true)
    first [] e = absurd (nothing place (items_on on xs) e h)
    first (y ∷ ys) e = let f = in_filter (λ item. same_channel on item.on) xs y (subst (λ zs. In zs y) (sym e) (inl refl)) in (y, f.0, f.1)

module _ (t : Network) (lawful : IsLawful t) (es : List JournalEntry) (ps : List (List ℕ)) (journal : IsLawfulJournal t es ps) where
  abbrev items : List Item
  items = (flight_of t es ps).items

  abbrev world : World
  world = world_of t es

  flight : IsInFlight t world (packets_of t es ps) (made_by t es ps) (flight_of t es ps)
  flight = in_flight t es ps lawful journal

  turn : IsInTurn t world
  turn = in_turn t es ps lawful journal

  of_channel : (x : Item) → In items x → IsOfChannel t x.on x.load
  of_channel x i = channels_are t es ps x lawful journal (contained_in items x i)

  as_many : (on : Channel) → length (loads_on on items) ≡ length (items_on on items)
  as_many on = length-map (items_on on items) (λ (item : Item). item.load)

  -- 3. Each kind

  open_by : (s : Step) → fits t s ≡ true → takes_out s ≡ true → is_empty t world (packets_of t es ps) s ≡ false → IsOpen t es ps s
  open_by s fit takes there = record { fitting = fit; refused = takes_open t world (packets_of t es ps) (length es) s [] takes there }

  learn_open : (l node : ℕ) → l < length t.links → node < length t.loopbacks → 0 < length (items_on (Notices l node) items)
      → IsOpen t es ps (Learn (record { 0 = node }) (record { 0 = l }))
  learn_open l node below there some =
      open_by (Learn (record { 0 = node }) (record { 0 = l }))
      (and_on (nat_lt node (length t.loopbacks)) (nat_lt l (length t.links)) (less_is node (length t.loopbacks) there)
      (less_is l (length t.links) below)) refl
      (not_at_most (world.views.changes l) (world.views.learned node l) (omega (arith, flight.notices l node there, as_many (Notices l node), some)))

  live_or : (alive b : Bool) → (alive ≡ false → ⊥) → b ≡ false → (not alive || b) ≡ false
  live_or true b h e = e
  live_or false b h e = absurd (h refl)

  hear_open : (l node : ℕ) → l < length t.links → is_end (wiring_of t) l node ≡ true → 0 < length (items_on (Messages l node) items)
      → IsOpen t es ps (HearLdp (record { 0 = l }) (away_from t l node))
  hear_open l node below at_end some =
      let dir : Dir = away_from t l node in
      let from : sender (wiring_of t) l dir ≡ node = sends_from t l node at_end in
      let to : across (wiring_of t) l node ≡ receiver (wiring_of t) l dir = ap (across (wiring_of t) l)
      (sym from ∙ sym (dir_ends (wiring_of t) l dir (lawful.ends_differ l below)).1)
      ∙ (across-end (wiring_of t) l (receiver (wiring_of t) l dir) (lawful.ends_differ l below)
      (dir_ends (wiring_of t) l dir (lawful.ends_differ l below)).0).1 in
      let count : length (loads_on (Messages l node) items) ≡ length (world.sessions.said l node) - world.sessions.heard l (across (wiring_of t) l node) =
      ap length (flight.messages l node below at_end)
      ∙ length-map (drop (world.sessions.heard l (across (wiring_of t) l node)) (world.sessions.said l node)) (λ message. Says message)
      ∙ length-drop (world.sessions.heard l (across (wiring_of t) l node)) (world.sessions.said l node) in
      let more : world.sessions.heard l (across (wiring_of t) l node) < length (world.sessions.said l node) = omega
      (arith, count, as_many (Messages l node), some) in
      open_by (HearLdp (record { 0 = l }) dir) (less_is l (length t.links) below) refl
      (live_or (lives world.config l) _
      (λ dead. silent (world.sessions.heard l (across (wiring_of t) l node)) (ap length ((turn.ldp l node below at_end).silent dead).0) more)
      (not_at_most (length (world.sessions.said l (sender (wiring_of t) l dir))) (world.sessions.heard l (receiver (wiring_of t) l dir))
      (omega (arith, more, ap (λ n. length (world.sessions.said l n)) from, ap (world.sessions.heard l) to))))
    where
      silent : (h : ℕ) → length (world.sessions.said l node) ≡ 0 → h < length (world.sessions.said l node) → ⊥
      silent h e m = omega (arith, e, m)

  tell_open : (edge peer : ℕ) → is_edge t.vrfs edge ≡ true → is_edge t.vrfs peer ≡ true → edge ≢ peer → 0 < length (items_on (Routes edge peer) items)
      → IsOpen t es ps (HearBgp (record { 0 = edge }) (record { 0 = peer }))
  tell_open edge peer one other apart some =
      let count : length (loads_on (Routes edge peer) items) ≡ length (world.peerings.told edge peer) - world.peerings.heard peer edge =
      ap length (flight.routes edge peer apart)
      ∙ length-map (drop (world.peerings.heard peer edge) (world.peerings.told edge peer)) (λ telling. Tells telling)
      ∙ length-drop (world.peerings.heard peer edge) (world.peerings.told edge peer) in
      let more : world.peerings.heard peer edge < length (world.peerings.told edge peer) = omega (arith, count, as_many (Routes edge peer), some) in
      open_by (HearBgp (record { 0 = edge }) (record { 0 = peer }))
      (and_on (is_edge t.vrfs edge && is_edge t.vrfs peer) (not (edge == peer)) (and_on (is_edge t.vrfs edge) (is_edge t.vrfs peer) one other)
      (not_on (edge == peer) (other_test edge peer apart))) refl
      (live_or (peers_live world.config edge peer) _
      (λ dead. untold (world.peerings.heard peer edge) (ap length ((turn.bgp edge peer apart).silent dead).0) more)
      (not_at_most (length (world.peerings.told edge peer)) (world.peerings.heard peer edge) more))
    where
      untold : (h : ℕ) → length (world.peerings.told edge peer) ≡ 0 → h < length (world.peerings.told edge peer) → ⊥
      untold h e m = omega (arith, e, m)

  frame_there : (l : ℕ) (d : Dir) (x : Item) → In items x → same_channel (Frames l d) x.on ≡ true → l < length t.links
  frame_there l d x i same = by_channel x.on x.load (of_channel x i) same
    where
      by_channel : (on : Channel) (load : Load) → IsOfChannel t on load → same_channel (Frames l d) on ≡ true → l < length t.links
      by_channel (Frames k b) (Carries token) h e = subst (λ n. n < length t.links) (one_link k l b d (same_numbers (channel k b) (channel l d) e)).0 h
      by_channel (Frames k b) Notice h e = absurd h
      by_channel (Frames k b) (Says m) h e = absurd h
      by_channel (Frames k b) (Tells m) h e = absurd h
      by_channel (Notices k n) load h e = absurd (no e)
      by_channel (Messages k n) load h e = absurd (no e)
      by_channel (Routes k n) load h e = absurd (no e)

  frames_there : (l : ℕ) (d : Dir) (place : ℕ) → place < length (items_on (Frames l d) items)
      → (l < length t.links) × (nat_le (length (flying_on (packets_of t es ps) l d)) place ≡ false)
  frames_there l d place h =
      let x = some_item (Frames l d) items place h in (
        frame_there l d x.0 x.1 x.2,
        not_at_most (length (flying_on (packets_of t es ps) l d)) place
            (omega (arith, h, as_many (Frames l d), ap length (flight.frames l d), length-map (flying_on (packets_of t es ps) l d) (λ token. Carries token))),
      )

  pub lost_open : (l : LinkNo) (d : Dir) (place : ℕ) → place < length (items_on (Frames l.0 d) items) → IsOpen t es ps (Lose l d place)
  lost_open l d place h = let f = frames_there l.0 d place h in open_by (Lose l d place) (less_is l.0 (length t.links) f.0) refl f.1

  some_there : (place n : ℕ) → place < n → 0 < n
  some_there place n h = omega (arith, h)

  open_at : (on : Channel) (place : ℕ) → place < length (items_on on items) → is_in_order on ≡ true →
      ((load : Load) → IsOfChannel t on load → IsOpen t es ps (delivering t on place)) → IsOpen t es ps (delivering t on place)
  open_at on place h i by_load =
      let x = some_item on items place h in
      by_load x.0.load (subst (λ c. IsOfChannel t c x.0.load) (same_chan on x.0.on i x.2) (of_channel x.0 x.1))

  pub delivered_open : (on : Channel) (place : ℕ) → place < length (items_on on items) → IsOpen t es ps (delivering t on place)
  delivered_open (Notices l node) place h = open_at (Notices l node) place h refl by_load
    where
      by_load : (load : Load) → IsOfChannel t (Notices l node) load → IsOpen t es ps (delivering t (Notices l node) place)
      by_load Notice c = learn_open l node c.0 c.1 (some_there place (length (items_on (Notices l node) items)) h)
      by_load _ c = absurd c
  delivered_open (Messages l node) place h = open_at (Messages l node) place h refl by_load
    where
      by_load : (load : Load) → IsOfChannel t (Messages l node) load → IsOpen t es ps (delivering t (Messages l node) place)
      by_load (Says m) c = hear_open l node c.0 c.1 (some_there place (length (items_on (Messages l node) items)) h)
      by_load _ c = absurd c
  delivered_open (Routes edge peer) place h = open_at (Routes edge peer) place h refl by_load
    where
      by_load : (load : Load) → IsOfChannel t (Routes edge peer) load → IsOpen t es ps (delivering t (Routes edge peer) place)
      by_load (Tells m) c = tell_open edge peer c.0 c.1 c.2 (some_there place (length (items_on (Routes edge peer) items)) h)
      by_load _ c = absurd c
  delivered_open (Frames l d) place h = let f = frames_there l d place h in open_by (Carry (record { 0 = l }) d place) (less_is l (length t.links) f.0) refl f.1
