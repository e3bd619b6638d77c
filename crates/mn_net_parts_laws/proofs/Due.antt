-- Each frame in flight is due its link's delay after it was sent, and in a direction the first that was sent is due first.
use Rattle.std.proofs.Common.{ℕ, ◌≡◌, ◌+◌, ◌≤◌, inl, inr, Bool, true, false, cond, List, [], ◌∷◌, map, refl, arith, sym, ap, ◌∙◌, subst}
use Rattle.std.specs.Prelude.{◌==◌}
use Rattle.std.specs.List.{AllByRecursion}
use Rattle.mn_base.proofs.Bools.{same_numbers}
use Rattle.mn_base.proofs.Members.{In, contained_in}
use Rattle.mn_wiring.specs.Wiring.{link}
use Rattle.mn_wiring.specs.declared.links.Dir.{Dir}
use Rattle.mn_flight.specs.declared.Item.{Item as ItemOf}
use Rattle.mn_flight.specs.Flying.{on_channel}
use Rattle.mn_topo.specs.Lawful.{IsLawful}
use Rattle.mn_topo.specs.Network.{Network, wiring_of}
use Rattle.mn_topo.specs.declared.steps.JournalEntry.{JournalEntry}
use Rattle.mn_ledger.specs.Packets.{Token, channel, flying_on}
use Rattle.mn_ledger.specs.Ledger.{packets_of}
use Rattle.mn_ledger.specs.Lawful.{IsLawfulJournal}
use Rattle.mn_ledger.specs.Items.{Channel, Notices, Messages, Routes, Frames, Load, Notice, Says, Tells, Carries, Item, same_channel, items_on, loads_on}
use Rattle.mn_ledger.specs.Items.{delay_on, flight_of}
use Rattle.mn_ledger.proofs.Directions.{one_channel}
use Rattle.mn_ledger.proofs.Flows.{in_flight}
use Rattle.mn_ledger_laws.specs.Flight.{IsDueAsSent, IsOfChannel, AreMadeInOrder}
use Rattle.mn_ledger_laws.proofs.Counted.{flies_as_counted}
use Rattle.mn_transit.specs.Aging.{DueAsSent}
use Rattle.mn_timetable_laws.specs.Keys.{Key, key_of, keys_in, keys_on, keys_by, of_frames, with_key, IsFrameDue, AreFramesDue, FlyInOrder}
use Rattle.mn_net_parts_laws.specs.Stands.{Packed, StandsFor}

-- 1. Each frame

frame_due : (t : Network) (on : Channel) (load : Load) (due : ℕ) → IsOfChannel t on load → IsDueAsSent t on load due → IsFrameDue t on load due
frame_due t (Frames l d) (Carries token) due h e = e
frame_due t (Frames l d) Notice due h e = h
frame_due t (Frames l d) (Says message) due h e = h
frame_due t (Frames l d) (Tells telling) due h e = h
frame_due t (Notices l n) load due h e = tt
frame_due t (Messages l n) load due h e = tt
frame_due t (Routes a b) load due h e = tt

pub frames_due : (t : Network) (es : List JournalEntry) (ps : List (List ℕ)) → IsLawful t → IsLawfulJournal t es ps →
    AreFramesDue t (flight_of t es ps).items
frames_due t es ps lawful journal item c =
    let flies = flies_as_counted t es ps lawful journal in
    frame_due t item.on item.load item.due (flies.channels item c) (flies.due item c)

-- 2. Due ticks of a direction

abbrev dues : List Key → List ℕ
dues keys = map (λ key. key.due) keys

dues_in : {T : Type 0} (c : ℕ) (xs : List (ItemOf T)) → map (λ item. item.due) (on_channel c xs) ≡ dues (keys_by (λ n. n == c) (keys_in xs))
dues_in c [] = refl
dues_in {T = T} c (x ∷ xs) = by (x.channel == c) (dues_in c xs)
  where
    by : (b : Bool) → map (λ (item : ItemOf T). item.due) (on_channel c xs) ≡ dues (keys_by (λ n. n == c) (keys_in xs)) →
        map (λ (item : ItemOf T). item.due) (cond b (x ∷ on_channel c xs) (on_channel c xs))
        ≡ dues (cond b (key_of x ∷ keys_by (λ n. n == c) (keys_in xs)) (keys_by (λ n. n == c) (keys_in xs)))
    by true e = ap (λ ns. x.due ∷ ns) e
    by false e = e

dues_on : (l : ℕ) (d : Dir) (xs : List Item) →
    map (λ item. item.due) (items_on (Frames l d) xs) ≡ dues (keys_by (λ n. n == channel l d) (keys_on of_frames xs))
dues_on l d [] = refl
dues_on l d (x ∷ xs) = one x.on (dues_on l d xs)
  where
    one : (on : Channel) → map (λ (item : Item). item.due) (items_on (Frames l d) xs) ≡ dues (keys_by (λ n. n == channel l d) (keys_on of_frames xs)) →
        map (λ (item : Item). item.due) (cond (same_channel (Frames l d) on) (x ∷ items_on (Frames l d) xs) (items_on (Frames l d) xs))
        ≡ dues (keys_by (λ n. n == channel l d) (with_key (of_frames on) x (keys_on of_frames xs)))
    one (Notices k n) e = e
    one (Messages k n) e = e
    one (Routes k n) e = e
    one (Frames k f) e = by (channel k f == channel l d) e
      where
        by : (b : Bool) → map (λ (item : Item). item.due) (items_on (Frames l d) xs) ≡ dues (keys_by (λ n. n == channel l d) (keys_on of_frames xs)) →
            map (λ (item : Item). item.due) (cond b (x ∷ items_on (Frames l d) xs) (items_on (Frames l d) xs))
            ≡ dues (cond b (record { channel = channel k f; due = x.due; number = x.number } ∷ keys_by (λ n. n == channel l d) (keys_on of_frames xs))
            (keys_by (λ n. n == channel l d) (keys_on of_frames xs)))
        by true e = ap (λ ns. x.due ∷ ns) e
        by false e = e

-- 3. As they were sent

abbrev pub due_at : Network → ℕ → Token → ℕ
due_at t l token = token.sent + (link (wiring_of t) l).delay

due_of : (t : Network) (l : ℕ) (d : Dir) (on : Channel) (load : Load) (due : ℕ) (token : Token) → same_channel (Frames l d) on ≡ true → load ≡ Carries token →
    IsDueAsSent t on load due → due ≡ due_at t l token
due_of t l d (Notices k n) load due token e f h = cc
due_of t l d (Messages k n) load due token e f h = cc
due_of t l d (Routes k n) load due token e f h = cc
due_of t l d (Frames k b) load due token e f h =
    let as_sent : IsDueAsSent t (Frames k b) (Carries token) due = subst (λ m. IsDueAsSent t (Frames k b) m due) f h in
    as_sent ∙ ap (λ i. due_at t i token) (one_channel k l b d (same_numbers (channel k b) (channel l d) e)).0

module _ (t : Network) (l : ℕ) (d : Dir) (x : Item) (xs : List Item) (due : IsDueAsSent t x.on x.load x.due) where
  one_due : (b : Bool) → same_channel (Frames l d) x.on ≡ b → (tokens : List Token) →
      map (λ (item : Item). item.load) (cond b (x ∷ items_on (Frames l d) xs) (items_on (Frames l d) xs)) ≡ map (λ token. Carries token) tokens →
      ((rest : List Token) → loads_on (Frames l d) xs ≡ map (λ token. Carries token) rest →
      map (λ (item : Item). item.due) (items_on (Frames l d) xs) ≡ map (due_at t l) rest) →
      map (λ (item : Item). item.due) (cond b (x ∷ items_on (Frames l d) xs) (items_on (Frames l d) xs)) ≡ map (due_at t l) tokens
  one_due false e tokens g later = later tokens g
  one_due true e [] g later = cc
  one_due true e (k ∷ ks) g later =
      let first : x.load ≡ Carries k = cc in
      let rest : loads_on (Frames l d) xs ≡ map (λ token. Carries token) ks = cc in
      ap (λ n. n ∷ map (λ (item : Item). item.due) (items_on (Frames l d) xs)) (due_of t l d x.on x.load x.due k e first due)
      ∙ ap (λ ns. due_at t l k ∷ ns) (later ks rest)

dues_as_sent : (t : Network) (l : ℕ) (d : Dir) (xs : List Item) (tokens : List Token) → ((x : Item) → In xs x → IsDueAsSent t x.on x.load x.due) →
    loads_on (Frames l d) xs ≡ map (λ token. Carries token) tokens → map (λ item. item.due) (items_on (Frames l d) xs) ≡ map (due_at t l) tokens
dues_as_sent t l d [] [] due h = refl
dues_as_sent t l d [] (k ∷ ks) due h = cc
dues_as_sent t l d (x ∷ xs) tokens due h =
    one_due t l d x xs (due x (inl refl)) (same_channel (Frames l d) x.on) refl tokens h
    (λ rest g. dues_as_sent t l d xs rest (λ y i. due y (inr i)) g)

-- of what stands for the ledger
pub due_as_sent : (t : Network) (es : List JournalEntry) (ps : List (List ℕ)) (packed : Packed) → IsLawful t → StandsFor t es packed ps →
    DueAsSent t packed.moving.flying (packets_of t es ps)
due_as_sent t es ps packed lawful h l d there =
    let xs : List Item = (flight_of t es ps).items in
    dues_in (channel l d) packed.moving.flying ∙ ap (λ keys. dues (keys_by (λ n. n == channel l d) keys)) h.frames ∙ sym (dues_on l d xs)
    ∙ dues_as_sent t l d xs (flying_on (packets_of t es ps) l d)
    (λ x i. (flies_as_counted t es ps lawful h.lawful).due x (contained_in xs x i)) ((in_flight t es ps lawful h.lawful).frames l d)

-- 4. In the order of sending

not_before : (t : Network) (k : ℕ) (e : Dir) (due : ℕ) (xs : List Item) →
    AllByRecursion (λ other. due + delay_on t other.on ≤ other.due + delay_on t (Frames k e)) xs →
    AllByRecursion (λ (key : Key). key.channel ≡ channel k e → due ≤ key.due) (keys_on of_frames xs)
not_before t k e due [] h = tt
not_before t k e due (x ∷ xs) h = by x.on h.0 (not_before t k e due xs h.1)
  where
    by : (on : Channel) → due + delay_on t on ≤ x.due + delay_on t (Frames k e) →
        AllByRecursion (λ (key : Key). key.channel ≡ channel k e → due ≤ key.due) (keys_on of_frames xs) →
        AllByRecursion (λ (key : Key). key.channel ≡ channel k e → due ≤ key.due) (with_key (of_frames on) x (keys_on of_frames xs))
    by (Notices l n) g rest = rest
    by (Messages l n) g rest = rest
    by (Routes a b) g rest = rest
    by (Frames l d) g rest = (
      λ same. less (link (wiring_of t) k).delay (link (wiring_of t) l).delay
          (ap (λ i. (link (wiring_of t) i).delay) (sym (one_channel l k d e same).0)) g,
      rest,
    )
      where
        less : (m n : ℕ) → m ≡ n → due + n ≤ x.due + m → due ≤ x.due
        less m n q g = omega (arith, q, g)

keys_in_order : (t : Network) (xs : List Item) → AreMadeInOrder t xs → FlyInOrder (keys_on of_frames xs)
keys_in_order t [] h = tt
keys_in_order t (x ∷ xs) h = by x.on h.0 (keys_in_order t xs h.1)
  where
    by : (on : Channel) → AllByRecursion (λ other. x.due + delay_on t other.on ≤ other.due + delay_on t on) xs → FlyInOrder (keys_on of_frames xs) →
        FlyInOrder (with_key (of_frames on) x (keys_on of_frames xs))
    by (Notices l n) g rest = rest
    by (Messages l n) g rest = rest
    by (Routes a b) g rest = rest
    by (Frames l d) g rest = (not_before t l d x.due xs g, rest)

-- on each channel due ticks don't fall
pub fly_in_order : (t : Network) (es : List JournalEntry) (ps : List (List ℕ)) (packed : Packed) → IsLawful t → StandsFor t es packed ps →
    FlyInOrder (keys_in packed.moving.flying)
fly_in_order t es ps packed lawful h =
    subst FlyInOrder (sym h.frames) (keys_in_order t (flight_of t es ps).items (flies_as_counted t es ps lawful h.lawful).in_order)
