-- Frames fly on directions of the topology's links alone.
use Rattle.std.proofs.Common.{ℕ, ◌*◌, ◌<◌, List, [], ◌∷◌, length, refl, sym, subst, inl, inr}
use Rattle.std.specs.List.{All, AllByRecursion}
use Rattle.std.proofs.lemmas.List.Elements.{All-nil, All-cons}
use Rattle.mn_base.proofs.Members.{In, contained_in}
use Rattle.mn_flight.specs.declared.Item.{Item as ItemOf}
use Rattle.mn_flight.specs.Flying.{IsFlight}
use Rattle.mn_topo.specs.Lawful.{IsLawful}
use Rattle.mn_topo.specs.Network.{Network}
use Rattle.mn_topo.specs.declared.steps.JournalEntry.{JournalEntry}
use Rattle.mn_ledger.specs.Packets.{channel}
use Rattle.mn_ledger.specs.Items.{Channel, Notices, Messages, Routes, Frames, Load, Notice, Says, Tells, Carries, Item, flight_of}
use Rattle.mn_ledger_laws.specs.Flight.{IsOfChannel}
use Rattle.mn_ledger_laws.proofs.Channels.{channels_are}
use Rattle.mn_timetable_laws.specs.Keys.{Key, keys_in, keys_on, of_frames, with_key}
use Rattle.mn_net_parts_laws.specs.Stands.{Packed, StandsFor}
use Rattle.mn_net_parts_laws.proofs.Numbers.{flight_ascends}
use Rattle.mn_net_tally.proofs.Counting.{two_within as two_for_each}

abbrev On : ℕ → List Key → Type 0
On n keys = AllByRecursion (λ (key : Key). key.channel < n) keys

module _ (t : Network) where
  one_on : (x : Item) (on : Channel) (load : Load) (keys : List Key) → IsOfChannel t on load → On (2 * length t.links) keys →
      On (2 * length t.links) (with_key (of_frames on) x keys)
  one_on x (Notices l n) load keys h g = g
  one_on x (Messages l n) load keys h g = g
  one_on x (Routes a b) load keys h g = g
  one_on x (Frames l d) (Carries k) keys h g = (two_for_each l (length t.links) d h, g)
  one_on x (Frames l d) Notice keys h g = absurd h
  one_on x (Frames l d) (Says m) keys h g = absurd h
  one_on x (Frames l d) (Tells m) keys h g = absurd h

  each_on : (xs : List Item) → ((x : Item) → In xs x → IsOfChannel t x.on x.load) → On (2 * length t.links) (keys_on of_frames xs)
  each_on [] h = tt
  each_on (x ∷ xs) h = one_on x x.on x.load (keys_on of_frames xs) (h x (inl refl)) (each_on xs (λ y i. h y (inr i)))

items_on_them : {T : Type 0} (n : ℕ) (xs : List (ItemOf T)) → On n (keys_in xs) → All (λ item. item.channel < n) xs
items_on_them n [] h = All-nil (λ item. item.channel < n)
items_on_them n (x ∷ xs) h = All-cons (λ item. item.channel < n) x xs h.0 (items_on_them n xs h.1)

pub on_directions : (t : Network) (es : List JournalEntry) (ps : List (List ℕ)) (packed : Packed) → IsLawful t → StandsFor t es packed ps →
    IsFlight (2 * length t.links) packed.moving.flying
on_directions t es ps packed lawful h = record {
  ascending = flight_ascends of_frames t es ps packed.moving.flying h.frames;
  on_channels = items_on_them (2 * length t.links) packed.moving.flying (subst (On (2 * length t.links)) (sym h.frames)
      (each_on t (flight_of t es ps).items (λ x i. channels_are t es ps x lawful h.lawful (contained_in (flight_of t es ps).items x i))));
}
