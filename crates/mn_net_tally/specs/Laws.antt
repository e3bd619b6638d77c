-- How a network goes on to count what the ledger has.
use Rattle.std.specs.Prelude.{◌≡◌, ◌<◌, ◌≤◌, ◌+◌, ◌-◌, ◌*◌, ℕ, Bool, true, false, List, [], length, slice_index}
use Rattle.std.specs.List.{Contains}
use Rattle.mn_base.specs.Limits.{most_static_routes}
use Rattle.mn_wiring.specs.declared.links.Dir.{Dir}
use Rattle.mn_base.specs.declared.numbers.SiteNo.{SiteNo}
use Rattle.mn_prefix.specs.Prefix.{AddressBlock}
use Rattle.mn_topo.specs.Lawful.{IsLawful}
use Rattle.mn_topo.specs.Network.{Network}
use Rattle.mn_topo.specs.declared.steps.Step.{Step}
use Rattle.mn_topo.specs.declared.steps.Step.TheVariants.{AddRoute, DelRoute, Inject, Carry}
use Rattle.mn_topo.specs.declared.steps.JournalEntry.{JournalEntry}
use Rattle.mn_ledger.specs.Lawful.{IsLawfulJournal}
use Rattle.mn_ledger.specs.Verdicts.{injections}
use Rattle.mn_ledger.specs.Items.{Item, flight_of}
use Rattle.mn_ledger.specs.OneMore.{with_packet}
use Rattle.mn_ledger.specs.Packets.{channel}
use Rattle.mn_course_laws.specs.Coming.{is_lost}
use Rattle.mn_timetable_laws.specs.Steps.{pushed}
use Rattle.mn_net_parts_laws.specs.Stands.{Packed, StandsFor}
use Rattle.mn_net_parts_laws.specs.Stepped.{MayStep}
use Rattle.mn_net_tally.specs.Rising.{AreRising}
use Rattle.mn_net_tally.specs.Tallies.{Tally, Tallies, is_one, frame_of, after_frame}

-- the step may send a frame
abbrev pub may_send : Step → Bool
may_send (Inject site number) = true
may_send (Carry l dir place) = true
may_send _ = false

-- the step changes how many statics there are
abbrev pub changes_statics : Step → Bool
changes_statics (AddRoute site prefix) = true
changes_statics (DelRoute site prefix) = true
changes_statics _ = false

-- another step leaves all counts
abbrev pub CountsAsItDid : Type 0
CountsAsItDid = (topology : Network) (journal : List JournalEntry) (tick : ℕ) (step : Step) (bytes : List ℕ) (inputs : List (List ℕ)) (tally : Tally) →
    IsLawful topology → IsLawfulJournal topology journal inputs → length inputs ≡ injections journal → may_send step ≡ false → changes_statics step ≡ false →
    Tallies topology journal inputs tally → Tallies topology (pushed journal tick step) (with_packet step bytes inputs) tally

-- one static more, or less
abbrev pub CountsStatics : Type 0
CountsStatics =
    (topology : Network) (journal : List JournalEntry) (tick : ℕ) (site : SiteNo) (prefix : AddressBlock) (bytes : List ℕ) (inputs : List (List ℕ))
    (tally : Tally) →
    IsLawful topology → length inputs ≡ injections journal → Tallies topology journal inputs tally →
    (MayStep topology journal tick (AddRoute site prefix) bytes inputs → IsLawfulJournal topology journal inputs →
    (tally.statics < most_static_routes) × Tallies topology (pushed journal tick (AddRoute site prefix)) inputs (record tally { statics = tally.statics + 1 }))
    × (MayStep topology journal tick (DelRoute site prefix) bytes inputs → IsLawfulJournal topology journal inputs →
    (0 < tally.statics) × Tallies topology (pushed journal tick (DelRoute site prefix)) inputs (record tally { statics = tally.statics - 1 }))

-- the frame that a step sends, if it sends one, has the first number of the step's
abbrev pub CountsFrames : Type 0
CountsFrames =
    (topology : Network) (journal : List JournalEntry) (tick : ℕ) (step : Step) (bytes : List ℕ) (inputs : List (List ℕ)) (old new : Packed)
    (tally : Tally) →
    IsLawful topology → may_send step ≡ true → StandsFor topology journal old inputs → MayStep topology journal tick step bytes inputs →
    StandsFor topology (pushed journal tick step) new (with_packet step bytes inputs) → Tallies topology journal inputs tally →
    Tallies topology (pushed journal tick step) (with_packet step bytes inputs) (after_frame topology (frame_of old.made new.moving.flying) tally)

-- of what is in flight it tells the frames that their links lose
abbrev pub TellsLosses : Network → List JournalEntry → List (List ℕ) → List ℕ → Type 0
TellsLosses topology journal inputs lossy = (item : Item) → Contains (flight_of topology journal inputs).items item →
    is_one lossy item.number ≡ is_lost topology journal inputs item.on item

-- numbers of lost frames ascend, and in no direction more frames were sent than steps were done
abbrev pub KeepsInOrder : Type 0
KeepsInOrder = (topology : Network) (journal : List JournalEntry) (inputs : List (List ℕ)) (tally : Tally) →
    IsLawful topology → IsLawfulJournal topology journal inputs → Tallies topology journal inputs tally →
    AreRising tally.lossy × ((c : ℕ) → c < 2 * length topology.links → slice_index tally.sent c ≤ length journal)

abbrev pub TellsWhatIsLost : Type 0
TellsWhatIsLost = (topology : Network) (journal : List JournalEntry) (inputs : List (List ℕ)) (tally : Tally) →
    IsLawful topology → IsLawfulJournal topology journal inputs → Tallies topology journal inputs tally → TellsLosses topology journal inputs tally.lossy
