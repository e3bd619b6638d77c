-- What a network counts beside its parts, and when that is what the ledger says.
use Rattle.std.specs.Prelude.{◌≡◌, ◌<◌, ◌+◌, ◌-◌, ◌*◌, ◌/◌, ◌==◌, ℕ, Bool, List, [], ◌∷◌, ◌++◌, length, map, filter, find, slice_index, slice_set}
use Rattle.std.specs.Prelude.{if◌then◌else◌, Option, Some, None, option_map, ⊤}
use Rattle.std.specs.List.{list_any}
use Rattle.mn_base.specs.Limits.{most_static_routes}
use Rattle.mn_wiring.specs.declared.links.Dir.{Dir}
use Rattle.mn_wiring.specs.Wiring.{link}
use Rattle.mn_flight.specs.declared.Item.{Item}
use Rattle.mn_topo.specs.Network.{Network, wiring_of}
use Rattle.mn_topo.specs.declared.steps.Step.{Step}
use Rattle.mn_topo.specs.declared.steps.Step.TheVariants.{AddRoute, DelRoute}
use Rattle.mn_topo.specs.declared.steps.JournalEntry.{JournalEntry}
use Rattle.mn_ledger.specs.Packets.{channel}
use Rattle.mn_ledger.specs.Ledger.{world_of}
use Rattle.mn_ledger.specs.Items.{made_by}
use Rattle.mn_ledger_laws.specs.Ids.{frames_sent}
use Rattle.mn_course_laws.specs.Coming.{is_each, is_lost}

pub record Tally : Type 0 where
  pub statics : ℕ  -- how many static routes VRFs have, those over detached sites too
  pub sent : List ℕ  -- by link and direction, how many frames were sent
  pub lossy : List ℕ  -- the numbers of the frames sent that their links lose, in the order of sending
  pub spare : ℕ  -- how many more of these there is memory for

-- of all items that were made, the numbers of the frames that their links lose
abbrev pub lost_numbers : Network → List JournalEntry → List (List ℕ) → List ℕ
lost_numbers topology journal inputs =
    map (λ item. item.number) (filter (λ item. is_lost topology journal inputs item.on item) (made_by topology journal inputs))

-- with these packets it counts what the ledger has after the journal
pub record Tallies (topology : Network) (journal : List JournalEntry) (inputs : List (List ℕ)) (tally : Tally) : Type 0 where
  pub statics : tally.statics ≡ length (world_of topology journal).config.statics
  pub each : length tally.sent ≡ 2 * length topology.links
  pub sent : (l : ℕ) (dir : Dir) → l < length topology.links → slice_index tally.sent (channel l dir) ≡ length (frames_sent topology journal inputs l dir)
  pub lossy : tally.lossy ≡ lost_numbers topology journal inputs

-- the number is one of these
abbrev pub is_one : List ℕ → ℕ → Bool
is_one numbers number = list_any (λ other. other == number) numbers

-- with one frame more of this number, in a direction of a link that loses each so many
abbrev pub with_frame : ℕ → ℕ → ℕ → Tally → Tally
with_frame loss c number tally = record tally {
  sent = slice_set tally.sent c (slice_index tally.sent c + 1);
  lossy = if is_each loss (slice_index tally.sent c + 1) then tally.lossy ++ number ∷ [] else tally.lossy;
}

-- the frame of a number, by its direction's number and its own
abbrev pub frame_of : {T : Type 0} → ℕ → List (Item T) → Option (ℕ × ℕ)
frame_of number flying = option_map (λ item. (item.channel, item.number)) (find (λ item. item.number == number) flying)

abbrev pub after_frame : Network → Option (ℕ × ℕ) → Tally → Tally
after_frame topology None tally = tally
after_frame topology (Some frame) tally = with_frame (link (wiring_of topology) (frame.0 / 2)).loss frame.0 frame.1 tally

-- the step brings a static route, or takes one away
abbrev pub after_static : Step → Tally → Tally
after_static (AddRoute site prefix) tally = record tally { statics = tally.statics + 1 }
after_static (DelRoute site prefix) tally = record tally { statics = tally.statics - 1 }
after_static _ tally = tally

-- there is room for it, or one to take
abbrev pub HasStatic : Step → Tally → Type 0
HasStatic (AddRoute site prefix) tally = tally.statics < most_static_routes
HasStatic (DelRoute site prefix) tally = 0 < tally.statics
HasStatic _ tally = ⊤
