-- What comes next of each kind, by what four flights show.
use Rattle.std.specs.Prelude.{ℕ, ◌+◌, ◌/◌, ◌%◌, ◌==◌, ◌&&◌, ◌||◌, Bool, false, nat_lt, nat_le, if◌then◌else◌, List, length, filter, find, Option, option_map}
use Rattle.std.specs.List.{list_all}
pub use Rattle.mn_wiring.specs.Wiring.{dir_of}
use Rattle.mn_wiring.specs.declared.links.Dir.{Dir}
use Rattle.mn_wiring.specs.declared.links.Dir.TheVariants.{Forth, Back}
use Rattle.mn_topo.specs.Network.{Network}
use Rattle.mn_topo.specs.declared.steps.Step.{Step}
use Rattle.mn_topo.specs.declared.steps.Step.TheVariants.{Learn, HearLdp, HearBgp, Carry}
use Rattle.mn_course_laws.specs.declared.coming.Kind.{Kind}
use Rattle.mn_course_laws.specs.declared.coming.Kind.TheVariants.{Notice, Message, Frame}
use Rattle.mn_course_laws.specs.declared.coming.Coming.{Coming}
use Rattle.mn_course_laws.specs.Coming.{earlier}
use Rattle.mn_timetable_laws.specs.Keys.{Key, keys_in}
use Rattle.mn_net_parts_laws.specs.Stands.{Packed}
use Rattle.mn_net_tally.specs.Tallies.{is_one}

-- 1. The first of a flight: of those due by the limit the one of least due tick and, among these, of least number

abbrev pub goes_first : Key → Key → Bool
goes_first key other = nat_lt key.due other.due || ((key.due == other.due) && nat_le key.number other.number)

abbrev pub keys_due : ℕ → List Key → List Key
keys_due limit keys = filter (λ (key : Key). nat_le key.due limit) keys

abbrev pub first_key : ℕ → List Key → Option Key
first_key limit keys = find (λ key. list_all (goes_first key) (keys_due limit keys)) (keys_due limit keys)

-- 2. The step that delivers the first on a channel of a flight

abbrev pub learns_on : ℕ → ℕ → Step
learns_on nodes c = Learn (record { 0 = c % nodes }) (record { 0 = c / nodes })

abbrev pub hears_on : ℕ → Step
hears_on c = HearLdp (record { 0 = c / 2 }) (dir_of c)

abbrev pub tells_on : ℕ → ℕ → Step
tells_on nodes c = HearBgp (record { 0 = c / nodes }) (record { 0 = c % nodes })

abbrev pub carries_on : ℕ → Step
carries_on c = Carry (record { 0 = c / 2 }) (dir_of c) 0

-- 3. What comes next, where these are the numbers of the frames that their links lose

abbrev pub as_coming : (ℕ → Step) → (ℕ → Bool) → Key → Coming
as_coming step lossy key = record { due = key.due; number = key.number; step = step key.channel; lossy = lossy key.number }

abbrev pub news_coming : (ℕ → Step) → ℕ → List Key → Option Coming
news_coming step limit keys = option_map (as_coming step (λ number. false)) (first_key limit keys)

abbrev pub coming_seen : Network → Packed → List ℕ → Kind → ℕ → Option Coming
coming_seen topology packed lossy Notice limit = news_coming (learns_on (length topology.loopbacks)) limit packed.notices
coming_seen topology packed lossy Message limit =
    earlier (news_coming hears_on limit packed.messages) (news_coming (tells_on (length topology.loopbacks)) limit packed.routes)
coming_seen topology packed lossy Frame limit = option_map (as_coming carries_on (is_one lossy)) (first_key limit (keys_in packed.moving.flying))

-- 4. How many of a kind are in flight

abbrev pub pending_seen : Packed → Kind → ℕ
pending_seen packed Notice = length packed.notices
pending_seen packed Message = length packed.messages + length packed.routes
pending_seen packed Frame = length packed.moving.flying
