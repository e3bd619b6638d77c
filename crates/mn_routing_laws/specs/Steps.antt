-- A step of the routes, in the ledger's words.
use Rattle.std.specs.Prelude.{◌≡◌, ℕ, Bool, true, false, List, ◌++◌, length, None}
use Rattle.mn_topo.specs.Network.{Network}
use Rattle.mn_topo.specs.Lawful.{IsLawful}
use Rattle.mn_topo.specs.Steps.{fits}
use Rattle.mn_topo.specs.declared.steps.Step.{Step}
use Rattle.mn_topo.specs.declared.steps.Step.TheVariants.{Attach}
use Rattle.mn_topo.specs.declared.steps.JournalEntry.{JournalEntry}
use Rattle.mn_base.specs.declared.numbers.SiteNo.{SiteNo}
use Rattle.mn_ledger.specs.Bgp.{is_routing}
use Rattle.mn_ledger.specs.Refusal.{refusal}
use Rattle.mn_ledger.specs.Lawful.{IsLawfulJournal}
use Rattle.mn_ledger.specs.Items.{numbered}
use Rattle.mn_timetable_laws.specs.Keys.{keys_in, keys_on, of_routes, routes_leave}
use Rattle.mn_timetable_laws.specs.Steps.{pushed, routes_now}
pub use Rattle.mn_routing_laws.specs.Labels.{next_label}
use Rattle.mn_routing_laws.specs.Routed.{Routed, IsRoutes}

-- the step's turn has come: the journal is lawful, and after it the step fits and isn't refused
pub record IsTurn (topology : Network) (journal : List JournalEntry) (step : Step) : Type 0 where
  pub inputs : List (List ℕ)
  pub bytes : List ℕ
  pub lawful : IsLawfulJournal topology journal inputs
  pub fitting : fits topology step ≡ true
  pub allowed : refusal topology journal inputs step bytes ≡ None

-- the routes stand for a journal after which the step has its turn
pub record MayDo (topology : Network) (step : Step) (routed : Routed) : Type 0 where
  pub journal : List JournalEntry
  pub stands : IsRoutes topology journal routed
  pub turn : IsTurn topology journal step

-- the step is done, and made so many messages, numbered from this number on
pub record Did (topology : Network) (tick number : ℕ) (step : Step) (old new : Routed) (made : ℕ) : Type 0 where
  pub goes : (journal : List JournalEntry) → IsRoutes topology journal old → IsTurn topology journal step → IsRoutes topology (pushed journal tick step) new
  pub messages : (journal : List JournalEntry) → IsRoutes topology journal old → IsTurn topology journal step →
      keys_in new.messages
      ≡ routes_leave (length topology.loopbacks) step (keys_in old.messages)
      ++ keys_on (of_routes (length topology.loopbacks)) (numbered topology tick number (routes_now topology journal step))
  pub count : (journal : List JournalEntry) → IsRoutes topology journal old → IsTurn topology journal step → made ≡ length (routes_now topology journal step)

-- the steps that the routes do
abbrev pub is_its : Step → Bool
is_its = is_routing

-- after any other they stand as they did
abbrev pub StayAsTheyWere : Type 0
StayAsTheyWere = (topology : Network) (journal : List JournalEntry) (tick : ℕ) (step : Step) (routed : Routed) → IsLawful topology → is_its step ≡ false →
    IsRoutes topology journal routed → IsRoutes topology (pushed journal tick step) routed

-- a site is attached with this label, where it is the next one of its edge
pub record DidAttach (topology : Network) (tick number : ℕ) (site : SiteNo) (label : ℕ) (old new : Routed) (made : ℕ) : Type 0 where
  pub goes : (journal : List JournalEntry) → IsRoutes topology journal old → IsTurn topology journal (Attach site) →
      label ≡ next_label topology journal site.0 →
      IsRoutes topology (pushed journal tick (Attach site)) new
  pub messages : (journal : List JournalEntry) → IsRoutes topology journal old → IsTurn topology journal (Attach site) →
      label ≡ next_label topology journal site.0 →
      keys_in new.messages ≡ keys_in old.messages ++ keys_on (of_routes (length topology.loopbacks))
      (numbered topology tick number (routes_now topology journal (Attach site)))
  pub count : (journal : List JournalEntry) → IsRoutes topology journal old → IsTurn topology journal (Attach site) →
      label ≡ next_label topology journal site.0 →
      made ≡ length (routes_now topology journal (Attach site))

-- the routes stand for a journal after which the site's turn to be attached has come, with this label
pub record MayGive (topology : Network) (site : SiteNo) (label : ℕ) (routed : Routed) : Type 0 where
  pub journal : List JournalEntry
  pub stands : IsRoutes topology journal routed
  pub turn : IsTurn topology journal (Attach site)
  pub gives : label ≡ next_label topology journal site.0
