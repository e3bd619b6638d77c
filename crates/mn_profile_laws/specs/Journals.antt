-- By the choices of a run what is told is what happens: in every lawful journal that is at rest under the failure.
use Rattle.std.specs.Prelude.{◌≡◌, ℕ, List, [], ◌∷◌}
use Rattle.mn_ipv4.specs.Header.{ttl_of, destination_of}
use Rattle.mn_topo.specs.Network.{Network}
use Rattle.mn_topo.specs.declared.steps.JournalEntry.{JournalEntry}
use Rattle.mn_ledger.specs.Ledger.{packets_of}
use Rattle.mn_ledger_laws.specs.Accounts.{Sending}
use Rattle.mn_fate_laws.specs.Fate.{Fate, HasFate}
use Rattle.mn_failure_laws.specs.Failures.{Failure}
use Rattle.mn_failure_laws.specs.Fates.{IsSentUnder}
use Rattle.mn_profile_laws.specs.Profiles.{of_run}
use Rattle.mn_profile_laws.specs.Ways.{Ends, ways_under}

-- the packet has one way, and that is what becomes of it
pub record GoesItsOneWay (topology : Network) (failure : Failure) (entries : List JournalEntry) (inputs : List (List ℕ)) (sending : Sending) : Type 0 where
  pub fate : Fate
  pub only : ways_under topology of_run failure sending.site (ttl_of sending.bytes) (destination_of sending.bytes) ≡ Ends fate ∷ []
  pub has_it : HasFate (packets_of topology entries inputs) sending.packet fate

-- of each that is sent while the network is at rest under the failure
abbrev pub AllGoTheirOneWay : Network → Failure → Type 0
AllGoTheirOneWay topology failure =
    (entries : List JournalEntry) (inputs : List (List ℕ)) (sending : Sending) (from to : ℕ) →
    IsSentUnder topology failure entries inputs sending from to → GoesItsOneWay topology failure entries inputs sending
