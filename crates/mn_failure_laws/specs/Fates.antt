-- What becomes of packets under a failure: of each that is sent once the network is at rest, whatever happened before.
use Rattle.std.specs.Prelude.{◌≡◌, ℕ, List, None}
use Rattle.mn_ipv4.specs.Header.{ttl_of, destination_of}
use Rattle.mn_topo.specs.Network.{Network}
use Rattle.mn_topo.specs.declared.steps.JournalEntry.{JournalEntry}
use Rattle.mn_ledger.specs.Entry.{first_rule}
use Rattle.mn_ledger.specs.Places.{home_of, vrf_of}
use Rattle.mn_ledger.specs.World.{Config}
use Rattle.mn_ledger.specs.Held.{best}
use Rattle.mn_ledger.specs.Packets.{entry_rules}
use Rattle.mn_ledger.specs.Ledger.{packets_of}
use Rattle.mn_ledger.specs.Lawful.{IsLawfulJournal}
use Rattle.mn_ledger_laws.specs.Accounts.{world_at, Sending}
use Rattle.mn_fate_laws.specs.Fate.{Fate, HasFate}
use Rattle.mn_reach_laws.specs.Fates.{taking_part, ends_towards}
use Rattle.mn_resting_laws.specs.Resting.{IsSentAtRest}
use Rattle.mn_failure_laws.specs.Failures.{Failure, config_under, IsUnder}

-- of a packet with this TTL for this address, sent at the site, that no rule on its bytes drops
abbrev pub fate_to : Network → Config → ℕ → ℕ → ℕ → Fate
fate_to topology config s ttl address =
    ends_towards topology config (home_of topology s) ttl
    (best (taking_part topology config (home_of topology s) (vrf_of topology s) address) address)

-- the same where this failed, and nothing else
abbrev pub fate_under : Network → Failure → ℕ → ℕ → ℕ → Fate
fate_under topology failure s ttl address = fate_to topology (config_under topology failure) s ttl address

-- in a lawful journal the packet is sent between two places: at the first the network is at rest under the failure, only packets move
-- from there to the second, and no frame flies there; and no rule on its bytes drops the packet
pub record IsSentUnder (topology : Network) (failure : Failure) (entries : List JournalEntry) (inputs : List (List ℕ)) (sending : Sending)
    (from to : ℕ) : Type 0 where
  pub journal : IsLawfulJournal topology entries inputs
  pub sent : IsSentAtRest topology entries inputs sending from to
  pub under : IsUnder topology (world_at topology entries from).config failure
  pub enters : first_rule (entry_rules ((world_at topology entries from).config.attached sending.site) sending.bytes) ≡ None

-- each packet that is sent so comes to this: its verdict, its path and its TTL go by site, TTL and destination alone
abbrev pub AllComeToTheirFates : Network → Failure → Type 0
AllComeToTheirFates topology failure =
    (entries : List JournalEntry) (inputs : List (List ℕ)) (sending : Sending) (from to : ℕ) → IsSentUnder topology failure entries inputs sending from to →
    HasFate (packets_of topology entries inputs) sending.packet
    (fate_under topology failure sending.site (ttl_of sending.bytes) (destination_of sending.bytes))
