-- The states of an LDP session's end: RFC 5036, section 2.5.4.
use Rattle.std.specs.Prelude.{ℕ, List, Option, Some, None, codes, if◌then◌else◌}
use Rattle.mn_states.specs.declared.states.LdpState.{LdpState}
use Rattle.mn_topo.specs.Network.{Network}
use Rattle.mn_ledger.specs.World.{World}
use Rattle.mn_ledger.specs.Transport.{lives, ldp_state_of}
use Rattle.mn_output_laws.specs.Tables.{ldp_name}

-- the state of an end of a link whose session lives
abbrev pub state_at : Network → World → ℕ → ℕ → Option LdpState
state_at topology world l end = if lives world.config l then Some (ldp_state_of topology world.sessions l end) else None

abbrev pub state_name : Option LdpState → List ℕ
state_name (Some state) = ldp_name state
state_name None = codes "none"
