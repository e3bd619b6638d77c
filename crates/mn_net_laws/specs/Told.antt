-- What a network tells of nodes, in the ledger's words.
use Rattle.std.specs.Prelude.{◌≡◌, ℕ, if◌then◌else◌, List, [], ◌∷◌, ◌++◌, Option, Some, None, option_map}
use Rattle.mn_base.specs.declared.numbers.NodeNo.{NodeNo}
use Rattle.mn_states.specs.declared.states.LdpState.{LdpState}
use Rattle.mn_topo.specs.Network.{Network}
use Rattle.mn_topo.specs.declared.steps.JournalEntry.{JournalEntry}
use Rattle.mn_ledger.specs.World.{World}
use Rattle.mn_ledger.specs.Transport.{lives, ldp_state_of, usable}
use Rattle.mn_reuse_laws.specs.Laws.{ChangesOnceFree}

-- the next hop from a node towards another where it can send there
abbrev pub hop_to : Network → World → ℕ → ℕ → Option NodeNo
hop_to topology world node edge = option_map (λ hop. record { 0 = hop.0 }) (usable topology world.config world.views world.sessions node edge)

-- the state of an end of a link whose session lives: RFC 5036, section 2.5.4
abbrev pub state_at : Network → World → ℕ → ℕ → Option LdpState
state_at topology world l end = if lives world.config l then Some (ldp_state_of topology world.sessions l end) else None

-- a label that a FEC had before the last step means something else after it only where the FEC was free before it: the node didn't offer
-- it, each Withdraw of it had its Release received or its session ended, and no frame that was sent before that could fly any more
abbrev pub ChangedOnceFree : Network → List JournalEntry → ℕ → Type 0
ChangedOnceFree topology journal node =
    (entries : List JournalEntry) (entry : JournalEntry) → journal ≡ entries ++ entry ∷ [] → ChangesOnceFree topology entries entry node
