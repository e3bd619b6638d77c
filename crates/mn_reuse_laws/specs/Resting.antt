-- When a FEC is at rest at a node, and since when: RFC 5036, sections 3.5.10 and 3.5.11.
use Rattle.std.specs.Prelude.{ℕ, ◌==◌, ◌&&◌, ◌||◌, Bool, false, not, if◌then◌else◌, List, [], ◌∷◌, slice_index_or}
use Rattle.std.specs.List.{list_all, list_any}
use Rattle.mn_wiring.specs.Wiring.{links_at, sender, receiver}
use Rattle.mn_topo.specs.Network.{Network, wiring_of}
use Rattle.mn_topo.specs.declared.steps.Step.{Step}
use Rattle.mn_topo.specs.declared.steps.Step.TheVariants.{HearLdp}
use Rattle.mn_topo.specs.declared.steps.JournalEntry.{JournalEntry}
use Rattle.mn_ledger.specs.World.{World, Address}
use Rattle.mn_ledger.specs.Transport.{lives}
use Rattle.mn_ledger.specs.Ledger.{start, after}
use Rattle.mn_settled_laws.specs.Offers.{is_operational_on, offers_in}
use Rattle.mn_reuse_laws.specs.Answers.{is_release, withdraws, releases}

-- 1. At rest

-- each Withdraw of the FEC that the node sent on the link has had its Release received: of a session that has ended none counts
abbrev pub is_released : Network → World → ℕ → ℕ → ℕ → Bool
is_released topology world node fec l = withdraws world l node fec == releases topology world l node fec

-- the node doesn't offer the FEC, and no neighbour owes it a Release
abbrev pub is_at_rest : Network → World → ℕ → ℕ → Bool
is_at_rest topology world node fec =
    not (offers_in topology world node fec) && list_all (is_released topology world node fec) (links_at (wiring_of topology) node)

-- 2. What lays it to rest

-- the step ends the node's offer of the FEC
abbrev pub ends_offer : Network → World → Step → ℕ → ℕ → Bool
ends_offer topology world step node fec = offers_in topology world node fec && not (offers_in topology (after topology world step) node fec)

-- or brings the node a Release of it
abbrev pub brings_release : Network → World → Step → ℕ → ℕ → Bool
brings_release topology world (HearLdp l dir) node fec = (receiver (wiring_of topology) l.0 dir == node)
    && is_release fec (slice_index_or (world.sessions.said l.0 (sender (wiring_of topology) l.0 dir)) (world.sessions.heard l.0 node) Address)
brings_release topology world _ node fec = false

-- or ends a session in which the node was OPERATIONAL
abbrev pub ends_session : Network → World → Step → ℕ → Bool
ends_session topology world step node =
    list_any (λ l. is_operational_on topology world node l && not (lives (after topology world step).config l)) (links_at (wiring_of topology) node)

abbrev pub lays_to_rest : Network → World → Step → ℕ → ℕ → Bool
lays_to_rest topology world step node fec =
    ends_offer topology world step node fec || (brings_release topology world step node fec || ends_session topology world step node)

-- by FEC, the tick of the last step that did so; 0 where none did
abbrev pub rested_after : Network → World → ℕ → Step → ℕ → (ℕ → ℕ) → ℕ → ℕ
rested_after topology world tick step node rested fec = if lays_to_rest topology world step node fec then tick else rested fec

abbrev pub rested_from : Network → ℕ → World → (ℕ → ℕ) → List JournalEntry → ℕ → ℕ
rested_from topology node world rested [] = rested
rested_from topology node world rested (entry ∷ entries) =
    rested_from topology node (after topology world entry.step) (rested_after topology world entry.tick entry.step node rested) entries

abbrev pub rested_of : Network → List JournalEntry → ℕ → ℕ → ℕ
rested_of topology entries node = rested_from topology node (start topology) (λ fec. 0) entries
