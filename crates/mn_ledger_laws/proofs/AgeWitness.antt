-- What the laws ask is met: in the network of two links a frame flies that is as old as its link's life; and older by a tick it ends.
--
--     site a --- pe1 --- p --- pe2 --- site b
use Rattle.std.specs.Prelude.{◌≡◌, refl, ℕ, List, [], ◌∷◌, ◌++◌, map}
use Rattle.mn_wiring.specs.declared.links.Dir.TheVariants.{Forth}
use Rattle.mn_drops.specs.declared.drops.Rule.TheVariants.{Overdue}
use Rattle.mn_topo.specs.Lawful.{IsLawful}
use Rattle.mn_topo.specs.declared.steps.Step.TheVariants.{Inject, Carry, Tick}
use Rattle.mn_topo.specs.declared.steps.JournalEntry.{JournalEntry}
use Rattle.mn_topo.specs.declared.steps.Step.{Step}
use Rattle.mn_topo.specs.declared.steps.Damaged.TheVariants.{Undamaged}
use Rattle.mn_ledger.specs.declared.verdict.Verdict.TheVariants.{Flying, Dropped}
use Rattle.mn_ledger.specs.Packets.{flying_on}
use Rattle.mn_ledger.specs.Ledger.{packets_of}
use Rattle.mn_ledger.specs.Lawful.{IsLawfulJournal}
use Rattle.mn_ledger.specs.OneMore.{tick_from}
use Rattle.mn_ledger.proofs.Deciding.{lawful}
use Rattle.mn_ledger.proofs.TwoLinks.{two_links, node_no, link_no, site_no, at_start, settling, packet, the_topology_is_lawful}
use Rattle.mn_ledger.proofs.Running.{a_run}

abbrev at_tick : ℕ → Step → JournalEntry
at_tick tick step = record { tick = tick; step = step; damaged = Undamaged }

-- a packet enters at pe1, and time goes on by so much
abbrev waits_for : ℕ → List JournalEntry
waits_for ticks = settling ++ at_start (Inject (site_no 0) 1) ∷ at_start (Tick ticks) ∷ []

a_lawful_topology : IsLawful two_links
a_lawful_topology = the_topology_is_lawful

a_lawful_journal : IsLawfulJournal two_links (waits_for 2000) (packet ∷ [])
unfolding a_run
a_lawful_journal = lawful two_links (waits_for 2000) (packet ∷ []) refl

-- the frame that flies on the first link was sent at 0, and the link's life is 2000: the bound is reached
its_frame : map (λ token. token.sent) (flying_on (packets_of two_links (waits_for 2000) (packet ∷ [])) 0 Forth) ≡ 0 ∷ []
unfolding a_run
its_frame = refl

its_clock : tick_from 0 (waits_for 2000) ≡ 2000
its_clock = refl

-- a tick later it doesn't fly any more
too_old : (packets_of two_links (waits_for 2001) (packet ∷ [])).verdicts ≡ Dropped Overdue (node_no 0) ∷ []
unfolding a_run
too_old = refl

none_flies : flying_on (packets_of two_links (waits_for 2001) (packet ∷ [])) 0 Forth ≡ []
unfolding a_run
none_flies = refl

-- carried when it is just as old as the first link's life it flies on, and has the second one's life before it
abbrev goes_on : List JournalEntry
goes_on = waits_for 2000 ++ at_tick 2000 (Carry (link_no 0) Forth 0) ∷ []

it_flies_on : (packets_of two_links goes_on (packet ∷ [])).verdicts ≡ Flying (link_no 1) Forth ∷ []
unfolding a_run
it_flies_on = refl

-- a Tick that is a tick too long ends it at p, and that is lawful
abbrev ends_late : List JournalEntry
ends_late = goes_on ++ at_tick 2000 (Tick 2001) ∷ []

it_is_lawful : IsLawfulJournal two_links ends_late (packet ∷ [])
unfolding a_run
it_is_lawful = lawful two_links ends_late (packet ∷ []) refl

too_late : (packets_of two_links ends_late (packet ∷ [])).verdicts ≡ Dropped Overdue (node_no 1) ∷ []
unfolding a_run
too_late = refl

the_last_clock : tick_from 0 ends_late ≡ 4001
the_last_clock = refl
