-- One link goes down in the two networks, and a packet of TTL 5 is sent where x has learned of it and y hasn't.
use Rattle.std.specs.Prelude.{◌≡◌, ℕ, true, false, List, [], ◌∷◌, ◌++◌, map}
use Rattle.mn_wiring.specs.declared.links.Dir.TheVariants.{Forth, Back}
use Rattle.mn_drops.specs.declared.drops.Rule.TheVariants as rule
use Rattle.mn_topo.specs.Network.{wiring_of}
use Rattle.mn_topo.specs.Lawful.{IsLawful}
use Rattle.mn_topo.specs.declared.steps.Step.{Step}
use Rattle.mn_topo.specs.declared.steps.Step.TheVariants.{LinkUp, LinkDown, Learn, BgpUp, HearBgp, Inject, Carry}
use Rattle.mn_topo.specs.declared.steps.JournalEntry.{JournalEntry}
use Rattle.mn_ledger.specs.declared.verdict.Verdict.TheVariants.{Dropped}
use Rattle.mn_ledger.specs.Ledger.{world_of, packets_of}
use Rattle.mn_ledger.specs.Verdicts.{verdict_on}
use Rattle.mn_ledger.proofs.TwoLinks.{node_no, link_no, site_no, at_start, heard_on}
use Rattle.mn_changing_laws.specs.BothNext.{HasNoLoop}
use Rattle.mn_changing_laws.specs.Changing.{OneLinkChanges, links_with, bound_for}
use Rattle.mn_changing_laws.specs.MicroLoop.{micro_loop}

-- each node learns of the link's change
abbrev pub four_learn : ℕ → List Step
four_learn l = Learn (node_no 0) (link_no l) ∷ Learn (node_no 1) (link_no l) ∷ Learn (node_no 2) (link_no l) ∷ Learn (node_no 3) (link_no l) ∷ []

-- pe2 receives from pe1, and pe1 from pe2
abbrev pub to_pe2 : List Step
to_pe2 = HearBgp (node_no 0) (node_no 3) ∷ []

abbrev pub to_pe1 : List Step
to_pe1 = HearBgp (node_no 3) (node_no 0) ∷ []

-- all links come up, all is learned, and all is received
abbrev pub settling_four : List JournalEntry
settling_four =
    map at_start
    ((LinkUp (link_no 0) ∷ LinkUp (link_no 1) ∷ LinkUp (link_no 2) ∷ LinkUp (link_no 3) ∷ BgpUp (node_no 0) (node_no 3) ∷ [])
    ++ four_learn 0 ++ four_learn 1 ++ four_learn 2 ++ four_learn 3
    ++ heard_on 0 Back 1 ++ heard_on 1 Back 1 ++ heard_on 2 Back 1 ++ heard_on 3 Back 1 ++ to_pe2 ++ to_pe1 ++ heard_on 0 Forth 2 ++ heard_on 1 Forth 2
    ++ heard_on 2 Forth 2 ++ heard_on 3 Forth 2 ++ to_pe1 ++ to_pe2 ++ heard_on 0 Back 3 ++ heard_on 1 Back 3 ++ heard_on 2 Back 3 ++ heard_on 3 Back 3
    ++ to_pe2 ++ to_pe1 ++ heard_on 0 Forth 3 ++ heard_on 1 Forth 2 ++ heard_on 0 Back 1 ++ heard_on 1 Forth 1 ++ heard_on 2 Forth 3 ++ heard_on 0 Back 1
    ++ heard_on 2 Forth 1 ++ heard_on 1 Forth 1 ++ heard_on 3 Forth 2 ++ heard_on 0 Back 1 ++ heard_on 2 Forth 1 ++ heard_on 1 Forth 1 ++ heard_on 1 Back 1
    ++ heard_on 3 Back 1 ++ heard_on 0 Forth 1 ++ heard_on 2 Back 1 ++ heard_on 3 Forth 1 ++ heard_on 2 Back 1 ++ heard_on 3 Forth 1 ++ heard_on 0 Forth 1
    ++ heard_on 1 Back 1 ++ heard_on 3 Back 1 ++ heard_on 2 Back 1 ++ heard_on 3 Forth 1 ++ heard_on 1 Back 1 ++ heard_on 3 Back 1)

-- the link from x to pe2 goes down, and x learns of it
abbrev pub x_learns : List JournalEntry
x_learns = at_start (LinkDown (link_no 1)) ∷ at_start (Learn (node_no 1) (link_no 1)) ∷ []

-- the packet is sent, and carried to x, to y, to x and to y; or to x, to y and to pe2
abbrev pub sent_round : List JournalEntry
sent_round =
    at_start (Inject (site_no 0) 1) ∷ at_start (Carry (link_no 0) Forth 0) ∷ at_start (Carry (link_no 2) Forth 0) ∷ at_start (Carry (link_no 2) Back 0)
    ∷ at_start (Carry (link_no 2) Forth 0) ∷ []

abbrev pub sent_on : List JournalEntry
sent_on =
    at_start (Inject (site_no 0) 1) ∷ at_start (Carry (link_no 0) Forth 0) ∷ at_start (Carry (link_no 2) Forth 0) ∷ at_start (Carry (link_no 3) Forth 0) ∷ []

-- UDP from 10.1.0.1 to 10.2.0.1, TTL 5
abbrev pub packet_of_ttl_5 : List ℕ
packet_of_ttl_5 = 69 ∷ 0 ∷ 0 ∷ 28 ∷ 0 ∷ 0 ∷ 0 ∷ 0 ∷ 5 ∷ 17 ∷ 161 ∷ 205 ∷ 10 ∷ 1 ∷ 0 ∷ 1 ∷ 10 ∷ 2 ∷ 0 ∷ 1 ∷ 0 ∷ 53 ∷ 0 ∷ 53 ∷ 0 ∷ 8 ∷ 0 ∷ 0 ∷ []

-- At cost 15 all that the law asks is met, and the packet goes by four nodes. At cost 50 all but that there is no loop, and it meets x and y
-- twice, and is dropped for its TTL, though that was more than there are nodes.
pub record TheLawIsMet : Type 0 where
  pub lawful : IsLawful (micro_loop 15)
  pub changes : OneLinkChanges (micro_loop 15) 1 settling_four (x_learns ++ sent_on) (packet_of_ttl_5 ∷ [])
  pub bound : bound_for (micro_loop 15) (world_of (micro_loop 15) (settling_four ++ x_learns)) 0 packet_of_ttl_5 ≡ 3
  pub none : HasNoLoop (wiring_of (micro_loop 15)) (links_with (micro_loop 15) (world_of (micro_loop 15) settling_four) 1 false)
      (links_with (micro_loop 15) (world_of (micro_loop 15) settling_four) 1 true) 3
  pub goes_on : (packets_of (micro_loop 15) (settling_four ++ (x_learns ++ sent_on)) (packet_of_ttl_5 ∷ [])).paths ≡ (0 ∷ 1 ∷ 2 ∷ 3 ∷ []) ∷ []
  pub lawful_too : IsLawful (micro_loop 50)
  pub changes_too : OneLinkChanges (micro_loop 50) 1 settling_four (x_learns ++ sent_round) (packet_of_ttl_5 ∷ [])
  pub goes_round : (packets_of (micro_loop 50) (settling_four ++ (x_learns ++ sent_round)) (packet_of_ttl_5 ∷ [])).paths ≡ (0 ∷ 1 ∷ 2 ∷ 1 ∷ 2 ∷ []) ∷ []
  pub expires : verdict_on (packets_of (micro_loop 50) (settling_four ++ (x_learns ++ sent_round)) (packet_of_ttl_5 ∷ [])) 0
      ≡ Dropped rule.TtlExpired (node_no 2)
