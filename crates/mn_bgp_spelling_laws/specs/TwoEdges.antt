-- The network of two links, whose edges open their session: it meets what the laws ask, and what pe1 tells pe2 there is worked byte by
-- byte.
--
--     site a --- pe1 --- p --- pe2 --- site b
use Rattle.std.specs.Prelude.{◌≡◌, ℕ, List, [], ◌∷◌, ◌++◌, map, replicate}
use Rattle.mn_topo.specs.Lawful.{IsLawful}
use Rattle.mn_topo.specs.declared.steps.Step.TheVariants.{BgpUp}
use Rattle.mn_topo.specs.declared.steps.JournalEntry.{JournalEntry}
use Rattle.mn_ledger.specs.Turns.{IsInTurn}
use Rattle.mn_ledger.specs.Ledger.{world_of}
use Rattle.mn_ledger.specs.Lawful.{IsLawfulJournal}
use Rattle.mn_ledger.proofs.TwoLinks.{node_no, two_links, at_start, settling}
use Rattle.mn_bgp_spelling_laws.specs.Spelling.{Labels, bytes_in}
use Rattle.mn_bgp_spelling_laws.specs.Laws.{IsComing, AreLabels}

-- pe1 has given 16 and 17 to the other two nodes, and 18 to its site
abbrev pub eighteen : Labels
eighteen site attachment = 18

abbrev pub opening : List JournalEntry
opening = at_start (BgpUp (node_no 0) (node_no 2)) ∷ []

-- RFC 4271, section 4.1
abbrev pub marker : List ℕ
marker = replicate 16 0xFF

-- AS 65000, hold time 0, 192.0.2.1, and the capability of VPN-IPv4
abbrev pub pe1_opens : List ℕ
pe1_opens = marker ++ 0x00 ∷ 0x25 ∷ 0x01 ∷ 0x04 ∷ 0xFD ∷ 0xE8 ∷ 0x00 ∷ 0x00 ∷ 0xC0 ∷ 0x00 ∷ 0x02 ∷ 0x01 ∷ 0x08 ∷ 0x02 ∷ 0x06 ∷
    0x01 ∷ 0x04 ∷ 0x00 ∷ 0x01 ∷ 0x00 ∷ 0x80 ∷ []

abbrev pub pe1_keeps_alive : List ℕ
pe1_keeps_alive = marker ++ 0x00 ∷ 0x13 ∷ 0x04 ∷ []

-- 10.1.0.0/16 of 65000:1 with label 18 and target 65000:100
abbrev pub pe1_announces : List ℕ
pe1_announces = marker ++ 0x00 ∷ 0x52 ∷ 0x02 ∷ 0x00 ∷ 0x00 ∷ 0x00 ∷ 0x3B ∷ 0x40 ∷ 0x01 ∷ 0x01 ∷ 0x00 ∷ 0x40 ∷ 0x02 ∷ 0x00 ∷ 0x40 ∷
    0x05 ∷ 0x04 ∷ 0x00 ∷ 0x00 ∷ 0x00 ∷ 0x64 ∷ 0x80 ∷ 0x0E ∷ 0x1F ∷ 0x00 ∷ 0x01 ∷ 0x80 ∷ 0x0C ∷ 0x00 ∷ 0x00 ∷
    0x00 ∷ 0x00 ∷ 0x00 ∷ 0x00 ∷ 0x00 ∷ 0x00 ∷ 0xC0 ∷ 0x00 ∷ 0x02 ∷ 0x01 ∷ 0x00 ∷ 0x68 ∷ 0x00 ∷ 0x01 ∷ 0x21 ∷
    0x00 ∷ 0x00 ∷ 0xFD ∷ 0xE8 ∷ 0x00 ∷ 0x00 ∷ 0x00 ∷ 0x01 ∷ 0x0A ∷ 0x01 ∷ 0xC0 ∷ 0x10 ∷ 0x08 ∷ 0x00 ∷ 0x02 ∷
    0xFD ∷ 0xE8 ∷ 0x00 ∷ 0x00 ∷ 0x00 ∷ 0x64 ∷ []

-- the session has opened, and pe2 is to receive pe1's OPEN; labels have 20 bits; and these are the messages of pe1 to pe2 once all is received
pub record TwoEdgesTalk : Type 0 where
  pub lawful : IsLawful two_links
  pub journal : IsLawfulJournal two_links opening []
  pub turn : IsInTurn two_links (world_of two_links opening)
  pub coming : IsComing (world_of two_links opening) 2 0
  pub labels : AreLabels eighteen
  pub told : map (bytes_in two_links eighteen 0) ((world_of two_links settling).peerings.told 0 2) ≡ pe1_opens ∷ pe1_keeps_alive ∷ pe1_announces ∷ []
