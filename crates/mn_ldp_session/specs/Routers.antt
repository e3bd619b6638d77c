-- Three routers in a row, with which the spelling of messages is tried.
use Rattle.std.specs.Prelude.{ℕ, [], ◌∷◌}
use Rattle.mn_wiring.specs.declared.links.LinkEnds.{LinkEnds}
use Rattle.mn_wiring.specs.Wiring.{Wiring}
use Rattle.mn_ldp_session.specs.Spelling.{Pdu}

abbrev pub hop : ℕ → ℕ → LinkEnds
hop a b = record { a = record { 0 = a }; b = record { 0 = b }; cost = 10; delay = 2; loss = 0; life = 2000 }

-- 192.0.2.1 --link 0-- 192.0.2.2 --link 1-- 192.0.2.3
abbrev pub routers_in_a_row : Wiring
routers_in_a_row = record { loopbacks = 0xC0000201 ∷ 0xC0000202 ∷ 0xC0000203 ∷ []; ends = hop 0 1 ∷ hop 1 2 ∷ [] }

-- each maps its own loopback alone
abbrev pub implicit_null : ℕ → ℕ
implicit_null fec = 3

-- the middle one maps its own loopback to label 3, implicit null, in the fourth message of the session on link 0
abbrev pub own_mapping : Pdu
own_mapping = record {
  link = 0;
  bytes = 0x00 ∷ 0x01 ∷ 0x00 ∷ 0x22 ∷ 0xC0 ∷ 0x00 ∷ 0x02 ∷ 0x02 ∷ 0x00 ∷ 0x00 ∷ 0x04 ∷ 0x00 ∷ 0x00 ∷ 0x18 ∷ 0x00 ∷ 0x00 ∷ 0x00 ∷ 0x04 ∷ 0x01 ∷ 0x00 ∷ 0x00
      ∷ 0x08
      ∷ 0x02 ∷ 0x00 ∷ 0x01 ∷ 0x20 ∷ 0xC0 ∷ 0x00 ∷ 0x02 ∷ 0x02 ∷ 0x02 ∷ 0x00 ∷ 0x00 ∷ 0x04 ∷ 0x00 ∷ 0x00 ∷ 0x00 ∷ 0x03 ∷ [];
}
