-- Who says a Mapping of which FEC on which link, in words: RFC 5036, sections 2.6.1 to 2.6.3, 3.5.7 and 3.5.10.
use Rattle.std.specs.Prelude.{◌≡◌, ◌<◌, ℕ, ◌&&◌, Bool, true, false, length}
use Rattle.std.specs.List.{Contains}
use Rattle.mn_wiring.specs.Wiring.{Wiring, is_end, across}
use Rattle.mn_ledger.specs.Ldp.{Message, Mapping, Withdraw, Said, Knowledge, is_operational, offers, news}

-- the node had offered the FEC to the other end of the link
abbrev pub had_offered : Wiring → Knowledge → ℕ → ℕ → ℕ → Bool
had_offered wiring before node l fec = is_operational before l && offers wiring before node fec

-- a Mapping of a FEC that it offers now and hadn't offered there, or a Withdraw of one that it had and doesn't offer any more
abbrev pub IsNewsOf : Wiring → Knowledge → Knowledge → ℕ → ℕ → Message → Type 0
IsNewsOf wiring before after node l (Mapping fec) = (fec < length wiring.loopbacks) × (offers wiring after node fec ≡ true)
    × (had_offered wiring before node l fec ≡ false)
IsNewsOf wiring before after node l (Withdraw fec) = (fec < length wiring.loopbacks) × (offers wiring after node fec ≡ false)
    × (had_offered wiring before node l fec ≡ true)
IsNewsOf wiring before after node l _ = ⊥

-- the link is one of the node's, to another node
pub record IsLinkOf (wiring : Wiring) (node l : ℕ) : Type 0 where
  pub there : l < length wiring.ends
  pub at_node : is_end wiring l node ≡ true
  pub other : across wiring l node < length wiring.loopbacks

-- as its knowledge changes a node says this, on its links on which it is OPERATIONAL, and nothing else
pub record SaysItsNews (wiring : Wiring) (before after : Knowledge) (node : ℕ) : Type 0 where
  pub by_node : (said : Said) → Contains (news wiring before after node) said → said.end ≡ node
  pub on_link : (said : Said) → Contains (news wiring before after node) said → IsLinkOf wiring node said.link
  pub operational : (said : Said) → Contains (news wiring before after node) said → is_operational after said.link ≡ true
  pub is_news : (said : Said) → Contains (news wiring before after node) said → IsNewsOf wiring before after node said.link said.message
  pub all : (l : ℕ) (message : Message) → IsLinkOf wiring node l → is_operational after l ≡ true → IsNewsOf wiring before after node l message
      → Contains (news wiring before after node) (record { link = l; end = node; message = message })
