-- Which exports an edge believes of a peer, in words: those that the peer has announced and not withdrawn or announced otherwise since.
use Rattle.std.specs.Prelude.{◌≡◌, ℕ, ◌==◌, ◌&&◌, Bool, true, false, List, ◌∷◌, ◌++◌}
use Rattle.std.specs.List.{Contains, list_any}
use Rattle.mn_prefix.specs.Prefix.{AddressBlock, same_prefix}
use Rattle.mn_ledger.specs.World.{Config, Export, Telling, Announcement, Withdrawal, Peerings}
use Rattle.mn_ledger.specs.Bgp.{peers_live, is_for}
use Rattle.mn_ledger.specs.Held.{heard_of, believed}

-- it announces or withdraws the VRF's prefix
abbrev pub mentions : ℕ → AddressBlock → Telling → Bool
mentions v prefix (Announcement export) = is_for v prefix export
mentions v prefix (Withdrawal w other) = (v == w) && same_prefix prefix other
mentions v prefix _ = false

-- of these, the last that mentions the export's VRF and prefix is its announcement
pub record IsLastMention (tellings : List Telling) (export : Export) : Type 0 where
  pub before : List Telling
  pub after : List Telling
  pub split : tellings ≡ before ++ Announcement export ∷ after
  pub last : list_any (mentions export.vrf export.prefix) after ≡ false

-- an edge believes an export of a peer exactly where their session lives and the last mention of its VRF and prefix, of what the
-- edge has received in this life, is its announcement
pub record BelievesLastMentions (config : Config) (peerings : Peerings) (edge peer : ℕ) (export : Export) : Type 0 where
  pub live : Contains (believed config peerings edge peer) export → peers_live config edge peer ≡ true
  pub mentioned : Contains (believed config peerings edge peer) export → IsLastMention (heard_of peerings edge peer) export
  pub believed : peers_live config edge peer ≡ true → IsLastMention (heard_of peerings edge peer) export → Contains (believed config peerings edge peer) export
