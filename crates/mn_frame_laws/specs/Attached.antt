-- Every attachment has a label at its site's edge, and so has all that names one: what was sent, what is held, and what flies.
use Rattle.std.specs.Prelude.{◌≡◌, ◌<◌, ◌≤◌, ℕ, ◌+◌, List, length, slice_index}
use Rattle.std.specs.List.{Contains}
use Rattle.mn_wiring.specs.declared.links.Dir.{Dir}
use Rattle.mn_topo.specs.Network.{Network}
use Rattle.mn_topo.specs.Lawful.{IsLawful}
use Rattle.mn_topo.specs.declared.steps.JournalEntry.{JournalEntry}
use Rattle.mn_ledger.specs.Places.{home_of, edge_of}
use Rattle.mn_ledger.specs.World.{Config, Export, Announcement}
use Rattle.mn_ledger.specs.Held.{HeldRoute, held}
use Rattle.mn_ledger.specs.Packets.{Token, flying_on, bound}
use Rattle.mn_ledger.specs.Ledger.{world_of, packets_of}
use Rattle.mn_ledger.specs.Lawful.{IsLawfulJournal}
use Rattle.mn_ledger.specs.Verdicts.{injections}
use Rattle.mn_ledger_laws.specs.Named.{AreBytes}
use Rattle.mn_frame_laws.specs.Given.{given, attachment_of, HasLabel}
use Rattle.mn_frame_laws.specs.Frames.{IsSound}
use Rattle.mn_frame_laws.specs.Entries.{Leaves, fate}

-- the node is the site's edge, and the site was attached so often
pub record IsAttachmentAt (topology : Network) (config : Config) (node site attachment : ℕ) : Type 0 where
  pub home : home_of topology site ≡ node
  pub there : site < length topology.sites
  pub first : 1 ≤ attachment
  pub last : attachment ≤ config.attaches site + 1

-- the site's edge has given a label for each of its attachments
abbrev pub GivesToEach : Type 0
GivesToEach = (topology : Network) (entries : List JournalEntry) (site attachment : ℕ) →
    IsAttachmentAt topology (world_of topology entries).config (home_of topology site) site attachment →
    HasLabel (given topology entries (home_of topology site)) (attachment_of site attachment)

-- and for no other
abbrev pub GivesToNoOther : Type 0
GivesToNoOther = (topology : Network) (entries : List JournalEntry) (inputs : List (List ℕ)) (node site attachment : ℕ) →
    IsLawfulJournal topology entries inputs → HasLabel (given topology entries node) (attachment_of site attachment) →
    IsAttachmentAt topology (world_of topology entries).config node site attachment

-- each announcement that was sent, and each route that a VRF holds, names an attachment that has a label at its edge
pub record NamesWhatHasLabels (topology : Network) (entries : List JournalEntry) : Type 0 where
  pub told : (teller peer : ℕ) (export : Export) → Contains ((world_of topology entries).peerings.told teller peer) (Announcement export) →
      HasLabel (given topology entries teller) (attachment_of export.site export.attachment)
  pub held : (v : ℕ) (route : HeldRoute) → v < length topology.vrfs →
      Contains (held topology (world_of topology entries).config (world_of topology entries).peerings (edge_of topology v) v) route →
      HasLabel (given topology entries route.edge) (attachment_of route.site route.attachment)

abbrev pub AllHaveLabels : Type 0
AllHaveLabels = (topology : Network) (entries : List JournalEntry) (inputs : List (List ℕ)) → IsLawful topology → IsLawfulJournal topology entries inputs →
    NamesWhatHasLabels topology entries

-- a packet that leaves its edge is bound to an attachment that has a label
abbrev pub LeavesSound : Type 0
LeavesSound = (topology : Network) (entries : List JournalEntry) (inputs : List (List ℕ)) (site : ℕ) (bytes : List ℕ) (route : HeldRoute) →
    IsLawful topology → IsLawfulJournal topology entries inputs →
    site < length topology.sites → ((i : ℕ) → slice_index bytes i < 256) → fate topology (world_of topology entries) site bytes ≡ Leaves route →
    IsSound topology (given topology entries) (bound 0 route bytes)

-- and each packet on its way is sound
abbrev pub AllAreSound : Type 0
AllAreSound = (topology : Network) (entries : List JournalEntry) (inputs : List (List ℕ)) → IsLawful topology → IsLawfulJournal topology entries inputs →
    length inputs ≡ injections entries → AreBytes inputs → (l : ℕ) (dir : Dir) (token : Token) →
    Contains (flying_on (packets_of topology entries inputs) l dir) token → IsSound topology (given topology entries) token
