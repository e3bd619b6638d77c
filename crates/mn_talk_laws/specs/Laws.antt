-- Two laws of a ledger with reflectors: without them it is the ledger of a full mesh, and settled with them each VRF holds what that gives.
use Rattle.std.specs.Prelude.{◌≡◌, ◌≢◌, ◌<◌, ◌≤◌, ℕ, true, false, List, [], ◌∷◌, map, length, None}
use Rattle.std.specs.List.{Contains}
use Rattle.mn_topo.specs.Network.{Network}
use Rattle.mn_topo.specs.declared.steps.Step.{Step}
use Rattle.mn_topo.specs.declared.steps.JournalEntry.{JournalEntry}
use Rattle.mn_ledger.specs.World.{Config}
use Rattle.mn_ledger.specs.Ledger.{first_config, world_of}
use Rattle.mn_ledger.specs.Held as mesh
use Rattle.mn_ledger.specs.Held.{HeldRoute}
use Rattle.mn_ledger.specs.Bgp.{peers_live}
use Rattle.mn_settled_laws.specs.Routes.{routes_of}
use Rattle.mn_reflect_ledger_laws.specs.Words.{Key, last_mention}
use Rattle.mn_reflect_ledger_laws.specs.Picks.{is_established, is_reflector, offered}
use Rattle.mn_reflect_ledger_laws.specs.Quiet.{BeginsBy}
use Rattle.mn_talk_laws.specs.Talk.{Talks, talks_of, talks_from, no_talks, heard_words, seen, held}

-- the steps of a journal
abbrev pub steps_of : List JournalEntry → List Step
steps_of entries = map (λ entry. entry.step) entries

-- 1. With no reflector: word for word what edges tell each other, as many received, and the same routes held

pub record IsTheFullMesh (topology : Network) (entries : List JournalEntry) : Type 0 where
  pub talks : talks_from topology [] (first_config topology) no_talks (steps_of entries) ≡ talks_of (world_of topology entries).peerings
  pub holds : (edge v : ℕ) →
      held topology [] (world_of topology entries).config (talks_from topology [] (first_config topology) no_talks (steps_of entries)) edge v
      ≡ mesh.held topology (world_of topology entries).config (world_of topology entries).peerings edge v

-- 2. With reflectors

-- all that was sent in a session that lives is received
abbrev pub IsHeard : Network → Config → Talks → Type 0
IsHeard topology config talks = (node peer : ℕ) → talks.heard node peer ≡ length (talks.told peer node)

-- an end that is Established has sent what it offers, and another nothing
pub record TellsItsOffers (topology : Network) (reflectors : List ℕ) (config : Config) (talks : Talks) (node peer : ℕ) : Type 0 where
  pub all : is_established (seen config talks) node peer ≡ true → (key : Key) →
      last_mention key None (talks.told node peer) ≡ offered topology reflectors (seen config talks) node peer key
  pub nothing : is_established (seen config talks) node peer ≡ false → (key : Key) → last_mention key None (talks.told node peer) ≡ None

-- OPEN comes first, and KEEPALIVE where that was received
pub record TalksInTurn (config : Config) (talks : Talks) (node peer : ℕ) : Type 0 where
  pub alive : peers_live config node peer ≡ true → BeginsBy (talks.heard node peer) (talks.told node peer)
  pub dead : peers_live config node peer ≡ false → talks.told node peer ≡ []

-- what holds of every run
pub record IsTalk (topology : Network) (reflectors : List ℕ) (config : Config) (talks : Talks) : Type 0 where
  pub within : (node peer : ℕ) → length topology.loopbacks ≤ peer → heard_words talks node peer ≡ []
  pub offers : (node peer : ℕ) → node ≢ peer → node < length topology.loopbacks → peer < length topology.loopbacks →
      TellsItsOffers topology reflectors config talks node peer
  pub turns : (node peer : ℕ) → node ≢ peer → node < length topology.loopbacks → peer < length topology.loopbacks → TalksInTurn config talks node peer

-- the VRF holds these and no other
pub record HoldsItsRoutes (topology : Network) (reflectors : List ℕ) (config : Config) (talks : Talks) (edge v : ℕ) (route : HeldRoute) : Type 0 where
  pub only : Contains (held topology reflectors config talks edge v) route → Contains (routes_of topology config edge v) route
  pub all : Contains (routes_of topology config edge v) route → Contains (held topology reflectors config talks edge v) route

-- each number stands once
abbrev pub AreOnce : List ℕ → Type 0
AreOnce [] = Unit {0}
AreOnce (number ∷ numbers) = (is_reflector numbers number ≡ false) × AreOnce numbers
