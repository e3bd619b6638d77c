-- What the lists of a world keep: their order, and each thing once.
use Rattle.std.specs.Prelude.{◌≡◌, ◌≢◌, ◌<◌, ◌⊎◌, ℕ, true}
use Rattle.std.specs.List.{AllPairs}
use Rattle.mn_topo.specs.Network.{Network}
use Rattle.mn_ledger.specs.Places.{vrf_of}
use Rattle.mn_ledger.specs.World.{SiteRoute, Export, World}
use Rattle.mn_ledger.specs.Exports.{comes_before, exports_of}
use Rattle.mn_ledger.specs.Held.{HeldRoute, held}

-- by VRF, and of one VRF by prefix
abbrev pub ComesBefore : Export → Export → Type 0
ComesBefore export other = (export.vrf < other.vrf) ⊎ ((export.vrf ≡ other.vrf) × (comes_before export.prefix other.prefix ≡ true))

-- of one VRF they have different prefixes
abbrev pub DifferInVrf : Network → SiteRoute → SiteRoute → Type 0
DifferInVrf topology static other = vrf_of topology static.site ≡ vrf_of topology other.site → static.prefix ≢ other.prefix

-- from one source they have different prefixes
abbrev pub DifferBySource : HeldRoute → HeldRoute → Type 0
DifferBySource route other = route.source ≡ other.source → route.prefix ≢ other.prefix

-- sets of targets ascend, so each target is in them once; no two statics of one VRF have one prefix; what an edge exports stands in
-- the order of VRFs and prefixes, each once; and no two routes that a VRF holds have one prefix and one source
pub record IsTidy (topology : Network) (world : World) : Type 0 where
  pub imports : (v : ℕ) → AllPairs (λ earlier later. earlier < later) (world.config.imports v)
  pub exports : (v : ℕ) → AllPairs (λ earlier later. earlier < later) (world.config.exports v)
  pub statics : AllPairs (DifferInVrf topology) world.config.statics
  pub told : (edge : ℕ) → AllPairs ComesBefore (exports_of topology world.config edge)
  pub held : (edge v : ℕ) → AllPairs DifferBySource (held topology world.config world.peerings edge v)
