-- RFC 4456, section 8: the attributes that a reflector adds to an UPDATE.
use Rattle.std.specs.Prelude.{◌≡◌, ◌<◌, ℕ, ◌^◌, List, [], Option, Some, None, length}
use Rattle.std.specs.List.{flat_map, AllByRecursion}
use Rattle.byteorder.specs.Endian.{big_bytes}
use Rattle.mn_bgp_wire.specs.Says.{Says}
use Rattle.mn_bgp_wire.specs.Grammar.{PathAttribute, IsUpdate, IsBgp, value_of}
use Rattle.mn_bgp_wire.specs.declared.message.BgpMessage.TheVariants as messages
use Rattle.mn_bgp_reflected.specs.Says.{SaysReflected}

abbrev pub originator_kind : ℕ
originator_kind = 9

abbrev pub cluster_kind : ℕ
cluster_kind = 10

-- an address in four bytes
abbrev pub address_bytes : ℕ → List ℕ
address_bytes address = big_bytes 4 address

-- the address of the node that announced the route
pub record IsOriginator (value : List ℕ) (originator : ℕ) : Type 0 where
  pub fits : originator < 2 ^ 32
  pub whole : value ≡ address_bytes originator

-- at least one cluster, by the address of its reflector
pub record AreClusters (value : List ℕ) (clusters : List ℕ) : Type 0 where
  pub some : 0 < length clusters
  pub fit : AllByRecursion (λ cluster. cluster < 2 ^ 32) clusters
  pub whole : value ≡ flat_map address_bytes clusters

-- what the attributes 9 and 10 say, and what is meant where one isn't there
abbrev pub SayOriginator : Option (List ℕ) → Option ℕ → Type 0
SayOriginator None originator = originator ≡ None
SayOriginator (Some value) None = ⊥
SayOriginator (Some value) (Some originator) = IsOriginator value originator

abbrev pub SayClusters : Option (List ℕ) → List ℕ → Type 0
SayClusters None clusters = clusters ≡ []
SayClusters (Some value) clusters = AreClusters value clusters

-- the attributes of an UPDATE
abbrev pub attributes_of_update : (bytes : List ℕ) (says : Says) → IsBgp bytes (messages.Update says) → List PathAttribute
attributes_of_update bytes says is = let update : IsUpdate is.body says = is.is_body in update.attributes

-- the bytes are this UPDATE, and its attributes 9 and 10 say this
pub record IsReflected (bytes : List ℕ) (said : SaysReflected) : Type 0 where
  pub is_update : IsBgp bytes (messages.Update said.update)
  pub originator : SayOriginator (value_of originator_kind (attributes_of_update bytes said.update is_update)) said.originator
  pub clusters : SayClusters (value_of cluster_kind (attributes_of_update bytes said.update is_update)) said.clusters
