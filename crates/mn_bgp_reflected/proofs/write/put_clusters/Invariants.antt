use Rattle.std.proofs.Common.{◌≡◌, ◌*◌, [], ◌∷◌, ◌++◌, length, take}
use Rattle.std.specs.List.{flat_map}
use Rattle.mn_bgp_reflected.specs.Grammar.{address_bytes}
use Rattle.mn_bgp_reflected.proofs.write.put_clusters.Given as goal

abbrev pub invariant-clusters : goal.invariant-clusters
invariant-clusters l = l.out.items ≡ (l.fn.out.items ++ 0x80 ∷ 10 ∷ 4 * length l.clusters ∷ []) ++ flat_map address_bytes (take l.cluster-index l.clusters)
