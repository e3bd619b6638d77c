-- Pairs are of sites of the topology.
use Rattle.std.proofs.Common.{◌≡◌, ◌<◌, ℕ, length, get_or, sym, ap, subst, arith, inl, inr, Option, Some, None}
use Rattle.std.specs.Prelude.{All}
use Rattle.std.specs.List.{range_with_len}
use Rattle.std.proofs.lemmas.List.{get_or_default}
use Rattle.mn_base.proofs.Members.{In, in_contained, in_flat_map, in_range}
use Rattle.mn_prefix.specs.Prefix.{AddressBlock}
use Rattle.mn_topo.specs.Network.{Network}
use Rattle.mn_topo.specs.Homes.{site_at}
use Rattle.mn_candidates.specs.declared.pairs.Pair.{Pair}
use Rattle.mn_candidates.specs.Pairs.{address_in, pair_by, pair_to, pairs_from, pairs_of, firsts_beside, prefixes_towards}

site_of : (s : ℕ) (prefix : AddressBlock) (address : Option ℕ) (pair : Pair) → In (pair_by s prefix address) pair → pair.site.0 ≡ s
site_of s prefix None pair i = absurd i
site_of s prefix (Some address) pair i = elim i [ inl e ↦ sym (ap (λ (p : Pair). p.site.0) e) | inr j ↦ absurd j ]

pub all_sited : (topology : Network) → All (λ (pair : Pair). pair.site.0 < length topology.sites) (pairs_of topology)
all_sited topology k d below =
    let pair : Pair = get_or (pairs_of topology) k d in
    let i : In (pairs_of topology) pair = in_contained (pairs_of topology) pair (k, below, get_or_default (pairs_of topology) k pair d below) in
    let s = in_flat_map (pairs_from topology) (range_with_len 0 (length topology.sites)) pair i in
    let p = in_flat_map (pair_to s.0) (firsts_beside (site_at topology s.0).prefixes (prefixes_towards topology s.0)) pair s.2 in
    let there = in_range 0 (length topology.sites) s.0 s.1 in
    subst (λ n. n < length topology.sites) (sym (site_of s.0 p.0 (address_in p.0) pair p.2)) (omega (arith, there.1))
