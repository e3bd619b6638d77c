-- Pairs that have a mark, since what failed may touch them.
use Rattle.std.specs.Prelude.{ℕ, ◌≡◌, ◌<◌, Bool, true, false, List, length, slice_index_or}
use Rattle.mn_topo.specs.Network.{Network}
use Rattle.mn_failure_laws.specs.Fates.{fate_under}
use Rattle.mn_reach.specs.Plans.{pair_at}
use Rattle.mn_reach.specs.Reaching.{Reaching, failure_of, nothing_gone}
use Rattle.mn_reach.specs.Spared.{is_spared}
use Rattle.mn_reach.specs.Verdicts.{resolving}

abbrev pub is_marked : List Bool → ℕ → Bool
is_marked marks k = slice_index_or marks k false

-- there are as many, and each mark stays
pub record KeepMarks (old new : List Bool) : Type 0 where
  pub each : length new ≡ length old
  pub kept : (k : ℕ) → is_marked old k ≡ true → is_marked new k ≡ true

-- a pair without a mark is spared, and so it has the fates that it has where nothing is gone, whether next hops are resolved or not
pub record AreMarked (topology : Network) (reaching : Reaching) (marks : List Bool) : Type 0 where
  pub each : length marks ≡ length reaching.plan.pairs
  pub spared : (k : ℕ) → k < length reaching.plan.pairs → is_marked marks k ≡ false → is_spared topology reaching k ≡ true
  pub stays : (k : ℕ) (resolve : Bool) (ttl : ℕ) → k < length reaching.plan.pairs → is_marked marks k ≡ false →
      fate_under (resolving topology resolve) (failure_of reaching) (pair_at reaching.plan k).site.0 ttl (pair_at reaching.plan k).address
      ≡ fate_under (resolving topology resolve) (nothing_gone reaching.ends) (pair_at reaching.plan k).site.0 ttl (pair_at reaching.plan k).address
