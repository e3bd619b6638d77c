-- Pairs that a failure spares: nothing failed of what their packets may need.
use Rattle.std.specs.Prelude.{ℕ, ◌&&◌, Bool, not, List}
use Rattle.std.specs.List.{list_all}
use Rattle.mn_wiring.specs.Wiring.{is_up}
use Rattle.mn_topo.specs.Network.{Network}
use Rattle.mn_topo.specs.Homes.{home_of}
use Rattle.mn_failure_laws.specs.Failures.{is_session_off}
use Rattle.mn_reach.specs.declared.plan.Candidate.{Candidate}
use Rattle.mn_reach.specs.Plans.{links_between, pair_at, prospect_at}
use Rattle.mn_reach.specs.Reaching.{Reaching, failure_of}

-- the link is up and has LDP
abbrev pub is_whole : Reaching → ℕ → Bool
is_whole reaching l = is_up reaching.up l && is_up reaching.ldp l

-- all links are so on the ways from an edge to the candidates, and no session with one of their edges was ended
abbrev pub are_spared : Network → Reaching → ℕ → List Candidate → Bool
are_spared topology reaching home candidates =
    list_all (is_whole reaching) (links_between topology home candidates)
    && list_all (λ candidate. not (is_session_off (failure_of reaching) home candidate.route.edge.0)) candidates

-- of the pair's candidates
abbrev pub is_spared : Network → Reaching → ℕ → Bool
is_spared topology reaching k = are_spared topology reaching (home_of topology (pair_at reaching.plan k).site.0) (prospect_at reaching.plan k).candidates
