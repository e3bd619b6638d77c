-- What was planned, and what has failed since.
use Rattle.std.specs.Prelude.{ℕ, ◌≡◌, ◌==◌, ◌&&◌, Bool, true, false, not, List, [], length, replicate}
use Rattle.std.specs.List.{list_any}
use Rattle.mn_base.specs.declared.numbers.NodeNo.{NodeNo}
use Rattle.mn_wiring.specs.Wiring.{is_up}
use Rattle.mn_failure_laws.specs.Failures.{Failure, no_failure}
use Rattle.mn_way.specs.Switched.{Switched}
use Rattle.mn_reach.specs.Plans.{Plan}

-- which links are up, on which LDP is on, the sessions that were ended, the lesser edge first, whether those end between edges that no
-- links join, and whether memory was wanting
pub record Reaching : Type 0 where
  pub plan : Plan
  pub up : List Bool
  pub ldp : List Bool
  pub ended : List (NodeNo × NodeNo)
  pub ends : Bool
  pub failed : Bool

-- nothing has failed
abbrev pub at_first : Plan → Reaching
at_first plan = record {
  plan = plan;
  up = replicate (length plan.links) true;
  ldp = replicate (length plan.links) true;
  ended = [];
  ends = false;
  failed = false;
}

abbrev pub is_between : ℕ → ℕ → NodeNo × NodeNo → Bool
is_between one other session = (session.0.0 == one) && (session.1.0 == other)

-- what has failed
abbrev pub failure_of : Reaching → Failure
failure_of reaching = record {
  is_down = λ l. not (is_up reaching.up l);
  ldp_off = λ l. not (is_up reaching.ldp l);
  bgp_off = λ one other. list_any (is_between one other) reaching.ended;
  ends = reaching.ends;
}

-- nothing has failed, and sessions between edges that no links join end or don't
abbrev pub nothing_gone : Bool → Failure
nothing_gone ends = record no_failure { ends = ends }

-- what holds of each value: the ways have the same switches, one for each link
pub record IsKept (ways : Switched) (up ldp : List Bool) : Type 0 where
  pub ups : up ≡ ways.up
  pub switches : ldp ≡ ways.ldp
  pub up_each : length up ≡ length ways.ends
  pub ldp_each : length ldp ≡ length ways.ends
