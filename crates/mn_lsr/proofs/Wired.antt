-- Three routers in a row are wired as a node asks for.
use Rattle.std.proofs.Common.{zero, suc, arith}
use Rattle.std.specs.Prelude.{All}
use Rattle.mn_wiring.specs.Wiring.{JoinsNodes, EndsDiffer, JoinsOnce}
use Rattle.mn_linkdb.specs.Network.{IsLink}
use Rattle.mn_ldp_session.specs.Routers.{routers_in_a_row}
use Rattle.mn_ldp_session.proofs.InARow.{spelled}
use Rattle.mn_lsr.specs.Standing.{IsWired}

links : All (IsLink 3) routers_in_a_row.ends
links zero d h = record { from = omega arith; to = omega arith; positive = omega arith; bounded = omega arith }
links (suc zero) d h = record { from = omega arith; to = omega arith; positive = omega arith; bounded = omega arith }
links (suc (suc l)) d h = absurd (omega (arith, h))

joins : JoinsNodes routers_in_a_row
joins zero h = (omega arith, omega arith)
joins (suc zero) h = (omega arith, omega arith)
joins (suc (suc l)) h = absurd (omega (arith, h))

differ : EndsDiffer routers_in_a_row
differ zero h e = omega (arith, e)
differ (suc zero) h e = omega (arith, e)
differ (suc (suc l)) h e = absurd (omega (arith, h))

once : JoinsOnce routers_in_a_row
once zero zero h g = omega arith
once zero (suc zero) h g = omega arith
once zero (suc (suc zero)) h g = omega arith
once (suc zero) zero h g = omega arith
once (suc zero) (suc zero) h g = omega arith
once (suc zero) (suc (suc zero)) h g = omega arith
once (suc (suc zero)) zero h g = omega arith
once (suc (suc zero)) (suc zero) h g = omega arith
once (suc (suc zero)) (suc (suc zero)) h g = omega arith
once (suc (suc (suc m))) n h g = absurd (omega (arith, h))
once zero (suc (suc (suc n))) h g = absurd (omega (arith, g))
once (suc zero) (suc (suc (suc n))) h g = absurd (omega (arith, g))
once (suc (suc zero)) (suc (suc (suc n))) h g = absurd (omega (arith, g))

pub wired : IsWired routers_in_a_row
wired = record {
  network = record { few_nodes = omega arith; few_links = omega arith; links = links };
  few_links = omega arith;
  joins = joins;
  differ = differ;
  once = once;
  spelled = spelled;
}
