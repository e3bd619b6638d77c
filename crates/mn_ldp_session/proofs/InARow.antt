-- Three routers in a row: their loopbacks can be told apart, and a message's bytes.
use Rattle.std.proofs.Common.{ℕ, zero, suc, ◌≡◌, ◌≢◌, ◌<◌, ◌^◌, refl, arith}
use Rattle.mn_ldp_wire.specs.Grammar.{framed, prefix_element, written_message, written}
use Rattle.mn_node.specs.Ldp.{Mapping}
use Rattle.mn_node.specs.Machine.{loopback_of}
use Rattle.mn_ldp_session.specs.Spelling.{AreSpelled, pdu_in_network}
use Rattle.mn_ldp_session.specs.Routers.{implicit_null, routers_in_a_row, own_mapping}

fit : (node : ℕ) → node < 3 → loopback_of routers_in_a_row node < 2 ^ 32
fit zero h = omega arith
fit (suc zero) h = omega arith
fit (suc (suc zero)) h = omega arith
fit (suc (suc (suc node))) h = absurd (omega (arith, h))

distinct : (one other : ℕ) → one < 3 → other < 3 → one ≢ other → loopback_of routers_in_a_row one ≢ loopback_of routers_in_a_row other
distinct zero zero h g d e = d refl
distinct zero (suc zero) h g d e = omega (arith, e)
distinct zero (suc (suc zero)) h g d e = omega (arith, e)
distinct zero (suc (suc (suc k))) h g d e = absurd (omega (arith, g))
distinct (suc zero) zero h g d e = omega (arith, e)
distinct (suc zero) (suc zero) h g d e = d refl
distinct (suc zero) (suc (suc zero)) h g d e = omega (arith, e)
distinct (suc zero) (suc (suc (suc k))) h g d e = absurd (omega (arith, g))
distinct (suc (suc zero)) zero h g d e = omega (arith, e)
distinct (suc (suc zero)) (suc zero) h g d e = omega (arith, e)
distinct (suc (suc zero)) (suc (suc zero)) h g d e = d refl
distinct (suc (suc zero)) (suc (suc (suc k))) h g d e = absurd (omega (arith, g))
distinct (suc (suc (suc k))) other h g d e = absurd (omega (arith, h))

pub spelled : AreSpelled routers_in_a_row
spelled = record { few = omega arith; fit = fit; distinct = distinct }

pub worked : pdu_in_network routers_in_a_row 0 1 implicit_null implicit_null 4 (Mapping 1) ≡ own_mapping
unfolding framed prefix_element written_message written
worked = refl
