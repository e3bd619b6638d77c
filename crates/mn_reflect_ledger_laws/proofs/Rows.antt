-- Reflection, tried on two edges with one reflector and with two.
use Rattle.std.proofs.Common.{refl}
use Rattle.mn_reflect_ledger_laws.specs.TwoEdges.{AreReflectedTo}
use Rattle.mn_reflect_ledger_laws.specs.TwoReflectors.{AreThroughTwo}

pub are_reflected : AreReflectedTo
are_reflected = record { four = refl; eleven_leave_one = refl; quiet = refl; heard = refl; by_pe1 = refl; by_pe2 = refl; withdrawn = refl; gone = refl }

pub are_through_two : AreThroughTwo
are_through_two = record { twenty_four_leave_one = refl; quiet = refl; by_pe2 = refl; by_pe1 = refl; withdrawn = refl; left = refl }
