-- At the start a site may be detached, and then attached anew.
use Rattle.std.proofs.Common.{ℕ, ◌<◌, length, refl, arith, []}
use Rattle.std.specs.List.{Contains}
use Rattle.mn_base.specs.declared.numbers.SiteNo.{SiteNo}
use Rattle.mn_base.proofs.Bools.{less_is, same_test}
use Rattle.mn_topo.specs.Network.{Network}
use Rattle.mn_topo.specs.Lawful.{IsLawful}
use Rattle.mn_topo.specs.declared.steps.Step.TheVariants as step
use Rattle.mn_ledger.specs.World.{Message}
use Rattle.mn_ledger.specs.Transport.{sessions_after}
use Rattle.mn_ledger.specs.Ledger.{world_of, start, no_packets}
use Rattle.mn_ledger.proofs.InTurn.{begins, goes_step}
use Rattle.mn_ledger.proofs.Turning.{loopbacks_apart}
use Rattle.mn_ledger_laws.specs.Named.{NamesANode}
use Rattle.mn_timetable_laws.specs.Steps.{pushed}
use Rattle.mn_transport_laws.specs.Steps.{IsTurn}

nothing_said : (t : Network) (message : Message) → Contains [] message → NamesANode t message
nothing_said t message c = absurd (no c.1)
  where
    no : c.0 < 0 → ⊥
    no h = omega (arith, h)

pub may-be-detached : (t : Network) (s : SiteNo) → s.0 < length t.sites → IsTurn t (world_of t []) (step.Detach s)
may-be-detached t s there = record {
  fitting = less_is s.0 (length t.sites) there;
  changes = refl;
  there = refl;
  turn = begins t;
  named = λ l end message c. nothing_said t message c;
  few = λ l end. omega arith;
}

pub may-be-attached : (t : Network) → IsLawful t →
    (tick : ℕ) (s : SiteNo) → s.0 < length t.sites → IsTurn t (world_of t (pushed [] tick (step.Detach s))) (step.Attach s)
unfolding sessions_after
may-be-attached t lawful tick s there = record {
  fitting = less_is s.0 (length t.sites) there;
  changes = let one = same_test s.0 in rw one refl;
  there = refl;
  turn = goes_step t (loopbacks_apart t lawful) lawful.joins_nodes lawful.ends_differ (start t) no_packets (step.Detach s)
      (less_is s.0 (length t.sites) there) refl (begins t);
  named = λ l end message c. nothing_said t message c;
  few = λ l end. omega arith;
}
