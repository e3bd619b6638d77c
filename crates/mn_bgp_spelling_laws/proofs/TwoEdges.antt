-- What the laws ask is met, and the messages are computed.
use Rattle.std.proofs.Common.{rules, refl, arith}
use Rattle.mn_ledger.specs.Lawful.{IsLawfulJournal}
use Rattle.mn_vpn_nlri.specs.Grammar.{nlri_of}
use Rattle.std.specs.Prelude.{[]}
use Rattle.mn_ledger.proofs.InTurn.{in_turn}
use Rattle.mn_ledger.proofs.TwoLinks.{two_links, the_topology_is_lawful}
use Rattle.mn_bgp_spelling_laws.specs.TwoEdges.{TwoEdgesTalk, opening}
use Rattle.mn_ledger.proofs.Running.{a_run}

opens : IsLawfulJournal two_links opening []
unfolding a_run
opens = search rules

pub they_talk : TwoEdgesTalk
unfolding a_run nlri_of
they_talk = record {
  lawful = the_topology_is_lawful;
  journal = opens;
  turn = in_turn two_links opening [] the_topology_is_lawful opens;
  coming = record { differ = λ e. omega (arith, e); lives = refl; there = omega arith };
  labels = λ site attachment. omega arith;
  told = refl;
}
