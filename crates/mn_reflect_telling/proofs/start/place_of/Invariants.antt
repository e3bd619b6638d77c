use Rattle.std.proofs.Common.{◌≡◌}
use Rattle.mn_reflect_ledger_laws.specs.Picks.{placed_by}
use Rattle.mn_reflect_telling.specs.Mentions.{numbers_of}
use Rattle.mn_reflect_telling.proofs.Addresses.{placed_from}
use Rattle.mn_reflect_telling.proofs.start.place_of.Given as goal

abbrev pub invariant-loop-at : goal.invariant-loop-at
invariant-loop-at l = placed_from l.topology l.fn.node.0 l.at (numbers_of l.others) ≡ placed_by l.topology l.fn.node.0 (numbers_of l.others)
