use Rattle.std.proofs.Common.{◌≡◌, filter, take}
use Rattle.mn_wiring.specs.Wiring.{is_up}
use Rattle.mn_flood.specs.Links.{numbers_of}
use Rattle.mn_flood.proofs.world.up_at.Given as goal

abbrev pub invariant-loop-link : goal.invariant-loop-link
invariant-loop-link l = numbers_of l.found.items ≡ filter (is_up l.up) (numbers_of (take l.link-index l.link-items))
