-- A drain receives the advert that was sent first of all, until none flies.
use Rattle.std.specs.Prelude.{ℕ, zero, suc, ◌+◌, ◌*◌, List, [], ◌∷◌, length}
use Rattle.mn_wiring.specs.Wiring.{Wiring}
use Rattle.mn_flood_laws.specs.Flood.{FloodWorld, Sent, heard}

abbrev pub hear_first : Wiring → FloodWorld → List Sent → FloodWorld
hear_first wiring world [] = world
hear_first wiring world (sent ∷ more) = heard wiring world sent.link sent.dir

-- at most so many are received
abbrev pub drained : ℕ → Wiring → FloodWorld → FloodWorld
drained zero wiring world = world
drained (suc more) wiring world = drained more wiring (hear_first wiring world world.flying)

-- how many that is at most
abbrev pub drain_bound : Wiring → FloodWorld → ℕ
drain_bound wiring world = length world.flying * (1 + 2 * length wiring.ends)
