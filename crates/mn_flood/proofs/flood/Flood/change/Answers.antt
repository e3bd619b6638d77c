use Rattle.std.proofs.Common.{rules, ◌≡◌, ◌<◌, ◌≤◌, ◌+◌, length}
use Rattle.mn_flood_laws.specs.Flood.{changed}
use Rattle.mn_flood.proofs.Sounds.{sound_changed}
use Rattle.mn_flood.proofs.flood.Flood.change.Goals as goal

pub invariant_of-self-2 : goal.invariant_of-self-2
invariant_of-self-2 c works =
    let before = c.self.inside.world in
    let few : c.self.inside.done ≤ 4000000 = search rules in
    let within : c.args.link.0 < length before.wiring.ends = search rules in
    let world : c.change.new.self.world ≡ changed before.wiring before.world c.args.link.0 c.args.up = search rules in
    let made : c.change.new.self.made ≤ before.made + 2560 = search rules in
    sound_changed before.wiring before.world c.self.inside.done before.made c.laws.ensures.wired (c.self.invariant c.if-self.false) few c.args.link.0 within
    c.args.up
    c.change.new.self.wiring c.change.new.self.world c.change.new.self.made c.change.ensures.wiring world made
