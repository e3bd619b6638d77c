use Rattle.std.proofs.Common.{sym, ◌∙◌, arith}
use Rattle.mn_spf_inc.specs.Mending.{state_of}
use Rattle.mn_spf_inc.proofs.Places.{forgotten_since, better_since, best_still}
use Rattle.mn_spf_inc.proofs.mend.Mend.take.Goals as goal

pub known-requires : goal.known-requires
known-requires g c = omega (arith, c.requires.there, c.requires.growing.one_each.dists)

pub follow-requires-clause-growing : goal.follow-requires-clause-growing
follow-requires-clause-growing g c =
    (best_still c.args.net.now c.args.root.0 (state_of c.args.self.now) c.args.way c.requires.there c.requires.growing c.in-Some.known
    (sym c.in-Some.ensures)).0

pub follow-requires-clause-known : goal.follow-requires-clause-known
follow-requires-clause-known g c =
    (best_still c.args.net.now c.args.root.0 (state_of c.args.self.now) c.args.way c.requires.there c.requires.growing c.in-Some.known
    (sym c.in-Some.ensures)).1

pub returns-then-beats-clause-growing : goal.returns-then-beats-clause-growing
returns-then-beats-clause-growing g c =
    better_since c.args.net.now c.args.root.0 (state_of c.args.self.now) c.args.way c.requires.there c.requires.growing c.in-Some.known
    (sym c.in-Some.ensures) (sym c.beats.ensures ∙ c.if-beats.true)

pub returns-in_default-clause-growing : goal.returns-in_default-clause-growing
returns-in_default-clause-growing g c =
    forgotten_since c.args.net.now c.args.root.0 (state_of c.args.self.now) c.args.way c.requires.there c.requires.growing (sym c.in_default.ensures)
