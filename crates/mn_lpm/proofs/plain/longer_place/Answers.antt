use Rattle.std.proofs.Common.{◌∙◌, sym, subst, arith}
use Rattle.mn_prefix.specs.Places.{IsBestPlace}
use Rattle.mn_prefix.proofs.Matches.{takes_first, takes_longer}
use Rattle.mn_lpm.proofs.plain.longer_place.Goals as goal

pub returns-in_default : goal.returns-in_default
returns-in_default g c =
    takes_first c.args.address c.args.pairs.now c.args.i c.index-pairs-i.result c.requires.there c.index-pairs-i.is
    (sym c.contains.ensures ∙ c.if-not-contains.false)
    (subst (IsBestPlace c.args.address c.args.pairs.now c.args.i) c.in_default.is c.requires.best)

pub returns-else-length : goal.returns-else-length
returns-else-length g c =
    takes_longer c.args.address c.args.pairs.now c.args.i c.in-Some.at c.index-pairs-i.result c.index-pairs-at.result c.requires.there c.index-pairs-i.is
    c.index-pairs-at.is (sym c.contains.ensures ∙ c.if-not-contains.false)
    (omega (arith, c.if-length.false, c.length.ensures.value, c.length-2.ensures.value))
    (subst (IsBestPlace c.args.address c.args.pairs.now c.args.i) c.in-Some.is c.requires.best)
