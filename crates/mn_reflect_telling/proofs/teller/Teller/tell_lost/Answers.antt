use Rattle.std.proofs.Common.{sym, subst}
use Rattle.mn_reflect_telling.specs.Names.{key_in}
use Rattle.mn_reflect_telling.specs.Mentions.{Shows}
use Rattle.mn_reflect_telling.specs.Passing.{IfPassable}
use Rattle.mn_reflect_telling.proofs.Kept.{found_passes}
use Rattle.mn_reflect_telling.proofs.teller.Teller.tell_lost.Goals as goal

pub tell-requires-clause-before : goal.tell-requires-clause-before
tell-requires-clause-before c =
    let t = c.args.self.now.topology.now in
    record {
      vrf = c.requires.name;
      nodes = c.requires.heard.nodes;
      each = c.requires.heard.each;
      said = subst (IfPassable t) (sym c.get.ensures) (found_passes t c.args.name.vrf.0 c.args.name.prefix c.args.gone.now c.requires.gone);
    }

pub returns-clause-told : goal.returns-clause-told
returns-clause-told c = λ was row before after.
    c.tell.ensures.told was row (subst (λ mention. Shows c.args.heard.now (key_in c.args.name) c.args.peer.0 mention was) (sym c.get.ensures) before) after
