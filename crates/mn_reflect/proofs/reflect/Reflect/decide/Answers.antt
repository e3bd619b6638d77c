use Rattle.std.proofs.Common.{◌≡◌, ◌∙◌, ap, sym}
use Rattle.std.specs.Prelude.{slice_index_or}
use Rattle.mn_ledger.specs.Places.{edge_of}
use Rattle.mn_reflect_world_laws.specs.Now.{ReflectNow}
use Rattle.mn_reflect_telling.specs.Names.{named}
use Rattle.mn_reflect_telling.proofs.Results.{on_ok}
use Rattle.mn_reflect.proofs.Turns.{stays_home, takes_it}
use Rattle.mn_reflect.proofs.reflect.Reflect.decide.Goals as goal

pub tell_edge-requires-clause-there : goal.tell_edge-requires-clause-there
tell_edge-requires-clause-there c = c.requires.may.edge c.requires.isnt

pub tell_edge-requires-clause-address : goal.tell_edge-requires-clause-address
tell_edge-requires-clause-address c = ap (λ addresses. slice_index_or addresses c.edge_of-home.result.0 0) (sym (c.requires.may.addresses c.requires.isnt))

pub returns-then-home-edge : goal.returns-then-home-edge
returns-then-home-edge c =
    let at : c.edge_of-home.result.0 ≡ edge_of c.args.self.now.topology c.args.vrf.0 =
    c.edge_of-home.ensures.edge ∙ ap (λ (x : ReflectNow). edge_of x.topology c.args.vrf.0) c.self.view_is in
    stays_home c.args.self.now c.args.edge.0 (named c.args.vrf c.args.prefix) (sym at ∙ c.if-home-edge.true) (c.requires.may.edge c.requires.isnt)

pub returns : goal.returns
returns c =
    let at : c.edge_of-home.result.0 ≡ edge_of c.args.self.now.topology c.args.vrf.0 =
    c.edge_of-home.ensures.edge ∙ ap (λ (x : ReflectNow). edge_of x.topology c.args.vrf.0) c.self.view_is in
    on_ok c.tell_edge.result (λ told.
    takes_it c.args.self.now c.args.edge.0 (named c.args.vrf c.args.prefix) (λ same. c.if-home-edge.false (at ∙ same))
    c.tell_edge.new.self c.edge_of-home.result.0 c.in_ok-update.update at c.in_ok-update.ensures.says told) c.tell_edge.ensures
