use Rattle.mn_reflect.proofs.Looking.{holds_after, some_edge}
use Rattle.mn_reflect.proofs.reflect.Reflect.held_after.Goals as goal

pub returns-in-Some : goal.returns-in-Some
returns-in-Some c = record {
  told = λ t rs steps place is at_last.
      holds_after t rs steps c.args.self.now is c.args.vrf.0 c.requires c.in-Some.pe.now c.in-Some.ensures c.args.last c.held_after.result c.held_after.ensures
      place
      at_last;
}

pub returns-in-None : goal.returns-in-None
returns-in-None c = record {
  told = λ t rs steps place is at_last. absurd (some_edge t rs steps c.args.self.now is c.args.vrf.0 c.requires c.in-None.ensures);
}
