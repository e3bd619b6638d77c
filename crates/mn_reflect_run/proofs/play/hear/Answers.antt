use Rattle.mn_reflect_run.proofs.play.hear.Goals as goal

pub step-requires : goal.step-requires
step-requires c = record {
  may = λ works. record {
    topology = c.requires.topology;
    reflectors = c.requires.reflectors;
    steps = c.requires.steps;
    is = c.requires.is;
    takes = c.requires.takes;
    few = c.requires.few;
  };
}
