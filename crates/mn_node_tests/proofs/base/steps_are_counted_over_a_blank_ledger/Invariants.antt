use Rattle.mn_node_tests.proofs.base.steps_are_counted_over_a_blank_ledger.Given as goal

abbrev pub ghosts-two_steps : goal.ghosts-two_steps
ghosts-two_steps a = record { name = a.blank.name; parts = a.blank.parts }
