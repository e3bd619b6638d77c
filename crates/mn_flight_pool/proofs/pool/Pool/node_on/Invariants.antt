use Rattle.mn_flight_pool.proofs.pool.Pool.node_on.Given as goal

abbrev pub ghosts-walk_over : goal.ghosts-walk_over
ghosts-walk_over g a = record { name = a.blank.name; parts = a.blank.parts }
