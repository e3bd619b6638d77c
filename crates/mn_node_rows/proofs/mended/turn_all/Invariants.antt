use Rattle.mn_node_rows.proofs.mended.turn_all.Given as goal

abbrev pub ghosts-turn_over : goal.ghosts-turn_over
ghosts-turn_over a = record { name = a.blank.name; parts = a.blank.parts }
