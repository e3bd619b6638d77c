use Rattle.mn_spf_inc.proofs.tree.MendTree.turn_telling.Given as goal

abbrev pub ghosts-mend_over : goal.ghosts-mend_over
ghosts-mend_over a = record { name = a.blank.name; parts = a.blank.parts }
