use Rattle.std.proofs.Common.{sym, ap, ◌∙◌}
use Rattle.std.proofs.lemmas.Bool.{and_parts}
use Rattle.mn_entry.specs.Damages.{damage_fits}
use Rattle.mn_journal.proofs.Plain.{edges_are_nodes}
use Rattle.mn_journal.proofs.write.put_damage_words.Goals as goal

pub put_damaged_bgp-requires : goal.put_damaged_bgp-requires
put_damaged_bgp-requires c =
    edges_are_nodes c.args.topology.now c.in-Bgp.from c.in-Bgp.to c.laws.ensures
    (and_parts _ _ (ap (damage_fits c.args.topology.now) (sym c.in-Bgp.is) ∙ c.requires)).0
