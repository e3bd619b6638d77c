use Rattle.std.proofs.Common.{◌∙◌}
use Rattle.std.specs.Prelude.{codes}
use Rattle.mn_journal.proofs.Spaces.{put_as, damage_is}
use Rattle.mn_journal.proofs.write.put_damaged_bgp.Goals as goal

pub returns-clause-ok : goal.returns-clause-ok
returns-clause-ok c =
    put_as c.put_pieces.result _ _ _ _
    (damage_is (codes "bgp") _ _ _ _ _ _ c.node_name.ensures c.node_name-2.ensures (c.as_bytes.ensures.value ∙ c.format.ensures.text)) c.put_pieces.ensures.ok
