use Rattle.mn_reflect_world_laws.proofs.Held.{rest_lookup, rest_held}
use Rattle.mn_reflect_world_laws.proofs.laws.where_none_flies_each_vrf_finds_as_in_a_full_mesh.Goals as goal

pub returns : goal.returns
returns c t reflectors steps now v run stands there quiet joined = record {
  lookup = rest_lookup t reflectors steps now run stands v there quiet joined;
  held = rest_held t reflectors steps now run stands v there quiet joined;
}
