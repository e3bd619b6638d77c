use Rattle.mn_reflect_world_laws.proofs.Held.{found_lookup, found_held}
use Rattle.mn_reflect_world_laws.proofs.laws.each_vrf_finds_what_is_reflected.Goals as goal

pub returns : goal.returns
returns c t reflectors steps now v run stands there = record {
  lookup = found_lookup t reflectors steps now run stands v there;
  held = found_held t reflectors steps now run stands v there;
}
