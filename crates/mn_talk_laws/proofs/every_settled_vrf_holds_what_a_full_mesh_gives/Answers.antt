use Rattle.mn_talk_laws.proofs.Whole.{every_settled}
use Rattle.mn_talk_laws.proofs.every_settled_vrf_holds_what_a_full_mesh_gives.Goals as goal

pub returns : goal.returns
returns c = λ topology reflector others steps run once there heard joined edge v route is_one.
    every_settled topology reflector others steps run once there heard joined edge v route is_one
