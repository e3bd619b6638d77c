-- What is kept has a part for each node.
use Rattle.std.specs.Prelude.{◌≡◌, ◌<◌, ℕ, [], length, slice_index_or}
use Rattle.std.specs.List.{AllByRecursion}
use Rattle.std.specs.BTreeMap.{BTreeMap}
use Rattle.mn_base.specs.declared.numbers.VrfNo.{VrfNo}
use Rattle.mn_reflect_world_laws.specs.Now.{ReflectNow}
use Rattle.mn_reflect_telling.specs.Found.{FindsEach}

pub record IsShaped (now : ReflectNow) : Type 0 where
  pub edges : length now.edges ≡ length now.topology.loopbacks
  pub sessions : length now.sessions ≡ length now.topology.loopbacks
  pub ends : (node : ℕ) → node < length now.topology.loopbacks → length (slice_index_or now.sessions node []) ≡ length now.topology.loopbacks
  pub heard : length now.heard ≡ length now.topology.loopbacks
  pub peers : (node : ℕ) → node < length now.topology.loopbacks → length (slice_index_or now.heard node []) ≡ length now.topology.loopbacks
  pub attachments : length now.attachments ≡ length now.topology.loopbacks
  pub nodes : now.mail.nodes ≡ length now.topology.loopbacks
  pub reflectors : AllByRecursion (λ reflector. reflector < length now.topology.loopbacks) now.reflectors

-- and VRFs are found by their distinguishers
pub record IsWhole (vrfs : BTreeMap ℕ VrfNo) (now : ReflectNow) : Type 0 where
  pub shape : IsShaped now
  pub finds : FindsEach now.topology vrfs
