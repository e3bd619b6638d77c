use Rattle.std.proofs.Common.{◌≡◌, ◌≤◌, ◌++◌, map, drop, vec_len}
use Rattle.std.specs.Prelude.{is_some, vec_capacity}
use Rattle.mn_bindings.specs.Kept.{open_from}
use Rattle.mn_bindings.proofs.bindings.list_open.Given as goal

abbrev pub invariant-loop-at : goal.invariant-loop-at
invariant-loop-at l = record {
  rest : l.peers.items ++ open_from l.at (map is_some (drop l.at l.heard)) ≡ open_from 0 (map is_some l.heard);
  room : vec_capacity l.peers ≡ vec_capacity l.initial.peers;
  few : vec_len l.peers ≤ l.at;
}
