use Rattle.std.proofs.Common.{◌≡◌, ◌+◌, ◌≤◌, ◌++◌, length, map, drop}
use Rattle.std.specs.Prelude.{vec_len, vec_capacity}
use Rattle.std.specs.List.{flat_map}
use Rattle.mn_base.specs.declared.numbers.NodeNo.{NodeNo}
use Rattle.mn_bindings.specs.News.{begun_since}
use Rattle.mn_bindings.proofs.known.begin.Given as goal

abbrev pub invariant-loop-one : goal.invariant-loop-one
invariant-loop-one l = record {
  rest : map (λ (fec : NodeNo). fec.0) l.begun.items ++ flat_map (begun_since l.bound) (drop l.one-index l.before)
      ≡ map (λ (fec : NodeNo). fec.0) l.fn.begun.items ++ flat_map (begun_since l.bound) l.before;
  room : vec_len l.begun + length l.before ≤ vec_capacity l.begun + l.one-index;
}
