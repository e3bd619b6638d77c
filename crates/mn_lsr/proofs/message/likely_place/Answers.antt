use Rattle.std.proofs.Common.{ltb, arith, rules, sym}
use Rattle.std.proofs.lemmas.List.Sorted.{IsPartitionPoint-from_clause, IsPartitionedBy-ltb}
use Rattle.mn_lsr.proofs.Likely.{counted_to}
use Rattle.mn_lsr.proofs.message.likely_place.Goals as goal

pub returns-clause-place : goal.returns-clause-place
returns-clause-place c = λ rising.
    let point =
    IsPartitionPoint-from_clause (λ x. ltb x c.args.address) _ _ c.partition_point.ensures.partitioned
    (IsPartitionedBy-ltb (λ x. x) _ c.args.address rising) (λ a r q k. search rules) in
    sym (counted_to (λ x. ltb x c.args.address) c.args.loopbacks.now c.partition_point.result c.partition_point.ensures.bound
    (λ k h. point.0 k 0 (omega arith) h) (λ k from h. point.1 k 0 from h))
