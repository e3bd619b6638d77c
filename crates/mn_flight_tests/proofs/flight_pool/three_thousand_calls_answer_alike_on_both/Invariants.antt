use Rattle.std.proofs.Common.{◌≡◌, ◌<◌}
use Rattle.std.specs.List.{All}
use Rattle.mn_flight_tests.proofs.flight_pool.three_thousand_calls_answer_alike_on_both.Given as goal

abbrev pub invariant-loop-number : goal.invariant-loop-number
invariant-loop-number g l = record {
  pool_channels : l.pool.channels ≡ 3;
  pool : All (λ earlier. earlier.number < l.number-counter) l.pool.items;
  list_channels : l.list.channels ≡ 3;
  list : All (λ earlier. earlier.number < l.number-counter) l.list.items;
}
