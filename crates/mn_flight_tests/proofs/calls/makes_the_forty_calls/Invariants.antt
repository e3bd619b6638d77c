use Rattle.std.proofs.Common.{◌≡◌, ◌<◌}
use Rattle.std.specs.List.{All}
use Rattle.mn_flight_tests.proofs.calls.makes_the_forty_calls.Given as goal

abbrev pub invariant-loop-call : goal.invariant-loop-call
invariant-loop-call g l = record {
  channels : g.F.Flight.channels l.flight ≡ 3;
  number : All (λ earlier. earlier.number < l.number) (g.F.Flight.items l.flight);
  row : l.number ≡ l.call-index;
}
