use Rattle.std.proofs.Common.{ℕ, ◌≡◌, ◌+◌, drop}
use Rattle.mn_bindings.specs.Known.{owed_for, AreFew}
use Rattle.mn_bindings.proofs.known.owe.Given as goal

abbrev pub invariant-loop-tell : goal.invariant-loop-tell
invariant-loop-tell l = record {
  rest : owed_for l.rests (drop l.tell-index l.tells) ≡ owed_for l.fn.rests l.tells;
  few : (most : ℕ) → AreFew most l.fn.rests → AreFew (most + l.tell-index) l.rests;
}
