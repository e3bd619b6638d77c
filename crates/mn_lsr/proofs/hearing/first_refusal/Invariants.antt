use Rattle.std.proofs.Common.{◌≡◌, drop}
use Rattle.mn_lsr.specs.Hearing.{first_refusal}
use Rattle.mn_lsr.proofs.hearing.first_refusal.Given as goal

abbrev pub invariant-loop-message : goal.invariant-loop-message
invariant-loop-message l = first_refusal l.tried l.from (drop l.message-index l.messages) ≡ first_refusal l.fn.session l.from l.messages
