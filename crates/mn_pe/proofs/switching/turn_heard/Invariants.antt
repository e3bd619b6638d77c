use Rattle.std.proofs.Common.{◌≡◌, ◌-◌, length}
use Rattle.std.specs.List.{range_with_len}
use Rattle.mn_pe.specs.Switched.{after_all}
use Rattle.mn_pe.proofs.switching.turn_heard.Given as goal

-- the peers to come end it
abbrev pub invariant-loop-at : goal.invariant-loop-at
invariant-loop-at l = after_all l.on l.target l.loopbacks l.heard l.imports l.held
    (range_with_len l.at (length l.heard - l.at)) ≡ after_all l.on l.target l.loopbacks l.heard l.imports l.fn.held (range_with_len 0 (length l.heard))
