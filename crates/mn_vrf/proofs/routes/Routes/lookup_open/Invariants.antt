use Rattle.std.proofs.Common.{◌≡◌, ◌<◌, ◌≤◌, ◌+◌, ℕ, None}
use Rattle.mn_vrf.proofs.Opening.{first_of_length, AllFormed}
use Rattle.mn_vrf.proofs.routes.Routes.lookup_open.Given as goal

-- the lengths so far have no open route for the address
abbrev pub invariant-loop-shorter : goal.invariant-loop-shorter
invariant-loop-shorter l = record {
  none : (n : ℕ) → 32 < n + l.shorter → n ≤ 32 → first_of_length l.ways l.address l.self n ≡ None;
  formed : 0 < l.shorter → AllFormed l.self;
}
