-- What leaves two joined networks: of the deliveries of each, those at sites that aren't joined.
use Rattle.std.specs.Prelude.{◌≡◌, ℕ, ◌+◌, Bool, true, false, List, [], ◌∷◌, ◌++◌, filter, Option, Some, None}
use Rattle.mn_ledger.specs.declared.verdict.Verdict.{Verdict}
use Rattle.mn_ledger.specs.Ledger.{packets_of}
use Rattle.mn_ledger_laws.specs.Deliveries.{Delivery, deliveries_of}
use Rattle.mn_join_laws.specs.declared.leg.Which.{Which}
use Rattle.mn_join_laws.specs.declared.leg.Which.TheVariants.{First, Second}
use Rattle.mn_join_laws.specs.Pairing.{Pairing, network, partner, Side, Both, side, Landing, landed_as}
use Rattle.mn_join_laws.specs.Course.{Exit}

-- 1. What came out of one network

abbrev pub is_same : Which → Which → Bool
is_same First First = true
is_same Second Second = true
is_same one other = false

-- in the order in which it did
abbrev pub exits_in : Which → List Exit → List Exit
exits_in which exits = filter (λ exit. is_same which exit.which) exits

-- 2. What a network delivered at sites that aren't joined

-- what is delivered at a site comes out, unless the site is joined to one of the other network
abbrev pub exit_by : Which → ℕ → Landing → Option ℕ → List Exit
exit_by which tick landing None = record { which = which; site = landing.site; tick = tick; bytes = landing.bytes } ∷ []
exit_by which tick landing (Some other) = []

abbrev pub exit_of : Pairing → Which → ℕ → Option Landing → List Exit
exit_of pairing which tick None = []
exit_of pairing which tick (Some landing) = exit_by which tick landing (partner pairing which landing.site)

-- of the deliveries from this copy's number on, each at the site of the packet that was delivered as that copy
abbrev pub leaving_from : Pairing → Which → List Verdict → ℕ → List Delivery → List Exit
leaving_from pairing which verdicts copy [] = []
leaving_from pairing which verdicts copy (delivery ∷ deliveries) =
    exit_of pairing which delivery.tick (landed_as copy delivery.bytes 0 verdicts) ++ leaving_from pairing which verdicts (copy + 1) deliveries

abbrev pub leaving_of : Pairing → Which → Side → List Exit
leaving_of pairing which now =
    leaving_from pairing which (packets_of (network pairing which) now.past.entries now.inputs).verdicts 1
    (deliveries_of (network pairing which) now.past.entries now.inputs)

abbrev pub leaving : Pairing → Both → Which → List Exit
leaving pairing both which = leaving_of pairing which (side both which)

-- what came out of each network are its deliveries at sites that aren't joined, each once, in the order of its steps
abbrev pub ComeOut : Pairing → Both → List Exit → Type 0
ComeOut pairing both exits = (which : Which) → exits_in which exits ≡ leaving pairing both which
