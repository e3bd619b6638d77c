-- What an UPDATE says, as contracts see it.
use Rattle.std.specs.Prelude.{ℕ, List}
use Rattle.mn_base.specs.declared.numbers.Rt.{Rt}
use Rattle.mn_vpn_nlri.specs.declared.message.VpnRoute.{VpnRoute}

pub record Says : Type 0 where
  pub next_hop : ℕ  -- 0 where no route is announced
  pub reached : List VpnRoute
  pub withdrawn : List VpnRoute
  pub targets : List Rt
