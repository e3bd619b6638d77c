-- What contracts see of a network's transport.
use Rattle.std.specs.Prelude.{◌≡◌, ◌*◌, ℕ, Bool, List, length}
use Rattle.mn_flight.specs.declared.Item.{Item}
use Rattle.mn_flight.specs.Flying.{IsFlight}
use Rattle.mn_lsr.specs.Standing.{Standing}
use Rattle.mn_transport_laws.specs.declared.notice.Notice.{Notice}

pub record Carried : Type 0 where
  pub nodes : List Standing  -- by node
  pub changes : List ℕ  -- by link, how often it came up or went down
  pub switches : List Bool  -- by link, whether LDP is switched on for it
  pub labels : List ℕ  -- by site, the label of its last attachment
  pub notices : List (Item Notice)  -- in flight, in the order of their numbers
  pub messages : List (Item (List ℕ))  -- PDUs in flight, in the order of their numbers

-- two flights, with a channel for each link and node, and two for each link
pub record HasChannels (carried : Carried) (notices messages : ℕ) : Type 0 where
  pub notices_are : notices ≡ length carried.changes * length carried.nodes
  pub messages_are : messages ≡ 2 * length carried.changes
  pub notices_fly : IsFlight notices carried.notices
  pub messages_fly : IsFlight messages carried.messages
