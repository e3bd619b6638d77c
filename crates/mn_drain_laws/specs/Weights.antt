-- How many hearings may follow where a node begins or ceases to offer a FEC, while the next hops stay as they are.
use Rattle.std.specs.Prelude.{ℕ, zero, suc, ◌+◌, ◌*◌, ◌==◌, Bool, false, length, Option, Some, None}
use Rattle.mn_wiring.specs.Wiring.{Wiring, View, is_end}
use Rattle.mn_wiring.specs.Paths.{next}
use Rattle.mn_drain_laws.specs.Sums.{total, where_so}

-- how many links there are at a node
abbrev pub degree : Wiring → ℕ → ℕ
degree wiring node = total (length wiring.ends) (λ l. where_so (is_end wiring l node) 1)

-- the node that a hop leads to
abbrev pub to_node : Option (ℕ × ℕ) → Option ℕ
to_node None = None
to_node (Some hop) = Some hop.0

abbrev pub one_on : Wiring → View → ℕ → Option ℕ → Option ℕ
one_on wiring view fec None = None
one_on wiring view fec (Some node) = to_node (next wiring view node fec)

-- where so many next hops towards a FEC lead from a node
abbrev pub passed : Wiring → View → ℕ → ℕ → ℕ → Option ℕ
passed wiring view fec zero node = Some node
passed wiring view fec (suc more) node = one_on wiring view fec (passed wiring view fec more node)

abbrev pub is_node : Option ℕ → ℕ → Bool
is_node None node = false
is_node (Some other) node = other == node

-- the next hop is over this link
abbrev pub is_over : Option (ℕ × ℕ) → ℕ → Bool
is_over None l = false
is_over (Some hop) l = hop.1 == l

-- of a change of what a node offers: each node that sends by this one, after so many hops, may change in turn, and mention it
-- on its links; each mention is received, and answered once
abbrev pub after_hops : Wiring → View → ℕ → ℕ → ℕ → ℕ
after_hops wiring view fec node hops = total (length wiring.loopbacks) (λ x. where_so (is_node (passed wiring view fec hops x) node) (2 * degree wiring x))

abbrev pub weight : Wiring → View → ℕ → ℕ → ℕ
weight wiring view fec node = total (length wiring.loopbacks) (after_hops wiring view fec node)

-- of a mention of the FEC that the node is to receive on a link: it is received, and answered once, and where the link leads to the
-- next hop, the node may change
abbrev pub mention_weight : Wiring → View → ℕ → ℕ → ℕ → ℕ
mention_weight wiring view fec l node = 2 + where_so (is_over (next wiring view node fec) l) (weight wiring view fec node)
