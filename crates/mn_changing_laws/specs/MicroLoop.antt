-- A network with a micro-loop, and the same with another cost and none.
--
--     site a --- pe1 --10-- x --10-- pe2 --- site b
--                           |         |
--                           10      50, 15
--                           |         |
--                           +--- y ---+
--
-- Where the link from x to pe2 goes down, x turns to y. At cost 50 y still sends to x until it has learned of that; at 15 it never did.
use Rattle.std.specs.Prelude.{◌≡◌, ◌==◌, ℕ, Bool, true, false, [], ◌∷◌}
use Rattle.mn_wiring.specs.Wiring.{View}
use Rattle.mn_topo.specs.Network.{Network, wiring_of}
use Rattle.mn_ledger.proofs.TwoLinks.{two_links, a_link, a_vrf}
use Rattle.mn_changing_laws.specs.BothNext.{both_next, next_where, GoesBy, HasNoLoop}

-- pe1 is node 0, x 1, y 2 and pe2 3; the last link is that of y and pe2
abbrev pub micro_loop : ℕ → Network
micro_loop cost = record two_links {
  node_names = (112 ∷ 101 ∷ 49 ∷ []) ∷ (120 ∷ []) ∷ (121 ∷ []) ∷ (112 ∷ 101 ∷ 50 ∷ []) ∷ [];
  loopbacks = 3221225985 ∷ 3221225986 ∷ 3221225987 ∷ 3221225988 ∷ [];
  links = a_link 0 1 10 ∷ a_link 1 3 10 ∷ a_link 1 2 10 ∷ a_link 2 3 cost ∷ [];
  vrfs = a_vrf 0 279172874240001 ∷ a_vrf 3 279172874240002 ∷ [];
}

-- all links are up, and that of x and pe2 is up or down
abbrev pub with_link : Bool → View
with_link is_up = true ∷ is_up ∷ true ∷ true ∷ []

-- At cost 50 x's next hops towards pe2 are y and pe2, those of y are pe2 and x, and where just y takes the link for up they send to each other.
-- At cost 15 no set of nodes that take it for up makes a loop.
pub record OneHasALoop : Type 0 where
  pub next_of_x : both_next (wiring_of (micro_loop 50)) (with_link false) (with_link true) 3 1 ≡ 2 ∷ 3 ∷ []
  pub next_of_y : both_next (wiring_of (micro_loop 50)) (with_link false) (with_link true) 3 2 ≡ 3 ∷ 1 ∷ []
  pub loop : GoesBy (next_where (wiring_of (micro_loop 50)) (with_link false) (with_link true) (λ node. node == 2) 3) (1 ∷ 2 ∷ 1 ∷ [])
  pub none : HasNoLoop (wiring_of (micro_loop 15)) (with_link false) (with_link true) 3
