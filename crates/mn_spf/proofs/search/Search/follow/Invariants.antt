use Rattle.std.proofs.Common.{◌≡◌}
use Rattle.mn_spf.specs.Ways.{rank_of}
use Rattle.mn_spf.specs.Search.{state_of, unsettled, IsSearch, IsFollowed, OpenFrom}
use Rattle.mn_spf.proofs.search.Search.follow.Given as goal

-- the links from this place on are still to be followed
abbrev pub invariant-loop-link : goal.invariant-loop-link
invariant-loop-link l = record {
  search : IsSearch l.view l.root.0 (OpenFrom l.way.to l.links l.link-index) (rank_of l.way) (state_of l.self);
  followed : IsFollowed l.view l.root.0 (state_of l.self) l.way;
  count : unsettled (state_of l.self) ≡ unsettled (state_of l.fn.self);
}
