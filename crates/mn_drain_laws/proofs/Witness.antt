-- A drain of the network of two links: 36 steps, whose bound is 1678.
use Rattle.std.proofs.Common.{rules, ◌≡◌, [], refl}
use Rattle.mn_ledger.specs.Ledger.{world_of}
use Rattle.mn_ledger.specs.Lawful.{IsLawfulJournal}
use Rattle.mn_ledger.proofs.TwoLinks.{two_links, settled_world, the_world_is_settled, the_topology_is_lawful}
use Rattle.mn_drain_laws.specs.Drain.{AllLearned, IsDrain, IsDrained, IsSwitchedOn, after_steps, drain_bound}
use Rattle.mn_drain_laws.specs.Draining.{beginning, drains, TwoLinksDrain}
use Rattle.mn_drain_laws.proofs.Drained.{settled_is_drained}
use Rattle.mn_ledger.proofs.Running.{a_run}

the_start_is_lawful : IsLawfulJournal two_links beginning []
unfolding a_run
the_start_is_lawful = search rules

-- notices 6, messages 4, links 2, nodes 3, directions 2, exports 2
the_bound_is_1678 : drain_bound two_links (world_of two_links beginning) ≡ 1678
unfolding a_run
the_bound_is_1678 = refl

all_learned : AllLearned two_links settled_world.views
unfolding a_run
all_learned node l h g = the_world_is_settled.learned node l h g

it_is_a_drain : IsDrain two_links (world_of two_links beginning) drains
unfolding a_run
it_is_a_drain = (
  record { fitting = refl; there = refl; in_turn = tt },
  (
    record { fitting = refl; there = refl; in_turn = tt },
    (
      record { fitting = refl; there = refl; in_turn = tt },
      (
        record { fitting = refl; there = refl; in_turn = tt },
        (
          record { fitting = refl; there = refl; in_turn = tt },
          (
            record { fitting = refl; there = refl; in_turn = tt },
            (
              record { fitting = refl; there = refl; in_turn = all_learned },
              (
                record { fitting = refl; there = refl; in_turn = all_learned },
                (
                  record { fitting = refl; there = refl; in_turn = all_learned },
                  (
                    record { fitting = refl; there = refl; in_turn = all_learned },
                    (
                      record { fitting = refl; there = refl; in_turn = all_learned },
                      (
                        record { fitting = refl; there = refl; in_turn = all_learned },
                        (
                          record { fitting = refl; there = refl; in_turn = all_learned },
                          (
                            record { fitting = refl; there = refl; in_turn = all_learned },
                            (
                              record { fitting = refl; there = refl; in_turn = all_learned },
                              (
                                record { fitting = refl; there = refl; in_turn = all_learned },
                                (
                                  record { fitting = refl; there = refl; in_turn = all_learned },
                                  (
                                    record { fitting = refl; there = refl; in_turn = all_learned },
                                    (
                                      record { fitting = refl; there = refl; in_turn = all_learned },
                                      (
                                        record { fitting = refl; there = refl; in_turn = all_learned },
                                        (
                                          record { fitting = refl; there = refl; in_turn = all_learned },
                                          (
                                            record { fitting = refl; there = refl; in_turn = all_learned },
                                            (
                                              record { fitting = refl; there = refl; in_turn = all_learned },
                                              (
                                                record { fitting = refl; there = refl; in_turn = all_learned },
                                                (
                                                  record { fitting = refl; there = refl; in_turn = all_learned },
                                                  (
                                                    record { fitting = refl; there = refl; in_turn = all_learned },
                                                    (
                                                      record { fitting = refl; there = refl; in_turn = all_learned },
                                                      (
                                                        record { fitting = refl; there = refl; in_turn = all_learned },
                                                        (
                                                          record { fitting = refl; there = refl; in_turn = all_learned },
                                                          (
                                                            record { fitting = refl; there = refl; in_turn = all_learned },
                                                            (
                                                              record { fitting = refl; there = refl; in_turn = all_learned },
                                                              (
                                                                record { fitting = refl; there = refl; in_turn = all_learned },
                                                                (
                                                                  record { fitting = refl; there = refl; in_turn = all_learned },
                                                                  (
                                                                    record { fitting = refl; there = refl; in_turn = all_learned },
                                                                    (
                                                                      record { fitting = refl; there = refl; in_turn = all_learned },
                                                                      (
                                                                        record { fitting = refl; there = refl; in_turn = all_learned },
                                                                        tt,
                                                                      ),
                                                                    ),
                                                                  ),
                                                                ),
                                                              ),
                                                            ),
                                                          ),
                                                        ),
                                                      ),
                                                    ),
                                                  ),
                                                ),
                                              ),
                                            ),
                                          ),
                                        ),
                                      ),
                                    ),
                                  ),
                                ),
                              ),
                            ),
                          ),
                        ),
                      ),
                    ),
                  ),
                ),
              ),
            ),
          ),
        ),
      ),
    ),
  ),
)

it_settles : after_steps two_links (world_of two_links beginning) drains ≡ settled_world
it_settles = refl

nothing_is_left : IsDrained two_links (after_steps two_links (world_of two_links beginning) drains)
nothing_is_left = settled_is_drained two_links settled_world the_topology_is_lawful the_world_is_settled

all_is_on : IsSwitchedOn two_links (world_of two_links beginning).config
all_is_on = record { switched = the_world_is_settled.switched; peered = the_world_is_settled.peered }

pub they_drain : TwoLinksDrain
they_drain = record {
  lawful = the_topology_is_lawful;
  journal = the_start_is_lawful;
  drain = it_is_a_drain;
  drained = nothing_is_left;
  switched = all_is_on;
  takes = refl;
  may_take = the_bound_is_1678;
}
