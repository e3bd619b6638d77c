use Rattle.std.proofs.Common.{ℕ, ◌≡◌, ◌∙◌, List, Option, sym, subst}
use Rattle.mn_base.specs.declared.numbers.NodeNo.{NodeNo}
use Rattle.mn_base.proofs.Bools.{and_right}
use Rattle.mn_topo.specs.Network.{Network}
use Rattle.mn_topo.specs.declared.steps.JournalEntry.{JournalEntry}
use Rattle.mn_ledger.specs.Ledger.{world_of}
use Rattle.mn_frame_laws.specs.Given.{given}
use Rattle.mn_frame_laws.specs.Entries.{AreWays}
use Rattle.mn_transit.specs.Entering.{IsWayOut}
use Rattle.mn_pe.specs.Entries.{IsWayOpen}
use Rattle.mn_pe.specs.declared.entering.Entered.{Entered}
use Rattle.mn_net_laws.specs.Bound.{is_cut_off}
use Rattle.mn_net_laws.proofs.Moves.{room_at, way_open, bound_below, room_among}
use Rattle.mn_net.proofs.entry.enter.Goals as goal

-- the way out at the site's home
way_at_home : (t : Network) (journal : List JournalEntry) (node home : ℕ) (entered : Entered) (outer : Option (NodeNo × Option ℕ)) → node ≡ home
    → IsWayOut t (given t journal) (world_of t journal) node entered outer → IsWayOut t (given t journal) (world_of t journal) home entered outer
way_at_home t journal node home entered outer same way =
    subst (λ n. IsWayOut t (given t journal) (world_of t journal) n entered outer) same way

pub enter-requires-clause-stands : goal.enter-requires-clause-stands
enter-requires-clause-stands c = (c.requires.stands.0, c.requires.stands.3)

pub way_out-outer-requires-clause-edge : goal.way_out-outer-requires-clause-edge
way_out-outer-requires-clause-edge c =
    c.in_ok-entered.ensures.node c.requires.stands.0 c.requires.stands.1 c.requires.stands.2 c.requires.stands.3

pub way_out-outer-requires-clause-stands : goal.way_out-outer-requires-clause-stands
way_out-outer-requires-clause-stands c = (c.requires.stands.0, c.requires.stands.4)

-- where it isn't looked again, the way is open
pub returns-then-not-looks_again-clause-fate : goal.returns-then-not-looks_again-clause-fate
returns-then-not-looks_again-clause-fate c = λ journal inputs lawful routes transport.
    c.in_ok-entered.ensures.fate journal inputs lawful routes
    (subst (λ n. IsWayOpen c.args.topology.now (world_of c.args.topology.now journal) n c.in_ok-entered.entered) c.home_of-node.ensures.home
    (way_open c.args.topology.now (given c.args.topology.now journal) (world_of c.args.topology.now journal) c.home_of-node.result.0 c.in_ok-entered.entered
    c.way_out-outer.result (c.way_out-outer.ensures.told journal transport) (sym c.looks_again.ensures ∙ c.if-not-looks_again.true)))

pub returns-then-not-looks_again-clause-way : goal.returns-then-not-looks_again-clause-way
returns-then-not-looks_again-clause-way c = λ journal transport.
    way_at_home c.args.topology.now journal _ _ c.in_ok-entered.entered c.way_out-outer.result c.home_of-node.ensures.home
    (c.way_out-outer.ensures.told journal transport)

pub returns-then-not-looks_again-clause-room : goal.returns-then-not-looks_again-clause-room
returns-then-not-looks_again-clause-room c =
    room_at c.in_ok-entered.ensures.answer.0 c.args.site.0 c.args.packet.now c.in_ok-entered.entered c.in_ok-entered.ensures.answer.1

pub ways-ways-requires-clause-stands : goal.ways-ways-requires-clause-stands
ways-ways-requires-clause-stands c = (c.requires.stands.0, c.requires.stands.4)

pub enter_among-requires-clause-stands : goal.enter_among-requires-clause-stands
enter_among-requires-clause-stands c = (c.requires.stands.0, c.requires.stands.3)

-- it is bound to a node, since it has its fate
pub way_out-way-requires-clause-edge : goal.way_out-way-requires-clause-edge
way_out-way-requires-clause-edge c =
    let t = c.args.topology.now in
    let journal = c.requires.stands.0 in
    let resolves = and_right (is_cut_off c.in_ok-entered.entered c.way_out-outer.result) t.resolve (sym c.looks_again.ensures ∙ c.if-not-looks_again.false) in
    bound_below t (given t journal) (world_of t journal) c.args.site.0 c.args.packet.now c.in_ok-resolved.resolved
    (c.in_ok-resolved.ensures.fate resolves journal c.requires.stands.1 c.requires.stands.2 c.requires.stands.3
    (subst (λ n. AreWays t (world_of t journal) n c.ways-ways.result) c.home_of-node.ensures.home (c.ways-ways.ensures journal c.requires.stands.4)))

pub way_out-way-requires-clause-stands : goal.way_out-way-requires-clause-stands
way_out-way-requires-clause-stands c = (c.requires.stands.0, c.requires.stands.4)

pub returns-clause-fate : goal.returns-clause-fate
returns-clause-fate c = λ journal inputs lawful routes transport.
    let resolves =
    and_right (is_cut_off c.in_ok-entered.entered c.way_out-outer.result) c.args.topology.now.resolve (sym c.looks_again.ensures
    ∙ c.if-not-looks_again.false) in
    c.in_ok-resolved.ensures.fate resolves journal inputs lawful routes
    (subst (λ n. AreWays c.args.topology.now (world_of c.args.topology.now journal) n c.ways-ways.result) c.home_of-node.ensures.home
    (c.ways-ways.ensures journal transport))

pub returns-clause-way : goal.returns-clause-way
returns-clause-way c = λ journal transport.
    way_at_home c.args.topology.now journal _ _ c.in_ok-resolved.resolved c.way_out-way.result c.home_of-node.ensures.home
    (c.way_out-way.ensures.told journal transport)

pub returns-clause-room : goal.returns-clause-room
returns-clause-room c =
    room_among c.in_ok-resolved.ensures.answer.0 c.ways-ways.result c.args.site.0 c.args.packet.now c.in_ok-resolved.resolved c.in_ok-resolved.ensures.answer.1
