-- The ledger's words that most clauses cite, and those that it is told in, passed on from one place. Declares nothing.
pub use Rattle.mn_ipv4.specs.Check.{head_of}
pub use Rattle.mn_ipv4.specs.Header.{aged, destination_of, good, total_length, ttl_of}
pub use Rattle.mn_base.specs.Limits.{most_labels, most_script_lines, most_steps, most_targets}
pub use Rattle.mn_base.specs.declared.numbers.NodeNo.{NodeNo}
pub use Rattle.mn_base.specs.declared.numbers.SiteNo.{SiteNo}
pub use Rattle.mn_wiring.specs.Paths.{IsLeast, dist_in, dists_to, next}
pub use Rattle.mn_wiring.specs.Wiring.{View, Wiring, is_end, links_at, links_of, nodes_of, receiver, sender}
pub use Rattle.mn_wiring.specs.declared.links.Dir.{Dir}
pub use Rattle.mn_wiring.specs.declared.links.Dir.TheVariants.{Back, Forth}
pub use Rattle.mn_prefix.specs.Table.{first_of, longest_match}
pub use Rattle.mn_node.specs.Machine.{Closes, Event, Learns, Opens, fresh_node}
pub use Rattle.mn_node.specs.Node.{Node}
pub use Rattle.mn_topo.specs.Lawful.{IsLawful}
pub use Rattle.mn_topo.specs.Links.{are_joined}
pub use Rattle.mn_topo.specs.Network.{Leads, Network, wiring_of}
pub use Rattle.mn_topo.specs.Steps.{fits}
pub use Rattle.mn_topo.specs.VrfTable.{is_edge}
pub use Rattle.mn_topo.specs.declared.steps.Damaged.{Damaged}
pub use Rattle.mn_topo.specs.declared.steps.JournalEntry.{JournalEntry}
pub use Rattle.mn_topo.specs.declared.steps.Step.{Step}
pub use Rattle.mn_topo.specs.declared.steps.Step.TheVariants.{Inject}
pub use Rattle.mn_ledger.specs.Best.{NamesTheBest}
pub use Rattle.mn_ledger.specs.Bgp.{bgp_state_of}
pub use Rattle.mn_ledger.specs.Bounds.{IsBounded}
pub use Rattle.mn_ledger.specs.Eligible.{IsFairChoice, eligible, is_resolved}
pub use Rattle.mn_ledger.specs.Entry.{header_rule, is_unicast}
pub use Rattle.mn_ledger.specs.Heads.{best_for, held_at}
pub use Rattle.mn_ledger.specs.Held.{Far, HeldRoute, best, held}
pub use Rattle.mn_ledger.specs.InFlight.{IsInFlight, is_in_order}
pub use Rattle.mn_ledger.specs.Items.{Channel, Frames, flight_of, items_on, loads_on, made_by}
pub use Rattle.mn_ledger.specs.Lawful.{GoesForward, IsLawfulJournal}
pub use Rattle.mn_ledger.specs.Ldp.{Knowledge}
pub use Rattle.mn_ledger.specs.Ledger.{config_after, first_config, injects, next_of, no_packets, packets_of, start, world_of}
pub use Rattle.mn_ledger.specs.Nearer.{IsNearer}
pub use Rattle.mn_ledger.specs.OneKind.{TellsOneKind}
pub use Rattle.mn_ledger.specs.OneMore.{GoesOnByOneStep, tick_from, with_packet}
pub use Rattle.mn_ledger.specs.Packets.{Packets, Token, arrive, bound, channel, cut, flying_on, hop_on, packets_after}
pub use Rattle.mn_ledger.specs.Parts.{IsByLastSteps, KeepsOtherParts, is_moving}
pub use Rattle.mn_ledger.specs.Places.{edge_of, edges, home_of, loopback, sites_at, vrf_at}
pub use Rattle.mn_ledger.specs.Quiet.{known_after, said_by}
pub use Rattle.mn_ledger.specs.Refusal.{agree, bytes_flying, is_empty, is_unchanged, refusal, refusal_at, takes_out}
pub use Rattle.mn_ledger.specs.Settled.{IsSettled, IsSteady, route}
pub use Rattle.mn_ledger.specs.Tidy.{IsTidy}
pub use Rattle.mn_ledger.specs.Time.{expire, expire_on, ticks_in}
pub use Rattle.mn_ledger.specs.Transport.{known, offers, view_of}
pub use Rattle.mn_ledger.specs.Turns.{HasRows, IsInTurn}
pub use Rattle.mn_ledger.specs.Verdicts.{AreInOnePlace, injections, verdict_on}
pub use Rattle.mn_ledger.specs.World.{Config, Export, Peerings, Telling, World}
