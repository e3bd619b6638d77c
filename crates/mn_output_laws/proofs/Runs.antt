-- Files, tables and a report over the network of two links, computed from the definitions:
--
--     site a --- pe1 --- p --- pe2 --- site b
use Rattle.std.specs.Prelude.{◌≡◌, refl, ℕ, ◌+◌, List, [], ◌∷◌, ◌++◌, map, drop, take, codes, true, false, Some, None}
use Rattle.std.specs.Fmt.{digits}
use Rattle.mn_wiring.specs.declared.links.Dir.TheVariants.{Forth, Back}
use Rattle.mn_wiring.specs.Paths.{next}
use Rattle.mn_ipv4.specs.Header.{is_not_ipv4, is_malformed, is_truncated, has_bad_checksum, good, checksum_for, with_ttl, aged}
use Rattle.mn_text.specs.Addresses.{address_text, prefix_text}
use Rattle.mn_stack.specs.Entry.{entry_bytes}
use Rattle.mn_stack.specs.Reading.{entries_of}
use Rattle.mn_ldp_wire.specs.Grammar.{framed, prefix_element, address_list, status_value, session_parameters, written_message, written}
use Rattle.mn_vpn_nlri.specs.Grammar.{nlri_of}
use Rattle.mn_topo.specs.declared.steps.Step.{Step}
use Rattle.mn_topo.specs.declared.steps.Step.TheVariants.{LinkUp, LinkDown, Learn, LdpAdmin, HearLdp, BgpUp, BgpDown, HearBgp, Attach, Detach, Inject, Carry}
use Rattle.mn_topo.specs.declared.steps.Step.TheVariants.{Tick}
use Rattle.mn_topo.specs.declared.steps.JournalEntry.{JournalEntry}
use Rattle.mn_topo.specs.declared.steps.Damaged.TheVariants.{Undamaged}
use Rattle.mn_script.specs.declared.command.Command.{Command}
use Rattle.mn_script.specs.declared.command.Command.TheVariants.{Do, Drain, Flush, Show}
use Rattle.mn_script.specs.declared.command.Show.TheVariants.{Links, Tree, Ldp, Bgp, Vrf, Flight, Frame}
use Rattle.mn_script.specs.declared.command.Line.{Line}
use Rattle.mn_ledger.specs.Transport.{knowledge_of, news, sessions_after}
use Rattle.mn_ledger.specs.Bgp.{peerings_after}
use Rattle.mn_ledger.specs.Held.{held}
use Rattle.mn_ledger.specs.Packets.{packets_after}
use Rattle.mn_ledger.specs.Refusal.{in_flight, bytes_flying}
use Rattle.mn_ledger.proofs.TwoLinks.{node_no, link_no, site_no, vrf_no, two_links, packet, settling}
use Rattle.mn_frame_laws.specs.Labels.{labels_of as node_labels}
use Rattle.mn_frame_laws.specs.Given.{given}
use Rattle.mn_frame_laws.specs.Numbers.{labels_of}
use Rattle.mn_course_laws.specs.Course.{all}
use Rattle.mn_course_laws.specs.Expansion.{expanded}
use Rattle.mn_lines.specs.Lines.{verdict_text, path_text, sent_text, packet_line, refused_line, verdicts_text, total_line}
use Rattle.mn_output_laws.specs.Files.{OutputFile, Journal, Labels, Deliveries, Frames, Said, Told}
use Rattle.mn_output_laws.specs.Contents.{whole}
use Rattle.mn_output_laws.specs.Tables.{table_text}
use Rattle.mn_output_laws.specs.Report.{report}

abbrev pub at : ℕ → Step → JournalEntry
at tick step = record { tick = tick; step = step; damaged = Undamaged }

abbrev pub capture : List (List ℕ)
capture = packet ∷ []

-- the bytes of a file after a journal
abbrev pub file : OutputFile → List JournalEntry → List ℕ
file out entries = whole two_links capture entries out

-- a packet goes from site a to site b
abbrev pub sent : List JournalEntry
sent = settling ++ at 0 (Inject (site_no 0) 1) ∷ at 2 (Carry (link_no 0) Forth 0) ∷ at 4 (Carry (link_no 1) Forth 0) ∷ []

-- p withdraws pe2 from pe1, which releases it; then the session of the two ends, and it begins anew past the life of the links: so p
-- gives pe1 the label that pe2 had
abbrev pub again : List JournalEntry
again =
    settling
    ++ map (at 0)
    (LdpAdmin (link_no 1) false ∷ HearLdp (link_no 0) Back ∷ HearLdp (link_no 0) Forth ∷ HearLdp (link_no 0) Forth ∷ HearLdp (link_no 0) Back
    ∷ LdpAdmin (link_no 0) false ∷ Tick 2001 ∷ [])
    ++ map (at 2001)
    (LdpAdmin (link_no 0) true ∷ HearLdp (link_no 0) Back ∷ HearLdp (link_no 0) Forth ∷ HearLdp (link_no 0) Forth ∷ HearLdp (link_no 0) Back
    ∷ HearLdp (link_no 0) Back ∷ HearLdp (link_no 0) Back ∷ HearLdp (link_no 0) Forth ∷ HearLdp (link_no 0) Forth ∷ HearLdp (link_no 0) Forth
    ∷ HearLdp (link_no 0) Back ∷ [])

-- lines are numbered from 1
abbrev pub lines_from : ℕ → List Command → List Line
lines_from number [] = []
lines_from number (command ∷ commands) = record { number = number; command = command } ∷ lines_from (number + 1) commands

-- both links come up, and the edges open their session; a table is asked for; all is learned and received; a packet is sent, and arrives
abbrev pub script : List Command
script =
    Do (LinkUp (link_no 0)) ∷ Do (LinkUp (link_no 1)) ∷ Do (BgpUp (node_no 0) (node_no 2)) ∷ Show Ldp ∷ Drain None ∷ Do (Inject (site_no 0) 1)
    ∷ Flush ∷ Do (LinkUp (link_no 0)) ∷ Do (Inject (site_no 0) 2) ∷ []

-- the journal of three entries
pub the_journal_tells_each_step : file Journal (at 0 (LinkUp (link_no 1)) ∷ at 12 (BgpUp (node_no 0) (node_no 2)) ∷ at 300 (Carry (link_no 0) Back 0) ∷ [])
    ≡ codes "0 link up p pe2\n12 bgp up pe1 pe2\n300 carry p pe1 0\n"
unfolding next knowledge_of news sessions_after peerings_after held packets_after is_not_ipv4 is_malformed is_truncated has_bad_checksum good
    checksum_for with_ttl aged in_flight bytes_flying digits
the_journal_tells_each_step = refl

-- at the start an edge has given a label for its site, and no node one for another
pub labels_at_the_start : file Labels [] ≡ codes "pe1 16 site a 1\npe2 16 site b 1\n"
unfolding next knowledge_of news sessions_after peerings_after held packets_after is_not_ipv4 is_malformed is_truncated has_bad_checksum good
    checksum_for with_ttl aged in_flight bytes_flying digits given node_labels prefix_text address_text
labels_at_the_start = refl

-- each node gives them as it comes to offer others: p offers pe2 before pe1
pub labels_once_settled : file Labels settling
    ≡ codes "pe1 16 site a 1\npe1 17 fec 192.0.2.2/32\npe1 18 fec 192.0.2.3/32\np 16 fec 192.0.2.3/32\np 17 fec 192.0.2.1/32\n"
    ++ codes "pe2 16 site b 1\npe2 17 fec 192.0.2.2/32\npe2 18 fec 192.0.2.1/32\n"
unfolding next knowledge_of news sessions_after peerings_after held packets_after is_not_ipv4 is_malformed is_truncated has_bad_checksum good
    checksum_for with_ttl aged in_flight bytes_flying digits given node_labels prefix_text address_text
labels_once_settled = refl

-- a site that is attached anew has a label more
pub a_site_that_comes_back_has_one_label_more : file Labels (at 0 (Detach (site_no 0)) ∷ at 0 (Attach (site_no 0)) ∷ [])
    ≡ codes "pe1 16 site a 1\npe1 17 site a 2\npe2 16 site b 1\n"
unfolding next knowledge_of news sessions_after peerings_after held packets_after is_not_ipv4 is_malformed is_truncated has_bad_checksum good
    checksum_for with_ttl aged in_flight bytes_flying digits given node_labels prefix_text address_text
a_site_that_comes_back_has_one_label_more = refl

-- and one that is given again stands twice
pub a_label_that_is_given_again_has_two_lines : file Labels again
    ≡ codes "pe1 16 site a 1\npe1 17 fec 192.0.2.2/32\npe1 18 fec 192.0.2.3/32\npe1 17 fec 192.0.2.2/32\n"
    ++ (codes "p 16 fec 192.0.2.3/32\np 17 fec 192.0.2.1/32\np 16 fec 192.0.2.1/32\n"
    ++ codes "pe2 16 site b 1\npe2 17 fec 192.0.2.2/32\npe2 18 fec 192.0.2.1/32\n")
unfolding next knowledge_of news sessions_after peerings_after held packets_after is_not_ipv4 is_malformed is_truncated has_bad_checksum good
    checksum_for with_ttl aged in_flight bytes_flying digits given node_labels prefix_text address_text
a_label_that_is_given_again_has_two_lines = refl

-- p has mapped pe1's FEC to pe1 with 17 first and with 16 last, and each PDU stays what it was
pub a_message_keeps_the_label_of_its_moment :
    drop 192 (take 196 (file (Said 0 Back) again)) ++ drop 426 (file (Said 0 Back) again) ≡ 0 ∷ 0 ∷ 0 ∷ 17 ∷ 0 ∷ 0 ∷ 0 ∷ 16 ∷ []
unfolding next knowledge_of news sessions_after peerings_after held packets_after is_not_ipv4 is_malformed is_truncated has_bad_checksum good
    checksum_for with_ttl aged in_flight bytes_flying given node_labels framed prefix_element address_list status_value session_parameters written_message
    written
a_message_keeps_the_label_of_its_moment = refl

-- over the first link the packet goes under p's label for pe2 and pe2's label for the site, with TTL 63
pub a_frame_has_two_labels : file (Frames 0) sent ≡
    212 ∷ 195 ∷ 178 ∷ 161 ∷ 2 ∷ 0 ∷ 4 ∷ 0 ∷ 0 ∷ 0 ∷ 0 ∷ 0 ∷ 0 ∷ 0 ∷ 0 ∷ 0 ∷ 0 ∷ 0 ∷ 4 ∷ 0 ∷ 9 ∷ 0 ∷ 0 ∷ 0 ∷ 0 ∷ 0 ∷ 0 ∷ 0 ∷ 0 ∷ 0 ∷ 0 ∷ 0 ∷ 38 ∷ 0 ∷
    0 ∷ 0 ∷ 38 ∷ 0 ∷ 0 ∷ 0 ∷ 2 ∷ 129 ∷ 0 ∷ 1 ∷ 0 ∷ 63 ∷ 0 ∷ 1 ∷ 1 ∷ 63 ∷ 69 ∷ 0 ∷ 0 ∷ 28 ∷ 0 ∷ 0 ∷ 0 ∷ 0 ∷ 63 ∷ 17 ∷ 103 ∷ 205 ∷ 10 ∷ 1 ∷ 0 ∷ 1 ∷
    10 ∷ 2 ∷ 0 ∷ 1 ∷ 0 ∷ 53 ∷ 0 ∷ 53 ∷ 0 ∷ 8 ∷ 0 ∷ 0 ∷ []
unfolding next knowledge_of news sessions_after peerings_after held packets_after is_not_ipv4 is_malformed is_truncated has_bad_checksum good
    checksum_for with_ttl aged in_flight bytes_flying given node_labels digits entry_bytes
a_frame_has_two_labels = refl

-- p pops its own label: over the second link it goes under the site's alone, with TTL 62
pub a_frame_has_one_label_at_the_end : file (Frames 1) sent ≡
    212 ∷ 195 ∷ 178 ∷ 161 ∷ 2 ∷ 0 ∷ 4 ∷ 0 ∷ 0 ∷ 0 ∷ 0 ∷ 0 ∷ 0 ∷ 0 ∷ 0 ∷ 0 ∷ 0 ∷ 0 ∷ 4 ∷ 0 ∷ 9 ∷ 0 ∷ 0 ∷ 0 ∷ 0 ∷ 0 ∷ 0 ∷ 0 ∷ 208 ∷ 7 ∷ 0 ∷ 0 ∷ 34 ∷
    0 ∷ 0 ∷ 0 ∷ 34 ∷ 0 ∷ 0 ∷ 0 ∷ 2 ∷ 129 ∷ 0 ∷ 1 ∷ 1 ∷ 62 ∷ 69 ∷ 0 ∷ 0 ∷ 28 ∷ 0 ∷ 0 ∷ 0 ∷ 0 ∷ 63 ∷ 17 ∷ 103 ∷ 205 ∷ 10 ∷ 1 ∷ 0 ∷ 1 ∷ 10 ∷ 2 ∷ 0 ∷
    1 ∷ 0 ∷ 53 ∷ 0 ∷ 53 ∷ 0 ∷ 8 ∷ 0 ∷ 0 ∷ []
unfolding next knowledge_of news sessions_after peerings_after held packets_after is_not_ipv4 is_malformed is_truncated has_bad_checksum good
    checksum_for with_ttl aged in_flight bytes_flying given node_labels digits entry_bytes
a_frame_has_one_label_at_the_end = refl

-- the site gets the packet with TTL 61 and a new checksum
pub a_packet_is_delivered : file Deliveries sent ≡
    212 ∷ 195 ∷ 178 ∷ 161 ∷ 2 ∷ 0 ∷ 4 ∷ 0 ∷ 0 ∷ 0 ∷ 0 ∷ 0 ∷ 0 ∷ 0 ∷ 0 ∷ 0 ∷ 0 ∷ 0 ∷ 4 ∷ 0 ∷ 228 ∷ 0 ∷ 0 ∷ 0 ∷ 0 ∷ 0 ∷ 0 ∷ 0 ∷ 160 ∷ 15 ∷ 0 ∷ 0 ∷ 28 ∷
    0 ∷ 0 ∷ 0 ∷ 28 ∷ 0 ∷ 0 ∷ 0 ∷ 69 ∷ 0 ∷ 0 ∷ 28 ∷ 0 ∷ 0 ∷ 0 ∷ 0 ∷ 61 ∷ 17 ∷ 105 ∷ 205 ∷ 10 ∷ 1 ∷ 0 ∷ 1 ∷ 10 ∷ 2 ∷ 0 ∷ 1 ∷ 0 ∷ 53 ∷ 0 ∷ 53 ∷ 0 ∷ 8 ∷
    0 ∷ 0 ∷ []
unfolding next knowledge_of news sessions_after peerings_after held packets_after is_not_ipv4 is_malformed is_truncated has_bad_checksum good
    checksum_for with_ttl aged in_flight bytes_flying given node_labels digits
a_packet_is_delivered = refl

-- p says to pe1: Initialization, KeepAlive, Address, and Mappings of its own FEC with implicit null, of pe2 and of pe1
pub the_middle_says_196_bytes : file (Said 0 Back) settling ≡
    0 ∷ 1 ∷ 0 ∷ 32 ∷ 192 ∷ 0 ∷ 2 ∷ 2 ∷ 0 ∷ 0 ∷ 2 ∷ 0 ∷ 0 ∷ 22 ∷ 0 ∷ 0 ∷ 0 ∷ 1 ∷ 5 ∷ 0 ∷ 0 ∷ 14 ∷ 0 ∷ 1 ∷ 0 ∷ 180 ∷ 0 ∷ 0 ∷ 16 ∷ 0 ∷ 192 ∷ 0 ∷ 2 ∷ 1 ∷
    0 ∷ 0 ∷ 0 ∷ 1 ∷ 0 ∷ 14 ∷ 192 ∷ 0 ∷ 2 ∷ 2 ∷ 0 ∷ 0 ∷ 2 ∷ 1 ∷ 0 ∷ 4 ∷ 0 ∷ 0 ∷ 0 ∷ 2 ∷ 0 ∷ 1 ∷ 0 ∷ 24 ∷ 192 ∷ 0 ∷ 2 ∷ 2 ∷ 0 ∷ 0 ∷ 3 ∷ 0 ∷ 0 ∷ 14 ∷
    0 ∷ 0 ∷ 0 ∷ 3 ∷ 1 ∷ 1 ∷ 0 ∷ 6 ∷ 0 ∷ 1 ∷ 192 ∷ 0 ∷ 2 ∷ 2 ∷ 0 ∷ 1 ∷ 0 ∷ 34 ∷ 192 ∷ 0 ∷ 2 ∷ 2 ∷ 0 ∷ 0 ∷ 4 ∷ 0 ∷ 0 ∷ 24 ∷ 0 ∷ 0 ∷ 0 ∷ 4 ∷ 1 ∷ 0 ∷ 0 ∷
    8 ∷ 2 ∷ 0 ∷ 1 ∷ 32 ∷ 192 ∷ 0 ∷ 2 ∷ 2 ∷ 2 ∷ 0 ∷ 0 ∷ 4 ∷ 0 ∷ 0 ∷ 0 ∷ 3 ∷ 0 ∷ 1 ∷ 0 ∷ 34 ∷ 192 ∷ 0 ∷ 2 ∷ 2 ∷ 0 ∷ 0 ∷ 4 ∷ 0 ∷ 0 ∷ 24 ∷ 0 ∷ 0 ∷ 0 ∷
    5 ∷ 1 ∷ 0 ∷ 0 ∷ 8 ∷ 2 ∷ 0 ∷ 1 ∷ 32 ∷ 192 ∷ 0 ∷ 2 ∷ 3 ∷ 2 ∷ 0 ∷ 0 ∷ 4 ∷ 0 ∷ 0 ∷ 0 ∷ 16 ∷ 0 ∷ 1 ∷ 0 ∷ 34 ∷ 192 ∷ 0 ∷ 2 ∷ 2 ∷ 0 ∷ 0 ∷ 4 ∷ 0 ∷ 0 ∷
    24 ∷ 0 ∷ 0 ∷ 0 ∷ 6 ∷ 1 ∷ 0 ∷ 0 ∷ 8 ∷ 2 ∷ 0 ∷ 1 ∷ 32 ∷ 192 ∷ 0 ∷ 2 ∷ 1 ∷ 2 ∷ 0 ∷ 0 ∷ 4 ∷ 0 ∷ 0 ∷ 0 ∷ 17 ∷ []
unfolding next knowledge_of news sessions_after peerings_after held packets_after is_not_ipv4 is_malformed is_truncated has_bad_checksum good
    checksum_for with_ttl aged in_flight bytes_flying given node_labels framed prefix_element address_list status_value session_parameters written_message
    written
the_middle_says_196_bytes = refl

-- pe1 tells pe2: OPEN, KEEPALIVE, and an UPDATE of its export
pub an_edge_tells_138_bytes : file (Told 0 2) settling ≡
    255 ∷ 255 ∷ 255 ∷ 255 ∷ 255 ∷ 255 ∷ 255 ∷ 255 ∷ 255 ∷ 255 ∷ 255 ∷ 255 ∷ 255 ∷ 255 ∷ 255 ∷ 255 ∷ 0 ∷ 37 ∷ 1 ∷ 4 ∷ 253 ∷ 232 ∷ 0 ∷ 0 ∷ 192 ∷ 0 ∷
    2 ∷ 1 ∷ 8 ∷ 2 ∷ 6 ∷ 1 ∷ 4 ∷ 0 ∷ 1 ∷ 0 ∷ 128 ∷ 255 ∷ 255 ∷ 255 ∷ 255 ∷ 255 ∷ 255 ∷ 255 ∷ 255 ∷ 255 ∷ 255 ∷ 255 ∷ 255 ∷ 255 ∷ 255 ∷ 255 ∷ 255 ∷ 0 ∷
    19 ∷ 4 ∷ 255 ∷ 255 ∷ 255 ∷ 255 ∷ 255 ∷ 255 ∷ 255 ∷ 255 ∷ 255 ∷ 255 ∷ 255 ∷ 255 ∷ 255 ∷ 255 ∷ 255 ∷ 255 ∷ 0 ∷ 82 ∷ 2 ∷ 0 ∷ 0 ∷ 0 ∷ 59 ∷ 64 ∷ 1 ∷
    1 ∷ 0 ∷ 64 ∷ 2 ∷ 0 ∷ 64 ∷ 5 ∷ 4 ∷ 0 ∷ 0 ∷ 0 ∷ 100 ∷ 128 ∷ 14 ∷ 31 ∷ 0 ∷ 1 ∷ 128 ∷ 12 ∷ 0 ∷ 0 ∷ 0 ∷ 0 ∷ 0 ∷ 0 ∷ 0 ∷ 0 ∷ 192 ∷ 0 ∷ 2 ∷ 1 ∷ 0 ∷
    104 ∷ 0 ∷ 1 ∷ 1 ∷ 0 ∷ 0 ∷ 253 ∷ 232 ∷ 0 ∷ 0 ∷ 0 ∷ 1 ∷ 10 ∷ 1 ∷ 192 ∷ 16 ∷ 8 ∷ 0 ∷ 2 ∷ 253 ∷ 232 ∷ 0 ∷ 0 ∷ 0 ∷ 100 ∷ []
unfolding next knowledge_of news sessions_after peerings_after held packets_after is_not_ipv4 is_malformed is_truncated has_bad_checksum good
    checksum_for with_ttl aged in_flight bytes_flying given node_labels labels_of nlri_of
an_edge_tells_138_bytes = refl

-- before a node learns, another is out of its reach
pub links_that_are_learned : table_text two_links (at 0 (LinkUp (link_no 0)) ∷ at 0 (LinkUp (link_no 1)) ∷ at 0 (Learn (node_no 0) (link_no 0)) ∷ []) [] None
    (Tree (node_no 0))
    ≡ codes "tree pe1 to p cost 10 next p\ntree pe1 to pe2 unreachable\n"
unfolding next knowledge_of news sessions_after peerings_after held packets_after is_not_ipv4 is_malformed is_truncated has_bad_checksum good
    checksum_for with_ttl aged in_flight bytes_flying digits given node_labels prefix_text address_text
links_that_are_learned = refl

-- settled, each node reaches each other
pub all_are_reached : table_text two_links settling [] None (Tree (node_no 0))
    ≡ codes "tree pe1 to p cost 10 next p\ntree pe1 to pe2 cost 20 next p\n"
unfolding next knowledge_of news sessions_after peerings_after held packets_after is_not_ipv4 is_malformed is_truncated has_bad_checksum good
    checksum_for with_ttl aged in_flight bytes_flying digits given node_labels prefix_text address_text
all_are_reached = refl

-- a link that is up, and one that never was
pub two_links_are_told : table_text two_links (at 0 (LinkUp (link_no 0)) ∷ at 0 (LinkDown (link_no 0)) ∷ at 0 (LinkUp (link_no 0)) ∷ []) [] None Links
    ≡ codes "link pe1 p up cost 10 changes 3\nlink p pe2 down cost 10 changes 0\n"
unfolding next knowledge_of news sessions_after peerings_after held packets_after is_not_ipv4 is_malformed is_truncated has_bad_checksum good
    checksum_for with_ttl aged in_flight bytes_flying digits given node_labels prefix_text address_text
two_links_are_told = refl

-- of two sessions, one that begins
pub sessions_are_told : table_text two_links (at 0 (LinkUp (link_no 0)) ∷ []) [] None Ldp
    ≡ codes "ldp pe1 initialized p opensent\nldp p none pe2 none\n"
unfolding next knowledge_of news sessions_after peerings_after held packets_after is_not_ipv4 is_malformed is_truncated has_bad_checksum good
    checksum_for with_ttl aged in_flight bytes_flying digits given node_labels prefix_text address_text
sessions_are_told = refl

-- and all that is settled
pub a_settled_session_is_operational : table_text two_links settling [] None Ldp
    ≡ codes "ldp pe1 operational p operational\nldp p operational pe2 operational\n"
unfolding next knowledge_of news sessions_after peerings_after held packets_after is_not_ipv4 is_malformed is_truncated has_bad_checksum good
    checksum_for with_ttl aged in_flight bytes_flying digits given node_labels prefix_text address_text
a_settled_session_is_operational = refl

-- the edges' session
pub edges_are_told : table_text two_links (at 0 (BgpUp (node_no 0) (node_no 2)) ∷ at 3 (HearBgp (node_no 0) (node_no 2)) ∷ []) [] None Bgp
    ≡ codes "bgp pe1 opensent pe2 openconfirm\n"
unfolding next knowledge_of news sessions_after peerings_after held packets_after is_not_ipv4 is_malformed is_truncated has_bad_checksum good
    checksum_for with_ttl aged in_flight bytes_flying digits given node_labels prefix_text address_text
edges_are_told = refl

-- a VRF holds its own route, and the far edge's by the label that it gave
pub two_routes_are_held : table_text two_links settling [] None (Vrf (vrf_no 0))
    ≡ codes "route r1 10.1.0.0/16 site a\nroute r1 10.2.0.0/16 edge pe2 label 16\n"
unfolding next knowledge_of news sessions_after peerings_after held packets_after is_not_ipv4 is_malformed is_truncated has_bad_checksum good
    checksum_for with_ttl aged in_flight bytes_flying digits given node_labels prefix_text address_text
two_routes_are_held = refl

-- a packet flies; the far link goes down, so that p withdraws its label for pe2
pub what_flies_is_counted : table_text two_links
    (settling ++ at 0 (Inject (site_no 0) 1) ∷ at 0 (LinkDown (link_no 1)) ∷ at 0 (BgpDown (node_no 0) (node_no 2)) ∷ []) (packet ∷ []) None Flight
    ≡ codes "notices 3\nmessages 1\nframes pe1 p 1\n"
unfolding next knowledge_of news sessions_after peerings_after held packets_after is_not_ipv4 is_malformed is_truncated has_bad_checksum good
    checksum_for with_ttl aged in_flight bytes_flying digits given node_labels prefix_text address_text
what_flies_is_counted = refl

-- at pe2 label 17 is p's: that entry is popped, and the one below, which is of site b's label 16, takes its TTL less one
pub a_frame_goes_on : table_text two_links settling [] (Some (0 ∷ 1 ∷ 16 ∷ 63 ∷ 0 ∷ 1 ∷ 1 ∷ 7 ∷ packet)) (Frame (node_no 2) 4)
    ≡ codes "frame pe2 4 next p bytes 0001013E4500001C00000000401166CD0A0100010A0200010035003500080000\n"
unfolding next knowledge_of news sessions_after peerings_after held packets_after is_not_ipv4 is_malformed is_truncated has_bad_checksum good
    checksum_for with_ttl aged in_flight bytes_flying digits given node_labels entries_of entry_bytes
a_frame_goes_on = refl

-- label 16 alone leads to the site, and its packet takes the TTL
pub a_frame_comes_to_its_site : table_text two_links settling [] (Some (0 ∷ 1 ∷ 1 ∷ 62 ∷ packet)) (Frame (node_no 2) 1)
    ≡ codes "frame pe2 1 site b bytes 4500001C000000003D1169CD0A0100010A0200010035003500080000\n"
unfolding next knowledge_of news sessions_after peerings_after held packets_after is_not_ipv4 is_malformed is_truncated has_bad_checksum good
    checksum_for with_ttl aged in_flight bytes_flying digits given node_labels entries_of entry_bytes
a_frame_comes_to_its_site = refl

-- label 19 is nobody's
pub a_frame_is_dropped : table_text two_links settling [] (Some (0 ∷ 1 ∷ 49 ∷ 62 ∷ packet)) (Frame (node_no 2) 1) ≡ codes "frame pe2 1 drop NoEntry\n"
unfolding next knowledge_of news sessions_after peerings_after held packets_after is_not_ipv4 is_malformed is_truncated has_bad_checksum good
    checksum_for with_ttl aged in_flight bytes_flying digits given node_labels entries_of entry_bytes
a_frame_is_dropped = refl

-- no entry is the bottom one, and a byte is left over; and no record is there
pub a_frame_is_unread : table_text two_links [] [] (Some (0 ∷ 1 ∷ 32 ∷ 62 ∷ 0 ∷ [])) (Frame (node_no 0) 2) ≡ codes "frame pe1 2 unread Short\n"
unfolding digits entries_of
a_frame_is_unread = refl

pub no_frame_is_there : table_text two_links [] [] None (Frame (node_no 0) 3) ≡ codes "frame pe1 3 unread NoRecord\n"
unfolding digits
no_frame_is_there = refl

-- a table as it stood at its line, two refused lines, a packet that arrives, and the total
pub a_whole_report : report two_links capture (expanded two_links capture (lines_from 1 script))
    ≡ codes "ldp pe1 initialized p opensent\nldp p initialized pe2 opensent\nline 8 refused Unchanged\nline 9 refused NoRecord\n"
    ++ (codes "packet 1 line 6 site a record 1 delivered b ttl 61 copy 1 path pe1 p pe2\n"
    ++ codes "total packets 1 delivered 1 dropped 0 flying 0 steps 42 refused 2 tick 4\n")
unfolding next knowledge_of news sessions_after peerings_after held packets_after is_not_ipv4 is_malformed is_truncated has_bad_checksum good
    checksum_for with_ttl aged in_flight bytes_flying all digits verdict_text path_text sent_text packet_line refused_line verdicts_text total_line
    given node_labels
a_whole_report = refl
