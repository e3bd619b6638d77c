-- Labels and frames of runs over the network of two links, computed step by step from the definitions:
--
--     site a --- pe1 --- p --- pe2 --- site b
use Rattle.std.specs.Prelude.{◌≡◌, refl, ℕ, List, [], ◌∷◌, ◌++◌, map, Some, None, true, false}
use Rattle.mn_drops.specs.declared.drops.Rule.TheVariants.{BadChecksum, TtlExpired, SiteGone, NoEntry}
use Rattle.mn_wiring.specs.declared.links.Dir.{Dir}
use Rattle.mn_wiring.specs.declared.links.Dir.TheVariants.{Forth}
use Rattle.mn_wiring.specs.Wiring.{receiver}
use Rattle.mn_wiring.specs.Paths.{next}
use Rattle.mn_ipv4.specs.Header.{is_not_ipv4, is_malformed, is_truncated, has_bad_checksum, good, checksum_for, with_ttl, aged}
use Rattle.mn_stack.specs.Entry.{entry_bytes}
use Rattle.mn_stack.specs.Grammar.{stack_bytes}
use Rattle.mn_lfib.specs.declared.answer.Forwarded.TheVariants.{Next, Site, Drop}
use Rattle.mn_lfib.specs.Forwarding.{forwarded}
use Rattle.mn_topo.specs.Network.{wiring_of}
use Rattle.mn_topo.specs.declared.steps.Step.TheVariants.{LdpAdmin, HearBgp, Attach, Detach, Inject, Carry}
use Rattle.mn_topo.specs.declared.steps.JournalEntry.{JournalEntry}
use Rattle.mn_ledger.specs.Transport.{knowledge_of, news, sessions_after}
use Rattle.mn_ledger.specs.Bgp.{peerings_after}
use Rattle.mn_ledger.specs.Held.{held}
use Rattle.mn_ledger.specs.Packets.{flying_on, packets_after}
use Rattle.mn_ledger.specs.Ledger.{world_of, packets_of}
use Rattle.mn_ledger.specs.Refusal.{in_flight, bytes_flying}
use Rattle.mn_ledger.proofs.TwoLinks.{node_no, link_no, site_no, two_links, at_start, settling, packet, packet_of_ttl_3, packet_gone_bad}
use Rattle.mn_reuse_laws.specs.Labels.{labels_of as node_labels}
use Rattle.mn_frame_laws.specs.Given.{given, label_for, label_at}
use Rattle.mn_frame_laws.specs.Numbers.{labels_of}
use Rattle.mn_frame_laws.specs.Frames.{entry, stack_of}
use Rattle.mn_frame_laws.specs.Entries.{Falls, Stays, fate, outer_for}
use Rattle.mn_frame_laws.proofs.Premises.{token, to_p, to_pe2, uses_of_pe1, uses_of_p, uses_of_pe2, uses_once_attached}

-- 1. The bytes of frames

-- of those that fly in a direction of a link
abbrev pub frames_on : List JournalEntry → List (List ℕ) → ℕ → Dir → List (List ℕ)
frames_on entries inputs l dir = map (λ token. stack_bytes (stack_of (given two_links entries) token (receiver (wiring_of two_links) l dir)) ++ token.bytes)
    (flying_on (packets_of two_links entries inputs) l dir)

-- as the packet flies: with TTL 3F and the checksum 67 CD
abbrev pub sent_packet : List ℕ
sent_packet = 69 ∷ 0 ∷ 0 ∷ 28 ∷ 0 ∷ 0 ∷ 0 ∷ 0 ∷ 63 ∷ 17 ∷ 103 ∷ 205 ∷ 10 ∷ 1 ∷ 0 ∷ 1 ∷ 10 ∷ 2 ∷ 0 ∷ 1 ∷ 0 ∷ 53 ∷ 0 ∷ 53 ∷ 0 ∷ 8 ∷ 0 ∷ 0 ∷ []

-- to p: its label 16 for pe2's FEC and TTL 3F, and below it site b's label, which is 16 too, with S and TTL 3F
pub two_labels_to_the_middle : frames_on (settling ++ at_start (Inject (site_no 0) 1) ∷ []) (packet ∷ []) 0 Forth
    ≡ (0 ∷ 1 ∷ 0 ∷ 63 ∷ 0 ∷ 1 ∷ 1 ∷ 63 ∷ sent_packet) ∷ []
unfolding next knowledge_of news sessions_after peerings_after held packets_after is_not_ipv4 is_malformed is_truncated has_bad_checksum good checksum_for
    with_ttl aged in_flight bytes_flying given node_labels entry_bytes
two_labels_to_the_middle = refl

-- to pe2: site b's label alone, with S and TTL 3E, and the same packet
pub one_label_to_the_edge : frames_on (settling ++ at_start (Inject (site_no 0) 1) ∷ at_start (Carry (link_no 0) Forth 0) ∷ []) (packet ∷ []) 1 Forth
    ≡ (0 ∷ 1 ∷ 1 ∷ 62 ∷ sent_packet) ∷ []
unfolding next knowledge_of news sessions_after peerings_after held packets_after is_not_ipv4 is_malformed is_truncated has_bad_checksum good checksum_for
    with_ttl aged in_flight bytes_flying given node_labels entry_bytes
one_label_to_the_edge = refl

-- a packet that entered with TTL 3 comes to pe2 with TTL 1
pub one_hop_is_left : frames_on (settling ++ at_start (Inject (site_no 0) 1) ∷ at_start (Carry (link_no 0) Forth 0) ∷ []) (packet_of_ttl_3 ∷ []) 1 Forth
    ≡ (0 ∷ 1 ∷ 1 ∷ 1 ∷ 69 ∷ 0 ∷ 0 ∷ 28 ∷ 0 ∷ 0 ∷ 0 ∷ 0 ∷ 2 ∷ 17 ∷ 164 ∷ 205 ∷ 10 ∷ 1 ∷ 0 ∷ 1 ∷ 10 ∷ 2 ∷ 0 ∷ 1 ∷ 0 ∷ 53 ∷ 0 ∷ 53 ∷ 0 ∷ 8 ∷ 0 ∷ 0 ∷ []) ∷ []
unfolding next knowledge_of news sessions_after peerings_after held packets_after is_not_ipv4 is_malformed is_truncated has_bad_checksum good checksum_for
    with_ttl aged in_flight bytes_flying given node_labels entry_bytes
one_hop_is_left = refl

-- 2. Site b is detached and attached anew

abbrev attached_anew : List JournalEntry
attached_anew = at_start (Detach (site_no 1)) ∷ at_start (Attach (site_no 1)) ∷ []

-- a packet that was under way keeps label 16
pub an_old_frame_keeps_its_label : frames_on (settling ++ at_start (Inject (site_no 0) 1) ∷ attached_anew ++ at_start (Carry (link_no 0) Forth 0) ∷ [])
    (packet ∷ []) 1 Forth ≡ (0 ∷ 1 ∷ 1 ∷ 62 ∷ sent_packet) ∷ []
unfolding next knowledge_of news sessions_after peerings_after held packets_after is_not_ipv4 is_malformed is_truncated has_bad_checksum good checksum_for
    with_ttl aged in_flight bytes_flying given node_labels entry_bytes
an_old_frame_keeps_its_label = refl

-- and once the near edge has received from the new attachment it pushes label 19
pub a_new_frame_has_the_new_label :
    frames_on (settling ++ attached_anew ++ at_start (HearBgp (node_no 2) (node_no 0)) ∷ at_start (HearBgp (node_no 2) (node_no 0)) ∷ at_start
    (Inject (site_no 0) 1) ∷ []) (packet ∷ []) 0 Forth
    ≡ (0 ∷ 1 ∷ 0 ∷ 63 ∷ 0 ∷ 1 ∷ 49 ∷ 63 ∷ sent_packet) ∷ []
unfolding next knowledge_of news sessions_after peerings_after held packets_after is_not_ipv4 is_malformed is_truncated has_bad_checksum good checksum_for
    with_ttl aged in_flight bytes_flying given node_labels entry_bytes
a_new_frame_has_the_new_label = refl

pub the_labels_of_site_b : label_at (given two_links (settling ++ attached_anew)) 2 1 1 ∷ label_at (given two_links (settling ++ attached_anew)) 2 1 2 ∷ []
    ≡ 16 ∷ 19 ∷ []
unfolding next knowledge_of news sessions_after peerings_after given node_labels
the_labels_of_site_b = refl

pub the_same_by_site : labels_of two_links (settling ++ attached_anew) 1 1 ∷ labels_of two_links (settling ++ attached_anew) 1 2 ∷ labels_of two_links
    (settling ++ attached_anew) 0 1 ∷ [] ≡ 16 ∷ 19 ∷ 16 ∷ []
unfolding next knowledge_of news sessions_after peerings_after given node_labels labels_of
the_same_by_site = refl

-- 3. Labels of FECs: each node's own is implicit null, and the others' go by what each offers first

pub labels_of_fecs : map (λ node. map (label_for (given two_links settling) node) (0 ∷ 1 ∷ 2 ∷ [])) (0 ∷ 1 ∷ 2 ∷ [])
    ≡ (3 ∷ 17 ∷ 18 ∷ []) ∷ (17 ∷ 3 ∷ 16 ∷ []) ∷ (18 ∷ 17 ∷ 3 ∷ []) ∷ []
unfolding next knowledge_of news sessions_after peerings_after given node_labels
labels_of_fecs = refl

-- at the start no node has one for another's FEC
pub no_labels_at_first : map (λ node. map (label_for (given two_links []) node) (0 ∷ 1 ∷ 2 ∷ [])) (0 ∷ 1 ∷ 2 ∷ [])
    ≡ (3 ∷ 0 ∷ 0 ∷ []) ∷ (0 ∷ 3 ∷ 0 ∷ []) ∷ (0 ∷ 0 ∷ 3 ∷ []) ∷ []
unfolding given node_labels
no_labels_at_first = refl

-- a frame for pe2 that flies to p has p's label 16, where pe1's is 18
pub the_receiver_reads_its_own_label : stack_of (given two_links settling) token 1 ≡ entry 16 false 63 ∷ entry 16 true 63 ∷ []
unfolding next knowledge_of news sessions_after peerings_after given node_labels
the_receiver_reads_its_own_label = refl

-- 4. What the nodes do with these frames

-- the middle is the last hop but one: it pops the outer entry
pub popped_before_the_edge : forwarded uses_of_p to_p ≡ (Next (node_no 2), to_pe2)
unfolding forwarded
popped_before_the_edge = refl

-- the edge delivers the packet alone, with TTL 3D and the checksum 69 CD
pub delivered_by_the_edge : forwarded uses_of_pe2 to_pe2
    ≡ (
      Site (site_no 1),
      record {
        entries = [];
        packet =
            69 ∷ 0 ∷ 0 ∷ 28 ∷ 0 ∷ 0 ∷ 0 ∷ 0 ∷ 61 ∷ 17 ∷ 105 ∷ 205 ∷ 10 ∷ 1 ∷ 0 ∷ 1 ∷ 10 ∷ 2 ∷ 0 ∷ 1 ∷ 0 ∷ 53 ∷ 0 ∷ 53 ∷ 0 ∷ 8 ∷ 0 ∷ 0 ∷ [];
        room = 2;
      },
    )
unfolding forwarded aged with_ttl checksum_for
delivered_by_the_edge = refl

-- back at its entry, with the label of that, it is sent on once more: the outer entry is swapped
pub sent_on_by_its_entry : forwarded uses_of_pe1 (record to_p { entries = entry 18 false 63 ∷ entry 16 true 63 ∷ [] })
    ≡ (Next (node_no 1), record to_p { entries = entry 16 false 62 ∷ entry 16 true 63 ∷ [] })
unfolding forwarded
sent_on_by_its_entry = refl

-- at pe2, where label 17 is p's FEC, it goes back to p with the inner entry alone
pub sent_back_by_the_far_edge : forwarded uses_of_pe2 (record to_p { entries = entry 17 false 63 ∷ entry 16 true 63 ∷ [] }) ≡ (Next (node_no 1), to_pe2)
unfolding forwarded
sent_back_by_the_far_edge = refl

pub expired_in_the_middle : forwarded uses_of_p (record to_p { entries = entry 16 false 1 ∷ entry 16 true 1 ∷ [] })
    ≡ (Drop TtlExpired, record to_p { entries = entry 16 false 1 ∷ entry 16 true 1 ∷ [] })
unfolding forwarded
expired_in_the_middle = refl

-- expiry comes before the site
pub expired_at_an_ended_attachment : forwarded uses_once_attached (record to_pe2 { entries = entry 16 true 1 ∷ [] })
    ≡ (Drop TtlExpired, record to_pe2 { entries = entry 16 true 1 ∷ [] })
unfolding forwarded
expired_at_an_ended_attachment = refl

-- the old label doesn't lead to the new attachment, and the new one does
pub the_old_label_has_ended : forwarded uses_once_attached to_pe2 ≡ (Drop SiteGone, to_pe2)
unfolding forwarded
the_old_label_has_ended = refl

pub the_new_label_leads_there : (forwarded uses_once_attached (record to_pe2 { entries = entry 19 true 62 ∷ [] })).0 ≡ Site (site_no 1)
unfolding forwarded
the_new_label_leads_there = refl

-- a label that was never given
pub no_entry_for_it : forwarded uses_of_pe2 (record to_pe2 { entries = entry 19 true 62 ∷ [] })
    ≡ (Drop NoEntry, record to_pe2 { entries = entry 19 true 62 ∷ [] })
unfolding forwarded
no_entry_for_it = refl

-- 5. Ways out, and fates

-- to pe2 over p with p's label 16, and to p itself with none
pub ways_out : outer_for two_links (given two_links settling) (world_of two_links settling) 0 2 ∷ outer_for two_links (given two_links settling)
    (world_of two_links settling) 0 1 ∷ []
    ≡ Some (node_no 1, Some 16) ∷ Some (node_no 1, None) ∷ []
unfolding next knowledge_of news sessions_after peerings_after given node_labels
ways_out = refl

pub no_way_out : outer_for two_links (given two_links settling) (world_of two_links (settling ++ at_start (LdpAdmin (link_no 0) false) ∷ [])) 0 2 ≡ None
unfolding next knowledge_of news sessions_after peerings_after given node_labels
no_way_out = refl

-- from site b the far edge keeps a packet for its own site
pub it_stays : fate two_links (world_of two_links settling) 1 packet ≡ Stays 1
unfolding next knowledge_of news sessions_after peerings_after held is_not_ipv4 is_malformed is_truncated has_bad_checksum good checksum_for
it_stays = refl

pub it_falls : fate two_links (world_of two_links settling) 0 packet_gone_bad ≡ Falls BadChecksum
unfolding next knowledge_of news sessions_after peerings_after held is_not_ipv4 is_malformed is_truncated has_bad_checksum good checksum_for
it_falls = refl
