-- Lines and scripts over the network of two links, computed from the definitions:
--
--     site a --- pe1 --- p --- pe2 --- site b
use Rattle.std.proofs.Common.{arith}
use Rattle.std.specs.Prelude.{◌≡◌, ◌<◌, refl, ℕ, zero, suc, ◌+◌, ◌-◌, false, List, [], ◌∷◌, ◌++◌, length, drop, Some, None}
use Rattle.mn_wiring.specs.declared.links.Dir.TheVariants.{Forth, Back}
use Rattle.mn_drops.specs.declared.drops.Rule.TheVariants as rule
use Rattle.mn_wiring.specs.Paths.{next}
use Rattle.mn_ipv4.specs.Header.{is_not_ipv4, is_malformed, is_truncated, has_bad_checksum, good, checksum_for, with_ttl, aged}
use Rattle.mn_topo.specs.Network.{Network}
use Rattle.mn_topo.specs.declared.steps.Step.{Step}
use Rattle.mn_topo.specs.declared.steps.Step.TheVariants.{LinkUp, LinkDown, Learn, HearLdp, BgpUp, HearBgp, Detach, Inject, Carry, Lose}
use Rattle.mn_topo.specs.declared.steps.JournalEntry.{JournalEntry}
use Rattle.mn_topo.specs.declared.steps.Damaged.TheVariants.{Undamaged}
use Rattle.mn_script.specs.declared.command.Command.{Command}
use Rattle.mn_script.specs.declared.command.Command.TheVariants.{Do, Run, Drain, Flush, Show}
use Rattle.mn_script.specs.declared.command.Show.TheVariants.{Links}
use Rattle.mn_script.specs.declared.command.Line.{Line}
use Rattle.mn_script.specs.Script.{AllFit}
use Rattle.mn_ledger.specs.declared.refused.Refused.TheVariants.{Unchanged, Empty}
use Rattle.mn_ledger.specs.declared.verdict.Verdict.{Verdict}
use Rattle.mn_ledger.specs.declared.verdict.Verdict.TheVariants.{Delivered, Dropped, Flying}
use Rattle.mn_ledger.specs.Transport.{knowledge_of, news, sessions_after}
use Rattle.mn_ledger.specs.Bgp.{peerings_after}
use Rattle.mn_ledger.specs.Held.{held}
use Rattle.mn_ledger.specs.Packets.{packets_after}
use Rattle.mn_ledger.specs.Ledger.{packets_of}
use Rattle.mn_ledger.specs.Refusal.{in_flight, bytes_flying}
use Rattle.mn_ledger.proofs.TwoLinks.{node_no, link_no, site_no, two_links, packet, the_topology_is_lawful}
use Rattle.mn_course_laws.specs.declared.coming.Ending.TheVariants as ending
use Rattle.mn_course_laws.specs.declared.coming.Arrivals.TheVariants.{News}
use Rattle.mn_course_laws.specs.declared.coming.Kind.TheVariants.{Notice}
use Rattle.mn_course_laws.specs.Coming.{coming}
use Rattle.mn_course_laws.specs.Course.{Past, inputs_of, deliver, all, played}
use Rattle.mn_course_laws.specs.Lawful.{IsLawfulRun}
use Rattle.mn_course_laws.proofs.Entered.{lawful_run}
use Rattle.mn_course_laws.specs.Expansion.{Refusal, Missing, Table, SentLine, Expansion, expanded}

-- UDP from 10.2.0.1 to 10.1.0.1
abbrev pub packet_back : List ℕ
packet_back = 69 ∷ 0 ∷ 0 ∷ 28 ∷ 0 ∷ 0 ∷ 0 ∷ 0 ∷ 64 ∷ 17 ∷ 102 ∷ 205 ∷ 10 ∷ 2 ∷ 0 ∷ 1 ∷ 10 ∷ 1 ∷ 0 ∷ 1 ∷ 0 ∷ 53 ∷ 0 ∷ 53 ∷ 0 ∷ 8 ∷ 0 ∷ 0 ∷ []

abbrev pub capture : List (List ℕ)
capture = packet ∷ packet_back ∷ []

abbrev pub beginning : Past
beginning = record { clock = 0; entries = [] }

-- lines one after another, whatever becomes of each
abbrev pub after_lines : Network → Past → List Command → Past
after_lines topology past [] = past
after_lines topology past (line ∷ lines) = after_lines topology (played topology capture past line).past lines

abbrev pub last_entries : ℕ → Past → List JournalEntry
last_entries count past = drop (length past.entries - count) past.entries

abbrev pub at : ℕ → Step → JournalEntry
at tick step = record { tick = tick; step = step; damaged = Undamaged }

-- what has become of the packets
abbrev pub verdicts : Network → Past → List Verdict
verdicts topology past = (packets_of topology past.entries (inputs_of capture past.entries)).verdicts

abbrev pub inject : Command
inject = Do (Inject (site_no 0) 1)

-- 1. Drain: both links come up, the edges open their session, and all is learned and received

abbrev pub opened : List Command
opened = Do (LinkUp (link_no 0)) ∷ Do (LinkUp (link_no 1)) ∷ Do (BgpUp (node_no 0) (node_no 2)) ∷ []

abbrev pub head : List Command
head = opened ++ Drain (Some 1000) ∷ []

-- that takes 39 steps, with a number or without one
pub the_head_takes_39_steps : length (after_lines two_links beginning head).entries ≡ 39
unfolding next knowledge_of news sessions_after peerings_after held packets_after is_not_ipv4 is_malformed is_truncated has_bad_checksum good
    checksum_for with_ttl aged in_flight bytes_flying all
the_head_takes_39_steps = refl

pub a_drain_needs_no_number : after_lines two_links beginning (opened ++ Drain None ∷ []) ≡ after_lines two_links beginning head
unfolding next knowledge_of news sessions_after peerings_after held packets_after is_not_ipv4 is_malformed is_truncated has_bad_checksum good
    checksum_for with_ttl aged in_flight bytes_flying all
a_drain_needs_no_number = refl

pub a_drain_takes_no_tick : (after_lines two_links beginning head).clock ≡ 0
unfolding next knowledge_of news sessions_after peerings_after held packets_after is_not_ipv4 is_malformed is_truncated has_bad_checksum good
    checksum_for with_ttl aged in_flight bytes_flying all
a_drain_takes_no_tick = refl

pub a_drain_stops_after_so_many : last_entries 2 (after_lines two_links beginning (Do (LinkUp (link_no 0)) ∷ Drain (Some 2) ∷ []))
    ≡ at 0 (Learn (node_no 0) (link_no 0)) ∷ at 0 (Learn (node_no 1) (link_no 0)) ∷ []
unfolding next knowledge_of news sessions_after peerings_after held packets_after is_not_ipv4 is_malformed is_truncated has_bad_checksum good
    checksum_for with_ttl aged in_flight bytes_flying all
a_drain_stops_after_so_many = refl

-- a notice that was made last is learned before a message that was made first
pub notices_come_before_messages :
    last_entries 2 (after_lines two_links beginning (opened ++ Drain (Some 6) ∷ Do (LinkDown (link_no 1)) ∷ Drain (Some 2) ∷ []))
    ≡ at 0 (Learn (node_no 0) (link_no 1)) ∷ at 0 (Learn (node_no 1) (link_no 1)) ∷ []
unfolding next knowledge_of news sessions_after peerings_after held packets_after is_not_ipv4 is_malformed is_truncated has_bad_checksum good
    checksum_for with_ttl aged in_flight bytes_flying all
notices_come_before_messages = refl

-- of the items that the two links' changes and the session's opening make, the first notice comes next, and none before it is due
abbrev pub opening : Past
opening = after_lines two_links beginning opened

pub the_first_notice_comes_next : coming two_links opening.entries [] Notice 1
    ≡ Some (record { due = 1; number = 0; step = Learn (node_no 0) (link_no 0); lossy = false })
unfolding next knowledge_of news sessions_after peerings_after held packets_after is_not_ipv4 is_malformed is_truncated has_bad_checksum good
    checksum_for with_ttl aged in_flight bytes_flying all
the_first_notice_comes_next = refl

pub none_comes_before_it_is_due : coming two_links opening.entries [] Notice 0 ≡ None
unfolding next knowledge_of news sessions_after peerings_after held packets_after is_not_ipv4 is_malformed is_truncated has_bad_checksum good
    checksum_for with_ttl aged in_flight bytes_flying all
none_comes_before_it_is_due = refl

-- 2. Flush: a packet's frames arrive one after the other, each as it is due

abbrev pub flushed : Past
flushed = after_lines two_links beginning (head ++ inject ∷ Flush ∷ [])

pub flush_carries_over_both_links :
    last_entries 3 flushed ≡ at 0 (Inject (site_no 0) 1) ∷ at 2 (Carry (link_no 0) Forth 0) ∷ at 4 (Carry (link_no 1) Forth 0) ∷ []
unfolding next knowledge_of news sessions_after peerings_after held packets_after is_not_ipv4 is_malformed is_truncated has_bad_checksum good
    checksum_for with_ttl aged in_flight bytes_flying all
flush_carries_over_both_links = refl

pub the_clock_goes_on_to_the_last_arrival : flushed.clock ≡ 4
unfolding next knowledge_of news sessions_after peerings_after held packets_after is_not_ipv4 is_malformed is_truncated has_bad_checksum good
    checksum_for with_ttl aged in_flight bytes_flying all
the_clock_goes_on_to_the_last_arrival = refl

-- a withdrawal that is due at tick 3 stays in flight; received later, it doesn't set the clock back
pub the_clock_never_goes_back : last_entries 3 (after_lines two_links beginning (head ++ inject ∷ Do (Detach (site_no 1)) ∷ Flush ∷ Run 0 ∷ []))
    ≡ at 2 (Carry (link_no 0) Forth 0) ∷ at 4 (Carry (link_no 1) Forth 0) ∷ at 4 (HearBgp (node_no 2) (node_no 0)) ∷ []
unfolding next knowledge_of news sessions_after peerings_after held packets_after is_not_ipv4 is_malformed is_truncated has_bad_checksum good
    checksum_for with_ttl aged in_flight bytes_flying all
the_clock_never_goes_back = refl

-- 3. Run: 100 ticks settle the network too, and 3 more carry the packet over the first link alone

abbrev pub on_its_way : Past
on_its_way = after_lines two_links beginning (opened ++ Run 100 ∷ inject ∷ Run 3 ∷ [])

pub three_ticks_carry_over_one_link : verdicts two_links on_its_way ≡ Flying (link_no 1) Forth ∷ []
unfolding next knowledge_of news sessions_after peerings_after held packets_after is_not_ipv4 is_malformed is_truncated has_bad_checksum good
    checksum_for with_ttl aged in_flight bytes_flying all
three_ticks_carry_over_one_link = refl

pub that_takes_41_steps : length on_its_way.entries ≡ 41
unfolding next knowledge_of news sessions_after peerings_after held packets_after is_not_ipv4 is_malformed is_truncated has_bad_checksum good
    checksum_for with_ttl aged in_flight bytes_flying all
that_takes_41_steps = refl

pub the_ticks_pass : on_its_way.clock ≡ 103
unfolding next knowledge_of news sessions_after peerings_after held packets_after is_not_ipv4 is_malformed is_truncated has_bad_checksum good
    checksum_for with_ttl aged in_flight bytes_flying all
the_ticks_pass = refl

-- what is due at the end itself arrives
pub the_last_tick_counts : last_entries 2 (after_lines two_links beginning (head ++ inject ∷ Run 4 ∷ []))
    ≡ at 2 (Carry (link_no 0) Forth 0) ∷ at 4 (Carry (link_no 1) Forth 0) ∷ []
unfolding next knowledge_of news sessions_after peerings_after held packets_after is_not_ipv4 is_malformed is_truncated has_bad_checksum good
    checksum_for with_ttl aged in_flight bytes_flying all
the_last_tick_counts = refl

-- 4. Loss: a first link that loses each second frame

abbrev pub losing : Network
losing = record two_links {
  links =
      record { a = node_no 0; b = node_no 1; cost = 10; delay = 2; loss = 2; life = 2000 }
      ∷ record { a = node_no 1; b = node_no 2; cost = 10; delay = 2; loss = 0; life = 2000 } ∷ [];
}

abbrev pub one_is_lost : Past
one_is_lost = after_lines losing beginning (head ++ inject ∷ inject ∷ Flush ∷ [])

pub the_second_frame_is_lost : verdicts losing one_is_lost ≡ Delivered 61 (site_no 1) 1 ∷ Dropped rule.Lost (node_no 0) ∷ []
unfolding next knowledge_of news sessions_after peerings_after held packets_after is_not_ipv4 is_malformed is_truncated has_bad_checksum good
    checksum_for with_ttl aged in_flight bytes_flying all
the_second_frame_is_lost = refl

pub it_is_lost_as_it_is_due :
    last_entries 3 one_is_lost ≡ at 2 (Carry (link_no 0) Forth 0) ∷ at 2 (Lose (link_no 0) Forth 0) ∷ at 4 (Carry (link_no 1) Forth 0) ∷ []
unfolding next knowledge_of news sessions_after peerings_after held packets_after is_not_ipv4 is_malformed is_truncated has_bad_checksum good
    checksum_for with_ttl aged in_flight bytes_flying all
it_is_lost_as_it_is_due = refl

-- what was lost by a step of the script counts too: the frame after it is the second
pub lost_frames_count : verdicts losing (after_lines losing beginning (head ++ inject ∷ Do (Lose (link_no 0) Forth 0) ∷ inject ∷ Flush ∷ []))
    ≡ Dropped rule.Lost (node_no 0) ∷ Dropped rule.Lost (node_no 0) ∷ []
unfolding next knowledge_of news sessions_after peerings_after held packets_after is_not_ipv4 is_malformed is_truncated has_bad_checksum good
    checksum_for with_ttl aged in_flight bytes_flying all
lost_frames_count = refl

-- frames of the other direction don't count
pub each_direction_counts_alone : verdicts losing (after_lines losing beginning (head ++ Do (Inject (site_no 1) 2) ∷ inject ∷ Flush ∷ []))
    ≡ Delivered 61 (site_no 0) 1 ∷ Delivered 61 (site_no 1) 2 ∷ []
unfolding next knowledge_of news sessions_after peerings_after held packets_after is_not_ipv4 is_malformed is_truncated has_bad_checksum good
    checksum_for with_ttl aged in_flight bytes_flying all
each_direction_counts_alone = refl

-- 5. Lines that are refused

pub a_missing_record_ends_the_line : (played two_links capture beginning (Do (Inject (site_no 0) 3))).ending ≡ ending.NoRecord
unfolding next knowledge_of news sessions_after peerings_after held packets_after is_not_ipv4 is_malformed is_truncated has_bad_checksum good
    checksum_for with_ttl aged in_flight bytes_flying all
a_missing_record_ends_the_line = refl

pub a_refused_step_is_told : (played two_links capture flushed (Do (LinkUp (link_no 0)))).ending ≡ ending.Refused Unchanged
unfolding next knowledge_of news sessions_after peerings_after held packets_after is_not_ipv4 is_malformed is_truncated has_bad_checksum good
    checksum_for with_ttl aged in_flight bytes_flying all
a_refused_step_is_told = refl

-- 6. Scripts

-- lines numbered from 1
abbrev pub numbered_from : ℕ → List Command → List Line
numbered_from number [] = []
numbered_from number (command ∷ commands) = record { number = number; command = command } ∷ numbered_from (number + 1) commands

abbrev pub run_of : List Command → Expansion
run_of commands = expanded two_links capture (numbered_from 1 commands)

-- three packets are cut off with the first link; the link goes down once, and the message that its end sent is gone
abbrev pub cut_off : Expansion
cut_off = run_of (
    head ++ inject ∷ inject ∷ inject ∷ Do (LinkDown (link_no 1)) ∷ Do (LinkDown (link_no 0)) ∷ Do (LinkDown (link_no 0))
    ∷ Do (HearLdp (link_no 0) Back) ∷ []
    )

pub refused_lines_are_told : cut_off.notes ≡ Refusal 10 Unchanged ∷ Refusal 11 Empty ∷ []
unfolding next knowledge_of news sessions_after peerings_after held packets_after is_not_ipv4 is_malformed is_truncated has_bad_checksum good
    checksum_for with_ttl aged in_flight bytes_flying all
refused_lines_are_told = refl

-- the first record is sent by a line
abbrev pub sent_by : ℕ → SentLine
sent_by line = record { line = line; site = site_no 0; number = 1 }

pub sendings_are_told : cut_off.sendings ≡ sent_by 5 ∷ sent_by 6 ∷ sent_by 7 ∷ []
unfolding next knowledge_of news sessions_after peerings_after held packets_after is_not_ipv4 is_malformed is_truncated has_bad_checksum good
    checksum_for with_ttl aged in_flight bytes_flying all
sendings_are_told = refl

pub the_cut_takes_44_steps : length cut_off.past.entries ≡ 44
unfolding next knowledge_of news sessions_after peerings_after held packets_after is_not_ipv4 is_malformed is_truncated has_bad_checksum good
    checksum_for with_ttl aged in_flight bytes_flying all
the_cut_takes_44_steps = refl

-- a line whose record is missing is told, and the script goes on; a table is of its place in the script
pub notes_stand_in_order : (run_of (Do (Inject (site_no 0) 3) ∷ Run 7 ∷ Show Links ∷ Do (LinkDown (link_no 0)) ∷ Flush ∷ [])).notes
    ≡ Missing 1 ∷ Table Links (record { clock = 7; entries = [] }) ∷ Refusal 4 Unchanged ∷ []
unfolding next knowledge_of news sessions_after peerings_after held packets_after is_not_ipv4 is_malformed is_truncated has_bad_checksum good
    checksum_for with_ttl aged in_flight bytes_flying all
notes_stand_in_order = refl

-- 7. What the laws ask is met: the topology is lawful, a script's lines fit, what has happened is lawful, and a drain ends with All

abbrev pub settling_lines : List Line
settling_lines = numbered_from 1 (head ++ inject ∷ Flush ∷ [])

pub the_lines_fit : AllFit two_links settling_lines
the_lines_fit zero d below = refl
the_lines_fit (suc zero) d below = refl
the_lines_fit (suc (suc zero)) d below = refl
the_lines_fit (suc (suc (suc zero))) d below = refl
the_lines_fit (suc (suc (suc (suc zero)))) d below = refl
the_lines_fit (suc (suc (suc (suc (suc zero))))) d below = refl
the_lines_fit (suc (suc (suc (suc (suc (suc more)))))) d below = absurd (none more below)
  where
    none : (more : ℕ) → suc (suc (suc (suc (suc (suc more))))) < 6 → ⊥
    none more h = omega (arith, h)

pub the_run_is_lawful : IsLawfulRun two_links capture (expanded two_links capture settling_lines)
the_run_is_lawful = lawful_run two_links the_topology_is_lawful capture settling_lines the_lines_fit

pub the_drain_takes_its_course : (deliver two_links capture News all opening).ending ≡ ending.All
unfolding next knowledge_of news sessions_after peerings_after held packets_after is_not_ipv4 is_malformed is_truncated has_bad_checksum good
    checksum_for with_ttl aged in_flight bytes_flying all
the_drain_takes_its_course = refl
