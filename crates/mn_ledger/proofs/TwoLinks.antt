-- Runs over the network of two links, computed step by step from the definitions:
--
--     site a --- pe1 --- p --- pe2 --- site b
use Rattle.std.proofs.Common.{rules, arith, zero, suc, ◌<◌, ◌≤◌, ◌≢◌, ◌==◌, ◌||◌, Bool, ap, sym, ◌∙◌}
use Rattle.std.specs.Prelude.{◌≡◌, refl, ℕ, List, [], ◌∷◌, ◌++◌, map, length, Some, None, true, false}
use Rattle.mn_base.specs.declared.numbers.NodeNo.{NodeNo}
use Rattle.mn_base.specs.declared.numbers.LinkNo.{LinkNo}
use Rattle.mn_base.specs.declared.numbers.SiteNo.{SiteNo}
use Rattle.mn_base.specs.declared.numbers.VrfNo.{VrfNo}
use Rattle.mn_base.specs.declared.numbers.Rt.{Rt}
use Rattle.mn_topo.specs.Dir.{Dir}
use Rattle.mn_topo.specs.Dir.TheVariants.{Forth, Back}
use Rattle.mn_topo.specs.declared.vrfs.VrfDef.{VrfDef}
use Rattle.mn_wiring.specs.declared.links.LinkEnds.{LinkEnds}
use Rattle.mn_drops.specs.declared.drops.Rule.TheVariants as rule
use Rattle.mn_topo.specs.Network.{Network, wiring_of}
use Rattle.mn_topo.specs.Wiring.{JoinsNodes, EndsDiffer, JoinsOnce}
use Rattle.mn_topo.specs.Lawful.{IsLawful}
use Rattle.std.specs.List.{IsDistinct}
use Rattle.mn_base.proofs.Bools.{other_test, no as no_end}
use Rattle.mn_topo.specs.declared.steps.Step.{Step}
use Rattle.mn_topo.specs.declared.steps.Step.TheVariants.{LinkUp, LinkDown, Learn, LdpAdmin, HearLdp, BgpUp, HearBgp, Import, Attach, Detach, Inject, Carry}
use Rattle.mn_topo.specs.declared.steps.Step.TheVariants.{Lose}
use Rattle.mn_topo.specs.declared.steps.JournalEntry.{JournalEntry}
use Rattle.mn_topo.specs.declared.steps.Damaged.TheVariants.{Undamaged}
use Rattle.mn_ledger.specs.declared.verdict.Verdict.TheVariants.{Delivered, Dropped}
use Rattle.mn_ledger.specs.declared.refused.Refused.TheVariants.{Unchanged, Empty}
use Rattle.mn_ledger.specs.Ledger.{world_of, packets_of}
use Rattle.mn_ledger.specs.Refusal.{refusal}
use Rattle.mn_ledger.proofs.Deciding.{lawful}
use Rattle.mn_ledger.specs.Lawful.{IsLawfulJournal}
use Rattle.mn_ledger.specs.World.{World}
use Rattle.mn_ledger.specs.Settled.{IsSettled}
use Rattle.mn_topo.specs.Wiring.{is_end, across, joining}
use Rattle.mn_topo.specs.VrfTable.{is_edge}
use Rattle.mn_ledger.specs.Bgp.{peers_live}
use Rattle.mn_ledger.specs.Items.{Item, flight_of}
use Rattle.mn_ledger.proofs.Running.{a_run}

abbrev pub node_no : ℕ → NodeNo
node_no n = record { 0 = n }

abbrev pub link_no : ℕ → LinkNo
link_no n = record { 0 = n }

abbrev pub site_no : ℕ → SiteNo
site_no n = record { 0 = n }

abbrev pub vrf_no : ℕ → VrfNo
vrf_no n = record { 0 = n }

-- 65000:100 as eight bytes
abbrev pub target : Rt
target = record { 0 = 842122827661412 }

-- a link of two nodes, at this cost
abbrev pub a_link : ℕ → ℕ → ℕ → LinkEnds
a_link a b cost = record { a = node_no a; b = node_no b; cost = cost; delay = 2; loss = 0; life = 2000 }

-- a VRF at this node, of this route distinguisher, that imports the target and exports it
abbrev pub a_vrf : ℕ → ℕ → VrfDef
a_vrf node rd = record { node = node_no node; rd = record { 0 = rd }; «import» = target ∷ []; export = target ∷ [] }

abbrev pub two_links : Network
two_links = record {
  asn = 65000;
  notice_delay = 1;
  bgp_delay = 3;
  node_names = (112 ∷ 101 ∷ 49 ∷ []) ∷ (112 ∷ []) ∷ (112 ∷ 101 ∷ 50 ∷ []) ∷ [];
  loopbacks = 3221225985 ∷ 3221225986 ∷ 3221225987 ∷ [];
  links = a_link 0 1 10 ∷ a_link 1 2 10 ∷ [];
  vrf_names = (114 ∷ 49 ∷ []) ∷ (114 ∷ 50 ∷ []) ∷ [];
  vrfs = a_vrf 0 279172874240001 ∷ a_vrf 2 279172874240002 ∷ [];
  site_names = (97 ∷ []) ∷ (98 ∷ []) ∷ [];
  sites = record { vrf = vrf_no 0; prefixes = record { address = 167837696; length = 16 } ∷ [] } ∷ record {
    vrf = vrf_no 1;
    prefixes =
        record { address = 167903232; length = 16 } ∷ [];
  } ∷ [];
  resolve = false;
}

abbrev pub at_start : Step → JournalEntry
at_start step = record { tick = 0; step = step; damaged = Undamaged }

-- each node learns of the link's change
abbrev pub all_learn : ℕ → List Step
all_learn l = Learn (node_no 0) (link_no l) ∷ Learn (node_no 1) (link_no l) ∷ Learn (node_no 2) (link_no l) ∷ []

-- so many messages are received on the link, one after another
abbrev pub heard_on : ℕ → Dir → ℕ → List Step
heard_on l dir zero = []
heard_on l dir (suc count) = HearLdp (link_no l) dir ∷ heard_on l dir count

-- the far edge receives from the near one, and the near edge from the far one
abbrev pub to_far : Step
to_far = HearBgp (node_no 0) (node_no 2)

abbrev pub to_near : Step
to_near = HearBgp (node_no 2) (node_no 0)

-- both links come up, and the edges open their session
abbrev pub beginning : List Step
beginning = LinkUp (link_no 0) ∷ LinkUp (link_no 1) ∷ BgpUp (node_no 0) (node_no 2) ∷ []

-- every notice is learned, and every message received
abbrev pub all_are_told : List Step
all_are_told =
    (all_learn 0 ++ all_learn 1) ++ (to_far ∷ to_near ∷ to_near ∷ to_far ∷ to_far ∷ to_near ∷ [])
    ++ heard_on 0 Back 1 ++ heard_on 1 Back 1 ++ heard_on 0 Forth 2 ++ heard_on 1 Forth 2 ++ heard_on 0 Back 3 ++ heard_on 1 Back 3 ++ heard_on 0 Forth 3
    ++ heard_on 1 Forth 2 ++ heard_on 0 Back 1 ++ heard_on 1 Forth 1 ++ heard_on 0 Back 1 ++ heard_on 1 Forth 1 ++ heard_on 1 Back 1 ++ heard_on 0 Forth 1
    ++ heard_on 1 Back 1

abbrev pub settling : List JournalEntry
settling = map at_start (beginning ++ all_are_told)

-- UDP from 10.1.0.1 to 10.2.0.1
abbrev pub packet : List ℕ
packet = 69 ∷ 0 ∷ 0 ∷ 28 ∷ 0 ∷ 0 ∷ 0 ∷ 0 ∷ 64 ∷ 17 ∷ 102 ∷ 205 ∷ 10 ∷ 1 ∷ 0 ∷ 1 ∷ 10 ∷ 2 ∷ 0 ∷ 1 ∷ 0 ∷ 53 ∷ 0 ∷ 53 ∷ 0 ∷ 8 ∷ 0 ∷ 0 ∷ []

-- the same with TTL 4, TTL 3, and with a checksum that is one too small
abbrev pub packet_of_ttl_4 : List ℕ
packet_of_ttl_4 = 69 ∷ 0 ∷ 0 ∷ 28 ∷ 0 ∷ 0 ∷ 0 ∷ 0 ∷ 4 ∷ 17 ∷ 162 ∷ 205 ∷ 10 ∷ 1 ∷ 0 ∷ 1 ∷ 10 ∷ 2 ∷ 0 ∷ 1 ∷ 0 ∷ 53 ∷ 0 ∷ 53 ∷ 0 ∷ 8 ∷ 0 ∷ 0 ∷ []

abbrev pub packet_of_ttl_3 : List ℕ
packet_of_ttl_3 = 69 ∷ 0 ∷ 0 ∷ 28 ∷ 0 ∷ 0 ∷ 0 ∷ 0 ∷ 3 ∷ 17 ∷ 163 ∷ 205 ∷ 10 ∷ 1 ∷ 0 ∷ 1 ∷ 10 ∷ 2 ∷ 0 ∷ 1 ∷ 0 ∷ 53 ∷ 0 ∷ 53 ∷ 0 ∷ 8 ∷ 0 ∷ 0 ∷ []

abbrev pub packet_gone_bad : List ℕ
packet_gone_bad = 69 ∷ 0 ∷ 0 ∷ 28 ∷ 0 ∷ 0 ∷ 0 ∷ 0 ∷ 64 ∷ 17 ∷ 102 ∷ 204 ∷ 10 ∷ 1 ∷ 0 ∷ 1 ∷ 10 ∷ 2 ∷ 0 ∷ 1 ∷ 0 ∷ 53 ∷ 0 ∷ 53 ∷ 0 ∷ 8 ∷ 0 ∷ 0 ∷ []

-- the packet is injected at site a and carried over both links
abbrev pub across_both : List JournalEntry
across_both = settling ++ at_start (Inject (site_no 0) 1) ∷ at_start (Carry (link_no 0) Forth 0) ∷ at_start (Carry (link_no 1) Forth 0) ∷ []

-- it reaches site b with TTL 61, as the first delivery
pub arrives_at_the_other_site : (packets_of two_links across_both (packet ∷ [])).verdicts ≡ Delivered 61 (site_no 1) 1 ∷ []
unfolding a_run
arrives_at_the_other_site = refl

-- by pe1, p and pe2
pub goes_by_the_middle : (packets_of two_links across_both (packet ∷ [])).paths ≡ (0 ∷ 1 ∷ 2 ∷ []) ∷ []
unfolding a_run
goes_by_the_middle = refl

-- with TTL 3D and the checksum 69 CD
pub arrives_with_a_new_checksum : (packets_of two_links across_both (packet ∷ [])).delivered ≡ Some (69 ∷ 0 ∷ 0 ∷ 28 ∷ 0 ∷ 0 ∷ 0 ∷ 0 ∷ 61 ∷ 17 ∷ 105 ∷ 205
    ∷ 10 ∷ 1 ∷ 0 ∷ 1 ∷ 10 ∷ 2 ∷ 0 ∷ 1 ∷ 0 ∷ 53 ∷ 0 ∷ 53 ∷ 0 ∷ 8 ∷ 0 ∷ 0 ∷ [])
unfolding a_run
arrives_with_a_new_checksum = refl

-- two links take four of the TTL, and leave one at least
pub arrives_with_ttl_1 : (packets_of two_links across_both (packet_of_ttl_4 ∷ [])).verdicts ≡ Delivered 1 (site_no 1) 1 ∷ []
unfolding a_run
arrives_with_ttl_1 = refl

-- with one less it expires at the far edge
pub expires_at_the_far_edge : (packets_of two_links across_both (packet_of_ttl_3 ∷ [])).verdicts ≡ Dropped rule.TtlExpired (node_no 2) ∷ []
unfolding a_run
expires_at_the_far_edge = refl

-- a bad checksum is found at entry
pub a_bad_checksum_ends_at_entry : (packets_of two_links (settling ++ at_start (Inject (site_no 0) 1) ∷ []) (packet_gone_bad ∷ [])).verdicts ≡ Dropped
    rule.BadChecksum (node_no 0) ∷ []
unfolding a_run
a_bad_checksum_ends_at_entry = refl

-- the site is detached and attached anew while the packet flies
abbrev pub site_comes_back : List JournalEntry
site_comes_back =
    settling ++ at_start (Inject (site_no 0) 1) ∷ at_start (Detach (site_no 1)) ∷ at_start (Attach (site_no 1)) ∷ at_start (Carry (link_no 0) Forth 0)
    ∷ at_start (Carry (link_no 1) Forth 0) ∷ []

-- the near VRF stops importing, and imports again
abbrev pub import_comes_back : List JournalEntry
import_comes_back =
    settling ++ at_start (Import (vrf_no 0) false target) ∷ at_start (Inject (site_no 0) 1) ∷ at_start (Import (vrf_no 0) true target)
    ∷ at_start (Inject (site_no 0) 1) ∷ at_start (Carry (link_no 0) Forth 0) ∷ at_start (Carry (link_no 1) Forth 0) ∷ []

-- LDP is switched off at the first link
abbrev pub switched_off : List JournalEntry
switched_off = settling ++ at_start (LdpAdmin (link_no 0) false) ∷ at_start (Inject (site_no 0) 1) ∷ []

-- three packets are sent, and both links go down
abbrev pub links_go_down : List JournalEntry
links_go_down =
    settling ++ at_start (Inject (site_no 0) 1) ∷ at_start (Inject (site_no 0) 1) ∷ at_start (Inject (site_no 0) 1) ∷ at_start (LinkDown (link_no 1))
    ∷ at_start (LinkDown (link_no 0)) ∷ []

-- of two packets the first is lost on the first link
abbrev pub one_is_lost : List JournalEntry
one_is_lost =
    settling ++ at_start (Inject (site_no 0) 1) ∷ at_start (Inject (site_no 0) 1) ∷ at_start (Lose (link_no 0) Forth 0)
    ∷ at_start (Carry (link_no 0) Forth 0) ∷ at_start (Carry (link_no 1) Forth 0) ∷ []

-- the packet was bound to the attachment that ended
pub the_new_attachment_is_another_one : (packets_of two_links site_comes_back (packet ∷ [])).verdicts ≡ Dropped rule.SiteGone (node_no 2) ∷ []
unfolding a_run
the_new_attachment_is_another_one = refl

-- the import set is looked at as it is, and no message is needed
pub import_is_looked_at_now : (packets_of two_links import_comes_back (packet ∷ packet ∷ [])).verdicts ≡ Dropped rule.NoRoute (node_no 0)
    ∷ Delivered 61 (site_no 1) 1 ∷ []
unfolding a_run
import_is_looked_at_now = refl

-- a route may be held that no label leads to
pub no_path_without_ldp : (packets_of two_links switched_off (packet ∷ [])).verdicts ≡ Dropped rule.NoLsp (node_no 0) ∷ []
unfolding a_run
no_path_without_ldp = refl

-- what flies on a link ends with it, where it was sent
pub links_cut_what_they_carry : (packets_of two_links links_go_down (packet ∷ packet ∷ packet ∷ [])).verdicts ≡ Dropped rule.LinkCut (node_no 0)
    ∷ Dropped rule.LinkCut (node_no 0) ∷ Dropped rule.LinkCut (node_no 0) ∷ []
unfolding a_run
links_cut_what_they_carry = refl

-- the other one is the first delivery
pub the_other_one_arrives : (packets_of two_links one_is_lost (packet ∷ packet ∷ [])).verdicts ≡ Dropped rule.Lost (node_no 0) ∷ Delivered 61 (site_no 1) 1 ∷ []
unfolding a_run
the_other_one_arrives = refl

-- a link that is up can't come up
pub a_link_comes_up_once : refusal two_links across_both (packet ∷ []) (LinkUp (link_no 0)) [] ≡ Some Unchanged
unfolding a_run
a_link_comes_up_once = refl

-- a frame that arrived isn't there to be carried
pub a_frame_is_carried_once : refusal two_links across_both (packet ∷ []) (Carry (link_no 0) Forth 0) [] ≡ Some Empty
unfolding a_run
a_frame_is_carried_once = refl

-- nothing is received over a link that is down
pub nothing_is_heard_after_the_cut : refusal two_links links_go_down (packet ∷ packet ∷ packet ∷ []) (HearLdp (link_no 0) Back) [] ≡ Some Empty
unfolding a_run
nothing_is_heard_after_the_cut = refl

-- another packet may enter
pub another_packet_may_enter : refusal two_links across_both (packet ∷ []) (Inject (site_no 0) 1) packet ≡ None
unfolding a_run
another_packet_may_enter = refl

-- once all is received nothing is in flight, and 36 notices and messages were made: 6 notices, 24 of LDP and 6 of BGP
pub all_is_heard : flight_of two_links settling [] ≡ record { made = 36; items = [] }
unfolding a_run
all_is_heard = refl

-- on its way the packet's frame is the only item: it was made last, and is due after the link's delay
abbrev pub numbers_and_ticks : List Item → List (ℕ × ℕ)
numbers_and_ticks [] = []
numbers_and_ticks (item ∷ items) = (item.number, item.due) ∷ numbers_and_ticks items

abbrev pub on_its_way : List JournalEntry
on_its_way = settling ++ record { tick = 5; step = Inject (site_no 0) 1; damaged = Undamaged } ∷ []

pub one_frame_flies : numbers_and_ticks (flight_of two_links on_its_way (packet ∷ [])).items ≡ (36, 7) ∷ []
unfolding a_run
one_frame_flies = refl

-- what flies over a link is gone with it
pub nothing_flies_over_a_cut_link : (flight_of two_links links_go_down (packet ∷ packet ∷ packet ∷ [])).made ≡ 46
unfolding a_run
nothing_flies_over_a_cut_link = refl

-- no step of the run is refused
pub the_run_is_lawful : IsLawfulJournal two_links across_both (packet ∷ [])
unfolding a_run
the_run_is_lawful = lawful two_links across_both (packet ∷ []) refl

-- and its topology meets the rules of topologies
too_far : (l : ℕ) → suc (suc l) < 2 → ⊥
too_far l h = omega (arith, h)

joins : JoinsNodes (wiring_of two_links)
joins zero h = (omega arith, omega arith)
joins (suc zero) h = (omega arith, omega arith)
joins (suc (suc l)) h = absurd (too_far l h)

differ : EndsDiffer (wiring_of two_links)
differ zero h e = cc
differ (suc zero) h e = cc
differ (suc (suc l)) h e = absurd (too_far l h)

pub too_high : (n : ℕ) → suc (suc (suc n)) < 3 → ⊥
too_high n h = omega (arith, h)

-- what holds at each of the three nodes
of_three : (P : ℕ → Type 0) → P 0 → P 1 → P 2 → (n : ℕ) → n < 3 → P n
of_three P first second third zero h = first
of_three P first second third (suc zero) h = second
of_three P first second third (suc (suc zero)) h = third
of_three P first second third (suc (suc (suc n))) h = absurd (too_high n h)

once : JoinsOnce (wiring_of two_links)
once m n g h =
    of_three (λ m. length (joining (wiring_of two_links) m n) ≤ 1)
    (of_three (λ n. length (joining (wiring_of two_links) 0 n) ≤ 1) (omega arith) (omega arith) (omega arith) n h)
    (of_three (λ n. length (joining (wiring_of two_links) 1 n) ≤ 1) (omega arith) (omega arith) (omega arith) n h)
    (of_three (λ n. length (joining (wiring_of two_links) 2 n) ≤ 1) (omega arith) (omega arith) (omega arith) n h) m g

pub the_topology_is_lawful : IsLawful two_links
unfolding IsDistinct
the_topology_is_lawful = record {
  asn = refl;
  notice_delay = refl;
  bgp_delay = refl;
  few_nodes = omega arith;
  few_links = omega arith;
  few_vrfs = omega arith;
  few_sites = omega arith;
  nodes = search rules;
  links = search rules;
  vrfs = search rules;
  sites = search rules;
  joins_nodes = joins;
  ends_differ = differ;
  joins_once = once;
}

-- 2. Once all is received the world is settled

abbrev pub settled_world : World
settled_world = world_of two_links settling

all_learned : (node l : ℕ) → node < 3 → l < 2 → settled_world.views.learned node l ≡ settled_world.views.changes l
unfolding a_run
all_learned zero zero h g = refl
all_learned zero (suc zero) h g = refl
all_learned (suc zero) zero h g = refl
all_learned (suc zero) (suc zero) h g = refl
all_learned (suc (suc zero)) zero h g = refl
all_learned (suc (suc zero)) (suc zero) h g = refl
all_learned (suc (suc (suc node))) l h g = absurd (too_high node h)
all_learned node (suc (suc l)) h g = absurd (too_far l g)

neither : (a b : Bool) → a ≡ false → b ≡ false → (a || b) ≡ true → ⊥
neither a b x y h = no_end (sym (ap (λ p. p || b) x ∙ y) ∙ h)

above_one : (n k : ℕ) → k < 2 → k ≢ suc (suc n)
above_one n k h e = omega (arith, h, e)

above_two : (n k : ℕ) → k < 3 → suc (suc (suc n)) ≢ k
above_two n k h e = omega (arith, h, e)

no_far_end : (n : ℕ) → ((0 == suc (suc n)) || (1 == suc (suc n))) ≡ true → ⊥
no_far_end n h = neither _ _ (other_test 0 (suc (suc n)) (above_one n 0 (omega arith))) (other_test 1 (suc (suc n)) (above_one n 1 (omega arith))) h

no_third : (n : ℕ) → (1 == suc (suc (suc n))) ≡ false
no_third n = other_test 1 (suc (suc (suc n))) (above_one (suc n) 1 (omega arith))

no_far_end_there : (n : ℕ) → ((1 == suc (suc (suc n))) || (2 == suc (suc (suc n)))) ≡ true → ⊥
no_far_end_there n h = neither _ _ (no_third n) (other_test 2 (suc (suc (suc n))) (λ e. above_two n 2 (omega arith) (sym e))) h

no_far_edge : (n : ℕ) → ((suc (suc (suc n)) == 0) || ((suc (suc (suc n)) == 2) || false)) ≡ true → ⊥
no_far_edge n h =
    neither _ _ (other_test (suc (suc (suc n))) 0 (above_two n 0 (omega arith)))
    (ap (λ b. b || false) (other_test (suc (suc (suc n))) 2 (above_two n 2 (omega arith)))) h

all_heard : (l node : ℕ) → l < 2 → is_end (wiring_of two_links) l node ≡ true →
    settled_world.sessions.heard l node ≡ length (settled_world.sessions.said l (across (wiring_of two_links) l node))
unfolding a_run
all_heard zero zero h e = refl
all_heard zero (suc zero) h e = refl
all_heard zero (suc (suc node)) h e = absurd (no_far_end node e)
all_heard (suc zero) zero h e = absurd (no_end e)
all_heard (suc zero) (suc zero) h e = refl
all_heard (suc zero) (suc (suc zero)) h e = refl
all_heard (suc zero) (suc (suc (suc node))) h e = absurd (no_far_end_there node e)
all_heard (suc (suc l)) node h e = absurd (too_far l h)

-- the two edges are the nodes at either end
both_edges : (P : ℕ → ℕ → Type 0) → P zero (suc (suc zero)) → P (suc (suc zero)) zero → (one other : ℕ) → (one ≡ other → ⊥) →
    is_edge two_links.vrfs one ≡ true → is_edge two_links.vrfs other ≡ true → P one other
both_edges P forth back zero zero d e f = absurd (d refl)
both_edges P forth back zero (suc zero) d e f = absurd (no_end f)
both_edges P forth back zero (suc (suc zero)) d e f = forth
both_edges P forth back zero (suc (suc (suc n))) d e f = absurd (no_far_edge n f)
both_edges P forth back (suc zero) other d e f = absurd (no_end e)
both_edges P forth back (suc (suc zero)) zero d e f = back
both_edges P forth back (suc (suc zero)) (suc zero) d e f = absurd (no_end f)
both_edges P forth back (suc (suc zero)) (suc (suc zero)) d e f = absurd (d refl)
both_edges P forth back (suc (suc zero)) (suc (suc (suc n))) d e f = absurd (no_far_edge n f)
both_edges P forth back (suc (suc (suc n))) other d e f = absurd (no_far_edge n e)

pub the_world_is_settled : IsSettled two_links settled_world
unfolding a_run
the_world_is_settled = record {
  learned = all_learned;
  switched = λ l h up. refl;
  heard = λ l node h e alive. all_heard l node h e;
  peered = both_edges (λ one other. peers_live settled_world.config one other ≡ true) refl refl;
  told = both_edges (λ one other. settled_world.peerings.heard one other ≡ length (settled_world.peerings.told other one)) refl refl;
}
