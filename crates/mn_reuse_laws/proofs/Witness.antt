-- What the laws ask is met in the network of two links, whose nodes are 0 (pe1), 1 (p) and 2 (pe2).
use Rattle.std.proofs.Common.{arith}
use Rattle.std.specs.Prelude.{◌≡◌, refl, ℕ, true, false, List, [], ◌∷◌, ◌++◌, Some, None, map}
use Rattle.mn_wiring.specs.declared.links.Dir.TheVariants.{Forth, Back}
use Rattle.mn_wiring.specs.Wiring.{is_end, receiver}
use Rattle.mn_topo.specs.Network.{wiring_of}
use Rattle.mn_topo.specs.Lawful.{IsLawful}
use Rattle.mn_topo.specs.Steps.{fits}
use Rattle.mn_topo.specs.declared.steps.Step.TheVariants.{LdpAdmin, HearLdp, Inject}
use Rattle.mn_topo.specs.declared.steps.JournalEntry.{JournalEntry}
use Rattle.mn_topo.specs.declared.steps.Damaged.TheVariants.{Undamaged}
use Rattle.mn_node.specs.Ldp.{Withdraw, Release}
use Rattle.mn_ledger.specs.World.{World}
use Rattle.mn_ledger.specs.Transport.{is_mapped, usable}
use Rattle.mn_ledger.specs.Packets.{flying_on}
use Rattle.mn_ledger.specs.Ledger.{after, world_of, packets_of}
use Rattle.mn_ledger.specs.Lawful.{GoesForward, IsLawfulJournal}
use Rattle.mn_ledger.specs.OneMore.{tick_from}
use Rattle.mn_ledger.specs.Refusal.{refusal_at}
use Rattle.mn_ledger.proofs.Deciding.{lawful}
use Rattle.mn_ledger.proofs.TwoLinks.{two_links, link_no, site_no, settling, packet, the_topology_is_lawful}
use Rattle.mn_settled_laws.specs.Offers.{offers_in}
use Rattle.mn_reuse_laws.specs.Answers.{heard_from, flying_from}
use Rattle.mn_reuse_laws.specs.Resting.{is_at_rest, rested_of}
use Rattle.mn_labels.specs.Labels.{label_now}
use Rattle.mn_reuse_laws.specs.Labels.{labels_of, is_free}
use Rattle.mn_reuse_laws.proofs.Runs.{at, withdrawing, quieting, after_the_life}
use Rattle.mn_ledger.proofs.Running.{a_run}

a_lawful_topology : IsLawful two_links
a_lawful_topology = the_topology_is_lawful

-- 1. p has ceased to offer pe2's FEC, and its Release was received

abbrev released_world : World
released_world = world_of two_links (settling ++ at 0 withdrawing)

a_lawful_journal : IsLawfulJournal two_links (settling ++ at 0 withdrawing) []
unfolding a_run
a_lawful_journal = lawful two_links (settling ++ at 0 withdrawing) [] refl

it_rests : is_at_rest two_links released_world 1 2 ≡ true
unfolding a_run
it_rests = refl

-- while its Withdraw or its Release flies it doesn't, and the label is still kept
owed : is_at_rest two_links (world_of two_links (settling ++ at 0 (LdpAdmin (link_no 1) false ∷ []))) 1 2 ≡ false
unfolding a_run
owed = refl

a_mention_flies : flying_from two_links (world_of two_links (settling ++ at 0 (LdpAdmin (link_no 1) false ∷ []))) 0 1 ≡ Withdraw 2 ∷ []
unfolding a_run
a_mention_flies = refl

a_release_flies : flying_from two_links (world_of two_links (settling ++ at 0 (LdpAdmin (link_no 1) false ∷ HearLdp (link_no 0) Back ∷ []))) 0 0
    ≡ Release 2 ∷ Withdraw 2 ∷ []
unfolding a_run
a_release_flies = refl

it_is_kept : is_mapped false 2 (heard_from two_links (world_of two_links (settling ++ at 0 (LdpAdmin (link_no 1) false ∷ []))) 0 1) ≡ true
unfolding a_run
it_is_kept = refl

an_end_of_the_link : is_end (wiring_of two_links) 0 1 ≡ true
an_end_of_the_link = refl

-- 2. The session of pe1 and p ends, and lays pe1's FEC to rest at p

abbrev cutting : JournalEntry
cutting = record { tick = 0; step = LdpAdmin (link_no 0) false; damaged = Undamaged }

it_fits : fits two_links cutting.step ≡ true
it_fits = refl

none_refuses_it : refusal_at two_links released_world (packets_of two_links (settling ++ at 0 withdrawing) []) 44 cutting.step [] ≡ None
unfolding a_run
none_refuses_it = refl

awake_before : is_at_rest two_links released_world 1 0 ≡ false
unfolding a_run
awake_before = refl

at_rest_after : is_at_rest two_links (after two_links released_world cutting.step) 1 0 ≡ true
unfolding a_run
at_rest_after = refl

not_offered_after : offers_in two_links (after two_links released_world cutting.step) 1 2 ≡ false
unfolding a_run
not_offered_after = refl

-- 3. Where that session alone has ended pe2's FEC is at rest at pe1, and p can send towards pe2

abbrev one_cut : World
one_cut = world_of two_links (settling ++ cutting ∷ [])

at_rest_at_pe1 : is_at_rest two_links one_cut 0 2 ≡ true
unfolding a_run
at_rest_at_pe1 = refl

a_way_from_p : usable two_links one_cut.config one_cut.views one_cut.sessions 1 2 ≡ Some (2, 1)
unfolding a_run
a_way_from_p = refl

-- 4. A frame flies to p, bound for pe2, whose FEC is at rest there

abbrev overtaken : List JournalEntry
overtaken = settling ++ at 0 (Inject (site_no 0) 1 ∷ []) ++ at 0 quieting

overtaken_is_lawful : IsLawfulJournal two_links overtaken (packet ∷ [])
unfolding a_run
overtaken_is_lawful = lawful two_links overtaken (packet ∷ []) refl

its_frame : map {B = ℕ × ℕ} (λ token. (token.edge, token.sent)) (flying_on (packets_of two_links overtaken (packet ∷ [])) 0 Forth) ≡ (2, 0) ∷ []
unfolding a_run
its_frame = refl

to_p : receiver (wiring_of two_links) 0 Forth ≡ 1
to_p = refl

at_rest_there : is_at_rest two_links (world_of two_links overtaken) 1 2 ≡ true
unfolding a_run
at_rest_there = refl

its_label : label_now (labels_of two_links overtaken 1) 2 ≡ Some 16
unfolding a_run labels_of
its_label = refl

time_goes_on : GoesForward two_links (tick_from 0 overtaken) (packets_of two_links overtaken (packet ∷ [])) 2
unfolding a_run
time_goes_on = record { later = omega arith; due = refl }

-- 5. It is free once more than 2000 ticks have passed since, and its label then means pe1's FEC

not_yet_free : is_free two_links (world_of two_links overtaken) 1 (rested_of two_links overtaken 1) 2000 2 ≡ false
unfolding a_run
not_yet_free = refl

free_then : is_free two_links (world_of two_links overtaken) 1 (rested_of two_links overtaken 1) 2001 2 ≡ true
unfolding a_run
free_then = refl

given_away : (labels_of two_links after_the_life 1).fecs ≡ Some 16 ∷ None ∷ None ∷ []
unfolding a_run labels_of
given_away = refl
