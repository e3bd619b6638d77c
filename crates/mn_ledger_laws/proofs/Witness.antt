-- What the laws ask is met by the run of a packet over the network of two links; and what the definitions give there.
use Rattle.std.proofs.Common.{arith, ℕ, zero, suc, ◌<◌, ◌≤◌, inl, inr, sym, subst, None}
use Rattle.std.proofs.lemmas.Bool.{ltb-true}
use Rattle.std.proofs.lemmas.Bool.Decides.{leb_tells}
use Rattle.std.proofs.lemmas.Option.{same_Some}
use Rattle.std.specs.List.{list_all}
use Rattle.std.specs.Prelude.{◌≡◌, refl, List, [], ◌∷◌, ◌++◌, length, map, slice_index, nat_lt, Some, true}
use Rattle.mn_wiring.specs.Wiring.{is_end}
use Rattle.mn_wiring.specs.declared.links.Dir.TheVariants.{Forth, Back}
use Rattle.mn_ipv4.specs.Header.{aged}
use Rattle.mn_topo.specs.Lawful.{IsLawful}
use Rattle.mn_topo.specs.Network.{wiring_of}
use Rattle.mn_topo.specs.declared.steps.Step.TheVariants.{Inject, Carry}
use Rattle.mn_topo.specs.declared.steps.JournalEntry.{JournalEntry}
use Rattle.mn_topo.specs.declared.steps.Damaged.TheVariants.{Undamaged}
use Rattle.mn_ledger.specs.Ldp.{Initialization, KeepAlive, Address, Mapping}
use Rattle.mn_ledger.specs.Lawful.{IsLawfulJournal}
use Rattle.mn_ledger.proofs.TwoLinks.{link_no, site_no, two_links, at_start, settling, packet, across_both, the_run_is_lawful, the_topology_is_lawful}
use Rattle.mn_ledger_laws.specs.Accounts.{Sending, IsSent}
use Rattle.mn_ledger_laws.specs.Deliveries.{deliveries_of}
use Rattle.mn_ledger_laws.specs.Ids.{ids_of, frames_sent, frame_number}
use Rattle.mn_ledger_laws.specs.Named.{AreBytes}
use Rattle.mn_ledger_laws.proofs.There.{at_all}
use Rattle.mn_ledger.proofs.Running.{a_run}
pub use Rattle.mn_ledger.proofs.Premises.{as_many_packets as a_packet_each}

-- 1. The premises: a lawful topology, a lawful journal, a packet for each injection, of bytes, and an end of a link

pub a_lawful_topology : IsLawful two_links
a_lawful_topology = the_topology_is_lawful

pub a_lawful_journal : IsLawfulJournal two_links across_both (packet ∷ [])
a_lawful_journal = the_run_is_lawful

-- numbers that pass the test are bytes, and so is the 0 past the last
are_bytes : (xs : List ℕ) → list_all (λ x. nat_lt x 256) xs ≡ true → (i : ℕ) → slice_index xs i < 256
are_bytes xs h i = elim (leb_tells (length xs) i) [
  | inl q ↦ subst (λ n. n < 256) (sym (past xs i q.1)) (omega arith)
  | inr q ↦ ltb-true _ _ (at_all (λ x. nat_lt x 256) xs i 0 h q.1)
]
  where
    none : (n i : ℕ) → suc n ≤ i → i ≡ 0 → ⊥
    none n i h e = omega (arith, h, e)

    past : (xs : List ℕ) (i : ℕ) → length xs ≤ i → slice_index xs i ≡ 0
    past [] i h = refl
    past (x ∷ xs) zero h = absurd (none (length xs) 0 h refl)
    past (x ∷ xs) (suc i) h = past xs i (omega (arith, h))

no_other : (bytes : List ℕ) → None ≡ Some bytes → ⊥
no_other bytes h = cc

pub packets_of_bytes : AreBytes (packet ∷ [])
packets_of_bytes zero bytes h i = subst (λ b. slice_index b i < 256) (same_Some packet bytes h) (are_bytes packet refl i)
packets_of_bytes (suc j) bytes h i = absurd (no_other bytes h)

pub an_end_of_a_link : is_end (wiring_of two_links) 0 1 ≡ true
an_end_of_a_link = refl

-- 2. The packet that is sent, and its delivery

abbrev sent_first : Sending
sent_first = record { packet = 0; place = 39; site = 0; bytes = packet }

pub it_is_sent : IsSent across_both (packet ∷ []) sent_first
it_is_sent = record { entry = at_start (Inject (site_no 0) 1); number = 1; there = refl; injects = refl; earlier = refl; content = refl }

-- it is the first delivery, cut to its total length, its TTL less by the three nodes of its path
pub one_delivery : deliveries_of two_links across_both (packet ∷ []) ≡ record { tick = 0; bytes = aged packet 3 } ∷ []
unfolding a_run
one_delivery = refl

-- each delivery bears the tick of its step
abbrev carried_later : List JournalEntry
carried_later = settling ++ record { tick = 5; step = Inject (site_no 0) 1; damaged = Undamaged } ∷ record {
  tick = 7;
  step =
      Carry (link_no 0) Forth 0;
  damaged = Undamaged;
} ∷
    record { tick = 9; step = Carry (link_no 1) Forth 0; damaged = Undamaged } ∷ []

pub at_its_tick : deliveries_of two_links carried_later (packet ∷ []) ≡ record { tick = 9; bytes = aged packet 3 } ∷ []
unfolding a_run
at_its_tick = refl

-- one frame was sent over each link, and none back
pub one_frame_each : map (λ l. length (frames_sent two_links across_both (packet ∷ []) l Forth)) (0 ∷ 1 ∷ []) ≡ 1 ∷ 1 ∷ []
unfolding a_run
one_frame_each = refl

pub none_back : frames_sent two_links across_both (packet ∷ []) 0 Back ≡ []
unfolding a_run
none_back = refl

-- the second of two frames has the number 2, whichever flies on first
abbrev two_are_sent : List JournalEntry
two_are_sent = settling ++ at_start (Inject (site_no 0) 1) ∷ at_start (Inject (site_no 0) 1) ∷ at_start (Carry (link_no 0) Forth 1) ∷ []

pub frames_are_numbered : map (frame_number two_links two_are_sent (packet ∷ packet ∷ []) 0 Forth)
    (frames_sent two_links two_are_sent (packet ∷ packet ∷ []) 0 Forth) ≡ 1 ∷ 2 ∷ []
unfolding a_run
frames_are_numbered = refl

-- a second life begins with the id 1 again
pub ids_begin_anew : ids_of (Initialization ∷ KeepAlive ∷ Address ∷ Mapping 1 ∷ Initialization ∷ KeepAlive ∷ []) ≡ 1 ∷ 2 ∷ 3 ∷ 4 ∷ 1 ∷ 2 ∷ []
ids_begin_anew = refl
