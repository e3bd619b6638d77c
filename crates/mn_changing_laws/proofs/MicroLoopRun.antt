-- The two runs, computed.
use Rattle.std.proofs.Common.{rules, arith, ℕ, zero, suc, ◌≡◌, ◌<◌, ◌≤◌, [], ◌∷◌, ◌++◌, length, refl}
use Rattle.std.specs.List.{IsDistinct}
use Rattle.mn_wiring.specs.Wiring.{EndsDiffer, JoinsOnce, joining}
use Rattle.mn_topo.specs.Network.{wiring_of}
use Rattle.mn_topo.specs.Lawful.{IsLawful}
use Rattle.mn_ledger.specs.World.{World}
use Rattle.mn_ledger.specs.Ledger.{world_of}
use Rattle.mn_ledger.specs.Lawful.{IsLawfulJournal}
use Rattle.mn_ledger.proofs.Deciding.{lawful}
use Rattle.mn_ledger.proofs.Running.{a_run}
use Rattle.mn_changing_laws.specs.Changing.{KnowAllChanges}
use Rattle.mn_changing_laws.specs.MicroLoop.{micro_loop}
use Rattle.mn_changing_laws.specs.MicroLoopRun.{settling_four, x_learns, sent_round, sent_on, packet_of_ttl_5, TheLawIsMet}
use Rattle.mn_changing_laws.proofs.MicroLoop.{joins, none-at-15}

too_far : (l : ℕ) → suc (suc (suc (suc l))) < 4 → ⊥
too_far l h = omega (arith, h)

differ : (cost : ℕ) → EndsDiffer (wiring_of (micro_loop cost))
differ cost zero h e = cc
differ cost (suc zero) h e = cc
differ cost (suc (suc zero)) h e = cc
differ cost (suc (suc (suc zero))) h e = cc
differ cost (suc (suc (suc (suc l)))) h e = absurd (too_far l h)

-- what holds at each of the four nodes
of_four : (P : ℕ → Type 0) → P 0 → P 1 → P 2 → P 3 → (n : ℕ) → n < 4 → P n
of_four P a b c d zero h = a
of_four P a b c d (suc zero) h = b
of_four P a b c d (suc (suc zero)) h = c
of_four P a b c d (suc (suc (suc zero))) h = d
of_four P a b c d (suc (suc (suc (suc n)))) h = absurd (too_far n h)

once : (cost : ℕ) → JoinsOnce (wiring_of (micro_loop cost))
once cost m n g h =
    of_four (λ m. length (joining (wiring_of (micro_loop cost)) m n) ≤ 1)
    (of_four (λ n. length (joining (wiring_of (micro_loop cost)) 0 n) ≤ 1) (omega arith) (omega arith) (omega arith) (omega arith) n h)
    (of_four (λ n. length (joining (wiring_of (micro_loop cost)) 1 n) ≤ 1) (omega arith) (omega arith) (omega arith) (omega arith) n h)
    (of_four (λ n. length (joining (wiring_of (micro_loop cost)) 2 n) ≤ 1) (omega arith) (omega arith) (omega arith) (omega arith) n h)
    (of_four (λ n. length (joining (wiring_of (micro_loop cost)) 3 n) ≤ 1) (omega arith) (omega arith) (omega arith) (omega arith) n h) m g

lawful-15 : IsLawful (micro_loop 15)
unfolding IsDistinct
lawful-15 = record {
  asn = refl;
  notice_delay = refl;
  bgp_delay = refl;
  few_nodes = omega arith;
  few_links = omega arith;
  few_vrfs = omega arith;
  few_sites = omega arith;
  nodes = search rules;
  links = search rules;
  vrfs = search rules;
  sites = search rules;
  joins_nodes = joins 15;
  ends_differ = differ 15;
  joins_once = once 15;
}

lawful-50 : IsLawful (micro_loop 50)
unfolding IsDistinct
lawful-50 = record {
  asn = refl;
  notice_delay = refl;
  bgp_delay = refl;
  few_nodes = omega arith;
  few_links = omega arith;
  few_vrfs = omega arith;
  few_sites = omega arith;
  nodes = search rules;
  links = search rules;
  vrfs = search rules;
  sites = search rules;
  joins_nodes = joins 50;
  ends_differ = differ 50;
  joins_once = once 50;
}

journal-15 : IsLawfulJournal (micro_loop 15) (settling_four ++ (x_learns ++ sent_on)) (packet_of_ttl_5 ∷ [])
unfolding a_run
journal-15 = lawful (micro_loop 15) (settling_four ++ (x_learns ++ sent_on)) (packet_of_ttl_5 ∷ []) refl

journal-50 : IsLawfulJournal (micro_loop 50) (settling_four ++ (x_learns ++ sent_round)) (packet_of_ttl_5 ∷ [])
unfolding a_run
journal-50 = lawful (micro_loop 50) (settling_four ++ (x_learns ++ sent_round)) (packet_of_ttl_5 ∷ []) refl

known-15 : KnowAllChanges (micro_loop 15) (world_of (micro_loop 15) settling_four)
unfolding a_run
known-15 node l below inside =
    let w : World = world_of (micro_loop 15) settling_four in
    of_four (λ n. w.views.learned n l ≡ w.views.changes l)
    (of_four (λ l. w.views.learned 0 l ≡ w.views.changes l) refl refl refl refl l inside)
    (of_four (λ l. w.views.learned 1 l ≡ w.views.changes l) refl refl refl refl l inside)
    (of_four (λ l. w.views.learned 2 l ≡ w.views.changes l) refl refl refl refl l inside)
    (of_four (λ l. w.views.learned 3 l ≡ w.views.changes l) refl refl refl refl l inside) node below

known-50 : KnowAllChanges (micro_loop 50) (world_of (micro_loop 50) settling_four)
unfolding a_run
known-50 node l below inside =
    let w : World = world_of (micro_loop 50) settling_four in
    of_four (λ n. w.views.learned n l ≡ w.views.changes l)
    (of_four (λ l. w.views.learned 0 l ≡ w.views.changes l) refl refl refl refl l inside)
    (of_four (λ l. w.views.learned 1 l ≡ w.views.changes l) refl refl refl refl l inside)
    (of_four (λ l. w.views.learned 2 l ≡ w.views.changes l) refl refl refl refl l inside)
    (of_four (λ l. w.views.learned 3 l ≡ w.views.changes l) refl refl refl refl l inside) node below

pub the_law_is_met : TheLawIsMet
unfolding a_run
the_law_is_met = record {
  lawful = lawful-15;
  changes = record { journal = journal-15; known = known-15; alone = refl };
  bound = refl;
  none = none-at-15;
  goes_on = refl;
  lawful_too = lawful-50;
  changes_too = record { journal = journal-50; known = known-50; alone = refl };
  goes_round = refl;
  expires = refl;
}
