-- Fates over two links, by computing; and a journal in which LDP is switched off on the way and all comes to rest again.
use Rattle.std.proofs.Common.{ℕ, zero, suc, ◌≡◌, ◌≢◌, ◌<◌, inl, inr, true, false, [], ◌∷◌, ◌++◌, length, refl, arith, sym, subst}
use Rattle.std.specs.Prelude.{◌==◌, ◌||◌}
use Rattle.mn_base.proofs.Bools.{no, or_ways, same_numbers}
use Rattle.mn_wiring.specs.Wiring.{is_end, across}
use Rattle.mn_topo.specs.Network.{wiring_of}
use Rattle.mn_topo.specs.VrfTable.{is_edge}
use Rattle.mn_ledger.specs.Places.{edges}
use Rattle.mn_ledger.specs.World.{World}
use Rattle.mn_ledger.specs.Transport.{lives}
use Rattle.mn_ledger.specs.Bgp.{peers_live}
use Rattle.mn_ledger.specs.Ledger.{world_of}
use Rattle.mn_ledger.proofs.Deciding.{lawful}
use Rattle.mn_ledger.proofs.Members.{In, in_contained}
use Rattle.mn_ledger.proofs.Turning.{end_is}
use Rattle.mn_ledger.proofs.Running.{a_run}
use Rattle.mn_ledger.proofs.TwoLinks.{two_links, settling, packet, the_topology_is_lawful}
use Rattle.mn_settled_laws.specs.TwoLinks.{injection}
use Rattle.mn_reach_laws.specs.Rest.{IsAtRest}
use Rattle.mn_failure_laws.specs.Failures.{no_failure, config_under, IsUnder}
use Rattle.mn_failure_laws.specs.TwoLinks.{far_ldp_off, unlabelled, TwoLinksHaveTheirFates, TwoLinksFail}

pub cases : TwoLinksHaveTheirFates
unfolding a_run
cases = record { whole = refl; soon = refl; no_label = refl; cut = refl; ended = refl; off = refl }

-- 1. What holds of each of two, of each of three, and of the two edges

of_two : (P : ℕ → Type 0) → P 0 → P 1 → (l : ℕ) → l < 2 → P l
of_two P first second zero h = first
of_two P first second (suc zero) h = second
of_two P first second (suc (suc l)) h = absurd (too_far h)
  where
    too_far : suc (suc l) < 2 → ⊥
    too_far h = omega (arith, h)

of_three : (P : ℕ → Type 0) → P 0 → P 1 → P 2 → (n : ℕ) → n < 3 → P n
of_three P first second third zero h = first
of_three P first second third (suc zero) h = second
of_three P first second third (suc (suc zero)) h = third
of_three P first second third (suc (suc (suc n))) h = absurd (too_high h)
  where
    too_high : suc (suc (suc n)) < 3 → ⊥
    too_high h = omega (arith, h)

of_edges : (P : ℕ → Type 0) → P 0 → P 2 → (n : ℕ) → In (edges two_links) n → P n
of_edges P near far n i = elim i [
  | inl e ↦ subst P e near
  | inr j ↦ elim j [ inl e ↦ subst P e far | inr k ↦ absurd k ]
]

of_both : (P : ℕ → ℕ → Type 0) → P 0 2 → P 2 0 → (one other : ℕ) → one ≢ other → In (edges two_links) one → In (edges two_links) other → P one other
of_both P forth back one other d i j =
    of_edges (λ x. x ≢ other → P x other) (of_edges (λ y. 0 ≢ y → P 0 y) (λ e. absurd (e refl)) (λ e. forth) other j)
    (of_edges (λ y. 2 ≢ y → P 2 y) (λ e. back) (λ e. absurd (e refl)) other j) one i d

-- 2. Once all is settled nothing has failed

settled : IsUnder two_links (world_of two_links settling).config no_failure
unfolding a_run
settled = record {
  links = of_two (λ l. (world_of two_links settling).config.is_up l ≡ true) refl refl;
  ldp = λ l h. refl;
  sessions = λ edge peer d i j. of_both (λ x y. peers_live (world_of two_links settling).config x y ≡ peers_live (config_under two_links no_failure) x y) refl
      refl
      edge peer d (in_contained (edges two_links) edge i) (in_contained (edges two_links) peer j);
  imports = λ v h. refl;
  exports = λ v h. refl;
  statics = refl;
  attached = λ s h. refl;
}

-- 3. Once LDP is off on the way, and all is received, that has failed

abbrev unlabelled_world : World
unlabelled_world = world_of two_links unlabelled

under : IsUnder two_links unlabelled_world.config far_ldp_off
unfolding a_run
under = record {
  links = of_two (λ l. unlabelled_world.config.is_up l ≡ true) refl refl;
  ldp = of_two (λ l. unlabelled_world.config.ldp_on l ≡ (config_under two_links far_ldp_off).ldp_on l) refl refl;
  sessions = λ edge peer d i j. of_both (λ x y. peers_live unlabelled_world.config x y ≡ peers_live (config_under two_links far_ldp_off) x y) refl refl
      edge peer d (in_contained (edges two_links) edge i) (in_contained (edges two_links) peer j);
  imports = λ v h. refl;
  exports = λ v h. refl;
  statics = refl;
  attached = λ s h. refl;
}

learned : (node l : ℕ) → node < 3 → l < 2 → unlabelled_world.views.learned node l ≡ unlabelled_world.views.changes l
unfolding a_run
learned node l h g =
    of_three (λ n. unlabelled_world.views.learned n l ≡ unlabelled_world.views.changes l)
    (of_two (λ k. unlabelled_world.views.learned 0 k ≡ unlabelled_world.views.changes k) refl refl l g)
    (of_two (λ k. unlabelled_world.views.learned 1 k ≡ unlabelled_world.views.changes k) refl refl l g)
    (of_two (λ k. unlabelled_world.views.learned 2 k ≡ unlabelled_world.views.changes k) refl refl l g) node h

HasHeard : ℕ → ℕ → Type 0
HasHeard l node = unlabelled_world.sessions.heard l node ≡ length (unlabelled_world.sessions.said l (across (wiring_of two_links) l node))

heard_near : (node : ℕ) → is_end (wiring_of two_links) 0 node ≡ true → HasHeard 0 node
unfolding a_run HasHeard
heard_near node e = elim (end_is (wiring_of two_links) 0 node e) [
  | inl q ↦ subst (HasHeard 0) q refl
  | inr q ↦ subst (HasHeard 0) q refl
]

heard : (l node : ℕ) → l < 2 → is_end (wiring_of two_links) l node ≡ true → lives unlabelled_world.config l ≡ true → HasHeard l node
unfolding a_run
heard l node h e alive =
    of_two (λ k. is_end (wiring_of two_links) k node ≡ true → lives unlabelled_world.config k ≡ true → HasHeard k node)
    (λ e alive. heard_near node e) (λ e alive. absurd (no alive)) l h e alive

edge_in : (n : ℕ) → is_edge two_links.vrfs n ≡ true → In (edges two_links) n
edge_in n h = elim (or_ways (n == 0) ((n == 2) || false) h) [
  | inl e ↦ inl (sym (same_numbers n 0 e))
  | inr e ↦ elim (or_ways (n == 2) false e) [ inl q ↦ inr (inl (sym (same_numbers n 2 q))) | inr q ↦ absurd (no q) ]
]

resting : IsAtRest two_links unlabelled_world
unfolding a_run HasHeard
resting = record {
  learned = learned;
  heard = heard;
  told = λ one other d e f live. of_both (λ x y. unlabelled_world.peerings.heard x y ≡ length (unlabelled_world.peerings.told y x)) refl refl one other d
      (edge_in one e) (edge_in other f);
}

pub fail : TwoLinksFail
unfolding a_run
fail = record {
  lawful = the_topology_is_lawful;
  settled = settled;
  sent = record {
    journal = lawful two_links (unlabelled ++ injection ∷ []) (packet ∷ []) refl;
    sent = record {
      sent = record { entry = injection; number = 1; there = refl; injects = refl; earlier = refl; content = refl };
      since = omega arith;
      until = omega arith;
      resting = resting;
      moving = refl;
      landed = λ channel. refl;
    };
    under = under;
    enters = refl;
  };
}
