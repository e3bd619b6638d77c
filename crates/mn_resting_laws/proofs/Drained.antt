-- Where nothing is left to a drain, the network is at rest.
use Rattle.std.proofs.Common.{ℕ, ◌≡◌, ◌≢◌, ◌<◌, ◌≤◌, inl, inr, true, false, List, length, arith, sym, ◌∙◌, ap, subst}
use Rattle.std.specs.Prelude.{◌==◌, ◌&&◌, ◌||◌, not, nat_lt, nat_le}
use Rattle.std.proofs.lemmas.Bool.Decides.{leb_tells, nat_tests}
use Rattle.mn_wiring.specs.Wiring.{is_end, across, sender, receiver}
use Rattle.mn_wiring.specs.declared.links.Dir.{Dir}
use Rattle.mn_wiring.specs.declared.links.Dir.TheVariants.{Forth, Back}
use Rattle.mn_base.proofs.Bools.{less_is}
use Rattle.mn_topo.specs.VrfTable.{is_edge}
use Rattle.mn_topo.specs.Network.{Network, wiring_of}
use Rattle.mn_topo.specs.Lawful.{IsLawful}
use Rattle.mn_topo.specs.declared.steps.Step.TheVariants as step
use Rattle.mn_ledger.specs.World.{World}
use Rattle.mn_ledger.specs.Transport.{lives}
use Rattle.mn_ledger.specs.Bgp.{peers_live}
use Rattle.mn_ledger.specs.Lawful.{IsLawfulJournal}
use Rattle.mn_ledger.proofs.Turning.{dir_ends, end_is}
use Rattle.mn_ledger.proofs.Peers.{live_sym}
use Rattle.mn_ledger.specs.Turns.{IsInTurn}
use Rattle.mn_ledger.proofs.InTurn.{in_turn}
use Rattle.mn_topo.specs.declared.steps.JournalEntry.{JournalEntry}
use Rattle.mn_ledger.specs.Ledger.{world_of}
use Rattle.mn_drain_laws.specs.Drain.{AllLearned, IsDrained}
use Rattle.mn_reach_laws.specs.Rest.{IsAtRest}
use Rattle.mn_drain_laws.proofs.Drain.{differs}

not-reached : (a b : ℕ) → a < b → nat_le b a ≡ false
not-reached a b h = grind (arith, nat_tests, h)

-- two that are in order and not less are the same
both-ends : (a b : ℕ) → a ≤ b → (a < b → ⊥) → a ≡ b
both-ends a b h d = elim (leb_tells b a) [ inl q ↦ omega (arith, h, q.1) | inr q ↦ absurd (d q.1) ]

all-learned : (t : Network) (w : World) → IsInTurn t w → IsDrained t w → AllLearned t w.views
all-learned t w g done node l hn hl =
    both-ends (w.views.learned node l) (w.views.changes l) (g.learned node l) (λ less. done (step.Learn (record { 0 = node }) (record { 0 = l })) (record {
      fitting = ap (λ b. b && nat_lt l (length t.links)) (less_is node (length t.loopbacks) hn) ∙ less_is l (length t.links) hl;
      there = not-reached (w.views.learned node l) (w.views.changes l) less;
      in_turn = tt;
    }))

hears-end : (t : Network) (w : World) → IsLawful t → IsDrained t w → AllLearned t w.views → (l : ℕ) (dir : Dir) → l < length t.links → lives w.config l ≡ true
    → w.sessions.heard l (receiver (wiring_of t) l dir) < length (w.sessions.said l (sender (wiring_of t) l dir)) → ⊥
hears-end t w lawful done all l dir h alive less = done (step.HearLdp (record { 0 = l }) dir) (record {
  fitting = less_is l (length t.links) h;
  there =
      ap (λ b. not b || nat_le (length (w.sessions.said l (sender (wiring_of t) l dir))) (w.sessions.heard l (receiver (wiring_of t) l dir))) alive
      ∙ not-reached (w.sessions.heard l (receiver (wiring_of t) l dir)) (length (w.sessions.said l (sender (wiring_of t) l dir))) less;
  in_turn = all;
})

all-heard : (t : Network) (w : World) → IsLawful t → IsDrained t w → AllLearned t w.views → (l node : ℕ) → l < length t.links
    → is_end (wiring_of t) l node ≡ true → lives w.config l ≡ true → w.sessions.heard l node < length (w.sessions.said l (across (wiring_of t) l node)) → ⊥
all-heard t w lawful done all l node h e alive less = elim (end_is (wiring_of t) l node e) [
  | inl q ↦ by_dir Back q
  | inr q ↦ by_dir Forth q
]
  where
    by_dir : (dir : Dir) → receiver (wiring_of t) l dir ≡ node → ⊥
    by_dir dir q =
        let ends = dir_ends (wiring_of t) l dir (lawful.ends_differ l h) in
        hears-end t w lawful done all l dir h alive
        (subst (λ n. w.sessions.heard l (receiver (wiring_of t) l dir) < length (w.sessions.said l n)) ends.1
        (subst (λ n. w.sessions.heard l n < length (w.sessions.said l (across (wiring_of t) l n))) (sym q) less))

all-told : (t : Network) (w : World) → IsDrained t w → AllLearned t w.views → (one other : ℕ) → one ≢ other → is_edge t.vrfs one ≡ true
    → is_edge t.vrfs other ≡ true → peers_live w.config one other ≡ true → w.peerings.heard one other < length (w.peerings.told other one) → ⊥
all-told t w done all one other d e f live less = done (step.HearBgp (record { 0 = other }) (record { 0 = one })) (record {
  fitting = ap (λ b. (b && is_edge t.vrfs one) && not (other == one)) f ∙ ap (λ b. b && not (other == one)) e ∙ ap not (differs other one (λ q. d (sym q)));
  there =
      ap (λ b. not b || nat_le (length (w.peerings.told other one)) (w.peerings.heard one other)) (sym (live_sym w.config one other d) ∙ live)
      ∙ not-reached (w.peerings.heard one other) (length (w.peerings.told other one)) less;
  in_turn = all;
})

rests : (t : Network) (w : World) → IsLawful t → IsInTurn t w → IsDrained t w → IsAtRest t w
rests t w lawful g done =
    let all : AllLearned t w.views = all-learned t w g done in
    record {
      learned = all;
      heard =
          λ l node h e alive. both-ends (w.sessions.heard l node) (length (w.sessions.said l (across (wiring_of t) l node))) (g.ldp l node h e).heard
          (all-heard t w lawful done all l node h e alive);
      told =
          λ one other d e f live. both-ends (w.peerings.heard one other) (length (w.peerings.told other one)) (g.bgp one other d).heard
          (all-told t w done all one other d e f live);
    }

pub drained_is_at_rest : (t : Network) (es : List JournalEntry) (ps : List (List ℕ)) → IsLawful t → IsLawfulJournal t es ps
    → IsDrained t (world_of t es) → IsAtRest t (world_of t es)
drained_is_at_rest t es ps lawful journal done = rests t (world_of t es) lawful (in_turn t es ps lawful journal) done
