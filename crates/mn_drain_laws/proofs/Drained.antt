-- Where nothing is left to a drain, the world is settled, if LDP and BGP are switched on.
use Rattle.std.proofs.Common.{ℕ, ◌≡◌, ◌≢◌, ◌<◌, ◌≤◌, inl, inr, true, false, List, [], ◌∷◌, ◌++◌, map, length, refl, arith, sym, ◌∙◌, ap, subst, None}
use Rattle.std.specs.Prelude.{◌==◌, ◌&&◌, ◌||◌, not, nat_lt, nat_le}
use Rattle.std.proofs.lemmas.Bool.Decides.{leb_tells, nat_tests}
use Rattle.mn_wiring.specs.Wiring.{is_end, across, sender, receiver}
use Rattle.mn_wiring.specs.declared.links.Dir.{Dir}
use Rattle.mn_wiring.specs.declared.links.Dir.TheVariants.{Forth, Back}
use Rattle.mn_base.proofs.Bools.{less_is}
use Rattle.mn_topo.specs.VrfTable.{is_edge}
use Rattle.mn_topo.specs.Network.{Network, wiring_of}
use Rattle.mn_topo.specs.Lawful.{IsLawful}
use Rattle.mn_topo.specs.declared.steps.Step.{Step}
use Rattle.mn_topo.specs.declared.steps.Step.TheVariants as step
use Rattle.mn_topo.specs.declared.steps.JournalEntry.{JournalEntry}
use Rattle.mn_ledger.specs.World.{World}
use Rattle.mn_ledger.specs.Transport.{lives}
use Rattle.mn_ledger.specs.Bgp.{peers_live}
use Rattle.mn_ledger.specs.Packets.{Packets}
use Rattle.mn_ledger.specs.Ledger.{after, start, world_from, world_of}
use Rattle.mn_ledger.specs.Lawful.{IsLawfulJournal}
use Rattle.mn_ledger.specs.Settled.{IsSettled}
use Rattle.mn_ledger.specs.Refusal.{refusal_at}
use Rattle.mn_ledger.proofs.Turning.{dir_ends, end_is}
use Rattle.mn_ledger.proofs.Peers.{live_sym}
use Rattle.mn_ledger.proofs.GoingBy.{or_both, not_false, above}
use Rattle.mn_ledger.specs.Turns.{IsInTurn}
use Rattle.mn_ledger.proofs.InTurn.{in_turn}
use Rattle.mn_settled_laws.proofs.Arrival.{world_from-append}
use Rattle.mn_drain_laws.specs.Drain.{AllLearned, IsDrainStep, IsDrain, after_steps, IsDrained, IsSwitchedOn}
use Rattle.mn_drain_laws.proofs.Drain.{goes-on, differs, unequal, less-is, and-both}

not-reached : (a b : ℕ) → a < b → nat_le b a ≡ false
not-reached a b h = grind (arith, nat_tests, h)

-- two that are in order and not less are the same
both-ends : (a b : ℕ) → a ≤ b → (a < b → ⊥) → a ≡ b
both-ends a b h d = elim (leb_tells b a) [ inl q ↦ omega (arith, h, q.1) | inr q ↦ absurd (d q.1) ]

equal-not-less : {a b : ℕ} → a ≡ b → nat_le b a ≡ false → ⊥
equal-not-less {a = a} {b = b} e h = over e (above b a h)
  where
    over : a ≡ b → a < b → ⊥
    over e l = omega (arith, e, l)

-- 1. Along a drain

drain-goes : (t : Network) (ss : List Step) (w : World) → IsLawful t → IsInTurn t w → IsDrain t w ss → IsInTurn t (after_steps t w ss)
drain-goes t [] w lawful g d = g
drain-goes t (s ∷ ss) w lawful g d = drain-goes t ss (after t w s) lawful (goes-on t w s lawful g d.0) d.1

same-config : (t : Network) (w : World) (s : Step) → IsDrainStep t w s → (after t w s).config ≡ w.config
same-config t w (step.Learn n l) d = refl
same-config t w (step.HearLdp l dir) d = refl
same-config t w (step.HearBgp a b) d = refl
same-config t w (step.LinkUp l) d = absurd d.in_turn
same-config t w (step.LinkDown l) d = absurd d.in_turn
same-config t w (step.LdpAdmin l on) d = absurd d.in_turn
same-config t w (step.BgpUp a b) d = absurd d.in_turn
same-config t w (step.BgpDown a b) d = absurd d.in_turn
same-config t w (step.AddRoute s p) d = absurd d.in_turn
same-config t w (step.DelRoute s p) d = absurd d.in_turn
same-config t w (step.Import v on x) d = absurd d.in_turn
same-config t w (step.Export v on x) d = absurd d.in_turn
same-config t w (step.Attach s) d = absurd d.in_turn
same-config t w (step.Detach s) d = absurd d.in_turn
same-config t w (step.Inject s n) d = absurd d.in_turn
same-config t w (step.Carry l dir place) d = absurd d.in_turn
same-config t w (step.Lose l dir place) d = absurd d.in_turn
same-config t w (step.Tick ticks) d = absurd d.in_turn

drain-config : (t : Network) (ss : List Step) (w : World) → IsDrain t w ss → (after_steps t w ss).config ≡ w.config
drain-config t [] w d = refl
drain-config t (s ∷ ss) w d = drain-config t ss (after t w s) d.1 ∙ same-config t w s d.0

-- 2. At its end

all-learned : (t : Network) (w : World) → IsInTurn t w → IsDrained t w → AllLearned t w.views
all-learned t w g done node l hn hl =
    both-ends (w.views.learned node l) (w.views.changes l) (g.learned node l) (λ less. done (step.Learn (record { 0 = node }) (record { 0 = l })) (record {
      fitting = ap (λ b. b && nat_lt l (length t.links)) (less_is node (length t.loopbacks) hn) ∙ less_is l (length t.links) hl;
      there = not-reached (w.views.learned node l) (w.views.changes l) less;
      in_turn = tt;
    }))

hears-end : (t : Network) (w : World) → IsLawful t → IsDrained t w → AllLearned t w.views → (l : ℕ) (dir : Dir) → l < length t.links → lives w.config l ≡ true
    → w.sessions.heard l (receiver (wiring_of t) l dir) < length (w.sessions.said l (sender (wiring_of t) l dir)) → ⊥
hears-end t w lawful done all l dir h alive less = done (step.HearLdp (record { 0 = l }) dir) (record {
  fitting = less_is l (length t.links) h;
  there =
      ap (λ b. not b || nat_le (length (w.sessions.said l (sender (wiring_of t) l dir))) (w.sessions.heard l (receiver (wiring_of t) l dir))) alive
      ∙ not-reached (w.sessions.heard l (receiver (wiring_of t) l dir)) (length (w.sessions.said l (sender (wiring_of t) l dir))) less;
  in_turn = all;
})

all-heard : (t : Network) (w : World) → IsLawful t → IsDrained t w → AllLearned t w.views → (l node : ℕ) → l < length t.links
    → is_end (wiring_of t) l node ≡ true → lives w.config l ≡ true → w.sessions.heard l node < length (w.sessions.said l (across (wiring_of t) l node)) → ⊥
all-heard t w lawful done all l node h e alive less = elim (end_is (wiring_of t) l node e) [
  | inl q ↦ by_dir Back q
  | inr q ↦ by_dir Forth q
]
  where
    by_dir : (dir : Dir) → receiver (wiring_of t) l dir ≡ node → ⊥
    by_dir dir q =
        let ends = dir_ends (wiring_of t) l dir (lawful.ends_differ l h) in
        hears-end t w lawful done all l dir h alive
        (subst (λ n. w.sessions.heard l (receiver (wiring_of t) l dir) < length (w.sessions.said l n)) ends.1
        (subst (λ n. w.sessions.heard l n < length (w.sessions.said l (across (wiring_of t) l n))) (sym q) less))

all-told : (t : Network) (w : World) → IsDrained t w → AllLearned t w.views → (one other : ℕ) → one ≢ other → is_edge t.vrfs one ≡ true
    → is_edge t.vrfs other ≡ true → peers_live w.config one other ≡ true → w.peerings.heard one other < length (w.peerings.told other one) → ⊥
all-told t w done all one other d e f live less = done (step.HearBgp (record { 0 = other }) (record { 0 = one })) (record {
  fitting = ap (λ b. (b && is_edge t.vrfs one) && not (other == one)) f ∙ ap (λ b. b && not (other == one)) e ∙ ap not (differs other one (λ q. d (sym q)));
  there =
      ap (λ b. not b || nat_le (length (w.peerings.told other one)) (w.peerings.heard one other)) (sym (live_sym w.config one other d) ∙ live)
      ∙ not-reached (w.peerings.heard one other) (length (w.peerings.told other one)) less;
  in_turn = all;
})

settles : (t : Network) (w : World) → IsLawful t → IsInTurn t w → IsDrained t w → IsSwitchedOn t w.config → IsSettled t w
settles t w lawful g done on =
    let all : AllLearned t w.views = all-learned t w g done in
    record {
      learned = all;
      switched = on.switched;
      heard =
          λ l node h e alive. both-ends (w.sessions.heard l node) (length (w.sessions.said l (across (wiring_of t) l node))) (g.ldp l node h e).heard
          (all-heard t w lawful done all l node h e alive);
      peered = on.peered;
      told =
          λ one other d e f. both-ends (w.peerings.heard one other) (length (w.peerings.told other one)) (g.bgp one other d).heard
          (all-told t w done all one other d e f (on.peered one other d e f));
    }

pub drained_is_settled : (t : Network) (es : List JournalEntry) (ps : List (List ℕ)) (ss : List Step) → IsLawful t → IsLawfulJournal t es ps
    → IsDrain t (world_of t es) ss → IsDrained t (after_steps t (world_of t es) ss) → IsSwitchedOn t (world_of t es).config
    → IsSettled t (after_steps t (world_of t es) ss)
drained_is_settled t es ps ss lawful journal d done on =
    settles t (after_steps t (world_of t es) ss) lawful (drain-goes t ss (world_of t es) lawful (in_turn t es ps lawful journal) d) done
    (subst (IsSwitchedOn t) (sym (drain-config t ss (world_of t es) d)) on)

-- and where a world is settled nothing is left to a drain
pub settled_is_drained : (t : Network) (w : World) → IsLawful t → IsSettled t w → IsDrained t w
settled_is_drained t w lawful settled (step.Learn n l) d =
    let fit = and-both (nat_lt n.0 (length t.loopbacks)) (nat_lt l.0 (length t.links)) d.fitting in
    equal-not-less (settled.learned n.0 l.0 (less-is n.0 (length t.loopbacks) fit.0) (less-is l.0 (length t.links) fit.1)) d.there
settled_is_drained t w lawful settled (step.HearLdp l dir) d =
    let there : l.0 < length t.links = less-is l.0 (length t.links) d.fitting in
    let ends = dir_ends (wiring_of t) l.0 dir (lawful.ends_differ l.0 there) in
    let parts = or_both _ _ d.there in
    equal-not-less (settled.heard l.0 (receiver (wiring_of t) l.0 dir) there ends.0 (not_false _ parts.0) ∙ ap (λ m. length (w.sessions.said l.0 m)) ends.1)
    parts.1
settled_is_drained t w lawful settled (step.HearBgp a b) d =
    let fit = and-both (is_edge t.vrfs a.0 && is_edge t.vrfs b.0) (not (a.0 == b.0)) d.fitting in
    let both = and-both (is_edge t.vrfs a.0) (is_edge t.vrfs b.0) fit.0 in
    equal-not-less (settled.told b.0 a.0 (λ e. unequal a.0 b.0 fit.1 (sym e)) both.1 both.0) (or_both _ _ d.there).1
settled_is_drained t w lawful settled (step.LinkUp l) d = d.in_turn
settled_is_drained t w lawful settled (step.LinkDown l) d = d.in_turn
settled_is_drained t w lawful settled (step.LdpAdmin l on) d = d.in_turn
settled_is_drained t w lawful settled (step.BgpUp a b) d = d.in_turn
settled_is_drained t w lawful settled (step.BgpDown a b) d = d.in_turn
settled_is_drained t w lawful settled (step.AddRoute s p) d = d.in_turn
settled_is_drained t w lawful settled (step.DelRoute s p) d = d.in_turn
settled_is_drained t w lawful settled (step.Import v on x) d = d.in_turn
settled_is_drained t w lawful settled (step.Export v on x) d = d.in_turn
settled_is_drained t w lawful settled (step.Attach s) d = d.in_turn
settled_is_drained t w lawful settled (step.Detach s) d = d.in_turn
settled_is_drained t w lawful settled (step.Inject s n) d = d.in_turn
settled_is_drained t w lawful settled (step.Carry l dir place) d = d.in_turn
settled_is_drained t w lawful settled (step.Lose l dir place) d = d.in_turn
settled_is_drained t w lawful settled (step.Tick ticks) d = d.in_turn

-- 3. The world after a drain is that of the longer journal
world-from-steps : (t : Network) (more : List JournalEntry) (w : World) → after_steps t w (map (λ entry. entry.step) more) ≡ world_from t w more
world-from-steps t [] w = refl
world-from-steps t (e ∷ more) w = world-from-steps t more (after t w e.step)

pub world_after_drain : (t : Network) (es more : List JournalEntry) → after_steps t (world_of t es) (map (λ entry. entry.step) more) ≡ world_of t (es ++ more)
world_after_drain t es more = world-from-steps t more (world_of t es) ∙ sym (world_from-append t es more (start t))

-- 4. A journal that isn't full takes each step of a drain

pub drain_is_lawful : (t : Network) (w : World) (k : Packets) (count : ℕ) (s : Step) (b : List ℕ) → nat_le 4000000 count ≡ false → IsDrainStep t w s
    → refusal_at t w k count s b ≡ None
drain_is_lawful t w k count (step.Learn n l) b room d = rw (d.there, room) refl
drain_is_lawful t w k count (step.HearLdp l dir) b room d = rw (d.there, room) refl
drain_is_lawful t w k count (step.HearBgp x y) b room d = rw (d.there, room) refl
drain_is_lawful t w k count (step.LinkUp l) b room d = absurd d.in_turn
drain_is_lawful t w k count (step.LinkDown l) b room d = absurd d.in_turn
drain_is_lawful t w k count (step.LdpAdmin l on) b room d = absurd d.in_turn
drain_is_lawful t w k count (step.BgpUp x y) b room d = absurd d.in_turn
drain_is_lawful t w k count (step.BgpDown x y) b room d = absurd d.in_turn
drain_is_lawful t w k count (step.AddRoute s p) b room d = absurd d.in_turn
drain_is_lawful t w k count (step.DelRoute s p) b room d = absurd d.in_turn
drain_is_lawful t w k count (step.Import v on x) b room d = absurd d.in_turn
drain_is_lawful t w k count (step.Export v on x) b room d = absurd d.in_turn
drain_is_lawful t w k count (step.Attach s) b room d = absurd d.in_turn
drain_is_lawful t w k count (step.Detach s) b room d = absurd d.in_turn
drain_is_lawful t w k count (step.Inject s n) b room d = absurd d.in_turn
drain_is_lawful t w k count (step.Carry l dir place) b room d = absurd d.in_turn
drain_is_lawful t w k count (step.Lose l dir place) b room d = absurd d.in_turn
drain_is_lawful t w k count (step.Tick ticks) b room d = absurd d.in_turn
