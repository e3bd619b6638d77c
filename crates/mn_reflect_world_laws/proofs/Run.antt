-- What a run of steps that are taken and not refused rests on.
use Rattle.std.proofs.Common.{ℕ, ◌≡◌, ◌≢◌, ◌<◌, inl, inr, Bool, true, false, List, [], ◌∷◌, ◌++◌, length, None, refl, sym, ◌∙◌, ap}
use Rattle.std.specs.Prelude.{◌==◌, ◌&&◌, ◌||◌, not, nat_lt}
use Rattle.std.proofs.lemmas.Bool.Decides.{eqb_tells}
use Rattle.mn_base.proofs.Bools.{no, and_left, and_right, or_ways, unlike_numbers, less_tells}
use Rattle.mn_topo.specs.Network.{Network}
use Rattle.mn_topo.specs.Lawful.{IsLawful}
use Rattle.mn_topo.specs.VrfTable.{is_edge}
use Rattle.mn_topo.specs.declared.steps.Step.{Step}
use Rattle.mn_topo.specs.declared.steps.Step.TheVariants as step
use Rattle.mn_ledger.specs.Tables.{put_pair}
use Rattle.mn_ledger.specs.World.{Config}
use Rattle.mn_ledger.specs.Ledger.{config_after}
use Rattle.mn_ledger.proofs.GoingBy.{pair_here, pair_off}
use Rattle.mn_routing_laws.proofs.Lawful.{below_of}
use Rattle.mn_bgp_spelling_laws.specs.Spelling.{Labels}
use Rattle.mn_reflect_ledger_laws.specs.Picks.{ReflectWorld, is_reflector}
use Rattle.mn_reflect_ledger_laws.specs.World.{after, start, world_from, world_of}
use Rattle.mn_reflect_ledger_laws.specs.Quiet.{AreReflectors, NamesNodes, AreReflected}
use Rattle.mn_reflect_ledger_laws.specs.Refusal.{refusal}
use Rattle.mn_reflect_ledger_laws.specs.Holding.{AreDoneFrom}
use Rattle.mn_reflect_ledger_laws.proofs.Runs.{IsRun, step_runs, start_runs}
use Rattle.mn_reflect_world_laws.specs.Labels.{first_labels, labels_after, labels_from, labels_of}
use Rattle.mn_reflect_world_laws.specs.Steps.{may_peer, takes, AreTaken, IsLawfulRun}
use Rattle.mn_reflect_world_laws.proofs.Config.{IsInOrder, starts_in_order, in_order_goes, free}
use Rattle.mn_reflect_world_laws.proofs.Said.{AreGood, good_goes}
use Rattle.mn_reflect_world_laws.proofs.Talk.{IsTalk, starts_talk, talk_goes}

-- 1. Who may have a session

module _ (t : Network) (reflectors : List ℕ) (lawful : IsLawful t) (are : AreReflectors t reflectors) where
  edge_below : (node : ℕ) → is_edge t.vrfs node ≡ true → node < length t.loopbacks
  edge_below node h = below_of (length t.loopbacks) node t.vrfs lawful.vrfs.formed h

  either_below : (node : ℕ) → (is_reflector reflectors node || is_edge t.vrfs node) ≡ true → node < length t.loopbacks
  either_below node h = elim (or_ways (is_reflector reflectors node) (is_edge t.vrfs node) h) [
    | inl e ↦ are.nodes node e
    | inr e ↦ edge_below node e
  ]

  pub peers_there : (a b : ℕ) → may_peer t reflectors a b ≡ true → (a ≢ b) × (a < length t.loopbacks) × (b < length t.loopbacks)
  peers_there a b h =
      let first = and_left (not (a == b)) _ h in
      let ways = or_ways (is_reflector reflectors a && (is_reflector reflectors b || is_edge t.vrfs b)) (is_reflector reflectors b && is_edge t.vrfs a)
      (and_right (not (a == b)) _ h) in
      elim ways [
        | inl e ↦ (
          unlike_numbers a b first,
          are.nodes a (and_left (is_reflector reflectors a) _ e),
          either_below b (and_right (is_reflector reflectors a) (is_reflector reflectors b || is_edge t.vrfs b) e),
        )
        | inr e ↦ (
          unlike_numbers a b first,
          edge_below a (and_right (is_reflector reflectors b) (is_edge t.vrfs a) e),
          are.nodes b (and_left (is_reflector reflectors b) (is_edge t.vrfs a) e),
        )
      ]

  pub names_nodes : (s : Step) → takes t reflectors s ≡ true → NamesNodes t s
  names_nodes (step.BgpUp a b) h = (
    less_tells a.0 b.0 (and_right (may_peer t reflectors a.0 b.0) (nat_lt a.0 b.0) h),
    (peers_there a.0 b.0 (and_left (may_peer t reflectors a.0 b.0) (nat_lt a.0 b.0) h)).2,
  )
  names_nodes (step.BgpDown a b) h = (
    less_tells a.0 b.0 (and_right (may_peer t reflectors a.0 b.0) (nat_lt a.0 b.0) h),
    (peers_there a.0 b.0 (and_left (may_peer t reflectors a.0 b.0) (nat_lt a.0 b.0) h)).2,
  )
  names_nodes (step.HearBgp a b) h = peers_there a.0 b.0 h
  names_nodes (step.AddRoute s p) h = tt
  names_nodes (step.DelRoute s p) h = tt
  names_nodes (step.Import v on x) h = tt
  names_nodes (step.Export v on x) h = tt
  names_nodes (step.Attach s) h = tt
  names_nodes (step.Detach s) h = tt
  names_nodes _ h = absurd (no h)

  pub all_named : (steps : List Step) → AreTaken t reflectors steps → AreReflected t steps
  all_named [] h = tt
  all_named (s ∷ steps) h = (names_nodes s h.0, all_named steps h.1)

-- sessions are of those who may have one
pub record AreOfPeers (t : Network) (reflectors : List ℕ) (c : Config) : Type 0 where
  pub on : (a b : ℕ) → c.bgp_on a b ≡ true → may_peer t reflectors a b ≡ true

switched : (t : Network) (reflectors : List ℕ) (f : ℕ → ℕ → Bool) (a b : ℕ) (v : Bool) → ((n p : ℕ) → f n p ≡ true → may_peer t reflectors n p ≡ true) →
    (v ≡ true → may_peer t reflectors a b ≡ true) → (n p : ℕ) → put_pair f a b v n p ≡ true → may_peer t reflectors n p ≡ true
switched t reflectors f a b v h g n p on = elim (eqb_tells n a) [
  | inr d ↦ h n p (sym (pair_off f a b v n p (inl d.1)) ∙ on)
  | inl e ↦ elim (eqb_tells p b) [
    | inr d ↦ h n p (sym (pair_off f a b v n p (inr d.1)) ∙ on)
    | inl q ↦ ap (λ x. may_peer t reflectors x p) e.1 ∙ ap (may_peer t reflectors a) q.1
        ∙ g (sym (pair_here f a b v) ∙ sym (ap (λ x. put_pair f a b v x b) e.1) ∙ sym (ap (put_pair f a b v n) q.1) ∙ on)
  ]
]

peers_go : (t : Network) (reflectors : List ℕ) (c : Config) (s : Step) → takes t reflectors s ≡ true → AreOfPeers t reflectors c →
    AreOfPeers t reflectors (config_after c s)
peers_go t reflectors c (step.BgpUp a b) h old = record {
  on = switched t reflectors c.bgp_on a.0 b.0 true old.on (λ e. and_left (may_peer t reflectors a.0 b.0) (nat_lt a.0 b.0) h);
}
peers_go t reflectors c (step.BgpDown a b) h old = record { on = switched t reflectors c.bgp_on a.0 b.0 false old.on (λ e. absurd (no e)) }
peers_go t reflectors c (step.HearBgp a b) h old = old
peers_go t reflectors c (step.AddRoute s p) h old = record { on = old.on }
peers_go t reflectors c (step.DelRoute s p) h old = record { on = old.on }
peers_go t reflectors c (step.Import v on x) h old = record { on = old.on }
peers_go t reflectors c (step.Export v on x) h old = record { on = old.on }
peers_go t reflectors c (step.Attach s) h old = record { on = old.on }
peers_go t reflectors c (step.Detach s) h old = record { on = old.on }
peers_go t reflectors c _ h old = absurd (no h)

-- 2. A run

pub record IsRest (t : Network) (reflectors : List ℕ) (w : ReflectWorld) (l : Labels) : Type 0 where
  pub run : IsRun t reflectors w
  pub talk : IsTalk t w
  pub order : IsInOrder t w.config l
  pub good : AreGood t w.config w
  pub peers : AreOfPeers t reflectors w.config

pub rest_goes : (t : Network) (reflectors : List ℕ) (lawful : IsLawful t) (are : AreReflectors t reflectors) (w : ReflectWorld) (l : Labels) (s : Step) →
    takes t reflectors s ≡ true → refusal t w s ≡ None → IsRest t reflectors w l →
    IsRest t reflectors (after t reflectors w s) (labels_after t w.config l s)
rest_goes t reflectors lawful are w l s is none h =
    let order = in_order_goes t reflectors w l s is (free t w s none) h.order in
    record {
      run = step_runs t reflectors w h.run s (names_nodes t reflectors lawful are s is);
      talk = talk_goes t reflectors w h.run h.talk s (names_nodes t reflectors lawful are s is);
      order = order;
      good = good_goes t reflectors w s l (labels_after t w.config l s) h.order order h.good;
      peers = peers_go t reflectors w.config s is h.peers;
    }

rest_from : (t : Network) (reflectors : List ℕ) (lawful : IsLawful t) (are : AreReflectors t reflectors) (w : ReflectWorld) (l : Labels) (steps : List Step) →
    AreTaken t reflectors steps → AreDoneFrom t reflectors w steps → IsRest t reflectors w l →
    IsRest t reflectors (world_from t reflectors w steps) (labels_from t w.config l steps)
rest_from t reflectors lawful are w l [] is done h = h
rest_from t reflectors lawful are w l (s ∷ steps) is done h =
    rest_from t reflectors lawful are (after t reflectors w s) (labels_after t w.config l s) steps is.1 done.1
    (rest_goes t reflectors lawful are w l s is.0 done.0 h)

pub rests : (t : Network) (reflectors : List ℕ) (steps : List Step) → IsLawfulRun t reflectors steps →
    IsRest t reflectors (world_of t reflectors steps) (labels_of t steps)
rests t reflectors steps run = rest_from t reflectors run.topology_is run.are (start t) (first_labels t) steps run.taken run.done (record {
  run = start_runs t reflectors;
  talk = starts_talk t;
  order = starts_in_order t run.topology_is;
  good = record { heard = λ n p word i. absurd i; flying = λ s i. absurd i };
  peers = record { on = λ a b e. absurd (no e) };
})

-- 3. One step more

world_more : (t : Network) (reflectors : List ℕ) (w : ReflectWorld) (steps : List Step) (s : Step) →
    world_from t reflectors w (steps ++ s ∷ []) ≡ after t reflectors (world_from t reflectors w steps) s
world_more t reflectors w [] s = refl
world_more t reflectors w (first ∷ steps) s = world_more t reflectors (after t reflectors w first) steps s

pub world_grows : (t : Network) (reflectors : List ℕ) (steps : List Step) (s : Step) →
    world_of t reflectors (steps ++ s ∷ []) ≡ after t reflectors (world_of t reflectors steps) s
world_grows t reflectors steps s = world_more t reflectors (start t) steps s

labels_more : (t : Network) (reflectors : List ℕ) (w : ReflectWorld) (l : Labels) (steps : List Step) (s : Step) →
    labels_from t w.config l (steps ++ s ∷ []) ≡ labels_after t (world_from t reflectors w steps).config (labels_from t w.config l steps) s
labels_more t reflectors w l [] s = refl
labels_more t reflectors w l (first ∷ steps) s = labels_more t reflectors (after t reflectors w first) (labels_after t w.config l first) steps s

pub labels_grow : (t : Network) (reflectors : List ℕ) (steps : List Step) (s : Step) →
    labels_of t (steps ++ s ∷ []) ≡ labels_after t (world_of t reflectors steps).config (labels_of t steps) s
labels_grow t reflectors steps s = labels_more t reflectors (start t) (first_labels t) steps s

taken_more : (t : Network) (reflectors : List ℕ) (steps : List Step) (s : Step) → AreTaken t reflectors steps → takes t reflectors s ≡ true →
    AreTaken t reflectors (steps ++ s ∷ [])
taken_more t reflectors [] s h is = (is, tt)
taken_more t reflectors (first ∷ steps) s h is = (h.0, taken_more t reflectors steps s h.1 is)

done_more : (t : Network) (reflectors : List ℕ) (w : ReflectWorld) (steps : List Step) (s : Step) → AreDoneFrom t reflectors w steps →
    refusal t (world_from t reflectors w steps) s ≡ None → AreDoneFrom t reflectors w (steps ++ s ∷ [])
done_more t reflectors w [] s h none = (none, tt)
done_more t reflectors w (first ∷ steps) s h none = (h.0, done_more t reflectors (after t reflectors w first) steps s h.1 none)

pub run_goes_on : (t : Network) (reflectors : List ℕ) (steps : List Step) (s : Step) → IsLawfulRun t reflectors steps → takes t reflectors s ≡ true →
    refusal t (world_of t reflectors steps) s ≡ None → IsLawfulRun t reflectors (steps ++ s ∷ [])
run_goes_on t reflectors steps s run is none = record {
  topology_is = run.topology_is;
  are = run.are;
  taken = taken_more t reflectors steps s run.taken is;
  done = done_more t reflectors (start t) steps s run.done none;
}
