-- Each step that is taken and not refused: what it makes of what is kept stands for the steps with it.
use Rattle.std.proofs.Common.{ℕ, ◌≡◌, ◌+◌, ◌⊎◌, inl, inr, true, List, [], ◌∷◌, ◌++◌, length, Some, None, Option, refl, sym, ◌∙◌, ap, subst, length-append}
use Rattle.std.specs.Prelude.{◌==◌, ◌&&◌, ◌||◌, not, nat_lt, is_none}
use Rattle.mn_base.specs.Numbers.{has_rt_form}
use Rattle.mn_base.proofs.Bools.{no, less_tells, and_left, and_right, or_ways}
use Rattle.mn_topo.specs.Network.{Network}
use Rattle.mn_topo.specs.Steps.{has_vrf, has_site}
use Rattle.mn_topo.specs.SiteTable.{is_lawful_prefix}
use Rattle.mn_topo.specs.VrfTable.{is_edge}
use Rattle.mn_topo.specs.declared.steps.Step.{Step}
use Rattle.mn_topo.specs.declared.steps.Step.TheVariants as step
use Rattle.mn_bgp_spelling_laws.specs.Spelling.{Labels}
use Rattle.mn_reflect_ledger_laws.specs.Words.{Word}
use Rattle.mn_reflect_ledger_laws.specs.Picks.{ReflectWorld, is_reflector}
use Rattle.mn_reflect_ledger_laws.specs.World.{first_word, after, world_of}
use Rattle.mn_reflect_ledger_laws.specs.Refusal.{refusal}
use Rattle.mn_reflect_world_laws.specs.Labels.{labels_after, labels_of}
use Rattle.mn_reflect_world_laws.specs.Now.{ReflectNow, StandsFor, IsReflect}
use Rattle.mn_reflect_world_laws.specs.Steps.{may_peer, takes, IsLawfulRun}
use Rattle.mn_reflect_world_laws.specs.Goes.{word_heard, Goes}
use Rattle.mn_reflect_world_laws.proofs.Config.{free}
use Rattle.mn_reflect_world_laws.proofs.Run.{IsRest, rests, rest_goes, peers_there, world_grows, labels_grow}
use Rattle.mn_reflect_world_laws.proofs.GoesOn.{IsThen, then_up, then_down}
use Rattle.mn_reflect_world_laws.proofs.OnHearing.{then_hears}
use Rattle.mn_reflect_world_laws.proofs.OnEdge.{then_adds, then_deletes, then_detaches, then_attaches, then_imports, then_exports}

module _ (t : Network) (reflectors : List ℕ) (steps : List Step) (now new : ReflectNow) (run : IsLawfulRun t reflectors steps)
    (st : StandsFor t reflectors (labels_of t steps) (world_of t reflectors steps) now) where
  abbrev w : ReflectWorld
  w = world_of t reflectors steps

  abbrev l : Labels
  l = labels_of t steps

  rest : IsRest t reflectors w l
  rest = rests t reflectors steps run

  -- of two that may have a session the second is a reflector or an edge
  second : (a b : ℕ) → may_peer t reflectors a b ≡ true → (is_reflector reflectors b ≡ true) ⊎ (is_edge t.vrfs b ≡ true)
  second a b h = elim (or_ways (is_reflector reflectors a && (is_reflector reflectors b || is_edge t.vrfs b)) (is_reflector reflectors b && is_edge t.vrfs a)
      (and_right (not (a == b)) _ h)) [
        | inl e ↦ or_ways (is_reflector reflectors b) (is_edge t.vrfs b)
            (and_right (is_reflector reflectors a) (is_reflector reflectors b || is_edge t.vrfs b) e)
        | inr e ↦ inl (and_left (is_reflector reflectors b) (is_edge t.vrfs a) e)
      ]

  then_is : (done : Step) → takes t reflectors done ≡ true → refusal t w done ≡ None → Goes t reflectors l (word_heard w done) now new done →
      IsThen t reflectors (labels_after t w.config l done) (after t reflectors w done) new
  then_is (step.BgpUp a b) is none g =
      let f = free t w (step.BgpUp a b) none in
      let peers = and_left (may_peer t reflectors a.0 b.0) (nat_lt a.0 b.0) is in
      then_up t reflectors l w now new st a b (less_tells a.0 b.0 (and_right (may_peer t reflectors a.0 b.0) (nat_lt a.0 b.0) is))
      (peers_there t reflectors run.topology_is run.are a.0 b.0 peers).2 f.changes g
  then_is (step.BgpDown a b) is none g =
      let peers = and_left (may_peer t reflectors a.0 b.0) (nat_lt a.0 b.0) is in
      then_down t reflectors l w now new st run.topology_is run.are a b (less_tells a.0 b.0 (and_right (may_peer t reflectors a.0 b.0) (nat_lt a.0 b.0) is))
      (peers_there t reflectors run.topology_is run.are a.0 b.0 peers).2 peers rest
      (rest_goes t reflectors run.topology_is run.are w l (step.BgpDown a b) is none rest) g
  then_is (step.HearBgp a b) is none g = by (first_word a.0 b.0 w.flying) refl
    where
      by : (o : Option Word) → first_word a.0 b.0 w.flying ≡ o → IsThen t reflectors l (after t reflectors w (step.HearBgp a b)) new
      by None e = absurd (no (sym (free t w (step.HearBgp a b) none).there ∙ ap is_none e))
      by (Some word) e =
          let there = peers_there t reflectors run.topology_is run.are a.0 b.0 is in
          then_hears t reflectors l w now new st run.topology_is run.are a b there.0 there.1 there.2 (second a.0 b.0 is) word e rest
          (rest_goes t reflectors run.topology_is run.are w l (step.HearBgp a b) is none rest)
          (subst (λ o. Goes t reflectors l o now new (step.HearBgp a b)) e g)
  then_is (step.AddRoute s prefix) is none g =
      then_adds t reflectors l w now new st run.topology_is run.are rest s
      (less_tells s.0 (length t.sites) (and_left (has_site t s) (is_lawful_prefix prefix) is)) prefix
      (rest_goes t reflectors run.topology_is run.are w l (step.AddRoute s prefix) is none rest) g
  then_is (step.DelRoute s prefix) is none g =
      then_deletes t reflectors l w now new st run.topology_is run.are rest s
      (less_tells s.0 (length t.sites) (and_left (has_site t s) (is_lawful_prefix prefix) is))
      prefix (rest_goes t reflectors run.topology_is run.are w l (step.DelRoute s prefix) is none rest) (free t w (step.DelRoute s prefix) none) g
  then_is (step.Import v on target) is none g =
      then_imports t reflectors l w now new st run.topology_is run.are rest v target on
      (less_tells v.0 (length t.vrfs) (and_left (has_vrf t v) (has_rt_form target.0) is))
      (rest_goes t reflectors run.topology_is run.are w l (step.Import v on target) is none rest) g
  then_is (step.Export v on target) is none g =
      then_exports t reflectors l w now new st run.topology_is run.are rest v target on
      (less_tells v.0 (length t.vrfs) (and_left (has_vrf t v) (has_rt_form target.0) is))
      (rest_goes t reflectors run.topology_is run.are w l (step.Export v on target) is none rest) (free t w (step.Export v on target) none) g
  then_is (step.Attach s) is none g =
      then_attaches t reflectors l w now new st run.topology_is run.are rest s (less_tells s.0 (length t.sites) is)
      (rest_goes t reflectors run.topology_is run.are w l (step.Attach s) is none rest) (free t w (step.Attach s) none) is g
  then_is (step.Detach s) is none g =
      then_detaches t reflectors l w now new st run.topology_is run.are rest s (less_tells s.0 (length t.sites) is)
      (rest_goes t reflectors run.topology_is run.are w l (step.Detach s) is none rest) g
  then_is _ is none g = absurd (no is)

pub goes_on : (t : Network) (reflectors : List ℕ) (steps : List Step) (done : Step) (now new : ReflectNow) → IsLawfulRun t reflectors steps →
    takes t reflectors done ≡ true → refusal t (world_of t reflectors steps) done ≡ None → IsReflect t reflectors steps now →
    Goes t reflectors (labels_of t steps) (word_heard (world_of t reflectors steps) done) now new done → IsReflect t reflectors (steps ++ done ∷ []) new
goes_on t reflectors steps done now new run is none stands g =
    let then : IsThen t reflectors (labels_after t (world_of t reflectors steps).config (labels_of t steps) done)
    (after t reflectors (world_of t reflectors steps) done) new =
    then_is t reflectors steps now new run stands.0 done is none g in
    let there : StandsFor t reflectors (labels_after t (world_of t reflectors steps).config (labels_of t steps) done)
    (after t reflectors (world_of t reflectors steps) done) new = record {
      works = g.works;
      topology_is = g.topology_is ∙ stands.0.topology_is;
      reflectors_are = g.reflectors_are ∙ stands.0.reflectors_are;
      decisions = then.decisions;
      decided = then.decided;
      edges = then.edges;
      sessions = then.sessions;
      heard = then.heard;
      attachments = then.attachments;
      statics = then.statics;
      nodes = g.nodes ∙ stands.0.nodes;
      letters = then.letters;
    } in (
      subst (λ m. StandsFor t reflectors m (world_of t reflectors (steps ++ done ∷ [])) new) (sym (labels_grow t reflectors steps done))
          (subst (λ v. StandsFor t reflectors (labels_after t (world_of t reflectors steps).config (labels_of t steps) done) v new)
          (sym (world_grows t reflectors steps done)) there),
      g.count ∙ ap (λ n. n + 1) stands.1 ∙ sym (length-append steps (done ∷ [])),
    )
