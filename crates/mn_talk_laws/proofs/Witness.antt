-- Two edges that two reflectors join: each premise by a test.
use Rattle.std.proofs.Common.{rules, ℕ, ◌≡◌, ◌⊎◌, ◌<◌, inl, inr, Bool, true, false, List, [], ◌∷◌, length, Option, Some, None}
use Rattle.std.proofs.Common.{refl, arith, sym, ◌∙◌, ap}
use Rattle.std.specs.Prelude.{◌==◌, ◌&&◌, not, nat_lt, is_none}
use Rattle.std.specs.List.{IsDistinct}
use Rattle.mn_base.proofs.Bools.{no, and_left, and_right, unlike_numbers, less_tells}
use Rattle.mn_base.proofs.Members.{in_contained}
use Rattle.mn_topo.specs.Network.{Network}
use Rattle.mn_topo.specs.Lawful.{IsLawful}
use Rattle.mn_topo.specs.declared.steps.Step.{Step}
use Rattle.mn_topo.specs.declared.steps.Step.TheVariants as step
use Rattle.mn_ledger.specs.Places.{edges}
use Rattle.mn_ledger.specs.World.{Config}
use Rattle.mn_ledger.specs.Bgp.{peers_live}
use Rattle.mn_ledger.specs.Ledger.{first_config, config_after}
use Rattle.mn_ledger.specs.declared.refused.Refused.{Refused}
use Rattle.mn_reflect_ledger_laws.specs.Picks.{ReflectWorld, is_reflector}
use Rattle.mn_reflect_ledger_laws.specs.World.{start, after}
use Rattle.mn_reflect_ledger_laws.specs.Refusal.{refusal}
use Rattle.mn_reflect_ledger_laws.specs.Quiet.{NamesNodes, IsJoined}
use Rattle.mn_reflect_ledger_laws.specs.Holding.{AreDoneFrom}
use Rattle.mn_reflect_ledger_laws.specs.TwoReflectors.{two_reflectors, by_both}
use Rattle.mn_reflect_ledger_laws.proofs.Chosen.{reflector_in}
use Rattle.mn_reflect_world_laws.specs.Steps.{takes, AreTaken, IsLawfulRun}
use Rattle.mn_reflect_drain_laws.proofs.Witness.{two_reflectors_drain}
use Rattle.mn_talk_laws.specs.Talk.{Talks, seen, no_talks}
use Rattle.mn_talk_laws.specs.Keys.{IsThere, AreThere, after_by_keys}
use Rattle.mn_talk_laws.specs.Joining.{joining, joined_config, joined_talks, AreJoinedByTwo}
use Rattle.mn_talk_laws.proofs.Whole.{all_heard}

no_cause : (o : Option Refused) → is_none o ≡ true → o ≡ None
no_cause None h = refl
no_cause (Some cause) h = absurd (no h)

-- 1. Tests

all_taken : Network → List ℕ → List Step → Bool
all_taken t reflectors [] = true
all_taken t reflectors (done ∷ steps) = takes t reflectors done && all_taken t reflectors steps

are_taken : (t : Network) (reflectors : List ℕ) (steps : List Step) → all_taken t reflectors steps ≡ true → AreTaken t reflectors steps
unfolding all_taken
are_taken t reflectors [] h = tt
are_taken t reflectors (done ∷ steps) h = (
  and_left (takes t reflectors done) _ h,
  are_taken t reflectors steps (and_right (takes t reflectors done) _ h),
)

all_done : Network → List ℕ → ReflectWorld → List Step → Bool
all_done t reflectors world [] = true
all_done t reflectors world (done ∷ steps) = is_none (refusal t world done) && all_done t reflectors (after t reflectors world done) steps

are_done : (t : Network) (reflectors : List ℕ) (world : ReflectWorld) (steps : List Step) → all_done t reflectors world steps ≡ true →
    AreDoneFrom t reflectors world steps
unfolding all_done
are_done t reflectors world [] h = tt
are_done t reflectors world (done ∷ steps) h = (
  no_cause (refusal t world done) (and_left (is_none (refusal t world done)) _ h),
  are_done t reflectors (after t reflectors world done) steps (and_right (is_none (refusal t world done)) _ h),
)

-- a step of a session alone
is_there : Network → Talks → Step → Bool
is_there t talks (step.BgpUp a b) = nat_lt a.0 b.0 && nat_lt b.0 (length t.loopbacks)
is_there t talks (step.HearBgp a b) =
    not (a.0 == b.0) && (nat_lt a.0 (length t.loopbacks) && (nat_lt b.0 (length t.loopbacks) && nat_lt (talks.heard b.0 a.0) (length (talks.told a.0 b.0))))
is_there t talks _ = false

there_is : (t : Network) (talks : Talks) (done : Step) → is_there t talks done ≡ true → NamesNodes t done × IsThere talks done
unfolding is_there
there_is t talks (step.BgpUp a b) h = (
  (less_tells a.0 b.0 (and_left (nat_lt a.0 b.0) _ h), less_tells b.0 (length t.loopbacks) (and_right (nat_lt a.0 b.0) _ h)),
  tt,
)
there_is t talks (step.HearBgp a b) h =
    let one = and_right (not (a.0 == b.0)) _ h in
    let two = and_right (nat_lt a.0 (length t.loopbacks)) _ one in (
      (
        unlike_numbers a.0 b.0 (and_left (not (a.0 == b.0)) _ h),
        less_tells a.0 (length t.loopbacks) (and_left (nat_lt a.0 (length t.loopbacks)) _ one),
        less_tells b.0 (length t.loopbacks) (and_left (nat_lt b.0 (length t.loopbacks)) _ two),
      ),
      less_tells (talks.heard b.0 a.0) (length (talks.told a.0 b.0)) (and_right (nat_lt b.0 (length t.loopbacks)) _ two),
    )
there_is t talks _ h = absurd (no h)

all_there : Network → List ℕ → Config → Talks → List Step → Bool
all_there t reflectors config talks [] = true
all_there t reflectors config talks (done ∷ steps) =
    is_there t talks done && all_there t reflectors (config_after config done) (after_by_keys t reflectors config talks done) steps

are_there : (t : Network) (reflectors : List ℕ) (config : Config) (talks : Talks) (steps : List Step) → all_there t reflectors config talks steps ≡ true →
    AreThere t reflectors config talks steps
unfolding all_there
are_there t reflectors config talks [] h = tt
are_there t reflectors config talks (done ∷ steps) h =
    let one = there_is t talks done (and_left (is_there t talks done) _ h) in (
      one.0,
      one.1,
      are_there t reflectors (config_after config done) (after_by_keys t reflectors config talks done) steps (and_right (is_there t talks done) _ h),
    )

-- 2. They pass

no_link : (l : ℕ) → l < 0 → ⊥
no_link l h = omega (arith, h)

is_lawful : IsLawful two_reflectors
unfolding IsDistinct
is_lawful = record {
  asn = refl;
  notice_delay = refl;
  bgp_delay = refl;
  few_nodes = omega arith;
  few_links = omega arith;
  few_vrfs = omega arith;
  few_sites = omega arith;
  nodes = search rules;
  links = search rules;
  vrfs = search rules;
  sites = search rules;
  joins_nodes = λ l h. absurd (no_link l h);
  ends_differ = λ l h. absurd (no_link l h);
  joins_once = λ m n g h. omega arith;
}

is_a_run : IsLawfulRun two_reflectors by_both joining
unfolding all_taken all_done
is_a_run = record {
  topology_is = is_lawful;
  are = two_reflectors_drain.reflectors;
  taken = are_taken two_reflectors by_both joining refl;
  done = are_done two_reflectors by_both (start two_reflectors) joining refl;
}

each_is_there : AreThere two_reflectors by_both (first_config two_reflectors) no_talks joining
unfolding all_there is_there
each_is_there = are_there two_reflectors by_both (first_config two_reflectors) no_talks joining refl

reflects : (node : ℕ) → is_reflector by_both node ≡ true → (node ≡ 1) ⊎ (node ≡ 2)
reflects node h = elim (reflector_in by_both node h) [ inl e ↦ inl (sym e) | inr i ↦ elim i [ inl e ↦ inr (sym e) | inr j ↦ absurd j ] ]

are_joined : IsJoined two_reflectors by_both (seen joined_config joined_talks)
are_joined = record {
  each_edge = λ edge is_one. elim (in_contained (edges two_reflectors) edge is_one) [
    | inl e ↦ (1, refl, ap (λ x. peers_live joined_config x 1) (sym e))
    | inr i ↦ elim i [ inl e ↦ (1, refl, ap (λ x. peers_live joined_config x 1) (sym e)) | inr j ↦ absurd j ]
  ];
  each_two = λ one other h g apart. elim (reflects one h) [
    | inl e ↦ elim (reflects other g) [
      | inl f ↦ absurd (apart (e ∙ sym f))
      | inr f ↦ ap (λ x. peers_live joined_config x other) e ∙ ap (peers_live joined_config 1) f
    ]
    | inr e ↦ elim (reflects other g) [
      | inl f ↦ ap (λ x. peers_live joined_config x other) e ∙ ap (peers_live joined_config 2) f
      | inr f ↦ absurd (apart (e ∙ sym f))
    ]
  ];
}

pub joined_by_two : AreJoinedByTwo
joined_by_two = record {
  run = is_a_run;
  once = (refl, (refl, tt));
  there = each_is_there;
  heard = all_heard two_reflectors by_both joining is_a_run (refl, (refl, tt)) each_is_there refl;
  joined = are_joined;
}
