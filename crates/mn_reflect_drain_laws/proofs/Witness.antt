-- A drain of two edges and two reflectors.
use Rattle.std.proofs.Common.{ℕ, ◌≡◌, ◌⊎◌, inl, inr, Bool, true, false, cond, List, [], ◌∷◌, length}
use Rattle.std.proofs.Common.{refl, arith, sym, ◌∙◌, ap, subst}
use Rattle.std.specs.Prelude.{◌==◌, ◌&&◌, not, nat_lt}
use Rattle.std.proofs.lemmas.Bool.Decides.{eqb_tells}
use Rattle.mn_base.proofs.Bools.{no, and_left, and_right, unlike_numbers, less_tells}
use Rattle.mn_base.proofs.Members.{in_contained}
use Rattle.mn_topo.specs.VrfTable.{is_edge}
use Rattle.mn_topo.specs.Network.{Network}
use Rattle.mn_topo.specs.declared.steps.Step.{Step}
use Rattle.mn_topo.specs.declared.steps.Step.TheVariants as step
use Rattle.mn_ledger.specs.Places.{edges}
use Rattle.mn_ledger.specs.Bgp.{peers_live}
use Rattle.mn_ledger.specs.Tables.{put_pair}
use Rattle.mn_reflect_ledger_laws.specs.Picks.{ReflectWorld, is_reflector}
use Rattle.mn_reflect_ledger_laws.specs.World.{after, drained}
use Rattle.mn_reflect_ledger_laws.specs.Refusal.{is_empty}
use Rattle.mn_reflect_ledger_laws.specs.Quiet.{AreReflectors, IsJoined}
use Rattle.mn_reflect_ledger_laws.specs.TwoReflectors.{two_reflectors, by_both}
use Rattle.mn_reflect_ledger_laws.proofs.Chosen.{reflector_in}
use Rattle.mn_reflect_drain_laws.specs.Drain.{ArePeers, IsHearing, IsDrain}
use Rattle.mn_reflect_drain_laws.specs.Draining.{begun, hearings, TwoReflectorsDrain}

-- 1. A drain by a test

hears : Network → ReflectWorld → Step → Bool
hears t world (step.HearBgp a b) =
    not (a.0 == b.0) && (nat_lt a.0 (length t.loopbacks) && (nat_lt b.0 (length t.loopbacks) && not (is_empty world (step.HearBgp a b))))
hears t world _ = false

drains : Network → List ℕ → ReflectWorld → List Step → Bool
drains t reflectors world [] = true
drains t reflectors world (hearing ∷ hearings) = hears t world hearing && drains t reflectors (after t reflectors world hearing) hearings

hears_it : (t : Network) (world : ReflectWorld) (hearing : Step) → hears t world hearing ≡ true → IsHearing t world hearing
unfolding hears
hears_it t world (step.HearBgp a b) h =
    let one = and_right (not (a.0 == b.0)) _ h in
    let two = and_right (nat_lt a.0 (length t.loopbacks)) _ one in (
      (
        unlike_numbers a.0 b.0 (and_left (not (a.0 == b.0)) _ h),
        less_tells a.0 (length t.loopbacks) (and_left (nat_lt a.0 (length t.loopbacks)) _ one),
        less_tells b.0 (length t.loopbacks) (and_left (nat_lt b.0 (length t.loopbacks)) _ two),
      ),
      off (is_empty world (step.HearBgp a b)) (and_right (nat_lt b.0 (length t.loopbacks)) _ two),
    )
  where
    off : (c : Bool) → not c ≡ true → c ≡ false
    off false e = refl
    off true e = absurd (no e)
hears_it t world _ h = absurd (no h)

drains_it : (t : Network) (reflectors : List ℕ) (world : ReflectWorld) (hearings : List Step) → drains t reflectors world hearings ≡ true →
    IsDrain t reflectors world hearings
unfolding drains
drains_it t reflectors world [] h = tt
drains_it t reflectors world (hearing ∷ hearings) h = (
  hears_it t world hearing (and_left (hears t world hearing) _ h),
  drains_it t reflectors (after t reflectors world hearing) hearings (and_right (hears t world hearing) _ h),
)

it_is_a_drain : IsDrain two_reflectors by_both begun hearings
unfolding drains hears
it_is_a_drain = drains_it two_reflectors by_both begun hearings refl

-- 2. Who are peers

up_or : (on : ℕ → ℕ → Bool) (k m a b : ℕ) → put_pair on k m true a b ≡ true → ((a ≡ k) × (b ≡ m)) ⊎ (on a b ≡ true)
up_or on k m a b h = elim (eqb_tells a k) [
  | inr e ↦ inr (sym (ap (λ c. cond c (λ other. cond (other == m) true (on k other)) (on a) b) e.0) ∙ h)
  | inl e ↦ elim (eqb_tells b m) [
    | inl f ↦ inl (e.1, f.1)
    | inr f ↦ inr (ap (λ x. on x b) e.1 ∙ sym (ap (λ c. cond c true (on k b)) f.0)
        ∙ sym (ap (λ c. cond c (λ other. cond (other == m) true (on k other)) (on a) b) e.0) ∙ h)
  ]
]

abbrev IsOfOne : ℕ → ℕ → Type 0
IsOfOne one other = is_reflector by_both one ≡ false → (is_edge two_reflectors.vrfs one ≡ true) × (is_reflector by_both other ≡ true)

abbrev IsOfBoth : ℕ → ℕ → Type 0
IsOfBoth one other = IsOfOne one other × IsOfOne other one

same_pair : (a b k m : ℕ) → (a ≡ k) × (b ≡ m) → IsOfBoth k m → IsOfBoth a b
same_pair a b k m e h = subst (λ x. IsOfBoth x b) (sym e.0) (subst (IsOfBoth k) (sym e.1) h)

abbrev nobody : ℕ → ℕ → Bool
nobody one other = false

each_pair : (a b : ℕ) → begun.config.bgp_on a b ≡ true → IsOfBoth a b
each_pair a b h = elim (up_or (put_pair (put_pair (put_pair nobody 0 1 true) 1 2 true) 1 3 true) 2 3 a b h) [
  | inl e ↦ same_pair a b 2 3 e (λ g. absurd (no (sym g)), λ g. (refl, refl))
  | inr i ↦ elim (up_or (put_pair (put_pair nobody 0 1 true) 1 2 true) 1 3 a b i) [
    | inl e ↦ same_pair a b 1 3 e (λ g. absurd (no (sym g)), λ g. (refl, refl))
    | inr j ↦ elim (up_or (put_pair nobody 0 1 true) 1 2 a b j) [
      | inl e ↦ same_pair a b 1 2 e (λ g. absurd (no (sym g)), λ g. absurd (no (sym g)))
      | inr k ↦ elim (up_or nobody 0 1 a b k) [
        | inl e ↦ same_pair a b 0 1 e (λ g. (refl, refl), λ g. absurd (no (sym g)))
        | inr none ↦ absurd (no none)
      ]
    ]
  ]
]

are_peers : ArePeers two_reflectors by_both begun.config
are_peers node peer apart live off = by (nat_lt node peer) live
  where
    by : (c : Bool) → cond c (begun.config.bgp_on node peer) (begun.config.bgp_on peer node) ≡ true →
        (is_edge two_reflectors.vrfs node ≡ true) × (is_reflector by_both peer ≡ true)
    by true h = (each_pair node peer h).0 off
    by false h = (each_pair peer node h).1 off

-- 3. They are joined

reflects : (node : ℕ) → is_reflector by_both node ≡ true → (node ≡ 1) ⊎ (node ≡ 2)
reflects node h = elim (reflector_in by_both node h) [ inl e ↦ inl (sym e) | inr i ↦ elim i [ inl e ↦ inr (sym e) | inr j ↦ absurd j ] ]

are_reflectors : AreReflectors two_reflectors by_both
are_reflectors = record {
  nodes = λ node h. elim (reflects node h) [ inl e ↦ omega (arith, e) | inr e ↦ omega (arith, e) ];
  no_edges = λ node h. elim (reflects node h) [
    | inl e ↦ ap (is_edge two_reflectors.vrfs) e
    | inr e ↦ ap (is_edge two_reflectors.vrfs) e
  ];
}

abbrev end : ReflectWorld
end = drained 25 two_reflectors by_both begun

are_joined : IsJoined two_reflectors by_both end
are_joined = record {
  each_edge = λ edge is_one. elim (in_contained (edges two_reflectors) edge is_one) [
    | inl e ↦ (1, refl, ap (λ x. peers_live end.config x 1) (sym e))
    | inr i ↦ elim i [ inl e ↦ (1, refl, ap (λ x. peers_live end.config x 1) (sym e)) | inr j ↦ absurd j ]
  ];
  each_two = λ one other h g apart. elim (reflects one h) [
    | inl e ↦ elim (reflects other g) [
      | inl f ↦ absurd (apart (e ∙ sym f))
      | inr f ↦ ap (λ x. peers_live end.config x other) e ∙ ap (peers_live end.config 1) f
    ]
    | inr e ↦ elim (reflects other g) [
      | inl f ↦ ap (λ x. peers_live end.config x other) e ∙ ap (peers_live end.config 2) f
      | inr f ↦ absurd (apart (e ∙ sym f))
    ]
  ];
}

pub two_reflectors_drain : TwoReflectorsDrain
two_reflectors_drain = record {
  reflected = (
    (omega arith, omega arith),
    ((omega arith, omega arith), ((omega arith, omega arith), ((omega arith, omega arith), tt))),
  );
  reflectors = are_reflectors;
  peers = are_peers;
  drain = it_is_a_drain;
  hears = refl;
  may_hear = refl;
  quiet = refl;
  joined = are_joined;
}
