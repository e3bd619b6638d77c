-- What a node keeps as a session begins or ends.
use Rattle.std.proofs.Common.{ℕ, ◌≡◌, ◌≢◌, ◌⊎◌, inl, inr, Bool, true, false, List, [], refl, sym, ◌∙◌, ap, subst}
use Rattle.std.specs.Prelude.{if◌then◌else◌, nat_lt}
use Rattle.std.proofs.lemmas.Bool.Decides.{eqb_tells}
use Rattle.mn_topo.specs.declared.steps.Step.TheVariants as step
use Rattle.mn_ledger.specs.Tables.{put_pair}
use Rattle.mn_ledger.specs.Bgp.{peers_live}
use Rattle.mn_ledger.proofs.GoingBy.{pair_here, pair_off}
use Rattle.mn_bgp_spelling_laws.specs.Spelling.{Labels}
use Rattle.mn_offers.specs.Heard.{Heard}
use Rattle.mn_reflect_ledger_laws.specs.Picks.{ReflectWorld}
use Rattle.mn_reflect_ledger_laws.specs.World.{unsaid}
use Rattle.mn_reflect_world_laws.specs.Kept.{after_words, kept_in}
use Rattle.mn_reflect_world_laws.specs.Laws.{both_forgotten, ForgetsAsSessionsTurn}

abbrev nothing_kept : List Heard
nothing_kept = []

either_way : (t : Bool) → (if t then nothing_kept else nothing_kept) ≡ nothing_kept
either_way true = refl
either_way false = refl

-- a pair is the one, or the other way round, or neither
abbrev Apart : ℕ → ℕ → ℕ → ℕ → Type 0
Apart a b node peer = ((node ≢ a) ⊎ (peer ≢ b)) × ((node ≢ b) ⊎ (peer ≢ a))

abbrev IsIt : ℕ → ℕ → ℕ → ℕ → Type 0
IsIt a b node peer = (node ≡ a) × (peer ≡ b)

one_of : (a b node peer : ℕ) → IsIt a b node peer ⊎ ((node ≢ a) ⊎ (peer ≢ b))
one_of a b node peer = elim (eqb_tells node a) [
  | inl n ↦ elim (eqb_tells peer b) [ inl p ↦ inl (n.1, p.1) | inr p ↦ inr (inr p.1) ]
  | inr n ↦ inr (inl n.1)
]

turned : {P Q : Type 0} → P ⊎ Q → Q ⊎ P
turned (inl p) = inr p
turned (inr q) = inl q

module _ (labels : Labels) (world new : ReflectWorld) (a b : ℕ) (on : Bool) (two : a ≢ b)
    (sessions : new.config.bgp_on ≡ put_pair world.config.bgp_on a b on)
    (heard : (node peer : ℕ) → new.heard node peer ≡ put_pair (put_pair world.heard a b []) b a [] node peer) where
  abbrev IsSo : ℕ → ℕ → Type 0
  IsSo node peer = kept_in labels new node peer ≡ both_forgotten (kept_in labels world) a b node peer

  nothing : (node peer : ℕ) → new.heard node peer ≡ [] → kept_in labels new node peer ≡ []
  nothing node peer h =
      ap (λ words. if peers_live new.config node peer then after_words labels [] words else []) h ∙ either_way (peers_live new.config node peer)

  forth : IsSo a b
  forth =
      nothing a b (heard a b ∙ pair_off (put_pair world.heard a b []) b a [] a b (inl two) ∙ pair_here world.heard a b [])
      ∙ sym (pair_off (put_pair (kept_in labels world) a b []) b a [] a b (inl two) ∙ pair_here (kept_in labels world) a b [])

  back : IsSo b a
  back =
      nothing b a (heard b a ∙ pair_here (put_pair world.heard a b []) b a [])
      ∙ sym (pair_here (put_pair (kept_in labels world) a b []) b a [])

  lives : (node peer : ℕ) → Apart a b node peer → peers_live new.config node peer ≡ peers_live world.config node peer
  lives node peer apart =
      ap (λ (f : ℕ → ℕ → Bool). if nat_lt node peer then f node peer else f peer node) sessions
      ∙ ap (λ x. if nat_lt node peer then x else put_pair world.config.bgp_on a b on peer node)
      (pair_off world.config.bgp_on a b on node peer apart.0)
      ∙ ap (λ x. if nat_lt node peer then world.config.bgp_on node peer else x)
      (pair_off world.config.bgp_on a b on peer node (turned apart.1))

  elsewhere : (node peer : ℕ) → Apart a b node peer → IsSo node peer
  elsewhere node peer apart =
      ap (λ t. if t then after_words labels [] (new.heard node peer) else []) (lives node peer apart)
      ∙ ap (λ words. if peers_live world.config node peer then after_words labels [] words else [])
      (heard node peer ∙ pair_off (put_pair world.heard a b []) b a [] node peer apart.1 ∙ pair_off world.heard a b [] node peer apart.0)
      ∙ sym (pair_off (put_pair (kept_in labels world) a b []) b a [] node peer apart.1 ∙ pair_off (kept_in labels world) a b [] node peer apart.0)

  pub so : (node peer : ℕ) → IsSo node peer
  so node peer = elim (one_of a b node peer) [
    | inl e ↦ subst (λ n. IsSo n peer) (sym e.0) (subst (λ p. IsSo a p) (sym e.1) forth)
    | inr f ↦ elim (one_of b a node peer) [
      | inl e ↦ subst (λ n. IsSo n peer) (sym e.0) (subst (λ p. IsSo b p) (sym e.1) back)
      | inr g ↦ elsewhere node peer (f, g)
    ]
  ]

pub forgets : ForgetsAsSessionsTurn
forgets labels world a b node peer two = record {
  begins = so labels world (unsaid world (step.BgpUp a b)) a.0 b.0 true two refl (λ n p. refl) node peer;
  ends = so labels world (unsaid world (step.BgpDown a b)) a.0 b.0 false two refl (λ n p. refl) node peer;
}
