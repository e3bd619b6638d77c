-- Which rule refuses an entry that is a link.
use Rattle.std.proofs.Common.{◌≡◌, ℕ, true, false, ◌==◌, List, [], ◌∷◌, Some, None, codes, refl, ap, sym, ◌∙◌}
use Rattle.toml.specs.Data.{Members}
use Rattle.mn_base.proofs.Bools.{same_test}
use Rattle.mn_wiring.specs.declared.links.LinkEnds.{LinkEnds}
use Rattle.mn_topo.specs.Links.{are_joined}
use Rattle.mn_topo_toml.specs.declared.refusal.TopoRule.{TopoRule}
use Rattle.mn_topo_toml.specs.declared.refusal.TopoRule.TheVariants.{SelfLink, TwiceLinked, BadCost, BadDelay}
use Rattle.mn_topo_toml.specs.Names.{number_named}
use Rattle.mn_topo_toml.specs.Rules.{broken, first_broken}
use Rattle.mn_topo_toml.proofs.Firsts.{broken_before, kept_before}
use Rattle.mn_topo_toml.specs.Links.{AreDelays, AreEnds, IsLink, cost_at, end_rules, figure_rules, has_bad_delay, link_rule}

pub bad_ends : (nodes : List (List ℕ)) (earlier : List LinkEnds) (entry : Members) (rule : TopoRule) → first_broken (end_rules nodes entry) ≡ Some rule →
    link_rule nodes earlier entry ≡ Some rule
unfolding link_rule
bad_ends nodes earlier entry rule h = broken_before (end_rules nodes entry) _ rule h

-- the ends are two nodes that no earlier link joins
pub record AreFree (nodes : List (List ℕ)) (earlier : List LinkEnds) (entry : Members) (a b : ℕ) : Type 0 where
  pub ends : AreEnds nodes entry a b
  pub apart : (a == b) ≡ false
  pub fresh : are_joined earlier a b ≡ false

module _ (nodes : List (List ℕ)) (earlier : List LinkEnds) (entry : Members) (a b : ℕ) where
  rules_left : AreEnds nodes entry a b → link_rule nodes earlier entry ≡
      first_broken (broken (a == b) SelfLink ∷ broken (are_joined earlier a b) TwiceLinked ∷ figure_rules entry)
  unfolding link_rule
  rules_left h = kept_before (end_rules nodes entry) _ h.lawful
      ∙ ap (λ n. first_broken (broken (n == number_named nodes (codes "b") entry) SelfLink
      ∷ broken (are_joined earlier n (number_named nodes (codes "b") entry)) TwiceLinked ∷ figure_rules entry)) (sym h.a_is)
      ∙ ap (λ n. first_broken (broken (a == n) SelfLink ∷ broken (are_joined earlier a n) TwiceLinked ∷ figure_rules entry)) (sym h.b_is)

  pub self_link : AreEnds nodes entry a b → a ≡ b → link_rule nodes earlier entry ≡ Some SelfLink
  self_link h same = rules_left h
      ∙ ap (λ t. first_broken (broken t SelfLink ∷ broken (are_joined earlier a b) TwiceLinked ∷ figure_rules entry)) (ap (λ n. a == n) (sym same)
      ∙ same_test a)

  pub twice_linked : AreEnds nodes entry a b → (a == b) ≡ false → are_joined earlier a b ≡ true → link_rule nodes earlier entry ≡ Some TwiceLinked
  twice_linked h apart there = rules_left h
      ∙ ap (λ t. first_broken (broken t SelfLink ∷ broken (are_joined earlier a b) TwiceLinked ∷ figure_rules entry)) apart
      ∙ ap (λ t. first_broken (broken t TwiceLinked ∷ figure_rules entry)) there

  figures_left : AreFree nodes earlier entry a b → link_rule nodes earlier entry ≡ first_broken (figure_rules entry)
  figures_left h = rules_left h.ends
      ∙ ap (λ t. first_broken (broken t SelfLink ∷ broken (are_joined earlier a b) TwiceLinked ∷ figure_rules entry)) h.apart
      ∙ ap (λ t. first_broken (broken t TwiceLinked ∷ figure_rules entry)) h.fresh

  pub bad_cost : AreFree nodes earlier entry a b → cost_at entry ≡ None → link_rule nodes earlier entry ≡ Some BadCost
  bad_cost h none = figures_left h ∙ rw none refl

  pub bad_delay : (cost : ℕ) → AreFree nodes earlier entry a b → cost_at entry ≡ Some cost → has_bad_delay entry ≡ true →
      link_rule nodes earlier entry ≡ Some BadDelay
  bad_delay cost h there bad = figures_left h ∙ rw there (ap (λ t. first_broken (broken t BadDelay ∷ [])) bad)

  pub is_link : (cost delay loss life : ℕ) → AreFree nodes earlier entry a b → cost_at entry ≡ Some cost → AreDelays entry delay loss life →
      IsLink nodes earlier entry (record { a = record { 0 = a }; b = record { 0 = b }; cost = cost; delay = delay; loss = loss; life = life })
  is_link cost delay loss life h there good = record {
    lawful = figures_left h ∙ rw there (ap (λ t. first_broken (broken t BadDelay ∷ [])) good.good);
    link_is = rw (h.ends.a_is, h.ends.b_is, there, good.delay_is, good.loss_is, good.life_is) refl;
    fresh = h.fresh;
  }
