-- Which rule refuses an entry that is a VRF, of its first rules.
use Rattle.std.proofs.Common.{◌≡◌, ℕ, Bool, true, false, not, List, [], ◌∷◌, Option, Some, None, is_none, codes, refl, ap, sym, ◌∙◌}
use Rattle.toml.specs.Data.{Members}
use Rattle.toml.specs.declared.value.Value.{Value}
use Rattle.mn_topo.specs.Names.{has_name}
use Rattle.mn_topo.specs.Tables.{is_name}
use Rattle.mn_topo.specs.VrfTable.{VrfTable}
use Rattle.mn_topo_toml.specs.declared.refusal.TopoRule.{TopoRule}
use Rattle.mn_topo_toml.specs.declared.refusal.TopoRule.TheVariants.{BadName, TwiceNamed, NoSuchName, TwiceRd}
use Rattle.mn_topo_toml.specs.Names.{named_at}
use Rattle.mn_topo_toml.specs.Rules.{broken, first_broken}
use Rattle.mn_topo_toml.proofs.Firsts.{broken_before, kept_before}
use Rattle.mn_topo_toml.specs.Vrfs.{rd_at, is_rd_taken, key_rules, vrf_head_rule, AreKeyed}

pub bad_keys : (nodes : List (List ℕ)) (earlier : VrfTable) (entry : Members) (rule : TopoRule) → first_broken (key_rules entry) ≡ Some rule →
    vrf_head_rule nodes earlier entry ≡ Some rule
unfolding vrf_head_rule
bad_keys nodes earlier entry rule h = broken_before (key_rules entry) _ rule h

module _ (nodes : List (List ℕ)) (earlier : VrfTable) (entry : Members) (name : List ℕ) (import export : List Value)
    (keyed : AreKeyed entry name import export) where
  -- the rules that are left, over what they ask of the name, the node and the distinguisher
  abbrev left : Bool → Bool → Bool → Bool → Option TopoRule
  left named taken known free =
      first_broken (broken (not named) BadName ∷ broken taken TwiceNamed ∷ broken known NoSuchName ∷ broken free TwiceRd ∷ [])

  rules_left : (named taken known free : Bool) → is_name name ≡ named → has_name earlier.names name ≡ taken →
      is_none (named_at nodes (codes "node") entry) ≡ known →
      is_rd_taken earlier (rd_at entry) ≡ free → vrf_head_rule nodes earlier entry ≡ left named taken known free
  unfolding vrf_head_rule
  rules_left named taken known free n t k f =
      kept_before (key_rules entry) _ keyed.lawful
      ∙ ap (λ word. left (is_name word) (has_name earlier.names word) (is_none (named_at nodes (codes "node") entry)) (is_rd_taken earlier (rd_at entry)))
      (sym keyed.values.name_is)
      ∙ ap (λ b. left b (has_name earlier.names name) (is_none (named_at nodes (codes "node") entry)) (is_rd_taken earlier (rd_at entry))) n
      ∙ ap (λ b. left named b (is_none (named_at nodes (codes "node") entry)) (is_rd_taken earlier (rd_at entry))) t
      ∙ ap (λ b. left named taken b (is_rd_taken earlier (rd_at entry))) k
      ∙ ap (left named taken known) f

  pub bad_name : is_name name ≡ false → vrf_head_rule nodes earlier entry ≡ Some BadName
  bad_name n = rules_left false _ _ _ n refl refl refl

  pub twice_named : is_name name ≡ true → has_name earlier.names name ≡ true → vrf_head_rule nodes earlier entry ≡ Some TwiceNamed
  twice_named n t = rules_left true true _ _ n t refl refl

  pub no_such_node : is_name name ≡ true → has_name earlier.names name ≡ false → named_at nodes (codes "node") entry ≡ None →
      vrf_head_rule nodes earlier entry ≡ Some NoSuchName
  no_such_node n t k = rules_left true false true _ n t (ap is_none k) refl

  pub twice_rd : (node : ℕ) → is_name name ≡ true → has_name earlier.names name ≡ false → named_at nodes (codes "node") entry ≡ Some node →
      is_rd_taken earlier (rd_at entry) ≡ true → vrf_head_rule nodes earlier entry ≡ Some TwiceRd
  twice_rd node n t k f = rules_left true false false true n t (ap is_none k) f

  pub no_rule : (node : ℕ) → is_name name ≡ true → has_name earlier.names name ≡ false → named_at nodes (codes "node") entry ≡ Some node →
      is_rd_taken earlier (rd_at entry) ≡ false → vrf_head_rule nodes earlier entry ≡ None
  no_rule node n t k f = rules_left true false false false n t (ap is_none k) f
