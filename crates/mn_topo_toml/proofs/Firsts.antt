-- Rules that come before others.
use Rattle.std.proofs.Common.{◌≡◌, List, [], ◌∷◌, ◌++◌, Option, Some, None, refl}
use Rattle.mn_topo_toml.specs.declared.refusal.TopoRule.{TopoRule}
use Rattle.mn_topo_toml.specs.Rules.{first_broken}

-- the first rules that one breaks come before all others
pub broken_before : (rules others : List (Option TopoRule)) (rule : TopoRule) → first_broken rules ≡ Some rule → first_broken (rules ++ others) ≡ Some rule
broken_before [] others rule h = cc
broken_before (Some one ∷ rules) others rule h = h
broken_before (None ∷ rules) others rule h = broken_before rules others rule h

pub kept_before : (rules others : List (Option TopoRule)) → first_broken rules ≡ None → first_broken (rules ++ others) ≡ first_broken others
kept_before [] others h = refl
kept_before (Some one ∷ rules) others h = cc
kept_before (None ∷ rules) others h = kept_before rules others h
