-- Nodes with reflectors take each step of a site or of targets that a line names.
use Rattle.std.proofs.Common.{◌≡◌, ℕ, Bool, true, false, List, [], ◌∷◌, Result, Ok, Err, refl, sym, ◌∙◌, ap, subst}
use Rattle.std.specs.Prelude.{◌==◌, ◌||◌, if◌then◌else◌, IfOk, codes}
use Rattle.std.specs.List.{list_any}
use Rattle.mn_base.specs.declared.numbers.NodeNo.{NodeNo}
use Rattle.mn_base.specs.declared.numbers.SiteNo.{SiteNo}
use Rattle.mn_base.specs.declared.numbers.VrfNo.{VrfNo}
use Rattle.mn_base.specs.declared.numbers.Rt.{Rt}
use Rattle.mn_prefix.specs.Prefix.{AddressBlock}
use Rattle.mn_topo.specs.Network.{Network}
use Rattle.mn_topo.specs.Steps.{fits}
use Rattle.mn_topo.specs.declared.steps.Step.{Step}
use Rattle.mn_topo.specs.declared.steps.Step.TheVariants.{AddRoute, DelRoute, Import, Export, Attach, Detach}
use Rattle.mn_script.specs.declared.refusal.ScriptRule.{ScriptRule}
use Rattle.mn_script.specs.Rules.{◌>>=◌}
use Rattle.mn_script.specs.Words.{word_at, choice, counted}
use Rattle.mn_script.specs.Operands.{prefix_in, site_in}
use Rattle.mn_script.specs.Steps.{route_line, target_operands, import_line, export_line, site_line}
use Rattle.mn_reflect_world_laws.specs.Steps.{takes}
use Rattle.mn_reflect_telling.specs.Mentions.{numbers_of}

pub listed : (node : ℕ) (nodes : List NodeNo) → list_any (λ (other : NodeNo). other.0 == node) nodes ≡ list_any (λ other. other == node) (numbers_of nodes)
listed node [] = refl
listed node (other ∷ nodes) = ap (λ b. (other.0 == node) || b) (listed node nodes)

module _ (network : Network) (reflectors : List ℕ) where
  -- they take it where there is room for it
  abbrev pub Taken : Result Step ScriptRule → Type 0
  Taken line = IfOk line (λ s. takes network reflectors s ≡ fits network s)

  pub taken : (r line : Result Step ScriptRule) → r ≡ line → Taken line → IfOk r (λ s. fits network s ≡ true) → IfOk r (λ s. takes network reflectors s ≡ true)
  taken r line is same fit = by r (subst Taken (sym is) same) fit
    where
      by : (r : Result Step ScriptRule) → Taken r → IfOk r (λ s. fits network s ≡ true) → IfOk r (λ s. takes network reflectors s ≡ true)
      by (Ok s) same fit = same ∙ fit
      by (Err rule) same fit = tt

  route_by : (add : Result Bool ScriptRule) (full : Result (Unit {0}) ScriptRule) (prefix : Result AddressBlock ScriptRule) (site : Result SiteNo ScriptRule) →
      Taken (add >>= (λ add. full >>= (λ full. prefix >>= (λ prefix. site >>= (λ site. Ok (if add then AddRoute site prefix else DelRoute site prefix))))))
  route_by (Err rule) full prefix site = tt
  route_by (Ok add) (Err rule) prefix site = tt
  route_by (Ok add) (Ok full) (Err rule) site = tt
  route_by (Ok add) (Ok full) (Ok prefix) (Err rule) = tt
  route_by (Ok true) (Ok full) (Ok prefix) (Ok site) = refl
  route_by (Ok false) (Ok full) (Ok prefix) (Ok site) = refl

  pub route_taken : (ws : List (List ℕ)) → Taken (route_line network ws)
  unfolding route_line
  route_taken ws = route_by (choice ws (codes "add") (codes "del")) (counted ws 4) (prefix_in (word_at ws 3)) (site_in network (word_at ws 2))

  import_by : (found : Result (VrfNo × Rt × Bool) ScriptRule) → Taken (found >>= (λ found. Ok (Import found.0 found.2 found.1)))
  import_by (Ok found) = refl
  import_by (Err rule) = tt

  pub import_taken : (ws : List (List ℕ)) → Taken (import_line network ws)
  unfolding import_line
  import_taken ws = import_by (target_operands network ws)

  export_by : (found : Result (VrfNo × Rt × Bool) ScriptRule) → Taken (found >>= (λ found. Ok (Export found.0 found.2 found.1)))
  export_by (Ok found) = refl
  export_by (Err rule) = tt

  pub export_taken : (ws : List (List ℕ)) → Taken (export_line network ws)
  unfolding export_line
  export_taken ws = export_by (target_operands network ws)

  site_by : (up : Result Bool ScriptRule) (full : Result (Unit {0}) ScriptRule) (site : Result SiteNo ScriptRule) →
      Taken (up >>= (λ up. full >>= (λ full. site >>= (λ site. Ok (if up then Attach site else Detach site)))))
  site_by (Err rule) full site = tt
  site_by (Ok up) (Err rule) site = tt
  site_by (Ok up) (Ok full) (Err rule) = tt
  site_by (Ok true) (Ok full) (Ok site) = refl
  site_by (Ok false) (Ok full) (Ok site) = refl

  pub site_taken : (ws : List (List ℕ)) → Taken (site_line network ws)
  unfolding site_line
  site_taken ws = site_by (choice ws (codes "up") (codes "down")) (counted ws 3) (site_in network (word_at ws 2))
