-- What a VRF holds by reflection, beside what a full mesh would give it.
use Rattle.std.specs.Prelude.{◌≡◌, ℕ, true, List, [], ◌∷◌, None}
use Rattle.mn_topo.specs.declared.steps.Step.{Step}
use Rattle.mn_reflect_ledger_laws.specs.World.{start, after}
use Rattle.mn_reflect_ledger_laws.specs.Refusal.{refusal}
use Rattle.std.specs.List.{Contains}
use Rattle.mn_topo.specs.Network.{Network}
use Rattle.mn_ledger.specs.World.{Config, Export}
use Rattle.mn_ledger.specs.Exports.{exports_of}
use Rattle.mn_ledger.specs.Held.{HeldRoute}
use Rattle.mn_settled_laws.specs.Routes.{routes_of}
use Rattle.mn_reflect_ledger_laws.specs.Words.{key_of, same_key}
use Rattle.mn_reflect_ledger_laws.specs.Picks.{ReflectWorld, plain}
use Rattle.mn_reflect_ledger_laws.specs.Quiet.{held}

-- no two exports of an edge have one VRF and prefix
abbrev pub AreApart : Network → Config → Type 0
AreApart topology config =
    (edge : ℕ) (one other : Export) → Contains (exports_of topology config edge) one → Contains (exports_of topology config edge) other →
    same_key (key_of (plain one)) (key_of (plain other)) ≡ true → one ≡ other

-- the VRF holds exactly its attached statics and, of the present exports of all other VRFs of all edges, those whose targets meet its
-- import set
pub record HoldsItsRoutes (topology : Network) (reflectors : List ℕ) (world : ReflectWorld) (edge v : ℕ) (route : HeldRoute) : Type 0 where
  pub only : Contains (held topology reflectors world edge v) route → Contains (routes_of topology world.config edge v) route
  pub all : Contains (routes_of topology world.config edge v) route → Contains (held topology reflectors world edge v) route

-- each of these steps is one that nothing refuses
abbrev pub AreDoneFrom : Network → List ℕ → ReflectWorld → List Step → Type 0
AreDoneFrom topology reflectors world [] = Unit {0}
AreDoneFrom topology reflectors world (done ∷ steps) =
    (refusal topology world done ≡ None) × AreDoneFrom topology reflectors (after topology reflectors world done) steps

abbrev pub AreDone : Network → List ℕ → List Step → Type 0
AreDone topology reflectors steps = AreDoneFrom topology reflectors (start topology) steps
