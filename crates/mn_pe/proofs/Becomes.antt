-- An edge as a call leaves it: its VRFs hold what they should, and it is as the call is said to make it.
use Rattle.std.proofs.Common.{◌≡◌, ℕ, false, Bool, List, Option, sym, ◌∙◌, ap, subst}
use Rattle.mn_base.specs.declared.numbers.VrfNo.{VrfNo}
use Rattle.mn_rib_in.specs.Heard.{Heard}
use Rattle.mn_vrf.specs.Vrf.{Holding}
use Rattle.mn_pe.specs.Edge.{Edge}
use Rattle.mn_pe.specs.Pe.{PeNow, IsSound, edge_of}

-- an edge that hasn't run out of memory
abbrev pub working : Edge → PeNow
working edge = record { edge = edge; failed = false }

pub record Becomes (holdings : List Holding) (sites : List VrfNo) (labels : List (Option ℕ)) (loopbacks : List ℕ) (heard : List (List Heard))
    (made : Edge) : Type 0 where
  pub sound : IsSound (edge_of holdings sites labels loopbacks heard) holdings
  pub is : working (edge_of holdings sites labels loopbacks heard) ≡ working made

module _ (holdings : List Holding) (sites : List VrfNo) (labels : List (Option ℕ)) (loopbacks : List ℕ) (heard : List (List Heard)) where
  pub becomes : (made : Edge) → edge_of holdings sites labels loopbacks heard ≡ made → IsSound made holdings →
      Becomes holdings sites labels loopbacks heard made
  becomes made e sound = record { sound = subst (λ x. IsSound x holdings) (sym e) sound; is = ap working e }

-- what the call saw is what contracts see
pub seen : (f : Edge → Edge) {holdings : List Holding} {sites : List VrfNo} {labels : List (Option ℕ)} {loopbacks : List ℕ} {heard : List (List Heard)}
    {edge : Edge} {failed : Bool} {old : PeNow} → (let p : PeNow = record { edge = edge; failed = failed } in p) ≡ old →
    Becomes holdings sites labels loopbacks heard (f edge) → Becomes holdings sites labels loopbacks heard (f old.edge)
seen f view now = record { sound = now.sound; is = now.is ∙ ap (λ (p : PeNow). working (f p.edge)) view }
