-- VRFs are found by their distinguishers.
use Rattle.std.proofs.Common.{ℕ, ◌≡◌, ◌≢◌, ◌<◌, ◌+◌, ◌==◌, false, inl, inr, List, [], Some, arith, sym, ap, ◌∙◌, length}
use Rattle.std.specs.Prelude.{slice_index_or}
use Rattle.std.specs.List.{IsDistinct}
use Rattle.std.specs.Ordering.{nat_cmp}
use Rattle.std.specs.Cmp.{nat_cmp_is}
use Rattle.std.specs.declared.cmp.Ordering.{Ordering}
use Rattle.std.specs.declared.cmp.Ordering.TheVariants.{Less, Greater}
use Rattle.std.specs.BTreeMap.{BTreeMap, is_at}
use Rattle.std.specs.BTreeMap as tree
use Rattle.std.proofs.lemmas.Bool.Decides.{eqb_tells, leb_tells}
use Rattle.std.proofs.lemmas.Map.Keys.{apart_from_distinct}
use Rattle.mn_base.specs.declared.numbers.VrfNo.{VrfNo}
use Rattle.mn_base.proofs.Bools.{other_numbers}
use Rattle.mn_topo.specs.declared.vrfs.VrfDef.{VrfDef}
use Rattle.mn_topo.specs.Network.{Network}
use Rattle.mn_ledger.specs.Places.{vrf_at}
use Rattle.mn_reflect_telling.specs.Found.{vrf_with}
use Rattle.mn_reflect_telling.proofs.Posting.{any_default}

not_at : (a b : ℕ) → a ≢ b → is_at (nat_cmp a) b ≡ false
not_at a b apart = elim (leb_tells (a + 1) b) [
  | inl h ↦ ap (λ (o : Ordering). is_at (λ (k : ℕ). o) b) (sym (nat_cmp_is a b Less (omega (arith, h.1))))
  | inr h ↦ ap (λ (o : Ordering). is_at (λ (k : ℕ). o) b) (sym (nat_cmp_is a b Greater (omega (arith, h.1, apart))))
]

-- with one more
module _ (t : Network) (vrfs later : BTreeMap ℕ VrfNo) (n : ℕ) (below : n < length t.vrfs) (rows : List VrfDef) (x : VrfDef) (are : rows ≡ t.vrfs)
    (distinct : IsDistinct (λ (one other : VrfDef). one.rd.0 == other.rd.0) t.vrfs) where
  abbrev none : VrfDef
  none = record { node = record { 0 = 0 }; rd = record { 0 = 0 }; «import» = []; export = [] }

  its : (slice_index_or rows n x).rd.0 ≡ (vrf_at t n).rd.0
  its = ap (λ rs. (slice_index_or rs n x).rd.0) are ∙ ap (λ (def : VrfDef). def.rd.0) (any_default t.vrfs n x none below)

  apart : (v : ℕ) → v < n → (slice_index_or rows n x).rd.0 ≢ (vrf_at t v).rd.0
  apart v before same =
      other_numbers (vrf_at t v).rd.0 (vrf_at t n).rd.0
      (apart_from_distinct (λ (one other : VrfDef). one.rd.0 == other.rd.0) t.vrfs v n none distinct before below) (sym same ∙ its)

  pub finds_more : ((v : ℕ) → v < n → vrf_with vrfs (vrf_at t v).rd.0 ≡ Some (record { 0 = v })) →
      tree.get nat_cmp later (slice_index_or rows n x).rd.0 ≡ Some (record { 0 = n }) →
      ((q : ℕ) → is_at (nat_cmp (slice_index_or rows n x).rd.0) q ≡ false → tree.get nat_cmp later q ≡ tree.get nat_cmp vrfs q) →
      (v : ℕ) → v < n + 1 → vrf_with later (vrf_at t v).rd.0 ≡ Some (record { 0 = v })
  finds_more was put others v within = elim (eqb_tells v n) [
    | inl e ↦
        ap (λ k. vrf_with later (vrf_at t k).rd.0) e.1 ∙ ap (vrf_with later) (sym its) ∙ put
        ∙ ap (λ k. let n' : VrfNo = record { 0 = k } in Some n') (sym e.1)
    | inr e ↦
        let before : v < n = omega (arith, within, e.1) in
        others (vrf_at t v).rd.0 (not_at (slice_index_or rows n x).rd.0 (vrf_at t v).rd.0 (apart v before)) ∙ was v before
  ]
