-- A node whose way still comes from a neighbour is found to be held.
use Rattle.std.proofs.Common.{ℕ, ◌≡◌, ◌+◌, ◌<◌, ◌≤◌, true, List, length, get_or, arith, ◌∙◌, inl, inr, subst}
use Rattle.std.specs.Prelude.{Some}
use Rattle.std.proofs.lemmas.Bool.{cases_lt}
use Rattle.mn_base.specs.declared.numbers.LinkNo.{LinkNo}
use Rattle.mn_wiring.specs.Wiring.{link}
use Rattle.mn_linkdb.specs.Learned.{Learned}
use Rattle.mn_linkdb.specs.PathTable.{PathTable}
use Rattle.mn_spf.specs.Ways.{wiring_of, goes, beyond, AreLinksAt}
use Rattle.mn_spf_inc.specs.declared.way.Way.{Way}
use Rattle.mn_spf_inc.specs.Ways.{way_over, way_at}
use Rattle.mn_spf_inc.specs.Nets.{all_up}
use Rattle.mn_spf_inc.specs.Mending.{ComesOver}
use Rattle.mn_spf_inc.proofs.Places.{first_place, place_is}

-- the way doesn't come over this link
abbrev pub IsNotOver : Learned → ℕ → PathTable → Way → ℕ → Type 0
IsNotOver v root t way l =
    (near : Way) → goes v way.to l ≡ true → way_at t (beyond v way.to l) ≡ Some near → way_over root near (link (wiring_of v) l) ≡ way → ⊥

-- nor over any before this place of the list
abbrev pub AreNotOver : Learned → ℕ → PathTable → Way → List LinkNo → ℕ → Type 0
AreNotOver v root t way links i = (k : ℕ) → k < i → IsNotOver v root t way (get_or links k (record { 0 = 0 })).0

module _ (v : Learned) (root : ℕ) (t : PathTable) (way : Way) (links : List LinkNo) where
  pub one_more : (i : ℕ) → AreNotOver v root t way links i → IsNotOver v root t way (get_or links i (record { 0 = 0 })).0 →
      AreNotOver v root t way links (i + 1)
  one_more i before this k p =
      elim (cases_lt k i) [
        | inl q ↦ before k q
        | inr q ↦ (let e : i ≡ k = omega (arith, p, q) in
            subst (λ n. IsNotOver v root t way (get_or links n (record { 0 = 0 })).0) e this)
      ]

  pub over_none : (i : ℕ) → AreLinksAt (all_up v.nodes v.ends) way.to links → length links ≤ i → AreNotOver v root t way links i → ComesOver v root t way → ⊥
  over_none i are p before comes =
      let o = first_place v way.to links are comes.l comes.goes_on in
      let e : (get_or links o.1 (record { 0 = 0 })).0 ≡ comes.l = place_is links o.1 (record { 0 = 0 }) (record { 0 = comes.l }) o.3 ∙ o.4 in
      subst (IsNotOver v root t way) e (before o.1 (omega (arith, p, o.3))) comes.near comes.goes_on comes.is_known comes.same
