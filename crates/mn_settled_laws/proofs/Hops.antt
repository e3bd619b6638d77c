-- What a next hop is: the nearer end of a link of the node.
use Rattle.std.proofs.Common.{ℕ, ◌≡◌, ◌≢◌, ◌<◌, inl, inr, true, false, length, sym, ◌∙◌, ap, subst, Option, None, Some}
use Rattle.std.proofs.lemmas.Bool.Decides.{eqb_tells}
use Rattle.mn_wiring.specs.Wiring.{View, across}
use Rattle.mn_wiring.specs.Paths.{IsNext, next, next_by, dists_to}
use Rattle.mn_wiring.proofs.Next.{next_is}
use Rattle.mn_base.proofs.Rules.{none_is}
use Rattle.mn_topo.specs.Network.{Network, wiring_of}
use Rattle.mn_topo.specs.Lawful.{IsLawful}
use Rattle.mn_ledger.proofs.Turning.{across-end}
use Rattle.mn_settled_laws.proofs.Offering.{ends_below}

module _ (t : Network) (v : View) (lawful : IsLawful t) (p : ℕ) where
  next-self : (n : ℕ) → n ≡ p → next (wiring_of t) v n p ≡ None
  unfolding next
  next-self n e = elim (eqb_tells n p) [
    | inl q ↦ ap (λ b. elim b as (λ _. Option (ℕ × ℕ)) [ true ↦ None | false ↦ next_by (wiring_of t) v (dists_to (wiring_of t) v p) n ]) q.0
    | inr q ↦ absurd (q.1 e)
  ]

  pub some-next : (n : ℕ) (hop : ℕ × ℕ) → n < length t.loopbacks → next (wiring_of t) v n p ≡ Some hop → (n ≢ p) × IsNext (wiring_of t) v n p (Some hop)
  some-next n hop below is =
      let apart : n ≢ p = λ q. none_is hop (sym (next-self n q) ∙ is) in
      (apart, subst (IsNext (wiring_of t) v n p) is (next_is (wiring_of t) v p lawful.joins_nodes n below apart))

  pub hop-below : (n : ℕ) (hop : ℕ × ℕ) → IsNext (wiring_of t) v n p (Some hop) → hop.0 < length t.loopbacks
  hop-below n hop some =
      let other = across-end (wiring_of t) hop.1 n (lawful.ends_differ hop.1 some.1.there) some.1.at_node in
      subst (λ j. j < length t.loopbacks) (sym some.0) (ends_below t lawful.joins_nodes hop.1 (across (wiring_of t) hop.1 n) some.1.there other.0)
