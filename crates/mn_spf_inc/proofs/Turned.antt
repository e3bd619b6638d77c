-- What is said of a tree from outside when a link is turned.
use Rattle.std.proofs.Common.{ℕ, ◌≡◌, ◌≢◌, ◌<◌, ◌==◌, Bool, true, false, length, refl, arith, sym, ◌∙◌, ap, inl, inr, subst}
use Rattle.std.proofs.lemmas.Bool.{lt-ltb}
use Rattle.std.proofs.lemmas.Bool.Decides.{eqb_tells}
use Rattle.std.proofs.lemmas.List.{length-set}
use Rattle.mn_base.proofs.Bools.{or_left, or_right, same_test, other_test}
use Rattle.mn_wiring.specs.declared.links.LinkEnds.{LinkEnds}
use Rattle.mn_wiring.specs.Wiring.{link, is_up}
use Rattle.mn_linkdb.specs.Network.{IsNetwork}
use Rattle.mn_linkdb.specs.Learned.{Learned, IsView, links_up}
use Rattle.mn_spf.specs.Ways.{wiring_of, beyond}
use Rattle.mn_spf.proofs.Walks.{all_true}
use Rattle.mn_spf_inc.specs.Nets.{one_if, with_link}
use Rattle.mn_spf_inc.specs.Mending.{State, IsMended, IsPassedOver}
use Rattle.mn_spf_inc.specs.Mended.{Makes, IsKept}
use Rattle.mn_spf_inc.proofs.Lost.{idle_over}
use Rattle.mn_spf_inc.proofs.Held.{chosen_true, chosen_false}

pub other_than : (b c : Bool) → b ≢ c → c ≡ false → b ≡ true
other_than true c q e = refl
other_than false c q e = absurd (q (sym e))

pub view_kept : (v v' : Learned) (l : ℕ) (up : Bool) → v' ≡ with_link v l up → IsView v → IsView v'
view_kept v v' l up e h = subst IsView (sym e) (record { network = h.network; one_each = length-set v.counts l (one_if up) ∙ h.one_each })

-- a value of which memory was wanting
pub failed_kept : (v v' : Learned) (root l : ℕ) (up failed : Bool) (s : State) → failed ≡ true → v' ≡ with_link v l up → IsView v → root < v.nodes →
    IsKept v' root failed s
failed_kept v v' root l up failed s f e h p =
    record { network = view_kept v v' l up e h; there = omega (arith, p, ap (λ (x : Learned). x.nodes) e); mended = λ g. absurd (apart (sym f ∙ g)) }
  where
    apart : true ≢ false
    apart e = cc

pub mended_kept : (v v' : Learned) (root l : ℕ) (up failed : Bool) (s : State) → v' ≡ with_link v l up → IsView v → root < v.nodes → IsMended v' root s →
    IsKept v' root failed s
mended_kept v v' root l up failed s e h p m =
    record { network = view_kept v v' l up e h; there = omega (arith, p, ap (λ (x : Learned). x.nodes) e); mended = λ g. m }

module _ (v : Learned) (root : ℕ) (view : IsView v) (here : root < v.nodes) (s : State) (m : IsMended v root s) (l : ℕ) (there : l < length v.ends)
    (up : is_up (links_up v) l ≡ true) where
  abbrev a : ℕ
  a = (link (wiring_of v) l).a.0

  abbrev b : ℕ
  b = (link (wiring_of v) l).b.0

  far_a : beyond v a l ≡ b
  far_a = chosen_true (a == a) b a (same_test a)

  far_b : beyond v b l ≡ a
  far_b = elim (eqb_tells a b) [ inl e ↦ chosen_true (a == b) b a e.0 ∙ sym e.1 | inr e ↦ chosen_false (a == b) b a (other_test _ _ e.1) ]

  it : IsNetwork v.nodes v.ends
  it = view.network

  zero : LinkEnds
  zero = record { a = record { 0 = 0 }; b = record { 0 = 0 }; cost = 0; delay = 0; loss = 0; life = 0 }

  pub idle_both : (Makes s.table a (link (wiring_of v) l).cost b → ⊥) →
      (Makes s.table b (link (wiring_of v) l).cost a → ⊥) →
      IsPassedOver root s.table a (link (wiring_of v) l) × IsPassedOver root s.table b (link (wiring_of v) l)
  idle_both forth back = (
    idle_over v root it here s m l (omega (arith, there, view.one_each)) a (it.links l _ there).from
        (all_true _ _ _ up (or_left (a == a) (b == a) (same_test a)) (lt-ltb _ _ there))
        (λ k. forth (subst (Makes s.table a (link (wiring_of v) l).cost) far_a k)),
    idle_over v root it here s m l (omega (arith, there, view.one_each)) b (it.links l _ there).to
        (all_true _ _ _ up (or_right (a == b) (b == b) (same_test b)) (lt-ltb _ _ there))
        (λ k. back (subst (Makes s.table b (link (wiring_of v) l).cost) far_b k)),
  )
