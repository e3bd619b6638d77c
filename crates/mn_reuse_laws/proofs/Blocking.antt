-- Where a FEC is at rest at a node, no neighbour can send towards it over the node.
use Rattle.std.proofs.Common.{ℕ, ◌≡◌, ◌≢◌, ◌+◌, ◌<◌, inl, inr, Bool, true, false, List, [], ◌∷◌, length, refl, arith, sym, ◌∙◌, ap, subst, Option, None, Some}
use Rattle.std.specs.Prelude.{◌&&◌, not, take, drop}
use Rattle.std.specs.List.{list_all}
use Rattle.std.proofs.lemmas.List.{take-append-drop}
use Rattle.std.proofs.lemmas.Option.{same_Some}
use Rattle.mn_base.proofs.Bools.{clash, and_left, and_right, same_numbers}
use Rattle.mn_wiring.specs.Wiring.{is_end, across, links_at, links_of, JoinsNodes, EndsDiffer}
use Rattle.mn_wiring.specs.Paths.{next, IsNext}
use Rattle.mn_wiring.proofs.Next.{next_is}
use Rattle.mn_base.proofs.Members.{In, filter_in, range_in}
use Rattle.mn_topo.specs.Network.{Network, wiring_of}
use Rattle.mn_ledger.specs.World.{World}
use Rattle.mn_ledger.specs.Transport.{Knowledge, Hearing, hearing, is_operational, is_mapped, usable_over, usable, knowledge_of}
use Rattle.mn_ledger.proofs.Quiet.{hearing-is}
use Rattle.mn_ledger.proofs.Turning.{across-end}
use Rattle.mn_settled_laws.specs.Offers.{SaysItsOffers, is_operational_on, offers_in, has_mapped}
use Rattle.mn_settled_laws.proofs.Mapped.{mapped-append}
use Rattle.mn_reuse_laws.specs.Answers.{count_by, is_withdraw, is_release, is_mention, withdraws, releases, heard_from, flying_from}
use Rattle.mn_reuse_laws.specs.Resting.{is_released, is_at_rest}
use Rattle.mn_reuse_laws.proofs.Counting.{count_parts, not_mapped}
use Rattle.mn_reuse_laws.proofs.Answering.{Released}

-- 1. What is in flight, received and kept of a FEC, at one end

module _ (t : Network) (w : World) (l m p : ℕ) (below : l < length t.links) (differ : EndsDiffer (wiring_of t)) (e : is_end (wiring_of t) l m ≡ true)
    (released : Released t w.sessions) where
  far_end : ℕ
  far_end = across (wiring_of t) l m

  -- the other end has sent a Release for each Withdraw that it has received
  far_released : count_by (is_release p) (w.sessions.said l (across (wiring_of t) l m)) ≡ count_by (is_withdraw p) (heard_from t w l m)
  far_released =
      let other = across-end (wiring_of t) l m (differ l below) e in
      released l (across (wiring_of t) l m) p below other.0
      ∙ ap (λ x. count_by (is_withdraw p) (take (w.sessions.heard l (across (wiring_of t) l m)) (w.sessions.said l x))) other.1

  back_flying : count_by (is_release p) (flying_from t w l (across (wiring_of t) l m))
      ≡ count_by (is_release p) (drop (w.sessions.heard l m) (w.sessions.said l (across (wiring_of t) l m)))
  back_flying = ap (λ x. count_by (is_release p) (drop (w.sessions.heard l x) (w.sessions.said l (across (wiring_of t) l m))))
      (across-end (wiring_of t) l m (differ l below) e).1

  pub counted : withdraws w l m p
      ≡ count_by (is_withdraw p) (flying_from t w l m) + (count_by (is_release p) (flying_from t w l (across (wiring_of t) l m)) + releases t w l m p)
  counted = omega (
    arith,
    count_parts (is_withdraw p) (w.sessions.heard l (across (wiring_of t) l m)) (w.sessions.said l m),
    far_released,
    count_parts (is_release p) (w.sessions.heard l m) (w.sessions.said l (across (wiring_of t) l m)),
    back_flying,
  )

  pub forgotten : has_mapped w l m p ≡ false → withdraws w l m p ≡ releases t w l m p →
      (is_mapped false p (heard_from t w l m) ≡ false) × (count_by (is_mention p) (flying_from t w l m) ≡ 0)
      × (count_by (is_release p) (flying_from t w l (across (wiring_of t) l m)) ≡ 0)
  forgotten off same =
      let none : count_by (is_withdraw p) (flying_from t w l m) ≡ 0 = omega (arith, counted, same) in
      let rest = not_mapped (is_mapped false p (heard_from t w l m)) p (flying_from t w l m) none (sym (parts) ∙ off) in
      (rest.0, rest.1, omega (arith, counted, same))
    where
      parts : is_mapped false p (w.sessions.said l m) ≡ is_mapped (is_mapped false p (heard_from t w l m)) p (flying_from t w l m)
      parts = ap (is_mapped false p) (sym (take-append-drop (w.sessions.heard l (across (wiring_of t) l m)) (w.sessions.said l m)))
          ∙ mapped-append false p (heard_from t w l m) (flying_from t w l m)

-- 2. At rest

pub all_at : {A : Type 0} (q : A → Bool) (xs : List A) (x : A) → list_all q xs ≡ true → In xs x → q x ≡ true
all_at q [] x h i = absurd i
all_at q (y ∷ ys) x h i = elim i [
  | inl e ↦ ap q (sym e) ∙ and_left (q y) (list_all q ys) h
  | inr j ↦ all_at q ys x (and_right (q y) (list_all q ys) h) j
]

on_not : (b : Bool) → not b ≡ true → b ≡ false
on_not true h = cc
on_not false h = refl

pub link_at : (t : Network) (l m : ℕ) → l < length t.links → is_end (wiring_of t) l m ≡ true → In (links_at (wiring_of t) m) l
link_at t l m h e = filter_in (λ k. is_end (wiring_of t) k m) (links_of (wiring_of t)) l (range_in 0 (length t.links) l (omega arith) (omega (arith, h))) e

-- what is at rest isn't offered, and no neighbour owes a Release of it
pub resting : (t : Network) (w : World) (m p : ℕ) → is_at_rest t w m p ≡ true →
    (offers_in t w m p ≡ false) × ((l : ℕ) → l < length t.links → is_end (wiring_of t) l m ≡ true → withdraws w l m p ≡ releases t w l m p)
resting t w m p h = (
  on_not (offers_in t w m p) (and_left (not (offers_in t w m p)) (list_all (is_released t w m p) (links_at (wiring_of t) m)) h),
  λ l below e. same_numbers (withdraws w l m p) (releases t w l m p)
      (all_at (is_released t w m p) (links_at (wiring_of t) m) l
      (and_right (not (offers_in t w m p)) (list_all (is_released t w m p) (links_at (wiring_of t) m)) h) (link_at t l m below e)),
)

pub over_mapped : (k : Knowledge) (p : ℕ) (o : Option (ℕ × ℕ)) (hop : ℕ × ℕ) → usable_over k p o ≡ Some hop →
    (o ≡ Some hop) × (is_operational k hop.1 ≡ true) × (is_mapped false p (hearing k hop.1).messages ≡ true)
over_mapped k p None hop h = cc
over_mapped k p (Some at) hop h = split (is_operational k at.1 && is_mapped false p (hearing k at.1).messages) refl h
  where
    split : (b : Bool) → (is_operational k at.1 && is_mapped false p (hearing k at.1).messages) ≡ b
        → (elim b as (λ _. Option (ℕ × ℕ)) [ true ↦ Some at | false ↦ None ]) ≡ Some hop
        → (Some at ≡ Some hop) × (is_operational k hop.1 ≡ true) × (is_mapped false p (hearing k hop.1).messages ≡ true)
    split true on e = (
      e,
      subst (λ (x : ℕ × ℕ). is_operational k x.1 ≡ true) (same_Some at hop e) (and_left _ _ on),
      subst (λ (x : ℕ × ℕ). is_mapped false p (hearing k x.1).messages ≡ true) (same_Some at hop e) (and_right _ _ on),
    )
    split false off e = cc

-- a node that can send towards a FEC over a link has received a Mapping of it last there
pub hop_mapped : (t : Network) (w : World) (n p : ℕ) (hop : ℕ × ℕ) → JoinsNodes (wiring_of t) → n < length t.loopbacks → n ≢ p →
    usable t w.config w.views w.sessions n p ≡ Some hop →
    (hop.1 < length t.links) × (is_end (wiring_of t) hop.1 n ≡ true) × (hop.0 ≡ across (wiring_of t) hop.1 n)
    × (is_mapped false p (take (w.sessions.heard hop.1 n) (w.sessions.said hop.1 (across (wiring_of t) hop.1 n))) ≡ true)
unfolding knowledge_of
hop_mapped t w n p hop joins below apart h =
    let k : Knowledge = knowledge_of (wiring_of t) w.config w.views w.sessions n in
    let over = over_mapped k p (next (wiring_of t) k.view n p) hop h in
    let is : IsNext (wiring_of t) k.view n p (Some hop) =
    subst (IsNext (wiring_of t) k.view n p) over.0 (next_is (wiring_of t) k.view p joins n below apart) in (
      is.1.there,
      is.1.at_node,
      is.0,
      sym (ap (λ (g : Hearing). is_mapped false p g.messages) (hearing-is (wiring_of t) w.config w.views w.sessions n hop.1 is.1.there)) ∙ over.2,
    )

pub rest_blocks : (t : Network) (w : World) (m n p : ℕ) (hop : ℕ × ℕ) → JoinsNodes (wiring_of t) → EndsDiffer (wiring_of t) → n < length t.loopbacks → n ≢ p →
    p < length t.loopbacks → SaysItsOffers t w → Released t w.sessions → is_at_rest t w m p ≡ true →
    usable t w.config w.views w.sessions n p ≡ Some hop → hop.0 ≢ m
rest_blocks t w m n p hop joins differ below apart inside says released rest h same =
    let way = hop_mapped t w n p hop joins below apart h in
    let other = across-end (wiring_of t) hop.1 n (differ hop.1 way.0) way.1 in
    let at : across (wiring_of t) hop.1 n ≡ m = sym way.2 ∙ same in
    let end : is_end (wiring_of t) hop.1 m ≡ true = subst (λ x. is_end (wiring_of t) hop.1 x ≡ true) at other.0 in
    let back : across (wiring_of t) hop.1 m ≡ n = subst (λ x. across (wiring_of t) hop.1 x ≡ n) at other.1 in
    let quiet = resting t w m p rest in
    let unmapped : has_mapped w hop.1 m p ≡ false = says hop.1 m p way.0 end inside
    ∙ ap (λ b. is_operational_on t w m hop.1 && b) quiet.0 ∙ off (is_operational_on t w m hop.1) in
    let gone = (forgotten t w hop.1 m p way.0 differ end released unmapped (quiet.1 hop.1 way.0 end)).0 in
    clash (sym way.3 ∙ ap (λ x. is_mapped false p (take (w.sessions.heard hop.1 n) (w.sessions.said hop.1 x))) at
    ∙ ap (λ x. is_mapped false p (take (w.sessions.heard hop.1 x) (w.sessions.said hop.1 m))) (sym back) ∙ gone)
  where
    off : (b : Bool) → (b && false) ≡ false
    off true = refl
    off false = refl
