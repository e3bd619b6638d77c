-- A node whose neighbours owe what it counts counts what they owe after a step too.
use Rattle.std.proofs.Common.{ℕ, zero, suc, ◌≡◌, ◌+◌, ◌<◌, ◌≤◌, inl, inr, true, false, cond, List, [], ◌∷◌, length, refl, arith, sym, ◌∙◌, ap, subst}
use Rattle.std.proofs.Common.{Some, length-set}
use Rattle.std.specs.Prelude.{◌-◌, ◌==◌, take, replicate, slice_index_or, slice_set}
use Rattle.std.proofs.lemmas.Bool.Decides.{eqb_tells}
use Rattle.std.proofs.lemmas.List.{take-append-le, get_or-set_same, get_or-set_other, length-replicate}
use Rattle.std.proofs.lemmas.List.Filters.{length-filter_more}
use Rattle.mn_base.proofs.Bools.{same_test}
use Rattle.mn_base.proofs.Members.{In, filter_in, range_in}
use Rattle.mn_wiring.specs.Wiring.{Wiring, is_end, across, joining, links_at, links_of, JoinsOnce}
use Rattle.mn_topo.specs.Network.{Network, wiring_of}
use Rattle.mn_topo.specs.Lawful.{IsLawful}
use Rattle.mn_node.specs.Ldp.{Message, Initialization, KeepAlive, Address, Release, Said, messages_of}
use Rattle.mn_ledger.specs.World.{World, Sessions}
use Rattle.mn_ledger.specs.Transport.{with_said}
use Rattle.mn_ledger.proofs.Turning.{across-end}
use Rattle.mn_releases.specs.Rests.{Resting, row_of, released}
use Rattle.mn_reuse_laws.specs.Answers.{count_by, is_withdraw, is_release}
use Rattle.mn_reuse_laws.proofs.Counting.{count_append, count_parts}
use Rattle.mn_reuse_laws.proofs.Answering.{Released}
use Rattle.mn_lsr.specs.Turns.{owed_for_said}
use Rattle.mn_transport_laws.specs.Resting.{IsRow}
use Rattle.mn_transport_laws.proofs.Rows.{LeadsAlone, AllSaidBy, owed-more}

-- 1. A node's links lead to different nodes

in-one : (xs : List ℕ) (k l : ℕ) → length xs ≤ 1 → In xs k → In xs l → k ≡ l
in-one [] k l h i j = absurd i
in-one (x ∷ []) k l h i j = elim i [ inl e ↦ elim j [ inl f ↦ sym e ∙ f | inr n ↦ absurd n ] | inr n ↦ absurd n ]
in-one (x ∷ (y ∷ xs)) k l h i j = absurd (long h)
  where
    long : length (x ∷ (y ∷ xs)) ≤ 1 → ⊥
    long g = omega (arith, g)

pub leads-alone : (w : Wiring) (me l : ℕ) → JoinsOnce w → me < length w.loopbacks → across w l me < length w.loopbacks → l < length w.ends →
    is_end w l me ≡ true →
    LeadsAlone w me l (across w l me)
leads-alone w me l once there far below at = record {
  there = refl;
  alone = λ k inside end e. in-one (joining w me (across w l me)) k l (once me (across w l me) there far) (joined k inside end e) (joined l below at refl);
}
  where
    joined : (k : ℕ) → k < length w.ends → is_end w k me ≡ true → across w k me ≡ across w l me → In (joining w me (across w l me)) k
    joined k inside end e =
        filter_in (λ j. across w j me == across w l me) (links_at w me) k
        (filter_in (λ j. is_end w j me) (links_of w) k (range_in 0 (length w.ends) k (omega arith) (omega (arith, inside))) end)
        (ap (λ n. n == across w l me) e ∙ same_test (across w l me))

-- 2. One link of a node, by its sessions alone

-- by FEC, the Withdraws that were sent on the link without their Releases
pub record Counts (t : Network) (s : Sessions) (l m : ℕ) (row : List ℕ) : Type 0 where
  pub each : length row ≡ length t.loopbacks
  pub counts : (p : ℕ) → p < length t.loopbacks → slice_index_or row p 0 + count_by (is_release p) (take (s.heard l m) (s.said l (across (wiring_of t) l m)))
      ≡ count_by (is_withdraw p) (s.said l m)

pub row-counts : (t : Network) (w : World) (m l : ℕ) (row : List ℕ) → IsRow t w m l row → Counts t w.sessions l m row
row-counts t w m l row h = record { each = h.each; counts = h.counts }

pub counts-row : (t : Network) (w : World) (m l : ℕ) (row : List ℕ) → Counts t w.sessions l m row → IsRow t w m l row
counts-row t w m l row h = record { each = h.each; counts = h.counts }

-- the sessions of a link are as they were
pub record IsSame (t : Network) (a b : Sessions) (l m : ℕ) : Type 0 where
  pub heard : b.heard l m ≡ a.heard l m
  pub own : b.said l m ≡ a.said l m
  pub far : b.said l (across (wiring_of t) l m) ≡ a.said l (across (wiring_of t) l m)

pub counts-same : (t : Network) (a b : Sessions) (l m : ℕ) (row : List ℕ) → IsSame t a b l m → Counts t a l m row → Counts t b l m row
counts-same t a b l m row same h = record {
  each = h.each;
  counts = λ p below.
      ap (λ i. slice_index_or row p 0 + count_by (is_release p) (take i (b.said l (across (wiring_of t) l m)))) same.heard
      ∙ ap (λ ms. slice_index_or row p 0 + count_by (is_release p) (take (a.heard l m) ms)) same.far
      ∙ h.counts p below ∙ ap (count_by (is_withdraw p)) (sym same.own);
}

-- what the node says then is counted
pub counts-said : (t : Network) (k : Sessions) (xs ys : List Said) (l m : ℕ) (row : List ℕ) (r : Resting) →
    LeadsAlone (wiring_of t) m l (across (wiring_of t) l m) →
    AllSaidBy (wiring_of t) m xs → messages_of l m ys ≡ messages_of l m xs → k.heard l m ≤ length (k.said l (across (wiring_of t) l m)) →
    row_of r (across (wiring_of t) l m) ≡ Some row → Counts t k l m row →
    (after : List ℕ) × (row_of (owed_for_said (wiring_of t) m r xs) (across (wiring_of t) l m) ≡ Some after) × Counts t (with_said k ys) l m after
counts-said t k xs ys l m row r leads all same within at h =
    let more = owed-more (wiring_of t) m l (across (wiring_of t) l m) leads xs all r row at in (
      more.0,
      more.1,
      record {
        each = more.2.each ∙ h.each;
        counts = λ p below.
            let a = more.2.counts p (subst (λ n. p < n) (sym h.each) below) in
            let b = h.counts p below in
            let c = ap (count_by (is_release p))
            (take-append-le (k.heard l m) (k.said l (across (wiring_of t) l m)) (messages_of l (across (wiring_of t) l m) ys) within) in
            let d = count_append (is_withdraw p) (k.said l m) (messages_of l m ys) in
            let e = ap (count_by (is_withdraw p)) same in
            omega (arith, a, b, c, d, e);
      },
    )

-- 3. A message is received on the link

-- an end receives so many of the other's messages, and one more
pub record HearsOne (t : Network) (a b : Sessions) (l m : ℕ) : Type 0 where
  pub heard : b.heard l m ≡ a.heard l m + 1
  pub own : b.said l m ≡ a.said l m
  pub far : b.said l (across (wiring_of t) l m) ≡ a.said l (across (wiring_of t) l m)
  pub more : a.heard l m < length (a.said l (across (wiring_of t) l m))

abbrev pub next_is : (t : Network) (a : Sessions) (l m : ℕ) → Message
next_is t a l m = slice_index_or (a.said l (across (wiring_of t) l m)) (a.heard l m) Address

heard-count : (t : Network) (a b : Sessions) (l m p : ℕ) → HearsOne t a b l m →
    count_by (is_release p) (take (b.heard l m) (b.said l (across (wiring_of t) l m)))
    ≡ count_by (is_release p) (take (a.heard l m) (a.said l (across (wiring_of t) l m))) + cond (is_release p (next_is t a l m)) 1 0
heard-count t a b l m p one =
    ap (λ i. count_by (is_release p) (take i (b.said l (across (wiring_of t) l m)))) one.heard
    ∙ ap (λ ms. count_by (is_release p) (take (a.heard l m + 1) ms)) one.far
    ∙ length-filter_more (is_release p) (a.said l (across (wiring_of t) l m)) (a.heard l m) Address one.more

-- one that is no Release leaves the row as it is
pub counts-heard : (t : Network) (a b : Sessions) (l m : ℕ) (row : List ℕ) → HearsOne t a b l m → ((p : ℕ) → is_release p (next_is t a l m) ≡ false) →
    Counts t a l m row → Counts t b l m row
counts-heard t a b l m row one other h = record {
  each = h.each;
  counts = λ p below.
      let x = heard-count t a b l m p one in
      let y = ap {B = ℕ} (λ c. cond c 1 0) (other p) in
      let z = h.counts p below in
      let v = ap (count_by (is_withdraw p)) one.own in
      omega (arith, x, y, z, v);
}

-- no more Releases were sent than Withdraws
pub few-released : (t : Network) (a : Sessions) (l m p i : ℕ) → IsLawful t → Released t a → l < length t.links → is_end (wiring_of t) l m ≡ true →
    count_by (is_release p) (take i (a.said l (across (wiring_of t) l m))) ≤ count_by (is_withdraw p) (a.said l m)
few-released t a l m p i lawful released below at =
    let ends = across-end (wiring_of t) l m (lawful.ends_differ l below) at in
    let x = count_parts (is_release p) i (a.said l (across (wiring_of t) l m)) in
    let y = released l (across (wiring_of t) l m) p below ends.0 in
    let z = ap (λ n. count_by (is_withdraw p) (take (a.heard l (across (wiring_of t) l m)) (a.said l n))) ends.1 in
    let v = count_parts (is_withdraw p) (a.heard l (across (wiring_of t) l m)) (a.said l m) in
    omega (arith, x, y, z, v)

-- a Release takes one away
pub counts-released : (t : Network) (a b : Sessions) (l m g : ℕ) (row : List ℕ) → IsLawful t → Released t a → l < length t.links →
    is_end (wiring_of t) l m ≡ true →
    HearsOne t a b l m → next_is t a l m ≡ Release g → Counts t a l m row → Counts t b l m (slice_set row g (slice_index_or row g 0 - 1))
counts-released t a b l m g row lawful released below at one is h = record {
  each = length-set row g _ ∙ h.each;
  counts = λ p inside. elim (eqb_tells p g) [
    | inl q ↦
        let x = heard-count t a b l m p one in
        let y = ap {B = ℕ} (λ c. cond c 1 0) (ap (is_release p) is ∙ q.0) in
        let z = h.counts p inside in
        let v = ap (count_by (is_withdraw p)) one.own in
        let few = few-released t a l m p (a.heard l m + 1) lawful released below at in
        let u = length-filter_more (is_release p) (a.said l (across (wiring_of t) l m)) (a.heard l m) Address one.more in
        let here = ap (λ k. slice_index_or (slice_set row g (slice_index_or row g 0 - 1)) k 0) q.1
        ∙ get_or-set_same row g (slice_index_or row g 0 - 1) 0 (subst (λ k. k < length row) q.1 (subst (λ n. p < n) (sym h.each) inside))
        ∙ ap (λ k. slice_index_or row k 0 - 1) (sym q.1) in
        omega (arith, x, y, z, v, few, u, here)
    | inr q ↦
        let x = heard-count t a b l m p one in
        let y = ap {B = ℕ} (λ c. cond c 1 0) (ap (is_release p) is ∙ q.0) in
        let z = h.counts p inside in
        let v = ap (count_by (is_withdraw p)) one.own in
        let there = get_or-set_other row g p (slice_index_or row g 0 - 1) 0 q.1 in
        omega (arith, x, y, z, v, there)
  ];
}

-- as the session becomes OPERATIONAL nothing was withdrawn, so nothing is owed
zeros : (n p : ℕ) → slice_index_or (replicate n zero) p zero ≡ zero
zeros zero p = refl
zeros (suc n) zero = refl
zeros (suc n) (suc p) = zeros n p

pub counts-opened : (t : Network) (a b : Sessions) (l m : ℕ) → IsLawful t → Released t a → l < length t.links → is_end (wiring_of t) l m ≡ true →
    HearsOne t a b l m → a.said l m ≡ Initialization ∷ KeepAlive ∷ [] → Counts t b l m (replicate (length t.loopbacks) 0)
counts-opened t a b l m lawful released below at one talk = record {
  each = length-replicate (length t.loopbacks) 0;
  counts = λ p inside.
      let few = few-released t a l m p (a.heard l m + 1) lawful released below at in
      let none = ap (count_by (is_withdraw p)) talk in
      let v = ap (count_by (is_withdraw p)) one.own in
      let x = ap (λ i. count_by (is_release p) (take i (b.said l (across (wiring_of t) l m)))) one.heard
      ∙ ap (λ ms. count_by (is_release p) (take (a.heard l m + 1) ms)) one.far in
      let z = zeros (length t.loopbacks) p in
      omega (arith, few, none, v, x, z);
}
