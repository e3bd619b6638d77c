-- Pairs are marked, and no pair that needs what failed is left without a mark.
use Rattle.std.proofs.Common.{
  ℕ,
  ◌≡◌,
  ◌≢◌,
  ◌+◌,
  ◌<◌,
  ◌≤◌,
  inl,
  inr,
  Bool,
  true,
  false,
  List,
  [],
  ◌∷◌,
  ◌++◌,
  length,
  get_or,
  set,
  take,
  refl,
  arith,
  sym,
  ◌∙◌,
  ap,
  subst,
}
use Rattle.std.proofs.Common.{length-set, get_or-set_other}
use Rattle.std.specs.Prelude.{◌==◌, ◌&&◌, if◌then◌else◌, not, nat_lt}
use Rattle.std.specs.List.{Contains, list_all, list_any}
use Rattle.std.proofs.lemmas.Bool.Decides.{eqb_tells}
use Rattle.std.proofs.lemmas.Grind.{get_or-set_at}
use Rattle.std.proofs.lemmas.List.{take_more}
use Rattle.std.proofs.lemmas.List.Elements.{Contains-push_cases}
use Rattle.mn_base.proofs.Bools.{and_on, and_false, never, not_both_ways, same_numbers}
use Rattle.mn_base.proofs.Members.{In, in_contained, contained_in, passes_none}
use Rattle.mn_base.specs.declared.numbers.NodeNo.{NodeNo}
use Rattle.mn_wiring.specs.Wiring.{is_up}
use Rattle.mn_topo.specs.Network.{Network}
use Rattle.mn_failure_laws.specs.Failures.{is_session_off}
use Rattle.mn_reach.specs.declared.plan.Candidate.{Candidate}
use Rattle.mn_reach.specs.Plans.{IsOf, home_at, links_between, pairs_at, prospect_at}
use Rattle.mn_reach.specs.Reaching.{Reaching, failure_of, is_between}
use Rattle.mn_reach.specs.Spared.{is_whole, is_spared}
use Rattle.mn_reach.specs.Touched.{AreMarked, KeepMarks, is_marked}
use Rattle.mn_reach.specs.Verdicts.{resolving}
use Rattle.mn_reach.proofs.Resolved.{of_so}
use Rattle.mn_reach.proofs.Staying.{Spares, spared_stays}

-- 1. Marks stay

pub keeps_all : (marks : List Bool) → KeepMarks marks marks
keeps_all marks = record { each = refl; kept = λ k h. h }

pub keeps_on : (a b d : List Bool) → KeepMarks a b → KeepMarks b d → KeepMarks a d
keeps_on a b d one two = record { each = two.each ∙ one.each; kept = λ k h. two.kept k (one.kept k h) }

pub keeps : (marks : List Bool) (i : ℕ) → i < length marks → KeepMarks marks (set marks i true)
keeps marks i there = record {
  each = length-set marks i true;
  kept = λ k h. elim (eqb_tells k i) [
    | inl e ↦ get_or-set_at marks i k true false e.1 there
    | inr e ↦ get_or-set_other marks i k true false e.1 ∙ h
  ];
}

-- 2. One pair more, of a list

module _ (pairs : List ℕ) (i item d : ℕ) (below : i < length pairs) (is : item ≡ get_or pairs i d) (old marks : List Bool) (keep : KeepMarks old marks)
    (so_far : (k : ℕ) → k < length old → Contains (take i pairs) k → is_marked marks k ≡ true) where
  earlier : (k : ℕ) → Contains (take (i + 1) pairs) k → Contains (take i pairs ++ item ∷ []) k
  earlier k h = subst (λ (xs : List ℕ). Contains xs k) (take_more pairs i d below ∙ ap (λ x. take i pairs ++ x ∷ []) (sym is)) h

  pub marked_more : (new : List Bool) → item < length marks → new ≡ set marks item true → (k : ℕ) → k < length old → Contains (take (i + 1) pairs) k →
      is_marked new k ≡ true
  marked_more new there e k h j =
      subst (λ (ms : List Bool). is_marked ms k ≡ true) (sym e) (elim (Contains-push_cases (take i pairs) item k (earlier k j)) [
        | inl q ↦ (keeps marks item there).kept k (so_far k h q)
        | inr q ↦ get_or-set_at marks item k true false (sym q) there
      ])

  -- of those that there are
  pub marked_none : length marks ≤ item → (k : ℕ) → k < length old → Contains (take (i + 1) pairs) k → is_marked marks k ≡ true
  marked_none past k h j = elim (Contains-push_cases (take i pairs) item k (earlier k j)) [
    | inl q ↦ so_far k h q
    | inr q ↦ absurd (not_there q)
  ]
    where
      not_there : item ≡ k → ⊥
      not_there q = omega (arith, past, h, keep.each, q)

pub marked_nothing : (pairs : List ℕ) (marks : List Bool) (k : ℕ) → Contains (take 0 pairs) k → is_marked marks k ≡ true
marked_nothing pairs marks k h = absurd (in_contained [] k h)

-- 3. Of each session both edges

module _ (sessions : List (NodeNo × NodeNo)) (i : ℕ) (item d : NodeNo × NodeNo) (below : i < length sessions) (is : item ≡ get_or sessions i d)
    (old marks mid new : List Bool) (lists : List (List ℕ)) (so_many : KeepMarks old marks) (one : KeepMarks marks mid) (two : KeepMarks mid new) where
  last : (session : NodeNo × NodeNo) → Contains (take (i + 1) sessions) session → Contains (take i sessions ++ item ∷ []) session
  last session h =
      subst (λ (xs : List (NodeNo × NodeNo)). Contains xs session) (take_more sessions i d below ∙ ap (λ x. take i sessions ++ x ∷ []) (sym is)) h

  pub first_edges : (at : ℕ) → at ≡ item.0.0 →
      ((session : NodeNo × NodeNo) (k : ℕ) → Contains (take i sessions) session → k < length old → Contains (pairs_at lists session.0.0) k →
      is_marked marks k ≡ true) →
      ((k : ℕ) → k < length marks → Contains (pairs_at lists at) k → is_marked mid k ≡ true) →
      (session : NodeNo × NodeNo) (k : ℕ) → Contains (take (i + 1) sessions) session → k < length old → Contains (pairs_at lists session.0.0) k →
      is_marked new k ≡ true
  first_edges at from so_far this session k h there j = two.kept k (elim (Contains-push_cases (take i sessions) item session (last session h)) [
    | inl q ↦ one.kept k (so_far session k q there j)
    | inr q ↦ this k (subst (λ n. k < n) (sym so_many.each) there)
        (subst (λ n. Contains (pairs_at lists n) k) (ap (λ (x : NodeNo × NodeNo). x.0.0) (sym q) ∙ sym from) j)
  ])

  pub second_edges : (at : ℕ) → at ≡ item.1.0 →
      ((session : NodeNo × NodeNo) (k : ℕ) → Contains (take i sessions) session → k < length old → Contains (pairs_at lists session.1.0) k →
      is_marked marks k ≡ true) →
      ((k : ℕ) → k < length mid → Contains (pairs_at lists at) k → is_marked new k ≡ true) →
      (session : NodeNo × NodeNo) (k : ℕ) → Contains (take (i + 1) sessions) session → k < length old → Contains (pairs_at lists session.1.0) k →
      is_marked new k ≡ true
  second_edges at from so_far this session k h there j = elim (Contains-push_cases (take i sessions) item session (last session h)) [
    | inl q ↦ two.kept k (one.kept k (so_far session k q there j))
    | inr q ↦ this k (subst (λ n. k < n) (sym (one.each ∙ so_many.each)) there)
        (subst (λ n. Contains (pairs_at lists n) k) (ap (λ (x : NodeNo × NodeNo). x.1.0) (sym q) ∙ sym from) j)
  ]

-- 4. A pair without a mark is spared

all_by : {A : Type 0} (p : A → Bool) (xs : List A) → ((x : A) → In xs x → p x ≡ true) → list_all p xs ≡ true
all_by p [] h = refl
all_by p (x ∷ xs) h = and_on (p x) (list_all p xs) (h x (inl refl)) (all_by p xs (λ y i. h y (inr i)))

module _ (t : Network) (r : Reaching) (of : IsOf t r.plan) (marks : List Bool)
    (by_links : (l k : ℕ) → is_whole r l ≡ false → k < length r.plan.pairs → Contains (pairs_at r.plan.by_link l) k → is_marked marks k ≡ true)
    (by_one : (session : NodeNo × NodeNo) (k : ℕ) → Contains r.ended session → k < length r.plan.pairs → Contains (pairs_at r.plan.by_home session.0.0) k →
    is_marked marks k ≡ true)
    (by_other : (session : NodeNo × NodeNo) (k : ℕ) → Contains r.ended session → k < length r.plan.pairs → Contains (pairs_at r.plan.by_home session.1.0) k →
    is_marked marks k ≡ true) where
  module _ (k : ℕ) (there : k < length r.plan.pairs) (unmarked : is_marked marks k ≡ false) where
    abbrev home : ℕ
    home = home_at t r.plan k

    abbrev cs : List Candidate
    cs = (prospect_at r.plan k).candidates

    clear : is_marked marks k ≡ true → ⊥
    clear e = not_both_ways (is_marked marks k) e unmarked

    whole : (l : ℕ) → In (links_between t home cs) l → is_whole r l ≡ true
    whole l i = by (is_whole r l) refl
      where
        by : (b : Bool) → is_whole r l ≡ b → b ≡ true
        by true e = refl
        by false e = absurd (clear (by_links l k e there (of.listed.links k l there (contained_in (links_between t home cs) l i))))

    apart_one : (x : NodeNo × NodeNo) → In r.ended x → (x.0.0 == home) ≡ false
    apart_one x i = never (x.0.0 == home)
        (λ e. clear (by_one x k (contained_in r.ended x i) there
        (subst (λ n. Contains (pairs_at r.plan.by_home n) k) (sym (same_numbers x.0.0 home e)) (of.listed.homes k there))))

    apart_other : (x : NodeNo × NodeNo) → In r.ended x → (x.1.0 == home) ≡ false
    apart_other x i = never (x.1.0 == home)
        (λ e. clear (by_other x k (contained_in r.ended x i) there
        (subst (λ n. Contains (pairs_at r.plan.by_home n) k) (sym (same_numbers x.1.0 home e)) (of.listed.homes k there))))

    not_off : (other : ℕ) → is_session_off (failure_of r) home other ≡ false
    not_off other = by (nat_lt home other)
      where
        by : (b : Bool) → (if b then list_any (is_between home other) r.ended else list_any (is_between other home) r.ended) ≡ false
        by true = passes_none (is_between home other) r.ended (λ x i. ap (λ b. b && (x.1.0 == other)) (apart_one x i))
        by false =
            passes_none (is_between other home) r.ended (λ x i. ap (λ b. (x.0.0 == other) && b) (apart_other x i) ∙ and_false (x.0.0 == other))

    spared : is_spared t r k ≡ true
    spared = and_on _ _ (all_by (is_whole r) (links_between t home cs) whole)
        (all_by (λ (c : Candidate). not (is_session_off (failure_of r) home c.route.edge.0)) cs (λ c i. ap not (not_off c.route.edge.0)))

  pub all_marked : Spares → length marks ≡ length r.plan.pairs → AreMarked t r marks
  all_marked law each = record {
    each = each;
    spared = spared;
    stays = λ k resolve ttl there unmarked.
        spared_stays (resolving t resolve) r (of_so t resolve r.plan of) law k there (spared k there unmarked) ttl;
  }

-- 5. Link by link

module _ (up ldp : List Bool) (by_link : List (List ℕ)) (old marks : List Bool) (i : ℕ)
    (so_far : (l k : ℕ) → l < i → (is_up up l && is_up ldp l) ≡ false → k < length old → Contains (pairs_at by_link l) k → is_marked marks k ≡ true) where
  -- this one fails
  pub links_more : (new : List Bool) → KeepMarks old marks → KeepMarks marks new →
      ((k : ℕ) → k < length marks → Contains (pairs_at by_link i) k → is_marked new k ≡ true) →
      (l k : ℕ) → l < i + 1 → (is_up up l && is_up ldp l) ≡ false → k < length old → Contains (pairs_at by_link l) k → is_marked new k ≡ true
  links_more new before keep this l k h off there j = elim (eqb_tells l i) [
    | inl e ↦ this k (subst (λ n. k < n) (sym before.each) there) (subst (λ n. Contains (pairs_at by_link n) k) e.1 j)
    | inr e ↦ keep.kept k (so_far l k (sooner e.1) off there j)
  ]
    where
      sooner : l ≢ i → l < i
      sooner apart = omega (arith, h, apart)

  -- or doesn't
  pub links_none : (is_up up i && is_up ldp i) ≡ true →
      (l k : ℕ) → l < i + 1 → (is_up up l && is_up ldp l) ≡ false → k < length old → Contains (pairs_at by_link l) k → is_marked marks k ≡ true
  links_none on l k h off there j = elim (eqb_tells l i) [
    | inl e ↦ absurd (not_both_ways (is_up up i && is_up ldp i) on (subst (λ n. (is_up up n && is_up ldp n) ≡ false) e.1 off))
    | inr e ↦ so_far l k (sooner e.1) off there j
  ]
    where
      sooner : l ≢ i → l < i
      sooner apart = omega (arith, h, apart)
