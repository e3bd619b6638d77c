-- The best of some routes stays the best of those of them that pass a test, if it passes; so it is found where the others are left out by their edges.
use Rattle.std.proofs.Common.{ℕ, zero, suc, ◌≡◌, ◌<◌, ◌≤◌, inl, inr, Bool, true, false, cond, List, [], ◌∷◌, filter, length, refl, arith, sym, ◌∙◌, ap, subst}
use Rattle.std.proofs.Common.{Option, None, Some}
use Rattle.std.specs.Prelude.{◌==◌, ◌&&◌, ◌||◌, not, nat_lt}
use Rattle.std.specs.List.{list_any}
use Rattle.std.proofs.lemmas.Bool.Decides.{eqb_tells}
use Rattle.std.proofs.lemmas.Option.{same_Some}
use Rattle.mn_base.proofs.Bools.{clash, same_test}
use Rattle.mn_base.proofs.Members.{In, in_contained, contained_in, in_filter, filter_in, none_passes, passes_none}
use Rattle.mn_ledger.specs.Held.{HeldRoute, is_better, is_preferred, matching, unbeaten, first_of, best}
use Rattle.mn_ledger.specs.Eligible.{covers}
use Rattle.mn_ledger.specs.Best.{IsBest}
use Rattle.mn_ledger.proofs.Choice.{in_first, from_unbeaten, none_matches, neither_better}
use Rattle.mn_profile_laws.specs.Lookups.{is_elsewhere, best_in_turn}

-- 1. Filters

swap : {A : Type 0} (p q r : A → Bool) (xs : List A) → ((x : A) → In xs x → r x ≡ true → p x ≡ q x) → filter p (filter r xs) ≡ filter r (filter q xs)
swap p q r [] h = refl
swap p q r (x ∷ xs) h = by (swap p q r xs (λ y i e. h y (inr i) e)) (r x) refl (q x) refl
  where
    by : filter p (filter r xs) ≡ filter r (filter q xs) → (b : Bool) → r x ≡ b → (d : Bool) → q x ≡ d
        → filter p (cond b (x ∷ filter r xs) (filter r xs)) ≡ filter r (cond d (x ∷ filter q xs) (filter q xs))
    by more true e true g =
        ap (λ c. cond c (x ∷ filter p (filter r xs)) (filter p (filter r xs))) (h x (inl refl) e ∙ g) ∙ ap (λ ys. x ∷ ys) more
        ∙ sym (ap (λ c. cond c (x ∷ filter r (filter q xs)) (filter r (filter q xs))) e)
    by more true e false g = ap (λ c. cond c (x ∷ filter p (filter r xs)) (filter p (filter r xs))) (h x (inl refl) e ∙ g) ∙ more
    by more false e true g = more ∙ sym (ap (λ c. cond c (x ∷ filter r (filter q xs)) (filter r (filter q xs))) e)
    by more false e false g = more

pub sub_filter : {A : Type 0} (q p : A → Bool) (xs : List A) → ((x : A) → In xs x → q x ≡ true → p x ≡ true) → filter q (filter p xs) ≡ filter q xs
sub_filter q p [] h = refl
sub_filter q p (x ∷ xs) h = by (sub_filter q p xs (λ y i e. h y (inr i) e)) (p x) refl
  where
    off : p x ≡ false → (b : Bool) → q x ≡ b → q x ≡ false
    off g false e = e
    off g true e = absurd (clash (sym (h x (inl refl) e) ∙ g))

    by : filter q (filter p xs) ≡ filter q xs → (b : Bool) → p x ≡ b
        → filter q (cond b (x ∷ filter p xs) (filter p xs)) ≡ cond (q x) (x ∷ filter q xs) (filter q xs)
    by more true g = ap (λ ys. cond (q x) (x ∷ ys) ys) more
    by more false g = more ∙ sym (ap (λ c. cond c (x ∷ filter q xs) (filter q xs)) (off g (q x) refl))

no_longer : {A : Type 0} (p : A → Bool) (xs : List A) → length (filter p xs) ≤ length xs
no_longer p [] = omega arith
no_longer p (x ∷ xs) = by (no_longer p xs) (p x)
  where
    by : length (filter p xs) ≤ length xs → (b : Bool) → length (cond b (x ∷ filter p xs) (filter p xs)) ≤ suc (length xs)
    by more true = omega (arith, more)
    by more false = omega (arith, more)

shorter_by : {A : Type 0} (p : A → Bool) (xs : List A) (x : A) → In xs x → p x ≡ false → length (filter p xs) < length xs
shorter_by p [] x i e = absurd i
shorter_by p (y ∷ ys) x i e = elim i [
  | inl same ↦ subst (λ b. length (cond b (y ∷ filter p ys) (filter p ys)) < suc (length ys)) (sym (ap p same ∙ e)) (more_here (no_longer p ys))
  | inr j ↦ by (shorter_by p ys x j e) (p y)
]
  where
    more_here : length (filter p ys) ≤ length ys → length (filter p ys) < suc (length ys)
    more_here h = omega (arith, h)

    by : length (filter p ys) < length ys → (b : Bool) → length (cond b (y ∷ filter p ys) (filter p ys)) < suc (length ys)
    by more true = omega (arith, more)
    by more false = omega (arith, more)

same_any : {A : Type 0} (p q : A → Bool) (xs : List A) → ((x : A) → p x ≡ q x) → list_any p xs ≡ list_any q xs
same_any p q [] h = refl
same_any p q (x ∷ xs) h = ap (λ b. b || list_any p xs) (h x) ∙ ap (λ b. q x || b) (same_any p q xs h)

-- 2. The best stays

same_better : (o x u : HeldRoute) → x.prefix.length ≡ u.prefix.length → x.source ≡ u.source → is_better o x ≡ is_better o u
same_better o x u l s =
    ap (λ k. nat_lt k o.prefix.length || ((o.prefix.length == k) && is_preferred o.source x.source)) l
    ∙ ap (λ k. nat_lt u.prefix.length o.prefix.length || ((o.prefix.length == u.prefix.length) && is_preferred o.source k)) s

first_filter : (q : HeldRoute → Bool) (xs : List HeldRoute) (u : HeldRoute) → first_of xs ≡ Some u → q u ≡ true → first_of (filter q xs) ≡ Some u
first_filter q [] u h g = absurd (none h)
  where
    none : None ≡ Some u → ⊥
    none e = cc
first_filter q (y ∷ ys) u h g = ap (λ b. first_of (cond b (y ∷ filter q ys) (filter q ys))) (ap q (same_Some y u h) ∙ g) ∙ h

pub best_is : (L : List HeldRoute) (a : ℕ) (u : HeldRoute) → best L a ≡ Some u → IsBest L a u
best_is L a u e = from_unbeaten L a u (in_first (unbeaten (matching a L)) u e)

module _ (a : ℕ) (q : HeldRoute → Bool) (L : List HeldRoute) (u : HeldRoute) (e : best L a ≡ Some u) (g : q u ≡ true) where
  abbrev M : List HeldRoute
  M = matching a L

  abbrev beaten : List HeldRoute → HeldRoute → Bool
  beaten xs x = list_any (λ other. is_better other x) xs

  there : In M u
  there = let top = best_is L a u e in filter_in (covers a) L u (in_contained L u top.held) top.matches

  not_better : (y : HeldRoute) → In M y → is_better y u ≡ false
  not_better y i = let m = in_filter (covers a) L y i in (best_is L a u e).unbeaten y (contained_in L y m.0) m.1

  as_beaten : (x : HeldRoute) → In M x → q x ≡ true → beaten (filter q M) x ≡ beaten M x
  as_beaten x i h = by (beaten M x) refl
    where
      by_part : beaten M x ≡ true → (b : Bool) → beaten (filter q M) x ≡ b → beaten (filter q M) x ≡ true
      by_part all true s = s
      by_part all false s =
          let neither = neither_better x u (not_better x i)
          (none_passes (λ other. is_better other x) (filter q M) u s (filter_in q M u there g)) in
          absurd (clash (sym all ∙ same_any (λ other. is_better other x) (λ other. is_better other u) M (λ o. same_better o x u neither.0 neither.1)
          ∙ passes_none (λ other. is_better other u) M not_better))

      by : (d : Bool) → beaten M x ≡ d → beaten (filter q M) x ≡ beaten M x
      by false s =
          passes_none (λ other. is_better other x) (filter q M)
          (λ y j. none_passes (λ other. is_better other x) M y s (in_filter q M y j).0)
          ∙ sym s
      by true s = by_part s (beaten (filter q M) x) refl ∙ sym s

  pub best_stays : best (filter q L) a ≡ Some u
  best_stays =
      ap (λ xs. first_of (unbeaten xs)) (swap (covers a) (covers a) q L (λ x i h. refl))
      ∙ ap first_of (swap (λ x. not (beaten (filter q M) x)) (λ x. not (beaten M x)) q M (λ x i h. ap not (as_beaten x i h)))
      ∙ first_filter q (unbeaten M) u e g

-- 3. In turn

module _ (a : ℕ) (q aside : HeldRoute → Bool) (by_edge : (x y : HeldRoute) → x.edge ≡ y.edge → q x ≡ q y) where
  abbrev then_by : ℕ → List HeldRoute → Option HeldRoute → List HeldRoute
  then_by fuel L o = elim o as (λ _. List HeldRoute) [
    | None ↦ []
    | Some route ↦ route ∷ elim (aside route) as (λ _. List HeldRoute) [ true ↦ best_in_turn fuel aside a (filter (is_elsewhere route) L) | false ↦ [] ]
  ]

  abbrev later : ℕ → List HeldRoute → HeldRoute → Bool → List HeldRoute
  later fuel L route b = elim b as (λ _. List HeldRoute) [ true ↦ best_in_turn fuel aside a (filter (is_elsewhere route) L) | false ↦ [] ]

  away : (u x : HeldRoute) → q u ≡ false → q x ≡ true → is_elsewhere u x ≡ true
  away u x off on = elim (eqb_tells x.edge u.edge) [
    | inl e ↦ absurd (clash (sym on ∙ by_edge x u e.1 ∙ off))
    | inr e ↦ ap not e.0
  ]

  not_itself : (u : HeldRoute) → is_elsewhere u u ≡ false
  not_itself u = ap not (same_test u.edge)

  pub rounds : (fuel : ℕ) (L : List HeldRoute) (r : HeldRoute) → length L < fuel → ((x : HeldRoute) → In L x → q x ≡ false → aside x ≡ true)
      → best (filter q L) a ≡ Some r → In (best_in_turn fuel aside a L) r
  rounds zero L r few stands h = absurd (none few)
    where
      none : length L < 0 → ⊥
      none k = omega (arith, k)
  rounds (suc fuel) L r few stands h = by_best (λ N k s g. rounds fuel N r k s g) (best L a) refl
    where
      less : {x y : ℕ} → x < y → y < suc fuel → x < fuel
      less k l = omega (arith, k, l)

      by_test : ((N : List HeldRoute) → length N < fuel → ((x : HeldRoute) → In N x → q x ≡ false → aside x ≡ true) → best (filter q N) a ≡ Some r
          → In (best_in_turn fuel aside a N) r)
          → (u : HeldRoute) → best L a ≡ Some u → (b : Bool) → q u ≡ b → In (u ∷ later fuel L u (aside u)) r
      by_test more u e true g = inl (same_Some u r (sym (best_stays a q L u e g) ∙ h))
      by_test more u e false g =
          let there : In L u = in_contained L u (best_is L a u e).held in
          inr (subst (λ b. In (later fuel L u b) r) (sym (stands u there g))
          (more (filter (is_elsewhere u) L) (less (shorter_by (is_elsewhere u) L u there (not_itself u)) few)
          (λ x i k. stands x (in_filter (is_elsewhere u) L x i).0 k)
          (ap (λ N. best N a) (sub_filter q (is_elsewhere u) L (λ x i k. away u x g k)) ∙ h)))

      by_best : ((N : List HeldRoute) → length N < fuel → ((x : HeldRoute) → In N x → q x ≡ false → aside x ≡ true) → best (filter q N) a ≡ Some r
          → In (best_in_turn fuel aside a N) r)
          → (o : Option HeldRoute) → best L a ≡ o → In (best_in_turn (suc fuel) aside a L) r
      by_best more None e =
          let top = best_is (filter q L) a r h in
          absurd (none_matches L a e r (filter_in (covers a) L r (in_filter q L r (in_contained (filter q L) r top.held)).0 top.matches))
      by_best more (Some u) e = subst (λ o. In (then_by fuel L o) r) (sym e) (by_test more u e (q u) refl)

  -- each of them is among the routes, and contains the address
  pub record IsOne (L : List HeldRoute) (x : HeldRoute) : Type 0 where
    pub there : In L x
    pub matches : covers a x ≡ true

  pub ones : (fuel : ℕ) (L : List HeldRoute) (x : HeldRoute) → In (best_in_turn fuel aside a L) x → IsOne L x
  ones zero L x i = absurd i
  ones (suc fuel) L x i = by_best (λ N j. ones fuel N x j) (best L a) refl i
    where
      by_aside : ((N : List HeldRoute) → In (best_in_turn fuel aside a N) x → IsOne N x) → (u : HeldRoute) (b : Bool) → In (later fuel L u b) x → IsOne L x
      by_aside more u true j =
          let one = more (filter (is_elsewhere u) L) j in record { there = (in_filter (is_elsewhere u) L x one.there).0; matches = one.matches }
      by_aside more u false j = absurd j

      by_best : ((N : List HeldRoute) → In (best_in_turn fuel aside a N) x → IsOne N x) → (o : Option HeldRoute) → best L a ≡ o → In (then_by fuel L o) x
          → IsOne L x
      by_best more None e j = absurd j
      by_best more (Some u) e j = elim j [
        | inl same ↦
            let top = best_is L a u e in
            subst (IsOne L) same (record { there = in_contained L u top.held; matches = top.matches })
        | inr k ↦ by_aside more u (aside u) k
      ]
