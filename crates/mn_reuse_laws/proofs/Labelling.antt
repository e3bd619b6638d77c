-- No label means two things, whatever is offered, rests and is attached.
use Rattle.std.proofs.Common.{zero, suc, replicate, slice_index_or}
use Rattle.std.specs.Prelude.{slice_set}
use Rattle.std.proofs.lemmas.List.{get_or-set_other}
use Rattle.std.proofs.Common.{ℕ, ◌≡◌, ◌≢◌, ◌+◌, ◌≤◌, ◌⊎◌, inl, inr, Bool, true, false, List, [], ◌∷◌, ◌++◌, filter, length, refl, arith, sym, ◌∙◌, ap, subst}
use Rattle.std.proofs.Common.{Option, Some, None}
use Rattle.std.specs.Prelude.{◌==◌, ◌&&◌, not, max, ◌-◌, if◌then◌else◌}
use Rattle.std.specs.List.{range_with_len}
use Rattle.std.proofs.Math.Nat.{le-max_left, le-max_right}
use Rattle.std.proofs.lemmas.Bool.Decides.{eqb_tells}
use Rattle.std.proofs.lemmas.Option.{same_Some}
use Rattle.mn_base.proofs.Bools.{clash, no, or_off, same_test}
use Rattle.mn_base.proofs.Members.{In, in_append, in_front, in_rest, in_filter, in_range, none_passes, in_contained}
use Rattle.mn_labels.specs.declared.meaning.Bind.{Bind}
use Rattle.mn_labels.specs.declared.meaning.Bind.TheVariants.{Fec, Site}
use Rattle.mn_labels.specs.declared.meaning.Given.{Given}
use Rattle.mn_labels.specs.Labels.{Labels, fec_of, is_attachment, greatest, is_label, is_had, first_or, next_label, attached, offered_one, offered_all}
use Rattle.mn_labels.specs.Labels.{label_now, kept_from, given_up, offered, Means}
use Rattle.mn_reuse_laws.specs.Labels.{first_given}

-- what holds of every node's labels
pub record AreFit (labels : Labels) : Type 0 where
  pub given : (p a : ℕ) → label_now labels p ≡ Some a → In labels.given (record { label = a; what = fec_of p })
  pub once : (p q a : ℕ) → label_now labels p ≡ Some a → label_now labels q ≡ Some a → p ≡ q
  pub apart : (p a : ℕ) (g : Given) → label_now labels p ≡ Some a → In labels.given g → is_attachment g.what ≡ true → g.label ≢ a
  pub sites : (g h : Given) → In labels.given g → In labels.given h → is_attachment g.what ≡ true → is_attachment h.what ≡ true → g.label ≡ h.label → g ≡ h
  pub reserved : (g : Given) → In labels.given g → 16 ≤ g.label

-- 1. The next label is nobody's

pub bounded : (gs : List Given) (g : Given) → In gs g → g.label ≤ greatest gs
bounded [] g i = absurd i
bounded (h ∷ gs) g i = elim i [
  | inl e ↦ subst (λ (x : Given). x.label ≤ max h.label (greatest gs)) e (le-max_left h.label (greatest gs))
  | inr j ↦ steps (bounded gs g j) (le-max_right h.label (greatest gs))
]
  where
    steps : {a b c : ℕ} → a ≤ b → b ≤ c → a ≤ c
    steps x y = omega (arith, x, y)

at_least : (gs : List Given) → 15 ≤ greatest gs
at_least [] = omega arith
at_least (h ∷ gs) = steps (at_least gs) (le-max_right h.label (greatest gs))
  where
    steps : {a b c : ℕ} → a ≤ b → b ≤ c → a ≤ c
    steps x y = omega (arith, x, y)

in_fecs : (xs : List (Option ℕ)) (p a : ℕ) → slice_index_or xs p None ≡ Some a → In xs (Some a)
in_fecs [] p a e = cc
in_fecs (x ∷ xs) zero a e = inl e
in_fecs (x ∷ xs) (suc p) a e = inr (in_fecs xs p a e)

-- what it is not
pub record IsFresh (labels : Labels) (label : ℕ) : Type 0 where
  pub site : (g : Given) → In labels.given g → is_attachment g.what ≡ true → g.label ≢ label
  pub fec : (p : ℕ) → label_now labels p ≢ Some label
  pub least : 16 ≤ label

past_greatest : (labels : Labels) → AreFit labels → IsFresh labels (greatest labels.given + 1)
past_greatest labels fit = record {
  site = λ g i h e. beyond e (bounded labels.given g i);
  fec = λ p e. beyond refl (bounded labels.given (record { label = greatest labels.given + 1; what = fec_of p }) (fit.given p (greatest labels.given + 1) e));
  least = next (at_least labels.given);
}
  where
    beyond : {a b : ℕ} → a ≡ b + 1 → a ≤ b → ⊥
    beyond e h = omega (arith, e, h)

    next : {a : ℕ} → 15 ≤ a → 16 ≤ a + 1
    next h = omega (arith, h)

unhad : (labels : Labels) (label : ℕ) → AreFit labels → 16 ≤ label → is_had labels label ≡ false → IsFresh labels label
unhad labels label fit low h =
    let parts = or_off _ _ h in record {
      site = λ g i at e. clash (sym (ap (λ b. b && (g.label == label)) at ∙ ap (λ n. n == label) e ∙ same_test label)
          ∙ none_passes (λ (giving : Given). is_attachment giving.what && (giving.label == label)) labels.given g parts.0 i);
      fec = λ p e. clash (sym (same_test label) ∙ none_passes (is_label label) labels.fecs (Some label) parts.1 (in_fecs labels.fecs p label e));
      least = low;
    }

on_not : (b : Bool) → not b ≡ true → b ≡ false
on_not true h = cc
on_not false h = refl

pub next_fresh : (labels : Labels) → AreFit labels → IsFresh labels (next_label labels)
next_fresh labels fit = by (filter (λ label. not (is_had labels label)) (range_with_len 16 (greatest labels.given - 15))) (λ x i. i)
  where
    by : (xs : List ℕ) → ((x : ℕ) → In xs x → In (filter (λ label. not (is_had labels label)) (range_with_len 16 (greatest labels.given - 15))) x)
        → IsFresh labels (first_or (greatest labels.given + 1) xs)
    by [] all = past_greatest labels fit
    by (x ∷ xs) all =
        let i = in_filter (λ label. not (is_had labels label)) (range_with_len 16 (greatest labels.given - 15)) x (all x (inl refl)) in
        unhad labels x fit (in_range 16 (greatest labels.given - 15) x i.0).0 (on_not (is_had labels x) i.1)

-- 2. Each change

last_in : {A : Type 0} (xs : List A) (x y : A) → In (xs ++ x ∷ []) y → In xs y ⊎ (y ≡ x)
last_in xs x y i = elim (in_append xs (x ∷ []) y i) [ inl j ↦ inl j | inr j ↦ elim j [ inl e ↦ inr (sym e) | inr k ↦ absurd k ] ]

pub attached_fit : (labels : Labels) (what : Bind) → is_attachment what ≡ true → AreFit labels → AreFit (attached labels what)
attached_fit labels what at fit =
    let fresh = past_greatest labels fit in record {
      given = λ p a e. in_front labels.given _ _ (fit.given p a e);
      once = fit.once;
      apart = λ p a g e i h same. elim (last_in labels.given _ g i) [
        | inl j ↦ fit.apart p a g e j h same
        | inr j ↦ fresh.fec p (e ∙ ap Some (sym same ∙ ap (λ (x : Given). x.label) j))
      ];
      sites = λ g h i j x y same. elim (last_in labels.given _ g i) [
        | inl a ↦ elim (last_in labels.given _ h j) [
          | inl b ↦ fit.sites g h a b x y same
          | inr b ↦ absurd (fresh.site g a x (same ∙ ap (λ (x : Given). x.label) b))
        ]
        | inr a ↦ elim (last_in labels.given _ h j) [
          | inl b ↦ absurd (fresh.site h b y (sym same ∙ ap (λ (x : Given). x.label) a))
          | inr b ↦ a ∙ sym b
        ]
      ];
      reserved = λ g i. elim (last_in labels.given _ g i) [
        | inl j ↦ fit.reserved g j
        | inr j ↦ subst (λ (x : Given). 16 ≤ x.label) (sym j) fresh.least
      ];
    }

-- what is read where something was set is that
set_gave : (xs : List (Option ℕ)) (at label a : ℕ) → slice_index_or (slice_set xs at (Some label)) at None ≡ Some a → a ≡ label
set_gave [] at label a e = cc
set_gave (x ∷ xs) zero label a e = same_Some a label (sym e)
set_gave (x ∷ xs) (suc at) label a e = set_gave xs at label a e

-- a FEC is given a label that is nobody's
given_fit : (labels : Labels) (fec label : ℕ) → label_now labels fec ≡ None → IsFresh labels label → AreFit labels →
    AreFit (record { given = labels.given ++ record { label = label; what = fec_of fec } ∷ []; fecs = slice_set labels.fecs fec (Some label) })
given_fit labels fec label none fresh fit = record {
  given = λ p a e. elim (which p a e) [
    | inl x ↦ in_rest labels.given _ _ (inl (ap (λ n. record { label = n; what = fec_of fec }) (sym x.1)
        ∙ ap (λ n. record { label = a; what = fec_of n }) (sym x.0)))
    | inr x ↦ in_front labels.given _ _ (fit.given p a x.1)
  ];
  once = λ p q a e f. elim (which p a e) [
    | inl x ↦ elim (which q a f) [ inl y ↦ x.0 ∙ sym y.0 | inr y ↦ absurd (fresh.fec q (y.1 ∙ ap Some x.1)) ]
    | inr x ↦ elim (which q a f) [ inl y ↦ absurd (fresh.fec p (x.1 ∙ ap Some y.1)) | inr y ↦ fit.once p q a x.1 y.1 ]
  ];
  apart = λ p a g e i h same. elim (last_in labels.given _ g i) [
    | inl j ↦ elim (which p a e) [ inl x ↦ fresh.site g j h (same ∙ x.1) | inr x ↦ fit.apart p a g x.1 j h same ]
    | inr j ↦ no (ap (λ (x : Given). is_attachment x.what) (sym j) ∙ h)
  ];
  sites = λ g h i j x y same. elim (last_in labels.given _ g i) [
    | inl a ↦ elim (last_in labels.given _ h j) [
      | inl b ↦ fit.sites g h a b x y same
      | inr b ↦ absurd (no (ap (λ (z : Given). is_attachment z.what) (sym b) ∙ y))
    ]
    | inr a ↦ absurd (no (ap (λ (z : Given). is_attachment z.what) (sym a) ∙ x))
  ];
  reserved = λ g i. elim (last_in labels.given _ g i) [
    | inl j ↦ fit.reserved g j
    | inr j ↦ subst (λ (x : Given). 16 ≤ x.label) (sym j) fresh.least
  ];
}
  where
    which : (p a : ℕ) → slice_index_or (slice_set labels.fecs fec (Some label)) p None ≡ Some a →
        ((p ≡ fec) × (a ≡ label)) ⊎ ((p ≢ fec) × (label_now labels p ≡ Some a))
    which p a e = elim (eqb_tells p fec) [
      | inl x ↦ inl (x.1, set_gave labels.fecs fec label a (sym (ap (λ i. slice_index_or (slice_set labels.fecs fec (Some label)) i None) x.1) ∙ e))
      | inr x ↦ inr (x.1, sym (get_or-set_other labels.fecs fec p (Some label) None x.1) ∙ e)
    ]

-- what is so of labels where the FEC has one, and once it got the next one where it had none, is so of what an offer leaves
pub by_offer : (P : Labels → Type 0) (labels : Labels) (fec : ℕ) → ((label : ℕ) → label_now labels fec ≡ Some label → P labels) →
    (label_now labels fec ≡ None → P (record {
      given = labels.given ++ record { label = next_label labels; what = fec_of fec } ∷ [];
      fecs = slice_set labels.fecs fec (Some (next_label labels));
    })) → P (offered_one labels fec)
by_offer P labels fec has gets = by (label_now labels fec) refl
  where
    by : (o : Option ℕ) → label_now labels fec ≡ o → P (elim o as (λ _. Labels) [
      | Some label ↦ labels
      | None ↦ record {
        given = labels.given ++ record { label = next_label labels; what = fec_of fec } ∷ [];
        fecs = slice_set labels.fecs fec (Some (next_label labels));
      }
    ])
    by (Some label) e = has label e
    by None e = gets e

pub one_fit : (labels : Labels) (fec : ℕ) → AreFit labels → AreFit (offered_one labels fec)
one_fit labels fec fit =
    by_offer AreFit labels fec (λ label e. fit) (λ e. given_fit labels fec (next_label labels) e (next_fresh labels fit) fit)

pub all_fit : (labels : Labels) (fecs : List ℕ) → AreFit labels → AreFit (offered_all labels fecs)
all_fit labels [] fit = fit
all_fit labels (fec ∷ fecs) fit = all_fit (offered_one labels fec) fecs (one_fit labels fec fit)

kept_was : (free : ℕ → Bool) (fec : ℕ) (xs : List (Option ℕ)) (p a : ℕ) → slice_index_or (kept_from free fec xs) p None ≡ Some a →
    slice_index_or xs p None ≡ Some a
kept_was free fec [] p a e = e
kept_was free fec (x ∷ xs) zero a e = by (free fec) e
  where
    by : (b : Bool) → (if b then None else x) ≡ Some a → x ≡ Some a
    by true f = cc
    by false f = f
kept_was free fec (x ∷ xs) (suc p) a e = kept_was free (fec + 1) xs p a e

-- what isn't free is kept
pub kept_at : (free : ℕ → Bool) (fec : ℕ) (xs : List (Option ℕ)) (p : ℕ) → free (fec + p) ≡ false →
    slice_index_or (kept_from free fec xs) p None ≡ slice_index_or xs p None
kept_at free fec [] p off = refl
kept_at free fec (x ∷ xs) zero off = ap (λ b. if b then None else x) (ap free same ∙ off)
  where
    same : fec ≡ fec + 0
    same = omega arith
kept_at free fec (x ∷ xs) (suc p) off = kept_at free (fec + 1) xs p (ap free same ∙ off)
  where
    same : fec + 1 + p ≡ fec + suc p
    same = omega arith

pub kept_length : (free : ℕ → Bool) (fec : ℕ) (xs : List (Option ℕ)) → length (kept_from free fec xs) ≡ length xs
kept_length free fec [] = refl
kept_length free fec (x ∷ xs) = ap suc (kept_length free (fec + 1) xs)

pub up_fit : (free : ℕ → Bool) (labels : Labels) → AreFit labels → AreFit (given_up free labels)
up_fit free labels fit = record {
  given = λ p a e. fit.given p a (was p a e);
  once = λ p q a e f. fit.once p q a (was p a e) (was q a f);
  apart = λ p a g e. fit.apart p a g (was p a e);
  sites = fit.sites;
  reserved = fit.reserved;
}
  where
    was : (p a : ℕ) → label_now (given_up free labels) p ≡ Some a → label_now labels p ≡ Some a
    was p a e = kept_was free 0 labels.fecs p a e

pub offered_fit : (free : ℕ → Bool) (labels : Labels) (fecs : List ℕ) → AreFit labels →
    AreFit (offered free labels fecs)
offered_fit free labels [] fit = fit
offered_fit free labels (fec ∷ fecs) fit = all_fit (given_up free labels) (fec ∷ fecs) (up_fit free labels fit)

-- 3. At the start

first_low : (label : ℕ) (sites : List ℕ) (g : Given) → In (first_given label sites) g → (label ≤ g.label) × (is_attachment g.what ≡ true)
first_low label [] g i = absurd i
first_low label (s ∷ ss) g i = elim i [
  | inl e ↦ (subst (λ (x : Given). label ≤ x.label) e (omega arith), ap (λ (x : Given). is_attachment x.what) (sym e))
  | inr j ↦ let h = first_low (label + 1) ss g j in (less h.0, h.1)
]
  where
    less : {a b : ℕ} → a + 1 ≤ b → a ≤ b
    less h = omega (arith, h)

first_once : (label : ℕ) (sites : List ℕ) (g h : Given) → In (first_given label sites) g → In (first_given label sites) h → g.label ≡ h.label → g ≡ h
first_once label [] g h i j e = absurd i
first_once label (s ∷ ss) g h i j e = elim i [
  | inl x ↦ elim j [
    | inl y ↦ sym x ∙ y
    | inr y ↦ absurd (beyond (ap (λ (z : Given). z.label) x ∙ e) (first_low (label + 1) ss h y).0)
  ]
  | inr x ↦ elim j [
    | inl y ↦ absurd (beyond (ap (λ (z : Given). z.label) y ∙ sym e) (first_low (label + 1) ss g x).0)
    | inr y ↦ first_once (label + 1) ss g h x y e
  ]
]
  where
    beyond : {b : ℕ} → label ≡ b → label + 1 ≤ b → ⊥
    beyond f h = omega (arith, f, h)

none_at : (n p a : ℕ) → slice_index_or (replicate n None) p None ≡ Some a → ⊥
none_at zero p a e = cc
none_at (suc n) zero a e = cc
none_at (suc n) (suc p) a e = none_at n p a e

pub first_fit : (sites : List ℕ) (n : ℕ) → AreFit (record { given = first_given 16 sites; fecs = replicate n None })
first_fit sites n = record {
  given = λ p a e. absurd (none_at n p a e);
  once = λ p q a e f. absurd (none_at n p a e);
  apart = λ p a g e i h. absurd (none_at n p a e);
  sites = λ g h i j x y e. first_once 16 sites g h i j e;
  reserved = λ g i. (first_low 16 sites g i).0;
}

-- 4. What it means

pub means_one : (labels : Labels) → AreFit labels → (a : ℕ) (one other : Bind) → Means labels a one → Means labels a other → one ≡ other
means_one labels fit a (Fec p) (Fec q) h g = ap fec_of (fit.once p.0 q.0 a h g)
means_one labels fit a (Fec p) (Site s n) h g = absurd (fit.apart p.0 a _ h (in_contained labels.given _ g) refl refl)
means_one labels fit a (Site s n) (Fec p) h g = absurd (fit.apart p.0 a _ g (in_contained labels.given _ h) refl refl)
means_one labels fit a (Site s n) (Site r m) h g =
    ap (λ (x : Given). x.what) (fit.sites _ _ (in_contained labels.given _ h) (in_contained labels.given _ g) refl refl refl)
