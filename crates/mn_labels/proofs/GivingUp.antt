-- FECs that give up their labels one after the other.
use Rattle.std.proofs.Common.{ℕ, zero, suc, ◌≡◌, ◌≢◌, ◌+◌, ◌≤◌, ◌<◌, Bool, true, false, List, [], ◌∷◌, length, get_or, set, take, drop}
use Rattle.std.proofs.Common.{refl, arith, sym, ◌∙◌, ap}
use Rattle.std.specs.Prelude.{Option, None, ◌==◌, ◌||◌, if◌then◌else◌}
use Rattle.std.specs.List.{All}
use Rattle.std.proofs.lemmas.List.{drop_more}
use Rattle.std.proofs.lemmas.List.Folds.{list_any_more}
use Rattle.mn_base.proofs.Bools.{same_test, other_test, or_true}
use Rattle.mn_base.specs.declared.numbers.NodeNo.{NodeNo}
use Rattle.mn_labels.specs.Labels.{Labels, kept_from, given_up, is_one_of, offered, offered_one, offered_all, numbers}

or_none : (b : Bool) → (b || false) ≡ b
or_none true = refl
or_none false = refl

pub kept_alike : (p q : ℕ → Bool) (n : ℕ) (xs : List (Option ℕ)) → ((f : ℕ) → n ≤ f → p f ≡ q f) → kept_from p n xs ≡ kept_from q n xs
kept_alike p q n [] h = refl
kept_alike p q n (x ∷ xs) h =
    ap (λ b. (if b then None else x) ∷ kept_from p (n + 1) xs) (h n (omega arith))
    ∙ ap (λ ys. (if q n then None else x) ∷ ys) (kept_alike p q (n + 1) xs (λ f g. h f (omega (arith, g))))

pub set_kept : (p q : ℕ → Bool) (n k : ℕ) (xs : List (Option ℕ)) → ((f : ℕ) → n ≤ f → q f ≡ (p f || ((n + k) == f))) →
    set (kept_from p n xs) k None ≡ kept_from q n xs
set_kept p q n k [] h = refl
set_kept p q n zero (x ∷ xs) h =
    ap (λ b. (if b then None else x) ∷ kept_from p (n + 1) xs) (sym (h n (omega arith) ∙ ap (λ b. p n || b) (ap (λ m. m == n) (plain n) ∙ same_test n)
    ∙ or_true (p n)))
    ∙ ap (λ ys. (if q n then None else x) ∷ ys)
    (kept_alike p q (n + 1) xs (λ f g. sym (h f (omega (arith, g)) ∙ ap (λ b. p f || b) (other_test (n + 0) f (λ e. past e g)) ∙ or_none (p f))))
  where
    plain : (n : ℕ) → n + 0 ≡ n
    plain n = omega arith

    past : {f : ℕ} → n + 0 ≡ f → n + 1 ≤ f → ⊥
    past e g = omega (arith, e, g)
set_kept p q n (suc k) (x ∷ xs) h =
    ap (λ b. (if b then None else x) ∷ set (kept_from p (n + 1) xs) k None)
    (sym (h n (omega arith) ∙ ap (λ b. p n || b) (other_test (n + suc k) n past) ∙ or_none (p n)))
    ∙ ap (λ ys. (if q n then None else x) ∷ ys)
    (set_kept p q (n + 1) k xs (λ f g. h f (omega (arith, g)) ∙ ap (λ m. p f || (m == f)) along))
  where
    past : n + suc k ≡ n → ⊥
    past e = omega (arith, e)

    along : n + suc k ≡ n + 1 + k
    along = omega arith

kept_all : (n : ℕ) (xs : List (Option ℕ)) → kept_from (is_one_of []) n xs ≡ xs
kept_all n [] = refl
kept_all n (x ∷ xs) = ap (λ ys. x ∷ ys) (kept_all (n + 1) xs)

pub none_gave_up : (labels : Labels) → labels ≡ given_up (is_one_of []) labels
none_gave_up labels = ap (λ xs. record labels { fecs = xs }) (sym (kept_all 0 labels.fecs))

pub kept_length : (p : ℕ → Bool) (n : ℕ) (xs : List (Option ℕ)) → length (kept_from p n xs) ≡ length xs
kept_length p n [] = refl
kept_length p n (x ∷ xs) = ap suc (kept_length p (n + 1) xs)

pub one_more_gave_up : (labels old new : Labels) (free : List NodeNo) (i : ℕ) (d : NodeNo) → i < length free →
    old ≡ given_up (is_one_of (take i free)) labels → new.given ≡ old.given → new.fecs ≡ set old.fecs (get_or free i d).0 None →
    new ≡ given_up (is_one_of (take (i + 1) free)) labels
one_more_gave_up labels old new free i d h was given fecs =
    ap (λ gs. record { given = gs; fecs = new.fecs }) (given ∙ ap (λ (l : Labels). l.given) was)
    ∙ ap (λ xs. record { given = labels.given; fecs = xs })
    (fecs ∙ ap (λ (l : Labels). set l.fecs (get_or free i d).0 None) was
    ∙ set_kept (is_one_of (take i free)) (is_one_of (take (i + 1) free)) 0 (get_or free i d).0 labels.fecs
    (λ f g. list_any_more (λ (node : NodeNo). node.0 == f) free i d h
    ∙ ap (λ n. is_one_of (take i free) f || (n == f)) (plain (get_or free i d).0)))
  where
    plain : (n : ℕ) → n ≡ 0 + n
    plain n = omega arith

-- where FECs are offered those that are free give up their labels
pub some_are_offered : (free : ℕ → Bool) (labels : Labels) (fecs : List NodeNo) → length fecs ≢ 0 →
    offered_all (given_up free labels) (numbers fecs) ≡ offered free labels (numbers fecs)
some_are_offered free labels [] h = absurd (h refl)
some_are_offered free labels (fec ∷ fecs) h = refl

pub none_are_offered : (free : ℕ → Bool) (labels : Labels) (fecs : List NodeNo) → length fecs ≡ 0 → labels ≡ offered free labels (numbers fecs)
none_are_offered free labels [] h = refl
none_are_offered free labels (fec ∷ fecs) h = absurd (omega (arith, h))

-- a FEC more that takes its label

pub one_more_took : (old new end : Labels) (fecs : List NodeNo) (i : ℕ) (d : NodeNo) → i < length fecs →
    offered_all old (numbers (drop i fecs)) ≡ end → new ≡ offered_one old (get_or fecs i d).0 → offered_all new (numbers (drop (i + 1) fecs)) ≡ end
one_more_took old new end fecs i d h rest e =
    ap (λ (l : Labels). offered_all l (numbers (drop (i + 1) fecs))) e ∙ sym (ap (λ xs. offered_all old (numbers xs)) (drop_more fecs i d h)) ∙ rest

pub there_still : (fecs : List NodeNo) (i : ℕ) (d : NodeNo) (n m me : ℕ) → i < length fecs → All (λ fec. (fec.0 < n) × (fec.0 ≢ me)) fecs → m ≡ n →
    (get_or fecs i d).0 < m
there_still fecs i d n m me h all e = let q = all i d h in omega (arith, q.0, e)

pub other_still : (fecs : List NodeNo) (i : ℕ) (d : NodeNo) (n me now : ℕ) → i < length fecs → All (λ fec. (fec.0 < n) × (fec.0 ≢ me)) fecs → now ≡ me →
    (get_or fecs i d).0 ≢ now
other_still fecs i d n me now h all e = let q = all i d h in λ s. q.1 (s ∙ e)
