-- A map of values at their keys: what it answers and how it changes, as the list of its values has it.
use Rattle.std.proofs.Common.{◌≡◌, suc, Bool, true, false, cond, List, [], ◌∷◌, ◌++◌, filter, length, Some, refl, sym, ◌∙◌, ap, subst}
use Rattle.std.specs.Prelude.{◌||◌, not}
use Rattle.std.specs.Option.{is_some}
use Rattle.std.specs.List.{AllByRecursion}
use Rattle.std.specs.Map.{values_of, lookup, remove_entry}
use Rattle.std.specs.BTreeMap.{insert_entry, is_at}
use Rattle.std.specs.declared.cmp.Ordering.{Ordering}
use Rattle.std.specs.declared.cmp.Ordering.TheVariants.{Less, Equal, Greater}
use Rattle.std.specs.Ordering.{match_ordering, is_eq}
use Rattle.mn_base.specs.Ordered.{Ascends, with_one, without_one, one_at, has_one}
use Rattle.mn_base.proofs.Places.{ascends_with, ascends_without, all_turned}
use Rattle.mn_by_key_laws.specs.ByKey.{Goes, AreByKey}

-- 1. Tests
either : (a b : Bool) → b ≡ true → (a || b) ≡ true
either true b h = refl
either false b h = h

either_back : (a b : Bool) → a ≡ true → (a || b) ≡ true
either_back a b h = ap (λ c. c || b) h

not_both : (b : Bool) → (b ≡ true → ⊥) → b ≡ false
not_both true h = absurd (h refl)
not_both false h = refl

-- 2. Values that all stand behind one
module _ {A : Type 0} (before : A → A → Bool) (x : A) where
  no_earlier : ((y : A) → before x y ≡ true → before y x ≡ false) → (ys : List A) → AllByRecursion (λ y. before x y ≡ true) ys →
      filter (λ y. before y x) ys ≡ []
  no_earlier back [] h = refl
  no_earlier back (y ∷ ys) h =
      ap (λ b. cond b (y ∷ filter (λ z. before z x) ys) (filter (λ z. before z x) ys)) (back y h.0) ∙ no_earlier back ys h.1

  all_later : (ys : List A) → AllByRecursion (λ y. before x y ≡ true) ys → filter (λ y. before x y) ys ≡ ys
  all_later [] h = refl
  all_later (y ∷ ys) h =
      ap (λ b. cond b (y ∷ filter (λ z. before x z) ys) (filter (λ z. before x z) ys)) h.0 ∙ ap (λ zs. y ∷ zs) (all_later ys h.1)

  all_apart : (ys : List A) → AllByRecursion (λ y. before x y ≡ true) ys → filter (λ y. before y x || before x y) ys ≡ ys
  all_apart [] h = refl
  all_apart (y ∷ ys) h =
      ap (λ b. cond b (y ∷ filter (λ z. before z x || before x z) ys) (filter (λ z. before z x || before x z) ys))
      (either (before y x) (before x y) h.0)
      ∙ ap (λ zs. y ∷ zs) (all_apart ys h.1)

-- 3. The value beside the first of the others
module _ {K A : Type 0} {cmp : K → K → Ordering} {before : A → A → Bool} {key : A → K} (goes : Goes cmp before key) (x y : A) (ys : List A) where
  back : (z : A) → before x z ≡ true → before z x ≡ false
  back z h = not_both (before z x) (goes.order.one_way x z h)

  first : before x y ≡ true → AllByRecursion (λ z. before y z ≡ true) ys → x ∷ y ∷ ys ≡ with_one before x (y ∷ ys)
  first on up =
      let past : AllByRecursion (λ z. before x z ≡ true) (y ∷ ys) =
      (on, all_turned (λ z. before y z ≡ true) (λ z. before x z ≡ true) (λ z k. goes.order.onward x y z on k) ys up) in
      sym (ap (λ zs. zs ++ x ∷ filter (λ z. before x z) (y ∷ ys)) (no_earlier before x back (y ∷ ys) past)
      ∙ ap (λ zs. x ∷ zs) (all_later before x (y ∷ ys) past))

  past_same : before x y ≡ false → before y x ≡ false → AllByRecursion (λ z. before y z ≡ true) ys → AllByRecursion (λ z. before x z ≡ true) ys
  past_same on off up =
      all_turned (λ z. before y z ≡ true) (λ z. before x z ≡ true) (λ z k. goes.order.alike x y z (ap (λ b. b || before y x) on ∙ off) ∙ k) ys up

  same : before x y ≡ false → before y x ≡ false → AllByRecursion (λ z. before y z ≡ true) ys → x ∷ ys ≡ with_one before x (y ∷ ys)
  same on off up =
      let past = past_same on off up in
      sym (ap (λ b. cond b (y ∷ filter (λ z. before z x) ys) (filter (λ z. before z x) ys) ++ x ∷ filter (λ z. before x z) (y ∷ ys)) off
      ∙ ap (λ b. filter (λ z. before z x) ys ++ x ∷ cond b (y ∷ filter (λ z. before x z) ys) (filter (λ z. before x z) ys)) on
      ∙ ap (λ zs. zs ++ x ∷ filter (λ z. before x z) ys) (no_earlier before x back ys past) ∙ ap (λ zs. x ∷ zs) (all_later before x ys past))

  behind : before x y ≡ false → before y x ≡ true → y ∷ with_one before x ys ≡ with_one before x (y ∷ ys)
  behind on off =
      sym (ap (λ b. cond b (y ∷ filter (λ z. before z x) ys) (filter (λ z. before z x) ys) ++ x ∷ filter (λ z. before x z) (y ∷ ys)) off
      ∙ ap (λ b. (y ∷ filter (λ z. before z x) ys) ++ x ∷ cond b (y ∷ filter (λ z. before x z) ys) (filter (λ z. before x z) ys)) on)

  gone : before x y ≡ false → before y x ≡ false → AllByRecursion (λ z. before y z ≡ true) ys → ys ≡ without_one before x (y ∷ ys)
  gone on off up =
      sym (ap (λ b. cond (b || before x y) (y ∷ filter (λ z. before z x || before x z) ys) (filter (λ z. before z x || before x z) ys)) off
      ∙ ap (λ b. cond b (y ∷ filter (λ z. before z x || before x z) ys) (filter (λ z. before z x || before x z) ys)) on
      ∙ all_apart before x ys (past_same on off up))

  left : (before y x || before x y) ≡ true → y ∷ without_one before x ys ≡ without_one before x (y ∷ ys)
  left h = sym (ap (λ b. cond b (y ∷ filter (λ z. before z x || before x z) ys) (filter (λ z. before z x || before x z) ys)) h)

-- 4. What a comparison of keys tells
module _ {K A : Type 0} {cmp : K → K → Ordering} {before : A → A → Bool} {key : A → K} (goes : Goes cmp before key) (x : A) (e : K × A)
    (at : e.0 ≡ key e.1) where
  told : (o : Ordering) → cmp (key x) e.0 ≡ o → cmp (key x) (key e.1) ≡ o
  told o h = subst (λ k. cmp (key x) k ≡ o) at h

  is_less : cmp (key x) e.0 ≡ Less → before x e.1 ≡ true
  is_less h = goes.less x e.1 (told Less h)

  is_equal : cmp (key x) e.0 ≡ Equal → before x e.1 ≡ false
  is_equal h = goes.equal x e.1 (told Equal h)

  here : cmp (key x) e.0 ≡ Equal → key x ≡ key e.1
  here h = goes.same (key x) (key e.1) (told Equal h)

  -- each is then at the other's place
  is_equal_back : cmp (key x) e.0 ≡ Equal → before e.1 x ≡ false
  is_equal_back h =
      let k : key x ≡ key e.1 = here h in
      goes.equal e.1 x (subst (λ l. cmp l (key x) ≡ Equal) k (subst (λ l. cmp (key x) l ≡ Equal) (sym k) (told Equal h)))

  is_greater : cmp (key x) e.0 ≡ Greater → before e.1 x ≡ true
  is_greater h = goes.greater x e.1 (told Greater h)

  is_greater_back : cmp (key x) e.0 ≡ Greater → before x e.1 ≡ false
  is_greater_back h = not_both (before x e.1) (goes.order.one_way e.1 x (is_greater h))

-- 5. Entry by entry
module _ {K A : Type 0} {cmp : K → K → Ordering} {before : A → A → Bool} {key : A → K} (goes : Goes cmp before key) where
  inserted : (es : List (K × A)) (x : A) → AreByKey before key es → values_of (insert_entry cmp es (key x) x) ≡ with_one before x (values_of es)
  inserted [] x kept = refl
  inserted (e ∷ es) x kept = by (inserted es x (record { each = kept.each.1; ascend = kept.ascend.1 })) (cmp (key x) e.0) refl
    where
      by : values_of (insert_entry cmp es (key x) x) ≡ with_one before x (values_of es) → (o : Ordering) → cmp (key x) e.0 ≡ o →
          values_of (match_ordering o ((key x, x) ∷ e ∷ es) ((e.0, x) ∷ es) (e ∷ insert_entry cmp es (key x) x)) ≡ with_one before x (values_of (e ∷ es))
      by others Less h = first goes x e.1 (values_of es) (is_less goes x e kept.each.0 h) kept.ascend.0
      by others Equal h =
          same goes x e.1 (values_of es) (is_equal goes x e kept.each.0 h) (is_equal_back goes x e kept.each.0 h) kept.ascend.0
      by others Greater h =
          ap (λ zs. e.1 ∷ zs) others
          ∙ behind goes x e.1 (values_of es) (is_greater_back goes x e kept.each.0 h) (is_greater goes x e kept.each.0 h)

  removed : (es : List (K × A)) (x : A) → AreByKey before key es →
      values_of (remove_entry (is_at (cmp (key x))) es) ≡ without_one before x (values_of es)
  removed [] x kept = refl
  removed (e ∷ es) x kept = by (removed es x (record { each = kept.each.1; ascend = kept.ascend.1 })) (cmp (key x) e.0) refl
    where
      by : values_of (remove_entry (is_at (cmp (key x))) es) ≡ without_one before x (values_of es) → (o : Ordering) → cmp (key x) e.0 ≡ o →
          values_of (cond (is_eq o) es (e ∷ remove_entry (is_at (cmp (key x))) es)) ≡ without_one before x (values_of (e ∷ es))
      by others Less h =
          ap (λ zs. e.1 ∷ zs) others ∙ left goes x e.1 (values_of es) (either (before e.1 x) (before x e.1) (is_less goes x e kept.each.0 h))
      by others Equal h =
          gone goes x e.1 (values_of es) (is_equal goes x e kept.each.0 h) (is_equal_back goes x e kept.each.0 h) kept.ascend.0
      by others Greater h =
          ap (λ zs. e.1 ∷ zs) others
          ∙ left goes x e.1 (values_of es) (either_back (before e.1 x) (before x e.1) (is_greater goes x e kept.each.0 h))

  looked_up : (es : List (K × A)) (x : A) → AreByKey before key es → lookup (is_at (cmp (key x))) es ≡ one_at before x (values_of es)
  looked_up [] x kept = refl
  looked_up (e ∷ es) x kept = by (looked_up es x (record { each = kept.each.1; ascend = kept.ascend.1 })) (cmp (key x) e.0) refl
    where
      passed : lookup (is_at (cmp (key x))) es ≡ one_at before x (values_of es) → (before e.1 x || before x e.1) ≡ true →
          lookup (is_at (cmp (key x))) es ≡ one_at before x (values_of (e ∷ es))
      passed others h = others ∙ sym (ap (λ b. cond b (one_at before x (values_of es)) (Some e.1)) h)

      by : lookup (is_at (cmp (key x))) es ≡ one_at before x (values_of es) → (o : Ordering) → cmp (key x) e.0 ≡ o →
          cond (is_eq o) (Some e.1) (lookup (is_at (cmp (key x))) es) ≡ one_at before x (values_of (e ∷ es))
      by others Less h = passed others (either (before e.1 x) (before x e.1) (is_less goes x e kept.each.0 h))
      by others Equal h =
          sym (ap (λ b. cond (b || before x e.1) (one_at before x (values_of es)) (Some e.1)) (is_equal_back goes x e kept.each.0 h)
          ∙ ap (λ b. cond b (one_at before x (values_of es)) (Some e.1)) (is_equal goes x e kept.each.0 h))
      by others Greater h = passed others (either_back (before e.1 x) (before x e.1) (is_greater goes x e kept.each.0 h))

  each_put : (es : List (K × A)) (x : A) → AllByRecursion (λ e. e.0 ≡ key e.1) es → AllByRecursion (λ e. e.0 ≡ key e.1) (insert_entry cmp es (key x) x)
  each_put [] x each = (refl, tt)
  each_put (e ∷ es) x each = by (each_put es x each.1) (cmp (key x) e.0) refl
    where
      by : AllByRecursion (λ e. e.0 ≡ key e.1) (insert_entry cmp es (key x) x) → (o : Ordering) → cmp (key x) e.0 ≡ o →
          AllByRecursion (λ e. e.0 ≡ key e.1) (match_ordering o ((key x, x) ∷ e ∷ es) ((e.0, x) ∷ es) (e ∷ insert_entry cmp es (key x) x))
      by others Less h = (refl, each)
      by others Equal h = (sym (goes.same (key x) e.0 h), each.1)
      by others Greater h = (each.0, others)

each_left : {K A : Type 0} (key : A → K) (test : K → Bool) (es : List (K × A)) → AllByRecursion (λ e. e.0 ≡ key e.1) es →
    AllByRecursion (λ e. e.0 ≡ key e.1) (remove_entry test es)
each_left key test [] each = tt
each_left key test (e ∷ es) each = by (each_left key test es each.1) (test e.0)
  where
    by : AllByRecursion (λ e. e.0 ≡ key e.1) (remove_entry test es) →
        (b : Bool) → AllByRecursion (λ e. e.0 ≡ key e.1) (cond b es (e ∷ remove_entry test es))
    by others true = each.1
    by others false = (each.0, others)

-- 6. As calls have it: at a key that is the value's
module _ {K A : Type 0} {cmp : K → K → Ordering} {before : A → A → Bool} {key : A → K} (goes : Goes cmp before key) (es : List (K × A)) (k : K) (x : A)
    (at : k ≡ key x) (kept : AreByKey before key es) where
  pub with_put : values_of (insert_entry cmp es k x) ≡ with_one before x (values_of es)
  with_put = ap (λ q. values_of (insert_entry cmp es q x)) at ∙ inserted goes es x kept

  pub kept_put : AreByKey before key (insert_entry cmp es k x)
  kept_put = record {
    each = subst (λ q. AllByRecursion (λ e. e.0 ≡ key e.1) (insert_entry cmp es q x)) (sym at) (each_put goes es x kept.each);
    ascend = subst (Ascends before) (sym with_put) (ascends_with before x (values_of es) goes.order kept.ascend);
  }

  pub without_taken : values_of (remove_entry (is_at (cmp k)) es) ≡ without_one before x (values_of es)
  without_taken = ap (λ q. values_of (remove_entry (is_at (cmp q)) es)) at ∙ removed goes es x kept

  pub kept_taken : AreByKey before key (remove_entry (is_at (cmp k)) es)
  kept_taken = record {
    each = each_left key (is_at (cmp k)) es kept.each;
    ascend = subst (Ascends before) (sym without_taken) (ascends_without before x (values_of es) kept.ascend);
  }

  pub found : lookup (is_at (cmp k)) es ≡ one_at before x (values_of es)
  found = ap (λ q. lookup (is_at (cmp q)) es) at ∙ looked_up goes es x kept

-- one of them stands in its place where one is found there
pub has_found : {A : Type 0} (before : A → A → Bool) (x : A) (ys : List A) → is_some (one_at before x ys) ≡ has_one before x ys
has_found before x [] = refl
has_found before x (y ∷ ys) = by (has_found before x ys) (before y x || before x y)
  where
    by : is_some (one_at before x ys) ≡ has_one before x ys →
        (b : Bool) → is_some (cond b (one_at before x ys) (Some y)) ≡ (not b || has_one before x ys)
    by others true = others
    by others false = refl

pub count : {K A : Type 0} (es : List (K × A)) → length es ≡ length (values_of es)
count [] = refl
count (e ∷ es) = ap suc (count es)
