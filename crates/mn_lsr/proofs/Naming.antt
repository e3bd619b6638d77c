-- Which labels a node's FECs have once some are offered newly, and what they are used for.
use Rattle.std.proofs.Common.{ℕ, zero, suc, ◌≡◌, ◌≢◌, ◌+◌, ◌≤◌, ◌<◌, ◌⊎◌, inl, inr, Bool, true, false, cond, List, [], ◌∷◌, ◌++◌, filter, length, refl, arith}
use Rattle.std.proofs.Common.{sym, ◌∙◌, ap, subst}
use Rattle.std.proofs.Common.{Option, Some, None}
use Rattle.std.specs.Prelude.{◌==◌, ◌&&◌, ◌||◌, not, is_some}
use Rattle.std.specs.List.{flat_map, range_with_len, list_any}
use Rattle.std.proofs.lemmas.Bool.Decides.{eqb_tells}
use Rattle.mn_base.specs.declared.numbers.NodeNo.{NodeNo}
use Rattle.mn_base.specs.declared.numbers.SiteNo.{SiteNo}
use Rattle.mn_base.proofs.Bools.{two_ways, same_test, same_numbers, and_on, and_left, and_right}
use Rattle.mn_base.proofs.Members.{In, in_filter, filter_in, in_range, range_in, in_contained, contained_in}
use Rattle.mn_labels.specs.declared.meaning.Bind.{Bind}
use Rattle.mn_labels.specs.declared.meaning.Bind.TheVariants as bind
use Rattle.mn_labels.specs.declared.meaning.Given.{Given}
use Rattle.mn_labels.specs.Labels.{Labels, LabelTable, label_now, fec_of, offered, meaning_of, numbers, is_one_of, IsTold}
use Rattle.mn_labels.proofs.Offering.{offered_long, offered_keeps, offered_gives, offered_was, offered_sites}
use Rattle.mn_bindings.specs.Bindings.{Bindings, nodes, usable, offers}
use Rattle.mn_bindings.specs.News.{begun, ended}
use Rattle.mn_bindings.specs.Known.{Known, is_free}
use Rattle.mn_wiring.specs.Wiring.{Wiring}
use Rattle.mn_node.specs.Ldp.{Knowledge}
use Rattle.mn_node.specs.Ldp as node
use Rattle.mn_lfib.specs.declared.answer.Use.{Use}
use Rattle.mn_lfib.specs.Uses.{use_of, fec_use, IsNotSite}
use Rattle.mn_lsr.specs.Message.{HasOne}
use Rattle.mn_lsr.specs.Standing.{IsUseOf, IsSiteUse, IsAttachment}
use Rattle.mn_lsr.specs.Turns.{begins_offer, new_offers, ends_offer, ended_offers}
use Rattle.mn_lsr.specs.Parts.{HaveLabels, free_of}
use Rattle.mn_lsr.proofs.Labels.{fec_is_no_site}

-- 1. Which FECs are offered newly, and which not any more

flat_filter : (p : ℕ → Bool) (xs : List ℕ) → flat_map (λ x. cond (p x) (x ∷ []) []) xs ≡ filter p xs
flat_filter p [] = refl
flat_filter p (x ∷ xs) = by (p x) (flat_filter p xs)
  where
    by : (b : Bool) → flat_map (λ y. cond (p y) (y ∷ []) []) xs ≡ filter p xs →
        cond b (x ∷ []) [] ++ flat_map (λ y. cond (p y) (y ∷ []) []) xs ≡ cond b (x ∷ filter p xs) (filter p xs)
    by true e = ap (λ ys. x ∷ ys) e
    by false e = e

filter_below : (p q : ℕ → Bool) (n s : ℕ) → ((x : ℕ) → s ≤ x → x < s + n → p x ≡ q x) → filter p (range_with_len s n) ≡ filter q (range_with_len s n)
filter_below p q zero s h = refl
filter_below p q (suc n) s h =
    ap (λ b. cond b (s ∷ filter p (range_with_len (s + 1) n)) (filter p (range_with_len (s + 1) n))) (h s (omega arith) (omega arith))
    ∙ ap (λ xs. cond (q s) (s ∷ xs) xs) (filter_below p q n (s + 1) (λ x f g. h x (omega (arith, f)) (omega (arith, g))))

pub own_offered : (b : Bindings) (fec : ℕ) → b.me.0 ≡ fec → offers b fec ≡ true
own_offered b fec e = ap (λ k. (k == fec) || is_some (usable b fec)) e ∙ ap (λ x. x || is_some (usable b fec)) (same_test fec)

pub in_begun : (b a : Bindings) (p : ℕ) → p < nodes b → offers b p ≡ false → offers a p ≡ true → In (begun b a) p
in_begun b a p below off on =
    subst (λ xs. In xs p) (sym (flat_filter (λ fec. not (offers b fec) && offers a fec) (range_with_len 0 (nodes b))))
    (filter_in (λ fec. not (offers b fec) && offers a fec) (range_with_len 0 (nodes b)) p (range_in 0 (nodes b) p (omega arith) (omega (arith, below)))
    (and_on _ _ (ap not off) on))

pub begun_in : (b a : Bindings) (p : ℕ) → In (begun b a) p → (p < nodes b) × (offers b p ≡ false) × (offers a p ≡ true)
begun_in b a p i =
    let f = in_filter (λ fec. not (offers b fec) && offers a fec) (range_with_len 0 (nodes b)) p
    (subst (λ xs. In xs p) (flat_filter (λ fec. not (offers b fec) && offers a fec) (range_with_len 0 (nodes b))) i) in
    let r = in_range 0 (nodes b) p f.0 in
    (below r.1, off (offers b p) (and_left (not (offers b p)) (offers a p) f.1), and_right (not (offers b p)) (offers a p) f.1)
  where
    below : p < 0 + nodes b → p < nodes b
    below h = omega (arith, h)

    off : (x : Bool) → not x ≡ true → x ≡ false
    off true h = cc
    off false h = refl

module _ (w : Wiring) (me : ℕ) (b a : Bindings) (before after : Knowledge) (own : b.me.0 ≡ me) (one_each : nodes b ≡ length w.loopbacks)
    (was : (p : ℕ) → p < length w.loopbacks → offers b p ≡ node.offers w before me p)
    (is : (p : ℕ) → p < length w.loopbacks → offers a p ≡ node.offers w after me p) where
  pub begun_is : begun b a ≡ new_offers w before after me
  begun_is =
      flat_filter (λ fec. not (offers b fec) && offers a fec) (range_with_len 0 (nodes b))
      ∙ ap (λ k. filter (λ fec. not (offers b fec) && offers a fec) (range_with_len 0 k)) one_each
      ∙ filter_below (λ fec. not (offers b fec) && offers a fec) (begins_offer w before after me) (length w.loopbacks) 0
      (λ p low high. at p (omega (arith, high)) (p == me) refl)
    where
      at : (p : ℕ) → p < length w.loopbacks → (x : Bool) → (p == me) ≡ x → (not (offers b p) && offers a p) ≡ begins_offer w before after me p
      at p h true e =
          ap (λ y. not y && offers a p) (own_offered b p (own ∙ sym (same_numbers p me e)))
          ∙ sym (ap (λ y. not y && (not (node.offers w before me p) && node.offers w after me p)) e)
      at p h false e =
          ap (λ y. not y && offers a p) (was p h) ∙ ap (λ y. not (node.offers w before me p) && y) (is p h)
          ∙ sym (ap (λ y. not y && (not (node.offers w before me p) && node.offers w after me p)) e)

  pub ended_is : ended b a ≡ ended_offers w before after me
  ended_is =
      flat_filter (λ fec. offers b fec && not (offers a fec)) (range_with_len 0 (nodes b))
      ∙ ap (λ k. filter (λ fec. offers b fec && not (offers a fec)) (range_with_len 0 k)) one_each
      ∙ filter_below (λ fec. offers b fec && not (offers a fec)) (ends_offer w before after me) (length w.loopbacks) 0
      (λ p low high. at p (omega (arith, high)))
    where
      at : (p : ℕ) → p < length w.loopbacks → (offers b p && not (offers a p)) ≡ ends_offer w before after me p
      at p h = ap (λ y. y && not (offers a p)) (was p h) ∙ ap (λ y. node.offers w before me p && not y) (is p h)

-- 2. Labels

module _ (me n : ℕ) (b a : Bindings) (free : ℕ → Bool) (table then_table : LabelTable) (have : HaveLabels me n b table) (one_each : nodes b ≡ n)
    (free_is : (p : ℕ) → offers b p ≡ true → free p ≡ false) (labels_is : then_table.labels ≡ offered free table.labels (begun b a))
    (told : IsTold then_table.labels) (me_is : then_table.me ≡ table.me) where
  -- a FEC that was offered keeps its label
  pub kept : (p label : ℕ) → free p ≡ false → label_now table.labels p ≡ Some label → label_now then_table.labels p ≡ Some label
  kept p label off e = ap (λ l. label_now l p) labels_is ∙ offered_keeps free table.labels (begun b a) p label off e

  some_at : (o : Option ℕ) → is_some o ≡ true → (label : ℕ) × (o ≡ Some label)
  some_at None e = cc
  some_at (Some label) e = (label, refl)

  pub kept_one : (p : ℕ) → p < n → p ≢ me → offers b p ≡ true → is_some (label_now then_table.labels p) ≡ true
  kept_one p h d on = let one = some_at (label_now table.labels p) (have.had p h d on) in ap is_some (kept p one.0 (free_is p on) one.1)

  given_one : (p : ℕ) → p < n → offers b p ≡ false → offers a p ≡ true → is_some (label_now then_table.labels p) ≡ true
  given_one p h off on =
      ap (λ l. is_some (label_now l p)) labels_is
      ∙ ap is_some (offered_gives free table.labels (begun b a) p (omega (arith, h, have.long)) (in_begun b a p (omega (arith, h, one_each)) off on)).1

  pub have_then : HaveLabels me n a then_table
  have_then = record {
    me_is = me_is ∙ have.me_is;
    long = ap (λ (l : Labels). length l.fecs) labels_is ∙ offered_long free table.labels (begun b a) ∙ have.long;
    told = told;
    had = λ p h d on. elim (two_ways (offers b p)) [ inl e ↦ kept_one p h d e | inr e ↦ given_one p h e on ];
  }

  -- a FEC that was offered before or is now has its label
  pub has_one : (p : ℕ) → p < n → (offers b p ≡ true) ⊎ (offers a p ≡ true) → HasOne me then_table.labels p
  has_one p h on = elim (eqb_tells me p) [
    | inl e ↦ inl e.1
    | inr e ↦ inr (elim on [ inl f ↦ kept_one p h (λ q. e.1 (sym q)) f | inr f ↦ have_then.had p h (λ q. e.1 (sym q)) f ])
  ]

  -- a label that a FEC has and that isn't newly offered it had before
  was_its : (p label : ℕ) → offers a p ≡ offers b p → label_now then_table.labels p ≡ Some label → label_now table.labels p ≡ Some label
  was_its p label same e =
      offered_was free table.labels (begun b a) p label (λ i. let f = begun_in b a p i in clash (sym f.2 ∙ same ∙ f.1)) (ap (λ l. label_now l p) (sym labels_is)
      ∙ e)
    where
      clash : true ≡ false → ⊥
      clash g = cc

  -- attachments are the same
  site_then : (site : SiteNo) (k label : ℕ) → meaning_of table.labels label ≡ Some (bind.Site site k) →
      meaning_of then_table.labels label ≡ Some (bind.Site site k)
  site_then site k label e =
      let g : Given = record { label = label; what = bind.Site site k } in
      let i = in_contained table.labels.given g ((have.told label (bind.Site site k)).0 e) in
      (told label (bind.Site site k)).1
      (contained_in then_table.labels.given g (subst (λ (l : Labels). In l.given g) (sym labels_is) ((offered_sites free table.labels (begun b a) g refl).0 i)))

  pub site_was : (site : SiteNo) (k label : ℕ) → meaning_of then_table.labels label ≡ Some (bind.Site site k) →
      meaning_of table.labels label ≡ Some (bind.Site site k)
  site_was site k label e =
      let g : Given = record { label = label; what = bind.Site site k } in
      let i = in_contained then_table.labels.given g ((told label (bind.Site site k)).0 e) in
      (have.told label (bind.Site site k)).1
      (contained_in table.labels.given g ((offered_sites free table.labels (begun b a) g refl).1 (subst (λ (l : Labels). In l.given g) labels_is i)))

  -- 3. Uses

  module _ (uses : List (ℕ × Use)) (stands : (label : ℕ) → IsUseOf (usable b) (meaning_of table.labels label) (use_of uses label)) where
    some_site : (m : Option Bind) → (fec : ℕ) → m ≡ Some (fec_of fec) → (site : SiteNo) (k : ℕ) → m ≡ Some (bind.Site site k) → ⊥
    some_site m fec e site k f = clash (sym e ∙ f)
      where
        clash : (let x : Option Bind = Some (fec_of fec) in x) ≡ Some (bind.Site site k) → ⊥
        clash g = cc

    -- what FECs have now no attachment has
    pub no_site : (p label : ℕ) → label_now then_table.labels p ≡ Some label → IsNotSite (use_of uses label)
    no_site p label e = by (meaning_of table.labels label) refl (stands label)
      where
        by : (m : Option Bind) → meaning_of table.labels label ≡ m → IsUseOf (usable b) m (use_of uses label) → IsNotSite (use_of uses label)
        by None f h = subst IsNotSite (sym h) tt
        by (Some (bind.Fec fec)) f h = subst IsNotSite (sym h) (fec_is_no_site (usable b fec.0))
        by (Some (bind.Site site k)) f h =
            absurd (some_site (meaning_of then_table.labels label) p ((told label (fec_of p)).1 e) site k (site_then site k label f))

    -- where a FEC's way stays, so does the use of its label
    pub stood : (p label : ℕ) → usable a p ≡ usable b p → a.me ≡ b.me → label_now then_table.labels p ≡ Some label → use_of uses label ≡ fec_use (usable a p)
    stood p label same me_same e =
        subst (λ m. IsUseOf (usable b) m (use_of uses label))
        ((have.told label (fec_of p)).1 (was_its p label (ap (λ m. (m.0 == p) || is_some (usable a p)) me_same ∙ ap (λ u. (b.me.0 == p) || is_some u) same) e))
        (stands label)
        ∙ ap fec_use (sym same)

    module _ (then_uses : List (ℕ × Use)) (ways : (p label : ℕ) → label_now then_table.labels p ≡ Some label → use_of then_uses label ≡ fec_use (usable a p))
        (others : (label : ℕ) → ((p : ℕ) → label_now then_table.labels p ≢ Some label) → use_of then_uses label ≡ use_of uses label) where
      -- what no FEC has now is used as before
      unnamed : (label : ℕ) → ((p : ℕ) → meaning_of then_table.labels label ≢ Some (fec_of p)) → use_of then_uses label ≡ use_of uses label
      unnamed label off = others label (λ p e. off p ((told label (fec_of p)).1 e))

      -- what has been given up had no use
      given_up_unused : (fec label : ℕ) → meaning_of table.labels label ≡ Some (fec_of fec) → meaning_of then_table.labels label ≡ None →
          use_of uses label ≡ None
      given_up_unused fec label e gone = elim (two_ways (offers b fec)) [
        | inl on ↦ absurd (clash (sym ((told label (fec_of fec)).1 (kept fec label (free_is fec on) ((have.told label (fec_of fec)).0 e))) ∙ gone))
        | inr off ↦ subst (λ m. IsUseOf (usable b) m (use_of uses label)) e (stands label)
            ∙ ap fec_use (unusable (usable b fec) (or_off (b.me.0 == fec) (usable b fec) off))
      ]
        where
          clash : (let x : Option Bind = Some (fec_of fec) in x) ≡ None → ⊥
          clash g = cc

          or_off : (x : Bool) (o : Option (NodeNo × ℕ)) → (x || is_some o) ≡ false → is_some o ≡ false
          or_off true o g = cc
          or_off false o g = g

          unusable : (o : Option (NodeNo × ℕ)) → is_some o ≡ false → o ≡ None
          unusable None g = refl
          unusable (Some x) g = cc

      pub table_then : (label : ℕ) → IsUseOf (usable a) (meaning_of then_table.labels label) (use_of then_uses label)
      table_then label = by (meaning_of then_table.labels label) refl
        where
          none_fec : meaning_of then_table.labels label ≡ None → (p : ℕ) → meaning_of then_table.labels label ≢ Some (fec_of p)
          none_fec e p f = clash (sym e ∙ f)
            where
              clash : None ≡ (let x : Option Bind = Some (fec_of p) in x) → ⊥
              clash g = cc

          before : meaning_of then_table.labels label ≡ None → (m : Option Bind) → meaning_of table.labels label ≡ m → use_of uses label ≡ None
          before e None f = subst (λ m. IsUseOf (usable b) m (use_of uses label)) f (stands label)
          before e (Some (bind.Fec fec)) f = given_up_unused fec.0 label f e
          before e (Some (bind.Site site k)) f = absurd (clash (sym e ∙ site_then site k label f))
            where
              clash : None ≡ (let x : Option Bind = Some (bind.Site site k) in x) → ⊥
              clash g = cc

          by : (m : Option Bind) → meaning_of then_table.labels label ≡ m → IsUseOf (usable a) m (use_of then_uses label)
          by None e = unnamed label (none_fec e) ∙ before e (meaning_of table.labels label) refl
          by (Some (bind.Fec fec)) e = ways fec.0 label ((told label (bind.Fec fec)).0 e)
          by (Some (bind.Site site k)) e =
              subst (IsSiteUse site) (sym (unnamed label (λ p f. some_site (meaning_of then_table.labels label) p f site k e)))
              (subst (λ m. IsUseOf (usable b) m (use_of uses label)) (site_was site k label e) (stands label))

      -- attachments' labels are used as before
      pub sites_stay : (label : ℕ) → IsAttachment (meaning_of table.labels label) →
          (meaning_of then_table.labels label ≡ meaning_of table.labels label) × (use_of then_uses label ≡ use_of uses label)
      sites_stay label is = by (meaning_of table.labels label) refl is
        where
          by : (m : Option Bind) → meaning_of table.labels label ≡ m → IsAttachment m →
              (meaning_of then_table.labels label ≡ meaning_of table.labels label) × (use_of then_uses label ≡ use_of uses label)
          by None e h = absurd h
          by (Some (bind.Fec fec)) e h = absurd h
          by (Some (bind.Site site k)) e h = (
            site_then site k label e ∙ sym e,
            unnamed label (λ p f. some_site (meaning_of then_table.labels label) p f site k (site_then site k label e)),
          )

-- 4. Which FECs are free

one_of_numbers : (xs : List NodeNo) (p : ℕ) → is_one_of xs p ≡ list_any (λ k. k == p) (numbers xs)
one_of_numbers [] p = refl
one_of_numbers (x ∷ xs) p = ap (λ y. (x.0 == p) || y) (one_of_numbers xs p)

any_filter : (q : ℕ → Bool) (p n s : ℕ) → s ≤ p → p < s + n → list_any (λ k. k == p) (filter q (range_with_len s n)) ≡ q p
any_filter q p zero s low high = absurd (none low high)
  where
    none : s ≤ p → p < s + 0 → ⊥
    none f g = omega (arith, f, g)
any_filter q p (suc n) s low high = elim (eqb_tells s p) [
  | inl e ↦ here (q s) refl e.1
  | inr e ↦ there (q s) e.0 (any_filter q p n (s + 1) (above low e.1) (omega (arith, high)))
]
  where
    above : s ≤ p → s ≢ p → s + 1 ≤ p
    above f g = omega (arith, f, g)

    past : (m t : ℕ) → p < t → list_any (λ k. k == p) (filter q (range_with_len t m)) ≡ false
    past zero t h = refl
    past (suc m) t h = by (q t) (past m (t + 1) (omega (arith, h)))
      where
        apart : (t == p) ≡ false
        apart = elim (eqb_tells t p) [ inl e ↦ absurd (none h e.1) | inr e ↦ e.0 ]
          where
            none : p < t → t ≡ p → ⊥
            none f g = omega (arith, f, g)

        by : (x : Bool) → list_any (λ k. k == p) (filter q (range_with_len (t + 1) m)) ≡ false →
            list_any (λ k. k == p) (cond x (t ∷ filter q (range_with_len (t + 1) m)) (filter q (range_with_len (t + 1) m))) ≡ false
        by true i = ap (λ y. y || list_any (λ k. k == p) (filter q (range_with_len (t + 1) m))) apart ∙ i
        by false i = i

    here : (x : Bool) → q s ≡ x → s ≡ p → list_any (λ k. k == p) (cond x (s ∷ filter q (range_with_len (s + 1) n)) (filter q (range_with_len (s + 1) n))) ≡ q p
    here true e f =
        ap (λ y. y || list_any (λ k. k == p) (filter q (range_with_len (s + 1) n))) (ap (λ k. k == p) f ∙ same_test p) ∙ sym e ∙ ap q f
    here false e f = past n (s + 1) (omega (arith, f)) ∙ sym e ∙ ap q f

    there : (x : Bool) → (s == p) ≡ false → list_any (λ k. k == p) (filter q (range_with_len (s + 1) n)) ≡ q p →
        list_any (λ k. k == p) (cond x (s ∷ filter q (range_with_len (s + 1) n)) (filter q (range_with_len (s + 1) n))) ≡ q p
    there true e i = ap (λ y. y || list_any (λ k. k == p) (filter q (range_with_len (s + 1) n))) e ∙ i
    there false e i = i

-- a FEC is one of those that were found just where it is free, or it has no label
pub found_free : (known : Known) (labels : Labels) (tick n : ℕ) (free : List NodeNo) →
    numbers free ≡ flat_map (free_of known labels tick) (range_with_len 0 n) →
    (p : ℕ) → p < n → (is_one_of free p ≡ is_free known tick p) ⊎ (label_now labels p ≡ None)
found_free known labels tick n free e p h = by (label_now labels p) refl
  where
    test : ℕ → Bool
    test fec = is_some (label_now labels fec) && is_free known tick fec

    found : is_one_of free p ≡ is_some (label_now labels p) && is_free known tick p
    found = one_of_numbers free p ∙ ap (list_any (λ k. k == p)) (e
        ∙ flat_filter (λ fec. is_some (label_now labels fec) && is_free known tick fec) (range_with_len 0 n))
        ∙ any_filter (λ fec. is_some (label_now labels fec) && is_free known tick fec) p n 0 (omega arith) (omega (arith, h))

    by : (o : Option ℕ) → label_now labels p ≡ o → (is_one_of free p ≡ is_free known tick p) ⊎ (label_now labels p ≡ None)
    by None f = inr f
    by (Some label) f = inl (found ∙ ap (λ o. is_some o && is_free known tick p) f)
