-- A site is attached once more, or an attachment ends.
use Rattle.std.proofs.Common.{ℕ, suc, ◌≡◌, ◌≢◌, ◌+◌, ◌<◌, ◌≤◌, ◌^◌, inl, inr, Bool, true, false, List, [], ◌∷◌, ◌++◌, length, filter, refl, arith, sym}
use Rattle.std.proofs.Common.{◌∙◌, ap, subst, Option, Some, None, Vec, Global}
use Rattle.std.specs.Prelude.{◌==◌, max, is_some, slice_index_or, slice_set, if◌then◌else◌}
use Rattle.std.proofs.lemmas.Bool.Decides.{eqb_tells}
use Rattle.std.proofs.lemmas.List.{get_or-set_same, get_or-set_other, length-append}
use Rattle.std.proofs.lemmas.List.Elements.{filter-append}
use Rattle.mn_base.specs.declared.numbers.SiteNo.{SiteNo}
use Rattle.mn_labels.specs.declared.meaning.Bind.{Bind}
use Rattle.mn_labels.specs.declared.meaning.Bind.TheVariants as bind
use Rattle.mn_labels.specs.declared.meaning.Given.{Given}
use Rattle.mn_labels.specs.Labels.{Labels, LabelTable, label_now, greatest, attached, attachments_in, is_attachment, meaning_of, Means, IsTold}
use Rattle.mn_base.proofs.Members.{In, in_append, in_front, in_rest, in_contained, contained_in}
use Rattle.mn_lfib.specs.declared.answer.Use.{Use}
use Rattle.mn_lfib.specs.declared.answer.Use.TheVariants as use_kind
use Rattle.mn_lfib.specs.Uses.{use_of}
use Rattle.mn_bindings.specs.Bindings as lib
use Rattle.mn_lsr.specs.declared.parts.Parts.{Parts}
use Rattle.mn_lsr.specs.Standing.{IsUseOf, IsAttachment, is_of, attachments}
use Rattle.mn_lsr.specs.Parts.{Stands}

-- a site was attached no more often than labels were given
pub few_attachments : (site count : ℕ) (given : List Given) → attachments_in given ≤ 1048560 → count ≡ attachments site given → count + 1 < 2 ^ 32
few_attachments site count given few e = small (attachments site given) (attachments_in given) (fewer given) few e
  where
    fewer : (gs : List Given) → attachments site gs ≤ attachments_in gs
    fewer [] = omega arith
    fewer (g ∷ gs) = by g.what (fewer gs)
      where
        kept : (b : Bool) → attachments site gs ≤ attachments_in gs →
            length (let o : List Given = if b then g ∷ filter (λ giving. is_of site giving.what) gs else filter (λ giving. is_of site giving.what) gs in o)
            ≤ suc (attachments_in gs)
        kept true h = omega (arith, h)
        kept false h = omega (arith, h)

        by : (what : Bind) → attachments site gs ≤ attachments_in gs →
            length (let o : List Given = if is_of site what then g ∷ filter (λ giving. is_of site giving.what) gs else filter
            (λ giving. is_of site giving.what) gs in o)
            ≤ length (let o : List Given =
            if is_attachment what then g ∷ filter (λ giving. is_attachment giving.what) gs else filter (λ giving. is_attachment giving.what) gs in o)
        by (bind.Fec fec) h = h
        by (bind.Site other number) h = kept (other.0 == site) h

    small : (a b : ℕ) → a ≤ b → b ≤ 1048560 → count ≡ a → count + 1 < 2 ^ 32
    small a b h g f = omega (arith, h, g, f)

-- a label that means something has 20 bits, where all that were given do
bounded : (given : List Given) (g : Given) → In given g → g.label ≤ greatest given
bounded [] g i = absurd i
bounded (h ∷ given) g i = elim i [
  | inl e ↦ subst (λ (x : Given). x.label ≤ max h.label (greatest given)) e (first h.label (greatest given))
  | inr j ↦ rest h.label (bounded given g j)
]
  where
    first : (a b : ℕ) → a ≤ max a b
    first a b = omega arith

    rest : {a b : ℕ} (c : ℕ) → a ≤ b → a ≤ max c b
    rest c f = omega (arith, f)

pub given_small : (labels : Labels) (label : ℕ) → IsTold labels → greatest labels.given < 2 ^ 20 → IsAttachment (meaning_of labels label) → label < 2 ^ 20
given_small labels label told few is = by (meaning_of labels label) refl is
  where
    by : (o : Option Bind) → meaning_of labels label ≡ o → IsAttachment o → label < 2 ^ 20
    by None e h = absurd h
    by (Some (bind.Fec fec)) e h = absurd h
    by (Some (bind.Site site number)) e h =
        let most = bounded labels.given (record { label = label; what = bind.Site site number })
        (in_contained labels.given _ ((told label (bind.Site site number)).0 e)) in
        omega (arith, most, few)

one_counted : (other : ℕ) (site : SiteNo) (label number : ℕ) (given : List Given) →
    attachments other (given ++ record { label = label; what = bind.Site site number } ∷ []) ≡ attachments other given + (if site.0 == other then 1 else 0)
one_counted other site label number given =
    ap length (filter-append (λ (giving : Given). is_of other giving.what) given (record { label = label; what = bind.Site site number } ∷ []))
    ∙ length-append (filter (λ (giving : Given). is_of other giving.what) given)
    (filter (λ (giving : Given). is_of other giving.what) (record { label = label; what = bind.Site site number } ∷ []))
    ∙ ap (λ n. attachments other given + n) (by (site.0 == other))
  where
    by : (b : Bool) → length (let o : List Given = if b then record { label = label; what = bind.Site site number } ∷ [] else [] in o) ≡ (if b then 1 else 0)
    by true = refl
    by false = refl

counted : (site : SiteNo) (label number : ℕ) (given : List Given) (xs : List ℕ) → site.0 < length xs →
    ((other : ℕ) → slice_index_or xs other 0 ≡ attachments other given)
    → (other : ℕ) → slice_index_or (slice_set xs site.0 (slice_index_or xs site.0 0 + 1)) other 0 ≡ attachments other (given ++ record {
      label = label;
      what =
          bind.Site site number;
    } ∷ [])
counted site label number given xs there so_many other = elim (eqb_tells site.0 other) [
  | inl p ↦
      subst (λ k. slice_index_or (slice_set xs site.0 (slice_index_or xs site.0 0 + 1)) k 0 ≡ slice_index_or xs k 0 + 1) p.1
      (get_or-set_same xs site.0 (slice_index_or xs site.0 0 + 1) 0 there)
      ∙ ap (λ n. n + 1) (so_many other)
      ∙ ap (λ b. attachments other given + (if b then 1 else 0)) (sym p.0)
      ∙ sym (one_counted other site label number given)
  | inr p ↦
      get_or-set_other xs site.0 other (slice_index_or xs site.0 0 + 1) 0 (λ e. p.1 (sym e))
      ∙ so_many other
      ∙ none (attachments other given)
      ∙ ap (λ b. attachments other given + (if b then 1 else 0)) (sym p.0)
      ∙ sym (one_counted other site label number given)
]
  where
    none : (n : ℕ) → n ≡ n + 0
    none n = omega arith

pub counted_once_more : (site : SiteNo) (label number at count : ℕ) (given then_given : List Given) (xs ys : List ℕ) →
    then_given ≡ given ++ record { label = label; what = bind.Site site number } ∷ [] → at ≡ site.0 → count ≡ slice_index_or ys site.0 0
    → ((other : ℕ) → slice_index_or xs other 0 ≡ slice_index_or ys other 0) → site.0 < length xs →
    ((other : ℕ) → slice_index_or ys other 0 ≡ attachments other given)
    → (other : ℕ) → slice_index_or (slice_set xs at (count + 1)) other 0 ≡ attachments other then_given
counted_once_more site label number at count given then_given xs ys given_is at_is count_is same there so_many other =
    ap (λ k. slice_index_or (slice_set xs k (count + 1)) other 0) at_is
    ∙ ap (λ n. slice_index_or (slice_set xs site.0 (n + 1)) other 0) (count_is ∙ sym (same site.0))
    ∙ counted site label number given xs there (λ o. same o ∙ so_many o) other
    ∙ ap (attachments other) (sym given_is)

module _ (p : Parts) (st : Stands p) where
  -- a site has been attached, and its label is new
  pub attached_then : (site : SiteNo) (label number : ℕ) (table : LabelTable) (uses : List (ℕ × Use)) (counts : Vec ℕ Global) →
      label ≡ greatest p.labels.labels.given + 1 → table.labels ≡ attached p.labels.labels (bind.Site site number) → table.me ≡ p.labels.me →
      IsTold table.labels
      → meaning_of p.labels.labels label ≡ None
      → use_of uses label ≡ Some (use_kind.Site site) → ((other : ℕ) → other ≢ label → use_of uses other ≡ use_of p.lfib other)
      → ((other : ℕ) → slice_index_or counts.items other 0 ≡ attachments other table.labels.given)
      → Stands (record p { labels = table; lfib = uses; attached = counts })
  attached_then site label number table uses counts label_is labels_is me_is told fresh used uses_others so_many = record {
    view = st.view;
    nodes = st.nodes;
    me = st.me;
    wired = st.wired;
    mended = st.mended;
    ends = st.ends;
    rows = st.rows;
    tied = st.tied;
    fit = st.fit;
    labels = record {
      me_is = me_is ∙ st.labels.me_is;
      long = ap (λ (l : Labels). length l.fecs) labels_is ∙ st.labels.long;
      told = told;
      had = λ fec h d on. ap (λ (l : Labels). is_some (label_now l fec)) labels_is ∙ st.labels.had fec h d on;
    };
    owed = st.owed;
    attached = so_many;
    links = st.links;
    table = λ at. elim (eqb_tells at label) [
      | inl e ↦ subst (λ k. IsUseOf (lib.usable p.lib.bindings) (meaning_of table.labels k) (use_of uses k)) (sym e.1)
          (subst (λ m. IsUseOf (lib.usable p.lib.bindings) m (use_of uses label)) (sym means)
          (subst (IsUseOf (lib.usable p.lib.bindings) (Some (bind.Site site number))) (sym used) refl))
      | inr e ↦ subst (λ m. IsUseOf (lib.usable p.lib.bindings) m (use_of uses at)) (sym (others at e.1))
          (subst (IsUseOf (lib.usable p.lib.bindings) (meaning_of p.labels.labels at)) (sym (uses_others at e.1)) (st.table at))
    ];
  }
    where
      giving : Given
      giving = record { label = label; what = bind.Site site number }

      given_is : table.labels.given ≡ p.labels.labels.given ++ record { label = label; what = bind.Site site number } ∷ []
      given_is = ap (λ (l : Labels). l.given) labels_is
          ∙ ap (λ k. p.labels.labels.given ++ record { label = k; what = bind.Site site number } ∷ []) (sym label_is)

      means : meaning_of table.labels label ≡ Some (bind.Site site number)
      means = (told label (bind.Site site number)).1
          (contained_in table.labels.given (record { label = label; what = bind.Site site number })
          (subst (λ gs. In gs (record { label = label; what = bind.Site site number })) (sym given_is)
          (in_rest p.labels.labels.given (record { label = label; what = bind.Site site number } ∷ []) (record { label = label; what = bind.Site site number })
          (inl refl))))

      -- what another label means it meant before
      forth : (at : ℕ) (thing : Bind) → Means p.labels.labels at thing → Means table.labels at thing
      forth at (bind.Fec fec) m = ap (λ (l : Labels). label_now l fec.0) labels_is ∙ m
      forth at (bind.Site s k) m =
          contained_in table.labels.given _ (subst (λ gs. In gs (record { label = at; what = bind.Site s k })) (sym given_is)
          (in_front p.labels.labels.given _ _ (in_contained p.labels.labels.given _ m)))

      back : (at : ℕ) (thing : Bind) → at ≢ label → Means table.labels at thing → Means p.labels.labels at thing
      back at (bind.Fec fec) d m = ap (λ (l : Labels). label_now l fec.0) (sym labels_is) ∙ m
      back at (bind.Site s k) d m =
          contained_in p.labels.labels.given _ (elim (in_append p.labels.labels.given (record { label = label; what = bind.Site site number } ∷ []) _
          (subst (λ gs. In gs (record { label = at; what = bind.Site s k })) given_is (in_contained table.labels.given _ m))) [
            | inl i ↦ i
            | inr i ↦ elim i [ inl e ↦ absurd (d (ap (λ (g : Given). g.label) (sym e))) | inr j ↦ absurd j ]
          ])

      others : (at : ℕ) → at ≢ label → meaning_of table.labels at ≡ meaning_of p.labels.labels at
      others at d = by (meaning_of p.labels.labels at) refl
        where
          by : (m : Option Bind) → meaning_of p.labels.labels at ≡ m → meaning_of table.labels at ≡ m
          by (Some thing) e = (told at thing).1 (forth at thing ((st.labels.told at thing).0 e))
          by None e = none (meaning_of table.labels at) refl
            where
              none : (o : Option Bind) → meaning_of table.labels at ≡ o → o ≡ None
              none None f = refl
              none (Some thing) f = absurd (clash (sym e ∙ (st.labels.told at thing).1 (back at thing d ((told at thing).0 f))))
                where
                  clash : None ≡ Some thing → ⊥
                  clash g = cc

  -- an attachment has ended
  pub detached : (label : ℕ) (uses : List (ℕ × Use)) → IsAttachment (meaning_of p.labels.labels label) → use_of uses label ≡ Some use_kind.Ended →
      ((other : ℕ) → other ≢ label → use_of uses other ≡ use_of p.lfib other)
      → Stands (record p { lfib = uses })
  detached label uses is ended others = record {
    view = st.view;
    nodes = st.nodes;
    me = st.me;
    wired = st.wired;
    mended = st.mended;
    ends = st.ends;
    rows = st.rows;
    tied = st.tied;
    fit = st.fit;
    labels = st.labels;
    owed = st.owed;
    attached = st.attached;
    links = st.links;
    table = λ at. elim (eqb_tells at label) [
      | inl e ↦ subst (λ k. IsUseOf (lib.usable p.lib.bindings) (meaning_of p.labels.labels k) (use_of uses k)) (sym e.1)
          (subst (IsUseOf (lib.usable p.lib.bindings) (meaning_of p.labels.labels label)) (sym ended) (over (meaning_of p.labels.labels label) is))
      | inr e ↦ subst (IsUseOf (lib.usable p.lib.bindings) (meaning_of p.labels.labels at)) (sym (others at e.1)) (st.table at)
    ];
  }
    where
      over : (m : Option Bind) → IsAttachment m → IsUseOf (lib.usable p.lib.bindings) m (Some use_kind.Ended)
      over None h = absurd h
      over (Some (bind.Fec fec)) h = absurd h
      over (Some (bind.Site site number)) h = tt
