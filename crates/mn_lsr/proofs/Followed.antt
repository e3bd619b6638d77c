-- What holds once events are followed: the labels that FECs have then, what may be told by them, and what they are used for.
use Rattle.std.proofs.Common.{ℕ, zero, suc, ◌≡◌, ◌≢◌, ◌+◌, ◌*◌, ◌≤◌, ◌<◌, inl, inr, Bool, true, false, cond, List, [], ◌∷◌, ◌++◌, length, map, refl, arith, sym}
use Rattle.std.proofs.Common.{◌∙◌, ap, subst}
use Rattle.std.proofs.Common.{Option, Some, None, length-append}
use Rattle.std.specs.Prelude.{◌&&◌, not, slice_index_or}
use Rattle.std.specs.List.{All, flat_map, range_with_len}
use Rattle.std.proofs.Math.Nat.{suc-mul}
use Rattle.std.proofs.lemmas.Nat.{mul-le}
use Rattle.mn_base.specs.declared.numbers.NodeNo.{NodeNo}
use Rattle.mn_base.proofs.Members.{In}
use Rattle.mn_labels.specs.Labels.{LabelTable, label_now, offered, numbers, is_one_of, meaning_of, IsTold}
use Rattle.mn_labels.proofs.Offering.{offered_alike}
use Rattle.mn_releases.specs.Rests.{is_over}
use Rattle.mn_bindings.specs.declared.event.LibEvent.{LibEvent}
use Rattle.mn_bindings.specs.declared.event.LibEvent.TheVariants as event
use Rattle.mn_bindings.specs.declared.event.TellKind.TheVariants as kind
use Rattle.mn_bindings.specs.Bindings.{Bindings, nodes, usable, offers, is_open, after_event, after_events}
use Rattle.mn_bindings.specs.News.{InOrder, Apart, fecs_in, begun}
use Rattle.mn_bindings.specs.Tells.{tell, told, tells_of, changes, releases, closes, opens, mention, tells}
use Rattle.mn_bindings.specs.Tells as lib_tells
use Rattle.mn_bindings.specs.Known.{is_free}
use Rattle.mn_bindings.proofs.Events.{nodes-after_events}
use Rattle.mn_bindings.proofs.Staying.{usable_stays}
use Rattle.mn_lfib.specs.declared.answer.Use.{Use}
use Rattle.mn_lfib.specs.Uses.{use_of, fec_use, IsNotSite}
use Rattle.mn_lsr.specs.declared.parts.Parts.{Parts}
use Rattle.mn_lsr.specs.Standing.{IsUseOf, IsAttachment}
use Rattle.mn_lsr.specs.Telling.{opens_one, MayTell}
use Rattle.mn_lsr.specs.Parts.{HaveLabels, MayFollow, free_of}
use Rattle.mn_lsr.proofs.After.{may-tells}
use Rattle.mn_lsr.proofs.Naming.{begun_in, own_offered, have_then, has_one, no_site, stood, table_then, sites_stay, found_free}
use Rattle.mn_lsr.proofs.Opened.{usable_opened}

-- 1. How much is told

releases-few : (es : List LibEvent) → length (releases es) ≤ length es
releases-few [] = omega arith
releases-few (event.Opened from ∷ es) = omega (arith, releases-few es)
releases-few (event.Closed from ∷ es) = omega (arith, releases-few es)
releases-few (event.Map from fec label ∷ es) = omega (arith, releases-few es)
releases-few (event.Withdraw from fec ∷ es) = by (closes es from.0) (releases-few es)
  where
    by : (b : Bool) → length (releases es) ≤ length es → length (cond b [] (tell from.0 kind.Release fec.0 ∷ []) ++ releases es) ≤ suc (length es)
    by true h = omega (arith, h)
    by false h = omega (arith, h)
releases-few (event.Released from fec ∷ es) = omega (arith, releases-few es)
releases-few (event.Next fec hop ∷ es) = omega (arith, releases-few es)

flat-few : {A : Type 0} (f : ℕ → List A) (most n q : ℕ) → ((k : ℕ) → length (f k) ≤ most) → length (flat_map f (range_with_len q n)) ≤ n * most
flat-few f most zero q h = omega arith
flat-few f most (suc n) q h =
    sum (length-append (f q) (flat_map f (range_with_len (q + 1) n))) (h q) (flat-few f most n (q + 1) h) (suc-mul n most)
  where
    sum : {a b c d e : ℕ} → a ≡ b + c → b ≤ most → c ≤ d → e ≡ d + most → a ≤ e
    sum e f g h = omega (arith, e, f, g, h)

told-few : (on was is : Bool) (to fec : ℕ) → length (cond on (map (λ k. tell to k fec) (mention was is)) []) ≤ 1
told-few false was is to fec = omega arith
told-few true true true to fec = omega arith
told-few true false false to fec = omega arith
told-few true false true to fec = omega arith
told-few true true false to fec = omega arith

pub tells-few : (b : Bindings) (es : List LibEvent) → nodes b ≤ 256 → length es ≤ 256 → length (tells b es) ≤ 65792
tells-few b es few short =
    let a : Bindings = after_events b es in
    let one : (fec : ℕ) → length (tells_of (slice_index_or (lib_tells.offered b) fec false) a es fec) ≤ nodes a * 1 =
    λ fec. flat-few (told (slice_index_or (lib_tells.offered b) fec false) a es fec) 1 (nodes a) 0
    (λ to. told-few (is_open a to) (slice_index_or (lib_tells.offered b) fec false && not (opens es to)) (offers a fec) to fec) in
    let all = flat-few (λ fec. tells_of (slice_index_or (lib_tells.offered b) fec false) a es fec) (nodes a * 1) (nodes a) 0 one in
    bound (nodes a) (length-append (releases es) (changes (lib_tells.offered b) a es)) (releases-few es) short all (nodes-after_events b es) few
  where
    square : (n : ℕ) → n ≤ 256 → n * (n * 1) ≤ 65536
    square n h = mul-le n (n * 1) 256 256 h (omega (arith, h))

    bound : {t r e c n : ℕ} (m : ℕ) → t ≡ r + c → r ≤ e → e ≤ 256 → c ≤ m * (m * 1) → m ≡ n → n ≤ 256 → t ≤ 65792
    bound m p q s u v w = within p q s u (square m (omega (arith, v, w)))
      where
        within : {t r e c k : ℕ} → t ≡ r + c → r ≤ e → e ≤ 256 → c ≤ k → k ≤ 65536 → t ≤ 65792
        within p q s u z = omega (arith, p, q, s, u, z)

-- 2. The node stays

me-after-one : (b : Bindings) (e : LibEvent) → (after_event b e).me ≡ b.me
me-after-one b (event.Opened from) = refl
me-after-one b (event.Closed from) = refl
me-after-one b (event.Map from fec label) = refl
me-after-one b (event.Withdraw from fec) = refl
me-after-one b (event.Released from fec) = refl
me-after-one b (event.Next fec hop) = refl

me-after : (b : Bindings) (es : List LibEvent) → (after_events b es).me ≡ b.me
me-after b [] = refl
me-after b (e ∷ es) = me-after (after_event b e) es ∙ me-after-one b e

-- 3. The labels

all_in : (q : ℕ → Type 0) (xs : List NodeNo) → ((p : ℕ) → In (map (λ (x : NodeNo). x.0) xs) p → q p) → All (λ (x : NodeNo). q x.0) xs
all_in q [] h k d l = absurd (omega (arith, l))
all_in q (x ∷ xs) h zero d l = h x.0 (inl refl)
all_in q (x ∷ xs) h (suc k) d l = all_in q xs (λ p i. h p (inr i)) k d (omega (arith, l))

-- the table once what begins is offered, as if all labels that may be another's had been asked for
pub record IsOffered (p : Parts) (es : List LibEvent) (tick : ℕ) (table : LabelTable) : Type 0 where
  pub free : List NodeNo
  pub newly : List NodeNo
  pub free_are : numbers free ≡ flat_map (free_of p.lib p.labels.labels tick) (range_with_len 0 (length p.loopbacks.items))
  pub newly_are : map (λ (x : NodeNo). x.0) newly ≡ begun p.lib.bindings (after_events p.lib.bindings es)
  pub offered_is : table.labels ≡ offered (is_one_of free) p.labels.labels (numbers newly)
  pub me_is : table.me ≡ p.labels.me
  pub told_is : IsTold table.labels

module _ (p : Parts) (withdrawn : ℕ) (es : List LibEvent) (may : MayFollow p withdrawn es) where
  abbrev pub a : Bindings
  a = after_events p.lib.bindings es

  -- those that are offered newly are other nodes
  pub others_begin : (newly : List NodeNo) → map (λ (x : NodeNo). x.0) newly ≡ begun p.lib.bindings (after_events p.lib.bindings es) →
      All (λ (fec : NodeNo). (fec.0 < length p.labels.labels.fecs) × (fec.0 ≢ p.labels.me)) newly
  others_begin newly newly_are =
      all_in (λ k. (k < length p.labels.labels.fecs) × (k ≢ p.labels.me)) newly (λ k i.
      let f = begun_in p.lib.bindings (after_events p.lib.bindings es) k (subst (λ xs. In xs k) newly_are i) in (
        omega (arith, f.0, may.lib_nodes, may.labels.long),
        λ e. clash (sym (own_offered p.lib.bindings k (may.lib_me ∙ sym (e ∙ may.labels.me_is))) ∙ f.1),
      ))
    where
      clash : true ≡ false → ⊥
      clash g = cc

  module _ (tick : ℕ) (table : LabelTable) (is : IsOffered p es tick table) where
    pub labels_are : table.labels ≡ offered (is_free p.lib tick) p.labels.labels (begun p.lib.bindings (after_events p.lib.bindings es))
    labels_are =
        is.offered_is ∙ ap (offered (is_one_of is.free) p.labels.labels) is.newly_are
        ∙ offered_alike (is_one_of is.free) (is_free p.lib tick) p.labels.labels (begun p.lib.bindings (after_events p.lib.bindings es))
        (λ k h. found_free p.lib p.labels.labels tick (length p.loopbacks.items) is.free is.free_are k (omega (arith, h, may.labels.long)))

    not_free : (k : ℕ) → offers p.lib.bindings k ≡ true → is_free p.lib tick k ≡ false
    not_free k e = ap (λ x. not x && is_over p.lib.resting tick k) e

    pub have : HaveLabels p.me.0 (length p.loopbacks.items) (after_events p.lib.bindings es) table
    have = have_then p.me.0 (length p.loopbacks.items) p.lib.bindings (after_events p.lib.bindings es) (is_free p.lib tick) p.labels table may.labels
        may.lib_nodes
        not_free labels_are is.told_is is.me_is

    pub may_tell : MayTell (length p.loopbacks.items) p.me.0 table.labels withdrawn (tells p.lib.bindings es)
    may_tell =
        may-tells (length p.loopbacks.items) p.me.0 withdrawn table.labels p.lib.bindings es may.lib_nodes (may.may table.labels)
        (has_one p.me.0 (length p.loopbacks.items) p.lib.bindings (after_events p.lib.bindings es) (is_free p.lib tick) p.labels table may.labels may.lib_nodes
        not_free labels_are is.told_is is.me_is)

    pub none_of_sites : (fec label : ℕ) → label_now table.labels fec ≡ Some label → IsNotSite (use_of p.lfib label)
    none_of_sites =
        no_site p.me.0 (length p.loopbacks.items) p.lib.bindings (after_events p.lib.bindings es) (is_free p.lib tick) p.labels table may.labels may.lib_nodes
        not_free labels_are is.told_is is.me_is p.lfib may.table

    inside : (xs : List (Option ℕ)) (k label : ℕ) → slice_index_or xs k None ≡ Some label → k < length xs
    inside [] k label e = cc
    inside (x ∷ xs) zero label e = omega arith
    inside (x ∷ xs) (suc k) label e = omega (arith, inside xs k label e)

    module _ (count : ℕ) (count_is : count ≡ length p.loopbacks.items) (bindings : Bindings) (bindings_are : bindings ≡ after_events p.lib.bindings es)
        (uses : List (ℕ × Use))
        (set : (fec label : ℕ) → fec < count → label_now table.labels fec ≡ Some label →
        (InOrder 0 es → Apart fec (fecs_in es) → use_of p.lfib label ≡ fec_use (usable bindings fec)) →
        (opens_one es ≡ true → use_of p.lfib label ≡ fec_use (usable bindings fec)) → use_of uses label ≡ fec_use (usable bindings fec))
        (others : (label : ℕ) → ((fec : ℕ) → label_now table.labels fec ≢ Some label) → use_of uses label ≡ use_of p.lfib label) where
      same : (fec label : ℕ) → label_now table.labels fec ≡ Some label → usable (after_events p.lib.bindings es) fec ≡ usable p.lib.bindings fec →
          use_of p.lfib label ≡ fec_use (usable bindings fec)
      same fec label e stays =
          stood p.me.0 (length p.loopbacks.items) p.lib.bindings (after_events p.lib.bindings es) (is_free p.lib tick) p.labels table may.labels may.lib_nodes
          not_free labels_are is.told_is is.me_is p.lfib may.table fec label stays (me-after p.lib.bindings es) e
          ∙ ap (λ x. fec_use (usable x fec)) (sym bindings_are)

      ways : (fec label : ℕ) → label_now table.labels fec ≡ Some label → use_of uses label ≡ fec_use (usable (after_events p.lib.bindings es) fec)
      ways fec label e =
          set fec label (omega (arith, inside table.labels.fecs fec label e, have.long, count_is)) e
          (λ order apart. same fec label e (usable_stays p.lib.bindings es 0 order fec apart))
          (λ one. same fec label e (usable_opened p.lib.bindings es may.fit one fec))
          ∙ ap (λ x. fec_use (usable x fec)) bindings_are

      pub table_is : (label : ℕ) → IsUseOf (usable (after_events p.lib.bindings es)) (meaning_of table.labels label) (use_of uses label)
      table_is =
          table_then p.me.0 (length p.loopbacks.items) p.lib.bindings (after_events p.lib.bindings es) (is_free p.lib tick) p.labels table may.labels
          may.lib_nodes
          not_free labels_are is.told_is is.me_is p.lfib may.table uses ways others

      pub sites_are : (label : ℕ) → IsAttachment (meaning_of p.labels.labels label) →
          (meaning_of table.labels label ≡ meaning_of p.labels.labels label) × (use_of uses label ≡ use_of p.lfib label)
      sites_are =
          sites_stay p.me.0 (length p.loopbacks.items) p.lib.bindings (after_events p.lib.bindings es) (is_free p.lib tick) p.labels table may.labels
          may.lib_nodes
          not_free labels_are is.told_is is.me_is p.lfib may.table uses ways others
