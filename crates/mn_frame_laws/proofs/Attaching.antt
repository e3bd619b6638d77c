-- A table that stands for the world goes on to stand for it as a site is attached or detached.
use Rattle.std.proofs.Common.{ℕ, ◌≡◌, ◌≢◌, ◌+◌, ◌<◌, ◌≤◌, ◌⊎◌, inl, inr, Bool, true, false, cond, List, [], ◌∷◌, ◌++◌, refl, arith, sym, ◌∙◌, ap}
use Rattle.std.proofs.Common.{subst, Some, None, eq-eqb, eqb-true}
use Rattle.std.specs.Prelude.{◌==◌, ◌&&◌, Option, max, if◌then◌else◌}
use Rattle.std.proofs.Math.Nat.{le-max_right}
use Rattle.std.proofs.lemmas.Bool.Decides.{nat_tests, eqb_tells}
use Rattle.mn_base.proofs.Bools.{no as clash, and_parts as both}
use Rattle.mn_base.proofs.Members.{In, contained_in}
use Rattle.mn_labels.specs.declared.meaning.Bind.{Bind}
use Rattle.mn_labels.specs.declared.meaning.Bind.TheVariants.{Fec, Site}
use Rattle.mn_labels.specs.declared.meaning.Given.{Given}
use Rattle.mn_labels.specs.Labels.{greatest, attached}
use Rattle.mn_lfib.specs.declared.answer.Use.{Use}
use Rattle.mn_lfib.specs.declared.answer.Use.TheVariants as label_of
use Rattle.mn_lfib.specs.Uses.{use_of, fec_use}
use Rattle.mn_topo.specs.Network.{Network}
use Rattle.mn_ledger.specs.World.{World}
use Rattle.mn_ledger.specs.Packets.{is_attachment}
use Rattle.mn_reuse_laws.proofs.Labelling.{bounded}
use Rattle.mn_frame_laws.specs.Given.{Labelling, HasLabel, implicit_null, same_bind, label_given, label_in, label_for, fec_of, attachment_of}
use Rattle.mn_frame_laws.specs.Tables.{TableStands, next_over, site_entry}
use Rattle.mn_frame_laws.specs.Attachments.{Attaches, Detaches, FollowsAttach, FollowsDetach}
use Rattle.mn_frame_laws.proofs.Labels.{label_stays, given_at, same_is, same_itself}
use Rattle.mn_frame_laws.proofs.Anew.{site_of, number_of}

-- what has a label once one more is given had it, or is given it
appended : (thing : Bind) (gs : List Given) (x : Given) → 16 ≤ label_given thing (gs ++ x ∷ []) →
    (16 ≤ label_given thing gs) ⊎ ((same_bind thing x.what ≡ true) × (label_given thing (gs ++ x ∷ []) ≡ x.label))
appended thing [] x h = by (same_bind thing x.what) refl h
  where
    none : 16 ≤ 0 → ⊥
    none y = omega (arith, y)

    by : (b : Bool) → same_bind thing x.what ≡ b → 16 ≤ cond b x.label 0 → (16 ≤ 0) ⊎ ((b ≡ true) × (cond b x.label 0 ≡ x.label))
    by true e y = inr (refl, refl)
    by false e y = absurd (none y)
appended thing (g ∷ gs) x h = by (same_bind thing g.what) h (appended thing gs x)
  where
    by : (b : Bool) → 16 ≤ cond b g.label (label_given thing (gs ++ x ∷ [])) →
        (16 ≤ label_given thing (gs ++ x ∷ []) →
        (16 ≤ label_given thing gs) ⊎ ((same_bind thing x.what ≡ true) × (label_given thing (gs ++ x ∷ []) ≡ x.label))) →
        (16 ≤ cond b g.label (label_given thing gs))
        ⊎ ((same_bind thing x.what ≡ true) × (cond b g.label (label_given thing (gs ++ x ∷ [])) ≡ x.label))
    by true y more = inl y
    by false y more = more y

-- what had none is given the last
pub newest : (thing : Bind) (gs : List Given) (label : ℕ) → ((g : Given) → In gs g → 16 ≤ g.label) → (16 ≤ label_given thing gs → ⊥) →
    label_given thing (gs ++ record { label = label; what = thing } ∷ []) ≡ label
newest thing [] label low new = ap (λ b. cond b label 0) (same_itself thing)
newest thing (g ∷ gs) label low new = by (same_bind thing g.what) new (newest thing gs label (λ x i. low x (inr i)))
  where
    by : (b : Bool) → (16 ≤ cond b g.label (label_given thing gs) → ⊥) →
        ((16 ≤ label_given thing gs → ⊥) → label_given thing (gs ++ record { label = label; what = thing } ∷ []) ≡ label) →
        cond b g.label (label_given thing (gs ++ record { label = label; what = thing } ∷ [])) ≡ label
    by true h more = absurd (h (low g (inl refl)))
    by false h more = more h

pub least : (gs : List Given) → 15 ≤ greatest gs
least [] = omega arith
least (g ∷ gs) = steps (least gs) (le-max_right g.label (greatest gs))
  where
    steps : {a b c : ℕ} → a ≤ b → b ≤ c → a ≤ c
    steps h k = omega (arith, h, k)

next_apart : {a b : ℕ} → a ≤ b → a ≢ b + 1
next_apart h e = omega (arith, h, e)

module _ (t : Network) (g later : Labelling) (w next : World) (node s number : ℕ) (uses after : List (ℕ × Use))
    (h : Attaches t g later w next node s number uses after) (stands : TableStands t g w node uses) where
  same_fec : (n edge : ℕ) → label_in (later n) (fec_of edge) ≡ label_in (g n) (fec_of edge)
  same_fec n edge = elim (eqb_tells n node) [
    | inl q ↦ subst (λ m. label_in (later m) (fec_of edge) ≡ label_in (g m) (fec_of edge)) (sym q.1) (ap (λ ls. label_in ls (fec_of edge)) h.given)
    | inr q ↦ ap (λ ls. label_in ls (fec_of edge)) (h.elsewhere n q.1)
  ]

  same_next : (edge : ℕ) (found : Option (ℕ × ℕ)) → next_over later edge found ≡ next_over g edge found
  same_next edge None = refl
  same_next edge (Some hop) = ap (λ l. Some (record { 0 = hop.0 }, if hop.0 == edge then implicit_null else l)) (same_fec hop.0 edge)

  same_site : (site k : ℕ) → HasLabel (g node) (attachment_of site k) → label_in (later node) (attachment_of site k) ≡ label_in (g node) (attachment_of site k)
  same_site site k there =
      ap (λ ls. label_in ls (attachment_of site k)) h.given ∙ label_stays (attachment_of site k) (g node).given _ there

  within : (site k : ℕ) → HasLabel (g node) (attachment_of site k) → label_in (g node) (attachment_of site k) ≤ greatest (g node).given
  within site k there = bounded (g node).given _ (given_at (attachment_of site k) (g node).given there)

  old_site : (site k : ℕ) → HasLabel (g node) (attachment_of site k) → is_attachment (next.config.attached site) k ≡ is_attachment (w.config.attached site) k
  old_site site k there = elim (eqb_tells site s) [
    | inl q ↦ (let apart : (number == k) ≡ false = by (number == k) refl q.1 in
        ap (λ f. is_attachment (f site) k) h.attached ∙ rw q.0 apart
        ∙ sym (ap (λ x. is_attachment (w.config.attached x) k) q.1 ∙ ap (λ a. is_attachment a k) h.detached))
    | inr q ↦ ap (λ f. is_attachment (f site) k) h.attached ∙ rw q.0 refl
  ]
    where
      by : (b : Bool) → (number == k) ≡ b → site ≡ s → (number == k) ≡ false
      by false e same = e
      by true e same = absurd (h.fresh (subst (λ n. HasLabel (g node) (attachment_of s n)) (sym (eqb-true number k e))
          (subst (λ x. HasLabel (g node) (attachment_of x k)) same there)))

  old_sites : (site k : ℕ) → HasLabel (g node) (attachment_of site k) →
      use_of after (label_in (later node) (attachment_of site k)) ≡ Some (site_entry next site k)
  old_sites site k there =
      ap (use_of after) (same_site site k there)
      ∙ h.others (label_in (g node) (attachment_of site k)) (next_apart (within site k there))
      ∙ stands.sites site k there
      ∙ ap (λ b. Some (if b then label_of.Site (record { 0 = site }) else label_of.Ended)) (sym (old_site site k there))

  new_site : use_of after (greatest (g node).given + 1) ≡ Some (site_entry next s number)
  new_site =
      let one : (s == s) ≡ true = eq-eqb s s refl in
      let two : (number == number) ≡ true = eq-eqb number number refl in
      let present : is_attachment (next.config.attached s) number ≡ true = ap (λ f. is_attachment (f s) number) h.attached ∙ rw one two in
      h.set ∙ sym (ap (λ b. Some (if b then label_of.Site (record { 0 = s }) else label_of.Ended)) present)

  any_site : (site k : ℕ) → HasLabel (later node) (attachment_of site k) →
      use_of after (label_in (later node) (attachment_of site k)) ≡ Some (site_entry next site k)
  any_site site k there =
      elim (appended (attachment_of site k) (g node).given (record { label = greatest (g node).given + 1; what = attachment_of s number })
      (subst (λ ls. HasLabel ls (attachment_of site k)) h.given there)) [
        | inl had ↦ old_sites site k had
        | inr is ↦ (let e : attachment_of s number ≡ attachment_of site k = same_is (attachment_of site k) (attachment_of s number) is.0 in
            ap (use_of after) (ap (λ ls. label_in ls (attachment_of site k)) h.given ∙ is.1)
            ∙ subst (λ x. use_of after (greatest (g node).given + 1) ≡ Some (site_entry next x k)) (ap site_of e)
            (subst (λ n. use_of after (greatest (g node).given + 1) ≡ Some (site_entry next s n)) (ap number_of e) new_site))
      ]

  its_label : label_in (later node) (attachment_of s number) ≡ greatest (g node).given + 1
  its_label =
      ap (λ ls. label_in ls (attachment_of s number)) h.given
      ∙ newest (attachment_of s number) (g node).given (greatest (g node).given + 1) (λ x i. h.low x (contained_in (g node).given x i)) h.fresh

  no_other : (label : ℕ) → ((thing : Bind) → HasLabel (later node) thing → label_in (later node) thing ≢ label) → use_of after label ≡ None
  no_other label none =
      h.others label (λ e. none (attachment_of s number) (subst (λ n. 16 ≤ n) (sym its_label) (high (least (g node).given))) (its_label ∙ sym e))
      ∙ stands.others label (λ thing had same. none thing (now thing had).0 ((now thing had).1 ∙ same))
    where
      high : {a : ℕ} → 15 ≤ a → 16 ≤ a + 1
      high x = omega (arith, x)

      now : (thing : Bind) → HasLabel (g node) thing → HasLabel (later node) thing × (label_in (later node) thing ≡ label_in (g node) thing)
      now (Fec edge) had = (subst (λ n. 16 ≤ n) (sym (same_fec node edge.0)) had, same_fec node edge.0)
      now (Site site k) had = (subst (λ n. 16 ≤ n) (sym (same_site site.0 k had)) had, same_site site.0 k had)

  pub attach_stands : TableStands t later next node after
  attach_stands = record {
    fecs = λ edge there apart had. ap (use_of after) (same_fec node edge)
        ∙ h.others (label_in (g node) (fec_of edge)) (next_apart (h.fecs edge))
        ∙ stands.fecs edge there apart (subst (λ n. 16 ≤ n) (same_fec node edge) had)
        ∙ ap fec_use (sym (same_next edge _) ∙ ap (next_over later edge) (sym (h.sends edge)));
    sites = any_site;
    reserved = λ label low. h.others label (λ e. reserved low (least (g node).given) e) ∙ stands.reserved label low;
    others = no_other;
  }
    where
      reserved : {a b : ℕ} → a < 16 → 15 ≤ b → a ≡ b + 1 → ⊥
      reserved x y e = omega (arith, x, y, e)

module _ (t : Network) (g : Labelling) (w next : World) (node s number : ℕ) (uses after : List (ℕ × Use)) (h : Detaches t g w next node s number uses after)
    (stands : TableStands t g w node uses) where
  fec_apart : (edge : ℕ) → HasLabel (g node) (fec_of edge) → label_in (g node) (fec_of edge) ≢ label_in (g node) (attachment_of s number)
  fec_apart edge there same = let no : fec_of edge ≡ attachment_of s number → ⊥ = (λ e. cc) in
      no (h.told (fec_of edge) (attachment_of s number) there h.labelled same)

  ended : (site k : ℕ) (b : Bool) → ((site == s) && (k == number)) ≡ b → HasLabel (g node) (attachment_of site k) →
      use_of after (label_in (g node) (attachment_of site k)) ≡ Some (site_entry next site k)
  ended site k true e there =
      let parts = both _ _ e in
      let gone : is_attachment (next.config.attached s) number ≡ false =
      ap (λ f. is_attachment (f s) number) h.detached ∙ (let one : (s == s) ≡ true = eq-eqb s s refl in rw one refl) in
      let here : use_of after (label_in (g node) (attachment_of s number)) ≡ Some (site_entry next s number) =
      h.set ∙ sym (ap (λ b. Some (if b then label_of.Site (record { 0 = s }) else label_of.Ended)) gone) in
      subst (λ x. use_of after (label_in (g node) (attachment_of x k)) ≡ Some (site_entry next x k)) (sym (eqb-true site s parts.0))
      (subst (λ n. use_of after (label_in (g node) (attachment_of s n)) ≡ Some (site_entry next s n)) (sym (eqb-true k number parts.1)) here)
  ended site k false e there =
      let apart : label_in (g node) (attachment_of site k) ≢ label_in (g node) (attachment_of s number) =
      (λ same. let one = h.told (attachment_of site k) (attachment_of s number) there h.labelled same in
      let both_same : ((site == s) && (k == number)) ≡ true =
      (let a : (site == s) ≡ true = eq-eqb site s (ap site_of one) in let b : (k == number) ≡ true = eq-eqb k number (ap number_of one) in rw a b) in
      clash (sym e ∙ both_same)) in
      let same : is_attachment (next.config.attached site) k ≡ is_attachment (w.config.attached site) k = elim (eqb_tells site s) [
        | inl q ↦ (let other : (number == k) ≡ false = (let differ : (k == number) ≡ false = rw q.0 at e in grind (arith, nat_tests, differ)) in
            ap (λ f. is_attachment (f site) k) h.detached
            ∙ rw q.0 (sym (ap (λ x. is_attachment (w.config.attached x) k) q.1 ∙ ap (λ a. is_attachment a k) h.attached ∙ other)))
        | inr q ↦ ap (λ f. is_attachment (f site) k) h.detached ∙ rw q.0 refl
      ] in
      h.others (label_in (g node) (attachment_of site k)) apart ∙ stands.sites site k there
      ∙ ap (λ b. Some (if b then label_of.Site (record { 0 = site }) else label_of.Ended)) (sym same)

  pub detach_stands : TableStands t g next node after
  detach_stands = record {
    fecs = λ edge there apart had. h.others (label_in (g node) (fec_of edge)) (fec_apart edge had) ∙ stands.fecs edge there apart had
        ∙ ap fec_use (ap (next_over g edge) (sym (h.sends edge)));
    sites = λ site k there. ended site k ((site == s) && (k == number)) refl there;
    reserved = λ label low. h.others label (λ e. below low h.labelled e) ∙ stands.reserved label low;
    others = λ label none. h.others label (λ e. none (attachment_of s number) h.labelled (sym e)) ∙ stands.others label none;
  }
    where
      below : {a b : ℕ} → a < 16 → 16 ≤ b → a ≡ b → ⊥
      below x y e = omega (arith, x, y, e)

pub follows_attach : FollowsAttach
follows_attach t g later w next node s number uses after h stands = attach_stands t g later w next node s number uses after h stands

pub follows_detach : FollowsDetach
follows_detach t g w next node s number uses after h stands = detach_stands t g w next node s number uses after h stands
