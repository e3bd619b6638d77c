-- With one entry more the table of attachments' labels is that of before, with one label more where a site is attached.
use Rattle.std.proofs.Common.{ℕ, ◌≡◌, ◌+◌, inl, inr, Bool, true, false, cond, List, [], ◌∷◌, ◌++◌, refl, sym, ◌∙◌, ap}
use Rattle.std.proofs.Math.Path.{fun_ext}
use Rattle.std.proofs.Common.{Option, Some, None}
use Rattle.std.specs.Prelude.{◌==◌, ◌&&◌, if◌then◌else◌, slice_set}
use Rattle.std.proofs.lemmas.Bool.Decides.{eqb_tells}
use Rattle.mn_base.specs.declared.numbers.SiteNo.{SiteNo}
use Rattle.mn_labels.specs.declared.meaning.Bind.{Bind}
use Rattle.mn_labels.specs.declared.meaning.Given.{Given}
use Rattle.mn_labels.specs.Labels.{Labels as NodeLabels, label_now, fec_of, greatest, attached, offered_one, offered_all, given_up, offered}
use Rattle.mn_labels.specs.Labels.{next_label as least_free}
use Rattle.mn_topo.specs.Network.{Network}
use Rattle.mn_topo.specs.declared.steps.Step.{Step}
use Rattle.mn_topo.specs.declared.steps.Step.TheVariants as step
use Rattle.mn_topo.specs.declared.steps.JournalEntry.{JournalEntry}
use Rattle.mn_ledger.specs.Places.{home_of}
use Rattle.mn_ledger.specs.World.{World}
use Rattle.mn_ledger.specs.Ledger.{start, world_of}
use Rattle.mn_ledger.proofs.GoingBy.{pair_here, pair_off}
use Rattle.mn_frame_laws.specs.Resting.{rested_from}
use Rattle.mn_frame_laws.specs.Labels.{is_free, new_offers, attached_in}
use Rattle.mn_frame_laws.specs.Given.{same_bind, label_given, attachment_of, given}
use Rattle.mn_frame_laws.specs.Numbers.{labels_of}
use Rattle.mn_frame_laws.proofs.Labels.{given_after}
use Rattle.mn_frame_laws.proofs.Next.{gives_the_next}
use Rattle.mn_routing_laws.specs.Labels.{labels_after, next_label}

-- 1. What is given to something else

given_other : (thing : Bind) (gs : List Given) (x : Given) → same_bind thing x.what ≡ false → label_given thing (gs ++ x ∷ []) ≡ label_given thing gs
given_other thing [] x other = ap (λ b. cond b x.label 0) other
given_other thing (g ∷ gs) x other = ap (cond (same_bind thing g.what) g.label) (given_other thing gs x other)

offers_one : (s k fec : ℕ) (labels : NodeLabels) → label_given (attachment_of s k) (offered_one labels fec).given ≡ label_given (attachment_of s k) labels.given
offers_one s k fec labels = by (label_now labels fec)
  where
    by : (o : Option ℕ) → label_given (attachment_of s k) (elim o as (λ _. NodeLabels) [
      | Some label ↦ labels
      | None ↦ record {
        given = labels.given ++ record { label = least_free labels; what = fec_of fec } ∷ [];
        fecs = slice_set labels.fecs fec (Some (least_free labels));
      }
    ]).given ≡ label_given (attachment_of s k) labels.given
    by (Some label) = refl
    by None = given_other (attachment_of s k) labels.given (record { label = least_free labels; what = fec_of fec }) refl

offers_all : (s k : ℕ) (fecs : List ℕ) (labels : NodeLabels) →
    label_given (attachment_of s k) (offered_all labels fecs).given ≡ label_given (attachment_of s k) labels.given
offers_all s k [] labels = refl
offers_all s k (fec ∷ fecs) labels = offers_all s k fecs (offered_one labels fec) ∙ offers_one s k fec labels

offers : (free : ℕ → Bool) (s k : ℕ) (fecs : List ℕ) (labels : NodeLabels) →
    label_given (attachment_of s k) (offered free labels fecs).given ≡ label_given (attachment_of s k) labels.given
offers free s k [] labels = refl
offers free s k (fec ∷ fecs) labels = offers_all s k (fec ∷ fecs) (given_up free labels)

attaches_other : (t : Network) (w : World) (x : SiteNo) (node s k : ℕ) (labels : NodeLabels) →
    same_bind (attachment_of s k) (attachment_of x.0 (w.config.attaches x.0 + 2)) ≡ false →
    label_given (attachment_of s k) (attached_in t w (step.Attach x) node labels).given ≡ label_given (attachment_of s k) labels.given
attaches_other t w x node s k labels other = by (home_of t x.0 == node)
  where
    by : (b : Bool) → label_given (attachment_of s k) (if b then attached labels (attachment_of x.0 (w.config.attaches x.0 + 2)) else labels).given
        ≡ label_given (attachment_of s k) labels.given
    by true = given_other (attachment_of s k) labels.given
        (record { label = greatest labels.given + 1; what = attachment_of x.0 (w.config.attaches x.0 + 2) }) other
    by false = refl

-- 2. The table

module _ (t : Network) (es : List JournalEntry) (e : JournalEntry) where
  abbrev w : World
  w = world_of t es

  -- the step alone decides
  by_step : (s k : ℕ) → labels_of t (es ++ e ∷ []) s k ≡ label_given (attachment_of s k) (attached_in t w e.step (home_of t s) (given t es (home_of t s))).given
  unfolding labels_of
  by_step s k =
      ap (λ (ls : NodeLabels). label_given (attachment_of s k) ls.given) (given_after t es e (home_of t s))
      ∙ offers (is_free t w (home_of t s) (rested_from t (home_of t s) (start t) (λ fec. 0) es) e.tick) s k (new_offers t w e.step (home_of t s))
      (attached_in t w e.step (home_of t s) (given t es (home_of t s)))

  at_other : (x : SiteNo) (s k : ℕ) → e.step ≡ step.Attach x → same_bind (attachment_of s k) (attachment_of x.0 (w.config.attaches x.0 + 2)) ≡ false →
      labels_of t (es ++ e ∷ []) s k ≡ labels_of t es s k
  unfolding labels_of
  at_other x s k is other =
      by_step s k
      ∙ ap (λ (done : Step). label_given (attachment_of s k) (attached_in t w done (home_of t s) (given t es (home_of t s))).given) is
      ∙ attaches_other t w x (home_of t s) s k (given t es (home_of t s)) other

  at_all : (done : Step) → e.step ≡ done → (s k : ℕ) → labels_of t (es ++ e ∷ []) s k ≡ labels_after (next_label t es) w.config (labels_of t es) done s k
  unfolding labels_of
  at_all (step.Attach x) is s k = elim (eqb_tells s x.0) [
    | inr d ↦ at_other x s k is (ap (λ b. b && (k == w.config.attaches x.0 + 2)) d.0)
        ∙ sym (pair_off (labels_of t es) x.0 (w.config.attaches x.0 + 2) (next_label t es x.0) s k (inl d.1))
    | inl q ↦ elim (eqb_tells k (w.config.attaches x.0 + 2)) [
      | inr d ↦ at_other x s k is (ap (λ b. (s == x.0) && b) d.0 ∙ off (s == x.0))
          ∙ sym (pair_off (labels_of t es) x.0 (w.config.attaches x.0 + 2) (next_label t es x.0) s k (inr d.1))
      | inl f ↦ ap (λ n. labels_of t (es ++ e ∷ []) n k) q.1 ∙ ap (labels_of t (es ++ e ∷ []) x.0) f.1
          ∙ gives_the_next t es e x is
          ∙ sym (ap (λ n. labels_after (next_label t es) w.config (labels_of t es) (step.Attach x) n k) q.1
          ∙ ap (labels_after (next_label t es) w.config (labels_of t es) (step.Attach x) x.0) f.1
          ∙ pair_here (labels_of t es) x.0 (w.config.attaches x.0 + 2) (next_label t es x.0))
    ]
  ]
    where
      off : (b : Bool) → (b && false) ≡ false
      off true = refl
      off false = refl
  at_all _ is s k =
      by_step s k ∙ ap (λ (done : Step). label_given (attachment_of s k) (attached_in t w done (home_of t s) (given t es (home_of t s))).given) is

pub table_grows : (t : Network) (es : List JournalEntry) (e : JournalEntry) →
    labels_of t (es ++ e ∷ []) ≡ labels_after (next_label t es) (world_of t es).config (labels_of t es) e.step
table_grows t es e = fun_ext (λ s. fun_ext (λ k. at_all t es e e.step refl s k))
