-- A table that stands for the world does with every frame what is shown.
use Rattle.std.proofs.Common.{ℕ, ◌≡◌, ◌-◌, ◌<◌, ◌≤◌, List, [], ◌∷◌, length, refl, sym, ◌∙◌, ap, subst, Option, Some, None}
use Rattle.std.specs.Prelude.{nat_le, if◌then◌else◌, unwrap_or}
use Rattle.mn_base.proofs.Members.{in_contained}
use Rattle.mn_drops.specs.declared.drops.Rule.TheVariants.{TtlExpired, NoEntry}
use Rattle.mn_labels.specs.declared.meaning.Bind.{Bind}
use Rattle.mn_labels.specs.declared.meaning.Bind.TheVariants.{Fec, Site}
use Rattle.mn_stack.specs.declared.message.Entry.{Entry}
use Rattle.mn_stack.specs.Labelled.{Labelled}
use Rattle.mn_lfib.specs.declared.answer.Use.{Use}
use Rattle.mn_lfib.specs.declared.answer.Forwarded.TheVariants.{Drop}
use Rattle.mn_lfib.specs.Uses.{use_of}
use Rattle.mn_lfib.specs.Forwarding.{by_use, by_top, forwarded}
use Rattle.mn_topo.specs.Network.{Network}
use Rattle.mn_topo.specs.declared.steps.JournalEntry.{JournalEntry}
use Rattle.mn_ledger.specs.Ledger.{world_of}
use Rattle.mn_labels.specs.declared.meaning.Given.{Given}
use Rattle.mn_labels.specs.Labels.{Labels, label_now, Means, meaning_of}
use Rattle.mn_frame_laws.specs.Given.{given, label_in, HasLabel}
use Rattle.mn_frame_laws.specs.Tables.{TableStands}
use Rattle.mn_output_laws.specs.ShownFrames.{leads, use_at, shown, shown_by}
use Rattle.mn_frame_laws.proofs.Bridge.{given_fit}
use Rattle.mn_frame_laws.proofs.Labels.{is_meant, meant, has_means}
use Rattle.mn_frame_laws.proofs.Ranges.{given_inside, own_has_none}
use Rattle.mn_output_laws.proofs.Apart.{has_its_label}

module _ (t : Network) (es : List JournalEntry) (node : ℕ) (uses : List (ℕ × Use)) (there : node < length t.loopbacks)
    (h : TableStands t (given t es) (world_of t es) node uses) where
  -- what a label means has that label
  has_it : (label : ℕ) (thing : Bind) → Means (given t es node) label thing → HasLabel (given t es node) thing × (label_in (given t es node) thing ≡ label)
  has_it label (Fec edge) means =
      let is : label_in (given t es node) (Fec edge) ≡ label = ap (λ o. unwrap_or o 0) means in
      (subst (λ n. 16 ≤ n) (sym is) ((given_fit t es node).reserved _ ((given_fit t es node).given edge.0 label means)), is)
  has_it label (Site site number) means =
      let i = in_contained (given t es node).given (record { label = label; what = Site site number }) means in
      let is : label_in (given t es node) (Site site number) ≡ label = has_its_label t es node label site.0 number i in
      (subst (λ n. 16 ≤ n) (sym is) ((given_fit t es node).reserved _ i), is)

  by_bind : (label : ℕ) (thing : Bind) → Means (given t es node) label thing → HasLabel (given t es node) thing →
      use_of uses (label_in (given t es node) thing) ≡ leads t (given t es) (world_of t es) node (Some thing)
  by_bind label (Fec edge) means had =
      h.fecs edge.0 (given_inside t es node edge.0 label means)
      (λ e. own_has_none t es node label (subst (λ n. label_now (given t es node) n ≡ Some label) e means)) had
  by_bind label (Site site number) means had = h.sites site.0 number had

  pub use_is : (label : ℕ) → use_of uses label ≡ use_at t es node label
  use_is label = by (meaning_of (given t es node) label) refl
    where
      by : (o : Option Bind) → meaning_of (given t es node) label ≡ o → use_of uses label ≡ leads t (given t es) (world_of t es) node o
      by None e = h.others label (λ thing had same. nobodys (sym e
          ∙ is_meant (given t es node) (given_fit t es node) label thing
          (subst (λ n. Means (given t es node) n thing) same (has_means (given t es node) thing had))))
        where
          nobodys : {thing : Bind} → None ≡ Some thing → ⊥
          nobodys q = cc
      by (Some thing) e =
          let means = meant (given t es node) label thing e in
          let has = has_it label thing means in
          ap (use_of uses) (sym has.1) ∙ by_bind label thing means has.0

  by_entries : (entries : List Entry) (frame : Labelled) →
      elim entries [ [] ↦ (Drop NoEntry, frame) | top ∷ below ↦ by_top top uses frame ] ≡ shown_by t es node entries frame
  by_entries [] frame = refl
  by_entries (top ∷ below) frame =
      ap (λ u. if nat_le top.ttl 1 then (Drop TtlExpired, frame) else by_use u top.bottom (top.ttl - 1) frame) (use_is top.label)

  pub told : (frame : Labelled) → forwarded uses frame ≡ shown t es node frame
  unfolding forwarded
  told frame = by_entries frame.entries frame

pub is_told : (t : Network) (es : List JournalEntry) (node : ℕ) (uses : List (ℕ × Use)) → node < length t.loopbacks →
    TableStands t (given t es) (world_of t es) node uses → (frame : Labelled) → forwarded uses frame ≡ shown t es node frame
is_told t es node uses there h frame = told t es node uses there h frame
