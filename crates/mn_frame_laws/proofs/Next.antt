-- A site that is attached anew has the label past the greatest that its edge gave.
use Rattle.std.proofs.Common.{ℕ, ◌≡◌, ◌+◌, ◌≤◌, Bool, true, List, [], ◌∷◌, ◌++◌, refl, arith, sym, ◌∙◌, ap, subst}
use Rattle.std.specs.Prelude.{◌==◌, if◌then◌else◌}
use Rattle.mn_base.proofs.Bools.{same_test}
use Rattle.mn_base.specs.declared.numbers.SiteNo.{SiteNo}
use Rattle.mn_labels.specs.declared.meaning.Bind.{Bind}
use Rattle.mn_labels.specs.declared.meaning.Given.{Given}
use Rattle.mn_labels.specs.Labels.{Labels, greatest, attached}
use Rattle.mn_topo.specs.Network.{Network}
use Rattle.mn_topo.specs.declared.steps.Step.{Step}
use Rattle.mn_topo.specs.declared.steps.Step.TheVariants.{Attach}
use Rattle.mn_topo.specs.declared.steps.JournalEntry.{JournalEntry}
use Rattle.mn_ledger.specs.Places.{home_of}
use Rattle.mn_ledger.specs.World.{World}
use Rattle.mn_ledger.specs.Ledger.{start, world_of}
use Rattle.mn_reuse_laws.specs.Resting.{rested_from}
use Rattle.mn_reuse_laws.specs.Labels.{attached_in, labels_after}
use Rattle.mn_frame_laws.specs.Given.{label_given, attachment_of, given}
use Rattle.mn_frame_laws.specs.Numbers.{labels_of, GivesTheNext}
use Rattle.mn_frame_laws.proofs.Bridge.{given_fit}
use Rattle.mn_frame_laws.proofs.Labels.{Grows, label_stays, given_after, after_grows}
use Rattle.mn_frame_laws.proofs.Attaching.{newest, least}
use Rattle.mn_frame_laws.proofs.Anew.{never_given}

at_home : (t : Network) (w : World) (site : SiteNo) (labels : Labels) →
    attached_in t w (Attach site) (home_of t site.0) labels ≡ attached labels (attachment_of site.0 (w.config.attaches site.0 + 2))
at_home t w site labels = let here : (home_of t site.0 == home_of t site.0) ≡ true = same_test (home_of t site.0) in rw here refl

pub gives_the_next : GivesTheNext
unfolding labels_of
gives_the_next t es e site is =
    ap (λ (ls : Labels). label_given thing ls.given) (given_after t es e n)
    ∙ ap (label_given thing) more.1 ∙ label_stays thing (attached_in t w e.step n old).given more.0 (subst (λ x. 16 ≤ x) (sym its) (high (least old.given)))
    ∙ its
  where
    n : ℕ
    n = home_of t site.0

    w : World
    w = world_of t es

    old : Labels
    old = given t es n

    thing : Bind
    thing = attachment_of site.0 (w.config.attaches site.0 + 2)

    more : Grows (attached_in t w e.step n old) (labels_after t w e.tick e.step n (rested_from t n (start t) (λ fec. 0) es) old)
    more = after_grows t w e.tick e.step n (rested_from t n (start t) (λ fec. 0) es) old

    low : {a : ℕ} → a ≤ a
    low = omega arith

    high : {a : ℕ} → 15 ≤ a → 16 ≤ a + 1
    high h = omega (arith, h)

    its : label_given thing (attached_in t w e.step n old).given ≡ greatest old.given + 1
    its =
        ap (λ (ls : Labels). label_given thing ls.given) (ap (λ (s : Step). attached_in t w s n old) is ∙ at_home t w site old)
        ∙ newest thing old.given (greatest old.given + 1) (given_fit t es n).reserved (never_given t es n site.0 (w.config.attaches site.0 + 2) low)
