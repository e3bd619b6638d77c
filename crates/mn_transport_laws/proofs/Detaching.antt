-- A site is detached: the transport goes on to stand for the journal.
use Rattle.std.proofs.Common.{ℕ, ◌≡◌, ◌≢◌, ◌<◌, ◌^◌, true, false, List, length, refl, sym, ◌∙◌, ap, subst, Option, None, Some, length-set}
use Rattle.std.specs.Prelude.{if◌then◌else◌, is_none, slice_get, slice_set, slice_index}
use Rattle.std.proofs.lemmas.Option.{same_Some, slice_get_within}
use Rattle.mn_base.specs.declared.numbers.SiteNo.{SiteNo}
use Rattle.mn_labels.specs.declared.meaning.Bind.{Bind}
use Rattle.mn_labels.specs.Labels.{Labels, greatest, meaning_of}
use Rattle.mn_lfib.specs.declared.answer.Use.{Use}
use Rattle.mn_lfib.specs.declared.answer.Use.TheVariants as used_for
use Rattle.mn_lfib.specs.Uses.{use_of, fec_use}
use Rattle.mn_topo.specs.Network.{Network, wiring_of}
use Rattle.mn_topo.specs.Lawful.{IsLawful}
use Rattle.mn_topo.specs.declared.steps.Step.TheVariants as step
use Rattle.mn_topo.specs.declared.steps.JournalEntry.{JournalEntry}
use Rattle.mn_ledger.specs.Places.{home_of}
use Rattle.mn_ledger.specs.World.{World}
use Rattle.mn_ledger.specs.Transport.{knowledge_of, sessions_after}
use Rattle.mn_ledger.specs.Packets.{is_attachment}
use Rattle.mn_ledger.specs.Ledger.{after, world_of}
use Rattle.mn_ledger.specs.Lawful.{IsLawfulJournal}
use Rattle.mn_ledger.proofs.GoingBy.{put_here, put_off}
use Rattle.mn_reuse_laws.specs.Relabelled.{node_with}
use Rattle.mn_reuse_laws.specs.Resting.{rested_of}
use Rattle.mn_frame_laws.specs.Given.{Labelling, HasLabel, given, label_in, label_at, attachment_of}
use Rattle.mn_frame_laws.specs.Tables.{TableStands}
use Rattle.mn_frame_laws.proofs.Bridge.{given_fit}
use Rattle.mn_frame_laws.proofs.Labels.{is_meant, has_means}
use Rattle.mn_frame_laws.proofs.Attaching.{follows_detach}
use Rattle.mn_frame_laws.proofs.Anew.{gives_to_each, gives_to_no_other}
use Rattle.mn_timetable_laws.specs.Steps.{pushed}
use Rattle.mn_lsr.specs.Standing.{Standing, IsAttachment}
use Rattle.mn_transport_laws.specs.Carried.{Carried}
use Rattle.mn_transport_laws.specs.Resting.{IsResting}
use Rattle.mn_transport_laws.specs.Stands.{own_of, IsNode, StandsFor, IsTransport}
use Rattle.mn_transport_laws.proofs.Attachments.{present}
use Rattle.mn_transport_laws.proofs.Lists.{each-set}
use Rattle.mn_transport_laws.proofs.Others.{Keeps, world-then, given-same, resting-same, ways-same}

-- what the edge's part of it is: the label's use has ended
pub record IsDetached (was now : Standing) (label : ℕ) : Type 0 where
  pub ended : use_of now.uses label ≡ Some used_for.Ended
  pub others : (other : ℕ) → other ≢ label → use_of now.uses other ≡ use_of was.uses other
  pub kept : now ≡ record was { uses = now.uses }

some_there : (o : Option ℕ) → is_none o ≡ false → (n : ℕ) × (o ≡ Some n)
some_there None e = absurd (let no : true ≡ false → ⊥ = (λ q. cc) in no e)
some_there (Some n) e = (n, refl)

module _ (t : Network) (lawful : IsLawful t) (es : List JournalEntry) (inputs : List (List ℕ)) (by_law : IsLawfulJournal t es inputs) (tick : ℕ)
    (s : SiteNo) where
  abbrev w : World
  w = world_of t es

  abbrev v : World
  v = after t w (step.Detach s)

  abbrev g : Labelling
  g = given t es

  abbrev home : ℕ
  home = home_of t s.0

  keeps : Keeps t w (step.Detach s)
  unfolding sessions_after
  keeps = record { views = refl; sessions = refl; ups = refl; ldp = refl; node = λ n. refl; brings = λ n p. refl }

  attached-other : (site : ℕ) → site ≢ s.0 → v.config.attached site ≡ w.config.attached site
  attached-other site apart = put_off w.config.attached s.0 None site apart

  -- all but its table
  node-then : (n : ℕ) (x now : Standing) → IsNode t g (rested_of t es) w n x → now ≡ record x { uses = now.uses } → TableStands t g v n now.uses →
      IsNode t g (rested_of t (pushed es tick (step.Detach s))) v n now
  node-then n x now is kept table = record {
    wiring = ap (λ y. y.wiring) kept ∙ is.wiring;
    node_is = ap (λ y. y.node) kept ∙ is.node_is ∙ ap (node_with (wiring_of t) (own_of g)) (sym (keeps.node n));
    labels = ap (λ y. y.labels) kept ∙ is.labels;
    in_range = subst (λ (y : Standing). greatest y.labels.given < 2 ^ 20) (sym kept) is.in_range;
    resting = resting-same t es tick (step.Detach s) keeps n now.resting
        (subst (IsResting t w (rested_of t es n) n) (sym (ap (λ y. y.resting) kept)) is.resting);
    table = table;
    works = ap (λ y. y.failed) kept ∙ is.works;
  }

  table-other : (n : ℕ) (uses : List (ℕ × Use)) → n < length t.loopbacks → n ≢ home → TableStands t g w n uses → TableStands t g v n uses
  table-other n uses below apart is = record {
    fecs = λ edge under d has. is.fecs edge under d has ∙ ap fec_use (ways-same t lawful es (step.Detach s) keeps g n edge below under d);
    sites = λ site attachment has.
        let off : site ≢ s.0 = λ e. apart (sym (gives_to_no_other t es inputs n site attachment by_law has).home ∙ ap (home_of t) e) in
        is.sites site attachment has
        ∙ sym (ap (λ (o : Option ℕ). let u : Option Use =
        Some (if is_attachment o attachment then used_for.Site (record { 0 = site }) else used_for.Ended) in u) (attached-other site off));
    reserved = is.reserved;
    others = is.others;
  }

  -- no label means two things
  told : (one other : Bind) → HasLabel (g home) one → HasLabel (g home) other → label_in (g home) one ≡ label_in (g home) other → one ≡ other
  told one other has had same =
      same_Some one other (sym (is_meant (g home) (given_fit t es home) (label_in (g home) one) one (has_means (g home) one has))
      ∙ ap (meaning_of (g home)) same
      ∙ is_meant (g home) (given_fit t es home) (label_in (g home) other) other (has_means (g home) other had))

  module _ (old : Carried) (stands : IsTransport t es old) (there : s.0 < length t.sites) (attached : is_none (w.config.attached s.0) ≡ false)
      (was : Standing) (here : slice_get old.nodes home ≡ Some was) where
    abbrev number : ℕ
    number = (some_there (w.config.attached s.0) attached).0

    at : w.config.attached s.0 ≡ Some number
    at = (some_there (w.config.attached s.0) attached).1

    labelled : HasLabel (g home) (attachment_of s.0 number)
    labelled = gives_to_each t es s.0 number (present t es s.0 number there at)

    label-is : slice_index old.labels s.0 ≡ label_at g home s.0 number
    label-is = stands.sites s.0 number there at

    -- the label is that of an attachment
    pub may-detach : IsAttachment (meaning_of was.labels (slice_index old.labels s.0))
    may-detach =
        subst IsAttachment
        (sym (ap (λ (labels : Labels). meaning_of labels (slice_index old.labels s.0)) (stands.nodes home was here).labels ∙ ap (meaning_of (g home)) label-is
        ∙ is_meant (g home) (given_fit t es home) (label_in (g home) (attachment_of s.0 number)) (attachment_of s.0 number)
        (has_means (g home) (attachment_of s.0 number) labelled))) tt

    module _ (now : Standing) (did : IsDetached was now (slice_index old.labels s.0)) where
      table-then : TableStands t g v home now.uses
      unfolding sessions_after knowledge_of
      table-then = follows_detach t g w v home s.0 number was.uses now.uses (record {
        labelled = labelled;
        told = told;
        attached = at;
        detached = refl;
        sends = λ edge. refl;
        set = ap (use_of now.uses) (sym label-is) ∙ did.ended;
        others = λ other apart. did.others other (λ e. apart (e ∙ label-is));
      }) (stands.nodes home was here).table

      off-site : (site attachment : ℕ) → v.config.attached site ≡ Some attachment → site ≢ s.0
      off-site site attachment e q = none (sym (put_here w.config.attached s.0 None) ∙ ap v.config.attached (sym q) ∙ e)
        where
          none : None ≡ Some attachment → ⊥
          none e = cc

      stands-then : StandsFor t g (rested_of t (pushed es tick (step.Detach s))) v (record old { nodes = slice_set old.nodes home now })
      unfolding sessions_after
      stands-then = record {
        each = length-set old.nodes home now ∙ stands.each;
        nodes = each-set (IsNode t g (rested_of t (pushed es tick (step.Detach s))) v) old.nodes home was now here
            (node-then home was now (stands.nodes home was here) did.kept table-then)
            (λ n x apart is.
            let below : n < length t.loopbacks = subst (λ m. n < m) stands.each (slice_get_within old.nodes n x is) in
            node-then n x x (stands.nodes n x is) refl (table-other n x.uses below apart (stands.nodes n x is).table));
        changes = stands.changes;
        up = stands.up;
        switches = stands.switches;
        each_site = stands.each_site;
        sites = λ site attachment h e. stands.sites site attachment h (sym (attached-other site (off-site site attachment e)) ∙ e);
        notices = stands.notices;
        messages = stands.messages;
      }

      pub detach-goes : IsTransport t (pushed es tick (step.Detach s)) (record old { nodes = slice_set old.nodes home now })
      detach-goes =
          subst (λ x. StandsFor t (given t (pushed es tick (step.Detach s))) (rested_of t (pushed es tick (step.Detach s))) x
          (record old { nodes = slice_set old.nodes home now })) (sym (world-then t es tick (step.Detach s)))
          (subst (λ x. StandsFor t x (rested_of t (pushed es tick (step.Detach s))) v (record old { nodes = slice_set old.nodes home now }))
          (sym (given-same t es tick (step.Detach s) keeps (λ n labels. refl))) stands-then)
