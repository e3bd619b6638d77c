-- A site is attached at its edge: the transport goes on to stand for the journal.
use Rattle.std.proofs.Common.{ℕ, ◌≡◌, ◌≢◌, ◌+◌, ◌^◌, ◌<◌, ◌≤◌, inl, inr, Bool, true, false, List, length, drop, refl, arith, sym, ◌∙◌, ap, subst}
use Rattle.std.proofs.Common.{Option, None, Some, length-set, get_or-set_same, get_or-set_other}
use Rattle.std.proofs.Math.Path.{fun_ext}
use Rattle.std.specs.Prelude.{◌==◌, if◌then◌else◌, is_some, unwrap_or, slice_get, slice_set, slice_index, slice_index_or}
use Rattle.std.proofs.lemmas.Bool.Decides.{eqb_tells}
use Rattle.std.proofs.lemmas.Option.{same_Some, slice_get_within}
use Rattle.mn_base.specs.declared.numbers.NodeNo.{NodeNo}
use Rattle.mn_base.specs.declared.numbers.SiteNo.{SiteNo}
use Rattle.mn_base.proofs.Bools.{same_test, other_test}
use Rattle.mn_base.proofs.Members.{in_contained}
use Rattle.mn_wiring.specs.Wiring.{sender, receiver}
use Rattle.mn_labels.specs.declared.meaning.Bind.{Bind}
use Rattle.mn_labels.specs.declared.meaning.Bind.TheVariants.{Site}
use Rattle.mn_labels.specs.Labels.{Labels, greatest, attached}
use Rattle.mn_lfib.specs.declared.answer.Use.{Use}
use Rattle.mn_lfib.specs.declared.answer.Use.TheVariants as used_for
use Rattle.mn_lfib.specs.Uses.{use_of, fec_use}
use Rattle.mn_topo.specs.Network.{Network, wiring_of}
use Rattle.mn_topo.specs.Lawful.{IsLawful}
use Rattle.mn_topo.specs.declared.steps.Step.TheVariants as step
use Rattle.mn_topo.specs.declared.steps.Damaged.TheVariants.{Undamaged}
use Rattle.mn_topo.specs.declared.steps.JournalEntry.{JournalEntry}
use Rattle.mn_ledger.specs.Places.{home_of}
use Rattle.mn_ledger.specs.World.{World}
use Rattle.mn_ledger.specs.Transport.{usable, knowledge_of, sessions_after}
use Rattle.mn_ledger.specs.Packets.{is_attachment}
use Rattle.mn_ledger.specs.Ledger.{after, world_of}
use Rattle.mn_ledger.specs.Lawful.{IsLawfulJournal}
use Rattle.mn_ledger.proofs.GoingBy.{put_here, put_off}
use Rattle.mn_slice_laws.specs.Slice.{node_at}
use Rattle.mn_reuse_laws.specs.Labels.{attached_in}
use Rattle.mn_reuse_laws.specs.Relabelled.{node_with}
use Rattle.mn_reuse_laws.specs.Resting.{rested_of}
use Rattle.mn_frame_laws.specs.Given.{Labelling, HasLabel, given, label_in, label_at, label_for, attachment_of, fec_of}
use Rattle.mn_frame_laws.specs.Numbers.{labels_of}
use Rattle.mn_frame_laws.specs.Tables.{TableStands, next_over, next_entry}
use Rattle.mn_frame_laws.proofs.Bridge.{given_fit}
use Rattle.mn_frame_laws.proofs.Labels.{fec_within, attachments_stay}
use Rattle.mn_frame_laws.proofs.Attaching.{follows_attach}
use Rattle.mn_frame_laws.proofs.Anew.{gives_to_each, gives_to_no_other, never_given}
use Rattle.mn_frame_laws.proofs.Next.{gives_the_next}
use Rattle.mn_timetable_laws.specs.Steps.{pushed}
use Rattle.mn_lsr.specs.Standing as lsr
use Rattle.mn_lsr.specs.Standing.{Standing, attachments}
use Rattle.mn_transport_laws.specs.Carried.{Carried}
use Rattle.mn_transport_laws.specs.Resting.{IsResting}
use Rattle.mn_transport_laws.specs.Sending.{spelled}
use Rattle.mn_transport_laws.specs.Stands.{own_of, IsNode, StandsFor, IsTransport}
use Rattle.mn_transport_laws.proofs.Attachments.{counted, present}
use Rattle.mn_transport_laws.proofs.Lists.{each-set}
use Rattle.mn_transport_laws.proofs.Nodes.{given-is}
use Rattle.mn_transport_laws.proofs.Others.{Keeps, world-then, given-attached, resting-same, ways-same}

-- what a node's part of it is: the site gets the next label, which is used for it from now on
pub record IsAttached (site : SiteNo) (was now : Standing) (label : ℕ) : Type 0 where
  pub label_is : label ≡ greatest was.labels.given + 1
  pub labels_are : now.labels ≡ attached was.labels (Site site (attachments site.0 was.labels.given + 1))
  pub in_range : greatest now.labels.given < 2 ^ 20
  pub used : use_of now.uses label ≡ Some (used_for.Site site)
  pub others : (other : ℕ) → other ≢ label → use_of now.uses other ≡ use_of was.uses other
  pub table : lsr.TableStands now
  pub kept : now ≡ record was { labels = now.labels; uses = now.uses }

-- and where no label is left, its labels and their uses are as they were
pub record IsSpent (was now : Standing) : Type 0 where
  pub labels_are : now.labels ≡ was.labels
  pub uses_are : now.uses ≡ was.uses
  pub kept : now ≡ record was { labels = now.labels; uses = now.uses }

none_there : (o : Option ℕ) → is_some o ≡ false → o ≡ None
none_there None e = refl
none_there (Some n) e = cc

module _ (t : Network) (lawful : IsLawful t) (es : List JournalEntry) (inputs : List (List ℕ)) (by_law : IsLawfulJournal t es inputs) (tick : ℕ)
    (s : SiteNo) where
  abbrev w : World
  w = world_of t es

  abbrev v : World
  v = after t w (step.Attach s)

  abbrev g : Labelling
  g = given t es

  abbrev later : Labelling
  later = given t (pushed es tick (step.Attach s))

  abbrev home : ℕ
  home = home_of t s.0

  abbrev number : ℕ
  number = w.config.attaches s.0 + 2

  keeps : Keeps t w (step.Attach s)
  unfolding sessions_after
  keeps = record { views = refl; sessions = refl; ups = refl; ldp = refl; node = λ n. refl; brings = λ n p. refl }

  -- 1. The labels

  later-is : (n : ℕ) → later n ≡ attached_in t w (step.Attach s) n (g n)
  later-is n = given-attached t es tick (step.Attach s) keeps n ∙ ap (attached_in t w (step.Attach s) n) (sym (given-is t es n))

  later-home : later home ≡ attached (g home) (attachment_of s.0 number)
  later-home = later-is home
      ∙ ap (λ b. let labels : Labels = if b then attached (g home) (attachment_of s.0 number) else g home in labels) (same_test home)

  later-other : (n : ℕ) → n ≢ home → later n ≡ g n
  later-other n apart = later-is n
      ∙ ap (λ b. let labels : Labels = if b then attached (g n) (attachment_of s.0 number) else g n in labels) (other_test home n (λ e. apart (sym e)))

  -- the labels of FECs are as they were
  own-same : own_of later ≡ own_of g
  own-same = fun_ext (λ n. fun_ext (λ fec.
      ap (λ (labels : Labels). if n == fec then 3 else unwrap_or (slice_index_or labels.fecs fec None) 0) (later-is n)
      ∙ ap (λ (fs : List (Option ℕ)). if n == fec then 3 else unwrap_or (slice_index_or fs fec None) 0) (by n (home == n))))
    where
      by : (n : ℕ) (b : Bool) → (if b then attached (g n) (attachment_of s.0 number) else g n).fecs ≡ (g n).fecs
      by n true = refl
      by n false = refl

  least : number ≤ number
  least = omega arith

  next-label : greatest (g home).given + 1 ≡ label_at later home s.0 number
  unfolding labels_of
  next-label = sym (gives_the_next t es (record { tick = tick; step = step.Attach s; damaged = Undamaged }) s refl)

  -- 2. The edge

  module _ (there : s.0 < length t.sites) (detached : is_some (w.config.attached s.0) ≡ false) (was now : Standing) (label : ℕ)
      (is : IsNode t g (rested_of t es) w home was) (did : IsAttached s was now label) where
    label-was : label ≡ greatest (g home).given + 1
    label-was = did.label_is ∙ ap (λ (labels : Labels). greatest labels.given + 1) is.labels

    label-then : label ≡ label_at later home s.0 number
    label-then = label-was ∙ next-label

    labels-then : now.labels ≡ later home
    labels-then =
        let count : attachments s.0 (g home).given + 1 ≡ number = (let c = counted t es s.0 there in omega (arith, c)) in
        did.labels_are ∙ ap (λ (labels : Labels). attached labels (Site s (attachments s.0 labels.given + 1))) is.labels
        ∙ ap (λ n. attached (g home) (Site s n)) count ∙ sym later-home

    table-then : TableStands t later v home now.uses
    unfolding sessions_after knowledge_of
    table-then = follows_attach t g later w v home s.0 number was.uses now.uses (record {
      given = later-home;
      elsewhere = later-other;
      fecs = λ edge. fec_within (g home) (given_fit t es home) edge;
      low = λ giving c. (given_fit t es home).reserved giving (in_contained (g home).given giving c);
      fresh = never_given t es home s.0 number least;
      detached = none_there (w.config.attached s.0) detached;
      attached = refl;
      sends = λ edge. refl;
      set = ap (use_of now.uses) (sym label-was) ∙ did.used;
      others = λ other apart. did.others other (λ e. apart (e ∙ label-was));
    }) is.table

    edge-then : IsNode t later (rested_of t (pushed es tick (step.Attach s))) v home now
    edge-then = record {
      wiring = ap (λ x. x.wiring) did.kept ∙ is.wiring;
      node_is = ap (λ x. x.node) did.kept ∙ is.node_is ∙ ap (λ own. node_with (wiring_of t) own (node_at t w home)) (sym own-same)
          ∙ ap (node_with (wiring_of t) (own_of later)) (sym (keeps.node home));
      labels = labels-then;
      in_range = did.in_range;
      resting = resting-same t es tick (step.Attach s) keeps home now.resting
          (subst (IsResting t w (rested_of t es home) home) (sym (ap (λ x. x.resting) did.kept)) is.resting);
      table = table-then;
      works = ap (λ x. x.failed) did.kept ∙ is.works;
    }

  -- 3. The other nodes

  attached-other : (site : ℕ) → site ≢ s.0 → v.config.attached site ≡ w.config.attached site
  attached-other site apart = put_off w.config.attached s.0 (Some number) site apart

  table-other : (n : ℕ) (uses : List (ℕ × Use)) → n < length t.loopbacks → n ≢ home → TableStands t g w n uses → TableStands t g v n uses
  table-other n uses below apart is = record {
    fecs = λ edge under d has. is.fecs edge under d has ∙ ap fec_use (ways-same t lawful es (step.Attach s) keeps g n edge below under d);
    sites = λ site attachment has.
        let off : site ≢ s.0 = λ e. apart (sym (gives_to_no_other t es inputs n site attachment by_law has).home ∙ ap (home_of t) e) in
        is.sites site attachment has
        ∙ sym (ap (λ (o : Option ℕ). let u : Option Use =
        Some (if is_attachment o attachment then used_for.Site (record { 0 = site }) else used_for.Ended) in u) (attached-other site off));
    reserved = is.reserved;
    others = is.others;
  }

  -- a table for labels that are the same at the node and its next hops
  relabel : (n : ℕ) (uses : List (ℕ × Use)) → n ≢ home → TableStands t g v n uses → TableStands t later v n uses
  relabel n uses apart is = record {
    fecs = λ edge under d has.
        ap (λ (labels : Labels). use_of uses (label_in labels (fec_of edge))) (later-other n apart)
        ∙ is.fecs edge under d (subst (λ (labels : Labels). HasLabel labels (fec_of edge)) (later-other n apart) has)
        ∙ ap (λ o. fec_use o) (entry-same edge);
    sites = λ site attachment has.
        ap (λ (labels : Labels). use_of uses (label_in labels (attachment_of site attachment))) (later-other n apart)
        ∙ is.sites site attachment (subst (λ (labels : Labels). HasLabel labels (attachment_of site attachment)) (later-other n apart) has);
    reserved = is.reserved;
    others = λ label none. is.others label (subst (λ (labels : Labels). (thing : Bind) → HasLabel labels thing →
        label_in labels thing ≢ label) (later-other n apart) none);
  }
    where
      for-same : (hop edge : ℕ) → label_for g hop edge ≡ label_for later hop edge
      for-same hop edge = sym (ap (λ (own : ℕ → ℕ → ℕ). own hop edge) own-same)

      by : (edge : ℕ) (o : Option (ℕ × ℕ)) → next_over g edge o ≡ next_over later edge o
      by edge None = refl
      by edge (Some hop) = ap (λ label. let o : Option (NodeNo × ℕ) = Some (record { 0 = hop.0 }, label) in o) (for-same hop.0 edge)

      entry-same : (edge : ℕ) → next_entry t g v n edge ≡ next_entry t later v n edge
      entry-same edge = by edge (usable t v.config v.views v.sessions n edge)

  other-then : (n : ℕ) (x : Standing) → n < length t.loopbacks → n ≢ home → IsNode t g (rested_of t es) w n x →
      IsNode t later (rested_of t (pushed es tick (step.Attach s))) v n x
  other-then n x below apart is = record {
    wiring = is.wiring;
    node_is = is.node_is ∙ ap (λ own. node_with (wiring_of t) own (node_at t w n)) (sym own-same)
        ∙ ap (node_with (wiring_of t) (own_of later)) (sym (keeps.node n));
    labels = is.labels ∙ sym (later-other n apart);
    in_range = is.in_range;
    resting = resting-same t es tick (step.Attach s) keeps n x.resting is.resting;
    table = relabel n x.uses apart (table-other n x.uses below apart is.table);
    works = is.works;
  }

  -- 4. All of it

  abbrev pub with_site : Carried → Standing → ℕ → Carried
  with_site old now label = record old { nodes = slice_set old.nodes home now; labels = slice_set old.labels s.0 label }

  module _ (old : Carried) (was now : Standing) (label : ℕ) (stands : IsTransport t es old) (there : s.0 < length t.sites)
      (detached : is_some (w.config.attached s.0) ≡ false)
      (here : slice_get old.nodes home ≡ Some was) (did : IsAttached s was now label) where
    sites-then : (site attachment : ℕ) → site < length t.sites → v.config.attached site ≡ Some attachment →
        slice_index (slice_set old.labels s.0 label) site ≡ label_at later (home_of t site) site attachment
    sites-then site attachment h at = elim (eqb_tells site s.0) [
      | inl q ↦ subst (λ x. slice_index (slice_set old.labels s.0 label) x ≡ label_at later (home_of t x) x attachment) (sym q.1)
          (get_or-set_same old.labels s.0 label 0 (subst (λ n. s.0 < n) (sym stands.each_site) there)
          ∙ label-then there detached was now label (stands.nodes home was here) did
          ∙ ap (label_at later home s.0)
          (same_Some number attachment (sym (put_here w.config.attached s.0 (Some number)) ∙ ap v.config.attached (sym q.1) ∙ at)))
      | inr q ↦
          (let before : w.config.attached site ≡ Some attachment = sym (attached-other site q.1) ∙ at in
          get_or-set_other old.labels s.0 site label 0 q.1 ∙ stands.sites site attachment h before
          ∙ sym (attachments_stay t es (record { tick = tick; step = step.Attach s; damaged = Undamaged }) (home_of t site) site attachment
          (gives_to_each t es site attachment (present t es site attachment h before))).label)
    ]

    stands-then : StandsFor t later (rested_of t (pushed es tick (step.Attach s))) v (with_site old now label)
    unfolding sessions_after
    stands-then = record {
      each = length-set old.nodes home now ∙ stands.each;
      nodes = each-set (IsNode t later (rested_of t (pushed es tick (step.Attach s))) v) old.nodes home was now here
          (edge-then there detached was now label (stands.nodes home was here) did)
          (λ n x apart at. other-then n x (subst (λ m. n < m) stands.each (slice_get_within old.nodes n x at)) apart (stands.nodes n x at));
      changes = stands.changes;
      up = stands.up;
      switches = stands.switches;
      each_site = length-set old.labels s.0 label ∙ stands.each_site;
      sites = sites-then;
      notices = stands.notices;
      messages = λ l dir h. stands.messages l dir h
          ∙ ap (λ own. drop (w.sessions.heard l (receiver (wiring_of t) l dir))
          (spelled (wiring_of t) own l (sender (wiring_of t) l dir) 1 (w.sessions.said l (sender (wiring_of t) l dir)))) (sym own-same);
    }

    pub attach-goes : IsTransport t (pushed es tick (step.Attach s)) (with_site old now label)
    attach-goes =
        subst (λ x. StandsFor t later (rested_of t (pushed es tick (step.Attach s))) x (with_site old now label)) (sym (world-then t es tick (step.Attach s)))
        stands-then

    pub attach-next : label ≡ greatest (g home).given + 1
    attach-next = label-was there detached was now label (stands.nodes home was here) did

    pub attach-label : label ≡ label_at later home s.0 number
    attach-label = label-then there detached was now label (stands.nodes home was here) did

-- 5. No label is left

module _ (t : Network) (es : List JournalEntry) (old : Carried) (node : ℕ) (was now : Standing) (stands : IsTransport t es old)
    (here : slice_get old.nodes node ≡ Some was) (did : IsSpent was now) where
  node-stays : IsNode t (given t es) (rested_of t es) (world_of t es) node now
  node-stays =
      let is : IsNode t (given t es) (rested_of t es) (world_of t es) node was = stands.nodes node was here in
      record {
        wiring = ap (λ x. x.wiring) did.kept ∙ is.wiring;
        node_is = ap (λ x. x.node) did.kept ∙ is.node_is;
        labels = did.labels_are ∙ is.labels;
        in_range = subst (λ (labels : Labels). greatest labels.given < 2 ^ 20) (sym did.labels_are) is.in_range;
        resting = subst (IsResting t (world_of t es) (rested_of t es node) node) (sym (ap (λ x. x.resting) did.kept)) is.resting;
        table = subst (TableStands t (given t es) (world_of t es) node) (sym did.uses_are) is.table;
        works = ap (λ x. x.failed) did.kept ∙ is.works;
      }

  pub spent-stays : IsTransport t es (record old { nodes = slice_set old.nodes node now })
  spent-stays = record {
    each = length-set old.nodes node now ∙ stands.each;
    nodes = each-set (IsNode t (given t es) (rested_of t es) (world_of t es)) old.nodes node was now here node-stays
        (λ other x apart at. stands.nodes other x at);
    changes = stands.changes;
    up = stands.up;
    switches = stands.switches;
    each_site = stands.each_site;
    sites = stands.sites;
    notices = stands.notices;
    messages = stands.messages;
  }
