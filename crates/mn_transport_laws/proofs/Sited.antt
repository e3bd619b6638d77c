-- What the code does with a site of an edge, in the words of a step: it reads and writes the edge at its index.
use Rattle.std.proofs.Common.{ℕ, ◌≡◌, ◌<◌, ◌+◌, length, get_or, refl, sym, ◌∙◌, ap, subst, List, false, Some}
use Rattle.std.specs.Prelude.{slice_get, slice_set, slice_index}
use Rattle.std.proofs.lemmas.Option.{same_Some, slice_get_read, get_or_from_slice_get}
use Rattle.mn_base.specs.declared.numbers.SiteNo.{SiteNo}
use Rattle.mn_base.proofs.Bools.{less_tells}
use Rattle.mn_labels.specs.Labels.{Labels, greatest, meaning_of}
use Rattle.mn_topo.specs.Network.{Network}
use Rattle.mn_topo.specs.Lawful.{IsLawful}
use Rattle.mn_topo.specs.declared.steps.Step.TheVariants as step
use Rattle.mn_topo.specs.declared.steps.JournalEntry.{JournalEntry}
use Rattle.mn_ledger.specs.Places.{home_of}
use Rattle.mn_ledger.specs.Ledger.{world_of}
use Rattle.mn_frame_laws.specs.Given.{given, label_at}
use Rattle.mn_timetable_laws.specs.Steps.{pushed}
use Rattle.mn_lsr.specs.Standing.{Standing, IsAttachment}
use Rattle.mn_transport_laws.specs.Carried.{Carried}
use Rattle.mn_transport_laws.specs.Stands.{IsTransport}
use Rattle.mn_transport_laws.specs.Starting.{first_label, AreFirst}
use Rattle.mn_transport_laws.specs.Steps.{HasTurn, MayDo}
use Rattle.mn_transport_laws.proofs.Attaching.{IsAttached, IsSpent, attach-goes, attach-next, attach-label, spent-stays}
use Rattle.mn_transport_laws.proofs.Detaching.{IsDetached, may-detach, detach-goes}
use Rattle.mn_transport_laws.proofs.Starts.{attach-first, label-first}

-- Contracts see the transport as `seen`, the code as `old`. The edge at this index was read.
module _ (t : Network) (lawful : IsLawful t) (old seen : Carried) (view_is : old ≡ seen) (s : SiteNo) (node index : ℕ) (home : node ≡ home_of t s.0)
    (from : index ≡ node) (below : node < length t.loopbacks)
    (x : Standing) (value : x ≡ get_or old.nodes index x) where
  stands-old : (es : List JournalEntry) → IsTransport t es seen → IsTransport t es old
  stands-old es stands = subst (IsTransport t es) (sym view_is) stands

  index-there : (es : List JournalEntry) → IsTransport t es seen → index < length old.nodes
  index-there es stands = subst (λ k. k < length old.nodes) (sym from) (subst (λ n. node < n) (sym (stands-old es stands).each) below)

  here : (es : List JournalEntry) → IsTransport t es seen → slice_get old.nodes (home_of t s.0) ≡ Some x
  here es stands = ap (slice_get old.nodes) (sym (from ∙ home)) ∙ slice_get_read old.nodes (length old.nodes) index x refl (index-there es stands) value

  -- 1. Attached

  module _ (now : Standing) (label place : ℕ) (to : place ≡ s.0) (did : IsAttached s x now label) (es : List JournalEntry) (stands : IsTransport t es seen)
      (turn : HasTurn t es (step.Attach s)) where
    there : s.0 < length t.sites
    there = less_tells s.0 (length t.sites) turn.turn.fitting

    pub attached-goes : (tick : ℕ) →
        IsTransport t (pushed es tick (step.Attach s)) (record old { nodes = slice_set old.nodes index now; labels = slice_set old.labels place label })
    attached-goes tick =
        subst (λ k. IsTransport t (pushed es tick (step.Attach s)) (record old {
          nodes = slice_set old.nodes index now;
          labels =
              slice_set old.labels k label;
        })) (sym to)
        (subst (λ k. IsTransport t (pushed es tick (step.Attach s)) (record old {
          nodes = slice_set old.nodes k now;
          labels =
              slice_set old.labels s.0 label;
        })) (sym (from ∙ home))
        (attach-goes t lawful es turn.inputs turn.lawful tick s old x now label (stands-old es stands) there turn.turn.changes (here es stands) did))

    pub attached-label : (tick : ℕ) → label ≡ label_at (given t (pushed es tick (step.Attach s))) (home_of t s.0) s.0 ((world_of t es).config.attaches s.0 + 2)
    attached-label tick = attach-label t lawful es turn.inputs turn.lawful tick s old x now label (stands-old es stands) there turn.turn.changes
        (here es stands) did

    pub attached-next : label ≡ greatest (given t es (home_of t s.0)).given + 1
    attached-next = attach-next t lawful es turn.inputs turn.lawful 0 s old x now label (stands-old es stands) there turn.turn.changes (here es stands) did

  -- what holds of the labels that it gave, if it has wanted no memory
  pub of-edge : MayDo t (step.Attach s) seen → (R : Labels → Type 0) → (x.failed ≡ false → R x.labels) →
      (standing : Standing) → slice_get seen.nodes (home_of t s.0) ≡ Some standing → R standing.labels
  of-edge may R holds standing at =
      let stands = stands-old may.journal may.stands in
      let read = here may.journal may.stands in
      subst (λ (y : Standing). R y.labels) (same_Some x standing (sym read ∙ ap (λ (c : Carried). slice_get c.nodes (home_of t s.0)) view_is ∙ at))
      (holds (stands.nodes (home_of t s.0) x read).works)

  pub still-stands : (now : Standing) → IsSpent x now →
      (es : List JournalEntry) → IsTransport t es seen → IsTransport t es (record old { nodes = slice_set old.nodes index now })
  still-stands now did es stands =
      subst (λ k. IsTransport t es (record old { nodes = slice_set old.nodes k now })) (sym (from ∙ home))
      (spent-stays t es old (home_of t s.0) x now (stands-old es stands) (here es stands) did)

  -- 2. Detached

  module _ (place : ℕ) (to : place ≡ s.0) (label : ℕ) (is : label ≡ get_or old.labels place label) (es : List JournalEntry) (stands : IsTransport t es seen)
      (turn : HasTurn t es (step.Detach s)) where
    site-there : s.0 < length t.sites
    site-there = less_tells s.0 (length t.sites) turn.turn.fitting

    label-is : label ≡ slice_index old.labels s.0
    label-is =
        let within : place < length old.labels =
        subst (λ k. k < length old.labels) (sym to) (subst (λ n. s.0 < n) (sym (stands-old es stands).each_site) site-there) in
        sym (get_or_from_slice_get old.labels place label 0 (slice_get_read old.labels (length old.labels) place label refl within is))
        ∙ ap (slice_index old.labels) to

    pub may-end : IsAttachment (meaning_of x.labels label)
    may-end =
        subst (λ n. IsAttachment (meaning_of x.labels n)) (sym label-is)
        (may-detach t lawful es turn.inputs turn.lawful 0 s old (stands-old es stands) site-there turn.turn.changes x (here es stands))

    pub detached-goes : (now : Standing) → IsDetached x now label →
        (tick : ℕ) → IsTransport t (pushed es tick (step.Detach s)) (record old { nodes = slice_set old.nodes index now })
    detached-goes now did tick =
        subst (λ k. IsTransport t (pushed es tick (step.Detach s)) (record old { nodes = slice_set old.nodes k now })) (sym (from ∙ home))
        (detach-goes t lawful es turn.inputs turn.lawful tick s old (stands-old es stands) site-there turn.turn.changes x (here es stands) now
        (subst (IsDetached x now) label-is did))

  -- where it has wanted no memory
  pub edge-works : (es : List JournalEntry) → IsTransport t es seen → x.failed ≡ false
  edge-works es stands = ((stands-old es stands).nodes (home_of t s.0) x (here es stands)).works

-- 3. Attached for the first time

module _ (t : Network) (k : ℕ) (there : k < length t.sites) (nodes : List Standing) (first : AreFirst t k nodes) (node index : ℕ)
    (home : node ≡ home_of t k) (from : index ≡ node) (below : node < length t.loopbacks)
    (x now : Standing) (label : ℕ) (value : x ≡ get_or nodes index x) (did : IsAttached (record { 0 = k }) x now label) where
  here-first : slice_get nodes (home_of t k) ≡ Some x
  here-first = ap (slice_get nodes) (sym (from ∙ home))
      ∙ slice_get_read nodes (length nodes) index x refl (subst (λ i. i < length nodes) (sym from) (subst (λ n. node < n) (sym first.each) below)) value

  pub next-first : AreFirst t (k + 1) (slice_set nodes index now)
  next-first = subst (λ i. AreFirst t (k + 1) (slice_set nodes i now)) (sym (from ∙ home)) (attach-first t k there nodes first x now label here-first did)

  pub first-is : label ≡ first_label t k
  first-is = label-first t k there nodes first x now label here-first did
