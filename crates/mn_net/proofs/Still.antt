-- A network stands for the ledger by what the ledger says of its journal, which marks don't change.
use Rattle.std.proofs.Common.{ℕ, ◌≡◌, ◌≤◌, ◌<◌, List, [], ◌∷◌, ◌++◌, map, filter, length, refl, sym, ◌∙◌, ap, subst}
use Rattle.std.proofs.Math.Path.{fun_ext}
use Rattle.std.specs.Prelude.{◌+◌, ◌*◌, ◌^◌, nat_le}
use Rattle.mn_wiring.specs.declared.links.Dir.{Dir}
use Rattle.mn_wiring.specs.Wiring.{link}
use Rattle.mn_topo.specs.Network.{Network, wiring_of}
use Rattle.mn_topo.specs.declared.steps.JournalEntry.{JournalEntry}
use Rattle.mn_ledger.specs.World.{World}
use Rattle.mn_ledger.specs.Ledger.{start, after, world_of, packets_of}
use Rattle.mn_ledger.specs.Items.{Channel, Notices, Messages, Routes, Frames, Item, Flight, items_on, made_by}
use Rattle.mn_ledger_laws.specs.Ids.{frames_sent}
use Rattle.mn_course_laws.specs.Coming.{is_each, is_lost}
use Rattle.mn_labels.specs.Labels.{Labels}
use Rattle.mn_ledger.specs.Places.{home_of}
use Rattle.mn_reuse_laws.specs.Resting.{rested_after, rested_from, rested_of}
use Rattle.mn_reuse_laws.specs.Labels.{labels_after, first_labels, labels_from, labels_of as node_labels}
use Rattle.mn_frame_laws.specs.Given.{Labelling, given, label_at}
use Rattle.mn_frame_laws.specs.Numbers.{labels_of}
use Rattle.mn_damage.specs.Same.{unmarked, AreOne}
use Rattle.mn_damage.proofs.Marks.{both, are_one}
use Rattle.mn_timetable_laws.specs.Keys.{keys_on, of_notices, of_messages, of_routes, of_frames}
use Rattle.mn_transit.specs.Stands as transit
use Rattle.mn_transport_laws.specs.Stands as transport
use Rattle.mn_routing_laws.specs.Routed as routing
use Rattle.mn_net_parts_laws.specs.Stands as model
use Rattle.mn_net_laws.specs.Tallies.{Tally, Tallies, lost_numbers}
use Rattle.mn_net_laws.specs.Now.{NetNow, StandsFor, packed_in}
use Rattle.mn_topo.specs.declared.steps.Damaged.{Damaged}
use Rattle.mn_net.specs.Marks.{IsStill, marked, marked_last, MarksLast}

given_un : (t : Network) (node : ℕ) (w : World) (rested : ℕ → ℕ) (labels : Labels) (es : List JournalEntry) →
    labels_from t node w rested labels (map unmarked es) ≡ labels_from t node w rested labels es
given_un t node w rested labels [] = refl
given_un t node w rested labels (e ∷ es) =
    given_un t node (after t w e.step) (rested_after t w e.tick e.step node rested) (labels_after t w e.tick e.step node rested labels) es

rested_un : (t : Network) (node : ℕ) (w : World) (rested : ℕ → ℕ) (es : List JournalEntry) →
    rested_from t node w rested (map unmarked es) ≡ rested_from t node w rested es
rested_un t node w rested [] = refl
rested_un t node w rested (e ∷ es) = rested_un t node (after t w e.step) (rested_after t w e.tick e.step node rested) es

module _ (t : Network) (one other : List JournalEntry) (e : map unmarked one ≡ map unmarked other) where
  same : AreOne t one other
  same = are_one t one other e

  given_same : given t one ≡ given t other
  unfolding given node_labels
  given_same = fun_ext (λ node. both (λ es. labels_from t node (start t) (λ fec. 0) (first_labels t node) es) one other
      (given_un t node (start t) (λ fec. 0) (first_labels t node) one) (given_un t node (start t) (λ fec. 0) (first_labels t node) other) e)

  labels_same : labels_of t one ≡ labels_of t other
  unfolding labels_of
  labels_same = ap (λ (g : Labelling). λ site attachment. label_at g (home_of t site) site attachment) given_same

  rested_same : rested_of t one ≡ rested_of t other
  rested_same = fun_ext (λ node. both (λ es. rested_from t node (start t) (λ fec. 0) es) one other
      (rested_un t node (start t) (λ fec. 0) one) (rested_un t node (start t) (λ fec. 0) other) e)

  frames_same : (ps : List (List ℕ)) (l : ℕ) (d : Dir) → frames_sent t one ps l d ≡ frames_sent t other ps l d
  frames_same ps l d = ap (items_on (Frames l d)) (same.made ps)

  is_lost_same : (ps : List (List ℕ)) (on : Channel) (x : Item) → is_lost t one ps on x ≡ is_lost t other ps on x
  is_lost_same ps (Frames l d) x =
      ap (λ xs. is_each (link (wiring_of t) l).loss (length (filter (λ item. nat_le item.number x.number) xs))) (frames_same ps l d)
  is_lost_same ps (Notices l n) x = refl
  is_lost_same ps (Messages l n) x = refl
  is_lost_same ps (Routes a b) x = refl

  lost_same : (ps : List (List ℕ)) → lost_numbers t one ps ≡ lost_numbers t other ps
  lost_same ps =
      ap (λ f. map (λ (item : Item). item.number) (filter f (made_by t one ps))) (fun_ext (λ (item : Item). is_lost_same ps item.on item))
      ∙ ap (λ xs. map (λ (item : Item). item.number) (filter (λ item. is_lost t other ps item.on item) xs)) (same.made ps)

  pub tallies : (ps : List (List ℕ)) (tally : Tally) → Tallies t one ps tally → Tallies t other ps tally
  tallies ps tally h = record {
    statics = h.statics ∙ ap (λ (w : World). length w.config.statics) same.world;
    each = h.each;
    sent = λ l d below. h.sent l d below ∙ ap length (frames_same ps l d);
    lossy = h.lossy ∙ lost_same ps;
  }

  pub packed : (ps : List (List ℕ)) (parts : model.Packed) → model.StandsFor t one parts ps → model.StandsFor t other parts ps
  packed ps parts h = record {
    each = h.each ∙ same.injections;
    lawful = same.lawful ps h.lawful;
    packets = subst (λ g. transit.StandsFor t g parts.moving (packets_of t other ps)) given_same
        (subst (transit.StandsFor t (given t one) parts.moving) (same.packets ps) h.packets);
    made = h.made ∙ ap (λ (f : Flight). f.made) (same.flight ps);
    notices = h.notices ∙ ap (λ (f : Flight). keys_on (of_notices (length t.loopbacks)) f.items) (same.flight ps);
    messages = h.messages ∙ ap (λ (f : Flight). keys_on (of_messages t) f.items) (same.flight ps);
    routes = h.routes ∙ ap (λ (f : Flight). keys_on (of_routes (length t.loopbacks)) f.items) (same.flight ps);
    frames = h.frames ∙ ap (λ (f : Flight). keys_on of_frames f.items) (same.flight ps);
  }

pub still : (net : NetNow) (journal : List JournalEntry) → map unmarked net.journal ≡ map unmarked journal → IsStill net journal
still net journal e = record {
  stands = stands;
  is = λ is. record {
    inputs = is.inputs;
    stands = stands is.inputs is.stands;
    channels = is.channels;
    late = subst (λ n. n ≤ net.tick) one.tick is.late;
    due = λ behind. is.due (subst (λ n. n < net.tick) (sym one.tick) behind);
    within = subst (λ n. net.tick ≤ 2 ^ 62 + 1000000 * n) one.count is.within;
    bytes = is.bytes;
    copies = subst (λ n. net.moving.copies ≤ n) one.count is.copies;
    verdicts = subst (λ n. length net.moving.verdicts ≤ n) one.count is.verdicts;
  };
}
  where
    t : Network
    t = net.topology

    one : AreOne net.topology net.journal journal
    one = are_one net.topology net.journal journal e

    stands : (ps : List (List ℕ)) → StandsFor net ps → StandsFor (record net { journal = journal }) ps
    stands ps h = record {
      works = h.works;
      transport = subst (λ r. transport.StandsFor net.topology (given net.topology journal) r (world_of net.topology journal) net.transport)
          (rested_same net.topology net.journal journal e)
          (subst (λ g. transport.StandsFor net.topology g (rested_of net.topology net.journal) (world_of net.topology journal) net.transport)
          (given_same net.topology net.journal journal e)
          (subst (λ w. transport.StandsFor net.topology (given net.topology net.journal) (rested_of net.topology net.journal) w net.transport)
          one.world h.transport));
      routes = subst (λ l. routing.StandsFor net.topology l (world_of net.topology journal) net.routes) (labels_same net.topology net.journal journal e)
          (subst (λ w. routing.StandsFor net.topology (labels_of net.topology net.journal) w net.routes) one.world h.routes);
      stands = packed net.topology net.journal journal e ps (packed_in net) h.stands;
      tally = tallies net.topology net.journal journal e ps net.tally h.tally;
    }

pushed_mark : (es : List JournalEntry) (m : Damaged) (e : JournalEntry) →
    marked_last (es ++ e ∷ []) m ≡ es ++ marked e m ∷ []
pushed_mark [] m e = refl
pushed_mark (x ∷ []) m e = refl
pushed_mark (x ∷ y ∷ ys) m e = ap (λ zs. x ∷ zs) (pushed_mark (y ∷ ys) m e)

mark_same : (es : List JournalEntry) (m : Damaged) → map unmarked es ≡ map unmarked (marked_last es m)
mark_same [] m = refl
mark_same (x ∷ []) m = refl
mark_same (x ∷ y ∷ ys) m = ap (λ zs. unmarked x ∷ zs) (mark_same (y ∷ ys) m)

pub marks_last : MarksLast
marks_last es m = record { pushed = pushed_mark es m; same = mark_same es m }
