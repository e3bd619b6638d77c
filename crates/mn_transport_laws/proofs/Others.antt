-- A step of another part leaves the transport as it is.
use Rattle.std.proofs.Common.{ℕ, ◌≡◌, ◌≢◌, ◌+◌, ◌*◌, ◌<◌, Bool, true, false, List, length, map, drop, refl, arith, sym, ◌∙◌, ap, subst, Option, Some}
use Rattle.std.proofs.Math.Path.{fun_ext}
use Rattle.std.specs.Prelude.{◌==◌, ◌&&◌, ◌||◌, not, nat_le, take, slice_index_or, if◌then◌else◌}
use Rattle.std.proofs.lemmas.Option.{slice_get_within}
use Rattle.mn_base.proofs.Bools.{and_false}
use Rattle.mn_base.proofs.Members.{in_range}
use Rattle.mn_wiring.specs.Wiring.{links_of, nodes_of, is_end, across, sender, receiver}
use Rattle.mn_flight.specs.Flying.{on_channel}
use Rattle.mn_linkdb.specs.Changes.{is_odd}
use Rattle.mn_topo.specs.Network.{Network, wiring_of}
use Rattle.mn_topo.specs.Lawful.{IsLawful}
use Rattle.mn_topo.specs.declared.steps.Step.{Step}
use Rattle.mn_topo.specs.declared.steps.Step.TheVariants as step
use Rattle.mn_topo.specs.declared.steps.Damaged.TheVariants.{Undamaged}
use Rattle.mn_topo.specs.declared.steps.JournalEntry.{JournalEntry}
use Rattle.mn_labels.specs.Labels.{Labels, offered}
use Rattle.mn_lfib.specs.declared.answer.Use.{Use}
use Rattle.mn_lfib.specs.declared.answer.Use.TheVariants as use_kind
use Rattle.mn_lfib.specs.Uses.{fec_use}
use Rattle.mn_node.specs.Ldp.{offers}
use Rattle.mn_node.specs.Node.{knowledge_in}
use Rattle.mn_ledger.specs.World.{World, Views, Sessions}
use Rattle.mn_ledger.specs.Transport.{lives, sessions_after}
use Rattle.mn_ledger.specs.Packets.{is_attachment}
use Rattle.mn_ledger.specs.Ledger.{after, start, world_of}
use Rattle.mn_ledger.proofs.More.{world_from-push}
use Rattle.mn_ledger.proofs.Mentions.{operational-is}
use Rattle.mn_settled_laws.specs.Offers.{is_operational_on, offers_in}
use Rattle.mn_slice_laws.specs.Slice.{node_at}
use Rattle.mn_releases.specs.Rests.{Resting, row_of}
use Rattle.mn_reuse_laws.specs.Resting.{brings_release, ends_session, rested_of, rested_after}
use Rattle.mn_reuse_laws.specs.Labels.{attached_in, begins_offer, is_free, labels_of}
use Rattle.mn_reuse_laws.specs.Answers.{count_by, is_release, is_withdraw}
use Rattle.mn_reuse_laws.specs.Relabelled.{node_with}
use Rattle.mn_lsr.specs.Standing.{way_to}
use Rattle.mn_frame_laws.specs.Given.{Labelling, given}
use Rattle.mn_frame_laws.specs.Tables.{next_entry}
use Rattle.mn_timetable_laws.specs.Steps.{pushed}
use Rattle.mn_transport_laws.specs.Carried.{Carried}
use Rattle.mn_transport_laws.specs.Resting.{HasRow, IsResting}
use Rattle.mn_transport_laws.specs.Sending.{spelled}
use Rattle.mn_transport_laws.specs.Stands.{own_of, IsNode, StandsFor, IsTransport}
use Rattle.mn_transport_laws.specs.Steps.{touches}
use Rattle.mn_transport_laws.proofs.Counting.{none_ends}
use Rattle.mn_transport_laws.proofs.Stepping.{filter-none, offers-alike, rested-more, labels-more}
use Rattle.mn_transport_laws.proofs.Nodes.{given-is}
use Rattle.mn_transport_laws.proofs.Tables.{way-is}

-- the world after one entry more
pub world-then : (t : Network) (es : List JournalEntry) (tick : ℕ) (s : Step) → world_of t (pushed es tick s) ≡ after t (world_of t es) s
world-then t es tick s = world_from-push t es (start t) (record { tick = tick; step = s; damaged = Undamaged })

-- links, sessions and what nodes know stay as they are
pub record Keeps (t : Network) (w : World) (s : Step) : Type 0 where
  pub views : (after t w s).views ≡ w.views
  pub sessions : (after t w s).sessions ≡ w.sessions
  pub ups : (after t w s).config.is_up ≡ w.config.is_up
  pub ldp : (after t w s).config.ldp_on ≡ w.config.ldp_on
  pub node : (n : ℕ) → node_at t (after t w s) n ≡ node_at t w n
  pub brings : (n p : ℕ) → brings_release t w s n p ≡ false

-- and so does what is attached
record KeepsAll (t : Network) (w : World) (s : Step) : Type 0 where
  keeps : Keeps t w s
  attached : (after t w s).config.attached ≡ w.config.attached
  none : (n : ℕ) (labels : Labels) → attached_in t w s n labels ≡ labels

keeps-all : (t : Network) (w : World) (s : Step) → touches s ≡ false → KeepsAll t w s
unfolding sessions_after
keeps-all t w (step.LinkUp l) e = cc
keeps-all t w (step.LinkDown l) e = cc
keeps-all t w (step.Learn n l) e = cc
keeps-all t w (step.LdpAdmin l on) e = cc
keeps-all t w (step.HearLdp l d) e = cc
keeps-all t w (step.Attach s) e = cc
keeps-all t w (step.Detach s) e = cc
keeps-all t w _ e = record {
  keeps = record { views = refl; sessions = refl; ups = refl; ldp = refl; node = λ n. refl; brings = λ n p. refl };
  attached = refl;
  none = λ n labels. refl;
}

module _ (t : Network) (w : World) (s : Step) (k : Keeps t w s) where
  same-lives : (l : ℕ) → lives (after t w s).config l ≡ lives w.config l
  same-lives l = ap (λ f. f l && (after t w s).config.ldp_on l) k.ups ∙ ap (λ f. w.config.is_up l && f l) k.ldp

  pub same-offers : (n p : ℕ) → p < length t.loopbacks → offers_in t (after t w s) n p ≡ offers_in t w n p
  same-offers n p under = sym (offers-alike t (after t w s) n p under) ∙ ap (λ x. offers (wiring_of t) (knowledge_in x) n p) (k.node n)
      ∙ offers-alike t w n p under

  same-on : (n l : ℕ) → l < length t.links → is_operational_on t (after t w s) n l ≡ is_operational_on t w n l
  same-on n l below =
      operational-is (wiring_of t) (after t w s).config (after t w s).views (after t w s).sessions n l below
      ∙ ap (λ (x : Sessions). (lives (after t w s).config l && is_end (wiring_of t) l n) && nat_le 2 (x.heard l n)) k.sessions
      ∙ ap (λ b. (b && is_end (wiring_of t) l n) && nat_le 2 (w.sessions.heard l n)) (same-lives l)
      ∙ sym (operational-is (wiring_of t) w.config w.views w.sessions n l below)

  -- a node counts the same, by the world of after
  pub same-resting : (f : ℕ → ℕ) (n : ℕ) (r : Resting) → IsResting t w f n r → IsResting t (after t w s) f n r
  same-resting f n r is = record {
    neighbours = is.neighbours;
    fecs = is.fecs;
    rows = λ l below at. subst (λ b. HasRow t (after t w s) n l b (row_of r (across (wiring_of t) l n))) (sym (same-on n l below))
        (by l (is_operational_on t w n l) (row_of r (across (wiring_of t) l n)) (is.rows l below at));
    strangers = is.strangers;
    rested_is = is.rested_is;
    life = is.life;
  }
    where
      by : (l : ℕ) (b : Bool) (row : Option (List ℕ)) → HasRow t w n l b row → HasRow t (after t w s) n l b row
      by l true row h = (
        h.0,
        h.1,
        record {
          each = h.2.each;
          counts = λ p under. subst (λ (x : Sessions). slice_index_or h.0 p 0 + count_by (is_release p)
              (take (x.heard l n) (x.said l (across (wiring_of t) l n)))
              ≡ count_by (is_withdraw p) (x.said l n)) (sym k.sessions) (h.2.counts p under);
        },
      )
      by l false row h = h

  -- nothing comes to rest
  pub same-rested : (tick n : ℕ) (f : ℕ → ℕ) (p : ℕ) → p < length t.loopbacks → rested_after t w tick s n f p ≡ f p
  same-rested tick n f p under =
      ap (λ b. if (offers_in t w n p && not b) || (brings_release t w s n p || ends_session t w s n) then tick else f p) (same-offers n p under)
      ∙ ap (λ b. if b || (brings_release t w s n p || ends_session t w s n) then tick else f p) (both (offers_in t w n p))
      ∙ ap (λ b. if b || ends_session t w s n then tick else f p) (k.brings n p)
      ∙ ap (λ b. if b then tick else f p) (none_ends t w n s (λ l below on. same-lives l ∙ on))
    where
      both : (b : Bool) → (b && not b) ≡ false
      both true = refl
      both false = refl

-- no FEC is given a label, and none gives one up
pub given-attached : (t : Network) (es : List JournalEntry) (tick : ℕ) (s : Step) → Keeps t (world_of t es) s → (n : ℕ) →
    given t (pushed es tick s) n ≡ attached_in t (world_of t es) s n (labels_of t es n)
given-attached t es tick s k n =
    given-is t (pushed es tick s) n ∙ labels-more t es tick s n
    ∙ ap (offered (is_free t (world_of t es) n (rested_of t es n) tick) (attached_in t (world_of t es) s n (labels_of t es n)))
    (filter-none (begins_offer t (world_of t es) s n) (nodes_of (wiring_of t)) (λ p i.
    let under : p < length t.loopbacks = omega (arith, (in_range 0 (length t.loopbacks) p i).1) in
    ap (λ b. not (p == n) && (not (offers_in t (world_of t es) n p) && b)) (same-offers t (world_of t es) s k n p under)
    ∙ ap (λ b. not (p == n) && b) (none (offers_in t (world_of t es) n p)) ∙ and_false (not (p == n))))
  where
    none : (b : Bool) → (not b && b) ≡ false
    none true = refl
    none false = refl

pub given-same : (t : Network) (es : List JournalEntry) (tick : ℕ) (s : Step) → Keeps t (world_of t es) s →
    ((n : ℕ) (labels : Labels) → attached_in t (world_of t es) s n labels ≡ labels) → given t (pushed es tick s) ≡ given t es
given-same t es tick s k none = fun_ext (λ n. given-attached t es tick s k n ∙ none n (labels_of t es n) ∙ sym (given-is t es n))

-- a node counts the same after one entry more
pub resting-same : (t : Network) (es : List JournalEntry) (tick : ℕ) (s : Step) → Keeps t (world_of t es) s → (n : ℕ) (r : Resting) →
    IsResting t (world_of t es) (rested_of t es n) n r → IsResting t (after t (world_of t es) s) (rested_of t (pushed es tick s) n) n r
resting-same t es tick s k n r is =
    let then_is : IsResting t (after t (world_of t es) s) (rested_of t es n) n r = same-resting t (world_of t es) s k (rested_of t es n) n r is in
    record {
      neighbours = then_is.neighbours;
      fecs = then_is.fecs;
      rows = then_is.rows;
      strangers = then_is.strangers;
      rested_is = λ p under. then_is.rested_is p under
          ∙ sym (ap (λ f. f p) (rested-more t es tick s n) ∙ same-rested t (world_of t es) s k tick n (rested_of t es n) p under);
      life = then_is.life;
    }

-- its ways are the same
pub ways-same : (t : Network) (lawful : IsLawful t) (es : List JournalEntry) (s : Step) → Keeps t (world_of t es) s → (g : Labelling) (n edge : ℕ) →
    n < length t.loopbacks →
    edge < length t.loopbacks → edge ≢ n → next_entry t g (world_of t es) n edge ≡ next_entry t g (after t (world_of t es) s) n edge
ways-same t lawful es s k g n edge below under apart =
    sym (way-is t lawful g (world_of t es) n below edge under (λ e. apart (sym e)))
    ∙ ap (λ m. way_to (wiring_of t) (node_with (wiring_of t) (own_of g) m) edge) (sym (k.node n))
    ∙ way-is t lawful g (after t (world_of t es) s) n below edge under (λ e. apart (sym e))

pub as-it-was : (t : Network) (es : List JournalEntry) (tick : ℕ) (s : Step) (carried : Carried) → IsLawful t → touches s ≡ false →
    IsTransport t es carried → IsTransport t (pushed es tick s) carried
as-it-was t es tick s carried lawful other stands =
    let w : World = world_of t es in
    let all : KeepsAll t w s = keeps-all t w s other in
    let k : Keeps t w s = all.keeps in
    subst (λ v. StandsFor t (given t (pushed es tick s)) (rested_of t (pushed es tick s)) v carried) (sym (world-then t es tick s))
    (subst (λ g. StandsFor t g (rested_of t (pushed es tick s)) (after t w s) carried) (sym (given-same t es tick s k all.none))
    (record {
      each = stands.each;
      nodes = λ n x is.
          let below : n < length t.loopbacks = subst (λ m. n < m) stands.each (slice_get_within carried.nodes n x is) in
          let was : IsNode t (given t es) (rested_of t es) w n x = stands.nodes n x is in
          record {
            wiring = was.wiring;
            node_is = was.node_is ∙ ap (node_with (wiring_of t) (own_of (given t es))) (sym (k.node n));
            labels = was.labels;
            in_range = was.in_range;
            resting = resting-same t es tick s k n x.resting was.resting;
            table = record {
              fecs = λ edge under apart has.
                  was.table.fecs edge under apart has
                  ∙ ap fec_use (ways-same t lawful es s k (given t es) n edge below under apart);
              sites = λ site attachment has. was.table.sites site attachment has
                  ∙ ap (λ (f : ℕ → Option ℕ). let o : Option Use =
                  Some (if is_attachment (f site) attachment then use_kind.Site (record { 0 = site }) else use_kind.Ended) in o)
                  (sym all.attached);
              reserved = was.table.reserved;
              others = was.table.others;
            };
            works = was.works;
          };
      changes = stands.changes ∙ sym (ap (λ (v : Views). map v.changes (links_of (wiring_of t))) k.views);
      up = λ l h. ap (λ (v : Views). is_odd (v.changes l)) k.views ∙ stands.up l h ∙ sym (ap (λ f. f l) k.ups);
      switches = stands.switches ∙ sym (ap (λ f. map f (links_of (wiring_of t))) k.ldp);
      each_site = stands.each_site;
      sites = λ site attachment h at. stands.sites site attachment h (sym (ap (λ f. f site) all.attached) ∙ at);
      notices =
          λ l n h below. ap (λ (v : Views). v.learned n l + length (on_channel (l * length t.loopbacks + n) carried.notices)) k.views
          ∙ stands.notices l n h below ∙ sym (ap (λ (v : Views). v.changes l) k.views);
      messages = λ l dir h. stands.messages l dir h
          ∙ sym (ap (λ (x : Sessions). drop (x.heard l (receiver (wiring_of t) l dir))
          (spelled (wiring_of t) (own_of (given t es)) l (sender (wiring_of t) l dir) 1 (x.said l (sender (wiring_of t) l dir)))) k.sessions);
    }))
