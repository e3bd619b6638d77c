-- What the code does with one node, and with both ends of a link, in the words of what a step may do.
use Rattle.std.proofs.Common.{ℕ, ◌≡◌, ◌≢◌, ◌+◌, ◌*◌, ◌<◌, ◌^◌, Bool, true, false, List, ◌++◌, length, map, get_or, sym, ◌∙◌, ap, subst, Option, Some}
use Rattle.std.specs.Prelude.{slice_get, slice_set, Result, Ok, Err, IfOk, OnOk}
use Rattle.std.specs.List.{AllByRecursion}
use Rattle.std.proofs.lemmas.List.{length-map}
use Rattle.std.proofs.lemmas.Option.{get_or_from_slice_get, same_Some}
use Rattle.mn_wiring.specs.Wiring.{Wiring, is_end, receiver}
use Rattle.mn_wiring.specs.declared.links.Dir.{Dir}
use Rattle.mn_flight.specs.declared.Item.{Item}
use Rattle.mn_flight.specs.Flying.{on_channel, without}
use Rattle.mn_topo.specs.Network.{Network, wiring_of}
use Rattle.mn_node.specs.Node.{Session, Node, session_at}
use Rattle.mn_node.specs.Machine.{Event, Learns, Opens, Closes, Hears, changed, said, after_event}
use Rattle.mn_ledger.specs.Packets.{channel}
use Rattle.mn_labels.specs.Labels.{Labels, greatest, own_labels}
use Rattle.mn_lsr.specs.Turns.{kept_in, labels_then, resting_then, kept_then}
use Rattle.mn_lsr.specs.Hearing.{Heard, after_bytes}
use Rattle.mn_lsr.specs.declared.refusal.LsrBad.{LsrBad}
use Rattle.mn_lsr.specs.Said.{pdu_of}
use Rattle.mn_lsr.specs.declared.said.Said.{Said}
use Rattle.mn_lfib.specs.Uses.{use_of}
use Rattle.mn_lsr.specs.Standing.{Standing, TableStands, SitesKeep}
use Rattle.mn_transport_laws.specs.declared.notice.Notice.{Notice}
use Rattle.mn_transport_laws.specs.Carried.{Carried}
use Rattle.mn_transport_laws.specs.Sending.{put_pdus, pdus_in, released_by}
use Rattle.mn_transport_laws.specs.Acting.{turned_by, IsReady, MayAct, MayHear, Becomes, Acts}
use Rattle.mn_transport_laws.specs.Doing.{noticed, taken}
use Rattle.mn_transport_laws.proofs.Lists.{get-set_other}
use Rattle.mn_transport_laws.proofs.One.{heard-open}
use Rattle.mn_transport_laws.proofs.Out.{links-out}
use Rattle.mn_transport_laws.proofs.Own.{IsHere, own-event}

-- the event's link is one of the node's
here-of : (t : Network) (old : Carried) (node : ℕ) (event : Event) (may : MayAct t old node event) → IsHere may.was.wiring may.was.node event
here-of t old node (Learns l) may = tt
here-of t old node (Closes l) may = tt
here-of t old node (Opens l) may = (
  subst (λ (w : Wiring). l < length w.ends) (sym may.wiring) may.link,
  subst (λ (w : Wiring). is_end w l may.was.node.me ≡ true) (sym may.wiring) (subst (λ n. is_end (wiring_of t) l n ≡ true) (sym may.me) may.at_end),
  subst (λ k. l < k) (sym may.sessions) may.link,
)
here-of t old node (Hears l message label) may = (
  subst (λ (w : Wiring). l < length w.ends) (sym may.wiring) may.link,
  subst (λ (w : Wiring). is_end w l may.was.node.me ≡ true) (sym may.wiring) (subst (λ n. is_end (wiring_of t) l n ≡ true) (sym may.me) may.at_end),
  heard-open may.was.wiring may.was.node l message label may.ready,
)

-- from what a call of the node's ensures
pub becomes-open : (tick : ℕ) (event : Event) (was now : Standing) → now ≡ record was { node = after_event was.wiring was.node event } →
    now.labels ≡ labels_then was.wiring tick (kept_in was) event → now.resting ≡ resting_then was.wiring tick (kept_in was) event → TableStands now →
    Becomes tick event was now
becomes-open tick event was now after labels resting stands = record {
  wiring = ap (λ (x : Standing). x.wiring) after;
  node_is = ap (λ (x : Standing). x.node) after;
  labels_are = labels;
  in_range = subst (λ (l : Labels). greatest l.given < 2 ^ 20) (sym (ap (λ (x : Standing). x.labels) after));
  resting_is = resting;
  works = ap (λ (x : Standing). x.failed) after;
  table = stands;
  sites = λ label there. ap (λ (x : Standing). use_of x.uses label) after;
}

pub becomes-by : (tick : ℕ) (event : Event) (was now : Standing) →
    now ≡ record was { node = after_event was.wiring was.node event; labels = now.labels; resting = now.resting; uses = now.uses } →
    now.labels ≡ labels_then was.wiring tick (kept_in was) event → now.resting ≡ resting_then was.wiring tick (kept_in was) event →
    greatest now.labels.given < 2 ^ 20 → TableStands now → SitesKeep was now → Becomes tick event was now
becomes-by tick event was now after labels resting few stands keeps = record {
  wiring = ap (λ (x : Standing). x.wiring) after;
  node_is = ap (λ (x : Standing). x.node) after;
  labels_are = labels;
  in_range = λ was_few. few;
  resting_is = resting;
  works = ap (λ (x : Standing). x.failed) after;
  table = stands;
  sites = keeps;
}

-- Contracts see the transport as `seen`, the code as `old`. The node at this index was so.
module _ (t : Network) (old seen : Carried) (view_is : old ≡ seen) (node : ℕ) (event : Event) (may : MayAct t seen node event)
    (index : ℕ) (at : index ≡ node) (was : Standing) (value : was ≡ get_or old.nodes index was) where
  found : slice_get old.nodes node ≡ Some may.was
  found = ap (λ (c : Carried). slice_get c.nodes node) view_is ∙ may.there

  pub same : may.was ≡ was
  same = sym (get_or_from_slice_get old.nodes node may.was was found) ∙ sym (value ∙ ap (λ k. get_or old.nodes k was) at)

  there : slice_get seen.nodes node ≡ Some was
  there = subst (λ (x : Standing). slice_get seen.nodes node ≡ Some x) same may.there

  wiring : was.wiring ≡ wiring_of t
  wiring = subst (λ (x : Standing). x.wiring ≡ wiring_of t) same may.wiring

  -- what it says goes out on links that are there
  pub out-on-links : (tick : ℕ) (out : List Said) → map pdu_of out ≡ pdus_in was.wiring tick (kept_in was) event →
      AllByRecursion (λ (x : Said). x.link.0 < length t.links) out
  out-on-links tick out says =
      subst (λ (w : Wiring). AllByRecursion (λ (x : Said). x.link.0 < length w.ends) out) wiring
      (links-out was.wiring (changed was.wiring was.node event) (changed was.wiring was.node event)
      (own_labels was.node.me (labels_then was.wiring tick (kept_in was) event)) (released_by event) was.node.me
      (said was.wiring was.node event) out
      (own-event was.wiring was.node event (subst (λ (x : Standing). IsHere x.wiring x.node event) same (here-of t seen node event may))) says)

  -- and with that in flight it has acted
  pub acted : {E : Type 0} (tick number : ℕ) (now : Standing) (out : List Said) (items : List (Item (List ℕ))) (r : Result ℕ E)
      → Becomes tick event was now
      → map pdu_of out ≡ pdus_in was.wiring tick (kept_in was) event
      → OnOk r (items ≡ old.messages ++ put_pdus (wiring_of t) node tick number (map pdu_of out))
      → IfOk r (λ next. next ≡ number + length out)
      → IfOk r (λ next. Acts t tick number node event seen (record old { nodes = slice_set old.nodes index now; messages = items }) next)
  acted tick number now out items (Err e) becomes says sent counted = tt
  acted tick number now out items (Ok next) becomes says sent counted =
      let spoken : map pdu_of out ≡ pdus_in (wiring_of t) tick (kept_in was) event = says ∙ ap (λ (w : Wiring). pdus_in w tick (kept_in was) event) wiring in
      record {
        was = was;
        now = now;
        there = there;
        becomes = becomes;
        new_is = ap (λ ms. let c : Carried = record old { nodes = slice_set old.nodes index now; messages = ms } in
            c) (sent ∙ ap (λ ps. old.messages ++ put_pdus (wiring_of t) node tick number ps) spoken)
            ∙ ap (λ k. let c : Carried =
            record old {
              nodes = slice_set old.nodes k now;
              messages =
                  old.messages ++ put_pdus (wiring_of t) node tick number (pdus_in (wiring_of t) tick (kept_in was) event);
            } in c) at
            ∙ ap (λ (o : Carried). let c : Carried =
            record o {
              nodes = slice_set o.nodes node now;
              messages =
                  o.messages ++ put_pdus (wiring_of t) node tick number (pdus_in (wiring_of t) tick (kept_in was) event);
            } in c) view_is;
        next_is = counted ∙ ap (λ n. number + n) (sym (length-map out pdu_of) ∙ ap length spoken);
      }

-- what else is in the transport doesn't matter to a node that may open or close a session
pub may-turn : (t : Network) (old new : Carried) (node l : ℕ) (opens : Bool) → new.nodes ≡ old.nodes → length new.changes ≡ length old.changes →
    MayAct t old node (turned_by opens l) → MayAct t new node (turned_by opens l)
may-turn t old new node l opens same links may = record {
  was = may.was;
  there = ap (λ ns. slice_get ns node) same ∙ may.there;
  wiring = may.wiring;
  me = may.me;
  links = links ∙ may.links;
  sessions = may.sessions;
  link = may.link;
  at_end = may.at_end;
  ready = ready opens may.was.node may.ready;
  numbers = may.numbers;
}
  where
    ready : (b : Bool) (n : Node) → IsReady old.changes n (turned_by b l) → IsReady new.changes n (turned_by b l)
    ready true n h = h
    ready false n h = h

-- one end's act leaves the other end as it was
pub may-second : (t : Network) (tick number a b l : ℕ) (opens : Bool) (old middle : Carried) (next : ℕ) → a ≢ b →
    Acts t tick number a (turned_by opens l) old middle next
    → MayAct t old b (turned_by opens l) → MayAct t middle b (turned_by opens l)
may-second t tick number a b l opens old middle next apart acts may =
    subst (λ (c : Carried). MayAct t c b (turned_by opens l)) (sym acts.new_is)
    (record {
      was = may.was;
      there = get-set_other old.nodes a b acts.now apart ∙ may.there;
      wiring = may.wiring;
      me = may.me;
      links = may.links;
      sessions = may.sessions;
      link = may.link;
      at_end = may.at_end;
      ready = may.ready;
      numbers = may.numbers;
    })

-- what a node learns and receives is out of flight first
pub noticed-is : (t : Network) (old seen : Carried) (node l channel : ℕ) (notices : List (Item Notice)) (taken : Option (Item Notice)) → old ≡ seen →
    channel ≡ l * length t.loopbacks + node
    → taken ≡ slice_get (on_channel channel old.notices) 0 → notices ≡ without taken old.notices →
    (let c : Carried = record old { notices = notices } in c) ≡ noticed t node l seen
noticed-is t old seen node l channel notices flown view_is at first left =
    ap (λ ns. let c : Carried = record old { notices = ns } in
    c) (left ∙ ap (λ o. without o old.notices) (first ∙ ap (λ k. slice_get (on_channel k old.notices) 0) at)) ∙ ap (noticed t node l) view_is

pub taken-is : (old seen : Carried) (l at : ℕ) (dir : Dir) (messages : List (Item (List ℕ))) (flown : Option (Item (List ℕ))) → old ≡ seen → at ≡ channel l dir
    → flown ≡ slice_get (on_channel at old.messages) 0 → messages ≡ without flown old.messages →
    (let c : Carried = record old { messages = messages } in c) ≡ taken l dir seen
taken-is old seen l at dir messages flown view_is is first left =
    ap (λ ms. let c : Carried = record old { messages = ms } in
    c) (left ∙ ap (λ o. without o old.messages) (first ∙ ap (λ k. slice_get (on_channel k old.messages) 0) is)) ∙ ap (taken l dir) view_is

pub may-noticed : (t : Network) (old : Carried) (node l k : ℕ) → MayAct t old node (Learns l) → MayAct t (noticed t node k old) node (Learns l)
may-noticed t old node l k may =
    record {
      was = may.was;
      there = may.there;
      wiring = may.wiring;
      me = may.me;
      links = may.links;
      sessions = may.sessions;
      link = may.link;
      at_end =
          may.at_end;
      ready = may.ready;
      numbers = may.numbers;
    }

pub may-taken : (t : Network) (old : Carried) (node l : ℕ) (dir : Dir) (event : Event) → MayAct t old node event → MayAct t (taken l dir old) node event
may-taken t old node l dir event may =
    record {
      was = may.was;
      there = may.there;
      wiring = may.wiring;
      me = may.me;
      links = may.links;
      sessions = may.sessions;
      link = may.link;
      at_end =
          may.at_end;
      ready = may.ready;
      numbers = may.numbers;
    }

-- the node at this index receives the PDU as one change
module _ (t : Network) (old seen : Carried) (view_is : old ≡ seen) (l : ℕ) (dir : Dir) (event : Event) (may : MayHear t seen l dir event)
    (index : ℕ) (at : index ≡ receiver (wiring_of t) l dir) (was : Standing) (value : was ≡ get_or old.nodes index was) where
  pub hearer : may.may.was ≡ was
  hearer =
      sym (get_or_from_slice_get old.nodes (receiver (wiring_of t) l dir) may.may.was was
      (ap (λ (c : Carried). slice_get c.nodes (receiver (wiring_of t) l dir)) view_is ∙ may.may.there))
      ∙ sym (value ∙ ap (λ k. get_or old.nodes k was) at)

  pub session-lives : session_at was.node l ≡ Some may.session
  session-lives = ap (λ (x : Standing). session_at x.node l) (sym hearer) ∙ may.lives

  -- something flies
  pub flies-next : (on : ℕ) (flown : Option (Item (List ℕ))) → on ≡ channel l dir → flown ≡ slice_get (on_channel on old.messages) 0 → flown ≡ Some may.pdu
  flies-next on flown is first =
      first ∙ ap (λ k. slice_get (on_channel k old.messages) 0) is ∙ ap (λ (c : Carried). slice_get (on_channel (channel l dir) c.messages) 0) view_is
      ∙ may.flies

  pub heard-so : (tick : ℕ) (pdu : Item (List ℕ)) (bytes : List ℕ) → Some pdu ≡ Some may.pdu → bytes ≡ pdu.item
      → after_bytes was.wiring tick l (kept_in was) may.session bytes ≡ Ok (record {
        kept = kept_then was.wiring tick (kept_in was) event;
        said = pdus_in was.wiring tick (kept_in was) event;
      })
  heard-so tick pdu bytes next is =
      subst (λ (x : Standing). after_bytes x.wiring tick l (kept_in x) may.session bytes ≡ Ok (record {
        kept = kept_then x.wiring tick (kept_in x) event;
        said = pdus_in x.wiring tick (kept_in x) event;
      })) hearer
      (ap (after_bytes may.may.was.wiring tick l (kept_in may.may.was) may.session) (is ∙ ap (λ (x : Item (List ℕ)). x.item) (same_Some pdu may.pdu next))
      ∙ may.heard tick)

  spoken : (tick : ℕ) (pdu : Item (List ℕ)) (bytes : List ℕ) (now : Standing) (out : List Said) → Some pdu ≡ Some may.pdu → bytes ≡ pdu.item
      → ((session : Session) → session_at was.node l ≡ Some session →
      after_bytes was.wiring tick l (kept_in was) session bytes ≡ Ok (record { kept = kept_in now; said = map pdu_of out }))
      → (let h : Heard = record { kept = kept_in now; said = map pdu_of out } in h) ≡ record {
        kept = kept_then was.wiring tick (kept_in was) event;
        said = pdus_in was.wiring tick (kept_in was) event;
      }
  spoken tick pdu bytes now out next is hears = one_result _ _ _ (hears may.session session-lives) (heard-so tick pdu bytes next is)
    where
      one_result : (a b : Heard) (r : Result Heard LsrBad) → r ≡ Ok a → r ≡ Ok b → a ≡ b
      one_result a b r e f = cc

  -- what is left in flight, what was taken, and what the node has become and says
  module _ (tick on : ℕ) (flown : Option (Item (List ℕ))) (left : List (Item (List ℕ))) (pdu : Item (List ℕ)) (bytes : List ℕ) (now : Standing)
      (out : List Said)
      (on_is : on ≡ channel l dir) (first : flown ≡ slice_get (on_channel on old.messages) 0) (left_is : left ≡ without flown old.messages)
      (flown_is : flown ≡ Some pdu) (bytes_are : bytes ≡ pdu.item)
      (hears : (session : Session) → session_at was.node l ≡ Some session →
      after_bytes was.wiring tick l (kept_in was) session bytes ≡ Ok (record { kept = kept_in now; said = map pdu_of out })) where
    change : (let h : Heard = record { kept = kept_in now; said = map pdu_of out } in h) ≡ record {
      kept = kept_then was.wiring tick (kept_in was) event;
      said = pdus_in was.wiring tick (kept_in was) event;
    }
    change = spoken tick pdu bytes now out (sym flown_is ∙ flies-next on flown on_is first) bytes_are hears

    says : map pdu_of out ≡ pdus_in was.wiring tick (kept_in was) event
    says = ap (λ (h : Heard). h.said) change

    pub hears-on-links : AllByRecursion (λ (x : Said). x.link.0 < length t.links) out
    hears-on-links = out-on-links t old seen view_is (receiver (wiring_of t) l dir) event may.may index at was value tick out says

    pub hears-acts : {E : Type 0} (number me : ℕ) (items : List (Item (List ℕ))) (r : Result ℕ E) → me ≡ receiver (wiring_of t) l dir
        → now ≡ record was { node = now.node; labels = now.labels; resting = now.resting; uses = now.uses } → greatest now.labels.given < 2 ^ 20
        → TableStands now → SitesKeep was now
        → OnOk r (items ≡ left ++ put_pdus (wiring_of t) me tick number (map pdu_of out)) → IfOk r (λ next. next ≡ number + length out)
        → IfOk r (λ next. Acts t tick number (receiver (wiring_of t) l dir) event (taken l dir seen) (record old {
          nodes =
              slice_set old.nodes index now;
          messages = items;
        }) next)
    hears-acts number me items r me_is after few stands keeps sent counted =
        acted t (record old { messages = left }) (taken l dir seen) (taken-is old seen l on dir left flown view_is on_is first left_is)
        (receiver (wiring_of t) l dir) event
        (may-taken t seen (receiver (wiring_of t) l dir) l dir event may.may) index at was value tick number now out items r
        (becomes-by tick event was now
        (after ∙ ap (λ (h : Heard). let s : Standing =
        record was { node = h.kept.node; labels = now.labels; resting = now.resting; uses = now.uses } in s) change)
        (ap (λ (h : Heard). h.kept.labels) change) (ap (λ (h : Heard). h.kept.resting) change) few stands keeps) says
        (subst (λ n. OnOk r (items ≡ left ++ put_pdus (wiring_of t) n tick number (map pdu_of out))) me_is sent) counted
