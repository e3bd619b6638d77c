-- A step is done in the ledger's words.
use Rattle.std.proofs.Common.{ℕ, ◌≡◌, ◌+◌, ◌-◌, ◌*◌, ◌<◌, Bool, true, false, List, [], ◌++◌, length, map, refl, arith, sym, ◌∙◌, ap, subst, append-nil, Some}
use Rattle.std.specs.Prelude.{if◌then◌else◌}
use Rattle.std.specs.List.{flat_map}
use Rattle.std.proofs.lemmas.List.FromFn.{length-map-range_with_len}
use Rattle.mn_base.proofs.Bools.{less_tells}
use Rattle.mn_wiring.specs.Wiring.{link, nodes_of, is_end}
use Rattle.mn_linkdb.specs.Changes.{is_link_up}
use Rattle.mn_node.specs.Machine.{Opens, Closes}
use Rattle.mn_base.specs.declared.numbers.LinkNo.{LinkNo}
use Rattle.mn_topo.specs.Network.{Network, wiring_of}
use Rattle.mn_topo.specs.Lawful.{IsLawful}
use Rattle.mn_topo.specs.declared.steps.Step.{Step}
use Rattle.mn_topo.specs.declared.steps.Step.TheVariants as step
use Rattle.mn_topo.specs.declared.steps.JournalEntry.{JournalEntry}
use Rattle.mn_ledger.specs.Transport.{is_transport}
use Rattle.mn_ledger.specs.Ledger.{world_of, after, no_packets}
use Rattle.mn_ledger.specs.Lawful.{IsLawfulJournal}
use Rattle.mn_slice_laws.proofs.Nodes.{by_nodes}
use Rattle.mn_reuse_laws.specs.Resting.{rested_of}
use Rattle.mn_reuse_laws.specs.Relabelled.{event_with, labels_at}
use Rattle.mn_ledger.specs.Items.{Channel, Load, Notices, Notice as ANotice, message_of, numbered}
use Rattle.mn_slice_laws.specs.Slice.{node_at, turned, acting}
use Rattle.mn_slice_laws.specs.Steps.{node_says}
use Rattle.mn_frame_laws.specs.Given.{given}
use Rattle.mn_timetable_laws.specs.Keys.{keys_in, keys_on, of_notices, of_messages, messages_leave}
use Rattle.mn_timetable_laws.specs.Steps.{pushed, messages_now}
use Rattle.mn_timetable_laws.proofs.Keys.{keys_put}
use Rattle.mn_transport_laws.specs.Carried.{Carried}
use Rattle.mn_transport_laws.specs.Sending.{notices_to}
use Rattle.mn_transport_laws.specs.Acting.{turned_by}
use Rattle.mn_transport_laws.specs.Doing.{TurnsIf, TurnsLink, Switches, told, switched}
use Rattle.mn_transport_laws.specs.Stands.{StandsFor, IsTransport}
use Rattle.mn_transport_laws.specs.Steps.{IsTurn, Did}
use Rattle.mn_transport_laws.proofs.Others.{world-then}
use Rattle.mn_transport_laws.proofs.Puts.{Puts, keys-told, keys-cut}
use Rattle.mn_transport_laws.proofs.Own.{IsHere}
use Rattle.mn_transport_laws.proofs.Events.{not_off, no_end, an_end, no_event, switch_turns, happens-up, happens-down, happens-switch}
use Rattle.mn_transport_laws.proofs.Ends.{turned-puts, quiet-puts}
use Rattle.mn_transport_laws.proofs.Ready.{switch-at, up-at}
use Rattle.mn_transport_laws.proofs.Goes.{Rest, act-rest, both-rest, same-rest, goes-up, goes-down, goes-switch}

-- what stands for the world after the step is the transport after the journal with this entry more
pub then-stands : (t : Network) (es : List JournalEntry) (tick : ℕ) (s : Step) (new : Carried) →
    StandsFor t (given t (pushed es tick s)) (rested_of t (pushed es tick s)) (after t (world_of t es) s) new → IsTransport t (pushed es tick s) new
then-stands t es tick s new stands =
    subst (λ v. StandsFor t (given t (pushed es tick s)) (rested_of t (pushed es tick s)) v new) (sym (world-then t es tick s)) stands

-- what is sent in the step is what the acting nodes say
pub messages-are : (t : Network) (es : List JournalEntry) (lawful : IsLawful t) (s : Step) → IsTurn t (world_of t es) s → is_transport s ≡ true
    → messages_now t es s ≡ map message_of (flat_map (node_says t (world_of t es) s) (acting t s))
messages-are t es lawful s turn moves =
    if_so (is_transport s) moves _
    ∙ ap (map message_of) ((by_nodes t (world_of t es) no_packets s lawful turn.turn turn.fitting turn.changes turn.there).order moves)
  where
    if_so : (b : Bool) → b ≡ true → (xs : List (Channel × Load)) → (if b then xs else []) ≡ xs
    if_so true e xs = refl
    if_so false e xs = cc

-- the notices of a change
pub notices-are : (t : Network) (l tick number : ℕ) (old new : Carried) → new.notices ≡ (told t tick number l old).notices
    → keys_in new.notices ≡ keys_in old.notices ++ keys_on (of_notices (length t.loopbacks))
    (numbered t tick number (map (λ node. let made : Channel × Load = (Notices l node, ANotice) in made) (nodes_of (wiring_of t))))
notices-are t l tick number old new is =
    ap keys_in is ∙ keys_put old.notices (notices_to (l * length t.loopbacks) (tick + t.notice_delay) number (nodes_of (wiring_of t)))
    ∙ ap (λ ks. keys_in old.notices ++ ks) (keys-told t l (tick + t.notice_delay) tick number (nodes_of (wiring_of t)) refl)

module _ (t : Network) (lawful : IsLawful t) (tick number next : ℕ) (old new : Carried) where
  -- the numbers of what a step has made
  made-is : (n : ℕ) (xs : List (Channel × Load)) → next ≡ number + n + length xs → next - number ≡ n + length xs
  made-is n xs e = omega (arith, e)

  length-notices : (l : ℕ) → length (map (λ node. let made : Channel × Load = (Notices l node, ANotice) in made) (nodes_of (wiring_of t))) ≡ length t.loopbacks
  length-notices l = length-map-range_with_len _ 0 (length t.loopbacks)

  here-up : (es : List JournalEntry) (l : LinkNo) → l.0 < length t.links →
      (n : ℕ) → is_end (wiring_of t) l.0 n ≡ true → IsHere (wiring_of t) (node_at t (world_of t es) n) (Opens l.0)
  here-up es l there n at = (there, at, subst (λ k. l.0 < k) (sym (length-map-range_with_len _ 0 (length t.links))) there)

  puts-up : (es : List JournalEntry) (ps : List (List ℕ)) → IsLawfulJournal t es ps → (l : LinkNo) → IsTransport t es old →
      IsTurn t (world_of t es) (step.LinkUp l) →
      TurnsLink t tick number l.0 true old new next
      → Puts t tick (number + length t.loopbacks) (messages_now t es (step.LinkUp l)) (told t tick number l.0 old).messages new.messages next
  puts-up es ps journal l stands turn did =
      subst (λ xs. Puts t tick (number + length t.loopbacks) xs (told t tick number l.0 old).messages new.messages next)
      (sym (messages-are t es lawful (step.LinkUp l) turn refl))
      (by did.on (switch-at t lawful (given t es) (rested_of t es) (world_of t es) old stands l.0 did.on there did.switch) did.session)
    where
      there : l.0 < length t.links
      there = less_tells l.0 (length t.links) turn.fitting

      by : (on : Bool) → on ≡ (world_of t es).config.ldp_on l.0 →
          TurnsIf on t tick (number + length t.loopbacks) l.0 (Opens l.0) (told t tick number l.0 old) new next
          → Puts t tick (number + length t.loopbacks) (map message_of (flat_map (node_says t (world_of t es) (step.LinkUp l)) (acting t (step.LinkUp l))))
          (told t tick number l.0 old).messages new.messages next
      by true e ends =
          turned-puts t lawful es ps journal tick (step.LinkUp l) turn refl l.0 there refl refl (λ site. refl) (Opens l.0)
          (λ n at. happens-up t (world_of t es) l turn.changes true e n ∙ an_end (is_end (wiring_of t) l.0 n) (Some (Opens l.0)) at)
          (λ n at. happens-up t (world_of t es) l turn.changes true e n ∙ no_end (is_end (wiring_of t) l.0 n) (Some (Opens l.0)) at)
          (here-up es l there) (λ n. refl) (number + length t.loopbacks) next (told t tick number l.0 old) new ends stands.each stands.nodes
      by false e same =
          quiet-puts t lawful es ps journal tick (step.LinkUp l) turn refl l.0 there refl refl (λ site. refl)
          (λ n. happens-up t (world_of t es) l turn.changes false e n ∙ no_event (is_end (wiring_of t) l.0 n))
          (number + length t.loopbacks) next (told t tick number l.0 old).messages new.messages (ap (λ (c : Carried). c.messages) same.0) same.1

  puts-down : (es : List JournalEntry) (ps : List (List ℕ)) → IsLawfulJournal t es ps → (l : LinkNo) → IsTransport t es old →
      IsTurn t (world_of t es) (step.LinkDown l) →
      TurnsLink t tick number l.0 false old new next
      → Puts t tick (number + length t.loopbacks) (messages_now t es (step.LinkDown l)) (told t tick number l.0 old).messages new.messages next
  puts-down es ps journal l stands turn did =
      subst (λ xs. Puts t tick (number + length t.loopbacks) xs (told t tick number l.0 old).messages new.messages next)
      (sym (messages-are t es lawful (step.LinkDown l) turn refl))
      (by did.on (switch-at t lawful (given t es) (rested_of t es) (world_of t es) old stands l.0 did.on there did.switch) did.session)
    where
      there : l.0 < length t.links
      there = less_tells l.0 (length t.links) turn.fitting

      was : (world_of t es).config.is_up l.0 ≡ true
      was = not_off ((world_of t es).config.is_up l.0) turn.changes

      by : (on : Bool) → on ≡ (world_of t es).config.ldp_on l.0 →
          TurnsIf on t tick (number + length t.loopbacks) l.0 (Closes l.0) (told t tick number l.0 old) new next
          → Puts t tick (number + length t.loopbacks)
          (map message_of (flat_map (node_says t (world_of t es) (step.LinkDown l)) (acting t (step.LinkDown l))))
          (told t tick number l.0 old).messages new.messages next
      by true e ends =
          turned-puts t lawful es ps journal tick (step.LinkDown l) turn refl l.0 there refl refl (λ site. refl) (Closes l.0)
          (λ n at. happens-down t (world_of t es) l was true e n ∙ an_end (is_end (wiring_of t) l.0 n) (Some (Closes l.0)) at)
          (λ n at. happens-down t (world_of t es) l was true e n ∙ no_end (is_end (wiring_of t) l.0 n) (Some (Closes l.0)) at)
          (λ n at. tt) (λ n. refl) (number + length t.loopbacks) next (told t tick number l.0 old) new ends stands.each stands.nodes
      by false e same =
          quiet-puts t lawful es ps journal tick (step.LinkDown l) turn refl l.0 there refl refl (λ site. refl)
          (λ n. happens-down t (world_of t es) l was false e n ∙ no_event (is_end (wiring_of t) l.0 n))
          (number + length t.loopbacks) next (told t tick number l.0 old).messages new.messages (ap (λ (c : Carried). c.messages) same.0) same.1

  puts-switch : (es : List JournalEntry) (ps : List (List ℕ)) → IsLawfulJournal t es ps → (l : LinkNo) (on : Bool) → IsTransport t es old →
      IsTurn t (world_of t es) (step.LdpAdmin l on) →
      Switches t tick number l.0 on old new next
      → Puts t tick number (messages_now t es (step.LdpAdmin l on)) (switched l.0 on old).messages new.messages next
  puts-switch es ps journal l on stands turn did =
      subst (λ xs. Puts t tick number xs (switched l.0 on old).messages new.messages next) (sym (messages-are t es lawful (step.LdpAdmin l on) turn refl))
      (by (is_link_up old.changes l.0) (up-at t lawful (given t es) (rested_of t es) (world_of t es) old stands l.0 there) did)
    where
      there : l.0 < length t.links
      there = less_tells l.0 (length t.links) turn.fitting

      here : (on : Bool) (n : ℕ) → is_end (wiring_of t) l.0 n ≡ true → IsHere (wiring_of t) (node_at t (world_of t es) n) (turned_by on l.0)
      here true n at = here-up es l there n at
      here false n at = tt

      plain : (b : Bool) (n : ℕ) → event_with (wiring_of t) (labels_at t (pushed es tick (step.LdpAdmin l on))) n (turned_by b l.0) ≡ turned_by b l.0
      plain true n = refl
      plain false n = refl

      by : (up : Bool) → up ≡ (world_of t es).config.is_up l.0 → TurnsIf up t tick number l.0 (turned_by on l.0) (switched l.0 on old) new next
          → Puts t tick number (map message_of (flat_map (node_says t (world_of t es) (step.LdpAdmin l on)) (acting t (step.LdpAdmin l on))))
          (switched l.0 on old).messages new.messages next
      by true e ends =
          turned-puts t lawful es ps journal tick (step.LdpAdmin l on) turn refl l.0 there refl refl (λ site. refl) (turned_by on l.0)
          (λ n at. happens-switch t (world_of t es) l on true e n
          ∙ an_end (is_end (wiring_of t) l.0 n) (turned l.0 ((world_of t es).config.ldp_on l.0) on) at
          ∙ switch_turns l.0 on ((world_of t es).config.ldp_on l.0) turn.changes)
          (λ n at. happens-switch t (world_of t es) l on true e n ∙ no_end (is_end (wiring_of t) l.0 n) (turned l.0 ((world_of t es).config.ldp_on l.0) on) at)
          (here on) (plain on) number next (switched l.0 on old) new ends stands.each stands.nodes
      by false e same =
          quiet-puts t lawful es ps journal tick (step.LdpAdmin l on) turn refl l.0 there refl refl (λ site. refl)
          (λ n. happens-switch t (world_of t es) l on false e n ∙ no_event (is_end (wiring_of t) l.0 n))
          number next (switched l.0 on old).messages new.messages (ap (λ (c : Carried). c.messages) same.0) same.1

  link-rest : (l : ℕ) (up : Bool) → TurnsLink t tick number l up old new next → Rest (told t tick number l old) new
  link-rest l up did = by did.on did.session
    where
      by : (on : Bool) → TurnsIf on t tick (number + length t.loopbacks) l (turned_by up l) (told t tick number l old) new next →
          Rest (told t tick number l old) new
      by true ends =
          both-rest (told t tick number l old) ends.middle new
          (act-rest t tick (number + length t.loopbacks) (link (wiring_of t) l).a.0 (turned_by up l)
          (told t tick number l old) ends.middle ends.second_number ends.first)
          (act-rest t tick ends.second_number (link (wiring_of t) l).b.0 (turned_by up l) ends.middle new next ends.second)
      by false same = same-rest (told t tick number l old) new same.0

  pub switch-rest : (l : ℕ) (on : Bool) → Switches t tick number l on old new next → Rest (switched l on old) new
  switch-rest l on did = by (is_link_up old.changes l) did
    where
      by : (up : Bool) → TurnsIf up t tick number l (turned_by on l) (switched l on old) new next → Rest (switched l on old) new
      by true ends =
          both-rest (switched l on old) ends.middle new
          (act-rest t tick number (link (wiring_of t) l).a.0 (turned_by on l) (switched l on old) ends.middle ends.second_number ends.first)
          (act-rest t tick ends.second_number (link (wiring_of t) l).b.0 (turned_by on l) ends.middle new next ends.second)
      by false same = same-rest (switched l on old) new same.0

  pub did-up : (l : LinkNo) → TurnsLink t tick number l.0 true old new next → Did t tick number (step.LinkUp l) old new (next - number)
  did-up l did = record {
    goes = λ es stands turn. then-stands t es tick (step.LinkUp l) new
        (goes-up t lawful es turn.inputs turn.lawful tick old stands l number new next turn.turn did);
    notices = notices-are t l.0 tick number old new (link-rest l.0 true did).notices;
    messages = λ es stands turn.
        (puts-up es turn.inputs turn.lawful l stands turn.turn did).keys
        ∙ ap (λ ks. ks ++ keys_on (of_messages t) (numbered t tick (number + length t.loopbacks) (messages_now t es (step.LinkUp l))))
        (keys-cut l.0 old.messages)
        ∙ ap (λ n. messages_leave (step.LinkUp l) (keys_in old.messages) ++ keys_on (of_messages t)
        (numbered t tick (number + n) (messages_now t es (step.LinkUp l)))) (sym (length-notices l.0));
    count = λ es stands turn. made-is (length t.loopbacks) (messages_now t es (step.LinkUp l))
        (puts-up es turn.inputs turn.lawful l stands turn.turn did).next_is
        ∙ ap (λ n. n + length (messages_now t es (step.LinkUp l))) (sym (length-notices l.0));
  }

  pub did-down : (l : LinkNo) → TurnsLink t tick number l.0 false old new next → Did t tick number (step.LinkDown l) old new (next - number)
  did-down l did = record {
    goes = λ es stands turn. then-stands t es tick (step.LinkDown l) new
        (goes-down t lawful es turn.inputs turn.lawful tick old stands l number new next turn.turn did);
    notices = notices-are t l.0 tick number old new (link-rest l.0 false did).notices;
    messages = λ es stands turn.
        (puts-down es turn.inputs turn.lawful l stands turn.turn did).keys
        ∙ ap (λ ks. ks ++ keys_on (of_messages t) (numbered t tick (number + length t.loopbacks) (messages_now t es (step.LinkDown l))))
        (keys-cut l.0 old.messages)
        ∙ ap (λ n. messages_leave (step.LinkDown l) (keys_in old.messages) ++ keys_on (of_messages t)
        (numbered t tick (number + n) (messages_now t es (step.LinkDown l)))) (sym (length-notices l.0));
    count = λ es stands turn. made-is (length t.loopbacks) (messages_now t es (step.LinkDown l))
        (puts-down es turn.inputs turn.lawful l stands turn.turn did).next_is
        ∙ ap (λ n. n + length (messages_now t es (step.LinkDown l))) (sym (length-notices l.0));
  }

  no-more : (number : ℕ) → number ≡ number + 0
  no-more number = omega arith

  pub did-switch : (l : LinkNo) (on : Bool) → Switches t tick number l.0 on old new next → Did t tick number (step.LdpAdmin l on) old new (next - number)
  did-switch l on did = record {
    goes = λ es stands turn. then-stands t es tick (step.LdpAdmin l on) new
        (goes-switch t lawful es turn.inputs turn.lawful tick old stands l on number new next turn.turn did);
    notices = ap keys_in (switch-rest l.0 on did).notices ∙ sym (append-nil (keys_in old.notices));
    messages = λ es stands turn.
        (puts-switch es turn.inputs turn.lawful l on stands turn.turn did).keys
        ∙ ap (λ ks. ks ++ keys_on (of_messages t) (numbered t tick number (messages_now t es (step.LdpAdmin l on)))) (keys-cut l.0 old.messages)
        ∙ ap (λ n. messages_leave (step.LdpAdmin l on) (keys_in old.messages) ++ keys_on (of_messages t)
        (numbered t tick n (messages_now t es (step.LdpAdmin l on)))) (no-more number);
    count = λ es stands turn. let n = (puts-switch es turn.inputs turn.lawful l on stands turn.turn did).next_is in omega (arith, n);
  }
