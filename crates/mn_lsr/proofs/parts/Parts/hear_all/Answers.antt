use Rattle.std.proofs.Common.{ℕ, ◌≡◌, ◌<◌, ◌++◌, ◌∙◌, List, map, length, sym, ap, subst, slice_index_or}
use Rattle.std.specs.Prelude.{None}
use Rattle.mn_wiring.specs.Wiring.{Wiring}
use Rattle.mn_lsr.specs.Standing.{IsAttachment}
use Rattle.mn_ldp_wire.specs.declared.message.LdpMessage.{LdpMessage}
use Rattle.mn_ldp_session.specs.Spelling.{message_in}
use Rattle.mn_lsr.specs.declared.parts.Parts.{Parts}
use Rattle.mn_lsr.specs.Said.{pdu_of}
use Rattle.mn_lsr.specs.Hearing.{after_message, machine_then}
use Rattle.mn_lsr.specs.Parts.{wiring_in, kept_of}
use Rattle.mn_lsr.proofs.HeardAll.{said-step, node-step, accepts-rest}
use Rattle.mn_lsr.proofs.parts.Parts.hear_all.Goals as goal

pub loop-message-preserved : goal.loop-message-preserved
loop-message-preserved c =
    let p : Parts = c.args.self.now in
    let q : Parts = c.loop-message.self in
    let l : ℕ = c.args.receipt.link.0 in
    let ms : List LdpMessage = c.args.messages.now in
    let i : ℕ = c.loop-message.message-index in
    let d : LdpMessage = c.message-item.result in
    let item : d ≡ slice_index_or ms i d = c.message-item.is in
    let below = c.loop-message-test.true in
    let wiring : wiring_in q ≡ wiring_in p = ap (λ (x : Parts). wiring_in x) c.loop-message.invariant.others in
    let kept : kept_of c.hear.new.self ≡ (after_message (wiring_in p) c.args.receipt.tick l (kept_of q) (message_in (wiring_in p) (slice_index_or
    ms i d).body)).kept =
    c.in_ok-hear.ensures.kept ∙ ap (λ (w : Wiring). (after_message w c.args.receipt.tick l (kept_of q) (message_in w d.body)).kept) wiring
    ∙ ap (λ (m : LdpMessage). (after_message (wiring_in p) c.args.receipt.tick l (kept_of q) (message_in (wiring_in p) m.body)).kept) item in
    let said : map pdu_of c.hear.new.out.items ≡ map pdu_of c.loop-message.out.items ++
    (after_message (wiring_in p) c.args.receipt.tick l (kept_of q) (message_in (wiring_in p) (slice_index_or ms i d).body)).said =
    c.in_ok-hear.ensures.said
    ∙ ap (λ (w : Wiring). map pdu_of c.loop-message.out.items ++ (after_message w c.args.receipt.tick l (kept_of q) (message_in w d.body)).said) wiring
    ∙ ap (λ (m : LdpMessage). map pdu_of c.loop-message.out.items
    ++ (after_message (wiring_in p) c.args.receipt.tick l (kept_of q) (message_in (wiring_in p) m.body)).said) item
    in
    record {
      stands = c.in_ok-hear.ensures.stands;
      there = subst (λ (x : Parts). l < length x.view.ends) (sym c.in_ok-hear.ensures.others) c.loop-message.invariant.there;
      others = c.in_ok-hear.ensures.others ∙ ap (λ (x : Parts). let o : Parts =
          record x { sessions = c.hear.new.self.sessions; lib = c.hear.new.self.lib; labels = c.hear.new.self.labels; lfib = c.hear.new.self.lfib } in
          o) c.loop-message.invariant.others;
      numbers = c.in_ok-hear.ensures.numbers;
      accepted = accepts-rest ms i d below q.sessions.items c.hear.new.self.sessions.items l c.args.receipt.from c.loop-message.invariant.accepted
          (c.in_ok-hear.ensures.machine ∙ ap (λ (m : LdpMessage). machine_then (slice_index_or q.sessions.items l None) m.body) item);
      said = said-step ms i d below (wiring_in p) c.args.receipt.tick l (kept_of q) (kept_of c.hear.new.self) (map pdu_of c.loop-message.out.items)
          (map pdu_of c.hear.new.out.items) kept said ∙ c.loop-message.invariant.said;
      kept = node-step ms i d below (wiring_in p) c.args.receipt.tick l (kept_of q) (kept_of c.hear.new.self) kept ∙ c.loop-message.invariant.kept;
      sites = λ label is.
          let was = c.loop-message.invariant.sites label is in
          let now = c.in_ok-hear.ensures.sites label (subst IsAttachment (sym was.0) is) in
          (now.0 ∙ was.0, now.1 ∙ was.1);
    }
