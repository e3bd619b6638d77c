use Rattle.std.proofs.Common.{◌≡◌, ◌<◌, ◌++◌, map, length, drop, slice_index_or}
use Rattle.std.specs.Prelude.{None}
use Rattle.mn_lsr.specs.Said.{pdu_of}
use Rattle.mn_lsr.specs.Hearing.{after_messages, AcceptsAll}
use Rattle.mn_lsr.specs.Parts.{wiring_in, kept_of, SitesStay, machines_of, NumbersFit, Stands}
use Rattle.mn_lsr.proofs.parts.Parts.hear_all.Given as goal

abbrev pub invariant-loop-message : goal.invariant-loop-message
invariant-loop-message l = record {
  stands : Stands l.self;
  there : l.receipt.link.0 < length l.self.view.ends;
  others : l.self ≡ record l.fn.self { sessions = l.self.sessions; lib = l.self.lib; labels = l.self.labels; lfib = l.self.lfib };
  numbers : NumbersFit l.self.sessions.items (length l.out.items);
  accepted : AcceptsAll (slice_index_or (machines_of l.self.sessions.items) l.receipt.link.0 None) l.receipt.from (drop l.message-index l.messages);
  said : map pdu_of l.out.items ++ (after_messages (wiring_in l.fn.self) l.receipt.tick l.receipt.link.0 (kept_of l.self) (drop l.message-index
      l.messages)).said ≡
      (after_messages (wiring_in l.fn.self) l.receipt.tick l.receipt.link.0 (kept_of l.fn.self) l.messages).said;
  kept : (after_messages (wiring_in l.fn.self) l.receipt.tick l.receipt.link.0 (kept_of l.self) (drop l.message-index l.messages)).kept ≡
      (after_messages (wiring_in l.fn.self) l.receipt.tick l.receipt.link.0 (kept_of l.fn.self) l.messages).kept;
  sites : SitesStay l.fn.self l.self;
}
