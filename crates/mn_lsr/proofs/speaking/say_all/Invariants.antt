use Rattle.std.proofs.Common.{◌≡◌, ◌++◌, map, length, drop}
use Rattle.std.specs.List.{flat_map}
use Rattle.mn_wiring.specs.Wiring.{Wiring}
use Rattle.mn_lsr.specs.Telling.{said_by_tell, MayTell}
use Rattle.mn_labels.specs.Labels.{own_labels}
use Rattle.mn_lsr.specs.Said.{pdu_of}
use Rattle.mn_lsr.specs.Parts.{pdus_by, ends_after, NumbersFit}
use Rattle.mn_lsr.proofs.speaking.say_all.Given as goal

abbrev pub invariant-loop-tell : goal.invariant-loop-tell
invariant-loop-tell l = let w : Wiring = record { loopbacks = l.speaker.loopbacks.now; ends = l.speaker.ends.now } in record {
  said : map pdu_of l.out.items ++ pdus_by w l.speaker.me.0 (own_labels l.speaker.me.0 l.speaker.labels.now.labels) l.speaker.withdrawn l.sessions.items
      (flat_map (said_by_tell w l.speaker.me.0) (drop l.tell-index l.tells))
      ≡ map pdu_of l.fn.out.items ++ pdus_by w l.speaker.me.0 (own_labels l.speaker.me.0 l.speaker.labels.now.labels) l.speaker.withdrawn l.fn.sessions.items
      (flat_map (said_by_tell w l.speaker.me.0) l.tells);
  counted : ends_after l.sessions.items (flat_map (said_by_tell w l.speaker.me.0) (drop l.tell-index l.tells)) ≡ ends_after l.fn.sessions.items
      (flat_map (said_by_tell w l.speaker.me.0) l.tells);
  one_each : length l.sessions.items ≡ length l.speaker.ends.now;
  numbers : NumbersFit l.sessions.items (length l.out.items);
  may : MayTell (length l.speaker.loopbacks.now) l.speaker.me.0 l.speaker.labels.now.labels l.speaker.withdrawn (drop l.tell-index l.tells);
}
