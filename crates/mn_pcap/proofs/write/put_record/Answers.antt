use Rattle.std.proofs.Common.{◌≡◌, ◌++◌, append_assoc, OnOk, Result, Ok, Err, is_ok, if◌then◌else◌, ap, ◌∙◌, List, ℕ, length}
use Rattle.mn_pcap.specs.Format.{record_header}
use Rattle.mn_pcap.proofs.write.put_record.Goals as goal

-- a record is its header and its bytes, appended in turn
in_turn : {T E : Type 0} (r : Result T E) (new headed old header bytes : List ℕ) → new ≡ (if is_ok r then headed ++ bytes else headed) →
    headed ≡ old ++ header → OnOk r (new ≡ old ++ (header ++ bytes))
in_turn (Ok x) new headed old header bytes last first = last ∙ ap (λ l. l ++ bytes) first ∙ append_assoc old header bytes
in_turn (Err e) new headed old header bytes last first = tt

pub returns-clause-written : goal.returns-clause-written
returns-clause-written c =
    in_turn c.extend_from_slice-2.result c.extend_from_slice-2.new.self.items c.extend_from_slice.new.self.items c.args.out.now.items
    (record_header c.args.tick (length c.args.bytes.now)) c.args.bytes.now
    c.extend_from_slice-2.ensures.items (c.in_ok-extend_from_slice.ensures.items ∙ ap (λ l. l ++ c.header_of_record.result) c.in_ok-reserve.ensures.items
    ∙ ap (λ l. c.args.out.now.items ++ l) c.header_of_record.ensures)
