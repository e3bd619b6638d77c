use Rattle.std.proofs.Common.{◌≡◌, Ok, sym, ap, ◌∙◌}
use Rattle.mn_pcap.specs.Reading.{header_of, records_of}
use Rattle.mn_capture.proofs.Packets.{packets_whole}
use Rattle.mn_perform.proofs.memory.MemoryCapture.read.Goals as goal

pub returns-clause-packets : goal.returns-clause-packets
returns-clause-packets c =
    let head : header_of c.args.bytes.items ≡ Ok c.in_ok-form.form = ap header_of (sym c.deref.ensures.value) ∙ sym c.in_ok-form.ensures in
    let found : records_of c.args.bytes.items ≡ Ok c.in_ok-places.places.items =
    ap records_of (sym c.deref-2.ensures.value) ∙ c.in_ok-places.ensures.reading in
    packets_whole c.args.bytes.items c.in_ok-form.form c.in_ok-places.places.items head found
