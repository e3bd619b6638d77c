use Rattle.std.proofs.Common.{◌∷◌, ◌++◌, [], List, sym, ◌∙◌, refl, arith}
use Rattle.std.proofs.lemmas.List.{length_push}
use Rattle.mn_pcap.specs.declared.message.Place.{Place}
use Rattle.mn_pcap.proofs.InOrder.{begins_by, continues_by, counted}
use Rattle.mn_pcap.proofs.read.count_records.Goals as goal

pub records-init : goal.records-init
records-init c = ([], refl, omega arith, begins_by c.args.bytes.now c.in-Ok.form [] (sym c.read_header.ensures ∙ c.in-Ok.is) refl)

pub records-preserved : goal.records-preserved
records-preserved c =
    let done : List Place = c.records.invariant.0 in
    let more = length_push done c.in-Ok-record_at.place in (
      done ++ c.in-Ok-record_at.place ∷ [],
      omega arith,
      omega (arith, c.in-Ok-record_at.ensures.further),
      continues_by c.in-Ok.form.big c.args.bytes.now done _ c.records.at _ c.in-Ok-record_at.place
          (sym c.record_at.ensures.place ∙ c.in-Ok-record_at.is) c.end_of-at.ensures refl c.records.invariant.3,
    )

pub returns : goal.returns
returns c =
    sym (counted c.args.bytes.now c.in-Ok.form c.records.invariant.0 c.records.at c.in_default-record_at.field-0 (sym c.read_header.ensures ∙ c.in-Ok.is)
    (sym c.record_at.ensures.place ∙ c.in_default-record_at.is) c.records.invariant.3 ∙ c.records.invariant.1)
