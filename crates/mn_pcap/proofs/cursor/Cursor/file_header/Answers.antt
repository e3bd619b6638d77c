use Rattle.std.proofs.Common.{arith, refl, sym, ◌∙◌, ap, ◌<◌, length}
use Rattle.mn_pcap.specs.Reading.{header_of}
use Rattle.mn_pcap.proofs.Pieces.{header_cut}
use Rattle.mn_pcap.proofs.Steps.{wanting_file, wants_file, file_read, file_refused, file_goes_on}
use Rattle.mn_pcap.proofs.cursor.Cursor.file_header.Goals as goal

pub invariant_of-self-else-lasts : goal.invariant_of-self-else-lasts
invariant_of-self-else-lasts c =
    let cut = header_cut c.as_slice.result.now c.in-Err.bad (sym c.read_header.ensures ∙ c.in-Err.is) (sym c.lasts.ensures ∙ c.if-lasts.false) in
    let l = ap length c.as_slice.ensures.held in
    record { wanting = wants_file c.args.self.now.stage _ c.requires.stage (let short = cut.1 in omega arith) }

pub returns-in-Ok : goal.returns-in-Ok
returns-in-Ok c =
    let held : length c.args.self.now.head < 24 = wanting_file c.args.self.now.stage _ c.requires.stage c.args.self.now.wanting in
    record {
      some = omega arith;
      within = omega arith;
      fed = omega arith;
      follows =
          λ bytes done f. file_read c.args.self.now _ bytes c.args.rest.now done c.fill-taken.result c.as_slice.result.now c.in-Ok.form f c.requires.stage
          (omega arith) (c.as_slice.ensures.held ∙ c.fill-taken.ensures.filled) c.as_slice.ensures.size
          (sym c.read_header.ensures ∙ c.in-Ok.is) refl c.clear.ensures refl refl refl;
    }

pub returns-in-Err : goal.returns-in-Err
returns-in-Err c =
    let held : length c.args.self.now.head < 24 = wanting_file c.args.self.now.stage _ c.requires.stage c.args.self.now.wanting in
    record {
      some = omega arith;
      within = omega arith;
      fed = omega arith;
      follows =
          λ bytes done f. file_refused c.args.self.now _ bytes c.args.rest.now done c.fill-taken.result c.as_slice.result.now c.in-Err.bad f
          c.requires.stage (c.as_slice.ensures.held ∙ c.fill-taken.ensures.filled) (sym c.read_header.ensures ∙ c.in-Err.is)
          (sym c.lasts.ensures ∙ c.if-lasts.true) refl refl;
    }

pub returns-else-lasts : goal.returns-else-lasts
returns-else-lasts c =
    let held : length c.args.self.now.head < 24 = wanting_file c.args.self.now.stage _ c.requires.stage c.args.self.now.wanting in
    record {
      some = omega arith;
      within = omega arith;
      fed = omega arith;
      follows =
          λ bytes done f. file_goes_on c.args.self.now _ bytes c.args.rest.now done c.fill-taken.result c.in-Err.bad f c.requires.stage
          (omega arith) c.fill-taken.ensures.filled (ap header_of (sym c.as_slice.ensures.held) ∙ sym c.read_header.ensures ∙ c.in-Err.is)
          (sym c.lasts.ensures ∙ c.if-lasts.false) c.requires.stage refl refl refl;
    }
