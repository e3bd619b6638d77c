use Rattle.std.proofs.Common.{arith, refl, ◌∙◌, ap, ◌<◌, length, length-append, take, List, ℕ}
use Rattle.std.proofs.lemmas.List.{length-take-le, take_rest}
use Rattle.mn_pcap.specs.Grammar.{number}
use Rattle.mn_pcap.proofs.Steps.{wanting_record, header_more, header_refused_there, header_done}
use Rattle.mn_pcap.proofs.cursor.Cursor.record_header.Goals as goal

pub returns-then-header-lt-RECORD_HEADER : goal.returns-then-header-lt-RECORD_HEADER
returns-then-header-lt-RECORD_HEADER c =
    let held : length c.args.self.now.head < 16 = wanting_record c.args.self.now.stage c.args.form _ c.requires.stage c.args.self.now.wanting in
    record {
      some = omega arith;
      within = omega arith;
      fed = omega arith;
      follows =
          λ bytes done f. header_more c.args.self.now _ bytes c.args.rest.now done c.fill-taken.result c.args.form f c.requires.stage
          (omega arith) c.fill-taken.ensures.filled (let l = ap length c.as_slice-header.ensures.held in omega arith) c.requires.stage refl refl refl;
    }

pub returns-then-length-gt-SNAPLEN : goal.returns-then-length-gt-SNAPLEN
returns-then-length-gt-SNAPLEN c =
    let held : length c.args.self.now.head < 16 = wanting_record c.args.self.now.stage c.args.form _ c.requires.stage c.args.self.now.wanting in
    record {
      some = omega arith;
      within = omega arith;
      fed = omega arith;
      follows =
          λ bytes done f. header_refused_there c.args.self.now _ bytes c.args.rest.now done c.fill-taken.result c.args.form c.as_slice-header.result.now
          c.read_u32-length.result f c.requires.stage (c.as_slice-header.ensures.held ∙ c.fill-taken.ensures.filled) (let l =
          ap length (c.as_slice-header.ensures.held ∙ c.fill-taken.ensures.filled) in let a =
          length-append c.args.self.now.head (take c.fill-taken.result c.args.rest.now) in let t =
          length-take-le c.fill-taken.result c.args.rest.now (omega arith) in
          omega arith) (c.read_u32-length.ensures ∙ ap (λ (xs : List ℕ). number c.args.form.big 4 xs) (take_rest c.as_slice-header.result.now 8))
          (omega arith) refl refl;
    }

pub returns : goal.returns
returns c =
    let held : length c.args.self.now.head < 16 = wanting_record c.args.self.now.stage c.args.form _ c.requires.stage c.args.self.now.wanting in
    record {
      some = omega arith;
      within = omega arith;
      fed = omega arith;
      follows = λ bytes done f. let m =
          header_done c.args.self.now bytes c.args.rest.now done c.fill-taken.result c.args.form c.as_slice-header.result.now c.read_u32-length.result f
          c.requires.stage (omega arith) (c.as_slice-header.ensures.held ∙ c.fill-taken.ensures.filled) (let l =
          ap length (c.as_slice-header.ensures.held ∙ c.fill-taken.ensures.filled) in let a =
          length-append c.args.self.now.head (take c.fill-taken.result c.args.rest.now) in let t =
          length-take-le c.fill-taken.result c.args.rest.now (omega arith) in
          omega arith) (c.read_u32-length.ensures ∙ ap (λ (xs : List ℕ). number c.args.form.big 4 xs) (take_rest c.as_slice-header.result.now 8))
          (omega arith) in c.go_on-place.ensures.follows _ done m.1 m.0 f.whole;
    }
