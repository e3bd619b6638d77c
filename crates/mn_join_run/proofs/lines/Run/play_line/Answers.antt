use Rattle.std.proofs.Common.{◌≡◌, ◌++◌, ℕ, List, Some, None, Ok, Err, sym, subst}
use Rattle.std.specs.List.{flat_map}
use Rattle.mn_join_laws.specs.Course.{PairCourse, played}
use Rattle.mn_join.specs.declared.played.PairBad.TheVariants.{TooManySteps}
use Rattle.mn_join.specs.Plays.{Plays}
use Rattle.mn_join_run.specs.Course.{after_course}
use Rattle.mn_join_run.specs.Report.{exit_record}
use Rattle.mn_join_run.specs.Outside.{outside, Holding, Beginning}
use Rattle.mn_join_run.proofs.Noting.{stands_out, cut_out, cut_noted}
use Rattle.mn_join_run.proofs.Played.{went_cut, exits_are, stood_after, topology_of, line_kept, line_noted_cut, line_stops, line_unplayed}
use Rattle.mn_join_run.proofs.lines.Run.play_line.Goals as goal

pub returns-in_ok-note-in-Ok-clause-went : goal.returns-in_ok-note-in-Ok-clause-went
returns-in_ok-note-in-Ok-clause-went g c = λ pairing start run names keeps.
    let course : PairCourse = played pairing c.args.line.now.which run.both c.args.line.now.command c.args.packet.now in
    let plays : Plays pairing course c.play.new.self (Ok c.in-Ok.played) = c.in-Ok.ensures.course keeps.goes pairing run.both keeps.pair_stands in
    let goes : c.play.new.self.stopped ≡ None = c.in-Ok.ensures.stopped in
    rw c.note.ensures.pair (line_kept pairing start run c.args.line.now course c.in-Ok.played c.play.new.self c.note.new.self.desk
    (outside c.note.new.self.desk.page (g.O.Sink.written c.note.new.out) c.note.new.self.file.held (g.S.Shelf.files c.note.new.shelf)) plays goes keeps.running
    (c.in_ok-note-in-Ok.ensures.noted pairing start run course names
    (topology_of pairing c.play.new.self course.both c.args.line.now.which (stood_after pairing course c.play.new.self c.in-Ok.played plays))
    (exits_are pairing course c.play.new.self c.in-Ok.played plays) keeps.sendings keeps.outside))

pub returns-in_err-note-in-Ok-clause-went : goal.returns-in_err-note-in-Ok-clause-went
returns-in_err-note-in-Ok-clause-went g c = λ pairing start run names keeps.
    let course : PairCourse = played pairing c.args.line.now.which run.both c.args.line.now.command c.args.packet.now in
    let plays : Plays pairing course c.play.new.self (Ok c.in-Ok.played) = c.in-Ok.ensures.course keeps.goes pairing run.both keeps.pair_stands in
    let now = outside c.note.new.self.desk.page (g.O.Sink.written c.note.new.out) c.note.new.self.file.held (g.S.Shelf.files c.note.new.shelf) in
    went_cut pairing start (after_course pairing run c.args.line.now course course.ending) c.note.new.self.pair c.note.new.self.desk now c.from_residual.result
    _
    c.from_residual.ensures.1
    (line_noted_cut pairing start run c.args.line.now course c.in-Ok.played c.play.new.self now plays
    (c.in_err-note-in-Ok.ensures.noted pairing start run course names
    (topology_of pairing c.play.new.self course.both c.args.line.now.which (stood_after pairing course c.play.new.self c.in-Ok.played plays))
    (exits_are pairing course c.play.new.self c.in-Ok.played plays) keeps.sendings keeps.outside))

pub returns-in_ok-put_exits-in-Err-TooManySteps-clause-went : goal.returns-in_ok-put_exits-in-Err-TooManySteps-clause-went
returns-in_ok-put_exits-in-Err-TooManySteps-clause-went g c = λ pairing start run names keeps.
    let course : PairCourse = played pairing c.args.line.now.which run.both c.args.line.now.command c.args.packet.now in
    let plays : Plays pairing course c.play.new.self (Err TooManySteps) =
    rw c.in-Err-TooManySteps.field-0-is at (c.in-Err-TooManySteps.ensures.course keeps.goes pairing run.both keeps.pair_stands) in
    line_stops pairing start run c.args.line.now course c.play.new.self c.args.self.now.desk
    (outside c.args.self.now.desk.page (g.O.Sink.written c.args.out.now) c.put_exits.new.self.held (g.S.Shelf.files c.put_exits.new.shelf)) plays
    (stands_out start run course c.play.new.self.exits plays.2 c.args.self.now.desk.page (g.O.Sink.written c.args.out.now) c.args.self.now.file.held
    c.put_exits.new.self.held (g.S.Shelf.files c.args.shelf.now) (g.S.Shelf.files c.put_exits.new.shelf) keeps.outside
    (subst (λ n. (bytes : List ℕ) → Holding n bytes c.args.self.now.file.held (g.S.Shelf.files c.args.shelf.now) →
    Holding n (bytes ++ flat_map exit_record c.play.new.self.exits) c.put_exits.new.self.held (g.S.Shelf.files c.put_exits.new.shelf)) (sym names)
    c.in_ok-put_exits-in-Err-TooManySteps.ensures.grown))

pub returns-in_err-put_exits-in-Err-TooManySteps-clause-went : goal.returns-in_err-put_exits-in-Err-TooManySteps-clause-went
returns-in_err-put_exits-in-Err-TooManySteps-clause-went g c = λ pairing start run names keeps.
    let course : PairCourse = played pairing c.args.line.now.which run.both c.args.line.now.command c.args.packet.now in
    let plays : Plays pairing course c.play.new.self (Err TooManySteps) =
    rw c.in-Err-TooManySteps.field-0-is at (c.in-Err-TooManySteps.ensures.course keeps.goes pairing run.both keeps.pair_stands) in
    let now = outside c.args.self.now.desk.page (g.O.Sink.written c.args.out.now) c.put_exits.new.self.held (g.S.Shelf.files c.put_exits.new.shelf) in
    went_cut pairing start (after_course pairing run c.args.line.now course course.ending) c.play.new.self c.args.self.now.desk now
    c.from_residual-in_err-put_exits-in-Err-TooManySteps.result _ c.from_residual-in_err-put_exits-in-Err-TooManySteps.ensures.1
    (cut_noted pairing start run c.args.line.now course course.ending now
    (cut_out start run course c.play.new.self.exits plays.2 c.args.self.now.desk.page (g.O.Sink.written c.args.out.now) c.args.self.now.file.held
    c.put_exits.new.self.held (g.S.Shelf.files c.args.shelf.now) (g.S.Shelf.files c.put_exits.new.shelf) keeps.outside
    c.args.self.now.desk.page c.put_exits.new.self.held
    (subst (λ n. (bytes : List ℕ) → Holding n bytes c.args.self.now.file.held (g.S.Shelf.files c.args.shelf.now) →
    Beginning n (bytes ++ flat_map exit_record c.play.new.self.exits) (g.S.Shelf.files c.put_exits.new.shelf)) (sym names)
    c.in_err-put_exits-in-Err-TooManySteps.ensures.part)))

pub returns-in-Err-NoMemory-clause-went : goal.returns-in-Err-NoMemory-clause-went
returns-in-Err-NoMemory-clause-went g c = λ pairing start run names keeps.
    line_unplayed pairing start run c.args.line.now (Some c.args.packet.now)
    (outside c.args.self.now.desk.page (g.O.Sink.written c.args.out.now) c.args.self.now.file.held (g.S.Shelf.files c.args.shelf.now)) keeps.outside
