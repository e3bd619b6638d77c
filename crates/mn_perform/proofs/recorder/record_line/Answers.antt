use Rattle.std.proofs.Common.{sym, subst}
use Rattle.std.specs.Option.{ForSome}
use Rattle.mn_course_laws.specs.Course.{inputs_of}
use Rattle.mn_net_laws.specs.Now.{StandsFor}
use Rattle.mn_perform.specs.Recorded.{Records, told_packets}
use Rattle.mn_perform.proofs.recorder.record_line.Goals as goal

pub record_on-requires-clause-together : goal.record_on-requires-clause-together
record_on-requires-clause-together g c =
    subst (λ b. ForSome (told_packets (g.S.Shelf.files c.args.shelf.now) b.names c.args.capture.now) (λ all.
    StandsFor c.args.net.now (inputs_of all c.args.net.now.journal)
    × Records c.args.net.now.topology c.args.net.now.journal all b (g.S.Shelf.files c.args.shelf.now))) (sym c.books.view_is) c.requires.together
