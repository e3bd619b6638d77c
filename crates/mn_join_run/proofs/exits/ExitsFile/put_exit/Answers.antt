use Rattle.std.proofs.Common.{◌≡◌, ◌++◌, ap}
use Rattle.mn_pcap.specs.Format.{record_of}
use Rattle.mn_perform.proofs.Adding.{on_err, ok_then, err_then, framed_then}
use Rattle.mn_join_run.proofs.Files.{both_grow, second_grows, first_grows}
use Rattle.mn_join_run.proofs.exits.ExitsFile.put_exit.Goals as goal

pub returns-in_err-append-clause-part : goal.returns-in_err-append-clause-part
returns-in_err-append-clause-part g c =
    let both : c.record_header.result ++ c.args.packet.now ≡ record_of c.args.tick c.args.packet.now =
    ap (λ h. h ++ c.args.packet.now) c.record_header.ensures in
    on_err c.from_residual.result _ (λ bytes holding.
    first_grows c.args.self.now.names bytes c.record_header.result c.args.packet.now (record_of c.args.tick c.args.packet.now) _ both
    (c.in_err-append.ensures.part bytes holding))

pub returns-clause-grown : goal.returns-clause-grown
returns-clause-grown g c =
    let both : c.record_header.result ++ c.args.packet.now ≡ record_of c.args.tick c.args.packet.now =
    ap (λ h. h ++ c.args.packet.now) c.record_header.ensures in
    ok_then c.append-2.result _ _ c.append-2.ensures.grown (λ grown bytes holding.
    both_grow c.args.self.now.names c.append.new.self.names bytes c.record_header.result c.args.packet.now (record_of c.args.tick c.args.packet.now)
    c.append.new.self.held c.append-2.new.self.held _ _ c.in_ok-append.ensures.names both grown (c.in_ok-append.ensures.grown bytes holding))

pub returns-clause-part : goal.returns-clause-part
returns-clause-part g c =
    let both : c.record_header.result ++ c.args.packet.now ≡ record_of c.args.tick c.args.packet.now =
    ap (λ h. h ++ c.args.packet.now) c.record_header.ensures in
    err_then c.append-2.result _ _ c.append-2.ensures.part (λ part bytes holding.
    second_grows c.args.self.now.names c.append.new.self.names bytes c.record_header.result c.args.packet.now (record_of c.args.tick c.args.packet.now)
    c.append.new.self.held c.append-2.new.self.held _ _ c.in_ok-append.ensures.names both part (c.in_ok-append.ensures.grown bytes holding))

pub returns-clause-framed : goal.returns-clause-framed
returns-clause-framed g c =
    framed_then c.args.self.now.names c.append.new.self.names _ _ _ c.in_ok-append.ensures.names c.in_ok-append.ensures.framed c.append-2.ensures.framed
