use Rattle.std.proofs.Common.{refl}
use Rattle.mn_wiring.specs.declared.links.Dir.TheVariants.{Forth, Back}
use Rattle.mn_topo.specs.Network.{Network}
use Rattle.mn_ledger.specs.Items.{flight_of, items_on, Frames}
use Rattle.mn_output_laws.specs.Tables.{frames_line}
use Rattle.mn_tables.proofs.Telling.{told_by, tells_then, tells_first, counted_err, counted_then}
use Rattle.mn_report.proofs.Standing.{of_topology}
use Rattle.mn_report.proofs.flight.put_frames_of.Goals as goal

pub put_frames-requires : goal.put_frames-requires
put_frames-requires g c = rw c.topology.ensures c.requires

pub put_frames-requires-2 : goal.put_frames-requires-2
put_frames-requires-2 g c = rw c.topology-2.ensures c.requires

pub returns-in_err-put_frames-clause-told : goal.returns-in_err-put_frames-clause-told
returns-in_err-put_frames-clause-told g c = λ inputs h.
    tells_first _ _ _ _ _ _ c.from_residual.ensures
    (of_topology (λ (topology : Network). frames_line topology c.args.link.0 Forth
    (items_on (Frames c.args.link.0 Forth) (flight_of c.args.net.now.topology c.args.net.now.journal inputs).items)) _ _ _ _ _ c.topology.ensures
    (c.in_err-put_frames.ensures.told (flight_of c.args.net.now.topology c.args.net.now.journal inputs).items (c.flying-forth.ensures.items inputs h)))

pub returns-in_err-put_frames-clause-cause : goal.returns-in_err-put_frames-clause-cause
returns-in_err-put_frames-clause-cause g c = counted_err _ _ _ _ _ c.from_residual.ensures refl c.in_err-put_frames.ensures.cause

pub returns-clause-told : goal.returns-clause-told
returns-clause-told g c = λ inputs h.
    tells_then _ _ _ _ _ _
    (told_by _ _ _
    (of_topology (λ (topology : Network). frames_line topology c.args.link.0 Forth
    (items_on (Frames c.args.link.0 Forth) (flight_of c.args.net.now.topology c.args.net.now.journal inputs).items)) _ _ _ _ _ c.topology.ensures
    (c.in_ok-put_frames.ensures.told (flight_of c.args.net.now.topology c.args.net.now.journal inputs).items (c.flying-forth.ensures.items inputs h))))
    (of_topology (λ (topology : Network). frames_line topology c.args.link.0 Back
    (items_on (Frames c.args.link.0 Back) (flight_of c.args.net.now.topology c.args.net.now.journal inputs).items)) _ _ _ _ _ c.topology-2.ensures
    (c.put_frames-2.ensures.told (flight_of c.args.net.now.topology c.args.net.now.journal inputs).items (c.flying-back.ensures.items inputs h)))

pub returns-clause-cause : goal.returns-clause-cause
returns-clause-cause g c = counted_then _ _ _ _ c.in_ok-put_frames.ensures.cause c.put_frames-2.ensures.cause
