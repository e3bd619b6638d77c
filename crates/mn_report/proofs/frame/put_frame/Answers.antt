use Rattle.std.proofs.Common.{Ok}
use Rattle.mn_stack.specs.declared.refusal.FrameBad.TheVariants.{NoBottom, Short, BadPayload}
use Rattle.mn_tables.proofs.Telling.{tells_want}
use Rattle.mn_report.proofs.Frames.{read_line, unread_line, no_line}
use Rattle.mn_report.proofs.frame.put_frame.Goals as goal

pub returns-in_default : goal.returns-in_default
returns-in_default g c =
    let at = c.args.asked.shown in
    no_line c.args.net.now.topology c.topology-topology.result.now c.args.net.now.journal at.node.0 at.number c.args.asked.packet _ _ _
    c.topology-topology.ensures c.in_default.is c.put_unread.ensures

pub returns-in-Ok : goal.returns-in-Ok
returns-in-Ok g c =
    let at = c.args.asked.shown in
    read_line c.args.net.now.topology c.args.net.now.journal at.node.0 at.number c.args.asked.packet c.in-Some.bytes
    (Ok (c.in-Ok.frame.entries, c.in-Ok.frame.packet)) _ _ _ c.in-Some.is c.in-Ok.ensures.reading c.put_forwarded.ensures

pub returns-in-Err-NoBottom : goal.returns-in-Err-NoBottom
returns-in-Err-NoBottom g c =
    let at = c.args.asked.shown in
    unread_line c.args.net.now.topology c.topology-topology.result.now c.args.net.now.journal at.node.0 at.number c.args.asked.packet c.in-Some.bytes
    NoBottom _ _ _ c.topology-topology.ensures c.in-Some.is (rw c.in-Err-NoBottom.field-0-is at c.in-Err-NoBottom.ensures.reading)
    c.put_unread-in-Err-NoBottom.ensures

pub returns-in-Err-Short : goal.returns-in-Err-Short
returns-in-Err-Short g c =
    let at = c.args.asked.shown in
    unread_line c.args.net.now.topology c.topology-topology.result.now c.args.net.now.journal at.node.0 at.number c.args.asked.packet c.in-Some.bytes
    Short _ _ _ c.topology-topology.ensures c.in-Some.is (rw c.in-Err-Short.field-0-is at c.in-Err-Short.ensures.reading)
    c.put_unread-in-Err-Short.ensures

pub returns-in-Err-BadPayload : goal.returns-in-Err-BadPayload
returns-in-Err-BadPayload g c =
    let at = c.args.asked.shown in
    unread_line c.args.net.now.topology c.topology-topology.result.now c.args.net.now.journal at.node.0 at.number c.args.asked.packet c.in-Some.bytes
    BadPayload _ _ _ c.topology-topology.ensures c.in-Some.is (rw c.in-Err-BadPayload.field-0-is at c.in-Err-BadPayload.ensures.reading)
    c.put_unread-in-Err-BadPayload.ensures

pub returns-in-Err-NoMemory : goal.returns-in-Err-NoMemory
returns-in-Err-NoMemory g c = tells_want _ _
