use Rattle.mn_report.proofs.Standing.{as_shown}
use Rattle.mn_report.proofs.table.put_rows.Goals as goal

pub returns-in-Links-clause-told : goal.returns-in-Links-clause-told
returns-in-Links-clause-told g c = λ inputs h. as_shown c.args.net.now.topology c.args.net.now.journal inputs _ _ _ _ _ _ c.in-Links.is c.put_links.ensures

pub returns-in-Links-clause-cause : goal.returns-in-Links-clause-cause
returns-in-Links-clause-cause g c = c.put_links.ensures.cause

pub returns-in-Tree-clause-told : goal.returns-in-Tree-clause-told
returns-in-Tree-clause-told g c = λ inputs h. as_shown c.args.net.now.topology c.args.net.now.journal inputs _ _ _ _ _ _ c.in-Tree.is c.put_tree.ensures

pub returns-in-Tree-clause-cause : goal.returns-in-Tree-clause-cause
returns-in-Tree-clause-cause g c = c.put_tree.ensures.cause

pub returns-in-Ldp-clause-told : goal.returns-in-Ldp-clause-told
returns-in-Ldp-clause-told g c = λ inputs h. as_shown c.args.net.now.topology c.args.net.now.journal inputs _ _ _ _ _ _ c.in-Ldp.is c.put_ldp_sessions.ensures

pub returns-in-Ldp-clause-cause : goal.returns-in-Ldp-clause-cause
returns-in-Ldp-clause-cause g c = c.put_ldp_sessions.ensures.cause

pub returns-in-Bgp-clause-told : goal.returns-in-Bgp-clause-told
returns-in-Bgp-clause-told g c = λ inputs h. as_shown c.args.net.now.topology c.args.net.now.journal inputs _ _ _ _ _ _ c.in-Bgp.is c.put_bgp_sessions.ensures

pub returns-in-Bgp-clause-cause : goal.returns-in-Bgp-clause-cause
returns-in-Bgp-clause-cause g c = c.put_bgp_sessions.ensures.cause

pub returns-in-Vrf-clause-told : goal.returns-in-Vrf-clause-told
returns-in-Vrf-clause-told g c = λ inputs h. as_shown c.args.net.now.topology c.args.net.now.journal inputs _ _ _ _ _ _ c.in-Vrf.is c.put_routes.ensures

pub returns-in-Vrf-clause-cause : goal.returns-in-Vrf-clause-cause
returns-in-Vrf-clause-cause g c = c.put_routes.ensures.cause

pub returns-in-Flight-clause-told : goal.returns-in-Flight-clause-told
returns-in-Flight-clause-told g c =
    λ inputs h. as_shown c.args.net.now.topology c.args.net.now.journal inputs _ _ _ _ _ _ c.in-Flight.is (c.put_flight.ensures.told inputs h)

pub returns-in-Flight-clause-cause : goal.returns-in-Flight-clause-cause
returns-in-Flight-clause-cause g c = c.put_flight.ensures.cause

pub returns-in-Frame-clause-told : goal.returns-in-Frame-clause-told
returns-in-Frame-clause-told g c = λ inputs h. as_shown c.args.net.now.topology c.args.net.now.journal inputs _ _ _ _ _ _ c.in-Frame.is c.put_frame.ensures

pub returns-in-Frame-clause-cause : goal.returns-in-Frame-clause-cause
returns-in-Frame-clause-cause g c = c.put_frame.ensures.cause
