use Rattle.std.proofs.Common.{sym, subst, Some}
use Rattle.mn_pcap.specs.Format.{header}
use Rattle.mn_output_laws.specs.Files.{Frames}
use Rattle.mn_output_laws.specs.Contents.{ppp}
use Rattle.mn_files.specs.Numbers.{IsPlace}
use Rattle.mn_perform.proofs.Adding.{puts_as, puts_none, stays_for, in_run}
use Rattle.mn_perform.proofs.Same.{in_place, no_place}
use Rattle.mn_perform.proofs.books.put_frame_head.Goals as goal

pub returns-in-Some-clause-puts : goal.returns-in-Some-clause-puts
returns-in-Some-clause-puts g c = λ for. puts_as c.put_header.ensures.puts
    (λ k within. in_place c.args.topology.now (Frames c.args.link.0) c.in-Some.file k (header ppp)
    (subst (λ o. IsPlace c.args.topology.now (Frames c.args.link.0) o) c.in-Some.is c.find_frames.ensures)
    (in_run _ c.args.topology.now k (stays_for c.args.topology.now c.put_header.ensures.stays for) within))

pub returns-in-None-clause-puts : goal.returns-in-None-clause-puts
returns-in-None-clause-puts g c = λ for. puts_none
    (λ k within. sym (no_place c.args.topology.now (Frames c.args.link.0) k (header ppp)
    (subst (λ o. IsPlace c.args.topology.now (Frames c.args.link.0) o) c.in-None.is c.find_frames.ensures) (in_run _ c.args.topology.now k for within)))
