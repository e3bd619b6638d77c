use Rattle.std.proofs.lemmas.Result.{err_from_is_err_and}
use Rattle.mn_bgp_reflected.proofs.Messages.{said_by, read_no_update, read_no_originator, read_no_clusters, read_whole, fails_so, originator_never}
use Rattle.mn_bgp_reflected.proofs.Messages.{clusters_never}
use Rattle.mn_bgp_reflected.proofs.read.reflected_of.Goals as goal

pub returns-in_err-update-clause-reading : goal.returns-in_err-update-clause-reading
returns-in_err-update-clause-reading c =
    let f = err_from_is_err_and c.from_residual.result c.from_residual.ensures.1 in
    rw (f.1, f.2) (read_no_update c.args.bytes.now c.in_err-update.field-0.0 c.in_err-update.ensures.reading)

pub returns-in_err-originator-clause-reading : goal.returns-in_err-originator-clause-reading
returns-in_err-originator-clause-reading c =
    let f = err_from_is_err_and c.from_residual-in_err-originator.result c.from_residual-in_err-originator.ensures.1 in
    rw (f.1, f.2) (fails_so c.in_err-originator.field-0.0 _
    (read_no_originator c.args.bytes.now c.in_ok-update.update c.in_err-originator.field-0.0 _ c.in_ok-update.ensures.reading
    (said_by 9 c.args.bytes.now _ c.in_ok-update.update c.in_ok-update.ensures.found _ c.attributes_in-attributes.ensures c.value_of.ensures)
    c.in_err-originator.ensures))

pub returns-in_err-originator-clause-memory : goal.returns-in_err-originator-clause-memory
returns-in_err-originator-clause-memory c =
    let f = err_from_is_err_and c.from_residual-in_err-originator.result c.from_residual-in_err-originator.ensures.1 in
    rw (f.1, f.2) (originator_never c.in_err-originator.field-0.0 _ c.in_err-originator.ensures)

pub returns-in_err-clusters-clause-reading : goal.returns-in_err-clusters-clause-reading
returns-in_err-clusters-clause-reading c =
    let f = err_from_is_err_and c.from_residual-in_err-clusters.result c.from_residual-in_err-clusters.ensures.1 in
    rw (f.1, f.2) (read_no_clusters c.args.bytes.now c.in_ok-update.update c.in_ok-originator.originator c.in_err-clusters.field-0.0 _ _
    c.in_ok-update.ensures.reading
    (said_by 9 c.args.bytes.now _ c.in_ok-update.update c.in_ok-update.ensures.found _ c.attributes_in-attributes.ensures c.value_of.ensures)
    c.in_ok-originator.ensures
    (said_by 10 c.args.bytes.now _ c.in_ok-update.update c.in_ok-update.ensures.found _ c.attributes_in-attributes.ensures c.value_of-2.ensures)
    c.in_err-clusters.ensures)

pub returns-in_err-clusters-clause-memory : goal.returns-in_err-clusters-clause-memory
returns-in_err-clusters-clause-memory c =
    let f = err_from_is_err_and c.from_residual-in_err-clusters.result c.from_residual-in_err-clusters.ensures.1 in
    rw (f.1, f.2) (clusters_never c.in_err-clusters.field-0.0 _ c.in_err-clusters.ensures)

pub returns-clause-reading : goal.returns-clause-reading
returns-clause-reading c =
    read_whole c.args.bytes.now c.in_ok-update.update c.in_ok-originator.originator c.in_ok-clusters.clusters.items _ _
    c.in_ok-update.ensures.reading
    (said_by 9 c.args.bytes.now _ c.in_ok-update.update c.in_ok-update.ensures.found _ c.attributes_in-attributes.ensures c.value_of.ensures)
    c.in_ok-originator.ensures
    (said_by 10 c.args.bytes.now _ c.in_ok-update.update c.in_ok-update.ensures.found _ c.attributes_in-attributes.ensures c.value_of-2.ensures)
    c.in_ok-clusters.ensures
