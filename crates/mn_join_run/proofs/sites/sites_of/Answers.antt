use Rattle.std.proofs.Common.{◌++◌, ap, sym, take, ◌∙◌}
use Rattle.std.proofs.lemmas.List.{take_all}
use Rattle.mn_topo.specs.declared.steps.JournalEntry.{JournalEntry}
use Rattle.mn_join_run.specs.Report.{site_of, sites_of}
use Rattle.mn_join_run.proofs.Loops.{sites_more}
use Rattle.mn_join_run.proofs.sites.sites_of.Goals as goal

pub loop-entry-preserved : goal.loop-entry-preserved
loop-entry-preserved c =
    let i = c.loop-entry.entry-index in
    let d : JournalEntry = c.entry-item.result in
    c.in_ok-push_site.ensures ∙ ap (λ xs. xs ++ site_of d.step) c.loop-entry.invariant
    ∙ ap (λ (e : JournalEntry). sites_of (take i c.args.entries.now) ++ site_of e.step) c.entry-item.is
    ∙ sym (sites_more c.args.entries.now i d c.loop-entry-test.true)

pub returns : goal.returns
returns c = c.loop-entry.invariant ∙ ap sites_of (take_all c.loop-entry.entry-index c.args.entries.now c.loop-entry-test.false)
