use Rattle.std.proofs.Common.{◌∙◌, ap}
use Rattle.mn_join_laws.specs.declared.leg.Which.TheVariants.{First, Second}
use Rattle.mn_join_run.specs.Report.{sites_of}
use Rattle.mn_join_run.proofs.Reading.{entries_are}
use Rattle.mn_join_run.proofs.sites.Sites.of.Goals as goal

pub returns : goal.returns
returns c = λ pairing both stands. record {
  first = c.in_ok-sites_of.ensures
      ∙ ap sites_of (c.journal.ensures ∙ ap (λ n. n.journal) c.net.ensures ∙ entries_are pairing c.args.pair.now both stands First);
  second = c.in_ok-sites_of-2.ensures
      ∙ ap sites_of (c.journal-2.ensures ∙ ap (λ n. n.journal) c.net-2.ensures ∙ entries_are pairing c.args.pair.now both stands Second);
}
