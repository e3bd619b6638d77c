use Rattle.std.proofs.Common.{rules, ℕ, ◌≡◌, Ok, Err}
use Rattle.std.specs.Prelude.{IsErrOf, Result}
use Rattle.std.proofs.lemmas.Result.{err_from_is_err_and}
use Rattle.mn_labels.specs.declared.refusal.LabelBad.{LabelBad}
use Rattle.mn_labels.specs.declared.refusal.LabelBad.TheVariants as bad
use Rattle.mn_transport_laws.specs.Carried.{Carried}
use Rattle.mn_transport.specs.Inside.{carried_in}
use Rattle.mn_transport_laws.proofs.Attaching.{IsSpent}
use Rattle.mn_transport_laws.proofs.Sited.{still-stands}
use Rattle.mn_transport.proofs.Attached.{attached-at}
use Rattle.mn_transport.proofs.Spent.{spent-at}
use Rattle.mn_transport.proofs.transport.Transport.attach.Goals as goal

pub returns : goal.returns
returns c =
    let old : Carried = carried_in c.self.inside in
    let done = c.in_ok-label.ensures in
    let at =
    attached-at c.args.topology.now c.laws.ensures old c.args.self.now c.self.view_is c.args.site c.home_of-home.result.0 c.from.result
    c.home_of-home.ensures.home c.from.ensures c.home_of-home.ensures.there
    c.index_mut-edge.result.now c.index_mut-edge.ensures.value c.attach.new.self c.in_ok-label.label c.from-2.result c.from-2.ensures (record {
      label_is = done.label;
      labels_are = done.given;
      in_range = c.labels_fit.ensures;
      used = done.used;
      others = done.others;
      table = done.table;
      kept = done.kept;
    }) in
    record {
      goes = at.goes;
      label = at.label;
      next = at.next;
      spent =
          spent-at c.args.topology.now c.args.site old c.args.self.now c.self.view_is c.requires.may c.home_of-home.result.0 c.from.result
          c.home_of-home.ensures.home c.from.ensures c.index_mut-edge.result.now c.index_mut-edge.ensures.value
          (let r : Result ℕ LabelBad = Ok c.in_ok-label.label in IsErrOf r bad.Spent) c.in_ok-label.ensures.spent;
      notices = search rules;
      messages = search rules;
      still = λ refused. cc;
    }

pub returns-in_err-label-clause-spent : goal.returns-in_err-label-clause-spent
returns-in_err-label-clause-spent c =
    let old : Carried = carried_in c.self.inside in
    let handed = err_from_is_err_and c.from_residual.result c.from_residual.ensures.1 in
    rw (handed.1, handed.2) (spent-at c.args.topology.now c.args.site old c.args.self.now c.self.view_is c.requires.may c.home_of-home.result.0 c.from.result
    c.home_of-home.ensures.home c.from.ensures c.index_mut-edge.result.now c.index_mut-edge.ensures.value
    (let r : Result ℕ LabelBad = Err c.in_err-label.field-0.0 in IsErrOf r bad.Spent) c.in_err-label.ensures.spent)

pub returns-in_err-label-clause-still : goal.returns-in_err-label-clause-still
returns-in_err-label-clause-still c =
    let old : Carried = carried_in c.self.inside in
    let did : IsSpent c.index_mut-edge.result.now c.attach.new.self =
    record { labels_are = c.in_err-label.ensures.unchanged.0; uses_are = c.in_err-label.ensures.unchanged.1; kept = c.in_err-label.ensures.kept } in
    λ same journal stands.
    still-stands c.args.topology.now c.laws.ensures old c.args.self.now c.self.view_is c.args.site c.home_of-home.result.0 c.from.result
    c.home_of-home.ensures.home c.from.ensures c.home_of-home.ensures.there
    c.index_mut-edge.result.now c.index_mut-edge.ensures.value c.attach.new.self did journal stands
