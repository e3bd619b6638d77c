use Rattle.std.proofs.Common.{◌≡◌, refl, ap, ◌∙◌}
use Rattle.std.specs.Prelude.{length}
use Rattle.mn_ledger.specs.Ledger.{packets_of}
use Rattle.mn_report.specs.declared.total.Counts.{Counts}
use Rattle.mn_report.proofs.total.sum_up.Goals as goal

pub returns : goal.returns
returns c = λ inputs h.
    let kinds = c.count_verdicts-delivered.ensures inputs h in
    let judged : c.packets.result ≡ length (packets_of c.args.net.now.topology c.args.net.now.journal inputs).verdicts =
    c.packets.ensures.counted ∙ ap length h.stands.packets.verdicts in
    rw (
      judged,
      ap (λ (x : Counts). x.delivered) kinds,
      ap (λ (x : Counts). x.dropped) kinds,
      ap
          (λ (x : Counts). x.flying) kinds,
      ap length c.journal.ensures,
      c.tick.ensures,
    ) refl
