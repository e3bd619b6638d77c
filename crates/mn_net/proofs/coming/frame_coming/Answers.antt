use Rattle.std.proofs.Common.{ℕ, ◌≡◌, ◌∙◌, ◌<◌, ◌*◌, arith, ap, sym, length, Some, None}
use Rattle.std.specs.Prelude.{◌/◌}
use Rattle.std.specs.Option.{option_copied}
use Rattle.mn_topo.specs.declared.steps.Step.{Step}
use Rattle.mn_topo.specs.declared.steps.Step.TheVariants.{Carry}
use Rattle.mn_course_laws.specs.declared.coming.Coming.{Coming}
use Rattle.mn_net_laws.specs.Coming.{carries_on}
use Rattle.mn_net_laws.specs.Tallies.{is_one}
use Rattle.mn_net.proofs.Nexts.{frame_by, frame_none, first_on}
use Rattle.mn_net.proofs.coming.frame_coming.Goals as goal

pub returns-in_err-item : goal.returns-in_err-item
returns-in_err-item c =
    c.from_residual.ensures
    ∙ frame_none carries_on (is_one c.args.tally.now.lossy) c.args.limit c.args.transit.now.flying (sym c.earliest.ensures ∙ ap option_copied c.in_err-item.was)

pub overflow_cast-link : goal.overflow_cast-link
overflow_cast-link c =
    let on : c.in_ok-item.item.now.channel < 2 * length c.args.topology.now.links =
    first_on (2 * length c.args.topology.now.links) c.args.limit c.args.transit.now.flying c.in_ok-item.item.now c.requires.channels
    (sym c.earliest.ensures ∙ ap option_copied c.in_ok-item.was) in
    omega (arith, on, c.laws.ensures.few_links)

pub returns : goal.returns
returns c =
    ap (λ dir. let r : Coming = record {
      due = c.in_ok-item.item.now.due;
      number = c.in_ok-item.item.now.number;
      step = Carry (record { 0 = c.in_ok-item.item.now.channel / 2 }) dir 0;
      lossy = c.loses.result;
    } in Some r) c.direction_of.ensures
    ∙ ap (λ lossy. let r : Coming = record {
      due = c.in_ok-item.item.now.due;
      number = c.in_ok-item.item.now.number;
      step = carries_on c.in_ok-item.item.now.channel;
      lossy = lossy;
    } in Some r) c.loses.ensures
    ∙ frame_by carries_on (is_one c.args.tally.now.lossy) c.args.limit c.args.transit.now.flying c.in_ok-item.item.now
    (sym c.earliest.ensures ∙ ap option_copied c.in_ok-item.was)
