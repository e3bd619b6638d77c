use Rattle.std.proofs.Common.{◌≡◌, true, ◌∷◌, subst}
use Rattle.mn_flood_run.specs.declared.command.FloodLine.{FloodLine}
use Rattle.mn_flood_run.specs.Language.{command_fits}
use Rattle.mn_flood_run.specs.Laws.{AllFit}
use Rattle.mn_flood_run.proofs.Drains.{course_sound, bounded, quiet, all_before}
use Rattle.mn_flood_run.proofs.laws.each_drain_of_a_script_is_bounded.Goals as goal

pub returns : goal.returns
returns c = λ topology lines lawful fits front back drain same is_drain goes.
    let before : AllFit topology front =
    all_before (λ (line : FloodLine). command_fits topology line.command ≡ true) front (drain ∷ back) (subst (AllFit topology) same fits) in
    let sound = course_sound topology lawful.joins_nodes lawful.ends_differ front before in
    record {
      bounded = bounded topology lawful.joins_nodes lawful.ends_differ front drain is_drain goes sound;
      quiet = quiet topology lawful.joins_nodes lawful.ends_differ front drain is_drain goes sound;
    }
