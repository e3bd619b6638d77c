use Rattle.std.proofs.Common.{◌≡◌, ap, arith, length, refl, rules, sym, ◌∙◌}
use Rattle.std.proofs.lemmas.Grind.{common_steps}
use Rattle.std.proofs.lemmas.List.{length-set}
use Rattle.std.proofs.lemmas.List.Elements.{All-replicate}
use Rattle.std.specs.Prelude.{None}
use Rattle.mn_script.specs.Reading.{IsKnown}
use Rattle.mn_script.proofs.Gathering.{before_both, holds_more, few_more, all_said, all_stay}
use Rattle.mn_script.proofs.reading.read_lines.Goals as goal
use Rattle.mn_script.proofs.reading.read_lines.Goals.{then-is_some, else-is_some}

pub lines-preserved : goal.lines-preserved
lines-preserved g c =
    let said = c.in-Ok.ensures.value in
    let put = c.in_ok-put.ensures in
    record {
      same = grind (arith, common_steps, before_both, said);
      fits = holds_more _ c.lines.script.items _ c.in-Ok.said put c.lines.invariant.fits c.in-Ok.ensures.fits;
      few = omega (
        arith,
        few_more c.lines.script.items c.in-Ok.said,
        ap length put,
        ap length c.in-Some.ensures.first,
        c.lines.invariant.few,
      );
      known = elim c.if-is_some.branch [
        | then-is_some w ↦
            let place : w.len.result ≡ length c.lines.script.items = w.len.ensures ∙ c.lines.script.ok.0 in
            rw (w.known-is, place)
            (all_said (g.L.Language.says c.args.language.now) c.lines.script.items c.put.new.script.items c.in-Ok.said c.lines.known c.slot_of-slot.result
            c.lines.number c.in-Some.line put said (sym c.is_some.ensures ∙ w.if-is_some.true) c.lines.invariant.known)
        | else-is_some w ↦ rw w.known-is
            (all_stay (g.L.Language.says c.args.language.now) c.lines.script.items c.put.new.script.items c.in-Ok.said c.lines.known put
            c.lines.invariant.known)
      ];
      slots = elim c.if-is_some.branch [
        | then-is_some w ↦ rw w.known-is (length-set c.lines.known c.slot_of-slot.result _ ∙ c.lines.invariant.slots)
        | else-is_some w ↦ rw w.known-is c.lines.invariant.slots
      ];
    }

pub returns-in-Err-clause-value : goal.returns-in-Err-clause-value
returns-in-Err-clause-value g c = grind (arith, common_steps, c.in-Err.ensures.value)

pub lines-init : goal.lines-init
lines-init g c = record {
  same = search rules;
  fits = search rules;
  few = search rules;
  known = All-replicate (IsKnown (g.L.Language.says c.args.language.now) c.new-script.result.items) 64 None tt;
  slots = refl;
}
