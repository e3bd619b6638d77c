use Rattle.std.proofs.Common.{ℕ, ◌≡◌, ◌≢◌, ◌<◌, List, sym, ◌∙◌, ap, subst, Some}
use Rattle.std.specs.Prelude.{option_map, length}
use Rattle.std.proofs.lemmas.List.{drop_all}
use Rattle.mn_base.specs.declared.numbers.NodeNo.{NodeNo}
use Rattle.mn_labels.specs.Labels.{Labels, label_now}
use Rattle.mn_bindings.specs.declared.event.LibEvent.{LibEvent}
use Rattle.mn_bindings.specs.declared.event.LibEvent.TheVariants as event
use Rattle.mn_bindings.specs.Bindings.{Bindings, nodes, usable}
use Rattle.mn_bindings.specs.News.{Apart, fecs_in}
use Rattle.mn_bindings.proofs.Staying.{below_more, fecs_more, fecs_none}
use Rattle.mn_lfib.specs.Uses.{use_of, fec_use, IsNotSite}
use Rattle.mn_lsr.proofs.Labels.{free_set, way_set}
use Rattle.mn_lsr.proofs.ways.use_ways_of.Goals as goal
use Rattle.mn_lsr.proofs.ways.use_ways_of.Goals.{in-Some+in_ok-use_way, in_default}

pub loop-event-preserved : goal.loop-event-preserved
loop-event-preserved c =
    let labels : Labels = c.args.labels.now.labels in
    let b : Bindings = c.args.bindings.now.bindings in
    let es : List LibEvent = c.args.events.now in
    let i : ℕ = c.loop-event.event-index in
    let none : LibEvent = event.Opened (record { 0 = 0 }) in
    let below : i < length es = c.loop-event-test.true in
    elim c.match-fec.branch [
      | in-Some+in_ok-use_way w ↦
          let q : ℕ = w.in-Some.fec.0 in
          let it = sym c.fec.ensures ∙ ap (option_map (λ (k : NodeNo). k.0)) w.in-Some.is in
          let set : (label : ℕ) → label_now labels q ≡ Some label → use_of c.match-fec.lfib label ≡ fec_use (usable b q) =
          λ label e. ap (λ u. use_of u label) w.lfib-is ∙ w.in_ok-use_way.ensures.way label e in
          let others : (label : ℕ) → label_now labels q ≢ Some label → use_of c.match-fec.lfib label ≡ use_of c.loop-event.lfib label =
          λ label off. ap (λ u. use_of u label) w.lfib-is ∙ w.in_ok-use_way.ensures.others label off in
          record {
            there = below_more (nodes b) es i none below c.loop-event.invariant.there;
            free = free_set labels q c.loop-event.lfib c.match-fec.lfib (usable b q) c.loop-event.invariant.free set others;
            ways = λ fec label e stood apart. way_set labels c.requires.told q c.loop-event.lfib c.match-fec.lfib (usable b) set others fec label e
                (λ d. c.loop-event.invariant.ways fec label e stood (subst (Apart fec) (sym (fecs_more es i q _ below it)) (d, apart)));
            others = λ label off. others label (off q) ∙ c.loop-event.invariant.others label off;
          }
      | in_default w ↦
          let it = sym c.fec.ensures ∙ ap (option_map (λ (k : NodeNo). k.0)) w.in_default.is in
          record {
            there = below_more (nodes b) es i none below c.loop-event.invariant.there;
            free = λ fec label e. subst (λ u. IsNotSite (use_of u label)) (sym w.lfib-is) (c.loop-event.invariant.free fec label e);
            ways = λ fec label e stood apart. ap (λ u. use_of u label) w.lfib-is
                ∙ c.loop-event.invariant.ways fec label e stood (subst (Apart fec) (sym (fecs_none es i _ below it)) apart);
            others = λ label off. ap (λ u. use_of u label) w.lfib-is ∙ c.loop-event.invariant.others label off;
          }
    ]

pub returns-clause-ways : goal.returns-clause-ways
returns-clause-ways c = λ fec label e stood. c.loop-event.invariant.ways fec label e stood
    (subst (λ (es : List LibEvent). Apart fec (fecs_in es)) (sym (drop_all c.loop-event.event-index c.args.events.now c.loop-event-test.false)) tt)
