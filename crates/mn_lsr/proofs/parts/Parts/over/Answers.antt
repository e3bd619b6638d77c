use Rattle.std.proofs.Common.{ℕ, ◌≤◌, List, Option, None, length, replicate, refl, sym, ◌∙◌, ap, subst, arith}
use Rattle.mn_wiring.specs.declared.links.LinkEnds.{LinkEnds}
use Rattle.mn_wiring.specs.Wiring.{Wiring, JoinsNodes, JoinsOnce}
use Rattle.mn_linkdb.specs.Learned.{Learned}
use Rattle.mn_lsr.specs.declared.parts.Open.{Open}
use Rattle.mn_lsr.specs.declared.parts.Parts.{Parts}
use Rattle.mn_lsr.specs.Telling.{AreLinks}
use Rattle.mn_lsr.proofs.Fresh.{IsMade, made-stands, made-kept}
use Rattle.mn_lsr.proofs.parts.Parts.over.Goals as goal
use Rattle.mn_lsr.proofs.parts.Parts.over.Goals.{After-new-2}

abbrev none_each : ℕ → List (Option Open)
none_each n = replicate n None

pub nothing_yet-requires-clause-network : goal.nothing_yet-requires-clause-network
nothing_yet-requires-clause-network c = c.requires.wired.network

pub nothing_yet-requires-clause-root : goal.nothing_yet-requires-clause-root
nothing_yet-requires-clause-root c = omega (arith, c.requires.me, c.requires.nodes)

pub neighbours-requires-clause-few_links : goal.neighbours-requires-clause-few_links
neighbours-requires-clause-few_links c =
    subst (λ (es : List LinkEnds). length es ≤ 1024) (sym (c.as_slice-ends.ensures ∙ c.ends-listed.ensures)) c.requires.wired.few_links

pub neighbours-requires-clause-joins : goal.neighbours-requires-clause-joins
neighbours-requires-clause-joins c =
    subst (λ (es : List LinkEnds). JoinsNodes (record { loopbacks = c.args.loopbacks.now; ends = es })) (sym (c.as_slice-ends.ensures ∙ c.ends-listed.ensures))
    c.requires.wired.joins

pub neighbours-requires-clause-once : goal.neighbours-requires-clause-once
neighbours-requires-clause-once c =
    subst (λ (es : List LinkEnds). JoinsOnce (record { loopbacks = c.args.loopbacks.now; ends = es })) (sym (c.as_slice-ends.ensures ∙ c.ends-listed.ensures))
    c.requires.wired.once

pub returns-clause-wiring : goal.returns-clause-wiring
returns-clause-wiring c =
    ap (λ xs. let w : Wiring = record { loopbacks = xs; ends = c.in_ok-view.view.ends } in w) c.in_ok-loopbacks.ensures.loopbacks
    ∙ ap (λ (es : List LinkEnds). let w : Wiring = record { loopbacks = c.args.loopbacks.now; ends = es } in w)
    (ap (λ (v : Learned). v.ends) c.in_ok-view.ensures.view)

abbrev parts : After-new-2 → Parts
parts c = record {
  alloc = c.args.alloc;
  me = c.args.me;
  loopbacks = c.in_ok-loopbacks.loopbacks;
  view = c.in_ok-view.view;
  mended = c.in_ok-view.mended;
  sessions = c.new-sessions.result;
  lib = c.in_ok-view.lib;
  labels = c.in_ok-view.labels;
  lfib = c.new.result;
  attached = c.new-2.result;
  links = c.in_ok-loopbacks.links;
}

-- they are those of a new node
made : (c : After-new-2) → IsMade c.args.me c.args.loopbacks.now c.args.shared.now.ends c.args.life (parts c)
made c = record {
  me = refl;
  loopbacks = c.in_ok-loopbacks.ensures.loopbacks;
  view = c.in_ok-view.ensures.view;
  sound = c.in_ok-view.ensures.sound;
  from = c.in_ok-view.ensures.mended.0;
  nodes = c.in_ok-view.ensures.mended.1 ∙ c.requires.nodes;
  ends = c.in_ok-view.ensures.mended.2;
  up = c.in_ok-view.ensures.down;
  sessions = c.new-sessions.ensures ∙ ap (λ (es : List LinkEnds). none_each (length es)) (c.as_slice-ends.ensures ∙ c.ends-listed.ensures);
  bindings = c.in_ok-view.ensures.bindings;
  given = c.in_ok-view.ensures.none;
  given_by = c.in_ok-view.ensures.me;
  uses = c.new.ensures;
  attached = c.new-2.ensures.items;
  links_are =
      subst (λ (es : List LinkEnds). AreLinks (record { loopbacks = c.args.loopbacks.now; ends = es }) c.args.me.0 c.in_ok-loopbacks.links.items)
      (c.as_slice-ends.ensures ∙ c.ends-listed.ensures) c.in_ok-loopbacks.ensures.links;
}

pub returns-clause-stands : goal.returns-clause-stands
returns-clause-stands c =
    let here = (goal.at.returns-clause-stands c).After-new-2 in
    made-stands c.args.me c.args.loopbacks.now c.args.shared.now.ends c.args.life (parts here) c.requires.me c.requires.wired (made here)

pub returns-clause-kept : goal.returns-clause-kept
returns-clause-kept c =
    let here = (goal.at.returns-clause-kept c).After-new-2 in
    made-kept c.args.me c.args.loopbacks.now c.args.shared.now.ends c.args.life (parts here) c.requires.me c.requires.wired (made here)
