use Rattle.std.proofs.Common.{◌<◌, ◌≤◌, ◌+◌, refl, subst, arith, [], ◌∷◌, length}
use Rattle.mn_failures.specs.Failures.{link_down, behind}
use Rattle.std.specs.Prelude.{Ok, Err}
use Rattle.mn_reach_run.specs.Playing.{IsKnown, now_at}
use Rattle.mn_reach_run.proofs.Switching.{two_apart}
use Rattle.mn_reach_run.proofs.Sweeping.{from_none, from_next, from_cut, from_all, sweeps_as, mapped}
use Rattle.mn_reach_run.proofs.sweep.play_thirds.Goals as goal

pub loop-third-init : goal.loop-third-init
loop-third-init g c = record {
  known = c.requires.known;
  told = from_none (λ n. (link_down c.args.first ∷ link_down c.args.second ∷ link_down n ∷ []) ∷ [])
      (c.args.second + 1) (length c.args.at.topology.now.links) c.args.at.topology.now c.args.at.settings c.args.at.line _;
}

pub play_with-requires-clause-known : goal.play_with-requires-clause-known
play_with-requires-clause-known g c =
    rw (c.link_down-one.ensures, c.link_down-two.ensures) c.loop-third.invariant.known

pub play_with-requires-clause-apart : goal.play_with-requires-clause-apart
play_with-requires-clause-apart g c =
    rw (c.link_down-one.ensures, c.link_down-two.ensures, c.link_down-three.ensures)
    (two_apart c.args.at.topology.now c.args.first c.args.second c.loop-third.third (omega (arith, c.requires.behind)) (omega arith))

pub loop-third-preserved : goal.loop-third-preserved
loop-third-preserved g c =
    let above : (c.args.second + 1) ≤ c.loop-third.third = omega arith in
    let below : c.loop-third.third < length c.args.at.topology.now.links = omega arith in
    record {
      known = subst (λ p. IsKnown c.args.at.topology.now c.args.at.settings (p ∷ link_down c.args.second ∷ []) c.play_with.new.player.found)
          c.link_down-one.ensures
          (subst (λ p. IsKnown c.args.at.topology.now c.args.at.settings (c.link_down-one.result ∷ p ∷ []) c.play_with.new.player.found)
          c.link_down-two.ensures c.in_ok-play_with.ensures.known);
      told = from_next (λ n. (link_down c.args.first ∷ link_down c.args.second ∷ link_down n ∷ []) ∷ []) (c.args.second + 1)
          (length c.args.at.topology.now.links) c.args.at.topology.now c.args.at.settings c.args.at.line c.loop-third.third _ _ _ above below
          c.loop-third.invariant.told
          (sweeps_as c.args.at.topology.now c.args.at.settings c.args.at.line
          ((c.link_down-one.result ∷ c.link_down-two.result ∷ c.link_down-three.result ∷ []) ∷ [])
          ((link_down c.args.first ∷ link_down c.args.second ∷ link_down c.loop-third.third ∷ []) ∷ []) _ (now_at c.play_with.new.player.sums _) (Ok tt)
          (rw (c.link_down-one.ensures, c.link_down-two.ensures, c.link_down-three.ensures) refl) c.in_ok-play_with.ensures.told);
    }

pub returns-in_err-play_with-clause-told : goal.returns-in_err-play_with-clause-told
returns-in_err-play_with-clause-told g c =
    let above : (c.args.second + 1) ≤ c.loop-third.third = omega arith in
    let below : c.loop-third.third < length c.args.at.topology.now.links = omega arith in
    let e = c.in_err-play_with.field-0.0 in
    sweeps_as c.args.at.topology.now c.args.at.settings c.args.at.line _ _ _ (now_at c.play_with.new.player.sums _) _
    (mapped (λ n. link_down c.args.first ∷ link_down c.args.second ∷ link_down n ∷ []) (behind c.args.at.topology.now c.args.second))
    (from_cut (λ n. (link_down c.args.first ∷ link_down c.args.second ∷ link_down n ∷ []) ∷ []) (c.args.second + 1) (length c.args.at.topology.now.links)
    c.args.at.topology.now c.args.at.settings c.args.at.line c.loop-third.third _ _ _ e _ c.from_residual.ensures above below c.loop-third.invariant.told
    (sweeps_as c.args.at.topology.now c.args.at.settings c.args.at.line
    ((c.link_down-one.result ∷ c.link_down-two.result ∷ c.link_down-three.result ∷ []) ∷ [])
    ((link_down c.args.first ∷ link_down c.args.second ∷ link_down c.loop-third.third ∷ []) ∷ []) _ (now_at c.play_with.new.player.sums _) (Err e)
    (rw (c.link_down-one.ensures, c.link_down-two.ensures, c.link_down-three.ensures) refl) c.in_err-play_with.ensures.told))

pub returns-clause-told : goal.returns-clause-told
returns-clause-told g c =
    let past : length c.args.at.topology.now.links ≤ c.loop-third.third = omega arith in
    sweeps_as c.args.at.topology.now c.args.at.settings c.args.at.line _ _ _ _ (Ok tt)
    (mapped (λ n. link_down c.args.first ∷ link_down c.args.second ∷ link_down n ∷ []) (behind c.args.at.topology.now c.args.second))
    (from_all (λ n. (link_down c.args.first ∷ link_down c.args.second ∷ link_down n ∷ []) ∷ []) (c.args.second + 1)
    (length c.args.at.topology.now.links) c.args.at.topology.now c.args.at.settings c.args.at.line c.loop-third.third _ _ past c.loop-third.invariant.told)

pub returns-clause-known : goal.returns-clause-known
returns-clause-known g c = c.loop-third.invariant.known
