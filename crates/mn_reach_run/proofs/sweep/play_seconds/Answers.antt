use Rattle.std.proofs.Common.{◌<◌, ◌≤◌, ◌+◌, refl, sym, subst, arith, [], ◌∷◌, length}
use Rattle.mn_failures.specs.Failures.{link_down, behind}
use Rattle.std.specs.Prelude.{Ok, Err}
use Rattle.mn_reach_run.specs.Playing.{IsKnown, now_at}
use Rattle.mn_reach_run.proofs.Switching.{links_apart}
use Rattle.mn_reach_run.proofs.Sweeping.{from_none, from_next, from_cut, from_all, sweeps_as, mapped}
use Rattle.mn_reach_run.proofs.sweep.play_seconds.Goals as goal

pub loop-second-init : goal.loop-second-init
loop-second-init g c = record {
  known = c.requires.known;
  told = from_none (λ m. (link_down c.args.first ∷ link_down m ∷ []) ∷ []) (c.args.first + 1)
      (length c.args.at.topology.now.links) c.args.at.topology.now c.args.at.settings c.args.at.line _;
}

pub loop-second-preserved : goal.loop-second-preserved
loop-second-preserved g c =
    let above : (c.args.first + 1) ≤ c.loop-second.second = omega arith in
    let below : c.loop-second.second < length c.args.at.topology.now.links = omega arith in
    record {
      known = subst (λ p. IsKnown c.args.at.topology.now c.args.at.settings (p ∷ []) c.play_with.new.player.found) c.link_down-one.ensures
          c.in_ok-play_with.ensures.known;
      told = from_next (λ m. (link_down c.args.first ∷ link_down m ∷ []) ∷ []) (c.args.first + 1) (length c.args.at.topology.now.links) c.args.at.topology.now
          c.args.at.settings c.args.at.line c.loop-second.second _ _ _ above below c.loop-second.invariant.told
          (sweeps_as c.args.at.topology.now c.args.at.settings c.args.at.line ((c.link_down-one.result ∷ c.link_down-two.result ∷ []) ∷ [])
          ((link_down c.args.first ∷ link_down c.loop-second.second ∷ []) ∷ []) _ (now_at c.play_with.new.player.sums _) (Ok tt)
          (rw (c.link_down-one.ensures, c.link_down-two.ensures) refl) c.in_ok-play_with.ensures.told);
    }

pub returns-in_err-play_with-clause-told : goal.returns-in_err-play_with-clause-told
returns-in_err-play_with-clause-told g c =
    let above : (c.args.first + 1) ≤ c.loop-second.second = omega arith in
    let below : c.loop-second.second < length c.args.at.topology.now.links = omega arith in
    let e = c.in_err-play_with.field-0.0 in
    sweeps_as c.args.at.topology.now c.args.at.settings c.args.at.line _ _ _ (now_at c.play_with.new.player.sums _) _
    (mapped (λ m. link_down c.args.first ∷ link_down m ∷ []) (behind c.args.at.topology.now c.args.first))
    (from_cut (λ m. (link_down c.args.first ∷ link_down m ∷ []) ∷ []) (c.args.first + 1) (length c.args.at.topology.now.links) c.args.at.topology.now
    c.args.at.settings c.args.at.line c.loop-second.second _ _ _ e _ c.from_residual.ensures above below c.loop-second.invariant.told
    (sweeps_as c.args.at.topology.now c.args.at.settings c.args.at.line ((c.link_down-one.result ∷ c.link_down-two.result ∷ []) ∷ [])
    ((link_down c.args.first ∷ link_down c.loop-second.second ∷ []) ∷ []) _ (now_at c.play_with.new.player.sums _) (Err e)
    (rw (c.link_down-one.ensures, c.link_down-two.ensures) refl) c.in_err-play_with.ensures.told))

pub returns-clause-told : goal.returns-clause-told
returns-clause-told g c =
    let past : length c.args.at.topology.now.links ≤ c.loop-second.second = omega arith in
    sweeps_as c.args.at.topology.now c.args.at.settings c.args.at.line _ _ _ _ (Ok tt)
    (mapped (λ m. link_down c.args.first ∷ link_down m ∷ []) (behind c.args.at.topology.now c.args.first))
    (from_all (λ m. (link_down c.args.first ∷ link_down m ∷ []) ∷ []) (c.args.first + 1) (length c.args.at.topology.now.links) c.args.at.topology.now
    c.args.at.settings c.args.at.line c.loop-second.second _ _ past c.loop-second.invariant.told)

pub play_with-requires-clause-known : goal.play_with-requires-clause-known
play_with-requires-clause-known g c =
    subst (λ p. IsKnown c.args.at.topology.now c.args.at.settings (p ∷ []) c.loop-second.player.found)
    (sym c.link_down-one.ensures) c.loop-second.invariant.known

pub play_with-requires-clause-apart : goal.play_with-requires-clause-apart
play_with-requires-clause-apart g c =
    rw (c.link_down-one.ensures, c.link_down-two.ensures) (links_apart c.args.at.topology.now c.args.first c.loop-second.second (omega arith))

pub returns-clause-known : goal.returns-clause-known
returns-clause-known g c = c.loop-second.invariant.known
