use Rattle.std.proofs.Common.{◌≡◌, ◌∙◌, All, set, false, length-set, subst, sym}
use Rattle.mn_way.specs.Switched.{Follows}
use Rattle.mn_way.proofs.ways.Ways.set_up.Goals as goal

pub invariant_of-self-2 : goal.invariant_of-self-2
invariant_of-self-2 c =
    let was = c.self.inside in
    let kept = c.self.invariant in
    let sound : was.failed ≡ false = cc in
    record {
      network = kept.network;
      by_node = kept.by_node;
      ups = length-set was.up.items c.from-at.result c.args.up ∙ kept.ups;
      switches = kept.switches;
      follow =
          λ e. subst (λ at. All (Follows was.links (set was.up.items at c.args.up)) c.turn_all.new.trees.items) (sym c.from-at.ensures)
          (c.in_ok-turn_all.ensures.turned was.links was.up.items (kept.follow sound));
    }
