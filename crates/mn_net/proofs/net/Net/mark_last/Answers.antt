use Rattle.std.proofs.Common.{◌∙◌, sym, ap}
use Rattle.std.specs.Prelude.{map}
use Rattle.mn_damage.specs.Same.{unmarked}
use Rattle.mn_net.proofs.Still.{marks_last}
use Rattle.mn_net.proofs.Damages.{put_back, still_net, put_marked}
use Rattle.mn_net.proofs.net.Net.mark_last.Goals as goal

pub invariant_of-self : goal.invariant_of-self
invariant_of-self c = λ works.
    let is = put_back _ _ _ c.in-Some.last c.args.mark c.in-Some.ensures.items c.push_reserved.ensures.items in
    still_net _ _ _ ((marks_last c.self.inside.journal.items c.args.mark).same ∙ ap (map unmarked) (sym is)) c.self.invariant works

pub returns-in-Some : goal.returns-in-Some
returns-in-Some c = record {
  marked = put_marked _ _ _ _ c.args.mark c.self.view_is
      (put_back _ _ _ c.in-Some.last c.args.mark c.in-Some.ensures.items c.push_reserved.ensures.items);
}
