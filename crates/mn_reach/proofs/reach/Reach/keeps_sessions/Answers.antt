use Rattle.std.proofs.Common.{◌≡◌, [], vec_len, eqb-true, arith, sym, ◌∙◌, ap}
use Rattle.std.proofs.lemmas.List.{nil_from_length}
use Rattle.mn_ledger.specs.Places.{home_of}
use Rattle.mn_reach.specs.Reaching.{Reaching}
use Rattle.mn_reach.proofs.Asked.{none_ended}
use Rattle.mn_reach.proofs.reach.Reach.keeps_sessions.Goals as goal

pub returns-then-is_empty : goal.returns-then-is_empty
returns-then-is_empty c =
    let none : vec_len c.self.inside.ended ≡ 0 = eqb-true (vec_len c.self.inside.ended) 0 (sym c.is_empty.ensures ∙ c.if-is_empty.true) in
    let empty : c.self.inside.ended.items ≡ [] = nil_from_length c.self.inside.ended.items (omega (arith, c.self.inside.ended.ok.0, none)) in
    c.if-is_empty.true ∙ sym (none_ended c.args.self.now (home_of c.args.topology.now c.args.site.0) c.args.candidates.now
    (sym (ap (λ (r : Reaching). r.ended) c.self.view_is) ∙ empty))
