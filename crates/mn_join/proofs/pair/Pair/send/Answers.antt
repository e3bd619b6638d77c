use Rattle.std.proofs.Common.{◌≡◌, ◌++◌, ◌∷◌, [], Ok, None, ◌∙◌, ap, sym, subst, arith, length}
use Rattle.mn_topo.specs.declared.steps.Step.TheVariants.{Inject}
use Rattle.mn_join_laws.specs.declared.leg.Which.TheVariants.{First, Second}
use Rattle.mn_join_laws.specs.Course.{refusal_on}
use Rattle.mn_join.specs.Pairs.{PairNow, PairStands}
use Rattle.mn_join.specs.Moves.{Enters, Tries, PairGoesOn, sent}
use Rattle.mn_join.proofs.Sending.{first_sends, second_sends}
use Rattle.mn_join.proofs.Coursing.{still_on}
use Rattle.mn_join.proofs.pair.Pair.send.Goals.{in-First+in_ok-packet-in-First, in-Second+in_ok-packet-in-Second}
use Rattle.mn_join.proofs.pair.Pair.send.Goals as goal

pub returns-in_err-packet-in-First-clause-goes : goal.returns-in_err-packet-in-First-clause-goes
returns-in_err-packet-in-First-clause-goes c =
    let new : PairNow = record {
      first = c.enter.new.self;
      second = c.self.inside.second;
      travels = c.reserve.new.self.items;
      exits =
          c.self.inside.exits.items;
      stopped = c.self.inside.stopped;
    } in
    subst (λ p. PairGoesOn p new) c.self.view_is (record { first = c.enter.ensures.goes; second = still_on c.self.inside.second })

pub returns-in_err-packet-in-Second-clause-goes : goal.returns-in_err-packet-in-Second-clause-goes
returns-in_err-packet-in-Second-clause-goes c =
    let new : PairNow = record {
      first = c.self.inside.first;
      second = c.enter-in-Second.new.self;
      travels = c.reserve.new.self.items;
      exits =
          c.self.inside.exits.items;
      stopped = c.self.inside.stopped;
    } in
    subst (λ p. PairGoesOn p new) c.self.view_is (record { second = c.enter-in-Second.ensures.goes; first = still_on c.self.inside.first })

pub returns-clause-tries : goal.returns-clause-tries
returns-clause-tries c = λ pairing both stands.
    let old : PairNow = record {
      first = c.self.inside.first;
      second = c.self.inside.second;
      travels = c.self.inside.travels.items;
      exits =
          c.self.inside.exits.items;
      stopped = c.self.inside.stopped;
    } in
    let mid = c.match-which.self-inside in
    let new : PairNow = record {
      first = mid.first;
      second = mid.second;
      travels = c.push_reserved-2.new.self.items;
      exits = mid.exits.items;
      stopped =
          mid.stopped;
    } in
    let stand : PairStands pairing old both = subst (λ p. PairStands pairing p both) (sym c.self.view_is) stands in
    let owner : c.len-owner.result ≡ length both.travels = omega (arith, c.len-owner.ensures, ap length stand.travels, c.self.inside.travels.ok.0) in
    let legs : c.push_reserved.new.self.items ≡ record { which = c.args.which; packet = c.match-which.packet } ∷ [] =
    c.push_reserved.ensures.items ∙ ap (λ ls. ls ++ record { which = c.args.which; packet = c.match-which.packet } ∷ []) c.in-Ok.ensures.items in
    elim c.match-which.branch [
      | in-First+in_ok-packet-in-First w ↦
          let travels : new.travels ≡ old.travels ++ record {
            number = c.args.number;
            legs =
                record { which = First; packet = c.match-which.packet } ∷ [];
            refused = None;
          } ∷ [] =
          c.push_reserved-2.ensures.items
          ∙ ap (λ ts. ts ++ record { number = c.args.number; legs = c.push_reserved.new.self.items; refused = None } ∷ [])
          (ap (λ p. p.travels.items) w.self-inside-is ∙ c.reserve.ensures.items)
          ∙ ap (λ ls. old.travels ++ record { number = c.args.number; legs = ls; refused = None } ∷ [])
          (legs ∙ ap (λ v. record { which = v; packet = c.match-which.packet } ∷ []) w.in-First.is) in
          subst (λ v. Tries pairing both (sent both v c.args.site c.args.number c.args.bytes.now)
          (refusal_on pairing both v (Inject c.args.site c.args.number) c.args.bytes.now) new (Ok tt)) (sym w.in-First.is)
          (first_sends pairing old both stand c.args.site c.args.number c.args.bytes.now c.len-owner.result c.match-which.packet w.enter.new.self
          (subst (Enters pairing First both.first c.args.site c.args.number c.args.bytes.now c.len-owner.result w.enter.new.self)
          (w.in_ok-packet-in-First.was ∙ ap Ok (sym w.packet-is)) (w.enter.ensures.enters pairing First both.first (stand.sides First))) owner new
          (ap (λ p. p.first) w.self-inside-is) (ap (λ p. p.second) w.self-inside-is) travels)
      | in-Second+in_ok-packet-in-Second w ↦
          let travels : new.travels ≡ old.travels ++ record {
            number = c.args.number;
            legs =
                record { which = Second; packet = c.match-which.packet } ∷ [];
            refused = None;
          } ∷ [] =
          c.push_reserved-2.ensures.items
          ∙ ap (λ ts. ts ++ record { number = c.args.number; legs = c.push_reserved.new.self.items; refused = None } ∷ [])
          (ap (λ p. p.travels.items) w.self-inside-is ∙ c.reserve.ensures.items)
          ∙ ap (λ ls. old.travels ++ record { number = c.args.number; legs = ls; refused = None } ∷ [])
          (legs ∙ ap (λ v. record { which = v; packet = c.match-which.packet } ∷ []) w.in-Second.is) in
          subst (λ v. Tries pairing both (sent both v c.args.site c.args.number c.args.bytes.now)
          (refusal_on pairing both v (Inject c.args.site c.args.number) c.args.bytes.now) new (Ok tt)) (sym w.in-Second.is)
          (second_sends pairing old both stand c.args.site c.args.number c.args.bytes.now c.len-owner.result c.match-which.packet w.enter-in-Second.new.self
          (subst (Enters pairing Second both.second c.args.site c.args.number c.args.bytes.now c.len-owner.result w.enter-in-Second.new.self)
          (w.in_ok-packet-in-Second.was ∙ ap Ok (sym w.packet-is)) (w.enter-in-Second.ensures.enters pairing Second both.second (stand.sides Second))) owner new
          (ap (λ p. p.second) w.self-inside-is) (ap (λ p. p.first) w.self-inside-is) travels)
    ]
