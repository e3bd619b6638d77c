use Rattle.std.proofs.Common.{◌≡◌, ◌++◌, ◌∙◌, ap, sym, subst, append-nil}
use Rattle.std.specs.Prelude.{OnOk}
use Rattle.mn_bindings.specs.Tells.{told, tells_of}
use Rattle.mn_bindings.proofs.Events.{told_of-same}
use Rattle.mn_bindings.proofs.Staying.{told_of-opened}
use Rattle.mn_bindings.proofs.bindings.Bound.tell_stayed.Goals as goal

pub returns-then-not-fresh : goal.returns-then-not-fresh
returns-then-not-fresh c =
    sym (append-nil c.args.tells.now.items)
    ∙ ap (λ xs. c.args.tells.now.items ++ xs)
    (sym (told_of-same c.args.offered c.args.self.now c.args.events.now c.args.fec.0 (c.requires.fresh c.if-not-fresh.true) c.requires.stayed))

pub returns-in-Some : goal.returns-in-Some
returns-in-Some c =
    let to_it : told c.args.offered c.args.self.now c.args.events.now c.args.fec.0 c.in-Some.to.0 ≡ tells_of c.args.offered c.args.self.now c.args.events.now
    c.args.fec.0 =
    subst (λ es. told c.args.offered c.args.self.now es c.args.fec.0 c.in-Some.to.0 ≡ tells_of c.args.offered c.args.self.now es c.args.fec.0)
    (sym c.in-Some.ensures.alone) (sym (told_of-opened c.args.offered c.args.self.now c.in-Some.to c.args.fec.0 c.tell_one.ensures.rows c.requires.stayed)) in
    subst (λ xs. OnOk c.tell_one.result (c.tell_one.new.tells.items ≡ c.args.tells.now.items ++ xs)) to_it c.tell_one.ensures.told
