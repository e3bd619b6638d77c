use Rattle.std.proofs.Common.{◌≡◌, ◌∙◌, ◌≤◌, length, ap, refl, subst, arith}
use Rattle.std.proofs.lemmas.List.{length-map}
use Rattle.mn_edge.specs.Written.{texts}
use Rattle.mn_perform.specs.Adding.{only_in}
use Rattle.mn_perform.proofs.Adding.{puts_seen, puts_none, stays_seen, outside}
use Rattle.mn_perform.proofs.output.Output.put_line.Goals as goal

pub returns-then-file-len-clause-puts : goal.returns-then-file-len-clause-puts
returns-then-file-len-clause-puts g c =
    let all : length (texts c.self.inside.names.items) ≤ c.args.file = rw length-map
    (let len = c.len.ensures in let ok = c.self.inside.names.ok.0 in let t = c.if-file-len.true in omega (arith, len, ok, t)) in
    let over : length c.args.self.now.names ≤ c.args.file = subst (λ n. length n ≤ c.args.file) (ap (λ b. b.names) c.self.view_is) all in
    puts_none (outside c.args.file c.args.self.now.names (g.L.Line.text c.args.line.now) over)

pub returns-clause-puts : goal.returns-clause-puts
returns-clause-puts g c =
    let same : texts c.deref.result.now ≡ c.args.self.now.names = ap texts c.deref.ensures.value ∙ ap (λ b. b.names) c.self.view_is in
    puts_seen (only_in c.args.file (g.L.Line.text c.args.line.now)) (texts c.deref.result.now) c.self.inside.gather c.put_line.new.self c.args.self.now _ _ _
    c.put_line.result
    same (ap (λ b. b.held) c.self.view_is) (ap (λ b. b.names) c.self.view_is) refl c.put_line.ensures.grown c.put_line.ensures.part

pub returns-clause-stays : goal.returns-clause-stays
returns-clause-stays g c =
    let same : texts c.deref.result.now ≡ c.args.self.now.names = ap texts c.deref.ensures.value ∙ ap (λ b. b.names) c.self.view_is in
    stays_seen (texts c.deref.result.now) same (ap (λ b. b.names) c.self.view_is) (ap (λ b. b.places) c.self.view_is) c.put_line.ensures.framed
    c.put_line.ensures.writes c.put_line.ensures.reads
