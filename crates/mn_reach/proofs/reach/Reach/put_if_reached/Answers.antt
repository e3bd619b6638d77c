use Rattle.std.proofs.Common.{ℕ, ◌≡◌, ◌≢◌, vec_len, arith, refl, eqb-true, sym, ◌∙◌, ap, List, [], ◌++◌, map, Option}
use Rattle.std.specs.Prelude.{is_some, unwrap_or}
use Rattle.std.proofs.lemmas.Bool.{eqb-false}
use Rattle.std.proofs.lemmas.List.{nil_from_length}
use Rattle.mn_base.proofs.Bools.{no, clash}
use Rattle.mn_topo.specs.Network.{wiring_of}
use Rattle.mn_reach_laws.specs.Fates.{ends_over}
use Rattle.mn_way.specs.Way.{label_path, numbered}
use Rattle.mn_way.specs.Switched.{edge_at}
use Rattle.mn_reach.specs.Plans.{held_in}
use Rattle.mn_reach.proofs.Ending.{is_path, no_path, some_path, along}
use Rattle.mn_reach.proofs.Left.{agrees, over, path_is}
use Rattle.mn_reach.proofs.reach.Reach.put_if_reached.Goals as goal

pub returns-then-is_empty-clause-reached : goal.returns-then-is_empty-clause-reached
returns-then-is_empty-clause-reached c = λ t of.
    let ways = c.self.inside.ways in
    let now = c.args.self.now in
    let same = agrees now ways _ _ _ _ _ _ _ _ (sym c.self.view_is) c.self.invariant in
    let found = label_path (wiring_of t) ways.up ways.ldp c.args.home.0 (edge_at ways c.args.candidate.place) in
    let is = is_path (wiring_of t) ways.up ways.ldp c.args.home.0 (edge_at ways c.args.candidate.place) in
    let put = c.in_ok-put_path.ensures (wiring_of t) (over t now of ways same)
    ∙ ap (λ xs. xs ++ map numbered (unwrap_or found [])) c.requires.empty in
    let none : vec_len c.put_path.new.path ≡ 0 = eqb-true (vec_len c.put_path.new.path) 0 (sym c.is_empty.ensures ∙ c.if-is_empty.true) in
    let empty : c.put_path.new.path.items ≡ [] = nil_from_length c.put_path.new.path.items (omega (arith, c.put_path.new.path.ok.0, none)) in
    sym (ap (λ (o : Option (List ℕ)). is_some o)
    (sym (path_is t now of ways same c.args.home.0 c.requires.here c.args.candidate c.requires.placed c.a_label_path_is_the_configurations.ensures)
    ∙ no_path c.args.home.0 c.args.ttl (held_in c.args.candidate) found is c.put_path.new.path.items put empty))

pub returns-then-is_empty-clause-fate : goal.returns-then-is_empty-clause-fate
returns-then-is_empty-clause-fate c = λ t of e. absurd (no e)

pub returns-then-is_empty-clause-empty : goal.returns-then-is_empty-clause-empty
returns-then-is_empty-clause-empty c = λ e.
    let none : vec_len c.put_path.new.path ≡ 0 = eqb-true (vec_len c.put_path.new.path) 0 (sym c.is_empty.ensures ∙ c.if-is_empty.true) in
    nil_from_length c.put_path.new.path.items (omega (arith, c.put_path.new.path.ok.0, none))

pub returns-clause-reached : goal.returns-clause-reached
returns-clause-reached c = λ t of.
    let ways = c.self.inside.ways in
    let now = c.args.self.now in
    let same = agrees now ways _ _ _ _ _ _ _ _ (sym c.self.view_is) c.self.invariant in
    let found = label_path (wiring_of t) ways.up ways.ldp c.args.home.0 (edge_at ways c.args.candidate.place) in
    let is = is_path (wiring_of t) ways.up ways.ldp c.args.home.0 (edge_at ways c.args.candidate.place) in
    let put = c.in_ok-put_path.ensures (wiring_of t) (over t now of ways same)
    ∙ ap (λ xs. xs ++ map numbered (unwrap_or found [])) c.requires.empty in
    let some : vec_len c.put_path.new.path ≢ 0 = eqb-false (vec_len c.put_path.new.path) 0 (sym c.is_empty.ensures ∙ c.if-is_empty.false) in
    sym (ap (λ (o : Option (List ℕ)). is_some o)
    (sym (path_is t now of ways same c.args.home.0 c.requires.here c.args.candidate c.requires.placed c.a_label_path_is_the_configurations.ensures))
    ∙ some_path c.args.home.0 c.args.ttl (held_in c.args.candidate) found is c.put_path.new.path.items put
    (λ e. some (omega (arith, c.put_path.new.path.ok.0, e))))

pub returns-clause-fate : goal.returns-clause-fate
returns-clause-fate c = λ t of yes.
    let ways = c.self.inside.ways in
    let now = c.args.self.now in
    let same = agrees now ways _ _ _ _ _ _ _ _ (sym c.self.view_is) c.self.invariant in
    let found = label_path (wiring_of t) ways.up ways.ldp c.args.home.0 (edge_at ways c.args.candidate.place) in
    let is = is_path (wiring_of t) ways.up ways.ldp c.args.home.0 (edge_at ways c.args.candidate.place) in
    let put = c.in_ok-put_path.ensures (wiring_of t) (over t now of ways same)
    ∙ ap (λ xs. xs ++ map numbered (unwrap_or found [])) c.requires.empty in
    let some : vec_len c.put_path.new.path ≢ 0 = eqb-false (vec_len c.put_path.new.path) 0 (sym c.is_empty.ensures ∙ c.if-is_empty.false) in
    c.end_along.ensures (held_in c.args.candidate) refl
    ∙ along c.args.home.0 c.args.ttl (held_in c.args.candidate) found is c.put_path.new.path.items put (λ e. some (omega (arith, c.put_path.new.path.ok.0, e)))
    ∙ ap (ends_over c.args.home.0 c.args.ttl (held_in c.args.candidate))
    (path_is t now of ways same c.args.home.0 c.requires.here c.args.candidate c.requires.placed c.a_label_path_is_the_configurations.ensures)

pub returns-clause-empty : goal.returns-clause-empty
returns-clause-empty c = λ e. absurd (clash e)
