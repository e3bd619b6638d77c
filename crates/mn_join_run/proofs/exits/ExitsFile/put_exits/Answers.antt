use Rattle.std.proofs.Common.{◌≡◌, ◌<◌, ◌+◌, ◌-◌, ◌++◌, List, length, take, Some, None, sym, ◌∙◌, subst, arith}
use Rattle.std.specs.Prelude.{slice_get}
use Rattle.std.specs.List.{flat_map}
use Rattle.mn_perform.proofs.Adding.{on_err, framed_then, writes_out}
use Rattle.mn_join_laws.specs.Course.{Exit}
use Rattle.mn_join_run.specs.Report.{exit_record}
use Rattle.mn_join_run.specs.Outside.{Holding}
use Rattle.mn_join_run.proofs.Files.{both_grow, second_grows, first_grows, exit_within, no_exit_more, exits_begin, exits_more}
use Rattle.mn_join_run.proofs.exits.ExitsFile.put_exits.Goals as goal

pub exits-preserved : goal.exits-preserved
exits-preserved g c =
    let i = c.exits.invariant in
    let exits : List Exit = c.args.pair.now.exits in
    let exit : Exit = record {
      which = c.in-Some.exit.which;
      site = c.in-Some.exit.site.0;
      tick = c.in-Some.exit.tick;
      bytes = c.in-Some.exit.bytes.now;
    } in
    let is : slice_get exits c.exits.k ≡ Some exit = rw c.in-Some.is at (sym c.delivery.ensures.told) in
    record {
      within = let w = exit_within exits c.exits.k exit is in omega (arith, w);
      names = c.put_exit.ensures.names ∙ i.names;
      framed = framed_then c.args.self.now.names c.exits.self.names _ _ _ i.names i.framed c.put_exit.ensures.framed;
      grown = λ bytes holding.
          both_grow c.args.self.now.names c.exits.self.names bytes (flat_map exit_record (take c.exits.k exits)) (exit_record exit)
          (flat_map exit_record (take (c.exits.k + 1) exits)) c.exits.self.held c.put_exit.new.self.held _ _ i.names (exits_more exits c.exits.k exit is)
          c.in_ok-put_exit.ensures.grown (i.grown bytes holding);
      reads = c.put_exit.ensures.reads ∙ i.reads;
      writes = c.in_ok-put_exit.ensures.writes ∙ i.writes;
    }

pub exits-smaller : goal.exits-smaller
exits-smaller g c =
    let exits : List Exit = c.args.pair.now.exits in
    let exit : Exit = record {
      which = c.in-Some.exit.which;
      site = c.in-Some.exit.site.0;
      tick = c.in-Some.exit.tick;
      bytes = c.in-Some.exit.bytes.now;
    } in
    let is : slice_get exits c.exits.k ≡ Some exit = rw c.in-Some.is at (sym c.delivery.ensures.told) in
    let w = exit_within exits c.exits.k exit is in
    let e : length exits - (c.exits.k + 1) < length exits - c.exits.k = omega (arith, w) in e

pub returns-in_err-put_exit-clause-part : goal.returns-in_err-put_exit-clause-part
returns-in_err-put_exit-clause-part g c = on_err c.from_residual.result _ (λ bytes holding.
    let i = c.exits.invariant in
    let exits : List Exit = c.args.pair.now.exits in
    let exit : Exit = record {
      which = c.in-Some.exit.which;
      site = c.in-Some.exit.site.0;
      tick = c.in-Some.exit.tick;
      bytes = c.in-Some.exit.bytes.now;
    } in
    let is : slice_get exits c.exits.k ≡ Some exit = rw c.in-Some.is at (sym c.delivery.ensures.told) in
    let rest = exits_begin exits (c.exits.k + 1) in
    first_grows c.args.self.now.names bytes (flat_map exit_record (take (c.exits.k + 1) exits)) rest.0 (flat_map exit_record exits)
    (g.S.Shelf.files c.put_exit.new.shelf) rest.1
    (second_grows c.args.self.now.names c.exits.self.names bytes (flat_map exit_record (take c.exits.k exits)) (exit_record exit)
    (flat_map exit_record (take (c.exits.k + 1) exits)) c.exits.self.held c.exits.self.held _ _ i.names (exits_more exits c.exits.k exit is)
    c.in_err-put_exit.ensures.part (i.grown bytes holding)))

pub returns-in_err-put_exit-clause-framed : goal.returns-in_err-put_exit-clause-framed
returns-in_err-put_exit-clause-framed g c =
    framed_then c.args.self.now.names c.exits.self.names _ _ _ c.exits.invariant.names c.exits.invariant.framed c.put_exit.ensures.framed

pub returns-clause-grown : goal.returns-clause-grown
returns-clause-grown g c = λ bytes holding.
    let exits : List Exit = c.args.pair.now.exits in
    let none : slice_get exits c.exits.k ≡ None = rw c.in_default.is at (sym c.delivery.ensures.told) in
    subst (λ l. Holding c.args.self.now.names (bytes ++ flat_map exit_record l) c.exits.self.held (g.S.Shelf.files c.exits.shelf))
    (no_exit_more exits c.exits.k none) (c.exits.invariant.grown bytes holding)

pub returns-in_err-put_exit-clause-writes : goal.returns-in_err-put_exit-clause-writes
returns-in_err-put_exit-clause-writes g c =
    writes_out c.args.self.now.names c.exits.self.names _ _ _ _ _ _ _ c.from_residual.ensures c.exits.invariant.names c.exits.invariant.framed
    c.exits.invariant.writes c.in_err-put_exit.ensures.writes
