use Rattle.std.proofs.Common.{◌++◌, List, ap, ◌∙◌, sym, subst, append-nil, Bool, length, arith}
use Rattle.std.specs.Prelude.{All, map}
use Rattle.std.specs.Str.Lines.{lines}
use Rattle.std.proofs.lemmas.List.Elements.{All-push}
use Rattle.mn_topo.specs.declared.steps.JournalEntry.{JournalEntry}
use Rattle.mn_journal.specs.Lines.{text_of}
use Rattle.mn_journal.specs.Reading.{Takes}
use Rattle.mn_journal.proofs.Words.{lines_written}
use Rattle.mn_journal.proofs.Journals.{IsRead, text_read, one_more, same_entries, none_bad, all_fit}
use Rattle.mn_journal.proofs.read.read_journal.Goals as goal

pub lines-preserved : goal.lines-preserved
lines-preserved c =
    let t = subst (λ (b : Bool). Takes c.args.topology.now c.in-Some.line.now c.lines.reading.entries.items c.take.new.self.entries.items b)
    c.if-not-branch.false c.in_ok-take.ensures in
    record {
      split = one_more c.args.topology.now _ _ _ c.in-Some.line.now _ _ t.0 c.lines.invariant.split c.in-Some.ensures.first t.1.text t.2;
      each = subst (λ (es : List JournalEntry). All (IsRead c.args.topology.now) es) (sym t.2)
          (All-push (IsRead c.args.topology.now) c.lines.reading.entries.items t.0 c.lines.invariant.each
          (text_read c.args.topology.now c.in-Some.line.now t.0 t.1));
    }

pub returns-then-not-branch-clause-reads : goal.returns-then-not-branch-clause-reads
returns-then-not-branch-clause-reads c =
    let t = subst (λ (b : Bool). Takes c.args.topology.now c.in-Some.line.now c.lines.reading.entries.items c.take.new.self.entries.items b)
    c.if-not-branch.true c.in_ok-take.ensures in
    record {
      before = c.lines.reading.entries.items;
      line = c.in-Some.line.now;
      after = lines c.in-Some.next.now;
      split = c.lines.invariant.split ∙ ap (λ ls. map (text_of c.args.topology.now) c.lines.reading.entries.items ++ ls) c.in-Some.ensures.first;
      number_is = let same = ap length t.1 in omega arith;
      fit = all_fit c.args.topology.now c.lines.reading.entries.items c.lines.invariant.each;
      bad = t.0;
    }

pub returns-then-not-branch-clause-again : goal.returns-then-not-branch-clause-again
returns-then-not-branch-clause-again c = λ entries all written.
    let t = subst (λ (b : Bool). Takes c.args.topology.now c.in-Some.line.now c.lines.reading.entries.items c.take.new.self.entries.items b)
    c.if-not-branch.true c.in_ok-take.ensures in
    none_bad c.args.topology.now c.lines.reading.entries.items entries c.in-Some.line.now (lines c.in-Some.next.now) all t.0
    (sym (lines_written c.args.topology.now entries c.laws.ensures all) ∙ ap lines (sym written) ∙ c.lines.invariant.split
    ∙ ap (λ ls. map (text_of c.args.topology.now) c.lines.reading.entries.items ++ ls) c.in-Some.ensures.first)

pub returns-clause-reads : goal.returns-clause-reads
returns-clause-reads c =
    let none = c.in_default.ensures.first in (
      c.lines.invariant.split ∙ ap (λ ls. map (text_of c.args.topology.now) c.lines.reading.entries.items ++ ls) none
          ∙ append-nil (map (text_of c.args.topology.now) c.lines.reading.entries.items),
      all_fit c.args.topology.now c.lines.reading.entries.items
          c.lines.invariant.each,
    )

pub returns-clause-again : goal.returns-clause-again
returns-clause-again c = λ entries all written.
    let none = c.in_default.ensures.first in
    same_entries c.args.topology.now c.lines.reading.entries.items entries c.laws.ensures c.lines.invariant.each all
    (sym (append-nil (map (text_of c.args.topology.now) c.lines.reading.entries.items))
    ∙ sym (ap (λ ls. map (text_of c.args.topology.now) c.lines.reading.entries.items ++ ls) none) ∙ sym c.lines.invariant.split ∙ ap lines written
    ∙ lines_written c.args.topology.now entries c.laws.ensures all)
