use Rattle.std.proofs.Common.{◌≡◌, Bool, true, false, ap, sym, ◌∙◌, Result, Ok, Err, OnErr}
use Rattle.std.specs.Prelude.{is_err}
use Rattle.mn_edge.proofs.Entries.{extended-nil}
use Rattle.mn_edge.proofs.memory.MemShelfShelf.append.Goals as goal

-- what follows of an error, where there was one
found_err : {T E : Type 0} (r : Result T E) (found : Bool) (P : Type 0) → OnErr r P → found ≡ is_err r → found ≡ true → P
found_err (Ok x) found P p is_found there = absurd (let e : true ≡ false = sym there ∙ is_found in cc)
found_err (Err e) found P p is_found there = p

pub returns-then-is_err-clause-files : goal.returns-then-is_err-clause-files
returns-then-is_err-clause-files c =
    found_err c.extend.result c.is_err.result _ c.extend.ensures.err c.is_err.ensures.value c.if-is_err.true
    ∙ ap (λ s. s.files) c.self.view_is ∙ sym (extended-nil c.args.self.now.files c.args.name.now)

pub returns-then-is_err-2-clause-files : goal.returns-then-is_err-2-clause-files
returns-then-is_err-2-clause-files c =
    found_err c.extend-2.result c.is_err-2.result _ c.extend-2.ensures.err c.is_err-2.ensures.value c.if-is_err-2.true
    ∙ ap (λ s. s.files) c.self.view_is ∙ sym (extended-nil c.args.self.now.files c.args.name.now)
