use Rattle.std.proofs.Common.{◌≡◌, sym, subst, length, take, not, true, List}
use Rattle.std.specs.List.{list_all}
use Rattle.mn_prefix.specs.Prefix.{AddressBlock, contains}
use Rattle.mn_prefix.specs.Places.{IsLongestPlace}
use Rattle.mn_prefix.proofs.Matches.{place_none, place_pair}
use Rattle.mn_lpm.proofs.plain.PlainTablePrefixTable.longest.Goals as goal

pub returns-in_err-i-clause-best : goal.returns-in_err-i-clause-best
returns-in_err-i-clause-best g c =
    let none : list_all (λ x. not (contains x.0 c.args.address)) (take (length c.self.inside.pairs.items) c.self.inside.pairs.items) ≡ true =
    subst (λ (l : List (AddressBlock × g.row.T.Denot)). list_all (λ x. not (contains x.0 c.args.address)) (take (length l) l) ≡ true)
    c.deref.ensures.value c.in_err-i.ensures in
    rw (c.from_residual.ensures, ← c.self.view_is) (sym (place_none c.args.address c.self.inside.pairs.items c.self.invariant none))

pub returns-clause-best : goal.returns-clause-best
returns-clause-best g c =
    let place : IsLongestPlace c.args.address c.self.inside.pairs.items (length c.self.inside.pairs.items) c.in_ok-i.i =
    subst (λ (l : List (AddressBlock × g.row.T.Denot)). IsLongestPlace c.args.address l (length l) c.in_ok-i.i) c.deref.ensures.value c.in_ok-i.ensures
    in
    rw (← c.self.view_is)
    (place_pair c.args.address c.self.inside.pairs.items c.in_ok-i.i c.index.result.now c.index-2.result.now c.self.invariant place c.index.ensures
    c.index-2.ensures)
