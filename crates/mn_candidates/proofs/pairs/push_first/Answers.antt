use Rattle.std.proofs.Common.{◌≡◌, false, sym, ◌∙◌, ap}
use Rattle.std.specs.List.{list_any}
use Rattle.mn_prefix.specs.Prefix.{same_prefix}
use Rattle.mn_candidates.proofs.Adding.{adds_it}
use Rattle.mn_candidates.proofs.pairs.push_first.Goals as goal

pub returns : goal.returns
returns c =
    let new : list_any (same_prefix c.args.prefix) c.args.seen.now.items ≡ false =
    ap (list_any (same_prefix c.args.prefix)) (sym c.as_slice.ensures.value) ∙ sym c.is_among.ensures ∙ c.if-is_among.false in
    adds_it c.args.site.0 c.args.prefix c.args.seen.now.items c.push.new.self.items c.args.pairs.now.items c.push_pair.new.pairs.items new
    c.in_ok-push.ensures.items
    c.in_ok-push_pair.ensures
