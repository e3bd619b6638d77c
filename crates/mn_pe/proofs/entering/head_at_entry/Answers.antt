use Rattle.std.proofs.Common.{◌≡◌, ℕ, Bool, false, not, Option, ◌∙◌, ap, sym, Some, refl}
use Rattle.std.specs.Prelude.{is_some, is_none}
use Rattle.mn_pe.proofs.AtEntry.{bad_header, good_header, expired, not_unicast, passes}
use Rattle.mn_pe.proofs.entering.head_at_entry.Goals as goal

attached : (label : Option ℕ) (b : Bool) → is_some label ≡ not b → b ≡ false → is_none label ≡ false
attached label b e f = ap not (e ∙ ap not f)

pub returns-in-Err : goal.returns-in-Err
returns-in-Err c = bad_header c.args.label c.args.packet.now c.in-Err.bad
    (attached c.args.label c.is_none.result c.is_none.ensures c.if-is_none.false) c.in-Err.ensures.first_fault ∙ ap Some (sym c.header_rule.ensures)

pub returns-then-head-lt2 : goal.returns-then-head-lt2
returns-then-head-lt2 c =
    good_header c.args.label c.args.packet.now c.in-Ok.head (attached c.args.label c.is_none.result c.is_none.ensures c.if-is_none.false)
    c.in-Ok.ensures.first_fault c.in-Ok.ensures.fields
    ∙ expired c.in-Ok.head.ttl c.in-Ok.head.destination c.if-head-lt2.true

pub returns-then-not-is_unicast : goal.returns-then-not-is_unicast
returns-then-not-is_unicast c =
    good_header c.args.label c.args.packet.now c.in-Ok.head (attached c.args.label c.is_none.result c.is_none.ensures c.if-is_none.false)
    c.in-Ok.ensures.first_fault c.in-Ok.ensures.fields
    ∙ not_unicast c.in-Ok.head.ttl c.in-Ok.head.destination c.if-head-lt2.false (sym c.is_unicast.ensures ∙ c.if-not-is_unicast.true)

pub returns : goal.returns
returns c = (
  good_header c.args.label c.args.packet.now c.in-Ok.head (attached c.args.label c.is_none.result c.is_none.ensures c.if-is_none.false)
      c.in-Ok.ensures.first_fault c.in-Ok.ensures.fields
      ∙ passes c.in-Ok.head.ttl c.in-Ok.head.destination c.if-head-lt2.false (sym c.is_unicast.ensures ∙ c.if-not-is_unicast.false),
  record { is_good = c.in-Ok.ensures.passes.0 refl; fields = c.in-Ok.ensures.fields; alive = c.if-head-lt2.false },
)
