use Rattle.std.proofs.Common.{refl, ◌∙◌, sym, ap, arith, List, ℕ}
use Rattle.std.proofs.lemmas.List.{take_rest}
use Rattle.byteorder.specs.Endian.{big_number}
use Rattle.mn_prefix.specs.Octets.{octets}
use Rattle.mn_ldp_wire.proofs.Prefixes.{prefix_none, octets_all, not_an_element, an_element}
use Rattle.mn_ldp_wire.proofs.read.prefix_of.Goals.{then-value-lt-ELEMENT_HEADER-via-then-value-lt-ELEMENT_HEADER}
use Rattle.mn_ldp_wire.proofs.read.prefix_of.Goals.{then-value-lt-ELEMENT_HEADER-via-else-value-lt-ELEMENT_HEADER+then-value-ne-PREFIX_ELEMENT}
use Rattle.mn_ldp_wire.proofs.read.prefix_of.Goals.{then-value-lt-ELEMENT_HEADER-via-else-value-lt-ELEMENT_HEADER+else-value-ne-PREFIX_ELEMENT+then-read_u16-ne-IPV4}
use Rattle.mn_ldp_wire.proofs.read.prefix_of.Goals as goal

pub returns-then-value-lt-ELEMENT_HEADER : goal.returns-then-value-lt-ELEMENT_HEADER
returns-then-value-lt-ELEMENT_HEADER c = sym (prefix_none c.args.value.now (λ e. elim c.then-value-lt-ELEMENT_HEADER.branch [
  | then-value-lt-ELEMENT_HEADER-via-then-value-lt-ELEMENT_HEADER w ↦ (let h = e.header in omega arith)
  | then-value-lt-ELEMENT_HEADER-via-else-value-lt-ELEMENT_HEADER+then-value-ne-PREFIX_ELEMENT w ↦ w.if-value-ne-PREFIX_ELEMENT.true e.element
  | then-value-lt-ELEMENT_HEADER-via-else-value-lt-ELEMENT_HEADER+else-value-ne-PREFIX_ELEMENT+then-read_u16-ne-IPV4 w ↦
      w.if-read_u16-ne-IPV4.true (w.read_u16.ensures ∙ ap (λ (xs : List ℕ). big_number 2 xs) (take_rest c.args.value.now 1) ∙ e.family)
]))

pub returns-in_err-prefix : goal.returns-in_err-prefix
returns-in_err-prefix c =
    c.from_residual.ensures
    ∙ sym (not_an_element c.args.value.now _ c.address_of.result _
    (octets_all c.args.value.now) c.address_of.ensures refl c.address_of.type_inv c.in_err-prefix.ensures.value)

pub returns : goal.returns
returns c =
    sym (an_element c.args.value.now _ c.address_of.result _ c.in_ok-prefix.prefix c.if-value-lt-ELEMENT_HEADER.false c.if-value-ne-PREFIX_ELEMENT.false
    (ap (λ (xs : List ℕ). big_number 2 xs) (sym (take_rest c.args.value.now 1)) ∙ sym c.read_u16.ensures ∙ c.if-read_u16-ne-IPV4.false)
    (octets_all c.args.value.now) c.address_of.ensures refl c.in_ok-prefix.ensures.value c.length.ensures.form
    (c.if-first_bytes-octets.false ∙ c.octets.ensures ∙ ap octets c.length.ensures.value))
