use Rattle.std.proofs.Common.{◌≡◌, ◌-◌, [], length, take, sym, ◌∙◌, ap, subst}
use Rattle.std.specs.Prelude.{IsTrue}
use Rattle.mn_ipv4.specs.declared.header.Head.{Head}
use Rattle.mn_ipv4.specs.Header.{total_length, with_ttl}
use Rattle.mn_stack.specs.Grammar.{is_packet}
use Rattle.mn_stack.specs.Labelled.{Labelled}
use Rattle.mn_pe.proofs.AtEntry.{cut_length, cut_is_packet, cut_aged}
use Rattle.mn_pe.proofs.entering.aged_frame.Goals as goal

pub slice_bounds-over-end : goal.slice_bounds-over-end
slice_bounds-over-end c =
    let total : c.from.result ≡ total_length c.args.packet.now = c.from.ensures ∙ ap (λ (x : Head). x.total) c.requires.fields in
    total ∙ sym (cut_length c.args.packet.now c.requires.is_good) ∙ ap (λ n. length (take n c.args.packet.now)) (sym total)

pub over-requires : goal.over-requires
over-requires c =
    let total : c.from.result ≡ total_length c.args.packet.now = c.from.ensures ∙ ap (λ (x : Head). x.total) c.requires.fields in
    subst (λ n. IsTrue (is_packet (take n c.args.packet.now))) (sym total) (cut_is_packet c.args.packet.now c.requires.is_good)

pub returns : goal.returns
returns c =
    let total : c.from.result ≡ total_length c.args.packet.now = c.from.ensures ∙ ap (λ (x : Head). x.total) c.requires.fields in
    c.set_ip_ttl.ensures.packet
    ∙ ap (λ (f : Labelled). let g : Labelled = record f { packet = with_ttl f.packet (c.args.head.now.ttl - 1) } in g) c.in_ok-frame.ensures
    ∙ ap (λ n. let g : Labelled = record { entries = []; packet = with_ttl (take n c.args.packet.now) (c.args.head.now.ttl - 1); room = 2 } in g) total
    ∙ ap (λ (x : Head). let g : Labelled = record {
      entries = [];
      packet =
          with_ttl (take (total_length c.args.packet.now) c.args.packet.now) (x.ttl - 1);
      room = 2;
    } in g) c.requires.fields
    ∙ ap (λ packet. let g : Labelled = record { entries = []; packet = packet; room = 2 } in g) (cut_aged c.args.packet.now)
