use Rattle.std.proofs.Common.{◌≡◌, ◌+◌, arith, length, take, ap, ◌∙◌}
use Rattle.mn_vpn_nlri.specs.Grammar.{written, written_field}
use Rattle.mn_prefix.specs.Octets.{octets}
use Rattle.mn_vpn_nlri.proofs.Routes.{written_is_route, appended, taken}
use Rattle.mn_vpn_nlri.proofs.write.write_route.Goals as goal

pub returns-clause-is_route : goal.returns-clause-is_route
returns-clause-is_route c =
    written_is_route c.args.route.now c.args.withdrawn (record {
      distinguisher = c.requires.distinguisher;
      label = c.requires.label;
      prefix =
          c.length.ensures.form;
    })

pub returns-clause-written : goal.returns-clause-written
returns-clause-written c =
    appended c.extend_from_slice.result c.extend_from_slice.new.self.items c.args.out.now.items
    (12 + c.octets-size.result) c.fields.result c.args.route.now c.args.withdrawn
    (ap (λ n. 12 + n) c.octets-size.ensures ∙ ap (λ n. 12 + octets n) c.length.ensures.value) c.fields.ensures c.extend_from_slice.ensures.items

pub returns-clause-succeeds : goal.returns-clause-succeeds
returns-clause-succeeds c = λ room.
    let few : 12 + c.octets-size.result ≡ 12 + octets c.args.route.now.prefix.length =
    ap (λ n. 12 + n) c.octets-size.ensures ∙ ap (λ n. 12 + octets n) c.length.ensures.value in
    let size : length (take (12 + c.octets-size.result) c.fields.result) ≡ length (written c.args.route.now c.args.withdrawn) =
    ap length
    (taken (12 + c.octets-size.result) c.fields.result (written_field c.args.route.now c.args.withdrawn) c.args.route.now few c.fields.ensures) in
    c.extend_from_slice.ensures.succeeds (omega arith)
