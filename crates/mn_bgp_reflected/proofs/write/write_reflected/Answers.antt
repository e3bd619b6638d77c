use Rattle.std.proofs.Common.{◌≡◌, ◌+◌, ◌-◌, ◌*◌, List, ℕ, length, ap, sym, ◌∙◌, subst, arith}
use Rattle.mn_bgp_wire.specs.Written.{says_announced, announced, update_bytes}
use Rattle.mn_bgp_wire.specs.Grammar.{IsBgp, attribute_bytes}
use Rattle.mn_bgp_wire.specs.declared.message.BgpMessage.TheVariants as messages
use Rattle.mn_bgp_reflected.specs.Grammar.{IsReflected}
use Rattle.mn_bgp_reflected.specs.Written.{says_reflected, written_originator, written_clusters}
use Rattle.mn_bgp_reflected.proofs.Spelling.{size_by, size_fits, parts_are, whole_is, reflected_is_spelled, each_fits}
use Rattle.mn_bgp_reflected.proofs.write.write_reflected.Goals as goal

long : (len : ℕ) (items bytes : List ℕ) → len ≡ length items → items ≡ bytes → len ≡ length bytes
long len items bytes is same = is ∙ ap length same

pub update_head-requires : goal.update_head-requires
update_head-requires c =
    size_fits c.len.result c.args.next_hop c.args.route.now c.args.targets.now c.args.originator c.args.clusters.now
    (long c.len.result c.in_ok-announced.announced.items _ (omega (arith, c.len.ensures, c.in_ok-announced.announced.ok.0)) c.in_ok-announced.ensures.written)
    (subst (λ (bytes : List ℕ). IsBgp bytes (messages.Update (says_announced c.args.next_hop c.args.route.now c.args.targets.now)))
    c.in_ok-announced.ensures.written c.in_ok-announced.ensures.read_again) c.requires.few c.requires.near

pub returns-clause-written : goal.returns-clause-written
returns-clause-written c =
    whole_is c.update_head.result c.extend_from_slice-2.new.self.items c.args.next_hop c.args.route.now c.args.targets.now c.args.originator c.args.clusters.now
    (c.len.result - 23 + (10 + 4 * length c.args.clusters.now))
    (size_by c.len.result c.args.next_hop c.args.route.now c.args.targets.now c.args.originator c.args.clusters.now
    (long c.len.result c.in_ok-announced.announced.items _ (omega (arith, c.len.ensures, c.in_ok-announced.announced.ok.0)) c.in_ok-announced.ensures.written))
    c.update_head.ensures
    (parts_are c.update_head.result c.in_ok-message.message.items c.extend_from_slice.new.self.items c.put_originator.new.out.items c.put_clusters.new.out.items
    c.extend_from_slice-2.new.self.items (attribute_bytes (written_originator c.args.originator)) (attribute_bytes (written_clusters c.args.clusters.now))
    c.deref.result.now c.deref-2.result.now (update_bytes (announced c.args.next_hop c.args.route.now c.args.targets.now))
    c.in_ok-message.ensures.items c.in_ok-extend_from_slice.ensures.items c.in_ok-put_originator.ensures c.in_ok-put_clusters.ensures
    c.in_ok-extend_from_slice-2.ensures.items (c.deref.ensures.value ∙ c.in_ok-announced.ensures.written) (c.deref-2.ensures.value
    ∙ c.in_ok-announced.ensures.written))

pub returns-clause-read_again : goal.returns-clause-read_again
returns-clause-read_again c =
    subst (λ (bytes : List ℕ). IsReflected bytes (says_reflected c.args.next_hop c.args.route.now c.args.targets.now c.args.originator c.args.clusters.now))
    (sym (returns-clause-written c))
    (reflected_is_spelled c.args.next_hop c.args.route.now c.args.targets.now c.args.originator c.args.clusters.now
    (subst (λ (bytes : List ℕ). IsBgp bytes (messages.Update (says_announced c.args.next_hop c.args.route.now c.args.targets.now)))
    c.in_ok-announced.ensures.written c.in_ok-announced.ensures.read_again)
    c.requires.few c.requires.some c.requires.near c.ranges.originator.fits (each_fits c.args.clusters.now (λ i. omega (arith, c.type_inv.clusters i))))
