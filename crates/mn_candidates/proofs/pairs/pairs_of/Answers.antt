use Rattle.std.proofs.Common.{◌≡◌, ◌<◌, ◌≤◌, ◌+◌, ◌∙◌, ap, sym, take, drop, arith, rules, ◌++◌}
use Rattle.std.specs.Prelude.{length}
use Rattle.std.specs.List.{flat_map, range_with_len}
use Rattle.std.proofs.lemmas.List.{length-append}
use Rattle.mn_candidates.specs.Pairs.{pairs_from, pairs_of, most_pairs}
use Rattle.mn_candidates.proofs.Ranges.{more_number, all_numbers, and_the_rest}
use Rattle.mn_candidates.proofs.pairs.pairs_of.Goals as goal

pub returns-then-len-gt-MOST_PAIRS : goal.returns-then-len-gt-MOST_PAIRS
returns-then-len-gt-MOST_PAIRS c =
    let below : c.loop-site.site < length c.args.topology.now.sites = omega arith in
    let now : c.push_pairs.new.pairs.items ≡ flat_map (pairs_from c.args.topology.now)
    (take (c.loop-site.site + 1) (range_with_len 0 (length c.args.topology.now.sites))) =
    c.in_ok-push_pairs.ensures ∙ ap (λ xs. xs ++ pairs_from c.args.topology.now c.loop-site.site) c.loop-site.invariant.so_far
    ∙ sym (more_number (pairs_from c.args.topology.now) (length c.args.topology.now.sites) c.loop-site.site below) in
    let many : most_pairs < length c.push_pairs.new.pairs.items = search rules in
    let whole : length c.push_pairs.new.pairs.items
    + length (flat_map (pairs_from c.args.topology.now) (drop (c.loop-site.site + 1) (range_with_len 0 (length c.args.topology.now.sites))))
    ≡ length (pairs_of c.args.topology.now) =
    sym (length-append c.push_pairs.new.pairs.items _)
    ∙ ap (λ xs. length (xs ++ flat_map (pairs_from c.args.topology.now) (drop (c.loop-site.site + 1) (range_with_len 0 (length c.args.topology.now.sites)))))
    now
    ∙ ap length (and_the_rest (pairs_from c.args.topology.now) (length c.args.topology.now.sites) (c.loop-site.site + 1)) in
    omega (arith, many, whole)

pub loop-site-preserved : goal.loop-site-preserved
loop-site-preserved c =
    let below : c.loop-site.site < length c.args.topology.now.sites = omega arith in
    record {
      so_far = c.in_ok-push_pairs.ensures ∙ ap (λ xs. xs ++ pairs_from c.args.topology.now c.loop-site.site) c.loop-site.invariant.so_far
          ∙ sym (more_number (pairs_from c.args.topology.now) (length c.args.topology.now.sites) c.loop-site.site below);
      few = search rules;
    }

pub returns : goal.returns
returns c =
    let past : length c.args.topology.now.sites ≤ c.loop-site.site = omega arith in (
      c.loop-site.invariant.so_far ∙ ap (flat_map (pairs_from c.args.topology.now)) (all_numbers (length c.args.topology.now.sites) c.loop-site.site past),
      c.loop-site.invariant.few,
    )
