use Rattle.std.proofs.Common.{◌<◌, ℕ, List, length, map, slice_set, ap, sym, ◌∙◌, arith, add-one}
use Rattle.std.proofs.lemmas.List.{length-map, length-set, map-set}
use Rattle.mn_edge.proofs.Gathering.{emptied, emptied-next, emptied-all}
use Rattle.mn_edge.proofs.held.empty.Goals as goal

pub loop-file-preserved : goal.loop-file-preserved
loop-file-preserved c =
    let held : List (List ℕ) = map (λ v. v.items) c.args.files.now.items in
    let within : c.loop-file.file < length held = rw length-map (let t = c.loop-file-test.true in let l = c.len-file-end.ensures in
    let o = c.args.files.now.ok.0 in omega (arith, t, l, o)) in
    record {
      files = length-set c.loop-file.files.items c.loop-file.file c.shed.new.bytes ∙ c.loop-file.invariant.files;
      emptied = map-set (λ v. v.items) c.loop-file.files.items c.loop-file.file c.shed.new.bytes
          ∙ (λ i. slice_set (c.loop-file.invariant.emptied i) c.loop-file.file (c.shed.ensures i))
          ∙ emptied-next c.loop-file.file held within ∙ ap (λ n. emptied n held) (sym (add-one c.loop-file.file));
    }

pub returns : goal.returns
returns c =
    c.loop-file.invariant.emptied ∙ emptied-all c.loop-file.file (map (λ v. v.items) c.args.files.now.items)
    (rw length-map (let t = c.loop-file-test.false in let l = c.len-file-end.ensures in let o = c.args.files.now.ok.0 in omega (arith, t, l, o)))
