use Rattle.std.proofs.Common.{◌≡◌, arith, subst, string_bytes}
use Rattle.std.specs.Prelude.{slice_get, IsSomeAnd}
use Rattle.mn_edge_real.proofs.Places.{at_place}
use Rattle.mn_edge_real.proofs.open_files.OpenFiles.place_of.Goals as goal

pub returns-then-is_for-clause-there : goal.returns-then-is_for-clause-there
returns-then-is_for-clause-there g c =
    subst (λ files. IsSomeAnd (slice_get files c.loop-place.place) (λ file. (string_bytes file.name ≡ c.args.name.now) × (file.mode ≡ c.args.mode)))
    c.deref-file-items.ensures.value
    (at_place c.deref-file-items.result.now c.loop-place.place c.file-item.result _ (omega arith) c.file-item.is (c.is_for.ensures c.if-is_for.true))
