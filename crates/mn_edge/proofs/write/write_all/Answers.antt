use Rattle.std.proofs.Common.{◌≡◌, ℕ, [], List, Option, None, Result, String, Vec, IsTrue, subst}
use Rattle.std.specs.Prelude.{IsSome}
use Rattle.std.specs.Option.{ForSome}
use Rattle.std.specs.declared.alloc.Global.{Global}
use Rattle.std.proofs.lemmas.Result.{on_ok_weaker, on_err_weaker}
use Rattle.mn_edge.specs.declared.device.DeviceBad.{DeviceBad}
use Rattle.mn_edge.specs.Faults.{Counted, CountedUnless}
use Rattle.mn_edge.specs.FaultLaws.{counted_told}
use Rattle.mn_edge.specs.Files.{Files}
use Rattle.mn_edge.specs.Kept.{Lacking}
use Rattle.mn_edge.specs.Memory.{names_of}
use Rattle.mn_edge.specs.Laid.{begun_part, names-each}
use Rattle.mn_edge.specs.Written.{Stands, all_known, texts, pairs, written, bytes_for}
use Rattle.mn_edge.proofs.Laying.{pieces_there}
use Rattle.mn_edge.proofs.Results.{on_err}
use Rattle.mn_edge.proofs.write.write_all.Goals as goal

-- pieces of files that were just begun are appended to files that are there
begun_counted : (old now : Option Files) (names : List (List ℕ)) (pieces : List (String Global × Vec ℕ Global)) (first before after : Option ℕ)
    (result : Result (Unit {0}) DeviceBad) → IsTrue (all_known names (pairs pieces)) → (old ≡ None → IsSome first) → ForSome old (λ m. Stands names [] m now) →
    before ≡ first → CountedUnless (Lacking (names_of pieces) now) before after result → Counted first after result
begun_counted old now names pieces first before after result known told begun same counted =
    counted_told old (Lacking (names_of pieces) now) first after result told (λ m is lacking. lacking (pieces_there names pieces m now known (begun m is)))
    (subst (λ n. CountedUnless (Lacking (names_of pieces) now) n after result) same counted)

pub returns-in_err-begin_all-clause-part : goal.returns-in_err-begin_all-clause-part
returns-in_err-begin_all-clause-part g c = on_err c.from_residual.result _ (λ m is.
    let few = c.in_err-begin_all.ensures.part m is in
    begun_part (texts c.args.names.now) (written (texts c.args.names.now) (pairs c.args.pieces.now)) m _ few.0
    (names-each (texts c.args.names.now) (bytes_for (pairs c.args.pieces.now))) few.1)

pub returns-clause-whole : goal.returns-clause-whole
returns-clause-whole g c = on_ok_weaker c.append_all.result (λ whole m is.
    whole m (texts c.args.names.now) [] (c.in_ok-begin_all.ensures.begun m is) c.requires) c.append_all.ensures.whole

pub returns-clause-part : goal.returns-clause-part
returns-clause-part g c = on_err_weaker c.append_all.result (λ part m is.
    part m (texts c.args.names.now) [] (c.in_ok-begin_all.ensures.begun m is) c.requires) c.append_all.ensures.part

pub returns-clause-writes : goal.returns-clause-writes
returns-clause-writes g c =
    begun_counted (g.S.Shelf.files c.args.shelf.now) (g.S.Shelf.files c.begin_all.new.shelf) (texts c.args.names.now) c.args.pieces.now _ _ _
    c.append_all.result
    c.requires (λ none. (g.met.S.Shelf.told c.args.shelf.now none).1) c.in_ok-begin_all.ensures.begun c.in_ok-begin_all.ensures.writes
    c.append_all.ensures.writes
